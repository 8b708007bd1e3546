use Rattle.std.proofs.Common.{rules, arith}
use Rattle.std.proofs.lemmas.Grind.{common_steps}
use Rattle.gh_tree.specs.Syms.{syms_of}
use Rattle.gh_parser.specs.Gives.{Gives}
use Rattle.gh_parser.specs.Parse.{parsed_of}
use Rattle.gh_parser.proofs.Whole.{tree_given, cause_given}
use Rattle.gh_parser.proofs.file.parse.Goals as goal

pub returns-clause-tree : goal.returns-clause-tree
returns-clause-tree c =
    let given : Gives (parsed_of (syms_of c.args.tokens.now c.args.laid.now)) c.tree.result = first_of (search rules, grind (arith, common_steps)) in
    tree_given c.args.tokens.now c.args.laid.now c.tree.result given

pub returns-clause-cause : goal.returns-clause-cause
returns-clause-cause c = λ r e.
    let given : Gives (parsed_of (syms_of c.args.tokens.now c.args.laid.now)) c.tree.result = first_of (search rules, grind (arith, common_steps)) in
    cause_given c.args.tokens.now c.args.laid.now c.tree.result r given e
