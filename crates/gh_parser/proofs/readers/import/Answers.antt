use Rattle.std.proofs.Common.{rules, arith}
use Rattle.std.proofs.lemmas.Grind.{common_steps}
use Rattle.gh_parser.specs.Gives.{Misses}
use Rattle.gh_parser.specs.Readers.{import_behind}
use Rattle.gh_parser.proofs.Found.{import_misses, import_found}
use Rattle.gh_parser.proofs.readers.import.Goals as goal

pub returns-in_err-import : goal.returns-in_err-import
returns-in_err-import c =
    let e : Misses c.in_err-import.field-0.0 (import_behind c.args.tops c.args.syms.now) = import_misses c.in_err-import.field-0.0 c.args.syms.now c.args.tops (search rules) c.in_err-import.ensures in
    first_of (search rules, grind (arith, common_steps))

pub returns : goal.returns
returns c = import_found c.args.syms.now c.args.tops c.in_ok-new.field-0 (search rules) (search rules)
