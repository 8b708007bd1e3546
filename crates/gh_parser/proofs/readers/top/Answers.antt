use Rattle.std.proofs.Common.{rules, arith}
use Rattle.std.proofs.lemmas.Grind.{common_steps}
use Rattle.gh_parser.specs.Gives.{Misses}
use Rattle.gh_parser.specs.Readers.{as_top, top_of}
use Rattle.gh_parser.proofs.Found.{top_misses, top_found}
use Rattle.gh_parser.proofs.readers.top.Goals as goal

pub returns-in_err-parse_top : goal.returns-in_err-parse_top
returns-in_err-parse_top c =
    let e : Misses c.in_err-parse_top.field-0.0 (as_top (top_of c.args.syms.now)) = top_misses c.in_err-parse_top.field-0.0 c.args.syms.now c.in_err-parse_top.ensures in
    first_of (search rules, grind (arith, common_steps))

pub returns : goal.returns
returns c = top_found c.args.syms.now c.in_ok-parse_top.field-0 c.in_ok-parse_top.ensures
