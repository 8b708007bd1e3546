use Rattle.std.proofs.Common.{◌≡◌, map, take, None}
use Rattle.std.specs.HashMap.{get}
use Rattle.gh_base.specs.declared.place.Origin.{Origin}
use Rattle.gh_core.specs.declared.terms.CoreName.TheVariants as name
use Rattle.gh_core.specs.Typing.{branches_of, times_named}
use Rattle.gh_core_lint.specs.Branches.{alt_code, tallied}
use Rattle.gh_core_lint.specs.Keys.{key_of, same_key}
use Rattle.gh_core_lint.proofs.cases.tally.Given as goal

abbrev pub invariant-loop-alternative : goal.invariant-loop-alternative
invariant-loop-alternative l =
    (o : Origin) → tallied (get same_key l.table (key_of (name.Plain o))) ≡ times_named o (branches_of (map alt_code (take l.alternative-index l.alternatives)) None)
