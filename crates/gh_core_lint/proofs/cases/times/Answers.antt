use Rattle.std.proofs.Common.{sym, ap, ◌∙◌}
use Rattle.std.specs.HashMap.{get}
use Rattle.std.specs.Option.{option_copied}
use Rattle.gh_core_lint.specs.Branches.{tallied}
use Rattle.gh_core_lint.specs.Keys.{same_key}
use Rattle.gh_core_lint.proofs.cases.times.Goals as goal

pub returns-in-Some : goal.returns-in-Some
returns-in-Some c = ap tallied (sym (ap option_copied c.in-Some.is) ∙ c.get.ensures.value ∙ ap (get same_key c.args.table.now) c.key.ensures)

pub returns-in-None : goal.returns-in-None
returns-in-None c = ap tallied (sym (ap option_copied c.in-None.is) ∙ c.get.ensures.value ∙ ap (get same_key c.args.table.now) c.key.ensures)
