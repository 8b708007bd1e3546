use Rattle.std.proofs.Common.{ap, ◌∙◌}
use Rattle.std.specs.HashMap.{get}
use Rattle.gh_core_lint.specs.Keys.{same_key}
use Rattle.gh_core_lint.proofs.index.place_of.Goals as goal

pub returns : goal.returns
returns c = c.copied.ensures ∙ c.get.ensures.value ∙ ap (get same_key c.args.places.now) c.key.ensures
