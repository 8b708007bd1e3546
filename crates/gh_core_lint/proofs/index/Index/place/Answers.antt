use Rattle.std.proofs.Common.{ap, ◌∙◌}
use Rattle.gh_core_lint.specs.Keys.{first_from}
use Rattle.gh_core_lint.proofs.index.Index.place.Goals as goal

pub returns : goal.returns
returns c = c.place_of.ensures ∙ c.self.inside.agrees c.args.name ∙ ap (λ ns. first_from 0 ns c.args.name) c.self.view_is
