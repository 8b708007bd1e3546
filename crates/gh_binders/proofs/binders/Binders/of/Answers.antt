use Rattle.std.proofs.Common.{sym, ◌∙◌}
use Rattle.gh_binders.proofs.Places.{found_at, found_none}
use Rattle.gh_binders.proofs.binders.Binders.of.Goals as goal

pub returns-in-Some : goal.returns-in-Some
returns-in-Some g c = c.at.ensures ∙ found_at c.args.self.now c.args.number c.in-Some.place (sym c.place.ensures ∙ c.in-Some.is)

pub returns-in-None : goal.returns-in-None
returns-in-None g c = sym (found_none c.args.self.now c.args.number (sym c.place.ensures ∙ c.in-None.is))
