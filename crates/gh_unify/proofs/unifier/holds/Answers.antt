use Rattle.std.proofs.Common.{Some, None, refl}
use Rattle.gh_unify.proofs.Levels.{holds_entry}
use Rattle.gh_unify.proofs.unifier.holds.Goals as goal

pub returns-in-None : goal.returns-in-None
returns-in-None c =
    holds_entry c.args.kept.now c.args.number c.args.var c.index-kept-number.result None _ c.requires c.in-None.is refl

pub returns-in-Some : goal.returns-in-Some
returns-in-Some c =
    holds_entry c.args.kept.now c.args.number c.args.var c.index-kept-number.result (Some c.in-Some.term) c.occurs.result c.requires c.in-Some.is c.occurs.ensures
