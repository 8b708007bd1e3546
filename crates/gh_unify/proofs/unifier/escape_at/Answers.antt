use Rattle.gh_unify.proofs.Ends.{tidy_drawn, stays_open, at_entry}
use Rattle.gh_unify.proofs.unifier.escape_at.Goals as goal

pub above-requires : goal.above-requires
above-requires c = tidy_drawn c.args.kept.now c.args.number c.index-kept-at.result c.in-Some.term c.requires.tidy c.requires.drawn c.in-Some.is

pub returns-in-None : goal.returns-in-None
returns-in-None c = stays_open c.args.kept.now c.args.number c.index-kept-at.result c.requires.drawn c.in-None.is

pub returns-in-Some : goal.returns-in-Some
returns-in-Some c =
    at_entry c.args.kept.now c.args.number c.index-kept-at.result c.index-kept-at-in-Some.result c.in-Some.term c.above.result c.requires.drawn c.in-Some.is c.above.ensures
