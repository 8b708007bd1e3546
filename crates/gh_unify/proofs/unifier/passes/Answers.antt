use Rattle.gh_unify.proofs.Ends.{passes_entry}
use Rattle.gh_unify.proofs.unifier.passes.Goals as goal

pub returns-in-Some : goal.returns-in-Some
returns-in-Some c =
    passes_entry c.args.kept.now c.args.number c.index-kept-number.result c.in-Some.term c.size.result c.is_none.result c.requires c.in-Some.is c.size.ensures c.is_none.ensures
