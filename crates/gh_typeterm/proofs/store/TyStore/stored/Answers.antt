use Rattle.std.proofs.Common.{◌∙◌, sym, ap, slice_get}
use Rattle.gh_typeterm.proofs.Entries.{term_at}
use Rattle.gh_typeterm.proofs.store.TyStore.stored.Goals as goal

pub returns-clause-term : goal.returns-clause-term
returns-clause-term c =
    ap (λ ts. slice_get ts c.args.place) (sym c.self.view_is)
    ∙ term_at c.self.inside.terms.entries c.args.place (c.in-Some.field-0-0.now, c.in-Some.stored.now) (sym c.in-Some.ensures.entry)

pub returns-clause-nodes : goal.returns-clause-nodes
returns-clause-nodes c = c.self.invariant.counts c.args.place (c.in-Some.field-0-0.now, c.in-Some.stored.now) (sym c.in-Some.ensures.entry)
