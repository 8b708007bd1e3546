use Rattle.std.proofs.Common.{sym, ◌∙◌, inl, inr}
use Rattle.gh_kind_unify.proofs.Ordering.{endless_here}
use Rattle.gh_kind_unify.proofs.order.add_edges.Goals as goal

pub returns-then-a-v-clause-endless : goal.returns-then-a-v-clause-endless
returns-then-a-v-clause-endless c =
    λ _. endless_here c.args.cells.now c.args.v c.in-Arrow.a c.in-Arrow.b c.requires.within (sym c.cell_at.ensures ∙ c.in-Arrow.is) (inl c.if-a-v.true)

pub returns-then-b-v-clause-endless : goal.returns-then-b-v-clause-endless
returns-then-b-v-clause-endless c =
    λ _. endless_here c.args.cells.now c.args.v c.in-Arrow.a c.in-Arrow.b c.requires.within (sym c.cell_at.ensures ∙ c.in-Arrow.is) (inr c.if-b-v.true)
