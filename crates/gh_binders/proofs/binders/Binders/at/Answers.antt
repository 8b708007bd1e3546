use Rattle.std.proofs.Common.{ap, ◌∙◌, arith}
use Rattle.gh_binders.specs.Nearest.{item_at}
use Rattle.gh_binders.proofs.Places.{entry_read, entry_past}
use Rattle.gh_binders.proofs.binders.Binders.at.Goals as goal

pub returns-then-place-len : goal.returns-then-place-len
returns-then-place-len g c =
    entry_read c.self.inside.entries.items c.args.place c.index.result.now (let h = c.if-place-len.true in let l = c.len.ensures in omega arith) c.index.ensures
    ∙ ap (λ bs. item_at bs c.args.place) c.self.view_is

pub returns-else-place-len : goal.returns-else-place-len
returns-else-place-len g c =
    entry_past c.self.inside.entries.items c.args.place (let h = c.if-place-len.false in let l = c.len.ensures in omega arith)
    ∙ ap (λ bs. item_at bs c.args.place) c.self.view_is
