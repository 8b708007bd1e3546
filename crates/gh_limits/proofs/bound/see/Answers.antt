use Rattle.std.proofs.Common.{sym, ap, ◌∙◌, nat_eq}
use Rattle.std.specs.List.{list_any}
use Rattle.gh_limits.proofs.Seen.{kept_full, kept_known, kept_new}
use Rattle.gh_limits.proofs.bound.see.Goals as goal

pub returns-then-is_full : goal.returns-then-is_full
returns-then-is_full c = kept_full c.args.seen.now.items c.args.name (sym c.if-is_full.true ∙ c.is_full.ensures.value)

pub returns-then-not-contains : goal.returns-then-not-contains
returns-then-not-contains c = c.push.ensures.items ∙ kept_new c.args.seen.now.items c.args.name (sym c.if-is_full.false ∙ c.is_full.ensures.value)
    (sym c.if-not-contains.true ∙ c.contains.ensures.value ∙ ap (list_any (λ m. nat_eq m c.args.name)) c.as_slice.ensures.value)

pub returns-else-not-contains : goal.returns-else-not-contains
returns-else-not-contains c = kept_known c.args.seen.now.items c.args.name (sym c.if-is_full.false ∙ c.is_full.ensures.value)
    (sym c.if-not-contains.false ∙ c.contains.ensures.value ∙ ap (list_any (λ m. nat_eq m c.args.name)) c.as_slice.ensures.value)
