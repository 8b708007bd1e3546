use Rattle.std.proofs.Common.{◌≡◌, ◌∙◌, ap, sym, true, ◌∷◌, Some, None, if◌then◌else◌}
use Rattle.gh_fixity.specs.Arrangement.{minus_fixity}
use Rattle.gh_fixity.specs.Frames.{opens}
use Rattle.gh_fixity.specs.Stack.{after_minus, allows}
use Rattle.gh_fixity.proofs.Frames.{opens-minus}
use Rattle.gh_fixity.proofs.stack.put_minus.Goals as goal

pub returns-in-Ok-clause-ok : goal.returns-in-Ok-clause-ok
returns-in-Ok-clause-ok c =
    let items = c.args.items.now in
    let gs = opens items c.args.frames.now.items in
    let allowed : allows gs minus_fixity ≡ true
    = ap (λ xs. allows (opens items xs) minus_fixity) (sym c.as_slice.ensures.value) ∙ sym c.is_allowed.ensures ∙ c.if-not-is_allowed.false in
    ap (λ b. if b then Some (after_minus ∷ gs, None) else None) allowed
    ∙ ap (λ hs. Some (hs, None)) (sym (ap (opens items) c.in-Ok.ensures ∙ opens-minus items c.args.frames.now.items))
