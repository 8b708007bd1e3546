use Rattle.std.proofs.Common.{◌≡◌, ◌∙◌, ap, sym, true, false, Some, None, if◌then◌else◌}
use Rattle.gh_fixity.specs.Arrangement.{tree_in}
use Rattle.gh_fixity.specs.Frames.{opens}
use Rattle.gh_fixity.specs.Stack.{allows, shifted, reduced}
use Rattle.gh_fixity.proofs.Frames.{opens-op}
use Rattle.gh_fixity.proofs.Places.{stuck_place, leaf_read}
use Rattle.gh_fixity.proofs.stack.put_operator.Goals as goal

pub returns-in-Ok-put_frame-clause-ok : goal.returns-in-Ok-put_frame-clause-ok
returns-in-Ok-put_frame-clause-ok c =
    let items = c.args.items.now in
    let gs = opens items c.reduce.new.frames.items in
    let t = tree_in items c.in-Ok.operand in
    let first = ap (λ l. reduced (opens items c.args.frames.now.items) l c.args.fixity) (sym (leaf_read items c.args.leaf)) in
    let allowed : allows gs c.args.fixity ≡ true
    = ap (λ xs. allows (opens items xs) c.args.fixity) (sym c.as_slice.ensures.value) ∙ sym c.is_allowed.ensures ∙ c.if-not-is_allowed.false in
    ap (shifted c.args.at c.args.fixity) (first ∙ c.in-Ok.ensures ∙ ap (λ b. if b then Some (gs, t) else None) allowed)
    ∙ ap (λ hs. Some (hs, None)) (sym (ap (opens items) c.in-Ok-put_frame.ensures ∙ opens-op items c.reduce.new.frames.items c.args.at c.in-Ok.operand c.args.fixity c.requires.here))

pub nearest-requires-clause-some : goal.nearest-requires-clause-some
nearest-requires-clause-some c =
    let items = c.args.items.now in
    let gs = opens items c.reduce.new.frames.items in
    let t = tree_in items c.in-Ok.operand in
    let first = ap (λ l. reduced (opens items c.args.frames.now.items) l c.args.fixity) (sym (leaf_read items c.args.leaf)) in
    let refused : allows gs c.args.fixity ≡ false
    = ap (λ xs. allows (opens items xs) c.args.fixity) (sym c.as_slice.ensures.value) ∙ sym c.is_allowed.ensures ∙ c.if-not-is_allowed.true in
    stuck_place items c.args.at (opens items c.args.frames.now.items) c.args.leaf c.args.fixity c.requires.reads c.requires.within
    (first ∙ c.in-Ok.ensures ∙ ap (λ b. if b then Some (gs, t) else None) refused)
