-- When each variable of a type is one of the first ones, and so was drawn. For callers of `unify` and `read`.
use Rattle.std.proofs.Common.{◌≡◌, ℕ, ◌<◌, IsTrue, sym, ap, ◌∙◌, inl, inr, ◌⊎◌}
use Rattle.gh_typeterm.specs.declared.ty.TyNode.{TyNode}
use Rattle.gh_typeterm.specs.declared.ty.TyNode.TheVariants as t
use Rattle.gh_unify.specs.Types.{has, mono}
use Rattle.gh_unify.proofs.Insts.{true-either}
use Rattle.gh_unify.proofs.Reading.{mono-App}

either_below : (count v : ℕ) (f x : TyNode) → ((w : ℕ) → IsTrue (has w (mono f)) → w < count) → ((w : ℕ) → IsTrue (has w (mono x)) → w < count)
    → IsTrue (has v (mono f)) ⊎ IsTrue (has v (mono x)) → v < count
either_below count v f x p q (inl h) = p v h
either_below count v f x p q (inr h) = q v h

-- an application, by its parts
pub below_app : (count : ℕ) (term f x : TyNode) → term ≡ t.App f x → ((w : ℕ) → IsTrue (has w (mono f)) → w < count)
    → ((w : ℕ) → IsTrue (has w (mono x)) → w < count) → (v : ℕ) → IsTrue (has v (mono term)) → v < count
below_app count term f x e p q v h =
    either_below count v f x p q (true-either (has v (mono f)) (has v (mono x)) (sym (ap (has v) (ap mono e ∙ mono-App f x)) ∙ h))
