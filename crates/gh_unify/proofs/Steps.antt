-- The steps of the work on one equation.
use Rattle.std.proofs.Common.{◌≡◌, ℕ, ◌<◌, true, List, length, get_or, Option, Some, None, sym, ap, ◌∙◌, subst}
use Rattle.std.specs.Prelude.{MatchOption}
use Rattle.gh_typeterm.specs.declared.ty.TyNode.{TyNode}
use Rattle.gh_typeterm.specs.declared.ty.TyNode.TheVariants as t
use Rattle.gh_unify.specs.Types.{Mono, app, has, head_of, mono}
use Rattle.gh_unify.specs.Kept.{drawn_of}
use Rattle.gh_unify.specs.Causes.{Forced, IsFixed}
use Rattle.gh_unify.specs.Causes.Forced.{heads, args}
use Rattle.gh_unify.specs.Steps.{Differs}
use Rattle.gh_unify.specs.declared.table.Variable.{Variable}
use Rattle.gh_unify.proofs.Insts.{true-left, true-right}
use Rattle.gh_unify.proofs.Reading.{mono-Var}
use Rattle.gh_unify.proofs.Tables.{rigid_entry}

-- parts that differ
pub differs_here : (a b : Mono) → (head_of a ≡ head_of b → ⊥) → Differs a b a b
differs_here a b h = record { heads = h; forced = λ E s t f. f; left = λ v m. m; right = λ v m. m }

pub differs_left : (a b f x g y p q : Mono) → a ≡ app f x → b ≡ app g y → Differs f g p q → Differs a b p q
differs_left a b f x g y p q ea eb d = record {
  heads = d.heads;
  forced = λ E s t k. d.forced E s t (heads f x g y (subst (λ u. Forced E s t u (app g y)) ea (subst (λ u. Forced E s t a u) eb k)));
  left = λ v m. ap (has v) ea ∙ true-left (has v f) (has v x) (d.left v m);
  right = λ v m. ap (has v) eb ∙ true-left (has v g) (has v y) (d.right v m);
}

pub differs_right : (a b f x g y p q : Mono) → a ≡ app f x → b ≡ app g y → Differs x y p q → Differs a b p q
differs_right a b f x g y p q ea eb d = record {
  heads = d.heads;
  forced = λ E s t k. d.forced E s t (args f x g y (subst (λ u. Forced E s t u (app g y)) ea (subst (λ u. Forced E s t a u) eb k)));
  left = λ v m. ap (has v) ea ∙ true-right (has v f) (has v x) (d.left v m);
  right = λ v m. ap (has v) eb ∙ true-right (has v g) (has v y) (d.right v m);
}

-- a variable is fixed where it is rigid
pub fixed_var : (kept : List Variable) (term : TyNode) (v : ℕ) (d : Variable) → term ≡ t.Var v → v < length kept → (get_or kept v d).rigid ≡ true
    → IsFixed (drawn_of kept) (mono term)
fixed_var kept term v d e h r =
    subst (IsFixed (drawn_of kept)) (sym (ap mono e ∙ mono-Var v)) (rigid_entry kept v d h ∙ r)

pub found_right : (a b f x g y : Mono) (o : Option (TyNode × TyNode)) → a ≡ app f x → b ≡ app g y → f ≡ g
    → MatchOption o (x ≡ y) (λ p. Differs x y (mono p.0) (mono p.1)) → MatchOption o (a ≡ b) (λ p. Differs a b (mono p.0) (mono p.1))
found_right a b f x g y None ea eb e m = ea ∙ (λ i. app (e i) (m i)) ∙ sym eb
found_right a b f x g y (Some p) ea eb e m = differs_right a b f x g y (mono p.0) (mono p.1) ea eb m
