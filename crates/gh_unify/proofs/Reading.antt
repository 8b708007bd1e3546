-- Type terms of the program as plain trees.
use Rattle.std.proofs.Common.{◌≡◌, ℕ, suc, ◌+◌, ◌<◌, Bool, true, false, eqb, List, [], ◌∷◌, length, Some, None, refl, sym, ap, ◌∙◌, subst, arith, cond, if◌then◌else◌, unwrap_or}
use Rattle.gh_base.specs.declared.place.TyCon.{TyCon}
use Rattle.gh_typeterm.specs.declared.ty.TyNode.{TyNode}
use Rattle.gh_typeterm.specs.declared.ty.TyNode.TheVariants as t
use Rattle.gh_typeterm.specs.Terms.{size_of, size_step, substituted, substituted_step, image_of}
use Rattle.gh_typeterm.proofs.Folds.{fold-Con, fold-Var, fold-App, fold-Name, term_induction}
use Rattle.gh_unify.specs.Types.{Mono, con, var, app, name, inst, has, nodes, mono, mono_step}
use Rattle.gh_unify.specs.Kept.{AreDrawn}
use Rattle.gh_unify.specs.declared.table.Variable.{Variable}
use Rattle.gh_unify.proofs.Insts.{eqb-same, eqb-is, true-left, true-right, sub, inst-agree}

pub mono-Con : (c : TyCon) → mono (t.Con c) ≡ con c
mono-Con c = fold-Con Mono mono_step c

pub mono-Var : (v : ℕ) → mono (t.Var v) ≡ var v
mono-Var v = fold-Var Mono mono_step v

pub mono-App : (f x : TyNode) → mono (t.App f x) ≡ app (mono f) (mono x)
mono-App f x = fold-App Mono mono_step f x

pub mono-Name : (n : ℕ) → mono (t.Name n) ≡ name n
mono-Name n = fold-Name Mono mono_step n

-- substitution is a valuation
pub mono-substituted : (by : List (ℕ × TyNode)) (term : TyNode) → mono (substituted by term) ≡ inst (λ v. mono (image_of by v)) (mono term)
mono-substituted by = term_induction (λ u. mono (substituted by u) ≡ inst (λ v. mono (image_of by v)) (mono u))
    (λ c. ap mono (fold-Con TyNode (substituted_step by) c) ∙ mono-Con c ∙ sym (ap (inst (λ v. mono (image_of by v))) (mono-Con c)))
    (λ v. ap mono (fold-Var TyNode (substituted_step by) v) ∙ sym (ap (inst (λ v. mono (image_of by v))) (mono-Var v)))
    (λ f x p q. ap mono (fold-App TyNode (substituted_step by) f x) ∙ mono-App (substituted by f) (substituted by x)
    ∙ (λ i. app (p i) (q i)) ∙ sym (ap (inst (λ v. mono (image_of by v))) (mono-App f x)))
    (λ n. ap mono (fold-Name TyNode (substituted_step by) n) ∙ mono-Name n ∙ sym (ap (inst (λ v. mono (image_of by v))) (mono-Name n)))

one_image : (b c : Bool) (u : TyNode) (w : ℕ) → b ≡ c → mono (unwrap_or (if b then Some u else None) (t.Var w)) ≡ cond c (mono u) (var w)
one_image true true u w e = refl
one_image true false u w e = absurd (cc)
one_image false true u w e = absurd (cc)
one_image false false u w e = mono-Var w

same_test : (b c : Bool) (v w : ℕ) → eqb v w ≡ b → eqb w v ≡ c → b ≡ c
same_test true true v w e k = refl
same_test false false v w e k = refl
same_test true false v w e k = let i : v ≡ w = eqb-is v w e in let j : eqb w v ≡ true = subst (λ x. eqb w x ≡ true) (sym i) (eqb-same w) in absurd (cc)
same_test false true v w e k = let i : w ≡ v = eqb-is w v k in let j : eqb v w ≡ true = subst (λ x. eqb v x ≡ true) (sym i) (eqb-same v) in absurd (cc)

-- the replacement of one variable
pub mono-replaced : (v : ℕ) (u term : TyNode) → mono (substituted ((v, u) ∷ []) term) ≡ inst (sub v (mono u)) (mono term)
mono-replaced v u term =
    mono-substituted ((v, u) ∷ []) term
    ∙ inst-agree (λ w. mono (image_of ((v, u) ∷ []) w)) (sub v (mono u)) (mono term)
    (λ w h. one_image (eqb v w) (eqb w v) u w (same_test (eqb v w) (eqb w v) v w refl refl))

pub nodes-mono : (term : TyNode) → size_of term ≡ nodes (mono term)
nodes-mono = term_induction (λ u. size_of u ≡ nodes (mono u))
    (λ c. fold-Con ℕ size_step c ∙ sym (ap nodes (mono-Con c)))
    (λ v. fold-Var ℕ size_step v ∙ sym (ap nodes (mono-Var v)))
    (λ f x p q. let e = fold-App ℕ size_step f x in let k : nodes (mono (t.App f x)) ≡ suc (nodes (mono f) + nodes (mono x)) = ap nodes (mono-App f x) in omega arith)
    (λ n. fold-Name ℕ size_step n ∙ sym (ap nodes (mono-Name n)))

-- variables of parts
pub drawn_var : (kept : List Variable) (term : TyNode) (v : ℕ) → term ≡ t.Var v → AreDrawn kept term → v < length kept
drawn_var kept term v e h = h v (ap (has v) (ap mono e ∙ mono-Var v) ∙ eqb-same v)

pub drawn_head : (kept : List Variable) (term f x : TyNode) → term ≡ t.App f x → AreDrawn kept term → AreDrawn kept f
drawn_head kept term f x e h v m = h v (ap (has v) (ap mono e ∙ mono-App f x) ∙ true-left (has v (mono f)) (has v (mono x)) m)

pub drawn_arg : (kept : List Variable) (term f x : TyNode) → term ≡ t.App f x → AreDrawn kept term → AreDrawn kept x
drawn_arg kept term f x e h v m = h v (ap (has v) (ap mono e ∙ mono-App f x) ∙ true-right (has v (mono f)) (has v (mono x)) m)

pub head_less : (term f x : TyNode) → term ≡ t.App f x → nodes (mono f) < nodes (mono term)
head_less term f x e = let k : nodes (mono term) ≡ suc (nodes (mono f) + nodes (mono x)) = ap nodes (ap mono e ∙ mono-App f x) in omega arith

pub arg_less : (term f x : TyNode) → term ≡ t.App f x → nodes (mono x) < nodes (mono term)
arg_less term f x e = let k : nodes (mono term) ≡ suc (nodes (mono f) + nodes (mono x)) = ap nodes (ap mono e ∙ mono-App f x) in omega arith
