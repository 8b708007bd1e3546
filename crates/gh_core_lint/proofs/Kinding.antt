-- Kinds of types.
use Rattle.std.proofs.Common.{◌≡◌, ℕ, ◌-◌, ◌<◌, ◌≤◌, List, ◌∷◌, length, get_or, reverse, Bool, Option, Some, None, sym, ap, subst, ◌∙◌}
use Rattle.std.specs.Prelude.{slice_get, ◌↔◌, IsTrue}
use Rattle.gh_typeterm.specs.declared.kind.Kind.{Kind, out-Kind}
use Rattle.gh_typeterm.specs.declared.kind.Kind.TheVariants as kind
use Rattle.gh_typeterm.specs.declared.kind.Kind.TheOpen.{Kind-F}
use Rattle.gh_typeterm.specs.declared.decl.DeclData.{DeclData}
use Rattle.gh_core.specs.SameType.{Nameless, bound, free, con, applied, forall, any}
use Rattle.gh_core.specs.Typing.{Kinds, HasKind, con_kind, kind_at}
use Rattle.gh_core_lint.specs.declared.kinds.Round.{Round, fold-roll-Round}
use Rattle.gh_core_lint.specs.declared.kinds.Round.TheVariants as r
use Rattle.gh_core_lint.specs.declared.kinds.Round.TheOpen.{Round-F}
use Rattle.gh_core_lint.specs.Kinds.{round, round_step, IsKind, IsApplied, IsStar}
use Rattle.gh_core_lint.proofs.Applied.{some_is}
use Rattle.gh_core_lint.proofs.Lists.{reversed_at, reversed_past}
use denote.Bor.{Bor}

round_Params : (ks : Bor (List Kind)) → round (r.Params ks) ≡ reverse ks.now
round_Params ks = ap round (sym (r.rolls-Params ks)) ∙ fold-roll-Round (List Kind) round_step (Round-F.Params ks)

pub param_found : (inner : Round) (ks : Bor (List Kind)) (i : ℕ) (k copy : Kind) → inner ≡ r.Params ks → i < length ks.now → copy ≡ get_or ks.now (length ks.now - 1 - i) k
    → Some copy ≡ slice_get (round inner) i
param_found inner ks i k copy is lt c =
    ap Some c ∙ sym (ap (λ l. slice_get l i) (ap round is ∙ round_Params ks) ∙ reversed_at ks.now i k lt)

pub param_missed : (inner : Round) (ks : Bor (List Kind)) (i : ℕ) → inner ≡ r.Params ks → length ks.now ≤ i → None ≡ slice_get (round inner) i
param_missed inner ks i is le = sym (ap (λ l. slice_get l i) (ap round is ∙ round_Params ks) ∙ reversed_past ks.now i le)

Arrow-injective : (a k b l : Kind) → kind.Arrow a k ≡ kind.Arrow b l → (a ≡ b) × (k ≡ l)
Arrow-injective a k b l e =
    let opened : Kind-F.Arrow a k ≡ Kind-F.Arrow b l = sym (kind.outs-Arrow a k) ∙ ap out-Kind e ∙ kind.outs-Arrow b l in
    (cc, cc)

-- a type has at most one kind
pub one_kind : (decls : List DeclData) (ks : Kinds) (bs : List Kind) (t : Nameless) (k l : Kind) → HasKind decls ks bs t k → HasKind decls ks bs t l → k ≡ l
one_kind decls ks bs (bound i) k l h g = some_is (slice_get bs i) k l h g
one_kind decls ks bs (free x) k l h g = some_is (kind_at ks x) k l h g
one_kind decls ks bs (con c) k l h g = some_is (con_kind decls c) k l h g
one_kind decls ks bs (applied f x) k l h g = (Arrow-injective h.0 k g.0 l (one_kind decls ks bs f (kind.Arrow h.0 k) (kind.Arrow g.0 l) h.1 g.1)).1
one_kind decls ks bs (forall m b) k l h g = h.0 ∙ sym g.0
one_kind decls ks bs (any m) k l h g = sym h ∙ g

-- the answer is the kind, where there is one
pub kind_is : (decls : List DeclData) (ks : Kinds) (bs : List Kind) (t : Nameless) (o : Option Kind) (k : Kind) → IsKind decls ks bs t o → HasKind decls ks bs t k → o ≡ Some k
kind_is decls ks bs t None k h g = absurd (h k g)
kind_is decls ks bs t (Some l) k h g = ap Some (one_kind decls ks bs t l k h g)

pub kind_applied : (decls : List DeclData) (ks : Kinds) (bs : List Kind) (f x t : Nameless) (m n o : Option Kind) → t ≡ applied f x → IsKind decls ks bs f m → IsKind decls ks bs x n → IsApplied m n o
    → IsKind decls ks bs t o
kind_applied decls ks bs f x t m n None e h g a =
    λ k w. let v = subst (λ (u : Nameless). HasKind decls ks bs u k) e w in
    a v.0 k (kind_is decls ks bs f m (kind.Arrow v.0 k) h v.1) (kind_is decls ks bs x n v.0 g v.2)
kind_applied decls ks bs f x t m n (Some k) e h g a =
    subst (λ (u : Nameless). HasKind decls ks bs u k) (sym e)
    (a.0, subst (IsKind decls ks bs f) a.1 h, subst (IsKind decls ks bs x) a.2 g)

pub kind_forall : (decls : List DeclData) (ks : Kinds) (bs : List Kind) (m : Kind) (b t : Nameless) (n o : Option Kind) → t ≡ forall m b → IsKind decls ks (m ∷ bs) b n → IsStar n o
    → IsKind decls ks bs t o
kind_forall decls ks bs m b t n None e h a =
    λ k w. let v = subst (λ (u : Nameless). HasKind decls ks bs u k) e w in a (kind_is decls ks (m ∷ bs) b n kind.Star h v.1)
kind_forall decls ks bs m b t n (Some k) e h a =
    subst (λ (u : Nameless). HasKind decls ks bs u k) (sym e) (a.0, subst (IsKind decls ks (m ∷ bs) b) a.1 h)

pub round_Inside : (k : Bor Kind) (o : Bor Round) → round (r.Inside k o) ≡ k.now ∷ round o.now
round_Inside k o = ap round (sym (r.rolls-Inside k o)) ∙ fold-roll-Round (List Kind) round_step (Round-F.Inside k o)

pub has_by : (decls : List DeclData) (ks : Kinds) (bs : List Kind) (t : Nameless) (o : Option Kind) (k l : Kind) (b : Bool) → IsKind decls ks bs t o → o ≡ Some k → (IsTrue b ↔ (k ≡ l))
    → IsTrue b ↔ HasKind decls ks bs t l
has_by decls ks bs t o k l b h is e =
    let g : HasKind decls ks bs t k = subst (IsKind decls ks bs t) is h in
    (λ y. subst (HasKind decls ks bs t) (e.0 y) g, λ w. e.1 (one_kind decls ks bs t k l g w))
