-- Types that their texts show alike are equal up to the names of bound variables.
use Rattle.std.proofs.Common.{◌≡◌, ◌==◌, ◌+◌, ◌-◌, ◌<◌, true, false, Bool, cond, ℕ, suc, List, [], ◌∷◌, Option, Some, None, refl, sym, ap, subst, ◌∙◌, length, arith, inl, inr}
use Rattle.std.specs.Prelude.{if◌then◌else◌, nat_lt}
use Rattle.std.proofs.lemmas.Bool.{lt-ltb, le-ltb}
use Rattle.std.proofs.lemmas.List.{length-append}
use Rattle.gh_base.specs.declared.place.TyCon.{TyCon}
use Rattle.gh_typeterm.specs.declared.kind.Kind.{Kind}
use Rattle.gh_core.specs.declared.types.CoreType.{CoreType, fold-roll-CoreType}
use Rattle.gh_core.specs.declared.types.CoreType.TheVariants as t
use Rattle.gh_core.specs.declared.types.CoreType.TheOpen.{CoreType-F}
use Rattle.gh_core.specs.SameType.{Nameless, bound, free, con, applied, forall, any, further, nameless, nameless_var, IsSame}
use Rattle.gh_core.proofs.Nameless.{nameless-Var, nameless-Con, nameless-App, nameless-Forall, nameless-Any}
use Rattle.gh_core.specs.Levels.{Scope, within, bound_at, level_at, level_of}
use Rattle.gh_core.specs.Text.{Table, tycon_text, type_text}
use Rattle.gh_core_text.specs.Shown.{Shown, shown, IsNamed}
use Rattle.gh_core_text.specs.Shown as s
use Rattle.gh_core_text.specs.Leveled.{Leveled, l_var, l_con, l_app, l_all, l_any, leveled, leveled_step, named, HasCon, AreTold}
use Rattle.gh_core_text.proofs.Places.{bound_append}
use Rattle.gh_core_text.proofs.Shows.{type_induction, type_text-injective, shown-Var, shown-Con, shown-App, shown-Forall, shown-Any}

leveled-Var : (x : ℕ) (ts : Scope) → leveled (t.Var x) ts ≡ l_var (level_of ts x)
leveled-Var x ts = ap (λ u. leveled u ts) (sym (t.rolls-Var x)) ∙ ap (λ s. s ts) (fold-roll-CoreType (Scope → Leveled) leveled_step (CoreType-F.Var x))

leveled-Con : (c : TyCon) (ts : Scope) → leveled (t.Con c) ts ≡ l_con c
leveled-Con c ts = ap (λ u. leveled u ts) (sym (t.rolls-Con c)) ∙ ap (λ s. s ts) (fold-roll-CoreType (Scope → Leveled) leveled_step (CoreType-F.Con c))

leveled-App : (f y : CoreType) (ts : Scope) → leveled (t.App f y) ts ≡ l_app (leveled f ts) (leveled y ts)
leveled-App f y ts = ap (λ u. leveled u ts) (sym (t.rolls-App f y)) ∙ ap (λ s. s ts) (fold-roll-CoreType (Scope → Leveled) leveled_step (CoreType-F.App f y))

leveled-Forall : (x : ℕ) (k : Kind) (b : CoreType) (ts : Scope) → leveled (t.Forall x k b) ts ≡ l_all k (leveled b (within ts x))
leveled-Forall x k b ts = ap (λ u. leveled u ts) (sym (t.rolls-Forall x k b)) ∙ ap (λ s. s ts) (fold-roll-CoreType (Scope → Leveled) leveled_step (CoreType-F.Forall x k b))

leveled-Any : (k : Kind) (ts : Scope) → leveled (t.Any k) ts ≡ l_any k
leveled-Any k ts = ap (λ u. leveled u ts) (sym (t.rolls-Any k)) ∙ ap (λ s. s ts) (fold-roll-CoreType (Scope → Leveled) leveled_step (CoreType-F.Any k))

shown_leveled : (table : Table) (u : CoreType) (ts : Scope) → shown table u ts ≡ named table (leveled u ts)
shown_leveled table = type_induction (λ u. (ts : Scope) → shown table u ts ≡ named table (leveled u ts))
    (λ x ts. shown-Var table x ts ∙ sym (ap (named table) (leveled-Var x ts)))
    (λ c ts. shown-Con table c ts ∙ sym (ap (named table) (leveled-Con c ts)))
    (λ f y p q ts. shown-App table f y ts ∙ (λ i. s.app (p ts i) (q ts i)) ∙ sym (ap (named table) (leveled-App f y ts)))
    (λ x k b p ts. shown-Forall table x k b ts ∙ ap (s.all k) (p (within ts x)) ∙ sym (ap (named table) (leveled-Forall x k b ts)))
    (λ k ts. shown-Any table k ts ∙ sym (ap (named table) (leveled-Any k ts)))

abbrev Told : Table → Leveled → Leveled → Type 0
Told table a b = (c d : TyCon) → HasCon c a → HasCon d b → tycon_text table c ≡ tycon_text table d → c ≡ d

told_apart : (table : Table) (a b : Leveled) → Told table a b → named table a ≡ named table b → a ≡ b
told_apart table (l_var l) (l_var m) h e = let k : l ≡ m = cc in ap l_var k
told_apart table (l_var l) (l_con d) h e = absurd (cc)
told_apart table (l_var l) (l_app g y) h e = absurd (cc)
told_apart table (l_var l) (l_all j b) h e = absurd (cc)
told_apart table (l_var l) (l_any j) h e = absurd (cc)
told_apart table (l_con c) (l_var m) h e = absurd (cc)
told_apart table (l_con c) (l_con d) h e = let k : tycon_text table c ≡ tycon_text table d = cc in ap l_con (h c d refl refl k)
told_apart table (l_con c) (l_app g y) h e = absurd (cc)
told_apart table (l_con c) (l_all j b) h e = absurd (cc)
told_apart table (l_con c) (l_any j) h e = absurd (cc)
told_apart table (l_app f x) (l_var m) h e = absurd (cc)
told_apart table (l_app f x) (l_con d) h e = absurd (cc)
told_apart table (l_app f x) (l_app g y) h e =
    let left : named table f ≡ named table g = cc in
    let right : named table x ≡ named table y = cc in
    let p = told_apart table f g (λ c d i j. h c d (inl i) (inl j)) left in
    let q = told_apart table x y (λ c d i j. h c d (inr i) (inr j)) right in
    λ i. l_app (p i) (q i)
told_apart table (l_app f x) (l_all j b) h e = absurd (cc)
told_apart table (l_app f x) (l_any j) h e = absurd (cc)
told_apart table (l_all k a) (l_var m) h e = absurd (cc)
told_apart table (l_all k a) (l_con d) h e = absurd (cc)
told_apart table (l_all k a) (l_app g y) h e = absurd (cc)
told_apart table (l_all k a) (l_all j b) h e =
    let kinds : k ≡ j = cc in
    let bodies : named table a ≡ named table b = cc in
    let p = told_apart table a b h bodies in
    λ i. l_all (kinds i) (p i)
told_apart table (l_all k a) (l_any j) h e = absurd (cc)
told_apart table (l_any k) (l_var m) h e = absurd (cc)
told_apart table (l_any k) (l_con d) h e = absurd (cc)
told_apart table (l_any k) (l_app g y) h e = absurd (cc)
told_apart table (l_any k) (l_all j b) h e = absurd (cc)
told_apart table (l_any k) (l_any j) h e = let kinds : k ≡ j = cc in ap l_any kinds

-- ---- from levels to the number of binders between

abbrev index_var : Bool → ℕ → ℕ → Nameless
index_var true n l = bound (n - suc l)
index_var false n l = free (l - n)

abbrev indexed : ℕ → Leveled → Nameless
indexed n (l_var l) = index_var (nat_lt l n) n l
indexed n (l_con c) = con c
indexed n (l_app f x) = applied (indexed n f) (indexed n x)
indexed n (l_all k b) = forall k (indexed (suc n) b)
indexed n (l_any k) = any k

-- the scope of these binders, the nearest first
abbrev scope_in : List ℕ → Scope
scope_in [] = []
scope_in (y ∷ ys) = within (scope_in ys) y

length_in : (ys : List ℕ) → length (scope_in ys) ≡ length ys
length_in [] = refl
length_in (y ∷ ys) = let e = length-append (scope_in ys) ((y, length (scope_in ys)) ∷ []) in let h = length_in ys in omega arith

abbrev by_level : Option ℕ → ℕ → ℕ → Nameless
by_level None n x = free x
by_level (Some l) n x = bound (n - suc l)

abbrev IsLow : Option ℕ → ℕ → Type 0
IsLow None n = Unit {0}
IsLow (Some l) n = l < n

low_more : (o : Option ℕ) (n : ℕ) → IsLow o n → IsLow o (suc n)
low_more None n h = tt
low_more (Some l) n h = omega arith

low_choice : (b : Bool) (l n : ℕ) (o : Option ℕ) → l < n → IsLow o n → IsLow (if b then Some l else o) n
low_choice true l n o h k = h
low_choice false l n o h k = k

low_in : (ys : List ℕ) (x : ℕ) → IsLow (bound_at (scope_in ys) x) (length ys)
low_in [] x = tt
low_in (y ∷ ys) x =
    subst (λ o. IsLow o (suc (length ys))) (sym (bound_append (scope_in ys) (y, length (scope_in ys)) x))
    (low_choice (y == x) (length (scope_in ys)) (suc (length ys)) (bound_at (scope_in ys) x) (let h = length_in ys in omega arith) (low_more (bound_at (scope_in ys) x) (length ys) (low_in ys x)))

one_further : (o : Option ℕ) (n x : ℕ) → IsLow o n → further (by_level o n x) ≡ by_level o (suc n) x
one_further None n x h = refl
one_further (Some l) n x h = let e : suc (n - suc l) ≡ suc n - suc l = omega arith in ap bound e

var_choice : (b : Bool) (l n x : ℕ) (o : Option ℕ) → l ≡ n → IsLow o n → cond b (bound 0) (further (by_level o n x)) ≡ by_level (if b then Some l else o) (suc n) x
var_choice true l n x o e h = let k : 0 ≡ suc n - suc l = omega arith in ap bound k
var_choice false l n x o e h = one_further o n x h

var_by_level : (ys : List ℕ) (x : ℕ) → nameless_var ys x ≡ by_level (bound_at (scope_in ys) x) (length ys) x
var_by_level [] x = refl
var_by_level (y ∷ ys) x =
    ap (λ v. cond (y == x) (bound 0) (further v)) (var_by_level ys x)
    ∙ var_choice (y == x) (length (scope_in ys)) (length ys) x (bound_at (scope_in ys) x) (length_in ys) (low_in ys x)
    ∙ ap (λ o. by_level o (suc (length ys)) x) (sym (bound_append (scope_in ys) (y, length (scope_in ys)) x))

index_level : (o : Option ℕ) (n x : ℕ) → IsLow o n → by_level o n x ≡ index_var (nat_lt (level_at o n x) n) n (level_at o n x)
index_level None n x h =
    let e : x ≡ (n + x) - n = omega arith in
    ap free e ∙ ap (λ b. index_var b n (n + x)) (sym (le-ltb (n + x) n (omega arith)))
index_level (Some l) n x h = ap (λ b. index_var b n l) (sym (lt-ltb l n h))

var_indexed : (ys : List ℕ) (x : ℕ) → nameless_var ys x ≡ indexed (length ys) (l_var (level_of (scope_in ys) x))
var_indexed ys x =
    var_by_level ys x ∙ index_level (bound_at (scope_in ys) x) (length ys) x (low_in ys x)
    ∙ ap (λ n. index_var (nat_lt (level_at (bound_at (scope_in ys) x) n x) (length ys)) (length ys) (level_at (bound_at (scope_in ys) x) n x)) (sym (length_in ys))

nameless_indexed : (u : CoreType) (ys : List ℕ) → nameless u ys ≡ indexed (length ys) (leveled u (scope_in ys))
nameless_indexed = type_induction (λ u. (ys : List ℕ) → nameless u ys ≡ indexed (length ys) (leveled u (scope_in ys)))
    (λ x ys. nameless-Var x ys ∙ var_indexed ys x ∙ sym (ap (indexed (length ys)) (leveled-Var x (scope_in ys))))
    (λ c ys. nameless-Con c ys ∙ sym (ap (indexed (length ys)) (leveled-Con c (scope_in ys))))
    (λ f y p q ys. nameless-App f y ys ∙ (λ i. applied (p ys i) (q ys i)) ∙ sym (ap (indexed (length ys)) (leveled-App f y (scope_in ys))))
    (λ x k b p ys. nameless-Forall x k b ys ∙ ap (forall k) (p (x ∷ ys)) ∙ sym (ap (indexed (length ys)) (leveled-Forall x k b (scope_in ys))))
    (λ k ys. nameless-Any k ys ∙ sym (ap (indexed (length ys)) (leveled-Any k (scope_in ys))))

pub same_by_text : (table : Table) (a b : CoreType) → IsNamed (shown table a []) → IsNamed (shown table b []) → AreTold table a b → type_text table a [] ≡ type_text table b [] → IsSame a b
same_by_text table a b g h told e =
    let alike = sym (shown_leveled table a []) ∙ type_text-injective table a b [] g h e ∙ shown_leveled table b [] in
    nameless_indexed a [] ∙ ap (indexed 0) (told_apart table (leveled a []) (leveled b []) told alike) ∙ sym (nameless_indexed b [])
