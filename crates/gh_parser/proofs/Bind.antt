-- A chain of parts, each of which may be refused.
use Rattle.std.proofs.Common.{◌≡◌, ℕ, ◌≤◌, ◌<◌, Bool, true, false, nat_lt, List, Option, Some, None, Result, Ok, Err, refl, sym, ap, ◌∙◌, arith}
use Rattle.std.proofs.lemmas.Bool.Decides.{nat_tests}
use Rattle.gh_base.specs.declared.refusal.Refusal.{Refusal}
use Rattle.gh_tree.specs.declared.symbol.Sym.{Sym}
use Rattle.gh_parser.specs.Parse.{◌>>=◌, no_parse, too_deep, unless_deep, limited}

or_value : {A : Type 0} → A → Result A Refusal → A
or_value x (Ok y) = y
or_value x (Err r) = x

or_refusal : {A : Type 0} → Refusal → Result A Refusal → Refusal
or_refusal r (Ok x) = r
or_refusal r (Err s) = s

abbrev ok : {A : Type 0} → A → Result A Refusal
ok x = Ok x

abbrev err : (A : Type 0) → Refusal → Result A Refusal
err A r = Err r

pub value_is : {A : Type 0} (x y : A) → ok x ≡ ok y → x ≡ y
unfolding or_value
value_is x y e = ap (or_value x) e

pub refusal_is : {A : Type 0} (r s : Refusal) → err A r ≡ err A s → r ≡ s
unfolding or_refusal
refusal_is r s e = ap (or_refusal r) e

pub some_value : {A : Type 0} (x y : A) → Some x ≡ Some y → x ≡ y
some_value x y e = cc

pub record Reached {A B : Type 0} (r : Result A Refusal) (f : A → Result B Refusal) (y : B) : Type 0 where
  pub x : A
  pub first : r ≡ Ok x
  pub then : f x ≡ Ok y

pub reached : {A B : Type 0} (r : Result A Refusal) (f : A → Result B Refusal) (y : B) → (r >>= f) ≡ Ok y → Reached r f y
reached (Ok x) f y e = record { x = x; first = refl; then = e }
reached (Err r) f y e = absurd (cc)

pub data Stopped {A B : Type 0} (r : Result A Refusal) (f : A → Result B Refusal) (e : Refusal) : Type 0 where
  at_first : r ≡ Err e → Stopped r f e
  at_then : (x : A) → r ≡ Ok x → f x ≡ Err e → Stopped r f e

pub stopped : {A B : Type 0} (r : Result A Refusal) (f : A → Result B Refusal) (e : Refusal) → (r >>= f) ≡ Err e → Stopped r f e
stopped (Ok x) f e h = at_then x refl h
stopped (Err r) f e h = at_first (ap Err (refusal_is r e h))

pub chain : {A B : Type 0} {r : Result A Refusal} (f : A → Result B Refusal) {x : A} {y : Result B Refusal} → r ≡ Ok x → f x ≡ y → (r >>= f) ≡ y
chain f e e' = ap (λ r. r >>= f) e ∙ e'

-- ---- trees that are not too deep

is_below : (a b : ℕ) → nat_lt a b ≡ false → b ≤ a
is_below a b e = grind (arith, nat_tests)

is_above : (a b : ℕ) → nat_lt a b ≡ true → a < b
is_above a b e = grind (arith, nat_tests)

no_less : (a b : ℕ) → b ≤ a → nat_lt a b ≡ false
no_less a b le = grind (arith, nat_tests)

module _ {A : Type 0} (limit : ℕ) (depth : A → ℕ) (ss : List Sym) where
  by_depth : (b : Bool) (x y : A) → nat_lt limit (depth x) ≡ b → unless_deep b ss x ≡ Ok y → (x ≡ y) × (depth x ≤ limit)
  by_depth true x y test e = absurd (cc)
  by_depth false x y test e = (value_is x y e, is_below limit (depth x) test)

  pub limited_ok : (o : Option A) (x : A) → limited limit depth ss o ≡ Ok x → (o ≡ Some x) × (depth x ≤ limit)
  limited_ok None x e = absurd (cc)
  limited_ok (Some y) x e =
      let h = by_depth (nat_lt limit (depth y)) y x refl e in
      (ap Some h.0, subst_depth y x h.0 h.1)
    where
      subst_depth : (y x : A) → y ≡ x → depth y ≤ limit → depth x ≤ limit
      subst_depth y x same le = let d : depth y ≡ depth x = ap depth same in omega (arith, d, le)

  pub limited_some : (o : Option A) (x : A) → o ≡ Some x → depth x ≤ limit → limited limit depth ss o ≡ Ok x
  limited_some o x e le = ap (limited limit depth ss) e ∙ ap (λ b. unless_deep b ss x) (no_less limit (depth x) le)

  pub data Limits (o : Option A) (r : Refusal) : Type 0 where
    no_tree : o ≡ None → r ≡ no_parse ss → Limits o r
    is_deep : (x : A) → o ≡ Some x → limit < depth x → r ≡ too_deep ss → Limits o r

  deep_by : (b : Bool) (o : Option A) (x : A) (r : Refusal) → o ≡ Some x → nat_lt limit (depth x) ≡ b → unless_deep b ss x ≡ Err r → Limits o r
  deep_by true o x r read test e = is_deep x read (is_above limit (depth x) test) (sym (refusal_is (too_deep ss) r e))
  deep_by false o x r read test e = absurd (cc)

  pub limited_err : (o : Option A) (r : Refusal) → limited limit depth ss o ≡ Err r → Limits o r
  limited_err None r e = no_tree refl (sym (refusal_is (no_parse ss) r e))
  limited_err (Some x) r e = deep_by (nat_lt limit (depth x)) (Some x) x r refl refl e
