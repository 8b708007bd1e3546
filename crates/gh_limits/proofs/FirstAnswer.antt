-- The answer is the first limit that is passed: there is an answer of this kind, and there is one only.
use Rattle.std.proofs.Common.{◌≡◌, ℕ, ◌+◌, ◌<◌, ◌≤◌, ◌⊎◌, inl, inr, Bool, true, false, nat_lt, if◌then◌else◌, List, [], ◌∷◌, Option, Some, None, refl, sym, ap, ◌∙◌, subst, arith}
use Rattle.std.proofs.lemmas.Bool.Decides.{nat_tests}
use Rattle.gh_base.specs.declared.place.Span.{Span}
use Rattle.gh_base.specs.declared.refusal.Limit.{Limit}
use Rattle.gh_base.specs.declared.refusal.Limit.TheVariants.{Clauses}
use Rattle.gh_base.specs.declared.refusal.Refusal.{Refusal}
use Rattle.gh_base.specs.declared.refusal.Refusal.TheVariants.{LimitPassed}
use Rattle.gh_tree.specs.declared.module_tree.Item.{Item}
use Rattle.gh_tree.specs.declared.module_tree.Item.TheVariants as item
use Rattle.gh_tree.specs.declared.tops.Import.{Import}
use Rattle.gh_tree.specs.declared.tops.Top.{Top}
use Rattle.gh_limits.specs.First.{Passes, CountedIn, HasClauses, at_the_end, over_an_empty_item, before_an_import, before_another, with_the_next, HasTooManyClauses, NoneEarlier, FirstAt, inside_it, of_the_whole, NoneAt, FirstIn, at_this, behind_this, behind_an_import, behind_an_empty_item, NoneIn, none_left, none_at_this, none_at_an_import, none_at_an_empty_item, all_items, AnswersFirst}
use Rattle.gh_limits.specs.Limits.{top_counts, span_of, continues, goes_on_behind, clauses_from, up_to, refused, earlier, passed_at, or_else, first_passed}
use Rattle.gh_limits.specs.Places.{Count, number_of, place_of, place, first_place, limit_at}
use Rattle.gh_limits.proofs.CountedAt.{counted_to, counted_from, place_below, limit_there, passed_place, place_by, none_lower, Found, first_found}

-- ---- the clauses of a definition

when_true : {A : Type 0} (b : Bool) (x y : A) → b ≡ true → (if b then x else y) ≡ x
when_true true x y e = refl
when_true false x y e = absurd (cc)

when_false : {A : Type 0} (b : Bool) (x y : A) → b ≡ false → (if b then x else y) ≡ y
when_false true x y e = absurd (cc)
when_false false x y e = refl

abbrev pair : ℕ → ℕ → ℕ × ℕ
pair n to = (n, to)

clauses_are : (t : Top) (is : List Item) (many to before : ℕ) → HasClauses t is many to → clauses_from t (1 + before) is ≡ pair (before + many) to
clauses_are t is many to m (at_the_end u) = ap (λ n. pair n (span_of u).to) (omega arith)
clauses_are t is many to m (over_an_empty_item u js n e later) = clauses_are u js n e m later
clauses_are t is many to m (before_an_import u x js) = ap (λ n. pair n (span_of u).to) (omega arith)
clauses_are t is many to m (before_another u v js stops) =
    when_false (continues u v) (clauses_from v ((1 + m) + 1) js) (pair (1 + m) (span_of u).to) stops ∙ ap (λ n. pair n (span_of u).to) (omega arith)
clauses_are t is many to m (with_the_next u v js n e goes later) =
    when_true (continues u v) (clauses_from v ((1 + m) + 1) js) (pair (1 + m) (span_of u).to) goes
    ∙ ap (λ k. clauses_from v k js) (omega arith) ∙ clauses_are v js n e (m + 1) later ∙ ap (λ k. pair k e) (omega arith)

abbrev Clausal : Top → List Item → Type 0
Clausal t is = (many : ℕ) × (to : ℕ) × HasClauses t is many to

clauses_by : (b : Bool) (t u : Top) (is : List Item) → continues t u ≡ b → Clausal u is → Clausal t (item.Top u ∷ is)
clauses_by true t u is e h = (h.0 + 1, h.1, with_the_next t u is h.0 h.1 e h.2)
clauses_by false t u is e h = (1, (span_of t).to, before_another t u is e)

has_clauses : (is : List Item) (t : Top) → Clausal t is
has_clauses [] t = (1, (span_of t).to, at_the_end t)
has_clauses (item.Empty ∷ is) t = let h = has_clauses is t in (h.0, h.1, over_an_empty_item t is h.0 h.1 h.2)
has_clauses (item.Import x ∷ is) t = (1, (span_of t).to, before_an_import t x is)
has_clauses (item.Top u ∷ is) t = clauses_by (continues t u) t u is refl (has_clauses is u)

same_clauses : (t : Top) (is : List Item) (n m a b : ℕ) → HasClauses t is n a → HasClauses t is m b → (n ≡ m) × (a ≡ b)
same_clauses t is n m a b h k =
    let e : pair (0 + n) a ≡ pair (0 + m) b = sym (clauses_are t is n a 0 h) ∙ clauses_are t is m b 0 k in
    let number : 0 + n ≡ 0 + m = ap (λ (p : ℕ × ℕ). p.0) e in
    (omega (arith, number), ap (λ (p : ℕ × ℕ). p.1) e)

-- ---- a declaration of the top

data AtAnswer (before : Item) (t : Top) (is : List Item) : Option Refusal → Type 0 where
  at_none : NoneAt before t is → AtAnswer before t is None
  at_first : (w : Limit) (s : Span) → FirstAt before t is w s → AtAnswer before t is (Some (LimitPassed s w))

low : (t : Top) (c : Count) → CountedIn c t → Passes c → first_place (top_counts t) ≤ place_of c.which
low t c h p = none_lower c (top_counts t) (counted_to c t h) p

nothing_inside : (t : Top) → first_place (top_counts t) ≡ 7 → (c : Count) → CountedIn c t → Passes c → ⊥
nothing_inside t e c h p = let l = low t c h p in let b = place_below c.which in omega (arith, e, l, b)

module _ (before : Item) (t : Top) (is : List Item) where
  found_answer : Found (top_counts t) (first_place (top_counts t)) → ((to : ℕ) → HasTooManyClauses before t is to → first_place (top_counts t) < 6)
      → AtAnswer before t is (refused (limit_at (first_place (top_counts t))) (span_of t))
  found_answer f first =
      subst (AtAnswer before t is) (sym (ap (λ p. refused (limit_at p) (span_of t)) f.3 ∙ ap (λ o. refused o (span_of t)) (limit_there f.0.which)))
      (at_first f.0.which (span_of t) (inside_it f.0 (counted_from f.0 t f.1) f.2 (λ d h p. let l = low t d h p in let e = f.3 in omega (arith, e, l))
      (λ to h. let i = first to h in let e = f.3 in omega (arith, e, i))))

  none_answer : (s : Span) → first_place (top_counts t) ≡ 7 → ((to : ℕ) → HasTooManyClauses before t is to → ⊥) → AtAnswer before t is (refused (limit_at (first_place (top_counts t))) s)
  none_answer s e none = subst (λ p. AtAnswer before t is (refused (limit_at p) s)) (sym e) (at_none (nothing_inside t e, none))

  inside_answer : (first_place (top_counts t) ≡ 7) ⊎ Found (top_counts t) (first_place (top_counts t)) → ((to : ℕ) → HasTooManyClauses before t is to → ⊥)
      → AtAnswer before t is (refused (limit_at (first_place (top_counts t))) (span_of t))
  inside_answer (inl e) none = none_answer (span_of t) e none
  inside_answer (inr f) none = found_answer f (λ to h. absurd (none to h))

  either : (b : Bool) (x y : Option Refusal) → (b ≡ true → AtAnswer before t is x) → (b ≡ false → AtAnswer before t is y) → AtAnswer before t is (if b then x else y)
  either true x y f g = f refl
  either false x y f g = g refl

  -- the whole definition has too many clauses
  below_whole : (to : ℕ) → HasTooManyClauses before t is to → (first_place (top_counts t) ≡ 7) ⊎ Found (top_counts t) (first_place (top_counts t)) → nat_lt (first_place (top_counts t)) 6 ≡ true
      → AtAnswer before t is (refused (limit_at (first_place (top_counts t))) (span_of t))
  below_whole to whole (inl e) test = absurd (let l : first_place (top_counts t) < 6 = grind (arith, nat_tests) in omega (arith, e, l))
  below_whole to whole (inr f) test = found_answer f (λ to h. grind (arith, nat_tests))

  not_below : nat_lt (first_place (top_counts t)) 6 ≡ false → NoneEarlier t Clauses
  not_below test = λ c h p. let l = low t c h p in let m : 6 ≤ first_place (top_counts t) = grind (arith, nat_tests) in omega (arith, l, m)

  whole_answer : (to : ℕ) → HasTooManyClauses before t is to → AtAnswer before t is (earlier (first_place (top_counts t)) (span_of t) 6 (up_to (span_of t) to))
  whole_answer to whole =
      either (nat_lt (first_place (top_counts t)) 6) (refused (limit_at (first_place (top_counts t))) (span_of t)) (refused (limit_at 6) (up_to (span_of t) to))
      (below_whole to whole (first_found (top_counts t)))
      (λ test. at_first Clauses (up_to (span_of t) to) (of_the_whole to whole (not_below test)))

  -- it has not
  part_answer : (to : ℕ) → ((to : ℕ) → HasTooManyClauses before t is to → ⊥) → AtAnswer before t is (earlier (first_place (top_counts t)) (span_of t) 7 (up_to (span_of t) to))
  part_answer to none =
      either (nat_lt (first_place (top_counts t)) 7) (refused (limit_at (first_place (top_counts t))) (span_of t)) (refused (limit_at 7) (up_to (span_of t) to))
      (λ test. inside_answer (first_found (top_counts t)) none)
      (λ test. at_none ((λ c h p. let l = low t c h p in let b = place_below c.which in let m : 7 ≤ first_place (top_counts t) = grind (arith, nat_tests) in omega (arith, l, b, m)), none))

  few_clauses : (many to : ℕ) → HasClauses t is many to → place Clauses many ≡ 7 → (end : ℕ) → HasTooManyClauses before t is end → ⊥
  few_clauses many to h e end too =
      let same : many ≡ too.1.0 = (same_clauses t is many too.1.0 to end h too.1.1).0 in
      let at : place Clauses too.1.0 ≡ 6 = passed_place Clauses too.1.0 too.1.2 in
      let seven : place Clauses too.1.0 ≡ 7 = ap (place Clauses) (sym same) ∙ e in
      omega (arith, at, seven)

  begins_by : (many to : ℕ) → goes_on_behind before t ≡ false → HasClauses t is many to → ((number_of Clauses < many) × (place Clauses many ≡ place_of Clauses)) ⊎ (place Clauses many ≡ 7)
      → AtAnswer before t is (earlier (first_place (top_counts t)) (span_of t) (place Clauses many) (up_to (span_of t) to))
  begins_by many to begins h (inl p) =
      subst (λ q. AtAnswer before t is (earlier (first_place (top_counts t)) (span_of t) q (up_to (span_of t) to))) (sym p.1) (whole_answer to (begins, (many, h, p.0)))
  begins_by many to begins h (inr e) =
      subst (λ q. AtAnswer before t is (earlier (first_place (top_counts t)) (span_of t) q (up_to (span_of t) to))) (sym e) (part_answer to (few_clauses many to h e))

  begins_answer : goes_on_behind before t ≡ false
      → AtAnswer before t is (earlier (first_place (top_counts t)) (span_of t) (place Clauses (clauses_from t 1 is).0) (up_to (span_of t) (clauses_from t 1 is).1))
  begins_answer begins =
      let h : Clausal t is = has_clauses is t in
      let at : pair h.0 h.1 ≡ clauses_from t 1 is = ap (λ n. pair n h.1) (omega arith) ∙ sym (clauses_are t is h.0 h.1 0 h.2) in
      subst (λ (r : ℕ × ℕ). AtAnswer before t is (earlier (first_place (top_counts t)) (span_of t) (place Clauses r.0) (up_to (span_of t) r.1))) at
      (begins_by h.0 h.1 begins h.2 (place_by Clauses h.0))

  answer_at : AtAnswer before t is (passed_at before t is)
  answer_at =
      either (goes_on_behind before t) (refused (limit_at (first_place (top_counts t))) (span_of t))
      (earlier (first_place (top_counts t)) (span_of t) (place Clauses (clauses_from t 1 is).0) (up_to (span_of t) (clauses_from t 1 is).1))
      (λ goes. inside_answer (first_found (top_counts t)) (λ to h. let e = h.0 in absurd (cc))) begins_answer

-- ---- one answer for a declaration

some_is : {A : Type 0} (x y : A) → Some x ≡ Some y → x ≡ y
some_is x y e = cc

place_same : (w v : Limit) → place_of w ≡ place_of v → w ≡ v
place_same w v e = some_is w v (sym (limit_there w) ∙ ap limit_at e ∙ limit_there v)

refusal_of : (w v : Limit) (s u : Span) → w ≡ v → s ≡ u → LimitPassed s w ≡ LimitPassed u v
refusal_of w v s u e f = ap (λ x. LimitPassed s x) e ∙ ap (λ x. LimitPassed x v) f

first_same : (before : Item) (t : Top) (is : List Item) (w v : Limit) (s u : Span) → FirstAt before t is w s → FirstAt before t is v u → LimitPassed s w ≡ LimitPassed u v
first_same before t is w v s u (inside_it c h p first below) (inside_it d k q least under) =
    let le : place_of c.which ≤ place_of d.which = first d k q in
    let ge : place_of d.which ≤ place_of c.which = least c h p in
    refusal_of c.which d.which (span_of t) (span_of t) (place_same c.which d.which (omega (arith, le, ge))) refl
first_same before t is w v s u (inside_it c h p first below) (of_the_whole to whole least) = absurd (let l = below to whole in let m = least c h p in omega (arith, l, m))
first_same before t is w v s u (of_the_whole to whole least) (inside_it c h p first below) = absurd (let l = below to whole in let m = least c h p in omega (arith, l, m))
first_same before t is w v s u (of_the_whole to whole least) (of_the_whole end other first) =
    refusal_of Clauses Clauses (up_to (span_of t) to) (up_to (span_of t) end) refl (ap (up_to (span_of t)) (same_clauses t is whole.1.0 other.1.0 to end whole.1.1 other.1.1).1)

none_and_first : (before : Item) (t : Top) (is : List Item) (w : Limit) (s : Span) → NoneAt before t is → FirstAt before t is w s → ⊥
none_and_first before t is w s none (inside_it c h p first below) = none.0 c h p
none_and_first before t is w s none (of_the_whole to whole least) = none.1 to whole

-- ---- the items

data InAnswer (before : Item) (is : List Item) : Option Refusal → Type 0 where
  in_none : NoneIn before is → InAnswer before is None
  in_first : (r : Refusal) → FirstIn before is r → InAnswer before is (Some r)

empty_answer : (before : Item) (is : List Item) (o : Option Refusal) → InAnswer before is o → InAnswer before (item.Empty ∷ is) o
empty_answer before is o (in_none n) = in_none (none_at_an_empty_item before is n)
empty_answer before is o (in_first r f) = in_first r (behind_an_empty_item before is r f)

import_answer : (before : Item) (x : Import) (is : List Item) (o : Option Refusal) → InAnswer (item.Import x) is o → InAnswer before (item.Import x ∷ is) o
import_answer before x is o (in_none n) = in_none (none_at_an_import before x is n)
import_answer before x is o (in_first r f) = in_first r (behind_an_import before x is r f)

behind_answer : (before : Item) (t : Top) (is : List Item) (o : Option Refusal) → NoneAt before t is → InAnswer (item.Top t) is o → InAnswer before (item.Top t ∷ is) o
behind_answer before t is o none (in_none n) = in_none (none_at_this before t is none n)
behind_answer before t is o none (in_first r f) = in_first r (behind_this before t is r none f)

top_answer : (before : Item) (t : Top) (is : List Item) (o p : Option Refusal) → AtAnswer before t is o → InAnswer (item.Top t) is p → InAnswer before (item.Top t ∷ is) (or_else o p)
top_answer before t is o p (at_none none) later = behind_answer before t is p none later
top_answer before t is o p (at_first w s f) later = in_first (LimitPassed s w) (at_this before t is w s f)

answer_in : (is : List Item) (before : Item) → InAnswer before is (first_passed before is)
answer_in [] before = in_none (none_left before)
answer_in (item.Empty ∷ is) before = empty_answer before is (first_passed before is) (answer_in is before)
answer_in (item.Import x ∷ is) before = import_answer before x is (first_passed (item.Import x) is) (answer_in is (item.Import x))
answer_in (item.Top t ∷ is) before = top_answer before t is (passed_at before t is) (first_passed (item.Top t) is) (answer_at before t is) (answer_in is (item.Top t))

-- ---- one answer for the items

one_first : (before : Item) (is : List Item) (r q : Refusal) → FirstIn before is r → FirstIn before is q → r ≡ q
one_first before is r q (at_this b t js w s f) (at_this c u ks v p g) = first_same b t js w v s p f g
one_first before is r q (at_this b t js w s f) (behind_this c u ks p none later) = absurd (none_and_first b t js w s none f)
one_first before is r q (behind_this b t js p none later) (at_this c u ks w s f) = absurd (none_and_first b t js w s none f)
one_first before is r q (behind_this b t js p none later) (behind_this c u ks o also other) = one_first (item.Top t) js p o later other
one_first before is r q (behind_an_import b x js p later) (behind_an_import c y ks o other) = one_first (item.Import x) js p o later other
one_first before is r q (behind_an_empty_item b js p later) (behind_an_empty_item c ks o other) = one_first b js p o later other

none_first : (before : Item) (is : List Item) (r : Refusal) → NoneIn before is → FirstIn before is r → ⊥
none_first before is r (none_left b) f = elim f [ ]
none_first before is r (none_at_this b t js none later) (at_this c u ks w s f) = none_and_first b t js w s none f
none_first before is r (none_at_this b t js none later) (behind_this c u ks q also other) = none_first (item.Top t) js q later other
none_first before is r (none_at_an_import b x js later) (behind_an_import c y ks q other) = none_first (item.Import x) js q later other
none_first before is r (none_at_an_empty_item b js later) (behind_an_empty_item c ks q other) = none_first b js q later other

-- ---- the law

from_some : (before : Item) (is : List Item) (o : Option Refusal) (r : Refusal) → InAnswer before is o → o ≡ Some r → FirstIn before is r
from_some before is o r (in_none n) e = absurd (cc)
from_some before is o r (in_first q f) e = subst (FirstIn before is) (some_is q r e) f

to_some : (before : Item) (is : List Item) (o : Option Refusal) (r : Refusal) → InAnswer before is o → FirstIn before is r → o ≡ Some r
to_some before is o r (in_none n) f = absurd (none_first before is r n f)
to_some before is o r (in_first q g) f = ap Some (one_first before is q r g f)

from_none : (before : Item) (is : List Item) (o : Option Refusal) → InAnswer before is o → o ≡ None → NoneIn before is
from_none before is o (in_none n) e = n
from_none before is o (in_first q f) e = absurd (cc)

to_none : (before : Item) (is : List Item) (o : Option Refusal) → InAnswer before is o → NoneIn before is → o ≡ None
to_none before is o (in_none n) none = refl
to_none before is o (in_first q f) none = absurd (none_first before is q none f)

pub answers_first : AnswersFirst
answers_first t =
    let is : List Item = all_items t in
    let a : InAnswer item.Empty is (first_passed item.Empty is) = answer_in is item.Empty in
    let o : Option Refusal = first_passed item.Empty is in
    ((λ r. (from_some item.Empty is o r a, to_some item.Empty is o r a)), (from_none item.Empty is o a, to_none item.Empty is o a))
