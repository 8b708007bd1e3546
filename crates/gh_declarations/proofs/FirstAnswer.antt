-- The answer is the first failure: the list of all failures and the relation say the same, and the first of a list is before none
-- of it.
use Rattle.std.proofs.Common.{arith, ◌≡◌, ℕ, ◌+◌, ◌*◌, ◌<◌, ◌≤◌, ◌⊎◌, inl, inr, Bool, true, false, ◌&&◌, ◌||◌, nat_eq, nat_lt, if◌then◌else◌, List, [], ◌∷◌, ◌++◌, Option, Some, None, refl, sym, ap, ◌∙◌, subst}
use Rattle.std.specs.List.{flat_map}
use Rattle.std.proofs.lemmas.Bool.{eqb-true, ltb-true, ltb-false, eq-eqb}
use Rattle.gh_base.specs.declared.refusal.Refusal.{Refusal}
use Rattle.gh_tree.specs.declared.module_tree.Item.{Item}
use Rattle.gh_tree.specs.declared.module_tree.Item.TheVariants as item
use Rattle.gh_tree.specs.declared.module_tree.ModuleTree.{ModuleTree}
use Rattle.gh_tree.specs.declared.tops.Import.{Import}
use Rattle.gh_tree.specs.declared.tops.Top.{Top}
use Rattle.gh_tree.specs.declared.tops.Top.TheVariants as top
use Rattle.gh_limits.specs.Nodes.{Among, is_first, is_later, a_decl, a_rhs}
use Rattle.gh_declarations.specs.declared.named.Failure.{Failure}
use Rattle.gh_declarations.specs.declared.named.Rule.{Rule}
use Rattle.gh_declarations.specs.declared.named.Rule.TheVariants as rule
use Rattle.gh_declarations.specs.First.{FailsAt, Fails, in_the_list, at_a_case, at_a_declaration, IsFirst, IsStrictlyFirst, NoneFails, AnswersFirst}
use Rattle.gh_declarations.specs.Inside.{decl_found, rhs_failures}
use Rattle.gh_declarations.specs.Lists.{list_failures}
use Rattle.gh_declarations.specs.Nodes.{FailsInside}
use Rattle.gh_declarations.specs.Tops.{declared_at_top, items_of, cases_of, parameter_failures, argument_failures, top_failures, failures_in_item, failures_of, number_of, is_before, earlier, first_of, refusal_of, refused, fault_of}
use Rattle.gh_declarations.proofs.NodesAt.{inside_to, rhs_known, decl_known, one_of, none_of, in_left, in_right, in_either}

-- ---- the list of all failures

at_to : (f : Failure) (d : Top) → FailsAt f d → Among f (top_failures d)
at_to f (top.Synonym s a n ps m t) h = h
at_to f (top.Data s a n ps m k ks) h = h
at_to f (top.Newtype s a n ps m c t) h = h
at_to f (top.Signature s v vs m c t) h = absurd h
at_to f (top.Case s v a t b ps r) (inl h) = in_left f (argument_failures ps) (rhs_failures r) h
at_to f (top.Case s v a t b ps r) (inr h) = in_right f (argument_failures ps) (rhs_failures r) (inside_to f h.0 (a_rhs r) h.1 h.2)
at_to f (top.Extends s v m w) h = absurd h
at_to f (top.Decl d) h = inside_to f h.0 (a_decl d) h.1 h.2

at_from : (f : Failure) (d : Top) → Among f (top_failures d) → FailsAt f d
at_from f (top.Synonym s a n ps m t) h = h
at_from f (top.Data s a n ps m k ks) h = h
at_from f (top.Newtype s a n ps m c t) h = h
at_from f (top.Signature s v vs m c t) h = none_of f [] refl h
at_from f (top.Case s v a t b ps r) h = by_case (in_either f (argument_failures ps) (rhs_failures r) h)
  where
    by_case : Among f (argument_failures ps) ⊎ Among f (rhs_failures r) → Among f (argument_failures ps) ⊎ FailsInside f (a_rhs r)
    by_case (inl i) = inl i
    by_case (inr i) = inr (rhs_known r f i)
at_from f (top.Extends s v m w) h = none_of f [] refl h
at_from f (top.Decl d) h = decl_known d f h

items_to : (f : Failure) (d : Top) (is : List Item) → Among (item.Top d) is → FailsAt f d → Among f (flat_map failures_in_item is)
items_to f d is (is_first i js same) h = in_left f (failures_in_item i) (flat_map failures_in_item js) (subst (λ k. Among f (failures_in_item k)) same (at_to f d h))
items_to f d is (is_later i js later) h = in_right f (failures_in_item i) (flat_map failures_in_item js) (items_to f d js later h)

abbrev AtOne : Failure → List Item → Type 0
AtOne f is = (d : Top) × Among (item.Top d) is × FailsAt f d

at_later : (f : Failure) (i : Item) (is : List Item) → AtOne f is → AtOne f (i ∷ is)
at_later f i is h = (h.0, is_later i is h.1, h.2)

items_from : (f : Failure) (is : List Item) → Among f (flat_map failures_in_item is) → AtOne f is
items_from f [] h = absurd (none_of f [] refl h)
items_from f (item.Empty ∷ is) h = at_later f item.Empty is (items_from f is h)
items_from f (item.Import x ∷ is) h = at_later f (item.Import x) is (items_from f is h)
items_from f (item.Top d ∷ is) h = by_case (in_either f (top_failures d) (flat_map failures_in_item is) h) (items_from f is)
  where
    by_case : Among f (top_failures d) ⊎ Among f (flat_map failures_in_item is) → (Among f (flat_map failures_in_item is) → AtOne f is) → AtOne f (item.Top d ∷ is)
    by_case (inl here) go = (d, is_first (item.Top d) is refl, at_from f d here)
    by_case (inr later) go = at_later f (item.Top d) is (go later)

fails_to : (n : ℕ) (t : ModuleTree) (f : Failure) → Fails n t f → Among f (failures_of n t)
fails_to n t f (in_the_list h) = in_left f (list_failures (declared_at_top n (items_of t))) (cases_of t ++ flat_map failures_in_item (items_of t)) h
fails_to n t f (at_a_case h) =
    in_right f (list_failures (declared_at_top n (items_of t))) (cases_of t ++ flat_map failures_in_item (items_of t))
    (in_left f (cases_of t) (flat_map failures_in_item (items_of t)) h)
fails_to n t f (at_a_declaration d among h) =
    in_right f (list_failures (declared_at_top n (items_of t))) (cases_of t ++ flat_map failures_in_item (items_of t))
    (in_right f (cases_of t) (flat_map failures_in_item (items_of t)) (items_to f d (items_of t) among h))

fails_from : (n : ℕ) (t : ModuleTree) (f : Failure) → Among f (failures_of n t) → Fails n t f
fails_from n t f h = by_list (in_either f (list_failures (declared_at_top n (items_of t))) (cases_of t ++ flat_map failures_in_item (items_of t)) h)
  where
    by_item : AtOne f (items_of t) → Fails n t f
    by_item i = at_a_declaration i.0 i.1 i.2

    by_rest : Among f (cases_of t) ⊎ Among f (flat_map failures_in_item (items_of t)) → Fails n t f
    by_rest (inl i) = at_a_case i
    by_rest (inr i) = by_item (items_from f (items_of t) i)

    by_list : Among f (list_failures (declared_at_top n (items_of t))) ⊎ Among f (cases_of t ++ flat_map failures_in_item (items_of t)) → Fails n t f
    by_list (inl i) = in_the_list i
    by_list (inr i) = by_rest (in_either f (cases_of t) (flat_map failures_in_item (items_of t)) i)

-- ---- the order of failures, as one of numbers

abbrev key : Failure → ℕ
key f = f.span.from * 32 + number_of f.rule

small : (r : Rule) → number_of r < 32
small rule.Double = omega arith
small rule.Unequal = omega arith
small rule.Repeated = omega arith
small rule.Alone = omega arith

is_greater : (a b : ℕ) → nat_lt a b ≡ false → nat_eq a b ≡ false → b < a
is_greater a b lt ne = by_test (nat_lt b a) refl
  where
    by_test : (w : Bool) → nat_lt b a ≡ w → b < a
    by_test true h = ltb-true b a h
    by_test false h =
        let same : a ≡ b = omega (ltb-false a b lt, ltb-false b a h, arith) in
        let equal : nat_eq a b ≡ true = eq-eqb a b same in
        absurd (cc)

abbrev Told : Bool → ℕ → ℕ → Type 0
Told b m n = ((b ≡ true) × (m < n)) ⊎ ((b ≡ false) × (n ≤ m))

told : (a b m n : ℕ) → m < 32 → n < 32 → Told (nat_lt a b || (nat_eq a b && nat_lt m n)) (a * 32 + m) (b * 32 + n)
told a b m n lm ln = by_lt (nat_lt a b) refl (nat_eq a b) refl (nat_lt m n) refl
  where
    by_lt : (x : Bool) → nat_lt a b ≡ x → (y : Bool) → nat_eq a b ≡ y → (z : Bool) → nat_lt m n ≡ z → Told (x || (y && z)) (a * 32 + m) (b * 32 + n)
    by_lt true lt y eq z less = let h : a < b = ltb-true a b lt in inl (refl, omega (h, lm, ln, arith))
    by_lt false lt true eq true less = let h : a ≡ b = eqb-true a b eq in let l : m < n = ltb-true m n less in inl (refl, omega (h, l, arith))
    by_lt false lt true eq false less = let h : a ≡ b = eqb-true a b eq in let l : n ≤ m = ltb-false m n less in inr (refl, omega (h, l, arith))
    by_lt false lt false eq z less = let h : b < a = is_greater a b lt eq in inr (refl, omega (h, lm, ln, arith))

before : (f g : Failure) → Told (is_before f g) (key f) (key g)
before f g = told f.span.from g.span.from (number_of f.rule) (number_of g.rule) (small f.rule) (small g.rule)

yes_then : (b : Bool) (m n : ℕ) → b ≡ true → Told b m n → m < n
yes_then b m n h (inl t) = t.1
yes_then b m n h (inr t) = absurd (cc)

no_then : (b : Bool) (m n : ℕ) → b ≡ false → Told b m n → n ≤ m
no_then b m n h (inl t) = absurd (cc)
no_then b m n h (inr t) = t.1

then_no : (b : Bool) (m n : ℕ) → n ≤ m → Told b m n → b ≡ false
then_no b m n le (inl t) = absurd (omega (le, t.1, arith))
then_no b m n le (inr t) = t.0

is_less : (f g : Failure) → is_before f g ≡ true → key f < key g
is_less f g h = yes_then (is_before f g) (key f) (key g) h (before f g)

is_not : (f g : Failure) → is_before f g ≡ false → key g ≤ key f
is_not f g h = no_then (is_before f g) (key f) (key g) h (before f g)

not_before : (f g : Failure) → key g ≤ key f → is_before f g ≡ false
not_before f g le = then_no (is_before f g) (key f) (key g) le (before f g)

-- ---- the first of a list

abbrev Firsts : Failure → List Failure → Type 0
Firsts h fs = (f : Failure) × (first_of (Some h) fs ≡ Some f) × Among f (h ∷ fs) × ((g : Failure) → Among g (h ∷ fs) → key f ≤ key g)

firsts : (h : Failure) (fs : List Failure) → Firsts h fs
firsts h [] = (h, refl, is_first h [] refl, by_one)
  where
    by_sum : (g : Failure) → (g ≡ h) ⊎ Among g [] → key h ≤ key g
    by_sum g (inl same) = let e : key g ≡ key h = ap key same in omega (e, arith)
    by_sum g (inr later) = absurd (none_of g [] refl later)

    by_one : (g : Failure) → Among g (h ∷ []) → key h ≤ key g
    by_one g i = by_sum g (one_of g h [] i)
firsts h (k ∷ fs) = by_test (is_before k h) refl (firsts k fs) (firsts h fs)
  where
    from_k : is_before k h ≡ true → Firsts k fs → Firsts h (k ∷ fs)
    from_k less i = (i.0, ap (λ b. first_of (if b then Some k else Some h) fs) less ∙ i.1, is_later h (k ∷ fs) i.2, all)
      where
        by_sum : (g : Failure) → (g ≡ h) ⊎ Among g (k ∷ fs) → key i.0 ≤ key g
        by_sum g (inl same) = let e : key g ≡ key h = ap key same in let l : key k < key h = is_less k h less in let m : key i.0 ≤ key k = i.3 k (is_first k fs refl) in omega (e, l, m, arith)
        by_sum g (inr later) = i.3 g later

        all : (g : Failure) → Among g (h ∷ k ∷ fs) → key i.0 ≤ key g
        all g a = by_sum g (one_of g h (k ∷ fs) a)

    from_h : is_before k h ≡ false → Firsts h fs → Firsts h (k ∷ fs)
    from_h more i = (i.0, ap (λ b. first_of (if b then Some k else Some h) fs) more ∙ i.1, there (one_of i.0 h fs i.2), all)
      where
        there : (i.0 ≡ h) ⊎ Among i.0 fs → Among i.0 (h ∷ k ∷ fs)
        there (inl same) = is_first h (k ∷ fs) same
        there (inr later) = is_later h (k ∷ fs) (is_later k fs later)

        by_rest : (g : Failure) → (g ≡ k) ⊎ Among g fs → key i.0 ≤ key g
        by_rest g (inl same) = let e : key g ≡ key k = ap key same in let l : key h ≤ key k = is_not k h more in let m : key i.0 ≤ key h = i.3 h (is_first h fs refl) in omega (e, l, m, arith)
        by_rest g (inr later) = i.3 g (is_later h fs later)

        by_sum : (g : Failure) → (g ≡ h) ⊎ Among g (k ∷ fs) → key i.0 ≤ key g
        by_sum g (inl same) = i.3 g (is_first h fs same)
        by_sum g (inr later) = by_rest g (one_of g k fs later)

        all : (g : Failure) → Among g (h ∷ k ∷ fs) → key i.0 ≤ key g
        all g a = by_sum g (one_of g h (k ∷ fs) a)

    by_test : (b : Bool) → is_before k h ≡ b → Firsts k fs → Firsts h fs → Firsts h (k ∷ fs)
    by_test true less i j = from_k less i
    by_test false more i j = from_h more j

-- ---- the law

abbrev Split : List Failure → Type 0
Split fs = (fs ≡ []) ⊎ ((f : Failure) × (first_of None fs ≡ Some f) × Among f fs × ((g : Failure) → Among g fs → key f ≤ key g))

split : (fs : List Failure) → Split fs
split [] = inl refl
split (h ∷ fs) = inr (firsts h fs)

got : (o : Option Failure) (f : Failure) (r : Refusal) → o ≡ Some f → refused o ≡ Some r → r ≡ refusal_of f
got None f r e h = absurd (cc)
got (Some g) f r e h = let same : g ≡ f = cc in let is : refusal_of g ≡ r = cc in sym is ∙ ap refusal_of same

nothing : (o : Option Failure) (r : Refusal) → o ≡ None → refused o ≡ Some r → ⊥
nothing None r e h = absurd (cc)
nothing (Some g) r e h = absurd (cc)

something : (o : Option Failure) (f : Failure) → o ≡ Some f → refused o ≡ None → ⊥
something None f e h = absurd (cc)
something (Some g) f e h = absurd (cc)

is_sound : (n : ℕ) (t : ModuleTree) (r : Refusal) → fault_of n t ≡ Some r → IsFirst n t r
is_sound n t r h = by_split (split (failures_of n t))
  where
    by_split : Split (failures_of n t) → IsFirst n t r
    by_split (inl e) = absurd (nothing (first_of None (failures_of n t)) r (ap (first_of None) e) h)
    by_split (inr i) = (i.0, got (first_of None (failures_of n t)) i.0 r i.1 h, fails_from n t i.0 i.2, λ g k. not_before g i.0 (i.3 g (fails_to n t g k)))

is_complete : (n : ℕ) (t : ModuleTree) (f : Failure) → IsStrictlyFirst n t f → fault_of n t ≡ Some (refusal_of f)
is_complete n t f h = by_split (split (failures_of n t))
  where
    by_sum : (g : Failure) → fault_of n t ≡ Some (refusal_of g) → key g ≤ key f → (g ≡ f) ⊎ (is_before f g ≡ true) → fault_of n t ≡ Some (refusal_of f)
    by_sum g is le (inl same) = is ∙ ap (λ k. Some (refusal_of k)) same
    by_sum g is le (inr less) = absurd (omega (le, is_less f g less, arith))

    by_split : Split (failures_of n t) → fault_of n t ≡ Some (refusal_of f)
    by_split (inl e) = absurd (none_of f (failures_of n t) e (fails_to n t f h.0))
    by_split (inr i) = by_sum i.0 (ap refused i.1) (i.3 f (fails_to n t f h.0)) (h.1 i.0 (fails_from n t i.0 i.2))

are_none : (n : ℕ) (t : ModuleTree) → fault_of n t ≡ None → NoneFails n t
are_none n t h f k = by_split (split (failures_of n t))
  where
    by_split : Split (failures_of n t) → ⊥
    by_split (inl e) = none_of f (failures_of n t) e (fails_to n t f k)
    by_split (inr i) = something (first_of None (failures_of n t)) i.0 i.1 h

is_none : (n : ℕ) (t : ModuleTree) → NoneFails n t → fault_of n t ≡ None
is_none n t h = by_split (split (failures_of n t))
  where
    by_split : Split (failures_of n t) → fault_of n t ≡ None
    by_split (inl e) = ap (λ fs. refused (first_of None fs)) e
    by_split (inr i) = absurd (h i.0 (fails_from n t i.0 i.2))

pub answers : AnswersFirst
answers = record { sound = is_sound; complete = is_complete; none_fails = are_none; no_answer = is_none }
