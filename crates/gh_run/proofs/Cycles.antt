-- Names that lead back to themselves run for ever.
use Rattle.std.proofs.Common.{◌≡◌, ℕ, zero, suc, ◌+◌, ◌-◌, ◌*◌, ◌≤◌, Bool, true, false, if◌then◌else◌, cond, ◌==◌, List, [], ◌∷◌, map, Option, Some, None, refl, sym, ap, ◌∙◌, arith}
use Rattle.gh_base.specs.declared.fixed.TheConstants.{MAIN}
use Rattle.gh_base.specs.declared.names.NameId.{NameId}
use Rattle.gh_bindings.specs.declared.binding.Operand.{Operand}
use Rattle.gh_bindings.specs.declared.binding.Operand.TheVariants as operand
use Rattle.gh_bindings.specs.declared.binding.Binding.{Binding}
use Rattle.gh_bindings.specs.Meaning.{main_value}
use Rattle.gh_bindings.proofs.Plain.{plain_def, plain_program, joined_plain, runs_plain}
use Rattle.gh_core.specs.declared.terms.CoreName.TheVariants.{Plain}
use Rattle.gh_core.specs.Terms.{Term, glob}
use Rattle.gh_core.specs.Reduce.{State, demand, defined, unfold_global, reduce, reductions}
use Rattle.gh_core.specs.Run.{seen}
use Rattle.gh_run.specs.Core.{core_seen}
use Rattle.gh_run.specs.Cycles.{alone, next_name, and_then, name_after, CyclesRunForEver}

abbrev named : NameId → Term
named n = glob (Plain (main_value n))

-- a name that is demanded, where nothing was printed
abbrev at_name : NameId → State
at_name n = demand (named n) [] []

same_name : (a b : NameId) → Some a ≡ Some b → a ≡ b
same_name a b h = cc

alone_is : (os : List Operand) (m : NameId) → alone os ≡ Some m → joined_plain os ≡ named m
alone_is [] m h = absurd (cc)
alone_is (operand.Name n s ∷ []) m h = ap named (same_name n m h)
alone_is (operand.Text cs ∷ []) m h = absurd (cc)
alone_is (o ∷ p ∷ os) m h = absurd (cc)

defined_if : (b : Binding) (bs : List Binding) (n m : NameId) (c : Bool) → (if c then alone b.operands else next_name bs n) ≡ Some m
    → (next_name bs n ≡ Some m → defined (map plain_def bs) (Plain (main_value n)) ≡ Some (named m))
    → cond c (Some (joined_plain b.operands)) (defined (map plain_def bs) (Plain (main_value n))) ≡ Some (named m)
defined_if b bs n m true h ih = ap Some (alone_is b.operands m h)
defined_if b bs n m false h ih = ih h

defined_next : (bs : List Binding) (n m : NameId) → next_name bs n ≡ Some m → defined (map plain_def bs) (Plain (main_value n)) ≡ Some (named m)
defined_next [] n m h = absurd (cc)
defined_next (b ∷ bs) n m h = defined_if b bs n m (b.name.0 == n.0) h (defined_next bs n m)

step_next : (bs : List Binding) (n m : NameId) → next_name bs n ≡ Some m → reduce (plain_program bs) (at_name n) ≡ at_name m
step_next bs n m h = ap (λ t. unfold_global t [] [] (at_name n)) (defined_next bs n m h)

-- what a chain of bindings is made of
record Parts (bs : List Binding) (k r : ℕ) (n x : NameId) : Type 0 where
  middle : NameId
  first : name_after k bs n ≡ Some middle
  then_ : name_after r bs middle ≡ Some x

parts_if : (bs : List Binding) (k r : ℕ) (n x : NameId) (m : Option NameId) → next_name bs n ≡ m → and_then m (λ y. name_after (k + r) bs y) ≡ Some x
    → ((y : NameId) → name_after (k + r) bs y ≡ Some x → Parts bs k r y x) → Parts bs (suc k) r n x
parts_if bs k r n x None e h ih = absurd (cc)
parts_if bs k r n x (Some y) e h ih =
    let p : Parts bs k r y x = ih y h in
    record { middle = p.middle; first = ap (λ o. and_then o (λ z. name_after k bs z)) e ∙ p.first; then_ = p.then_ }

parts : (bs : List Binding) (k r : ℕ) (n x : NameId) → name_after (k + r) bs n ≡ Some x → Parts bs k r n x
parts bs zero r n x h = let same : 0 + r ≡ r = omega arith in record { middle = n; first = refl; then_ = ap (λ i. name_after i bs n) (sym same) ∙ h }
parts bs (suc k) r n x h =
    let same : suc k + r ≡ suc (k + r) = omega arith in
    parts_if bs k r n x (next_name bs n) refl (ap (λ i. name_after i bs n) (sym same) ∙ h) (λ y. parts bs k r y x)

joined_if : (bs : List Binding) (k r : ℕ) (n y x : NameId) (m : Option NameId) → and_then m (λ z. name_after k bs z) ≡ Some y
    → ((z : NameId) → name_after k bs z ≡ Some y → name_after (k + r) bs z ≡ Some x) → and_then m (λ z. name_after (k + r) bs z) ≡ Some x
joined_if bs k r n y x None h ih = absurd (cc)
joined_if bs k r n y x (Some z) h ih = ih z h

joined : (bs : List Binding) (k r : ℕ) (n y x : NameId) → name_after k bs n ≡ Some y → name_after r bs y ≡ Some x → name_after (k + r) bs n ≡ Some x
joined bs zero r n y x h g = let same : 0 + r ≡ r = omega arith in ap (λ i. name_after i bs n) same ∙ ap (name_after r bs) (same_name n y h) ∙ g
joined bs (suc k) r n y x h g =
    let same : suc k + r ≡ suc (k + r) = omega arith in
    ap (λ i. name_after i bs n) same ∙ joined_if bs k r n y x (next_name bs n) h (λ z e. joined bs k r z y x e g)

rounds : (bs : List Binding) (n : NameId) (more j : ℕ) → name_after (suc more) bs n ≡ Some n → name_after (j * suc more) bs n ≡ Some n
rounds bs n more zero h = let same : 0 * suc more ≡ 0 = omega arith in ap (λ i. name_after i bs n) same
rounds bs n more (suc j) h =
    let same : suc j * suc more ≡ suc more + j * suc more = omega arith in
    ap (λ i. name_after i bs n) same ∙ joined bs (suc more) (j * suc more) n n n h (rounds bs n more j h)

long_enough : (k more : ℕ) → k ≤ k * suc more
long_enough zero more = omega arith
long_enough (suc k) more =
    let less : k ≤ k * suc more = long_enough k more in
    let same : suc k * suc more ≡ suc more + k * suc more = omega arith in
    omega (arith, less, same)

-- there is a name after any number of bindings
always : (bs : List Binding) (n : NameId) (before more k : ℕ) → name_after before bs MAIN ≡ Some n → name_after (suc more) bs n ≡ Some n
    → (m : NameId) × (name_after k bs MAIN ≡ Some m)
always bs n before more k f g =
    let long : k ≤ k * suc more = long_enough k more in
    let same : before + k * suc more ≡ k + ((before + k * suc more) - k) = omega (arith, long) in
    let p : Parts bs k ((before + k * suc more) - k) MAIN n =
    parts bs k ((before + k * suc more) - k) MAIN n (ap (λ i. name_after i bs MAIN) (sym same) ∙ joined bs before (k * suc more) MAIN n n f (rounds bs n more k g)) in
    (p.middle, p.first)

reached_if : (bs : List Binding) (k : ℕ) (n x : NameId) (m : Option NameId) → next_name bs n ≡ m → and_then m (λ y. name_after k bs y) ≡ Some x
    → ((y : NameId) → name_after k bs y ≡ Some x → reductions (plain_program bs) k (at_name y) ≡ at_name x)
    → reductions (plain_program bs) k (reduce (plain_program bs) (at_name n)) ≡ at_name x
reached_if bs k n x None e h ih = absurd (cc)
reached_if bs k n x (Some y) e h ih = ap (reductions (plain_program bs) k) (step_next bs n y e) ∙ ih y h

reached : (bs : List Binding) (k : ℕ) (n x : NameId) → name_after k bs n ≡ Some x → reductions (plain_program bs) k (at_name n) ≡ at_name x
unfolding reductions
reached bs zero n x h = ap at_name (same_name n x h)
reached bs (suc k) n x h = reached_if bs k n x (next_name bs n) refl h (λ y. reached bs k y x)

pub cycles_run_for_ever : CyclesRunForEver
unfolding core_seen
cycles_run_for_ever bs n before more f g k =
    let m : (m : NameId) × (name_after k bs MAIN ≡ Some m) = always bs n before more k f g in
    runs_plain bs k ∙ ap seen (reached bs k MAIN m.0 m.1)
