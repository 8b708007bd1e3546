-- A program is accepted exactly where its uses of names are good.
use Rattle.std.proofs.Common.{◌≡◌, ◌≢◌, ℕ, Bool, true, false, ◌||◌, if◌then◌else◌, List, [], ◌∷◌, ◌++◌, Option, Some, None, refl, sym, ap, ◌∙◌, subst}
use Rattle.std.specs.Prelude.{nat_eq}
use Rattle.std.proofs.lemmas.Bool.{eq-eqb}
use Rattle.gh_base.specs.declared.fixed.TheConstants.{MAIN}
use Rattle.gh_base.specs.declared.names.NameId.{NameId}
use Rattle.gh_base.specs.declared.Refusal.{Refusal}
use Rattle.gh_base.specs.declared.Refusal.TheVariants as refusal
use Rattle.gh_base.specs.declared.Span.{Span}
use Rattle.gh_bindings.specs.declared.binding.Operand.{Operand}
use Rattle.gh_bindings.specs.declared.binding.Operand.TheVariants as operand
use Rattle.gh_bindings.specs.declared.binding.Binding.{Binding}
use Rattle.gh_tree_form.specs.Form.{has_name}
use Rattle.gh_tree_form.specs.Grammar.{AreOthers, AreDifferent, IsFirstForm}
use Rattle.gh_tree_form.proofs.Forward.{form_is}
use Rattle.gh_tree_form.proofs.Names.{no_true, ids_same, ids_differ}
use Rattle.gh_check.specs.declared.phases.Checked.{Checked}
use Rattle.gh_check.specs.declared.phases.Checked.TheVariants as checked
use Rattle.gh_check.specs.Check.{linked_of, scoped}
use Rattle.gh_check.specs.Scope.{unknown_use, first_of, first_in, first_unknown, IsBound, IsGood, AllGood, AreGood, IsScoped}
use Rattle.gh_check.specs.Scoping.{ScopeIsExact}

-- one binding more before the others
bound_later : (x : Binding) (bs : List Binding) (n : NameId) → x.name ≢ n → IsBound bs n → IsBound (x ∷ bs) n
bound_later x bs n h b = record {
  before = x ∷ b.before;
  binding = b.binding;
  after = b.after;
  is = ap (λ l. x ∷ l) b.is;
  named = b.named;
  others_before = (h, b.others_before);
  others_after = b.others_after;
}

bound_here : (x : Binding) (bs : List Binding) (n : NameId) → x.name ≡ n → AreOthers x.name bs → IsBound (x ∷ bs) n
bound_here x bs n e h = record {
  before = [];
  binding = x;
  after = bs;
  is = refl;
  named = e;
  others_before = tt;
  others_after = subst (λ y. AreOthers y bs) e h;
}

bound_of : (bs : List Binding) (n : NameId) → AreDifferent bs → has_name bs n ≡ true → IsBound bs n
bound_of [] n a h = absurd (no_true (sym h))
bound_of (x ∷ bs) n a h = by (nat_eq n.0 x.name.0) refl (bound_of bs n a.1)
  where
    by : (c : Bool) → nat_eq n.0 x.name.0 ≡ c → (has_name bs n ≡ true → IsBound bs n) → IsBound (x ∷ bs) n
    by true e f = bound_here x bs n (sym (ids_same n x.name e)) a.0
    by false e f = bound_later x bs n (λ s. ids_differ n x.name e (sym s)) (f (sym (ap (λ c. c || has_name bs n) e) ∙ h))

or_true : (a : Bool) → a || true ≡ true
or_true true = refl
or_true false = refl

same_number : (a b : NameId) → b ≡ a → nat_eq a.0 b.0 ≡ true
same_number a b e = let f : NameId → ℕ = λ x. x.0 in eq-eqb a.0 b.0 (ap f (sym e))

has_inside : (before after : List Binding) (b : Binding) (n : NameId) → b.name ≡ n → has_name (before ++ b ∷ after) n ≡ true
has_inside [] after b n e = ap (λ c. c || has_name after n) (same_number n b.name e)
has_inside (x ∷ before) after b n e = ap (λ c. nat_eq n.0 x.name.0 || c) (has_inside before after b n e) ∙ or_true (nat_eq n.0 x.name.0)

has_bound : (bs : List Binding) (n : NameId) → IsBound bs n → has_name bs n ≡ true
has_bound bs n b = ap (λ l. has_name l n) b.is ∙ has_inside b.before b.after b.binding n b.named

-- uses
no_use : (r : Refusal) (o : Option Refusal) → first_of (Some r) o ≡ None → ⊥
no_use r o h = cc

abbrev use_if : Bool → NameId → Span → Option Refusal
use_if c n s = if c then None else Some (refusal.UnknownName s n)

good_use : (bs : List Binding) (o : Operand) → AreDifferent bs → unknown_use bs o ≡ None → IsGood bs o
good_use bs (operand.Text chars) a h = tt
good_use bs (operand.Name n s) a h = by (has_name bs n) refl h
  where
    by : (c : Bool) → has_name bs n ≡ c → use_if c n s ≡ None → IsBound bs n
    by true e f = bound_of bs n a e
    by false e f = absurd (cc)

use_good : (bs : List Binding) (o : Operand) → IsGood bs o → unknown_use bs o ≡ None
use_good bs (operand.Text chars) g = refl
use_good bs (operand.Name n s) g = ap (λ c. use_if c n s) (has_bound bs n g)

first_none : (a b : Option Refusal) → first_of a b ≡ None → a ≡ None
first_none None b h = refl
first_none (Some r) b h = absurd (no_use r b h)

later_none : (a b : Option Refusal) → first_of a b ≡ None → b ≡ None
later_none None b h = h
later_none (Some r) b h = absurd (no_use r b h)

good_operands : (bs : List Binding) (os : List Operand) → AreDifferent bs → first_in bs os ≡ None → AllGood bs os
good_operands bs [] a h = tt
good_operands bs (o ∷ os) a h =
    (good_use bs o a (first_none (unknown_use bs o) (first_in bs os) h), good_operands bs os a (later_none (unknown_use bs o) (first_in bs os) h))

operands_good : (bs : List Binding) (os : List Operand) → AllGood bs os → first_in bs os ≡ None
operands_good bs [] g = refl
operands_good bs (o ∷ os) g = ap (λ u. first_of u (first_in bs os)) (use_good bs o g.0) ∙ operands_good bs os g.1

good_uses : (bs rest : List Binding) → AreDifferent bs → first_unknown bs rest ≡ None → AreGood bs rest
good_uses bs [] a h = tt
good_uses bs (b ∷ rest) a h =
    (good_operands bs b.operands a (first_none (first_in bs b.operands) (first_unknown bs rest) h), good_uses bs rest a (later_none (first_in bs b.operands) (first_unknown bs rest) h))

uses_good : (bs rest : List Binding) → AreGood bs rest → first_unknown bs rest ≡ None
uses_good bs [] g = refl
uses_good bs (b ∷ rest) g = ap (λ u. first_of u (first_unknown bs rest)) (operands_good bs b.operands g.0) ∙ uses_good bs rest g.1

-- the link
scoped_none : (bs : List Binding) (u : Option Refusal) → scoped bs u ≡ checked.Program bs → u ≡ None
scoped_none bs None h = refl
scoped_none bs (Some r) h = absurd (cc)

abbrev choice : List Binding → Bool → Option Refusal → Checked
choice bs c u = if c then scoped bs u else checked.Refused refusal.NoMain

choice_main : (bs : List Binding) (c : Bool) (u : Option Refusal) → choice bs c u ≡ checked.Program bs → c ≡ true
choice_main bs true u h = refl
choice_main bs false u h = absurd (cc)

choice_uses : (bs : List Binding) (c : Bool) (u : Option Refusal) → choice bs c u ≡ checked.Program bs → u ≡ None
choice_uses bs true u h = scoped_none bs u h
choice_uses bs false u h = absurd (cc)

accepted : (bs : List Binding) → IsScoped bs → linked_of bs ≡ checked.Program bs
unfolding linked_of
accepted bs good = ap (λ c. choice bs c (first_unknown bs bs)) (has_bound bs MAIN good.0) ∙ ap (scoped bs) (uses_good bs bs good.1)

good_program : (bs : List Binding) → AreDifferent bs → linked_of bs ≡ checked.Program bs → IsScoped bs
unfolding linked_of
good_program bs a h = (
  bound_of bs MAIN a (choice_main bs (has_name bs MAIN) (first_unknown bs bs) h),
  good_uses bs bs a (choice_uses bs (has_name bs MAIN) (first_unknown bs bs) h),
)

pub scope_is_exact : ScopeIsExact
scope_is_exact t bs is = let m : IsFirstForm t bs = form_is t bs is in (accepted bs, good_program bs m.differ)
