-- Three programs with a full typing.
use Rattle.std.proofs.Common.{◌≡◌, ℕ, ◌<◌, ◌≤◌, true, false, List, [], ◌∷◌, map, Option, Some, None, All, refl, sym, ap, ◌∙◌, arith}
use Rattle.std.proofs.lemmas.List.Elements.{All-nil, All-cons}
use Rattle.gh_base.specs.declared.fixed.TheConstants.{LIST}
use Rattle.gh_base.specs.declared.place.TyCon.TheVariants as head
use Rattle.gh_typeterm.specs.declared.kind.Kind.{Kind}
use Rattle.gh_typeterm.specs.declared.kind.Kind.TheVariants.{Star, Arrow}
use Rattle.gh_typeterm.specs.declared.ty.TyNode.TheVariants as t
use Rattle.gh_typeterm.proofs.Folds.{folds}
use Rattle.gh_unify.specs.Types as ty
use Rattle.gh_unify.specs.Types.{Mono, mono, inst}
use Rattle.gh_kernel.specs.declared.names.TopName.TheVariants.{Named}
use Rattle.gh_kernel.specs.BuiltIn.{list_of}
use Rattle.gh_kernel.specs.Bridge.{Prints}
use Rattle.gh_kernel.specs.Modules.{all_nodes, ModulesTyped}
use Rattle.gh_kernel.specs.Types.{HasKind, Scope, primitive_scope, global, monomorphic, signed_scheme, TypeName, arrow, char_type, int_type, list_type, assigned, places_from, base_at, occurs_in}
use Rattle.gh_kernel.specs.Typing.{Typed, full, IsGood, IsFine, IsApart, AreFresh, Fixes, all_among, listed}
use Rattle.gh_kernel.specs.TypingExamples.{given, main, choose, with_notes, plain, with_a, a, string_type, bool_type, g_function, choose_signature, polymorphic, polymorphic_notes, choosing, choosing_notes, generic, generic_notes}
use Rattle.gh_kernel.specs.TypingLaws.{IsWorked, WorkedTypings}

abbrev pub star : ℕ → Kind
star v = Star

-- kinds ----------------------------------------------------------------------------------------------------------------------

abbrev pub IsValue : Mono → Type 0
IsValue u = HasKind given.heads star u Star

pub to : (s u : Mono) → IsValue s → IsValue u → IsValue (arrow s u)
to s u h k = (Star, (Star, refl, h), k)

pub list : (u : Mono) → IsValue u → IsValue (list_type u)
list u h = (Star, refl, h)

pub text : IsValue string_type
text = list char_type refl

-- notes ----------------------------------------------------------------------------------------------------------------------

pub none_sized : All (λ u. ty.nodes u ≤ 1000) []
none_sized = All-nil (λ u. ty.nodes u ≤ 1000)

pub one_sized : (u : Mono) → ty.nodes u ≤ 1000 → All (λ u. ty.nodes u ≤ 1000) (u ∷ [])
one_sized u h = All-cons (λ u. ty.nodes u ≤ 1000) u [] h none_sized

pub good_plain : (u : Mono) (at : List Mono) → IsValue u → ty.nodes u ≤ 1000 → All (λ u. ty.nodes u ≤ 1000) at → all_among [] (u ∷ at) ≡ true → IsGood full given star (plain u at)
good_plain u at k size sizes closed = ((k, All-nil (λ (e : ℕ × Kind). star e.0 ≡ e.1), closed), (size, sizes))

pub good_a : (u : Mono) (at : List Mono) → IsValue u → ty.nodes u ≤ 1000 → All (λ u. ty.nodes u ≤ 1000) at → all_among (0 ∷ []) (u ∷ at) ≡ true → IsGood full given star (with_a u at)
good_a u at k size sizes closed = ((k, All-cons (λ (e : ℕ × Kind). star e.0 ≡ e.1) (0, Star) [] refl (All-nil (λ (e : ℕ × Kind). star e.0 ≡ e.1)), closed), (size, sizes))

-- of no types of instances
pub plain_0 : (u : Mono) → IsValue u → ty.nodes u ≤ 1000 → all_among [] (u ∷ []) ≡ true → IsGood full given star (plain u [])
plain_0 u k size closed = good_plain u [] k size none_sized closed

pub a_0 : (u : Mono) → IsValue u → ty.nodes u ≤ 1000 → all_among (0 ∷ []) (u ∷ []) ≡ true → IsGood full given star (with_a u [])
a_0 u k size closed = good_a u [] k size none_sized closed

-- the variable at hand occurs in no type outside
pub fresh_0 : (Γ : Scope) → occurs_in Γ 0 ≡ false → AreFresh full given star Γ (λ k. None) (0 ∷ [])
fresh_0 Γ h = (All-cons (λ v. occurs_in Γ v ≡ false) 0 [] h (All-nil (λ v. occurs_in Γ v ≡ false)), (λ i d lt j t e. absurd (none j t e)))
  where
    none : (k : ℕ) (t : TypeName) → None ≡ Some t → ⊥
    none k t e = cc

-- a polymorphic function -----------------------------------------------------------------------------------------------------

string_string : IsValue (arrow string_type string_type)
string_string = to string_type string_type text text

pub good_string : IsGood full given star (plain string_type [])
good_string = plain_0 string_type text (omega arith) refl

pub good_var : IsGood full given star (with_a a [])
good_var = a_0 a refl (omega arith) refl

pub a_to_a : IsValue (arrow a a)
a_to_a = to a a refl refl

polymorphic_typed : ModulesTyped full given star (all_nodes polymorphic) primitive_scope (with_notes polymorphic_notes polymorphic)
polymorphic_typed =
    let used = good_plain (arrow string_type string_type) (string_type ∷ []) string_string (omega arith) (one_sized string_type (omega arith)) refl in
    ((((a_to_a, omega arith), (a, (refl, omega arith), (λ h. (good_var, (refl, refl))), (λ h. (a_0 (arrow a a) a_to_a (omega arith) refl, refl))), (λ h. (good_a (arrow a a) (a ∷ []) a_to_a (omega arith) (one_sized a (omega arith)) refl, refl)), tt), ((refl, fresh_0 primitive_scope refl, tt), tt), (((text, omega arith), ((λ h. (used, ((text, refl), refl))), (λ h. (good_string, refl)), (λ h. (good_string, refl))), (λ h. (good_string, refl)), tt), ((refl, ((λ i d h. absurd (omega (arith, h))), (λ i d h. absurd (omega (arith, h)))), tt), tt), tt)), tt, tt)

pub polymorphic_worked : IsWorked polymorphic polymorphic_notes
polymorphic_worked =
    let prints : Prints given (with_notes polymorphic_notes polymorphic) main = (star, polymorphic_typed, (plain string_type [], refl, (λ h. (good_string, (refl, refl))))) in
    (prints, (with_notes polymorphic_notes polymorphic, refl, prints))

-- a function with a signature and a case -------------------------------------------------------------------------------------

signature_is : mono choose_signature.ty ≡ arrow bool_type (arrow a (arrow a a))
signature_is = simp folds

b_a_a_a : IsValue (arrow bool_type (arrow a (arrow a a)))
b_a_a_a = to bool_type (arrow a (arrow a a)) refl (to a (arrow a a) refl a_to_a)

good_bool : IsGood full given star (plain bool_type [])
good_bool = plain_0 bool_type refl (omega arith) refl

good_pair : IsGood full given star (with_a (arrow a a) [])
good_pair = a_0 (arrow a a) a_to_a (omega arith) refl

a_a_a : IsValue (arrow a (arrow a a))
a_a_a = to a (arrow a a) refl a_to_a

choosing_typed : ModulesTyped full given star (all_nodes choosing) primitive_scope (with_notes choosing_notes choosing)
choosing_typed =
    let at_signature = sym (ap (inst (assigned (0 ∷ []) (a ∷ []))) signature_is) in
    let good_bound = good_a (arrow bool_type (arrow a (arrow a a))) (a ∷ []) b_a_a_a (omega arith) (one_sized a (omega arith)) refl in
    let s = string_type in
    let ss : IsValue (arrow s s) = string_string in
    let sss : IsValue (arrow s (arrow s s)) = to s (arrow s s) text ss in
    let used = good_plain (arrow bool_type (arrow s (arrow s s))) (s ∷ []) (to bool_type (arrow s (arrow s s)) refl sss) (omega arith) (one_sized s (omega arith)) refl in
    let at_string = sym (ap (inst (assigned (0 ∷ []) (s ∷ []))) signature_is) in
    ((((b_a_a_a, omega arith), (bool_type, (refl, omega arith), (a, (refl, omega arith), (a, (refl, omega arith), (((λ h. (good_bool, (refl, refl))), tt), (((tt, (λ h. (good_bool, (refl, refl, refl)))), tt), tt, ((λ h. (good_var, (refl, refl))), tt), (((tt, (λ h. (good_bool, (refl, refl, refl)))), tt), tt, ((λ h. (good_var, (refl, refl))), tt), tt)), (λ h. (good_var, (refl, (refl, tt), (refl, (refl, tt), tt))))), (λ h. (good_pair, refl))), (λ h. (a_0 (arrow a (arrow a a)) a_a_a (omega arith) refl, refl))), (λ h. (a_0 (arrow bool_type (arrow a (arrow a a))) b_a_a_a (omega arith) refl, refl))), (λ h. (good_bound, (refl, (0 ∷ [], refl, ((refl, tt), fresh_0 ((global (Named choose), signed_scheme choose_signature) ∷ primitive_scope) refl, (refl, refl), at_signature))))), tt), (tt, tt), (((text, omega arith), ((((λ h. (used, ((text, refl), at_string))), (λ h. (good_bool, (refl, refl))), (λ h. (plain_0 (arrow s (arrow s s)) sss (omega arith) refl, refl))), (λ h. (good_string, refl)), (λ h. (plain_0 (arrow s s) ss (omega arith) refl, refl))), (λ h. (good_string, refl)), (λ h. (good_string, refl))), (λ h. (good_string, refl)), tt), ((refl, ((λ i d h. absurd (omega (arith, h))), (λ i d h. absurd (omega (arith, h)))), tt), tt), tt)), tt, tt)

pub choosing_worked : IsWorked choosing choosing_notes
choosing_worked =
    let prints : Prints given (with_notes choosing_notes choosing) main = (star, choosing_typed, (plain string_type [], refl, (λ h. (good_string, (refl, refl))))) in
    (prints, (with_notes choosing_notes choosing, refl, prints))

-- a generic function with a local redefinition -----------------------------------------------------------------------------------

base_is : mono g_function.base ≡ arrow a string_type
base_is = simp folds

called : (t : Mono) → base_at g_function (t ∷ []) [] ≡ arrow t string_type
called t = ap (inst (assigned (places_from 0 (t ∷ [])) (t ∷ []))) base_is

fixed_none : (o : Option TypeName) → Fixes o []
fixed_none None = tt
fixed_none (Some t) = λ v u lt e. absurd (omega (arith, lt))

-- the fields of the constructor of lists
fields_are : map mono (t.Var 0 ∷ list_of (t.Var 0) ∷ []) ≡ a ∷ list_type a ∷ []
fields_are = simp folds

generic_typed : ModulesTyped full given star (all_nodes generic) primitive_scope (with_notes generic_notes generic)
generic_typed =
    let s = string_type in
    let ss : IsValue (arrow s s) = string_string in
    let cs : IsValue (arrow char_type s) = to char_type s refl text in
    let la : IsValue (list_type a) = list a refl in
    let printer = plain_0 (arrow char_type s) cs (omega arith) refl in
    let good_redef = good_plain s (char_type ∷ []) text (omega arith) (one_sized char_type (omega arith)) refl in
    let fines = All-cons (IsFine full given star) char_type [] (refl, omega arith) (All-nil (IsFine full given star)) in
    let good_list = a_0 (list_type a) la (omega arith) refl in
    let good_con = good_a (list_type a) (a ∷ []) la (omega arith) (one_sized a (omega arith)) refl in
    let good_call = a_0 (arrow a s) (to a s refl text) (omega arith) refl in
    let good_lam = a_0 (arrow (list_type a) s) (to (list_type a) s la text) (omega arith) refl in
    ((((text, omega arith), (record { types = char_type ∷ []; fixes = [] }, fines, refl, ((char_type, (refl, omega arith), (λ h. (good_string, refl)), (λ h. (printer, refl))), tt), ((λ h. (plain_0 (arrow s s) ss (omega arith) refl, (refl, (λ k d h. fixed_none _), sym (called s)))), (λ h. (good_string, refl)), (λ h. (good_string, refl))), (λ h. (good_redef, (refl, refl, (refl, refl), ((refl, omega arith, sym (called char_type)), tt))))), (λ h. (good_string, refl)), tt), ((refl, ((λ i d h. absurd (omega (arith, h))), (λ i d h. absurd (omega (arith, h)))), tt), tt), tt), ((star, (λ v h. refl), (record { kinds = ([], refl, tt); others_kinds = refl; fresh = ((λ i d h. absurd (omega (arith, h))), (λ i d h. absurd (omega (arith, h)))) }, (char_type, (refl, omega arith), (λ h. (good_string, refl)), (λ h. (printer, refl))), (λ h. sym (called char_type)))), ((star, (λ v h. refl), (record { kinds = (Star ∷ [], refl, ((refl, refl), tt)); others_kinds = refl; fresh = fresh_0 ((global (Named main), monomorphic string_type) ∷ primitive_scope) refl }, (list_type a, (la, omega arith), (((λ h. (good_list, (refl, refl))), tt), (((tt, (λ h. (good_con, ((refl, refl), refl, refl)))), tt), tt, ((λ h. (good_string, refl)), tt), (((((λ h. (good_var, tt)), ((λ h. (good_list, tt)), tt)), (λ h. (good_con, ((refl, refl), sym (ap (map (inst (assigned (0 ∷ []) (a ∷ [])))) fields_are), refl)))), tt), tt, (((λ h. (good_call, (refl, (λ k d h. fixed_none _), sym (called a)))), (λ h. (good_var, (refl, refl))), (λ h. (good_string, refl))), tt), tt)), (λ h. (good_string, (refl, (refl, tt), (refl, (refl, tt), tt))))), (λ h. (good_lam, refl))), (λ h. sym (called (list_type a))))), tt)), tt)

pub generic_worked : IsWorked generic generic_notes
generic_worked =
    let prints : Prints given (with_notes generic_notes generic) main = (star, generic_typed, (plain string_type [], refl, (λ h. (good_string, (refl, refl))))) in
    (prints, (with_notes generic_notes generic, refl, prints))

pub worked : WorkedTypings
worked = (polymorphic_worked, choosing_worked, generic_worked)
