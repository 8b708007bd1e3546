-- Small terms with their types.
use Rattle.std.proofs.Common.{◌≡◌, ℤ, pos, false, [], ◌∷◌, Some, None, refl, sym, ap, subst, ◌∙◌, inl, inr, arith}
use Rattle.std.specs.Prelude.{codes}
use Rattle.gh_base.specs.declared.fixed.TheConstants.{MAIN_MODULE, MAIN, PRELUDE, BOOL, FALSE, TRUE, PLUS, ERROR, LIST}
use Rattle.gh_base.specs.declared.place.Span.{Span}
use Rattle.gh_base.specs.declared.place.Space.TheVariants.{Types, Values}
use Rattle.gh_base.specs.declared.place.TyCon.TheVariants.{Int, Char}
use Rattle.gh_typeterm.specs.declared.kind.Kind.{Kind}
use Rattle.gh_typeterm.specs.declared.kind.Kind.TheVariants as kind
use Rattle.gh_typeterm.specs.declared.decl.DeclCon.{DeclCon}
use Rattle.gh_typeterm.specs.declared.decl.DeclData.{DeclData}
use Rattle.gh_core.specs.declared.terms.CoreName.{CoreName}
use Rattle.gh_core.specs.declared.terms.CoreName.TheVariants.{Plain}
use Rattle.gh_core.specs.Primitives.{prelude_value}
use Rattle.gh_core.specs.SameType.{Nameless, bound, free, con, applied, forall, any}
use Rattle.gh_core.specs.declared.types.CoreType.{CoreType}
use Rattle.gh_core.specs.declared.types.CoreType.TheVariants as ty
use Rattle.gh_core.specs.declared.terms.CoreTerm.{fold-roll-CoreTerm}
use Rattle.gh_core.specs.declared.terms.CoreTerm.TheVariants as c
use Rattle.gh_core.specs.declared.terms.CoreAlt.TheOpen.{CoreTerm-F}
use Rattle.gh_core.specs.declared.terms.CoreProgram.{CoreProgram}
use Rattle.gh_core.proofs.Nameless.{nameless-Con, nameless-App}
use Rattle.gh_core.specs.Typing.{prelude_type, type_of, code_of, Branch, branch_step, code_step, known, IsTyped, Code, a_var, a_global, a_con, an_int, a_char, a_string, a_prim, a_lam, an_app, a_tylam, a_tyapp, a_letrec, a_case, a_stop, no_binding, binding, Branches, con_branch, int_branch, no_branch, else_branch, branch, Program, arrow, int_type, char_type, string_type, bool_type, placed, EachOnce, IsData, HasKind, HasType, AreDifferent}

abbrev place : Span
place = record { file = 1; from = 4; to = 9 }

abbrev falsehood : DeclCon
falsehood = record { origin = prelude_value FALSE; fields = [] }

abbrev truth : DeclCon
truth = record { origin = prelude_value TRUE; fields = [] }

-- `data Bool = False | True`
abbrev bools : DeclData
bools = record { origin = record { «module» = PRELUDE; space = Types; name = BOOL }; is_newtype = false; params = []; constructors = falsehood ∷ truth ∷ [] }

abbrev main_name : CoreName
main_name = Plain (record { «module» = MAIN_MODULE; space = Values; name = MAIN })

-- a program with this datatype and one definition, `main`
abbrev small : Program
small = record { decls = bools ∷ []; globals = (main_name, string_type) ∷ [] }

abbrev Has : Code → Nameless → Type 0
Has t u = HasType small [] [] t u

-- λ x : Int. x
pub identity_at_int : Has (a_lam 0 int_type (a_var 0)) (arrow int_type int_type)
identity_at_int = (int_type, refl, refl, refl)

-- Λ a : *. λ x : a. x, whatever the numbers of its variables are
pub identity : Has (a_tylam 7 kind.Star (a_lam 3 (free 7) (a_var 3))) (forall kind.Star (arrow (bound 0) (bound 0)))
identity = (arrow (free 0) (free 0), (free 0, refl, refl, refl), refl)

-- that at Int
pub identity_applied : Has (a_tyapp (a_tylam 7 kind.Star (a_lam 3 (free 7) (a_var 3))) int_type) (arrow int_type int_type)
identity_applied = (kind.Star, arrow (bound 0) (bound 0), identity, refl, refl)

-- Λ a. λ x : a. Λ a. x: the type of x is that of the outer variable, though the inner one has its number
pub outer_variable : Has (a_tylam 0 kind.Star (a_lam 0 (free 0) (a_tylam 0 kind.Star (a_var 0)))) (forall kind.Star (arrow (bound 0) (forall kind.Star (bound 1))))
outer_variable = (arrow (free 0) (forall kind.Star (free 0)), (forall kind.Star (free 0), refl, (free 0, refl, refl), refl), refl)

-- the nearest binder of a number counts
pub nearest_variable : Has (a_lam 0 int_type (a_lam 0 char_type (a_var 0))) (arrow int_type (arrow char_type char_type))
nearest_variable = (arrow char_type char_type, refl, (char_type, refl, refl, refl), refl)

-- an application has what its function gives
pub applied_to_int : Has (an_app (a_lam 0 int_type (a_char 97)) (an_int (pos 1))) char_type
applied_to_int = (int_type, (char_type, refl, refl, refl), refl)

-- the names of a `letrec` are in scope in its own terms
pub names_in_scope : Has (a_letrec (binding 5 int_type (a_var 5) no_binding) (a_var 5)) int_type
names_in_scope = ((refl, refl, tt), refl)

-- of equal numbers in one list the first counts
pub first_name : Has (a_letrec (binding 5 int_type (an_int (pos 1)) (binding 5 char_type (a_char 97) no_binding)) (a_var 5)) int_type
first_name = ((refl, refl, (refl, refl, tt)), refl)

abbrev bool_data : IsData (bools ∷ []) bool_type bools []
bool_data = record { there = refl; type = refl; whole = refl }

abbrev both : Branches
both = branch (con_branch (prelude_value FALSE) [] (an_int (pos 1))) (branch (con_branch (prelude_value TRUE) [] (an_int (pos 2))) no_branch)

-- a case with a branch for each constructor
pub case_of_both : Has (a_case (a_con (prelude_value TRUE)) int_type both) int_type
case_of_both = (
  bool_type,
  refl,
  refl,
  refl,
  inl (bools, [], bool_data),
  (((bools, falsehood), [], refl, bool_data, refl, refl), (((bools, truth), [], refl, bool_data, refl, refl), tt)),
  inr (bools, [], bool_data, (refl, (refl, tt))),
)

-- with an `else` one branch will do, and a literal needs one
pub case_with_else : Has (a_case (an_int (pos 3)) char_type (branch (int_branch (pos 3) (a_char 97)) (else_branch (a_stop place char_type)))) char_type
case_with_else = (int_type, refl, refl, refl, inr (inl refl), ((refl, refl), (refl, refl)), inl refl)

-- a constructor that is missing is not there once
pub missing : EachOnce bools.constructors (branch (con_branch (prelude_value FALSE) [] (an_int (pos 1))) no_branch) → ⊥
missing h = absurd (omega (arith, h.1.0))

-- nor is one that is named twice
pub twice : EachOnce bools.constructors (branch (con_branch (prelude_value FALSE) [] (an_int (pos 1))) both) → ⊥
twice h = absurd (omega (arith, h.0))

pub constructor_type : Has (a_con (prelude_value FALSE)) bool_type
constructor_type = refl

pub plus_type : Has (a_prim (prelude_value PLUS) place None) (arrow int_type (arrow int_type int_type))
plus_type = refl

-- `error` at a type
pub error_type : Has (a_prim (prelude_value ERROR) place (Some char_type)) (arrow string_type char_type)
error_type = (refl, refl)

-- and not without one
pub error_alone : (t : Nameless) → Has (a_prim (prelude_value ERROR) place None) t → ⊥
error_alone t h = h

pub string_is_list : Has (a_string (codes "hi")) string_type
string_is_list = refl

pub main_type : Has (a_global main_name) string_type
main_type = refl

-- an integer is no string
pub no_string : Has (an_int (pos 1)) string_type → ⊥
no_string h = absurd (cc)

-- a name that nothing defines has no type
pub unknown : (t : Nameless) → HasType (record { decls = []; globals = [] }) [] [] (a_global main_name) t → ⊥
unknown t h = absurd (cc)

-- a variable that nothing binds has none
pub unbound : (t : Nameless) → Has (a_var 4) t → ⊥
unbound t h = absurd (cc)

-- Int has the kind of values
pub int_kind : HasKind [] [] [] (con Int) kind.Star
int_kind = refl

-- the closed type of a kind has that kind
pub closed_type : (k : Kind) → HasKind [] [] [] (any k) k
closed_type k = refl

-- a variable of a type round the term is its level
pub level : placed ((9, kind.Star) ∷ (4, kind.Star) ∷ []) (applied (free 4) (free 9)) ≡ applied (free 0) (free 1)
level = refl

-- a doubled name is no different one
pub doubled : AreDifferent (prelude_value TRUE ∷ prelude_value TRUE ∷ []) → ⊥
doubled h = absurd (cc)

-- ---- a whole program: `Main.main` of the type of strings, whose term is the integer 1

abbrev text_type : CoreType
text_type = ty.App (ty.Con (prelude_type LIST)) (ty.Con Char)

abbrev lone : CoreProgram
lone = record { decls = []; defs = record { name = main_name; ty = text_type; term = c.Int (pos 1) } ∷ []; main = c.Global main_name }

code-Int : (n : ℤ) → code_of (c.Int n) ≡ an_int n
code-Int n = ap code_of (sym (c.rolls-Int n)) ∙ fold-roll-CoreTerm Branch Code branch_step code_step (CoreTerm-F.CoreTerm::Int n)

text_is : placed [] (type_of text_type) ≡ string_type
text_is = ap (placed []) (nameless-App (ty.Con (prelude_type LIST)) (ty.Con Char) [] ∙ (λ i. applied (nameless-Con (prelude_type LIST) [] i) (nameless-Con Char [] i)))

pub no_integer_as_main : IsTyped lone → ⊥
no_integer_as_main h =
    let e : placed [] (type_of text_type) ≡ int_type = subst (λ t. HasType (known lone) [] [] t (placed [] (type_of text_type))) (code-Int (pos 1)) h.typed.0.1 in
    let k : string_type ≡ int_type = sym text_is ∙ e in
    absurd (cc)
