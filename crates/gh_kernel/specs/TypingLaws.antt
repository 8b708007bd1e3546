-- What the rules of typing say of small programs, and laws on what notes determine.
use Rattle.std.specs.Prelude.{◌≡◌, ℕ, ◌-◌, ◌≤◌, true, cond, ◌==◌, List, [], ◌∷◌, ◌++◌, map, Option, Some, None, All}
use Rattle.gh_base.specs.declared.names.NameId.{NameId}
use Rattle.gh_base.specs.declared.place.Span.{Span}
use Rattle.gh_typeterm.specs.declared.kind.Kind.{Kind}
use Rattle.gh_typeterm.specs.declared.kind.Kind.TheVariants.{Star}
use Rattle.gh_unify.specs.Types as ty
use Rattle.gh_unify.specs.Types.{Mono, mono, has}
use Rattle.gh_kernel.specs.declared.functions.GenFun.{GenFun}
use Rattle.gh_kernel.specs.declared.kernel.Kernel.{Kernel}
use Rattle.gh_kernel.specs.declared.signatures.Note.{Note}
use Rattle.gh_kernel.specs.declared.signatures.Signed.{Signed}
use Rattle.gh_kernel.specs.Bridge.{Prints, CanPrint, typed_of, text_of}
use Rattle.gh_kernel.specs.General.{IsMostGeneral, text_typed}
use Rattle.gh_kernel.specs.Programs.{or_else}
use Rattle.gh_kernel.specs.Modules.{Top, Clause, Module, modules_of, all_nodes, case_variables, TopsTyped, IsTyping, IsFullTyping}
use Rattle.gh_kernel.specs.Nodes.{table_nodes}
use Rattle.gh_kernel.specs.Terms.{Expr, lam, redef, Binds, bind, Table}
use Rattle.gh_kernel.specs.Types.{Given, HasKind, Scope, TypeName, TypeNames, local, monomorphic, signed_scheme}
use Rattle.gh_kernel.specs.Typing.{Typed, Rules, full, full_exact, IsRigid, AreDistinct, IsTyped, BindsTyped, with_name}
use Rattle.gh_kernel.specs.TypingExamples.{given, main, with_notes, placed, polymorphic, polymorphic_notes, choosing, choosing_notes, generic, generic_notes, redefined_twice, parameter_used, any_to_int, recursive, two_groups, two_groups_notes, identity_alone, nothing_quantified, at_characters, inner_groups, one_number, kinds_forgotten, Numbered}

-- programs with a full typing --------------------------------------------------------------------------------------------------

-- these notes are a full typing of the program, and main is a text in it
abbrev pub IsWorked : Numbered → (ℕ → Typed) → Type 0
IsWorked program notes = Prints given (with_notes notes program) main × CanPrint given (placed program) main

-- a polymorphic function, a function with a signature and a case, and a generic function with a local redefinition
abbrev pub WorkedTypings : Type 0
WorkedTypings = IsWorked polymorphic polymorphic_notes × IsWorked choosing choosing_notes × IsWorked generic generic_notes

-- programs without ---------------------------------------------------------------------------------------------------------------

-- no notes are a typing of the program, whatever rules are kept beside the demands
abbrev pub HasNoTyping : Numbered → Type 0
HasNoTyping program = (R : Rules) (notes : ℕ → Typed) → IsTyping R given (all_nodes program) (with_notes notes program) → ⊥

-- what a type name stands for is bound outside: at the name of a redefinition, at the parameter of a case, and there also of a
-- function with a signature
abbrev pub NamesAreFixed : Type 0
NamesAreFixed = HasNoTyping redefined_twice × HasNoTyping (parameter_used None) × HasNoTyping (parameter_used (Some any_to_int))

-- inside its group a name has one type
abbrev pub GroupsHaveOneType : Type 0
GroupsHaveOneType = HasNoTyping recursive

-- a note that leaves out the kind of a variable is none
abbrev pub KindsAreListed : Type 0
KindsAreListed = IsFullTyping given (with_notes kinds_forgotten identity_alone) → ⊥

-- what notes determine -----------------------------------------------------------------------------------------------------------

-- what stands in a type where the variable stands in the written one
abbrev pub found : ℕ → Mono → Mono → Option Mono
found v (ty.con c) t = None
found v (ty.var u) t = cond (v == u) (Some t) None
found v (ty.name n) t = None
found v (ty.app f a) (ty.app g b) = or_else (found v f g) (found v a b)
found v (ty.app f a) (ty.con c) = None
found v (ty.app f a) (ty.var u) = None
found v (ty.app f a) (ty.name n) = None

abbrev pub type_or : Option Mono → Mono
type_or None = ty.name 0
type_or (Some t) = t

abbrev pub found_each : List ℕ → Mono → Mono → List Mono
found_each [] p t = []
found_each (v ∷ vs) p t = type_or (found v p t) ∷ found_each vs p t

-- what stands in the type of an annotated term for each variable of the annotation
abbrev pub read_off : Signed → Mono → List Mono
read_off s t = found_each (signed_scheme s).vars (mono s.ty) t

-- the rigid variables of a written type are read off the type of its term, where each variable of the written type is listed
-- once and occurs there
abbrev pub RigidAreRead : Type 0
RigidAreRead = (R : Rules) (G : Given) (κ : ℕ → Kind) (Γ : Scope) (Θ : TypeNames) (s : Signed) (vs : List ℕ) (t : Mono)
    → AreDistinct R G κ (signed_scheme s).vars → All (λ v. has v (mono s.ty) ≡ true) (signed_scheme s).vars
    → IsRigid R G κ Γ Θ s vs t → read_off s t ≡ map ty.var vs

-- the rigid variables of a case are all different
abbrev pub CaseVariablesDiffer : Type 0
CaseVariablesDiffer = (R : Rules) (G : Given) (κ : ℕ → Kind) (f : GenFun) (c : Clause Typed) → AreDistinct R G κ (case_variables f c)

-- most general typings -----------------------------------------------------------------------------------------------------------

-- the notes are a full typing of the program, and no most general one
abbrev pub IsLessGeneral : Numbered → (ℕ → Typed) → Type 0
IsLessGeneral program notes = IsFullTyping given (with_notes notes program) × (IsMostGeneral given (with_notes notes program) → ⊥)

-- an identity noted with nothing quantified, or at one type, and two groups inside one binding that share a number
abbrev pub LessGeneralTypings : Type 0
LessGeneralTypings = IsLessGeneral identity_alone nothing_quantified × IsLessGeneral identity_alone at_characters × IsLessGeneral inner_groups one_number

-- two groups of the top level may share one
abbrev pub GroupsMayShare : Type 0
GroupsMayShare = IsMostGeneral given (with_notes two_groups_notes two_groups)

-- what is typed under the exact rule is typed without it
abbrev pub ExactIsFull : Type 0
ExactIsFull = (G : Given) (n : ℕ) (typed : List (Module Typed)) → IsTyping full_exact G n typed → IsTyping full G n typed

-- types that are bound before their node is looked at --------------------------------------------------------------------------

module _ (G : Given) (κ : ℕ → Kind) where
  -- a type of values, of at most 1,000 nodes
  abbrev pub IsBounded : Mono → Type 0
  IsBounded u = HasKind G.heads κ u Star × (ty.nodes u ≤ 1000)

-- up to any node: the variable of a function has such a type
abbrev pub FunctionsBind : Type 0
FunctionsBind = (G : Given) (κ : ℕ → Kind) (n : ℕ) (Γ : Scope) (Θ : TypeNames) (m : Typed) (x : ℕ) (e : Expr Typed)
    → IsTyped full G κ n Γ Θ (lam m x e) → (u : Mono) × IsBounded G κ u × IsTyped full G κ n ((local x, monomorphic u) ∷ Γ) Θ e

-- .. and that of a binding
abbrev pub BindingsBind : Type 0
BindingsBind = (G : Given) (κ : ℕ → Kind) (n : ℕ) (Γ : Scope) (Θ : TypeNames) (m : Typed) (x : ℕ) (s : Option Signed) (e : Expr Typed) (rest : Binds Typed)
    → BindsTyped full G κ n Γ Θ (bind m x s e rest) → IsBounded G κ m.ty

abbrev pub TopsBind : Type 0
TopsBind = (G : Given) (κ : ℕ → Kind) (n : ℕ) (Γ : Scope) (b : Top Typed) (rest : List (Top Typed)) → TopsTyped full G κ n Γ (b ∷ rest) → IsBounded G κ b.note.ty

-- .. and the types of a redefinition's name
abbrev pub NamesBind : Type 0
NamesBind = (G : Given) (κ : ℕ → Kind) (n : ℕ) (Γ : Scope) (Θ : TypeNames) (m : Typed) (k : ℕ) (text : NameId) (table : Table Typed) (e : Expr Typed)
    → IsTyped full G κ n Γ Θ (redef m k text table e)
    → (t : TypeName) × All (IsBounded G κ) (t.types ++ t.fixes) × IsTyped full G κ (n - table_nodes table) Γ (with_name k t Θ) e

abbrev pub VariablesAreBounded : Type 0
VariablesAreBounded = FunctionsBind × BindingsBind × TopsBind × NamesBind

-- kernels ----------------------------------------------------------------------------------------------------------------------

-- a kernel with notes whose text is that of a program gives a typing of the program's modules
abbrev pub NotesAreTyping : Type 0
NotesAreTyping = (k : Kernel Note) (s : Kernel Span) → text_of (λ (n : Note). n.span) k ≡ text_of (λ (n : Span). n) s
    → text_typed (typed_of k) ≡ modules_of (λ (n : Span). n) s
