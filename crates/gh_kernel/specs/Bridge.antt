-- From values of the program to what the rules of typing read: notes, what is given of a program, and its text.
use Rattle.std.specs.Prelude.{◌≡◌, ℕ, cond, List, [], ◌∷◌, ◌++◌, map, Option, Some, None}
use Rattle.gh_base.specs.declared.names.NameId.{NameId}
use Rattle.gh_base.specs.declared.place.Origin.{Origin}
use Rattle.gh_base.specs.declared.place.Span.{Span}
use Rattle.gh_base.specs.declared.place.TyCon.{TyCon}
use Rattle.gh_base.specs.declared.place.TyCon.TheVariants as head
use Rattle.gh_typeterm.specs.declared.decl.DeclData.{DeclData}
use Rattle.gh_typeterm.specs.declared.kind.Kind.{Kind}
use Rattle.gh_typeterm.specs.declared.kind.Kind.TheVariants.{Star, Arrow}
use Rattle.gh_core.specs.Primitives.{same_origin}
use Rattle.gh_unify.specs.Types.{mono}
use Rattle.gh_kernel.specs.declared.functions.Extension.{Extension}
use Rattle.gh_kernel.specs.declared.functions.GenFun.{GenFun}
use Rattle.gh_kernel.specs.declared.kernel.CaseBody.{CaseBody}
use Rattle.gh_kernel.specs.declared.kernel.Kernel.{Kernel}
use Rattle.gh_kernel.specs.declared.names.TopName.TheVariants.{Named}
use Rattle.gh_kernel.specs.declared.signatures.Note.{Note}
use Rattle.gh_kernel.specs.BuiltIn.{built_in}
use Rattle.gh_kernel.specs.Modules.{Top, Clause, Module, noted_top, noted_clause, noted_module, top_of, clause_of, modules_of, all_nodes, module_scope, ModulesTyped, with_parameters}
use Rattle.gh_kernel.specs.Terms.{top}
use Rattle.gh_kernel.specs.Types.{Given, Scope, char_type, list_type, primitive_scope}
use Rattle.gh_kernel.specs.Typing.{Typed, Rules, full, IsTyped}

-- notes --------------------------------------------------------------------------------------------------------------------

-- what typing notes, with its types as plain trees
abbrev pub note_of : Note → Typed
note_of n = record { span = n.span; ty = mono n.ty; at = map mono n.at; kinds = n.kinds }

-- the typing that a program with notes is
abbrev pub typed_of : Kernel Note → List (Module Typed)
typed_of k = map (noted_module note_of) (modules_of (λ (n : Note). n.span) k)

-- what is given ------------------------------------------------------------------------------------------------------------

-- a type constructor among those that are listed with their kinds
abbrev pub kind_among : List (Origin × Kind) → Origin → Option Kind
kind_among [] c = None
kind_among (e ∷ es) c = cond (same_origin e.0 c) (Some e.1) (kind_among es c)

abbrev pub declared_kind : DeclData → Origin × Kind
declared_kind d = (d.origin, with_parameters d.params)

-- the kind of each type constructor: lists and tuples are built in, and so are the arrow, `Int` and `Char`; the layer of a
-- constructor takes one type
abbrev pub heads_of : List (Origin × Kind) → TyCon → Option Kind
heads_of heads (head.Named c) = kind_among (map declared_kind built_in ++ heads) c
heads_of heads head.Arrow = Some (Arrow Star (Arrow Star Star))
heads_of heads head.Int = Some Star
heads_of heads head.Char = Some Star
heads_of heads (head.ConOf c) = Some (Arrow Star Star)

-- what is given of a program: the type constructors with their kinds and the datatypes of its declarations, and its generic
-- functions
abbrev pub given_of : List (Origin × Kind) → List DeclData → List GenFun → Given
given_of heads decls functions = record { heads = heads_of heads; datatypes = decls; functions = functions }

-- the text -----------------------------------------------------------------------------------------------------------------

-- all of a kernel but its notes, of which the places stay
pub record Text : Type 0 where
  pub order : List ℕ
  pub main : Option Origin
  pub groups : List (List (Top Span))
  pub functions : List GenFun
  pub cases : List (Clause Span)
  -- the parameters of each case, as written
  pub names : List (List NameId)
  pub extensions : List Extension

module _ {A : Type 0} (place : A → Span) where
  -- a kernel with its notes taken down to places
  abbrev pub text_of : Kernel A → Text
  text_of k = record {
    order = k.order;
    main = k.main;
    groups = map (map (λ b. noted_top place (top_of place b))) k.groups;
    functions = k.functions;
    cases = map (λ c. noted_clause place (clause_of place c)) k.cases;
    names = map (λ (c : CaseBody A). c.names) k.cases;
    extensions = k.extensions;
  }

-- main ---------------------------------------------------------------------------------------------------------------------

-- the scope after all modules
abbrev pub program_scope : Rules → Given → (ℕ → Kind) → List (Module Typed) → Scope → Scope
program_scope R G κ [] Γ = Γ
program_scope R G κ (m ∷ ms) Γ = program_scope R G κ ms (module_scope R G κ m Γ)

-- a full typing in which the scheme of main has the instance [Char]: a use of main after all modules may have this type
abbrev pub Prints : Given → List (Module Typed) → Origin → Type 0
Prints G typed main =
    (κ : ℕ → Kind) × ModulesTyped full G κ (all_nodes typed) primitive_scope typed
    × ((m : Typed) × (m.ty ≡ list_type char_type) × IsTyped full G κ 1 (program_scope full G κ typed primitive_scope) (λ k. None) (top m (Named main)))

-- the text has such a typing
abbrev pub CanPrint : Given → List (Module Span) → Origin → Type 0
CanPrint G text main = (typed : List (Module Typed)) × (map (noted_module (λ (t : Typed). t.span)) typed ≡ text) × Prints G typed main
