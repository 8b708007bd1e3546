-- The meaning of a program: what is seen of it after so many steps.
use Rattle.std.specs.Prelude.{ℕ, List, [], ◌∷◌, ◌++◌, map, length}
use Rattle.gh_base.specs.declared.place.Origin.{Origin}
use Rattle.gh_base.specs.declared.place.Span.{Span}
use Rattle.gh_typeterm.specs.declared.decl.DeclCon.{DeclCon}
use Rattle.gh_typeterm.specs.declared.decl.DeclData.{DeclData}
use Rattle.gh_typeterm.specs.Representation.{rep_of}
use Rattle.gh_core.specs.Run.{Seen}
use Rattle.gh_kernel.specs.declared.functions.Dependency.{Dependency}
use Rattle.gh_kernel.specs.declared.functions.GenFun.{GenFun}
use Rattle.gh_kernel.specs.declared.kernel.Binding.{Binding}
use Rattle.gh_kernel.specs.declared.kernel.CaseBody.{CaseBody}
use Rattle.gh_kernel.specs.declared.kernel.Kernel.{Kernel}
use Rattle.gh_kernel.specs.declared.names.TopName.{TopName}
use Rattle.gh_kernel.specs.declared.names.TopName.TheVariants.{Named}
use Rattle.gh_kernel.specs.BuiltIn.{built_in}
use Rattle.gh_kernel.specs.Programs.{Exp, Constructor, Datatype, Function, Case, Program}
use Rattle.gh_kernel.specs.Reading.{term_of, type_of}
use Rattle.gh_kernel.specs.States.{State, demand}
use Rattle.gh_kernel.specs.Steps.{steps}
use Rattle.gh_kernel.specs.Terms.{top}

-- reading a program ------------------------------------------------------------------------------------------------------

abbrev pub constructor_of : DeclCon → Constructor
constructor_of c = record { name = c.origin; fields = map type_of c.fields }

abbrev pub datatype_of : DeclData → Datatype
datatype_of d = record { name = d.origin; is_newtype = d.is_newtype; constructors = map constructor_of d.constructors; representation = type_of (rep_of d) }

abbrev pub function_of : GenFun → Function
function_of f = record { name = f.origin; generic = length f.generic; base = type_of f.base; dependencies = map (λ (d : Dependency). d.function) f.dependencies }

abbrev pub case_of : CaseBody Span → Case
case_of c = record { function = c.function; head = c.head; body = term_of c.term }

abbrev pub binding_of : Binding Span → TopName × Exp
binding_of b = (b.name, term_of b.term)

abbrev pub joined : {X : Type 0} → List (List X) → List X
joined [] = []
joined (xs ∷ rest) = xs ++ joined rest

-- a kernel with the table of its names and with the datatypes that its modules declare
abbrev pub program_of : List (List ℕ) → Kernel Span → List DeclData → Program
program_of texts k decls = record {
  texts = texts;
  datatypes = map datatype_of (built_in ++ decls);
  bindings = map binding_of (joined k.groups);
  functions = map function_of k.functions;
  cases = map case_of k.cases;
  extensions = k.extensions;
}

-- runs -------------------------------------------------------------------------------------------------------------------

-- what is seen of a state: the bytes that were printed, and whether the run goes on
abbrev pub seen : State → Seen
seen s = record { out = s.out; status = s.status }

-- a term, before any step, where nothing was printed
abbrev pub start : Exp → State
start e = demand e [] []

-- a term in a program after n steps
abbrev pub meaning : Program → Exp → ℕ → Seen
meaning p e n = seen (steps p n (start e))

-- the program's main after n steps: the plain binding of this name
abbrev pub main_meaning : Program → Origin → Span → ℕ → Seen
main_meaning p main place n = meaning p (top place (Named main)) n
