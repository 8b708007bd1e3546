-- A program has at most one first fault, and a typed one has none.
use Rattle.std.proofs.Common.{◌≡◌, ℕ, suc, List, [], ◌∷◌, sym, ap, ◌∙◌, inl, inr}
use Rattle.gh_core.proofs.OneType.{one_type}
use Rattle.gh_core.specs.declared.terms.CoreProgram.{CoreProgram}
use Rattle.gh_core.specs.declared.terms.Def.{Def}
use Rattle.gh_core.specs.SameType.{Nameless}
use Rattle.gh_core.specs.Typing.{Code, Program, HasType, IsTyped, DefTyped, DefsTyped, known, string_type, placed, type_of, code_of}
use Rattle.gh_core_lint.specs.Faults.{Fault, clash, nodes, RootFails, DefFails, DefsFail, ProgramFails}
use Rattle.gh_core_lint.proofs.Typed.{fails_typed}
use Rattle.gh_core_lint.proofs.OneFault.{one_fault}
use Rattle.std.specs.Prelude.{◌-◌}

root_typed : (p : Program) (t : Code) (w : Nameless) (f : Fault) → RootFails p t w f → HasType p [] [] t w → ⊥
root_typed p t w f (inl h) k = fails_typed p [] [] 0 t f w h k
root_typed p t w f (inr h) k = h.2 (one_type p [] [] t w h.0 k h.1)

def_typed : (p : Program) (d : Def) (f : Fault) → DefFails p d f → DefTyped p d → ⊥
def_typed p d f (inl h) k = h.0 k.0
def_typed p d f (inr h) k = root_typed p (code_of d.term) (placed [] (type_of d.ty)) f h.1 k.1

defs_typed : (p : Program) (n : ℕ) (ds : List Def) (main : Code) (at : ℕ) (f : Fault) → DefsFail p n ds main at f → DefsTyped p ds → HasType p [] [] main string_type → ⊥
defs_typed p n [] main at f h k m = root_typed p main string_type f h.1 m
defs_typed p n (d ∷ ds) main at f (inl h) k m = def_typed p d f h.1 k.0
defs_typed p n (d ∷ ds) main at f (inr h) k m = defs_typed p (suc n) ds main at f h.1 k.1 m

pub typed_faultless : (p : CoreProgram) (at : ℕ) (f : Fault) → ProgramFails p at f → IsTyped p → ⊥
typed_faultless p at f (inl h) k = h.0 (k.datatypes, k.constructors, k.definitions, k.fields)
typed_faultless p at f (inr h) k = defs_typed (known p) 0 p.defs (code_of p.main) at f h.1 k.typed k.main

root_one : (p : Program) (t : Code) (w : Nameless) (f g : Fault) → RootFails p t w f → RootFails p t w g → f ≡ g
root_one p t w f g (inl h) (inl k) = one_fault p [] [] 0 t f g h k
root_one p t w f g (inl h) (inr k) = absurd (fails_typed p [] [] 0 t f k.0 h k.1)
root_one p t w f g (inr h) (inl k) = absurd (fails_typed p [] [] 0 t g h.0 k h.1)
root_one p t w f g (inr h) (inr k) = h.3 ∙ ap (clash (nodes t - 1) w) (one_type p [] [] t h.0 k.0 h.1 k.1) ∙ sym k.3

def_one : (p : Program) (d : Def) (f g : Fault) → DefFails p d f → DefFails p d g → f ≡ g
def_one p d f g (inl h) (inl k) = h.1 ∙ sym k.1
def_one p d f g (inl h) (inr k) = absurd (h.0 k.0)
def_one p d f g (inr h) (inl k) = absurd (k.0 h.0)
def_one p d f g (inr h) (inr k) = root_one p (code_of d.term) (placed [] (type_of d.ty)) f g h.1 k.1

defs_one : (p : Program) (n : ℕ) (ds : List Def) (main : Code) (at to : ℕ) (f g : Fault) → DefsFail p n ds main at f → DefsFail p n ds main to g → (at ≡ to) × (f ≡ g)
defs_one p n [] main at to f g h k = (h.0 ∙ sym k.0, root_one p main string_type f g h.1 k.1)
defs_one p n (d ∷ ds) main at to f g (inl h) (inl k) = (h.0 ∙ sym k.0, def_one p d f g h.1 k.1)
defs_one p n (d ∷ ds) main at to f g (inl h) (inr k) = absurd (def_typed p d f h.1 k.0)
defs_one p n (d ∷ ds) main at to f g (inr h) (inl k) = absurd (def_typed p d g k.1 h.0)
defs_one p n (d ∷ ds) main at to f g (inr h) (inr k) = defs_one p (suc n) ds main at to f g h.1 k.1

pub program_one : (p : CoreProgram) (at to : ℕ) (f g : Fault) → ProgramFails p at f → ProgramFails p to g → (at ≡ to) × (f ≡ g)
program_one p at to f g (inl h) (inl k) = (h.1 ∙ sym k.1, h.2 ∙ sym k.2)
program_one p at to f g (inl h) (inr k) = absurd (h.0 k.0)
program_one p at to f g (inr h) (inl k) = absurd (k.0 h.0)
program_one p at to f g (inr h) (inr k) = defs_one (known p) 0 p.defs (code_of p.main) at to f g h.1 k.1
