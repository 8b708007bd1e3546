-- Small cases of the definitions.
use Rattle.std.proofs.Common.{◌≡◌, ◌≤◌, true, false, List, [], ◌∷◌, Some, None, refl, arith}
use Rattle.gh_base.specs.declared.place.TyCon.TheVariants.{Int, Char, Arrow}
use Rattle.gh_typeterm.specs.declared.ty.TyNode.TheVariants as t
use Rattle.gh_unify.specs.Types.{Mono, con, var, app, name, Val, inst, has, nodes, head_of}
use Rattle.gh_unify.specs.Kept.{Eqs, drawn_of, level_of, is_rigid, eqs_of, InScope}
use Rattle.gh_unify.specs.Causes.{Forced}
use Rattle.gh_unify.specs.Causes.Forced.{given, heads, args}
use Rattle.gh_unify.specs.Tables.{best}
use Rattle.gh_unify.specs.declared.table.Variable.{Variable}

abbrev arrow : Mono → Mono → Mono
arrow a b = app (app (con Arrow) a) b

-- a variable at each number
abbrev ints : Val
ints v = con Int

pub replaced : inst ints (arrow (var 0) (name 0)) ≡ arrow (con Int) (name 0)
replaced = refl

pub stands_there : has 3 (arrow (var 3) (con Int)) ≡ true
stands_there = refl

pub stands_not_there : has 3 (arrow (var 2) (name 3)) ≡ false
stands_not_there = refl

pub five_nodes : nodes (arrow (var 0) (con Int)) ≡ 5
five_nodes = refl

pub heads_same : head_of (arrow (var 0) (con Int)) ≡ head_of (app (var 1) (var 2))
heads_same = refl

-- variable 0 of level 1, solved to Char; variable 1 of level 2, unsolved; variable 2, rigid, of level 2
abbrev three : List Variable
three = record { level = 1; rigid = false; term = Some (t.Con Char) } ∷ record { level = 2; rigid = false; term = None } ∷ record { level = 2; rigid = true; term = None } ∷ []

pub how_drawn : drawn_of three ≡ (1, false) ∷ (2, false) ∷ (2, true) ∷ []
how_drawn = refl

pub second_level : level_of (drawn_of three) 1 ≡ 2
second_level = refl

pub third_rigid : is_rigid (drawn_of three) 2 ≡ true
third_rigid = refl

pub none_past : is_rigid (drawn_of three) 3 ≡ false
none_past = refl

pub unsolved : eqs_of three 1 ≡ None
unsolved = refl

pub best_unsolved : best (eqs_of three) 2 ≡ var 2
best_unsolved = refl

-- a rigid variable of level 2 is out of scope for a variable of level 1
pub out_of_scope : (ρ : Val) → ρ 0 ≡ var 2 → InScope (drawn_of three) ρ → ⊥
out_of_scope ρ e h =
    let low : 2 ≤ 1 = h 0 2 (omega arith) refl (λ i. has 2 (e i)) in omega (arith, low)

-- an equation of two arrows forces the results to be equal
abbrev nothing : Eqs
nothing v = None

pub results_forced : Forced nothing (arrow (var 0) (con Int)) (arrow (con Char) (var 1)) (con Int) (var 1)
results_forced = args (app (con Arrow) (var 0)) (con Int) (app (con Arrow) (con Char)) (var 1) given

pub arguments_forced : Forced nothing (arrow (var 0) (con Int)) (arrow (con Char) (var 1)) (var 0) (con Char)
arguments_forced =
    args (con Arrow) (var 0) (con Arrow) (con Char) (heads (app (con Arrow) (var 0)) (con Int) (app (con Arrow) (con Char)) (var 1) given)
