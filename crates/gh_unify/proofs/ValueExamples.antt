-- Small cases of values and of levels.
use Rattle.std.proofs.Common.{◌≡◌, ℕ, zero, suc, true, false, List, [], ◌∷◌, Some, None, refl, sym, ap, ◌∙◌, arith}
use Rattle.gh_base.specs.declared.place.TyCon.TheVariants.{Int, Char}
use Rattle.gh_typeterm.specs.declared.ty.TyNode.TheVariants as t
use Rattle.gh_unify.specs.Types.{Mono, con, var, Val, inst, has, mono}
use Rattle.gh_unify.specs.Kept.{HasValues, IsSolution}
use Rattle.gh_unify.specs.Levels.{IsReached}
use Rattle.gh_unify.specs.declared.table.Variable.{Variable}
use Rattle.gh_unify.proofs.Reading.{mono-Con, mono-Var}

-- variable 0 is solved to Char, and variable 1 is rigid
abbrev solved : List Variable
solved = record { level = 1; rigid = false; term = Some (t.Con Char) } ∷ record { level = 2; rigid = true; term = None } ∷ []

-- Char for the first variable, and Int for the rigid one
abbrev values : Val
values zero = con Char
values (suc v) = con Int

pub has_values : HasValues solved values
has_values zero u e =
    let k : mono (t.Con Char) ≡ u = cc in
    sym (ap (inst values) (sym k ∙ mono-Con Char))
has_values (suc zero) u e = absurd (cc)
has_values (suc (suc v)) u e = absurd (cc)

-- a solution leaves the rigid one alone
pub no_solution : IsSolution solved values → ⊥
no_solution s = let k : con Int ≡ var 1 = s.rigid 1 refl in absurd (cc)

-- variable 0, of level 1, is solved to variable 1, of level 2, which so reaches level 1
abbrev joined : List Variable
joined = record { level = 1; rigid = false; term = Some (t.Var 1) } ∷ record { level = 2; rigid = false; term = None } ∷ []

pub reaches_outside : IsReached joined 1 1
reaches_outside = (0, omega arith, ap (has 1) (mono-Var 1), refl)
