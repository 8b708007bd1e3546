-- The names that a list of alternatives needs, with one more at its end.
use Rattle.std.proofs.Common.{◌≡◌, sym, ap, ◌∙◌, Some, ℕ, ◌≤◌, List, [], ◌∷◌, ◌++◌, map, arith}
use Rattle.std.specs.Prelude.{max}
use Rattle.gh_base.specs.declared.place.TyCon.TheVariants.{Int}
use Rattle.gh_core.specs.declared.types.CoreType.{CoreType, fold-roll-CoreType}
use Rattle.gh_core.specs.declared.types.CoreType.TheVariants as t
use Rattle.gh_core.specs.declared.types.CoreType.TheOpen.{CoreType-F}
use Rattle.gh_core.specs.declared.terms.CoreTerm.{CoreTerm, fold-roll-CoreTerm}
use Rattle.gh_core.specs.declared.terms.CoreTerm.TheVariants as c
use Rattle.gh_core.specs.declared.terms.CoreAlt.{CoreAlt}
use Rattle.gh_core.specs.declared.terms.CoreAlt.TheOpen.{CoreTerm-F}
use Rattle.gh_core_text.specs.Needs.{needs_type, needs_type_step, needs_term, needs_alt, needs_all, needs_alt_step, needs_term_step}

pub needs_push : (xs : List CoreAlt) (a : CoreAlt) (n : ℕ) → needs_all (map needs_alt xs) ≤ n → needs_alt a ≤ n → needs_all (map needs_alt (xs ++ a ∷ [])) ≤ n
needs_push [] a n h k = omega arith
needs_push (x ∷ xs) a n h k = let r = needs_push xs a n (omega arith) k in omega arith

pub needs_case : (n : ℕ) (t : CoreTerm) (ty : CoreType) (alts : List CoreAlt) (o : CoreTerm) → needs_term t ≤ n → needs_type ty ≤ n → needs_all (map needs_alt alts) ≤ n → needs_term o ≤ n
    → needs_term (c.Case t ty alts (Some o)) ≤ n
needs_case n t ty alts o h k l m =
    let e : needs_term (c.Case t ty alts (Some o)) ≡ max (max (needs_term t) (needs_type ty)) (max (needs_all (map needs_alt alts)) (needs_term o))
    = ap needs_term (sym (c.rolls-Case t ty alts (Some o))) ∙ fold-roll-CoreTerm ℕ ℕ needs_alt_step needs_term_step (CoreTerm-F.Case t ty alts (Some o)) in
    omega arith

pub needs_int : (n : ℕ) → needs_type (t.Con Int) ≤ n
needs_int n =
    let e : needs_type (t.Con Int) ≡ 0 = ap needs_type (sym (t.rolls-Con Int)) ∙ fold-roll-CoreType ℕ needs_type_step (CoreType-F.Con Int) in
    omega arith
