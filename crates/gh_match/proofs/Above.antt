-- The numbers in terms, form by form.
use Rattle.std.proofs.Common.{◌≡◌, ℕ, List, [], ◌∷◌, map, Option, Some, None, refl, sym, ap, ◌∙◌}
use Rattle.std.specs.Prelude.{max, option_map}
use Rattle.gh_core.specs.declared.types.CoreType.{CoreType}
use Rattle.gh_core.specs.declared.terms.CoreTerm.{CoreTerm, fold-roll-CoreTerm}
use Rattle.gh_core.specs.declared.terms.CoreTerm.TheVariants as c
use Rattle.gh_core.specs.declared.terms.CoreAlt.{CoreAlt}
use Rattle.gh_core.specs.declared.terms.CoreAlt.TheOpen.{CoreTerm-F}
use Rattle.gh_core.specs.Typing.{Code, a_case, Branch, branch_step, code_step, code_of, branches_of, type_of}
use Rattle.gh_match.specs.Compiled.{branch_of, group_code}
use Rattle.gh_match.specs.Numbers.{above, above_bindings, above_branch, above_branches, alternatives_above, else_above}
use Rattle.gh_match.proofs.Codes.{code_case, code_letrec}

pub above_letrec : (bs : List (ℕ × CoreType × CoreTerm)) (b : CoreTerm) → above (code_of (c.LetRec bs b)) ≡ above_bindings (group_code bs) (above (code_of b))
above_letrec bs b = ap above (code_letrec bs b)

branches_some : (bs : List Branch) (t : Code) → above_branches (branches_of bs (Some t)) ≡ alternatives_above bs (above t)
branches_some [] t = refl
branches_some (b ∷ bs) t = ap (max (above_branch b)) (branches_some bs t)

branches_none : (bs : List Branch) → above_branches (branches_of bs None) ≡ alternatives_above bs 0
branches_none [] = refl
branches_none (b ∷ bs) = ap (max (above_branch b)) (branches_none bs)

pub above_case : (e : CoreTerm) (ty : CoreType) (alts : List CoreAlt) (o : Option CoreTerm) → above (code_of (c.Case e ty alts o)) ≡ max (above (code_of e)) (alternatives_above (map branch_of alts) (else_above o))
above_case e ty alts (Some o) = ap above (code_case e ty alts o) ∙ ap (max (above (code_of e))) (branches_some (map branch_of alts) (code_of o))
above_case e ty alts None =
    ap above (ap code_of (sym (c.rolls-Case e ty alts None)) ∙ fold-roll-CoreTerm Branch Code branch_step code_step (CoreTerm-F.Case e ty alts None))
    ∙ ap (max (above (code_of e))) (branches_none (map branch_of alts))
