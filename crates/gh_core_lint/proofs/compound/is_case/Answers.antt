use Rattle.std.proofs.Common.{map}
use Rattle.std.specs.Prelude.{◌↔◌, [], option_map, IsTrue}
use Rattle.gh_typeterm.specs.declared.kind.Kind.TheVariants as kind
use Rattle.gh_core.specs.Typing.{branches_of, code_of, HasKind, IsCovered, IsScrutinee}
use Rattle.gh_core_lint.specs.Branches.{alt_code}
use Rattle.gh_core_lint.specs.Faults.{AllFit}
use Rattle.gh_core_lint.specs.Programs.{program_of}
use Rattle.gh_core_lint.specs.Types.{type_at}
use Rattle.gh_core_lint.proofs.Composed.{fit_alone, fit_else}
use Rattle.gh_core_lint.proofs.Nodes.{never}
use Rattle.gh_core_lint.proofs.Results.{ok_more}
use Rattle.gh_core_lint.proofs.compound.is_case.Goals as goal

pub returns-then-not-is_scrutinee : goal.returns-then-not-is_scrutinee
returns-then-not-is_scrutinee c =
    let decls = c.args.known.now.decls.now in
    let s = type_at c.args.scrutinee.now in
    never (λ w. let yes = (c.is_scrutinee.ensures decls s c.requires).1 w.1 in let no = c.if-not-is_scrutinee.true in absurd (cc))

pub returns-then-not-all_fit : goal.returns-then-not-all_fit
returns-then-not-all_fit c =
    let p = program_of c.args.known.now in
    let s = type_at c.args.scrutinee.now in
    never (λ w. let yes = c.all_fit.ensures.1 (fit_alone p s (map alt_code c.args.alternatives.now) (option_map code_of c.args.otherwise.now) w.2) in
    let no = c.if-not-all_fit.true in absurd (cc))

pub returns : goal.returns
returns c =
    let p = program_of c.args.known.now in
    let s = type_at c.args.scrutinee.now in
    let xs = map alt_code c.args.alternatives.now in
    let other = option_map code_of c.args.otherwise.now in
    let bs = branches_of xs other in
    let value = c.in_ok-is_value_type.ensures.0 (let yes = c.if-not-branch.false in cc) in
    let taken = (c.is_scrutinee.ensures p.decls s c.requires).0 (let yes = c.if-not-is_scrutinee.false in cc) in
    let fit = fit_else p s xs other (c.all_fit.ensures.0 (let yes = c.if-not-all_fit.false in cc)) in
    ok_more c.goes_on.result (λ holds. IsTrue holds ↔ IsCovered p.decls s bs)
    (λ holds. IsTrue holds ↔ (HasKind p.decls c.args.kinds.now [] (type_at c.args.made.now) kind.Star × IsScrutinee p.decls s × AllFit p s bs × IsCovered p.decls s bs))
    (λ holds e. (λ y. (value, taken, fit, e.0 y), λ w. e.1 w.3))
    c.goes_on.ensures
