use Rattle.std.proofs.Common.{List, map, refl, ap, subst, ◌∙◌, inl}
use Rattle.std.specs.Prelude.{◌↔◌, IsTrue}
use Rattle.gh_typeterm.specs.declared.decl.DeclCon.{DeclCon}
use Rattle.gh_core.specs.Typing.{EachOnce, IsCovered}
use Rattle.gh_core_lint.specs.Branches.{alt_code}
use Rattle.gh_core_lint.specs.Data.{head_of, named_head, IsSeen}
use Rattle.gh_core_lint.specs.Types.{type_at}
use Rattle.gh_core_lint.proofs.Alternatives.{chosen_from, covered_data, covered_none}
use Rattle.gh_core_lint.proofs.Applied.{data_unnamed}
use Rattle.gh_core_lint.proofs.Results.{ok_more}
use Rattle.gh_core_lint.proofs.cases.covered.Goals as goal

pub returns-in-Data : goal.returns-in-Data
returns-in-Data c =
    let decls = c.args.known.now.decls.now in
    let s = type_at c.args.scrutinee.now in
    let bs = chosen_from c.args.alternatives.now in
    ok_more c.each_once.result (λ holds. IsTrue holds ↔ EachOnce c.as_slice.result.now bs) (λ holds. IsTrue holds ↔ IsCovered decls s bs)
    (λ holds e. covered_data decls s c.in-Data.decl.now (map type_at c.in-Data.field-1) (map alt_code c.args.alternatives.now) holds
    (subst (IsSeen decls s) c.in-Data.is c.requires) (subst (λ (cons : List DeclCon). IsTrue holds ↔ EachOnce cons bs) c.as_slice.ensures e))
    c.each_once.ensures

pub returns-in-Int : goal.returns-in-Int
returns-in-Int c =
    let decls = c.args.known.now.decls.now in
    let s = type_at c.args.scrutinee.now in
    covered_none decls s (map alt_code c.args.alternatives.now)
    (data_unnamed decls s (ap (λ t. named_head (head_of t)) (subst (IsSeen decls s) c.in-Int.is c.requires) ∙ refl))

pub returns-in-Char : goal.returns-in-Char
returns-in-Char c =
    let decls = c.args.known.now.decls.now in
    let s = type_at c.args.scrutinee.now in
    covered_none decls s (map alt_code c.args.alternatives.now)
    (data_unnamed decls s (ap (λ t. named_head (head_of t)) (subst (IsSeen decls s) c.in-Char.is c.requires) ∙ refl))

pub returns-in-Other : goal.returns-in-Other
returns-in-Other c =
    let decls = c.args.known.now.decls.now in
    let s = type_at c.args.scrutinee.now in
    covered_none decls s (map alt_code c.args.alternatives.now) (λ d ts w. subst (IsSeen decls s) c.in-Other.is c.requires (inl (d, ts, w)))
