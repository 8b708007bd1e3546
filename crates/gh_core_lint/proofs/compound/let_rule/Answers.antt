use Rattle.std.proofs.Common.{◌≡◌, List, map, refl, sym, subst, ◌∙◌, inl, inr}
use Rattle.gh_core.specs.SameType.{Nameless}
use Rattle.gh_core.specs.Typing.{bindings_of}
use Rattle.gh_core_lint.specs.Branches.{binding_code}
use Rattle.gh_core_lint.specs.Faults.{written, AreValues, FirstClash, LetFails}
use Rattle.gh_core_lint.specs.Kinds.{AreStars}
use Rattle.gh_core_lint.specs.Programs.{program_of}
use Rattle.gh_core_lint.specs.Stops.{Blames}
use Rattle.gh_core_lint.specs.Types.{type_at}
use Rattle.gh_core_lint.proofs.Blaming.{blames_more}
use Rattle.gh_core_lint.proofs.Composed.{stars_values, values_stars}
use Rattle.gh_core_lint.proofs.Results.{on_err_more, on_ok_more}
use Rattle.gh_core_lint.proofs.compound.let_rule.Goals as goal

pub returns-then-not-branch-clause-err : goal.returns-then-not-branch-clause-err
returns-then-not-branch-clause-err c =
    let p = program_of c.args.known.now in
    let ks = c.args.kinds.now in
    let bs = bindings_of (map binding_code c.args.bindings.now) in
    inl (
      λ w. let yes = c.in_ok-all_values.ensures.1 (subst (AreStars p.decls ks) (sym c.requires.wanted) (values_stars p ks bs w)) in
          let no = c.if-not-branch.true in absurd (cc),
      refl,
    )

pub returns-clause-ok : goal.returns-clause-ok
returns-clause-ok c =
    let p = program_of c.args.known.now in
    let ks = c.args.kinds.now in
    let bs = bindings_of (map binding_code c.args.bindings.now) in
    let us = map type_at c.args.found.now in
    let stars = c.in_ok-all_values.ensures.0 (let yes = c.if-not-branch.false in cc) in
    on_ok_more c.equal_rule.result (map type_at c.args.wanted.now ≡ us) (AreValues p ks bs × (written ks bs ≡ us))
    (λ e. (stars_values p ks bs (subst (AreStars p.decls ks) c.requires.wanted stars), sym c.requires.wanted ∙ e))
    c.equal_rule.ensures.ok

pub returns-clause-err : goal.returns-clause-err
returns-clause-err c =
    let p = program_of c.args.known.now in
    let ks = c.args.kinds.now in
    let bs = bindings_of (map binding_code c.args.bindings.now) in
    let us = map type_at c.args.found.now in
    let stars = c.in_ok-all_values.ensures.0 (let yes = c.if-not-branch.false in cc) in
    on_err_more c.equal_rule.result (λ s. Blames s (FirstClash (map type_at c.args.wanted.now) us c.args.node)) (λ s. Blames s (LetFails p ks bs us c.args.node))
    (λ s. blames_more s (FirstClash (map type_at c.args.wanted.now) us c.args.node) (LetFails p ks bs us c.args.node)
    (λ f h. inr (
      stars_values p ks bs (subst (AreStars p.decls ks) c.requires.wanted stars),
      subst (λ (ws : List Nameless). FirstClash ws us c.args.node f) c.requires.wanted h,
    )))
    c.equal_rule.ensures.err
