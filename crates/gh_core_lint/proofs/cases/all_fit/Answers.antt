use Rattle.std.proofs.Common.{sym, subst, arith}
use Rattle.gh_core.specs.declared.terms.CoreAlt.{CoreAlt}
use Rattle.gh_core_lint.specs.Branches.{alt_code}
use Rattle.gh_core_lint.specs.Faults.{Fits}
use Rattle.gh_core_lint.specs.Programs.{program_of}
use Rattle.gh_core_lint.specs.Types.{type_at}
use Rattle.gh_core_lint.proofs.Alternatives.{fit_more, fit_one}
use Rattle.gh_core_lint.proofs.Nodes.{never}
use Rattle.gh_core_lint.proofs.cases.all_fit.Goals as goal

pub returns-then-not-fits : goal.returns-then-not-fits
returns-then-not-fits c =
    let p = program_of c.args.known.now in
    let s = type_at c.args.scrutinee.now in
    never (λ w. let yes = c.fits.ensures.1 (subst (λ (a : CoreAlt). Fits p s (alt_code a)) (sym c.alternative-item.is)
    (fit_one p s c.args.alternatives.now c.loop-alternative.alternative-index c.alternative-item.result (omega arith) w)) in
    let no = c.if-not-fits.true in absurd (cc))

pub loop-alternative-preserved : goal.loop-alternative-preserved
loop-alternative-preserved c =
    fit_more (program_of c.args.known.now) (type_at c.args.scrutinee.now) c.args.alternatives.now c.loop-alternative.alternative-index c.alternative-item.result (omega arith)
    c.alternative-item.is c.loop-alternative.invariant (c.fits.ensures.0 (let yes = c.if-not-fits.false in cc))
