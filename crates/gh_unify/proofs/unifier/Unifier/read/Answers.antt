use Rattle.std.proofs.Common.{◌≡◌, ap, ◌∙◌}
use Rattle.std.proofs.lemmas.Result.{IfOk-weaker}
use Rattle.gh_unify.specs.Types.{mono, inst}
use Rattle.gh_unify.specs.Kept.{IsRead, eqs_of}
use Rattle.gh_unify.specs.Tables.{best}
use Rattle.gh_unify.proofs.Ends.{best_read, best_general}
use Rattle.gh_unify.proofs.unifier.Unifier.read.Goals as goal

pub returns-clause-read : goal.returns-clause-read
returns-clause-read c =
    IfOk-weaker c.read.result (λ made. mono made ≡ inst (best (eqs_of c.as_slice.result.now)) (mono c.args.a.now)) (λ made. IsRead c.args.self.now c.args.a.now made)
    (λ r e. best_read c.self.inside.kept.items c.args.self.now c.args.a.now c.self.invariant.tidy c.self.view_is r (e ∙ ap (λ k. inst (best (eqs_of k)) (mono c.args.a.now)) c.as_slice.ensures.value))
    c.read.ensures

pub returns-clause-general : goal.returns-clause-general
returns-clause-general c = best_general c.self.inside.kept.items c.args.self.now c.self.invariant.tidy c.self.view_is

pub returns-clause-value : goal.returns-clause-value
returns-clause-value c =
    let is = c.as_slice.ensures.value ∙ c.self.view_is in
    IfOk-weaker c.read.result (λ made. mono made ≡ inst (best (eqs_of c.as_slice.result.now)) (mono c.args.a.now)) (λ made. mono made ≡ inst (best (eqs_of c.args.self.now)) (mono c.args.a.now))
    (λ r e. e ∙ ap (λ k. inst (best (eqs_of k)) (mono c.args.a.now)) is)
    c.read.ensures
