use Rattle.std.proofs.Common.{true, cond, sym, ap, ◌∙◌}
use Rattle.std.specs.HashSet.{contains}
use Rattle.gh_scopes.specs.Keys.{same_key}
use Rattle.gh_scopes.specs.Found.{among}
use Rattle.gh_scopes.proofs.Steps.{seen_step}
use Rattle.gh_scopes.proofs.once.Once.with_new.Goals as goal

pub invariant_of-result : goal.invariant_of-result
invariant_of-result c = (
  (λ x.
      seen_step (contains same_key c.self.inside.seen) (contains same_key c.put_key.new.set) c.self.inside.entries c.args.entry c.self.inside.seen_are
      (λ k. c.in_ok-put_key.ensures k ∙ ap (λ q. cond (same_key q k) true (contains same_key c.self.inside.seen k)) c.entry_key.ensures) x
      ∙ ap (λ l. among l x) (sym c.in_ok-push.ensures.ok)),
  tt,
)
