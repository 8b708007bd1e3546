use Rattle.std.proofs.Common.{true, cond, sym, ap, ◌∙◌, Some}
use Rattle.std.specs.HashSet.{contains}
use Rattle.std.specs.HashMap.{get}
use Rattle.gh_scopes.specs.Keys.{same_key}
use Rattle.gh_scopes.specs.Found.{one_more, found, has}
use Rattle.gh_scopes.proofs.Steps.{names_step, anywhere_step}
use Rattle.gh_scopes.proofs.table.Table.with.Goals as goal

pub invariant_of-result : goal.invariant_of-result
invariant_of-result c = (
  (λ k.
      names_step (get same_key c.self.inside.names) (get same_key c.put_name.new.names) c.self.inside.entries c.args.entry c.self.inside.names_are
      (λ j. c.in_ok-put_name.ensures j ∙ ap (λ q. cond (same_key q j) (Some (one_more (get same_key c.self.inside.names q) c.args.entry.origin)) (get same_key c.self.inside.names j)) c.serves.ensures) k
      ∙ ap (λ l. found l k) (sym c.in_ok-push.ensures.ok)),
  (
    (λ o.
        anywhere_step (contains same_key c.self.inside.anywhere) (contains same_key c.put_key.new.set) c.self.inside.entries c.args.entry c.self.inside.anywhere_are
        (λ j. c.in_ok-put_key.ensures j ∙ ap (λ q. cond (same_key q j) true (contains same_key c.self.inside.anywhere j)) c.origin_key.ensures) o
        ∙ ap (λ l. has l o) (sym c.in_ok-push.ensures.ok)),
    tt,
  ),
)
