use Rattle.std.proofs.Common.{◌∙◌, nat_eq}
use Rattle.std.specs.HashMap.{get}
use Rattle.gh_core_text.specs.Entries.{Entry}
use Rattle.gh_core_text.proofs.Nearest.{added_agrees, added_befores}
use Rattle.gh_core_text.proofs.binders.Binders.bind_at.Goals as goal

pub invariant_of-self-inside-in-Ok : goal.invariant_of-self-inside-in-Ok
invariant_of-self-inside-in-Ok c =
    let old = get nat_eq c.self.inside.nearest in
    let es = c.self.inside.entries.items in
    let e : Entry = (c.args.number, c.args.level, c.copied-before.result) in (
      added_agrees old (get nat_eq c.insert.new.self) c.push.new.self.items es e c.in_ok-push.ensures.items c.self.inside.agrees c.in-Ok.ensures.updates.0,
      (added_befores old c.push.new.self.items es e c.in_ok-push.ensures.items c.self.inside.agrees c.self.inside.undo (c.copied-before.ensures ∙ c.get.ensures.value), tt),
    )
