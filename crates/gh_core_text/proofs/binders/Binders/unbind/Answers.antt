use Rattle.std.proofs.Common.{ap, ◌∙◌, nat_eq}
use Rattle.std.specs.HashMap.{get}
use Rattle.std.specs.Prelude.{◌++◌}
use Rattle.std.specs.Option.{option_to_list}
use Rattle.gh_core_text.specs.Entries.{Entry}
use Rattle.gh_core_text.proofs.Nearest.{taken_agrees, taken_befores, taken_there}
use Rattle.gh_core_text.proofs.binders.Binders.unbind.Goals as goal

pub put_back-requires : goal.put_back-requires
put_back-requires c =
    let e : Entry = (c.in-Some.number, c.in-Some.field-0-1, c.in-Some.before) in
    taken_there (get nat_eq c.self.inside.nearest) c.self.inside.entries.items c.pop.new.self.items e
    (c.pop.ensures.items ∙ ap (λ r. c.pop.new.self.items ++ option_to_list r) c.in-Some.is) c.self.inside.agrees

pub invariant_of-self-inside : goal.invariant_of-self-inside
invariant_of-self-inside c =
    let now = get nat_eq c.self.inside.nearest in
    let all = c.self.inside.entries.items in
    let es = c.pop.new.self.items in
    let e : Entry = (c.in-Some.number, c.in-Some.field-0-1, c.in-Some.before) in
    let is = c.pop.ensures.items ∙ ap (λ r. c.pop.new.self.items ++ option_to_list r) c.in-Some.is in (
      taken_agrees now (get nat_eq c.put_back.new.table) all es e is c.self.inside.agrees c.self.inside.undo c.put_back.ensures,
      (taken_befores all es e is c.self.inside.undo, tt),
    )
