use Rattle.std.proofs.Common.{ap, ◌∙◌, nat_eq}
use Rattle.std.specs.List.{list_any}
use Rattle.gh_tree_form.proofs.Listed.{any_id}
use Rattle.gh_tree_form.proofs.bindings.Bindings.has.Goals as goal

pub returns : goal.returns
returns c =
    rw (← c.self.view_is) (c.contains.ensures ∙ ap (list_any (λ k. nat_eq c.args.name.0 k)) c.self.invariant ∙ any_id c.args.name.0 c.self.inside.items)
