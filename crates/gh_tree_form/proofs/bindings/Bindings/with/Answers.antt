use Rattle.std.proofs.Common.{◌≡◌, ap, sym, ◌∙◌, nat_eq, true, false, ◌++◌, ◌∷◌, [], Some, None, if◌then◌else◌}
use Rattle.std.specs.List.{list_any}
use Rattle.gh_tree_form.proofs.Listed.{any_id, is_new, is_old}
use Rattle.gh_tree_form.proofs.bindings.Bindings.with.Goals as goal

pub returns-then-branch : goal.returns-then-branch
returns-then-branch c =
    let old : list_any (λ k. nat_eq c.args.binding.name.0 k) c.self.inside.names.keys ≡ false = is_new _ _ c.in_ok-insert.ensures.added c.if-branch.true in
    let new : list_any (λ b. nat_eq c.args.binding.name.0 b.name.0) c.self.inside.items ≡ false =
    sym (ap (list_any (λ k. nat_eq c.args.binding.name.0 k)) c.self.invariant ∙ any_id c.args.binding.name.0 c.self.inside.items) ∙ old in
    rw (← c.self.view_is) (ap Some c.in_ok-push.ensures.ok ∙ sym (ap (λ b. if b then None else Some (c.self.inside.items ++ c.args.binding ∷ [])) new))

pub returns : goal.returns
returns c =
    let old : list_any (λ k. nat_eq c.args.binding.name.0 k) c.self.inside.names.keys ≡ true = is_old _ _ c.in_ok-insert.ensures.added c.if-branch.false in
    let known : list_any (λ b. nat_eq c.args.binding.name.0 b.name.0) c.self.inside.items ≡ true =
    sym (ap (list_any (λ k. nat_eq c.args.binding.name.0 k)) c.self.invariant ∙ any_id c.args.binding.name.0 c.self.inside.items) ∙ old in
    rw (← c.self.view_is) (sym (ap (λ b. if b then None else Some (c.self.inside.items ++ c.args.binding ∷ [])) known))
