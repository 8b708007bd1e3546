use Rattle.std.proofs.Common.{◌+◌, map, length, [], sym, ap, ◌∙◌}
use Rattle.gh_base.specs.declared.refusal.Limit.TheVariants.{Bindings}
use Rattle.gh_limits.specs.Bound.{different, joined}
use Rattle.gh_limits.specs.Inside.{Declared, sum_of, names_at, patterns_at, decl_item_declared}
use Rattle.gh_limits.specs.Places.{place}
use Rattle.gh_limits.specs.Seen.{keeps}
use Rattle.gh_limits.proofs.Few.{place_bound}
use Rattle.gh_limits.proofs.Found.{map_twice}
use Rattle.gh_limits.proofs.Seen.{kept_all}
use Rattle.gh_limits.proofs.clauses.bindings_place.Goals as goal

pub returns : goal.returns
returns c = c.place.ensures
    ∙ (λ j. place Bindings ((c.len.ensures.value
    ∙ ap length (c.see_decls.ensures ∙ ap (λ s. keeps s (joined (map names_at c.args.decls.now))) c.new-seen.ensures)
    ∙ kept_all (joined (map names_at c.args.decls.now))) j + c.patterns_in-patterns.ensures j))
    ∙ place_bound (different [] (joined (map names_at c.args.decls.now))) (sum_of (map patterns_at c.args.decls.now))
    ∙ sym (λ j. place Bindings (different [] (joined (map_twice (λ (d : Declared). d.names) decl_item_declared c.args.decls.now j))
    + sum_of (map_twice (λ (d : Declared). d.patterns) decl_item_declared c.args.decls.now j)))
