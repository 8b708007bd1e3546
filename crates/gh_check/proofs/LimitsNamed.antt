-- A limit that is passed has no names.
use Rattle.std.proofs.Common.{ℕ, Bool, true, false, List, [], ◌∷◌, map, Option, Some, None, if◌then◌else◌}
use Rattle.std.specs.Prelude.{nat_lt}
use Rattle.gh_base.specs.declared.Refusal.{Refusal}
use Rattle.gh_base.specs.declared.Span.{Span}
use Rattle.gh_base.specs.declared.refusal.Limit.{Limit}
use Rattle.gh_base.specs.declared.refusal.Limit.TheVariants.{Clauses}
use Rattle.gh_limits.specs.Limits.{clauses_from, earlier, first_passed, goes_on_behind, item_at, last_of, limits_of, or_else, passed_at, passed_in, refused, span_of, top_counts, up_to}
use Rattle.gh_limits.specs.Places.{first_place, limit_at, place}
use Rattle.gh_tree.specs.declared.module_tree.Item.{Item}
use Rattle.gh_tree.specs.declared.module_tree.Item.TheVariants as item
use Rattle.gh_tree.specs.declared.module_tree.ModuleTree.{ModuleTree}
use Rattle.gh_tree.specs.declared.tops.Top.{Top}
use Rattle.gh_lines.specs.Lines.{Table, IsNamed}

abbrev pub MaybeNamed : Table → Option Refusal → Type 0
MaybeNamed table None = Unit {0}
MaybeNamed table (Some r) = IsNamed table r

refused_named : (table : Table) (w : Option Limit) (s : Span) → MaybeNamed table (refused w s)
unfolding IsNamed
refused_named table None s = tt
refused_named table (Some w) s = tt

either_named : (table : Table) (b : Bool) (p q : Option Refusal) → MaybeNamed table p → MaybeNamed table q → MaybeNamed table (if b then p else q)
either_named table true p q x y = x
either_named table false p q x y = y

earlier_named : (table : Table) (inside : ℕ) (span : Span) (clauses : ℕ) (whole : Span) → MaybeNamed table (earlier inside span clauses whole)
earlier_named table inside span clauses whole =
    either_named table (nat_lt inside clauses) (refused (limit_at inside) span) (refused (limit_at clauses) whole) (refused_named table (limit_at inside) span) (refused_named table (limit_at clauses) whole)

at_named : (table : Table) (before : Item) (t : Top) (xs : List Item) → MaybeNamed table (passed_at before t xs)
at_named table before t xs =
    either_named table (goes_on_behind before t) (refused (limit_at (first_place (top_counts t))) (span_of t))
    (earlier (first_place (top_counts t)) (span_of t) (place Clauses (clauses_from t 1 xs).0) (up_to (span_of t) (clauses_from t 1 xs).1))
    (refused_named table (limit_at (first_place (top_counts t))) (span_of t))
    (earlier_named table (first_place (top_counts t)) (span_of t) (place Clauses (clauses_from t 1 xs).0) (up_to (span_of t) (clauses_from t 1 xs).1))

in_item_named : (table : Table) (before x : Item) (xs : List Item) → MaybeNamed table (passed_in before x xs)
in_item_named table before (item.Top t) xs = at_named table before t xs
in_item_named table before item.Empty xs = tt
in_item_named table before (item.Import y) xs = tt

or_named : (table : Table) (p q : Option Refusal) → MaybeNamed table p → MaybeNamed table q → MaybeNamed table (or_else p q)
or_named table None q x y = y
or_named table (Some r) q x y = x

passed_named : (table : Table) (before : Item) (xs : List Item) → MaybeNamed table (first_passed before xs)
passed_named table before [] = tt
passed_named table before (x ∷ xs) = or_named table (passed_in before x xs) (first_passed (last_of before x) xs) (in_item_named table before x xs) (passed_named table (last_of before x) xs)

pub limits_named : (table : Table) (t : ModuleTree) → MaybeNamed table (limits_of t)
limits_named table t = passed_named table item.Empty (t.first ∷ map item_at t.others)
