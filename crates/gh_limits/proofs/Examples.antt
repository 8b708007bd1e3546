-- Small lists, and files of one item, with what the definitions say of them.
use Rattle.std.proofs.Common.{◌≡◌, ℕ, true, [], ◌∷◌, Some, None, refl}
use Rattle.gh_base.specs.declared.place.Span.{Span}
use Rattle.gh_base.specs.declared.refusal.Limit.TheVariants.{Parameters, Constructors, Fields, Arguments, Clauses}
use Rattle.gh_base.specs.declared.refusal.Refusal.TheVariants.{LimitPassed}
use Rattle.gh_tree.specs.declared.module_tree.Item.TheVariants as item
use Rattle.gh_tree.specs.declared.names.Con.{Con}
use Rattle.gh_tree.specs.declared.names.Name.{Name}
use Rattle.gh_tree.specs.declared.tops.Constr.TheVariants as constr
use Rattle.gh_tree.specs.declared.tops.Top.TheVariants as top
use Rattle.gh_tree.specs.declared.types.ArgType.{ArgType}
use Rattle.gh_tree.specs.declared.types.TypeExpr.{TypeExpr}
use Rattle.gh_limits.specs.declared.clauses.Clause.{Clause}
use Rattle.gh_limits.specs.Bound.{different}
use Rattle.gh_limits.specs.Inside.{clause_counts}
use Rattle.gh_limits.specs.Limits.{passed_in, top_counts}
use Rattle.gh_limits.specs.Places.{count, place, first_place, limit_at}

at_the_limit : place Parameters 8 ≡ 7
unfolding place
at_the_limit = refl

one_more : place Parameters 9 ≡ 0
unfolding place
one_more = refl

-- of two that are passed the first in the table
the_first_of_two : limit_at (first_place (count Clauses 1001 ∷ count Fields 17 ∷ count Arguments 16 ∷ [])) ≡ Some Fields
unfolding place
the_first_of_two = refl

-- `x`, `y` and `x` again
two_names : different [] (1 ∷ 2 ∷ 1 ∷ []) ≡ 2
unfolding different
two_names = refl

abbrev clause : ℕ → Clause
clause name = record { name = name; has_arguments = true }

-- two clauses of `f`, a signature, a clause of `f`, and one of `g`
clauses : clause_counts None 0 (Some (clause 1) ∷ Some (clause 1) ∷ None ∷ Some (clause 1) ∷ Some (clause 2) ∷ [])
    ≡ count Clauses 1 ∷ count Clauses 2 ∷ count Clauses 1 ∷ count Clauses 1 ∷ count Clauses 1 ∷ []
clauses = refl

-- a synonym of eight parameters, and one of nine
eight : (s : Span) (n : Name) (t : TypeExpr)
    → passed_in item.Empty (item.Top (top.Synonym s s n (n ∷ n ∷ n ∷ n ∷ n ∷ n ∷ n ∷ n ∷ []) s t)) [] ≡ None
unfolding place
eight s n t = refl

nine : (s : Span) (n : Name) (t : TypeExpr)
    → passed_in item.Empty (item.Top (top.Synonym s s n (n ∷ n ∷ n ∷ n ∷ n ∷ n ∷ n ∷ n ∷ n ∷ []) s t)) [] ≡ Some (LimitPassed s Parameters)
unfolding place
nine s n t = refl

-- a constructor of three fields
three_fields : (s : Span) (n : Name) (c : Con) (t : ArgType)
    → top_counts (top.Data s s n [] s (constr.Prefix s c (t ∷ t ∷ t ∷ [])) []) ≡ count Parameters 0 ∷ count Constructors 1 ∷ count Fields 3 ∷ []
three_fields s n c t = refl
