-- The first limit that a file passes, as a relation: this limit is passed at this place, none is at an earlier place, and no
-- earlier limit of the table is passed there.
use Rattle.std.specs.Prelude.{◌≡◌, ℕ, ◌+◌, ◌<◌, ◌≤◌, ◌⊎◌, true, false, List, [], ◌∷◌, length, map, Some, None}
use Rattle.gh_base.specs.declared.place.Span.{Span}
use Rattle.gh_base.specs.declared.refusal.Limit.{Limit}
use Rattle.gh_base.specs.declared.refusal.Limit.TheVariants.{Parameters, Dependencies, Constructors, Fields, Arguments, Clauses}
use Rattle.gh_base.specs.declared.refusal.Refusal.{Refusal}
use Rattle.gh_base.specs.declared.refusal.Refusal.TheVariants.{LimitPassed}
use Rattle.gh_tree.specs.declared.module_tree.Item.{Item}
use Rattle.gh_tree.specs.declared.module_tree.Item.TheVariants as item
use Rattle.gh_tree.specs.declared.module_tree.ModuleTree.{ModuleTree}
use Rattle.gh_tree.specs.declared.tops.Import.{Import}
use Rattle.gh_tree.specs.declared.tops.NextConstr.{NextConstr}
use Rattle.gh_tree.specs.declared.tops.Top.{Top}
use Rattle.gh_tree.specs.declared.tops.Top.TheVariants as top
use Rattle.gh_limits.specs.Limits.{fields_of, dependencies, span_of, continues, goes_on_behind, up_to, item_at, limits_of}
use Rattle.gh_limits.specs.Nodes.{Among, a_decl, a_rhs, CountedInside}
use Rattle.gh_limits.specs.Places.{Count, count, number_of, place_of}

-- so many are more than the limit allows
abbrev pub Passes : Count → Type 0
Passes c = number_of c.which < c.many

-- this is counted at a node of a declaration of the top: at the declaration itself, at one of its constructors, or inside
abbrev pub CountedIn : Count → Top → Type 0
CountedIn c (top.Synonym s a n ps m t) = c ≡ count Parameters (length ps)
CountedIn c (top.Data s a n ps m k ks) = (c ≡ count Parameters (length ps)) ⊎ ((c ≡ count Constructors (1 + length ks)) ⊎ ((c ≡ count Fields (fields_of k)) ⊎ ((x : NextConstr) × Among x ks × (c ≡ count Fields (fields_of x.constr)))))
CountedIn c (top.Newtype s a n ps m k t) = c ≡ count Parameters (length ps)
CountedIn c (top.Signature s v vs m d t) = c ≡ count Dependencies (dependencies d)
CountedIn c (top.Case s v a t b ps r) = (c ≡ count Arguments (length ps)) ⊎ CountedInside c (a_rhs r)
CountedIn c (top.Extends s v m w) = ⊥
CountedIn c (top.Decl d) = CountedInside c (a_decl d)

-- the definition or case of which this declaration is a clause has so many clauses from here on, before these items or among
-- them, and the last one ends here. Empty items do not part them.
pub data HasClauses : Top → List Item → ℕ → ℕ → Type 0 where
  at_the_end : (t : Top) → HasClauses t [] 1 (span_of t).to
  over_an_empty_item : (t : Top) (is : List Item) (many to : ℕ) → HasClauses t is many to → HasClauses t (item.Empty ∷ is) many to
  before_an_import : (t : Top) (x : Import) (is : List Item) → HasClauses t (item.Import x ∷ is) 1 (span_of t).to
  before_another : (t u : Top) (is : List Item) → continues t u ≡ false → HasClauses t (item.Top u ∷ is) 1 (span_of t).to
  with_the_next : (t u : Top) (is : List Item) (many to : ℕ) → continues t u ≡ true → HasClauses u is many to → HasClauses t (item.Top u ∷ is) (many + 1) to

-- a definition or case begins at this declaration, which does not go on from the item before, and has more clauses than
-- allowed; the last one ends here
abbrev pub HasTooManyClauses : Item → Top → List Item → ℕ → Type 0
HasTooManyClauses before t is to = (goes_on_behind before t ≡ false) × ((many : ℕ) × HasClauses t is many to × (number_of Clauses < many))

-- no limit of an earlier place in the table is passed inside this declaration
abbrev pub NoneEarlier : Top → Limit → Type 0
NoneEarlier t which = (c : Count) → CountedIn c t → Passes c → place_of which ≤ place_of c.which

-- the first limit that is passed at a declaration of the top, with the bytes that are refused: those of the declaration, or
-- those of the whole definition where this has too many clauses. Of both, where both are clauses, it is the whole.
pub data FirstAt (before : Item) (t : Top) (is : List Item) : Limit → Span → Type 0 where
  inside_it : (c : Count) → CountedIn c t → Passes c → NoneEarlier t c.which
      → ((to : ℕ) → HasTooManyClauses before t is to → place_of c.which < place_of Clauses) → FirstAt before t is c.which (span_of t)
  of_the_whole : (to : ℕ) → HasTooManyClauses before t is to → NoneEarlier t Clauses → FirstAt before t is Clauses (up_to (span_of t) to)

abbrev pub NoneAt : Item → Top → List Item → Type 0
NoneAt before t is = ((c : Count) → CountedIn c t → Passes c → ⊥) × ((to : ℕ) → HasTooManyClauses before t is to → ⊥)

-- the first limit that is passed in these items, by the last item before them that is not empty
pub data FirstIn : Item → List Item → Refusal → Type 0 where
  at_this : (before : Item) (t : Top) (is : List Item) (which : Limit) (span : Span) → FirstAt before t is which span → FirstIn before (item.Top t ∷ is) (LimitPassed span which)
  behind_this : (before : Item) (t : Top) (is : List Item) (r : Refusal) → NoneAt before t is → FirstIn (item.Top t) is r → FirstIn before (item.Top t ∷ is) r
  behind_an_import : (before : Item) (x : Import) (is : List Item) (r : Refusal) → FirstIn (item.Import x) is r → FirstIn before (item.Import x ∷ is) r
  behind_an_empty_item : (before : Item) (is : List Item) (r : Refusal) → FirstIn before is r → FirstIn before (item.Empty ∷ is) r

-- no limit is passed in these items
pub data NoneIn : Item → List Item → Type 0 where
  none_left : (before : Item) → NoneIn before []
  none_at_this : (before : Item) (t : Top) (is : List Item) → NoneAt before t is → NoneIn (item.Top t) is → NoneIn before (item.Top t ∷ is)
  none_at_an_import : (before : Item) (x : Import) (is : List Item) → NoneIn (item.Import x) is → NoneIn before (item.Import x ∷ is)
  none_at_an_empty_item : (before : Item) (is : List Item) → NoneIn before is → NoneIn before (item.Empty ∷ is)

abbrev pub all_items : ModuleTree → List Item
all_items t = t.first ∷ map item_at t.others

-- the first limit that a file passes
abbrev pub FirstOf : ModuleTree → Refusal → Type 0
FirstOf t r = FirstIn item.Empty (all_items t) r

-- a file passes no limit
abbrev pub NoneOf : ModuleTree → Type 0
NoneOf t = NoneIn item.Empty (all_items t)

abbrev pub Alike : Type 0 → Type 0 → Type 0
Alike a b = (a → b) × (b → a)

-- the answer is a refusal exactly where that is the first, and there is none exactly where none is passed
abbrev pub AnswersFirst : Type 0
AnswersFirst = (t : ModuleTree) → ((r : Refusal) → Alike (limits_of t ≡ Some r) (FirstOf t r)) × Alike (limits_of t ≡ None) (NoneOf t)
