-- What is checked of a plan, for each number, group and edge.
use Rattle.std.specs.Prelude.{◌≡◌, ◌≢◌, ℕ, ◌<◌, ◌≤◌, ◌⊎◌, List, Option, Some, None, slice_get, slice_index}
use Rattle.gh_groups.specs.Grouping.{Has, Ascends}

-- an edge from a number to one of its group with a lower rank
pub record Above (edges : List (ℕ × ℕ)) (places ranks : List ℕ) (v : ℕ) : Type 0 where
  pub edge : ℕ
  pub to : ℕ
  pub is : slice_get edges edge ≡ Some (v, to)
  pub same : slice_index places to ≡ slice_index places v
  pub less : slice_index ranks to < slice_index ranks v

-- an edge to a number from one of its group with a lower rank
pub record Below (edges : List (ℕ × ℕ)) (places ranks : List ℕ) (v : ℕ) : Type 0 where
  pub edge : ℕ
  pub from : ℕ
  pub is : slice_get edges edge ≡ Some (from, v)
  pub same : slice_index places from ≡ slice_index places v
  pub less : slice_index ranks from < slice_index ranks v

-- a number is in the group of its place, and is its first or has edges up and down
pub record VertexOk (edges : List (ℕ × ℕ)) (groups : List (List ℕ)) (places ups downs : List ℕ) (v : ℕ) : Type 0 where
  pub group : List ℕ
  pub is : slice_get groups (slice_index places v) ≡ Some group
  pub has : Has group v
  pub above : (slice_get group 0 ≡ Some v) ⊎ Above edges places ups v
  pub below : (slice_get group 0 ≡ Some v) ⊎ Below edges places downs v

-- a group has a first member, its members ascend, are below the count and have its place
pub record GroupOk (count : ℕ) (places : List ℕ) (place : ℕ) (group : List ℕ) : Type 0 where
  pub some : (v : ℕ) × (slice_get group 0 ≡ Some v)
  pub ascend : Ascends group
  pub members : (v : ℕ) → Has group v → (v < count) × (slice_index places v ≡ place)

abbrev pub first_in : Option (List ℕ) → ℕ
first_in None = 0
first_in (Some group) = slice_index group 0

-- a group refers to another whose place is not before this one
pub record Waits (edges : List (ℕ × ℕ)) (places : List ℕ) (place before : ℕ) : Type 0 where
  pub from : ℕ
  pub to : ℕ
  pub edge : Has edges (from, to)
  pub own : slice_index places from ≡ place
  pub other : slice_index places to ≢ place
  pub late : before ≤ slice_index places to

-- each earlier group has a lesser first member, or this one could not come there
abbrev pub OrderOk : List (ℕ × ℕ) → List (List ℕ) → List ℕ → ℕ → Type 0
OrderOk edges groups places q = (p : ℕ) → p < q → (first_in (slice_get groups p) < first_in (slice_get groups q)) ⊎ Waits edges places q p

-- the groups from a place up to another have lesser first members
abbrev pub IsWindow : List (List ℕ) → ℕ → ℕ → Type 0
IsWindow groups from q = (p : ℕ) → from ≤ p → p < q → first_in (slice_get groups p) < first_in (slice_get groups q)
