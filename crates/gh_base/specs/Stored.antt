-- What is always true of the set behind a table of names.
use Rattle.std.specs.Prelude.{ℕ, List, map, ◌≤◌, ◌^◌, length}
use Rattle.std.specs.declared.alloc.Global.{Global}
use Rattle.std.specs.declared.vec.Vec.{Vec}
use Rattle.indexmap.specs.IndexSet.{IndexSet}
use Rattle.gh_base.specs.Fixed.{fixed_texts}
use Rattle.gh_base.specs.Table.{IsGrown}

-- the texts of the keys
abbrev pub texts : List (Vec ℕ Global) → List (List ℕ)
texts ks = map (λ v. v.items) ks

-- a table has a number for each of its texts, and begins with the fixed texts
pub record IsTable {H : Type 0} (s : IndexSet (Vec ℕ Global) H) : Type 0 where
  pub few : length s.keys ≤ 2 ^ 32
  pub begins : IsGrown fixed_texts (texts s.keys)
