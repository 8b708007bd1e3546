-- Names by their numbers.
use Rattle.std.specs.Prelude.{ℕ, List, [], slice_index_or}
use Rattle.gh_base.specs.declared.names.NameId.{NameId}

-- the text of a number
abbrev pub text_in : List (List ℕ) → NameId → List ℕ
text_in table id = slice_index_or table id.0 []
