-- The text at a place, with a default.
use Rattle.std.proofs.Common.{◌≡◌, ℕ, List, [], slice_get, slice_index_or, Some}
use Rattle.std.proofs.lemmas.Option.{get_or_from_slice_get}

pub text_from_place : (xs : List (List ℕ)) (i : ℕ) (t : List ℕ) → slice_get xs i ≡ Some t → slice_index_or xs i [] ≡ t
text_from_place xs i t h = get_or_from_slice_get xs i t [] h
