-- Bytes that are text.
use Rattle.std.proofs.Common.{◌≡◌, ℕ, List, true, false}
use Rattle.std.proofs.lemmas.Bool.{false_from_ne_true}
use Rattle.std.proofs.lemmas.Str.{IsUtf8-from_is_utf8, is_utf8-from_IsUtf8}
use Rattle.std.specs.Str.{IsUtf8, is_utf8}

pub is_text : (bs : List ℕ) → IsUtf8 bs → is_utf8 bs ≡ true
is_text bs h = is_utf8-from_IsUtf8 bs h

pub is_no_text : (bs : List ℕ) → (IsUtf8 bs → ⊥) → is_utf8 bs ≡ false
is_no_text bs h = false_from_ne_true (is_utf8 bs) (λ yes. h (IsUtf8-from_is_utf8 bs yes))
