-- The reading that is computed is the one reading of a file.
use Rattle.std.proofs.Common.{◌≡◌, inl, inr, ℕ, ◌==◌, Bool, true, false, if◌then◌else◌, List, length, Err, refl, arith}
use Rattle.std.proofs.lemmas.Bool.{eqb-true, eqb-false}
use Rattle.std.proofs.lemmas.Str.{utf8_valid_len_le}
use Rattle.std.specs.Str.Lossy.{utf8_valid_len}
use Rattle.gh_base.specs.declared.refusal.Refusal.TheVariants.{NotUtf8}
use Rattle.gh_lexer.specs.Cut.{IsReading}
use Rattle.gh_lexer.specs.Reading.{read, reading, byte_at}
use Rattle.gh_lexer.proofs.Cutting.{read_is}
use Rattle.gh_lexer.proofs.Longest.{scan_longest}

pub reading_is : (file : ℕ) (bytes : List ℕ) → IsReading file bytes (reading file bytes)
unfolding reading
reading_is file bytes = by (utf8_valid_len bytes == length bytes) refl
  where
    by : (b : Bool) → utf8_valid_len bytes == length bytes ≡ b → IsReading file bytes (if b then read file bytes else Err (NotUtf8 (byte_at file (utf8_valid_len bytes))))
    by true e = inl (eqb-true (utf8_valid_len bytes) (length bytes) e, read_is scan_longest file bytes)
    by false e =
        let le = utf8_valid_len_le bytes in
        let other = eqb-false (utf8_valid_len bytes) (length bytes) e in
        inr (omega (arith, le, other), refl)
