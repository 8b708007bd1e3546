-- A file that is UTF-8 is read, and another is not.
use Rattle.std.proofs.Common.{◌≡◌, ℕ, ◌<◌, if◌then◌else◌, List, length, Err, ap, arith}
use Rattle.std.proofs.lemmas.Bool.{ne_eqb}
use Rattle.std.proofs.lemmas.Str.{utf8_valid_len-IsUtf8}
use Rattle.std.proofs.Common.{eq-eqb}
use Rattle.std.specs.Str.{IsUtf8}
use Rattle.std.specs.Str.Lossy.{utf8_valid_len}
use Rattle.gh_base.specs.declared.refusal.Refusal.TheVariants.{NotUtf8}
use Rattle.gh_lexer.specs.Reading.{read, reading, byte_at}

pub read_utf8 : (file : ℕ) (bytes : List ℕ) → IsUtf8 bytes → reading file bytes ≡ read file bytes
unfolding reading
read_utf8 file bytes h = ap (λ b. if b then read file bytes else Err (NotUtf8 (byte_at file (utf8_valid_len bytes)))) (eq-eqb (utf8_valid_len bytes) (length bytes) (utf8_valid_len-IsUtf8 bytes h))

pub not_utf8 : (file : ℕ) (bytes : List ℕ) → utf8_valid_len bytes < length bytes → reading file bytes ≡ Err (NotUtf8 (byte_at file (utf8_valid_len bytes)))
unfolding reading
not_utf8 file bytes h =
    let other : utf8_valid_len bytes ≡ length bytes → ⊥ = λ e. omega arith in
    ap (λ b. if b then read file bytes else Err (NotUtf8 (byte_at file (utf8_valid_len bytes)))) (ne_eqb (utf8_valid_len bytes) (length bytes) other)
