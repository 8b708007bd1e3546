-- What holds of each layout, apart from the rules that make it.
use Rattle.std.specs.Prelude.{◌≡◌, ℕ, suc, ◌==◌, if◌then◌else◌, List, [], ◌∷◌, slice_get, Option, Some, None, option_and_then}
use Rattle.std.specs.Option.{option_map_or}
use Rattle.gh_lexer.specs.declared.token.Token.{Token}
use Rattle.gh_layout.specs.Entries.{is_same}
use Rattle.gh_layout.specs.Roles.{role_of}
use Rattle.gh_layout.specs.declared.entry.Opening.{Opening}
use Rattle.gh_layout.specs.declared.entry.Opening.TheVariants as opening
use Rattle.gh_layout.specs.declared.laying.LaidToken.{LaidToken}
use Rattle.gh_layout.specs.declared.laying.LaidToken.TheVariants.{Real, Begin, Semi, End}
use Rattle.gh_layout.specs.declared.role.Role.{Role}
use Rattle.gh_layout.specs.declared.role.Role.TheVariants as role

-- laid tokens are read from left to right, as long as each fits
abbrev pub read : {S : Type 0} → (LaidToken → S → Option S) → List LaidToken → S → Option S
read fits [] s = Some s
read fits (x ∷ xs) s = option_and_then (λ t. read fits xs t) (fits x s)

-- The tokens of the file come in order, and an inserted one has the place of the next of them. The number is that
-- of the tokens so far.
abbrev pub in_order : LaidToken → ℕ → Option ℕ
in_order (Real i) n = if i == n then Some (suc n) else None
in_order (Begin i) n = if i == n then Some n else None
in_order (Semi i) n = if i == n then Some n else None
in_order (End i) n = if i == n then Some n else None

-- all tokens of a file of n tokens are there, each once and in order
abbrev pub IsInOrder : ℕ → List LaidToken → Type 0
IsInOrder n out = read in_order out 0 ≡ Some n

-- what is open: an inserted brace, a written one, or an opening
pub data Open : Type 0 where
  inserted : Open
  written : Open
  opened : (opening : Opening) → Open

-- a close fits where its opening is the innermost thing open
abbrev pub closes : Opening → List Open → Option (List Open)
closes o (opened p ∷ open_now) = if is_same o p then Some open_now else None
closes o _ = None

abbrev pub closes_brace : List Open → Option (List Open)
closes_brace (written ∷ open_now) = Some open_now
closes_brace _ = None

-- `then` closes its `if` and opens the way to its `else`
abbrev pub turns : List Open → Option (List Open)
turns (opened opening.If ∷ open_now) = Some (opened opening.Then ∷ open_now)
turns _ = None

abbrev pub after_token_of_file : Role → List Open → Option (List Open)
after_token_of_file role.OpenBrace open_now = Some (written ∷ open_now)
after_token_of_file role.CloseBrace open_now = closes_brace open_now
after_token_of_file (role.Opens o) open_now = Some (opened o ∷ open_now)
after_token_of_file (role.Closes o) open_now = closes o open_now
after_token_of_file role.Of open_now = closes opening.Case open_now
after_token_of_file role.Then open_now = turns open_now
after_token_of_file role.Else open_now = closes opening.Then open_now
after_token_of_file role.In open_now = closes opening.Let open_now
after_token_of_file _ open_now = Some open_now

-- what the token at a place does
abbrev pub role_at : List Token → ℕ → Role
role_at ts i = option_map_or (λ t. role_of t.kind) (slice_get ts i) role.Other

-- Braces, brackets and keywords nest. An inserted `}` closes an inserted `{`, and an inserted `;` stands directly
-- inside an inserted `{`: so a block in written braces takes neither.
abbrev pub nests : List Token → LaidToken → List Open → Option (List Open)
nests ts (Real i) open_now = after_token_of_file (role_at ts i) open_now
nests ts (Begin i) open_now = Some (inserted ∷ open_now)
nests ts (Semi i) (inserted ∷ open_now) = Some (inserted ∷ open_now)
nests ts (End i) (inserted ∷ open_now) = Some open_now
nests ts _ _ = None

-- all that opens is closed again, the innermost first
abbrev pub IsNested : List Token → List LaidToken → Type 0
IsNested ts out = read (nests ts) out [] ≡ Some []
