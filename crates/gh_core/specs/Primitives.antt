-- The primitives of the Prelude.
use Rattle.std.specs.Prelude.{ℕ, ℤ, pos, negsuc, Bool, true, false, cond, ◌==◌, ◌&&◌, List, [], ◌∷◌, Option, Some, None, int_lt, int_rem, nat_lt}
use Rattle.std.specs.Int.{w64, int_wrapping_add, int_wrapping_sub, int_wrapping_mul, int_wrapping_div}
use Rattle.std.specs.Fmt.{signed_decimal}
use Rattle.std.specs.Ordering.{int_eq}
use Rattle.gh_base.specs.declared.fixed.TheConstants.{PRELUDE, PLUS, MINUS, TIMES, QUOT, REM, EQUAL, LESS, EQ_CHAR, ORD, CHR, SHOW_INT, ERROR, TRUE, FALSE, NIL, CONS}
use Rattle.gh_base.specs.declared.names.NameId.{NameId}
use Rattle.gh_base.specs.declared.place.Origin.{Origin}
use Rattle.gh_base.specs.declared.place.Space.{Space}
use Rattle.gh_base.specs.declared.place.Space.TheVariants.{Values, Types}
use Rattle.gh_core.specs.Terms.{Term, con, lit, string, Literal, int, char}

-- why a run fails
pub data Cause : Type 0 where
  error_called : Cause
  no_match : Cause
  divide_by_zero : Cause
  no_character : Cause

-- a value that the Prelude defines
abbrev pub prelude_value : NameId → Origin
prelude_value name = record { «module» = PRELUDE; space = Values; name = name }

abbrev pub nil : Origin
nil = prelude_value NIL

abbrev pub cons : Origin
cons = prelude_value CONS

abbrev pub same_space : Space → Space → Bool
same_space Values Values = true
same_space Values Types = false
same_space Types Values = false
same_space Types Types = true

abbrev pub same_origin : Origin → Origin → Bool
same_origin a b = (a.«module».0 == b.«module».0) && same_space a.space b.space && (a.name.0 == b.name.0)

-- a primitive of one operand
pub data Unary : Type 0 where
  ord : Unary
  chr : Unary
  show_int : Unary

-- a primitive of two operands
pub data Binary : Type 0 where
  plus : Binary
  minus : Binary
  times : Binary
  quot : Binary
  rem : Binary
  equal : Binary
  less : Binary
  eq_char : Binary

pub data Primitive : Type 0 where
  error : Primitive
  unary : (u : Unary) → Primitive
  binary : (b : Binary) → Primitive

-- the primitives by their names
abbrev pub named : List (NameId × Primitive) → Origin → Option Primitive
named [] p = None
named (entry ∷ more) p = cond (same_origin (prelude_value entry.0) p) (Some entry.1) (named more p)

abbrev pub primitives : List (NameId × Primitive)
primitives = (PLUS, binary plus) ∷ (MINUS, binary minus) ∷ (TIMES, binary times) ∷ (QUOT, binary quot) ∷ (REM, binary rem)
    ∷ (EQUAL, binary equal) ∷ (LESS, binary less) ∷ (EQ_CHAR, binary eq_char) ∷ (ORD, unary ord) ∷ (CHR, unary chr)
    ∷ (SHOW_INT, unary show_int) ∷ (ERROR, error) ∷ []

-- what a primitive makes of its operands
pub data Outcome : Type 0 where
  gives : (t : Term) → Outcome
  fails : (cause : Cause) → Outcome
  -- they are no values of its types
  nothing : Outcome

-- a number from 0 to 0x10FFFF outside the surrogates
abbrev pub is_scalar : ℕ → Bool
is_scalar n = cond (nat_lt n 55296) true (nat_lt 57343 n && nat_lt n 1114112)

abbrev pub truth : Bool → Outcome
truth true = gives (con (prelude_value TRUE))
truth false = gives (con (prelude_value FALSE))

abbrev pub number : ℤ → Outcome
number n = gives (lit (int n))

-- the character with this number
abbrev pub character : ℤ → Outcome
character (pos n) = cond (is_scalar n) (gives (lit (char n))) (fails no_character)
character (negsuc n) = fails no_character

-- a quotient or remainder, which nobody has at 0
abbrev pub divided : ℤ → ℤ → Outcome
divided d n = cond (int_eq d (pos 0)) (fails divide_by_zero) (number n)

abbrev pub unary_outcome : Unary → Literal → Outcome
unary_outcome ord (char c) = number (pos c)
unary_outcome ord (int n) = nothing
unary_outcome chr (int n) = character n
unary_outcome chr (char c) = nothing
unary_outcome show_int (int n) = gives (string (signed_decimal n))
unary_outcome show_int (char c) = nothing

-- on two integers: arithmetic at 64 bits, where the quotient goes toward zero
abbrev pub on_integers : Binary → ℤ → ℤ → Outcome
on_integers plus m n = number (int_wrapping_add w64 m n)
on_integers minus m n = number (int_wrapping_sub w64 m n)
on_integers times m n = number (int_wrapping_mul w64 m n)
on_integers quot m n = divided n (int_wrapping_div w64 m n)
on_integers rem m n = divided n (int_rem m n)
on_integers equal m n = truth (int_eq m n)
on_integers less m n = truth (int_lt m n)
on_integers eq_char m n = nothing

abbrev pub on_characters : Binary → ℕ → ℕ → Outcome
on_characters plus c d = nothing
on_characters minus c d = nothing
on_characters times c d = nothing
on_characters quot c d = nothing
on_characters rem c d = nothing
on_characters equal c d = nothing
on_characters less c d = nothing
on_characters eq_char c d = truth (c == d)

abbrev pub binary_outcome : Binary → Literal → Literal → Outcome
binary_outcome b (int m) (int n) = on_integers b m n
binary_outcome b (char c) (char d) = on_characters b c d
binary_outcome b (int m) (char d) = nothing
binary_outcome b (char c) (int n) = nothing
