-- Numbers, characters and strings.
use Rattle.std.specs.Prelude.{ℕ, zero, suc, ◌+◌, ◌-◌, ◌*◌, ◌^◌, Bool, false, ◌&&◌, ◌||◌, ◌==◌, nat_le, nat_lt, if◌then◌else◌, List, [], ◌∷◌, length, take, drop, Option, Some, None, option_map, Result, Ok, Err}
use Rattle.std.specs.List.{prefix_len}
use Rattle.std.specs.Str.{continuation_len, lead_bits}
use Rattle.gh_lexer.specs.declared.scan.Item.{Item}
use Rattle.gh_lexer.specs.declared.scan.Escape.{Escape}
use Rattle.gh_lexer.specs.declared.scan.Meaning.{Meaning}
use Rattle.gh_lexer.specs.declared.scan.Meaning.TheVariants as meaning
use Rattle.gh_lexer.specs.Chars.{is_digit, is_octal, is_hex, is_blank, begins}

-- the value of a digit up to 15
abbrev pub digit_value : ℕ → ℕ
digit_value c = if nat_le 97 c then c - 87 else (if nat_le 65 c then c - 55 else c - 48)

-- digits after a value
abbrev pub value_on : ℕ → ℕ → List ℕ → ℕ
value_on base v [] = v
value_on base v (c ∷ cs) = value_on base (v * base + digit_value c) cs

-- the value of digits
abbrev pub value_of : ℕ → List ℕ → ℕ
value_of base digits = value_on base 0 digits

-- integers and escapes below 2^63 have a number
abbrev pub fits : ℕ → Option ℕ
fits n = if nat_lt n (2 ^ 63) then Some n else None

-- one of two letters, and then a digit
abbrev pub is_based : ℕ → ℕ → (ℕ → Bool) → List ℕ → Bool
is_based small large p [] = false
is_based small large p (c ∷ []) = false
is_based small large p (c ∷ d ∷ rest) = (c == small || c == large) && p d

-- an integer by its text: `0x` and `0o` begin hexadecimal and octal ones
abbrev pub integer_after_zero : List ℕ → ℕ
integer_after_zero rest =
    if is_based 120 88 is_hex rest then value_of 16 (drop 1 rest)
    else (if is_based 111 79 is_octal rest then value_of 8 (drop 1 rest) else value_of 10 rest)

-- the value of an integer by its whole text
unfoldable pub integer_of : List ℕ → ℕ
integer_of [] = 0
integer_of (c ∷ rest) = if c == 48 then integer_after_zero rest else value_of 10 (c ∷ rest)

-- a Unicode scalar value
abbrev pub is_scalar : ℕ → Bool
is_scalar n = nat_lt n 55296 || (nat_le 57344 n && nat_le n 1114111)

-- a number is a character, or none
abbrev pub meaning_of : ℕ → Meaning
meaning_of n = if is_scalar n then meaning.Char n else meaning.TooGreat

-- the escapes of one letter: a b f n r t v \ " '
abbrev pub letter_escape : ℕ → Option ℕ
letter_escape c =
    if c == 97 then Some 7 else (if c == 98 then Some 8 else (if c == 102 then Some 12 else (if c == 110 then Some 10
    else (if c == 114 then Some 13 else (if c == 116 then Some 9 else (if c == 118 then Some 11
    else (if c == 92 then Some 92 else (if c == 34 then Some 34 else (if c == 39 then Some 39 else None)))))))))

-- a numeric escape takes all digits that follow; `before` bytes stand before them
unfoldable pub numeric_escape : ℕ → ℕ → (ℕ → Bool) → List ℕ → Option Item
numeric_escape before base p digits =
    if prefix_len p digits == 0 then None
    else Some (record { len = before + prefix_len p digits; meaning = meaning_of (value_of base (take (prefix_len p digits) digits)) })

-- an escape of one letter, or another
abbrev pub letter_or : Option ℕ → Option Item → Option Item
letter_or (Some v) other = Some (record { len = 2; meaning = meaning.Char v })
letter_or None other = other

-- an escape that is a character, by the bytes after its backslash
unfoldable pub escape_at : List ℕ → Option Item
escape_at [] = None
escape_at (c ∷ rest) = letter_or (letter_escape c)
    (if is_digit c then numeric_escape 1 10 is_digit (c ∷ rest)
    else (if c == 120 then numeric_escape 2 16 is_hex rest
    else (if c == 111 then numeric_escape 2 8 is_octal rest else None)))

-- `\&`, or white space up to another backslash: they give nothing
unfoldable pub empty_at : List ℕ → Option Item
empty_at bytes =
    if begins 38 bytes then Some (record { len = 2; meaning = meaning.Nothing })
    else (if prefix_len is_blank bytes == 0 then None
    else (if begins 92 (drop (prefix_len is_blank bytes) bytes) then Some (record { len = prefix_len is_blank bytes + 2; meaning = meaning.Nothing })
    else None))

-- the value of a character whose bytes follow the value so far
abbrev pub character_on : ℕ → List ℕ → ℕ
character_on v [] = v
character_on v (b ∷ bs) = character_on (v * 64 + (b - 128)) bs

-- a character of so many bytes, if it is one
abbrev pub plain_item : ℕ → ℕ → Option Item
plain_item len v = if is_scalar v then Some (record { len = len; meaning = meaning.Char v }) else None

-- a character of UTF-8 from U+0020 on that is no escape
unfoldable pub plain_at : ℕ → List ℕ → Option Item
plain_at c rest =
    if nat_lt c 32 then None
    else (if nat_lt (length rest) (continuation_len c) then None
    else plain_item (continuation_len c + 1) (character_on (lead_bits c) (take (continuation_len c) rest)))

-- after a backslash in a string
unfoldable pub backslash_at : List ℕ → Option Item
backslash_at [] = None
backslash_at (c ∷ rest) = if c == 38 || is_blank c then empty_at (c ∷ rest) else escape_at (c ∷ rest)

-- what a string has at its front
unfoldable pub item_at : List ℕ → Option Item
item_at [] = None
item_at (c ∷ rest) = if c == 92 then backslash_at rest else plain_at c rest

-- what a character literal has at its front
unfoldable pub letter_at : List ℕ → Option Item
letter_at [] = None
letter_at (c ∷ rest) = if c == 39 then None else (if c == 92 then escape_at rest else plain_at c rest)

-- the length of an item and of what comes after it
abbrev pub on_item : Option Item → (ℕ → Option ℕ) → Option ℕ
on_item None go = None
on_item (Some i) go = option_map (λ n. suc n) (go (i.len - 1))

-- the length up to and with the closing quote, after so many bytes of an item that has begun
abbrev pub close_at : ℕ → List ℕ → Option ℕ
close_at skip [] = None
close_at (suc skip) (c ∷ rest) = option_map (λ n. suc n) (close_at skip rest)
close_at zero (c ∷ rest) = if c == 34 then Some 1 else on_item (item_at (c ∷ rest)) (λ skip. close_at skip rest)

-- a character before those that the rest gives
abbrev pub and_char : ℕ → Result (List ℕ) Escape → Result (List ℕ) Escape
and_char c (Ok cs) = Ok (c ∷ cs)
and_char c (Err bad) = Err bad

-- what an item gives, before what the rest gives
abbrev pub on_meaning : Meaning → ℕ → ℕ → Result (List ℕ) Escape → Result (List ℕ) Escape
on_meaning meaning.Nothing at len more = more
on_meaning (meaning.Char c) at len more = and_char c more
on_meaning meaning.TooGreat at len more = Err (record { from = at; to = at + len })

-- the next item, and then the rest
abbrev pub on_next : Option Item → ℕ → (ℕ → Result (List ℕ) Escape) → Result (List ℕ) Escape
on_next None at go = Ok []
on_next (Some i) at go = on_meaning i.meaning at i.len (go (i.len - 1))

-- the characters that the bytes between two quotes give, or from where to where the first escape stands that is no character
abbrev pub spelled_from : ℕ → ℕ → List ℕ → Result (List ℕ) Escape
spelled_from skip at [] = Ok []
spelled_from (suc skip) at (c ∷ rest) = spelled_from skip (at + 1) rest
spelled_from zero at (c ∷ rest) = on_next (item_at (c ∷ rest)) at (λ skip. spelled_from skip (at + 1) rest)

-- what the bytes between two quotes give, counted from the opening quote
abbrev pub spelled : List ℕ → Result (List ℕ) Escape
spelled body = spelled_from 0 1 body
