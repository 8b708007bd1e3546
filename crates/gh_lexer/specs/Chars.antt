-- The characters that names, operators, numbers and white space are made of, and the reserved texts.
use Rattle.std.specs.Prelude.{ℕ, Bool, false, not, ◌&&◌, ◌||◌, ◌==◌, nat_le, List, [], ◌∷◌, take, drop}
use Rattle.std.specs.List.{list_any, list_all}
use Rattle.std.specs.Str.{bytes_eq}
use Rattle.gh_base.specs.Fixed.{fixed_texts}

-- a lower-case letter or `_`
abbrev pub is_small : ℕ → Bool
is_small c = (nat_le 97 c && nat_le c 122) || c == 95

-- an upper-case letter
abbrev pub is_large : ℕ → Bool
is_large c = nat_le 65 c && nat_le c 90

-- a decimal digit
abbrev pub is_digit : ℕ → Bool
is_digit c = nat_le 48 c && nat_le c 57

-- an octal digit
abbrev pub is_octal : ℕ → Bool
is_octal c = nat_le 48 c && nat_le c 55

-- a hexadecimal digit
abbrev pub is_hex : ℕ → Bool
is_hex c = is_digit c || (nat_le 97 c && nat_le c 102) || (nat_le 65 c && nat_le c 70)

-- a letter, digit, `_` or `'`
abbrev pub is_name_char : ℕ → Bool
is_name_char c = is_small c || is_large c || is_digit c || c == 39

-- one of ! # $ % & * + . / < = > ? @ \ ^ | - ~ :
abbrev pub is_symbol : ℕ → Bool
is_symbol c = c == 33 || (nat_le 35 c && nat_le c 38) || (nat_le 42 c && nat_le c 43) || (nat_le 45 c && nat_le c 47) || c == 58
    || (nat_le 60 c && nat_le c 64) || c == 92 || c == 94 || c == 124 || c == 126

-- one of ( ) , ; [ ] ` }
abbrev pub is_bracket : ℕ → Bool
is_bracket c = c == 40 || c == 41 || c == 44 || c == 59 || c == 91 || c == 93 || c == 96 || c == 125

-- LF, FF or CR
abbrev pub is_line_end : ℕ → Bool
is_line_end c = c == 10 || c == 12 || c == 13

-- space, tab, VT or a line end
abbrev pub is_blank : ℕ → Bool
is_blank c = c == 32 || (nat_le 9 c && nat_le c 13)

-- what a comment up to the end of its line goes on with
abbrev pub is_in_line : ℕ → Bool
is_in_line c = not (is_line_end c)

-- `-`
abbrev pub is_dash : ℕ → Bool
is_dash c = c == 45

-- two dashes or more, and nothing else
unfoldable pub is_dashes : List ℕ → Bool
is_dashes [] = false
is_dashes (a ∷ []) = false
is_dashes (a ∷ b ∷ more) = is_dash a && (is_dash b && list_all is_dash more)

-- the reserved words: the first 22 of the fixed texts (Haskell 98 Report, 2.4)
abbrev pub reserved_words : List (List ℕ)
reserved_words = take 22 fixed_texts

-- the reserved operators: the 11 fixed texts behind them (Haskell 98 Report, 2.4)
abbrev pub reserved_operators : List (List ℕ)
reserved_operators = take 11 (drop 22 fixed_texts)

-- a reserved word
unfoldable pub is_word : List ℕ → Bool
is_word s = list_any (λ word. bytes_eq word s) reserved_words

-- a reserved operator
unfoldable pub is_operator : List ℕ → Bool
is_operator s = list_any (λ operator. bytes_eq operator s) reserved_operators

-- the first byte is this one
abbrev pub begins : ℕ → List ℕ → Bool
begins c [] = false
begins c (d ∷ rest) = d == c

-- the first byte passes
abbrev pub begins_with : (ℕ → Bool) → List ℕ → Bool
begins_with p [] = false
begins_with p (d ∷ rest) = p d
