-- Lines and columns.
use Rattle.std.specs.Prelude.{ℕ, zero, suc, ◌+◌, ◌*◌, ◌/◌, Bool, ◌&&◌, ◌||◌, ◌==◌, nat_le, if◌then◌else◌, List, [], ◌∷◌}
use Rattle.gh_lexer.specs.declared.place.Place.{Place}
use Rattle.gh_lexer.specs.Chars.{begins}

-- a byte that goes on with a character of UTF-8
abbrev pub is_continued : ℕ → Bool
is_continued c = nat_le 128 c && nat_le c 191

-- the beginning of the next line
abbrev pub next_line : Place → Place
next_line p = record { line = p.line + 1; column = 1 }

-- the place after a byte, before the rest: LF, FF and CR end a line, and CR LF ends one; a tab goes on to the next column 8k + 1
unfoldable pub past : ℕ → List ℕ → Place → Place
past c rest p =
    if c == 10 || c == 12 then next_line p
    else (if c == 13 then (if begins 10 rest then p else next_line p)
    else (if c == 9 then record { line = p.line; column = (p.column + 7) / 8 * 8 + 1 }
    else (if is_continued c then p else record { line = p.line; column = p.column + 1 })))

-- the place after so many bytes
abbrev pub moved : ℕ → List ℕ → Place → Place
moved zero bytes p = p
moved (suc n) [] p = p
moved (suc n) (c ∷ rest) p = moved n rest (past c rest p)

-- where a file begins
abbrev pub start : Place
start = record { line = 1; column = 1 }
