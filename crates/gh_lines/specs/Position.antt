-- Lines and columns (Haskell 98 Report, 9.3). A line ends at LF, CR LF, CR alone or FF.
use Rattle.std.specs.Prelude.{ℕ, ◌+◌, ◌-◌, ◌*◌, ◌/◌, ◌^◌, min, Bool, true, false, ◌&&◌, ◌||◌, ◌==◌, nat_le, nat_lt, if◌then◌else◌, List, [], ◌∷◌}
use Rattle.gh_lines.specs.declared.position.Position.{Position}

-- the first byte of a file stands on line 1, in column 1
abbrev pub file_start : Position
file_start = record { line = 1; column = 1; after_return = false }

-- numbers of lines and columns stand still at the last one that fits
abbrev pub more : ℕ → ℕ → ℕ
more n k = min (n + k) (2 ^ 32 - 1)

abbrev pub next_line_of : Position → Bool → Position
next_line_of p after_return = record { line = more p.line 1; column = 1; after_return = after_return }

abbrev pub next_column_of : Position → ℕ → Position
next_column_of p column = record { line = p.line; column = column; after_return = false }

-- the next column of the form 8k + 1
abbrev pub next_tab_of : ℕ → ℕ
next_tab_of column = more ((column - 1) / 8 * 8) 9

-- a byte that goes on with a character begun before
abbrev pub is_continuation : ℕ → Bool
is_continuation c = nat_le 128 c && nat_lt c 192

-- the place after one more byte
abbrev pub stepped : Position → ℕ → Position
stepped p c =
    if c == 10 && p.after_return then record { line = p.line; column = p.column; after_return = false }
    else (if c == 10 || c == 12 then next_line_of p false
    else (if c == 13 then next_line_of p true
    else (if c == 9 then next_column_of p (next_tab_of p.column)
    else (if is_continuation c then next_column_of p p.column else next_column_of p (more p.column 1)))))

abbrev pub moved_over : Position → List ℕ → Position
moved_over p [] = p
moved_over p (c ∷ rest) = moved_over (stepped p c) rest
