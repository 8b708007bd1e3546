-- The meaning of the words of the command line.
use Rattle.std.specs.Prelude.{ℕ, ◌+◌, ◌-◌, ◌*◌, Bool, true, false, ◌&&◌, ◌==◌, nat_eq, nat_le, if◌then◌else◌, List, [], ◌∷◌, drop, length, Option, Some, None, option_map, codes}
use Rattle.std.specs.List.{list_all, starts_with}
use Rattle.std.specs.Str.{bytes_eq, is_utf8}
use Rattle.gh_words.specs.declared.words.Words.{Words}
use Rattle.gh_words.specs.declared.words.Words.TheVariants as meaning
use Rattle.gh_words.specs.declared.words.Arguments.{Arguments}

abbrev pub is_digit : ℕ → Bool
is_digit c = nat_le 48 c && nat_le c 57

abbrev pub value_from : ℕ → List ℕ → ℕ
value_from n [] = n
value_from n (c ∷ rest) = value_from (n * 10 + (c - 48)) rest

-- the number that some digits spell, where there are at least one and at most so many, and it lies within the bounds
abbrev pub number_within : ℕ → ℕ → ℕ → List ℕ → Option ℕ
number_within most least greatest text =
    if nat_le 1 (length text) && nat_le (length text) most && list_all is_digit text && nat_le least (value_from 0 text) && nat_le (value_from 0 text) greatest
    then Some (value_from 0 text) else None

-- a budget: one to seven digits, up to 2,000,000
abbrev pub steps_of : List ℕ → Option ℕ
steps_of text = number_within 7 0 2000000 text

-- the number of a sample program: one or two digits, 1 to 40
abbrev pub sample_of : List ℕ → Option ℕ
sample_of text = number_within 2 1 40 text

-- a word that begins with `-` and is not `-` alone
abbrev pub is_option : List ℕ → Bool
is_option [] = false
is_option (c ∷ []) = false
is_option (c ∷ d ∷ rest) = c == 45

abbrev pub with_steps : List ℕ → Option Arguments → Option Arguments
with_steps v None = None
with_steps v (Some s) = Some (record { steps = v ∷ s.steps; positionals = s.positionals })

abbrev pub with_positional : List ℕ → Option Arguments → Option Arguments
with_positional w None = None
with_positional w (Some s) = Some (record { steps = s.steps; positionals = w ∷ s.positionals })

-- the values of `--steps` and the positionals; where the first argument is true, a value comes next
abbrev pub split_of : Bool → List (List ℕ) → Option Arguments
split_of true [] = None
split_of true (v ∷ words) = with_steps v (split_of false words)
split_of false [] = Some (record { steps = []; positionals = [] })
split_of false (w ∷ words) =
    if bytes_eq w (codes "--") then Some (record { steps = []; positionals = words })
    else (if bytes_eq w (codes "--steps") then split_of true words
    else (if starts_with nat_eq w (codes "--steps=") then with_steps (drop 8 w) (split_of false words)
    else (if is_option w then None else with_positional w (split_of false words))))

-- the default budget, or the one value that was given
abbrev pub budget_of : List (List ℕ) → Option ℕ
budget_of [] = Some 200000
budget_of (v ∷ []) = steps_of v
budget_of (v ∷ w ∷ rest) = None

abbrev pub run_of : List (List ℕ) → List (List ℕ) → Option Words
run_of steps [] = None
run_of steps (file ∷ files) = option_map (λ n. meaning.Run n (file ∷ files)) (budget_of steps)

abbrev pub files_of : (List (List ℕ) → Words) → List (List ℕ) → List (List ℕ) → Option Words
files_of made [] [] = None
files_of made [] (file ∷ files) = Some (made (file ∷ files))
files_of made (v ∷ steps) files = None

abbrev pub number_word : List (List ℕ) → List (List ℕ) → Option Words
number_word [] (n ∷ []) = option_map (λ k. meaning.Sample k) (sample_of n)
number_word [] [] = None
number_word [] (n ∷ m ∷ rest) = None
number_word (v ∷ steps) files = None

-- what the mode makes of the values of `--steps` and of the words behind it
abbrev pub mode_of : List ℕ → List (List ℕ) → List (List ℕ) → Option Words
mode_of mode steps files =
    if bytes_eq mode (codes "run") then run_of steps files
    else (if bytes_eq mode (codes "check") then files_of (λ fs. meaning.Check fs) steps files
    else (if bytes_eq mode (codes "core") then files_of (λ fs. meaning.Core fs) steps files
    else (if bytes_eq mode (codes "sample") then number_word steps files else None)))

abbrev pub meaning_of_split : Option Arguments → Option Words
meaning_of_split None = None
meaning_of_split (Some s) = elim s.positionals [ [] ↦ None | ◌∷◌ mode files ↦ mode_of mode s.steps files ]

-- the meaning of the words, where they have one
unfoldable pub meaning_of : List (List ℕ) → Option Words
meaning_of words = if list_all is_utf8 words then meaning_of_split (split_of false words) else None

-- of the meanings, those that are built: the check and the run of one file
abbrev pub built_of : Option Words → Option Words
built_of None = None
built_of (Some (meaning.Check [])) = None
built_of (Some (meaning.Check (file ∷ []))) = Some (meaning.Check (file ∷ []))
built_of (Some (meaning.Check (file ∷ more ∷ rest))) = None
built_of (Some (meaning.Core files)) = None
built_of (Some (meaning.Sample n)) = None
built_of (Some (meaning.Run n [])) = None
built_of (Some (meaning.Run n (file ∷ []))) = Some (meaning.Run n (file ∷ []))
built_of (Some (meaning.Run n (file ∷ more ∷ rest))) = None
