-- Worked runs, with their numbers of steps and reductions counted by hand.
use Rattle.std.proofs.Common.{◌≡◌, ℕ, List, [], ◌∷◌, refl, ◌∙◌}
use Rattle.std.specs.Prelude.{codes}
use Rattle.std.specs.Char.{encode_utf8}
use Rattle.gh_base.specs.declared.fixed.TheConstants.{MAIN}
use Rattle.gh_base.specs.declared.place.Span.{Span}
use Rattle.gh_core.specs.Erase.{erased_program}
use Rattle.gh_core.specs.Reduce.{Status, running, ended, reductions}
use Rattle.gh_core.specs.Run.{Seen, seen, start, core_main}
use Rattle.gh_bindings.specs.declared.binding.Binding.{Binding}
use Rattle.gh_bindings.specs.declared.binding.Operand.{Operand}
use Rattle.gh_bindings.specs.declared.binding.Operand.TheVariants.{Name, Text}
use Rattle.gh_bindings.specs.Core.{core_program}
use Rattle.gh_keeps.specs.Keeps.{runs}
use Rattle.gh_bindings.specs.Meaning.{meaning}
use Rattle.gh_bindings.proofs.Plain.{plain_program, main_plain, runs_plain}

abbrev place : Span
place = record { file = 1; from = 20; to = 40 }

abbrev shows : List ℕ → Status → Seen
shows out status = record { out = out; status = status }

-- a program whose first binding is `main`
abbrev main_is : List Operand → List Binding → List Binding
main_is os bs = record { name = MAIN; span = place; operands = os } ∷ bs

abbrev core : List Binding → ℕ → Seen
core bs n = core_main (erased_program (core_program bs)) n

-- the same on plain terms, where reductions compute
abbrev plain : List Binding → ℕ → Seen
plain bs n = seen (reductions (plain_program bs) n (start main_plain))

-- main = "ab"
abbrev letters : List Binding
letters = main_is (Text (codes "ab") ∷ []) []

-- the name unfolds (1), and two characters are printed (3)
pub letters_end : meaning letters 3 ≡ shows (codes "ab") ended
unfolding runs encode_utf8
letters_end = refl

pub letters_go_on : meaning letters 2 ≡ shows (codes "a") running
unfolding runs encode_utf8
letters_go_on = refl

plain_letters : plain letters 3 ≡ shows (codes "ab") ended
unfolding reductions encode_utf8
plain_letters = refl

pub core_letters_end : core letters 3 ≡ shows (codes "ab") ended
core_letters_end = runs_plain letters 3 ∙ plain_letters

-- main = "a" ++ "b"
abbrev two_letters : List Binding
two_letters = main_is (Text (codes "a") ∷ Text (codes "b") ∷ []) []

-- The name unfolds (1). The demand passes twice to a function, `++` unfolds, takes two arguments, and the demand passes to the first
-- (7). It is no `[]` (8), so the second clause is next (9), which demands it again (10); it is a cell (11), and three variables
-- bind (14). The demand passes twice to a function (16), and `a` is printed (17). The rest is `"" ++ "b"`: its first operand is
-- demanded (23) and is `[]` (24), a variable binds (25), and `b` is printed (26).
pub two_letters_end : meaning two_letters 26 ≡ shows (codes "ab") ended
unfolding runs encode_utf8
two_letters_end = refl

pub two_letters_go_on : meaning two_letters 25 ≡ shows (codes "a") running
unfolding runs encode_utf8
two_letters_go_on = refl

pub first_letter : meaning two_letters 17 ≡ shows (codes "a") running
unfolding runs encode_utf8
first_letter = refl

pub no_letter_yet : meaning two_letters 16 ≡ shows [] running
unfolding runs encode_utf8
no_letter_yet = refl

-- The same up to the demand of the first operand (7); the case goes on at a cell (8); twice to a function (10), and `a` is printed
-- (11). The first operand of the rest is demanded (17), the case goes on at `[]` (18), and `b` is printed (19).
plain_two_end : plain two_letters 19 ≡ shows (codes "ab") ended
unfolding reductions encode_utf8
plain_two_end = refl

plain_two_go_on : plain two_letters 18 ≡ shows (codes "a") running
unfolding reductions encode_utf8
plain_two_go_on = refl

plain_no_letter : plain two_letters 10 ≡ shows [] running
unfolding reductions encode_utf8
plain_no_letter = refl

pub core_two_letters_end : core two_letters 19 ≡ shows (codes "ab") ended
core_two_letters_end = runs_plain two_letters 19 ∙ plain_two_end

pub core_two_letters_go_on : core two_letters 18 ≡ shows (codes "a") running
core_two_letters_go_on = runs_plain two_letters 18 ∙ plain_two_go_on

pub core_no_letter_yet : core two_letters 10 ≡ shows [] running
core_no_letter_yet = runs_plain two_letters 10 ∙ plain_no_letter

-- main = "ab" ++ main
abbrev for_ever : List Binding
for_ever = main_is (Text (codes "ab") ∷ Name MAIN place ∷ []) []

-- `a` is printed at 17 as before, and `b` 16 steps later; the end of "ab" is 8 steps more (41), where `main` is demanded again. So
-- each round is 41 steps, and the third character comes at 58.
pub ever_two : meaning for_ever 57 ≡ shows (codes "ab") running
unfolding runs encode_utf8
ever_two = refl

pub ever_three : meaning for_ever 58 ≡ shows (codes "aba") running
unfolding runs encode_utf8
ever_three = refl

-- `a` at 11, `b` at 21, the end of "ab" at 28: each round is 28 reductions, and the third character comes at 39
plain_ever_two : plain for_ever 38 ≡ shows (codes "ab") running
unfolding reductions encode_utf8
plain_ever_two = refl

plain_ever_three : plain for_ever 39 ≡ shows (codes "aba") running
unfolding reductions encode_utf8
plain_ever_three = refl

pub core_ever_two : core for_ever 38 ≡ shows (codes "ab") running
core_ever_two = runs_plain for_ever 38 ∙ plain_ever_two

pub core_ever_three : core for_ever 39 ≡ shows (codes "aba") running
core_ever_three = runs_plain for_ever 39 ∙ plain_ever_three

-- a binding without operands is the empty string, and ends when its name has unfolded
pub nothing_printed : meaning (main_is [] []) 1 ≡ shows [] ended
unfolding runs
nothing_printed = refl

-- a name without a binding stays as it is
pub unbound_stays : meaning (main_is (Name (record { 0 = 128 }) place ∷ []) []) 9 ≡ shows [] running
unfolding runs
unbound_stays = refl

pub no_main : meaning [] 9 ≡ shows [] running
unfolding runs
no_main = refl

-- of two bindings of one name the first counts
pub first_counts : meaning (main_is (Text (codes "a") ∷ []) (main_is (Text (codes "b") ∷ []) [])) 2 ≡ shows (codes "a") ended
unfolding runs encode_utf8
first_counts = refl

-- main = "é" is two bytes
pub bytes_of_character : meaning (main_is (Text (233 ∷ []) ∷ []) []) 2 ≡ shows (195 ∷ 169 ∷ []) ended
unfolding runs encode_utf8
bytes_of_character = refl

-- main = x ++ "c"; x = "a" ++ "b"
abbrev twice : List Binding
twice =
    main_is (Name (record { 0 = 128 }) place ∷ Text (codes "c") ∷ [])
    (record { name = record { 0 = 128 }; span = place; operands = Text (codes "a") ∷ Text (codes "b") ∷ [] } ∷ [])

-- `main` unfolds, and its first operand is demanded (7). `x` unfolds (8), demands "a" (14), and has become a cell after seven steps more
-- (21). The demand passes to the constructor (23), which is no `[]` (24), and the second clause is next (25). It demands `x` again (26),
-- which takes the same 14 steps to the cell (40). The demand passes to the constructor (42), which is tested (43), three variables bind
-- (46), the demand passes to the constructor of the whole (48), and `a` is printed (49).
pub evaluated_twice : meaning twice 49 ≡ shows (codes "a") running
unfolding runs encode_utf8
evaluated_twice = refl

pub evaluated_twice_before : meaning twice 48 ≡ shows [] running
unfolding runs encode_utf8
evaluated_twice_before = refl

-- the first operand is demanded (7), `x` unfolds (8), its first operand is demanded (14), and its case goes on (15); the demand passes
-- to the constructor (17), the outer case goes on (18), the demand passes to the constructor (20), and `a` is printed (21)
plain_once : plain twice 21 ≡ shows (codes "a") running
unfolding reductions encode_utf8
plain_once = refl

plain_once_before : plain twice 20 ≡ shows [] running
unfolding reductions encode_utf8
plain_once_before = refl

pub core_evaluates_once : core twice 21 ≡ shows (codes "a") running
core_evaluates_once = runs_plain twice 21 ∙ plain_once

pub core_evaluates_once_before : core twice 20 ≡ shows [] running
core_evaluates_once_before = runs_plain twice 20 ∙ plain_once_before
