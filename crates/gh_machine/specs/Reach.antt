-- How far into texts the parts of a machine reach: the place of the character from which a text goes on.
use Rattle.std.specs.Prelude.{◌≡◌, ◌≤◌, ℕ, List, [], ◌∷◌, Some, slice_get}
use Rattle.gh_machine.specs.declared.closure.Closure.{Closure}
use Rattle.gh_machine.specs.declared.closure.Closure.TheVariants.{Term as Code, Contents, Rest, Letter, Digits, Digit}
use Rattle.gh_machine.specs.declared.closure.Cell.{Cell}
use Rattle.gh_machine.specs.declared.closure.Demand.{Demand}
use Rattle.gh_machine.specs.declared.closure.Demand.TheVariants as d
use Rattle.gh_machine.specs.declared.closure.Frame.{Frame}
use Rattle.gh_machine.specs.declared.closure.Frame.TheVariants as f
use Rattle.gh_machine.specs.declared.text.Text.{Text}
use Rattle.gh_machine.specs.declared.text.Text.TheVariants as t
use Rattle.gh_machine.specs.declared.text.Head.{Head}
use Rattle.gh_machine.specs.declared.text.Head.TheVariants as h

abbrev pub reach_of : Closure → ℕ
reach_of (Code e t) = 0
reach_of (Contents e t) = 0
reach_of (Rest at t) = at
reach_of (Letter at t) = 0
reach_of (Digits at n) = at
reach_of (Digit at n) = 0

abbrev pub demand_reach : Demand → ℕ
demand_reach (d.At c) = reach_of c
demand_reach (d.Binding e i t) = 0
demand_reach (d.Value l) = 0
demand_reach (d.Con c) = 0

abbrev pub frame_reach : Frame → ℕ
frame_reach (f.Arg v) = reach_of v
frame_reach (f.OfCase e t) = 0
frame_reach (f.Under c) = 0
frame_reach (f.Only u place) = 0
frame_reach (f.First b place v) = reach_of v
frame_reach (f.Second b place l) = 0
frame_reach (f.Printing v) = reach_of v

abbrev pub text_reach : Text → ℕ
text_reach (t.Letters at t) = at
text_reach (t.Digits at n) = at

abbrev pub head_reach : Head → ℕ
head_reach (h.Chars t) = text_reach t
head_reach (h.Con c) = 0
head_reach h.Other = 0

-- no cell reaches further
abbrev pub IsNear : ℕ → List Cell → Type 0
IsNear n cells = (i : ℕ) (c : Cell) → slice_get cells i ≡ Some c → reach_of c.value ≤ n

-- no frame reaches further
abbrev pub AreNear : ℕ → List Frame → Type 0
AreNear n [] = Unit {0}
AreNear n (g ∷ fs) = (frame_reach g ≤ n) × AreNear n fs
