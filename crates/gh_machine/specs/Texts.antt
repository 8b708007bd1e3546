-- Strings in parts, and what a demand is where a list is printed.
use Rattle.std.specs.Prelude.{◌≡◌, ℕ, List, ◌∷◌, drop}
use Rattle.std.specs.Fmt.{signed_decimal}
use Rattle.gh_core.specs.Terms.{lit, char, string, con}
use Rattle.gh_core.specs.Closing.{Env}
use Rattle.gh_core.specs.Reading.{term_of}
use Rattle.gh_core.specs.Reduce.{Waiting, State, opened, settled_at}
use Rattle.gh_machine.specs.Unload.{chars_in, code_in, env_of, demand_code, demanded_in, IsFree}
use Rattle.gh_machine.specs.declared.closure.Demand.{Demand}
use Rattle.gh_machine.specs.declared.text.Text.{Text}
use Rattle.gh_machine.specs.declared.text.Text.TheVariants.{Letters, Digits}
use Rattle.gh_machine.specs.declared.text.Pair.{Pair}
use Rattle.gh_machine.specs.declared.text.Head.{Head}
use Rattle.gh_machine.specs.declared.text.Head.TheVariants as h

abbrev pub text_of : Text → List ℕ
text_of (Letters at t) = drop at (chars_in (term_of t.now))
text_of (Digits at n) = drop at (signed_decimal n)

-- its first character, and the rest
pub record IsPair (all : List ℕ) (p : Pair) : Type 0 where
  pub c : ℕ
  pub more : List ℕ
  pub cs : all ≡ c ∷ more
  pub first : code_in p.first ≡ lit (char c)
  pub rest : code_in p.rest ≡ string more
  pub first_env : env_of p.first ≡ 0
  pub rest_env : env_of p.rest ≡ 0

-- it is a string, a constructor, or nothing that a printed list begins with
abbrev pub IsHead : Demand → Head → Type 0
IsHead d (h.Chars t) = demand_code d ≡ string (text_of t)
IsHead d (h.Con c) = demand_code d ≡ con c
IsHead d h.Other = (envs : List Env) → IsFree envs d → (ws : List Waiting) (out : List ℕ) (s : State) → settled_at (opened (demanded_in envs d)) ws out s ≡ s
