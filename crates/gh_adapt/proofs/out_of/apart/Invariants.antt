use Rattle.std.proofs.Common.{◌≡◌, ℕ, suc, ◌+◌}
use Rattle.gh_core.specs.Typing.{code_of, type_of}
use Rattle.gh_adapt.specs.Typed.{apart_code}
use Rattle.gh_adapt.proofs.out_of.apart.Given as goal

abbrev pub invariant-loop-at : goal.invariant-loop-at
invariant-loop-at l = (n : ℕ) → l.at + suc n ≡ l.count → (l.name ≡ (apart_code (type_of l.ty) l.at (suc n) (code_of l.fn.body)).0) × (code_of l.made ≡ (apart_code (type_of l.ty) l.at (suc n) (code_of l.fn.body)).1)
