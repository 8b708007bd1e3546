-- Where all tokens were read.
use Rattle.std.proofs.Common.{◌≡◌, List, [], ◌∷◌, Some, None, refl, ap}
use Rattle.gh_tree.specs.declared.symbol.Sym.{Sym}
use Rattle.gh_tree.specs.Read.{Outcome, taken}
use Rattle.gh_parser.specs.Readers.{where_none_left, whole}
use Rattle.gh_parser.proofs.Bind.{some_value}

none_left : {A : Type 0} (x y : A) (ss : List Sym) → where_none_left x ss ≡ Some y → (x ≡ y) × (ss ≡ [])
none_left x y [] e = (some_value x y e, refl)
none_left x y (s ∷ ss) e = absurd (cc)

-- all tokens were read
pub record All {A : Type 0} (o : Outcome A) (y : A) : Type 0 where
  pub rest : List Sym
  pub read : o ≡ taken y rest
  pub end : rest ≡ []

pub whole_is : {A : Type 0} (o : Outcome A) (y : A) → whole o ≡ Some y → All o y
whole_is None y e = absurd (cc)
whole_is (Some p) y e = let h = none_left p.0 y p.1 e in record { rest = p.1; read = ap (λ x. taken x p.1) h.0; end = h.1 }
