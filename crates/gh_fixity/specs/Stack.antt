-- A reader of operator lists that keeps a stack of what is open, as functions.
use Rattle.std.proofs.Common.{◌≡◌, ℕ, Bool, true, List, [], ◌∷◌, ◌++◌, Option, Some, None, if◌then◌else◌, refl}
use Rattle.gh_fixity.specs.declared.item.Fixity.{Fixity}
use Rattle.gh_fixity.specs.declared.item.Item.{Item}
use Rattle.gh_fixity.specs.Arrangement.{Tree, leaf, minus, pair, Mark, leaf_at, minus_sign, op_at, minus_fixity, may_be_left, may_be_right, is_list, is_rest}

-- what waits for its right operand
pub data Open : Type 0 where
  after_minus : Open
  after : ℕ → Fixity → Tree → Open

abbrev pub open_fixity : Open → Fixity
open_fixity after_minus = minus_fixity
open_fixity (after p f l) = f

abbrev pub applied : Open → Tree → Tree
applied after_minus t = minus t
applied (after p f l) t = pair p f l t

-- the tree after all that is open, the innermost first
abbrev pub closed : List Open → Tree → Tree
closed [] t = t
closed (g ∷ gs) t = closed gs (applied g t)

-- a node of this fixity may stand under the innermost
abbrev pub allows : List Open → Fixity → Bool
allows [] f = true
allows (g ∷ gs) f = may_be_right (open_fixity g) f

abbrev pub settled : List Open → Tree → Fixity → Option (List Open × Tree)
settled gs t f = if allows gs f then Some (gs, t) else None

-- before an operator: what may be its left child is closed
abbrev pub reduced : List Open → Tree → Fixity → Option (List Open × Tree)
reduced [] t f = Some ([], t)
reduced (g ∷ gs) t f = if may_be_left f (open_fixity g) then reduced gs (applied g t) f else settled (g ∷ gs) t f

-- what is open, and the leaf that was read last, if no operator came after it
abbrev pub State : Type 0
State = List Open × Option ℕ

abbrev pub shifted : ℕ → Fixity → Option (List Open × Tree) → Option State
shifted p f None = None
shifted p f (Some r) = Some (after p f r.1 ∷ r.0, None)

abbrev pub step : List Open → Option ℕ → Mark → Option State
step gs None (leaf_at p) = Some (gs, Some p)
step gs None minus_sign = if allows gs minus_fixity then Some (after_minus ∷ gs, None) else None
step gs None (op_at p f) = None
step gs (Some q) (leaf_at p) = None
step gs (Some q) minus_sign = None
step gs (Some q) (op_at p f) = shifted p f (reduced gs (leaf q) f)

abbrev pub then_step : Option State → Mark → Option State
then_step None m = None
then_step (Some s) m = step s.0 s.1 m

abbrev pub steps : Option State → List Mark → Option State
steps s [] = s
steps s (m ∷ ms) = steps (then_step s m) ms

-- before the first item
abbrev pub start : Option State
start = Some ([], None)

pub steps-append : (s : Option State) (xs ys : List Mark) → steps s (xs ++ ys) ≡ steps (steps s xs) ys
steps-append s [] ys = refl
steps-append s (m ∷ xs) ys = steps-append (then_step s m) xs ys

pub steps-None : (ms : List Mark) → steps None ms ≡ None
steps-None [] = refl
steps-None (m ∷ ms) = steps-None ms

-- what the grammar still gives, after a leaf or before an operand
abbrev pub goes : Option ℕ → List Item → Bool
goes None xs = is_list xs
goes (Some q) xs = is_rest xs
