-- Small cases of the definitions.
use Rattle.std.proofs.Common.{◌≡◌, ℕ, true, false, List, [], ◌∷◌, Some, None, refl}
use Rattle.gh_base.specs.declared.fixed.TheConstants.{PRELUDE, UNIT, SUM, PROD}
use Rattle.gh_base.specs.declared.names.NameId.{NameId}
use Rattle.gh_base.specs.declared.place.Origin.{Origin}
use Rattle.gh_base.specs.declared.place.Space.TheVariants.{Types, Values}
use Rattle.gh_base.specs.declared.place.TyCon.TheVariants.{Int, Char, Arrow, Named, ConOf}
use Rattle.gh_typeterm.specs.declared.decl.DeclCon.{DeclCon}
use Rattle.gh_typeterm.specs.declared.decl.DeclData.{DeclData}
use Rattle.gh_typeterm.specs.declared.ty.TyNode.{TyNode}
use Rattle.gh_typeterm.specs.declared.ty.TyNode.TheVariants.{Con, Var, App, Name}
use Rattle.gh_typeterm.specs.Terms.{size_of, listed, substituted, vars_in, names_in, has_var, applied, spine_of}
use Rattle.gh_typeterm.specs.Representation.{rep_of, paths_of}
use Rattle.gh_typeterm.proofs.Folds.{folds}

abbrev arrow : TyNode → TyNode → TyNode
arrow a b = App (App (Con Arrow) a) b

-- a variable is one node, and an application one more than its parts
pub one_node : size_of (Var 7) ≡ 1
one_node = simp folds

pub five_nodes : size_of (arrow (Con Int) (Name 0)) ≡ 5
five_nodes = simp folds

-- the first entry of a variable counts
pub first_entry : listed ((1, Con Int) ∷ (1, Con Char) ∷ []) 1 ≡ Some (Con Int)
first_entry = refl

pub no_entry : listed ((1, Con Int) ∷ []) 2 ≡ None
no_entry = refl

pub replaced : substituted ((1, Con Int) ∷ (1, Var 5) ∷ []) (arrow (Var 1) (arrow (Var 2) (Name 1))) ≡ arrow (Con Int) (arrow (Var 2) (Name 1))
replaced = simp folds

-- all at once: what was put in is not replaced again
pub at_once : substituted ((0, Var 1) ∷ (1, Var 0) ∷ []) (App (Var 0) (Var 1)) ≡ App (Var 1) (Var 0)
at_once = simp folds

-- the head of an application is replaced too
pub in_heads : substituted ((0, Con Arrow) ∷ []) (App (Var 0) (Var 0)) ≡ App (Con Arrow) (Con Arrow)
in_heads = simp folds

pub two_vars : vars_in (arrow (Var 3) (App (Name 4) (Var 3))) ≡ 3 ∷ 3 ∷ []
two_vars = simp folds

pub one_name : names_in (arrow (Var 3) (App (Name 4) (Var 3))) ≡ 4 ∷ []
one_name = simp folds

pub stands_there : has_var 3 (arrow (Var 3) (Name 4)) ≡ true
stands_there = simp folds

pub stands_not_there : has_var 4 (arrow (Var 3) (Name 4)) ≡ false
stands_not_there = simp folds

pub arrow_applied : applied (Con Arrow) (Con Int ∷ Con Char ∷ []) ≡ arrow (Con Int) (Con Char)
arrow_applied = refl

-- an application that is an argument stays whole
pub arrow_spine : spine_of (arrow (App (Con Int) (Var 0)) (Name 2)) ≡ (Con Arrow, App (Con Int) (Var 0) ∷ Name 2 ∷ [])
arrow_spine = simp folds

abbrev number : ℕ → NameId
number n = record { 0 = n }

abbrev named : ℕ → Origin
named n = record { «module» = number 900; space = Values; name = number n }

abbrev prelude : NameId → TyNode
prelude n = Con (Named (record { «module» = PRELUDE; space = Types; name = n }))

-- `data Tree a = Leaf | Node (Tree a) a (Tree a)`
abbrev tree : TyNode
tree = App (Con (Named (record { «module» = number 900; space = Types; name = number 901 }))) (Var 0)

abbrev leaf : DeclCon
leaf = record { origin = named 902; fields = [] }

abbrev node : DeclCon
node = record { origin = named 903; fields = tree ∷ Var 0 ∷ tree ∷ [] }

abbrev tree_data : List DeclCon → DeclData
tree_data cons = record { origin = named 901; is_newtype = false; params = []; constructors = cons }

-- `Sum (ConOf(Leaf) Unit) (ConOf(Node) (Prod (Tree a) (Prod a (Tree a))))`
pub tree_rep : rep_of (tree_data (leaf ∷ node ∷ []))
    ≡ App (App (prelude SUM) (App (Con (ConOf (named 902))) (prelude UNIT)))
    (App (Con (ConOf (named 903))) (App (App (prelude PROD) tree) (App (App (prelude PROD) (Var 0)) tree)))
tree_rep = refl

-- one constructor has no sum
pub leaf_rep : rep_of (tree_data (leaf ∷ [])) ≡ App (Con (ConOf (named 902))) (prelude UNIT)
leaf_rep = refl

-- sums nest to the right
pub three_rep : rep_of (tree_data (leaf ∷ leaf ∷ leaf ∷ []))
    ≡ (let l : TyNode = App (Con (ConOf (named 902))) (prelude UNIT) in App (App (prelude SUM) l) (App (App (prelude SUM) l) l))
three_rep = refl

pub alone : paths_of 1 0 ≡ []
alone = refl

pub second_of_three : paths_of 3 1 ≡ true ∷ false ∷ []
second_of_three = refl

pub last_of_three : paths_of 3 2 ≡ true ∷ true ∷ []
last_of_three = refl

pub first_of_three : paths_of 3 0 ≡ false ∷ []
first_of_three = refl
