-- Folds over type terms.
use Rattle.std.specs.Prelude.{ℕ, ◌+◌, ◌==◌, Bool, List, [], ◌∷◌, ◌++◌, Option, Some, None, if◌then◌else◌, unwrap_or}
use Rattle.std.specs.List.{list_any}
use Rattle.gh_typeterm.specs.declared.ty.TyNode.{TyNode, fold-TyNode}
use Rattle.gh_typeterm.specs.declared.ty.TyNode.TheVariants as t
use Rattle.gh_typeterm.specs.declared.ty.TyNode.TheOpen.{TyNode-F}

-- the number of nodes
abbrev pub size_step : TyNode-F ℕ → ℕ
size_step (TyNode-F.Con c) = 1
size_step (TyNode-F.Var v) = 1
size_step (TyNode-F.App head arg) = 1 + head + arg
size_step (TyNode-F.Name n) = 1

abbrev pub size_of : TyNode → ℕ
size_of = fold-TyNode ℕ size_step

-- the first term of a variable in a list of replacements
abbrev pub listed : List (ℕ × TyNode) → ℕ → Option TyNode
listed [] v = None
listed (p ∷ ps) v = if p.0 == v then Some p.1 else listed ps v

-- what a list of replacements makes of a variable: one that is not listed stays
abbrev pub image_of : List (ℕ × TyNode) → ℕ → TyNode
image_of by v = unwrap_or (listed by v) (t.Var v)

-- each variable replaced by its image, all at once
abbrev pub substituted_step : List (ℕ × TyNode) → TyNode-F TyNode → TyNode
substituted_step by (TyNode-F.Con c) = t.Con c
substituted_step by (TyNode-F.Var v) = image_of by v
substituted_step by (TyNode-F.App head arg) = t.App head arg
substituted_step by (TyNode-F.Name n) = t.Name n

abbrev pub substituted : List (ℕ × TyNode) → TyNode → TyNode
substituted by = fold-TyNode TyNode (substituted_step by)

-- the variables from left to right, each as often as it stands there
abbrev pub vars_step : TyNode-F (List ℕ) → List ℕ
vars_step (TyNode-F.Con c) = []
vars_step (TyNode-F.Var v) = v ∷ []
vars_step (TyNode-F.App head arg) = head ++ arg
vars_step (TyNode-F.Name n) = []

abbrev pub vars_in : TyNode → List ℕ
vars_in = fold-TyNode (List ℕ) vars_step

-- the type names from left to right, each as often as it stands there
abbrev pub names_step : TyNode-F (List ℕ) → List ℕ
names_step (TyNode-F.Con c) = []
names_step (TyNode-F.Var v) = []
names_step (TyNode-F.App head arg) = head ++ arg
names_step (TyNode-F.Name n) = n ∷ []

abbrev pub names_in : TyNode → List ℕ
names_in = fold-TyNode (List ℕ) names_step

-- the variable stands in the term
abbrev pub has_var : ℕ → TyNode → Bool
has_var v term = list_any (λ w. w == v) (vars_in term)

-- a type applied to arguments, one after another
abbrev pub applied : TyNode → List TyNode → TyNode
applied head [] = head
applied head (arg ∷ args) = applied (t.App head arg) args

-- the head of a nest of applications, with its arguments from left to right: a term that is no application has none
abbrev pub spine_step : TyNode-F (TyNode × List TyNode) → TyNode × List TyNode
spine_step (TyNode-F.Con c) = (t.Con c, [])
spine_step (TyNode-F.Var v) = (t.Var v, [])
spine_step (TyNode-F.App head arg) = (head.0, head.1 ++ applied arg.0 arg.1 ∷ [])
spine_step (TyNode-F.Name n) = (t.Name n, [])

abbrev pub spine_of : TyNode → TyNode × List TyNode
spine_of = fold-TyNode (TyNode × List TyNode) spine_step
