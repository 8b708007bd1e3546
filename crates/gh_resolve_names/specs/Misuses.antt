-- Wrong uses of names: which stands first, and what a part of a tree becomes beside those that stand in it.
use Rattle.std.specs.Prelude.{ℕ, Bool, ◌==◌, nat_lt, cond, List, [], ◌∷◌, ◌++◌, Option, Some, None}
use Rattle.gh_resolve_names.specs.declared.misuse.Rule.{Rule}
use Rattle.gh_resolve_names.specs.declared.misuse.Rule.TheVariants as rule
use Rattle.gh_resolve_names.specs.declared.misuse.Misuse.{Misuse}

-- the number of the refusal that a rule is
abbrev pub number : Rule → ℕ
number rule.Unknown = 16
number rule.Ambiguous = 17
number rule.Fields = 21
number rule.Cycle = 23
number rule.Arguments = 24

-- by the first byte, and then by the number
abbrev pub is_before : Misuse → Misuse → Bool
is_before a b = cond (a.span.from == b.span.from) (nat_lt (number a.rule) (number b.rule)) (nat_lt a.span.from b.span.from)

-- of two that stand at one byte under one number, the first that was found
abbrev pub earlier : Option Misuse → Misuse → Option Misuse
earlier None c = Some c
earlier (Some b) c = cond (is_before c b) (Some c) (Some b)

-- the first of one that was found before and of these
abbrev pub least : Option Misuse → List Misuse → Option Misuse
least f [] = f
least f (c ∷ cs) = least (earlier f c) cs

-- what a part of a tree becomes, and the wrong uses in it
pub record Out (T : Type 0) : Type 0 where
  pub tree : T
  pub misuses : List Misuse

abbrev pub right : {T : Type 0} → T → Out T
right t = record { tree = t; misuses = [] }

-- several parts, one after another, where what one becomes depends on what is in scope
abbrev pub Walk : Type 0 → Type 0 → Type 0
Walk L T = L → Out T

abbrev pub trees : {L T : Type 0} → L → List (Walk L T) → List T
trees l [] = []
trees l (g ∷ gs) = (g l).tree ∷ trees l gs

abbrev pub all_misuses : {L T : Type 0} → L → List (Walk L T) → List Misuse
all_misuses l [] = []
all_misuses l (g ∷ gs) = (g l).misuses ++ all_misuses l gs

-- lists, one after another
abbrev pub joined : {T : Type 0} → List (List T) → List T
joined [] = []
joined (xs ∷ ys) = xs ++ joined ys
