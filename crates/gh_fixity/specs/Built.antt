-- The nodes of a program that a tree over an operator list stands for: its operands, operators and minus signs are those of
-- the list, from left to right.
use Rattle.std.specs.Prelude.{List, [], ◌∷◌, drop, Option, Some, None}
use Rattle.gh_base.specs.declared.place.Span.{Span}
use Rattle.gh_program.specs.declared.names.Occurrence.{Occurrence}
use Rattle.gh_program.specs.declared.names.GenCon.TheVariants as v_GenCon
use Rattle.gh_program.specs.declared.patterns.Pattern.{Pattern}
use Rattle.gh_program.specs.declared.patterns.Pattern.TheVariants as v_Pattern
use Rattle.gh_program.specs.declared.patterns.PatOperand.TheVariants as v_PatOperand
use Rattle.gh_program.specs.declared.expressions.Operands.{Operands}
use Rattle.gh_program.specs.declared.expressions.Operands.TheVariants as v_Operands
use Rattle.gh_program.specs.declared.expressions.Operand.TheVariants as v_Operand
use Rattle.gh_program.specs.declared.expressions.Aexp.TheVariants as v_Aexp
use Rattle.gh_fixity.specs.declared.part.Part.{Part}
use Rattle.gh_fixity.specs.declared.part.Part.TheVariants as part
use Rattle.gh_fixity.specs.Arrangement.{Tree, leaf, minus, pair}
use Rattle.gh_fixity.specs.Parts.{start}
use Rattle.gh_fixity.specs.Settle.{Settling, goes, fails}
use Rattle.gh_fixity.specs.Spans.{operand_span, operands_span, pat_operand_span, pattern_span}

-- how a leaf, a minus sign and an operator become nodes
pub record Nodes (N : Type 0) : Type 0 where
  pub leaf_of : Option Part → Option N
  pub negate : Span → N → N
  pub pair_of : N → Occurrence → N → N

abbrev pub next_part : List Part → Option Part
next_part [] = None
next_part (p ∷ ps) = Some p

abbrev pub sign_of : Option Part → Option Span
sign_of (Some (part.Minus s)) = Some s
sign_of _ = None

abbrev pub operator_of : Option Part → Option Occurrence
operator_of (Some (part.Op o)) = Some o
operator_of _ = None

abbrev pub with_rest : {N : Type 0} → Option N → List Part → Option (N × List Part)
with_rest None ps = None
with_rest (Some n) ps = Some (n, ps)

abbrev pub negated : {N : Type 0} → Nodes N → Option Span → Option (N × List Part) → Option (N × List Part)
negated B None r = None
negated B (Some s) None = None
negated B (Some s) (Some r) = Some (B.negate s r.0, r.1)

abbrev pub paired : {N : Type 0} → Nodes N → N → Option Occurrence → Option (N × List Part) → Option (N × List Part)
paired B n None r = None
paired B n (Some o) None = None
paired B n (Some o) (Some r) = Some (B.pair_of n o r.0, r.1)

abbrev pub and_right : {N : Type 0} → Nodes N → (List Part → Option (N × List Part)) → Option (N × List Part) → Option (N × List Part)
and_right B k None = None
and_right B k (Some r) = paired B r.0 (operator_of (next_part r.1)) (k (drop 1 r.1))

-- the node of a tree, and the parts behind it; none where the parts are not those of the tree
abbrev pub built : {N : Type 0} → Nodes N → Tree → List Part → Option (N × List Part)
built B (leaf p) ps = with_rest (B.leaf_of (next_part ps)) (drop 1 ps)
built B (minus t) ps = negated B (sign_of (next_part ps)) (built B t (drop 1 ps))
built B (pair p f a b) ps = and_right B (λ qs. built B b qs) (built B a ps)

-- from the first byte of one to the last of another
abbrev pub across : Span → Span → Span
across a b = record { file = a.file; from = a.from; to = b.to }

abbrev pub operand_leaf : Option Part → Option Operands
operand_leaf (Some (part.Operand x)) = Some (v_Operands.Listed (operand_span x) None x [])
operand_leaf _ = None

abbrev pub pattern_leaf : Option Part → Option Pattern
pattern_leaf (Some (part.Pattern x)) = Some (v_Pattern.Listed (pat_operand_span x) x [])
pattern_leaf _ = None

abbrev pub op_nodes : Nodes Operands
op_nodes = record {
  leaf_of = operand_leaf;
  negate = λ s n. v_Operands.Negate (across s (operands_span n)) s n;
  pair_of = λ a o b. v_Operands.Infix (across (operands_span a) (operands_span b)) a o b;
}

-- a list of patterns has no minus signs
abbrev pub pat_nodes : Nodes Pattern
pat_nodes = record {
  leaf_of = pattern_leaf;
  negate = λ s n. n;
  pair_of = λ a o b. v_Pattern.Infix (across (pattern_span a) (pattern_span b)) a o b;
}

-- what stands in the place of a list that clashes, in a program that is refused
abbrev pub no_operands : Operands
no_operands = v_Operands.Listed start None (v_Operand.Apply start (v_Aexp.Con (v_GenCon.Unit start)) []) []

abbrev pub no_pattern : Pattern
no_pattern = v_Pattern.Listed start (v_PatOperand.Negative start 0) []

abbrev pub node_or : {N : Type 0} → N → Option (N × List Part) → N
node_or d None = d
node_or d (Some r) = r.0

abbrev pub settled_tree : Settling → Option Tree
settled_tree (goes t) = Some t
settled_tree (fails l r) = None

abbrev pub left_child : Option Tree → Option Tree
left_child (Some (pair p f a b)) = Some a
left_child _ = None

abbrev pub right_child : Option Tree → Option Tree
right_child (Some (pair p f a b)) = Some b
right_child _ = None

abbrev pub from_tree : {N : Type 0} → Nodes N → N → List Part → Option Tree → N
from_tree B d ps None = d
from_tree B d ps (Some t) = node_or d (built B t ps)
