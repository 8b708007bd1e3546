-- The names of bindings are those of tokens.
use Rattle.std.specs.Prelude.{List, [], ◌∷◌}
use Rattle.gh_bindings.specs.declared.binding.Operand.{Operand}
use Rattle.gh_bindings.specs.declared.binding.Operand.TheVariants as operand
use Rattle.gh_bindings.specs.declared.binding.Binding.{Binding}
use Rattle.gh_lexer.specs.Seen.{Table, IsPlaced}
use Rattle.gh_tree_form.specs.declared.program.Parsed.{Parsed}
use Rattle.gh_tree_form.specs.declared.program.Parsed.TheVariants as parsed

-- the ids are of the table, each the one of its text
abbrev pub OperandPlaced : Table → Operand → Type 0
OperandPlaced table (operand.Name n s) = IsPlaced table n
OperandPlaced table (operand.Text cs) = Unit {0}

abbrev pub OperandsPlaced : Table → List Operand → Type 0
OperandsPlaced table [] = Unit {0}
OperandsPlaced table (o ∷ os) = OperandPlaced table o × OperandsPlaced table os

abbrev pub BindingPlaced : Table → Binding → Type 0
BindingPlaced table b = IsPlaced table b.name × OperandsPlaced table b.operands

abbrev pub BindingsPlaced : Table → List Binding → Type 0
BindingsPlaced table [] = Unit {0}
BindingsPlaced table (b ∷ bs) = BindingPlaced table b × BindingsPlaced table bs

abbrev pub ParsedPlaced : Table → Parsed → Type 0
ParsedPlaced table (parsed.Bad s) = Unit {0}
ParsedPlaced table (parsed.Program bs) = BindingsPlaced table bs
