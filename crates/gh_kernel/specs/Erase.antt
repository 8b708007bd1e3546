-- Terms without their notes.
use Rattle.std.specs.Prelude.{map, Option, option_map}
use Rattle.gh_base.specs.declared.place.Origin.{Origin}
use Rattle.gh_base.specs.declared.place.Span.{Span}
use Rattle.gh_kernel.specs.declared.patterns.Pattern.{Pattern, fold-Pattern, roll-Pattern}
use Rattle.gh_kernel.specs.declared.patterns.PatternNode.{PatternNode, fold-PatternNode}
use Rattle.gh_kernel.specs.declared.patterns.PatternNode.TheOpen.{Pattern-F, PatternNode-F}
use Rattle.gh_kernel.specs.declared.patterns.PatternNode.TheVariants as p
use Rattle.gh_kernel.specs.declared.terms.Term.{Term, fold-Term, roll-Term}
use Rattle.gh_kernel.specs.declared.terms.TermNode.{TermNode, fold-TermNode}
use Rattle.gh_kernel.specs.declared.terms.Row.{Row, fold-Row, roll-Row}
use Rattle.gh_kernel.specs.declared.terms.LocalBinding.{LocalBinding, fold-LocalBinding, roll-LocalBinding}
use Rattle.gh_kernel.specs.declared.terms.TermNode.TheOpen.{LocalBinding-F, Row-F, Term-F, TermNode-F}
use Rattle.gh_kernel.specs.declared.terms.TermNode.TheVariants as t

abbrev pub unit : Type 0
unit = Unit {0}

module _ {A : Type 0} where
  abbrev pub pattern_step : Pattern-F A (PatternNode unit) (Pattern unit) → Pattern unit
  pattern_step q = roll-Pattern unit (record { node = q.node; note = tt })

  abbrev pub pattern_node_step : PatternNode-F A (PatternNode unit) (Pattern unit) → PatternNode unit
  pattern_node_step (PatternNode-F.PVar x) = p.PVar x
  pattern_node_step PatternNode-F.PWild = p.PWild
  pattern_node_step (PatternNode-F.PCon c ps) = p.PCon c ps
  pattern_node_step (PatternNode-F.PLit l) = p.PLit l
  pattern_node_step (PatternNode-F.PAs x q) = p.PAs x q

  -- the same pattern without its notes
  abbrev pub erased_pattern : Pattern A → Pattern unit
  erased_pattern = fold-Pattern A (PatternNode unit) (Pattern unit) pattern_node_step pattern_step

  abbrev pub term_step : Term-F A (TermNode unit) (LocalBinding unit) (Row unit) (Term unit) → Term unit
  term_step e = roll-Term unit (record { node = e.node; note = tt })

  abbrev pub row_step : Row-F A (TermNode unit) (LocalBinding unit) (Row unit) (Term unit) → Row unit
  row_step row = roll-Row unit (record { patterns = map erased_pattern row.patterns; groups = row.groups; bodies = row.bodies })

  abbrev pub binding_step : LocalBinding-F A (TermNode unit) (LocalBinding unit) (Row unit) (Term unit) → LocalBinding unit
  binding_step b = roll-LocalBinding unit (record { name = b.name; signature = b.signature; term = b.term; note = tt })

  abbrev pub node_step : TermNode-F A (TermNode unit) (LocalBinding unit) (Row unit) (Term unit) → TermNode unit
  node_step (TermNode-F.Var x) = t.Var x
  node_step (TermNode-F.Con c) = t.Con c
  node_step (TermNode-F.Lit l) = t.Lit l
  node_step (TermNode-F.Lam x e) = t.Lam x e
  node_step (TermNode-F.App f e) = t.App f e
  node_step (TermNode-F.Let gs e) = t.Let gs e
  node_step (TermNode-F.Case es rows) = t.Case es rows
  node_step (TermNode-F.Call w i) = t.Call w i
  node_step (TermNode-F.Redef n name pairs e) = t.Redef n name pairs e
  node_step (TermNode-F.Ann e s) = t.Ann e s

  -- the same term without its notes
  abbrev pub erased : Term A → Term unit
  erased = fold-Term A (TermNode unit) (LocalBinding unit) (Row unit) (Term unit) node_step binding_step row_step term_step

  abbrev pub erased_row : Row A → Row unit
  erased_row = fold-Row A (TermNode unit) (LocalBinding unit) (Row unit) (Term unit) node_step binding_step row_step term_step

  abbrev pub erased_binding : LocalBinding A → LocalBinding unit
  erased_binding = fold-LocalBinding A (TermNode unit) (LocalBinding unit) (Row unit) (Term unit) node_step binding_step row_step term_step

  abbrev pub erased_node : TermNode A → TermNode unit
  erased_node = fold-TermNode A (TermNode unit) (LocalBinding unit) (Row unit) (Term unit) node_step binding_step row_step term_step

  abbrev pub erased_pattern_node : PatternNode A → PatternNode unit
  erased_pattern_node = fold-PatternNode A (PatternNode unit) (Pattern unit) pattern_node_step pattern_step

  abbrev pub erased_pair : Origin × Span × Term A → Origin × Span × Term unit
  erased_pair pair = (pair.0, pair.1, erased pair.2)

  abbrev pub erased_body : Option (Term A) × Term A → Option (Term unit) × Term unit
  erased_body body = (option_map erased body.0, erased body.1)
