-- The bytes of declarations, and the next item of a file.
use Rattle.std.proofs.Common.{◌≡◌, ℕ, List, Option, refl, sym, ap, ◌∙◌}
use Rattle.gh_base.specs.declared.place.Span.{Span}
use Rattle.gh_tree.specs.declared.names.Var.{Var}
use Rattle.gh_tree.specs.declared.names.Op.{Op}
use Rattle.gh_tree.specs.declared.names.FixityWord.{FixityWord}
use Rattle.gh_tree.specs.declared.names.NextVar.{NextVar}
use Rattle.gh_tree.specs.declared.names.NextOp.{NextOp}
use Rattle.gh_tree.specs.declared.types.TypeExpr.{TypeExpr}
use Rattle.gh_tree.specs.declared.patterns.Pattern.{Pattern}
use Rattle.gh_tree.specs.declared.patterns.FunLhs.{FunLhs}
use Rattle.gh_tree.specs.declared.expressions.Decl.{out-Decl, out-roll-Decl}
use Rattle.gh_tree.specs.declared.expressions.Decl.TheVariants as v_Decl
use Rattle.gh_tree.specs.declared.expressions.Rhs.{Rhs}
use Rattle.gh_tree.specs.declared.expressions.Aexp.TheOpen.{Decl-F}
use Rattle.gh_tree.specs.declared.module_tree.Item.{Item}
use Rattle.gh_tree.specs.declared.module_tree.Item.TheVariants as item
use Rattle.gh_limits.specs.Limits.{decl_span, decl_span_at, last_of}

pub out_signature : (x0 : Span) (x1 : Var) (x2 : List NextVar) (x3 : Span) (x4 : TypeExpr) → decl_span (v_Decl.Signature x0 x1 x2 x3 x4) ≡ x0
out_signature x0 x1 x2 x3 x4 = ap decl_span_at (ap out-Decl (sym (v_Decl.rolls-Signature x0 x1 x2 x3 x4)) ∙ out-roll-Decl (Decl-F.Signature x0 x1 x2 x3 x4))

pub out_fixity : (x0 : Span) (x1 : FixityWord) (x2 : Option (Span × ℕ)) (x3 : Op) (x4 : List NextOp) → decl_span (v_Decl.Fixity x0 x1 x2 x3 x4) ≡ x0
out_fixity x0 x1 x2 x3 x4 = ap decl_span_at (ap out-Decl (sym (v_Decl.rolls-Fixity x0 x1 x2 x3 x4)) ∙ out-roll-Decl (Decl-F.Fixity x0 x1 x2 x3 x4))

pub out_function : (x0 : Span) (x1 : FunLhs) (x2 : Rhs) → decl_span (v_Decl.Function x0 x1 x2) ≡ x0
out_function x0 x1 x2 = ap decl_span_at (ap out-Decl (sym (v_Decl.rolls-Function x0 x1 x2)) ∙ out-roll-Decl (Decl-F.Function x0 x1 x2))

pub out_pattern : (x0 : Span) (x1 : Pattern) (x2 : Rhs) → decl_span (v_Decl.Pattern x0 x1 x2) ≡ x0
out_pattern x0 x1 x2 = ap decl_span_at (ap out-Decl (sym (v_Decl.rolls-Pattern x0 x1 x2)) ∙ out-roll-Decl (Decl-F.Pattern x0 x1 x2))

-- behind nothing each item is the last
pub last_is : (i : Item) → last_of item.Empty i ≡ i
last_is item.Empty = refl
last_is (item.Import x) = refl
last_is (item.Top t) = refl
