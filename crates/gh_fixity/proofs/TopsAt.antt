-- The fixities that a declaration gives to names at the top, variant by variant.
use Rattle.std.proofs.Common.{◌≡◌, ℕ, List, sym, ap, ◌∙◌}
use Rattle.gh_base.specs.declared.place.Span.{Span}
use Rattle.gh_program.specs.declared.names.Occurrence.{Occurrence}
use Rattle.gh_program.specs.declared.names.FixityWord.{FixityWord}
use Rattle.gh_program.specs.declared.types.TypeExpr.{TypeExpr}
use Rattle.gh_program.specs.declared.patterns.Pattern.{Pattern}
use Rattle.gh_program.specs.declared.patterns.FunLhs.{FunLhs}
use Rattle.gh_program.specs.declared.expressions.Rhs.{Rhs}
use Rattle.gh_program.specs.declared.expressions.Decl.{out-roll-Decl}
use Rattle.gh_program.specs.declared.expressions.Decl.TheVariants as v_Decl
use Rattle.gh_program.specs.declared.expressions.Aexp.TheOpen.{Decl-F}
use Rattle.gh_fixity.specs.Fixities.{TopFixities, with_tops, written_fixity}
use Rattle.gh_fixity.specs.Programs.{decl_tops, decl_tops_by}

pub tops_signature : (ts : TopFixities) (s : Span) (os : List Occurrence) (y : TypeExpr) → decl_tops ts (v_Decl.Signature s os y) ≡ ts
unfolding decl_tops
tops_signature ts s os y = ap (decl_tops ts) (sym (v_Decl.rolls-Signature s os y)) ∙ ap (decl_tops_by ts) (out-roll-Decl (Decl-F.Signature s os y))

pub tops_fixity : (ts : TopFixities) (s : Span) (w : FixityWord) (n : ℕ) (os : List Occurrence) → decl_tops ts (v_Decl.Fixity s w n os) ≡ with_tops (written_fixity w n) ts os
unfolding decl_tops
tops_fixity ts s w n os = ap (decl_tops ts) (sym (v_Decl.rolls-Fixity s w n os)) ∙ ap (decl_tops_by ts) (out-roll-Decl (Decl-F.Fixity s w n os))

pub tops_function : (ts : TopFixities) (s : Span) (f : FunLhs) (r : Rhs) → decl_tops ts (v_Decl.Function s f r) ≡ ts
unfolding decl_tops
tops_function ts s f r = ap (decl_tops ts) (sym (v_Decl.rolls-Function s f r)) ∙ ap (decl_tops_by ts) (out-roll-Decl (Decl-F.Function s f r))

pub tops_pattern : (ts : TopFixities) (s : Span) (p : Pattern) (r : Rhs) → decl_tops ts (v_Decl.Pattern s p r) ≡ ts
unfolding decl_tops
tops_pattern ts s p r = ap (decl_tops ts) (sym (v_Decl.rolls-Pattern s p r)) ∙ ap (decl_tops_by ts) (out-roll-Decl (Decl-F.Pattern s p r))
