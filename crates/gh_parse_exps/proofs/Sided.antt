-- A left side and a right side, whichever the left side is.
use Rattle.std.proofs.Common.{◌≡◌, List, Some, None, ap}
use Rattle.gh_tree.specs.declared.symbol.Sym.{Sym}
use Rattle.gh_tree.specs.declared.expressions.Rhs.{Rhs}
use Rattle.gh_tree.specs.declared.expressions.Decl.TheVariants as v_Decl
use Rattle.gh_tree.specs.Read.{and_then, covered, taken}
use Rattle.gh_parse_lefts.specs.declared.sides.Left.{Left}
use Rattle.gh_parse_lefts.specs.declared.sides.Left.TheVariants as v_Left
use Rattle.gh_parse_exps.specs.Knot.{Knot}
use Rattle.gh_parse_exps.specs.Decls.{rhs, sided_by, decl_of}

pub sided_reads : (K : Knot) (l : Left) (start ss us : List Sym) (r : Rhs) → rhs K ss ≡ Some (r, us) → sided_by K l start ss ≡ Some (decl_of l (covered start us) r, us)
sided_reads K (v_Left.Function f) start ss us r e = ap (λ o. and_then o (λ x vs. taken (v_Decl.Function (covered start vs) f x) vs)) e
sided_reads K (v_Left.Pattern p) start ss us r e = ap (λ o. and_then o (λ x vs. taken (v_Decl.Pattern (covered start vs) p x) vs)) e

pub sided_fails : (K : Knot) (l : Left) (start ss : List Sym) → rhs K ss ≡ None → sided_by K l start ss ≡ None
sided_fails K (v_Left.Function f) start ss e = ap (λ o. and_then o (λ x vs. taken (v_Decl.Function (covered start vs) f x) vs)) e
sided_fails K (v_Left.Pattern p) start ss e = ap (λ o. and_then o (λ x vs. taken (v_Decl.Pattern (covered start vs) p x) vs)) e
