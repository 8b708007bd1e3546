-- Which applied types are a constructor with its fields.
use Rattle.std.proofs.Common.{◌≡◌, List, Some, None, sym, ap, ◌∙◌, cond}
use Rattle.gh_base.specs.declared.place.Span.{Span}
use Rattle.gh_tree.specs.declared.names.Name.{Name}
use Rattle.gh_tree.specs.declared.names.Con.TheVariants as n_Con
use Rattle.gh_tree.specs.declared.types.ArgType.{ArgType, out-ArgType, out-roll-ArgType}
use Rattle.gh_tree.specs.declared.types.ArgType.TheVariants as v_ArgType
use Rattle.gh_tree.specs.declared.types.ArgType.TheOpen.{ArgType-F}
use Rattle.gh_tree.specs.declared.types.TypeExpr.{TypeExpr}
use Rattle.gh_tree.specs.declared.types.TypePart.{TypePart}
use Rattle.gh_tree.specs.Print.{plain}
use Rattle.gh_parse_tops.specs.Tops.{fields_by}

pub fields_con : (x0 : Name) (ts : List ArgType) → fields_by (out-ArgType (v_ArgType.Con x0)) ts ≡ cond (plain x0) (Some (n_Con.Word x0, ts)) None
fields_con x0 ts = ap (λ y. fields_by y ts) (ap out-ArgType (sym (v_ArgType.rolls-Con x0)) ∙ out-roll-ArgType (ArgType-F.Con x0))

pub fields_var : (x0 : Name) (ts : List ArgType) → fields_by (out-ArgType (v_ArgType.Var x0)) ts ≡ None
fields_var x0 ts = ap (λ y. fields_by y ts) (ap out-ArgType (sym (v_ArgType.rolls-Var x0)) ∙ out-roll-ArgType (ArgType-F.Var x0))

pub fields_unit : (x0 : Span) (x1 : Span) (x2 : Span) (ts : List ArgType) → fields_by (out-ArgType (v_ArgType.Unit x0 x1 x2)) ts ≡ None
fields_unit x0 x1 x2 ts = ap (λ y. fields_by y ts) (ap out-ArgType (sym (v_ArgType.rolls-Unit x0 x1 x2)) ∙ out-roll-ArgType (ArgType-F.Unit x0 x1 x2))

pub fields_no_list : (x0 : Span) (x1 : Span) (x2 : Span) (ts : List ArgType) → fields_by (out-ArgType (v_ArgType.NoList x0 x1 x2)) ts ≡ None
fields_no_list x0 x1 x2 ts = ap (λ y. fields_by y ts) (ap out-ArgType (sym (v_ArgType.rolls-NoList x0 x1 x2)) ∙ out-roll-ArgType (ArgType-F.NoList x0 x1 x2))

pub fields_no_arrow : (x0 : Span) (x1 : Span) (x2 : Span) (x3 : Span) (ts : List ArgType) → fields_by (out-ArgType (v_ArgType.NoArrow x0 x1 x2 x3)) ts ≡ None
fields_no_arrow x0 x1 x2 x3 ts = ap (λ y. fields_by y ts) (ap out-ArgType (sym (v_ArgType.rolls-NoArrow x0 x1 x2 x3)) ∙ out-roll-ArgType (ArgType-F.NoArrow x0 x1 x2 x3))

pub fields_no_tuple : (x0 : Span) (x1 : Span) (x2 : List Span) (x3 : Span) (ts : List ArgType) → fields_by (out-ArgType (v_ArgType.NoTuple x0 x1 x2 x3)) ts ≡ None
fields_no_tuple x0 x1 x2 x3 ts = ap (λ y. fields_by y ts) (ap out-ArgType (sym (v_ArgType.rolls-NoTuple x0 x1 x2 x3)) ∙ out-roll-ArgType (ArgType-F.NoTuple x0 x1 x2 x3))

pub fields_paren : (x0 : Span) (x1 : Span) (x2 : TypeExpr) (x3 : Span) (ts : List ArgType) → fields_by (out-ArgType (v_ArgType.Paren x0 x1 x2 x3)) ts ≡ None
fields_paren x0 x1 x2 x3 ts = ap (λ y. fields_by y ts) (ap out-ArgType (sym (v_ArgType.rolls-Paren x0 x1 x2 x3)) ∙ out-roll-ArgType (ArgType-F.Paren x0 x1 x2 x3))

pub fields_tuple : (x0 : Span) (x1 : Span) (x2 : TypeExpr) (x3 : List TypePart) (x4 : Span) (ts : List ArgType) → fields_by (out-ArgType (v_ArgType.Tuple x0 x1 x2 x3 x4)) ts ≡ None
fields_tuple x0 x1 x2 x3 x4 ts = ap (λ y. fields_by y ts) (ap out-ArgType (sym (v_ArgType.rolls-Tuple x0 x1 x2 x3 x4)) ∙ out-roll-ArgType (ArgType-F.Tuple x0 x1 x2 x3 x4))

pub fields_list : (x0 : Span) (x1 : Span) (x2 : TypeExpr) (x3 : Span) (ts : List ArgType) → fields_by (out-ArgType (v_ArgType.List x0 x1 x2 x3)) ts ≡ None
fields_list x0 x1 x2 x3 ts = ap (λ y. fields_by y ts) (ap out-ArgType (sym (v_ArgType.rolls-List x0 x1 x2 x3)) ∙ out-roll-ArgType (ArgType-F.List x0 x1 x2 x3))
