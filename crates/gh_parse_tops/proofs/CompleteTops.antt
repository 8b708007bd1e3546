-- What is printed of a well-formed declaration of the top is read, where nothing follows it.
use Rattle.std.proofs.Common.{◌≡◌, ℕ, suc, ◌≤◌, Bool, true, false, ◌&&◌, cond, List, [], ◌∷◌, ◌++◌, length, map, Option, Some, None, refl, sym, ap, ◌∙◌, append_assoc, length-append, arith, eq-eqb}
use Rattle.gh_base.specs.declared.fixed.TheConstants.{EXTENDS}
use Rattle.gh_base.specs.declared.names.NameId.{NameId}
use Rattle.gh_base.specs.declared.place.Span.{Span}
use Rattle.gh_tree.specs.declared.symbol.Kind.{Kind}
use Rattle.gh_tree.specs.declared.symbol.Kind.TheVariants as k
use Rattle.gh_tree.specs.declared.symbol.Sym.{Sym}
use Rattle.gh_tree.specs.declared.names.Name.{Name}
use Rattle.gh_tree.specs.declared.names.Con.{Con}
use Rattle.gh_tree.specs.declared.names.Var.{Var}
use Rattle.gh_tree.specs.declared.names.Var.TheVariants as n_Var
use Rattle.gh_tree.specs.declared.types.ArgType.{ArgType}
use Rattle.gh_tree.specs.declared.types.TypeExpr.{TypeExpr}
use Rattle.gh_tree.specs.declared.patterns.ArgPattern.{ArgPattern}
use Rattle.gh_tree.specs.declared.expressions.Decl.{Decl}
use Rattle.gh_tree.specs.declared.expressions.Rhs.{Rhs}
use Rattle.gh_tree.specs.declared.tops.Top.{Top}
use Rattle.gh_tree.specs.declared.tops.Top.TheVariants as v_Top
use Rattle.gh_tree.specs.declared.tops.Constr.{Constr}
use Rattle.gh_tree.specs.declared.tops.NextConstr.{NextConstr}
use Rattle.gh_tree.specs.declared.tops.Context.{Context}
use Rattle.gh_tree.specs.declared.tops.GenVars.{GenVars}
use Rattle.gh_tree.specs.Syms.{at}
use Rattle.gh_tree.specs.Print.{Print, flat_all, good_all, is_none, plain, plain_var, plain_con, con_id}
use Rattle.gh_tree.specs.Print as printed
use Rattle.gh_tree.specs.Read.{taken, kind, after, covered}
use Rattle.gh_tree.specs.ReadExports.{module_name}
use Rattle.gh_tree.specs.ReadPatterns.{begins_arg_by, is_at}
use Rattle.gh_tree.proofs.Steps.{chain, both, and_is, not_so, spanned_span}
use Rattle.gh_tree.proofs.CompleteNames.{var_complete, var_looks}
use Rattle.gh_tree.proofs.CompleteTypes as types
use Rattle.gh_tree.proofs.CompletePatterns.{arg_starts}
use Rattle.gh_parse_lefts.specs.Lefts.{begins_rhs_by}
use Rattle.gh_parse_exps.specs.Knot.{Knot}
use Rattle.gh_parse_exps.specs.Ops.{is_banana}
use Rattle.gh_parse_exps.specs.Marks.{is_colons}
use Rattle.gh_parse_exps.proofs.Premises.{KnotComplete}
use Rattle.gh_parse_exps.proofs.Starts.{some_of}
use Rattle.gh_parse_exps.proofs.CompleteOps.{any_var_complete, any_var_looks}
use Rattle.gh_parse_exps.proofs.CompleteDecls.{rhs_starts, rhs_complete, decl_complete}
use Rattle.gh_parse_exps.proofs.CompleteExps.{args_complete}
use Rattle.gh_parse_tops.specs.Generics.{gen_vars_next, is_extends}
use Rattle.gh_parse_tops.specs.Tops.{synonym, datatype, newtype, gen_signature, extension, is_end, last_var, extension_next, generic_next, gen_case, generic, plain_top, other_top, top_by, top}
use Rattle.gh_parse_tops.proofs.TypeLooks.{and_no, type_no_vars, type_no_deps}
use Rattle.gh_parse_tops.proofs.DeclLooks.{after_var_is, plain_first, var_first, decl_first, decl_no_generic, decl_no_extension}
use Rattle.gh_parse_tops.proofs.CompleteGenerics.{words_complete, gen_vars_complete, gen_vars_looks, context_complete}
use Rattle.gh_parse_tops.proofs.CompleteConstrs.{con_complete, nothing_ends_constr, constr_complete, next_constrs_complete, nexts_end}

-- ---- names of types

name_complete_by : (span : Span) (q : Option NameId) (n : NameId) (rest : List Sym) → is_none q ≡ true → module_name (at (k.ConId q n) span ∷ rest) ≡ taken (record { span = span; qualifier = q; id = n }) rest
unfolding module_name
name_complete_by span None n rest e = refl
name_complete_by span (Some m) n rest e = absurd (cc)

name_complete : (n : Name) (rest : List Sym) → plain n ≡ true → module_name (con_id n ∷ rest) ≡ taken n rest
name_complete n rest good = name_complete_by n.span n.qualifier n.id rest good

-- ---- what stands behind the arguments of a case

record RhsFirst (kind : Option Kind) : Type 0 where
  colons : is_colons kind ≡ false
  argument : begins_arg_by kind ≡ false
  at_mark : is_at kind ≡ false

rhs_first : (kind : Option Kind) → begins_rhs_by kind ≡ true → RhsFirst kind
rhs_first (Some k.Equals) e = record { colons = refl; argument = refl; at_mark = refl }
rhs_first (Some k.Bar) e = record { colons = refl; argument = refl; at_mark = refl }
rhs_first _ e = absurd (cc)

arg_no_colons : (kind : Option Kind) → begins_arg_by kind ≡ true → is_colons kind ≡ false
arg_no_colons (Some (k.VarId q n)) e = refl
arg_no_colons (Some (k.ConId q n)) e = refl
arg_no_colons (Some (k.Int n)) e = refl
arg_no_colons (Some (k.Char n)) e = refl
arg_no_colons (Some (k.Str n)) e = refl
arg_no_colons (Some k.Underscore) e = refl
arg_no_colons (Some k.Open) e = refl
arg_no_colons (Some k.OpenList) e = refl
arg_no_colons _ e = absurd (cc)

args_no_colons : (ps : List ArgPattern) (rest : List Sym) → good_all (map printed.arg_pattern ps) ≡ true → is_colons (kind rest) ≡ false → is_colons (kind (flat_all (map printed.arg_pattern ps) ++ rest)) ≡ false
args_no_colons [] rest good e = e
args_no_colons (p ∷ ps) rest good e =
    let g = both (printed.arg_pattern p).good (good_all (map printed.arg_pattern ps)) good in
    ap (λ us. is_colons (kind us)) (append_assoc (printed.arg_pattern p).flat (flat_all (map printed.arg_pattern ps)) rest) ∙ arg_no_colons _ (arg_starts p (flat_all (map printed.arg_pattern ps) ++ rest) g.0)

-- ---- a generic function that extends another

abbrev extension_flat : Var → Span → Var → List Sym
extension_flat v m w = printed.var v ++ (at (k.VarId None EXTENDS) m ∷ printed.var w)

extension_looks : (v : Var) (m : Span) (w : Var) → plain_var v ≡ true → extension_next (printed.var v ++ (at (k.VarId None EXTENDS) m ∷ (printed.var w ++ []))) ≡ true
unfolding extension_next
extension_looks v m w good =
    let tail : List Sym = at (k.VarId None EXTENDS) m ∷ (printed.var w ++ []) in
    and_is (var_looks v tail good)
    (ap (λ us. is_extends (kind us) && last_var (after us)) (after_var_is v tail)
    ∙ and_is (eq-eqb EXTENDS.0 EXTENDS.0 refl) (and_is (any_var_looks w []) (ap is_end (after_var_is w []))))

extension_no_generic : (v : Var) (m : Span) (rest : List Sym) → generic_next (printed.var v ++ (at (k.VarId None EXTENDS) m ∷ rest)) ≡ false
unfolding generic_next
extension_no_generic v m rest = and_no _ _ (ap (λ us. is_banana (kind us)) (after_var_is v (at (k.VarId None EXTENDS) m ∷ rest)))

generic_looks : (v : Var) (a : Span) (rest : List Sym) → plain_var v ≡ true → generic_next (printed.var v ++ (at k.OpenBanana a ∷ rest)) ≡ true
unfolding generic_next
generic_looks v a rest good = and_is (var_looks v (at k.OpenBanana a ∷ rest) good) (ap (λ us. is_banana (kind us)) (after_var_is v (at k.OpenBanana a ∷ rest)))

extension_complete : (s : Span) (v : Var) (m : Span) (w : Var) → (printed.top (v_Top.Extends s v m w)).good ≡ true
    → extension ((printed.top (v_Top.Extends s v m w)).flat ++ []) ((printed.top (v_Top.Extends s v m w)).flat ++ []) ≡ taken (v_Top.Extends s v m w) []
unfolding extension
extension_complete s v m w good =
    let flat = extension_flat v m w in
    let h = both (plain_var v) _ good in
    let tail : List Sym = at (k.VarId None EXTENDS) m ∷ (printed.var w ++ []) in
    let start : List Sym = printed.var v ++ tail in
    let split : flat ++ [] ≡ start = append_assoc (printed.var v) (at (k.VarId None EXTENDS) m ∷ printed.var w) [] in
    let span : covered start [] ≡ s = ap (λ us. covered us []) (sym split) ∙ spanned_span s [] flat (plain_var v) good in
    ap (λ us. extension us us) split
    ∙ chain _ (var_complete v tail h.0)
    (chain _ (any_var_complete w []) (ap (λ z. taken (v_Top.Extends z v m w) []) span))

-- a case is no signature
case_no_vars : (a : Span) (t : TypeExpr) (b : Span) (last : List Sym) → (printed.type_expr t).good ≡ true → is_colons (kind last) ≡ false → gen_vars_next (at k.OpenBanana a ∷ ((printed.type_expr t).flat ++ (at k.CloseBanana b ∷ last))) ≡ false
unfolding gen_vars_next
case_no_vars a t b last good e = type_no_vars t (at k.CloseBanana b ∷ last) good e

-- ---- which form is picked

top_other : (K : Knot) (ss : List Sym) → plain_first (kind ss) ≡ true → top K ss ≡ other_top K ss ss
unfolding top
top_other K ss e = at_kind (kind ss) e
  where
    at_kind : (first : Option Kind) → plain_first first ≡ true → top_by K first ss ss ≡ other_top K ss ss
    at_kind None e = absurd (cc)
    at_kind (Some k.TypeWord) e = absurd (cc)
    at_kind (Some k.Data) e = absurd (cc)
    at_kind (Some k.Newtype) e = absurd (cc)
    at_kind (Some _) e = refl

other_generic : (K : Knot) (ss : List Sym) → generic_next ss ≡ true → other_top K ss ss ≡ generic K ss ss
other_generic K ss e = ap (λ b. cond b (generic K ss ss) (cond (extension_next ss) (extension ss ss) (plain_top K ss))) e

other_extension : (K : Knot) (ss : List Sym) → generic_next ss ≡ false → extension_next ss ≡ true → other_top K ss ss ≡ extension ss ss
other_extension K ss e f =
    ap (λ b. cond b (generic K ss ss) (cond (extension_next ss) (extension ss ss) (plain_top K ss))) e ∙ ap (λ b. cond b (extension ss ss) (plain_top K ss)) f

other_plain : (K : Knot) (ss : List Sym) → generic_next ss ≡ false → extension_next ss ≡ false → other_top K ss ss ≡ plain_top K ss
other_plain K ss e f =
    ap (λ b. cond b (generic K ss ss) (cond (extension_next ss) (extension ss ss) (plain_top K ss))) e ∙ ap (λ b. cond b (extension ss ss) (plain_top K ss)) f

module _ (K : Knot) (m : ℕ) (C : KnotComplete K m) where
  synonym_complete : (s a : Span) (n : Name) (ps : List Name) (b : Span) (t : TypeExpr) → (printed.top (v_Top.Synonym s a n ps b t)).good ≡ true → length (printed.top (v_Top.Synonym s a n ps b t)).flat ≤ suc m
      → top K ((printed.top (v_Top.Synonym s a n ps b t)).flat ++ []) ≡ taken (v_Top.Synonym s a n ps b t) []
  unfolding top synonym
  synonym_complete s a n ps b t good fits =
      let names = (printed.tyvars ps).flat in
      let inside = (printed.type_expr t).flat in
      let flat : List Sym = at k.TypeWord a ∷ con_id n ∷ (names ++ (at k.Equals b ∷ inside)) in
      let all_good : Bool = plain n && ((printed.tyvars ps).good && (printed.type_expr t).good) in
      let h = both all_good _ good in
      let g = both (plain n) ((printed.tyvars ps).good && (printed.type_expr t).good) h.0 in
      let gs = both (printed.tyvars ps).good (printed.type_expr t).good g.1 in
      let size = length-append names (at k.Equals b ∷ inside) in
      let tail : List Sym = at k.Equals b ∷ (inside ++ []) in
      let start : List Sym = at k.TypeWord a ∷ con_id n ∷ (names ++ tail) in
      let split : flat ++ [] ≡ start = ap (λ us. at k.TypeWord a ∷ con_id n ∷ us) (append_assoc names (at k.Equals b ∷ inside) []) in
      let span : covered start [] ≡ s = ap (λ us. covered us []) (sym split) ∙ spanned_span s [] flat all_good good in
      ap (top K) split
      ∙ chain _ (name_complete n (names ++ tail) g.0)
      (chain _ (words_complete ps tail gs.0 refl)
      (chain _ (C.typ t [] gs.1 (omega (arith, size, fits)) refl)
      (ap (λ z. taken (v_Top.Synonym z a n ps b t) []) span)))

  data_complete : (s a : Span) (n : Name) (ps : List Name) (b : Span) (c : Constr) (cs : List NextConstr) → (printed.top (v_Top.Data s a n ps b c cs)).good ≡ true → length (printed.top (v_Top.Data s a n ps b c cs)).flat ≤ suc m
      → top K ((printed.top (v_Top.Data s a n ps b c cs)).flat ++ []) ≡ taken (v_Top.Data s a n ps b c cs) []
  unfolding top datatype
  data_complete s a n ps b c cs good fits =
      let names = (printed.tyvars ps).flat in
      let first = (printed.constr c).flat in
      let others = flat_all (map printed.next_constr cs) in
      let inside : List Sym = first ++ others in
      let flat : List Sym = at k.Data a ∷ con_id n ∷ (names ++ (at k.Equals b ∷ inside)) in
      let all_good : Bool = plain n && ((printed.tyvars ps).good && ((printed.constr c).good && good_all (map printed.next_constr cs))) in
      let h = both all_good _ good in
      let g = both (plain n) ((printed.tyvars ps).good && ((printed.constr c).good && good_all (map printed.next_constr cs))) h.0 in
      let gs = both (printed.tyvars ps).good ((printed.constr c).good && good_all (map printed.next_constr cs)) g.1 in
      let gc = both (printed.constr c).good (good_all (map printed.next_constr cs)) gs.1 in
      let size = length-append names (at k.Equals b ∷ inside) in
      let size2 = length-append first others in
      let tail : List Sym = at k.Equals b ∷ (first ++ (others ++ [])) in
      let start : List Sym = at k.Data a ∷ con_id n ∷ (names ++ tail) in
      let split : flat ++ [] ≡ start =
      ap (λ us. at k.Data a ∷ con_id n ∷ us) (append_assoc names (at k.Equals b ∷ inside) [] ∙ ap (λ us. names ++ (at k.Equals b ∷ us)) (append_assoc first others [])) in
      let span : covered start [] ≡ s = ap (λ us. covered us []) (sym split) ∙ spanned_span s [] flat all_good good in
      ap (top K) split
      ∙ chain _ (name_complete n (names ++ tail) g.0)
      (chain _ (words_complete ps tail gs.0 refl)
      (chain _ (constr_complete m K.typ C.typ c (others ++ []) gc.0 (omega (arith, size, size2, fits)) (nexts_end cs [] nothing_ends_constr))
      (chain _ (next_constrs_complete m K.typ C.typ cs [] gc.1 (omega (arith, size, size2, fits)) nothing_ends_constr refl)
      (ap (λ z. taken (v_Top.Data z a n ps b c cs) []) span))))

  newtype_complete : (s a : Span) (n : Name) (ps : List Name) (b : Span) (c : Con) (t : ArgType) → (printed.top (v_Top.Newtype s a n ps b c t)).good ≡ true → length (printed.top (v_Top.Newtype s a n ps b c t)).flat ≤ suc m
      → top K ((printed.top (v_Top.Newtype s a n ps b c t)).flat ++ []) ≡ taken (v_Top.Newtype s a n ps b c t) []
  unfolding top newtype
  newtype_complete s a n ps b c t good fits =
      let names = (printed.tyvars ps).flat in
      let field = (printed.arg_type t).flat in
      let inside : List Sym = printed.con c ++ field in
      let flat : List Sym = at k.Newtype a ∷ con_id n ∷ (names ++ (at k.Equals b ∷ inside)) in
      let all_good : Bool = plain n && ((printed.tyvars ps).good && (plain_con c && (printed.arg_type t).good)) in
      let h = both all_good _ good in
      let g = both (plain n) ((printed.tyvars ps).good && (plain_con c && (printed.arg_type t).good)) h.0 in
      let gs = both (printed.tyvars ps).good (plain_con c && (printed.arg_type t).good) g.1 in
      let gc = both (plain_con c) (printed.arg_type t).good gs.1 in
      let size = length-append names (at k.Equals b ∷ inside) in
      let size2 = length-append (printed.con c) field in
      let tail : List Sym = at k.Equals b ∷ (printed.con c ++ (field ++ [])) in
      let start : List Sym = at k.Newtype a ∷ con_id n ∷ (names ++ tail) in
      let split : flat ++ [] ≡ start =
      ap (λ us. at k.Newtype a ∷ con_id n ∷ us) (append_assoc names (at k.Equals b ∷ inside) [] ∙ ap (λ us. names ++ (at k.Equals b ∷ us)) (append_assoc (printed.con c) field [])) in
      let span : covered start [] ≡ s = ap (λ us. covered us []) (sym split) ∙ spanned_span s [] flat all_good good in
      ap (top K) split
      ∙ chain _ (name_complete n (names ++ tail) g.0)
      (chain _ (words_complete ps tail gs.0 refl)
      (chain _ (con_complete c (field ++ []) gc.0)
      (chain _ (types.arg_complete m K.typ C.typ t [] gc.1 (omega (arith, size, size2, fits)) refl)
      (ap (λ z. taken (v_Top.Newtype z a n ps b c t) []) span))))

  -- ---- generic functions

  signature_complete : (s : Span) (v : Var) (vs : GenVars) (b : Span) (c : Option Context) (t : TypeExpr) → (printed.top (v_Top.Signature s v vs b c t)).good ≡ true → length (printed.top (v_Top.Signature s v vs b c t)).flat ≤ suc m
      → top K ((printed.top (v_Top.Signature s v vs b c t)).flat ++ []) ≡ taken (v_Top.Signature s v vs b c t) []
  unfolding generic gen_signature
  signature_complete s v vs b c t good fits =
      let vars = (printed.gen_vars vs).flat in
      let deps = (printed.context c).flat in
      let inside = (printed.type_expr t).flat in
      let flat : List Sym = printed.var v ++ (vars ++ (at k.Colons b ∷ (deps ++ inside))) in
      let all_good : Bool = plain_var v && ((printed.gen_vars vs).good && ((printed.context c).good && (printed.type_expr t).good)) in
      let h = both all_good _ good in
      let g = both (plain_var v) ((printed.gen_vars vs).good && ((printed.context c).good && (printed.type_expr t).good)) h.0 in
      let gs = both (printed.gen_vars vs).good ((printed.context c).good && (printed.type_expr t).good) g.1 in
      let gc = both (printed.context c).good (printed.type_expr t).good gs.1 in
      let size = length-append (printed.var v) (vars ++ (at k.Colons b ∷ (deps ++ inside))) in
      let size2 = length-append vars (at k.Colons b ∷ (deps ++ inside)) in
      let size3 = length-append deps inside in
      let end : List Sym = at k.Colons b ∷ (deps ++ (inside ++ [])) in
      let tail : List Sym = vars ++ end in
      let start : List Sym = printed.var v ++ tail in
      let split : flat ++ [] ≡ start =
      append_assoc (printed.var v) (vars ++ (at k.Colons b ∷ (deps ++ inside))) []
      ∙ ap (λ us. printed.var v ++ us) (append_assoc vars (at k.Colons b ∷ (deps ++ inside)) [] ∙ ap (λ us. vars ++ (at k.Colons b ∷ us)) (append_assoc deps inside [])) in
      let span : covered start [] ≡ s = ap (λ us. covered us []) (sym split) ∙ spanned_span s [] flat all_good good in
      ap (top K) split
      ∙ top_other K start (var_first v tail)
      ∙ other_generic K start (generic_looks v vs.open _ g.0)
      ∙ chain _ (var_complete v tail g.0)
      (ap (λ b. cond b (gen_signature K.typ start v tail) (gen_case K start v tail)) (gen_vars_looks vs end gs.0 refl)
      ∙ chain _ (gen_vars_complete vs end gs.0)
      (chain _ (context_complete c (inside ++ []) gc.0 (type_no_deps t [] gc.1 refl))
      (chain _ (C.typ t [] gc.1 (omega (arith, size, size2, size3, fits)) refl)
      (ap (λ z. taken (v_Top.Signature z v vs b c t) []) span))))

  case_complete : (s : Span) (v : Var) (a : Span) (t : TypeExpr) (b : Span) (ps : List ArgPattern) (r : Rhs) → (printed.top (v_Top.Case s v a t b ps r)).good ≡ true → length (printed.top (v_Top.Case s v a t b ps r)).flat ≤ suc m
      → top K ((printed.top (v_Top.Case s v a t b ps r)).flat ++ []) ≡ taken (v_Top.Case s v a t b ps r) []
  unfolding generic gen_case
  case_complete s v a t b ps r good fits =
      let inside = (printed.type_expr t).flat in
      let args = flat_all (map printed.arg_pattern ps) in
      let side = (printed.rhs r).flat in
      let flat : List Sym = printed.var v ++ (at k.OpenBanana a ∷ (inside ++ (at k.CloseBanana b ∷ (args ++ side)))) in
      let all_good : Bool = plain_var v && ((printed.type_expr t).good && (good_all (map printed.arg_pattern ps) && (printed.rhs r).good)) in
      let h = both all_good _ good in
      let g = both (plain_var v) ((printed.type_expr t).good && (good_all (map printed.arg_pattern ps) && (printed.rhs r).good)) h.0 in
      let gs = both (printed.type_expr t).good (good_all (map printed.arg_pattern ps) && (printed.rhs r).good) g.1 in
      let gc = both (good_all (map printed.arg_pattern ps)) (printed.rhs r).good gs.1 in
      let size = length-append (printed.var v) (at k.OpenBanana a ∷ (inside ++ (at k.CloseBanana b ∷ (args ++ side)))) in
      let size2 = length-append inside (at k.CloseBanana b ∷ (args ++ side)) in
      let size3 = length-append args side in
      let last : List Sym = args ++ (side ++ []) in
      let end : List Sym = at k.CloseBanana b ∷ last in
      let tail : List Sym = at k.OpenBanana a ∷ (inside ++ end) in
      let start : List Sym = printed.var v ++ tail in
      let split : flat ++ [] ≡ start =
      append_assoc (printed.var v) (at k.OpenBanana a ∷ (inside ++ (at k.CloseBanana b ∷ (args ++ side)))) []
      ∙ ap (λ us. printed.var v ++ (at k.OpenBanana a ∷ us)) (append_assoc inside (at k.CloseBanana b ∷ (args ++ side)) [] ∙ ap (λ us. inside ++ (at k.CloseBanana b ∷ us)) (append_assoc args side [])) in
      let span : covered start [] ≡ s = ap (λ us. covered us []) (sym split) ∙ spanned_span s [] flat all_good good in
      let begins = rhs_first (kind (side ++ [])) (rhs_starts r [] gc.1) in
      let no_vars : gen_vars_next tail ≡ false = case_no_vars a t b last gs.0 (args_no_colons ps (side ++ []) gc.0 begins.colons) in
      ap (top K) split
      ∙ top_other K start (var_first v tail)
      ∙ other_generic K start (generic_looks v a (inside ++ end) g.0)
      ∙ chain _ (var_complete v tail g.0)
      (ap (λ b. cond b (gen_signature K.typ start v tail) (gen_case K start v tail)) no_vars
      ∙ chain _ (C.typ t end gs.0 (omega (arith, size, size2, fits)) refl)
      (chain _ (args_complete K m C ps (side ++ []) gc.0 (omega (arith, size, size2, size3, fits)) (not_so _ begins.at_mark) begins.argument)
      (chain _ (rhs_complete K m C r [] gc.1 (omega (arith, size, size2, size3, fits)) refl)
      (ap (λ z. taken (v_Top.Case z v a t b ps r) []) span))))

  extends_complete : (s : Span) (v : Var) (a : Span) (w : Var) → (printed.top (v_Top.Extends s v a w)).good ≡ true
      → top K ((printed.top (v_Top.Extends s v a w)).flat ++ []) ≡ taken (v_Top.Extends s v a w) []
  extends_complete s v a w good =
      let ss : List Sym = extension_flat v a w ++ [] in
      let tail : List Sym = at (k.VarId None EXTENDS) a ∷ (printed.var w ++ []) in
      let h = both (plain_var v) _ good in
      let split : ss ≡ printed.var v ++ tail = append_assoc (printed.var v) (at (k.VarId None EXTENDS) a ∷ printed.var w) [] in
      top_other K ss (ap (λ us. plain_first (kind us)) split ∙ var_first v tail)
      ∙ other_extension K ss (ap generic_next split ∙ extension_no_generic v a (printed.var w ++ [])) (ap extension_next split ∙ extension_looks v a w h.0)
      ∙ extension_complete s v a w good

  plain_complete : (d : Decl) → (printed.decl d).good ≡ true → length (printed.decl d).flat ≤ suc m → top K ((printed.decl d).flat ++ []) ≡ taken (v_Top.Decl d) []
  plain_complete d good fits =
      let ss : List Sym = (printed.decl d).flat ++ [] in
      top_other K ss (decl_first d [] good)
      ∙ other_plain K ss (decl_no_generic d [] good) (decl_no_extension d [] good)
      ∙ chain _ (decl_complete K m C d [] good fits refl) refl

  pub top_complete : (x : Top) → (printed.top x).good ≡ true → length (printed.top x).flat ≤ suc m → top K ((printed.top x).flat ++ []) ≡ taken x []
  top_complete (v_Top.Synonym s a n ps b t) good fits = synonym_complete s a n ps b t good fits
  top_complete (v_Top.Data s a n ps b c cs) good fits = data_complete s a n ps b c cs good fits
  top_complete (v_Top.Newtype s a n ps b c t) good fits = newtype_complete s a n ps b c t good fits
  top_complete (v_Top.Signature s v vs b c t) good fits = signature_complete s v vs b c t good fits
  top_complete (v_Top.Case s v a t b ps r) good fits = case_complete s v a t b ps r good fits
  top_complete (v_Top.Extends s v a w) good fits = extends_complete s v a w good
  top_complete (v_Top.Decl d) good fits = plain_complete d good fits

-- ---- what a declaration of the top begins with: a token that is no `import`

abbrev pub begins_top_by : Option Kind → Bool
begins_top_by None = false
begins_top_by (Some k.Import) = false
begins_top_by _ = true

abbrev pub begins_top : List Sym → Bool
begins_top ss = begins_top_by (kind ss)

first_begins : (kind : Option Kind) → plain_first kind ≡ true → begins_top_by kind ≡ true
first_begins None e = absurd (cc)
first_begins (Some k.Import) e = absurd (cc)
first_begins (Some _) e = refl

var_begins : (v : Var) (more rest : List Sym) → begins_top ((printed.var v ++ more) ++ rest) ≡ true
var_begins (n_Var.Word n) more rest = refl
var_begins (n_Var.Symbol a n b) more rest = refl

pub top_starts : (x : Top) (rest : List Sym) → (printed.top x).good ≡ true → begins_top ((printed.top x).flat ++ rest) ≡ true
top_starts (v_Top.Synonym s a n ps b t) rest good = refl
top_starts (v_Top.Data s a n ps b c cs) rest good = refl
top_starts (v_Top.Newtype s a n ps b c t) rest good = refl
top_starts (v_Top.Signature s v vs b c t) rest good = var_begins v _ rest
top_starts (v_Top.Case s v a t b ps r) rest good = var_begins v _ rest
top_starts (v_Top.Extends s v a w) rest good = var_begins v _ rest
top_starts (v_Top.Decl d) rest good = first_begins _ (decl_first d rest good)

-- it has one token at least
pub top_some : (x : Top) → (printed.top x).good ≡ true → 1 ≤ length (printed.top x).flat
top_some x good = some_of begins_top (printed.top x).flat refl (top_starts x [] good)
