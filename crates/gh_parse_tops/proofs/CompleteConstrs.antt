-- What is printed of a well-formed constructor of a datatype is read.
use Rattle.std.proofs.Common.{◌≡◌, ℕ, suc, ◌≤◌, Bool, true, false, not, ◌&&◌, cond, List, [], ◌∷◌, ◌++◌, length, map, Option, Some, None, refl, sym, ap, ◌∙◌, subst, append_assoc, length-append, arith}
use Rattle.gh_base.specs.declared.names.NameId.{NameId}
use Rattle.gh_base.specs.declared.place.Span.{Span}
use Rattle.gh_tree.specs.declared.symbol.Kind.{Kind}
use Rattle.gh_tree.specs.declared.symbol.Kind.TheVariants as k
use Rattle.gh_tree.specs.declared.symbol.Sym.{Sym}
use Rattle.gh_tree.specs.declared.names.Name.{Name}
use Rattle.gh_tree.specs.declared.names.Con.{Con}
use Rattle.gh_tree.specs.declared.names.Con.TheVariants as n_Con
use Rattle.gh_tree.specs.declared.names.ConOp.{ConOp}
use Rattle.gh_tree.specs.declared.names.ConOp.TheVariants as n_ConOp
use Rattle.gh_tree.specs.declared.types.ArgType.{ArgType, out-ArgType}
use Rattle.gh_tree.specs.declared.types.ArgType.TheVariants as v_ArgType
use Rattle.gh_tree.specs.declared.types.BType.{BType, roll-BType, out-roll-BType}
use Rattle.gh_tree.specs.declared.types.TypeExpr.{TypeExpr}
use Rattle.gh_tree.specs.declared.tops.Constr.TheVariants as v_Constr
use Rattle.gh_tree.specs.declared.tops.NextConstr.{NextConstr}
use Rattle.gh_tree.specs.Syms.{at}
use Rattle.gh_tree.specs.Print.{Print, spanned, flat_all, good_all, is_none, plain, plain_con, plain_con_op, con_id}
use Rattle.gh_tree.specs.Print as printed
use Rattle.gh_tree.specs.Read.{Read, taken, kind, after, covered}
use Rattle.gh_tree.specs.ReadNames.{con_op_next, con_op_next_by}
use Rattle.gh_tree.specs.ReadExports.{con, symbol_con, plain_con_sym}
use Rattle.gh_tree.specs.ReadTypes.{begins_arg, begins_arg_by, btype, ends_type, ends_btype}
use Rattle.gh_tree.proofs.Steps.{chain, both, and_is, not_is, not_so, spanned_span}
use Rattle.gh_tree.proofs.Many.{items_complete, Complete}
use Rattle.gh_tree.proofs.CompleteNames.{con_op_complete, con_op_looks}
use Rattle.gh_tree.proofs.CompleteTypes.{args_complete, btype_complete}
use Rattle.gh_tree.proofs.Printed.{printed_arg_type_con, printed_btype}
use Rattle.gh_parse_exps.specs.Marks.{is_bar, bar_next}
use Rattle.gh_parse_tops.specs.Tops.{symbol_next, fields_by, fields_of, prefix_or, infix_constr, prefix_constr, symbol_constr, other_constr, constr, next_constr, next_constrs}
use Rattle.gh_parse_tops.proofs.Fields.{fields_con}
use Rattle.gh_parse_tops.proofs.TypeLooks.{btype_no_symbol}

-- ---- a constructor without a qualifier

word_con_complete : (span : Span) (q : Option NameId) (n : NameId) (rest : List Sym) → is_none q ≡ true → con (at (k.ConId q n) span ∷ rest) ≡ taken (n_Con.Word (record { span = span; qualifier = q; id = n })) rest
unfolding con
word_con_complete span None n rest e = refl
word_con_complete span (Some m) n rest e = absurd (cc)

symbol_con_complete : (a span : Span) (q : Option NameId) (n : NameId) (b : Span) (rest : List Sym) → is_none q ≡ true
    → con (at k.Open a ∷ at (k.ConSym q n) span ∷ at k.Close b ∷ rest) ≡ taken (n_Con.Symbol a (record { span = span; qualifier = q; id = n }) b) rest
unfolding con symbol_con plain_con_sym
symbol_con_complete a span None n b rest e = refl
symbol_con_complete a span (Some m) n b rest e = absurd (cc)

pub con_complete : (c : Con) (rest : List Sym) → plain_con c ≡ true → con (printed.con c ++ rest) ≡ taken c rest
con_complete (n_Con.Word n) rest good = word_con_complete n.span n.qualifier n.id rest good
con_complete (n_Con.Symbol a n b) rest good = symbol_con_complete a n.span n.qualifier n.id b rest good

-- ---- what can stand behind a constructor: nothing that goes on with it

abbrev pub ends_constr : List Sym → Bool
ends_constr ss = not (begins_arg ss) && not (con_op_next ss)

bar_ends_by : (first second : Option Kind) → is_bar first ≡ true → (begins_arg_by first ≡ false) × (con_op_next_by first second ≡ false)
bar_ends_by (Some k.Bar) second e = (refl, refl)
bar_ends_by _ second e = absurd (cc)

bar_ends : (ss : List Sym) → bar_next ss ≡ true → ends_constr ss ≡ true
unfolding con_op_next
bar_ends ss e = let h = bar_ends_by (kind ss) (kind (after ss)) e in and_is (not_so _ h.0) (not_so _ h.1)

pub nothing_ends_constr : ends_constr [] ≡ true
unfolding con_op_next
nothing_ends_constr = refl

op_ends_btype : (o : ConOp) (rest : List Sym) → ends_btype (printed.con_op o ++ rest) ≡ true
op_ends_btype (n_ConOp.Symbol n) rest = refl
op_ends_btype (n_ConOp.Colon a) rest = refl
op_ends_btype (n_ConOp.Quoted a n b) rest = refl

-- ---- an applied type that is a constructor with its fields

abbrev applied : Span → Name → List ArgType → BType
applied s n ts = roll-BType (record { span = s; head = v_ArgType.Con n; args = ts })

applied_printed : (s : Span) (n : Name) (ts : List ArgType) → printed.btype (applied s n ts) ≡ spanned s (con_id n ∷ flat_all (map printed.arg_type ts)) (good_all (map printed.arg_type ts))
applied_printed s n ts =
    printed_btype s (v_ArgType.Con n) ts ∙ ap (λ (p : Print). spanned s (p.flat ++ flat_all (map printed.arg_type ts)) (p.good && good_all (map printed.arg_type ts))) (printed_arg_type_con n)

applied_fields : (s : Span) (n : Name) (ts : List ArgType) → plain n ≡ true → fields_of (applied s n ts) ≡ Some (n_Con.Word n, ts)
unfolding fields_of
applied_fields s n ts good =
    ap (λ y. fields_by (out-ArgType y.head) y.args) (out-roll-BType (record { span = s; head = v_ArgType.Con n; args = ts })) ∙ fields_con n ts ∙ ap (λ b. cond b (Some (n_Con.Word n, ts)) None) good

module _ (m : ℕ) (T : Read TypeExpr) (complete : Complete printed.type_expr ends_type m T) where
  other_is : (ss : List Sym) → symbol_next ss ≡ false → constr T ss ≡ other_constr T ss ss
  unfolding constr
  other_is ss e = ap (λ b. cond b (symbol_constr T ss ss) (other_constr T ss ss)) e

  word_no_symbol : (n : Name) (ss : List Sym) → symbol_next (con_id n ∷ ss) ≡ false
  unfolding symbol_next
  word_no_symbol n ss = refl

  word_complete : (s : Span) (n : Name) (ts : List ArgType) (rest : List Sym) → (printed.constr (v_Constr.Prefix s (n_Con.Word n) ts)).good ≡ true → length (printed.constr (v_Constr.Prefix s (n_Con.Word n) ts)).flat ≤ suc m → ends_constr rest ≡ true
      → constr T ((printed.constr (v_Constr.Prefix s (n_Con.Word n) ts)).flat ++ rest) ≡ taken (v_Constr.Prefix s (n_Con.Word n) ts) rest
  unfolding other_constr prefix_constr
  word_complete s n ts rest good fits ends =
      let fields = map printed.arg_type ts in
      let flat : List Sym = con_id n ∷ flat_all fields in
      let start : List Sym = flat ++ rest in
      let x = applied s n ts in
      let e = applied_printed s n ts in
      let h = both (plain n && good_all fields) _ good in
      let g = both (plain n) (good_all fields) h.0 in
      let after = both (not (begins_arg rest)) (not (con_op_next rest)) ends in
      let good' : (spanned s flat (good_all fields)).good ≡ true = and_is g.1 h.1 in
      let read : btype T start ≡ taken x rest =
      ap (λ (p : Print). btype T (p.flat ++ rest)) (sym e) ∙ btype_complete m T complete x rest (ap (λ (p : Print). p.good) e ∙ good') (subst (λ (p : Print). length p.flat ≤ suc m) (sym e) fits) after.0 in
      other_is start (word_no_symbol n (flat_all fields ++ rest))
      ∙ chain _ read
      (ap (λ b. cond b (infix_constr T start x rest) (prefix_constr T start x rest)) (not_is _ after.1)
      ∙ ap (λ c. prefix_or c (covered start rest) rest) (applied_fields s n ts g.0)
      ∙ ap (λ z. taken (v_Constr.Prefix z (n_Con.Word n) ts) rest) (spanned_span s rest flat (plain n && good_all fields) good))

  symbol_is : (a : Span) (n : Name) (ss : List Sym) → constr T (at k.Open a ∷ printed.con_sym n ∷ ss) ≡ symbol_constr T (at k.Open a ∷ printed.con_sym n ∷ ss) (at k.Open a ∷ printed.con_sym n ∷ ss)
  unfolding constr symbol_next
  symbol_is a n ss = refl

  symbol_complete : (s a : Span) (n : Name) (b : Span) (ts : List ArgType) (rest : List Sym) → (printed.constr (v_Constr.Prefix s (n_Con.Symbol a n b) ts)).good ≡ true → length (printed.constr (v_Constr.Prefix s (n_Con.Symbol a n b) ts)).flat ≤ suc m → ends_constr rest ≡ true
      → constr T ((printed.constr (v_Constr.Prefix s (n_Con.Symbol a n b) ts)).flat ++ rest) ≡ taken (v_Constr.Prefix s (n_Con.Symbol a n b) ts) rest
  unfolding symbol_constr
  symbol_complete s a n b ts rest good fits ends =
      let fields = map printed.arg_type ts in
      let c = n_Con.Symbol a n b in
      let flat : List Sym = printed.con c ++ flat_all fields in
      let start : List Sym = flat ++ rest in
      let h = both (plain n && good_all fields) _ good in
      let g = both (plain n) (good_all fields) h.0 in
      let after = both (not (begins_arg rest)) (not (con_op_next rest)) ends in
      symbol_is a n (at k.Close b ∷ (flat_all fields ++ rest))
      ∙ chain _ (con_complete c (flat_all fields ++ rest) g.0)
      (chain _ (args_complete m T complete ts rest g.1 (omega (arith, fits)) after.0)
      (ap (λ z. taken (v_Constr.Prefix z c ts) rest) (spanned_span s rest flat (plain n && good_all fields) good)))

  infix_complete : (s : Span) (l : BType) (o : ConOp) (r : BType) (rest : List Sym) → (printed.constr (v_Constr.Infix s l o r)).good ≡ true → length (printed.constr (v_Constr.Infix s l o r)).flat ≤ suc m → ends_constr rest ≡ true
      → constr T ((printed.constr (v_Constr.Infix s l o r)).flat ++ rest) ≡ taken (v_Constr.Infix s l o r) rest
  unfolding other_constr infix_constr
  infix_complete s l o r rest good fits ends =
      let left = (printed.btype l).flat in
      let op = printed.con_op o in
      let right = (printed.btype r).flat in
      let flat : List Sym = left ++ (op ++ right) in
      let all_good : Bool = (printed.btype l).good && (plain_con_op o && (printed.btype r).good) in
      let h = both all_good _ good in
      let g = both (printed.btype l).good (plain_con_op o && (printed.btype r).good) h.0 in
      let gs = both (plain_con_op o) (printed.btype r).good g.1 in
      let size = length-append left (op ++ right) in
      let size2 = length-append op right in
      let behind = both (not (begins_arg rest)) (not (con_op_next rest)) ends in
      let tail : List Sym = op ++ (right ++ rest) in
      let start : List Sym = left ++ tail in
      let split : flat ++ rest ≡ start = append_assoc left (op ++ right) rest ∙ ap (λ us. left ++ us) (append_assoc op right rest) in
      let span : covered start rest ≡ s = ap (λ us. covered us rest) (sym split) ∙ spanned_span s rest flat all_good good in
      ap (constr T) split
      ∙ other_is start (btype_no_symbol l tail g.0)
      ∙ chain _ (btype_complete m T complete l tail g.0 (omega (arith, size, fits)) (op_ends_btype o (right ++ rest)))
      (ap (λ b. cond b (infix_constr T start l tail) (prefix_constr T start l tail)) (con_op_looks o (right ++ rest))
      ∙ chain _ (con_op_complete o (right ++ rest))
      (chain _ (btype_complete m T complete r rest gs.1 (omega (arith, size, size2, fits)) behind.0)
      (ap (λ z. cond (plain_con_op o) (taken (v_Constr.Infix z l o r) rest) None) span ∙ ap (λ b. cond b (taken (v_Constr.Infix s l o r) rest) None) gs.0)))

  pub constr_complete : Complete printed.constr ends_constr (suc m) (constr T)
  constr_complete (v_Constr.Prefix s (n_Con.Word n) ts) rest good fits ends = word_complete s n ts rest good fits ends
  constr_complete (v_Constr.Prefix s (n_Con.Symbol a n b) ts) rest good fits ends = symbol_complete s a n b ts rest good fits ends
  constr_complete (v_Constr.Infix s l o r) rest good fits ends = infix_complete s l o r rest good fits ends

  next_constr_complete : Complete printed.next_constr ends_constr (suc m) (next_constr T)
  unfolding next_constr
  next_constr_complete x rest good fits ends = chain _ (constr_complete x.constr rest good (omega (arith, fits)) ends) refl

  pub next_constrs_complete : (xs : List NextConstr) (rest : List Sym) → good_all (map printed.next_constr xs) ≡ true → length (flat_all (map printed.next_constr xs)) ≤ suc m → ends_constr rest ≡ true → bar_next rest ≡ false
      → next_constrs T (flat_all (map printed.next_constr xs) ++ rest) ≡ taken xs rest
  unfolding next_constrs
  next_constrs_complete = items_complete printed.next_constr bar_next (next_constr T) refl ends_constr (suc m) (λ x rest g. refl) next_constr_complete bar_ends

-- the others follow the first
pub nexts_end : (xs : List NextConstr) (rest : List Sym) → ends_constr rest ≡ true → ends_constr (flat_all (map printed.next_constr xs) ++ rest) ≡ true
nexts_end [] rest e = e
nexts_end (x ∷ xs) rest e = bar_ends (flat_all (map printed.next_constr (x ∷ xs)) ++ rest) refl
