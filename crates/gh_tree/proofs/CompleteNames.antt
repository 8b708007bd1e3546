-- What is printed of a name, an operator or a constructor is read, whatever follows.
use Rattle.std.proofs.Common.{◌≡◌, true, false, cond, List, [], ◌∷◌, ◌++◌, length, map, Option, Some, None, refl, sym, ap, ◌∙◌, append_assoc, arith}
use Rattle.gh_base.specs.declared.names.NameId.{NameId}
use Rattle.gh_base.specs.declared.place.Span.{Span}
use Rattle.gh_tree.specs.declared.symbol.Kind.{Kind}
use Rattle.gh_tree.specs.declared.symbol.Kind.TheVariants as k
use Rattle.gh_tree.specs.declared.symbol.Sym.{Sym}
use Rattle.gh_tree.specs.declared.names.Var.{Var}
use Rattle.gh_tree.specs.declared.names.Var.TheVariants as n_Var
use Rattle.gh_tree.specs.declared.names.Con.TheVariants as n_Con
use Rattle.gh_tree.specs.declared.names.ConOp.{ConOp}
use Rattle.gh_tree.specs.declared.names.ConOp.TheVariants as n_ConOp
use Rattle.gh_tree.specs.declared.names.GenCon.{GenCon}
use Rattle.gh_tree.specs.declared.names.GenCon.TheVariants as n_GenCon
use Rattle.gh_tree.specs.Syms.{at}
use Rattle.gh_tree.specs.Print.{Print, print, spanned, flat_all, good_all, is_tuple, is_none, plain_var}
use Rattle.gh_tree.specs.Print as printed
use Rattle.gh_tree.specs.Read.{taken, next, all, comma_next, commas}
use Rattle.gh_tree.specs.ReadNames.{gen_con_next, var_next, var_by, var, symbol_var, plain_sym, gen_con, gen_opened, gen_unit, gen_tuple, gen_nil, con_id, con_op_next, con_op, quoted_con}
use Rattle.gh_tree.proofs.Steps.{chain, both, spanned_span}
use Rattle.gh_tree.proofs.Many.{items_complete}

abbrev comma_mark : Span → Print
comma_mark c = print (at k.Comma c ∷ []) true

commas_flat : (cs : List Span) → flat_all (map comma_mark cs) ≡ printed.commas cs
commas_flat [] = refl
commas_flat (c ∷ cs) = ap (λ ss. at k.Comma c ∷ ss) (commas_flat cs)

marks_good : (cs : List Span) → good_all (map comma_mark cs) ≡ true
marks_good [] = refl
marks_good (c ∷ cs) = marks_good cs

pub commas_complete : (cs : List Span) (rest : List Sym) → comma_next rest ≡ false → commas (printed.commas cs ++ rest) ≡ taken cs rest
unfolding commas
commas_complete cs rest ends =
    ap (λ us. all comma_next next (us ++ rest)) (sym (commas_flat cs))
    ∙ items_complete comma_mark comma_next next refl (λ ss. true) (length (flat_all (map comma_mark cs))) (λ x rest g. refl) (λ x rest g f e. refl) (λ ss e. refl)
    cs rest (marks_good cs) (omega arith) refl ends

-- ---- variables

word_complete : (span : Span) (q : Option NameId) (n : NameId) (rest : List Sym) → is_none q ≡ true → var (at (k.VarId q n) span ∷ rest) ≡ taken (n_Var.Word (record { span = span; qualifier = q; id = n })) rest
unfolding var
word_complete span None n rest e = refl
word_complete span (Some m) n rest e = absurd (cc)

symbol_complete : (a span : Span) (q : Option NameId) (n : NameId) (b : Span) (rest : List Sym) → is_none q ≡ true
    → var (at k.Open a ∷ at (k.VarSym q n) span ∷ at k.Close b ∷ rest) ≡ taken (n_Var.Symbol a (record { span = span; qualifier = q; id = n }) b) rest
unfolding var symbol_var plain_sym
symbol_complete a span None n b rest e = refl
symbol_complete a span (Some m) n b rest e = absurd (cc)

pub var_complete : (v : Var) (rest : List Sym) → plain_var v ≡ true → var (printed.var v ++ rest) ≡ taken v rest
var_complete (n_Var.Word n) rest good = word_complete n.span n.qualifier n.id rest good
var_complete (n_Var.Symbol a n b) rest good = symbol_complete a n.span n.qualifier n.id b rest good

word_looks : (q : Option NameId) (n : NameId) (second third : Option Kind) → is_none q ≡ true → var_by (Some (k.VarId q n)) second third ≡ true
word_looks None n second third e = refl
word_looks (Some m) n second third e = absurd (cc)

symbol_looks : (q : Option NameId) (n : NameId) → is_none q ≡ true → var_by (Some k.Open) (Some (k.VarSym q n)) (Some k.Close) ≡ true
symbol_looks None n e = refl
symbol_looks (Some m) n e = absurd (cc)

pub var_looks : (v : Var) (rest : List Sym) → plain_var v ≡ true → var_next (printed.var v ++ rest) ≡ true
unfolding var_next
var_looks (n_Var.Word n) rest good = word_looks n.qualifier n.id _ _ good
var_looks (n_Var.Symbol a n b) rest good = symbol_looks n.qualifier n.id good

pub var_is_no_con : (v : Var) (rest : List Sym) → gen_con_next (printed.var v ++ rest) ≡ false
unfolding gen_con_next
var_is_no_con (n_Var.Word n) rest = refl
var_is_no_con (n_Var.Symbol a n b) rest = refl

-- ---- constructors as operands

pub gen_con_looks : (c : GenCon) (rest : List Sym) → (printed.gen_con c).good ≡ true → gen_con_next ((printed.gen_con c).flat ++ rest) ≡ true
unfolding gen_con_next
gen_con_looks (n_GenCon.Con (n_Con.Word n)) rest good = refl
gen_con_looks (n_GenCon.Con (n_Con.Symbol a n b)) rest good = refl
gen_con_looks (n_GenCon.Unit s a b) rest good = refl
gen_con_looks (n_GenCon.Nil s a b) rest good = refl
gen_con_looks (n_GenCon.Tuple s a [] b) rest good = absurd (cc)
gen_con_looks (n_GenCon.Tuple s a (c ∷ cs) b) rest good = refl

tuple_complete : (s a : Span) (cs : List Span) (b : Span) (rest : List Sym) → (printed.gen_con (n_GenCon.Tuple s a cs b)).good ≡ true
    → gen_con ((printed.gen_con (n_GenCon.Tuple s a cs b)).flat ++ rest) ≡ taken (n_GenCon.Tuple s a cs b) rest
unfolding gen_con gen_opened gen_tuple
tuple_complete s a [] b rest good = absurd (cc)
tuple_complete s a (c ∷ cs) b rest good =
    let flat : List Sym = at k.Open a ∷ (printed.commas (c ∷ cs) ++ at k.Close b ∷ []) in
    let g = both (is_tuple (c ∷ cs)) _ good in
    ap (gen_tuple (flat ++ rest) a) (append_assoc (printed.commas (c ∷ cs)) (at k.Close b ∷ []) rest)
    ∙ chain _ (commas_complete (c ∷ cs) (at k.Close b ∷ rest) refl)
    (ap (λ z. cond (is_tuple (c ∷ cs)) (taken (n_GenCon.Tuple z a (c ∷ cs) b) rest) None) (spanned_span s rest flat (is_tuple (c ∷ cs)) good)
    ∙ ap (λ t. cond t (taken (n_GenCon.Tuple s a (c ∷ cs) b) rest) None) g.0)

pub gen_con_complete : (c : GenCon) (rest : List Sym) → (printed.gen_con c).good ≡ true → gen_con ((printed.gen_con c).flat ++ rest) ≡ taken c rest
unfolding gen_con gen_opened gen_unit gen_nil
gen_con_complete (n_GenCon.Con (n_Con.Word n)) rest good = refl
gen_con_complete (n_GenCon.Con (n_Con.Symbol a n b)) rest good = refl
gen_con_complete (n_GenCon.Unit s a b) rest good = ap (λ z. taken (n_GenCon.Unit z a b) rest) (spanned_span s rest (at k.Open a ∷ at k.Close b ∷ []) true good)
gen_con_complete (n_GenCon.Nil s a b) rest good = ap (λ z. taken (n_GenCon.Nil z a b) rest) (spanned_span s rest (at k.OpenList a ∷ at k.CloseList b ∷ []) true good)
gen_con_complete (n_GenCon.Tuple s a cs b) rest good = tuple_complete s a cs b rest good

-- ---- constructor operators

pub con_op_looks : (o : ConOp) (rest : List Sym) → con_op_next (printed.con_op o ++ rest) ≡ true
unfolding con_op_next
con_op_looks (n_ConOp.Symbol n) rest = refl
con_op_looks (n_ConOp.Colon a) rest = refl
con_op_looks (n_ConOp.Quoted a n b) rest = refl

pub con_op_complete : (o : ConOp) (rest : List Sym) → con_op (printed.con_op o ++ rest) ≡ taken o rest
unfolding con_op quoted_con con_id
con_op_complete (n_ConOp.Symbol n) rest = refl
con_op_complete (n_ConOp.Colon a) rest = refl
con_op_complete (n_ConOp.Quoted a n b) rest = refl
