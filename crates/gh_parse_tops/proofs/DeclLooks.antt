-- What a declaration of the last form is not: a generic signature or case, or a generic function that extends another.
use Rattle.std.proofs.Common.{◌≡◌, Bool, true, false, not, ◌&&◌, List, [], ◌∷◌, ◌++◌, map, Option, Some, None, refl, sym, ap, ◌∙◌, append_assoc, append-nil}
use Rattle.gh_base.specs.declared.place.Span.{Span}
use Rattle.gh_tree.specs.declared.symbol.Kind.{Kind}
use Rattle.gh_tree.specs.declared.symbol.Kind.TheVariants as k
use Rattle.gh_tree.specs.declared.symbol.Sym.{Sym}
use Rattle.gh_tree.specs.declared.names.FixityWord.TheVariants as n_FixityWord
use Rattle.gh_tree.specs.declared.names.Var.{Var}
use Rattle.gh_tree.specs.declared.names.Var.TheVariants as n_Var
use Rattle.gh_tree.specs.declared.expressions.Decl.{Decl, out-Decl}
use Rattle.gh_tree.specs.declared.expressions.Rhs.{Rhs}
use Rattle.gh_tree.specs.declared.expressions.Aexp.TheOpen.{Decl-F}
use Rattle.gh_tree.specs.Syms.{at}
use Rattle.gh_tree.specs.Print.{Print, flat_all}
use Rattle.gh_tree.specs.Print as printed
use Rattle.gh_tree.specs.Read.{kind, after, is_close}
use Rattle.gh_tree.specs.ReadNames.{is_plain_sym, var_next, var_by}
use Rattle.gh_tree.proofs.Steps.{both, and_is}
use Rattle.gh_parse_lefts.specs.declared.sides.Left.TheVariants as v_Left
use Rattle.gh_parse_lefts.specs.Lefts.{begins_left_by, begins_rhs, begins_rhs_by}
use Rattle.gh_parse_lefts.proofs.Complete.{left_starts}
use Rattle.gh_parse_exps.specs.Ops.{is_sym, is_banana, any_var_next, any_var_by, behind_var, behind_var_by, call_next}
use Rattle.gh_parse_exps.proofs.Layers.{DeclLayer, decl_layer, decl_at}
use Rattle.gh_parse_exps.proofs.CompleteDecls.{rhs_starts, decl_no_call}
use Rattle.gh_parse_tops.specs.Generics.{is_extends}
use Rattle.gh_parse_tops.specs.Tops.{after_var_by, after_var, is_end, last_var, extension_next, generic_next}
use Rattle.gh_parse_tops.proofs.TypeLooks.{and_no}

pub after_var_is : (v : Var) (rest : List Sym) → after_var (printed.var v ++ rest) ≡ rest
unfolding after_var
after_var_is (n_Var.Word n) rest = refl
after_var_is (n_Var.Symbol a n b) rest = refl

-- ---- tokens of variables alone

abbrev is_var_token : Kind → Bool
is_var_token (k.VarId q n) = true
is_var_token (k.VarSym q n) = true
is_var_token k.Open = true
is_var_token k.Close = true
is_var_token _ = false

abbrev all_var : List Sym → Bool
all_var [] = true
all_var (s ∷ ss) = is_var_token s.kind && all_var ss

no_and : (a b : Bool) → a ≡ false → (a && b) ≡ false
no_and true b e = absurd (cc)
no_and false b e = refl

not_all_behind : (us vs : List Sym) → all_var vs ≡ false → all_var (us ++ vs) ≡ false
not_all_behind [] vs e = e
not_all_behind (u ∷ us) vs e = and_no (is_var_token u.kind) (all_var (us ++ vs)) (not_all_behind us vs e)

token_before : (u : Sym) (us vs : List Sym) (b : Bool) → is_var_token u.kind ≡ b → (is_var_token u.kind && all_var us) ≡ false → (all_var us ≡ false → all_var (us ++ vs) ≡ false) → (is_var_token u.kind && all_var (us ++ vs)) ≡ false
token_before u us vs true is e more = and_no _ _ (more (sym (ap (λ b. b && all_var us) is) ∙ e))
token_before u us vs false is e more = no_and _ _ is

not_all_before : (us vs : List Sym) → all_var us ≡ false → all_var (us ++ vs) ≡ false
not_all_before [] vs e = absurd (cc)
not_all_before (u ∷ us) vs e = token_before u us vs (is_var_token u.kind) refl e (not_all_before us vs)

-- a right side has a token that is none of a variable
rhs_token : (kind : Kind) → begins_rhs_by (Some kind) ≡ true → is_var_token kind ≡ false
rhs_token k.Equals e = refl
rhs_token k.Bar e = refl
rhs_token _ e = absurd (cc)

rhs_not_all : (ss : List Sym) → begins_rhs ss ≡ true → all_var ss ≡ false
rhs_not_all [] e = absurd (cc)
rhs_not_all (s ∷ ss) e = no_and _ _ (rhs_token s.kind e)

side_not_all : (left : List Sym) (r : Rhs) → (printed.rhs r).good ≡ true → all_var (left ++ (printed.rhs r).flat) ≡ false
side_not_all left r good =
    let e = append-nil (printed.rhs r).flat in
    not_all_behind left (printed.rhs r).flat (sym (ap all_var e) ∙ rhs_not_all _ (rhs_starts r [] good))

layer_not_all : (y : DeclLayer) → (decl_layer y).good ≡ true → all_var (decl_layer y).flat ≡ false
unfolding decl_layer
layer_not_all (Decl-F.Signature s v vs a t) good =
    let end : List Sym = at k.Colons a ∷ (printed.type_expr t).flat in
    not_all_behind (printed.var v) (flat_all (map printed.next_var vs) ++ end) (not_all_behind (flat_all (map printed.next_var vs)) end refl)
layer_not_all (Decl-F.Fixity s (n_FixityWord.Left a) l o os) good = refl
layer_not_all (Decl-F.Fixity s (n_FixityWord.Right a) l o os) good = refl
layer_not_all (Decl-F.Fixity s (n_FixityWord.Neither a) l o os) good = refl
layer_not_all (Decl-F.Function s f r) good =
    let h = both ((printed.fun_lhs f).good && (printed.rhs r).good) _ good in
    side_not_all (printed.fun_lhs f).flat r (both (printed.fun_lhs f).good (printed.rhs r).good h.0).1
layer_not_all (Decl-F.Pattern s p r) good =
    let h = both ((printed.pattern p).good && ((printed.rhs r).good && not (printed.pattern p).is_var)) _ good in
    let g = both (printed.pattern p).good ((printed.rhs r).good && not (printed.pattern p).is_var) h.0 in
    side_not_all (printed.pattern p).flat r (both (printed.rhs r).good (not (printed.pattern p).is_var) g.1).0

decl_not_all : (x : Decl) (rest : List Sym) → (printed.decl x).good ≡ true → all_var ((printed.decl x).flat ++ rest) ≡ false
decl_not_all x rest good =
    not_all_before (printed.decl x).flat rest (ap (λ (p : Print). all_var p.flat) (decl_at x) ∙ layer_not_all (out-Decl x) (sym (ap (λ (p : Print). p.good) (decl_at x)) ∙ good))

-- ---- what extends has tokens of variables alone

sym_token : (kind : Kind) → is_sym (Some kind) ≡ true → is_var_token kind ≡ true
sym_token (k.VarSym q n) e = refl
sym_token _ e = absurd (cc)

close_token : (kind : Kind) → is_close (Some kind) ≡ true → is_var_token kind ≡ true
close_token k.Close e = refl
close_token _ e = absurd (cc)

extends_token : (kind : Kind) → is_extends (Some kind) ≡ true → is_var_token kind ≡ true
extends_token (k.VarId q n) e = refl
extends_token _ e = absurd (cc)

symbol_all : (ss : List Sym) → (is_sym (kind ss) && is_close (kind (after ss))) ≡ true → all_var (after (after ss)) ≡ true → all_var ss ≡ true
symbol_all [] e f = refl
symbol_all (s ∷ []) e f = let h = both (is_sym (Some s.kind)) false e in absurd (cc)
symbol_all (s ∷ t ∷ us) e f =
    let h = both (is_sym (Some s.kind)) (is_close (Some t.kind)) e in
    and_is (sym_token s.kind h.0) (and_is (close_token t.kind h.1) f)

var_all_by : (kind : Kind) (a : Span) (ss : List Sym) → any_var_next (at kind a ∷ ss) ≡ true → all_var (after_var (at kind a ∷ ss)) ≡ true → all_var (at kind a ∷ ss) ≡ true
unfolding any_var_next after_var
var_all_by (k.VarId q n) a ss e f = f
var_all_by k.Open a ss e f = symbol_all ss e f
var_all_by _ a ss e f = absurd (cc)

var_all : (ss : List Sym) → any_var_next ss ≡ true → all_var (after_var ss) ≡ true → all_var ss ≡ true
unfolding any_var_next
var_all [] e f = refl
var_all (s ∷ ss) e f = var_all_by s.kind s.span ss e f

plain_is_sym : (kind : Option Kind) → is_plain_sym kind ≡ true → is_sym kind ≡ true
plain_is_sym (Some (k.VarSym q n)) e = refl
plain_is_sym _ e = absurd (cc)

any_var_of : (first second third : Option Kind) → var_by first second third ≡ true → any_var_by first second third ≡ true
any_var_of (Some (k.VarId q n)) second third e = refl
any_var_of (Some k.Open) second third e = let h = both (is_plain_sym second) (is_close third) e in and_is (plain_is_sym second h.0) h.1
any_var_of _ second third e = absurd (cc)

var_any : (ss : List Sym) → var_next ss ≡ true → any_var_next ss ≡ true
unfolding var_next any_var_next
var_any ss e = any_var_of _ _ _ e

end_all : (ss : List Sym) → is_end ss ≡ true → all_var ss ≡ true
end_all [] e = refl
end_all (s ∷ ss) e = absurd (cc)

extends_all : (ss : List Sym) → is_extends (kind ss) ≡ true → all_var (after ss) ≡ true → all_var ss ≡ true
extends_all [] e f = refl
extends_all (s ∷ ss) e f = and_is (extends_token s.kind e) f

extension_all : (ss : List Sym) → extension_next ss ≡ true → all_var ss ≡ true
unfolding extension_next
extension_all ss e =
    let behind : List Sym = after_var ss in
    let last : List Sym = after behind in
    let g = both (var_next ss) (is_extends (kind behind) && last_var last) e in
    let h = both (is_extends (kind behind)) (last_var last) g.1 in
    let i = both (any_var_next last) (is_end (after_var last)) h.1 in
    var_all ss (var_any ss g.0) (extends_all behind h.0 (var_all last i.0 (end_all (after_var last) i.1)))

no_if : (b c : Bool) → (b ≡ true → c ≡ true) → c ≡ false → b ≡ false
no_if true c f e = let g = f refl in absurd (cc)
no_if false c f e = refl

pub decl_no_extension : (x : Decl) (rest : List Sym) → (printed.decl x).good ≡ true → extension_next ((printed.decl x).flat ++ rest) ≡ false
decl_no_extension x rest good = no_if _ _ (extension_all ((printed.decl x).flat ++ rest)) (decl_not_all x rest good)

-- ---- a declaration of the last form is not generic

behind_is : (ss : List Sym) → kind (after_var ss) ≡ behind_var ss
unfolding after_var behind_var
behind_is ss = at_kind (kind ss)
  where
    at_kind : (first : Option Kind) → kind (after_var_by first ss) ≡ behind_var_by first ss
    at_kind (Some k.Open) = refl
    at_kind _ = refl

generic_call : (ss : List Sym) → generic_next ss ≡ true → call_next ss ≡ true
unfolding generic_next call_next
generic_call ss e =
    let h = both (var_next ss) (is_banana (kind (after_var ss))) e in
    and_is (var_any ss h.0) (ap is_banana (sym (behind_is ss)) ∙ h.1)

pub decl_no_generic : (x : Decl) (rest : List Sym) → (printed.decl x).good ≡ true → generic_next ((printed.decl x).flat ++ rest) ≡ false
decl_no_generic x rest good = no_if _ _ (generic_call ((printed.decl x).flat ++ rest)) (decl_no_call x rest good)

-- ---- what a declaration of the last form begins with

-- neither the end, nor a word of another form, nor `import`
abbrev pub plain_first : Option Kind → Bool
plain_first None = false
plain_first (Some k.TypeWord) = false
plain_first (Some k.Data) = false
plain_first (Some k.Newtype) = false
plain_first (Some k.Import) = false
plain_first _ = true

left_first : (first second : Option Kind) → begins_left_by first second ≡ true → plain_first first ≡ true
left_first (Some (k.VarSym q n)) second e = refl
left_first (Some (k.VarId q n)) second e = refl
left_first (Some (k.ConId q n)) second e = refl
left_first (Some (k.Int n)) second e = refl
left_first (Some (k.Char n)) second e = refl
left_first (Some (k.Str n)) second e = refl
left_first (Some k.Underscore) second e = refl
left_first (Some k.Open) second e = refl
left_first (Some k.OpenList) second e = refl
left_first _ second e = absurd (cc)

pub var_first : (v : Var) (rest : List Sym) → plain_first (kind (printed.var v ++ rest)) ≡ true
var_first (n_Var.Word n) rest = refl
var_first (n_Var.Symbol a n b) rest = refl

layer_first : (y : DeclLayer) (rest : List Sym) → (decl_layer y).good ≡ true → plain_first (kind ((decl_layer y).flat ++ rest)) ≡ true
unfolding decl_layer
layer_first (Decl-F.Signature s v vs a t) rest good =
    ap (λ us. plain_first (kind us)) (append_assoc (printed.var v) (flat_all (map printed.next_var vs) ++ (at k.Colons a ∷ (printed.type_expr t).flat)) rest) ∙ var_first v _
layer_first (Decl-F.Fixity s (n_FixityWord.Left a) l o os) rest good = refl
layer_first (Decl-F.Fixity s (n_FixityWord.Right a) l o os) rest good = refl
layer_first (Decl-F.Fixity s (n_FixityWord.Neither a) l o os) rest good = refl
layer_first (Decl-F.Function s f r) rest good =
    let h = both ((printed.fun_lhs f).good && (printed.rhs r).good) _ good in
    let g = both (printed.fun_lhs f).good (printed.rhs r).good h.0 in
    ap (λ us. plain_first (kind us)) (append_assoc (printed.fun_lhs f).flat (printed.rhs r).flat rest) ∙ left_first _ _ (left_starts (v_Left.Function f) ((printed.rhs r).flat ++ rest) g.0)
layer_first (Decl-F.Pattern s p r) rest good =
    let h = both ((printed.pattern p).good && ((printed.rhs r).good && not (printed.pattern p).is_var)) _ good in
    let g = both (printed.pattern p).good ((printed.rhs r).good && not (printed.pattern p).is_var) h.0 in
    let gs = both (printed.rhs r).good (not (printed.pattern p).is_var) g.1 in
    ap (λ us. plain_first (kind us)) (append_assoc (printed.pattern p).flat (printed.rhs r).flat rest) ∙ left_first _ _ (left_starts (v_Left.Pattern p) ((printed.rhs r).flat ++ rest) (and_is g.0 gs.1))

pub decl_first : (x : Decl) (rest : List Sym) → (printed.decl x).good ≡ true → plain_first (kind ((printed.decl x).flat ++ rest)) ≡ true
decl_first x rest good =
    ap (λ (p : Print). plain_first (kind (p.flat ++ rest))) (decl_at x) ∙ layer_first (out-Decl x) rest (sym (ap (λ (p : Print). p.good) (decl_at x)) ∙ good)
