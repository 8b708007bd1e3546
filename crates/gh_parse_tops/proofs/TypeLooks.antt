-- What the first tokens of a type are not: variables of a generic function, dependencies, a constructor operator between parentheses.
use Rattle.std.proofs.Common.{◌≡◌, Bool, true, false, ◌&&◌, cond, List, [], ◌∷◌, ◌++◌, map, Option, Some, refl, sym, ap, ◌∙◌, subst, append_assoc}
use Rattle.gh_base.specs.declared.place.Span.{Span}
use Rattle.gh_tree.specs.declared.symbol.Kind.{Kind}
use Rattle.gh_tree.specs.declared.symbol.Kind.TheVariants as k
use Rattle.gh_tree.specs.declared.symbol.Sym.{Sym}
use Rattle.gh_tree.specs.declared.types.ArgType.{ArgType, out-ArgType}
use Rattle.gh_tree.specs.declared.types.ArgType.TheOpen.{ArgType-F}
use Rattle.gh_tree.specs.declared.types.Arrow.{Arrow}
use Rattle.gh_tree.specs.declared.types.BType.{BType, out-BType}
use Rattle.gh_tree.specs.declared.types.TypeExpr.{TypeExpr, out-TypeExpr}
use Rattle.gh_tree.specs.declared.types.TypePart.{TypePart, out-TypePart, roll-out-TypePart}
use Rattle.gh_tree.specs.Syms.{at}
use Rattle.gh_tree.specs.Print.{Print, flat_all, good_all, is_tuple}
use Rattle.gh_tree.specs.Print as printed
use Rattle.gh_tree.specs.Read.{kind, after, is_close, is_arrow}
use Rattle.gh_tree.specs.ReadTypes.{begins_arg, begins_arg_by, arrow_next}
use Rattle.gh_tree.proofs.Steps.{both}
use Rattle.gh_tree.proofs.CompleteTypes.{Layer, layer, arg_starts, type_starts}
use Rattle.gh_tree.proofs.Printed.{printed_type_part}
use Rattle.gh_parse_exps.specs.Ops.{is_sym, is_banana, any_var_next, behind_var, call_next}
use Rattle.gh_parse_tops.specs.Generics.{is_word, is_double_arrow, deps_next, ends_first}
use Rattle.gh_parse_tops.specs.Tops.{is_con_sym, symbol_next}
use Rattle.gh_parse_tops.proofs.Shapes.{arg_at, arrow_at, btype_at, type_at}

pub and_no : (a b : Bool) → b ≡ false → (a && b) ≡ false
and_no true b e = e
and_no false b e = refl

-- ---- from one level to a whole type: what follows the first argument type begins an argument type or an arrow, or is what follows the type
module _ (P Q : List Sym → Type 0) (by_arg : (ss : List Sym) → begins_arg ss ≡ true → P ss) (by_arrow : (ss : List Sym) → arrow_next ss ≡ true → P ss)
    (by_layer : (y : Layer) (us : List Sym) → (layer y).good ≡ true → P us → Q ((layer y).flat ++ us)) where
  args_keep : (xs : List ArgType) (rest : List Sym) → good_all (map printed.arg_type xs) ≡ true → P rest → P (flat_all (map printed.arg_type xs) ++ rest)
  args_keep [] rest good p = p
  args_keep (x ∷ xs) rest good p =
      subst P (sym (append_assoc (printed.arg_type x).flat (flat_all (map printed.arg_type xs)) rest))
      (by_arg _ (arg_starts x (flat_all (map printed.arg_type xs) ++ rest) (both (printed.arg_type x).good (good_all (map printed.arg_type xs)) good).0))

  arrows_keep : (xs : List Arrow) (rest : List Sym) → good_all (map printed.arrow xs) ≡ true → P rest → P (flat_all (map printed.arrow xs) ++ rest)
  arrows_keep [] rest good p = p
  arrows_keep (x ∷ xs) rest good p =
      let tail : List Sym = flat_all (map printed.arrow xs) ++ rest in
      subst P (sym (append_assoc (printed.arrow x).flat (flat_all (map printed.arrow xs)) rest)) (by_arrow _ (ap (λ (p : Print). arrow_next (p.flat ++ tail)) (arrow_at x)))

  arg_look : (x : ArgType) (us : List Sym) → (printed.arg_type x).good ≡ true → P us → Q ((printed.arg_type x).flat ++ us)
  arg_look x us good p = subst (λ (q : Print). Q (q.flat ++ us)) (sym (arg_at x)) (by_layer (out-ArgType x) us (sym (ap (λ (q : Print). q.good) (arg_at x)) ∙ good) p)

  pub btype_look : (x : BType) (us : List Sym) → (printed.btype x).good ≡ true → P us → Q ((printed.btype x).flat ++ us)
  btype_look x us good p =
      let y = out-BType x in
      let head = printed.arg_type y.head in
      let args = map printed.arg_type y.args in
      let g = both (head.good && good_all args) _ (sym (ap (λ (q : Print). q.good) (btype_at x)) ∙ good) in
      let gs = both head.good (good_all args) g.0 in
      subst (λ (q : Print). Q (q.flat ++ us)) (sym (btype_at x))
      (subst Q (sym (append_assoc head.flat (flat_all args) us)) (arg_look y.head (flat_all args ++ us) gs.0 (args_keep y.args us gs.1 p)))

  pub type_look : (x : TypeExpr) (us : List Sym) → (printed.type_expr x).good ≡ true → P us → Q ((printed.type_expr x).flat ++ us)
  type_look x us good p =
      let y = out-TypeExpr x in
      let first = printed.btype y.first in
      let arrows = map printed.arrow y.arrows in
      let g = both (first.good && good_all arrows) _ (sym (ap (λ (q : Print). q.good) (type_at x)) ∙ good) in
      let gs = both first.good (good_all arrows) g.0 in
      subst (λ (q : Print). Q (q.flat ++ us)) (sym (type_at x))
      (subst Q (sym (append_assoc first.flat (flat_all arrows) us)) (btype_look y.first (flat_all arrows ++ us) gs.0 (arrows_keep y.arrows us gs.1 p)))

-- ---- the kinds that go on with a type

record ArgFirst (kind : Option Kind) : Type 0 where
  first : (behind : Option Kind) → ends_first kind behind ≡ false
  banana : is_banana kind ≡ false
  double : is_double_arrow kind ≡ false
  sym : is_sym kind ≡ false
  con_sym : is_con_sym kind ≡ false
  close : is_close kind ≡ false

arg_first : (kind : Option Kind) → begins_arg_by kind ≡ true → ArgFirst kind
arg_first (Some (k.ConId q n)) e = record { first = λ b. refl; banana = refl; double = refl; sym = refl; con_sym = refl; close = refl }
arg_first (Some (k.VarId q n)) e = record { first = λ b. refl; banana = refl; double = refl; sym = refl; con_sym = refl; close = refl }
arg_first (Some k.Open) e = record { first = λ b. refl; banana = refl; double = refl; sym = refl; con_sym = refl; close = refl }
arg_first (Some k.OpenList) e = record { first = λ b. refl; banana = refl; double = refl; sym = refl; con_sym = refl; close = refl }
arg_first _ e = absurd (cc)

record ArrowFirst (kind : Option Kind) : Type 0 where
  first : (behind : Option Kind) → ends_first kind behind ≡ false
  banana : is_banana kind ≡ false
  double : is_double_arrow kind ≡ false

arrow_first : (kind : Option Kind) → is_arrow kind ≡ true → ArrowFirst kind
arrow_first (Some k.Arrow) e = record { first = λ b. refl; banana = refl; double = refl }
arrow_first _ e = absurd (cc)

-- ---- a type in `{|` is no variable before `,` `|` or `|}` and `::`

abbrev pub NoFirst : List Sym → Type 0
NoFirst ss = ends_first (kind ss) (kind (after ss)) ≡ false

-- the variables of a signature come next, behind `{|`
abbrev pub vars_behind : List Sym → Bool
vars_behind ss = is_word (kind ss) && ends_first (kind (after ss)) (kind (after (after ss)))

layer_no_vars : (y : Layer) (us : List Sym) → (layer y).good ≡ true → NoFirst us → vars_behind ((layer y).flat ++ us) ≡ false
unfolding layer
layer_no_vars (ArgType-F.Con n) us good p = refl
layer_no_vars (ArgType-F.Var n) us good p = and_no _ _ p
layer_no_vars (ArgType-F.Unit s a b) us good p = refl
layer_no_vars (ArgType-F.NoList s a b) us good p = refl
layer_no_vars (ArgType-F.NoArrow s a m b) us good p = refl
layer_no_vars (ArgType-F.NoTuple s a cs b) us good p = refl
layer_no_vars (ArgType-F.Paren s a x b) us good p = refl
layer_no_vars (ArgType-F.Tuple s a x xs b) us good p = refl
layer_no_vars (ArgType-F.List s a x b) us good p = refl

pub type_no_vars : (x : TypeExpr) (us : List Sym) → (printed.type_expr x).good ≡ true → NoFirst us → vars_behind ((printed.type_expr x).flat ++ us) ≡ false
type_no_vars =
    type_look NoFirst (λ ss. vars_behind ss ≡ false) (λ ss e. (arg_first (kind ss) e).first (kind (after ss))) (λ ss e. (arrow_first (kind ss) e).first (kind (after ss))) layer_no_vars

-- ---- a type does not begin with a variable and `{|`

no_sym_no_call : (a : Span) (ss : List Sym) → is_sym (kind ss) ≡ false → call_next (at k.Open a ∷ ss) ≡ false
unfolding call_next any_var_next
no_sym_no_call a ss e = ap (λ b. (b && is_close (kind (after ss))) && is_banana (behind_var (at k.Open a ∷ ss))) e

inside_first : (x : TypeExpr) (more us : List Sym) → (printed.type_expr x).good ≡ true → begins_arg (((printed.type_expr x).flat ++ more) ++ us) ≡ true
inside_first x more us good = ap begins_arg (append_assoc (printed.type_expr x).flat more us) ∙ type_starts x (more ++ us) good

abbrev NoBanana : List Sym → Type 0
NoBanana ss = is_banana (kind ss) ≡ false

layer_no_call : (y : Layer) (us : List Sym) → (layer y).good ≡ true → NoBanana us → call_next ((layer y).flat ++ us) ≡ false
unfolding layer call_next any_var_next behind_var
layer_no_call (ArgType-F.Con n) us good p = refl
layer_no_call (ArgType-F.Var n) us good p = p
layer_no_call (ArgType-F.Unit s a b) us good p = refl
layer_no_call (ArgType-F.NoList s a b) us good p = refl
layer_no_call (ArgType-F.NoArrow s a m b) us good p = refl
layer_no_call (ArgType-F.NoTuple s a [] b) us good p = refl
layer_no_call (ArgType-F.NoTuple s a (c ∷ cs) b) us good p = refl
layer_no_call (ArgType-F.Paren s a x b) us good p =
    let g = both (printed.type_expr x).good _ good in
    no_sym_no_call a _ (arg_first _ (inside_first x (at k.Close b ∷ []) us g.0)).sym
layer_no_call (ArgType-F.Tuple s a x xs b) us good p =
    let h = both ((printed.type_expr x).good && (good_all (map printed.type_part xs) && is_tuple (map printed.type_part xs))) _ good in
    let g = both (printed.type_expr x).good (good_all (map printed.type_part xs) && is_tuple (map printed.type_part xs)) h.0 in
    no_sym_no_call a _ (arg_first _ (inside_first x (flat_all (map printed.type_part xs) ++ at k.Close b ∷ []) us g.0)).sym
layer_no_call (ArgType-F.List s a x b) us good p = refl

pub type_no_call : (x : TypeExpr) (us : List Sym) → (printed.type_expr x).good ≡ true → is_banana (kind us) ≡ false → call_next ((printed.type_expr x).flat ++ us) ≡ false
type_no_call = type_look NoBanana (λ ss. call_next ss ≡ false) (λ ss e. (arg_first (kind ss) e).banana) (λ ss e. (arrow_first (kind ss) e).banana) layer_no_call

-- ---- a type is no list of dependencies

open_no_deps : (a : Span) (ss : List Sym) → is_close (kind ss) ≡ false → call_next ss ≡ false → deps_next (at k.Open a ∷ ss) ≡ false
unfolding deps_next
open_no_deps a ss e f = ap (λ b. cond (b && is_double_arrow (kind (after ss))) true (call_next ss)) e ∙ f

close_no_call : (b : Span) (us : List Sym) → call_next (at k.Close b ∷ us) ≡ false
unfolding call_next any_var_next
close_no_call b us = refl

unit_no_deps : (a b : Span) (us : List Sym) → is_double_arrow (kind us) ≡ false → deps_next (at k.Open a ∷ at k.Close b ∷ us) ≡ false
unfolding deps_next
unit_no_deps a b us e = ap (λ c. cond c true (call_next (at k.Close b ∷ us))) e ∙ close_no_call b us

arrow_no_call : (m : Span) (us : List Sym) → call_next (at k.Arrow m ∷ us) ≡ false
unfolding call_next any_var_next
arrow_no_call m us = refl

comma_no_call : (m : Span) (us : List Sym) → call_next (at k.Comma m ∷ us) ≡ false
unfolding call_next any_var_next
comma_no_call m us = refl

part_no_banana : (xs : List TypePart) (b : Span) (us : List Sym) → is_banana (kind ((flat_all (map printed.type_part xs) ++ at k.Close b ∷ []) ++ us)) ≡ false
part_no_banana [] b us = refl
part_no_banana (x ∷ xs) b us =
    let y = out-TypePart x in
    let e = ap printed.type_part (sym (roll-out-TypePart x)) ∙ printed_type_part y.mark y.part in
    ap (λ (p : Print). is_banana (kind (((p.flat ++ flat_all (map printed.type_part xs)) ++ at k.Close b ∷ []) ++ us))) e

abbrev NoDouble : List Sym → Type 0
NoDouble ss = is_double_arrow (kind ss) ≡ false

inside_no_deps : (a : Span) (x : TypeExpr) (more us : List Sym) → (printed.type_expr x).good ≡ true → is_banana (kind (more ++ us)) ≡ false → deps_next (at k.Open a ∷ (((printed.type_expr x).flat ++ more) ++ us)) ≡ false
inside_no_deps a x more us good e =
    open_no_deps a _ (arg_first _ (inside_first x more us good)).close (ap call_next (append_assoc (printed.type_expr x).flat more us) ∙ type_no_call x (more ++ us) good e)

layer_no_deps : (y : Layer) (us : List Sym) → (layer y).good ≡ true → NoDouble us → deps_next ((layer y).flat ++ us) ≡ false
unfolding layer deps_next
layer_no_deps (ArgType-F.Con n) us good p = refl
layer_no_deps (ArgType-F.Var n) us good p = refl
layer_no_deps (ArgType-F.Unit s a b) us good p = unit_no_deps a b us p
layer_no_deps (ArgType-F.NoList s a b) us good p = refl
layer_no_deps (ArgType-F.NoArrow s a m b) us good p = open_no_deps a (at k.Arrow m ∷ at k.Close b ∷ us) refl (arrow_no_call m (at k.Close b ∷ us))
layer_no_deps (ArgType-F.NoTuple s a [] b) us good p = absurd (cc)
layer_no_deps (ArgType-F.NoTuple s a (c ∷ cs) b) us good p = open_no_deps a (at k.Comma c ∷ ((printed.commas cs ++ at k.Close b ∷ []) ++ us)) refl (comma_no_call c _)
layer_no_deps (ArgType-F.Paren s a x b) us good p =
    let g = both (printed.type_expr x).good _ good in
    inside_no_deps a x (at k.Close b ∷ []) us g.0 refl
layer_no_deps (ArgType-F.Tuple s a x xs b) us good p =
    let h = both ((printed.type_expr x).good && (good_all (map printed.type_part xs) && is_tuple (map printed.type_part xs))) _ good in
    let g = both (printed.type_expr x).good (good_all (map printed.type_part xs) && is_tuple (map printed.type_part xs)) h.0 in
    inside_no_deps a x (flat_all (map printed.type_part xs) ++ at k.Close b ∷ []) us g.0 (part_no_banana xs b us)
layer_no_deps (ArgType-F.List s a x b) us good p = refl

pub type_no_deps : (x : TypeExpr) (us : List Sym) → (printed.type_expr x).good ≡ true → is_double_arrow (kind us) ≡ false → deps_next ((printed.type_expr x).flat ++ us) ≡ false
type_no_deps = type_look NoDouble (λ ss. deps_next ss ≡ false) (λ ss e. (arg_first (kind ss) e).double) (λ ss e. (arrow_first (kind ss) e).double) layer_no_deps

-- ---- an applied type does not begin with a constructor operator between parentheses

open_no_symbol : (a : Span) (ss : List Sym) → is_con_sym (kind ss) ≡ false → symbol_next (at k.Open a ∷ ss) ≡ false
unfolding symbol_next
open_no_symbol a ss e = e

abbrev Whatever : List Sym → Type 0
Whatever ss = Unit {0}

layer_no_symbol : (y : Layer) (us : List Sym) → (layer y).good ≡ true → Whatever us → symbol_next ((layer y).flat ++ us) ≡ false
unfolding layer symbol_next
layer_no_symbol (ArgType-F.Con n) us good p = refl
layer_no_symbol (ArgType-F.Var n) us good p = refl
layer_no_symbol (ArgType-F.Unit s a b) us good p = refl
layer_no_symbol (ArgType-F.NoList s a b) us good p = refl
layer_no_symbol (ArgType-F.NoArrow s a m b) us good p = refl
layer_no_symbol (ArgType-F.NoTuple s a [] b) us good p = refl
layer_no_symbol (ArgType-F.NoTuple s a (c ∷ cs) b) us good p = refl
layer_no_symbol (ArgType-F.Paren s a x b) us good p =
    let g = both (printed.type_expr x).good _ good in
    open_no_symbol a _ (arg_first _ (inside_first x (at k.Close b ∷ []) us g.0)).con_sym
layer_no_symbol (ArgType-F.Tuple s a x xs b) us good p =
    let h = both ((printed.type_expr x).good && (good_all (map printed.type_part xs) && is_tuple (map printed.type_part xs))) _ good in
    let g = both (printed.type_expr x).good (good_all (map printed.type_part xs) && is_tuple (map printed.type_part xs)) h.0 in
    open_no_symbol a _ (arg_first _ (inside_first x (flat_all (map printed.type_part xs) ++ at k.Close b ∷ []) us g.0)).con_sym
layer_no_symbol (ArgType-F.List s a x b) us good p = refl

pub btype_no_symbol : (x : BType) (us : List Sym) → (printed.btype x).good ≡ true → symbol_next ((printed.btype x).flat ++ us) ≡ false
btype_no_symbol x us good = btype_look Whatever (λ ss. symbol_next ss ≡ false) (λ ss e. tt) (λ ss e. tt) layer_no_symbol x us good tt
