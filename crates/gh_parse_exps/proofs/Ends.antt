-- What can stand behind arguments, operands, expressions and declarations.
use Rattle.std.proofs.Common.{◌≡◌, Bool, true, false, not, ◌&&◌, List, ◌∷◌, ◌++◌, Option, Some, None, refl, ap}
use Rattle.gh_base.specs.declared.place.Span.{Span}
use Rattle.gh_tree.specs.declared.symbol.Kind.{Kind}
use Rattle.gh_tree.specs.declared.symbol.Kind.TheVariants as k
use Rattle.gh_tree.specs.declared.symbol.Sym.{Sym}
use Rattle.gh_tree.specs.declared.names.Op.{Op}
use Rattle.gh_tree.specs.declared.names.Op.TheVariants as n_Op
use Rattle.gh_tree.specs.declared.names.VarOp.TheVariants as n_VarOp
use Rattle.gh_tree.specs.declared.names.ConOp.TheVariants as n_ConOp
use Rattle.gh_tree.specs.Syms.{at}
use Rattle.gh_tree.specs.Print.{op_flat}
use Rattle.gh_tree.specs.Read.{kind, after, is_close, is_comma, is_arrow, comma_next}
use Rattle.gh_tree.specs.ReadNames.{con_op_next, con_op_next_by}
use Rattle.gh_tree.specs.ReadPatterns.{begins_arg_by, is_at}
use Rattle.gh_tree.specs.ReadTypes as types
use Rattle.gh_tree.specs.ReadTypes.{ends_type}
use Rattle.gh_tree.proofs.Steps.{both, and_is, not_is}
use Rattle.gh_parse_lefts.specs.Lefts.{begins_rhs, begins_rhs_by, ends_left}
use Rattle.gh_parse_lefts.specs.Operators.{var_op_next, var_op_next_by}
use Rattle.gh_parse_exps.specs.Ops.{is_banana, is_op, behind_op, goes_on}
use Rattle.gh_parse_exps.specs.Marks.{is_colons, is_where, is_bar, bar_next}
use Rattle.gh_parse_exps.specs.Exps.{begins_aexp, begins_aexp_by}

-- behind an argument: no `{|`
abbrev pub ends_aexp : List Sym → Bool
ends_aexp ss = not (is_banana (kind ss))

-- behind an operand that does not go on to the right: nothing that begins an argument, and no `{|`
abbrev pub ends_operand : List Sym → Bool
ends_operand ss = not (begins_aexp ss) && not (is_banana (kind ss))

-- behind operands of which none goes on to the right: no operator that goes on, nothing that begins an argument, no `::`, no `{|`
abbrev pub ends_closed : List Sym → Bool
ends_closed ss = not (goes_on ss) && (ends_operand ss && not (is_colons (kind ss)))

-- behind an expression: also no `->`, which goes on with its type
abbrev pub ends_exp : List Sym → Bool
ends_exp ss = ends_closed ss && ends_type ss

-- behind a declaration: the end of the tokens, a `;` or a `}`
abbrev pub ends_decl_by : Option Kind → Bool
ends_decl_by None = true
ends_decl_by (Some k.Semicolon) = true
ends_decl_by (Some (k.InsertedSemicolon p)) = true
ends_decl_by (Some k.CloseBrace) = true
ends_decl_by (Some (k.InsertedClose p)) = true
ends_decl_by _ = false

abbrev pub ends_decl : List Sym → Bool
ends_decl ss = ends_decl_by (kind ss)

-- ---- what ends an expression, by the next token

abbrev pub stops : Option Kind → Bool
stops None = true
stops (Some k.Semicolon) = true
stops (Some (k.InsertedSemicolon p)) = true
stops (Some k.CloseBrace) = true
stops (Some (k.InsertedClose p)) = true
stops (Some k.Close) = true
stops (Some k.CloseList) = true
stops (Some k.Comma) = true
stops (Some k.Then) = true
stops (Some k.Else) = true
stops (Some k.Of) = true
stops (Some k.In) = true
stops (Some k.Equals) = true
stops (Some k.Bar) = true
stops (Some k.Where) = true
stops _ = false

record Stopped (kind : Option Kind) : Type 0 where
  op : is_op kind ≡ false
  argument : begins_aexp_by kind ≡ false
  banana : is_banana kind ≡ false
  colons : is_colons kind ≡ false
  type_argument : types.begins_arg_by kind ≡ false
  arrow : is_arrow kind ≡ false

stopped : (kind : Option Kind) → stops kind ≡ true → Stopped kind
stopped None e = record { op = refl; argument = refl; banana = refl; colons = refl; type_argument = refl; arrow = refl }
stopped (Some k.Semicolon) e = record { op = refl; argument = refl; banana = refl; colons = refl; type_argument = refl; arrow = refl }
stopped (Some (k.InsertedSemicolon p)) e = record { op = refl; argument = refl; banana = refl; colons = refl; type_argument = refl; arrow = refl }
stopped (Some k.CloseBrace) e = record { op = refl; argument = refl; banana = refl; colons = refl; type_argument = refl; arrow = refl }
stopped (Some (k.InsertedClose p)) e = record { op = refl; argument = refl; banana = refl; colons = refl; type_argument = refl; arrow = refl }
stopped (Some k.Close) e = record { op = refl; argument = refl; banana = refl; colons = refl; type_argument = refl; arrow = refl }
stopped (Some k.CloseList) e = record { op = refl; argument = refl; banana = refl; colons = refl; type_argument = refl; arrow = refl }
stopped (Some k.Comma) e = record { op = refl; argument = refl; banana = refl; colons = refl; type_argument = refl; arrow = refl }
stopped (Some k.Then) e = record { op = refl; argument = refl; banana = refl; colons = refl; type_argument = refl; arrow = refl }
stopped (Some k.Else) e = record { op = refl; argument = refl; banana = refl; colons = refl; type_argument = refl; arrow = refl }
stopped (Some k.Of) e = record { op = refl; argument = refl; banana = refl; colons = refl; type_argument = refl; arrow = refl }
stopped (Some k.In) e = record { op = refl; argument = refl; banana = refl; colons = refl; type_argument = refl; arrow = refl }
stopped (Some k.Equals) e = record { op = refl; argument = refl; banana = refl; colons = refl; type_argument = refl; arrow = refl }
stopped (Some k.Bar) e = record { op = refl; argument = refl; banana = refl; colons = refl; type_argument = refl; arrow = refl }
stopped (Some k.Where) e = record { op = refl; argument = refl; banana = refl; colons = refl; type_argument = refl; arrow = refl }
stopped _ e = absurd (cc)

pub stops_exp : (ss : List Sym) → stops (kind ss) ≡ true → ends_exp ss ≡ true
unfolding goes_on
stops_exp ss e =
    let s = stopped (kind ss) e in
    let on : not (goes_on ss) ≡ true = ap (λ b. not (b && not (is_close (behind_op ss)))) s.op in
    and_is (and_is on (and_is (and_is (ap not s.argument) (ap not s.banana)) (ap not s.colons))) (and_is (ap not s.type_argument) (ap not s.arrow))

pub exp_closed : (ss : List Sym) → ends_exp ss ≡ true → ends_closed ss ≡ true
exp_closed ss e = (both (ends_closed ss) (ends_type ss) e).0

pub exp_type : (ss : List Sym) → ends_exp ss ≡ true → ends_type ss ≡ true
exp_type ss e = (both (ends_closed ss) (ends_type ss) e).1

pub record Closed (ss : List Sym) : Type 0 where
  pub on : goes_on ss ≡ false
  pub operand : ends_operand ss ≡ true
  pub colons : is_colons (kind ss) ≡ false

pub closed_of : (ss : List Sym) → ends_closed ss ≡ true → Closed ss
closed_of ss e =
    let a = both (not (goes_on ss)) (ends_operand ss && not (is_colons (kind ss))) e in
    let b = both (ends_operand ss) (not (is_colons (kind ss))) a.1 in
    record { on = not_is (goes_on ss) a.0; operand = b.0; colons = not_is (is_colons (kind ss)) b.1 }

-- ---- what ends each part

pub op_ends : (o : Op) (b : Span) (rest : List Sym) → ends_exp (op_flat o ++ (at k.Close b ∷ rest)) ≡ true
unfolding goes_on behind_op
op_ends (n_Op.Var (n_VarOp.Symbol n)) b rest = refl
op_ends (n_Op.Var (n_VarOp.Quoted a n c)) b rest = refl
op_ends (n_Op.Con (n_ConOp.Symbol n)) b rest = refl
op_ends (n_Op.Con (n_ConOp.Colon a)) b rest = refl
op_ends (n_Op.Con (n_ConOp.Quoted a n c)) b rest = refl

pub arrow_ends : (a : Span) (ss : List Sym) → ends_closed (at k.Arrow a ∷ ss) ≡ true
unfolding goes_on
arrow_ends a ss = refl

comma_stops : (kind : Option Kind) → is_comma kind ≡ true → stops kind ≡ true
comma_stops (Some k.Comma) e = refl
comma_stops _ e = absurd (cc)

pub comma_ends : (ss : List Sym) → comma_next ss ≡ true → ends_exp ss ≡ true
comma_ends ss e = stops_exp ss (comma_stops (kind ss) e)

bar_stops : (kind : Option Kind) → is_bar kind ≡ true → stops kind ≡ true
bar_stops (Some k.Bar) e = refl
bar_stops _ e = absurd (cc)

pub bar_ends : (ss : List Sym) → bar_next ss ≡ true → ends_exp ss ≡ true
bar_ends ss e = stops_exp ss (bar_stops (kind ss) e)

record DeclStopped (kind : Option Kind) : Type 0 where
  stop : stops kind ≡ true
  no_where : is_where kind ≡ false
  no_bar : is_bar kind ≡ false
  no_comma : is_comma kind ≡ false

decl_stopped : (kind : Option Kind) → ends_decl_by kind ≡ true → DeclStopped kind
decl_stopped None e = record { stop = refl; no_where = refl; no_bar = refl; no_comma = refl }
decl_stopped (Some k.Semicolon) e = record { stop = refl; no_where = refl; no_bar = refl; no_comma = refl }
decl_stopped (Some (k.InsertedSemicolon p)) e = record { stop = refl; no_where = refl; no_bar = refl; no_comma = refl }
decl_stopped (Some k.CloseBrace) e = record { stop = refl; no_where = refl; no_bar = refl; no_comma = refl }
decl_stopped (Some (k.InsertedClose p)) e = record { stop = refl; no_where = refl; no_bar = refl; no_comma = refl }
decl_stopped _ e = absurd (cc)

pub decl_ends_exp : (ss : List Sym) → ends_decl ss ≡ true → ends_exp ss ≡ true
decl_ends_exp ss e = stops_exp ss (decl_stopped (kind ss) e).stop

pub decl_no_where : (ss : List Sym) → ends_decl ss ≡ true → is_where (kind ss) ≡ false
decl_no_where ss e = (decl_stopped (kind ss) e).no_where

pub decl_no_bar : (ss : List Sym) → ends_decl ss ≡ true → bar_next ss ≡ false
decl_no_bar ss e = (decl_stopped (kind ss) e).no_bar

pub decl_no_comma : (ss : List Sym) → ends_decl ss ≡ true → comma_next ss ≡ false
decl_no_comma ss e = (decl_stopped (kind ss) e).no_comma

-- ---- what ends a left side

record LeftEnds (first second : Option Kind) : Type 0 where
  name : is_at first ≡ false
  argument : begins_arg_by first ≡ false
  con : con_op_next_by first second ≡ false
  var : var_op_next_by first second ≡ false

rhs_stops_left : (first second : Option Kind) → begins_rhs_by first ≡ true → LeftEnds first second
rhs_stops_left (Some k.Equals) second e = record { name = refl; argument = refl; con = refl; var = refl }
rhs_stops_left (Some k.Bar) second e = record { name = refl; argument = refl; con = refl; var = refl }
rhs_stops_left _ second e = absurd (cc)

pub rhs_ends_left : (ss : List Sym) → begins_rhs ss ≡ true → ends_left ss ≡ true
unfolding con_op_next var_op_next
rhs_ends_left ss e =
    let s = rhs_stops_left (kind ss) (kind (after ss)) e in
    and_is (and_is (and_is (ap not s.name) (ap not s.argument)) (ap not s.con)) (ap not s.var)
