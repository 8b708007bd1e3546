-- What is read as a left side is the print of a well-formed left side.
use Rattle.std.proofs.Common.{◌≡◌, inl, inr, ℕ, zero, suc, Bool, true, false, not, ◌&&◌, cond, List, [], ◌∷◌, ◌++◌, map, Option, Some, None, refl, sym, ap, ◌∙◌, subst}
use Rattle.gh_base.specs.declared.place.Span.{Span}
use Rattle.gh_tree.specs.declared.symbol.Kind.{Kind}
use Rattle.gh_tree.specs.declared.symbol.Kind.TheVariants as k
use Rattle.gh_tree.specs.declared.symbol.Sym.{Sym}
use Rattle.gh_tree.specs.declared.names.Var.{Var}
use Rattle.gh_tree.specs.declared.patterns.ArgPattern.{ArgPattern}
use Rattle.gh_tree.specs.declared.patterns.ArgPattern.TheVariants as v_ArgPattern
use Rattle.gh_tree.specs.declared.patterns.PatOperand.{PatOperand}
use Rattle.gh_tree.specs.declared.patterns.PatOperand.TheVariants as v_PatOperand
use Rattle.gh_tree.specs.declared.patterns.NextPattern.{NextPattern}
use Rattle.gh_tree.specs.declared.patterns.Pattern.{Pattern, roll-Pattern}
use Rattle.gh_tree.specs.declared.patterns.FunLhs.{FunLhs}
use Rattle.gh_tree.specs.declared.patterns.FunLhs.TheVariants as v_FunLhs
use Rattle.gh_tree.specs.Syms.{at, cover, same_span}
use Rattle.gh_tree.specs.Print.{Print, spanned, flat_all, good_all, is_some, plain_var, plain_nexts}
use Rattle.gh_tree.specs.Print as printed
use Rattle.gh_tree.specs.Read.{Read, ◌>>=◌, taken, next, kind, expect, covered, is_open, is_close, comma_next}
use Rattle.gh_tree.specs.ReadNames.{gen_con_next, var_next, var}
use Rattle.gh_tree.specs.ReadPatterns.{begins_arg, is_at, at_next, args, operand, next_patterns, enclosed, as_end, arg}
use Rattle.gh_tree.proofs.Steps.{bound, both, and_is, not_is, not_so, some_is, spanned_taken}
use Rattle.gh_tree.proofs.Many.{Taken, AllTaken}
use Rattle.gh_tree.proofs.CompleteNames.{var_looks, var_is_no_con}
use Rattle.gh_tree.proofs.Printed.{printed_arg_pattern_as, printed_arg_pattern_paren, printed_pat_operand_arg, printed_pattern, printed_fun_lhs_prefix, printed_fun_lhs_infix, printed_fun_lhs_nested}
use Rattle.gh_reader.proofs.Sound.{SoundAt, built, only_if, close_sound, between3}
use Rattle.gh_reader.proofs.NamesSound.{var_print, var_sound}
use Rattle.gh_parse_patterns.proofs.Sound.{either_way, args_sound, operand_sound, nexts_sound, enclosed_sound, arg_sound}
use Rattle.gh_parse_lefts.specs.declared.sides.Side.{Side}
use Rattle.gh_parse_lefts.specs.declared.sides.Side.TheVariants as v_Side
use Rattle.gh_parse_lefts.specs.declared.sides.Front.{Front}
use Rattle.gh_parse_lefts.specs.declared.sides.Front.TheVariants as v_Front
use Rattle.gh_parse_lefts.specs.Operators.{var_op_next, var_op}
use Rattle.gh_parse_lefts.specs.Lefts.{left_print, left_of, var_lhs, var_operand, var_pattern, pattern_of, function_of, given, paren_front, patterned, alone, prefix, named, unnamed, behind_name, var_front, operand_front, tuple_front, nested, closed, behind_inside, infixed, go, opened, no_var, no_con, front, whole, side, left}
use Rattle.gh_parse_lefts.proofs.OpLaws.{var_op_sound}
use Rattle.gh_parse_lefts.proofs.Shapes.{operand_shape, var_operand_printed, more_behind}

-- what a left side that was read is printed as
abbrev pub side_print : Side → Print
side_print x = left_print (left_of x)

-- what is no variable
abbrev no_variable : Print → Print
no_variable p = record p { good = p.good && not p.is_var }

abbrev front_print : Front → Print
front_print (v_Front.Ended f) = printed.fun_lhs f
front_print (v_Front.Alone v) = var_print v
front_print (v_Front.Operand x) = no_variable (printed.pat_operand x)

record Given {A B : Type 0} (o : Option A) (f : A → Read B) (ss : List Sym) (y : B) (rest : List Sym) : Type 0 where
  x : A
  is : o ≡ Some x
  then : f x ss ≡ taken y rest

given_some : {A B : Type 0} (o : Option A) (f : A → Read B) (ss : List Sym) (y : B) (rest : List Sym) → given o f ss ≡ taken y rest → Given o f ss y rest
given_some (Some x) f ss y rest e = record { x = x; is = refl; then = e }
given_some None f ss y rest e = absurd (cc)

-- one of two ways, told apart by a test
which : {A : Type 0} (print : A → Print) (ss : List Sym) (x : A) (rest : List Sym) (b : Bool) (p q : Option (A × List Sym)) → (b ≡ true → p ≡ taken x rest → Taken print ss x rest) → (b ≡ false → q ≡ taken x rest → Taken print ss x rest)
    → cond b p q ≡ taken x rest → Taken print ss x rest
which print ss x rest true p q f g e = f refl e
which print ss x rest false p q f g e = g refl e

never : {X : Type 0} → true ≡ false → X
never e = absurd (cc)

-- ---- what a left side stands for has its tokens

var_lhs_print : (s : Span) (v : Var) → printed.fun_lhs (var_lhs s v) ≡ spanned s (printed.var v ++ []) (plain_var v && true)
var_lhs_print s v = printed_fun_lhs_prefix s v []

var_pattern_flat : (s : Span) (v : Var) → (printed.pattern (var_pattern s v)).flat ≡ (printed.fun_lhs (var_lhs s v)).flat
var_pattern_flat s v =
    ap (λ (p : Print). p.flat) (printed_pattern s (var_operand v) []) ∙ ap (λ (p : Print). p.flat ++ []) (var_operand_printed v) ∙ sym (ap (λ (p : Print). p.flat) (var_lhs_print s v))

var_pattern_good : (s : Span) (v : Var) → (printed.pattern (var_pattern s v)).good ≡ (printed.fun_lhs (var_lhs s v)).good
var_pattern_good s v =
    ap (λ (p : Print). p.good) (printed_pattern s (var_operand v) [])
    ∙ ap (λ (p : Print). (p.good && true) && same_span s (cover (p.flat ++ []))) (var_operand_printed v)
    ∙ sym (ap (λ (p : Print). p.good) (var_lhs_print s v))

pattern_taken : (y : Side) (p : Pattern) (ss rest : List Sym) → pattern_of y ≡ Some p → Taken side_print ss y rest → Taken printed.pattern ss p rest
pattern_taken (v_Side.Alone s v) p ss rest is t =
    let same : var_pattern s v ≡ p = cc in
    subst (λ (q : Pattern). Taken printed.pattern ss q rest) same (record {
      flat = t.flat ∙ ap (λ us. us ++ rest) (sym (var_pattern_flat s v));
      good = var_pattern_good s v ∙ t.good;
    })
pattern_taken (v_Side.Function f) p ss rest is t = absurd (cc)
pattern_taken (v_Side.Pattern q) p ss rest is t =
    let same : q ≡ p = cc in
    subst (λ (q : Pattern). Taken printed.pattern ss q rest) same (record { flat = t.flat; good = (both (printed.pattern q).good (not (printed.pattern q).is_var) t.good).0 })

lhs_taken : (y : Side) (f : FunLhs) (ss rest : List Sym) → function_of y ≡ Some f → Taken side_print ss y rest → Taken printed.fun_lhs ss f rest
lhs_taken (v_Side.Alone s v) f ss rest is t =
    let same : var_lhs s v ≡ f = cc in
    subst (λ (g : FunLhs). Taken printed.fun_lhs ss g rest) same (record { flat = t.flat; good = t.good })
lhs_taken (v_Side.Function g) f ss rest is t =
    let same : g ≡ f = cc in
    subst (λ (g : FunLhs). Taken printed.fun_lhs ss g rest) same (record { flat = t.flat; good = t.good })
lhs_taken (v_Side.Pattern p) f ss rest is t = absurd (cc)

-- ---- operands that are no variable

var_flat : (x : PatOperand) (v : Var) → x ≡ var_operand v → ((printed.pat_operand x).flat ≡ printed.var v) × ((printed.pat_operand x).good ≡ plain_var v)
var_flat x v e =
    let p = ap printed.pat_operand e ∙ var_operand_printed v in
    (ap (λ (q : Print). q.flat) p, ap (λ (q : Print). q.good) p)

-- a variable would have been seen
no_var_taken : (ss : List Sym) (x : PatOperand) (rest : List Sym) → Taken printed.pat_operand ss x rest → var_next ss ≡ false → (printed.pat_operand x).is_var ≡ false
no_var_taken ss x rest t none = elim (operand_shape x) [
  | inl h ↦ let e = var_flat x h.0 h.1 in
      never (sym (var_looks h.0 rest (sym e.1 ∙ t.good)) ∙ sym (ap (λ us. var_next (us ++ rest)) e.0) ∙ sym (ap var_next t.flat) ∙ none)
  | inr h ↦ h
]

con_taken : (ss : List Sym) (x : PatOperand) (rest : List Sym) → Taken printed.pat_operand ss x rest → gen_con_next ss ≡ true → (printed.pat_operand x).is_var ≡ false
con_taken ss x rest t is = elim (operand_shape x) [
  | inl h ↦ let e = var_flat x h.0 h.1 in
      never (sym is ∙ ap gen_con_next t.flat ∙ ap (λ us. gen_con_next (us ++ rest)) e.0 ∙ var_is_no_con h.0 rest)
  | inr h ↦ h
]

-- an operand at the front
front_taken : (ss : List Sym) (x : PatOperand) (mid : List Sym) (y : Front) (rest : List Sym) → taken (v_Front.Operand x) mid ≡ taken y rest → Taken printed.pat_operand ss x mid → (printed.pat_operand x).is_var ≡ false → Taken front_print ss y rest
front_taken ss x mid y rest e t lone = built front_print (no_variable (printed.pat_operand x)) ss mid (v_Front.Operand x) y rest refl e t.flat (and_is t.good (not_so _ lone))

arg_taken : (ss : List Sym) (x : ArgPattern) (rest : List Sym) → Taken printed.arg_pattern ss x rest → Taken printed.pat_operand ss (v_PatOperand.Arg x) rest
arg_taken ss x rest t =
    let e = printed_pat_operand_arg x in
    record { flat = t.flat ∙ sym (ap (λ (p : Print). p.flat ++ rest) e); good = ap (λ (p : Print). p.good) e ∙ t.good }

paren_front_sound : (a : Span) (us mid : List Sym) (y : Side) (b : Span) (ss : List Sym) (x : Front) (rest : List Sym) → var_next (at k.Open a ∷ us) ≡ false → Taken side_print us y mid → mid ≡ at k.Close b ∷ ss
    → paren_front (at k.Open a ∷ us) a b y ss ≡ taken x rest → Taken front_print (at k.Open a ∷ us) x rest
unfolding paren_front
paren_front_sound a us mid y b ss x rest none before last e =
    let start : List Sym = at k.Open a ∷ us in
    let h = given_some (pattern_of y) _ ss x rest e in
    let t = pattern_taken y h.x us mid h.is before in
    let within = (printed.pattern h.x).flat in
    let flat : start ≡ at k.Open a ∷ ((within ++ at k.Close b ∷ []) ++ ss) = ap (λ vs. at k.Open a ∷ vs) (between3 us mid within (at k.Close b ∷ []) ss t.flat last) in
    let p : ArgPattern = v_ArgPattern.Paren (covered start ss) a h.x b in
    let paren : Taken printed.arg_pattern start p ss = built printed.arg_pattern _ start ss p p ss (printed_arg_pattern_paren (covered start ss) a h.x b) refl flat (spanned_taken start ss _ _ flat t.good) in
    let o = arg_taken start p ss paren in
    front_taken start (v_PatOperand.Arg p) ss x rest h.then o (no_var_taken start (v_PatOperand.Arg p) ss o none)

patterned_sound : (start : List Sym) (x : PatOperand) (mid : List Sym) (xs : List NextPattern) (ss : List Sym) (y : Side) (rest : List Sym) → Taken printed.pat_operand start x mid → AllTaken printed.next_pattern mid xs ss
    → ((printed.pat_operand x).is_var && not (is_some (map printed.next_pattern xs))) ≡ false → patterned start x xs ss ≡ taken y rest → Taken side_print start y rest
unfolding patterned
patterned_sound start x mid xs ss y rest first others lone e =
    let flat = between3 start mid (printed.pat_operand x).flat (flat_all (map printed.next_pattern xs)) ss first.flat others.flat in
    let p : Pattern = roll-Pattern (record { span = covered start ss; first = x; others = xs }) in
    built side_print _ start ss (v_Side.Pattern p) y rest (ap no_variable (printed_pattern (covered start ss) x xs)) e flat
    (and_is (spanned_taken start ss _ _ flat (and_is first.good others.good)) (not_so _ lone))

alone_sound : (start : List Sym) (v : Var) (mid : List Sym) (xs : List NextPattern) (ss : List Sym) (y : Side) (rest : List Sym) → Taken var_print start v mid → Taken printed.pat_operand start (var_operand v) mid
    → AllTaken printed.next_pattern mid xs ss → alone start v xs ss ≡ taken y rest → Taken side_print start y rest
unfolding alone
alone_sound start v mid [] ss y rest one first others e =
    let flat : start ≡ (printed.var v ++ []) ++ ss = between3 start mid (printed.var v) [] ss one.flat others.flat in
    built side_print _ start ss (v_Side.Alone (covered start ss) v) y rest (var_lhs_print (covered start ss) v) e flat (spanned_taken start ss _ _ flat (and_is one.good refl))
alone_sound start v mid (x ∷ xs) ss y rest one first others e = patterned_sound start (var_operand v) mid (x ∷ xs) ss y rest first others (more_behind (printed.pat_operand (var_operand v)).is_var x xs) e

var_operand_taken : (ss : List Sym) (v : Var) (rest : List Sym) → Taken var_print ss v rest → Taken printed.pat_operand ss (var_operand v) rest
var_operand_taken ss v rest t =
    let e = var_operand_printed v in
    record { flat = t.flat ∙ sym (ap (λ (p : Print). p.flat ++ rest) e); good = ap (λ (p : Print). p.good) e ∙ t.good }

module _ (A : Read ArgPattern) (sound : SoundAt printed.arg_pattern A) where
  prefix_sound : (start : List Sym) (v : Var) (ss : List Sym) (x : Front) (rest : List Sym) → Taken var_print start v ss → prefix A start v ss ≡ taken x rest → Taken front_print start x rest
  unfolding prefix
  prefix_sound start v ss x rest before e =
      let h = bound (args A ss) _ x rest e in
      let others = args_sound A sound ss h.x h.mid h.first in
      let flat = between3 start ss (printed.var v) (flat_all (map printed.arg_pattern h.x)) h.mid before.flat others.flat in
      built front_print _ start h.mid _ x rest (printed_fun_lhs_prefix (covered start h.mid) v h.x) h.then flat (spanned_taken start h.mid _ _ flat (and_is before.good others.good))

  named_sound : (start : List Sym) (v : Var) (m : Span) (ss : List Sym) (x : Front) (rest : List Sym) → Taken var_print start v (at k.At m ∷ ss) → named A start v m ss ≡ taken x rest → Taken front_print start x rest
  unfolding named as_end
  named_sound start v m ss x rest before e =
      let h = bound (as_end A start v m ss) _ x rest e in
      let i = bound (A ss) _ h.x h.mid h.first in
      let one = sound ss i.x i.mid i.first in
      let p : ArgPattern = v_ArgPattern.As (covered start i.mid) v m i.x in
      let same = some_is p h.x i.mid h.mid i.then in
      let more : List Sym = at k.At m ∷ (printed.arg_pattern i.x).flat in
      let flat : start ≡ (printed.var v ++ more) ++ i.mid = between3 start (at k.At m ∷ ss) (printed.var v) more i.mid before.flat (ap (λ ts. at k.At m ∷ ts) one.flat) in
      let again : taken (v_Front.Operand (v_PatOperand.Arg p)) i.mid ≡ taken x rest = ap (λ (q : ArgPattern). taken (v_Front.Operand (v_PatOperand.Arg q)) i.mid) same.0 ∙ ap (λ us. taken (v_Front.Operand (v_PatOperand.Arg h.x)) us) same.1 ∙ h.then in
      built front_print _ start i.mid (v_Front.Operand (v_PatOperand.Arg p)) x rest
      (ap no_variable (printed_pat_operand_arg p ∙ printed_arg_pattern_as (covered start i.mid) v m i.x)) again flat
      (and_is (spanned_taken start i.mid _ _ flat (and_is before.good one.good)) refl)

  at_mark_by : (start : List Sym) (v : Var) (kind : Kind) (span : Span) (ss : List Sym) (x : Front) (rest : List Sym) → is_at (Some kind) ≡ true → Taken var_print start v (at kind span ∷ ss) → named A start v span ss ≡ taken x rest
      → Taken front_print start x rest
  at_mark_by start v k.At m ss x rest is before e = named_sound start v m ss x rest before e
  at_mark_by start v _ m ss x rest is before e = absurd (cc)

  at_mark : (start : List Sym) (v : Var) (ss : List Sym) (x : Front) (rest : List Sym) → at_next ss ≡ true → Taken var_print start v ss → (next >>= named A start v) ss ≡ taken x rest → Taken front_print start x rest
  at_mark start v [] x rest is before e = absurd (cc)
  at_mark start v (s ∷ ss) x rest is before e = at_mark_by start v s.kind s.span ss x rest is before e

  name_sound : (start : List Sym) (v : Var) (ss : List Sym) (x : Front) (rest : List Sym) → Taken var_print start v ss → behind_name A start v ss ≡ taken x rest → Taken front_print start x rest
  name_sound start v ss x rest before e =
      which front_print start x rest (at_next ss) ((next >>= named A start v) ss) (unnamed A start v ss) (λ is e. at_mark start v ss x rest is before e)
      (λ lone e. either_way front_print start x rest (begins_arg ss) (prefix A start v ss) (taken (v_Front.Alone v) ss)
      (prefix_sound start v ss x rest before) (λ e. built front_print (var_print v) start ss (v_Front.Alone v) x rest refl e before.flat before.good) e) e

  var_front_sound : (ss : List Sym) (x : Front) (rest : List Sym) → var_front A ss ss ≡ taken x rest → Taken front_print ss x rest
  unfolding var_front
  var_front_sound ss x rest e =
      let h = bound (var ss) _ x rest e in
      name_sound ss h.x h.mid x rest (var_sound ss h.x h.mid h.first) h.then

  operand_front_sound : (ss : List Sym) (x : Front) (rest : List Sym) → ((y : PatOperand) (mid : List Sym) → Taken printed.pat_operand ss y mid → (printed.pat_operand y).is_var ≡ false) → operand_front A ss ≡ taken x rest → Taken front_print ss x rest
  unfolding operand_front
  operand_front_sound ss x rest lone e =
      let h = bound (operand A ss) _ x rest e in
      let t = operand_sound A sound ss h.x h.mid h.first in
      front_taken ss h.x h.mid x rest h.then t (lone h.x h.mid t)

  tuple_front_sound : (a : Span) (us ss : List Sym) (y : Side) (x : Front) (rest : List Sym) → var_next (at k.Open a ∷ us) ≡ false → Taken side_print us y ss → tuple_front A (at k.Open a ∷ us) a y ss ≡ taken x rest
      → Taken front_print (at k.Open a ∷ us) x rest
  unfolding tuple_front
  tuple_front_sound a us ss y x rest none before e =
      let start : List Sym = at k.Open a ∷ us in
      let h = given_some (pattern_of y) _ ss x rest e in
      let i = bound (enclosed A start a h.x ss) _ x rest h.then in
      let t = arg_taken start i.x i.mid (enclosed_sound A sound a us ss h.x i.x i.mid (pattern_taken y h.x us ss h.is before) i.first) in
      front_taken start (v_PatOperand.Arg i.x) i.mid x rest i.then t (no_var_taken start (v_PatOperand.Arg i.x) i.mid t none)

  nested_sound : (a : Span) (us mid : List Sym) (y : Side) (b : Span) (ss : List Sym) (x : Front) (rest : List Sym) → Taken side_print us y mid → mid ≡ at k.Close b ∷ ss
      → nested A (at k.Open a ∷ us) a b y ss ≡ taken x rest → Taken front_print (at k.Open a ∷ us) x rest
  unfolding nested
  nested_sound a us mid y b ss x rest before last e =
      let start : List Sym = at k.Open a ∷ us in
      let g = given_some (function_of y) _ ss x rest e in
      let h = bound (A ss) _ x rest g.then in
      let i = bound (args A h.mid) _ x rest h.then in
      let t = lhs_taken y g.x us mid g.is before in
      let first = sound ss h.x h.mid h.first in
      let others = args_sound A sound h.mid i.x i.mid i.first in
      let within = (printed.fun_lhs g.x).flat in
      let one = (printed.arg_pattern h.x).flat in
      let more = flat_all (map printed.arg_pattern i.x) in
      let tail : mid ≡ (at k.Close b ∷ (one ++ more)) ++ i.mid = last ∙ ap (λ vs. at k.Close b ∷ vs) (between3 ss h.mid one more i.mid first.flat others.flat) in
      let flat : start ≡ at k.Open a ∷ ((within ++ (at k.Close b ∷ (one ++ more))) ++ i.mid) = ap (λ vs. at k.Open a ∷ vs) (between3 us mid within (at k.Close b ∷ (one ++ more)) i.mid t.flat tail) in
      built front_print _ start i.mid _ x rest (printed_fun_lhs_nested (covered start i.mid) a g.x b h.x i.x) i.then flat
      (spanned_taken start i.mid _ _ flat (and_is t.good (and_is first.good others.good)))

  closed_sound : (a : Span) (us ss : List Sym) (y : Side) (x : Front) (rest : List Sym) → var_next (at k.Open a ∷ us) ≡ false → Taken side_print us y ss → closed A (at k.Open a ∷ us) a y ss ≡ taken x rest
      → Taken front_print (at k.Open a ∷ us) x rest
  unfolding closed
  closed_sound a us ss y x rest none before e =
      let start : List Sym = at k.Open a ∷ us in
      let h = bound (expect is_close ss) _ x rest e in
      let last = close_sound ss h.x h.mid h.first in
      either_way front_print start x rest (begins_arg h.mid) (nested A start a h.x y h.mid) (paren_front start a h.x y h.mid)
      (nested_sound a us ss y h.x h.mid x rest before last) (paren_front_sound a us ss y h.x h.mid x rest none before last) h.then

  inside_sound : (a : Span) (us ss : List Sym) (y : Side) (x : Front) (rest : List Sym) → var_next (at k.Open a ∷ us) ≡ false → Taken side_print us y ss → behind_inside A (at k.Open a ∷ us) a y ss ≡ taken x rest
      → Taken front_print (at k.Open a ∷ us) x rest
  unfolding behind_inside
  inside_sound a us ss y x rest none before e =
      let start : List Sym = at k.Open a ∷ us in
      either_way front_print start x rest (comma_next ss) (tuple_front A start a y ss) (closed A start a y ss) (tuple_front_sound a us ss y x rest none before) (closed_sound a us ss y x rest none before) e

  -- behind the operands before the operator
  infixed_sound : (start : List Sym) (x : PatOperand) (mid : List Sym) (xs : List NextPattern) (ss : List Sym) (z : Side) (rest : List Sym) → Taken printed.pat_operand start x mid → AllTaken printed.next_pattern mid xs ss
      → infixed A start x xs ss ≡ taken z rest → Taken side_print start z rest
  unfolding infixed
  infixed_sound start x mid xs ss z rest first others e =
      let g = bound (var_op ss) _ z rest e in
      let h = bound (operand A g.mid) _ z rest g.then in
      let i = bound (next_patterns A h.mid) _ z rest h.then in
      let j = only_if (plain_nexts xs && plain_nexts i.x) (v_Side.Function (v_FunLhs.Infix (covered start i.mid) x xs g.x h.x i.x), i.mid) (z, rest) i.then in
      let op = var_op_sound ss g.x g.mid g.first in
      let right = operand_sound A sound g.mid h.x h.mid h.first in
      let more = nexts_sound A sound h.mid i.x i.mid i.first in
      let fy = (printed.pat_operand h.x).flat in
      let fys = flat_all (map printed.next_pattern i.x) in
      let flat4 = between3 g.mid h.mid fy fys i.mid right.flat more.flat in
      let flat3 = between3 ss g.mid (printed.var_op g.x) (fy ++ fys) i.mid op.flat flat4 in
      let flat2 = between3 mid ss (flat_all (map printed.next_pattern xs)) (printed.var_op g.x ++ (fy ++ fys)) i.mid others.flat flat3 in
      let flat = between3 start mid (printed.pat_operand x).flat (flat_all (map printed.next_pattern xs) ++ (printed.var_op g.x ++ (fy ++ fys))) i.mid first.flat flat2 in
      built side_print _ start i.mid (v_Side.Function (v_FunLhs.Infix (covered start i.mid) x xs g.x h.x i.x)) z rest (printed_fun_lhs_infix (covered start i.mid) x xs g.x h.x i.x) j.1 flat
      (spanned_taken start i.mid _ _ flat (and_is first.good (and_is others.good (and_is op.good (and_is right.good (and_is more.good j.0))))))

  go_sound : (start : List Sym) (x : Front) (mid : List Sym) (y : Side) (rest : List Sym) → Taken front_print start x mid → go A start x mid ≡ taken y rest → Taken side_print start y rest
  unfolding go
  go_sound start (v_Front.Ended f) mid y rest before e = built side_print (printed.fun_lhs f) start mid (v_Side.Function f) y rest refl e before.flat before.good
  go_sound start (v_Front.Alone v) mid y rest before e =
      let h = bound (next_patterns A mid) _ y rest e in
      let others = nexts_sound A sound mid h.x h.mid h.first in
      let one : Taken var_print start v mid = record { flat = before.flat; good = before.good } in
      let first = var_operand_taken start v mid one in
      either_way side_print start y rest (var_op_next h.mid) (infixed A start (var_operand v) h.x h.mid) (alone start v h.x h.mid)
      (infixed_sound start (var_operand v) mid h.x h.mid y rest first others) (alone_sound start v mid h.x h.mid y rest one first others) h.then
  go_sound start (v_Front.Operand x) mid y rest before e =
      let h = bound (next_patterns A mid) _ y rest e in
      let others = nexts_sound A sound mid h.x h.mid h.first in
      let g = both (printed.pat_operand x).good (not (printed.pat_operand x).is_var) before.good in
      let first : Taken printed.pat_operand start x mid = record { flat = before.flat; good = g.0 } in
      let lone : ((printed.pat_operand x).is_var && not (is_some (map printed.next_pattern h.x))) ≡ false = ap (λ b. b && not (is_some (map printed.next_pattern h.x))) (not_is _ g.1) in
      either_way side_print start y rest (var_op_next h.mid) (infixed A start x h.x h.mid) (patterned start x h.x h.mid)
      (infixed_sound start x mid h.x h.mid y rest first others) (patterned_sound start x mid h.x h.mid y rest first others lone) h.then

  module _ (S : Read Side) (inside : SoundAt side_print S) where
    opened_sound : (a : Span) (ss : List Sym) (x : Front) (rest : List Sym) → var_next (at k.Open a ∷ ss) ≡ false → opened A S (at k.Open a ∷ ss) (at k.Open a ∷ ss) ≡ taken x rest → Taken front_print (at k.Open a ∷ ss) x rest
    unfolding opened
    opened_sound a ss x rest none e =
        let h = bound (S ss) _ x rest e in
        inside_sound a ss h.mid h.x x rest none (inside ss h.x h.mid h.first) h.then

    no_var_by_sound : (kind : Kind) (span : Span) (ss : List Sym) (x : Front) (rest : List Sym) → var_next (at kind span ∷ ss) ≡ false → is_open (Some kind) ≡ true → opened A S (at kind span ∷ ss) (at kind span ∷ ss) ≡ taken x rest
        → Taken front_print (at kind span ∷ ss) x rest
    no_var_by_sound k.Open a ss x rest none is e = opened_sound a ss x rest none e
    no_var_by_sound _ a ss x rest none is e = absurd (cc)

    at_open : (ss : List Sym) (x : Front) (rest : List Sym) → var_next ss ≡ false → is_open (kind ss) ≡ true → opened A S ss ss ≡ taken x rest → Taken front_print ss x rest
    at_open [] x rest none is e = absurd (cc)
    at_open (s ∷ ss) x rest none is e = no_var_by_sound s.kind s.span ss x rest none is e

    front_sound : (ss : List Sym) (x : Front) (rest : List Sym) → front A S ss ss ≡ taken x rest → Taken front_print ss x rest
    unfolding front
    front_sound ss x rest e =
        which front_print ss x rest (gen_con_next ss) (operand_front A ss) (no_con A S ss ss)
        (λ is e. operand_front_sound ss x rest (λ y mid t. con_taken ss y mid t is) e)
        (λ no_con_is e. which front_print ss x rest (var_next ss) (var_front A ss ss) (no_var A S ss ss) (λ is e. var_front_sound ss x rest e)
        (λ none e. which front_print ss x rest (is_open (kind ss)) (opened A S ss ss) (operand_front A ss) (λ is e. at_open ss x rest none is e)
        (λ other e. operand_front_sound ss x rest (λ y mid t. no_var_taken ss y mid t none) e) e) e) e

    whole_sound : SoundAt side_print (whole A S)
    unfolding whole
    whole_sound ss x rest e =
        let h = bound (front A S ss ss) _ x rest e in
        go_sound ss h.x h.mid x rest (front_sound ss h.x h.mid h.first) h.then

pub side_sound : (n : ℕ) → SoundAt side_print (side n)
unfolding side
side_sound zero ss x rest e = absurd (cc)
side_sound (suc n) ss x rest e = whole_sound (arg (suc n)) (arg_sound (suc n)) (side n) (side_sound n) ss x rest e

-- what is read as a left side is the print of a well-formed one
pub left_sound : (n : ℕ) → SoundAt left_print (left n)
unfolding left
left_sound n ss x rest e =
    let h = bound (side n ss) _ x rest e in
    let t = side_sound n ss h.x h.mid h.first in
    built left_print (side_print h.x) ss h.mid (left_of h.x) x rest refl h.then t.flat t.good
