-- What is read as a pattern is the print of a well-formed pattern.
use Rattle.std.proofs.Common.{◌≡◌, ℕ, zero, suc, Bool, true, false, ◌==◌, cond, List, [], ◌∷◌, ◌++◌, length, map, Option, Some, None, refl, sym, ap, ◌∙◌, arith, subst}
use Rattle.std.proofs.lemmas.Bool.Decides.{nat_tests}
use Rattle.gh_base.specs.declared.fixed.TheConstants.{MINUS}
use Rattle.gh_base.specs.declared.names.NameId.{NameId}
use Rattle.gh_base.specs.declared.place.Span.{Span}
use Rattle.gh_tree.specs.declared.symbol.Kind.{Kind}
use Rattle.gh_tree.specs.declared.symbol.Kind.TheVariants as k
use Rattle.gh_tree.specs.declared.symbol.Sym.{Sym}
use Rattle.gh_tree.specs.declared.names.Var.{Var}
use Rattle.gh_tree.specs.declared.names.GenCon.{GenCon}
use Rattle.gh_tree.specs.declared.patterns.ArgPattern.{ArgPattern}
use Rattle.gh_tree.specs.declared.patterns.ArgPattern.TheVariants as v_ArgPattern
use Rattle.gh_tree.specs.declared.patterns.PatOperand.{PatOperand}
use Rattle.gh_tree.specs.declared.patterns.PatOperand.TheVariants as v_PatOperand
use Rattle.gh_tree.specs.declared.patterns.NextPattern.{NextPattern}
use Rattle.gh_tree.specs.declared.patterns.PatPart.{PatPart}
use Rattle.gh_tree.specs.declared.patterns.Pattern.{Pattern}
use Rattle.gh_tree.specs.Syms.{at}
use Rattle.gh_tree.specs.Print.{Print, print, spanned, flat_all, good_all, is_tuple, plain_var}
use Rattle.gh_tree.specs.Print as printed
use Rattle.gh_tree.specs.Read.{Read, and_then, taken, kind, expect, covered, is_close, is_close_list, comma_next}
use Rattle.gh_tree.specs.ReadNames.{gen_con_next, gen_con, var_next, var, con_op_next, con_op}
use Rattle.gh_tree.specs.ReadPatterns.{begins_arg, paren, negative, negative_by, signed, args, applied_con, con_operand, other_operand_by, other_operand, operand, next_pattern, next_patterns, pattern, pat_part, pat_parts, enclosed, behind_by, behind, opened, listed, as_end, after_var_by, after_var, other_arg_by, other_arg, var_arg, whole_arg, arg}
use Rattle.gh_tree.proofs.Steps.{bound, and_is, spanned_taken}
use Rattle.gh_tree.proofs.Many.{Taken, AllTaken, many_sound}
use Rattle.gh_tree.proofs.Printed.{printed_arg_pattern_var, printed_arg_pattern_as, printed_arg_pattern_wild, printed_arg_pattern_con, printed_arg_pattern_int, printed_arg_pattern_char, printed_arg_pattern_str, printed_arg_pattern_paren, printed_arg_pattern_tuple, printed_arg_pattern_list, printed_pat_operand_negative, printed_pat_operand_arg, printed_pat_operand_con, printed_next_pattern, printed_pat_part, printed_pattern}
use Rattle.gh_reader.proofs.Sound.{SoundAt, built, only_if, close_sound, close_list_sound, comma_first, between, between3, tuple_parts}
use Rattle.gh_reader.proofs.NamesSound.{var_print, var_sound, gen_con_sound, con_op_sound}

-- one of two ways
pub either_way : {A : Type 0} (print : A → Print) (ss : List Sym) (x : A) (rest : List Sym) (b : Bool) (p q : Option (A × List Sym)) → (p ≡ taken x rest → Taken print ss x rest) → (q ≡ taken x rest → Taken print ss x rest)
    → cond b p q ≡ taken x rest → Taken print ss x rest
either_way print ss x rest true p q f g e = f e
either_way print ss x rest false p q f g e = g e

pub is_minus : (n : NameId) → (n.0 == MINUS.0) ≡ true → n ≡ MINUS
is_minus n e = let same : n.0 ≡ MINUS.0 = grind (arith, nat_tests) in λ i. record { 0 = same i }

paren_sound : (a : Span) (us ss : List Sym) (first : Pattern) (x : ArgPattern) (rest : List Sym) → Taken printed.pattern us first ss → paren (at k.Open a ∷ us) a first ss ≡ taken x rest
    → Taken printed.arg_pattern (at k.Open a ∷ us) x rest
unfolding paren
paren_sound a us ss first x rest before e =
    let start : List Sym = at k.Open a ∷ us in
    let h = bound (expect is_close ss) _ x rest e in
    let last = close_sound ss h.x h.mid h.first in
    let inside = (printed.pattern first).flat in
    let flat : start ≡ at k.Open a ∷ ((inside ++ at k.Close h.x ∷ []) ++ h.mid) = ap (λ vs. at k.Open a ∷ vs) (between us ss inside k.Close h.x h.mid before.flat last) in
    built printed.arg_pattern _ start h.mid _ x rest (printed_arg_pattern_paren (covered start h.mid) a first h.x) h.then flat (spanned_taken start h.mid _ _ flat before.good)

negative_by_sound : (kind : Kind) (a b : Span) (ss : List Sym) (x : PatOperand) (rest : List Sym) → negative_by (Some kind) (at (k.VarSym None MINUS) a ∷ at kind b ∷ ss) a (at kind b ∷ ss) ≡ taken x rest
    → Taken printed.pat_operand (at (k.VarSym None MINUS) a ∷ at kind b ∷ ss) x rest
negative_by_sound (k.Int n) a b ss x rest e =
    let flat : List Sym = at (k.VarSym None MINUS) a ∷ at (k.Int n) b ∷ [] in
    let start : List Sym = flat ++ ss in
    built printed.pat_operand _ start ss _ x rest (printed_pat_operand_negative (covered start ss) a b n) e refl (spanned_taken start ss flat true refl refl)
negative_by_sound _ a b ss x rest e = absurd (cc)

negative_sound : (a : Span) (ss : List Sym) (x : PatOperand) (rest : List Sym) → negative (at (k.VarSym None MINUS) a ∷ ss) a ss ≡ taken x rest
    → Taken printed.pat_operand (at (k.VarSym None MINUS) a ∷ ss) x rest
unfolding negative
negative_sound a [] x rest e = absurd (cc)
negative_sound a (s ∷ ss) x rest e = negative_by_sound s.kind a s.span ss x rest e

signed_sound : (n : NameId) (a : Span) (ss : List Sym) (x : PatOperand) (rest : List Sym) → signed n (at (k.VarSym None n) a ∷ ss) ≡ taken x rest → Taken printed.pat_operand (at (k.VarSym None n) a ∷ ss) x rest
unfolding signed
signed_sound n a ss x rest e = if_minus (n.0 == MINUS.0) refl e
  where
    if_minus : (b : Bool) → (n.0 == MINUS.0) ≡ b → cond b (negative (at (k.VarSym None n) a ∷ ss) a ss) None ≡ taken x rest → Taken printed.pat_operand (at (k.VarSym None n) a ∷ ss) x rest
    if_minus true is e =
        let same = is_minus n is in
        subst (λ m. Taken printed.pat_operand (at (k.VarSym None m) a ∷ ss) x rest) (sym same)
        (negative_sound a ss x rest (ap (λ m. negative (at (k.VarSym None m) a ∷ ss) a ss) (sym same) ∙ e))
    if_minus false is e = absurd (cc)

module _ (A : Read ArgPattern) (sound : SoundAt printed.arg_pattern A) where
  pub args_sound : (ss : List Sym) (xs : List ArgPattern) (rest : List Sym) → args A ss ≡ taken xs rest → AllTaken printed.arg_pattern ss xs rest
  unfolding args
  args_sound ss xs rest e = many_sound printed.arg_pattern begins_arg A (λ ss x rest b e. sound ss x rest e) (length ss) ss xs rest e

  applied_sound : (us ss : List Sym) (c : GenCon) (x : PatOperand) (rest : List Sym) → Taken printed.gen_con us c ss → applied_con A us c ss ≡ taken x rest → Taken printed.pat_operand us x rest
  unfolding applied_con
  applied_sound us ss c x rest before e =
      let h = bound (A ss) _ x rest e in
      let i = bound (args A h.mid) _ x rest h.then in
      let first = sound ss h.x h.mid h.first in
      let others = args_sound h.mid i.x i.mid i.first in
      let one = (printed.arg_pattern h.x).flat in
      let more = flat_all (map printed.arg_pattern i.x) in
      let flat : us ≡ ((printed.gen_con c).flat ++ (one ++ more)) ++ i.mid = between3 us ss (printed.gen_con c).flat (one ++ more) i.mid before.flat (between3 ss h.mid one more i.mid first.flat others.flat) in
      built printed.pat_operand _ us i.mid _ x rest (printed_pat_operand_con (covered us i.mid) c h.x i.x) i.then flat (spanned_taken us i.mid _ _ flat (and_is before.good (and_is first.good others.good)))

  alone_sound : (us ss : List Sym) (c : GenCon) (x : PatOperand) (rest : List Sym) → Taken printed.gen_con us c ss → taken (v_PatOperand.Arg (v_ArgPattern.Con c)) ss ≡ taken x rest → Taken printed.pat_operand us x rest
  alone_sound us ss c x rest before e =
      built printed.pat_operand (printed.gen_con c) us ss _ x rest (printed_pat_operand_arg (v_ArgPattern.Con c) ∙ printed_arg_pattern_con c) e before.flat before.good

  con_operand_sound : (ss : List Sym) (x : PatOperand) (rest : List Sym) → con_operand A ss ss ≡ taken x rest → Taken printed.pat_operand ss x rest
  unfolding con_operand
  con_operand_sound ss x rest e =
      let h = bound (gen_con ss) _ x rest e in
      let c = gen_con_sound ss h.x h.mid h.first in
      either_way printed.pat_operand ss x rest (begins_arg h.mid) (applied_con A ss h.x h.mid) (taken (v_PatOperand.Arg (v_ArgPattern.Con h.x)) h.mid)
      (applied_sound ss h.mid h.x x rest c) (alone_sound ss h.mid h.x x rest c) h.then

  arg_operand_sound : (ss : List Sym) (x : PatOperand) (rest : List Sym) → and_then (A ss) (λ y rest. taken (v_PatOperand.Arg y) rest) ≡ taken x rest → Taken printed.pat_operand ss x rest
  arg_operand_sound ss x rest e =
      let h = bound (A ss) _ x rest e in
      let y = sound ss h.x h.mid h.first in
      built printed.pat_operand _ ss h.mid _ x rest (printed_pat_operand_arg h.x) h.then y.flat y.good

  other_by_sound : (kind : Kind) (span : Span) (ss : List Sym) (x : PatOperand) (rest : List Sym) → other_operand_by A (Some kind) (at kind span ∷ ss) ≡ taken x rest → Taken printed.pat_operand (at kind span ∷ ss) x rest
  other_by_sound (k.VarSym None n) a ss x rest e = signed_sound n a ss x rest e
  other_by_sound kind a ss x rest e = arg_operand_sound (at kind a ∷ ss) x rest e

  other_operand_sound : (ss : List Sym) (x : PatOperand) (rest : List Sym) → other_operand A ss ≡ taken x rest → Taken printed.pat_operand ss x rest
  unfolding other_operand
  other_operand_sound [] x rest e = arg_operand_sound [] x rest e
  other_operand_sound (s ∷ ss) x rest e = other_by_sound s.kind s.span ss x rest e

  pub operand_sound : SoundAt printed.pat_operand (operand A)
  unfolding operand
  operand_sound ss x rest e = either_way printed.pat_operand ss x rest (gen_con_next ss) (con_operand A ss ss) (other_operand A ss) (con_operand_sound ss x rest) (other_operand_sound ss x rest) e

  next_sound : (ss : List Sym) (x : NextPattern) (rest : List Sym) → con_op_next ss ≡ true → next_pattern A ss ≡ taken x rest → Taken printed.next_pattern ss x rest
  unfolding next_pattern
  next_sound ss x rest b e =
      let h = bound (con_op ss) _ x rest e in
      let i = bound (operand A h.mid) _ x rest h.then in
      let op = con_op_sound ss h.x h.mid h.first in
      let one = operand_sound h.mid i.x i.mid i.first in
      built printed.next_pattern _ ss i.mid _ x rest (printed_next_pattern h.x i.x) i.then (between3 ss h.mid (printed.con_op h.x) (printed.pat_operand i.x).flat i.mid op.flat one.flat) one.good

  pub nexts_sound : (ss : List Sym) (xs : List NextPattern) (rest : List Sym) → next_patterns A ss ≡ taken xs rest → AllTaken printed.next_pattern ss xs rest
  unfolding next_patterns
  nexts_sound ss xs rest e = many_sound printed.next_pattern con_op_next (next_pattern A) next_sound (length ss) ss xs rest e

  pub pattern_sound : SoundAt printed.pattern (pattern A)
  unfolding pattern
  pattern_sound ss x rest e =
      let h = bound (operand A ss) _ x rest e in
      let i = bound (next_patterns A h.mid) _ x rest h.then in
      let first = operand_sound ss h.x h.mid h.first in
      let others = nexts_sound h.mid i.x i.mid i.first in
      let flat = between3 ss h.mid (printed.pat_operand h.x).flat (flat_all (map printed.next_pattern i.x)) i.mid first.flat others.flat in
      built printed.pattern _ ss i.mid _ x rest (printed_pattern (covered ss i.mid) h.x i.x) i.then flat (spanned_taken ss i.mid _ _ flat (and_is first.good others.good))

  part_sound : (ss : List Sym) (x : PatPart) (rest : List Sym) → comma_next ss ≡ true → pat_part A ss ≡ taken x rest → Taken printed.pat_part ss x rest
  unfolding pat_part
  part_sound [] x rest b e = absurd (cc)
  part_sound (s ∷ ss) x rest b e =
      let h = bound (pattern A ss) _ x rest e in
      let part = pattern_sound ss h.x h.mid h.first in
      built printed.pat_part _ (s ∷ ss) h.mid _ x rest (printed_pat_part s.span h.x) h.then (comma_first s ss b ∙ ap (λ m. at k.Comma s.span ∷ m) part.flat) part.good

  parts_sound : (ss : List Sym) (xs : List PatPart) (rest : List Sym) → pat_parts A ss ≡ taken xs rest → AllTaken printed.pat_part ss xs rest
  unfolding pat_parts
  parts_sound ss xs rest e = many_sound printed.pat_part comma_next (pat_part A) part_sound (length ss) ss xs rest e

  pub enclosed_sound : (a : Span) (us ss : List Sym) (first : Pattern) (x : ArgPattern) (rest : List Sym) → Taken printed.pattern us first ss → enclosed A (at k.Open a ∷ us) a first ss ≡ taken x rest
      → Taken printed.arg_pattern (at k.Open a ∷ us) x rest
  unfolding enclosed
  enclosed_sound a us ss first x rest before e =
      let start : List Sym = at k.Open a ∷ us in
      let h = bound (pat_parts A ss) _ x rest e in
      let i = bound (expect is_close h.mid) _ x rest h.then in
      let others = parts_sound ss h.x h.mid h.first in
      let last = close_sound h.mid i.x i.mid i.first in
      let j = only_if (is_tuple h.x) (v_ArgPattern.Tuple (covered start i.mid) a first h.x i.x, i.mid) (x, rest) i.then in
      let inside = (printed.pattern first).flat in
      let more : List Sym = flat_all (map printed.pat_part h.x) ++ at k.Close i.x ∷ [] in
      let flat : start ≡ at k.Open a ∷ ((inside ++ more) ++ i.mid) =
      ap (λ m. at k.Open a ∷ m) (between3 us ss inside more i.mid before.flat (between ss h.mid (flat_all (map printed.pat_part h.x)) k.Close i.x i.mid others.flat last)) in
      built printed.arg_pattern _ start i.mid _ x rest (printed_arg_pattern_tuple (covered start i.mid) a first h.x i.x) j.1 flat
      (spanned_taken start i.mid _ _ flat (and_is before.good (and_is others.good (tuple_parts printed.pat_part h.x j.0))))

  behind_by_sound : (kind : Option Kind) (a : Span) (us ss : List Sym) (first : Pattern) (x : ArgPattern) (rest : List Sym) → Taken printed.pattern us first ss → behind_by A kind (at k.Open a ∷ us) a first ss ≡ taken x rest
      → Taken printed.arg_pattern (at k.Open a ∷ us) x rest
  behind_by_sound (Some k.Comma) a us ss first x rest before e = enclosed_sound a us ss first x rest before e
  behind_by_sound _ a us ss first x rest before e = paren_sound a us ss first x rest before e

  opened_sound : (a : Span) (ss : List Sym) (x : ArgPattern) (rest : List Sym) → opened A (at k.Open a ∷ ss) a ss ≡ taken x rest → Taken printed.arg_pattern (at k.Open a ∷ ss) x rest
  unfolding opened behind
  opened_sound a ss x rest e =
      let h = bound (pattern A ss) _ x rest e in
      behind_by_sound (kind h.mid) a ss h.mid h.x x rest (pattern_sound ss h.x h.mid h.first) h.then

  listed_sound : (a : Span) (ss : List Sym) (x : ArgPattern) (rest : List Sym) → listed A (at k.OpenList a ∷ ss) a ss ≡ taken x rest → Taken printed.arg_pattern (at k.OpenList a ∷ ss) x rest
  unfolding listed
  listed_sound a ss x rest e =
      let start : List Sym = at k.OpenList a ∷ ss in
      let g = bound (pattern A ss) _ x rest e in
      let h = bound (pat_parts A g.mid) _ x rest g.then in
      let i = bound (expect is_close_list h.mid) _ x rest h.then in
      let first = pattern_sound ss g.x g.mid g.first in
      let others = parts_sound g.mid h.x h.mid h.first in
      let last = close_list_sound h.mid i.x i.mid i.first in
      let inside = (printed.pattern g.x).flat in
      let more : List Sym = flat_all (map printed.pat_part h.x) ++ at k.CloseList i.x ∷ [] in
      let flat : start ≡ at k.OpenList a ∷ ((inside ++ more) ++ i.mid) =
      ap (λ m. at k.OpenList a ∷ m) (between3 ss g.mid inside more i.mid first.flat (between g.mid h.mid (flat_all (map printed.pat_part h.x)) k.CloseList i.x i.mid others.flat last)) in
      built printed.arg_pattern _ start i.mid _ x rest (printed_arg_pattern_list (covered start i.mid) a g.x h.x i.x) i.then flat (spanned_taken start i.mid _ _ flat (and_is first.good others.good))

  pub as_sound : (us : List Sym) (v : Var) (m : Span) (ss : List Sym) (x : ArgPattern) (rest : List Sym) → Taken var_print us v (at k.At m ∷ ss) → as_end A us v m ss ≡ taken x rest → Taken printed.arg_pattern us x rest
  unfolding as_end
  as_sound us v m ss x rest before e =
      let h = bound (A ss) _ x rest e in
      let one = sound ss h.x h.mid h.first in
      let inside : List Sym = at k.At m ∷ (printed.arg_pattern h.x).flat in
      let flat : us ≡ (printed.var v ++ inside) ++ h.mid = between3 us (at k.At m ∷ ss) (printed.var v) inside h.mid before.flat (ap (λ ts. at k.At m ∷ ts) one.flat) in
      built printed.arg_pattern _ us h.mid _ x rest (printed_arg_pattern_as (covered us h.mid) v m h.x) h.then flat (spanned_taken us h.mid _ _ flat (and_is before.good one.good))

  var_alone_sound : (us : List Sym) (v : Var) (ss : List Sym) (x : ArgPattern) (rest : List Sym) → Taken var_print us v ss → taken (v_ArgPattern.Var v) ss ≡ taken x rest → Taken printed.arg_pattern us x rest
  var_alone_sound us v ss x rest before e = built printed.arg_pattern _ us ss _ x rest (printed_arg_pattern_var v) e before.flat before.good

  after_by_sound : (us : List Sym) (v : Var) (kind : Kind) (span : Span) (ss : List Sym) (x : ArgPattern) (rest : List Sym) → Taken var_print us v (at kind span ∷ ss) → after_var_by A (Some kind) us v (at kind span ∷ ss) ≡ taken x rest
      → Taken printed.arg_pattern us x rest
  after_by_sound us v k.At m ss x rest before e = as_sound us v m ss x rest before e
  after_by_sound us v kind m ss x rest before e = var_alone_sound us v (at kind m ∷ ss) x rest before e

  after_sound : (us : List Sym) (v : Var) (ss : List Sym) (x : ArgPattern) (rest : List Sym) → Taken var_print us v ss → after_var A us v ss ≡ taken x rest → Taken printed.arg_pattern us x rest
  unfolding after_var
  after_sound us v [] x rest before e = var_alone_sound us v [] x rest before e
  after_sound us v (s ∷ ss) x rest before e = after_by_sound us v s.kind s.span ss x rest before e

  var_arg_sound : (ss : List Sym) (x : ArgPattern) (rest : List Sym) → var_arg A ss ss ≡ taken x rest → Taken printed.arg_pattern ss x rest
  unfolding var_arg
  var_arg_sound ss x rest e =
      let h = bound (var ss) _ x rest e in
      after_sound ss h.x h.mid x rest (var_sound ss h.x h.mid h.first) h.then

  other_arg_by_sound : (kind : Kind) (span : Span) (ss : List Sym) (x : ArgPattern) (rest : List Sym) → other_arg_by A (Some kind) (at kind span ∷ ss) (at kind span ∷ ss) ≡ taken x rest → Taken printed.arg_pattern (at kind span ∷ ss) x rest
  other_arg_by_sound (k.Int n) a ss x rest e = built printed.arg_pattern _ _ ss _ x rest (printed_arg_pattern_int a n) e refl refl
  other_arg_by_sound (k.Char n) a ss x rest e = built printed.arg_pattern _ _ ss _ x rest (printed_arg_pattern_char a n) e refl refl
  other_arg_by_sound (k.Str cs) a ss x rest e = built printed.arg_pattern _ _ ss _ x rest (printed_arg_pattern_str a cs) e refl refl
  other_arg_by_sound k.Underscore a ss x rest e = built printed.arg_pattern _ _ ss _ x rest (printed_arg_pattern_wild a) e refl refl
  other_arg_by_sound k.Open a ss x rest e = opened_sound a ss x rest e
  other_arg_by_sound k.OpenList a ss x rest e = listed_sound a ss x rest e
  other_arg_by_sound _ a ss x rest e = absurd (cc)

  other_arg_sound : (ss : List Sym) (x : ArgPattern) (rest : List Sym) → other_arg A ss ss ≡ taken x rest → Taken printed.arg_pattern ss x rest
  unfolding other_arg
  other_arg_sound [] x rest e = absurd (cc)
  other_arg_sound (s ∷ ss) x rest e = other_arg_by_sound s.kind s.span ss x rest e

  con_arg_sound : (ss : List Sym) (x : ArgPattern) (rest : List Sym) → and_then (gen_con ss) (λ c rest. taken (v_ArgPattern.Con c) rest) ≡ taken x rest → Taken printed.arg_pattern ss x rest
  con_arg_sound ss x rest e =
      let h = bound (gen_con ss) _ x rest e in
      let c = gen_con_sound ss h.x h.mid h.first in
      built printed.arg_pattern (printed.gen_con h.x) ss h.mid _ x rest (printed_arg_pattern_con h.x) h.then c.flat c.good

  pub whole_sound : SoundAt printed.arg_pattern (whole_arg A)
  unfolding whole_arg
  whole_sound ss x rest e =
      either_way printed.arg_pattern ss x rest (gen_con_next ss) (and_then (gen_con ss) (λ c rest. taken (v_ArgPattern.Con c) rest)) (cond (var_next ss) (var_arg A ss ss) (other_arg A ss ss))
      (con_arg_sound ss x rest) (either_way printed.arg_pattern ss x rest (var_next ss) (var_arg A ss ss) (other_arg A ss ss) (var_arg_sound ss x rest) (other_arg_sound ss x rest)) e

pub arg_sound : (n : ℕ) → SoundAt printed.arg_pattern (arg n)
unfolding arg
arg_sound zero ss x rest e = absurd (cc)
arg_sound (suc n) ss x rest e = whole_sound (arg n) (arg_sound n) ss x rest e
