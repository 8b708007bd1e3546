-- What the readers of what nests promise, and what is read as operands.
use Rattle.std.proofs.Common.{◌≡◌, not, ◌&&◌, List, ◌++◌, Option, Some, None, refl, sym, ap, ◌∙◌}
use Rattle.gh_tree.specs.declared.symbol.Sym.{Sym}
use Rattle.gh_tree.specs.declared.expressions.Aexp.{Aexp}
use Rattle.gh_tree.specs.declared.expressions.Alt.{Alt}
use Rattle.gh_tree.specs.declared.expressions.AltGuard.{AltGuard}
use Rattle.gh_tree.specs.declared.expressions.AltItem.{AltItem}
use Rattle.gh_tree.specs.declared.expressions.Alts.{Alts}
use Rattle.gh_tree.specs.declared.expressions.Decl.{Decl}
use Rattle.gh_tree.specs.declared.expressions.DeclItem.{DeclItem}
use Rattle.gh_tree.specs.declared.expressions.Decls.{Decls}
use Rattle.gh_tree.specs.declared.expressions.Exp.{Exp, roll-Exp, out-Exp, roll-out-Exp}
use Rattle.gh_tree.specs.declared.expressions.Exp.TheVariants as v_Exp
use Rattle.gh_tree.specs.declared.expressions.Guard.{Guard}
use Rattle.gh_tree.specs.declared.expressions.Locals.{Locals}
use Rattle.gh_tree.specs.declared.expressions.NextOperand.{NextOperand}
use Rattle.gh_tree.specs.declared.expressions.Open.{Open}
use Rattle.gh_tree.specs.declared.expressions.Operand.{Operand}
use Rattle.gh_tree.specs.declared.expressions.OperandList.{OperandList}
use Rattle.gh_tree.specs.declared.expressions.Part.{Part}
use Rattle.gh_tree.specs.declared.expressions.Redef.{Redef}
use Rattle.gh_tree.specs.declared.expressions.RedefItem.{RedefItem}
use Rattle.gh_tree.specs.declared.expressions.Redefs.{Redefs}
use Rattle.gh_tree.specs.declared.expressions.Rhs.{Rhs}
use Rattle.gh_tree.specs.declared.expressions.Where.{Where}
use Rattle.gh_tree.specs.declared.expressions.Aexp.TheOpen.{Exp-F}
use Rattle.gh_tree.specs.Print.{Print}
use Rattle.gh_tree.specs.Print as printed
use Rattle.gh_tree.specs.Read.{taken}
use Rattle.gh_tree.proofs.Steps.{bound, and_is}
use Rattle.gh_tree.proofs.Many.{Taken}
use Rattle.gh_tree.proofs.Printed.{printed_exp_plain}
use Rattle.gh_reader.proofs.Sound.{SoundAt, built, only_if}
use Rattle.gh_parse_lefts.specs.Lefts.{left_print}
use Rattle.gh_parse_exps.specs.Knot.{Knot}
use Rattle.gh_parse_exps.specs.Decls.{plain_by, plain_of, plain_or, closed_or, plain, closed}

pub record KnotSound (K : Knot) : Type 0 where
  pub exp : SoundAt printed.exp K.exp
  pub decls : SoundAt printed.decls K.decls
  pub typ : SoundAt printed.type_expr K.typ
  pub arg : SoundAt printed.arg_pattern K.arg
  pub left : SoundAt left_print K.left

-- operands of which the last does not go on to the right
abbrev pub closed_print : OperandList → Print
closed_print xs = record (printed.operands xs) { good = (printed.operands xs).good && not (printed.operands xs).is_open }

layer_plain : (y : Exp-F Aexp Alt Decl Exp Locals Open Operand Rhs Where AltGuard AltItem Alts DeclItem Decls Guard NextOperand OperandList Part Redef RedefItem Redefs) (xs : OperandList) → plain_by y ≡ Some xs
    → printed.exp (roll-Exp y) ≡ printed.operands xs
layer_plain (Exp-F.Exp::Plain ys) xs e =
    let same : ys ≡ xs = cc in
    ap printed.exp (v_Exp.rolls-Plain ys) ∙ printed_exp_plain ys ∙ ap printed.operands same
layer_plain (Exp-F.Typed s ys m t) xs e = absurd (cc)

-- an expression without a type is printed as its operands
pub plain_is : (x : Exp) (xs : OperandList) → plain_of x ≡ Some xs → printed.exp x ≡ printed.operands xs
unfolding plain_of
plain_is x xs e = ap printed.exp (sym (roll-out-Exp x)) ∙ layer_plain (out-Exp x) xs e

plain_or_sound : (us ss : List Sym) (x : Exp) (ys : Option OperandList) (xs : OperandList) (rest : List Sym) → Taken printed.exp us x ss → plain_of x ≡ ys → plain_or ys ss ≡ taken xs rest → Taken printed.operands us xs rest
plain_or_sound us ss x None xs rest before is e = absurd (cc)
plain_or_sound us ss x (Some ys) xs rest before is e =
    let same = plain_is x ys is in
    built printed.operands (printed.exp x) us ss ys xs rest (sym same) e before.flat before.good

closed_or_by : (us ss : List Sym) (x : Exp) (ys : Option OperandList) (xs : OperandList) (rest : List Sym) → Taken printed.exp us x ss → plain_of x ≡ ys → closed_or ys ss ≡ taken xs rest → Taken closed_print us xs rest
closed_or_by us ss x None xs rest before is e = absurd (cc)
closed_or_by us ss x (Some ys) xs rest before is e =
    let same = plain_is x ys is in
    let j = only_if (not (printed.operands ys).is_open) (ys, ss) (xs, rest) e in
    built closed_print (closed_print ys) us ss ys xs rest refl j.1 (before.flat ∙ ap (λ (p : Print). p.flat ++ ss) same) (and_is (ap (λ (p : Print). p.good) (sym same) ∙ before.good) j.0)

pub closed_or_sound : (us ss : List Sym) (x : Exp) (xs : OperandList) (rest : List Sym) → Taken printed.exp us x ss → closed_or (plain_of x) ss ≡ taken xs rest → Taken closed_print us xs rest
closed_or_sound us ss x xs rest before e = closed_or_by us ss x (plain_of x) xs rest before refl e

module _ (K : Knot) (sound : KnotSound K) where
  pub plain_sound : SoundAt printed.operands (plain K)
  unfolding plain
  plain_sound ss xs rest e =
      let h = bound (K.exp ss) _ xs rest e in
      plain_or_sound ss h.mid h.x (plain_of h.x) xs rest (sound.exp ss h.x h.mid h.first) refl h.then

  pub closed_sound : SoundAt closed_print (closed K)
  unfolding closed
  closed_sound ss xs rest e =
      let h = bound (K.exp ss) _ xs rest e in
      closed_or_sound ss h.mid h.x xs rest (sound.exp ss h.x h.mid h.first) h.then
