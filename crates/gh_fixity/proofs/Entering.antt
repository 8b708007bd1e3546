-- What a list of declarations adds is taken away again.
use Rattle.std.proofs.Common.{◌≡◌, ◌+◌, ◌-◌, List, [], ◌∷◌, ◌++◌, drop, map, length, refl, sym, ap, subst, ◌∙◌, append_assoc, arith, length-append}
use Rattle.gh_program.specs.declared.names.Occurrence.{Occurrence}
use Rattle.gh_program.specs.declared.names.Referent.{Referent}
use Rattle.gh_program.specs.declared.names.Referent.TheVariants as referent
use Rattle.gh_program.specs.declared.expressions.Aexp.{Aexp}
use Rattle.gh_program.specs.declared.expressions.Alt.{Alt}
use Rattle.gh_program.specs.declared.expressions.Decl.{Decl, roll-Decl, out-Decl, roll-out-Decl}
use Rattle.gh_program.specs.declared.expressions.Exp.{Exp}
use Rattle.gh_program.specs.declared.expressions.Locals.{Locals, roll-Locals, out-Locals, roll-out-Locals}
use Rattle.gh_program.specs.declared.expressions.Open.{Open}
use Rattle.gh_program.specs.declared.expressions.Operand.{Operand}
use Rattle.gh_program.specs.declared.expressions.Operands.{Operands}
use Rattle.gh_program.specs.declared.expressions.Rhs.{Rhs}
use Rattle.gh_program.specs.declared.expressions.Guard.{Guard}
use Rattle.gh_program.specs.declared.expressions.NextOperand.{NextOperand}
use Rattle.gh_program.specs.declared.expressions.Redef.{Redef}
use Rattle.gh_program.specs.declared.expressions.Decl.TheVariants as v_Decl
use Rattle.gh_program.specs.declared.expressions.Locals.TheVariants as v_Locals
use Rattle.gh_program.specs.declared.expressions.Aexp.TheOpen.{Decl-F, Locals-F}
use Rattle.gh_fixity.specs.declared.item.Fixity.{Fixity}
use Rattle.gh_fixity.specs.Exps.{decl_out, locals_out}
use Rattle.gh_fixity.specs.Fixities.{TopFixities, LocalFixities, with_local, with_locals, written_fixity}
use Rattle.gh_fixity.specs.Walks.{entered}
use Rattle.gh_fixity.proofs.ExpsAt.{decl_signature_enter, decl_fixity_enter, decl_function_enter, decl_pattern_enter, locals_decls_enter, locals_redefs_enter}

-- a list that begins with others and then is the old one
record Extends (old new : LocalFixities) : Type 0 where
  more : LocalFixities
  is : new ≡ more ++ old

none : (l : LocalFixities) → Extends l l
none l = record { more = []; is = refl }

both : (a b c : LocalFixities) → Extends a b → Extends b c → Extends a c
both a b c x y = record { more = y.more ++ x.more; is = y.is ∙ ap (λ z. y.more ++ z) x.is ∙ sym (append_assoc y.more x.more a) }

one : (f : Fixity) (l : LocalFixities) (r : Referent) → Extends l (with_local f l r)
one f l (referent.Top o) = none l
one f l (referent.Local n) = record { more = (n, f) ∷ []; is = refl }

several : (f : Fixity) (l : LocalFixities) (os : List Occurrence) → Extends l (with_locals f l os)
several f l [] = none l
several f l (o ∷ os) = both l (with_local f l o.referent) (with_locals f (with_local f l o.referent) os) (one f l o.referent) (several f (with_local f l o.referent) os)

decl_adds : (ts : TopFixities) (l : LocalFixities) (d : Decl) → Extends l ((decl_out ts d).enter l)
decl_adds ts l d = subst (λ y. Extends l ((decl_out ts y).enter l)) (roll-out-Decl d) (by (out-Decl d))
  where
    by : (x : Decl-F Aexp Alt Decl Exp Locals Open Operand Operands Rhs Guard NextOperand Redef) → Extends l ((decl_out ts (roll-Decl x)).enter l)
    by (Decl-F.Signature s os y) = subst (Extends l) (sym (ap (λ y. (decl_out ts y).enter l) (v_Decl.rolls-Signature s os y) ∙ decl_signature_enter ts l s os y)) (none l)
    by (Decl-F.Fixity s w n os) = subst (Extends l) (sym (ap (λ y. (decl_out ts y).enter l) (v_Decl.rolls-Fixity s w n os) ∙ decl_fixity_enter ts l s w n os)) (several (written_fixity w n) l os)
    by (Decl-F.Function s f r) = subst (Extends l) (sym (ap (λ y. (decl_out ts y).enter l) (v_Decl.rolls-Function s f r) ∙ decl_function_enter ts l s f r)) (none l)
    by (Decl-F.Pattern s p r) = subst (Extends l) (sym (ap (λ y. (decl_out ts y).enter l) (v_Decl.rolls-Pattern s p r) ∙ decl_pattern_enter ts l s p r)) (none l)

list_adds : (ts : TopFixities) (l : LocalFixities) (ds : List Decl) → Extends l (entered (map (decl_out ts) ds) l)
list_adds ts l [] = none l
list_adds ts l (d ∷ ds) =
    both l ((decl_out ts d).enter l) (entered (map (decl_out ts) ds) ((decl_out ts d).enter l)) (decl_adds ts l d) (list_adds ts ((decl_out ts d).enter l) ds)

locals_adds : (ts : TopFixities) (l : LocalFixities) (d : Locals) → Extends l ((locals_out ts d).enter l)
locals_adds ts l d = subst (λ y. Extends l ((locals_out ts y).enter l)) (roll-out-Locals d) (by (out-Locals d))
  where
    by : (x : Locals-F Aexp Alt Decl Exp Locals Open Operand Operands Rhs Guard NextOperand Redef) → Extends l ((locals_out ts (roll-Locals x)).enter l)
    by (Locals-F.Decls ds) = subst (Extends l) (sym (ap (λ y. (locals_out ts y).enter l) (v_Locals.rolls-Decls ds) ∙ locals_decls_enter ts l ds)) (list_adds ts l ds)
    by (Locals-F.Redefs rs) = subst (Extends l) (sym (ap (λ y. (locals_out ts y).enter l) (v_Locals.rolls-Redefs rs) ∙ locals_redefs_enter ts l rs)) (none l)

drop_front : (a b : LocalFixities) → drop (length a) (a ++ b) ≡ b
drop_front [] b = refl
drop_front (x ∷ a) b = drop_front a b

-- what was added is taken away
dropped : (old new : LocalFixities) → Extends old new → drop (length new - length old) new ≡ old
dropped old new x =
    let l : length new ≡ length x.more + length old = ap length x.is ∙ length-append x.more old in
    let n : length new - length old ≡ length x.more = omega arith in
    ap (λ k. drop k new) n ∙ ap (drop (length x.more)) x.is ∙ drop_front x.more old

pub entered_dropped : (ts : TopFixities) (l : LocalFixities) (ds : List Decl) → drop (length (entered (map (decl_out ts) ds) l) - length l) (entered (map (decl_out ts) ds) l) ≡ l
entered_dropped ts l ds = dropped l (entered (map (decl_out ts) ds) l) (list_adds ts l ds)

pub locals_dropped : (ts : TopFixities) (l : LocalFixities) (d : Locals) → drop (length ((locals_out ts d).enter l) - length l) ((locals_out ts d).enter l) ≡ l
locals_dropped ts l d = dropped l ((locals_out ts d).enter l) (locals_adds ts l d)
