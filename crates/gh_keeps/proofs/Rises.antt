-- What a run of core has shown stays.
use Rattle.std.proofs.Common.{◌≡◌, ℕ, zero, suc, List, [], ◌∷◌, ◌++◌, Bool, true, false, cond, Option, Some, None, refl, sym, ◌∙◌, subst, append-nil, length}
use Rattle.std.specs.Prelude.{◌&&◌, ◌==◌}
use Rattle.std.specs.Char.{encode_utf8}
use Rattle.gh_base.specs.declared.place.Origin.{Origin}
use Rattle.gh_base.specs.declared.place.Span.{Span}
use Rattle.gh_core.specs.Primitives.{nil, cons, same_origin, named, primitives, Primitive, error, unary, binary, Outcome, gives, fails, nothing, unary_outcome, binary_outcome}
use Rattle.gh_core.specs.Reduce.{Status, running, ended, failed, string_con}
use Rattle.gh_core.specs.Run.{Seen, seen}
use Rattle.gh_core.specs.Terms as t
use Rattle.gh_core.specs.Closing as closing
use Rattle.gh_core.specs.Reduce as core
use Rattle.gh_core.proofs.Runs.{reductions_zero, reductions_first}
use Rattle.gh_keeps.specs.Keeps.{IsOver, Reaches, runs}
use Rattle.gh_keeps.proofs.Bridge.{reaches_itself, runs-zero, runs-suc}

-- more bytes than those
abbrev pub More : List ℕ → List ℕ → Type 0
More a b = (rest : List ℕ) × (a ++ rest ≡ b)

pub same_out : (a b : List ℕ) → b ≡ a → More a b
same_out a b e = ([], append-nil a ∙ sym e)

pub after_running : (a b : Seen) → a.status ≡ running → More a.out b.out → Reaches a b
after_running a b e m = record { bytes = m; over = λ h. absurd (subst IsOver e h) }

core_cell_out : (b c : Bool) (es : List t.Term) (out : List ℕ) (s : core.State) → s.out ≡ out → (core.list_cell b c es out s).out ≡ out
core_cell_out true c [] out s h = h
core_cell_out true c (e ∷ es) out s h = h
core_cell_out false true [] out s h = h
core_cell_out false true (e ∷ []) out s h = h
core_cell_out false true (e ∷ rest ∷ []) out s h = refl
core_cell_out false true (e ∷ rest ∷ x ∷ es) out s h = h
core_cell_out false false es out s h = h

core_listed_out : (c : Origin) (es : List t.Term) (stack : List core.Waiting) (out : List ℕ) (s : core.State) → s.out ≡ out → (core.listed c es stack out s).out ≡ out
core_listed_out c es [] out s h = core_cell_out (same_origin c nil) (same_origin c cons) es out s h
core_listed_out c es (w ∷ ws) out s h = h

core_settled_out : (e : t.Term) (stack : List core.Waiting) (out : List ℕ) (s : core.State) → s.out ≡ out → (core.settled_at e stack out s).out ≡ out
core_settled_out (t.con c) stack out s h = core_listed_out c (core.args_of stack) (core.after_args stack) out s h
core_settled_out (t.string cs) stack out s h = core_listed_out (string_con cs) (core.string_args cs) stack out s h
core_settled_out (t.var x) stack out s h = h
core_settled_out (t.glob name) stack out s h = h
core_settled_out (t.lit l) stack out s h = h
core_settled_out (t.prim p place) stack out s h = h
core_settled_out (t.lam x body) stack out s h = h
core_settled_out (t.app f e) stack out s h = h
core_settled_out (t.letrec bs body) stack out s h = h
core_settled_out (t.cases e alts) stack out s h = h
core_settled_out (t.stop place) stack out s h = h
core_settled_out (t.whole e) stack out s h = h
core_settled_out (t.contents c e) stack out s h = h

rise_demand : (e : t.Term) (stack : List core.Waiting) (out : List ℕ) → More out (core.demand e stack out).out
rise_demand e stack out = same_out out _ (core_settled_out (core.opened e) stack out (core.at e stack out) refl)

rise_cond : (b : Bool) (out : List ℕ) (x y : core.State) → More out x.out → More out y.out → More out (cond b x y).out
rise_cond true out x y p q = p
rise_cond false out x y p q = q

rise_global : (o : Option t.Term) (stack : List core.Waiting) (s : core.State) → More s.out (core.unfold_global o stack s.out s).out
rise_global None stack s = same_out s.out _ refl
rise_global (Some e) stack s = rise_demand e stack s.out

rise_enter : (x : ℕ) (body : t.Term) (stack : List core.Waiting) (s : core.State) → More s.out (core.enter x body stack s.out s).out
rise_enter x body [] s = same_out s.out _ refl
rise_enter x body (core.arg e ∷ stack) s = rise_demand (closing.close body (closing.put closing.empty x e)) stack s.out
rise_enter x body (core.of_case alts ∷ stack) s = same_out s.out _ refl
rise_enter x body (core.under c ∷ stack) s = same_out s.out _ refl
rise_enter x body (core.only u place ∷ stack) s = same_out s.out _ refl
rise_enter x body (core.first b place e ∷ stack) s = same_out s.out _ refl
rise_enter x body (core.second b place l ∷ stack) s = same_out s.out _ refl
rise_enter x body (core.printing rest ∷ stack) s = same_out s.out _ refl

rise_choose : (alts : t.Alts) (c : Origin) (es : List t.Term) (stack : List core.Waiting) (s : core.State) → More s.out (core.choose alts c es stack s.out s).out
rise_choose t.no_alt c es stack s = same_out s.out _ refl
rise_choose (t.else_to e) c es stack s = rise_demand e stack s.out
rise_choose (t.alt (t.con_alt d xs e) rest) c es stack s =
    rise_cond (same_origin c d && (length xs == length es)) s.out (core.demand (closing.close e (closing.put_all closing.empty xs es)) stack s.out) (core.choose rest c es stack s.out s)
    (rise_demand (closing.close e (closing.put_all closing.empty xs es)) stack s.out) (rise_choose rest c es stack s)
rise_choose (t.alt (t.lit_alt l e) rest) c es stack s = rise_choose rest c es stack s

rise_choose_literal : (alts : t.Alts) (l : t.Literal) (stack : List core.Waiting) (s : core.State) → More s.out (core.choose_literal alts l stack s.out s).out
rise_choose_literal t.no_alt l stack s = same_out s.out _ refl
rise_choose_literal (t.else_to e) l stack s = rise_demand e stack s.out
rise_choose_literal (t.alt (t.con_alt d xs e) rest) l stack s = rise_choose_literal rest l stack s
rise_choose_literal (t.alt (t.lit_alt m e) rest) l stack s =
    rise_cond (core.same_literal l m) s.out (core.demand e stack s.out) (core.choose_literal rest l stack s.out s) (rise_demand e stack s.out) (rise_choose_literal rest l stack s)

rise_uncover : (b : Bool) (es : List t.Term) (stack : List core.Waiting) (s : core.State) → More s.out (core.uncover b es stack s.out s).out
rise_uncover false es stack s = same_out s.out _ refl
rise_uncover true [] stack s = same_out s.out _ refl
rise_uncover true (e ∷ []) stack s = rise_demand e stack s.out
rise_uncover true (e ∷ d ∷ es) stack s = same_out s.out _ refl

rise_give : (c : Origin) (es : List t.Term) (stack : List core.Waiting) (s : core.State) → More s.out (core.give c es stack s.out s).out
rise_give c es [] s = same_out s.out _ refl
rise_give c es (core.arg e ∷ stack) s = same_out s.out _ refl
rise_give c es (core.of_case alts ∷ stack) s = rise_choose alts c es stack s
rise_give c es (core.under d ∷ stack) s = rise_uncover (same_origin c d) es stack s
rise_give c es (core.only u place ∷ stack) s = same_out s.out _ refl
rise_give c es (core.first b place e ∷ stack) s = same_out s.out _ refl
rise_give c es (core.second b place l ∷ stack) s = same_out s.out _ refl
rise_give c es (core.printing rest ∷ stack) s = same_out s.out _ refl

rise_conclude : (o : Outcome) (place : Span) (stack : List core.Waiting) (s : core.State) → More s.out (core.conclude o place stack s.out s).out
rise_conclude (gives e) place stack s = rise_demand e stack s.out
rise_conclude (fails cause) place stack s = same_out s.out _ refl
rise_conclude nothing place stack s = same_out s.out _ refl

rise_print : (l : t.Literal) (rest : t.Term) (stack : List core.Waiting) (s : core.State) → More s.out (core.print l rest stack s.out s).out
rise_print (t.char c) rest stack s = (encode_utf8 c, sym (core_settled_out (core.opened rest) stack (s.out ++ encode_utf8 c) _ refl))
rise_print (t.int n) rest stack s = same_out s.out _ refl

rise_supply : (l : t.Literal) (stack : List core.Waiting) (s : core.State) → More s.out (core.supply l stack s.out s).out
rise_supply l [] s = same_out s.out _ refl
rise_supply l (core.arg e ∷ stack) s = same_out s.out _ refl
rise_supply l (core.of_case alts ∷ stack) s = rise_choose_literal alts l stack s
rise_supply l (core.under c ∷ stack) s = same_out s.out _ refl
rise_supply l (core.only u place ∷ stack) s = rise_conclude (unary_outcome u l) place stack s
rise_supply l (core.first b place e ∷ stack) s = rise_demand e _ s.out
rise_supply l (core.second b place m ∷ stack) s = rise_conclude (binary_outcome b m l) place stack s
rise_supply l (core.printing rest ∷ stack) s = rise_print l rest stack s

rise_operate : (o : Option Primitive) (place : Span) (es : List t.Term) (stack : List core.Waiting) (s : core.State) → More s.out (core.operate o place es stack s.out s).out
rise_operate None place es stack s = same_out s.out _ refl
rise_operate (Some error) place [] stack s = same_out s.out _ refl
rise_operate (Some error) place (e ∷ es) stack s = same_out s.out _ refl
rise_operate (Some (unary u)) place [] stack s = same_out s.out _ refl
rise_operate (Some (unary u)) place (e ∷ es) stack s = rise_demand e _ s.out
rise_operate (Some (binary b)) place [] stack s = same_out s.out _ refl
rise_operate (Some (binary b)) place (e ∷ []) stack s = same_out s.out _ refl
rise_operate (Some (binary b)) place (e ∷ d ∷ es) stack s = rise_demand e _ s.out

rise_case : (newtypes : List Origin) (e : t.Term) (alts : t.Alts) (stack : List core.Waiting) (out : List ℕ) → More out (core.begin_case newtypes e alts stack out).out
rise_case newtypes e t.no_alt stack out = rise_demand e _ out
rise_case newtypes e (t.else_to d) stack out = rise_demand e _ out
rise_case newtypes e (t.alt (t.lit_alt l d) rest) stack out = rise_demand e _ out
rise_case newtypes e (t.alt (t.con_alt c [] d) rest) stack out = rise_demand e _ out
rise_case newtypes e (t.alt (t.con_alt c (x ∷ y ∷ xs) d) rest) stack out = rise_demand e _ out
rise_case newtypes e (t.alt (t.con_alt c (x ∷ []) d) rest) stack out =
    rise_cond (core.is_newtype newtypes c) out (core.demand (closing.close d (closing.put closing.empty x (t.contents c e))) stack out) (core.demand e (core.of_case (t.alt (t.con_alt c (x ∷ []) d) rest) ∷ stack) out)
    (rise_demand (closing.close d (closing.put closing.empty x (t.contents c e))) stack out) (rise_demand e (core.of_case (t.alt (t.con_alt c (x ∷ []) d) rest) ∷ stack) out)

rise_at : (p : core.Program) (e : t.Term) (stack : List core.Waiting) (s : core.State) → More s.out (core.reduce_at p e stack s.out s).out
rise_at p (t.var x) stack s = same_out s.out _ refl
rise_at p (t.glob name) stack s = rise_global (core.defined p.defs name) stack s
rise_at p (t.con c) stack s = rise_give c (core.args_of stack) (core.after_args stack) s
rise_at p (t.lit l) stack s = rise_supply l stack s
rise_at p (t.string cs) stack s = rise_give (string_con cs) (core.string_args cs) stack s
rise_at p (t.prim name place) stack s = rise_operate (named primitives name) place (core.args_of stack) stack s
rise_at p (t.lam x body) stack s = rise_enter x body stack s
rise_at p (t.app f e) stack s = rise_demand f _ s.out
rise_at p (t.letrec bs body) stack s = rise_demand (closing.close body (closing.put_rec bs closing.empty bs)) stack s.out
rise_at p (t.cases e alts) stack s = rise_case p.newtypes e alts stack s.out
rise_at p (t.stop place) stack s = same_out s.out _ refl
rise_at p (t.whole e) stack s = same_out s.out _ refl
rise_at p (t.contents c e) stack s = rise_demand e _ s.out

rises_by : (p : core.Program) (st : Status) (s : core.State) → s.status ≡ st → Reaches (seen s) (seen (core.reduce_in p st s))
rises_by p running s e = after_running (seen s) _ e (rise_at p s.focus s.stack s)
rises_by p ended s e = reaches_itself (seen s)
rises_by p (failed c x) s e = reaches_itself (seen s)

pub rises : (p : core.Program) (s : core.State) → Reaches (seen s) (seen (core.reduce p s))
rises p s = rises_by p s.status s refl

-- reductions as steps
pub reductions_runs : (p : core.Program) (n : ℕ) (s : core.State) → core.reductions p n s ≡ runs (core.reduce p) n s
reductions_runs p zero s = reductions_zero p s ∙ sym (runs-zero (core.reduce p) s)
reductions_runs p (suc n) s = reductions_first p n s ∙ reductions_runs p n (core.reduce p s) ∙ sym (runs-suc (core.reduce p) n s)
