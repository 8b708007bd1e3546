-- Each act prints nothing or one character more.
use Rattle.std.proofs.Common.{◌≡◌, ℕ, zero, suc, ◌+◌, Bool, true, false, List, [], ◌∷◌, ◌++◌, Option, Some, None, refl, sym, ap, ◌∙◌, append_assoc, append-nil, arith}
use Rattle.std.specs.Char.{encode_utf8}
use Rattle.gh_base.specs.declared.place.Origin.{Origin}
use Rattle.gh_base.specs.declared.place.Span.{Span}
use Rattle.gh_base.specs.declared.place.TyCon.{TyCon}
use Rattle.gh_core.specs.Primitives.{Primitive, error, unary, binary, Outcome, gives, fails, nothing, same_origin, nil, cons, prelude_value, unary_outcome, binary_outcome}
use Rattle.gh_core.specs.Reduce.{Status, running, ended, failed, same_literal, string_con}
use Rattle.gh_core.specs.Terms.{Literal, int, char}
use Rattle.gh_kernel.specs.declared.names.TopName.{TopName}
use Rattle.std.specs.Prelude.{◌==◌, ◌&&◌, length, drop}
use Rattle.gh_base.specs.declared.fixed.TheConstants.{TRUE, FALSE}
use Rattle.gh_kernel.specs.Closing.{Env, close, close_bodies, close_groups, empty, without, groups_bind, put, put_groups}
use Rattle.gh_kernel.specs.Conversions.{one_pattern, converted}
use Rattle.gh_kernel.specs.Instances.{instance}
use Rattle.gh_kernel.specs.Laws.{Extends}
use Rattle.gh_kernel.specs.Meaning.{seen, meaning, start}
use Rattle.gh_kernel.specs.Programs.{Exp, Program, is_newtype, bound_to}
use Rattle.gh_kernel.specs.States.{Rest, Trial, Focus, eval, matching, falling, Waiting, arg, under, tested, compared, decides, only, first, second, printing, State, at, reach, meet, args_of, after_args, string_args, list_cell, printed_list, settled_at, demand, choose}
use Rattle.gh_kernel.specs.Steps.{goes_on, count, meet_constructor, match_pattern, match_next, fall, tell, decide, uncover, give, answer, go_to, conclude, print, supply, operate, primitive_of, unfold_name, enter, called, local_name, convert_to, act_eval, act_at, act_in, act, steps, with_todo}
use Rattle.gh_kernel.specs.Terms.{Pat, pvar, pwild, pcon, plit, pstring, pas, Pats, no_pat, pat, Direction, TypeTerm, tylocal, var, top, con, lit, string, lam, app, lets, cases, call, redef, ann, whole, contents, convert, Rows, no_row, row, Bodies, no_body, always, guarded}

list_cell_out : (isNil isCons : Bool) (es : List Exp) (s : State) → (list_cell isNil isCons es s).out ≡ s.out
list_cell_out true true [] s = refl
list_cell_out true false [] s = refl
list_cell_out true true (e ∷ es) s = refl
list_cell_out true false (e ∷ es) s = refl
list_cell_out false true [] s = refl
list_cell_out false true (e ∷ []) s = refl
list_cell_out false true (e ∷ rest ∷ []) s = refl
list_cell_out false true (e ∷ d ∷ c ∷ es) s = refl
list_cell_out false false [] s = refl
list_cell_out false false (e ∷ es) s = refl

printed_list_out : (c : Origin) (es : List Exp) (stack : List Waiting) (s : State) → (printed_list c es stack s).out ≡ s.out
printed_list_out c es [] s = list_cell_out (same_origin c nil) (same_origin c cons) es s
printed_list_out c es (w ∷ ws) s = refl

settled_eval_out : (e : Exp) (s : State) → (settled_at (eval e) s).out ≡ s.out
settled_eval_out (var n x) s = refl
settled_eval_out (top n x) s = refl
settled_eval_out (con n c) s = printed_list_out c (args_of s.stack) (after_args s.stack) s
settled_eval_out (lit n l) s = refl
settled_eval_out (string n cs) s = printed_list_out (string_con cs) (string_args n cs) s.stack s
settled_eval_out (lam n x body) s = refl
settled_eval_out (app n f e) s = refl
settled_eval_out (lets n gs body) s = refl
settled_eval_out (cases n es rows) s = refl
settled_eval_out (call n w t) s = refl
settled_eval_out (redef n k text table body) s = refl
settled_eval_out (ann n e t) s = refl
settled_eval_out (whole e) s = refl
settled_eval_out (contents c e) s = refl
settled_eval_out (convert n d h generic t) s = refl

settled_out : (f : Focus) (s : State) → (settled_at f s).out ≡ s.out
settled_out (eval e) s = settled_eval_out e s
settled_out (matching t) s = refl
settled_out (falling r) s = refl

demand_out : (e : Exp) (stack : List Waiting) (out : List ℕ) → (demand e stack out).out ≡ out
demand_out e stack out = settled_out (reach e) (at (reach e) stack out)

choose_out : (bs : Bodies Span) (r : Rest) (stack : List Waiting) (out : List ℕ) → (choose bs r stack out).out ≡ out
choose_out no_body r stack out = refl
choose_out (always e more) r stack out = demand_out e stack out
choose_out (guarded g e more) r stack out = demand_out g (decides e more r ∷ stack) out

goes_on_out : (todo : List (Pat Span × Exp)) (σ : Env Span) (t : Trial) (stack : List Waiting) (out : List ℕ) → (goes_on todo σ t stack out).out ≡ out
goes_on_out todo σ t stack out = refl

meet_constructor_out : (b : Bool) (c : Origin) (ps : Pats Span) (e : Exp) (t : Trial) (stack : List Waiting) (out : List ℕ) → (meet_constructor b c ps e t stack out).out ≡ out
meet_constructor_out true c (pat p no_pat) e t stack out = goes_on_out ((p, contents c e) ∷ t.todo) t.bound t stack out
meet_constructor_out true c no_pat e t stack out = demand_out e (tested c no_pat t ∷ stack) out
meet_constructor_out true c (pat p (pat q ps)) e t stack out = demand_out e (tested c (pat p (pat q ps)) t ∷ stack) out
meet_constructor_out false c no_pat e t stack out = demand_out e (tested c no_pat t ∷ stack) out
meet_constructor_out false c (pat p no_pat) e t stack out = demand_out e (tested c (pat p no_pat) t ∷ stack) out
meet_constructor_out false c (pat p (pat q ps)) e t stack out = demand_out e (tested c (pat p (pat q ps)) t ∷ stack) out

match_pattern_out : (p : Program) (q : Pat Span) (e : Exp) (t : Trial) (stack : List Waiting) (out : List ℕ) → (match_pattern p q e t stack out).out ≡ out
match_pattern_out p (pvar n x) e t stack out = goes_on_out t.todo (put t.bound x e) t stack out
match_pattern_out p (pwild n) e t stack out = goes_on_out t.todo t.bound t stack out
match_pattern_out p (pas n x q) e t stack out = goes_on_out ((q, e) ∷ t.todo) (put t.bound x e) t stack out
match_pattern_out p (pcon n c ps) e t stack out = meet_constructor_out (is_newtype p.datatypes c) c ps e t stack out
match_pattern_out p (plit n l) e t stack out = demand_out e (compared l t ∷ stack) out
match_pattern_out p (pstring n []) e t stack out = demand_out e (tested nil no_pat t ∷ stack) out
match_pattern_out p (pstring n (c ∷ cs)) e t stack out = demand_out e (tested cons (pat (plit n (char c)) (one_pattern (pstring n cs))) t ∷ stack) out

match_next_out : (p : Program) (todo : List (Pat Span × Exp)) (t : Trial) (stack : List Waiting) (out : List ℕ) → (match_next p todo t stack out).out ≡ out
match_next_out p [] t stack out =
    let hidden = without t.bound (groups_bind t.groups) in
    let own = close_groups t.groups hidden in
    choose_out (close_bodies (close_bodies t.bodies hidden) (put_groups own empty own)) t.rest stack out
match_next_out p (m ∷ todo) t stack out = match_pattern_out p m.0 m.1 (with_todo todo t) stack out

fall_out : (place : Span) (r : Rest) (rows : Rows Span) (stack : List Waiting) (s : State) → (fall place r rows stack s.out s).out ≡ s.out
fall_out place r no_row stack s = refl
fall_out place r (row ps gs bs rest) stack s = refl

tell_out : (b : Bool) (todo : List (Pat Span × Exp)) (t : Trial) (stack : List Waiting) (out : List ℕ) → (tell b todo t stack out).out ≡ out
tell_out true todo t stack out = goes_on_out todo t.bound t stack out
tell_out false todo t stack out = refl

decide_out : (a b : Bool) (es : List Exp) (e : Exp) (more : Bodies Span) (r : Rest) (stack : List Waiting) (s : State) → (decide a b es e more r stack s.out s).out ≡ s.out
decide_out true true [] e more r stack s = demand_out e stack s.out
decide_out true false [] e more r stack s = demand_out e stack s.out
decide_out false true [] e more r stack s = choose_out more r stack s.out
decide_out false false [] e more r stack s = refl
decide_out true true (x ∷ es) e more r stack s = refl
decide_out true false (x ∷ es) e more r stack s = refl
decide_out false true (x ∷ es) e more r stack s = refl
decide_out false false (x ∷ es) e more r stack s = refl

uncover_out : (b : Bool) (es : List Exp) (stack : List Waiting) (s : State) → (uncover b es stack s.out s).out ≡ s.out
uncover_out true [] stack s = refl
uncover_out true (e ∷ []) stack s = demand_out e stack s.out
uncover_out true (e ∷ d ∷ es) stack s = refl
uncover_out false [] stack s = refl
uncover_out false (e ∷ []) stack s = refl
uncover_out false (e ∷ d ∷ es) stack s = refl

give_out : (c : Origin) (es : List Exp) (stack : List Waiting) (s : State) → (give c es stack s.out s).out ≡ s.out
give_out c es [] s = refl
give_out c es (arg e ∷ stack) s = refl
give_out c es (under d ∷ stack) s = uncover_out (same_origin c d) es stack s
give_out c es (tested d ps t ∷ stack) s = tell_out (same_origin c d && (count ps == length es)) (meet ps es t.todo) t stack s.out
give_out c es (compared m t ∷ stack) s = refl
give_out c es (decides e more r ∷ stack) s = decide_out (same_origin c (prelude_value TRUE)) (same_origin c (prelude_value FALSE)) es e more r stack s
give_out c es (only u place ∷ stack) s = refl
give_out c es (first b place e ∷ stack) s = refl
give_out c es (second b place m ∷ stack) s = refl
give_out c es (printing rest ∷ stack) s = refl

go_to_out : (o : Option Exp) (stack : List Waiting) (s : State) → (go_to o stack s.out s).out ≡ s.out
go_to_out None stack s = refl
go_to_out (Some e) stack s = demand_out e stack s.out

conclude_out : (o : Outcome) (place : Span) (stack : List Waiting) (s : State) → (conclude o place stack s.out s).out ≡ s.out
conclude_out (gives t) place stack s = go_to_out (answer place t) stack s
conclude_out (fails cause) place stack s = refl
conclude_out nothing place stack s = refl

-- what is not printed extends by nothing
same_out : (a b : List ℕ) → b ≡ a → Extends a b
same_out a b e = ([], append-nil a ∙ sym e)

print_out : (l : Literal) (rest : Exp) (stack : List Waiting) (s : State) → Extends s.out (print l rest stack s.out s).out
print_out (char c) rest stack s = (encode_utf8 c, sym (demand_out rest stack (s.out ++ encode_utf8 c)))
print_out (int n) rest stack s = same_out s.out s.out refl

supply_out : (l : Literal) (stack : List Waiting) (s : State) → Extends s.out (supply l stack s.out s).out
supply_out l [] s = same_out s.out s.out refl
supply_out l (arg e ∷ stack) s = same_out s.out s.out refl
supply_out l (under d ∷ stack) s = same_out s.out s.out refl
supply_out l (tested d ps t ∷ stack) s = same_out s.out s.out refl
supply_out l (compared m t ∷ stack) s = same_out s.out _ (tell_out (same_literal l m) t.todo t stack s.out)
supply_out l (decides e more r ∷ stack) s = same_out s.out s.out refl
supply_out l (only u place ∷ stack) s = same_out s.out _ (conclude_out (unary_outcome u l) place stack s)
supply_out l (first b place e ∷ stack) s = same_out s.out _ (demand_out e (second b place l ∷ stack) s.out)
supply_out l (second b place m ∷ stack) s = same_out s.out _ (conclude_out (binary_outcome b m l) place stack s)
supply_out l (printing rest ∷ stack) s = print_out l rest stack s

operate_out : (q : Primitive) (place : Span) (es : List Exp) (stack : List Waiting) (s : State) → (operate q place es stack s.out s).out ≡ s.out
operate_out error place [] stack s = refl
operate_out error place (e ∷ es) stack s = refl
operate_out (unary u) place [] stack s = refl
operate_out (unary u) place (e ∷ es) stack s = demand_out e (only u place ∷ drop 1 stack) s.out
operate_out (binary b) place [] stack s = refl
operate_out (binary b) place (e ∷ []) stack s = refl
operate_out (binary b) place (e ∷ d ∷ es) stack s = demand_out e (first b place d ∷ drop 2 stack) s.out

unfold_name_out : (p : Program) (q : Option Primitive) (n : Span) (x : TopName) (stack : List Waiting) (s : State) → (unfold_name p q n x stack s.out s).out ≡ s.out
unfold_name_out p (Some q) n x stack s = operate_out q n (args_of stack) stack s
unfold_name_out p None n x stack s = go_to_out (bound_to p.bindings x) stack s

enter_out : (x : ℕ) (body : Exp) (stack : List Waiting) (s : State) → (enter x body stack s.out s).out ≡ s.out
enter_out x body [] s = refl
enter_out x body (arg e ∷ stack) s = demand_out (close body (put empty x e)) stack s.out
enter_out x body (under d ∷ stack) s = refl
enter_out x body (tested d ps t ∷ stack) s = refl
enter_out x body (compared m t ∷ stack) s = refl
enter_out x body (decides e more r ∷ stack) s = refl
enter_out x body (only u place ∷ stack) s = refl
enter_out x body (first b place e ∷ stack) s = refl
enter_out x body (second b place m ∷ stack) s = refl
enter_out x body (printing rest ∷ stack) s = refl

convert_to_out : (p : Program) (d : Direction) (h : TyCon) (generic : ℕ) (t : TypeTerm Span) (stack : List Waiting) (s : State) → (convert_to p d h generic t stack s.out s).out ≡ s.out
convert_to_out p d h generic t [] s = refl
convert_to_out p d h generic t (arg e ∷ stack) s = go_to_out (converted p.datatypes d h generic t [] e) stack s
convert_to_out p d h generic t (under v ∷ stack) s = refl
convert_to_out p d h generic t (tested v ps u ∷ stack) s = refl
convert_to_out p d h generic t (compared m u ∷ stack) s = refl
convert_to_out p d h generic t (decides e more r ∷ stack) s = refl
convert_to_out p d h generic t (only u place ∷ stack) s = refl
convert_to_out p d h generic t (first b place e ∷ stack) s = refl
convert_to_out p d h generic t (second b place m ∷ stack) s = refl
convert_to_out p d h generic t (printing rest ∷ stack) s = refl

act_eval_out : (p : Program) (e : Exp) (stack : List Waiting) (s : State) → Extends s.out (act_eval p e stack s.out s).out
act_eval_out p (var n x) stack s = same_out s.out s.out refl
act_eval_out p (top n x) stack s = same_out s.out _ (unfold_name_out p (primitive_of x) n x stack s)
act_eval_out p (con n c) stack s = same_out s.out _ (give_out c (args_of stack) (after_args stack) s)
act_eval_out p (lit n l) stack s = supply_out l stack s
act_eval_out p (string n cs) stack s = same_out s.out _ (give_out (string_con cs) (string_args n cs) stack s)
act_eval_out p (lam n x body) stack s = same_out s.out _ (enter_out x body stack s)
act_eval_out p (app n f e) stack s = same_out s.out _ (demand_out f (arg e ∷ stack) s.out)
act_eval_out p (lets n gs body) stack s = same_out s.out _ (demand_out (close body (put_groups gs empty gs)) stack s.out)
act_eval_out p (cases n es rows) stack s = same_out s.out s.out refl
act_eval_out p (call n w t) stack s = same_out s.out _ (go_to_out (called p n w t []) stack s)
act_eval_out p (redef n k text table body) stack s = same_out s.out _ (demand_out (instance (λ w. w) body (local_name k (tylocal k table))) stack s.out)
act_eval_out p (ann n e t) stack s = same_out s.out s.out refl
act_eval_out p (whole e) stack s = same_out s.out s.out refl
act_eval_out p (contents c e) stack s = same_out s.out _ (demand_out e (under c ∷ stack) s.out)
act_eval_out p (convert n d h generic t) stack s = same_out s.out _ (convert_to_out p d h generic t stack s)

act_at_out : (p : Program) (f : Focus) (stack : List Waiting) (s : State) → Extends s.out (act_at p f stack s.out s).out
act_at_out p (eval e) stack s = act_eval_out p e stack s
act_at_out p (matching t) stack s = same_out s.out _ (match_next_out p t.todo t stack s.out)
act_at_out p (falling r) stack s = same_out s.out _ (fall_out r.place r r.rows stack s)

act_in_out : (p : Program) (status : Status) (s : State) → Extends s.out (act_in p status s).out
act_in_out p running s = act_at_out p s.focus s.stack s
act_in_out p ended s = same_out s.out s.out refl
act_in_out p (failed cause place) s = same_out s.out s.out refl

act_out : (p : Program) (s : State) → Extends s.out (act p s).out
act_out p s = act_in_out p s.status s

extends_through : (a b c : List ℕ) → Extends a b → Extends b c → Extends a c
extends_through a b c h k = (h.0 ++ k.0, sym (append_assoc a h.0 k.0) ∙ ap (λ d. d ++ k.0) h.1 ∙ k.1)

pub steps_zero : (p : Program) (s : State) → steps p 0 s ≡ s
unfolding steps
steps_zero p s = refl

pub steps_first : (p : Program) (n : ℕ) (s : State) → steps p (suc n) s ≡ steps p n (act p s)
unfolding steps
steps_first p n s = refl

-- so many steps, and so many more
pub steps_add : (p : Program) (m n : ℕ) (s : State) → steps p n (steps p m s) ≡ steps p (m + n) s
steps_add p zero n s = let e : n ≡ zero + n = omega arith in ap (steps p n) (steps_zero p s) ∙ ap (λ k. steps p k s) e
steps_add p (suc m) n s =
    let e : suc (m + n) ≡ suc m + n = omega arith in
    ap (steps p n) (steps_first p m s) ∙ steps_add p m n (act p s) ∙ sym (steps_first p (m + n) s) ∙ ap (λ k. steps p k s) e

pub steps_out : (p : Program) (n : ℕ) (s : State) → Extends s.out (steps p n s).out
steps_out p zero s = same_out s.out _ (ap (λ (u : State). u.out) (steps_zero p s))
steps_out p (suc n) s =
    extends_through s.out (act p s).out (steps p (suc n) s).out (act_out p s)
    (let h = steps_out p n (act p s) in (h.0, h.1 ∙ sym (ap (λ (u : State). u.out) (steps_first p n s))))

-- what is printed after fewer steps is the beginning of what is printed after more
pub meaning_extends : (p : Program) (e : Exp) (m n : ℕ) → Extends (meaning p e m).out (meaning p e (m + n)).out
meaning_extends p e m n =
    let h = steps_out p n (steps p m (start e)) in (h.0, h.1 ∙ ap (λ (u : State). u.out) (steps_add p m n (start e)))

-- a state that an act leaves as it is stays for ever
pub steps_stay : (p : Program) (s : State) → act p s ≡ s → (n : ℕ) → steps p n s ≡ s
steps_stay p s h zero = steps_zero p s
steps_stay p s h (suc n) = steps_first p n s ∙ ap (steps p n) h ∙ steps_stay p s h n

pub act_over : (p : Program) (s : State) → (s.status ≡ running → ⊥) → act p s ≡ s
act_over p s h = by_status s.status refl
  where
    by_status : (status : Status) → s.status ≡ status → act_in p status s ≡ s
    by_status running e = absurd (h e)
    by_status ended e = refl
    by_status (failed cause place) e = refl

pub meaning_over : (p : Program) (e : Exp) (m n : ℕ) → ((meaning p e m).status ≡ running → ⊥) → meaning p e (m + n) ≡ meaning p e m
meaning_over p e m n h =
    sym (ap seen (steps_add p m n (start e))) ∙ ap seen (steps_stay p (steps p m (start e)) (act_over p (steps p m (start e)) h) n)
