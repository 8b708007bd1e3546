-- What was printed before plays no part in a reduction.
use Rattle.std.proofs.Common.{◌≡◌, ℕ, zero, suc, ◌+◌, List, [], ◌∷◌, ◌++◌, Bool, true, false, cond, Option, Some, None, refl, sym, ap, ◌∙◌, append_assoc, append-nil, length, drop}
use Rattle.std.specs.Prelude.{◌==◌, ◌&&◌}
use Rattle.std.specs.Char.{encode_utf8}
use Rattle.gh_base.specs.declared.place.Origin.{Origin}
use Rattle.gh_base.specs.declared.place.Span.{Span}
use Rattle.gh_core.specs.Terms.{Literal, int, char, Term, var, glob, con, lit, string, prim, lam, app, letrec, cases, stop, whole, contents, con_alt, lit_alt, Alts, no_alt, else_to, alt}
use Rattle.gh_core.specs.Closing.{empty, close, put, put_all, put_rec}
use Rattle.gh_core.specs.Primitives.{Primitive, error, unary, binary, named, primitives, Outcome, gives, fails, nothing, unary_outcome, binary_outcome, nil, cons, same_origin}
use Rattle.gh_core.specs.Reduce.{Waiting, arg, of_case, under, only, first, second, printing, Status, running, ended, failed, State, Program, opened, args_of, after_args, string_con, string_args, at, list_cell, listed, settled_at, demand, defined, unfold_global, enter, choose, choose_literal, same_literal, uncover, give, conclude, print, supply, operate, is_newtype, begin_case, reduce_at, reduce_in, reduce, reductions}
use Rattle.gh_core.specs.Bindings.{names_under, names_bound_in}
use Rattle.gh_machine.specs.Prefix.{with_out, printed_before}

abbrev P : List ℕ → State → State
P = printed_before

cell : (f : List ℕ) (a b : Bool) (es : List Term) (out : List ℕ) (s : State) → list_cell a b es (f ++ out) (P f s) ≡ P f (list_cell a b es out s)
cell f true b [] out s = refl
cell f true b (e ∷ es) out s = refl
cell f false true [] out s = refl
cell f false true (e ∷ []) out s = refl
cell f false true (e ∷ d ∷ []) out s = refl
cell f false true (e ∷ d ∷ x ∷ es) out s = refl
cell f false false es out s = refl

in_list : (f : List ℕ) (c : Origin) (es : List Term) (ws : List Waiting) (out : List ℕ) (s : State) → listed c es ws (f ++ out) (P f s) ≡ P f (listed c es ws out s)
in_list f c es [] out s = cell f (same_origin c nil) (same_origin c cons) es out s
in_list f c es (w ∷ ws) out s = refl

settled : (f : List ℕ) (t : Term) (ws : List Waiting) (out : List ℕ) (s : State) → settled_at t ws (f ++ out) (P f s) ≡ P f (settled_at t ws out s)
settled f (con c) ws out s = in_list f c (args_of ws) (after_args ws) out s
settled f (string cs) ws out s = in_list f (string_con cs) (string_args cs) ws out s
settled f (var x) ws out s = refl
settled f (glob name) ws out s = refl
settled f (lit l) ws out s = refl
settled f (prim p place) ws out s = refl
settled f (lam x body) ws out s = refl
settled f (app g e) ws out s = refl
settled f (letrec bs body) ws out s = refl
settled f (cases t alts) ws out s = refl
settled f (stop place) ws out s = refl
settled f (whole t) ws out s = refl
settled f (contents c t) ws out s = refl

-- a demand
pub demand-before : (f : List ℕ) (t : Term) (ws : List Waiting) (out : List ℕ) → demand t ws (f ++ out) ≡ P f (demand t ws out)
demand-before f t ws out = settled f (opened t) ws out (at t ws out)

unfolds : (f : List ℕ) (o : Option Term) (ws : List Waiting) (out : List ℕ) (s : State) → unfold_global o ws (f ++ out) (P f s) ≡ P f (unfold_global o ws out s)
unfolds f None ws out s = refl
unfolds f (Some t) ws out s = demand-before f t ws out

enters : (f : List ℕ) (x : ℕ) (b : Term) (ws : List Waiting) (out : List ℕ) (s : State) → enter x b ws (f ++ out) (P f s) ≡ P f (enter x b ws out s)
enters f x b [] out s = refl
enters f x b (arg e ∷ ws) out s = demand-before f (close b (put empty x e)) ws out
enters f x b (of_case alts ∷ ws) out s = refl
enters f x b (under c ∷ ws) out s = refl
enters f x b (only u place ∷ ws) out s = refl
enters f x b (first p place e ∷ ws) out s = refl
enters f x b (second p place l ∷ ws) out s = refl
enters f x b (printing rest ∷ ws) out s = refl

either_by : (f : List ℕ) (b : Bool) (s t u v : State) → s ≡ P f u → t ≡ P f v → cond b s t ≡ P f (cond b u v)
either_by f true s t u v d e = d
either_by f false s t u v d e = e

chooses : (f : List ℕ) (alts : Alts) (c : Origin) (es : List Term) (ws : List Waiting) (out : List ℕ) (s : State) → choose alts c es ws (f ++ out) (P f s) ≡ P f (choose alts c es ws out s)
chooses f no_alt c es ws out s = refl
chooses f (else_to t) c es ws out s = demand-before f t ws out
chooses f (alt (con_alt d xs t) more) c es ws out s =
    either_by f (same_origin c d && (length xs == length es)) _ _ _ _ (demand-before f (close t (put_all empty xs es)) ws out) (chooses f more c es ws out s)
chooses f (alt (lit_alt l t) more) c es ws out s = chooses f more c es ws out s

chooses_literal : (f : List ℕ) (alts : Alts) (l : Literal) (ws : List Waiting) (out : List ℕ) (s : State) → choose_literal alts l ws (f ++ out) (P f s) ≡ P f (choose_literal alts l ws out s)
chooses_literal f no_alt l ws out s = refl
chooses_literal f (else_to t) l ws out s = demand-before f t ws out
chooses_literal f (alt (con_alt d xs t) more) l ws out s = chooses_literal f more l ws out s
chooses_literal f (alt (lit_alt m t) more) l ws out s = either_by f (same_literal l m) _ _ _ _ (demand-before f t ws out) (chooses_literal f more l ws out s)

uncovers : (f : List ℕ) (b : Bool) (es : List Term) (ws : List Waiting) (out : List ℕ) (s : State) → uncover b es ws (f ++ out) (P f s) ≡ P f (uncover b es ws out s)
uncovers f false es ws out s = refl
uncovers f true [] ws out s = refl
uncovers f true (e ∷ []) ws out s = demand-before f e ws out
uncovers f true (e ∷ d ∷ es) ws out s = refl

givings : (f : List ℕ) (c : Origin) (es : List Term) (ws : List Waiting) (out : List ℕ) (s : State) → give c es ws (f ++ out) (P f s) ≡ P f (give c es ws out s)
givings f c es [] out s = refl
givings f c es (arg e ∷ ws) out s = refl
givings f c es (of_case alts ∷ ws) out s = chooses f alts c es ws out s
givings f c es (under d ∷ ws) out s = uncovers f (same_origin c d) es ws out s
givings f c es (only u place ∷ ws) out s = refl
givings f c es (first b place e ∷ ws) out s = refl
givings f c es (second b place l ∷ ws) out s = refl
givings f c es (printing rest ∷ ws) out s = refl

concludes : (f : List ℕ) (o : Outcome) (place : Span) (ws : List Waiting) (out : List ℕ) (s : State) → conclude o place ws (f ++ out) (P f s) ≡ P f (conclude o place ws out s)
concludes f (gives t) place ws out s = demand-before f t ws out
concludes f (fails cause) place ws out s = refl
concludes f nothing place ws out s = refl

prints : (f : List ℕ) (l : Literal) (rest : Term) (ws : List Waiting) (out : List ℕ) (s : State) → print l rest ws (f ++ out) (P f s) ≡ P f (print l rest ws out s)
prints f (char c) rest ws out s = ap (demand rest ws) (append_assoc f out (encode_utf8 c)) ∙ demand-before f rest ws (out ++ encode_utf8 c)
prints f (int n) rest ws out s = refl

supplies : (f : List ℕ) (l : Literal) (ws : List Waiting) (out : List ℕ) (s : State) → supply l ws (f ++ out) (P f s) ≡ P f (supply l ws out s)
supplies f l [] out s = refl
supplies f l (arg e ∷ ws) out s = refl
supplies f l (of_case alts ∷ ws) out s = chooses_literal f alts l ws out s
supplies f l (under c ∷ ws) out s = refl
supplies f l (only u place ∷ ws) out s = concludes f (unary_outcome u l) place ws out s
supplies f l (first b place e ∷ ws) out s = demand-before f e (second b place l ∷ ws) out
supplies f l (second b place m ∷ ws) out s = concludes f (binary_outcome b m l) place ws out s
supplies f l (printing rest ∷ ws) out s = prints f l rest ws out s

operates : (f : List ℕ) (o : Option Primitive) (place : Span) (es : List Term) (ws : List Waiting) (out : List ℕ) (s : State) → operate o place es ws (f ++ out) (P f s) ≡ P f (operate o place es ws out s)
operates f None place es ws out s = refl
operates f (Some error) place [] ws out s = refl
operates f (Some error) place (e ∷ es) ws out s = refl
operates f (Some (unary u)) place [] ws out s = refl
operates f (Some (unary u)) place (e ∷ es) ws out s = demand-before f e (only u place ∷ drop 1 ws) out
operates f (Some (binary b)) place [] ws out s = refl
operates f (Some (binary b)) place (e ∷ []) ws out s = refl
operates f (Some (binary b)) place (e ∷ d ∷ es) ws out s = demand-before f e (first b place d ∷ drop 2 ws) out

begins : (f : List ℕ) (nt : List Origin) (t : Term) (alts : Alts) (ws : List Waiting) (out : List ℕ) → begin_case nt t alts ws (f ++ out) ≡ P f (begin_case nt t alts ws out)
begins f nt t no_alt ws out = demand-before f t (of_case no_alt ∷ ws) out
begins f nt t (else_to e) ws out = demand-before f t (of_case (else_to e) ∷ ws) out
begins f nt t (alt (lit_alt l e) more) ws out = demand-before f t (of_case (alt (lit_alt l e) more) ∷ ws) out
begins f nt t (alt (con_alt c [] e) more) ws out = demand-before f t (of_case (alt (con_alt c [] e) more) ∷ ws) out
begins f nt t (alt (con_alt c (x ∷ y ∷ xs) e) more) ws out = demand-before f t (of_case (alt (con_alt c (x ∷ y ∷ xs) e) more) ∷ ws) out
begins f nt t (alt (con_alt c (x ∷ []) e) more) ws out =
    either_by f (is_newtype nt c) _ _ _ _ (demand-before f (close e (put empty x (contents c t))) ws out) (demand-before f t (of_case (alt (con_alt c (x ∷ []) e) more) ∷ ws) out)

reduces_at : (f : List ℕ) (p : Program) (t : Term) (ws : List Waiting) (out : List ℕ) (s : State) → reduce_at p t ws (f ++ out) (P f s) ≡ P f (reduce_at p t ws out s)
reduces_at f p (var x) ws out s = refl
reduces_at f p (glob name) ws out s = unfolds f (defined p.defs name) ws out s
reduces_at f p (con c) ws out s = givings f c (args_of ws) (after_args ws) out s
reduces_at f p (lit l) ws out s = supplies f l ws out s
reduces_at f p (string cs) ws out s = givings f (string_con cs) (string_args cs) ws out s
reduces_at f p (prim name place) ws out s = operates f (named primitives name) place (args_of ws) ws out s
reduces_at f p (lam x body) ws out s = enters f x body ws out s
reduces_at f p (app g e) ws out s = demand-before f g (arg e ∷ ws) out
reduces_at f p (letrec bs body) ws out s = demand-before f (close body (put_rec bs empty bs)) ws out
reduces_at f p (cases t alts) ws out s = begins f p.newtypes t alts ws out
reduces_at f p (stop place) ws out s = refl
reduces_at f p (whole t) ws out s = refl
reduces_at f p (contents c t) ws out s = demand-before f t (under c ∷ ws) out

reduces_in : (f : List ℕ) (p : Program) (status : Status) (s : State) → reduce_in p status (P f s) ≡ P f (reduce_in p status s)
reduces_in f p running s = reduces_at f p s.focus s.stack s.out s
reduces_in f p ended s = refl
reduces_in f p (failed cause place) s = refl

-- reductions go on alike whatever was printed before
pub reductions-before : (f : List ℕ) (p : Program) (n : ℕ) (s : State) → reductions p n (printed_before f s) ≡ printed_before f (reductions p n s)
unfolding reductions
reductions-before f p zero s = refl
reductions-before f p (suc n) s = ap (reductions p n) (reduces_in f p s.status s) ∙ reductions-before f p n (reduce p s)

-- what a run that was cleared prints stands after what was printed before
pub reductions-cleared : (p : Program) (n : ℕ) (s : State) → printed_before s.out (reductions p n (with_out [] s)) ≡ reductions p n s
reductions-cleared p n s = sym (reductions-before s.out p n (with_out [] s)) ∙ ap (λ out. reductions p n (with_out out s)) (append-nil s.out)

names_before_in : (f : List ℕ) (p : Program) (status : Status) (s : State) → names_under p status (P f s) ≡ names_under p status s
names_before_in f p running s = refl
names_before_in f p ended s = refl
names_before_in f p (failed cause place) s = refl

-- and they bind as many names
pub names-before : (f : List ℕ) (p : Program) (n : ℕ) (s : State) → names_bound_in p n (printed_before f s) ≡ names_bound_in p n s
unfolding names_bound_in
names-before f p zero s = refl
names-before f p (suc n) s =
    let next : names_bound_in p n (reduce p (P f s)) ≡ names_bound_in p n (reduce p s) = ap (names_bound_in p n) (reduces_in f p s.status s) ∙ names-before f p n (reduce p s) in
    λ i. names_before_in f p s.status s i + next i

pub names-cleared : (p : Program) (n : ℕ) (s : State) → names_bound_in p n (with_out [] s) ≡ names_bound_in p n s
names-cleared p n s = sym (names-before s.out p n (with_out [] s)) ∙ ap (λ out. names_bound_in p n (with_out out s)) (append-nil s.out)

-- the pieces join: those bytes, then these, are all of them
pub before-before : (f g : List ℕ) (s : State) → printed_before f (printed_before g s) ≡ printed_before (f ++ g) s
before-before f g s = ap (λ out. with_out out s) (sym (append_assoc f g s.out))
