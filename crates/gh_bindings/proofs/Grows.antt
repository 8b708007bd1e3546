-- What the meaning of bindings has shown stays.
use Rattle.std.proofs.Common.{◌≡◌, ℕ, List, [], ◌∷◌, ◌++◌, Bool, true, false, cond, Option, Some, None, refl, sym, length}
use Rattle.std.specs.Prelude.{◌&&◌, ◌==◌}
use Rattle.std.specs.Char.{encode_utf8}
use Rattle.gh_base.specs.declared.place.Origin.{Origin}
use Rattle.gh_base.specs.declared.place.Span.{Span}
use Rattle.gh_core.specs.Primitives.{nil, cons, same_origin}
use Rattle.gh_core.specs.Reduce.{Status, running, ended, failed, string_con}
use Rattle.gh_keeps.specs.Keeps.{Reaches}
use Rattle.gh_bindings.specs.Source as source
use Rattle.gh_bindings.specs.Acts as model
use Rattle.gh_keeps.proofs.Bridge.{reaches_itself}
use Rattle.gh_keeps.proofs.Rises.{More, same_out, after_running}

cell_out : (b c : Bool) (es : List source.Expression) (out : List ℕ) (s : model.State) → s.out ≡ out → (model.list_cell b c es out s).out ≡ out
cell_out true c [] out s h = h
cell_out true c (e ∷ es) out s h = h
cell_out false true [] out s h = h
cell_out false true (e ∷ []) out s h = h
cell_out false true (e ∷ rest ∷ []) out s h = refl
cell_out false true (e ∷ rest ∷ x ∷ es) out s h = h
cell_out false false es out s h = h

listed_out : (c : Origin) (es : List source.Expression) (stack : List model.Frame) (out : List ℕ) (s : model.State) → s.out ≡ out → (model.listed c es stack out s).out ≡ out
listed_out c es [] out s h = cell_out (same_origin c nil) (same_origin c cons) es out s h
listed_out c es (fr ∷ stack) out s h = h

settled_out : (e : source.Expression) (stack : List model.Frame) (out : List ℕ) (s : model.State) → s.out ≡ out → (model.settled e stack out s).out ≡ out
settled_out (source.con c) stack out s h = listed_out c (model.args_of stack) (model.after_args stack) out s h
settled_out (source.string cs) stack out s h = listed_out (string_con cs) (model.string_args cs) stack out s h
settled_out (source.var x) stack out s h = h
settled_out (source.top name) stack out s h = h
settled_out (source.char c) stack out s h = h
settled_out (source.lam x body) stack out s h = h
settled_out (source.app f e) stack out s h = h
settled_out (source.cases place es rows) stack out s h = h
settled_out (source.whole e) stack out s h = h

more_demand : (e : source.Expression) (stack : List model.Frame) (out : List ℕ) → More out (model.demand e stack out).out
more_demand e stack out = same_out out _ (settled_out (source.opened e) stack out (model.go (model.eval (source.opened e)) stack out) refl)

more_name : (o : Option source.Expression) (stack : List model.Frame) (s : model.State) → More s.out (model.unfold_name o stack s.out s).out
more_name None stack s = same_out s.out _ refl
more_name (Some e) stack s = more_demand e stack s.out

more_enter : (x : ℕ) (body : source.Expression) (stack : List model.Frame) (s : model.State) → More s.out (model.enter x body stack s.out s).out
more_enter x body [] s = same_out s.out _ refl
more_enter x body (model.arg e ∷ stack) s = more_demand (source.close body (source.put source.empty x e)) stack s.out
more_enter x body (model.testing c ps t ∷ stack) s = same_out s.out _ refl
more_enter x body (model.printing rest ∷ stack) s = same_out s.out _ refl

more_next : (todo : List (source.Pattern × source.Expression)) (bound : source.Env) (t : model.Trying) (stack : List model.Frame) (out : List ℕ) → More out (model.next todo bound t stack out).out
more_next [] bound t stack out = more_demand (source.close t.body bound) stack out
more_next (p ∷ todo) bound t stack out = same_out out _ refl

more_pattern : (p : source.Pattern) (e : source.Expression) (todo : List (source.Pattern × source.Expression)) (t : model.Trying) (stack : List model.Frame) (out : List ℕ)
    → More out (model.try_pattern p e todo t stack out).out
more_pattern (source.pattern_var x) e todo t stack out = more_next todo (source.put t.bound x e) t stack out
more_pattern (source.pattern_con c ps) e todo t stack out = more_demand e _ out

more_todo : (todo : List (source.Pattern × source.Expression)) (t : model.Trying) (stack : List model.Frame) (out : List ℕ) → More out (model.try_todo todo t stack out).out
more_todo [] t stack out = more_demand (source.close t.body t.bound) stack out
more_todo (p ∷ todo) t stack out = more_pattern p.0 p.1 todo t stack out

more_row : (place : Span) (es : source.Arguments) (rows : source.Rows) (stack : List model.Frame) (s : model.State) → More s.out (model.first_row place es rows stack s.out s).out
more_row place es source.no_row stack s = same_out s.out _ refl
more_row place es (source.row ps body rest) stack s =
    let todo = model.meet ps (model.list_of es) [] in
    more_todo todo (record { todo = todo; bound = source.empty; body = body; place = place; arguments = es; rows = rest }) stack s.out

more_cond : (b : Bool) (out : List ℕ) (x y : model.State) → More out x.out → More out y.out → More out (cond b x y).out
more_cond true out x y p q = p
more_cond false out x y p q = q

more_give : (d : Origin) (es : List source.Expression) (stack : List model.Frame) (s : model.State) → More s.out (model.give d es stack s.out s).out
more_give d es [] s = same_out s.out _ refl
more_give d es (model.arg e ∷ stack) s = same_out s.out _ refl
more_give d es (model.printing rest ∷ stack) s = same_out s.out _ refl
more_give d es (model.testing c ps t ∷ stack) s =
    more_cond (same_origin d c && (model.count ps == length es)) s.out (model.next (model.meet ps es t.todo) t.bound t stack s.out) (model.go (model.lost t) stack s.out)
    (more_next (model.meet ps es t.todo) t.bound t stack s.out) (same_out s.out _ refl)

more_print : (c : ℕ) (stack : List model.Frame) (s : model.State) → More s.out (model.print c stack s.out s).out
more_print c [] s = same_out s.out _ refl
more_print c (model.arg e ∷ stack) s = same_out s.out _ refl
more_print c (model.testing d ps t ∷ stack) s = same_out s.out _ refl
more_print c (model.printing rest ∷ stack) s = (encode_utf8 c, sym (settled_out (source.opened rest) stack (s.out ++ encode_utf8 c) _ refl))

more_eval : (defs : List (Origin × source.Expression)) (e : source.Expression) (stack : List model.Frame) (s : model.State) → More s.out (model.act_eval defs e stack s.out s).out
more_eval defs (source.var x) stack s = same_out s.out _ refl
more_eval defs (source.top name) stack s = more_name (model.defined defs name) stack s
more_eval defs (source.con c) stack s = more_give c (model.args_of stack) (model.after_args stack) s
more_eval defs (source.char c) stack s = more_print c stack s
more_eval defs (source.string cs) stack s = more_give (string_con cs) (model.string_args cs) stack s
more_eval defs (source.lam x body) stack s = more_enter x body stack s
more_eval defs (source.app f e) stack s = more_demand f _ s.out
more_eval defs (source.cases place es rows) stack s = more_row place es rows stack s
more_eval defs (source.whole e) stack s = same_out s.out _ refl

more_focus : (defs : List (Origin × source.Expression)) (f : model.Focus) (s : model.State) → More s.out (model.act_focus defs f s.stack s.out s).out
more_focus defs (model.eval e) s = more_eval defs e s.stack s
more_focus defs (model.trying t) s = more_todo t.todo t s.stack s.out
more_focus defs (model.lost t) s = more_demand (source.cases t.place t.arguments t.rows) s.stack s.out

grows_by : (defs : List (Origin × source.Expression)) (st : Status) (s : model.State) → s.status ≡ st → Reaches (model.seen s) (model.seen (model.act_in defs st s))
grows_by defs running s e = after_running (model.seen s) _ e (more_focus defs s.focus s)
grows_by defs ended s e = reaches_itself (model.seen s)
grows_by defs (failed c x) s e = reaches_itself (model.seen s)

pub grows : (defs : List (Origin × source.Expression)) (s : model.State) → Reaches (model.seen s) (model.seen (model.act defs s))
grows defs s = grows_by defs s.status s refl
