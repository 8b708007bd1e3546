-- How many names each reduction binds, case by case as in Reduce.
use Rattle.std.specs.Prelude.{ℕ, zero, suc, ◌+◌, cond, ◌==◌, ◌&&◌, List, [], ◌∷◌, length}
use Rattle.gh_base.specs.declared.place.Origin.{Origin}
use Rattle.gh_core.specs.Terms.{Term, con, string, lam, letrec, cases, Binds, no_bind, bind, con_alt, lit_alt, Alts, no_alt, else_to, alt}
use Rattle.gh_core.specs.Primitives.{same_origin}
use Rattle.gh_core.specs.Reduce.{Waiting, arg, of_case, Status, running, ended, failed, State, Program, args_of, after_args, string_con, string_args, is_newtype, reduce}

-- a letrec binds as many names as it has bindings
abbrev pub binding_count : Binds → ℕ
binding_count no_bind = 0
binding_count (bind x t rest) = suc (binding_count rest)

-- a function that is entered with its argument binds one
abbrev pub names_entered : List Waiting → ℕ
names_entered (arg e ∷ stack) = 1
names_entered stack = 0

-- a case binds the names of the first alternative for a constructor with these arguments, and none where it goes on with the else
abbrev pub names_chosen : Alts → Origin → List Term → ℕ
names_chosen no_alt c es = 0
names_chosen (else_to t) c es = 0
names_chosen (alt (con_alt d xs t) more) c es = cond (same_origin c d && (length xs == length es)) (length xs) (names_chosen more c es)
names_chosen (alt (lit_alt l t) more) c es = names_chosen more c es

-- a constructor with its arguments, and what waits for it
abbrev pub names_given : Origin → List Term → List Waiting → ℕ
names_given c es (of_case alts ∷ stack) = names_chosen alts c es
names_given c es stack = 0

-- a case whose first alternative has a newtype's constructor with one name binds it at once, and any other case binds none yet
abbrev pub names_begun : List Origin → Alts → ℕ
names_begun newtypes (alt (con_alt c (x ∷ []) e) more) = cond (is_newtype newtypes c) 1 0
names_begun newtypes alts = 0

-- no other term binds names where it is demanded
abbrev pub names_at : Program → Term → List Waiting → ℕ
names_at p (con c) stack = names_given c (args_of stack) (after_args stack)
names_at p (string cs) stack = names_given (string_con cs) (string_args cs) stack
names_at p (lam x body) stack = names_entered stack
names_at p (letrec bs body) stack = binding_count bs
names_at p (cases t alts) stack = names_begun p.newtypes alts
names_at p t stack = 0

abbrev pub names_under : Program → Status → State → ℕ
names_under p running s = names_at p s.focus s.stack
names_under p ended s = 0
names_under p (failed cause place) s = 0

-- the number of names that the next reduction of a state binds
abbrev pub names_bound : Program → State → ℕ
names_bound p s = names_under p s.status s

-- the number of names that so many reductions bind
unfoldable pub names_bound_in : Program → ℕ → State → ℕ
names_bound_in p zero s = 0
names_bound_in p (suc n) s = names_bound p s + names_bound_in p n (reduce p s)
