-- What waits, and the frames that stand for it.
use Rattle.std.proofs.Common.{◌≡◌, ℕ, zero, suc, ◌+◌, ◌-◌, ◌≤◌, ◌<◌, List, [], ◌∷◌, ◌++◌, length, take, drop, get_or, refl, sym, ap, ◌∙◌, subst, arith}
use Rattle.std.specs.Prelude.{pos}
use Rattle.std.proofs.lemmas.List.{take_more}
use Rattle.gh_core.specs.Closing.{Env, close, close_alts}
use Rattle.gh_core.specs.Reading.{term_of}
use Rattle.gh_core.specs.Reduce.{Waiting, arg, of_case, under, only, first, second, printing, args_of, after_args}
use Rattle.gh_machine.specs.Unload.{env_in, env_of, code_in, closed_in, alts_in}
use Rattle.gh_machine.specs.Values.{binary_of}
use Rattle.gh_machine.specs.Stacks.{stack_in, waiting_in, env_of_frame, AreWithin}
use Rattle.gh_machine.specs.declared.closure.Closure.TheVariants.{Digits}
use Rattle.gh_machine.specs.declared.closure.Frame.{Frame}
use Rattle.gh_machine.specs.declared.closure.Frame.TheVariants.{Arg, OfCase, Under, Only, First, Second, Printing}

pub stack_in-push : (envs : List Env) (below : List Waiting) (fs : List Frame) (f : Frame) → stack_in envs below (fs ++ f ∷ []) ≡ waiting_in envs f ∷ stack_in envs below fs
stack_in-push envs below [] f = refl
stack_in-push envs below (g ∷ fs) f = stack_in-push envs (waiting_in envs g ∷ below) fs f

take_whole : {X : Type 0} (xs : List X) → take (length xs) xs ≡ xs
take_whole [] = refl
take_whole (x ∷ xs) = ap (λ ys. x ∷ ys) (take_whole xs)

pub drop_next : {X : Type 0} (n : ℕ) (xs : List X) → drop (suc n) xs ≡ drop 1 (drop n xs)
drop_next zero xs = refl
drop_next (suc n) [] = refl
drop_next (suc n) (x ∷ xs) = drop_next n xs

pub drop_beyond : {X : Type 0} (n : ℕ) (xs : List X) → length xs ≤ n → drop n xs ≡ []
drop_beyond zero [] le = refl
drop_beyond zero (x ∷ xs) le = absurd (omega arith)
drop_beyond (suc n) [] le = refl
drop_beyond (suc n) (x ∷ xs) le = drop_beyond n xs (omega arith)

length-stack_in-below : (envs : List Env) (below : List Waiting) (fs : List Frame) → length (stack_in envs below fs) ≡ length fs + length below
length-stack_in-below envs below [] = omega arith
length-stack_in-below envs below (f ∷ fs) = omega (arith, length-stack_in-below envs (waiting_in envs f ∷ below) fs)

pub length-stack_in : (envs : List Env) (fs : List Frame) → length (stack_in envs [] fs) ≡ length fs
length-stack_in envs fs = omega (arith, length-stack_in-below envs [] fs)

some_frame : Frame
some_frame = Printing (Digits 0 (pos 0))

-- without the innermost
pub drop_stack : (envs : List Env) (fs : List Frame) (n : ℕ) → n ≤ length fs → drop n (stack_in envs [] fs) ≡ stack_in envs [] (take (length fs - n) fs)
drop_stack envs fs zero le =
    let e : length fs ≡ length fs - 0 = omega arith in
    ap (stack_in envs []) (sym (take_whole fs) ∙ ap (λ k. take k fs) e)
drop_stack envs fs (suc n) le =
    let i = length fs - suc n in
    let e : length fs - n ≡ i + 1 = omega arith in
    let cut : take (length fs - n) fs ≡ take i fs ++ get_or fs i some_frame ∷ [] = ap (λ k. take k fs) e ∙ take_more fs i some_frame (omega arith) in
    drop_next n (stack_in envs [] fs)
    ∙ ap (drop 1) (drop_stack envs fs n (omega arith) ∙ ap (stack_in envs []) cut ∙ stack_in-push envs [] (take i fs) (get_or fs i some_frame))

-- what waits at a place
pub frame_is : (envs : List Env) (fs : List Frame) (i : ℕ) (f : Frame) → i < length fs → f ≡ get_or fs (length fs - 1 - i) f → drop i (stack_in envs [] fs) ≡ waiting_in envs f ∷ drop (i + 1) (stack_in envs [] fs)
frame_is envs fs i f lt at =
    let k = length fs - 1 - i in
    let e : length fs - i ≡ k + 1 = omega arith in
    let e2 : length fs - (i + 1) ≡ k = omega arith in
    drop_stack envs fs i (omega arith)
    ∙ ap (λ n. stack_in envs [] (take n fs)) e
    ∙ ap (stack_in envs []) (take_more fs k f (omega arith) ∙ ap (λ g. take k fs ++ g ∷ []) (sym at))
    ∙ stack_in-push envs [] (take k fs) f
    ∙ ap (λ ws. waiting_in envs f ∷ ws) (sym (drop_stack envs fs (i + 1) (omega arith) ∙ ap (λ n. stack_in envs [] (take n fs)) e2))

pub frame_none : (envs : List Env) (fs : List Frame) (i : ℕ) → length fs ≤ i → drop i (stack_in envs [] fs) ≡ []
frame_none envs fs i le = drop_beyond i (stack_in envs [] fs) (omega (arith, length-stack_in envs fs))

pub within_at : (n : ℕ) (fs : List Frame) (i : ℕ) (f : Frame) → AreWithin n fs → i < length fs → f ≡ get_or fs i f → env_of_frame f ≤ n
within_at n [] i f h lt e = absurd (omega arith)
within_at n (g ∷ fs) zero f h lt e = subst (λ x. env_of_frame x ≤ n) (sym e) h.0
within_at n (g ∷ fs) (suc i) f h lt e = within_at n fs i f h.1 (omega arith) e

pub within-push : (n : ℕ) (fs : List Frame) (f : Frame) → AreWithin n fs → env_of_frame f ≤ n → AreWithin n (fs ++ f ∷ [])
within-push n [] f h le = (le, tt)
within-push n (g ∷ fs) f h le = (h.0, within-push n fs f h.1 le)

pub within_more : (n m : ℕ) (fs : List Frame) → n ≤ m → AreWithin n fs → AreWithin m fs
within_more n m [] le h = tt
within_more n m (g ∷ fs) le h = let k = h.0 in (omega arith, within_more n m fs le h.1)

pub within_take : (n k : ℕ) (fs : List Frame) → AreWithin n fs → AreWithin n (take k fs)
within_take n zero fs h = tt
within_take n (suc k) [] h = tt
within_take n (suc k) (f ∷ fs) h = (h.0, within_take n k fs h.1)

waiting_same : (envs more : List Env) (n : ℕ) (f : Frame) → ((e : ℕ) → e ≤ n → env_in more e ≡ env_in envs e) → env_of_frame f ≤ n → waiting_in more f ≡ waiting_in envs f
waiting_same envs more n (Arg v) h le = ap (λ ρ. arg (close (code_in v) ρ)) (h (env_of v) le)
waiting_same envs more n (OfCase e t) h le = ap (λ ρ. of_case (close_alts (alts_in (term_of t.now)) ρ)) (h e le)
waiting_same envs more n (Under c) h le = refl
waiting_same envs more n (Only u place) h le = refl
waiting_same envs more n (First b place v) h le = ap (λ ρ. first (binary_of b) place (close (code_in v) ρ)) (h (env_of v) le)
waiting_same envs more n (Second b place l) h le = refl
waiting_same envs more n (Printing v) h le = ap (λ ρ. printing (close (code_in v) ρ)) (h (env_of v) le)

stack_same_below : (envs more : List Env) (n : ℕ) (below : List Waiting) (fs : List Frame) → ((e : ℕ) → e ≤ n → env_in more e ≡ env_in envs e) → AreWithin n fs → stack_in more below fs ≡ stack_in envs below fs
stack_same_below envs more n below [] h w = refl
stack_same_below envs more n below (f ∷ fs) h w =
    ap (λ x. stack_in more (x ∷ below) fs) (waiting_same envs more n f h w.0) ∙ stack_same_below envs more n (waiting_in envs f ∷ below) fs h w.1

-- more cells change nothing of what waits
pub stack_same : (envs more : List Env) (n : ℕ) (fs : List Frame) → ((e : ℕ) → e ≤ n → env_in more e ≡ env_in envs e) → AreWithin n fs → stack_in more [] fs ≡ stack_in envs [] fs
stack_same envs more n fs h w = stack_same_below envs more n [] fs h w

-- the arguments, and what waits behind them
pub after_is : (ws : List Waiting) → after_args ws ≡ drop (length (args_of ws)) ws
after_is [] = refl
after_is (arg e ∷ ws) = after_is ws
after_is (of_case alts ∷ ws) = refl
after_is (under c ∷ ws) = refl
after_is (only u place ∷ ws) = refl
after_is (first b place e ∷ ws) = refl
after_is (second b place l ∷ ws) = refl
after_is (printing rest ∷ ws) = refl

-- the arguments from a place on
pub args_from : (i : ℕ) (ws : List Waiting) → i ≤ length (args_of ws) → drop i (args_of ws) ≡ args_of (drop i ws)
args_from zero ws le = refl
args_from (suc i) [] le = refl
args_from (suc i) (arg e ∷ ws) le = args_from i ws (omega arith)
args_from (suc i) (of_case alts ∷ ws) le = absurd (omega arith)
args_from (suc i) (under c ∷ ws) le = absurd (omega arith)
args_from (suc i) (only u place ∷ ws) le = absurd (omega arith)
args_from (suc i) (first b place e ∷ ws) le = absurd (omega arith)
args_from (suc i) (second b place l ∷ ws) le = absurd (omega arith)
args_from (suc i) (printing rest ∷ ws) le = absurd (omega arith)

-- where the arguments are all that waits, nothing is behind them
pub after_all : (ws : List Waiting) → length (args_of ws) ≡ length ws → after_args ws ≡ []
after_all ws e = after_is ws ∙ drop_beyond (length (args_of ws)) ws (omega arith)

pub has_more : (ws : List Waiting) → length (args_of ws) ≤ length ws
has_more [] = omega arith
has_more (arg e ∷ ws) = omega (arith, has_more ws)
has_more (of_case alts ∷ ws) = omega arith
has_more (under c ∷ ws) = omega arith
has_more (only u place ∷ ws) = omega arith
has_more (first b place e ∷ ws) = omega arith
has_more (second b place l ∷ ws) = omega arith
has_more (printing rest ∷ ws) = omega arith

pub stack_empty : (envs : List Env) (fs : List Frame) → length fs ≡ 0 → stack_in envs [] fs ≡ []
stack_empty envs [] e = refl
stack_empty envs (f ∷ fs) e = absurd (omega arith)

args_same : (envs more : List Env) (below over : List Waiting) (fs : List Frame) → length (args_of below) ≡ length (args_of over) → length (args_of (stack_in envs below fs)) ≡ length (args_of (stack_in more over fs))
args_same envs more below over [] e = e
args_same envs more below over (Arg v ∷ fs) e = args_same envs more (arg (closed_in envs v) ∷ below) (arg (closed_in more v) ∷ over) fs (omega arith)
args_same envs more below over (OfCase n t ∷ fs) e = args_same envs more (waiting_in envs (OfCase n t) ∷ below) (waiting_in more (OfCase n t) ∷ over) fs refl
args_same envs more below over (Under c ∷ fs) e = args_same envs more (waiting_in envs (Under c) ∷ below) (waiting_in more (Under c) ∷ over) fs refl
args_same envs more below over (Only u place ∷ fs) e = args_same envs more (waiting_in envs (Only u place) ∷ below) (waiting_in more (Only u place) ∷ over) fs refl
args_same envs more below over (First b place v ∷ fs) e = args_same envs more (waiting_in envs (First b place v) ∷ below) (waiting_in more (First b place v) ∷ over) fs refl
args_same envs more below over (Second b place l ∷ fs) e = args_same envs more (waiting_in envs (Second b place l) ∷ below) (waiting_in more (Second b place l) ∷ over) fs refl
args_same envs more below over (Printing v ∷ fs) e = args_same envs more (waiting_in envs (Printing v) ∷ below) (waiting_in more (Printing v) ∷ over) fs refl

-- how many arguments wait does not depend on the environments
pub args_length : (envs more : List Env) (fs : List Frame) → length (args_of (stack_in envs [] fs)) ≡ length (args_of (stack_in more [] fs))
args_length envs more fs = args_same envs more [] [] fs refl

-- what waits behind the arguments, by its frame
pub behind_frame : (envs : List Env) (fs gs hs : List Frame) (n : ℕ) (f g : Frame) → gs ≡ fs → hs ≡ fs → length (args_of (stack_in envs [] gs)) ≡ n → drop n (stack_in envs [] hs) ≡ waiting_in envs f ∷ drop (n + 1) (stack_in envs [] hs) → f ≡ g
    → after_args (stack_in envs [] fs) ≡ waiting_in envs g ∷ drop (n + 1) (stack_in envs [] fs)
behind_frame envs fs gs hs n f g a b count at is =
    let ws = stack_in envs [] fs in
    let P : List Frame → Type 0 = λ ks. drop n (stack_in envs [] ks) ≡ waiting_in envs f ∷ drop (n + 1) (stack_in envs [] ks) in
    let e : length (args_of ws) ≡ n = ap (λ ks. length (args_of (stack_in envs [] ks))) (sym a) ∙ count in
    after_is ws ∙ ap (λ k. drop k ws) e ∙ subst P b at ∙ ap (λ k. waiting_in envs k ∷ drop (n + 1) ws) is

pub behind_none : (envs : List Env) (fs gs hs : List Frame) (n : ℕ) → gs ≡ fs → hs ≡ fs → length (args_of (stack_in envs [] gs)) ≡ n → drop n (stack_in envs [] hs) ≡ [] → after_args (stack_in envs [] fs) ≡ []
behind_none envs fs gs hs n a b count at =
    let ws = stack_in envs [] fs in
    let e : length (args_of ws) ≡ n = ap (λ ks. length (args_of (stack_in envs [] ks))) (sym a) ∙ count in
    after_is ws ∙ ap (λ k. drop k ws) e ∙ subst (λ ks. drop n (stack_in envs [] ks) ≡ []) b at
