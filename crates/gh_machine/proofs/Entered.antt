-- A body in an environment is the body with its names put in.
use Rattle.std.proofs.Common.{◌≡◌, ℕ, List, [], ◌∷◌, length, Bool, true, false, cond, Option, Some, None, refl, sym, ap, ◌∙◌, arith}
use Rattle.std.specs.Prelude.{◌==◌, ◌||◌}
use Rattle.gh_core.specs.Terms.{Term, letrec, Binds, no_bind, bind}
use Rattle.gh_core.specs.Closing.{Env, empty, is_in, binds_name, without, close, close_binds, put, put_all, put_rec}
use Rattle.gh_core.proofs.Close.{first_in, over, close-close}

first_none : (o : Option Term) → first_in o None ≡ o
first_none None = refl
first_none (Some t) = refl

one_by : (b : Bool) (o : Option Term) (e : Term) → first_in (cond b None o) (cond b (Some e) None) ≡ cond b (Some e) o
one_by true o e = refl
one_by false o e = first_none o

-- a function's body
pub close_entered : (b : Term) (ρ : Env) (x : ℕ) (e : Term) → close (close b (without ρ (λ y. y == x))) (put empty x e) ≡ close b (put ρ x e)
close_entered b ρ x e = close-close b (without ρ (λ y. y == x)) (put empty x e) ∙ ap (close b) (λ i y. one_by (y == x) (ρ y) e i)

more_by : (q r : Bool) (o p s : Option Term) (e : Term) → first_in (cond r None o) p ≡ s → first_in (cond (q || r) None o) (cond q (Some e) p) ≡ cond q (Some e) s
more_by true r o p s e h = refl
more_by false r o p s e h = h

binds-close : (bs : Binds) (σ : Env) → binds_name (close_binds bs σ) ≡ binds_name bs
binds-close no_bind σ = refl
binds-close (bind x t rest) σ = λ i y. y == x || binds-close rest σ i y

rec_over : (all cs : Binds) (ρ : Env) (y : ℕ) → first_in (cond (binds_name cs y) None (ρ y)) (put_rec all empty cs y) ≡ put_rec all ρ cs y
rec_over all no_bind ρ y = first_none (ρ y)
rec_over all (bind x t rest) ρ y = more_by (y == x) (binds_name rest y) (ρ y) (put_rec all empty rest y) (put_rec all ρ rest y) (letrec all t) (rec_over all rest ρ y)

-- a term under the bindings of a letrec
pub close_unrolled : (bs : Binds) (b : Term) (ρ : Env) →
    (let cs = close_binds bs (without ρ (binds_name bs)) in close (close b (without ρ (binds_name bs))) (put_rec cs empty cs) ≡ close b (put_rec cs ρ cs))
close_unrolled bs b ρ =
    let cs = close_binds bs (without ρ (binds_name bs)) in
    close-close b (without ρ (binds_name bs)) (put_rec cs empty cs)
    ∙ ap (λ p. close b (over (without ρ p) (put_rec cs empty cs))) (sym (binds-close bs (without ρ (binds_name bs))))
    ∙ ap (close b) (λ i y. rec_over cs cs ρ y i)

all_over : (xs : List ℕ) (es : List Term) (ρ : Env) (y : ℕ) → length xs ≡ length es → first_in (cond (is_in xs y) None (ρ y)) (put_all empty xs es y) ≡ put_all ρ xs es y
all_over [] es ρ y e = first_none (ρ y)
all_over (x ∷ xs) [] ρ y e = absurd (omega arith)
all_over (x ∷ xs) (t ∷ es) ρ y e = more_by (y == x) (is_in xs y) (ρ y) (put_all empty xs es y) (put_all ρ xs es y) t (all_over xs es ρ y (omega arith))

-- an alternative, its names put in
pub close_chosen : (t : Term) (ρ : Env) (xs : List ℕ) (es : List Term) → length xs ≡ length es → close (close t (without ρ (is_in xs))) (put_all empty xs es) ≡ close t (put_all ρ xs es)
close_chosen t ρ xs es e = close-close t (without ρ (is_in xs)) (put_all empty xs es) ∙ ap (close t) (λ i y. all_over xs es ρ y e i)
