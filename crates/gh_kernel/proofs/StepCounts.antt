-- Laws of steps.
use Rattle.std.proofs.Common.{◌≡◌, ℕ, zero, suc, ◌+◌, List, [], ◌∷◌, length, refl, sym, ap, ◌∙◌, arith}
use Rattle.gh_base.specs.declared.place.Span.{Span}
use Rattle.gh_kernel.specs.Conversions.{applied}
use Rattle.gh_kernel.specs.Programs.{Exp, Program}
use Rattle.gh_kernel.specs.States.{Waiting, arg, demand}
use Rattle.gh_kernel.specs.Steps.{act, steps}
use Rattle.gh_kernel.specs.StepLaws.{OneAct, StepsAdd, MarksAreFree, waiting, LinksCount, ContentsCount}
use Rattle.gh_kernel.specs.Terms.{app, contents}
use Rattle.gh_kernel.proofs.Printing.{steps_zero, steps_first}

pub one_act : OneAct
one_act p s = steps_first p 0 s ∙ steps_zero p (act p s)

pub steps_add : StepsAdd
steps_add p zero n s =
    let e : zero + n ≡ n = omega arith in ap (λ k. steps p k s) e ∙ ap (steps p n) (sym (steps_zero p s))
steps_add p (suc m) n s =
    let e : suc m + n ≡ suc (m + n) = omega arith in
    ap (λ k. steps p k s) e ∙ steps_first p (m + n) s ∙ steps_add p m n (act p s) ∙ ap (steps p n) (sym (steps_first p m s))

pub marks_free : MarksAreFree
marks_free n e t stack out = (refl, refl)

-- the last link
link : (p : Program) (n : Span) (f e : Exp) (stack : List Waiting) (out : List ℕ) → steps p 1 (demand (app n f e) stack out) ≡ demand f (arg e ∷ stack) out
link p n f e stack out = one_act p (demand (app n f e) stack out)

pub links_count : LinksCount
links_count p n f [] stack out = steps_zero p (demand f stack out)
links_count p n f (e ∷ es) stack out =
    let all : suc (length es) ≡ length es + 1 = omega arith in
    ap (λ k. steps p k (demand (applied n (app n f e) es) stack out)) all ∙ steps_add p (length es) 1 (demand (applied n (app n f e) es) stack out)
    ∙ ap (steps p 1) (links_count p n (app n f e) es stack out) ∙ link p n f e (waiting es stack) out

pub contents_count : ContentsCount
contents_count p c e stack out = one_act p (demand (contents c e) stack out)
