-- The loop over recursive bindings, and what stands round them.
use Rattle.std.proofs.Common.{◌≡◌, ℕ, suc, ◌+◌, ◌<◌, ◌≤◌, ◌++◌, List, sym, ap, subst, ◌∙◌, get_or, drop, length, append_assoc, add-one, arith}
use Rattle.std.specs.Prelude.{codes, max}
use Rattle.gh_core.specs.declared.types.CoreType.{CoreType}
use Rattle.gh_core.specs.declared.terms.CoreTerm.{CoreTerm}
use Rattle.gh_core.specs.declared.terms.CoreTerm.TheVariants as c
use Rattle.gh_core.specs.Levels.{Scope, within_list}
use Rattle.gh_core_text.specs.Needs.{needs_type, needs_bindings, needs_term}
use Rattle.gh_core.specs.Text.{Table, gap, binder_text, bindings_text, binders_of, term_text}
use Rattle.gh_core_text.proofs.Chains.{then}
use Rattle.gh_core_text.proofs.Places.{drop_item}
use Rattle.gh_core_text.proofs.Shapes.{letrec_out}
use Rattle.gh_core_text.proofs.Weights.{bindings_weight, term_weight}

abbrev Bind : Type 0
Bind = ℕ × CoreType × CoreTerm

pub needs_rest : (bs : List Bind) (i n : ℕ) (b : Bind) → i < length bs → b ≡ get_or bs i b → needs_bindings needs_term (drop i bs) ≤ n → needs_bindings needs_term (drop (i + 1) bs) ≤ n
needs_rest bs i n b lt is h =
    let k : max (max (needs_type b.1) (needs_term b.2)) (needs_bindings needs_term (drop (i + 1) bs)) ≤ n = subst (λ xs. needs_bindings needs_term xs ≤ n) (drop_item bs i b lt is) h in
    omega arith

pub weight_rest : (bs : List Bind) (i n : ℕ) (b : Bind) → i < length bs → b ≡ get_or bs i b → bindings_weight term_weight (drop i bs) ≤ n → bindings_weight term_weight (drop (i + 1) bs) ≤ n
weight_rest bs i n b lt is h =
    let k : term_weight b.2 + bindings_weight term_weight (drop (i + 1) bs) ≤ n = subst (λ xs. bindings_weight term_weight xs ≤ n) (drop_item bs i b lt is) h in
    omega arith

pub written_rest : (table : Table) (bs : List Bind) (i place count : ℕ) (b : Bind) (vs ts vs2 ts2 ts3 : Scope) (o0 o1 o2 o3 o4 o5 all : List ℕ)
    → i < length bs → b ≡ get_or bs i b
    → o0 ++ bindings_text table (term_text table) count place (drop i bs) vs ts ≡ all
    → vs2 ≡ vs → ts2 ≡ ts → ts3 ≡ ts
    → o1 ≡ o0 ++ gap place → o2 ≡ o1 ++ binder_text table (count + place) b.1 ts2 → o3 ≡ o2 ++ codes " " → o4 ≡ o3 ++ term_text table b.2 vs2 ts3 → o5 ≡ o4 ++ codes ")"
    → o5 ++ bindings_text table (term_text table) count (place + 1) (drop (i + 1) bs) vs ts ≡ all
written_rest table bs i place count b vs ts vs2 ts2 ts3 o0 o1 o2 o3 o4 o5 all lt is h ve te ue e1 e2 e3 e4 e5 =
    let rest : List ℕ = bindings_text table (term_text table) count (suc place) (drop (i + 1) bs) vs ts in
    let item : List ℕ = binder_text table (count + place) b.1 ts ++ (codes " " ++ (term_text table b.2 vs ts ++ codes ")")) in
    let made : o5 ≡ o0 ++ (gap place ++ item) =
    then (o0) (o1) (o5) (gap place) ((binder_text table (count + place) b.1 ts2) ++ (codes " " ++ ((term_text table b.2 vs2 ts3) ++ (codes ")")))) (e1) (then (o1) (o2) (o5) ((binder_text table (count + place) b.1 ts2)) (codes " " ++ ((term_text table b.2 vs2 ts3) ++ (codes ")"))) (e2) (then (o2) (o3) (o5) (codes " ") ((term_text table b.2 vs2 ts3) ++ (codes ")")) (e3) (then (o3) (o4) (o5) ((term_text table b.2 vs2 ts3)) (codes ")") (e4) (e5)))) ∙ (λ k. o0 ++ (gap place ++ (binder_text table (count + place) b.1 (te k) ++ (codes " " ++ (term_text table b.2 (ve k) (ue k) ++ codes ")"))))) in
    ap (λ k. o5 ++ bindings_text table (term_text table) count k (drop (i + 1) bs) vs ts) (add-one place)
    ∙ ap (λ o. o ++ rest) made ∙ append_assoc o0 (gap place ++ item) rest ∙ ap (λ z. o0 ++ z) (append_assoc (gap place) item rest)
    ∙ ap (λ xs. o0 ++ bindings_text table (term_text table) count place xs vs ts) (sym (drop_item bs i b lt is)) ∙ h

pub letrec_done : (table : Table) (bs : List Bind) (body : CoreTerm) (vs ts vs1 vs2 ts2 : Scope) (o o1 o2 o3 o4 o5 : List ℕ) (end : ℕ)
    → o1 ≡ o ++ codes "(letrec (" → vs1 ≡ within_list vs (binders_of bs) → end ≡ length vs
    → o2 ≡ o1 ++ bindings_text table (term_text table) end 0 bs vs1 ts
    → vs2 ≡ vs1 → ts2 ≡ ts → o3 ≡ o2 ++ codes ") " → o4 ≡ o3 ++ term_text table body vs2 ts2 → o5 ≡ o4 ++ codes ")"
    → o5 ≡ o ++ term_text table (c.LetRec bs body) vs ts
letrec_done table bs body vs ts vs1 vs2 ts2 o o1 o2 o3 o4 o5 end e1 bound ended e2 ve te e3 e4 e5 =
    let inside : vs2 ≡ within_list vs (binders_of bs) = ve ∙ bound in
    then o o1 o5 (codes "(letrec (") (bindings_text table (term_text table) end 0 bs vs1 ts ++ (codes ") " ++ (term_text table body vs2 ts2 ++ codes ")"))) e1
    (then o1 o2 o5 (bindings_text table (term_text table) end 0 bs vs1 ts) (codes ") " ++ (term_text table body vs2 ts2 ++ codes ")")) e2
    (then o2 o3 o5 (codes ") ") (term_text table body vs2 ts2 ++ codes ")") e3
    (then o3 o4 o5 (term_text table body vs2 ts2) (codes ")") e4 e5)))
    ∙ (λ k. o ++ (codes "(letrec (" ++ (bindings_text table (term_text table) (ended k) 0 bs (bound k) ts ++ (codes ") " ++ (term_text table body (inside k) (te k) ++ codes ")")))))
    ∙ ap (λ z. o ++ z) (sym (letrec_out table bs body vs ts))
