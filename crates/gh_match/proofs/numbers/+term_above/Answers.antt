use Rattle.std.proofs.Common.{map, drop, [], ◌≡◌, sym, ap, ◌∙◌, arith}
use Rattle.std.specs.Prelude.{max}
use Rattle.std.proofs.lemmas.List.{drop_all}
use Rattle.gh_core.specs.Typing.{code_of}
use Rattle.gh_match.specs.Compiled.{branch_of, group_code}
use Rattle.gh_match.specs.Numbers.{above, above_bindings, alternatives_above}
use Rattle.gh_match.proofs.Above.{above_case, above_letrec}
use Rattle.gh_match.proofs.numbers.+term_above.Goals as goal

pub term_above-returns-after-loop-name : goal.term_above-returns-after-loop-name
term_above-returns-after-loop-name t c =
    let none : drop c.loop-name.name-index c.as_slice-name-items.result.now ≡ [] = drop_all c.loop-name.name-index c.as_slice-name-items.result.now (omega arith) in
    ap (λ l. above_bindings (group_code l) c.loop-name.most) (sym none) ∙ c.loop-name.invariant
    ∙ (λ i. above_bindings (group_code (c.as_slice-name-items.ensures i)) ((c.term_above-most.ensures ∙ ap (λ b. above (code_of b)) c.get-in-LetRec.ensures) i))
    ∙ sym (above_letrec c.in-LetRec.bindings c.in-LetRec.body) ∙ sym (ap (λ u. above (code_of u)) c.in-LetRec.is)

pub term_above-returns-in-Case : goal.term_above-returns-in-Case
term_above-returns-in-Case t c =
    c.larger-in-Case.ensures
    ∙ (λ i. max ((c.term_above-in-Case.ensures ∙ ap (λ b. above (code_of b)) c.get-in-Case.ensures) i)
    ((c.alternatives_above-alternatives.ensures ∙ (λ j. alternatives_above (map branch_of (c.as_slice.ensures j)) (c.otherwise_above-last.ensures j))) i))
    ∙ sym (above_case c.in-Case.scrutinee c.in-Case.field-1 c.in-Case.alternatives c.in-Case.otherwise) ∙ sym (ap (λ u. above (code_of u)) c.in-Case.is)
