use Rattle.std.proofs.Common.{length, IfOk, Ok, arith, ◌≡◌, sym, ap, ◌∙◌, ◌+◌, drop}
use Rattle.gh_layout.specs.Layout.{layout, laid, marked, pieces, end_pieces, all_treated}
use Rattle.gh_layout.specs.Roles.{block_after}
use Rattle.gh_layout.proofs.Laid.{token_laid, token_refused, refused_at, end_laid, gives_ok}
use Rattle.gh_layout.proofs.Keeping.{answer_in_order, answer_nested}
use Rattle.gh_layout.proofs.layout.lay.Goals as goal

pub returns-in-Err-clause-refused : goal.returns-in-Err-clause-refused
returns-in-Err-clause-refused c =
    let ts = c.as_slice-tokens.result.now in
    let t = c.index-tokens-i.result in
    λ r e. refused_at ts c.loop-i.i (all_treated (pieces c.loop-i.awaited t c.loop-i.i) c.loop-i.laying) c.in-Err.stop c.lay_next.new.laying
    (layout c.args.tokens.now)
    (λ none. ap layout (sym c.as_slice-tokens.ensures) ∙ c.loop-i.invariant
    ∙ token_refused ts c.loop-i.awaited c.loop-i.i c.loop-i.laying t c.loop-i-test.true c.index-tokens-i.is none)
    c.in-Err.ensures c.fault_at.result r c.fault_at.ensures (cc)

pub loop-i-preserved : goal.loop-i-preserved
loop-i-preserved c =
    let ts = c.as_slice-tokens.result.now in
    let t = c.index-tokens-i.result in
    c.loop-i.invariant ∙ token_laid ts c.loop-i.awaited c.loop-i.i c.loop-i.laying c.lay_next.new.laying t c.loop-i-test.true c.index-tokens-i.is c.in_default.ensures
    ∙ ap (λ awaited. laid ts (marked awaited (c.loop-i.i + 1) (drop (c.loop-i.i + 1) ts)) c.lay_next.new.laying)
    (ap block_after (sym c.role_of-role.ensures) ∙ sym c.block_after-awaited.ensures)

-- the answer at the end is the layout
answer_is : (c : goal.After-finish) → IfOk c.finish.result (λ out. layout c.args.tokens.now ≡ Ok out)
answer_is c =
    let ts = c.as_slice-tokens.result.now in
    let at_end : c.loop-i.i ≡ length ts = omega arith in
    gives_ok c.finish.result _ _ c.finish.ensures
    (ap layout (sym c.as_slice-tokens.ensures) ∙ c.loop-i.invariant
    ∙ end_laid ts c.loop-i.awaited c.loop-i.i c.loop-i.laying c.lay_end.new.laying at_end
    (ap (λ n. all_treated (end_pieces c.loop-i.awaited n) c.loop-i.laying) at_end ∙ c.in_default-lay_end.ensures))

pub returns-clause-laid : goal.returns-clause-laid
returns-clause-laid c = answer_is c

pub returns-clause-order : goal.returns-clause-order
returns-clause-order c = answer_in_order c.args.tokens.now c.finish.result (answer_is c)

pub returns-clause-nested : goal.returns-clause-nested
returns-clause-nested c = answer_nested c.args.tokens.now c.finish.result (answer_is c)
