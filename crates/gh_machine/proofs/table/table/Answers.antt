use Rattle.std.proofs.Common.{◌≡◌, ◌-◌, suc, drop, ◌∷◌, sym, ap, ◌∙◌, arith, drop-cons, refl}
use Rattle.gh_core.specs.Reading.{defs_of}
use Rattle.gh_core.specs.Reduce.{defined}
use Rattle.gh_machine.specs.Keys.{key_of}
use Rattle.gh_machine.proofs.Keys.{put_first}
use Rattle.gh_machine.proofs.table.table.Goals as goal

pub loop-left-preserved : goal.loop-left-preserved
loop-left-preserved c =
    let defs = c.args.defs.now in
    let i = c.loop-left.left - 1 in
    let d = c.index-defs-left.result in
    let e : suc i ≡ c.loop-left.left = omega arith in
    let cut : drop i defs ≡ d ∷ drop c.loop-left.left defs = drop-cons defs i d (omega arith) ∙ (λ k. sym c.index-defs-left.is k ∷ drop (e k) defs) in
    (omega arith, λ name. put_first d (drop c.loop-left.left defs) name c.key.result _ _ _ c.key.ensures refl (c.in_ok-insert.ensures.updates.0 (key_of name)) (c.loop-left.invariant.1 name) ∙ ap (λ ds. defined (defs_of ds) name) (sym cut))
