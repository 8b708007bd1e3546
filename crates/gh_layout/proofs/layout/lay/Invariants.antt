use Rattle.std.proofs.Common.{◌≡◌, drop}
use Rattle.gh_layout.specs.Layout.{layout, laid, marked}
use Rattle.gh_layout.proofs.layout.lay.Given as goal

abbrev pub invariant-loop-i : goal.invariant-loop-i
invariant-loop-i l = layout l.tokens ≡ laid l.tokens (marked l.awaited l.i (drop l.i l.tokens)) l.laying
