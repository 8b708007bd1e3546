use Rattle.std.proofs.Common.{◌≡◌, map, take}
use Rattle.gh_tree.specs.Syms as spec
use Rattle.gh_tree.proofs.syms.syms_of.Given as goal

abbrev pub invariant-loop-token : goal.invariant-loop-token
invariant-loop-token l = l.found ≡ map (spec.sym_of l.tokens) (take l.token-index l.laid)
