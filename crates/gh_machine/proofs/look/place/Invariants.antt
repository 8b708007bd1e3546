use Rattle.std.proofs.Common.{◌≡◌, ◌+◌, drop, map}
use Rattle.std.specs.Prelude.{option_map}
use Rattle.gh_machine.specs.Unload.{place_of}
use Rattle.gh_core.specs.Read.{bind_of}
use Rattle.gh_machine.proofs.look.place.Given as goal

abbrev pub invariant-loop-index : goal.invariant-loop-index
invariant-loop-index l = place_of (map bind_of l.bindings) l.name ≡ option_map (λ k. k + l.index) (place_of (map bind_of (drop l.index l.bindings)) l.name)
