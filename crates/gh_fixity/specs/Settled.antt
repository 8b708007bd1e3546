-- What an answer of the code stands for.
use Rattle.std.specs.Prelude.{List, Option, Some, None}
use Rattle.gh_fixity.specs.declared.item.ArrangeFault.{ArrangeFault}
use Rattle.gh_fixity.specs.declared.item.ArrangeFault.TheVariants as fault
use Rattle.gh_fixity.specs.declared.item.Item.{Item}
use Rattle.gh_fixity.specs.declared.settle.Settled.{Settled}
use Rattle.gh_fixity.specs.declared.settle.Settled.TheVariants as settled
use Rattle.gh_fixity.specs.Arrangement.{tree_in}
use Rattle.gh_fixity.specs.Settle.{Settling, goes, fails}

abbrev pub settling_in : List Item → Settled → Settling
settling_in items (settled.Tree t) = goes (tree_in items t)
settling_in items (settled.Clash l r) = fails l r

abbrev pub settled_fault : ArrangeFault → Option Settled
settled_fault (fault.Clash l r) = Some (settled.Clash l r)
settled_fault fault.NoMemory = None
