use Rattle.gh_typeterm.specs.Terms.{size_of}
use Rattle.gh_typeterm.proofs.store.TyStore.+enter.Given as goal

abbrev pub decreases-enter : goal.decreases-enter
decreases-enter l = size_of l.term.now
