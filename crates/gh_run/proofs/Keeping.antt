-- The core keeps the meaning.
use Rattle.gh_bindings.proofs.Keeping.{core_keeps_meaning as kept}
use Rattle.gh_run.specs.Core.{core_seen}
use Rattle.gh_run.specs.Keeping.{CoreKeepsMeaning}

pub core_keeps_meaning : CoreKeepsMeaning
unfolding core_seen
core_keeps_meaning bs = kept bs
