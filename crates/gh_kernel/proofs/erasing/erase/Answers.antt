use Rattle.gh_kernel.proofs.Erasures.{text_kept}
use Rattle.gh_kernel.proofs.erasing.erase.Goals as goal

pub returns-clause-text : goal.returns-clause-text
returns-clause-text g c = text_kept c.args.term.now c.in_ok-made.made c.in_ok-made.ensures
