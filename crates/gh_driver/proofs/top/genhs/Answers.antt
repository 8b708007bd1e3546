use Rattle.gh_driver.proofs.Tops.{complete}
use Rattle.gh_driver.proofs.top.genhs.Goals as goal

pub returns-clause-complete : goal.returns-clause-complete
returns-clause-complete g c = complete _ _ _ _ _ c.answer-status.ensures.told
