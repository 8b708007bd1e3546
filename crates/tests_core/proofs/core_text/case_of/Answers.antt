use Rattle.gh_core_text.proofs.Pushed.{needs_case, needs_int}
use Rattle.tests_core.proofs.core_text.case_of.Goals as goal

pub returns : goal.returns
returns c = needs_case 128 c.args.scrutinee _ c.args.alternatives c.args.otherwise c.requires.scrutinee (needs_int 128) c.requires.alternatives c.requires.otherwise
