use Rattle.gh_parse_heads.proofs.OneHead.{one_import_is}
use Rattle.gh_parse_heads.proofs.one_head.has_one_import.Goals as goal

pub returns : goal.returns
returns c = one_import_is
