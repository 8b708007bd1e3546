use Rattle.gh_parse_heads.proofs.OneHead.{one_header_is}
use Rattle.gh_parse_heads.proofs.one_head.has_one_header.Goals as goal

pub returns : goal.returns
returns c = one_header_is
