use Rattle.gh_parser.proofs.Found.{header_finds}
use Rattle.gh_parser.proofs.readers.any_header.Goals as goal

pub returns : goal.returns
returns c = header_finds c.args.syms.now c.parse_header.result c.parse_header.ensures
