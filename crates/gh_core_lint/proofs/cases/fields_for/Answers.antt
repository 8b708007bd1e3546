use Rattle.std.proofs.Common.{ap, map}
use Rattle.gh_core_lint.specs.Programs.{program_of}
use Rattle.gh_core_lint.specs.Types.{type_at}
use Rattle.gh_core_lint.proofs.Chosen.{fields_none}
use Rattle.gh_core_lint.proofs.cases.fields_for.Goals as goal

pub returns-in-None : goal.returns-in-None
returns-in-None c =
    fields_none (program_of c.args.known.now) (type_at c.args.scrutinee.now) c.args.con c.chosen.result (map type_at c.new.result) c.chosen.ensures c.in-None.is
    (ap (map type_at) c.new.ensures)
