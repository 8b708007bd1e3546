use Rattle.gh_scope_laws.proofs.Entries.{each_entry, each_once}
use Rattle.gh_scope_laws.proofs.laws.entries_once.Goals as goal

pub returns : goal.returns
returns c = record { each = each_entry; once = each_once }
