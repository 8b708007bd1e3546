use Rattle.gh_kernel.proofs.Examples as worked
use Rattle.gh_kernel.proofs.meaning.plain_runs.Goals as goal

pub returns : goal.returns
returns c = record {
  guards_all_fail = worked.guards_all_fail;
  as_pattern_again = worked.as_pattern_again;
  newtype_takes = worked.newtype_takes;
  newtype_contents = worked.newtype_contents;
  newtype_fails = worked.newtype_fails;
  error_not_demanded = worked.error_not_demanded;
  no_row_left = worked.no_row_left;
  literal_for_cell = worked.literal_for_cell;
  cell_for_literal = worked.cell_for_literal;
  primitive_once = worked.primitive_once;
  let_entered = worked.let_entered;
}
