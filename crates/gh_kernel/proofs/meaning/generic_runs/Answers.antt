use Rattle.gh_kernel.proofs.Examples as worked
use Rattle.gh_kernel.proofs.LongerExamples as longer
use Rattle.gh_kernel.proofs.meaning.generic_runs.Goals as goal

pub returns : goal.returns
returns c = record {
  datatype_without_case = worked.datatype_without_case;
  conversion_fails = worked.conversion_fails;
  nested_type = worked.nested_type;
  redefinition_at_list = worked.redefinition_at_list;
  name_described = worked.name_described;
  case_taken = worked.case_taken;
  map_at_list = longer.map_at_list;
  values_at_truths = longer.values_at_truths;
}
