use Rattle.gh_kernel.proofs.StepCounts.{one_act, steps_add, marks_free, links_count, contents_count}
use Rattle.gh_kernel.proofs.meaning.step_laws.Goals as goal

pub returns : goal.returns
returns c = record {
  one = one_act;
  add = steps_add;
  links = links_count;
  contents = contents_count;
  marks = marks_free;
}
