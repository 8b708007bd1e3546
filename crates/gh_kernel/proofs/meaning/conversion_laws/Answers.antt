use Rattle.gh_kernel.proofs.BodyInstances.{names_then_types, body_instances}
use Rattle.gh_kernel.proofs.Undoing.{conversions_undo}
use Rattle.gh_kernel.proofs.meaning.conversion_laws.Goals as goal

pub returns : goal.returns
returns c = record {
  undo = conversions_undo;
  names = names_then_types;
  instances = body_instances;
}
