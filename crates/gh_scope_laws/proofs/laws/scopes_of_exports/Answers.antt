use Rattle.gh_scope_laws.proofs.Settled.{has_scopes, one_scopes}
use Rattle.gh_scope_laws.proofs.Answered.{answer_over, answered_scopes}
use Rattle.gh_scope_laws.proofs.laws.scopes_of_exports.Goals as goal

pub returns : goal.returns
returns c = record { are_there = has_scopes; no_others = one_scopes; answer = answer_over; answered = answered_scopes }
