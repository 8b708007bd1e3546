use Rattle.std.proofs.Common.{ap, ◌∙◌}
use Rattle.gh_core.specs.Typing.{code_of}
use Rattle.gh_adapt.proofs.Stripped.{to_seen, to_runs, to_has_type}
use Rattle.gh_adapt.proofs.out_of.to_term.Goals as goal

pub returns-clause-term : goal.returns-clause-term
returns-clause-term c = to_seen c.into_inner.result c.args.decl.now (ap code_of c.into_inner.ensures ∙ c.in_ok-made.ensures)

pub returns-clause-goes : goal.returns-clause-goes
returns-clause-goes c = to_runs c.into_inner.result c.args.decl.now (ap code_of c.into_inner.ensures ∙ c.in_ok-made.ensures)

pub returns-clause-typed : goal.returns-clause-typed
returns-clause-typed c = to_has_type c.into_inner.result c.args.decl.now (ap code_of c.into_inner.ensures ∙ c.in_ok-made.ensures)
