use Rattle.std.proofs.Common.{ap, ◌∙◌}
use Rattle.gh_core.specs.Typing.{code_of}
use Rattle.gh_adapt.proofs.Stripped.{from_seen, from_runs, from_newtype_runs, from_has_type}
use Rattle.gh_adapt.proofs.into.from_term.Goals as goal

pub returns-clause-term : goal.returns-clause-term
returns-clause-term c = from_seen c.into_inner.result c.args.decl.now (ap code_of c.into_inner.ensures ∙ c.in_ok-made.ensures)

pub returns-clause-goes : goal.returns-clause-goes
returns-clause-goes c = from_runs c.into_inner.result c.args.decl.now (ap code_of c.into_inner.ensures ∙ c.in_ok-made.ensures)

pub returns-clause-newtype : goal.returns-clause-newtype
returns-clause-newtype c = from_newtype_runs c.into_inner.result c.args.decl.now (ap code_of c.into_inner.ensures ∙ c.in_ok-made.ensures)

pub returns-clause-typed : goal.returns-clause-typed
returns-clause-typed c = from_has_type c.into_inner.result c.args.decl.now (ap code_of c.into_inner.ensures ∙ c.in_ok-made.ensures)
