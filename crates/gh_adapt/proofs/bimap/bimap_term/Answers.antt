use Rattle.std.proofs.Common.{ap, ◌∙◌}
use Rattle.gh_core.specs.Typing.{code_of}
use Rattle.gh_adapt.proofs.PairForms.{bimap_seen}
use Rattle.gh_adapt.proofs.PairStripped.{bimap_runs}
use Rattle.gh_adapt.proofs.bimap.bimap_term.Goals as goal

pub returns-clause-term : goal.returns-clause-term
returns-clause-term c = bimap_seen c.into_inner.result c.args.decl.now (ap code_of c.into_inner.ensures ∙ c.in_ok-made.ensures)

pub returns-clause-goes : goal.returns-clause-goes
returns-clause-goes c = bimap_runs c.into_inner.result c.args.decl.now (ap code_of c.into_inner.ensures ∙ c.in_ok-made.ensures)
