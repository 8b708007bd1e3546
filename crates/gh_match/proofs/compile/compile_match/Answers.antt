use Rattle.gh_core.specs.Typing.{type_of}
use Rattle.gh_match.proofs.Following.{follows}
use Rattle.gh_match.proofs.Linear.{linear}
use Rattle.gh_match.proofs.Trees.{moved}
use Rattle.gh_match.proofs.compile.compile_match.Goals as goal

pub returns-clause-follows : goal.returns-clause-follows
returns-clause-follows c =
    follows (type_of c.args.answer.now) c.args.rows c.args.scrutinees.now c.args.otherwise c.into_inner.result
    (moved (type_of c.args.answer.now) _ c.args.rows _ c.args.scrutinees.now _ c.args.otherwise c.in_ok-made.made c.into_inner.result c.as_slice-2.ensures c.as_slice.ensures c.in_ok-otherwise.ensures c.into_inner.ensures c.in_ok-made.ensures)

pub returns-clause-linear : goal.returns-clause-linear
returns-clause-linear c =
    linear (type_of c.args.answer.now) c.args.rows c.args.scrutinees.now c.args.otherwise c.into_inner.result
    (moved (type_of c.args.answer.now) _ c.args.rows _ c.args.scrutinees.now _ c.args.otherwise c.in_ok-made.made c.into_inner.result c.as_slice-2.ensures c.as_slice.ensures c.in_ok-otherwise.ensures c.into_inner.ensures c.in_ok-made.ensures)
