use Rattle.std.proofs.Common.{map}
use Rattle.gh_core.specs.Typing.{code_of, type_of}
use Rattle.gh_match.proofs.Codes.{if_ok}
use Rattle.gh_match.proofs.Trees.{none_compiled, some_compiled}
use Rattle.gh_match.proofs.compile.whole.Goals as goal

pub returns-then-rows-eq0 : goal.returns-then-rows-eq0
returns-then-rows-eq0 c =
    if_ok c.no_group.result _ _
    (λ made e. none_compiled (type_of c.args.answer.now) c.args.rows.now (map code_of c.args.scrutinees.now) (code_of c.args.otherwise) (code_of made) c.if-rows-eq0.true e) c.no_group.ensures

pub returns : goal.returns
returns c =
    if_ok c.tried.result _ _
    (λ made h. some_compiled (type_of c.args.answer.now) c.args.rows.now c.index-rows-0.result (map code_of c.args.scrutinees.now) (code_of c.args.otherwise) (code_of made) _ c.if-rows-eq0.false c.as_slice-patterns.ensures h)
    c.tried.ensures
