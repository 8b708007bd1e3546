use Rattle.std.proofs.Common.{sym, ◌∙◌, arith}
use Rattle.gh_kind_unify.proofs.Grounding.{arrow_parts, arrow_gives}
use Rattle.gh_kind_unify.proofs.build.kind_for.Goals as goal

pub returns-in-Ok-clause-ok : goal.returns-in-Ok-clause-ok
returns-in-Ok-clause-ok c =
    let cells = c.args.cells.now in
    let is_arrow = sym c.cell_at.ensures ∙ c.in-Arrow.is in
    let parts = arrow_parts cells c.args.v c.in-Arrow.a c.in-Arrow.b c.requires.tidy c.requires.within is_arrow in
    let count = c.requires.count in
    let from = parts.0 in
    let to = parts.1 in
    let made = c.in-Ok.ensures.ok in
    arrow_gives cells c.args.built.now c.args.v c.in-Arrow.a c.in-Arrow.b c.index-built-a.result c.index-built-b.result c.in-Ok.kind c.requires.within is_arrow
    c.requires.parts (omega (arith, count, from)) (omega (arith, count, to)) c.index-built-a.is c.index-built-b.is made.0 made.1
