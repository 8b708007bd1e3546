use Rattle.gh_lexer.proofs.Tables.{placed_grown, placed_by}
use Rattle.gh_lexer.proofs.kinds.qualified_name.Goals as goal

pub returns-clause-ids : goal.returns-clause-ids
returns-clause-ids c =
    let before = c.in_ok-before.ensures in
    let last = c.in_ok-id.ensures in (
      placed_grown c.intern.new.self c.intern-2.new.self last.grows c.in_ok-before.before (placed_by c.intern.new.self c.args.qualifier.now c.in_ok-before.before before.known before.text before.place),
      placed_by c.intern-2.new.self c.args.text.now c.in_ok-id.id last.known last.text last.place,
    )
