use Rattle.std.proofs.Common.{rules, arith}
use Rattle.gh_reader.proofs.Ends.{last_found, last_skipped}
use Rattle.gh_reader.proofs.span.last_place.Goals as goal

pub returns-then-not-is_inserted : goal.returns-then-not-is_inserted
returns-then-not-is_inserted c =
    last_found c.args.piece.now c.loop-i.i c.index-piece-piece.result (omega arith) c.index-piece-piece.is (search rules) c.loop-i.invariant

pub loop-i-preserved : goal.loop-i-preserved
loop-i-preserved c =
    last_skipped c.args.piece.now c.loop-i.i c.index-piece-piece.result (omega arith) c.index-piece-piece.is (search rules) c.loop-i.invariant
