use Rattle.std.proofs.Common.{arith}
use Rattle.gh_core_text.proofs.Fields.{names_less}
use Rattle.gh_core_text.proofs.terms.add_fields.Goals as goal

pub loop-place-preserved : goal.loop-place-preserved
loop-place-preserved c = record {
  written = names_less c.loop-place.out c.add.new.out c.add_number.new.out _ c.count-count.result c.loop-place.place c.args.fields.now (omega arith) c.loop-place.invariant.written c.in_ok-add.ensures c.in_ok-add_number.ensures;
  count = c.loop-place.invariant.count;
}
