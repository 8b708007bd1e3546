use Rattle.std.proofs.Common.{rules, arith, length, ap}
use Rattle.std.proofs.lemmas.Grind.{common_steps}
use Rattle.gh_parse_tops.specs.Generics.{words}
use Rattle.gh_parse_exps.specs.Exps.{word}
use Rattle.gh_parse_tops.specs.Generics.{word_next}
use Rattle.gh_tree.proofs.Loops.{begin, more, stops, ends}
use Rattle.gh_reader.specs.Reads.{Fails}
use Rattle.gh_reader.proofs.Loop.{fails_at}
use Rattle.gh_parse_tops.proofs.words.words.Goals as goal

pub loop-turn-init : goal.loop-turn-init
unfolding words
loop-turn-init c = begin word_next word _ c.new-found.result c.args.tokens.now (ap length c.rest-turn-end.ensures) c.new-found.ensures

pub loop-turn-preserved : goal.loop-turn-preserved
loop-turn-preserved c =
    rw c.in_ok-push.ensures.ok (more word_next word _ _ c.loop-turn._turn c.loop-turn.found c.in_ok-word.field-0 c.loop-turn.tokens c.word.new.tokens c.loop-turn-test.true (search rules) (search rules) c.loop-turn.invariant)

pub returns-then-not-is_word : goal.returns-then-not-is_word
returns-then-not-is_word c = stops word_next word _ _ c.loop-turn.found c.loop-turn.tokens (search rules) c.loop-turn.invariant

pub returns-in_err-word : goal.returns-in_err-word
returns-in_err-word c =
    let e : Fails c.in_err-word.field-0.0 (words c.args.tokens.now) =
    fails_at word_next word c.in_err-word.field-0.0 _ _ c.loop-turn._turn c.loop-turn.found c.loop-turn.tokens c.loop-turn-test.true (search rules) c.loop-turn.invariant c.in_err-word.ensures in
    first_of (search rules, grind (arith, common_steps))

pub returns : goal.returns
returns c = ends word_next word _ _ c.loop-turn._turn c.loop-turn.found c.loop-turn.tokens c.loop-turn-test.false c.loop-turn.invariant
