use Rattle.gh_match.proofs.Codes.{if_ok}
use Rattle.gh_match.proofs.Flat.{as_added, con_added, parts_added}
use Rattle.gh_match.proofs.tests.+flatten.Goals as goal

pub add_constructor-returns : goal.add_constructor-returns
add_constructor-returns t c =
    if_ok c.add_patterns.result _ _
    (λ after h. parts_added c.args.con c.args.parts.now c.args.tests.now c.push.new.self c.add_patterns.new.tests c.in_ok-names.names c.args.subject c.args.free c.in_ok-after.after after c.in_ok-after.ensures c.in_ok-names.ensures c.in_ok-push.ensures.ok h)
    c.add_patterns.ensures

pub add_pattern-returns-in-PCon : goal.add_pattern-returns-in-PCon
add_pattern-returns-in-PCon t c =
    if_ok c.add_constructor.result _ _
    (λ after h. con_added c.args.pattern.now c.in-PCon.con c.in-PCon.parts c.as_slice.result.now c.args.tests.now c.add_constructor.new.tests c.args.subject c.args.free after c.in-PCon.is c.as_slice.ensures h)
    c.add_constructor.ensures

pub add_pattern-returns-in_ok-add_binding-in-PAs : goal.add_pattern-returns-in_ok-add_binding-in-PAs
add_pattern-returns-in_ok-add_binding-in-PAs t c =
    if_ok c.add_pattern.result _ _
    (λ after h. as_added c.args.pattern.now c.in-PAs.x c.in-PAs.inner c.get.result.now c.args.tests.now c.add_binding-in-PAs.new.tests c.add_pattern.new.tests c.args.subject c.args.free after c.in-PAs.is c.get.ensures c.in_ok-add_binding-in-PAs.ensures h)
    c.add_pattern.ensures
