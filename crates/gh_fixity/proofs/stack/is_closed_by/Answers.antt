use Rattle.std.proofs.Common.{◌∙◌, ap, sym}
use Rattle.gh_fixity.specs.Arrangement.{may_be_left}
use Rattle.gh_fixity.proofs.Frames.{last_closes}
use Rattle.gh_fixity.proofs.stack.is_closed_by.Goals as goal

pub returns-in-Some : goal.returns-in-Some
returns-in-Some c =
    c.may_go_left.ensures ∙ ap (λ f. may_be_left c.args.next f) c.frame_fixity.ensures
    ∙ last_closes c.args.items.now c.args.frames.now c.in-Some.frame.now c.args.next (sym c.in-Some.ensures.value)
