use Rattle.std.proofs.Common.{◌∙◌, ap, sym}
use Rattle.gh_fixity.specs.Arrangement.{may_be_right}
use Rattle.gh_fixity.proofs.Frames.{last_allows}
use Rattle.gh_fixity.proofs.stack.is_allowed.Goals as goal

pub returns-in-Some : goal.returns-in-Some
returns-in-Some c =
    c.may_go_right.ensures ∙ ap (λ f. may_be_right f c.args.next) c.frame_fixity.ensures
    ∙ last_allows c.args.items.now c.args.frames.now c.in-Some.frame.now c.args.next (sym c.in-Some.ensures.value)
