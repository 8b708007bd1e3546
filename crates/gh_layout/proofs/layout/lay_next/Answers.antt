use Rattle.std.proofs.Common.{subst}
use Rattle.gh_layout.specs.Follows.{Follows}
use Rattle.gh_layout.specs.Layout.{marks, after_token}
use Rattle.gh_layout.specs.declared.role.Role.{Role}
use Rattle.gh_layout.proofs.Laid.{token_after, token_not_reached}
use Rattle.gh_layout.proofs.layout.lay_next.Goals as goal

pub returns-in-Err : goal.returns-in-Err
returns-in-Err c =
    token_not_reached (marks c.args.awaited c.args.token.now c.args.place) _ c.args.place c.args.laying.now c.in-Err.stop c.lay_marks.new.laying
    c.lay_marks.new.laying c.in-Err.ensures

pub returns : goal.returns
returns c =
    let P : Role → Type 0 = λ r. Follows (after_token r c.args.place c.lay_marks.new.laying) c.lay_token.result c.lay_token.new.self in
    token_after (marks c.args.awaited c.args.token.now c.args.place) _ c.args.place c.args.laying.now c.lay_marks.new.laying
    c.lay_token.result c.lay_token.new.self c.in_default.ensures (subst P c.requires c.lay_token.ensures)
