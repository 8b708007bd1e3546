use Rattle.std.proofs.Common.{◌≤◌, subst, sym, map}
use Rattle.gh_core_text.specs.Needs.{needs_alt, needs_all}
use Rattle.gh_core_text.proofs.Chains.{on}
use Rattle.gh_core_text.proofs.Pushed.{needs_push}
use Rattle.tests_core.proofs.core_text.push_alternative.Goals as goal

pub returns : goal.returns
returns c =
    on c.push.result (λ e. subst (λ l. needs_all (map needs_alt l) ≤ 128) (sym e) (needs_push c.args.list.now c.args.alternative 128 c.requires.list c.requires.alternative)) c.push.ensures.ok
