-- Longer runs of the type-passing meaning, to their ends.
use Rattle.std.proofs.Common.{refl}
use Rattle.std.specs.Char.{encode_utf8}
use Rattle.gh_kernel.specs.LongerRuns.{MapAtList, ValuesAtTruths}
use Rattle.gh_kernel.specs.Steps.{steps}

pub map_at_list : MapAtList
unfolding steps encode_utf8
map_at_list = refl

pub values_at_truths : ValuesAtTruths
unfolding steps encode_utf8
values_at_truths = refl
