-- The constant is the stated lines, byte for byte: both compute.
use Rattle.std.proofs.Common.{refl}
use Rattle.gh_prelude.specs.Text.{prelude_lines}
use Rattle.gh_prelude.proofs.prelude_text.Goals as goal

pub returns : goal.returns
unfolding prelude_lines
returns c = refl
