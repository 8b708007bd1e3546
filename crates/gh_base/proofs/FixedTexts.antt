-- The fixed texts are all different.
use Rattle.std.proofs.Common.{◌≡◌, [], refl}
use Rattle.gh_base.specs.Fixed.{fixed_texts}
use Rattle.gh_base.specs.Table.{with_all}

pub all_new : with_all [] fixed_texts ≡ fixed_texts
unfolding fixed_texts
all_new = refl
