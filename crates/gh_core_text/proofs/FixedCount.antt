-- How many names a new table has.
use Rattle.std.proofs.Common.{◌≡◌, refl, length}
use Rattle.gh_base.specs.Fixed.{fixed_texts}

pub fixed_count : length fixed_texts ≡ 128
unfolding fixed_texts
fixed_count = refl
