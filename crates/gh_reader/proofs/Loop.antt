-- A loop that reads items, where reading an item fails.
use Rattle.std.proofs.Common.{◌≡◌, ℕ, ◌-◌, ◌<◌, Bool, true, List}
use Rattle.gh_tree.specs.declared.symbol.Sym.{Sym}
use Rattle.gh_tree.specs.Read.{Outcome, Read, many}
use Rattle.gh_tree.proofs.Loops.{with_front, fails}
use Rattle.gh_reader.specs.declared.stop.Stop.{Stop}
use Rattle.gh_reader.specs.declared.stop.Stop.TheVariants as stop
use Rattle.gh_reader.specs.Reads.{Fails}

pub fails_at : {A : Type 0} (begins : List Sym → Bool) (item : Read A) (e : Stop) (all : Outcome (List A)) (n at : ℕ) (found : List A) (ss : List Sym) → at < n → begins ss ≡ true →
    all ≡ with_front found (many begins item (n - at) ss) → Fails e (item ss) → Fails e all
fails_at begins item stop.NoParse all n at found ss below is so_far read = fails begins item all n at found ss below is read so_far
fails_at begins item stop.NoMemory all n at found ss below is so_far read = tt
