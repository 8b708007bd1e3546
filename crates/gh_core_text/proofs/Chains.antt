-- Texts that were added one after another.
use Rattle.std.proofs.Common.{◌≡◌, ℕ, ◌++◌, List, ap, ◌∙◌, append_assoc, Ok, Err}
use Rattle.std.specs.Prelude.{OnOk}
use Rattle.std.specs.declared.result.Result.{Result}

pub on : {T E P Q : Type 0} (r : Result T E) → (P → Q) → OnOk r P → OnOk r Q
on (Ok x) f p = f p
on (Err e) f p = p

pub then : (o0 o1 o2 a b : List ℕ) → o1 ≡ o0 ++ a → o2 ≡ o1 ++ b → o2 ≡ o0 ++ (a ++ b)
then o0 o1 o2 a b e f = f ∙ ap (λ o. o ++ b) e ∙ append_assoc o0 a b
