-- What holds of a result where something else does.
use Rattle.std.proofs.Common.{Ok, Err}
use Rattle.std.specs.Prelude.{IfOk, MatchResult, OnOk}
use Rattle.std.specs.declared.result.Result.{Result}

pub ok_more : {X E : Type 0} (r : Result X E) (P Q : X → Type 0) → ((x : X) → P x → Q x) → IfOk r P → IfOk r Q
ok_more (Ok x) P Q h p = h x p
ok_more (Err e) P Q h p = p

pub on_ok_more : {X E : Type 0} (r : Result X E) (P Q : Type 0) → (P → Q) → OnOk r P → OnOk r Q
on_ok_more (Ok x) P Q h p = h p
on_ok_more (Err e) P Q h p = p

pub on_err_more : {X E : Type 0} (r : Result X E) (P Q : E → Type 0) → ((e : E) → P e → Q e) → MatchResult r (λ _. Unit {0}) P → MatchResult r (λ _. Unit {0}) Q
on_err_more (Ok x) P Q h p = tt
on_err_more (Err e) P Q h p = h e p

-- what follows from two facts on its value
pub ok_both : {X E : Type 0} (r : Result X E) (P Q R : X → Type 0) → ((x : X) → P x → Q x → R x) → IfOk r P → IfOk r Q → IfOk r R
ok_both (Ok x) P Q R h p q = h x p q
ok_both (Err e) P Q R h p q = p
