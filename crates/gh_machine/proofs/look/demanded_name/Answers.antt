use Rattle.std.proofs.Common.{List, sym, subst}
use Rattle.std.specs.Prelude.{MatchOption}
use Rattle.gh_core.specs.Closing.{Env}
use Rattle.gh_machine.specs.Unload.{IsFree, IsVariable}
use Rattle.gh_machine.specs.declared.closure.Demand.{Demand}
use Rattle.gh_machine.proofs.look.demanded_name.Goals as goal

pub returns-in-At : goal.returns-in-At
returns-in-At c =
    subst (λ (d : Demand). MatchOption c.name_in.result ((envs : List Env) → IsFree envs d) (λ v. IsVariable d v.number v.env)) (sym c.in-At.is) c.name_in.ensures
