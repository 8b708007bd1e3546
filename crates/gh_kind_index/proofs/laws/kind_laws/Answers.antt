use Rattle.gh_kind_index.proofs.Equations.{indexed_star, indexed_arrow}
use Rattle.gh_kind_index.proofs.Opening.{at_arguments}
use Rattle.gh_kind_index.proofs.Whole.{any_variables, free_in_types}
use Rattle.gh_kind_index.proofs.laws.kind_laws.Goals as goal
use Rattle.std.proofs.Common.{ap}

pub returns-clause-star : goal.returns-clause-star
returns-clause-star c = λ fs others f level ts. ap (λ by. by f level ts) (indexed_star fs others)

pub returns-clause-arrow : goal.returns-clause-arrow
returns-clause-arrow c = λ fs others k l f level ts. ap (λ by. by f level ts) (indexed_arrow fs others k l)

pub returns-clause-variables : goal.returns-clause-variables
returns-clause-variables c = any_variables

pub returns-clause-arguments : goal.returns-clause-arguments
returns-clause-arguments c = at_arguments

pub returns-clause-free : goal.returns-clause-free
returns-clause-free c = free_in_types
