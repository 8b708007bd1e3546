use Rattle.std.proofs.Common.{ap, subst, ◌∙◌, map}
use Rattle.gh_core.specs.Typing.{paired, Types_of}
use Rattle.gh_core_lint.specs.Bound.{Adds}
use Rattle.gh_core_lint.specs.Types.{type_at}
use Rattle.gh_core_lint.proofs.Bound.{paired_written}
use Rattle.gh_core_lint.proofs.scope.bind_all.Goals as goal

pub returns-clause-bound : goal.returns-clause-bound
returns-clause-bound c =
    subst (λ (gs : Types_of). Adds gs c.args.scope.now.vars c.bind_names.new.vars)
    ((λ j. paired ((c.as_slice.ensures ∙ c.in_ok-names.ensures) j) ((ap (map type_at) c.as_slice-2.ensures ∙ c.in_ok-types.ensures) j))
    ∙ paired_written c.args.scope.now.kinds c.args.bindings.now)
    c.in_ok-bind_names.ensures
