use Rattle.std.proofs.Common.{◌≡◌, drop, map}
use Rattle.gh_fixity.specs.Exps.{decl_out}
use Rattle.gh_fixity.specs.Walks.{entered}
use Rattle.gh_fixity.proofs.scope.enter.Given as goal

abbrev pub invariant-loop-decl : goal.invariant-loop-decl
invariant-loop-decl l = record { value : entered (map (decl_out l.tops) l.decls) l.fn.state.locals ≡ entered (map (decl_out l.tops) (drop l.decl-index l.decls)) l.state.locals; found : l.state.found ≡ l.fn.state.found }
