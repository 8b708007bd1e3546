use Rattle.std.proofs.Common.{take}
use Rattle.gh_core.specs.Typing.{DeclsFit}
use Rattle.gh_core_lint.proofs.fields.fields_fit.Given as goal

abbrev pub invariant-loop-decl : goal.invariant-loop-decl
invariant-loop-decl l = DeclsFit l.known.decls.now (take l.decl-index l.known.decls.now)
