use Rattle.std.proofs.Common.{take}
use Rattle.gh_core.specs.Typing.{ConsFit}
use Rattle.gh_core_lint.proofs.fields.decl_fits.Given as goal

abbrev pub invariant-loop-con : goal.invariant-loop-con
invariant-loop-con l = ConsFit l.known.decls.now l.decl (take l.con-index l.decl.constructors)
