use Rattle.std.proofs.Common.{sym, ◌∙◌}
use Rattle.gh_core_lint.proofs.Lookups.{decl_here, decl_missed}
use Rattle.gh_core_lint.proofs.known.Known.datatype.Goals as goal

pub returns-in-Some : goal.returns-in-Some
returns-in-Some c = c.decl_at.ensures ∙ sym (decl_here c.args.self.now.decls.now c.args.self.now.datatypes c.args.origin c.in-Some.place c.args.self.now.datatypes_are (sym c.place.ensures ∙ c.in-Some.is))

pub returns-in-None : goal.returns-in-None
returns-in-None c = sym (decl_missed c.args.self.now.decls.now c.args.self.now.datatypes c.args.origin c.args.self.now.datatypes_are (sym c.place.ensures ∙ c.in-None.is))
