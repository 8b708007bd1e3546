use Rattle.std.proofs.Common.{sym, ap, ◌∙◌}
use Rattle.std.specs.Prelude.{slice_get}
use Rattle.gh_core_lint.proofs.Lookups.{con_here, con_missed, con_pair}
use Rattle.gh_core_lint.proofs.known.Known.constructor.Goals as goal

pub returns-in-Some-clause-found : goal.returns-in-Some-clause-found
returns-in-Some-clause-found c =
    con_pair c.args.self.now.decls.now c.args.self.now.cons c.args.origin c.in-Some.place c.con_at.result (c.con_at.ensures ∙ ap (λ l. slice_get l c.in-Some.place) c.as_slice.ensures)
    c.args.self.now.cons_are (con_here c.args.self.now.decls.now c.args.self.now.con_names c.args.origin c.in-Some.place c.args.self.now.con_names_are (sym c.place.ensures ∙ c.in-Some.is))

pub returns-in-None-clause-found : goal.returns-in-None-clause-found
returns-in-None-clause-found c = sym (con_missed c.args.self.now.decls.now c.args.self.now.con_names c.args.origin c.args.self.now.con_names_are (sym c.place.ensures ∙ c.in-None.is))
