use Rattle.std.proofs.Common.{ap, ◌∙◌}
use Rattle.std.specs.Prelude.{option_map}
use Rattle.std.specs.HashMap.{get}
use Rattle.gh_core.specs.declared.erased.Erased.{Erased}
use Rattle.gh_core.specs.Reading.{defs_of}
use Rattle.gh_core.specs.Reduce.{defined}
use Rattle.gh_machine.specs.Keys.{same_key}
use Rattle.gh_machine.proofs.Keys.{term_at}
use Rattle.gh_machine.proofs.program.Program.definition.Goals as goal

pub returns-in-Some : goal.returns-in-Some
returns-in-Some c =
    ap (option_map term_at) (c.in-Some.ensures.value ∙ ap (get same_key c.self.inside.table) c.key.ensures)
    ∙ c.self.invariant c.args.name ∙ ap (λ (e : Erased). defined (defs_of e.defs) c.args.name) c.self.view_is

pub returns-in-None : goal.returns-in-None
returns-in-None c =
    ap (option_map term_at) (c.in-None.ensures.value ∙ ap (get same_key c.self.inside.table) c.key.ensures)
    ∙ c.self.invariant c.args.name ∙ ap (λ (e : Erased). defined (defs_of e.defs) c.args.name) c.self.view_is
