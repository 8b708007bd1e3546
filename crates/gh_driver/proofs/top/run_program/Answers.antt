use Rattle.std.proofs.Common.{rules, refl}
use Rattle.gh_machine.specs.Values.{status_of}
use Rattle.gh_run.proofs.Appended.{front_nothing}
use Rattle.gh_driver.proofs.Tops.{ran_said, ran_unwritten, ran_out_of_memory}
use Rattle.gh_driver.proofs.top.run_program.Goals as goal

pub returns-in-Ok-run_main-clause-told : goal.returns-in-Ok-run_main-clause-told
returns-in-Ok-run_main-clause-told g c =
    ran_said c.args.files.now c.args.bindings.now c.args.steps _ _ (status_of c.in-Ok-run_main.turn) (search rules) (search rules) c.say_turn.ensures.said

pub returns-in_default-clause-told : goal.returns-in_default-clause-told
returns-in_default-clause-told g c =
    ran_out_of_memory c.args.files.now c.args.bindings.now c.args.steps _ _ (search rules) (front_nothing _ _) (search rules)

pub returns-in-Err-NoMemory-clause-told : goal.returns-in-Err-NoMemory-clause-told
returns-in-Err-NoMemory-clause-told g c =
    ran_out_of_memory c.args.files.now c.args.bindings.now c.args.steps _ _ (search rules) (search rules) (search rules)

pub returns-clause-told : goal.returns-clause-told
returns-clause-told g c =
    ran_unwritten c.args.files.now c.args.bindings.now c.args.steps _ _ refl (search rules) (search rules) (search rules)
