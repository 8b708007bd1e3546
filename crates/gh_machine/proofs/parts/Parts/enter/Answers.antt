use Rattle.std.proofs.Common.{◌≡◌, ◌∷◌, length, [], drop, refl, sym, ap, arith, subst}
use Rattle.gh_core.specs.Reading.{term_of}
use Rattle.gh_core.specs.Closing.{put}
use Rattle.gh_core.specs.Reduce.{arg}
use Rattle.gh_core.specs.Bindings.{names_entered}
use Rattle.gh_machine.specs.Unload.{envs_of, env_in, closed_in}
use Rattle.gh_machine.specs.Stacks.{stack_in, AreWithin}
use Rattle.gh_machine.specs.Reach.{AreNear}
use Rattle.gh_machine.specs.Sound.{state_of}
use Rattle.gh_machine.proofs.Moves.{held_bound, led_bound, entered}
use Rattle.gh_machine.proofs.parts.Parts.enter.Goals as goal

pub bind-top-requires-clause-value : goal.bind-top-requires-clause-value
bind-top-requires-clause-value c =
    let n = length c.args.self.now.cells.items in
    c.in-Some.ensures.within n (subst (AreWithin n) (sym c.deref.ensures.value) c.requires.held.stack)

pub go_without-requires-clause-held : goal.go_without-requires-clause-held
go_without-requires-clause-held c =
    let n = c.args.self.now.furthest in
    held_bound c.args.self.now _ _ _ c.requires.held c.bind-top.ensures.bound refl refl
    (c.bind-top.ensures.near n c.requires.held.reach.cells (c.in-Some.ensures.near n (subst (AreNear n) (sym c.deref.ensures.value) c.requires.held.reach.stack))) (omega arith)

pub returns-in-Some : goal.returns-in-Some
returns-in-Some c =
    let p = c.args.self.now in
    let envs = envs_of p.cells.items in
    let ρ = env_in envs c.args.env in
    let v = c.in-Some.value in
    let ws = stack_in envs [] p.stack.items in
    let is = subst (λ gs. stack_in envs [] gs ≡ arg (closed_in envs v) ∷ drop 1 (stack_in envs [] gs)) c.deref.ensures.value (c.in-Some.ensures.value envs) in
    led_bound p (record { program = c.args.self.now.program; cells = c.bind-top.new.cells; stack = c.args.self.now.stack; demand = c.args.self.now.demand; turn = c.args.self.now.turn; pending = c.args.self.now.pending; furthest = c.args.self.now.furthest }) c.go_without.new.self 1 c.bind-top.result (term_of c.args.body.now) (put ρ c.args.name (closed_in envs v)) _ c.requires.held c.bind-top.ensures.bound refl refl refl (omega arith) c.go_without.ensures.leads (omega (arith, c.go_without.ensures.leads.cells, c.bind-top.ensures.len, ap names_entered is)) (omega (arith, c.go_without.ensures.less, c.bind-top.ensures.len)) (omega (arith, c.go_without.ensures.near))
    (entered c.args.name (term_of c.args.body.now) ρ (closed_in envs v) ws (drop 1 ws) p.pending.items (state_of p) is)
