use Rattle.std.proofs.Common.{◌≡◌, map, Some, refl, sym, ap, ◌∙◌}
use Rattle.gh_core.specs.Closing.{close}
use Rattle.gh_core.specs.Reading.{term_of}
use Rattle.gh_core.specs.Read.{bind_of, term_of-LetRec}
use Rattle.gh_machine.specs.Unload.{place_of, code_in, env_of, binding_in}
use Rattle.gh_machine.proofs.Looks.{group_some, group_none}
use Rattle.gh_machine.proofs.look.find_in.Goals as goal

pub returns-in-Some : goal.returns-in-Some
returns-in-Some c =
    let bs = c.in-LetRec.bindings in
    let is = ap code_in c.in-Term.is ∙ ap term_of c.in-LetRec.is ∙ term_of-LetRec bs c.in-LetRec.field-1 in
    let same : place_of (map bind_of c.as_slice.result.now) c.args.name ≡ place_of (map bind_of bs) c.args.name = ap (λ xs. place_of (map bind_of xs) c.args.name) c.as_slice.ensures in
    record { value = (sym (ap env_of c.in-Term.is), λ ρ. group_some (code_in c.args.value) (map bind_of bs) (term_of c.in-LetRec.field-1) c.args.name c.in-Some.index is (sym same ∙ sym c.in-Some.ensures.value) ρ ∙ ap (λ u. Some (close (binding_in u c.in-Some.index) ρ)) (ap code_in c.in-Term.is)); near = refl }

pub returns-in-None : goal.returns-in-None
returns-in-None c =
    let bs = c.in-LetRec.bindings in
    let is = ap code_in c.in-Term.is ∙ ap term_of c.in-LetRec.is ∙ term_of-LetRec bs c.in-LetRec.field-1 in
    let same : place_of (map bind_of c.as_slice.result.now) c.args.name ≡ place_of (map bind_of bs) c.args.name = ap (λ xs. place_of (map bind_of xs) c.args.name) c.as_slice.ensures in
    record { value = λ ρ. group_none (code_in c.args.value) (map bind_of bs) (term_of c.in-LetRec.field-1) c.args.name is (sym same ∙ sym c.in-None.ensures.value) ρ; near = tt }
