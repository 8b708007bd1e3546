-- The core of a program of bindings before any reduction.
use Rattle.std.proofs.Common.{◌≡◌, List, [], ap, ◌∙◌, refl, sym}
use Rattle.gh_bindings.specs.Core.{core_program}
use Rattle.gh_bindings.specs.declared.binding.Binding.{Binding}
use Rattle.gh_bindings.proofs.Keeping.{core_starts}
use Rattle.gh_core.specs.declared.erased.Erased.{Erased}
use Rattle.gh_core.specs.Erase.{erased_program}
use Rattle.gh_core.specs.Reading.{term_of}
use Rattle.gh_core.specs.Reduce.{running, reductions}
use Rattle.gh_core.specs.Run.{seen, core_main, start}

no_reduction : (c : Erased) → core_main c 0 ≡ seen (start (term_of c.main))
unfolding reductions
no_reduction c = refl

pub starts_running : (c : Erased) (bs : List Binding) → c ≡ erased_program (core_program bs) → (start (term_of c.main)).status ≡ running
starts_running c bs e = ap (λ s. s.status) (sym (no_reduction c) ∙ ap (λ x. core_main x 0) e ∙ core_starts bs)

pub starts_silent : (c : Erased) (bs : List Binding) → c ≡ erased_program (core_program bs) → (start (term_of c.main)).out ≡ []
starts_silent c bs e = ap (λ s. s.out) (sym (no_reduction c) ∙ ap (λ x. core_main x 0) e ∙ core_starts bs)
