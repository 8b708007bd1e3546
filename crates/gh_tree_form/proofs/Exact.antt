-- The laws of the first form.
use Rattle.std.proofs.Common.{◌≡◌, List, sym, ◌∙◌}
use Rattle.gh_bindings.specs.declared.binding.Binding.{Binding}
use Rattle.gh_tree_form.specs.declared.program.Parsed.TheVariants as parsed
use Rattle.gh_tree_form.specs.Laws.{BindingsAreSpanned, FormIsExact, FormIsUnique, NamesArePlaced, RefusalIsExact}
use Rattle.gh_tree_form.proofs.Backward.{form_is_back}
use Rattle.gh_tree_form.proofs.Forward.{form_is}
use Rattle.gh_tree_form.proofs.Placed.{names_placed}
use Rattle.gh_tree_form.proofs.Refusals.{bindings_spanned, refusal_is, refusal_back}

pub form_is_exact : FormIsExact
form_is_exact t bs = (form_is t bs, form_is_back t bs)

same_program : (a b : List Binding) → parsed.Program a ≡ parsed.Program b → a ≡ b
same_program a b h = cc

pub form_is_unique : FormIsUnique
form_is_unique t a b f g = same_program a b (sym (form_is_back t a f) ∙ form_is_back t b g)

pub refusal_is_exact : RefusalIsExact
refusal_is_exact t s w = (refusal_is t s w, refusal_back t s w)

pub bindings_are_spanned : BindingsAreSpanned
bindings_are_spanned = bindings_spanned

pub names_are_placed : NamesArePlaced
names_are_placed = names_placed
