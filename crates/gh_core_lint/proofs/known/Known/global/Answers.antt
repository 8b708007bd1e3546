use Rattle.std.proofs.Common.{◌≡◌, sym, ap, ◌∙◌, map}
use Rattle.std.specs.Prelude.{slice_get, option_map}
use Rattle.gh_core.specs.Typing.{global_type}
use Rattle.gh_core_lint.specs.Tables.{zipped}
use Rattle.gh_core_lint.specs.Types.{type_at}
use Rattle.gh_core_lint.proofs.Lookups.{global_there, global_missed}
use Rattle.gh_core_lint.proofs.Results.{ok_more}
use Rattle.gh_core_lint.proofs.known.Known.global.Goals as goal

pub returns-in-Some : goal.returns-in-Some
returns-in-Some c =
    let ns = c.args.self.now.globals in
    let ts = c.args.self.now.types in
    let i = c.in-Some.place in
    ok_more c.type_there.result (λ ty. ty ≡ slice_get c.as_slice.result.now i) (λ ty. option_map type_at ty ≡ global_type (zipped ns (map type_at ts)) c.args.name)
    (λ ty e. global_there ns ts c.args.name i ty (e ∙ ap (λ l. slice_get l i) c.as_slice.ensures) c.args.self.now.many (sym c.place.ensures ∙ c.in-Some.is))
    c.type_there.ensures

pub returns-in-None : goal.returns-in-None
returns-in-None c = sym (global_missed c.args.self.now.globals (map type_at c.args.self.now.types) c.args.name 0 (sym c.place.ensures ∙ c.in-None.is))
