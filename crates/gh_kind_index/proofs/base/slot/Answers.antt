use Rattle.std.proofs.Common.{◌≡◌, ◌≤◌, ◌-◌, ap, ◌∙◌, sym, subst, length, map, arith, ℕ}
use Rattle.std.proofs.lemmas.List.{length-map}
use Rattle.gh_typeterm.specs.declared.kind.Kind.TheVariants as kind
use Rattle.gh_core.specs.Typing.{type_of}
use Rattle.gh_kind_index.proofs.Finish.{if_ok}
use Rattle.gh_kind_index.proofs.Forms.{type_of_any}
use Rattle.gh_kind_index.proofs.Steps.{slot_open}
use Rattle.gh_kind_index.proofs.base.slot.Goals as goal

pub returns : goal.returns
returns c =
    let types = length-map c.args.types.now type_of in
    let others = length-map c.args.others.now type_of in
    if_ok c.open.result _ _
    (λ made e. ap type_of e ∙ type_of_any kind.Star
    ∙ sym (slot_open (map type_of c.args.types.now) (map type_of c.args.others.now) c.args.x (omega (arith, types, c.if-x-types.false)) (omega (arith, types, others, c.if-at-others.false))))
    c.open.ensures
