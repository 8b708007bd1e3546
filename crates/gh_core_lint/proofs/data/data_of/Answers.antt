use Rattle.std.proofs.Common.{◌++◌, sym, ap, ◌∙◌, arith, map, length}
use Rattle.std.proofs.lemmas.List.{length-map}
use Rattle.std.specs.Option.{option_copied}
use Rattle.gh_core_lint.specs.Data.{args_of}
use Rattle.gh_core_lint.specs.Types.{type_at}
use Rattle.gh_core_lint.proofs.Applied.{data_made, data_unnamed, data_undeclared, data_many}
use Rattle.gh_core_lint.proofs.data.data_of.Goals as goal

pub returns-in-None : goal.returns-in-None
returns-in-None c = data_unnamed c.args.known.now.decls.now (type_at c.args.ty.now) (sym c.in_ok-origin.ensures.name ∙ c.in-None.is)

pub returns-in-Some-datatype : goal.returns-in-Some-datatype
returns-in-Some-datatype c =
    let s = type_at c.args.ty.now in
    data_many c.args.known.now.decls.now s c.in-Some.origin c.in-Some-datatype.decl.now (map type_at c.split.new.args) (sym c.in_ok-origin.ensures.name ∙ c.in-Some.is)
    (sym c.datatype.ensures ∙ ap option_copied c.in-Some-datatype.is)
    (sym (c.in_ok-origin.ensures.args ∙ ap (λ l. map type_at l ++ args_of s) c.new-args.ensures))
    (λ e. let m = length-map c.split.new.args type_at in let p = ap length c.as_slice.ensures in let q = ap length c.as_slice-in-Some-datatype.ensures in
    let no = c.if-as_slice.false in absurd (omega arith))

pub returns-then-as_slice : goal.returns-then-as_slice
returns-then-as_slice c =
    let s = type_at c.args.ty.now in
    data_made c.args.known.now.decls.now s c.in-Some.origin c.in-Some-datatype.decl.now (map type_at c.split.new.args) (sym c.in_ok-origin.ensures.name ∙ c.in-Some.is)
    (sym c.datatype.ensures ∙ ap option_copied c.in-Some-datatype.is)
    (sym (c.in_ok-origin.ensures.args ∙ ap (λ l. map type_at l ++ args_of s) c.new-args.ensures))
    (let m = length-map c.split.new.args type_at in let p = ap length c.as_slice.ensures in let q = ap length c.as_slice-in-Some-datatype.ensures in
    let yes = c.if-as_slice.true in omega arith)

pub returns : goal.returns
returns c =
    data_undeclared c.args.known.now.decls.now (type_at c.args.ty.now) c.in-Some.origin (sym c.in_ok-origin.ensures.name ∙ c.in-Some.is)
    (sym c.datatype.ensures ∙ ap option_copied c.in-None-datatype.is)
