use Rattle.std.proofs.Common.{map, ap, subst, ◌∙◌}
use Rattle.gh_core.specs.Typing.{NamesDiffer, def_name}
use Rattle.gh_core_lint.specs.Tables.{decl_name, pair_name, ref_name, flat, def_type}
use Rattle.gh_core_lint.proofs.Knowing.{index_is, refs_are, data_doubled, cons_doubled, many_are, known_made, apart_made}
use Rattle.gh_core_lint.proofs.Names.{con_own}
use Rattle.gh_core_lint.proofs.known.Known.new.Goals as goal

pub returns-in-None : goal.returns-in-None
returns-in-None c =
    data_doubled c.args.program.now c.in_ok-decl_names.field-0 c.in_ok-index.field-0 (c.in_ok-decl_names.ensures ∙ ap (map decl_name) c.as_slice-decls.ensures)
    c.in_ok-index.ensures c.in-None.is

pub returns-in-None-2 : goal.returns-in-None-2
returns-in-None-2 c =
    cons_doubled c.args.program.now c.in_ok-con_names.field-0 c.in_ok-index-2.field-0
    (c.in_ok-con_names.ensures ∙ ap (map ref_name) c.as_slice.ensures ∙ refs_are c.in_ok-cons.cons ∙ ap (map pair_name) (c.in_ok-cons.ensures ∙ ap flat c.as_slice-decls.ensures))
    c.in_ok-index-2.ensures c.in-None-2.is

pub invariant_of-result : goal.invariant_of-result
invariant_of-result c =
    let datas = index_is c.in_ok-decl_names.field-0 c.in-Some.index c.in_ok-index.field-0 c.in_ok-index.ensures c.in-Some.is in
    let cons = index_is c.in_ok-con_names.field-0 c.in-Some-2.index c.in_ok-index-2.field-0 c.in_ok-index-2.ensures c.in-Some-2.is in
    let globals = index_is c.in_ok-def_names.field-0 c.in-Some-3.index c.in_ok-index-3.field-0 c.in_ok-index-3.ensures c.in-Some-3.is in
    record {
      datatypes_are = datas.0 ∙ c.in_ok-decl_names.ensures;
      cons_are = c.in_ok-cons.ensures;
      con_names_are = cons.0 ∙ c.in_ok-con_names.ensures ∙ ap (map ref_name) c.as_slice.ensures ∙ refs_are c.in_ok-cons.cons ∙ ap (map pair_name) c.in_ok-cons.ensures;
      own = con_own c.as_slice-decls.result.now (subst NamesDiffer c.in_ok-decl_names.ensures datas.1);
      many = many_are c.in_ok-types.types c.as_slice-defs.result.now c.in-Some-3.index c.in_ok-types.ensures (globals.0 ∙ c.in_ok-def_names.ensures);
    }

pub returns : goal.returns
returns c =
    let datas = index_is c.in_ok-decl_names.field-0 c.in-Some.index c.in_ok-index.field-0 c.in_ok-index.ensures c.in-Some.is in
    let cons = index_is c.in_ok-con_names.field-0 c.in-Some-2.index c.in_ok-index-2.field-0 c.in_ok-index-2.ensures c.in-Some-2.is in
    let globals = index_is c.in_ok-def_names.field-0 c.in-Some-3.index c.in_ok-index-3.field-0 c.in_ok-index-3.ensures c.in-Some-3.is in
    let d = c.in_ok-decl_names.ensures ∙ ap (map decl_name) c.as_slice-decls.ensures in
    let k = c.in_ok-con_names.ensures ∙ ap (map ref_name) c.as_slice.ensures ∙ refs_are c.in_ok-cons.cons ∙ ap (map pair_name) (c.in_ok-cons.ensures ∙ ap flat c.as_slice-decls.ensures) in
    let g = c.in_ok-def_names.ensures ∙ ap (map def_name) c.as_slice-defs.ensures in (
      known_made c.args.program.now c.as_slice-decls.result.now c.in-Some-3.index c.in_ok-types.types c.as_slice-decls.ensures (globals.0 ∙ g)
          (c.in_ok-types.ensures ∙ ap (map def_type) c.as_slice-defs.ensures),
      apart_made c.args.program.now c.in_ok-decl_names.field-0 c.in_ok-con_names.field-0 c.in_ok-def_names.field-0 d k g datas.1 cons.1 globals.1,
    )
