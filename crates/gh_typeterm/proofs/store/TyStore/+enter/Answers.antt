use Rattle.std.proofs.Common.{refl, sym, ap, ◌∙◌, arith}
use Rattle.gh_typeterm.specs.Keys.{ConKey, a_con, a_var, an_app, a_name}
use Rattle.gh_typeterm.proofs.Gathering.{on_ok, on_err, on_err_any, leaf_terms, leaf_part, con_parts, var_parts, name_parts, app_terms, app_part_head, app_part_arg, app_part_last, app_room, app_room_last, app_nodes, app_smaller_head, app_smaller_arg, app_size, gathered_keeps}
use Rattle.std.proofs.lemmas.Option.{slice_get_within}
use Rattle.gh_typeterm.proofs.store.TyStore.+enter.Goals as goal

pub enter-requires : goal.enter-requires
enter-requires t c =
    let e = sym c.get.ensures ∙ c.in-App.is in
    let k = app_smaller_head c.args.term.now c.in-App.head c.in-App.arg e in
    let s = app_size c.args.term.now c.in-App.head c.in-App.arg e in
    (omega (arith, k, c.decreases), omega (arith, s, c.requires))

pub returns-in_err-head-in-App-clause-err : goal.returns-in_err-head-in-App-clause-err
returns-in_err-head-in-App-clause-err t c =
    let e = sym c.get.ensures ∙ c.in-App.is in
    on_err_any c.from_residual.result (app_part_head c.args.term.now c.in-App.head c.in-App.arg e c.args.self.now c.enter.new.self c.in_err-head-in-App.ensures.err)

pub enter-requires-in-App : goal.enter-requires-in-App
enter-requires-in-App t c =
    let e = sym c.get.ensures ∙ c.in-App.is in
    let k = app_smaller_arg c.args.term.now c.in-App.head c.in-App.arg e in
    (omega (arith, k, c.decreases), app_room c.args.term.now c.in-App.head c.in-App.arg e c.args.self.now c.enter.new.self 4294967296 c.in_ok-head-in-App.ensures.terms c.requires)

pub returns-in_err-arg-in-App-clause-err : goal.returns-in_err-arg-in-App-clause-err
returns-in_err-arg-in-App-clause-err t c =
    let e = sym c.get.ensures ∙ c.in-App.is in
    on_err_any c.from_residual-in_err-arg-in-App.result (app_part_arg c.args.term.now c.in-App.head c.in-App.arg e c.args.self.now c.enter.new.self c.enter-in-App.new.self
    c.in_ok-head-in-App.ensures.terms c.in_err-arg-in-App.ensures.err)

pub nodes-requires : goal.nodes-requires
nodes-requires t c =
    slice_get_within c.enter-in-App.new.self c.in_ok-head-in-App.head c.in-App.head
    (gathered_keeps c.enter.new.self c.enter-in-App.new.self _ c.in_ok-arg-in-App.ensures.terms c.in_ok-head-in-App.head c.in-App.head c.in_ok-head-in-App.ensures.place)

pub nodes-requires-in-App : goal.nodes-requires-in-App
nodes-requires-in-App t c = slice_get_within c.enter-in-App.new.self c.in_ok-arg-in-App.arg c.in-App.arg c.in_ok-arg-in-App.ensures.place

pub joined-nodes-requires-clause-head : goal.joined-nodes-requires-clause-head
joined-nodes-requires-clause-head t c =
    let n = c.nodes.ensures c.in-App.head (gathered_keeps c.enter.new.self c.enter-in-App.new.self _ c.in_ok-arg-in-App.ensures.terms c.in_ok-head-in-App.head c.in-App.head c.in_ok-head-in-App.ensures.place) in
    omega (arith, n)

pub put-requires-in-App-clause-fits : goal.put-requires-in-App-clause-fits
put-requires-in-App-clause-fits t c =
    let e = sym c.get.ensures ∙ c.in-App.is in
    an_app c.in_ok-head-in-App.head c.in_ok-arg-in-App.arg c.in-App.head c.in-App.arg refl
    (gathered_keeps c.enter.new.self c.enter-in-App.new.self _ c.in_ok-arg-in-App.ensures.terms c.in_ok-head-in-App.head c.in-App.head c.in_ok-head-in-App.ensures.place)
    c.in_ok-arg-in-App.ensures.place e

pub put-requires-clause-fits : goal.put-requires-clause-fits
put-requires-clause-fits t c = a_con c.in-Con.head (ap (λ (k : ConKey). (0, ((0, 0), k))) c.con_key.ensures) (sym c.get.ensures ∙ c.in-Con.is)

pub put-requires-in-Var-clause-fits : goal.put-requires-in-Var-clause-fits
put-requires-in-Var-clause-fits t c = a_var c.in-Var.number refl (sym c.get.ensures ∙ c.in-Var.is)

pub put-requires-in-Name-clause-fits : goal.put-requires-in-Name-clause-fits
put-requires-in-Name-clause-fits t c = a_name c.in-Name.number refl (sym c.get.ensures ∙ c.in-Name.is)

pub put-requires-in-App-clause-nodes : goal.put-requires-in-App-clause-nodes
put-requires-in-App-clause-nodes t c =
    let e = sym c.get.ensures ∙ c.in-App.is in
    app_nodes c.args.term.now c.in-App.head c.in-App.arg e c.nodes.result c.nodes-in-App.result c.joined-nodes.result
    (c.nodes.ensures c.in-App.head (gathered_keeps c.enter.new.self c.enter-in-App.new.self _ c.in_ok-arg-in-App.ensures.terms c.in_ok-head-in-App.head c.in-App.head c.in_ok-head-in-App.ensures.place))
    (c.nodes-in-App.ensures c.in-App.arg c.in_ok-arg-in-App.ensures.place) c.joined-nodes.ensures

pub put-requires-in-App-clause-room : goal.put-requires-in-App-clause-room
put-requires-in-App-clause-room t c =
    let e = sym c.get.ensures ∙ c.in-App.is in
    app_room_last c.args.term.now c.in-App.head c.in-App.arg e c.args.self.now c.enter.new.self c.enter-in-App.new.self c.in_ok-head-in-App.ensures.terms c.in_ok-arg-in-App.ensures.terms c.requires

pub returns-in-Con-clause-terms : goal.returns-in-Con-clause-terms
returns-in-Con-clause-terms t c =
    let e = con_parts c.args.term.now c.in-Con.head (sym c.get.ensures ∙ c.in-Con.is) in
    on_ok c.put.result (leaf_terms c.args.self.now c.put.new.self c.args.term.now e) c.put.ensures.entered

pub returns-in-Con-clause-err : goal.returns-in-Con-clause-err
returns-in-Con-clause-err t c = on_err c.put.result (leaf_part c.args.self.now c.put.new.self c.args.term.now) c.put.ensures.err

pub returns-in-Var-clause-terms : goal.returns-in-Var-clause-terms
returns-in-Var-clause-terms t c =
    let e = var_parts c.args.term.now c.in-Var.number (sym c.get.ensures ∙ c.in-Var.is) in
    on_ok c.put-in-Var.result (leaf_terms c.args.self.now c.put-in-Var.new.self c.args.term.now e) c.put-in-Var.ensures.entered

pub returns-in-Var-clause-err : goal.returns-in-Var-clause-err
returns-in-Var-clause-err t c = on_err c.put-in-Var.result (leaf_part c.args.self.now c.put-in-Var.new.self c.args.term.now) c.put-in-Var.ensures.err

pub returns-in-Name-clause-terms : goal.returns-in-Name-clause-terms
returns-in-Name-clause-terms t c =
    let e = name_parts c.args.term.now c.in-Name.number (sym c.get.ensures ∙ c.in-Name.is) in
    on_ok c.put-in-Name.result (leaf_terms c.args.self.now c.put-in-Name.new.self c.args.term.now e) c.put-in-Name.ensures.entered

pub returns-in-Name-clause-err : goal.returns-in-Name-clause-err
returns-in-Name-clause-err t c = on_err c.put-in-Name.result (leaf_part c.args.self.now c.put-in-Name.new.self c.args.term.now) c.put-in-Name.ensures.err

pub returns-in_ok-arg-in-App-clause-terms : goal.returns-in_ok-arg-in-App-clause-terms
returns-in_ok-arg-in-App-clause-terms t c =
    let e = sym c.get.ensures ∙ c.in-App.is in
    on_ok c.put-in-App.result
    (app_terms c.args.term.now c.in-App.head c.in-App.arg e c.args.self.now c.enter.new.self c.enter-in-App.new.self c.put-in-App.new.self c.in_ok-head-in-App.ensures.terms c.in_ok-arg-in-App.ensures.terms)
    c.put-in-App.ensures.entered

pub returns-in_ok-arg-in-App-clause-err : goal.returns-in_ok-arg-in-App-clause-err
returns-in_ok-arg-in-App-clause-err t c =
    let e = sym c.get.ensures ∙ c.in-App.is in
    on_err c.put-in-App.result
    (app_part_last c.args.term.now c.in-App.head c.in-App.arg e c.args.self.now c.enter.new.self c.enter-in-App.new.self c.put-in-App.new.self c.in_ok-head-in-App.ensures.terms c.in_ok-arg-in-App.ensures.terms)
    c.put-in-App.ensures.err
