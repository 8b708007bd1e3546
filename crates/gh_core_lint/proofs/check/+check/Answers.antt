use Rattle.std.proofs.Common.{◌≡◌, ◌+◌, ◌∙◌, refl, ap, sym, subst, length, map, [], ◌∷◌, Option, Some, arith}
use Rattle.std.proofs.lemmas.List.{length-map}
use Rattle.std.proofs.lemmas.Result.{err_from_is_err_and}
use Rattle.std.specs.Prelude.{option_map, IfOk, MatchResult}
use Rattle.gh_core.specs.Typing.{Code, a_case, a_letrec, bindings_of, branches_of, code_of, placed, type_of, HasType}
use Rattle.gh_core.specs.declared.terms.CoreTerm.{CoreTerm}
use Rattle.gh_core_lint.specs.declared.types.Node.{Node}
use Rattle.gh_core_lint.specs.Branches.{alt_code, binding_code}
use Rattle.gh_core_lint.specs.Faults.{nodes, nodes_chosen, repeated, written, AreValues, BodyFails, BranchHas, BranchesHave, CaseFails, Fails, IsCase}
use Rattle.gh_core_lint.specs.Programs.{program_of}
use Rattle.gh_core_lint.specs.Stops.{vars_of, Blames}
use Rattle.gh_core_lint.specs.Types.{type_at}
use Rattle.gh_core_lint.proofs.Codes.{code_LetRec}
use Rattle.gh_core_lint.proofs.Results.{ok_both, ok_more, on_err_more}
use Rattle.gh_core_lint.proofs.Scoped.{again, Faulty, Has}
use Rattle.gh_core_lint.proofs.PartsTyped.{alternative_fails, alternative_has, alternative_less, alternative_next, binding_fails, binding_has, binding_less, binding_next, bindings_many, case_has, case_outer, case_second, case_third, letrec_has, nodes_join, typed_more, written_many}
use Rattle.gh_core_lint.proofs.check.+check.Goals as goal

pub check-returns-in-LetRec-clause-typed : goal.check-returns-in-LetRec-clause-typed
check-returns-in-LetRec-clause-typed t c =
    let is : code_of c.args.term.now ≡ a_letrec (bindings_of (map binding_code c.as_slice.result.now)) (code_of c.get-in-LetRec.result.now) =
    ap code_of c.in-LetRec.is ∙ code_LetRec c.in-LetRec.bindings c.in-LetRec.body
    ∙ (λ j. a_letrec (bindings_of (map binding_code (sym c.as_slice.ensures j))) (code_of (sym c.get-in-LetRec.ensures j))) in
    subst (λ (z : Code). IfOk c.check_letrec.result (λ r. HasType (program_of c.args.known.now) c.args.scope.now.kinds (vars_of c.args.scope.now.vars) z (type_at r.ty)))
    (sym is) c.check_letrec.ensures.typed

pub check-returns-in-LetRec-clause-next : goal.check-returns-in-LetRec-clause-next
check-returns-in-LetRec-clause-next t c =
    let is : code_of c.args.term.now ≡ a_letrec (bindings_of (map binding_code c.as_slice.result.now)) (code_of c.get-in-LetRec.result.now) =
    ap code_of c.in-LetRec.is ∙ code_LetRec c.in-LetRec.bindings c.in-LetRec.body
    ∙ (λ j. a_letrec (bindings_of (map binding_code (sym c.as_slice.ensures j))) (code_of (sym c.get-in-LetRec.ensures j))) in
    subst (λ (z : Code). IfOk c.check_letrec.result (λ r. r.next ≡ c.args.node + nodes z)) (sym is) c.check_letrec.ensures.next

pub check-returns-in-LetRec-clause-fault : goal.check-returns-in-LetRec-clause-fault
check-returns-in-LetRec-clause-fault t c =
    let is : code_of c.args.term.now ≡ a_letrec (bindings_of (map binding_code c.as_slice.result.now)) (code_of c.get-in-LetRec.result.now) =
    ap code_of c.in-LetRec.is ∙ code_LetRec c.in-LetRec.bindings c.in-LetRec.body
    ∙ (λ j. a_letrec (bindings_of (map binding_code (sym c.as_slice.ensures j))) (code_of (sym c.get-in-LetRec.ensures j))) in
    subst (λ (z : Code). MatchResult c.check_letrec.result (λ _. Unit {0})
    (λ s. Blames s (Fails (program_of c.args.known.now) c.args.scope.now.kinds (vars_of c.args.scope.now.vars) c.args.node z)))
    (sym is) c.check_letrec.ensures.fault

pub check_alternatives-check_alternative-requires : goal.check_alternatives-check_alternative-requires
check_alternatives-check_alternative-requires t c =
    let k = alternative_less c.args.alternatives.now c.loop-alternative.alternative-index c.alternative-item.result (omega arith) c.alternative-item.is in
    (omega (arith, k, c.decreases), c.requires)

pub check_alternatives-returns-in_err-one-clause-fault : goal.check_alternatives-returns-in_err-one-clause-fault
check_alternatives-returns-in_err-one-clause-fault t c =
    let p = program_of c.args.known.now in
    let s = type_at c.args.scrutinee.now in
    let old = c.args.scope.now in
    let at = c.loop-alternative in
    let e = err_from_is_err_and c.from_residual.result c.from_residual.ensures.1 in
    rw (e.1, e.2)
    (alternative_fails p old.kinds (vars_of old.vars) s c.args.alternatives.now at.alternative-index c.alternative-item.result (map type_at at.types)
    c.args.node at.next c.in_err-one.field-0.0 (omega arith) c.alternative-item.is at.invariant.typed at.invariant.next
    (again (λ ks gs. Blames c.in_err-one.field-0.0 (BodyFails p ks gs s at.next (alt_code c.alternative-item.result))) old at.scope at.invariant.scope c.in_err-one.ensures.fault))

pub check_alternatives-loop-alternative-preserved : goal.check_alternatives-loop-alternative-preserved
check_alternatives-loop-alternative-preserved t c =
    let p = program_of c.args.known.now in
    let s = type_at c.args.scrutinee.now in
    let old = c.args.scope.now in
    let at = c.loop-alternative in
    record {
      typed =
          alternative_has p old.kinds (vars_of old.vars) s c.args.alternatives.now at.alternative-index c.alternative-item.result at.types c.push.new.self c.in_ok-one.one.ty
          (omega arith) c.alternative-item.is c.in_ok-push.ensures.ok at.invariant.typed
          (again (λ ks gs. BranchHas p ks gs s (alt_code c.alternative-item.result) (type_at c.in_ok-one.one.ty)) old at.scope at.invariant.scope c.in_ok-one.ensures.typed);
      next =
          alternative_next c.args.alternatives.now at.alternative-index c.alternative-item.result c.args.node at.next c.in_ok-one.one.next
          (omega arith) c.alternative-item.is at.invariant.next c.in_ok-one.ensures.next;
      scope = c.in_ok-one.ensures.scope ∙ at.invariant.scope;
    }

pub check_bindings-check-requires : goal.check_bindings-check-requires
check_bindings-check-requires t c =
    let k = binding_less c.args.bindings.now c.loop-term.term-index c.loop-term-item.result (omega arith) c.loop-term-item.is in
    (omega (arith, k, c.decreases), tt)

pub check_bindings-returns-in_err-one-clause-fault : goal.check_bindings-returns-in_err-one-clause-fault
check_bindings-returns-in_err-one-clause-fault t c =
    let p = program_of c.args.known.now in
    let old = c.args.scope.now in
    let at = c.loop-term in
    let e = err_from_is_err_and c.from_residual.result c.from_residual.ensures.1 in
    rw (e.1, e.2)
    (binding_fails p old.kinds (vars_of old.vars) c.args.bindings.now at.term-index c.loop-term-item.result (map type_at at.types)
    c.args.node at.next c.in_err-one.field-0.0 (omega arith) c.loop-term-item.is at.invariant.typed at.invariant.next
    (again (λ ks gs. Blames c.in_err-one.field-0.0 (Fails p ks gs at.next (binding_code c.loop-term-item.result).2)) old at.scope at.invariant.scope c.in_err-one.ensures.fault))

pub check_bindings-loop-term-preserved : goal.check_bindings-loop-term-preserved
check_bindings-loop-term-preserved t c =
    let p = program_of c.args.known.now in
    let old = c.args.scope.now in
    let at = c.loop-term in
    record {
      typed =
          binding_has p old.kinds (vars_of old.vars) c.args.bindings.now at.term-index c.loop-term-item.result at.types c.push.new.self c.in_ok-one.one.ty
          (omega arith) c.loop-term-item.is c.in_ok-push.ensures.ok at.invariant.typed
          (again (λ ks gs. HasType p ks gs (binding_code c.loop-term-item.result).2 (type_at c.in_ok-one.one.ty)) old at.scope at.invariant.scope c.in_ok-one.ensures.typed);
      next =
          binding_next c.args.bindings.now at.term-index c.loop-term-item.result c.args.node at.next c.in_ok-one.one.next
          (omega arith) c.loop-term-item.is at.invariant.next c.in_ok-one.ensures.next;
      scope = c.in_ok-one.ensures.scope ∙ at.invariant.scope;
    }

pub check_case-check_alternatives-requires : goal.check_case-check_alternatives-requires
check_case-check_alternatives-requires t c =
    let k = nodes_join (map alt_code c.args.alternatives.now) (option_map code_of c.args.otherwise.now) in
    (omega (arith, k, c.decreases), c.in_ok-sort.ensures)

pub check_case-returns-in_err-parts-clause-fault : goal.check_case-returns-in_err-parts-clause-fault
check_case-returns-in_err-parts-clause-fault t c =
    let e = err_from_is_err_and c.from_residual-in_err-parts.result c.from_residual-in_err-parts.ensures.1 in
    rw (e.1, e.2)
    (case_second (program_of c.args.known.now) c.args.scope.now c.check.new.scope c.args.node c.in_ok-of.of.next (code_of c.args.scrutinee.now) (type_of c.args.ty.now)
    (map alt_code c.args.alternatives.now) (option_map code_of c.args.otherwise.now) (type_at c.in_ok-of.of.ty) c.in_err-parts.field-0.0
    c.in_ok-of.ensures.scope c.in_ok-of.ensures.typed c.in_ok-of.ensures.next c.in_err-parts.ensures.fault)

pub check_case-check_else-requires : goal.check_case-check_else-requires
check_case-check_else-requires t c =
    let k = nodes_join (map alt_code c.args.alternatives.now) (option_map code_of c.args.otherwise.now) in
    (omega (arith, k, c.decreases), tt)

pub check_case-returns-in_err-parts-2-clause-fault : goal.check_case-returns-in_err-parts-2-clause-fault
check_case-returns-in_err-parts-2-clause-fault t c =
    let e = err_from_is_err_and c.from_residual-in_err-parts-2.result c.from_residual-in_err-parts-2.ensures.1 in
    rw (e.1, e.2)
    (case_third (program_of c.args.known.now) c.args.scope.now c.check.new.scope c.check_alternatives.new.scope c.args.node c.in_ok-of.of.next c.in_ok-parts.parts.next
    (code_of c.args.scrutinee.now) (type_of c.args.ty.now) (map alt_code c.args.alternatives.now) (option_map code_of c.args.otherwise.now) (type_at c.in_ok-of.of.ty)
    (map type_at c.in_ok-parts.parts.types) c.in_err-parts-2.field-0.0 c.in_ok-of.ensures.scope c.in_ok-parts.ensures.scope c.in_ok-of.ensures.typed c.in_ok-of.ensures.next
    c.in_ok-parts.ensures.typed c.in_ok-parts.ensures.next c.in_err-parts-2.ensures.fault)

pub check_else-returns-in_ok-push-in-Some-clause-typed : goal.check_else-returns-in_ok-push-in-Some-clause-typed
check_else-returns-in_ok-push-in-Some-clause-typed t c =
    let p = program_of c.args.known.now in
    let old = c.args.scope.now in
    let u = type_at c.in_ok-one-in-Some.one.ty in
    let is : option_map code_of c.args.otherwise.now ≡ Some (code_of c.get.result.now) = ap (option_map code_of) c.in-Some.is ∙ ap (λ (e : CoreTerm). Some (code_of e)) (sym c.get.ensures) in (
      u ∷ [],
      typed_more c.args.parts.types c.push.new.self c.in_ok-one-in-Some.one.ty c.in_ok-push-in-Some.ensures.ok,
      (λ s. subst (λ (o : Option Code). BranchesHave p old.kinds (vars_of old.vars) s (branches_of [] o) (u ∷ [])) (sym is) (u, refl, c.in_ok-one-in-Some.ensures.typed)),
    )

pub check_case-returns-clause-typed : goal.check_case-returns-clause-typed
check_case-returns-clause-typed t c =
    let p = program_of c.args.known.now in
    let old = c.args.scope.now in
    let e = code_of c.args.scrutinee.now in
    let ty = type_of c.args.ty.now in
    let xs = map alt_code c.args.alternatives.now in
    let other = option_map code_of c.args.otherwise.now in
    let s = type_at c.in_ok-of.of.ty in
    let ws = map type_at c.in_ok-parts-2.parts.types in
    let ks = c.check_else.new.scope.kinds in
    ok_more c.case_node.result (λ made. IsCase p ks s ty (branches_of xs other) × (type_at made.ty ≡ placed ks ty) × (repeated (type_at made.ty) ws ≡ ws))
    (λ made. Has p old (a_case e ty (branches_of xs other)) (type_at made.ty))
    (λ made rule. case_has p old c.check.new.scope c.check_alternatives.new.scope c.check_else.new.scope e ty xs other
    s (type_at made.ty) (map type_at c.in_ok-parts.parts.types) ws
    c.in_ok-of.ensures.scope c.in_ok-parts.ensures.scope c.in_ok-parts-2.ensures.scope c.in_ok-of.ensures.typed c.in_ok-parts.ensures.typed c.in_ok-parts-2.ensures.typed
    rule.0 rule.1 rule.2) c.case_node.ensures.rule

pub check_case-returns-clause-next : goal.check_case-returns-clause-next
check_case-returns-clause-next t c =
    let xs = map alt_code c.args.alternatives.now in
    let other = option_map code_of c.args.otherwise.now in
    let k = nodes_join xs other in
    let a = c.in_ok-of.ensures.next in
    let b = c.in_ok-parts.ensures.next in
    let d = c.in_ok-parts-2.ensures.next in
    let sum : c.in_ok-parts-2.parts.next + 1 ≡ c.args.node + nodes (a_case (code_of c.args.scrutinee.now) (type_of c.args.ty.now) (branches_of xs other)) = omega arith in
    ok_more c.case_node.result (λ made. made.next ≡ c.in_ok-parts-2.parts.next + 1)
    (λ made. made.next ≡ c.args.node + nodes (a_case (code_of c.args.scrutinee.now) (type_of c.args.ty.now) (branches_of xs other)))
    (λ made h. h ∙ sum) c.case_node.ensures.next

pub check_case-returns-clause-fault : goal.check_case-returns-clause-fault
check_case-returns-clause-fault t c =
    let p = program_of c.args.known.now in
    let old = c.args.scope.now in
    let e = code_of c.args.scrutinee.now in
    let ty = type_of c.args.ty.now in
    let xs = map alt_code c.args.alternatives.now in
    let other = option_map code_of c.args.otherwise.now in
    let s = type_at c.in_ok-of.of.ty in
    let ws = map type_at c.in_ok-parts-2.parts.types in
    let ks = c.check_else.new.scope.kinds in
    let k = nodes_join xs other in
    let a = c.in_ok-of.ensures.next in
    let b = c.in_ok-parts.ensures.next in
    let d = c.in_ok-parts-2.ensures.next in
    let is : c.in_ok-parts-2.parts.next ≡ c.args.node + nodes e + nodes_chosen (branches_of xs other) = omega arith in
    on_err_more c.case_node.result (λ stop. Blames stop (CaseFails p ks s ty (branches_of xs other) ws c.in_ok-parts-2.parts.next))
    (λ stop. Blames stop (Faulty p old c.args.node (a_case e ty (branches_of xs other))))
    (λ stop h. case_outer p old c.check.new.scope c.check_alternatives.new.scope c.check_else.new.scope c.args.node c.in_ok-parts-2.parts.next e ty xs other
    s (map type_at c.in_ok-parts.parts.types) ws stop
    c.in_ok-of.ensures.scope c.in_ok-parts.ensures.scope c.in_ok-parts-2.ensures.scope c.in_ok-of.ensures.typed c.in_ok-parts.ensures.typed c.in_ok-parts-2.ensures.typed
    is h) c.case_node.ensures.fault

pub check_letrec-letrec_node-requires-clause-many : goal.check_letrec-letrec_node-requires-clause-many
check_letrec-letrec_node-requires-clause-many t c =
    let p = program_of c.args.known.now in
    let bs = map binding_code c.args.bindings.now in
    let at = c.bind_all.new.scope in
    sym (length-map c.in_ok-wanted.wanted type_at) ∙ ap length c.in_ok-wanted.ensures.types ∙ written_many c.args.scope.now.kinds bs
    ∙ sym (bindings_many p at.kinds (vars_of at.vars) bs (map type_at c.in_ok-parts.parts.types) c.in_ok-parts.ensures.typed)
    ∙ length-map c.in_ok-parts.parts.types type_at

pub check_letrec-returns-clause-typed : goal.check_letrec-returns-clause-typed
check_letrec-returns-clause-typed t c =
    let p = program_of c.args.known.now in
    let old = c.args.scope.now in
    let bs = bindings_of (map binding_code c.args.bindings.now) in
    let us = map type_at c.in_ok-parts.parts.types in
    let ks = c.check.new.scope.kinds in
    ok_both c.letrec_node.result (λ _. AreValues p ks bs × (written ks bs ≡ us)) (λ made. made.ty ≡ c.in_ok-body.body.ty)
    (λ made. Has p old (a_letrec bs (code_of c.args.body.now)) (type_at made.ty))
    (λ made rule same. subst (λ (n : Node). Has p old (a_letrec bs (code_of c.args.body.now)) (type_at n)) (sym same)
    (letrec_has p old c.bind_all.new.scope c.check_bindings.new.scope ks bs (code_of c.args.body.now)
    us (type_at c.in_ok-body.body.ty) c.in_ok-wanted.ensures.kinds c.in_ok-wanted.ensures.bound c.in_ok-parts.ensures.scope
    c.in_ok-parts.ensures.typed c.in_ok-body.ensures.typed
    (ap (λ s. s.kinds) (c.in_ok-body.ensures.scope ∙ c.in_ok-parts.ensures.scope) ∙ c.in_ok-wanted.ensures.kinds)
    rule.0 rule.1)) c.letrec_node.ensures.rule c.letrec_node.ensures.ty
