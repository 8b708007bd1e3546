-- Where rules fail inside a node is where they fail at the nodes that stand in it: the fold's list and the relation say the same.
-- For each of the 21 types: the fold's list by the nodes right inside (`X_parts`), and the step of the induction (`X_layer`).
use Rattle.std.proofs.Common.{◌≡◌, ◌⊎◌, inl, inr, List, [], ◌∷◌, ◌++◌, map, refl, sym, ap, ◌∙◌, subst, append_assoc, append-nil}
use Rattle.std.specs.List.{flat_map}
use Rattle.std.proofs.lemmas.List.Folds.{flat_map-map}
use Rattle.gh_tree.specs.declared.expressions.Aexp.{Aexp, out-Aexp, roll-Aexp, out-roll-Aexp, map-Aexp, fold_out-Aexp}
use Rattle.gh_tree.specs.declared.expressions.Alt.{Alt, out-Alt, roll-Alt, out-roll-Alt, map-Alt, fold_out-Alt}
use Rattle.gh_tree.specs.declared.expressions.Decl.{Decl, out-Decl, roll-Decl, out-roll-Decl, map-Decl, fold_out-Decl, ind-Decl}
use Rattle.gh_tree.specs.declared.expressions.Exp.{Exp, out-Exp, roll-Exp, out-roll-Exp, map-Exp, fold_out-Exp}
use Rattle.gh_tree.specs.declared.expressions.Locals.{Locals, out-Locals, roll-Locals, out-roll-Locals, map-Locals, fold_out-Locals}
use Rattle.gh_tree.specs.declared.expressions.Open.{Open, out-Open, roll-Open, out-roll-Open, map-Open, fold_out-Open}
use Rattle.gh_tree.specs.declared.expressions.Operand.{Operand, out-Operand, roll-Operand, out-roll-Operand, map-Operand, fold_out-Operand}
use Rattle.gh_tree.specs.declared.expressions.Rhs.{Rhs, out-Rhs, roll-Rhs, out-roll-Rhs, map-Rhs, fold_out-Rhs, ind-Rhs}
use Rattle.gh_tree.specs.declared.expressions.Where.{Where, out-Where, roll-Where, out-roll-Where, map-Where, fold_out-Where}
use Rattle.gh_tree.specs.declared.expressions.AltGuard.{AltGuard, out-AltGuard, roll-AltGuard, out-roll-AltGuard, map-AltGuard, fold_out-AltGuard}
use Rattle.gh_tree.specs.declared.expressions.AltItem.{AltItem, out-AltItem, roll-AltItem, out-roll-AltItem, map-AltItem, fold_out-AltItem}
use Rattle.gh_tree.specs.declared.expressions.Alts.{Alts, out-Alts, roll-Alts, out-roll-Alts, map-Alts, fold_out-Alts}
use Rattle.gh_tree.specs.declared.expressions.DeclItem.{DeclItem, out-DeclItem, roll-DeclItem, out-roll-DeclItem, map-DeclItem, fold_out-DeclItem}
use Rattle.gh_tree.specs.declared.expressions.Decls.{Decls, out-Decls, roll-Decls, out-roll-Decls, map-Decls, fold_out-Decls}
use Rattle.gh_tree.specs.declared.expressions.Guard.{Guard, out-Guard, roll-Guard, out-roll-Guard, map-Guard, fold_out-Guard}
use Rattle.gh_tree.specs.declared.expressions.NextOperand.{NextOperand, out-NextOperand, roll-NextOperand, out-roll-NextOperand, map-NextOperand, fold_out-NextOperand}
use Rattle.gh_tree.specs.declared.expressions.OperandList.{OperandList, out-OperandList, roll-OperandList, out-roll-OperandList, map-OperandList, fold_out-OperandList}
use Rattle.gh_tree.specs.declared.expressions.Part.{Part, out-Part, roll-Part, out-roll-Part, map-Part, fold_out-Part}
use Rattle.gh_tree.specs.declared.expressions.Redef.{Redef, out-Redef, roll-Redef, out-roll-Redef, map-Redef, fold_out-Redef}
use Rattle.gh_tree.specs.declared.expressions.RedefItem.{RedefItem, out-RedefItem, roll-RedefItem, out-roll-RedefItem, map-RedefItem, fold_out-RedefItem}
use Rattle.gh_tree.specs.declared.expressions.Redefs.{Redefs, out-Redefs, roll-Redefs, out-roll-Redefs, map-Redefs, fold_out-Redefs}
use Rattle.gh_tree.specs.declared.expressions.Aexp.TheOpen.{Aexp-F, Alt-F, Decl-F, Exp-F, Locals-F, Open-F, Operand-F, Rhs-F, Where-F, AltGuard-F, AltItem-F, Alts-F, DeclItem-F, Decls-F, Guard-F, NextOperand-F, OperandList-F, Part-F, Redef-F, RedefItem-F, Redefs-F}
use Rattle.gh_limits.specs.Nodes.{Among, is_first, is_later, Node, an_aexp, an_alt, a_decl, an_exp, a_locals, an_open, an_operand, a_rhs, a_where, an_alt_guard, an_alt_item, an_alts, a_decl_item, a_decls, a_guard, a_next_operand, an_operand_list, a_part, a_redef, a_redef_item, a_redefs, children, aexp_children, alt_children, decl_children, exp_children, locals_children, open_children, operand_children, rhs_children, where_children, alt_guard_children, alt_item_children, alts_children, decl_item_children, decls_children, guard_children, next_operand_children, operands_children, part_children, redef_children, redef_item_children, redefs_children, StandsIn, is_itself, in_a_child}
use Rattle.gh_declarations.specs.declared.named.Failure.{Failure}
use Rattle.gh_declarations.specs.Lists.{list_failures, repeated}
use Rattle.gh_declarations.specs.Patterns.{pattern_variables, left_variables}
use Rattle.gh_declarations.specs.Inside.{Found, flat, lambda_variables, aexp_step, alt_step, decl_step, exp_step, locals_step, open_step, operand_step, rhs_step, where_step, alt_guard_step, alt_item_step, alts_step, decl_item_step, decls_step, guard_step, next_operand_step, operands_step, part_step, redef_step, redef_item_step, redefs_step, aexp_failures, alt_failures, decl_found, exp_failures, locals_failures, open_failures, operand_failures, rhs_failures, where_failures, alt_guard_failures, alt_item_failures, alts_failures, decl_item_found, decls_failures, guard_failures, next_operand_failures, operands_failures, part_failures, redef_failures, redef_item_failures, redefs_failures}
use Rattle.gh_declarations.specs.Nodes.{own_failures, open_own, alt_own, decl_own, decls_own, FailsInside}

-- ---- lists

pub one_of : {A : Type 0} (c d : A) (ds : List A) → Among c (d ∷ ds) → (c ≡ d) ⊎ Among c ds
one_of c d ds (is_first y ys same) = inl same
one_of c d ds (is_later y ys later) = inr later

pub none_of : {A : Type 0} (c : A) (ds : List A) → ds ≡ [] → Among c ds → ⊥
none_of c ds e (is_first y ys same) = absurd (cc)
none_of c ds e (is_later y ys later) = absurd (cc)

pub in_left : {A : Type 0} (c : A) (as' bs : List A) → Among c as' → Among c (as' ++ bs)
in_left c as' bs (is_first y ys same) = is_first y (ys ++ bs) same
in_left c as' bs (is_later y ys later) = is_later y (ys ++ bs) (in_left c ys bs later)

pub in_right : {A : Type 0} (c : A) (as' bs : List A) → Among c bs → Among c (as' ++ bs)
in_right c [] bs h = h
in_right c (a ∷ as') bs h = is_later a (as' ++ bs) (in_right c as' bs h)

later_left : {A : Type 0} (c a : A) (as' bs : List A) → Among c as' ⊎ Among c bs → Among c (a ∷ as') ⊎ Among c bs
later_left c a as' bs (inl h) = inl (is_later a as' h)
later_left c a as' bs (inr h) = inr h

pub in_either : {A : Type 0} (c : A) (as' bs : List A) → Among c (as' ++ bs) → Among c as' ⊎ Among c bs
in_either c [] bs h = inr h
in_either c (a ∷ as') bs h = by_case (one_of c a (as' ++ bs) h) (in_either c as' bs)
  where
    by_case : (c ≡ a) ⊎ Among c (as' ++ bs) → (Among c (as' ++ bs) → Among c as' ⊎ Among c bs) → Among c (a ∷ as') ⊎ Among c bs
    by_case (inl same) go = inl (is_first a as' same)
    by_case (inr later) go = later_left c a as' bs (go later)

-- ---- what is counted in a node

abbrev pub counts : Node → List Failure
counts (an_aexp x) = aexp_failures x
counts (an_alt x) = alt_failures x
counts (a_decl x) = (decl_found x).inside
counts (an_exp x) = exp_failures x
counts (a_locals x) = locals_failures x
counts (an_open x) = open_failures x
counts (an_operand x) = operand_failures x
counts (a_rhs x) = rhs_failures x
counts (a_where x) = where_failures x
counts (an_alt_guard x) = alt_guard_failures x
counts (an_alt_item x) = alt_item_failures x
counts (an_alts x) = alts_failures x
counts (a_decl_item x) = (decl_item_found x).inside
counts (a_decls x) = decls_failures x
counts (a_guard x) = guard_failures x
counts (a_next_operand x) = next_operand_failures x
counts (an_operand_list x) = operands_failures x
counts (a_part x) = part_failures x
counts (a_redef x) = redef_failures x
counts (a_redef_item x) = redef_item_failures x
counts (a_redefs x) = redefs_failures x

abbrev total : List Node → List Failure
total ns = flat_map counts ns

total_append : (ns ms : List Node) → total (ns ++ ms) ≡ total ns ++ total ms
total_append [] ms = refl
total_append (n ∷ ns) ms = ap (λ cs. counts n ++ cs) (total_append ns ms) ∙ sym (append_assoc (counts n) (total ns) (total ms))

single : (n : Node) → counts n ≡ total (n ∷ [])
single n = sym (append-nil (counts n))

listed : {X : Type 0} (f : X → Node) (xs : List X) → flat (map (λ x. counts (f x)) xs) ≡ total (map f xs)
listed f xs = flat_map-map (λ l. l) (λ x. counts (f x)) xs ∙ sym (flat_map-map counts f xs)

join : (as' bs : List Failure) (ns ms : List Node) → as' ≡ total ns → bs ≡ total ms → as' ++ bs ≡ total (ns ++ ms)
join as' bs ns ms e f = (λ j. e j ++ f j) ∙ sym (total_append ns ms)

aexp_parts : (z : Aexp-F Aexp Alt Decl Exp Locals Open Operand Rhs Where AltGuard AltItem Alts DeclItem Decls Guard NextOperand OperandList Part Redef RedefItem Redefs) → aexp_step (map-Aexp Aexp Alt Decl Exp Locals Open Operand Rhs Where AltGuard AltItem Alts DeclItem Decls Guard NextOperand OperandList Part Redef RedefItem Redefs (List Failure) (List Failure) Found (List Failure) (List Failure) (List Failure) (List Failure) (List Failure) (List Failure) (List Failure) (List Failure) (List Failure) Found (List Failure) (List Failure) (List Failure) (List Failure) (List Failure) (List Failure) (List Failure) (List Failure) aexp_failures alt_failures decl_found exp_failures locals_failures open_failures operand_failures rhs_failures where_failures alt_guard_failures alt_item_failures alts_failures decl_item_found decls_failures guard_failures next_operand_failures operands_failures part_failures redef_failures redef_item_failures redefs_failures z) ≡ total (aexp_children z)
aexp_parts (Aexp-F.Var x0) = refl
aexp_parts (Aexp-F.Generic x0 x1 x2 x3 x4) = refl
aexp_parts (Aexp-F.Con x0) = refl
aexp_parts (Aexp-F.Int x0 x1) = refl
aexp_parts (Aexp-F.Char x0 x1) = refl
aexp_parts (Aexp-F.Str x0 x1) = refl
aexp_parts (Aexp-F.Paren x0 x1 x2 x3) = single (an_exp x2)
aexp_parts (Aexp-F.Tuple x0 x1 x2 x3 x4) = join (counts (an_exp x2)) (flat (map (λ x. counts (a_part x)) x3)) (an_exp x2 ∷ []) (map a_part x3) (single (an_exp x2)) (listed a_part x3)
aexp_parts (Aexp-F.List x0 x1 x2 x3 x4) = join (counts (an_exp x2)) (flat (map (λ x. counts (a_part x)) x3)) (an_exp x2 ∷ []) (map a_part x3) (single (an_exp x2)) (listed a_part x3)
aexp_parts (Aexp-F.Left x0 x1 x2 x3 x4) = single (an_operand_list x2)
aexp_parts (Aexp-F.Right x0 x1 x2 x3 x4) = single (an_operand_list x3)

aexp_node : (x : Aexp) → counts (an_aexp x) ≡ total (aexp_children (out-Aexp x))
unfolding aexp_failures alt_failures decl_found exp_failures locals_failures open_failures operand_failures rhs_failures where_failures alt_guard_failures alt_item_failures alts_failures decl_item_found decls_failures guard_failures next_operand_failures operands_failures part_failures redef_failures redef_item_failures redefs_failures
aexp_node x = fold_out-Aexp (List Failure) (List Failure) Found (List Failure) (List Failure) (List Failure) (List Failure) (List Failure) (List Failure) (List Failure) (List Failure) (List Failure) Found (List Failure) (List Failure) (List Failure) (List Failure) (List Failure) (List Failure) (List Failure) (List Failure) aexp_step alt_step decl_step exp_step locals_step open_step operand_step rhs_step where_step alt_guard_step alt_item_step alts_step decl_item_step decls_step guard_step next_operand_step operands_step part_step redef_step redef_item_step redefs_step x ∙ aexp_parts (out-Aexp x)

alt_parts : (z : Alt-F Aexp Alt Decl Exp Locals Open Operand Rhs Where AltGuard AltItem Alts DeclItem Decls Guard NextOperand OperandList Part Redef RedefItem Redefs) → alt_step (map-Alt Aexp Alt Decl Exp Locals Open Operand Rhs Where AltGuard AltItem Alts DeclItem Decls Guard NextOperand OperandList Part Redef RedefItem Redefs (List Failure) (List Failure) Found (List Failure) (List Failure) (List Failure) (List Failure) (List Failure) (List Failure) (List Failure) (List Failure) (List Failure) Found (List Failure) (List Failure) (List Failure) (List Failure) (List Failure) (List Failure) (List Failure) (List Failure) aexp_failures alt_failures decl_found exp_failures locals_failures open_failures operand_failures rhs_failures where_failures alt_guard_failures alt_item_failures alts_failures decl_item_found decls_failures guard_failures next_operand_failures operands_failures part_failures redef_failures redef_item_failures redefs_failures z) ≡ alt_own z ++ total (alt_children z)
alt_parts (Alt-F.Alt::Plain x0 x1 x2 x3 x4) = ap (λ cs. repeated (pattern_variables x1) ++ cs) (join (counts (an_exp x3)) (counts (a_where x4)) (an_exp x3 ∷ []) (a_where x4 ∷ []) (single (an_exp x3)) (single (a_where x4)))
alt_parts (Alt-F.Alt::Guarded x0 x1 x2 x3 x4) = ap (λ cs. repeated (pattern_variables x1) ++ cs) (join (counts (an_alt_guard x2)) (flat (map (λ x. counts (an_alt_guard x)) x3) ++ (counts (a_where x4))) (an_alt_guard x2 ∷ []) ((map an_alt_guard x3) ++ (a_where x4 ∷ [])) (single (an_alt_guard x2)) (join (flat (map (λ x. counts (an_alt_guard x)) x3)) (counts (a_where x4)) (map an_alt_guard x3) (a_where x4 ∷ []) (listed an_alt_guard x3) (single (a_where x4))))

alt_node : (x : Alt) → counts (an_alt x) ≡ alt_own (out-Alt x) ++ total (alt_children (out-Alt x))
unfolding aexp_failures alt_failures decl_found exp_failures locals_failures open_failures operand_failures rhs_failures where_failures alt_guard_failures alt_item_failures alts_failures decl_item_found decls_failures guard_failures next_operand_failures operands_failures part_failures redef_failures redef_item_failures redefs_failures
alt_node x = fold_out-Alt (List Failure) (List Failure) Found (List Failure) (List Failure) (List Failure) (List Failure) (List Failure) (List Failure) (List Failure) (List Failure) (List Failure) Found (List Failure) (List Failure) (List Failure) (List Failure) (List Failure) (List Failure) (List Failure) (List Failure) aexp_step alt_step decl_step exp_step locals_step open_step operand_step rhs_step where_step alt_guard_step alt_item_step alts_step decl_item_step decls_step guard_step next_operand_step operands_step part_step redef_step redef_item_step redefs_step x ∙ alt_parts (out-Alt x)

decl_parts : (z : Decl-F Aexp Alt Decl Exp Locals Open Operand Rhs Where AltGuard AltItem Alts DeclItem Decls Guard NextOperand OperandList Part Redef RedefItem Redefs) → (decl_step (map-Decl Aexp Alt Decl Exp Locals Open Operand Rhs Where AltGuard AltItem Alts DeclItem Decls Guard NextOperand OperandList Part Redef RedefItem Redefs (List Failure) (List Failure) Found (List Failure) (List Failure) (List Failure) (List Failure) (List Failure) (List Failure) (List Failure) (List Failure) (List Failure) Found (List Failure) (List Failure) (List Failure) (List Failure) (List Failure) (List Failure) (List Failure) (List Failure) aexp_failures alt_failures decl_found exp_failures locals_failures open_failures operand_failures rhs_failures where_failures alt_guard_failures alt_item_failures alts_failures decl_item_found decls_failures guard_failures next_operand_failures operands_failures part_failures redef_failures redef_item_failures redefs_failures z)).inside ≡ decl_own z ++ total (decl_children z)
decl_parts (Decl-F.Signature x0 x1 x2 x3 x4) = refl
decl_parts (Decl-F.Fixity x0 x1 x2 x3 x4) = refl
decl_parts (Decl-F.Function x0 x1 x2) = ap (λ cs. repeated (left_variables x1) ++ cs) (single (a_rhs x2))
decl_parts (Decl-F.Pattern x0 x1 x2) = single (a_rhs x2)

decl_node : (x : Decl) → counts (a_decl x) ≡ decl_own (out-Decl x) ++ total (decl_children (out-Decl x))
unfolding aexp_failures alt_failures decl_found exp_failures locals_failures open_failures operand_failures rhs_failures where_failures alt_guard_failures alt_item_failures alts_failures decl_item_found decls_failures guard_failures next_operand_failures operands_failures part_failures redef_failures redef_item_failures redefs_failures
decl_node x = ap (λ (d : Found). d.inside) (fold_out-Decl (List Failure) (List Failure) Found (List Failure) (List Failure) (List Failure) (List Failure) (List Failure) (List Failure) (List Failure) (List Failure) (List Failure) Found (List Failure) (List Failure) (List Failure) (List Failure) (List Failure) (List Failure) (List Failure) (List Failure) aexp_step alt_step decl_step exp_step locals_step open_step operand_step rhs_step where_step alt_guard_step alt_item_step alts_step decl_item_step decls_step guard_step next_operand_step operands_step part_step redef_step redef_item_step redefs_step x) ∙ decl_parts (out-Decl x)

exp_parts : (z : Exp-F Aexp Alt Decl Exp Locals Open Operand Rhs Where AltGuard AltItem Alts DeclItem Decls Guard NextOperand OperandList Part Redef RedefItem Redefs) → exp_step (map-Exp Aexp Alt Decl Exp Locals Open Operand Rhs Where AltGuard AltItem Alts DeclItem Decls Guard NextOperand OperandList Part Redef RedefItem Redefs (List Failure) (List Failure) Found (List Failure) (List Failure) (List Failure) (List Failure) (List Failure) (List Failure) (List Failure) (List Failure) (List Failure) Found (List Failure) (List Failure) (List Failure) (List Failure) (List Failure) (List Failure) (List Failure) (List Failure) aexp_failures alt_failures decl_found exp_failures locals_failures open_failures operand_failures rhs_failures where_failures alt_guard_failures alt_item_failures alts_failures decl_item_found decls_failures guard_failures next_operand_failures operands_failures part_failures redef_failures redef_item_failures redefs_failures z) ≡ total (exp_children z)
exp_parts (Exp-F.Exp::Plain x0) = single (an_operand_list x0)
exp_parts (Exp-F.Typed x0 x1 x2 x3) = single (an_operand_list x1)

exp_node : (x : Exp) → counts (an_exp x) ≡ total (exp_children (out-Exp x))
unfolding aexp_failures alt_failures decl_found exp_failures locals_failures open_failures operand_failures rhs_failures where_failures alt_guard_failures alt_item_failures alts_failures decl_item_found decls_failures guard_failures next_operand_failures operands_failures part_failures redef_failures redef_item_failures redefs_failures
exp_node x = fold_out-Exp (List Failure) (List Failure) Found (List Failure) (List Failure) (List Failure) (List Failure) (List Failure) (List Failure) (List Failure) (List Failure) (List Failure) Found (List Failure) (List Failure) (List Failure) (List Failure) (List Failure) (List Failure) (List Failure) (List Failure) aexp_step alt_step decl_step exp_step locals_step open_step operand_step rhs_step where_step alt_guard_step alt_item_step alts_step decl_item_step decls_step guard_step next_operand_step operands_step part_step redef_step redef_item_step redefs_step x ∙ exp_parts (out-Exp x)

locals_parts : (z : Locals-F Aexp Alt Decl Exp Locals Open Operand Rhs Where AltGuard AltItem Alts DeclItem Decls Guard NextOperand OperandList Part Redef RedefItem Redefs) → locals_step (map-Locals Aexp Alt Decl Exp Locals Open Operand Rhs Where AltGuard AltItem Alts DeclItem Decls Guard NextOperand OperandList Part Redef RedefItem Redefs (List Failure) (List Failure) Found (List Failure) (List Failure) (List Failure) (List Failure) (List Failure) (List Failure) (List Failure) (List Failure) (List Failure) Found (List Failure) (List Failure) (List Failure) (List Failure) (List Failure) (List Failure) (List Failure) (List Failure) aexp_failures alt_failures decl_found exp_failures locals_failures open_failures operand_failures rhs_failures where_failures alt_guard_failures alt_item_failures alts_failures decl_item_found decls_failures guard_failures next_operand_failures operands_failures part_failures redef_failures redef_item_failures redefs_failures z) ≡ total (locals_children z)
locals_parts (Locals-F.Decls x0) = single (a_decls x0)
locals_parts (Locals-F.Redefs x0) = single (a_redefs x0)

locals_node : (x : Locals) → counts (a_locals x) ≡ total (locals_children (out-Locals x))
unfolding aexp_failures alt_failures decl_found exp_failures locals_failures open_failures operand_failures rhs_failures where_failures alt_guard_failures alt_item_failures alts_failures decl_item_found decls_failures guard_failures next_operand_failures operands_failures part_failures redef_failures redef_item_failures redefs_failures
locals_node x = fold_out-Locals (List Failure) (List Failure) Found (List Failure) (List Failure) (List Failure) (List Failure) (List Failure) (List Failure) (List Failure) (List Failure) (List Failure) Found (List Failure) (List Failure) (List Failure) (List Failure) (List Failure) (List Failure) (List Failure) (List Failure) aexp_step alt_step decl_step exp_step locals_step open_step operand_step rhs_step where_step alt_guard_step alt_item_step alts_step decl_item_step decls_step guard_step next_operand_step operands_step part_step redef_step redef_item_step redefs_step x ∙ locals_parts (out-Locals x)

open_parts : (z : Open-F Aexp Alt Decl Exp Locals Open Operand Rhs Where AltGuard AltItem Alts DeclItem Decls Guard NextOperand OperandList Part Redef RedefItem Redefs) → open_step (map-Open Aexp Alt Decl Exp Locals Open Operand Rhs Where AltGuard AltItem Alts DeclItem Decls Guard NextOperand OperandList Part Redef RedefItem Redefs (List Failure) (List Failure) Found (List Failure) (List Failure) (List Failure) (List Failure) (List Failure) (List Failure) (List Failure) (List Failure) (List Failure) Found (List Failure) (List Failure) (List Failure) (List Failure) (List Failure) (List Failure) (List Failure) (List Failure) aexp_failures alt_failures decl_found exp_failures locals_failures open_failures operand_failures rhs_failures where_failures alt_guard_failures alt_item_failures alts_failures decl_item_found decls_failures guard_failures next_operand_failures operands_failures part_failures redef_failures redef_item_failures redefs_failures z) ≡ open_own z ++ total (open_children z)
open_parts (Open-F.Lambda x0 x1 x2 x3 x4 x5) = ap (λ cs. repeated (lambda_variables x2 x3) ++ cs) (single (an_exp x5))
open_parts (Open-F.Let x0 x1 x2 x3 x4) = join (counts (a_locals x2)) (counts (an_exp x4)) (a_locals x2 ∷ []) (an_exp x4 ∷ []) (single (a_locals x2)) (single (an_exp x4))
open_parts (Open-F.If x0 x1 x2 x3 x4 x5 x6) = join (counts (an_exp x2)) (counts (an_exp x4) ++ (counts (an_exp x6))) (an_exp x2 ∷ []) ((an_exp x4 ∷ []) ++ (an_exp x6 ∷ [])) (single (an_exp x2)) (join (counts (an_exp x4)) (counts (an_exp x6)) (an_exp x4 ∷ []) (an_exp x6 ∷ []) (single (an_exp x4)) (single (an_exp x6)))

open_node : (x : Open) → counts (an_open x) ≡ open_own (out-Open x) ++ total (open_children (out-Open x))
unfolding aexp_failures alt_failures decl_found exp_failures locals_failures open_failures operand_failures rhs_failures where_failures alt_guard_failures alt_item_failures alts_failures decl_item_found decls_failures guard_failures next_operand_failures operands_failures part_failures redef_failures redef_item_failures redefs_failures
open_node x = fold_out-Open (List Failure) (List Failure) Found (List Failure) (List Failure) (List Failure) (List Failure) (List Failure) (List Failure) (List Failure) (List Failure) (List Failure) Found (List Failure) (List Failure) (List Failure) (List Failure) (List Failure) (List Failure) (List Failure) (List Failure) aexp_step alt_step decl_step exp_step locals_step open_step operand_step rhs_step where_step alt_guard_step alt_item_step alts_step decl_item_step decls_step guard_step next_operand_step operands_step part_step redef_step redef_item_step redefs_step x ∙ open_parts (out-Open x)

operand_parts : (z : Operand-F Aexp Alt Decl Exp Locals Open Operand Rhs Where AltGuard AltItem Alts DeclItem Decls Guard NextOperand OperandList Part Redef RedefItem Redefs) → operand_step (map-Operand Aexp Alt Decl Exp Locals Open Operand Rhs Where AltGuard AltItem Alts DeclItem Decls Guard NextOperand OperandList Part Redef RedefItem Redefs (List Failure) (List Failure) Found (List Failure) (List Failure) (List Failure) (List Failure) (List Failure) (List Failure) (List Failure) (List Failure) (List Failure) Found (List Failure) (List Failure) (List Failure) (List Failure) (List Failure) (List Failure) (List Failure) (List Failure) aexp_failures alt_failures decl_found exp_failures locals_failures open_failures operand_failures rhs_failures where_failures alt_guard_failures alt_item_failures alts_failures decl_item_found decls_failures guard_failures next_operand_failures operands_failures part_failures redef_failures redef_item_failures redefs_failures z) ≡ total (operand_children z)
operand_parts (Operand-F.Apply x0 x1 x2) = join (counts (an_aexp x1)) (flat (map (λ x. counts (an_aexp x)) x2)) (an_aexp x1 ∷ []) (map an_aexp x2) (single (an_aexp x1)) (listed an_aexp x2)
operand_parts (Operand-F.Case x0 x1 x2 x3 x4) = join (counts (an_exp x2)) (counts (an_alts x4)) (an_exp x2 ∷ []) (an_alts x4 ∷ []) (single (an_exp x2)) (single (an_alts x4))
operand_parts (Operand-F.Open x0) = single (an_open x0)

operand_node : (x : Operand) → counts (an_operand x) ≡ total (operand_children (out-Operand x))
unfolding aexp_failures alt_failures decl_found exp_failures locals_failures open_failures operand_failures rhs_failures where_failures alt_guard_failures alt_item_failures alts_failures decl_item_found decls_failures guard_failures next_operand_failures operands_failures part_failures redef_failures redef_item_failures redefs_failures
operand_node x = fold_out-Operand (List Failure) (List Failure) Found (List Failure) (List Failure) (List Failure) (List Failure) (List Failure) (List Failure) (List Failure) (List Failure) (List Failure) Found (List Failure) (List Failure) (List Failure) (List Failure) (List Failure) (List Failure) (List Failure) (List Failure) aexp_step alt_step decl_step exp_step locals_step open_step operand_step rhs_step where_step alt_guard_step alt_item_step alts_step decl_item_step decls_step guard_step next_operand_step operands_step part_step redef_step redef_item_step redefs_step x ∙ operand_parts (out-Operand x)

rhs_parts : (z : Rhs-F Aexp Alt Decl Exp Locals Open Operand Rhs Where AltGuard AltItem Alts DeclItem Decls Guard NextOperand OperandList Part Redef RedefItem Redefs) → rhs_step (map-Rhs Aexp Alt Decl Exp Locals Open Operand Rhs Where AltGuard AltItem Alts DeclItem Decls Guard NextOperand OperandList Part Redef RedefItem Redefs (List Failure) (List Failure) Found (List Failure) (List Failure) (List Failure) (List Failure) (List Failure) (List Failure) (List Failure) (List Failure) (List Failure) Found (List Failure) (List Failure) (List Failure) (List Failure) (List Failure) (List Failure) (List Failure) (List Failure) aexp_failures alt_failures decl_found exp_failures locals_failures open_failures operand_failures rhs_failures where_failures alt_guard_failures alt_item_failures alts_failures decl_item_found decls_failures guard_failures next_operand_failures operands_failures part_failures redef_failures redef_item_failures redefs_failures z) ≡ total (rhs_children z)
rhs_parts (Rhs-F.Rhs::Plain x0 x1 x2 x3) = join (counts (an_exp x2)) (counts (a_where x3)) (an_exp x2 ∷ []) (a_where x3 ∷ []) (single (an_exp x2)) (single (a_where x3))
rhs_parts (Rhs-F.Rhs::Guarded x0 x1 x2 x3) = join (counts (a_guard x1)) (flat (map (λ x. counts (a_guard x)) x2) ++ (counts (a_where x3))) (a_guard x1 ∷ []) ((map a_guard x2) ++ (a_where x3 ∷ [])) (single (a_guard x1)) (join (flat (map (λ x. counts (a_guard x)) x2)) (counts (a_where x3)) (map a_guard x2) (a_where x3 ∷ []) (listed a_guard x2) (single (a_where x3)))

rhs_node : (x : Rhs) → counts (a_rhs x) ≡ total (rhs_children (out-Rhs x))
unfolding aexp_failures alt_failures decl_found exp_failures locals_failures open_failures operand_failures rhs_failures where_failures alt_guard_failures alt_item_failures alts_failures decl_item_found decls_failures guard_failures next_operand_failures operands_failures part_failures redef_failures redef_item_failures redefs_failures
rhs_node x = fold_out-Rhs (List Failure) (List Failure) Found (List Failure) (List Failure) (List Failure) (List Failure) (List Failure) (List Failure) (List Failure) (List Failure) (List Failure) Found (List Failure) (List Failure) (List Failure) (List Failure) (List Failure) (List Failure) (List Failure) (List Failure) aexp_step alt_step decl_step exp_step locals_step open_step operand_step rhs_step where_step alt_guard_step alt_item_step alts_step decl_item_step decls_step guard_step next_operand_step operands_step part_step redef_step redef_item_step redefs_step x ∙ rhs_parts (out-Rhs x)

where_parts : (z : Where-F Aexp Alt Decl Exp Locals Open Operand Rhs Where AltGuard AltItem Alts DeclItem Decls Guard NextOperand OperandList Part Redef RedefItem Redefs) → where_step (map-Where Aexp Alt Decl Exp Locals Open Operand Rhs Where AltGuard AltItem Alts DeclItem Decls Guard NextOperand OperandList Part Redef RedefItem Redefs (List Failure) (List Failure) Found (List Failure) (List Failure) (List Failure) (List Failure) (List Failure) (List Failure) (List Failure) (List Failure) (List Failure) Found (List Failure) (List Failure) (List Failure) (List Failure) (List Failure) (List Failure) (List Failure) (List Failure) aexp_failures alt_failures decl_found exp_failures locals_failures open_failures operand_failures rhs_failures where_failures alt_guard_failures alt_item_failures alts_failures decl_item_found decls_failures guard_failures next_operand_failures operands_failures part_failures redef_failures redef_item_failures redefs_failures z) ≡ total (where_children z)
where_parts (Where-F.Absent) = refl
where_parts (Where-F.Block x0 x1) = single (a_decls x1)

where_node : (x : Where) → counts (a_where x) ≡ total (where_children (out-Where x))
unfolding aexp_failures alt_failures decl_found exp_failures locals_failures open_failures operand_failures rhs_failures where_failures alt_guard_failures alt_item_failures alts_failures decl_item_found decls_failures guard_failures next_operand_failures operands_failures part_failures redef_failures redef_item_failures redefs_failures
where_node x = fold_out-Where (List Failure) (List Failure) Found (List Failure) (List Failure) (List Failure) (List Failure) (List Failure) (List Failure) (List Failure) (List Failure) (List Failure) Found (List Failure) (List Failure) (List Failure) (List Failure) (List Failure) (List Failure) (List Failure) (List Failure) aexp_step alt_step decl_step exp_step locals_step open_step operand_step rhs_step where_step alt_guard_step alt_item_step alts_step decl_item_step decls_step guard_step next_operand_step operands_step part_step redef_step redef_item_step redefs_step x ∙ where_parts (out-Where x)

alt_guard_parts : (z : AltGuard-F Aexp Alt Decl Exp Locals Open Operand Rhs Where AltGuard AltItem Alts DeclItem Decls Guard NextOperand OperandList Part Redef RedefItem Redefs) → alt_guard_step (map-AltGuard Aexp Alt Decl Exp Locals Open Operand Rhs Where AltGuard AltItem Alts DeclItem Decls Guard NextOperand OperandList Part Redef RedefItem Redefs (List Failure) (List Failure) Found (List Failure) (List Failure) (List Failure) (List Failure) (List Failure) (List Failure) (List Failure) (List Failure) (List Failure) Found (List Failure) (List Failure) (List Failure) (List Failure) (List Failure) (List Failure) (List Failure) (List Failure) aexp_failures alt_failures decl_found exp_failures locals_failures open_failures operand_failures rhs_failures where_failures alt_guard_failures alt_item_failures alts_failures decl_item_found decls_failures guard_failures next_operand_failures operands_failures part_failures redef_failures redef_item_failures redefs_failures z) ≡ total (alt_guard_children z)
alt_guard_parts z = join (counts (an_operand_list z.test)) (counts (an_exp z.body)) (an_operand_list z.test ∷ []) (an_exp z.body ∷ []) (single (an_operand_list z.test)) (single (an_exp z.body))

alt_guard_node : (x : AltGuard) → counts (an_alt_guard x) ≡ total (alt_guard_children (out-AltGuard x))
unfolding aexp_failures alt_failures decl_found exp_failures locals_failures open_failures operand_failures rhs_failures where_failures alt_guard_failures alt_item_failures alts_failures decl_item_found decls_failures guard_failures next_operand_failures operands_failures part_failures redef_failures redef_item_failures redefs_failures
alt_guard_node x = fold_out-AltGuard (List Failure) (List Failure) Found (List Failure) (List Failure) (List Failure) (List Failure) (List Failure) (List Failure) (List Failure) (List Failure) (List Failure) Found (List Failure) (List Failure) (List Failure) (List Failure) (List Failure) (List Failure) (List Failure) (List Failure) aexp_step alt_step decl_step exp_step locals_step open_step operand_step rhs_step where_step alt_guard_step alt_item_step alts_step decl_item_step decls_step guard_step next_operand_step operands_step part_step redef_step redef_item_step redefs_step x ∙ alt_guard_parts (out-AltGuard x)

alt_item_parts : (z : AltItem-F Aexp Alt Decl Exp Locals Open Operand Rhs Where AltGuard AltItem Alts DeclItem Decls Guard NextOperand OperandList Part Redef RedefItem Redefs) → alt_item_step (map-AltItem Aexp Alt Decl Exp Locals Open Operand Rhs Where AltGuard AltItem Alts DeclItem Decls Guard NextOperand OperandList Part Redef RedefItem Redefs (List Failure) (List Failure) Found (List Failure) (List Failure) (List Failure) (List Failure) (List Failure) (List Failure) (List Failure) (List Failure) (List Failure) Found (List Failure) (List Failure) (List Failure) (List Failure) (List Failure) (List Failure) (List Failure) (List Failure) aexp_failures alt_failures decl_found exp_failures locals_failures open_failures operand_failures rhs_failures where_failures alt_guard_failures alt_item_failures alts_failures decl_item_found decls_failures guard_failures next_operand_failures operands_failures part_failures redef_failures redef_item_failures redefs_failures z) ≡ total (alt_item_children z)
alt_item_parts z = single (an_alt z.alt)

alt_item_node : (x : AltItem) → counts (an_alt_item x) ≡ total (alt_item_children (out-AltItem x))
unfolding aexp_failures alt_failures decl_found exp_failures locals_failures open_failures operand_failures rhs_failures where_failures alt_guard_failures alt_item_failures alts_failures decl_item_found decls_failures guard_failures next_operand_failures operands_failures part_failures redef_failures redef_item_failures redefs_failures
alt_item_node x = fold_out-AltItem (List Failure) (List Failure) Found (List Failure) (List Failure) (List Failure) (List Failure) (List Failure) (List Failure) (List Failure) (List Failure) (List Failure) Found (List Failure) (List Failure) (List Failure) (List Failure) (List Failure) (List Failure) (List Failure) (List Failure) aexp_step alt_step decl_step exp_step locals_step open_step operand_step rhs_step where_step alt_guard_step alt_item_step alts_step decl_item_step decls_step guard_step next_operand_step operands_step part_step redef_step redef_item_step redefs_step x ∙ alt_item_parts (out-AltItem x)

alts_parts : (z : Alts-F Aexp Alt Decl Exp Locals Open Operand Rhs Where AltGuard AltItem Alts DeclItem Decls Guard NextOperand OperandList Part Redef RedefItem Redefs) → alts_step (map-Alts Aexp Alt Decl Exp Locals Open Operand Rhs Where AltGuard AltItem Alts DeclItem Decls Guard NextOperand OperandList Part Redef RedefItem Redefs (List Failure) (List Failure) Found (List Failure) (List Failure) (List Failure) (List Failure) (List Failure) (List Failure) (List Failure) (List Failure) (List Failure) Found (List Failure) (List Failure) (List Failure) (List Failure) (List Failure) (List Failure) (List Failure) (List Failure) aexp_failures alt_failures decl_found exp_failures locals_failures open_failures operand_failures rhs_failures where_failures alt_guard_failures alt_item_failures alts_failures decl_item_found decls_failures guard_failures next_operand_failures operands_failures part_failures redef_failures redef_item_failures redefs_failures z) ≡ total (alts_children z)
alts_parts z = listed an_alt_item z.alts

alts_node : (x : Alts) → counts (an_alts x) ≡ total (alts_children (out-Alts x))
unfolding aexp_failures alt_failures decl_found exp_failures locals_failures open_failures operand_failures rhs_failures where_failures alt_guard_failures alt_item_failures alts_failures decl_item_found decls_failures guard_failures next_operand_failures operands_failures part_failures redef_failures redef_item_failures redefs_failures
alts_node x = fold_out-Alts (List Failure) (List Failure) Found (List Failure) (List Failure) (List Failure) (List Failure) (List Failure) (List Failure) (List Failure) (List Failure) (List Failure) Found (List Failure) (List Failure) (List Failure) (List Failure) (List Failure) (List Failure) (List Failure) (List Failure) aexp_step alt_step decl_step exp_step locals_step open_step operand_step rhs_step where_step alt_guard_step alt_item_step alts_step decl_item_step decls_step guard_step next_operand_step operands_step part_step redef_step redef_item_step redefs_step x ∙ alts_parts (out-Alts x)

decl_item_parts : (z : DeclItem-F Aexp Alt Decl Exp Locals Open Operand Rhs Where AltGuard AltItem Alts DeclItem Decls Guard NextOperand OperandList Part Redef RedefItem Redefs) → (decl_item_step (map-DeclItem Aexp Alt Decl Exp Locals Open Operand Rhs Where AltGuard AltItem Alts DeclItem Decls Guard NextOperand OperandList Part Redef RedefItem Redefs (List Failure) (List Failure) Found (List Failure) (List Failure) (List Failure) (List Failure) (List Failure) (List Failure) (List Failure) (List Failure) (List Failure) Found (List Failure) (List Failure) (List Failure) (List Failure) (List Failure) (List Failure) (List Failure) (List Failure) aexp_failures alt_failures decl_found exp_failures locals_failures open_failures operand_failures rhs_failures where_failures alt_guard_failures alt_item_failures alts_failures decl_item_found decls_failures guard_failures next_operand_failures operands_failures part_failures redef_failures redef_item_failures redefs_failures z)).inside ≡ total (decl_item_children z)
decl_item_parts z = single (a_decl z.decl)

decl_item_node : (x : DeclItem) → counts (a_decl_item x) ≡ total (decl_item_children (out-DeclItem x))
unfolding aexp_failures alt_failures decl_found exp_failures locals_failures open_failures operand_failures rhs_failures where_failures alt_guard_failures alt_item_failures alts_failures decl_item_found decls_failures guard_failures next_operand_failures operands_failures part_failures redef_failures redef_item_failures redefs_failures
decl_item_node x = ap (λ (d : Found). d.inside) (fold_out-DeclItem (List Failure) (List Failure) Found (List Failure) (List Failure) (List Failure) (List Failure) (List Failure) (List Failure) (List Failure) (List Failure) (List Failure) Found (List Failure) (List Failure) (List Failure) (List Failure) (List Failure) (List Failure) (List Failure) (List Failure) aexp_step alt_step decl_step exp_step locals_step open_step operand_step rhs_step where_step alt_guard_step alt_item_step alts_step decl_item_step decls_step guard_step next_operand_step operands_step part_step redef_step redef_item_step redefs_step x) ∙ decl_item_parts (out-DeclItem x)

decls_parts : (z : Decls-F Aexp Alt Decl Exp Locals Open Operand Rhs Where AltGuard AltItem Alts DeclItem Decls Guard NextOperand OperandList Part Redef RedefItem Redefs) → decls_step (map-Decls Aexp Alt Decl Exp Locals Open Operand Rhs Where AltGuard AltItem Alts DeclItem Decls Guard NextOperand OperandList Part Redef RedefItem Redefs (List Failure) (List Failure) Found (List Failure) (List Failure) (List Failure) (List Failure) (List Failure) (List Failure) (List Failure) (List Failure) (List Failure) Found (List Failure) (List Failure) (List Failure) (List Failure) (List Failure) (List Failure) (List Failure) (List Failure) aexp_failures alt_failures decl_found exp_failures locals_failures open_failures operand_failures rhs_failures where_failures alt_guard_failures alt_item_failures alts_failures decl_item_found decls_failures guard_failures next_operand_failures operands_failures part_failures redef_failures redef_item_failures redefs_failures z) ≡ decls_own z ++ total (decls_children z)
decls_parts z = (λ j. list_failures (flat_map-map (λ (d : Found). d.declared) decl_item_found z.decls j) ++ flat_map-map (λ (d : Found). d.inside) decl_item_found z.decls j)
    ∙ ap (λ cs. decls_own z ++ cs) (sym (flat_map-map counts a_decl_item z.decls))

decls_node : (x : Decls) → counts (a_decls x) ≡ decls_own (out-Decls x) ++ total (decls_children (out-Decls x))
unfolding aexp_failures alt_failures decl_found exp_failures locals_failures open_failures operand_failures rhs_failures where_failures alt_guard_failures alt_item_failures alts_failures decl_item_found decls_failures guard_failures next_operand_failures operands_failures part_failures redef_failures redef_item_failures redefs_failures
decls_node x = fold_out-Decls (List Failure) (List Failure) Found (List Failure) (List Failure) (List Failure) (List Failure) (List Failure) (List Failure) (List Failure) (List Failure) (List Failure) Found (List Failure) (List Failure) (List Failure) (List Failure) (List Failure) (List Failure) (List Failure) (List Failure) aexp_step alt_step decl_step exp_step locals_step open_step operand_step rhs_step where_step alt_guard_step alt_item_step alts_step decl_item_step decls_step guard_step next_operand_step operands_step part_step redef_step redef_item_step redefs_step x ∙ decls_parts (out-Decls x)

guard_parts : (z : Guard-F Aexp Alt Decl Exp Locals Open Operand Rhs Where AltGuard AltItem Alts DeclItem Decls Guard NextOperand OperandList Part Redef RedefItem Redefs) → guard_step (map-Guard Aexp Alt Decl Exp Locals Open Operand Rhs Where AltGuard AltItem Alts DeclItem Decls Guard NextOperand OperandList Part Redef RedefItem Redefs (List Failure) (List Failure) Found (List Failure) (List Failure) (List Failure) (List Failure) (List Failure) (List Failure) (List Failure) (List Failure) (List Failure) Found (List Failure) (List Failure) (List Failure) (List Failure) (List Failure) (List Failure) (List Failure) (List Failure) aexp_failures alt_failures decl_found exp_failures locals_failures open_failures operand_failures rhs_failures where_failures alt_guard_failures alt_item_failures alts_failures decl_item_found decls_failures guard_failures next_operand_failures operands_failures part_failures redef_failures redef_item_failures redefs_failures z) ≡ total (guard_children z)
guard_parts z = join (counts (an_operand_list z.test)) (counts (an_exp z.body)) (an_operand_list z.test ∷ []) (an_exp z.body ∷ []) (single (an_operand_list z.test)) (single (an_exp z.body))

guard_node : (x : Guard) → counts (a_guard x) ≡ total (guard_children (out-Guard x))
unfolding aexp_failures alt_failures decl_found exp_failures locals_failures open_failures operand_failures rhs_failures where_failures alt_guard_failures alt_item_failures alts_failures decl_item_found decls_failures guard_failures next_operand_failures operands_failures part_failures redef_failures redef_item_failures redefs_failures
guard_node x = fold_out-Guard (List Failure) (List Failure) Found (List Failure) (List Failure) (List Failure) (List Failure) (List Failure) (List Failure) (List Failure) (List Failure) (List Failure) Found (List Failure) (List Failure) (List Failure) (List Failure) (List Failure) (List Failure) (List Failure) (List Failure) aexp_step alt_step decl_step exp_step locals_step open_step operand_step rhs_step where_step alt_guard_step alt_item_step alts_step decl_item_step decls_step guard_step next_operand_step operands_step part_step redef_step redef_item_step redefs_step x ∙ guard_parts (out-Guard x)

next_operand_parts : (z : NextOperand-F Aexp Alt Decl Exp Locals Open Operand Rhs Where AltGuard AltItem Alts DeclItem Decls Guard NextOperand OperandList Part Redef RedefItem Redefs) → next_operand_step (map-NextOperand Aexp Alt Decl Exp Locals Open Operand Rhs Where AltGuard AltItem Alts DeclItem Decls Guard NextOperand OperandList Part Redef RedefItem Redefs (List Failure) (List Failure) Found (List Failure) (List Failure) (List Failure) (List Failure) (List Failure) (List Failure) (List Failure) (List Failure) (List Failure) Found (List Failure) (List Failure) (List Failure) (List Failure) (List Failure) (List Failure) (List Failure) (List Failure) aexp_failures alt_failures decl_found exp_failures locals_failures open_failures operand_failures rhs_failures where_failures alt_guard_failures alt_item_failures alts_failures decl_item_found decls_failures guard_failures next_operand_failures operands_failures part_failures redef_failures redef_item_failures redefs_failures z) ≡ total (next_operand_children z)
next_operand_parts z = single (an_operand z.operand)

next_operand_node : (x : NextOperand) → counts (a_next_operand x) ≡ total (next_operand_children (out-NextOperand x))
unfolding aexp_failures alt_failures decl_found exp_failures locals_failures open_failures operand_failures rhs_failures where_failures alt_guard_failures alt_item_failures alts_failures decl_item_found decls_failures guard_failures next_operand_failures operands_failures part_failures redef_failures redef_item_failures redefs_failures
next_operand_node x = fold_out-NextOperand (List Failure) (List Failure) Found (List Failure) (List Failure) (List Failure) (List Failure) (List Failure) (List Failure) (List Failure) (List Failure) (List Failure) Found (List Failure) (List Failure) (List Failure) (List Failure) (List Failure) (List Failure) (List Failure) (List Failure) aexp_step alt_step decl_step exp_step locals_step open_step operand_step rhs_step where_step alt_guard_step alt_item_step alts_step decl_item_step decls_step guard_step next_operand_step operands_step part_step redef_step redef_item_step redefs_step x ∙ next_operand_parts (out-NextOperand x)

operands_parts : (z : OperandList-F Aexp Alt Decl Exp Locals Open Operand Rhs Where AltGuard AltItem Alts DeclItem Decls Guard NextOperand OperandList Part Redef RedefItem Redefs) → operands_step (map-OperandList Aexp Alt Decl Exp Locals Open Operand Rhs Where AltGuard AltItem Alts DeclItem Decls Guard NextOperand OperandList Part Redef RedefItem Redefs (List Failure) (List Failure) Found (List Failure) (List Failure) (List Failure) (List Failure) (List Failure) (List Failure) (List Failure) (List Failure) (List Failure) Found (List Failure) (List Failure) (List Failure) (List Failure) (List Failure) (List Failure) (List Failure) (List Failure) aexp_failures alt_failures decl_found exp_failures locals_failures open_failures operand_failures rhs_failures where_failures alt_guard_failures alt_item_failures alts_failures decl_item_found decls_failures guard_failures next_operand_failures operands_failures part_failures redef_failures redef_item_failures redefs_failures z) ≡ total (operands_children z)
operands_parts z = join (counts (an_operand z.first)) (flat (map (λ x. counts (a_next_operand x)) z.others)) (an_operand z.first ∷ []) (map a_next_operand z.others) (single (an_operand z.first)) (listed a_next_operand z.others)

operands_node : (x : OperandList) → counts (an_operand_list x) ≡ total (operands_children (out-OperandList x))
unfolding aexp_failures alt_failures decl_found exp_failures locals_failures open_failures operand_failures rhs_failures where_failures alt_guard_failures alt_item_failures alts_failures decl_item_found decls_failures guard_failures next_operand_failures operands_failures part_failures redef_failures redef_item_failures redefs_failures
operands_node x = fold_out-OperandList (List Failure) (List Failure) Found (List Failure) (List Failure) (List Failure) (List Failure) (List Failure) (List Failure) (List Failure) (List Failure) (List Failure) Found (List Failure) (List Failure) (List Failure) (List Failure) (List Failure) (List Failure) (List Failure) (List Failure) aexp_step alt_step decl_step exp_step locals_step open_step operand_step rhs_step where_step alt_guard_step alt_item_step alts_step decl_item_step decls_step guard_step next_operand_step operands_step part_step redef_step redef_item_step redefs_step x ∙ operands_parts (out-OperandList x)

part_parts : (z : Part-F Aexp Alt Decl Exp Locals Open Operand Rhs Where AltGuard AltItem Alts DeclItem Decls Guard NextOperand OperandList Part Redef RedefItem Redefs) → part_step (map-Part Aexp Alt Decl Exp Locals Open Operand Rhs Where AltGuard AltItem Alts DeclItem Decls Guard NextOperand OperandList Part Redef RedefItem Redefs (List Failure) (List Failure) Found (List Failure) (List Failure) (List Failure) (List Failure) (List Failure) (List Failure) (List Failure) (List Failure) (List Failure) Found (List Failure) (List Failure) (List Failure) (List Failure) (List Failure) (List Failure) (List Failure) (List Failure) aexp_failures alt_failures decl_found exp_failures locals_failures open_failures operand_failures rhs_failures where_failures alt_guard_failures alt_item_failures alts_failures decl_item_found decls_failures guard_failures next_operand_failures operands_failures part_failures redef_failures redef_item_failures redefs_failures z) ≡ total (part_children z)
part_parts z = single (an_exp z.exp)

part_node : (x : Part) → counts (a_part x) ≡ total (part_children (out-Part x))
unfolding aexp_failures alt_failures decl_found exp_failures locals_failures open_failures operand_failures rhs_failures where_failures alt_guard_failures alt_item_failures alts_failures decl_item_found decls_failures guard_failures next_operand_failures operands_failures part_failures redef_failures redef_item_failures redefs_failures
part_node x = fold_out-Part (List Failure) (List Failure) Found (List Failure) (List Failure) (List Failure) (List Failure) (List Failure) (List Failure) (List Failure) (List Failure) (List Failure) Found (List Failure) (List Failure) (List Failure) (List Failure) (List Failure) (List Failure) (List Failure) (List Failure) aexp_step alt_step decl_step exp_step locals_step open_step operand_step rhs_step where_step alt_guard_step alt_item_step alts_step decl_item_step decls_step guard_step next_operand_step operands_step part_step redef_step redef_item_step redefs_step x ∙ part_parts (out-Part x)

redef_parts : (z : Redef-F Aexp Alt Decl Exp Locals Open Operand Rhs Where AltGuard AltItem Alts DeclItem Decls Guard NextOperand OperandList Part Redef RedefItem Redefs) → redef_step (map-Redef Aexp Alt Decl Exp Locals Open Operand Rhs Where AltGuard AltItem Alts DeclItem Decls Guard NextOperand OperandList Part Redef RedefItem Redefs (List Failure) (List Failure) Found (List Failure) (List Failure) (List Failure) (List Failure) (List Failure) (List Failure) (List Failure) (List Failure) (List Failure) Found (List Failure) (List Failure) (List Failure) (List Failure) (List Failure) (List Failure) (List Failure) (List Failure) aexp_failures alt_failures decl_found exp_failures locals_failures open_failures operand_failures rhs_failures where_failures alt_guard_failures alt_item_failures alts_failures decl_item_found decls_failures guard_failures next_operand_failures operands_failures part_failures redef_failures redef_item_failures redefs_failures z) ≡ total (redef_children z)
redef_parts z = single (an_exp z.body)

redef_node : (x : Redef) → counts (a_redef x) ≡ total (redef_children (out-Redef x))
unfolding aexp_failures alt_failures decl_found exp_failures locals_failures open_failures operand_failures rhs_failures where_failures alt_guard_failures alt_item_failures alts_failures decl_item_found decls_failures guard_failures next_operand_failures operands_failures part_failures redef_failures redef_item_failures redefs_failures
redef_node x = fold_out-Redef (List Failure) (List Failure) Found (List Failure) (List Failure) (List Failure) (List Failure) (List Failure) (List Failure) (List Failure) (List Failure) (List Failure) Found (List Failure) (List Failure) (List Failure) (List Failure) (List Failure) (List Failure) (List Failure) (List Failure) aexp_step alt_step decl_step exp_step locals_step open_step operand_step rhs_step where_step alt_guard_step alt_item_step alts_step decl_item_step decls_step guard_step next_operand_step operands_step part_step redef_step redef_item_step redefs_step x ∙ redef_parts (out-Redef x)

redef_item_parts : (z : RedefItem-F Aexp Alt Decl Exp Locals Open Operand Rhs Where AltGuard AltItem Alts DeclItem Decls Guard NextOperand OperandList Part Redef RedefItem Redefs) → redef_item_step (map-RedefItem Aexp Alt Decl Exp Locals Open Operand Rhs Where AltGuard AltItem Alts DeclItem Decls Guard NextOperand OperandList Part Redef RedefItem Redefs (List Failure) (List Failure) Found (List Failure) (List Failure) (List Failure) (List Failure) (List Failure) (List Failure) (List Failure) (List Failure) (List Failure) Found (List Failure) (List Failure) (List Failure) (List Failure) (List Failure) (List Failure) (List Failure) (List Failure) aexp_failures alt_failures decl_found exp_failures locals_failures open_failures operand_failures rhs_failures where_failures alt_guard_failures alt_item_failures alts_failures decl_item_found decls_failures guard_failures next_operand_failures operands_failures part_failures redef_failures redef_item_failures redefs_failures z) ≡ total (redef_item_children z)
redef_item_parts z = single (a_redef z.redef)

redef_item_node : (x : RedefItem) → counts (a_redef_item x) ≡ total (redef_item_children (out-RedefItem x))
unfolding aexp_failures alt_failures decl_found exp_failures locals_failures open_failures operand_failures rhs_failures where_failures alt_guard_failures alt_item_failures alts_failures decl_item_found decls_failures guard_failures next_operand_failures operands_failures part_failures redef_failures redef_item_failures redefs_failures
redef_item_node x = fold_out-RedefItem (List Failure) (List Failure) Found (List Failure) (List Failure) (List Failure) (List Failure) (List Failure) (List Failure) (List Failure) (List Failure) (List Failure) Found (List Failure) (List Failure) (List Failure) (List Failure) (List Failure) (List Failure) (List Failure) (List Failure) aexp_step alt_step decl_step exp_step locals_step open_step operand_step rhs_step where_step alt_guard_step alt_item_step alts_step decl_item_step decls_step guard_step next_operand_step operands_step part_step redef_step redef_item_step redefs_step x ∙ redef_item_parts (out-RedefItem x)

redefs_parts : (z : Redefs-F Aexp Alt Decl Exp Locals Open Operand Rhs Where AltGuard AltItem Alts DeclItem Decls Guard NextOperand OperandList Part Redef RedefItem Redefs) → redefs_step (map-Redefs Aexp Alt Decl Exp Locals Open Operand Rhs Where AltGuard AltItem Alts DeclItem Decls Guard NextOperand OperandList Part Redef RedefItem Redefs (List Failure) (List Failure) Found (List Failure) (List Failure) (List Failure) (List Failure) (List Failure) (List Failure) (List Failure) (List Failure) (List Failure) Found (List Failure) (List Failure) (List Failure) (List Failure) (List Failure) (List Failure) (List Failure) (List Failure) aexp_failures alt_failures decl_found exp_failures locals_failures open_failures operand_failures rhs_failures where_failures alt_guard_failures alt_item_failures alts_failures decl_item_found decls_failures guard_failures next_operand_failures operands_failures part_failures redef_failures redef_item_failures redefs_failures z) ≡ total (redefs_children z)
redefs_parts z = listed a_redef_item z.redefs

redefs_node : (x : Redefs) → counts (a_redefs x) ≡ total (redefs_children (out-Redefs x))
unfolding aexp_failures alt_failures decl_found exp_failures locals_failures open_failures operand_failures rhs_failures where_failures alt_guard_failures alt_item_failures alts_failures decl_item_found decls_failures guard_failures next_operand_failures operands_failures part_failures redef_failures redef_item_failures redefs_failures
redefs_node x = fold_out-Redefs (List Failure) (List Failure) Found (List Failure) (List Failure) (List Failure) (List Failure) (List Failure) (List Failure) (List Failure) (List Failure) (List Failure) Found (List Failure) (List Failure) (List Failure) (List Failure) (List Failure) (List Failure) (List Failure) (List Failure) aexp_step alt_step decl_step exp_step locals_step open_step operand_step rhs_step where_step alt_guard_step alt_item_step alts_step decl_item_step decls_step guard_step next_operand_step operands_step part_step redef_step redef_item_step redefs_step x ∙ redefs_parts (out-Redefs x)

counts_at : (n : Node) → counts n ≡ own_failures n ++ total (children n)
counts_at (an_aexp x) = aexp_node x
counts_at (an_alt x) = alt_node x
counts_at (a_decl x) = decl_node x
counts_at (an_exp x) = exp_node x
counts_at (a_locals x) = locals_node x
counts_at (an_open x) = open_node x
counts_at (an_operand x) = operand_node x
counts_at (a_rhs x) = rhs_node x
counts_at (a_where x) = where_node x
counts_at (an_alt_guard x) = alt_guard_node x
counts_at (an_alt_item x) = alt_item_node x
counts_at (an_alts x) = alts_node x
counts_at (a_decl_item x) = decl_item_node x
counts_at (a_decls x) = decls_node x
counts_at (a_guard x) = guard_node x
counts_at (a_next_operand x) = next_operand_node x
counts_at (an_operand_list x) = operands_node x
counts_at (a_part x) = part_node x
counts_at (a_redef x) = redef_node x
counts_at (a_redef_item x) = redef_item_node x
counts_at (a_redefs x) = redefs_node x

-- ---- from the relation to the list

in_total : (c : Failure) (k : Node) (ns : List Node) → Among k ns → Among c (counts k) → Among c (total ns)
in_total c k ns (is_first n ms same) h = in_left c (counts n) (total ms) (subst (λ m. Among c (counts m)) same h)
in_total c k ns (is_later n ms later) h = in_right c (counts n) (total ms) (in_total c k ms later h)

pub inside_to : (c : Failure) (m n : Node) → StandsIn m n → Among c (own_failures m) → Among c (counts n)
inside_to c m n (is_itself k same) h = subst (λ k. Among c (counts k)) same (subst (Among c) (sym (counts_at m)) (in_left c (own_failures m) (total (children m)) h))
inside_to c m n (in_a_child o k child stands) h =
    subst (Among c) (sym (counts_at o)) (in_right c (own_failures o) (total (children o)) (in_total c k (children o) child (inside_to c m k stands h)))

-- ---- from the list to the relation

abbrev pub Known : Node → Type 0
Known n = (c : Failure) → Among c (counts n) → FailsInside c n

abbrev AllKnown : List Node → Type 0
AllKnown ns = (k : Node) → Among k ns → Known k

abbrev Child : Failure → List Node → Type 0
Child c ns = (k : Node) × Among k ns × Among c (counts k)

later_child : (c : Failure) (n : Node) (ns : List Node) → Child c ns → Child c (n ∷ ns)
later_child c n ns h = (h.0, is_later n ns h.1, h.2)

from_total : (c : Failure) (ns : List Node) → Among c (total ns) → Child c ns
from_total c [] h = absurd (none_of c [] refl h)
from_total c (n ∷ ns) h = by_case (in_either c (counts n) (total ns) h) (from_total c ns)
  where
    by_case : Among c (counts n) ⊎ Among c (total ns) → (Among c (total ns) → Child c ns) → Child c (n ∷ ns)
    by_case (inl here) go = (n, is_first n ns refl, here)
    by_case (inr later) go = later_child c n ns (go later)

step : (n : Node) → AllKnown (children n) → Known n
step n all c h = by_case (in_either c (own_failures n) (total (children n)) (subst (Among c) (counts_at n) h))
  where
    deeper : Child c (children n) → FailsInside c n
    deeper k = let i = all k.0 k.1 c k.2 in (i.0, in_a_child n k.0 k.1 i.1, i.2)

    by_case : Among c (own_failures n) ⊎ Among c (total (children n)) → FailsInside c n
    by_case (inl own) = (n, is_itself n refl, own)
    by_case (inr later) = deeper (from_total c (children n) later)

-- a tree, with the fact
abbrev With : {X : Type 0} → (X → Node) → Type 0
With {X} f = (x : X) × Known (f x)

abbrev tree : {X : Type 0} {P : X → Type 0} → ((x : X) × P x) → X
tree e = e.0

all_none : AllKnown []
all_none k h = absurd (none_of k [] refl h)

all_one : (n : Node) → Known n → AllKnown (n ∷ [])
all_one n known k h = by_case (one_of k n [] h)
  where
    by_case : (k ≡ n) ⊎ Among k [] → Known k
    by_case (inl same) = subst Known (sym same) known
    by_case (inr later) = absurd (none_of k [] refl later)

all_join : (ns ms : List Node) → AllKnown ns → AllKnown ms → AllKnown (ns ++ ms)
all_join ns ms f g k h = by_case (in_either k ns ms h)
  where
    by_case : Among k ns ⊎ Among k ms → Known k
    by_case (inl i) = f k i
    by_case (inr i) = g k i

all_list : {X : Type 0} (f : X → Node) (ys : List (With f)) → AllKnown (map f (map (λ e. e.0) ys))
all_list f [] = all_none
all_list f (e ∷ ys) = all_join (f e.0 ∷ []) (map f (map (λ e. e.0) ys)) (all_one (f e.0) e.1) (all_list f ys)

abbrev aexp_trees : Aexp-F (With an_aexp) (With an_alt) (With a_decl) (With an_exp) (With a_locals) (With an_open) (With an_operand) (With a_rhs) (With a_where) (With an_alt_guard) (With an_alt_item) (With an_alts) (With a_decl_item) (With a_decls) (With a_guard) (With a_next_operand) (With an_operand_list) (With a_part) (With a_redef) (With a_redef_item) (With a_redefs) → Aexp-F Aexp Alt Decl Exp Locals Open Operand Rhs Where AltGuard AltItem Alts DeclItem Decls Guard NextOperand OperandList Part Redef RedefItem Redefs
aexp_trees y = map-Aexp (With an_aexp) (With an_alt) (With a_decl) (With an_exp) (With a_locals) (With an_open) (With an_operand) (With a_rhs) (With a_where) (With an_alt_guard) (With an_alt_item) (With an_alts) (With a_decl_item) (With a_decls) (With a_guard) (With a_next_operand) (With an_operand_list) (With a_part) (With a_redef) (With a_redef_item) (With a_redefs) Aexp Alt Decl Exp Locals Open Operand Rhs Where AltGuard AltItem Alts DeclItem Decls Guard NextOperand OperandList Part Redef RedefItem Redefs tree tree tree tree tree tree tree tree tree tree tree tree tree tree tree tree tree tree tree tree tree y

aexp_each : (y : Aexp-F (With an_aexp) (With an_alt) (With a_decl) (With an_exp) (With a_locals) (With an_open) (With an_operand) (With a_rhs) (With a_where) (With an_alt_guard) (With an_alt_item) (With an_alts) (With a_decl_item) (With a_decls) (With a_guard) (With a_next_operand) (With an_operand_list) (With a_part) (With a_redef) (With a_redef_item) (With a_redefs)) → AllKnown (aexp_children (aexp_trees y))
aexp_each (Aexp-F.Var x0) = all_none
aexp_each (Aexp-F.Generic x0 x1 x2 x3 x4) = all_none
aexp_each (Aexp-F.Con x0) = all_none
aexp_each (Aexp-F.Int x0 x1) = all_none
aexp_each (Aexp-F.Char x0 x1) = all_none
aexp_each (Aexp-F.Str x0 x1) = all_none
aexp_each (Aexp-F.Paren x0 x1 x2 x3) = all_one (an_exp x2.0) x2.1
aexp_each (Aexp-F.Tuple x0 x1 x2 x3 x4) = all_join (an_exp x2.0 ∷ []) (map a_part (map (λ e. e.0) x3)) (all_one (an_exp x2.0) x2.1) (all_list a_part x3)
aexp_each (Aexp-F.List x0 x1 x2 x3 x4) = all_join (an_exp x2.0 ∷ []) (map a_part (map (λ e. e.0) x3)) (all_one (an_exp x2.0) x2.1) (all_list a_part x3)
aexp_each (Aexp-F.Left x0 x1 x2 x3 x4) = all_one (an_operand_list x2.0) x2.1
aexp_each (Aexp-F.Right x0 x1 x2 x3 x4) = all_one (an_operand_list x3.0) x3.1

aexp_layer : (x : Aexp-F Aexp Alt Decl Exp Locals Open Operand Rhs Where AltGuard AltItem Alts DeclItem Decls Guard NextOperand OperandList Part Redef RedefItem Redefs) (y : Aexp-F (With an_aexp) (With an_alt) (With a_decl) (With an_exp) (With a_locals) (With an_open) (With an_operand) (With a_rhs) (With a_where) (With an_alt_guard) (With an_alt_item) (With an_alts) (With a_decl_item) (With a_decls) (With a_guard) (With a_next_operand) (With an_operand_list) (With a_part) (With a_redef) (With a_redef_item) (With a_redefs)) → aexp_trees y ≡ x → Known (an_aexp (roll-Aexp x))
aexp_layer x y is = step (an_aexp (roll-Aexp x)) (subst AllKnown (ap aexp_children (is ∙ sym (out-roll-Aexp x))) (aexp_each y))

abbrev alt_trees : Alt-F (With an_aexp) (With an_alt) (With a_decl) (With an_exp) (With a_locals) (With an_open) (With an_operand) (With a_rhs) (With a_where) (With an_alt_guard) (With an_alt_item) (With an_alts) (With a_decl_item) (With a_decls) (With a_guard) (With a_next_operand) (With an_operand_list) (With a_part) (With a_redef) (With a_redef_item) (With a_redefs) → Alt-F Aexp Alt Decl Exp Locals Open Operand Rhs Where AltGuard AltItem Alts DeclItem Decls Guard NextOperand OperandList Part Redef RedefItem Redefs
alt_trees y = map-Alt (With an_aexp) (With an_alt) (With a_decl) (With an_exp) (With a_locals) (With an_open) (With an_operand) (With a_rhs) (With a_where) (With an_alt_guard) (With an_alt_item) (With an_alts) (With a_decl_item) (With a_decls) (With a_guard) (With a_next_operand) (With an_operand_list) (With a_part) (With a_redef) (With a_redef_item) (With a_redefs) Aexp Alt Decl Exp Locals Open Operand Rhs Where AltGuard AltItem Alts DeclItem Decls Guard NextOperand OperandList Part Redef RedefItem Redefs tree tree tree tree tree tree tree tree tree tree tree tree tree tree tree tree tree tree tree tree tree y

alt_each : (y : Alt-F (With an_aexp) (With an_alt) (With a_decl) (With an_exp) (With a_locals) (With an_open) (With an_operand) (With a_rhs) (With a_where) (With an_alt_guard) (With an_alt_item) (With an_alts) (With a_decl_item) (With a_decls) (With a_guard) (With a_next_operand) (With an_operand_list) (With a_part) (With a_redef) (With a_redef_item) (With a_redefs)) → AllKnown (alt_children (alt_trees y))
alt_each (Alt-F.Alt::Plain x0 x1 x2 x3 x4) = all_join (an_exp x3.0 ∷ []) (a_where x4.0 ∷ []) (all_one (an_exp x3.0) x3.1) (all_one (a_where x4.0) x4.1)
alt_each (Alt-F.Alt::Guarded x0 x1 x2 x3 x4) = all_join (an_alt_guard x2.0 ∷ []) ((map an_alt_guard (map (λ e. e.0) x3)) ++ (a_where x4.0 ∷ [])) (all_one (an_alt_guard x2.0) x2.1) (all_join (map an_alt_guard (map (λ e. e.0) x3)) (a_where x4.0 ∷ []) (all_list an_alt_guard x3) (all_one (a_where x4.0) x4.1))

alt_layer : (x : Alt-F Aexp Alt Decl Exp Locals Open Operand Rhs Where AltGuard AltItem Alts DeclItem Decls Guard NextOperand OperandList Part Redef RedefItem Redefs) (y : Alt-F (With an_aexp) (With an_alt) (With a_decl) (With an_exp) (With a_locals) (With an_open) (With an_operand) (With a_rhs) (With a_where) (With an_alt_guard) (With an_alt_item) (With an_alts) (With a_decl_item) (With a_decls) (With a_guard) (With a_next_operand) (With an_operand_list) (With a_part) (With a_redef) (With a_redef_item) (With a_redefs)) → alt_trees y ≡ x → Known (an_alt (roll-Alt x))
alt_layer x y is = step (an_alt (roll-Alt x)) (subst AllKnown (ap alt_children (is ∙ sym (out-roll-Alt x))) (alt_each y))

abbrev decl_trees : Decl-F (With an_aexp) (With an_alt) (With a_decl) (With an_exp) (With a_locals) (With an_open) (With an_operand) (With a_rhs) (With a_where) (With an_alt_guard) (With an_alt_item) (With an_alts) (With a_decl_item) (With a_decls) (With a_guard) (With a_next_operand) (With an_operand_list) (With a_part) (With a_redef) (With a_redef_item) (With a_redefs) → Decl-F Aexp Alt Decl Exp Locals Open Operand Rhs Where AltGuard AltItem Alts DeclItem Decls Guard NextOperand OperandList Part Redef RedefItem Redefs
decl_trees y = map-Decl (With an_aexp) (With an_alt) (With a_decl) (With an_exp) (With a_locals) (With an_open) (With an_operand) (With a_rhs) (With a_where) (With an_alt_guard) (With an_alt_item) (With an_alts) (With a_decl_item) (With a_decls) (With a_guard) (With a_next_operand) (With an_operand_list) (With a_part) (With a_redef) (With a_redef_item) (With a_redefs) Aexp Alt Decl Exp Locals Open Operand Rhs Where AltGuard AltItem Alts DeclItem Decls Guard NextOperand OperandList Part Redef RedefItem Redefs tree tree tree tree tree tree tree tree tree tree tree tree tree tree tree tree tree tree tree tree tree y

decl_each : (y : Decl-F (With an_aexp) (With an_alt) (With a_decl) (With an_exp) (With a_locals) (With an_open) (With an_operand) (With a_rhs) (With a_where) (With an_alt_guard) (With an_alt_item) (With an_alts) (With a_decl_item) (With a_decls) (With a_guard) (With a_next_operand) (With an_operand_list) (With a_part) (With a_redef) (With a_redef_item) (With a_redefs)) → AllKnown (decl_children (decl_trees y))
decl_each (Decl-F.Signature x0 x1 x2 x3 x4) = all_none
decl_each (Decl-F.Fixity x0 x1 x2 x3 x4) = all_none
decl_each (Decl-F.Function x0 x1 x2) = all_one (a_rhs x2.0) x2.1
decl_each (Decl-F.Pattern x0 x1 x2) = all_one (a_rhs x2.0) x2.1

decl_layer : (x : Decl-F Aexp Alt Decl Exp Locals Open Operand Rhs Where AltGuard AltItem Alts DeclItem Decls Guard NextOperand OperandList Part Redef RedefItem Redefs) (y : Decl-F (With an_aexp) (With an_alt) (With a_decl) (With an_exp) (With a_locals) (With an_open) (With an_operand) (With a_rhs) (With a_where) (With an_alt_guard) (With an_alt_item) (With an_alts) (With a_decl_item) (With a_decls) (With a_guard) (With a_next_operand) (With an_operand_list) (With a_part) (With a_redef) (With a_redef_item) (With a_redefs)) → decl_trees y ≡ x → Known (a_decl (roll-Decl x))
decl_layer x y is = step (a_decl (roll-Decl x)) (subst AllKnown (ap decl_children (is ∙ sym (out-roll-Decl x))) (decl_each y))

abbrev exp_trees : Exp-F (With an_aexp) (With an_alt) (With a_decl) (With an_exp) (With a_locals) (With an_open) (With an_operand) (With a_rhs) (With a_where) (With an_alt_guard) (With an_alt_item) (With an_alts) (With a_decl_item) (With a_decls) (With a_guard) (With a_next_operand) (With an_operand_list) (With a_part) (With a_redef) (With a_redef_item) (With a_redefs) → Exp-F Aexp Alt Decl Exp Locals Open Operand Rhs Where AltGuard AltItem Alts DeclItem Decls Guard NextOperand OperandList Part Redef RedefItem Redefs
exp_trees y = map-Exp (With an_aexp) (With an_alt) (With a_decl) (With an_exp) (With a_locals) (With an_open) (With an_operand) (With a_rhs) (With a_where) (With an_alt_guard) (With an_alt_item) (With an_alts) (With a_decl_item) (With a_decls) (With a_guard) (With a_next_operand) (With an_operand_list) (With a_part) (With a_redef) (With a_redef_item) (With a_redefs) Aexp Alt Decl Exp Locals Open Operand Rhs Where AltGuard AltItem Alts DeclItem Decls Guard NextOperand OperandList Part Redef RedefItem Redefs tree tree tree tree tree tree tree tree tree tree tree tree tree tree tree tree tree tree tree tree tree y

exp_each : (y : Exp-F (With an_aexp) (With an_alt) (With a_decl) (With an_exp) (With a_locals) (With an_open) (With an_operand) (With a_rhs) (With a_where) (With an_alt_guard) (With an_alt_item) (With an_alts) (With a_decl_item) (With a_decls) (With a_guard) (With a_next_operand) (With an_operand_list) (With a_part) (With a_redef) (With a_redef_item) (With a_redefs)) → AllKnown (exp_children (exp_trees y))
exp_each (Exp-F.Exp::Plain x0) = all_one (an_operand_list x0.0) x0.1
exp_each (Exp-F.Typed x0 x1 x2 x3) = all_one (an_operand_list x1.0) x1.1

exp_layer : (x : Exp-F Aexp Alt Decl Exp Locals Open Operand Rhs Where AltGuard AltItem Alts DeclItem Decls Guard NextOperand OperandList Part Redef RedefItem Redefs) (y : Exp-F (With an_aexp) (With an_alt) (With a_decl) (With an_exp) (With a_locals) (With an_open) (With an_operand) (With a_rhs) (With a_where) (With an_alt_guard) (With an_alt_item) (With an_alts) (With a_decl_item) (With a_decls) (With a_guard) (With a_next_operand) (With an_operand_list) (With a_part) (With a_redef) (With a_redef_item) (With a_redefs)) → exp_trees y ≡ x → Known (an_exp (roll-Exp x))
exp_layer x y is = step (an_exp (roll-Exp x)) (subst AllKnown (ap exp_children (is ∙ sym (out-roll-Exp x))) (exp_each y))

abbrev locals_trees : Locals-F (With an_aexp) (With an_alt) (With a_decl) (With an_exp) (With a_locals) (With an_open) (With an_operand) (With a_rhs) (With a_where) (With an_alt_guard) (With an_alt_item) (With an_alts) (With a_decl_item) (With a_decls) (With a_guard) (With a_next_operand) (With an_operand_list) (With a_part) (With a_redef) (With a_redef_item) (With a_redefs) → Locals-F Aexp Alt Decl Exp Locals Open Operand Rhs Where AltGuard AltItem Alts DeclItem Decls Guard NextOperand OperandList Part Redef RedefItem Redefs
locals_trees y = map-Locals (With an_aexp) (With an_alt) (With a_decl) (With an_exp) (With a_locals) (With an_open) (With an_operand) (With a_rhs) (With a_where) (With an_alt_guard) (With an_alt_item) (With an_alts) (With a_decl_item) (With a_decls) (With a_guard) (With a_next_operand) (With an_operand_list) (With a_part) (With a_redef) (With a_redef_item) (With a_redefs) Aexp Alt Decl Exp Locals Open Operand Rhs Where AltGuard AltItem Alts DeclItem Decls Guard NextOperand OperandList Part Redef RedefItem Redefs tree tree tree tree tree tree tree tree tree tree tree tree tree tree tree tree tree tree tree tree tree y

locals_each : (y : Locals-F (With an_aexp) (With an_alt) (With a_decl) (With an_exp) (With a_locals) (With an_open) (With an_operand) (With a_rhs) (With a_where) (With an_alt_guard) (With an_alt_item) (With an_alts) (With a_decl_item) (With a_decls) (With a_guard) (With a_next_operand) (With an_operand_list) (With a_part) (With a_redef) (With a_redef_item) (With a_redefs)) → AllKnown (locals_children (locals_trees y))
locals_each (Locals-F.Decls x0) = all_one (a_decls x0.0) x0.1
locals_each (Locals-F.Redefs x0) = all_one (a_redefs x0.0) x0.1

locals_layer : (x : Locals-F Aexp Alt Decl Exp Locals Open Operand Rhs Where AltGuard AltItem Alts DeclItem Decls Guard NextOperand OperandList Part Redef RedefItem Redefs) (y : Locals-F (With an_aexp) (With an_alt) (With a_decl) (With an_exp) (With a_locals) (With an_open) (With an_operand) (With a_rhs) (With a_where) (With an_alt_guard) (With an_alt_item) (With an_alts) (With a_decl_item) (With a_decls) (With a_guard) (With a_next_operand) (With an_operand_list) (With a_part) (With a_redef) (With a_redef_item) (With a_redefs)) → locals_trees y ≡ x → Known (a_locals (roll-Locals x))
locals_layer x y is = step (a_locals (roll-Locals x)) (subst AllKnown (ap locals_children (is ∙ sym (out-roll-Locals x))) (locals_each y))

abbrev open_trees : Open-F (With an_aexp) (With an_alt) (With a_decl) (With an_exp) (With a_locals) (With an_open) (With an_operand) (With a_rhs) (With a_where) (With an_alt_guard) (With an_alt_item) (With an_alts) (With a_decl_item) (With a_decls) (With a_guard) (With a_next_operand) (With an_operand_list) (With a_part) (With a_redef) (With a_redef_item) (With a_redefs) → Open-F Aexp Alt Decl Exp Locals Open Operand Rhs Where AltGuard AltItem Alts DeclItem Decls Guard NextOperand OperandList Part Redef RedefItem Redefs
open_trees y = map-Open (With an_aexp) (With an_alt) (With a_decl) (With an_exp) (With a_locals) (With an_open) (With an_operand) (With a_rhs) (With a_where) (With an_alt_guard) (With an_alt_item) (With an_alts) (With a_decl_item) (With a_decls) (With a_guard) (With a_next_operand) (With an_operand_list) (With a_part) (With a_redef) (With a_redef_item) (With a_redefs) Aexp Alt Decl Exp Locals Open Operand Rhs Where AltGuard AltItem Alts DeclItem Decls Guard NextOperand OperandList Part Redef RedefItem Redefs tree tree tree tree tree tree tree tree tree tree tree tree tree tree tree tree tree tree tree tree tree y

open_each : (y : Open-F (With an_aexp) (With an_alt) (With a_decl) (With an_exp) (With a_locals) (With an_open) (With an_operand) (With a_rhs) (With a_where) (With an_alt_guard) (With an_alt_item) (With an_alts) (With a_decl_item) (With a_decls) (With a_guard) (With a_next_operand) (With an_operand_list) (With a_part) (With a_redef) (With a_redef_item) (With a_redefs)) → AllKnown (open_children (open_trees y))
open_each (Open-F.Lambda x0 x1 x2 x3 x4 x5) = all_one (an_exp x5.0) x5.1
open_each (Open-F.Let x0 x1 x2 x3 x4) = all_join (a_locals x2.0 ∷ []) (an_exp x4.0 ∷ []) (all_one (a_locals x2.0) x2.1) (all_one (an_exp x4.0) x4.1)
open_each (Open-F.If x0 x1 x2 x3 x4 x5 x6) = all_join (an_exp x2.0 ∷ []) ((an_exp x4.0 ∷ []) ++ (an_exp x6.0 ∷ [])) (all_one (an_exp x2.0) x2.1) (all_join (an_exp x4.0 ∷ []) (an_exp x6.0 ∷ []) (all_one (an_exp x4.0) x4.1) (all_one (an_exp x6.0) x6.1))

open_layer : (x : Open-F Aexp Alt Decl Exp Locals Open Operand Rhs Where AltGuard AltItem Alts DeclItem Decls Guard NextOperand OperandList Part Redef RedefItem Redefs) (y : Open-F (With an_aexp) (With an_alt) (With a_decl) (With an_exp) (With a_locals) (With an_open) (With an_operand) (With a_rhs) (With a_where) (With an_alt_guard) (With an_alt_item) (With an_alts) (With a_decl_item) (With a_decls) (With a_guard) (With a_next_operand) (With an_operand_list) (With a_part) (With a_redef) (With a_redef_item) (With a_redefs)) → open_trees y ≡ x → Known (an_open (roll-Open x))
open_layer x y is = step (an_open (roll-Open x)) (subst AllKnown (ap open_children (is ∙ sym (out-roll-Open x))) (open_each y))

abbrev operand_trees : Operand-F (With an_aexp) (With an_alt) (With a_decl) (With an_exp) (With a_locals) (With an_open) (With an_operand) (With a_rhs) (With a_where) (With an_alt_guard) (With an_alt_item) (With an_alts) (With a_decl_item) (With a_decls) (With a_guard) (With a_next_operand) (With an_operand_list) (With a_part) (With a_redef) (With a_redef_item) (With a_redefs) → Operand-F Aexp Alt Decl Exp Locals Open Operand Rhs Where AltGuard AltItem Alts DeclItem Decls Guard NextOperand OperandList Part Redef RedefItem Redefs
operand_trees y = map-Operand (With an_aexp) (With an_alt) (With a_decl) (With an_exp) (With a_locals) (With an_open) (With an_operand) (With a_rhs) (With a_where) (With an_alt_guard) (With an_alt_item) (With an_alts) (With a_decl_item) (With a_decls) (With a_guard) (With a_next_operand) (With an_operand_list) (With a_part) (With a_redef) (With a_redef_item) (With a_redefs) Aexp Alt Decl Exp Locals Open Operand Rhs Where AltGuard AltItem Alts DeclItem Decls Guard NextOperand OperandList Part Redef RedefItem Redefs tree tree tree tree tree tree tree tree tree tree tree tree tree tree tree tree tree tree tree tree tree y

operand_each : (y : Operand-F (With an_aexp) (With an_alt) (With a_decl) (With an_exp) (With a_locals) (With an_open) (With an_operand) (With a_rhs) (With a_where) (With an_alt_guard) (With an_alt_item) (With an_alts) (With a_decl_item) (With a_decls) (With a_guard) (With a_next_operand) (With an_operand_list) (With a_part) (With a_redef) (With a_redef_item) (With a_redefs)) → AllKnown (operand_children (operand_trees y))
operand_each (Operand-F.Apply x0 x1 x2) = all_join (an_aexp x1.0 ∷ []) (map an_aexp (map (λ e. e.0) x2)) (all_one (an_aexp x1.0) x1.1) (all_list an_aexp x2)
operand_each (Operand-F.Case x0 x1 x2 x3 x4) = all_join (an_exp x2.0 ∷ []) (an_alts x4.0 ∷ []) (all_one (an_exp x2.0) x2.1) (all_one (an_alts x4.0) x4.1)
operand_each (Operand-F.Open x0) = all_one (an_open x0.0) x0.1

operand_layer : (x : Operand-F Aexp Alt Decl Exp Locals Open Operand Rhs Where AltGuard AltItem Alts DeclItem Decls Guard NextOperand OperandList Part Redef RedefItem Redefs) (y : Operand-F (With an_aexp) (With an_alt) (With a_decl) (With an_exp) (With a_locals) (With an_open) (With an_operand) (With a_rhs) (With a_where) (With an_alt_guard) (With an_alt_item) (With an_alts) (With a_decl_item) (With a_decls) (With a_guard) (With a_next_operand) (With an_operand_list) (With a_part) (With a_redef) (With a_redef_item) (With a_redefs)) → operand_trees y ≡ x → Known (an_operand (roll-Operand x))
operand_layer x y is = step (an_operand (roll-Operand x)) (subst AllKnown (ap operand_children (is ∙ sym (out-roll-Operand x))) (operand_each y))

abbrev rhs_trees : Rhs-F (With an_aexp) (With an_alt) (With a_decl) (With an_exp) (With a_locals) (With an_open) (With an_operand) (With a_rhs) (With a_where) (With an_alt_guard) (With an_alt_item) (With an_alts) (With a_decl_item) (With a_decls) (With a_guard) (With a_next_operand) (With an_operand_list) (With a_part) (With a_redef) (With a_redef_item) (With a_redefs) → Rhs-F Aexp Alt Decl Exp Locals Open Operand Rhs Where AltGuard AltItem Alts DeclItem Decls Guard NextOperand OperandList Part Redef RedefItem Redefs
rhs_trees y = map-Rhs (With an_aexp) (With an_alt) (With a_decl) (With an_exp) (With a_locals) (With an_open) (With an_operand) (With a_rhs) (With a_where) (With an_alt_guard) (With an_alt_item) (With an_alts) (With a_decl_item) (With a_decls) (With a_guard) (With a_next_operand) (With an_operand_list) (With a_part) (With a_redef) (With a_redef_item) (With a_redefs) Aexp Alt Decl Exp Locals Open Operand Rhs Where AltGuard AltItem Alts DeclItem Decls Guard NextOperand OperandList Part Redef RedefItem Redefs tree tree tree tree tree tree tree tree tree tree tree tree tree tree tree tree tree tree tree tree tree y

rhs_each : (y : Rhs-F (With an_aexp) (With an_alt) (With a_decl) (With an_exp) (With a_locals) (With an_open) (With an_operand) (With a_rhs) (With a_where) (With an_alt_guard) (With an_alt_item) (With an_alts) (With a_decl_item) (With a_decls) (With a_guard) (With a_next_operand) (With an_operand_list) (With a_part) (With a_redef) (With a_redef_item) (With a_redefs)) → AllKnown (rhs_children (rhs_trees y))
rhs_each (Rhs-F.Rhs::Plain x0 x1 x2 x3) = all_join (an_exp x2.0 ∷ []) (a_where x3.0 ∷ []) (all_one (an_exp x2.0) x2.1) (all_one (a_where x3.0) x3.1)
rhs_each (Rhs-F.Rhs::Guarded x0 x1 x2 x3) = all_join (a_guard x1.0 ∷ []) ((map a_guard (map (λ e. e.0) x2)) ++ (a_where x3.0 ∷ [])) (all_one (a_guard x1.0) x1.1) (all_join (map a_guard (map (λ e. e.0) x2)) (a_where x3.0 ∷ []) (all_list a_guard x2) (all_one (a_where x3.0) x3.1))

rhs_layer : (x : Rhs-F Aexp Alt Decl Exp Locals Open Operand Rhs Where AltGuard AltItem Alts DeclItem Decls Guard NextOperand OperandList Part Redef RedefItem Redefs) (y : Rhs-F (With an_aexp) (With an_alt) (With a_decl) (With an_exp) (With a_locals) (With an_open) (With an_operand) (With a_rhs) (With a_where) (With an_alt_guard) (With an_alt_item) (With an_alts) (With a_decl_item) (With a_decls) (With a_guard) (With a_next_operand) (With an_operand_list) (With a_part) (With a_redef) (With a_redef_item) (With a_redefs)) → rhs_trees y ≡ x → Known (a_rhs (roll-Rhs x))
rhs_layer x y is = step (a_rhs (roll-Rhs x)) (subst AllKnown (ap rhs_children (is ∙ sym (out-roll-Rhs x))) (rhs_each y))

abbrev where_trees : Where-F (With an_aexp) (With an_alt) (With a_decl) (With an_exp) (With a_locals) (With an_open) (With an_operand) (With a_rhs) (With a_where) (With an_alt_guard) (With an_alt_item) (With an_alts) (With a_decl_item) (With a_decls) (With a_guard) (With a_next_operand) (With an_operand_list) (With a_part) (With a_redef) (With a_redef_item) (With a_redefs) → Where-F Aexp Alt Decl Exp Locals Open Operand Rhs Where AltGuard AltItem Alts DeclItem Decls Guard NextOperand OperandList Part Redef RedefItem Redefs
where_trees y = map-Where (With an_aexp) (With an_alt) (With a_decl) (With an_exp) (With a_locals) (With an_open) (With an_operand) (With a_rhs) (With a_where) (With an_alt_guard) (With an_alt_item) (With an_alts) (With a_decl_item) (With a_decls) (With a_guard) (With a_next_operand) (With an_operand_list) (With a_part) (With a_redef) (With a_redef_item) (With a_redefs) Aexp Alt Decl Exp Locals Open Operand Rhs Where AltGuard AltItem Alts DeclItem Decls Guard NextOperand OperandList Part Redef RedefItem Redefs tree tree tree tree tree tree tree tree tree tree tree tree tree tree tree tree tree tree tree tree tree y

where_each : (y : Where-F (With an_aexp) (With an_alt) (With a_decl) (With an_exp) (With a_locals) (With an_open) (With an_operand) (With a_rhs) (With a_where) (With an_alt_guard) (With an_alt_item) (With an_alts) (With a_decl_item) (With a_decls) (With a_guard) (With a_next_operand) (With an_operand_list) (With a_part) (With a_redef) (With a_redef_item) (With a_redefs)) → AllKnown (where_children (where_trees y))
where_each (Where-F.Absent) = all_none
where_each (Where-F.Block x0 x1) = all_one (a_decls x1.0) x1.1

where_layer : (x : Where-F Aexp Alt Decl Exp Locals Open Operand Rhs Where AltGuard AltItem Alts DeclItem Decls Guard NextOperand OperandList Part Redef RedefItem Redefs) (y : Where-F (With an_aexp) (With an_alt) (With a_decl) (With an_exp) (With a_locals) (With an_open) (With an_operand) (With a_rhs) (With a_where) (With an_alt_guard) (With an_alt_item) (With an_alts) (With a_decl_item) (With a_decls) (With a_guard) (With a_next_operand) (With an_operand_list) (With a_part) (With a_redef) (With a_redef_item) (With a_redefs)) → where_trees y ≡ x → Known (a_where (roll-Where x))
where_layer x y is = step (a_where (roll-Where x)) (subst AllKnown (ap where_children (is ∙ sym (out-roll-Where x))) (where_each y))

abbrev alt_guard_trees : AltGuard-F (With an_aexp) (With an_alt) (With a_decl) (With an_exp) (With a_locals) (With an_open) (With an_operand) (With a_rhs) (With a_where) (With an_alt_guard) (With an_alt_item) (With an_alts) (With a_decl_item) (With a_decls) (With a_guard) (With a_next_operand) (With an_operand_list) (With a_part) (With a_redef) (With a_redef_item) (With a_redefs) → AltGuard-F Aexp Alt Decl Exp Locals Open Operand Rhs Where AltGuard AltItem Alts DeclItem Decls Guard NextOperand OperandList Part Redef RedefItem Redefs
alt_guard_trees y = map-AltGuard (With an_aexp) (With an_alt) (With a_decl) (With an_exp) (With a_locals) (With an_open) (With an_operand) (With a_rhs) (With a_where) (With an_alt_guard) (With an_alt_item) (With an_alts) (With a_decl_item) (With a_decls) (With a_guard) (With a_next_operand) (With an_operand_list) (With a_part) (With a_redef) (With a_redef_item) (With a_redefs) Aexp Alt Decl Exp Locals Open Operand Rhs Where AltGuard AltItem Alts DeclItem Decls Guard NextOperand OperandList Part Redef RedefItem Redefs tree tree tree tree tree tree tree tree tree tree tree tree tree tree tree tree tree tree tree tree tree y

alt_guard_each : (y : AltGuard-F (With an_aexp) (With an_alt) (With a_decl) (With an_exp) (With a_locals) (With an_open) (With an_operand) (With a_rhs) (With a_where) (With an_alt_guard) (With an_alt_item) (With an_alts) (With a_decl_item) (With a_decls) (With a_guard) (With a_next_operand) (With an_operand_list) (With a_part) (With a_redef) (With a_redef_item) (With a_redefs)) → AllKnown (alt_guard_children (alt_guard_trees y))
alt_guard_each z = all_join (an_operand_list z.test.0 ∷ []) (an_exp z.body.0 ∷ []) (all_one (an_operand_list z.test.0) z.test.1) (all_one (an_exp z.body.0) z.body.1)

alt_guard_layer : (x : AltGuard-F Aexp Alt Decl Exp Locals Open Operand Rhs Where AltGuard AltItem Alts DeclItem Decls Guard NextOperand OperandList Part Redef RedefItem Redefs) (y : AltGuard-F (With an_aexp) (With an_alt) (With a_decl) (With an_exp) (With a_locals) (With an_open) (With an_operand) (With a_rhs) (With a_where) (With an_alt_guard) (With an_alt_item) (With an_alts) (With a_decl_item) (With a_decls) (With a_guard) (With a_next_operand) (With an_operand_list) (With a_part) (With a_redef) (With a_redef_item) (With a_redefs)) → alt_guard_trees y ≡ x → Known (an_alt_guard (roll-AltGuard x))
alt_guard_layer x y is = step (an_alt_guard (roll-AltGuard x)) (subst AllKnown (ap alt_guard_children (is ∙ sym (out-roll-AltGuard x))) (alt_guard_each y))

abbrev alt_item_trees : AltItem-F (With an_aexp) (With an_alt) (With a_decl) (With an_exp) (With a_locals) (With an_open) (With an_operand) (With a_rhs) (With a_where) (With an_alt_guard) (With an_alt_item) (With an_alts) (With a_decl_item) (With a_decls) (With a_guard) (With a_next_operand) (With an_operand_list) (With a_part) (With a_redef) (With a_redef_item) (With a_redefs) → AltItem-F Aexp Alt Decl Exp Locals Open Operand Rhs Where AltGuard AltItem Alts DeclItem Decls Guard NextOperand OperandList Part Redef RedefItem Redefs
alt_item_trees y = map-AltItem (With an_aexp) (With an_alt) (With a_decl) (With an_exp) (With a_locals) (With an_open) (With an_operand) (With a_rhs) (With a_where) (With an_alt_guard) (With an_alt_item) (With an_alts) (With a_decl_item) (With a_decls) (With a_guard) (With a_next_operand) (With an_operand_list) (With a_part) (With a_redef) (With a_redef_item) (With a_redefs) Aexp Alt Decl Exp Locals Open Operand Rhs Where AltGuard AltItem Alts DeclItem Decls Guard NextOperand OperandList Part Redef RedefItem Redefs tree tree tree tree tree tree tree tree tree tree tree tree tree tree tree tree tree tree tree tree tree y

alt_item_each : (y : AltItem-F (With an_aexp) (With an_alt) (With a_decl) (With an_exp) (With a_locals) (With an_open) (With an_operand) (With a_rhs) (With a_where) (With an_alt_guard) (With an_alt_item) (With an_alts) (With a_decl_item) (With a_decls) (With a_guard) (With a_next_operand) (With an_operand_list) (With a_part) (With a_redef) (With a_redef_item) (With a_redefs)) → AllKnown (alt_item_children (alt_item_trees y))
alt_item_each z = all_one (an_alt z.alt.0) z.alt.1

alt_item_layer : (x : AltItem-F Aexp Alt Decl Exp Locals Open Operand Rhs Where AltGuard AltItem Alts DeclItem Decls Guard NextOperand OperandList Part Redef RedefItem Redefs) (y : AltItem-F (With an_aexp) (With an_alt) (With a_decl) (With an_exp) (With a_locals) (With an_open) (With an_operand) (With a_rhs) (With a_where) (With an_alt_guard) (With an_alt_item) (With an_alts) (With a_decl_item) (With a_decls) (With a_guard) (With a_next_operand) (With an_operand_list) (With a_part) (With a_redef) (With a_redef_item) (With a_redefs)) → alt_item_trees y ≡ x → Known (an_alt_item (roll-AltItem x))
alt_item_layer x y is = step (an_alt_item (roll-AltItem x)) (subst AllKnown (ap alt_item_children (is ∙ sym (out-roll-AltItem x))) (alt_item_each y))

abbrev alts_trees : Alts-F (With an_aexp) (With an_alt) (With a_decl) (With an_exp) (With a_locals) (With an_open) (With an_operand) (With a_rhs) (With a_where) (With an_alt_guard) (With an_alt_item) (With an_alts) (With a_decl_item) (With a_decls) (With a_guard) (With a_next_operand) (With an_operand_list) (With a_part) (With a_redef) (With a_redef_item) (With a_redefs) → Alts-F Aexp Alt Decl Exp Locals Open Operand Rhs Where AltGuard AltItem Alts DeclItem Decls Guard NextOperand OperandList Part Redef RedefItem Redefs
alts_trees y = map-Alts (With an_aexp) (With an_alt) (With a_decl) (With an_exp) (With a_locals) (With an_open) (With an_operand) (With a_rhs) (With a_where) (With an_alt_guard) (With an_alt_item) (With an_alts) (With a_decl_item) (With a_decls) (With a_guard) (With a_next_operand) (With an_operand_list) (With a_part) (With a_redef) (With a_redef_item) (With a_redefs) Aexp Alt Decl Exp Locals Open Operand Rhs Where AltGuard AltItem Alts DeclItem Decls Guard NextOperand OperandList Part Redef RedefItem Redefs tree tree tree tree tree tree tree tree tree tree tree tree tree tree tree tree tree tree tree tree tree y

alts_each : (y : Alts-F (With an_aexp) (With an_alt) (With a_decl) (With an_exp) (With a_locals) (With an_open) (With an_operand) (With a_rhs) (With a_where) (With an_alt_guard) (With an_alt_item) (With an_alts) (With a_decl_item) (With a_decls) (With a_guard) (With a_next_operand) (With an_operand_list) (With a_part) (With a_redef) (With a_redef_item) (With a_redefs)) → AllKnown (alts_children (alts_trees y))
alts_each z = all_list an_alt_item z.alts

alts_layer : (x : Alts-F Aexp Alt Decl Exp Locals Open Operand Rhs Where AltGuard AltItem Alts DeclItem Decls Guard NextOperand OperandList Part Redef RedefItem Redefs) (y : Alts-F (With an_aexp) (With an_alt) (With a_decl) (With an_exp) (With a_locals) (With an_open) (With an_operand) (With a_rhs) (With a_where) (With an_alt_guard) (With an_alt_item) (With an_alts) (With a_decl_item) (With a_decls) (With a_guard) (With a_next_operand) (With an_operand_list) (With a_part) (With a_redef) (With a_redef_item) (With a_redefs)) → alts_trees y ≡ x → Known (an_alts (roll-Alts x))
alts_layer x y is = step (an_alts (roll-Alts x)) (subst AllKnown (ap alts_children (is ∙ sym (out-roll-Alts x))) (alts_each y))

abbrev decl_item_trees : DeclItem-F (With an_aexp) (With an_alt) (With a_decl) (With an_exp) (With a_locals) (With an_open) (With an_operand) (With a_rhs) (With a_where) (With an_alt_guard) (With an_alt_item) (With an_alts) (With a_decl_item) (With a_decls) (With a_guard) (With a_next_operand) (With an_operand_list) (With a_part) (With a_redef) (With a_redef_item) (With a_redefs) → DeclItem-F Aexp Alt Decl Exp Locals Open Operand Rhs Where AltGuard AltItem Alts DeclItem Decls Guard NextOperand OperandList Part Redef RedefItem Redefs
decl_item_trees y = map-DeclItem (With an_aexp) (With an_alt) (With a_decl) (With an_exp) (With a_locals) (With an_open) (With an_operand) (With a_rhs) (With a_where) (With an_alt_guard) (With an_alt_item) (With an_alts) (With a_decl_item) (With a_decls) (With a_guard) (With a_next_operand) (With an_operand_list) (With a_part) (With a_redef) (With a_redef_item) (With a_redefs) Aexp Alt Decl Exp Locals Open Operand Rhs Where AltGuard AltItem Alts DeclItem Decls Guard NextOperand OperandList Part Redef RedefItem Redefs tree tree tree tree tree tree tree tree tree tree tree tree tree tree tree tree tree tree tree tree tree y

decl_item_each : (y : DeclItem-F (With an_aexp) (With an_alt) (With a_decl) (With an_exp) (With a_locals) (With an_open) (With an_operand) (With a_rhs) (With a_where) (With an_alt_guard) (With an_alt_item) (With an_alts) (With a_decl_item) (With a_decls) (With a_guard) (With a_next_operand) (With an_operand_list) (With a_part) (With a_redef) (With a_redef_item) (With a_redefs)) → AllKnown (decl_item_children (decl_item_trees y))
decl_item_each z = all_one (a_decl z.decl.0) z.decl.1

decl_item_layer : (x : DeclItem-F Aexp Alt Decl Exp Locals Open Operand Rhs Where AltGuard AltItem Alts DeclItem Decls Guard NextOperand OperandList Part Redef RedefItem Redefs) (y : DeclItem-F (With an_aexp) (With an_alt) (With a_decl) (With an_exp) (With a_locals) (With an_open) (With an_operand) (With a_rhs) (With a_where) (With an_alt_guard) (With an_alt_item) (With an_alts) (With a_decl_item) (With a_decls) (With a_guard) (With a_next_operand) (With an_operand_list) (With a_part) (With a_redef) (With a_redef_item) (With a_redefs)) → decl_item_trees y ≡ x → Known (a_decl_item (roll-DeclItem x))
decl_item_layer x y is = step (a_decl_item (roll-DeclItem x)) (subst AllKnown (ap decl_item_children (is ∙ sym (out-roll-DeclItem x))) (decl_item_each y))

abbrev decls_trees : Decls-F (With an_aexp) (With an_alt) (With a_decl) (With an_exp) (With a_locals) (With an_open) (With an_operand) (With a_rhs) (With a_where) (With an_alt_guard) (With an_alt_item) (With an_alts) (With a_decl_item) (With a_decls) (With a_guard) (With a_next_operand) (With an_operand_list) (With a_part) (With a_redef) (With a_redef_item) (With a_redefs) → Decls-F Aexp Alt Decl Exp Locals Open Operand Rhs Where AltGuard AltItem Alts DeclItem Decls Guard NextOperand OperandList Part Redef RedefItem Redefs
decls_trees y = map-Decls (With an_aexp) (With an_alt) (With a_decl) (With an_exp) (With a_locals) (With an_open) (With an_operand) (With a_rhs) (With a_where) (With an_alt_guard) (With an_alt_item) (With an_alts) (With a_decl_item) (With a_decls) (With a_guard) (With a_next_operand) (With an_operand_list) (With a_part) (With a_redef) (With a_redef_item) (With a_redefs) Aexp Alt Decl Exp Locals Open Operand Rhs Where AltGuard AltItem Alts DeclItem Decls Guard NextOperand OperandList Part Redef RedefItem Redefs tree tree tree tree tree tree tree tree tree tree tree tree tree tree tree tree tree tree tree tree tree y

decls_each : (y : Decls-F (With an_aexp) (With an_alt) (With a_decl) (With an_exp) (With a_locals) (With an_open) (With an_operand) (With a_rhs) (With a_where) (With an_alt_guard) (With an_alt_item) (With an_alts) (With a_decl_item) (With a_decls) (With a_guard) (With a_next_operand) (With an_operand_list) (With a_part) (With a_redef) (With a_redef_item) (With a_redefs)) → AllKnown (decls_children (decls_trees y))
decls_each z = all_list a_decl_item z.decls

decls_layer : (x : Decls-F Aexp Alt Decl Exp Locals Open Operand Rhs Where AltGuard AltItem Alts DeclItem Decls Guard NextOperand OperandList Part Redef RedefItem Redefs) (y : Decls-F (With an_aexp) (With an_alt) (With a_decl) (With an_exp) (With a_locals) (With an_open) (With an_operand) (With a_rhs) (With a_where) (With an_alt_guard) (With an_alt_item) (With an_alts) (With a_decl_item) (With a_decls) (With a_guard) (With a_next_operand) (With an_operand_list) (With a_part) (With a_redef) (With a_redef_item) (With a_redefs)) → decls_trees y ≡ x → Known (a_decls (roll-Decls x))
decls_layer x y is = step (a_decls (roll-Decls x)) (subst AllKnown (ap decls_children (is ∙ sym (out-roll-Decls x))) (decls_each y))

abbrev guard_trees : Guard-F (With an_aexp) (With an_alt) (With a_decl) (With an_exp) (With a_locals) (With an_open) (With an_operand) (With a_rhs) (With a_where) (With an_alt_guard) (With an_alt_item) (With an_alts) (With a_decl_item) (With a_decls) (With a_guard) (With a_next_operand) (With an_operand_list) (With a_part) (With a_redef) (With a_redef_item) (With a_redefs) → Guard-F Aexp Alt Decl Exp Locals Open Operand Rhs Where AltGuard AltItem Alts DeclItem Decls Guard NextOperand OperandList Part Redef RedefItem Redefs
guard_trees y = map-Guard (With an_aexp) (With an_alt) (With a_decl) (With an_exp) (With a_locals) (With an_open) (With an_operand) (With a_rhs) (With a_where) (With an_alt_guard) (With an_alt_item) (With an_alts) (With a_decl_item) (With a_decls) (With a_guard) (With a_next_operand) (With an_operand_list) (With a_part) (With a_redef) (With a_redef_item) (With a_redefs) Aexp Alt Decl Exp Locals Open Operand Rhs Where AltGuard AltItem Alts DeclItem Decls Guard NextOperand OperandList Part Redef RedefItem Redefs tree tree tree tree tree tree tree tree tree tree tree tree tree tree tree tree tree tree tree tree tree y

guard_each : (y : Guard-F (With an_aexp) (With an_alt) (With a_decl) (With an_exp) (With a_locals) (With an_open) (With an_operand) (With a_rhs) (With a_where) (With an_alt_guard) (With an_alt_item) (With an_alts) (With a_decl_item) (With a_decls) (With a_guard) (With a_next_operand) (With an_operand_list) (With a_part) (With a_redef) (With a_redef_item) (With a_redefs)) → AllKnown (guard_children (guard_trees y))
guard_each z = all_join (an_operand_list z.test.0 ∷ []) (an_exp z.body.0 ∷ []) (all_one (an_operand_list z.test.0) z.test.1) (all_one (an_exp z.body.0) z.body.1)

guard_layer : (x : Guard-F Aexp Alt Decl Exp Locals Open Operand Rhs Where AltGuard AltItem Alts DeclItem Decls Guard NextOperand OperandList Part Redef RedefItem Redefs) (y : Guard-F (With an_aexp) (With an_alt) (With a_decl) (With an_exp) (With a_locals) (With an_open) (With an_operand) (With a_rhs) (With a_where) (With an_alt_guard) (With an_alt_item) (With an_alts) (With a_decl_item) (With a_decls) (With a_guard) (With a_next_operand) (With an_operand_list) (With a_part) (With a_redef) (With a_redef_item) (With a_redefs)) → guard_trees y ≡ x → Known (a_guard (roll-Guard x))
guard_layer x y is = step (a_guard (roll-Guard x)) (subst AllKnown (ap guard_children (is ∙ sym (out-roll-Guard x))) (guard_each y))

abbrev next_operand_trees : NextOperand-F (With an_aexp) (With an_alt) (With a_decl) (With an_exp) (With a_locals) (With an_open) (With an_operand) (With a_rhs) (With a_where) (With an_alt_guard) (With an_alt_item) (With an_alts) (With a_decl_item) (With a_decls) (With a_guard) (With a_next_operand) (With an_operand_list) (With a_part) (With a_redef) (With a_redef_item) (With a_redefs) → NextOperand-F Aexp Alt Decl Exp Locals Open Operand Rhs Where AltGuard AltItem Alts DeclItem Decls Guard NextOperand OperandList Part Redef RedefItem Redefs
next_operand_trees y = map-NextOperand (With an_aexp) (With an_alt) (With a_decl) (With an_exp) (With a_locals) (With an_open) (With an_operand) (With a_rhs) (With a_where) (With an_alt_guard) (With an_alt_item) (With an_alts) (With a_decl_item) (With a_decls) (With a_guard) (With a_next_operand) (With an_operand_list) (With a_part) (With a_redef) (With a_redef_item) (With a_redefs) Aexp Alt Decl Exp Locals Open Operand Rhs Where AltGuard AltItem Alts DeclItem Decls Guard NextOperand OperandList Part Redef RedefItem Redefs tree tree tree tree tree tree tree tree tree tree tree tree tree tree tree tree tree tree tree tree tree y

next_operand_each : (y : NextOperand-F (With an_aexp) (With an_alt) (With a_decl) (With an_exp) (With a_locals) (With an_open) (With an_operand) (With a_rhs) (With a_where) (With an_alt_guard) (With an_alt_item) (With an_alts) (With a_decl_item) (With a_decls) (With a_guard) (With a_next_operand) (With an_operand_list) (With a_part) (With a_redef) (With a_redef_item) (With a_redefs)) → AllKnown (next_operand_children (next_operand_trees y))
next_operand_each z = all_one (an_operand z.operand.0) z.operand.1

next_operand_layer : (x : NextOperand-F Aexp Alt Decl Exp Locals Open Operand Rhs Where AltGuard AltItem Alts DeclItem Decls Guard NextOperand OperandList Part Redef RedefItem Redefs) (y : NextOperand-F (With an_aexp) (With an_alt) (With a_decl) (With an_exp) (With a_locals) (With an_open) (With an_operand) (With a_rhs) (With a_where) (With an_alt_guard) (With an_alt_item) (With an_alts) (With a_decl_item) (With a_decls) (With a_guard) (With a_next_operand) (With an_operand_list) (With a_part) (With a_redef) (With a_redef_item) (With a_redefs)) → next_operand_trees y ≡ x → Known (a_next_operand (roll-NextOperand x))
next_operand_layer x y is = step (a_next_operand (roll-NextOperand x)) (subst AllKnown (ap next_operand_children (is ∙ sym (out-roll-NextOperand x))) (next_operand_each y))

abbrev operands_trees : OperandList-F (With an_aexp) (With an_alt) (With a_decl) (With an_exp) (With a_locals) (With an_open) (With an_operand) (With a_rhs) (With a_where) (With an_alt_guard) (With an_alt_item) (With an_alts) (With a_decl_item) (With a_decls) (With a_guard) (With a_next_operand) (With an_operand_list) (With a_part) (With a_redef) (With a_redef_item) (With a_redefs) → OperandList-F Aexp Alt Decl Exp Locals Open Operand Rhs Where AltGuard AltItem Alts DeclItem Decls Guard NextOperand OperandList Part Redef RedefItem Redefs
operands_trees y = map-OperandList (With an_aexp) (With an_alt) (With a_decl) (With an_exp) (With a_locals) (With an_open) (With an_operand) (With a_rhs) (With a_where) (With an_alt_guard) (With an_alt_item) (With an_alts) (With a_decl_item) (With a_decls) (With a_guard) (With a_next_operand) (With an_operand_list) (With a_part) (With a_redef) (With a_redef_item) (With a_redefs) Aexp Alt Decl Exp Locals Open Operand Rhs Where AltGuard AltItem Alts DeclItem Decls Guard NextOperand OperandList Part Redef RedefItem Redefs tree tree tree tree tree tree tree tree tree tree tree tree tree tree tree tree tree tree tree tree tree y

operands_each : (y : OperandList-F (With an_aexp) (With an_alt) (With a_decl) (With an_exp) (With a_locals) (With an_open) (With an_operand) (With a_rhs) (With a_where) (With an_alt_guard) (With an_alt_item) (With an_alts) (With a_decl_item) (With a_decls) (With a_guard) (With a_next_operand) (With an_operand_list) (With a_part) (With a_redef) (With a_redef_item) (With a_redefs)) → AllKnown (operands_children (operands_trees y))
operands_each z = all_join (an_operand z.first.0 ∷ []) (map a_next_operand (map (λ e. e.0) z.others)) (all_one (an_operand z.first.0) z.first.1) (all_list a_next_operand z.others)

operands_layer : (x : OperandList-F Aexp Alt Decl Exp Locals Open Operand Rhs Where AltGuard AltItem Alts DeclItem Decls Guard NextOperand OperandList Part Redef RedefItem Redefs) (y : OperandList-F (With an_aexp) (With an_alt) (With a_decl) (With an_exp) (With a_locals) (With an_open) (With an_operand) (With a_rhs) (With a_where) (With an_alt_guard) (With an_alt_item) (With an_alts) (With a_decl_item) (With a_decls) (With a_guard) (With a_next_operand) (With an_operand_list) (With a_part) (With a_redef) (With a_redef_item) (With a_redefs)) → operands_trees y ≡ x → Known (an_operand_list (roll-OperandList x))
operands_layer x y is = step (an_operand_list (roll-OperandList x)) (subst AllKnown (ap operands_children (is ∙ sym (out-roll-OperandList x))) (operands_each y))

abbrev part_trees : Part-F (With an_aexp) (With an_alt) (With a_decl) (With an_exp) (With a_locals) (With an_open) (With an_operand) (With a_rhs) (With a_where) (With an_alt_guard) (With an_alt_item) (With an_alts) (With a_decl_item) (With a_decls) (With a_guard) (With a_next_operand) (With an_operand_list) (With a_part) (With a_redef) (With a_redef_item) (With a_redefs) → Part-F Aexp Alt Decl Exp Locals Open Operand Rhs Where AltGuard AltItem Alts DeclItem Decls Guard NextOperand OperandList Part Redef RedefItem Redefs
part_trees y = map-Part (With an_aexp) (With an_alt) (With a_decl) (With an_exp) (With a_locals) (With an_open) (With an_operand) (With a_rhs) (With a_where) (With an_alt_guard) (With an_alt_item) (With an_alts) (With a_decl_item) (With a_decls) (With a_guard) (With a_next_operand) (With an_operand_list) (With a_part) (With a_redef) (With a_redef_item) (With a_redefs) Aexp Alt Decl Exp Locals Open Operand Rhs Where AltGuard AltItem Alts DeclItem Decls Guard NextOperand OperandList Part Redef RedefItem Redefs tree tree tree tree tree tree tree tree tree tree tree tree tree tree tree tree tree tree tree tree tree y

part_each : (y : Part-F (With an_aexp) (With an_alt) (With a_decl) (With an_exp) (With a_locals) (With an_open) (With an_operand) (With a_rhs) (With a_where) (With an_alt_guard) (With an_alt_item) (With an_alts) (With a_decl_item) (With a_decls) (With a_guard) (With a_next_operand) (With an_operand_list) (With a_part) (With a_redef) (With a_redef_item) (With a_redefs)) → AllKnown (part_children (part_trees y))
part_each z = all_one (an_exp z.exp.0) z.exp.1

part_layer : (x : Part-F Aexp Alt Decl Exp Locals Open Operand Rhs Where AltGuard AltItem Alts DeclItem Decls Guard NextOperand OperandList Part Redef RedefItem Redefs) (y : Part-F (With an_aexp) (With an_alt) (With a_decl) (With an_exp) (With a_locals) (With an_open) (With an_operand) (With a_rhs) (With a_where) (With an_alt_guard) (With an_alt_item) (With an_alts) (With a_decl_item) (With a_decls) (With a_guard) (With a_next_operand) (With an_operand_list) (With a_part) (With a_redef) (With a_redef_item) (With a_redefs)) → part_trees y ≡ x → Known (a_part (roll-Part x))
part_layer x y is = step (a_part (roll-Part x)) (subst AllKnown (ap part_children (is ∙ sym (out-roll-Part x))) (part_each y))

abbrev redef_trees : Redef-F (With an_aexp) (With an_alt) (With a_decl) (With an_exp) (With a_locals) (With an_open) (With an_operand) (With a_rhs) (With a_where) (With an_alt_guard) (With an_alt_item) (With an_alts) (With a_decl_item) (With a_decls) (With a_guard) (With a_next_operand) (With an_operand_list) (With a_part) (With a_redef) (With a_redef_item) (With a_redefs) → Redef-F Aexp Alt Decl Exp Locals Open Operand Rhs Where AltGuard AltItem Alts DeclItem Decls Guard NextOperand OperandList Part Redef RedefItem Redefs
redef_trees y = map-Redef (With an_aexp) (With an_alt) (With a_decl) (With an_exp) (With a_locals) (With an_open) (With an_operand) (With a_rhs) (With a_where) (With an_alt_guard) (With an_alt_item) (With an_alts) (With a_decl_item) (With a_decls) (With a_guard) (With a_next_operand) (With an_operand_list) (With a_part) (With a_redef) (With a_redef_item) (With a_redefs) Aexp Alt Decl Exp Locals Open Operand Rhs Where AltGuard AltItem Alts DeclItem Decls Guard NextOperand OperandList Part Redef RedefItem Redefs tree tree tree tree tree tree tree tree tree tree tree tree tree tree tree tree tree tree tree tree tree y

redef_each : (y : Redef-F (With an_aexp) (With an_alt) (With a_decl) (With an_exp) (With a_locals) (With an_open) (With an_operand) (With a_rhs) (With a_where) (With an_alt_guard) (With an_alt_item) (With an_alts) (With a_decl_item) (With a_decls) (With a_guard) (With a_next_operand) (With an_operand_list) (With a_part) (With a_redef) (With a_redef_item) (With a_redefs)) → AllKnown (redef_children (redef_trees y))
redef_each z = all_one (an_exp z.body.0) z.body.1

redef_layer : (x : Redef-F Aexp Alt Decl Exp Locals Open Operand Rhs Where AltGuard AltItem Alts DeclItem Decls Guard NextOperand OperandList Part Redef RedefItem Redefs) (y : Redef-F (With an_aexp) (With an_alt) (With a_decl) (With an_exp) (With a_locals) (With an_open) (With an_operand) (With a_rhs) (With a_where) (With an_alt_guard) (With an_alt_item) (With an_alts) (With a_decl_item) (With a_decls) (With a_guard) (With a_next_operand) (With an_operand_list) (With a_part) (With a_redef) (With a_redef_item) (With a_redefs)) → redef_trees y ≡ x → Known (a_redef (roll-Redef x))
redef_layer x y is = step (a_redef (roll-Redef x)) (subst AllKnown (ap redef_children (is ∙ sym (out-roll-Redef x))) (redef_each y))

abbrev redef_item_trees : RedefItem-F (With an_aexp) (With an_alt) (With a_decl) (With an_exp) (With a_locals) (With an_open) (With an_operand) (With a_rhs) (With a_where) (With an_alt_guard) (With an_alt_item) (With an_alts) (With a_decl_item) (With a_decls) (With a_guard) (With a_next_operand) (With an_operand_list) (With a_part) (With a_redef) (With a_redef_item) (With a_redefs) → RedefItem-F Aexp Alt Decl Exp Locals Open Operand Rhs Where AltGuard AltItem Alts DeclItem Decls Guard NextOperand OperandList Part Redef RedefItem Redefs
redef_item_trees y = map-RedefItem (With an_aexp) (With an_alt) (With a_decl) (With an_exp) (With a_locals) (With an_open) (With an_operand) (With a_rhs) (With a_where) (With an_alt_guard) (With an_alt_item) (With an_alts) (With a_decl_item) (With a_decls) (With a_guard) (With a_next_operand) (With an_operand_list) (With a_part) (With a_redef) (With a_redef_item) (With a_redefs) Aexp Alt Decl Exp Locals Open Operand Rhs Where AltGuard AltItem Alts DeclItem Decls Guard NextOperand OperandList Part Redef RedefItem Redefs tree tree tree tree tree tree tree tree tree tree tree tree tree tree tree tree tree tree tree tree tree y

redef_item_each : (y : RedefItem-F (With an_aexp) (With an_alt) (With a_decl) (With an_exp) (With a_locals) (With an_open) (With an_operand) (With a_rhs) (With a_where) (With an_alt_guard) (With an_alt_item) (With an_alts) (With a_decl_item) (With a_decls) (With a_guard) (With a_next_operand) (With an_operand_list) (With a_part) (With a_redef) (With a_redef_item) (With a_redefs)) → AllKnown (redef_item_children (redef_item_trees y))
redef_item_each z = all_one (a_redef z.redef.0) z.redef.1

redef_item_layer : (x : RedefItem-F Aexp Alt Decl Exp Locals Open Operand Rhs Where AltGuard AltItem Alts DeclItem Decls Guard NextOperand OperandList Part Redef RedefItem Redefs) (y : RedefItem-F (With an_aexp) (With an_alt) (With a_decl) (With an_exp) (With a_locals) (With an_open) (With an_operand) (With a_rhs) (With a_where) (With an_alt_guard) (With an_alt_item) (With an_alts) (With a_decl_item) (With a_decls) (With a_guard) (With a_next_operand) (With an_operand_list) (With a_part) (With a_redef) (With a_redef_item) (With a_redefs)) → redef_item_trees y ≡ x → Known (a_redef_item (roll-RedefItem x))
redef_item_layer x y is = step (a_redef_item (roll-RedefItem x)) (subst AllKnown (ap redef_item_children (is ∙ sym (out-roll-RedefItem x))) (redef_item_each y))

abbrev redefs_trees : Redefs-F (With an_aexp) (With an_alt) (With a_decl) (With an_exp) (With a_locals) (With an_open) (With an_operand) (With a_rhs) (With a_where) (With an_alt_guard) (With an_alt_item) (With an_alts) (With a_decl_item) (With a_decls) (With a_guard) (With a_next_operand) (With an_operand_list) (With a_part) (With a_redef) (With a_redef_item) (With a_redefs) → Redefs-F Aexp Alt Decl Exp Locals Open Operand Rhs Where AltGuard AltItem Alts DeclItem Decls Guard NextOperand OperandList Part Redef RedefItem Redefs
redefs_trees y = map-Redefs (With an_aexp) (With an_alt) (With a_decl) (With an_exp) (With a_locals) (With an_open) (With an_operand) (With a_rhs) (With a_where) (With an_alt_guard) (With an_alt_item) (With an_alts) (With a_decl_item) (With a_decls) (With a_guard) (With a_next_operand) (With an_operand_list) (With a_part) (With a_redef) (With a_redef_item) (With a_redefs) Aexp Alt Decl Exp Locals Open Operand Rhs Where AltGuard AltItem Alts DeclItem Decls Guard NextOperand OperandList Part Redef RedefItem Redefs tree tree tree tree tree tree tree tree tree tree tree tree tree tree tree tree tree tree tree tree tree y

redefs_each : (y : Redefs-F (With an_aexp) (With an_alt) (With a_decl) (With an_exp) (With a_locals) (With an_open) (With an_operand) (With a_rhs) (With a_where) (With an_alt_guard) (With an_alt_item) (With an_alts) (With a_decl_item) (With a_decls) (With a_guard) (With a_next_operand) (With an_operand_list) (With a_part) (With a_redef) (With a_redef_item) (With a_redefs)) → AllKnown (redefs_children (redefs_trees y))
redefs_each z = all_list a_redef_item z.redefs

redefs_layer : (x : Redefs-F Aexp Alt Decl Exp Locals Open Operand Rhs Where AltGuard AltItem Alts DeclItem Decls Guard NextOperand OperandList Part Redef RedefItem Redefs) (y : Redefs-F (With an_aexp) (With an_alt) (With a_decl) (With an_exp) (With a_locals) (With an_open) (With an_operand) (With a_rhs) (With a_where) (With an_alt_guard) (With an_alt_item) (With an_alts) (With a_decl_item) (With a_decls) (With a_guard) (With a_next_operand) (With an_operand_list) (With a_part) (With a_redef) (With a_redef_item) (With a_redefs)) → redefs_trees y ≡ x → Known (a_redefs (roll-Redefs x))
redefs_layer x y is = step (a_redefs (roll-Redefs x)) (subst AllKnown (ap redefs_children (is ∙ sym (out-roll-Redefs x))) (redefs_each y))

pub rhs_known : (x : Rhs) → Known (a_rhs x)
rhs_known = ind-Rhs (λ x. Known (an_aexp x)) (λ x. Known (an_alt x)) (λ x. Known (a_decl x)) (λ x. Known (an_exp x)) (λ x. Known (a_locals x)) (λ x. Known (an_open x)) (λ x. Known (an_operand x)) (λ x. Known (a_rhs x)) (λ x. Known (a_where x)) (λ x. Known (an_alt_guard x)) (λ x. Known (an_alt_item x)) (λ x. Known (an_alts x)) (λ x. Known (a_decl_item x)) (λ x. Known (a_decls x)) (λ x. Known (a_guard x)) (λ x. Known (a_next_operand x)) (λ x. Known (an_operand_list x)) (λ x. Known (a_part x)) (λ x. Known (a_redef x)) (λ x. Known (a_redef_item x)) (λ x. Known (a_redefs x)) aexp_layer alt_layer decl_layer exp_layer locals_layer open_layer operand_layer rhs_layer where_layer alt_guard_layer alt_item_layer alts_layer decl_item_layer decls_layer guard_layer next_operand_layer operands_layer part_layer redef_layer redef_item_layer redefs_layer

pub decl_known : (x : Decl) → Known (a_decl x)
decl_known = ind-Decl (λ x. Known (an_aexp x)) (λ x. Known (an_alt x)) (λ x. Known (a_decl x)) (λ x. Known (an_exp x)) (λ x. Known (a_locals x)) (λ x. Known (an_open x)) (λ x. Known (an_operand x)) (λ x. Known (a_rhs x)) (λ x. Known (a_where x)) (λ x. Known (an_alt_guard x)) (λ x. Known (an_alt_item x)) (λ x. Known (an_alts x)) (λ x. Known (a_decl_item x)) (λ x. Known (a_decls x)) (λ x. Known (a_guard x)) (λ x. Known (a_next_operand x)) (λ x. Known (an_operand_list x)) (λ x. Known (a_part x)) (λ x. Known (a_redef x)) (λ x. Known (a_redef_item x)) (λ x. Known (a_redefs x)) aexp_layer alt_layer decl_layer exp_layer locals_layer open_layer operand_layer rhs_layer where_layer alt_guard_layer alt_item_layer alts_layer decl_item_layer decls_layer guard_layer next_operand_layer operands_layer part_layer redef_layer redef_item_layer redefs_layer
