-- A file's tree is cut into its header and its items.
use Rattle.std.proofs.Common.{◌≡◌, List, [], ◌∷◌, ◌++◌, map, Option, Some, None, refl, ap, ◌∙◌, append-nil, append_assoc}
use Rattle.gh_tree.specs.declared.symbol.Sym.{Sym}
use Rattle.gh_tree.specs.declared.names.BlockMark.{BlockMark}
use Rattle.gh_tree.specs.declared.names.Name.{Name}
use Rattle.gh_tree.specs.declared.module_tree.Item.{Item}
use Rattle.gh_tree.specs.declared.module_tree.Item.TheVariants as v_Item
use Rattle.gh_tree.specs.declared.module_tree.NextItem.{NextItem}
use Rattle.gh_tree.specs.declared.tops.Constr.{Constr}
use Rattle.gh_tree.specs.declared.tops.Constr.TheVariants as v_Constr
use Rattle.gh_tree.specs.declared.tops.Context.{Context}
use Rattle.gh_tree.specs.declared.tops.Dep.{Dep}
use Rattle.gh_tree.specs.declared.tops.Deps.{Deps}
use Rattle.gh_tree.specs.declared.tops.GenVars.{GenVars}
use Rattle.gh_tree.specs.declared.tops.NextConstr.{NextConstr}
use Rattle.gh_tree.specs.declared.tops.NextDep.{NextDep}
use Rattle.gh_tree.specs.declared.tops.OtherVars.{OtherVars}
use Rattle.gh_tree.specs.declared.tops.Top.{Top}
use Rattle.gh_tree.specs.declared.tops.Top.TheVariants as v_Top
use Rattle.gh_tree.specs.Items.{TopItem, ended, body_step, body_items, top_step, top_items}
use Rattle.gh_tree.specs.Print.{flat_all, arg_type, arg_pattern, next_name, tyvars, other_vars, gen_vars, dep, next_dep, dep_list, deps, context, constr, next_constr, top, item, next_item, header, block_open, block_semi, block_close}
use Rattle.gh_tree.specs.TreeItems.{printed_item, HaveTheirItems}
use Rattle.gh_tree.proofs.Braces.{Bare, Whole, bare_none, bare_token, bare_append, bare_all, whole, whole_token, whole_append, fronts, fronts_ended, open_opens, semi_parts, close_closes}
use Rattle.gh_tree.proofs.BareNames.{bare_var, bare_con, bare_con_op, bare_next_name, bare_header, bare_import}
use Rattle.gh_tree.proofs.BareTypes.{bare_arg_type, bare_btype, bare_type_expr}
use Rattle.gh_tree.proofs.BarePatterns.{bare_arg_pattern}
use Rattle.gh_tree.proofs.WholeBlocks.{whole_rhs, whole_decl}

bare_tyvars : (ns : List Name) → Bare (tyvars ns).flat
bare_tyvars [] = bare_none
bare_tyvars (n ∷ ns) = bare_token refl (bare_tyvars ns)

bare_other_vars : (x : Option OtherVars) → Bare (other_vars x).flat
bare_other_vars None = bare_none
bare_other_vars (Some x) = bare_token refl (bare_token refl (bare_all next_name bare_next_name x.others))

bare_gen_vars : (x : GenVars) → Bare (gen_vars x).flat
bare_gen_vars x = bare_token refl (bare_token refl (bare_append (bare_all next_name bare_next_name x.others) (bare_append (bare_other_vars x.rest) (bare_token refl bare_none))))

bare_dep : (x : Dep) → Bare (dep x).flat
bare_dep x = bare_append (bare_var x.function) (bare_gen_vars x.vars)

bare_next_dep : (x : NextDep) → Bare (next_dep x).flat
bare_next_dep x = bare_token refl (bare_dep x.dep)

bare_dep_list : (x : Option Dep) (xs : List NextDep) → Bare (dep_list x xs).flat
bare_dep_list None xs = bare_all next_dep bare_next_dep xs
bare_dep_list (Some x) xs = bare_append (bare_dep x) (bare_all next_dep bare_next_dep xs)

bare_deps : (x : Deps) → Bare (deps x).flat
bare_deps x = bare_token refl (bare_append (bare_dep_list x.first x.others) (bare_token refl bare_none))

bare_context : (x : Option Context) → Bare (context x).flat
bare_context None = bare_none
bare_context (Some x) = bare_append (bare_deps x.deps) (bare_token refl bare_none)

bare_constr : (x : Constr) → Bare (constr x).flat
bare_constr (v_Constr.Prefix s c ts) = bare_append (bare_con c) (bare_all arg_type bare_arg_type ts)
bare_constr (v_Constr.Infix s l o r) = bare_append (bare_btype l) (bare_append (bare_con_op o) (bare_btype r))

bare_next_constr : (x : NextConstr) → Bare (next_constr x).flat
bare_next_constr x = bare_token refl (bare_constr x.constr)

whole_top : (x : Top) → Whole (top x).flat
whole_top (v_Top.Synonym s a n ps m t) = whole (bare_token refl (bare_token refl (bare_append (bare_tyvars ps) (bare_token refl (bare_type_expr t)))))
whole_top (v_Top.Data s a n ps m c cs) = whole (bare_token refl (bare_token refl (bare_append (bare_tyvars ps) (bare_token refl (bare_append (bare_constr c) (bare_all next_constr bare_next_constr cs))))))
whole_top (v_Top.Newtype s a n ps m c t) = whole (bare_token refl (bare_token refl (bare_append (bare_tyvars ps) (bare_token refl (bare_append (bare_con c) (bare_arg_type t))))))
whole_top (v_Top.Signature s v vs m c t) = whole (bare_append (bare_var v) (bare_append (bare_gen_vars vs) (bare_token refl (bare_append (bare_context c) (bare_type_expr t)))))
whole_top (v_Top.Case s v a t b ps r) = whole_append (whole (bare_var v)) (whole_token refl (whole_append (whole (bare_type_expr t)) (whole_token refl (whole_append (whole (bare_all arg_pattern bare_arg_pattern ps)) (whole_rhs r)))))
whole_top (v_Top.Extends s v m w) = whole (bare_append (bare_var v) (bare_token refl (bare_var w)))
whole_top (v_Top.Decl d) = whole_decl d

pub whole_item : (x : Item) → Whole (item x).flat
whole_item v_Item.Empty = whole bare_none
whole_item (v_Item.Import x) = whole (bare_import x)
whole_item (v_Item.Top x) = whole_top x

-- an item, and what ends it
item_then : (x : Item) (rest : List Sym) (is : List TopItem) → body_items rest 0 ≡ ended [] ∷ is → body_items ((item x).flat ++ rest) 0 ≡ printed_item x ∷ is
item_then x rest is e =
    (whole_item x).passed rest 0 ∙ ap (fronts (item x).flat) e ∙ fronts_ended (item x).flat [] is ∙ ap (λ ss. ended ss ∷ is) (append-nil (item x).flat)

-- what stands behind the first item
others_items : (xs : List NextItem) (b : BlockMark) → body_items (flat_all (map next_item xs) ++ block_close b ∷ []) 0 ≡ ended [] ∷ map (λ x. printed_item x.item) xs
others_items [] b = ap (λ u. body_step u (block_close b) [] (body_items []) 0) (close_closes b)
others_items (x ∷ xs) b =
    let tail : List Sym = flat_all (map next_item xs) ++ block_close b ∷ [] in
    let whole_tail : List Sym = ((item x.item).flat ++ flat_all (map next_item xs)) ++ block_close b ∷ [] in
    ap (λ u. body_step u (block_semi x.mark) whole_tail (body_items whole_tail) 0) (semi_parts x.mark)
    ∙ ap (λ is. ended [] ∷ is) (ap (λ ss. body_items ss 0) (append_assoc (item x.item).flat (flat_all (map next_item xs)) (block_close b ∷ []))
    ∙ item_then x.item tail _ (others_items xs b))

pub have_their_items : HaveTheirItems
have_their_items t =
    let rest : List Sym = flat_all (map next_item t.others) ++ block_close t.close ∷ [] in
    let body : List Sym = (item t.first).flat ++ rest in
    let items : List TopItem = printed_item t.first ∷ map (λ x. printed_item x.item) t.others in
    (bare_header t.header).before_body (block_open t.open ∷ body)
    ∙ ap (λ u. fronts (header t.header).flat (top_step u (block_open t.open) body (top_items body))) (open_opens t.open)
    ∙ ap (λ is. fronts (header t.header).flat (ended [] ∷ is)) (item_then t.first rest _ (others_items t.others t.close))
    ∙ fronts_ended (header t.header).flat [] items ∙ ap (λ ss. ended ss ∷ items) (append-nil (header t.header).flat)
