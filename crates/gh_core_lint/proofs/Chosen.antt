-- The constructors of a scrutinee's datatype.
use Rattle.std.proofs.Common.{◌≡◌, List, [], map, Option, Some, None, sym, ap, subst, ◌∙◌, inl, inr}
use Rattle.std.specs.Prelude.{option_map}
use Rattle.gh_base.specs.declared.place.Origin.{Origin}
use Rattle.gh_base.specs.declared.place.TyCon.{TyCon}
use Rattle.gh_typeterm.specs.declared.decl.DeclCon.{DeclCon}
use Rattle.gh_typeterm.specs.declared.decl.DeclData.{DeclData}
use Rattle.gh_core.specs.SameType.{Nameless, con}
use Rattle.gh_core.specs.Typing.{Program, IsData, IsScrutinee, con_of, decl_of, decl_origin, fields_at}
use Rattle.gh_core_lint.specs.declared.types.Node.{Node}
use Rattle.gh_core_lint.specs.Branches.{IsChosen}
use Rattle.gh_core_lint.specs.Data.{con_name, head_of, named_head}
use Rattle.gh_core_lint.specs.Faults.{AreFields}
use Rattle.gh_core_lint.specs.Tables.{pair_at}
use Rattle.gh_core_lint.specs.Types.{type_at}
use Rattle.gh_core_lint.proofs.Applied.{some_is, none_some, data_same, data_unnamed}
use denote.Bor.{Bor}

-- a constructor of the datatype
pub chosen_here : (p : Program) (s : Nameless) (c : Origin) (r : Option (Bor DeclData × Bor DeclCon)) (d : Bor DeclData) (k : Bor DeclCon) (o : DeclData) (args : Bor (List Node))
    → option_map pair_at r ≡ con_of p.decls c → r ≡ Some (d, k) → ((q : DeclData × DeclCon) → con_of p.decls c ≡ Some q → decl_of p.decls q.0.origin ≡ Some q.0)
    → IsData p.decls s o (map type_at args.now) → d.now.origin ≡ o.origin → IsChosen p s c (Some (d, k, args))
chosen_here p s c r d k o args h is own typed e =
    let at : con_of p.decls c ≡ Some (d.now, k.now) = sym h ∙ ap (option_map pair_at) is in
    let same : o ≡ d.now = some_is (decl_of p.decls o.origin) o d.now typed.there (ap (decl_of p.decls) (sym e) ∙ own (d.now, k.now) at) in
    (at, subst (λ (x : DeclData). IsData p.decls s x (map type_at args.now)) same typed)

pub chosen_elsewhere : (p : Program) (s : Nameless) (c : Origin) (r : Option (Bor DeclData × Bor DeclCon)) (d : Bor DeclData) (k : Bor DeclCon) (o : DeclData) (ts : List Nameless)
    → option_map pair_at r ≡ con_of p.decls c → r ≡ Some (d, k) → IsData p.decls s o ts → (d.now.origin ≡ o.origin → ⊥) → IsChosen p s c None
chosen_elsewhere p s c r d k o ts h is typed ne =
    λ q us at w.
    let f : (d.now, k.now) ≡ q = some_is (con_of p.decls c) (d.now, k.now) q (sym h ∙ ap (option_map pair_at) is) at in
    let g : d.now ≡ q.0 = (λ i. (f i).0) in
    ne (ap decl_origin (g ∙ sym (data_same p.decls s o q.0 ts us typed w).0))

pub chosen_unknown : (p : Program) (s : Nameless) (c : Origin) (r : Option (Bor DeclData × Bor DeclCon)) → option_map pair_at r ≡ con_of p.decls c → r ≡ None → IsChosen p s c None
chosen_unknown p s c r h is = λ q us at w. none_some (con_of p.decls c) q (sym h ∙ ap (option_map pair_at) is) at

-- no constructor is one of a scrutinee that is of no datatype
pub chosen_plain : (p : Program) (s : Nameless) (c : Origin) (k : TyCon) → s ≡ con k → con_name k ≡ None → IsChosen p s c None
chosen_plain p s c k is n = λ q us at w. data_unnamed p.decls s (ap (λ t. named_head (head_of t)) is ∙ n) q.0 us w

pub chosen_none : (p : Program) (s : Nameless) (c : Origin) → (IsScrutinee p.decls s → ⊥) → IsChosen p s c None
chosen_none p s c h = λ q us at w. h (inl (q.0, us, w))

pub fields_chosen : (p : Program) (s : Nameless) (c : Origin) (o : Option (Bor DeclData × Bor DeclCon × Bor (List Node))) (d : Bor DeclData) (k : Bor DeclCon) (args : Bor (List Node)) (us : List Nameless)
    → IsChosen p s c o → o ≡ Some (d, k, args) → us ≡ fields_at (d.now, k.now) (map type_at args.now) → AreFields p s c us
fields_chosen p s c o d k args us h is e =
    let g = subst (IsChosen p s c) is h in
    inl ((d.now, k.now), map type_at args.now, g.0, g.1, e)

pub fields_none : (p : Program) (s : Nameless) (c : Origin) (o : Option (Bor DeclData × Bor DeclCon × Bor (List Node))) (us : List Nameless)
    → IsChosen p s c o → o ≡ None → us ≡ [] → AreFields p s c us
fields_none p s c o us h is e = inr (subst (IsChosen p s c) is h, e)
