-- What is typed under the exact rule is typed without it.
use Rattle.std.proofs.Common.{◌≡◌, ℕ, suc, ◌+◌, ◌-◌, List, [], ◌∷◌, map, Option, Some, None}
use Rattle.gh_typeterm.specs.declared.kind.Kind.{Kind}
use Rattle.gh_kernel.specs.declared.functions.GenFun.{GenFun}
use Rattle.gh_kernel.specs.declared.signatures.Signed.{Signed}
use Rattle.gh_kernel.specs.Modules.{Top, Clause, Module, member, all_of, group_nodes, cases_nodes, case_parameters, case_others, parameters, module_scope, TopsTyped, CaseTyped, CasesTyped, ModulesTyped}
use Rattle.gh_kernel.specs.Modules as modules
use Rattle.gh_kernel.specs.Nodes.{pat_nodes, pats_nodes, nodes, all_nodes, binds_nodes, groups_nodes, rows_nodes, bodies_nodes, table_nodes}
use Rattle.gh_kernel.specs.Terms.{Pat, pvar, pwild, pcon, plit, pstring, pas, Pats, no_pat, pat, Expr, var, top, con, lit, string, lam, app, lets, cases, call, redef, ann, whole, contents, convert, Exprs, no_expr, expr, Binds, no_bind, bind, Groups, no_group, group, Rows, no_row, row, Bodies, no_body, always, guarded, Table, no_entry, entry}
use Rattle.gh_kernel.specs.Types.{Given, Bound, local, monomorphic, Scope, TypeNames, function_among, primitive_scope}
use Rattle.gh_kernel.specs.Typing.{Typed, full, full_exact, Member, members, IsTyped, AllTyped, TableTyped, BindsTyped, GroupsTyped, BodiesTyped, RowsTyped, PatTyped, PatsTyped, Closes, signed_in, unsigned_in, all_members, let_scope, pats_scope, with_name, inside, outside}
use Rattle.gh_kernel.specs.TypingLaws.{ExactIsFull}

module _ (G : Given) (κ : ℕ → Kind) where
  closes_head : (Γ : Scope) (Θ : TypeNames) (o : Option Signed) (x : Bound) (n : Typed)
      → Closes full_exact G κ Γ Θ (record { name = x; signature = o; note = n } ∷ []) → Closes full G κ Γ Θ (record { name = x; signature = o; note = n } ∷ [])
  closes_head Γ Θ None x n h = ((h.0.0, h.0.1, tt), tt)
  closes_head Γ Θ (Some s) x n h = (tt, tt)

  closes : (Γ : Scope) (Θ : TypeNames) (ms : List Member) → Closes full_exact G κ Γ Θ ms → Closes full G κ Γ Θ ms
  closes Γ Θ [] h = tt
  closes Γ Θ (m ∷ ms) h = ((closes_head Γ Θ m.signature m.name m.note (h.0, tt)).0, closes Γ Θ ms h.1)

  mutual
    pat_typed : (n : ℕ) (p : Pat Typed) → PatTyped full_exact G κ n p → PatTyped full G κ n p
    pat_typed n (pvar m x) h = h
    pat_typed n (pwild m) h = h
    pat_typed n (pcon m c ps) h = (pats_typed n ps h.0, h.1)
    pat_typed n (plit m l) h = h
    pat_typed n (pstring m cs) h = h
    pat_typed n (pas m x p) h = (pat_typed n p h.0, h.1)

    pats_typed : (n : ℕ) (ps : Pats Typed) → PatsTyped full_exact G κ n ps → PatsTyped full G κ n ps
    pats_typed n no_pat h = tt
    pats_typed n (pat p rest) h = (pat_typed n p h.0, pats_typed (n - pat_nodes p) rest h.1)

  mutual
    pub typed : (n : ℕ) (Γ : Scope) (Θ : TypeNames) (e : Expr Typed) → IsTyped full_exact G κ n Γ Θ e → IsTyped full G κ n Γ Θ e
    typed n Γ Θ (var m x) h = h
    typed n Γ Θ (top m x) h = h
    typed n Γ Θ (con m c) h = h
    typed n Γ Θ (lit m l) h = h
    typed n Γ Θ (string m cs) h = h
    typed n Γ Θ (lam m x body) h = (h.0, h.1, typed n ((local x, monomorphic h.0) ∷ Γ) Θ body h.2, h.3)
    typed n Γ Θ (app m f e) h = (typed n Γ Θ f h.0, typed (n - nodes f) Γ Θ e h.1, h.2)
    typed n Γ Θ (lets m gs body) h =
        (groups_typed n (signed_in (all_members gs) Γ) Θ gs h.0, typed (n - groups_nodes gs) (let_scope full G κ gs Γ) Θ body h.1, h.2)
    typed n Γ Θ (cases m es rows) h = (all_typed n Γ Θ es h.0, rows_typed (n - all_nodes es) Γ Θ rows h.1, h.2)
    typed n Γ Θ (call m w t) h = h
    typed n Γ Θ (redef m k text table body) h =
        (h.0, h.1, h.2, table_typed n Γ Θ table h.3, typed (n - table_nodes table) Γ (with_name k h.0 Θ) body h.4, h.5)
    typed n Γ Θ (ann m e s) h = (typed n Γ Θ e h.0, h.1)
    typed n Γ Θ (whole e) h = h
    typed n Γ Θ (contents c e) h = h
    typed n Γ Θ (convert m d c generic t) h = h

    all_typed : (n : ℕ) (Γ : Scope) (Θ : TypeNames) (es : Exprs Typed) → AllTyped full_exact G κ n Γ Θ es → AllTyped full G κ n Γ Θ es
    all_typed n Γ Θ no_expr h = tt
    all_typed n Γ Θ (expr e rest) h = (typed n Γ Θ e h.0, all_typed (n - nodes e) Γ Θ rest h.1)

    table_typed : (n : ℕ) (Γ : Scope) (Θ : TypeNames) (table : Table Typed) → TableTyped full_exact G κ n Γ Θ table → TableTyped full G κ n Γ Θ table
    table_typed n Γ Θ no_entry h = tt
    table_typed n Γ Θ (entry w place e rest) h = (typed n Γ Θ e h.0, table_typed (n - nodes e) Γ Θ rest h.1)

    binds_typed : (n : ℕ) (Γ : Scope) (Θ : TypeNames) (bs : Binds Typed) → BindsTyped full_exact G κ n Γ Θ bs → BindsTyped full G κ n Γ Θ bs
    binds_typed n Γ Θ no_bind h = tt
    binds_typed n Γ Θ (bind m x s e rest) h = (h.0, typed n Γ Θ e h.1, h.2, binds_typed (n - suc (nodes e)) Γ Θ rest h.3)

    groups_typed : (n : ℕ) (Γ : Scope) (Θ : TypeNames) (gs : Groups Typed) → GroupsTyped full_exact G κ n Γ Θ gs → GroupsTyped full G κ n Γ Θ gs
    groups_typed n Γ Θ no_group h = tt
    groups_typed n Γ Θ (group bs rest) h = (
      binds_typed n (unsigned_in inside (members bs) Γ) Θ bs h.0,
      closes Γ Θ (members bs) h.1,
      groups_typed (n - binds_nodes bs) (unsigned_in (outside full G κ) (members bs) Γ) Θ rest h.2,
    )

    bodies_typed : (n : ℕ) (Γ : Scope) (Θ : TypeNames) (bs : Bodies Typed) → BodiesTyped full_exact G κ n Γ Θ bs → BodiesTyped full G κ n Γ Θ bs
    bodies_typed n Γ Θ no_body h = tt
    bodies_typed n Γ Θ (always e rest) h = (typed n Γ Θ e h.0, bodies_typed (n - nodes e) Γ Θ rest h.1)
    bodies_typed n Γ Θ (guarded g e rest) h =
        (typed n Γ Θ g h.0, typed (n - nodes g) Γ Θ e h.1, bodies_typed (n - (nodes g + nodes e)) Γ Θ rest h.2)

    rows_typed : (n : ℕ) (Γ : Scope) (Θ : TypeNames) (rows : Rows Typed) → RowsTyped full_exact G κ n Γ Θ rows → RowsTyped full G κ n Γ Θ rows
    rows_typed n Γ Θ no_row h = tt
    rows_typed n Γ Θ (row ps gs bs rest) h = (
      pats_typed n ps h.0,
      groups_typed (n - pats_nodes ps) (signed_in (all_members gs) (pats_scope ps Γ)) Θ gs h.1,
      bodies_typed (n - (pats_nodes ps + groups_nodes gs)) (let_scope full G κ gs (pats_scope ps Γ)) Θ bs h.2,
      rows_typed (n - (pats_nodes ps + groups_nodes gs + bodies_nodes bs)) Γ Θ rest h.3,
    )

module _ (G : Given) where
  tops : (κ : ℕ → Kind) (n : ℕ) (Γ : Scope) (bs : List (Top Typed)) → TopsTyped full_exact G κ n Γ bs → TopsTyped full G κ n Γ bs
  tops κ n Γ [] h = tt
  tops κ n Γ (b ∷ bs) h = (h.0, typed G κ n Γ (λ k. None) b.body h.1, h.2, tops κ (n - suc (nodes b.body)) Γ bs h.3)

  top_groups : (κ : ℕ → Kind) (n : ℕ) (Γ : Scope) (gs : List (List (Top Typed))) → modules.GroupsTyped full_exact G κ n Γ gs → modules.GroupsTyped full G κ n Γ gs
  top_groups κ n Γ [] h = tt
  top_groups κ n Γ (g ∷ gs) h = (
    tops κ n (unsigned_in inside (map member g) Γ) g h.0,
    closes G κ Γ (λ k. None) (map member g) h.1,
    top_groups κ (n - group_nodes g) (unsigned_in (outside full G κ) (map member g) Γ) gs h.2,
  )

  one_case : (κ : ℕ → Kind) (n : ℕ) (Γ : Scope) (f : Option GenFun) (c : Clause Typed) → CaseTyped full_exact G κ n Γ f c → CaseTyped full G κ n Γ f c
  one_case κ n Γ None c h = h
  one_case κ n Γ (Some f) c h = (
    h.0,
    h.1,
    (
      record { kinds = h.2.0.kinds; others_kinds = h.2.0.others_kinds; fresh = h.2.0.fresh },
      typed G h.0 n Γ (parameters (case_parameters f c) (case_others f c)) c.body h.2.1,
      h.2.2,
    ),
  )

  all_cases : (κ : ℕ → Kind) (n : ℕ) (Γ : Scope) (cs : List (Clause Typed)) → CasesTyped full_exact G κ n Γ cs → CasesTyped full G κ n Γ cs
  all_cases κ n Γ [] h = tt
  all_cases κ n Γ (c ∷ cs) h = (one_case κ n Γ (function_among G.functions c.function) c h.0, all_cases κ (n - nodes c.body) Γ cs h.1)

  all_modules : (κ : ℕ → Kind) (n : ℕ) (Γ : Scope) (ms : List (Module Typed)) → ModulesTyped full_exact G κ n Γ ms → ModulesTyped full G κ n Γ ms
  all_modules κ n Γ [] h = tt
  all_modules κ n Γ (m ∷ ms) h = (
    top_groups κ n (signed_in (all_of m.groups) Γ) m.groups h.0,
    all_cases κ (n - modules.groups_nodes m.groups) (module_scope full G κ m Γ) m.cases h.1,
    all_modules κ (n - (modules.groups_nodes m.groups + cases_nodes m.cases)) (module_scope full G κ m Γ) ms h.2,
  )

pub exact_is_full : ExactIsFull
exact_is_full G n ms h = (h.0, all_modules G h.0 n primitive_scope ms h.1)
