-- Most general full typings (Damas and Milner's principal types, of a whole program): every full typing of the same text is an
-- instance.
use Rattle.std.specs.Prelude.{◌≡◌, ℕ, List, [], ◌∷◌, ◌++◌, map, Option, Some, None, All}
use Rattle.gh_base.specs.declared.place.Span.{Span}
use Rattle.gh_unify.specs.Types as ty
use Rattle.gh_unify.specs.Types.{Mono, Val, inst}
use Rattle.gh_kernel.specs.declared.functions.GenFun.{GenFun}
use Rattle.gh_kernel.specs.Modules.{Top, Clause, Module, noted_module, all_nodes, case_variables, IsTyping, IsFullTyping}
use Rattle.gh_kernel.specs.Nodes.{noted}
use Rattle.gh_kernel.specs.Terms.{Expr, var, top, con, lit, string, lam, app, lets, cases, call, redef, ann, whole, contents, convert, Exprs, no_expr, expr, Binds, no_bind, bind, Groups, no_group, group, Rows, no_row, row, Bodies, no_body, always, guarded, Table, no_entry, entry}
use Rattle.gh_kernel.specs.Types.{Given, function_among}
use Rattle.gh_kernel.specs.Typing.{Typed, full_exact}

-- what is noted beside the types of nodes and does not follow from these: of each generic call the types of the non-generic
-- variables, of each redefinition the types of its name and those that it fixes
abbrev mutual
  pub chosen : Expr Typed → List Mono
  chosen (var n x) = []
  chosen (top n x) = []
  chosen (con n c) = []
  chosen (lit n l) = []
  chosen (string n cs) = []
  chosen (lam n x body) = chosen body
  chosen (app n f e) = chosen f ++ chosen e
  chosen (lets n gs body) = groups_chosen gs ++ chosen body
  chosen (cases n es rows) = all_chosen es ++ rows_chosen rows
  chosen (call n w t) = n.at
  chosen (redef n k text table body) = table_chosen table ++ chosen body ++ n.at
  chosen (ann n e s) = chosen e
  chosen (whole e) = chosen e
  chosen (contents c e) = chosen e
  chosen (convert n d h generic t) = []

  pub all_chosen : Exprs Typed → List Mono
  all_chosen no_expr = []
  all_chosen (expr e rest) = chosen e ++ all_chosen rest

  pub binds_chosen : Binds Typed → List Mono
  binds_chosen no_bind = []
  binds_chosen (bind n x s e rest) = chosen e ++ binds_chosen rest

  pub groups_chosen : Groups Typed → List Mono
  groups_chosen no_group = []
  groups_chosen (group bs rest) = binds_chosen bs ++ groups_chosen rest

  pub rows_chosen : Rows Typed → List Mono
  rows_chosen no_row = []
  rows_chosen (row ps gs bs rest) = groups_chosen gs ++ bodies_chosen bs ++ rows_chosen rest

  pub bodies_chosen : Bodies Typed → List Mono
  bodies_chosen no_body = []
  bodies_chosen (always e rest) = chosen e ++ bodies_chosen rest
  bodies_chosen (guarded g e rest) = chosen g ++ chosen e ++ bodies_chosen rest

  pub table_chosen : Table Typed → List Mono
  table_chosen no_entry = []
  table_chosen (entry w place e rest) = chosen e ++ table_chosen rest

-- one typed term is another one under a valuation: the types of all nodes and bindings are, and what was chosen
abbrev pub IsInstanceBy : Val → Expr Typed → Expr Typed → Type 0
IsInstanceBy τ general e = (noted (λ (m : Typed). inst τ m.ty) general ≡ noted (λ (m : Typed). m.ty) e) × (map (inst τ) (chosen general) ≡ chosen e)

abbrev pub AreInstancesBy : Val → List (Top Typed) → List (Top Typed) → Type 0
AreInstancesBy τ [] [] = Unit {0}
AreInstancesBy τ [] (c ∷ cs) = ⊥
AreInstancesBy τ (b ∷ bs) [] = ⊥
AreInstancesBy τ (b ∷ bs) (c ∷ cs) = (inst τ b.note.ty ≡ c.note.ty) × IsInstanceBy τ b.body c.body × AreInstancesBy τ bs cs

-- each group of the top level by itself: one valuation for all its members and all that stands in them, so one number may
-- stand for different types in different groups
abbrev pub GroupsInstances : List (List (Top Typed)) → List (List (Top Typed)) → Type 0
GroupsInstances [] [] = Unit {0}
GroupsInstances [] (h ∷ hs) = ⊥
GroupsInstances (g ∷ gs) [] = ⊥
GroupsInstances (g ∷ gs) (h ∷ hs) = ((τ : Val) × AreInstancesBy τ g h) × GroupsInstances gs hs

-- the text of a typing
abbrev pub text_typed : List (Module Typed) → List (Module Span)
text_typed typed = map (noted_module (λ (t : Typed). t.span)) typed

module _ (G : Given) where
  abbrev pub rigid_in : Option GenFun → Clause Typed → List ℕ
  rigid_in None c = []
  rigid_in (Some f) c = case_variables f c

  -- each case by itself, where its rigid variables stand for themselves
  abbrev pub CasesInstances : List (Clause Typed) → List (Clause Typed) → Type 0
  CasesInstances [] [] = Unit {0}
  CasesInstances [] (d ∷ ds) = ⊥
  CasesInstances (c ∷ cs) [] = ⊥
  CasesInstances (c ∷ cs) (d ∷ ds) =
      ((τ : Val) × All (λ v. τ v ≡ ty.var v) (rigid_in (function_among G.functions c.function) c) × IsInstanceBy τ c.body d.body)
      × CasesInstances cs ds

  abbrev pub ModulesInstances : List (Module Typed) → List (Module Typed) → Type 0
  ModulesInstances [] [] = Unit {0}
  ModulesInstances [] (n ∷ ns) = ⊥
  ModulesInstances (m ∷ ms) [] = ⊥
  ModulesInstances (m ∷ ms) (n ∷ ns) = GroupsInstances m.groups n.groups × CasesInstances m.cases n.cases × ModulesInstances ms ns

  -- a full typing in which each member without a signature quantifies all that it may, and of which every full typing of the
  -- text is an instance. Two groups inside one binding of the top level share its valuation: where they use one number for
  -- types that have nothing to do with one another, the typing is not a most general one
  pub record IsMostGeneral (typed : List (Module Typed)) : Type 0 where
    pub exact : IsTyping full_exact G (all_nodes typed) typed
    pub general : (other : List (Module Typed)) → text_typed other ≡ text_typed typed → IsFullTyping G other → ModulesInstances typed other
