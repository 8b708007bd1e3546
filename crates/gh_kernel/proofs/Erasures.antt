-- The text that stands for an erased term is the text without notes.
use Rattle.std.proofs.Common.{◌≡◌, ℕ, List, [], ◌∷◌, map, Option, Some, None, refl, sym, ap, ◌∙◌, subst}
use Rattle.gh_base.specs.declared.names.NameId.{NameId}
use Rattle.gh_base.specs.declared.place.Origin.{Origin}
use Rattle.gh_base.specs.declared.place.Span.{Span}
use Rattle.gh_typeterm.specs.declared.ty.TyNode.{TyNode}
use Rattle.gh_typeterm.proofs.Folds.{fold-Con, fold-Var, fold-App, fold-Name, term_induction}
use Rattle.gh_kernel.specs.declared.names.Lit.{Lit}
use Rattle.gh_kernel.specs.declared.names.Lit.TheVariants.{Int, Char, Str}
use Rattle.gh_kernel.specs.declared.names.VarName.{VarName}
use Rattle.gh_kernel.specs.declared.names.VarName.TheVariants.{Local, Top}
use Rattle.gh_kernel.specs.declared.patterns.Pattern.{Pattern, map-Pattern, ind-Pattern, roll-Pattern, fold-roll-Pattern}
use Rattle.gh_kernel.specs.declared.patterns.PatternNode.{PatternNode, map-PatternNode, roll-PatternNode, fold-roll-PatternNode}
use Rattle.gh_kernel.specs.declared.patterns.PatternNode.TheOpen.{Pattern-F, PatternNode-F}
use Rattle.gh_kernel.specs.declared.patterns.PatternNode.TheVariants as p
use Rattle.gh_kernel.specs.declared.terms.LocalBinding.{LocalBinding, map-LocalBinding, roll-LocalBinding, fold-roll-LocalBinding}
use Rattle.gh_kernel.specs.declared.terms.Row.{Row, map-Row, roll-Row, fold-roll-Row}
use Rattle.gh_kernel.specs.declared.terms.Term.{Term, map-Term, ind-Term, roll-Term, fold-roll-Term}
use Rattle.gh_kernel.specs.declared.terms.TermNode.{TermNode, map-TermNode, roll-TermNode, fold-roll-TermNode}
use Rattle.gh_kernel.specs.declared.terms.TermNode.TheOpen.{LocalBinding-F, Row-F, Term-F, TermNode-F}
use Rattle.gh_kernel.specs.declared.terms.TermNode.TheShapes.{former-Row-bodies, former-TermNode-Redef-2}
use Rattle.gh_kernel.specs.declared.terms.TermNode.TheVariants as t
use Rattle.gh_kernel.specs.Erase.{unit, erased, erased_binding, erased_node, erased_pattern, erased_pattern_node, erased_row, pattern_node_step, pattern_step, node_step, binding_step, row_step, term_step}
use Rattle.gh_kernel.specs.Nodes.{noted_pat, noted_pats, noted_type, noted, noted_all, noted_binds, noted_groups, noted_rows, noted_bodies, noted_table}
use Rattle.gh_kernel.specs.Read.{pattern_node_of, pattern_of-at, pattern-PVar, pattern-PCon, pattern-PLit, pattern-PAs, node_of, binding_of, row_of, term_of-at, binding_of-at, node-Var, node-Con, node-Lit, node-Lam, node-App, node-Let, node-Case, node-Call, node-Ann}
use Rattle.gh_kernel.specs.Reading.{pats_of, literal_pattern, pattern_node, pattern_read, pattern_of, patterns_of, exprs_of, binds_of, groups_of, rows_of, bodies_of, table_of, variable, literal, term_node, binding_read, row_read, term_read, term_of, type_of, type_step}
use Rattle.gh_kernel.specs.Terms.{Pat, pvar, pwild, pcon, pas, pat, TypeTerm, tyapp, Expr, con, lam, app, lets, cases, call, redef, ann, expr, Binds, bind, group, Rows, row, always, guarded, entry}

pattern_wild : pattern_node_of {A = unit} p.PWild tt ≡ pwild tt
pattern_wild = ap (λ q. pattern_node_of {A = unit} q tt) (sym p.rolls-PWild) ∙ ap (λ f. f tt) (fold-roll-PatternNode unit (unit → Pat unit) (Pat unit) pattern_node pattern_read PatternNode-F.PWild)

node_redef : (k : ℕ) (text : NameId) (ws : List (Origin × Span × Term unit)) (e : Term unit)
    → node_of (t.Redef k text ws e) tt ≡ redef tt k text (table_of ((former-TermNode-Redef-2 unit).map (Term unit) (Expr unit) term_of ws)) (term_of e)
node_redef k text ws e = ap (λ u. node_of u tt) (sym (t.rolls-Redef k text ws e))
    ∙ ap (λ f. f tt) (fold-roll-TermNode unit (unit → Expr unit) (Binds unit → Binds unit) (Rows unit → Rows unit) (Expr unit) term_node binding_read row_read term_read (TermNode-F.Redef k text ws e))

module _ (A : Type 0) where
  abbrev pub nothing : A → unit
  nothing n = tt

  -- patterns
  abbrev KeepsPatternNode : PatternNode A → Type 0
  KeepsPatternNode u = (n : A) → pattern_node_of (erased_pattern_node u) tt ≡ noted_pat nothing (pattern_node_of u n)

  abbrev KeepsPattern : Pattern A → Type 0
  KeepsPattern q = pattern_of (erased_pattern q) ≡ noted_pat nothing (pattern_of q)

  pattern_node_by : (F : PatternNode-F A (PatternNode A) (Pattern A)) (n : A) (u : PatternNode unit) (a : Pat unit) (b : Pat A)
      → erased_pattern_node (roll-PatternNode A F) ≡ u → pattern_node_of u tt ≡ a → pattern_node_of (roll-PatternNode A F) n ≡ b → a ≡ noted_pat nothing b
      → pattern_node_of (erased_pattern_node (roll-PatternNode A F)) tt ≡ noted_pat nothing (pattern_node_of (roll-PatternNode A F) n)
  pattern_node_by F n u a b e left right k = ap (λ v. pattern_node_of v tt) e ∙ left ∙ k ∙ sym (ap (noted_pat nothing) right)

  pattern_erased : (F : PatternNode-F A (PatternNode A) (Pattern A)) → erased_pattern_node (roll-PatternNode A F) ≡ pattern_node_step (map-PatternNode A (PatternNode A) (Pattern A) (PatternNode unit) (Pattern unit) erased_pattern_node erased_pattern F)
  pattern_erased F = fold-roll-PatternNode A (PatternNode unit) (Pattern unit) pattern_node_step pattern_step F

  pattern_read_at : (F : PatternNode-F A (PatternNode A) (Pattern A)) (n : A) → pattern_node_of (roll-PatternNode A F) n ≡ pattern_node (map-PatternNode A (PatternNode A) (Pattern A) (A → Pat A) (Pat A) pattern_node_of pattern_of F) n
  pattern_read_at F n = ap (λ f. f n) (fold-roll-PatternNode A (A → Pat A) (Pat A) pattern_node pattern_read F)

  literal_pattern_keeps : (l : Lit) (n : A) → literal_pattern l tt ≡ noted_pat nothing (literal_pattern l n)
  literal_pattern_keeps (Int i) n = refl
  literal_pattern_keeps (Char c) n = refl
  literal_pattern_keeps (Str cs) n = refl

  abbrev Kept : (X : Type 0) → (X → Type 0) → Type 0
  Kept X P = (x : X) × P x

  pats_keep : (y : List (Kept (Pattern A) KeepsPattern)) → pats_of (map pattern_of (map erased_pattern (map (λ e. e.0) y))) ≡ noted_pats nothing (pats_of (map pattern_of (map (λ e. e.0) y)))
  pats_keep [] = refl
  pats_keep (e ∷ y) = λ i. pat (e.1 i) (pats_keep y i)

  pattern_node_layer : (y : PatternNode-F A (Kept (PatternNode A) KeepsPatternNode) (Kept (Pattern A) KeepsPattern))
      → KeepsPatternNode (roll-PatternNode A (map-PatternNode A (Kept (PatternNode A) KeepsPatternNode) (Kept (Pattern A) KeepsPattern) (PatternNode A) (Pattern A) (λ e. e.0) (λ e. e.0) y))
  pattern_node_layer (PatternNode-F.PVar x) n =
      let F : PatternNode-F A (PatternNode A) (Pattern A) = PatternNode-F.PVar x in
      pattern_node_by F n (p.PVar x) (pvar tt x) (pvar n x) (pattern_erased F) (pattern-PVar x tt) (pattern_read_at F n) refl
  pattern_node_layer PatternNode-F.PWild n =
      let F : PatternNode-F A (PatternNode A) (Pattern A) = PatternNode-F.PWild in
      pattern_node_by F n p.PWild (pwild tt) (pwild n) (pattern_erased F) pattern_wild (pattern_read_at F n) refl
  pattern_node_layer (PatternNode-F.PCon c ps) n =
      let F : PatternNode-F A (PatternNode A) (Pattern A) = PatternNode-F.PCon c (map (λ e. e.0) ps) in
      pattern_node_by F n (p.PCon c (map erased_pattern (map (λ e. e.0) ps))) (pcon tt c (pats_of (map pattern_of (map erased_pattern (map (λ e. e.0) ps))))) (pcon n c (pats_of (map pattern_of (map (λ e. e.0) ps))))
      (pattern_erased F) (pattern-PCon c (map erased_pattern (map (λ e. e.0) ps)) tt) (pattern_read_at F n) (ap (pcon tt c) (pats_keep ps))
  pattern_node_layer (PatternNode-F.PLit l) n =
      let F : PatternNode-F A (PatternNode A) (Pattern A) = PatternNode-F.PLit l in
      pattern_node_by F n (p.PLit l) (literal_pattern l tt) (literal_pattern l n) (pattern_erased F) (pattern-PLit l tt) (pattern_read_at F n) (literal_pattern_keeps l n)
  pattern_node_layer (PatternNode-F.PAs x q) n =
      let F : PatternNode-F A (PatternNode A) (Pattern A) = PatternNode-F.PAs x q.0 in
      pattern_node_by F n (p.PAs x (erased_pattern q.0)) (pas tt x (pattern_of (erased_pattern q.0))) (pas n x (pattern_of q.0))
      (pattern_erased F) (pattern-PAs x (erased_pattern q.0) tt) (pattern_read_at F n) (ap (pas tt x) q.1)

  pattern_layer : (y : Pattern-F A (Kept (PatternNode A) KeepsPatternNode) (Kept (Pattern A) KeepsPattern))
      → KeepsPattern (roll-Pattern A (map-Pattern A (Kept (PatternNode A) KeepsPatternNode) (Kept (Pattern A) KeepsPattern) (PatternNode A) (Pattern A) (λ e. e.0) (λ e. e.0) y))
  pattern_layer y =
      let F : Pattern-F A (PatternNode A) (Pattern A) = record { node = y.node.0; note = y.note } in
      ap pattern_of (fold-roll-Pattern A (PatternNode unit) (Pattern unit) pattern_node_step pattern_step F)
      ∙ pattern_of-at (record { node = erased_pattern_node y.node.0; note = tt }) ∙ y.node.1 y.note
      ∙ sym (ap (noted_pat nothing) (pattern_of-at F))

  pub pattern_keeps : (q : Pattern A) → KeepsPattern q
  pattern_keeps q = ind-Pattern A KeepsPatternNode KeepsPattern (λ x y is. subst (λ z. KeepsPatternNode (roll-PatternNode A z)) is (pattern_node_layer y))
      (λ x y is. subst (λ z. KeepsPattern (roll-Pattern A z)) is (pattern_layer y)) q

  patterns_keep : (qs : List (Pattern A)) → patterns_of (map erased_pattern qs) ≡ noted_pats nothing (patterns_of qs)
  patterns_keep [] = refl
  patterns_keep (q ∷ qs) = λ i. pat (pattern_keeps q i) (patterns_keep qs i)

  -- types
  type_keeps : (i : TyNode) → type_of {N = unit} i ≡ noted_type nothing (type_of {N = A} i)
  type_keeps = term_induction (λ i. type_of {N = unit} i ≡ noted_type nothing (type_of {N = A} i))
      (λ c. fold-Con (TypeTerm unit) type_step c ∙ sym (ap (noted_type nothing) (fold-Con (TypeTerm A) type_step c)))
      (λ v. fold-Var (TypeTerm unit) type_step v ∙ sym (ap (noted_type nothing) (fold-Var (TypeTerm A) type_step v)))
      (λ f x h k. fold-App (TypeTerm unit) type_step f x ∙ (λ i. tyapp (h i) (k i)) ∙ sym (ap (noted_type nothing) (fold-App (TypeTerm A) type_step f x)))
      (λ k. fold-Name (TypeTerm unit) type_step k ∙ sym (ap (noted_type nothing) (fold-Name (TypeTerm A) type_step k)))

  -- terms
  abbrev KeepsNode : TermNode A → Type 0
  KeepsNode u = (n : A) → node_of (erased_node u) tt ≡ noted nothing (node_of u n)

  abbrev KeepsBinding : LocalBinding A → Type 0
  KeepsBinding b = (rest : Binds A) → binding_of (erased_binding b) (noted_binds nothing rest) ≡ noted_binds nothing (binding_of b rest)

  abbrev KeepsRow : Row A → Type 0
  KeepsRow r = (rest : Rows A) → row_of (erased_row r) (noted_rows nothing rest) ≡ noted_rows nothing (row_of r rest)

  abbrev KeepsTerm : Term A → Type 0
  KeepsTerm e = term_of (erased e) ≡ noted nothing (term_of e)

  abbrev KNode : Type 0
  KNode = Kept (TermNode A) KeepsNode

  abbrev KBinding : Type 0
  KBinding = Kept (LocalBinding A) KeepsBinding

  abbrev KRow : Type 0
  KRow = Kept (Row A) KeepsRow

  abbrev KTerm : Type 0
  KTerm = Kept (Term A) KeepsTerm

  abbrev Open : Type 0
  Open = TermNode-F A (TermNode A) (LocalBinding A) (Row A) (Term A)

  node_by : (F : Open) (n : A) (u : TermNode unit) (a : Expr unit) (b : Expr A)
      → erased_node (roll-TermNode A F) ≡ u → node_of u tt ≡ a → node_of (roll-TermNode A F) n ≡ b → a ≡ noted nothing b
      → node_of (erased_node (roll-TermNode A F)) tt ≡ noted nothing (node_of (roll-TermNode A F) n)
  node_by F n u a b e left right k = ap (λ v. node_of v tt) e ∙ left ∙ k ∙ sym (ap (noted nothing) right)

  node_erased : (F : Open) → erased_node (roll-TermNode A F) ≡ node_step (map-TermNode A (TermNode A) (LocalBinding A) (Row A) (Term A) (TermNode unit) (LocalBinding unit) (Row unit) (Term unit) erased_node erased_binding erased_row erased F)
  node_erased F = fold-roll-TermNode A (TermNode unit) (LocalBinding unit) (Row unit) (Term unit) node_step binding_step row_step term_step F

  node_read : (F : Open) (n : A) → node_of (roll-TermNode A F) n ≡ term_node (map-TermNode A (TermNode A) (LocalBinding A) (Row A) (Term A) (A → Expr A) (Binds A → Binds A) (Rows A → Rows A) (Expr A) node_of binding_of row_of term_of F) n
  node_read F n = ap (λ f. f n) (fold-roll-TermNode A (A → Expr A) (Binds A → Binds A) (Rows A → Rows A) (Expr A) term_node binding_read row_read term_read F)

  variable_keeps : (x : VarName) (n : A) → variable x tt ≡ noted nothing (variable x n)
  variable_keeps (Local x) n = refl
  variable_keeps (Top x) n = refl

  literal_keeps : (l : Lit) (n : A) → literal l tt ≡ noted nothing (literal l n)
  literal_keeps (Int i) n = refl
  literal_keeps (Char c) n = refl
  literal_keeps (Str cs) n = refl

  exprs_keep : (y : List KTerm) → exprs_of (map term_of (map erased (map (λ e. e.0) y))) ≡ noted_all nothing (exprs_of (map term_of (map (λ e. e.0) y)))
  exprs_keep [] = refl
  exprs_keep (e ∷ y) = λ i. expr (e.1 i) (exprs_keep y i)

  binds_keep : (y : List KBinding) → binds_of (map binding_of (map erased_binding (map (λ e. e.0) y))) ≡ noted_binds nothing (binds_of (map binding_of (map (λ e. e.0) y)))
  binds_keep [] = refl
  binds_keep (e ∷ y) = ap (binding_of (erased_binding e.0)) (binds_keep y) ∙ e.1 (binds_of (map binding_of (map (λ e. e.0) y)))

  groups_keep : (y : List (List KBinding)) → groups_of (map (map binding_of) (map (map erased_binding) (map (map (λ e. e.0)) y))) ≡ noted_groups nothing (groups_of (map (map binding_of) (map (map (λ e. e.0)) y)))
  groups_keep [] = refl
  groups_keep (g ∷ y) = λ i. group (binds_keep g i) (groups_keep y i)

  rows_keep : (y : List KRow) → rows_of (map row_of (map erased_row (map (λ e. e.0) y))) ≡ noted_rows nothing (rows_of (map row_of (map (λ e. e.0) y)))
  rows_keep [] = refl
  rows_keep (e ∷ y) = ap (row_of (erased_row e.0)) (rows_keep y) ∙ e.1 (rows_of (map row_of (map (λ e. e.0) y)))

  bodies_keep : (y : List (Option KTerm × KTerm))
      → bodies_of ((former-Row-bodies unit).map (Term unit) (Expr unit) term_of ((former-Row-bodies A).map (Term A) (Term unit) erased ((former-Row-bodies A).map KTerm (Term A) (λ e. e.0) y)))
      ≡ noted_bodies nothing (bodies_of ((former-Row-bodies A).map (Term A) (Expr A) term_of ((former-Row-bodies A).map KTerm (Term A) (λ e. e.0) y)))
  bodies_keep [] = refl
  bodies_keep (b ∷ y) = body_keeps b.0 b.1 y (bodies_keep y)
    where
      body_keeps : (o : Option KTerm) (e : KTerm) (y : List (Option KTerm × KTerm))
          → bodies_of ((former-Row-bodies unit).map (Term unit) (Expr unit) term_of ((former-Row-bodies A).map (Term A) (Term unit) erased ((former-Row-bodies A).map KTerm (Term A) (λ e. e.0) y)))
          ≡ noted_bodies nothing (bodies_of ((former-Row-bodies A).map (Term A) (Expr A) term_of ((former-Row-bodies A).map KTerm (Term A) (λ e. e.0) y)))
          → bodies_of ((former-Row-bodies unit).map (Term unit) (Expr unit) term_of ((former-Row-bodies A).map (Term A) (Term unit) erased ((former-Row-bodies A).map KTerm (Term A) (λ e. e.0) ((o, e) ∷ y))))
          ≡ noted_bodies nothing (bodies_of ((former-Row-bodies A).map (Term A) (Expr A) term_of ((former-Row-bodies A).map KTerm (Term A) (λ e. e.0) ((o, e) ∷ y))))
      body_keeps None e y h = λ i. always (e.1 i) (h i)
      body_keeps (Some g) e y h = λ i. guarded (g.1 i) (e.1 i) (h i)

  table_keep : (y : List (Origin × Span × KTerm))
      → table_of ((former-TermNode-Redef-2 unit).map (Term unit) (Expr unit) term_of ((former-TermNode-Redef-2 A).map (Term A) (Term unit) erased ((former-TermNode-Redef-2 A).map KTerm (Term A) (λ e. e.0) y)))
      ≡ noted_table nothing (table_of ((former-TermNode-Redef-2 A).map (Term A) (Expr A) term_of ((former-TermNode-Redef-2 A).map KTerm (Term A) (λ e. e.0) y)))
  table_keep [] = refl
  table_keep (w ∷ y) = λ i. entry w.0 w.1 (w.2.1 i) (table_keep y i)

  node_layer : (y : TermNode-F A KNode KBinding KRow KTerm)
      → KeepsNode (roll-TermNode A (map-TermNode A KNode KBinding KRow KTerm (TermNode A) (LocalBinding A) (Row A) (Term A) (λ e. e.0) (λ e. e.0) (λ e. e.0) (λ e. e.0) y))
  node_layer (TermNode-F.Var x) n =
      let F : Open = TermNode-F.Var x in
      node_by F n (t.Var x) (variable x tt) (variable x n) (node_erased F) (node-Var x tt) (node_read F n) (variable_keeps x n)
  node_layer (TermNode-F.Con c) n =
      let F : Open = TermNode-F.Con c in
      node_by F n (t.Con c) (con tt c) (con n c) (node_erased F) (node-Con c tt) (node_read F n) (refl)
  node_layer (TermNode-F.Lit l) n =
      let F : Open = TermNode-F.Lit l in
      node_by F n (t.Lit l) (literal l tt) (literal l n) (node_erased F) (node-Lit l tt) (node_read F n) (literal_keeps l n)
  node_layer (TermNode-F.Lam x e) n =
      let F : Open = TermNode-F.Lam x e.0 in
      node_by F n (t.Lam x (erased e.0)) (lam tt x (term_of (erased e.0))) (lam n x (term_of e.0)) (node_erased F) (node-Lam x (erased e.0) tt) (node_read F n) (ap (lam tt x) e.1)
  node_layer (TermNode-F.App f e) n =
      let F : Open = TermNode-F.App f.0 e.0 in
      node_by F n (t.App (erased f.0) (erased e.0)) (app tt (term_of (erased f.0)) (term_of (erased e.0))) (app n (term_of f.0) (term_of e.0)) (node_erased F) (node-App (erased f.0) (erased e.0) tt) (node_read F n) (λ i. app tt (f.1 i) (e.1 i))
  node_layer (TermNode-F.Let gs e) n =
      let F : Open = TermNode-F.Let (map (map (λ e. e.0)) gs) e.0 in
      node_by F n (t.Let (map (map erased_binding) (map (map (λ e. e.0)) gs)) (erased e.0)) (lets tt (groups_of (map (map binding_of) (map (map erased_binding) (map (map (λ e. e.0)) gs)))) (term_of (erased e.0))) (lets n (groups_of (map (map binding_of) (map (map (λ e. e.0)) gs))) (term_of e.0)) (node_erased F) (node-Let (map (map erased_binding) (map (map (λ e. e.0)) gs)) (erased e.0) tt) (node_read F n) (λ i. lets tt (groups_keep gs i) (e.1 i))
  node_layer (TermNode-F.Case es rows) n =
      let F : Open = TermNode-F.Case (map (λ e. e.0) es) (map (λ e. e.0) rows) in
      node_by F n (t.Case (map erased (map (λ e. e.0) es)) (map erased_row (map (λ e. e.0) rows))) (cases tt (exprs_of (map term_of (map erased (map (λ e. e.0) es)))) (rows_of (map row_of (map erased_row (map (λ e. e.0) rows))))) (cases n (exprs_of (map term_of (map (λ e. e.0) es))) (rows_of (map row_of (map (λ e. e.0) rows)))) (node_erased F) (node-Case (map erased (map (λ e. e.0) es)) (map erased_row (map (λ e. e.0) rows)) tt) (node_read F n) (λ i. cases tt (exprs_keep es i) (rows_keep rows i))
  node_layer (TermNode-F.Call w i) n =
      let F : Open = TermNode-F.Call w i in
      node_by F n (t.Call w i) (call tt w (type_of i)) (call n w (type_of i)) (node_erased F) (node-Call w i tt) (node_read F n) (ap (call tt w) (type_keeps i))
  node_layer (TermNode-F.Redef k text ws e) n =
      let F : Open = TermNode-F.Redef k text ((former-TermNode-Redef-2 A).map KTerm (Term A) (λ e. e.0) ws) e.0 in
      node_by F n (t.Redef k text ((former-TermNode-Redef-2 A).map (Term A) (Term unit) erased ((former-TermNode-Redef-2 A).map KTerm (Term A) (λ e. e.0) ws)) (erased e.0)) (redef tt k text (table_of ((former-TermNode-Redef-2 unit).map (Term unit) (Expr unit) term_of ((former-TermNode-Redef-2 A).map (Term A) (Term unit) erased ((former-TermNode-Redef-2 A).map KTerm (Term A) (λ e. e.0) ws)))) (term_of (erased e.0))) (redef n k text (table_of ((former-TermNode-Redef-2 A).map (Term A) (Expr A) term_of ((former-TermNode-Redef-2 A).map KTerm (Term A) (λ e. e.0) ws))) (term_of e.0)) (node_erased F) (node_redef k text ((former-TermNode-Redef-2 A).map (Term A) (Term unit) erased ((former-TermNode-Redef-2 A).map KTerm (Term A) (λ e. e.0) ws)) (erased e.0)) (node_read F n) (λ i. redef tt k text (table_keep ws i) (e.1 i))
  node_layer (TermNode-F.Ann e s) n =
      let F : Open = TermNode-F.Ann e.0 s in
      node_by F n (t.Ann (erased e.0) s) (ann tt (term_of (erased e.0)) s) (ann n (term_of e.0) s) (node_erased F) (node-Ann (erased e.0) s tt) (node_read F n) (ap (λ u. ann tt u s) e.1)

  binding_layer : (y : LocalBinding-F A KNode KBinding KRow KTerm)
      → KeepsBinding (roll-LocalBinding A (map-LocalBinding A KNode KBinding KRow KTerm (TermNode A) (LocalBinding A) (Row A) (Term A) (λ e. e.0) (λ e. e.0) (λ e. e.0) (λ e. e.0) y))
  binding_layer y rest =
      let F : LocalBinding-F A (TermNode A) (LocalBinding A) (Row A) (Term A) = record { name = y.name; signature = y.signature; term = y.term.0; note = y.note } in
      ap (λ b. binding_of b (noted_binds nothing rest)) (fold-roll-LocalBinding A (TermNode unit) (LocalBinding unit) (Row unit) (Term unit) node_step binding_step row_step term_step F)
      ∙ binding_of-at (record { name = y.name; signature = y.signature; term = erased y.term.0; note = tt }) (noted_binds nothing rest)
      ∙ ap (λ e. bind tt y.name y.signature e (noted_binds nothing rest)) y.term.1
      ∙ sym (ap (noted_binds nothing) (binding_of-at F rest))

  row_layer : (y : Row-F A KNode KBinding KRow KTerm)
      → KeepsRow (roll-Row A (map-Row A KNode KBinding KRow KTerm (TermNode A) (LocalBinding A) (Row A) (Term A) (λ e. e.0) (λ e. e.0) (λ e. e.0) (λ e. e.0) y))
  row_layer y rest =
      let F : Row-F A (TermNode A) (LocalBinding A) (Row A) (Term A) = record { patterns = y.patterns; groups = map (map (λ e. e.0)) y.groups; bodies = (former-Row-bodies A).map KTerm (Term A) (λ e. e.0) y.bodies } in
      let G : Row-F unit (TermNode unit) (LocalBinding unit) (Row unit) (Term unit) = record { patterns = map erased_pattern y.patterns; groups = map (map erased_binding) (map (map (λ e. e.0)) y.groups); bodies = (former-Row-bodies A).map (Term A) (Term unit) erased ((former-Row-bodies A).map KTerm (Term A) (λ e. e.0) y.bodies) } in
      ap (λ b. row_of b (noted_rows nothing rest)) (fold-roll-Row A (TermNode unit) (LocalBinding unit) (Row unit) (Term unit) node_step binding_step row_step term_step F)
      ∙ ap (λ f. f (noted_rows nothing rest)) (fold-roll-Row unit (unit → Expr unit) (Binds unit → Binds unit) (Rows unit → Rows unit) (Expr unit) term_node binding_read row_read term_read G)
      ∙ (λ i. row (patterns_keep y.patterns i) (groups_keep y.groups i) (bodies_keep y.bodies i) (noted_rows nothing rest))
      ∙ sym (ap (noted_rows nothing) (ap (λ f. f rest) (fold-roll-Row A (A → Expr A) (Binds A → Binds A) (Rows A → Rows A) (Expr A) term_node binding_read row_read term_read F)))

  term_layer : (y : Term-F A KNode KBinding KRow KTerm)
      → KeepsTerm (roll-Term A (map-Term A KNode KBinding KRow KTerm (TermNode A) (LocalBinding A) (Row A) (Term A) (λ e. e.0) (λ e. e.0) (λ e. e.0) (λ e. e.0) y))
  term_layer y =
      let F : Term-F A (TermNode A) (LocalBinding A) (Row A) (Term A) = record { node = y.node.0; note = y.note } in
      ap term_of (fold-roll-Term A (TermNode unit) (LocalBinding unit) (Row unit) (Term unit) node_step binding_step row_step term_step F) ∙ term_of-at (record { node = erased_node y.node.0; note = tt }) ∙ y.node.1 y.note ∙ sym (ap (noted nothing) (term_of-at F))

  -- all but the notes stays
  pub erasure_keeps : (e : Term A) → KeepsTerm e
  erasure_keeps e = ind-Term A KeepsNode KeepsBinding KeepsRow KeepsTerm
      (λ x y is. subst (λ z. KeepsNode (roll-TermNode A z)) is (node_layer y)) (λ x y is. subst (λ z. KeepsBinding (roll-LocalBinding A z)) is (binding_layer y))
      (λ x y is. subst (λ z. KeepsRow (roll-Row A z)) is (row_layer y)) (λ x y is. subst (λ z. KeepsTerm (roll-Term A z)) is (term_layer y)) e

-- the text of an erased term is that of the term, with nothing for each note
pub text_kept : {A : Type 0} (e : Term A) (made : Term unit) → made ≡ erased e → term_of made ≡ noted (λ n. tt) (term_of e)
text_kept {A = A} e made is = ap term_of is ∙ erasure_keeps A e
