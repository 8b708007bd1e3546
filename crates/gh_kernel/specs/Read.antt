-- The terms that values of the program stand for, form by form.
use Rattle.std.proofs.Common.{◌≡◌, ℕ, List, Option, map, sym, ap, ◌∙◌}
use Rattle.std.specs.Prelude.{option_map}
use Rattle.gh_base.specs.declared.place.Origin.{Origin}
use Rattle.gh_base.specs.declared.place.Span.{Span}
use Rattle.gh_typeterm.specs.declared.ty.TyNode.{TyNode}
use Rattle.gh_kernel.specs.declared.names.Lit.{Lit}
use Rattle.gh_kernel.specs.declared.names.VarName.{VarName}
use Rattle.gh_kernel.specs.declared.patterns.Pattern.{Pattern, roll-Pattern, fold-roll-Pattern}
use Rattle.gh_kernel.specs.declared.patterns.PatternNode.{PatternNode, fold-PatternNode, fold-roll-PatternNode}
use Rattle.gh_kernel.specs.declared.patterns.PatternNode.TheOpen.{Pattern-F, PatternNode-F}
use Rattle.gh_kernel.specs.declared.patterns.PatternNode.TheVariants as p
use Rattle.gh_kernel.specs.declared.signatures.Signed.{Signed}
use Rattle.gh_kernel.specs.declared.terms.LocalBinding.{LocalBinding, roll-LocalBinding, fold-LocalBinding, fold-roll-LocalBinding}
use Rattle.gh_kernel.specs.declared.terms.Row.{Row, fold-Row}
use Rattle.gh_kernel.specs.declared.terms.Term.{Term, roll-Term, fold-roll-Term}
use Rattle.gh_kernel.specs.declared.terms.TermNode.{TermNode, fold-TermNode, fold-roll-TermNode}
use Rattle.gh_kernel.specs.declared.terms.TermNode.TheOpen.{LocalBinding-F, Term-F, TermNode-F}
use Rattle.gh_kernel.specs.declared.terms.TermNode.TheVariants as t
use Rattle.gh_kernel.specs.Reading.{pats_of, literal_pattern, pattern_node, pattern_read, pattern_of, exprs_of, groups_of, rows_of, variable, literal, term_node, binding_read, row_read, term_read, term_of, type_of}
use Rattle.gh_kernel.specs.Terms.{Pat, pvar, pcon, pas, Expr, con, lam, app, lets, cases, call, ann, Binds, bind, Rows}

module _ {A : Type 0} where
  -- patterns
  abbrev pub pattern_node_of : PatternNode A → A → Pat A
  pattern_node_of = fold-PatternNode A (A → Pat A) (Pat A) pattern_node pattern_read

  pub pattern_of-at : (q : Pattern-F A (PatternNode A) (Pattern A)) → pattern_of (roll-Pattern A q) ≡ pattern_node_of q.node q.note
  pattern_of-at q = fold-roll-Pattern A (A → Pat A) (Pat A) pattern_node pattern_read q

  pub pattern-PVar : (x : ℕ) (n : A) → pattern_node_of (p.PVar x) n ≡ pvar n x
  pattern-PVar x n = ap (λ q. pattern_node_of q n) (sym (p.rolls-PVar x)) ∙ ap (λ f. f n) (fold-roll-PatternNode A (A → Pat A) (Pat A) pattern_node pattern_read (PatternNode-F.PVar x))

  pub pattern-PCon : (c : Origin) (ps : List (Pattern A)) (n : A) → pattern_node_of (p.PCon c ps) n ≡ pcon n c (pats_of (map pattern_of ps))
  pattern-PCon c ps n = ap (λ q. pattern_node_of q n) (sym (p.rolls-PCon c ps)) ∙ ap (λ f. f n) (fold-roll-PatternNode A (A → Pat A) (Pat A) pattern_node pattern_read (PatternNode-F.PCon c ps))

  pub pattern-PLit : (l : Lit) (n : A) → pattern_node_of (p.PLit l) n ≡ literal_pattern l n
  pattern-PLit l n = ap (λ q. pattern_node_of q n) (sym (p.rolls-PLit l)) ∙ ap (λ f. f n) (fold-roll-PatternNode A (A → Pat A) (Pat A) pattern_node pattern_read (PatternNode-F.PLit l))

  pub pattern-PAs : (x : ℕ) (q : Pattern A) (n : A) → pattern_node_of (p.PAs x q) n ≡ pas n x (pattern_of q)
  pattern-PAs x q n = ap (λ q. pattern_node_of q n) (sym (p.rolls-PAs x q)) ∙ ap (λ f. f n) (fold-roll-PatternNode A (A → Pat A) (Pat A) pattern_node pattern_read (PatternNode-F.PAs x q))

  -- terms
  abbrev pub node_of : TermNode A → A → Expr A
  node_of = fold-TermNode A (A → Expr A) (Binds A → Binds A) (Rows A → Rows A) (Expr A) term_node binding_read row_read term_read

  abbrev pub binding_of : LocalBinding A → Binds A → Binds A
  binding_of = fold-LocalBinding A (A → Expr A) (Binds A → Binds A) (Rows A → Rows A) (Expr A) term_node binding_read row_read term_read

  abbrev pub row_of : Row A → Rows A → Rows A
  row_of = fold-Row A (A → Expr A) (Binds A → Binds A) (Rows A → Rows A) (Expr A) term_node binding_read row_read term_read

  abbrev pub body_read : Option (Term A) × Term A → Option (Expr A) × Expr A
  body_read b = (option_map term_of b.0, term_of b.1)

  abbrev pub pair_read : Origin × Span × Term A → Origin × Span × Expr A
  pair_read w = (w.0, w.1, term_of w.2)

  pub term_of-at : (r : Term-F A (TermNode A) (LocalBinding A) (Row A) (Term A)) → term_of (roll-Term A r) ≡ node_of r.node r.note
  term_of-at r = fold-roll-Term A (A → Expr A) (Binds A → Binds A) (Rows A → Rows A) (Expr A) term_node binding_read row_read term_read r

  pub binding_of-at : (r : LocalBinding-F A (TermNode A) (LocalBinding A) (Row A) (Term A)) (rest : Binds A)
      → binding_of (roll-LocalBinding A r) rest ≡ bind r.note r.name r.signature (term_of r.term) rest
  binding_of-at r rest =
      ap (λ f. f rest) (fold-roll-LocalBinding A (A → Expr A) (Binds A → Binds A) (Rows A → Rows A) (Expr A) term_node binding_read row_read term_read r)

  pub node-Con : (c : Origin) (n : A) → node_of (t.Con c) n ≡ con n c
  node-Con c n = ap (λ u. node_of u n) (sym (t.rolls-Con c))
      ∙ ap (λ f. f n) (fold-roll-TermNode A (A → Expr A) (Binds A → Binds A) (Rows A → Rows A) (Expr A) term_node binding_read row_read term_read (TermNode-F.Con c))

  pub node-Var : (x : VarName) (n : A) → node_of (t.Var x) n ≡ variable x n
  node-Var x n = ap (λ u. node_of u n) (sym (t.rolls-Var x))
      ∙ ap (λ f. f n) (fold-roll-TermNode A (A → Expr A) (Binds A → Binds A) (Rows A → Rows A) (Expr A) term_node binding_read row_read term_read (TermNode-F.Var x))

  pub node-Lit : (l : Lit) (n : A) → node_of (t.Lit l) n ≡ literal l n
  node-Lit l n = ap (λ u. node_of u n) (sym (t.rolls-Lit l))
      ∙ ap (λ f. f n) (fold-roll-TermNode A (A → Expr A) (Binds A → Binds A) (Rows A → Rows A) (Expr A) term_node binding_read row_read term_read (TermNode-F.Lit l))

  pub node-Lam : (x : ℕ) (b : Term A) (n : A) → node_of (t.Lam x b) n ≡ lam n x (term_of b)
  node-Lam x b n = ap (λ u. node_of u n) (sym (t.rolls-Lam x b))
      ∙ ap (λ f. f n) (fold-roll-TermNode A (A → Expr A) (Binds A → Binds A) (Rows A → Rows A) (Expr A) term_node binding_read row_read term_read (TermNode-F.Lam x b))

  pub node-App : (g : Term A) (e : Term A) (n : A) → node_of (t.App g e) n ≡ app n (term_of g) (term_of e)
  node-App g e n = ap (λ u. node_of u n) (sym (t.rolls-App g e))
      ∙ ap (λ f. f n) (fold-roll-TermNode A (A → Expr A) (Binds A → Binds A) (Rows A → Rows A) (Expr A) term_node binding_read row_read term_read (TermNode-F.App g e))

  pub node-Let : (gs : List (List (LocalBinding A))) (b : Term A) (n : A) → node_of (t.Let gs b) n ≡ lets n (groups_of (map (map binding_of) gs)) (term_of b)
  node-Let gs b n = ap (λ u. node_of u n) (sym (t.rolls-Let gs b))
      ∙ ap (λ f. f n) (fold-roll-TermNode A (A → Expr A) (Binds A → Binds A) (Rows A → Rows A) (Expr A) term_node binding_read row_read term_read (TermNode-F.Let gs b))

  pub node-Case : (es : List (Term A)) (rows : List (Row A)) (n : A) → node_of (t.Case es rows) n ≡ cases n (exprs_of (map term_of es)) (rows_of (map row_of rows))
  node-Case es rows n = ap (λ u. node_of u n) (sym (t.rolls-Case es rows))
      ∙ ap (λ f. f n) (fold-roll-TermNode A (A → Expr A) (Binds A → Binds A) (Rows A → Rows A) (Expr A) term_node binding_read row_read term_read (TermNode-F.Case es rows))

  pub node-Call : (w : Origin) (i : TyNode) (n : A) → node_of (t.Call w i) n ≡ call n w (type_of i)
  node-Call w i n = ap (λ u. node_of u n) (sym (t.rolls-Call w i))
      ∙ ap (λ f. f n) (fold-roll-TermNode A (A → Expr A) (Binds A → Binds A) (Rows A → Rows A) (Expr A) term_node binding_read row_read term_read (TermNode-F.Call w i))

  pub node-Ann : (e : Term A) (s : Signed) (n : A) → node_of (t.Ann e s) n ≡ ann n (term_of e) s
  node-Ann e s n = ap (λ u. node_of u n) (sym (t.rolls-Ann e s))
      ∙ ap (λ f. f n) (fold-roll-TermNode A (A → Expr A) (Binds A → Binds A) (Rows A → Rows A) (Expr A) term_node binding_read row_read term_read (TermNode-F.Ann e s))
