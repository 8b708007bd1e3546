-- How lists of tokens pass the cut into items: those with no brace and no `;`, and those whose blocks are whole.
use Rattle.std.proofs.Common.{◌≡◌, ℕ, suc, List, [], ◌∷◌, ◌++◌, map, refl, sym, ap, ◌∙◌, subst, append_assoc}
use Rattle.gh_tree.specs.declared.names.BlockMark.{BlockMark}
use Rattle.gh_tree.specs.declared.names.BlockMark.TheVariants as bm
use Rattle.gh_tree.specs.declared.symbol.Sym.{Sym}
use Rattle.gh_tree.specs.Items.{opening_brace, part_mark, closing_brace, no_brace, brace, TopItem, ended, front, body_step, body_items, top_step, top_items}
use Rattle.gh_tree.specs.Print.{Print, flat_all, block_open, block_semi, block_close}

-- all of these before the first of the items
abbrev pub fronts : List Sym → List TopItem → List TopItem
fronts [] is = is
fronts (s ∷ ss) is = front s (fronts ss is)

pub fronts_append : (a b : List Sym) (is : List TopItem) → fronts (a ++ b) is ≡ fronts a (fronts b is)
fronts_append [] b is = refl
fronts_append (s ∷ a) b is = ap (front s) (fronts_append a b is)

pub fronts_ended : (a b : List Sym) (is : List TopItem) → fronts a (ended b ∷ is) ≡ ended (a ++ b) ∷ is
fronts_ended [] b is = refl
fronts_ended (s ∷ a) b is = ap (front s) (fronts_ended a b is)

-- ---- no brace and no `;`: the tokens stand with what follows them, before the body and in it

pub record Bare (ss : List Sym) : Type 0 where
  pub before_body : (rest : List Sym) → top_items (ss ++ rest) ≡ fronts ss (top_items rest)
  pub in_body : (rest : List Sym) (depth : ℕ) → body_items (ss ++ rest) depth ≡ fronts ss (body_items rest depth)

-- a fact of a print, by that of an equal one
pub bare_by : {p q : Print} → p ≡ q → Bare q.flat → Bare p.flat
bare_by e h = subst (λ r. Bare r.flat) (sym e) h

pub bare_none : Bare []
bare_none = record { before_body = λ rest. refl; in_body = λ rest depth. refl }

pub bare_token : {s : Sym} {ss : List Sym} → brace s.kind ≡ no_brace → Bare ss → Bare (s ∷ ss)
bare_token {s = s} {ss = ss} e b = record {
  before_body = λ rest. ap (λ u. top_step u s (ss ++ rest) (top_items (ss ++ rest))) e ∙ ap (front s) (b.before_body rest);
  in_body = λ rest depth. ap (λ u. body_step u s (ss ++ rest) (body_items (ss ++ rest)) depth) e ∙ ap (front s) (b.in_body rest depth);
}

pub bare_append : {a b : List Sym} → Bare a → Bare b → Bare (a ++ b)
bare_append {a = a} {b = b} h i = record {
  before_body = λ rest. ap top_items (append_assoc a b rest) ∙ h.before_body (b ++ rest) ∙ ap (fronts a) (i.before_body rest) ∙ sym (fronts_append a b (top_items rest));
  in_body = λ rest depth. ap (λ ss. body_items ss depth) (append_assoc a b rest) ∙ h.in_body (b ++ rest) depth ∙ ap (fronts a) (i.in_body rest depth) ∙ sym (fronts_append a b (body_items rest depth));
}

-- ---- whole blocks: the tokens stand with what follows them, in the body

pub record Whole (ss : List Sym) : Type 0 where
  pub passed : (rest : List Sym) (depth : ℕ) → body_items (ss ++ rest) depth ≡ fronts ss (body_items rest depth)

pub whole_by : {p q : Print} → p ≡ q → Whole q.flat → Whole p.flat
whole_by e h = subst (λ r. Whole r.flat) (sym e) h

pub whole : {ss : List Sym} → Bare ss → Whole ss
whole b = record { passed = b.in_body }

pub whole_token : {s : Sym} {ss : List Sym} → brace s.kind ≡ no_brace → Whole ss → Whole (s ∷ ss)
whole_token {s = s} {ss = ss} e b = record { passed = λ rest depth. ap (λ u. body_step u s (ss ++ rest) (body_items (ss ++ rest)) depth) e ∙ ap (front s) (b.passed rest depth) }

pub whole_append : {a b : List Sym} → Whole a → Whole b → Whole (a ++ b)
whole_append {a = a} {b = b} h i = record {
  passed = λ rest depth. ap (λ ss. body_items ss depth) (append_assoc a b rest) ∙ h.passed (b ++ rest) depth ∙ ap (fronts a) (i.passed rest depth) ∙ sym (fronts_append a b (body_items rest depth));
}

-- ---- inside a block that is open, where a `;` parts no items

pub record Inside (ss : List Sym) : Type 0 where
  pub passed : (rest : List Sym) (depth : ℕ) → body_items (ss ++ rest) (suc depth) ≡ fronts ss (body_items rest (suc depth))

pub inside_by : {p q : Print} → p ≡ q → Inside q.flat → Inside p.flat
inside_by e h = subst (λ r. Inside r.flat) (sym e) h

pub inside : {ss : List Sym} → Whole ss → Inside ss
inside w = record { passed = λ rest depth. w.passed rest (suc depth) }

pub inside_append : {a b : List Sym} → Inside a → Inside b → Inside (a ++ b)
inside_append {a = a} {b = b} h i = record {
  passed = λ rest depth. ap (λ ss. body_items ss (suc depth)) (append_assoc a b rest) ∙ h.passed (b ++ rest) depth ∙ ap (fronts a) (i.passed rest depth) ∙ sym (fronts_append a b (body_items rest (suc depth)));
}

pub semi_parts : (m : BlockMark) → brace (block_semi m).kind ≡ part_mark
semi_parts (bm.Written s) = refl
semi_parts (bm.Inserted p) = refl

pub open_opens : (m : BlockMark) → brace (block_open m).kind ≡ opening_brace
open_opens (bm.Written s) = refl
open_opens (bm.Inserted p) = refl

pub close_closes : (m : BlockMark) → brace (block_close m).kind ≡ closing_brace
close_closes (bm.Written s) = refl
close_closes (bm.Inserted p) = refl

pub semis_inside : (ms : List BlockMark) → Inside (map block_semi ms)
semis_inside [] = record { passed = λ rest depth. refl }
semis_inside (m ∷ ms) = record {
  passed = λ rest depth. ap (λ u. body_step u (block_semi m) (map block_semi ms ++ rest) (body_items (map block_semi ms ++ rest)) (suc depth)) (semi_parts m) ∙ ap (front (block_semi m)) ((semis_inside ms).passed rest depth);
}

-- a block of two lists is whole
pub closed_block : (a b : BlockMark) {ss ts : List Sym} → Inside ss → Inside ts → Whole (block_open a ∷ (ss ++ (ts ++ block_close b ∷ [])))
closed_block a b {ss = ss} {ts = ts} h i = record {
  passed = λ rest depth.
      let tail : List Sym = (ss ++ (ts ++ block_close b ∷ [])) ++ rest in
      ap (λ u. body_step u (block_open a) tail (body_items tail) depth) (open_opens a)
      ∙ ap (front (block_open a)) (
      ap (λ us. body_items us (suc depth)) (append_assoc ss (ts ++ block_close b ∷ []) rest ∙ ap (λ us. ss ++ us) (append_assoc ts (block_close b ∷ []) rest))
      ∙ h.passed (ts ++ (block_close b ∷ rest)) depth
      ∙ ap (fronts ss) (
      i.passed (block_close b ∷ rest) depth
      ∙ ap (fronts ts) (ap (λ u. body_step u (block_close b) rest (body_items rest) (suc depth)) (close_closes b))
      ∙ sym (fronts_append ts (block_close b ∷ []) (body_items rest depth)))
      ∙ sym (fronts_append ss (ts ++ block_close b ∷ []) (body_items rest depth)));
}

-- ---- lists

pub bare_all : {X : Type 0} (f : X → Print) → ((x : X) → Bare (f x).flat) → (xs : List X) → Bare (flat_all (map f xs))
bare_all f each [] = bare_none
bare_all f each (x ∷ xs) = bare_append (each x) (bare_all f each xs)

-- a node, with the fact that it has no brace
abbrev pub BareNode : {X : Type 0} → (X → Print) → Type 0
BareNode {X} f = (x : X) × Bare (f x).flat

-- a node, with the fact that its blocks are whole
abbrev pub WholeNode : {X : Type 0} → (X → Print) → Type 0
WholeNode {X} f = (x : X) × Whole (f x).flat

-- a node, with the fact that it parts nothing inside a block
abbrev pub InsideNode : {X : Type 0} → (X → Print) → Type 0
InsideNode {X} f = (x : X) × Inside (f x).flat

-- the node alone
abbrev pub tree : {X : Type 0} {P : X → Type 0} → ((x : X) × P x) → X
tree e = e.0

pub bare_nodes : {X : Type 0} (f : X → Print) → (ys : List (BareNode f)) → Bare (flat_all (map f (map (λ e. e.0) ys)))
bare_nodes f [] = bare_none
bare_nodes f (e ∷ ys) = bare_append e.1 (bare_nodes f ys)

pub whole_nodes : {X : Type 0} (f : X → Print) → (ys : List (WholeNode f)) → Whole (flat_all (map f (map (λ e. e.0) ys)))
whole_nodes f [] = whole bare_none
whole_nodes f (e ∷ ys) = whole_append e.1 (whole_nodes f ys)

pub inside_nodes : {X : Type 0} (f : X → Print) → (ys : List (InsideNode f)) → Inside (flat_all (map f (map (λ e. e.0) ys)))
inside_nodes f [] = inside (whole bare_none)
inside_nodes f (e ∷ ys) = inside_append e.1 (inside_nodes f ys)
