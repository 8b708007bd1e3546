-- A kind is read from its text in one way.
use Rattle.std.proofs.Common.{◌≡◌, ◌==◌, true, false, ℕ, ◌++◌, List, [], ◌∷◌, refl, sym, ap, ◌∙◌, drop, get_or, append_assoc}
use Rattle.std.specs.Prelude.{codes}
use Rattle.std.proofs.lemmas.Bool.{eq-eqb}
use Rattle.gh_typeterm.specs.declared.kind.Kind.{Kind}
use Rattle.gh_typeterm.specs.declared.kind.Kind.TheVariants as k
use Rattle.gh_core.specs.Text.{kind_text}
use Rattle.gh_core_text.proofs.TypeForms.{kind_Star, kind_Arrow, kind_induction}

-- whatever follows
abbrev Reads : Kind → Type 0
Reads a = (b : Kind) (r s : List ℕ) → kind_text a ++ r ≡ kind_text b ++ s → (a ≡ b) × (r ≡ s)

pub opened_arrow : (a b : Kind) (r : List ℕ) → kind_text (k.Arrow a b) ++ r ≡ codes "(=> " ++ (kind_text a ++ (codes " " ++ (kind_text b ++ (codes ")" ++ r))))
opened_arrow a b r =
    ap (λ t. t ++ r) (kind_Arrow a b)
    ∙ append_assoc (codes "(=> ") (kind_text a ++ (codes " " ++ (kind_text b ++ codes ")"))) r
    ∙ ap (λ t. codes "(=> " ++ t) (append_assoc (kind_text a) (codes " " ++ (kind_text b ++ codes ")")) r
    ∙ ap (λ t. kind_text a ++ t) (append_assoc (codes " ") (kind_text b ++ codes ")") r
    ∙ ap (λ t. codes " " ++ t) (append_assoc (kind_text b) (codes ")") r)))

-- texts whose first bytes differ
pub different : (x y : ℕ) (xs ys : List ℕ) → x ∷ xs ≡ y ∷ ys → (x == y) ≡ false → ⊥
different x y xs ys e n =
    let h : x ≡ y = ap (λ t. get_or t 0 0) e in
    let k : (x == y) ≡ true = eq-eqb x y h in
    absurd (cc)

star_arrow : (a b : Kind) (r s : List ℕ) → kind_text k.Star ++ r ≡ kind_text (k.Arrow a b) ++ s → ⊥
star_arrow a b r s e = different 42 40 r _ (sym (ap (λ t. t ++ r) kind_Star) ∙ e ∙ opened_arrow a b s) refl

star_reads : Reads k.Star
star_reads = kind_induction (λ b. (r s : List ℕ) → kind_text k.Star ++ r ≡ kind_text b ++ s → (k.Star ≡ b) × (r ≡ s))
    (λ r s e. (refl, ap (drop 1) (sym (ap (λ t. t ++ r) kind_Star) ∙ e ∙ ap (λ t. t ++ s) kind_Star)))
    (λ a b p q r s e. absurd (star_arrow a b r s e))

both_arrows : (a b c d : Kind) (r s : List ℕ) → Reads a → Reads b → kind_text (k.Arrow a b) ++ r ≡ kind_text (k.Arrow c d) ++ s → (k.Arrow a b ≡ k.Arrow c d) × (r ≡ s)
both_arrows a b c d r s p q e =
    let all = sym (opened_arrow a b r) ∙ e ∙ opened_arrow c d s in
    let left = p c (codes " " ++ (kind_text b ++ (codes ")" ++ r))) (codes " " ++ (kind_text d ++ (codes ")" ++ s))) (ap (drop 4) all) in
    let right = q d (codes ")" ++ r) (codes ")" ++ s) (ap (drop 1) left.1) in
    ((λ i. k.Arrow (left.0 i) (right.0 i)), ap (drop 1) right.1)

pub kind_reads : (a : Kind) → Reads a
kind_reads = kind_induction Reads star_reads
    (λ a b p q. kind_induction (λ x. (r s : List ℕ) → kind_text (k.Arrow a b) ++ r ≡ kind_text x ++ s → (k.Arrow a b ≡ x) × (r ≡ s))
    (λ r s e. absurd (star_arrow a b s r (sym e)))
    (λ c d u v r s e. both_arrows a b c d r s p q e))

pub kind_text-injective : (a b : Kind) → kind_text a ≡ kind_text b → a ≡ b
kind_text-injective a b e = (kind_reads a b [] [] (ap (λ t. t ++ []) e)).0
