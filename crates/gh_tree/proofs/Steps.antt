-- What a chain of readers gives, and the bytes that a piece of the tokens covers.
use Rattle.std.proofs.Common.{◌≡◌, ℕ, suc, ◌+◌, ◌-◌, ◌<◌, Bool, true, false, not, ◌&&◌, ◌==◌, List, ◌++◌, length, take, Option, Some, None, refl, sym, ap, ◌∙◌, arith, length-append, eq-eqb}
use Rattle.std.proofs.lemmas.Bool.Decides.{nat_tests}
use Rattle.std.proofs.Math.Seq.{take-append_seam}
use Rattle.gh_base.specs.declared.place.Span.{Span}
use Rattle.gh_base.specs.declared.names.NameId.{NameId}
use Rattle.gh_tree.specs.declared.symbol.Sym.{Sym}
use Rattle.gh_tree.specs.Syms.{cover, same_span}
use Rattle.gh_tree.specs.Print.{spanned, is_none}
use Rattle.gh_tree.specs.Read.{Outcome, Read, and_then, taken, covered}

or_else : {A : Type 0} → A × List Sym → Outcome A → A × List Sym
or_else d (Some p) = p
or_else d None = d

pub some_is : {A : Type 0} (x y : A) (ss us : List Sym) → taken x ss ≡ taken y us → (x ≡ y) × (ss ≡ us)
unfolding or_else
some_is x y ss us e = (ap (λ o. (or_else (x, ss) o).0) e, ap (λ o. (or_else (x, ss) o).1) e)

pub record Bound {A B : Type 0} (r : Outcome A) (f : A → Read B) (y : B) (rest : List Sym) : Type 0 where
  pub x : A
  pub mid : List Sym
  pub first : r ≡ Some (x, mid)
  pub then : f x mid ≡ Some (y, rest)

pub bound : {A B : Type 0} (r : Outcome A) (f : A → Read B) (y : B) (rest : List Sym) → and_then r f ≡ Some (y, rest) → Bound r f y rest
bound (Some p) f y rest e = record { x = p.0; mid = p.1; first = refl; then = e }
bound None f y rest e = absurd (cc)

pub chain : {A B : Type 0} {r : Outcome A} (f : A → Read B) {x : A} {mid : List Sym} {y : Outcome B} → r ≡ Some (x, mid) → f x mid ≡ y → and_then r f ≡ y
chain f e e' = ap (λ r. and_then r f) e ∙ e'

pub both : (a b : Bool) → (a && b) ≡ true → (a ≡ true) × (b ≡ true)
both true b e = (refl, e)
both false b e = absurd (cc)

pub and_is : {a b : Bool} → a ≡ true → b ≡ true → (a && b) ≡ true
and_is {a} {b} p q = ap (λ x. x && b) p ∙ q

pub not_is : (b : Bool) → not b ≡ true → b ≡ false
not_is true e = absurd (cc)
not_is false e = refl

pub not_so : (b : Bool) → b ≡ false → not b ≡ true
not_so true e = absurd (cc)
not_so false e = refl

-- the bytes of a piece in front of other tokens
pub covered_piece : (piece rest : List Sym) → covered (piece ++ rest) rest ≡ cover piece
unfolding covered
covered_piece piece rest =
    let count : length (piece ++ rest) ≡ length piece + length rest = length-append piece rest in
    let turns : length (piece ++ rest) - length rest ≡ length piece = omega (arith, count) in
    ap (λ n. cover (take n (piece ++ rest))) turns ∙ ap cover (take-append_seam piece rest)

pub same_span_refl : (a : Span) → same_span a a ≡ true
same_span_refl a = and_is (eq-eqb a.file a.file refl) (and_is (eq-eqb a.from a.from refl) (eq-eqb a.to a.to refl))

nat_eq_is : (a b : ℕ) → (a == b) ≡ true → a ≡ b
nat_eq_is a b e = grind (arith, nat_tests)

pub same_span_is : (a b : Span) → same_span a b ≡ true → a ≡ b
same_span_is a b e =
    let h = both (a.file == b.file) (a.from == b.from && a.to == b.to) e in
    let i = both (a.from == b.from) (a.to == b.to) h.1 in
    let file : a.file ≡ b.file = nat_eq_is _ _ h.0 in
    let from : a.from ≡ b.from = nat_eq_is _ _ i.0 in
    let to : a.to ≡ b.to = nat_eq_is _ _ i.1 in
    λ j. record { file = file j; from = from j; to = to j }

-- a node has the bytes of its tokens, whatever stands behind them
pub spanned_span : (span : Span) (rest flat : List Sym) (good : Bool) → (spanned span flat good).good ≡ true → covered (flat ++ rest) rest ≡ span
spanned_span span rest flat good e =
    covered_piece flat rest ∙ sym (same_span_is span (cover flat) (both good (same_span span (cover flat)) e).1)

-- a node's bytes are those of what was read
pub spanned_taken : (ss rest flat : List Sym) (good : Bool) → ss ≡ flat ++ rest → good ≡ true → (spanned (covered ss rest) flat good).good ≡ true
spanned_taken ss rest flat good is e =
    let span : covered ss rest ≡ cover flat = ap (λ us. covered us rest) is ∙ covered_piece flat rest in
    and_is e (ap (λ s. same_span s (cover flat)) span ∙ same_span_refl (cover flat))

pub none_is : (q : Option NameId) → is_none q ≡ true → q ≡ None
none_is None e = refl
none_is (Some n) e = absurd (cc)

pub deeper : {X : Type 0} (f : ℕ → X) (n : ℕ) → 0 < n → f n ≡ f (suc (n - 1))
deeper f n some = let e : n ≡ suc (n - 1) = omega arith in ap f e
