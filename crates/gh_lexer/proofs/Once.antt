-- A file has at most one reading.
use Rattle.std.proofs.Common.{◌≡◌, ◌⊎◌, inl, inr, ℕ, zero, suc, ◌<◌, List, [], ◌∷◌, ◌++◌, length, take, Option, Some, None, Result, Ok, Err, refl, sym, ap, ◌∙◌, arith, subst, append_assoc, length-append}
use Rattle.std.proofs.Math.Seq.{take-append_seam}
use Rattle.std.proofs.lemmas.List.{append_cancel_left}
use Rattle.gh_base.specs.declared.refusal.Refusal.{Refusal}
use Rattle.gh_lexer.specs.declared.scan.Class.{Class}
use Rattle.gh_lexer.specs.declared.scan.Wrong.{Wrong}
use Rattle.gh_lexer.specs.Lexeme.{Piece}
use Rattle.gh_lexer.specs.Pieces.{Sort, IsLongest, piece_of}
use Rattle.gh_lexer.specs.Reading.{Lexemes, valued, refusal_of}
use Rattle.gh_lexer.specs.Cut.{Segment, texts, IsSegment, IsCut, Stops, no_piece, no_token, no_value, Ends, Reads, IsReading}

none_some : (A : Type 0) (x : A) → let none : Option A = None in none ≡ Some x → ⊥
none_some A x e = cc

piece_nil : piece_of [] ≡ None
unfolding piece_of
piece_nil = refl

take_nil : (n : ℕ) → let nil : List ℕ = [] in take n nil ≡ nil
take_nil zero = refl
take_nil (suc n) = refl

module _ (bytes : List ℕ) where
  not_longer : (a b : ℕ) (s t : Sort) → IsLongest bytes a s → IsLongest bytes b t → a < b → ⊥
  not_longer a b s t p q lt = none_some Sort t (sym (p.longest b lt q.within) ∙ q.is)

  pub same_len : (a b : ℕ) (s t : Sort) → IsLongest bytes a s → IsLongest bytes b t → a ≡ b
  same_len a b s t p q =
      let left = not_longer a b s t p q in
      let right = not_longer b a t s q p in
      omega (arith, left, right)

  pub same_sort : (a b : ℕ) (s t : Sort) → IsLongest bytes a s → IsLongest bytes b t → s ≡ t
  same_sort a b s t p q =
      let e : Some s ≡ Some t = sym p.is ∙ ap (λ n. piece_of (take n bytes)) (same_len a b s t p q) ∙ q.is in
      cc

abbrev CanEnd : ℕ → ℕ → List ℕ → Type 0
CanEnd file at rest = (rest ≡ []) ⊎ ((r : Refusal) × Stops file at rest r)

ok_err : (A B : Type 0) (a : A) (b : B) → let x : Result A B = Ok a in x ≡ Err b → ⊥
ok_err A B a b e = cc

-- where a good piece stands, no reading ends
module _ (file at : ℕ) (bytes : List ℕ) (s : Segment) (l : IsLongest bytes (length s.text) (Ok s.class)) (text : take (length s.text) bytes ≡ s.text)
    (value : valued file at s.class s.text ≡ Ok s.token) where
  goes_on : CanEnd file at bytes → ⊥
  goes_on (inl e) =
      none_some Sort (Ok s.class) (sym piece_nil ∙ ap piece_of (sym (take_nil (length s.text)) ∙ ap (take (length s.text)) (sym e)) ∙ l.is)
  goes_on (inr (r, no_piece none e)) = none_some Sort (Ok s.class) (sym (none (length s.text) l.within) ∙ l.is)
  goes_on (inr (r, no_token len why q e)) = ok_err Class Wrong s.class why (same_sort bytes (length s.text) len (Ok s.class) (Err why) l q)
  goes_on (inr (r, no_value len class q e)) =
      let len_same = same_len bytes (length s.text) len (Ok s.class) (Ok class) l q in
      let sorts = same_sort bytes (length s.text) len (Ok s.class) (Ok class) l q in
      let class_same : s.class ≡ class = cc in
      ok_err (Option Piece) Refusal s.token r (sym value ∙ ap (λ c. valued file at c s.text) class_same ∙ ap (valued file at class) (sym text ∙ ap (λ n. take n bytes) len_same) ∙ e)

front_text : (s : Segment) (rest : List ℕ) → take (length s.text) (s.text ++ rest) ≡ s.text
front_text s rest = take-append_seam s.text rest

segment_is : (s t : Segment) → s.text ≡ t.text → s.class ≡ t.class → s.token ≡ t.token → s ≡ t
segment_is s t a b c = λ i. record { text = a i; class = b i; token = c i }

module _ (file : ℕ) where
  same_segment : (before : List ℕ) (s t : Segment) (x y : List ℕ) → s.text ++ x ≡ t.text ++ y → IsSegment file before s x → IsSegment file before t y → s ≡ t
  same_segment before s t x y e p q =
      let q_long : IsLongest (s.text ++ x) (length t.text) (Ok t.class) = subst (λ b. IsLongest b (length t.text) (Ok t.class)) (sym e) q.longest in
      let len_same = same_len (s.text ++ x) (length s.text) (length t.text) (Ok s.class) (Ok t.class) p.longest q_long in
      let sorts = same_sort (s.text ++ x) (length s.text) (length t.text) (Ok s.class) (Ok t.class) p.longest q_long in
      let class_same : s.class ≡ t.class = cc in
      let text_same : s.text ≡ t.text = sym (front_text s x) ∙ ap (λ n. take n (s.text ++ x)) len_same ∙ ap (take (length t.text)) e ∙ front_text t y in
      let values : Ok s.token ≡ Ok t.token = sym p.value ∙ ap (λ c. valued file (length before) c s.text) class_same ∙ ap (valued file (length before) t.class) text_same ∙ q.value in
      segment_is s t text_same class_same (cc)

  same_cut : (before : List ℕ) (ss ts : List Segment) (x y : List ℕ) → texts ss ++ x ≡ texts ts ++ y → IsCut file before ss x → IsCut file before ts y
      → CanEnd file (length (before ++ texts ss)) x → CanEnd file (length (before ++ texts ts)) y → (ss ≡ ts) × (x ≡ y)
  same_cut before [] [] x y e p q a b = (refl, e)
  same_cut before [] (t ∷ ts) x y e p q a b =
      let here : x ≡ t.text ++ (texts ts ++ y) = e ∙ append_assoc t.text (texts ts) y in
      let place : length (before ++ []) ≡ length before = simp length-append (omega arith) in
      let end : CanEnd file (length before) x = subst (λ n. CanEnd file n x) place a in
      absurd (goes_on file (length before) x t (subst (λ z. IsLongest z (length t.text) (Ok t.class)) (sym here) q.0.longest) (ap (take (length t.text)) here ∙ front_text t (texts ts ++ y)) q.0.value end)
  same_cut before (s ∷ ss) [] x y e p q a b =
      let here : y ≡ s.text ++ (texts ss ++ x) = sym e ∙ append_assoc s.text (texts ss) x in
      let place : length (before ++ []) ≡ length before = simp length-append (omega arith) in
      let end : CanEnd file (length before) y = subst (λ n. CanEnd file n y) place b in
      absurd (goes_on file (length before) y s (subst (λ z. IsLongest z (length s.text) (Ok s.class)) (sym here) p.0.longest) (ap (take (length s.text)) here ∙ front_text s (texts ss ++ x)) p.0.value end)
  same_cut before (s ∷ ss) (t ∷ ts) x y e p q a b =
      let both : s.text ++ (texts ss ++ x) ≡ t.text ++ (texts ts ++ y) = sym (append_assoc s.text (texts ss) x) ∙ e ∙ append_assoc t.text (texts ts) y in
      let head : s ≡ t = same_segment before s t (texts ss ++ x) (texts ts ++ y) both p.0 q.0 in
      let text : s.text ≡ t.text = ap (λ z. z.text) head in
      let tail : texts ss ++ x ≡ texts ts ++ y = append_cancel_left s.text (texts ss ++ x) (texts ts ++ y) (both ∙ ap (λ z. z ++ (texts ts ++ y)) (sym text)) in
      let cut : IsCut file (before ++ s.text) ts y = subst (λ z. IsCut file (before ++ z) ts y) (sym text) q.1 in
      let left : CanEnd file (length ((before ++ s.text) ++ texts ss)) x = subst (λ z. CanEnd file (length z) x) (sym (append_assoc before s.text (texts ss))) a in
      let right : CanEnd file (length ((before ++ s.text) ++ texts ts)) y =
      subst (λ z. CanEnd file (length z) y) (sym (append_assoc before t.text (texts ts)) ∙ ap (λ z. (before ++ z) ++ texts ts) (sym text)) b in
      let more = same_cut (before ++ s.text) ss ts x y tail p.1 cut left right in
      (ap (λ z. z ∷ ss) head ∙ ap (λ zs. t ∷ zs) more.0, more.1)

  stops_once : (at : ℕ) (rest : List ℕ) (r q : Refusal) → Stops file at rest r → Stops file at rest q → r ≡ q
  stops_once at rest r q (no_piece none e) (no_piece none' e') = e ∙ sym e'
  stops_once at rest r q (no_piece none e) (no_token len why l e') = absurd (none_some Sort (Err why) (sym (none len l.within) ∙ l.is))
  stops_once at rest r q (no_piece none e) (no_value len class l e') = absurd (none_some Sort (Ok class) (sym (none len l.within) ∙ l.is))
  stops_once at rest r q (no_token len why l e) (no_piece none e') = absurd (none_some Sort (Err why) (sym (none len l.within) ∙ l.is))
  stops_once at rest r q (no_token len why l e) (no_token len' why' l' e') =
      let sorts = same_sort rest len len' (Err why) (Err why') l l' in
      let same : why ≡ why' = cc in
      e ∙ ap (refusal_of file at) same ∙ sym e'
  stops_once at rest r q (no_token len why l e) (no_value len' class l' e') = absurd (ok_err Class Wrong class why (same_sort rest len' len (Ok class) (Err why) l' l))
  stops_once at rest r q (no_value len class l e) (no_piece none e') = absurd (none_some Sort (Ok class) (sym (none len l.within) ∙ l.is))
  stops_once at rest r q (no_value len class l e) (no_token len' why l' e') = absurd (ok_err Class Wrong class why (same_sort rest len len' (Ok class) (Err why) l l'))
  stops_once at rest r q (no_value len class l e) (no_value len' class' l' e') =
      let len_same = same_len rest len len' (Ok class) (Ok class') l l' in
      let sorts = same_sort rest len len' (Ok class) (Ok class') l l' in
      let class_same : class ≡ class' = cc in
      let values : Err r ≡ Err q = sym e ∙ ap (λ c. valued file at c (take len rest)) class_same ∙ ap (λ n. valued file at class' (take n rest)) len_same ∙ e' in
      cc

  ends_can : (bytes : List ℕ) (ss : List Segment) (rest : List ℕ) (answer : Lexemes) → Ends file bytes ss rest answer → CanEnd file (length (texts ss)) rest
  ends_can bytes ss [] (Ok ls) e = inl refl
  ends_can bytes ss [] (Err r) e = absurd e
  ends_can bytes ss (c ∷ rest) (Ok ls) e = absurd e
  ends_can bytes ss (c ∷ rest) (Err r) e = inr (r, e)

  ends_once : (bytes : List ℕ) (ss : List Segment) (rest : List ℕ) (a b : Lexemes) → Ends file bytes ss rest a → Ends file bytes ss rest b → a ≡ b
  ends_once bytes ss [] (Ok ls) (Ok ms) p q = ap Ok (p ∙ sym q)
  ends_once bytes ss [] (Ok ls) (Err r) p q = absurd q
  ends_once bytes ss [] (Err r) b p q = absurd p
  ends_once bytes ss (c ∷ rest) (Ok ls) b p q = absurd p
  ends_once bytes ss (c ∷ rest) (Err r) (Ok ls) p q = absurd q
  ends_once bytes ss (c ∷ rest) (Err r) (Err r') p q = ap Err (stops_once (length (texts ss)) (c ∷ rest) r r' p q)

  pub reads_once : (bytes : List ℕ) (a b : Lexemes) → Reads file bytes a → Reads file bytes b → a ≡ b
  reads_once bytes a b p q =
      let same = same_cut [] p.segments q.segments p.rest q.rest (p.whole ∙ sym q.whole) p.cut q.cut (ends_can bytes p.segments p.rest a p.ends) (ends_can bytes q.segments q.rest b q.ends) in
      let end : Ends file bytes p.segments p.rest b =
      subst (λ ss. Ends file bytes ss p.rest b) (sym same.0) (subst (λ r. Ends file bytes q.segments r b) (sym same.1) q.ends) in
      ends_once bytes p.segments p.rest a b p.ends end

  pub reading_once : (bytes : List ℕ) (a b : Lexemes) → IsReading file bytes a → IsReading file bytes b → a ≡ b
  reading_once bytes a b (inl p) (inl q) = reads_once bytes a b p.1 q.1
  reading_once bytes a b (inl p) (inr q) = absurd (omega (arith, p.0, q.0))
  reading_once bytes a b (inr p) (inl q) = absurd (omega (arith, q.0, p.0))
  reading_once bytes a b (inr p) (inr q) = p.1 ∙ sym q.1
