-- What is read is the cut of the file.
use Rattle.std.proofs.Common.{◌≡◌, ◌⊎◌, inl, inr, ℕ, zero, suc, ◌+◌, ◌<◌, ◌≤◌, not, ◌==◌, List, [], ◌∷◌, ◌++◌, length, take, drop, Option, Some, None, Result, Ok, Err, refl, sym, ap, ◌∙◌, arith, subst, append_assoc, append-nil, length-append, length-drop, take-append-drop, length-take}
use Rattle.std.proofs.Math.Seq.{drop-append_seam}
use Rattle.std.specs.List.{list_any}
use Rattle.gh_base.specs.declared.refusal.Refusal.{Refusal}
use Rattle.gh_lexer.specs.declared.scan.Scan.{Scan}
use Rattle.gh_lexer.specs.declared.scan.Wrong.{Wrong}
use Rattle.gh_lexer.specs.declared.scan.Wrong.TheVariants as wrong
use Rattle.gh_lexer.specs.Lexeme.{Piece}
use Rattle.gh_lexer.specs.Pieces.{IsLongest, piece_of}
use Rattle.gh_lexer.specs.Place.{moved, start}
use Rattle.gh_lexer.specs.Scan.{scan_at}
use Rattle.gh_lexer.specs.Reading.{Where, Lexemes, Valued, valued, refusal_of, lexeme_at, skipped, passed, onto, on_value, on_scan, read_from, beginning, read}
use Rattle.gh_lexer.specs.Cut.{Segment, texts, IsSegment, IsCut, Stops, no_piece, no_token, no_value, placed, tokens_of, Ends, Reads}
use Rattle.gh_lexer.proofs.Lines.{moved_add, moved_line, IsLast, last_none, last_later, last_more}

-- what a scan says of the longest piece
abbrev pub LongestOf : List ℕ → Result Scan Wrong → Type 0
LongestOf bytes (Ok s) = (0 < s.len) × IsLongest bytes s.len (Ok s.class)
LongestOf bytes (Err why) = ((len : ℕ) × IsLongest bytes len (Err why)) ⊎ (((n : ℕ) → n ≤ length bytes → piece_of (take n bytes) ≡ None) × (why ≡ wrong.NoToken))

-- how the segments after `before` end
abbrev EndsAt : ℕ → List ℕ → List ℕ → List ℕ → List Segment → List ℕ → Lexemes → Type 0
EndsAt file bytes before lines ss [] (Ok ls) = ls ≡ tokens_of file bytes before lines ss
EndsAt file bytes before lines ss [] (Err r) = ⊥
EndsAt file bytes before lines ss (c ∷ rest) (Ok ls) = ⊥
EndsAt file bytes before lines ss (c ∷ rest) (Err r) = Stops file (length (before ++ texts ss)) (c ∷ rest) r

record Found (file : ℕ) (bytes before lines rest : List ℕ) (answer : Lexemes) : Type 0 where
  segments : List Segment
  left : List ℕ
  whole : texts segments ++ left ≡ rest
  cut : IsCut file before segments left
  ends : EndsAt file bytes before lines segments left answer

-- where the reader stands
record Stands (bytes before rest lines : List ℕ) (w : Where) : Type 0 where
  whole : before ++ rest ≡ bytes
  at : w.at ≡ length before
  place : w.place ≡ moved (length before) bytes start
  last : IsLast lines w.last w.place.line

module _ (file : ℕ) (bytes before rest lines : List ℕ) (w : Where) (st : Stands bytes before rest lines w) (s : Scan) (pos : 0 < s.len) (l : IsLongest rest s.len (Ok s.class)) where
  abbrev text : List ℕ
  text = take s.len rest

  text_len : length text ≡ s.len
  text_len = length-take s.len rest ∙ omega (arith, l.within)

  next_at : w.at + s.len ≡ length (before ++ text)
  next_at = let a = st.at in let t = text_len in simp length-append (omega (arith, a, t))

  next_whole : (before ++ text) ++ drop s.len rest ≡ bytes
  next_whole = append_assoc before text (drop s.len rest) ∙ ap (λ z. before ++ z) (take-append-drop s.len rest) ∙ st.whole

  next_place : moved s.len rest w.place ≡ moved (length (before ++ text)) bytes start
  next_place =
      let behind : drop (length before) bytes ≡ rest = ap (drop (length before)) (sym st.whole) ∙ drop-append_seam before rest in
      let len : length (before ++ text) ≡ length before + s.len = let t = text_len in simp length-append (omega (arith, t)) in
      ap (moved s.len rest) st.place ∙ ap (λ b. moved s.len b (moved (length before) bytes start)) (sym behind) ∙ sym (moved_add (length before) s.len bytes start)
      ∙ ap (λ n. moved n bytes start) (sym len)

  after_skip : Stands bytes (before ++ text) (drop s.len rest) lines (skipped s.len rest w)
  after_skip = record { whole = next_whole; at = next_at; place = next_place; last = last_later lines w.last w.place.line (moved s.len rest w.place).line st.last (moved_line s.len rest w.place) }

  after_token : Stands bytes (before ++ text) (drop s.len rest) (w.place.line ∷ lines) (passed s.len rest w)
  after_token = record { whole = next_whole; at = next_at; place = next_place; last = last_more lines w.last w.place.line (moved s.len rest w.place).line st.last (moved_line s.len rest w.place) }

  abbrev segment : Option Piece → Segment
  segment p = record { text = text; class = s.class; token = p }

  is_segment : (p : Option Piece) (ss : List Segment) (left : List ℕ) → texts ss ++ left ≡ drop s.len rest → valued file w.at s.class text ≡ Ok p → IsSegment file before (segment p) (texts ss ++ left)
  is_segment p ss left whole value = record {
    longest =
        let same : rest ≡ text ++ (texts ss ++ left) = sym (take-append-drop s.len rest) ∙ ap (λ z. text ++ z) (sym whole) in
        subst (λ b. IsLongest b (length text) (Ok s.class)) same (subst (λ n. IsLongest rest n (Ok s.class)) (sym text_len) l);
    value = ap (λ n. valued file n s.class text) (sym st.at) ∙ value;
  }

  joined : (p : Option Piece) (ss : List Segment) (left : List ℕ) → texts ss ++ left ≡ drop s.len rest → texts (segment p ∷ ss) ++ left ≡ rest
  joined p ss left whole = append_assoc text (texts ss) left ∙ ap (λ z. text ++ z) whole ∙ take-append-drop s.len rest

  skip_ends : (ss : List Segment) (left : List ℕ) (answer : Lexemes) → EndsAt file bytes (before ++ text) lines ss left answer → EndsAt file bytes before lines (segment None ∷ ss) left answer
  skip_ends ss [] (Ok ls) e = e
  skip_ends ss [] (Err r) e = e
  skip_ends ss (c ∷ left) (Ok ls) e = e
  skip_ends ss (c ∷ left) (Err r) e = subst (λ b. Stops file (length b) (c ∷ left) r) (append_assoc before text (texts ss)) e

  found_skip : (answer : Lexemes) → valued file w.at s.class text ≡ Ok None → Found file bytes (before ++ text) lines (drop s.len rest) answer → Found file bytes before lines rest answer
  found_skip answer value f = record {
    segments = segment None ∷ f.segments;
    left = f.left;
    whole = joined None f.segments f.left f.whole;
    cut = (is_segment None f.segments f.left f.whole value, f.cut);
    ends = skip_ends f.segments f.left answer f.ends;
  }

  -- the token of the piece as the whole cut says it
  token_is : (p : Piece) → lexeme_at file w s.len p ≡ placed file bytes before lines text p
  token_is p =
      let line : w.place.line ≡ (moved (length before) bytes start).line = ap (λ q. q.line) st.place in
      let column : w.place.column ≡ (moved (length before) bytes start).column = ap (λ q. q.column) st.place in
      let to : w.at + s.len ≡ length before + length text = let a = st.at in let t = text_len in omega (arith, a, t) in
      let now : w.place.line ≤ w.place.line = omega arith in
      let first : not (w.place.line == w.last) ≡ not (list_any (λ n. (moved (length before) bytes start).line == n) lines) =
      ap not (sym (st.last.seen w.place.line now) ∙ ap (λ k. list_any (λ n. k == n) lines) line) in
      λ i. record { piece = p; span = record { file = file; from = st.at i; to = to i }; line = line i; column = column i; first = first i }

  token_ends : (p : Piece) (ss : List Segment) (left : List ℕ) (answer : Lexemes) → EndsAt file bytes (before ++ text) (w.place.line ∷ lines) ss left answer
      → EndsAt file bytes before lines (segment (Some p) ∷ ss) left (onto (lexeme_at file w s.len p) answer)
  token_ends p ss [] (Ok ls) e =
      ap (λ z. z ∷ ls) (token_is p) ∙ ap (λ z. placed file bytes before lines text p ∷ z) (e ∙ ap (λ q. tokens_of file bytes (before ++ text) (q.line ∷ lines) ss) st.place)
  token_ends p ss [] (Err r) e = e
  token_ends p ss (c ∷ left) (Ok ls) e = e
  token_ends p ss (c ∷ left) (Err r) e = subst (λ b. Stops file (length b) (c ∷ left) r) (append_assoc before text (texts ss)) e

  found_token : (p : Piece) (answer : Lexemes) → valued file w.at s.class text ≡ Ok (Some p) → Found file bytes (before ++ text) (w.place.line ∷ lines) (drop s.len rest) answer
      → Found file bytes before lines rest (onto (lexeme_at file w s.len p) answer)
  found_token p answer value f = record {
    segments = segment (Some p) ∷ f.segments;
    left = f.left;
    whole = joined (Some p) f.segments f.left f.whole;
    cut = (is_segment (Some p) f.segments f.left f.whole value, f.cut);
    ends = token_ends p f.segments f.left answer f.ends;
  }

-- the reading stops here
found_stop : (file : ℕ) (bytes before : List ℕ) (c : ℕ) (rest lines : List ℕ) (r : Refusal) → Stops file (length before) (c ∷ rest) r → Found file bytes before lines (c ∷ rest) (Err r)
found_stop file bytes before c rest lines r stop = record {
  segments = [];
  left = c ∷ rest;
  whole = refl;
  cut = tt;
  ends = subst (λ b. Stops file (length b) (c ∷ rest) r) (sym (append-nil before)) stop;
}

-- the rest of a file is found, where it has at most n bytes
abbrev FoundBelow : ℕ → List ℕ → ℕ → Type 0
FoundBelow file bytes n = (before rest lines : List ℕ) (w : Where) → length rest ≤ n → Stands bytes before rest lines w → Found file bytes before lines rest (read_from file n w rest)

module _ (file : ℕ) (bytes : List ℕ) (n : ℕ) (more : FoundBelow file bytes n) (before : List ℕ) (c : ℕ) (rest lines : List ℕ) (w : Where) (le : length (c ∷ rest) ≤ suc n) (st : Stands bytes before (c ∷ rest) lines w) where
  on_valued : (s : Scan) (pos : 0 < s.len) (l : IsLongest (c ∷ rest) s.len (Ok s.class)) (v : Valued) → valued file w.at s.class (take s.len (c ∷ rest)) ≡ v
      → Found file bytes before lines (c ∷ rest) (on_value file w (c ∷ rest) s.len v (λ next. read_from file n next (drop s.len (c ∷ rest))))
  on_valued s pos l (Err r) e = found_stop file bytes before c rest lines r (no_value s.len s.class l (ap (λ k. valued file k s.class (take s.len (c ∷ rest))) (sym st.at) ∙ e))
  on_valued s pos l (Ok None) e = found_skip file bytes before (c ∷ rest) lines w st s pos l _ e
      (more (before ++ take s.len (c ∷ rest)) (drop s.len (c ∷ rest)) lines (skipped s.len (c ∷ rest) w)
      (omega (arith, length-drop s.len (c ∷ rest), pos)) (after_skip file bytes before (c ∷ rest) lines w st s pos l))
  on_valued s pos l (Ok (Some p)) e = found_token file bytes before (c ∷ rest) lines w st s pos l p _ e
      (more (before ++ take s.len (c ∷ rest)) (drop s.len (c ∷ rest)) (w.place.line ∷ lines) (passed s.len (c ∷ rest) w)
      (omega (arith, length-drop s.len (c ∷ rest), pos)) (after_token file bytes before (c ∷ rest) lines w st s pos l))

  on_sort : (o : Result Scan Wrong) → LongestOf (c ∷ rest) o → Found file bytes before lines (c ∷ rest) (on_scan file w (c ∷ rest) o (λ len next. read_from file n next (drop len (c ∷ rest))))
  on_sort (Err why) (inl (len, l)) = found_stop file bytes before c rest lines (refusal_of file w.at why) (no_token len why l (ap (λ k. refusal_of file k why) st.at))
  on_sort (Err why) (inr (none, e)) =
      found_stop file bytes before c rest lines (refusal_of file w.at why) (no_piece none (ap (λ k. refusal_of file k why) st.at ∙ ap (refusal_of file (length before)) e))
  on_sort (Ok s) l = on_valued s l.0 l.1 (valued file w.at s.class (take s.len (c ∷ rest))) refl

module _ (longest : (bytes : List ℕ) → LongestOf bytes (scan_at bytes)) (file : ℕ) (bytes : List ℕ) where
  found : (n : ℕ) → FoundBelow file bytes n
  found zero before [] lines w le st = record { segments = []; left = []; whole = refl; cut = tt; ends = refl }
  found zero before (c ∷ rest) lines w le st = absurd (omega arith)
  found (suc n) before [] lines w le st = record { segments = []; left = []; whole = refl; cut = tt; ends = refl }
  found (suc n) before (c ∷ rest) lines w le st = on_sort file bytes n (found n) before c rest lines w le st (scan_at (c ∷ rest)) (longest (c ∷ rest))

  ends_whole : (ss : List Segment) (rest : List ℕ) (answer : Lexemes) → EndsAt file bytes [] [] ss rest answer → Ends file bytes ss rest answer
  ends_whole ss [] (Ok ls) e = e
  ends_whole ss [] (Err r) e = e
  ends_whole ss (c ∷ rest) (Ok ls) e = e
  ends_whole ss (c ∷ rest) (Err r) e = e

  pub read_is : Reads file bytes (read file bytes)
  unfolding read
  read_is =
      let f = found (length bytes) [] bytes [] beginning (omega arith) (record { whole = refl; at = refl; place = refl; last = last_none 1 (omega arith) }) in
      record { segments = f.segments; rest = f.left; whole = f.whole; cut = f.cut; ends = ends_whole f.segments f.left (read_from file (length bytes) beginning bytes) f.ends }
