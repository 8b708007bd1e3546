-- What the loop over a file keeps.
use Rattle.std.proofs.Common.{◌≡◌, ℕ, zero, suc, ◌+◌, ◌*◌, ◌<◌, ◌≤◌, List, [], ◌∷◌, ◌++◌, length, take, drop, Some, None, Ok, Err, refl, sym, ap, ◌∙◌, arith, append_assoc, length-drop, drop-drop, append-nil}
use Rattle.std.proofs.lemmas.List.{map-append, drop_all}
use Rattle.gh_base.specs.Table.{IsGrown}
use Rattle.gh_base.specs.declared.refusal.Refusal.{Refusal}
use Rattle.gh_lexer.specs.declared.place.Place.{Place}
use Rattle.gh_lexer.specs.declared.scan.Scan.{Scan}
use Rattle.gh_lexer.specs.declared.scan.Wrong.{Wrong}
use Rattle.gh_lexer.specs.declared.token.Token.{Token}
use Rattle.gh_lexer.specs.Lexeme.{Lexeme}
use Rattle.gh_lexer.specs.Place.{moved}
use Rattle.gh_lexer.specs.Scan.{scan_at}
use Rattle.gh_lexer.specs.Reading.{Where, Lexemes, Valued, valued, refusal_of, lexeme_at, skipped, passed, onto, on_value, on_scan, read_from, beginning, read, after}
use Rattle.gh_lexer.specs.Seen.{Table, piece_in, lexeme_in, lexemes_in, IdsPlaced, AllPlaced}
use Rattle.gh_lexer.proofs.Literals.{front_at}
use Rattle.gh_lexer.proofs.Tables.{kept_all, kept_lexemes, placed_push}

abbrev pub where_at : ℕ → Place → ℕ → Where
where_at at place last = record { at = at; place = place; last = last }

-- up to a place, the tokens are read
pub record Lexed (file : ℕ) (bytes : List ℕ) (table : Table) (tokens : List Token) (w : Where) : Type 0 where
  pub ids : AllPlaced table tokens
  pub within : w.at ≤ length bytes
  pub line : w.place.line ≤ w.at + 1
  pub column : w.place.column ≤ 8 * w.at + 1
  pub fuel : ℕ
  pub enough : length bytes ≤ w.at + fuel
  pub reads : read_from file (length bytes) beginning bytes ≡ after (lexemes_in table tokens) (read_from file fuel w (drop w.at bytes))

after_none : (r : Lexemes) → after [] r ≡ r
after_none (Ok ts) = refl
after_none (Err r) = refl

after_one : (ts : List Lexeme) (t : Lexeme) (r : Lexemes) → after ts (onto t r) ≡ after (ts ++ t ∷ []) r
after_one ts t (Ok more) = ap Ok (sym (append_assoc ts (t ∷ []) more))
after_one ts t (Err r) = refl

pub started : (file : ℕ) (bytes : List ℕ) (table : Table) → Lexed file bytes table [] beginning
started file bytes table = record { ids = tt; within = omega arith; line = omega arith; column = omega arith; fuel = length bytes; enough = omega arith; reads = sym (after_none _) }

-- one step of the reading
module _ (file : ℕ) (bytes : List ℕ) (w : Where) (lt : w.at < length bytes) where
  step : (n : ℕ) → read_from file (suc n) w (drop w.at bytes) ≡ on_scan file w (drop w.at bytes) (scan_at (drop w.at bytes)) (λ len next. read_from file n next (drop len (drop w.at bytes)))
  step n = ap (read_from file (suc n) w) (front_at bytes w.at lt)
      ∙ ap (λ b. on_scan file w b (scan_at b) (λ len next. read_from file n next (drop len b))) (sym (front_at bytes w.at lt))

  module _ (table : Table) (ts : List Token) (l : Lexed file bytes table ts w) where
    go : (A : Type 0) → ((n : ℕ) → length bytes ≤ w.at + suc n
        → read_from file (length bytes) beginning bytes ≡ after (lexemes_in table ts) (on_scan file w (drop w.at bytes) (scan_at (drop w.at bytes)) (λ len next. read_from file n next (drop len (drop w.at bytes)))) → A) → A
    go A f = by l.fuel l.enough l.reads
      where
        by : (n : ℕ) → length bytes ≤ w.at + n → read_from file (length bytes) beginning bytes ≡ after (lexemes_in table ts) (read_from file n w (drop w.at bytes)) → A
        by zero e r = absurd (omega arith)
        by (suc n) e r = f n e (r ∙ ap (after (lexemes_in table ts)) (step n))

    pub refused_here : (why : Wrong) → scan_at (drop w.at bytes) ≡ Err why → read file bytes ≡ Err (refusal_of file w.at why)
    unfolding read
    refused_here why e = go (read_from file (length bytes) beginning bytes ≡ Err (refusal_of file w.at why))
        (λ n en r. r ∙ ap (λ s. after (lexemes_in table ts) (on_scan file w (drop w.at bytes) s (λ len next. read_from file n next (drop len (drop w.at bytes))))) e)

    module _ (s : Scan) (found : scan_at (drop w.at bytes) ≡ Ok s) (pos : 0 < s.len) (in_bounds : s.len ≤ length (drop w.at bytes)) where
      abbrev value : Valued
      value = valued file w.at s.class (take s.len (drop w.at bytes))

      pub refused_value : (r : Refusal) → value ≡ Err r → read file bytes ≡ Err r
      unfolding read
      refused_value r e = go (read_from file (length bytes) beginning bytes ≡ Err r)
          (λ n en h. h ∙ ap (λ x. after (lexemes_in table ts) (on_scan file w (drop w.at bytes) x (λ len next. read_from file n next (drop len (drop w.at bytes))))) found
          ∙ ap (λ v. after (lexemes_in table ts) (on_value file w (drop w.at bytes) s.len v (λ next. read_from file n next (drop s.len (drop w.at bytes))))) e)

      module _ (place : Place) (is_place : place ≡ moved s.len (drop w.at bytes) w.place) (line : place.line ≤ w.place.line + s.len) (column : place.column ≤ w.place.column + 8 * s.len)
          (new : Table) (g : IsGrown table new) where
        pub skip_step : value ≡ Ok None → Lexed file bytes new ts (where_at (w.at + s.len) place w.last)
        skip_step e = go (Lexed file bytes new ts (where_at (w.at + s.len) place w.last)) (λ n en h. record {
          ids = kept_all table new g ts l.ids;
          within = omega (arith, length-drop w.at bytes, in_bounds, l.within);
          line = omega (arith, l.line);
          column = omega (arith, l.column);
          fuel = n;
          enough = omega arith;
          reads = h ∙ ap (λ x. after (lexemes_in table ts) (on_scan file w (drop w.at bytes) x (λ len next. read_from file n next (drop len (drop w.at bytes))))) found
              ∙ ap (λ v. after (lexemes_in table ts) (on_value file w (drop w.at bytes) s.len v (λ next. read_from file n next (drop s.len (drop w.at bytes))))) e
              ∙ ap (λ b. after (lexemes_in table ts) (read_from file n (skipped s.len (drop w.at bytes) w) b)) (drop-drop s.len w.at bytes)
              ∙ ap (λ p. after (lexemes_in table ts) (read_from file n (where_at (w.at + s.len) p w.last) (drop (w.at + s.len) bytes))) (sym is_place)
              ∙ ap (λ ls. after ls (read_from file n (where_at (w.at + s.len) place w.last) (drop (w.at + s.len) bytes))) (sym (kept_lexemes table new g ts l.ids));
        })

        pub token_step : (t : Token) → value ≡ Ok (Some (piece_in new t.kind)) → IdsPlaced new t.kind → lexeme_in new t ≡ lexeme_at file w s.len (piece_in new t.kind)
            → Lexed file bytes new (ts ++ t ∷ []) (where_at (w.at + s.len) place w.place.line)
        token_step t e ids same = go (Lexed file bytes new (ts ++ t ∷ []) (where_at (w.at + s.len) place w.place.line)) (λ n en h. record {
          ids = placed_push new ts t (kept_all table new g ts l.ids) ids;
          within = omega (arith, length-drop w.at bytes, in_bounds, l.within);
          line = omega (arith, l.line);
          column = omega (arith, l.column);
          fuel = n;
          enough = omega arith;
          reads = h ∙ ap (λ x. after (lexemes_in table ts) (on_scan file w (drop w.at bytes) x (λ len next. read_from file n next (drop len (drop w.at bytes))))) found
              ∙ ap (λ v. after (lexemes_in table ts) (on_value file w (drop w.at bytes) s.len v (λ next. read_from file n next (drop s.len (drop w.at bytes))))) e
              ∙ ap (λ b. after (lexemes_in table ts) (onto (lexeme_at file w s.len (piece_in new t.kind)) (read_from file n (passed s.len (drop w.at bytes) w) b))) (drop-drop s.len w.at bytes)
              ∙ ap (λ p. after (lexemes_in table ts) (onto (lexeme_at file w s.len (piece_in new t.kind)) (read_from file n (where_at (w.at + s.len) p w.place.line) (drop (w.at + s.len) bytes)))) (sym is_place)
              ∙ after_one (lexemes_in table ts) (lexeme_at file w s.len (piece_in new t.kind)) (read_from file n (where_at (w.at + s.len) place w.place.line) (drop (w.at + s.len) bytes))
              ∙ ap (λ ls. after ls (read_from file n (where_at (w.at + s.len) place w.place.line) (drop (w.at + s.len) bytes)))
              (ap (λ x. lexemes_in table ts ++ x ∷ []) (sym same) ∙ ap (λ ls. ls ++ lexeme_in new t ∷ []) (sym (kept_lexemes table new g ts l.ids)) ∙ sym (map-append (lexeme_in new) ts (t ∷ [])));
        })

pub finished : (file : ℕ) (bytes : List ℕ) (table : Table) (ts : List Token) (w : Where) → Lexed file bytes table ts w → length bytes ≤ w.at → read file bytes ≡ Ok (lexemes_in table ts)
unfolding read
finished file bytes table ts w l le = l.reads ∙ ap (λ b. after (lexemes_in table ts) (read_from file l.fuel w b)) (drop_all w.at bytes le)
    ∙ ap (after (lexemes_in table ts)) (nothing l.fuel) ∙ ap Ok (append-nil (lexemes_in table ts))
  where
    nothing : (n : ℕ) → read_from file n w [] ≡ Ok []
    nothing zero = refl
    nothing (suc n) = refl
