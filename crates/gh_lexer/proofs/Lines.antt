-- Lines and columns of places in a file, and the lines on which earlier tokens begin.
use Rattle.std.proofs.Common.{◌≡◌, ℕ, zero, suc, ◌+◌, ◌≤◌, Bool, true, false, ◌||◌, ◌==◌, List, [], ◌∷◌, drop, refl, sym, ap, ◌∙◌, arith, if◌then◌else◌}
use Rattle.std.proofs.lemmas.Bool.{ne_eqb, eqb-false}
use Rattle.std.specs.List.{list_any}
use Rattle.gh_lexer.specs.declared.place.Place.{Place}
use Rattle.gh_lexer.specs.Chars.{begins}
use Rattle.gh_lexer.specs.Place.{past, moved, next_line, is_continued}

moved_nil : (n : ℕ) (p : Place) → moved n [] p ≡ p
moved_nil zero p = refl
moved_nil (suc n) p = refl

pub moved_add : (a b : ℕ) (bytes : List ℕ) (p : Place) → moved (a + b) bytes p ≡ moved b (drop a bytes) (moved a bytes p)
moved_add zero b bytes p = let same : 0 + b ≡ b = omega arith in ap (λ n. moved n bytes p) same
moved_add (suc a) b [] p = moved_nil (suc a + b) p ∙ sym (moved_nil b p)
moved_add (suc a) b (c ∷ rest) p =
    let same : suc a + b ≡ suc (a + b) = omega arith in
    ap (λ n. moved n (c ∷ rest) p) same ∙ moved_add a b rest (past c rest p)

choice_line : (b : Bool) (p q r : Place) → r.line ≤ p.line → r.line ≤ q.line → r.line ≤ (if b then p else q).line
choice_line true p q r h k = h
choice_line false p q r h k = k

past_line : (c : ℕ) (rest : List ℕ) (p : Place) → p.line ≤ (past c rest p).line
unfolding past
past_line c rest p =
    let next : p.line ≤ p.line + 1 = omega arith in
    let same : p.line ≤ p.line = omega arith in
    choice_line (c == 10 || c == 12) (next_line p) _ p next
    (choice_line (c == 13) (if begins 10 rest then p else next_line p) _ p (choice_line (begins 10 rest) p (next_line p) p same next)
    (choice_line (c == 9) _ _ p same (choice_line (is_continued c) p _ p same same)))

pub moved_line : (n : ℕ) (bytes : List ℕ) (p : Place) → p.line ≤ (moved n bytes p).line
moved_line zero bytes p = omega arith
moved_line (suc n) [] p = omega arith
moved_line (suc n) (c ∷ rest) p = let one = past_line c rest p in let more = moved_line n rest (past c rest p) in omega arith

-- among the lines of earlier tokens a line from the present one on is the last one or none
pub record IsLast (lines : List ℕ) (last now : ℕ) : Type 0 where
  pub bound : last ≤ now
  pub seen : (line : ℕ) → now ≤ line → list_any (λ l. line == l) lines ≡ (line == last)

pub last_none : (now : ℕ) → 1 ≤ now → IsLast [] 0 now
last_none now h = record { bound = omega arith; seen = λ line le. let other : line ≡ 0 → ⊥ = λ e. omega arith in sym (ne_eqb line 0 other) }

pub last_later : (lines : List ℕ) (last now next : ℕ) → IsLast lines last now → now ≤ next → IsLast lines last next
last_later lines last now next l h = record { bound = omega (arith, l.bound); seen = λ line le. l.seen line (omega arith) }

pub last_more : (lines : List ℕ) (last now next : ℕ) → IsLast lines last now → now ≤ next → IsLast (now ∷ lines) now next
last_more lines last now next l h = record { bound = h; seen = λ line le. by line (omega arith) (line == now) refl }
  where
    by : (line : ℕ) → now ≤ line → (b : Bool) → line == now ≡ b → list_any (λ n. line == n) (now ∷ lines) ≡ (line == now)
    by line le true e = ap (λ b. b || list_any (λ n. line == n) lines) e ∙ sym e
    by line le false e =
        let apart = eqb-false line now e in
        let other : line ≡ last → ⊥ = λ same. let k = l.bound in apart (omega (arith, k)) in
        ap (λ b. b || list_any (λ n. line == n) lines) e ∙ l.seen line le ∙ ne_eqb line last other ∙ sym e
