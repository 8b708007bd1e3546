-- Numbers and strings, step by step.
use Rattle.std.proofs.Common.{◌≡◌, ℕ, zero, suc, ◌+◌, ◌-◌, ◌*◌, ◌^◌, ◌<◌, ◌≤◌, Bool, true, false, ◌==◌, nat_lt, if◌then◌else◌, List, [], ◌∷◌, ◌++◌, length, drop, get_or, Option, Some, None, option_map, Result, Ok, Err, refl, sym, ap, ◌∙◌, arith, add-one, append_assoc, drop-drop, append-nil}
use Rattle.std.proofs.Math.Seq.{drop-cons}
use Rattle.std.proofs.lemmas.Bool.{ltb-false, le-ltb}
use Rattle.std.proofs.lemmas.List.{drop_all}
use Rattle.gh_lexer.specs.declared.scan.Item.{Item}
use Rattle.gh_lexer.specs.declared.scan.Meaning.{Meaning}
use Rattle.gh_lexer.specs.declared.scan.Meaning.TheVariants as meaning
use Rattle.gh_lexer.specs.declared.scan.Escape.{Escape}
use Rattle.gh_lexer.specs.Literal.{value_on, digit_value, fits, item_at, close_at, on_item, spelled_from, on_next, on_meaning, and_char}

-- digits never make a value less
pub value_grows : (base v : ℕ) (ds : List ℕ) → 0 < base → v ≤ value_on base v ds
value_grows base v [] h = omega arith
value_grows zero v (c ∷ cs) h = absurd (omega arith)
value_grows (suc b) v (c ∷ cs) h =
    let more = value_grows (suc b) (v * suc b + digit_value c) cs h in
    let wide : v * suc b ≡ v * b + v = omega arith in
    omega arith

fits_none : (b : Bool) (n : ℕ) → let none : Option ℕ = None in (if b then Some n else None) ≡ none → b ≡ false
fits_none true n h = absurd (cc)
fits_none false n h = refl

-- a value that is too great stays so
pub too_great : (base v : ℕ) (ds : List ℕ) → 0 < base → fits v ≡ None → fits (value_on base v ds) ≡ None
too_great base v ds h e =
    let low = ltb-false v (2 ^ 63) (fits_none (nat_lt v (2 ^ 63)) v e) in
    let high = value_grows base v ds h in
    ap (λ b. if b then Some (value_on base v ds) else None) (le-ltb (value_on base v ds) (2 ^ 63) (omega arith))

-- a length that is counted from a place on
abbrev pub plus : ℕ → Option ℕ → Option ℕ
plus n o = option_map (λ k. n + k) o

pub plus_zero : (o : Option ℕ) → plus 0 o ≡ o
plus_zero None = refl
plus_zero (Some k) = ap Some (omega arith)

pub plus_suc : (n : ℕ) (o : Option ℕ) → plus n (option_map (λ k. suc k) o) ≡ plus (n + 1) o
plus_suc n None = refl
plus_suc n (Some k) = ap Some (omega arith)

pub plus_plus : (m n : ℕ) (o : Option ℕ) → plus m (plus n o) ≡ plus (m + n) o
plus_plus m n None = refl
plus_plus m n (Some k) = ap Some (omega arith)

suc_plus : (n : ℕ) (o : Option ℕ) → option_map (λ k. suc k) (plus n o) ≡ plus (suc n) o
suc_plus n None = refl
suc_plus n (Some k) = ap Some (omega arith)

-- what is left of an item is passed
pub close_skip : (k : ℕ) (xs : List ℕ) → close_at k xs ≡ plus k (close_at 0 (drop k xs))
close_skip zero xs = sym (plus_zero (close_at 0 xs))
close_skip (suc k) [] = refl
close_skip (suc k) (x ∷ xs) = ap (option_map (λ n. suc n)) (close_skip k xs) ∙ suc_plus k (close_at 0 (drop k xs))

pub front_at : (bytes : List ℕ) (at : ℕ) → at < length bytes → drop at bytes ≡ get_or bytes at 0 ∷ drop (at + 1) bytes
front_at bytes at h = rw (add-one, drop-cons bytes at 0)

-- a closing quote
pub close_here : (bytes : List ℕ) (at : ℕ) → at < length bytes → get_or bytes at 0 == 34 ≡ true → close_at 0 (drop at bytes) ≡ Some 1
close_here bytes at h q =
    ap (close_at 0) (front_at bytes at h)
    ∙ ap (λ b. if b then Some 1 else on_item (item_at (get_or bytes at 0 ∷ drop (at + 1) bytes)) (λ skip. close_at skip (drop (at + 1) bytes))) q

-- an item, or none, that begins with no quote
pub close_item : (bytes : List ℕ) (at : ℕ) → at < length bytes → get_or bytes at 0 == 34 ≡ false
    → close_at 0 (drop at bytes) ≡ on_item (item_at (drop at bytes)) (λ skip. close_at skip (drop (at + 1) bytes))
close_item bytes at h q =
    ap (close_at 0) (front_at bytes at h)
    ∙ ap (λ b. if b then Some 1 else on_item (item_at (get_or bytes at 0 ∷ drop (at + 1) bytes)) (λ skip. close_at skip (drop (at + 1) bytes))) q
    ∙ ap (λ xs. on_item (item_at xs) (λ skip. close_at skip (drop (at + 1) bytes))) (sym (front_at bytes at h))

pub close_none : (bytes : List ℕ) (at : ℕ) → at < length bytes → get_or bytes at 0 == 34 ≡ false → item_at (drop at bytes) ≡ None → close_at 0 (drop at bytes) ≡ None
close_none bytes at h q e = close_item bytes at h q ∙ ap (λ o. on_item o (λ skip. close_at skip (drop (at + 1) bytes))) e

pub close_step : (bytes : List ℕ) (at : ℕ) (i : Item) → at < length bytes → get_or bytes at 0 == 34 ≡ false → item_at (drop at bytes) ≡ Some i → 1 ≤ i.len
    → close_at 0 (drop at bytes) ≡ plus i.len (close_at 0 (drop (at + i.len) bytes))
close_step bytes at i h q e pos =
    let same : at + 1 + (i.len - 1) ≡ at + i.len = omega arith in
    let long : suc (i.len - 1) ≡ i.len = omega arith in
    close_item bytes at h q ∙ ap (λ o. on_item o (λ skip. close_at skip (drop (at + 1) bytes))) e
    ∙ ap (option_map (λ n. suc n)) (close_skip (i.len - 1) (drop (at + 1) bytes))
    ∙ suc_plus (i.len - 1) (close_at 0 (drop (i.len - 1) (drop (at + 1) bytes)))
    ∙ ap (λ n. plus n (close_at 0 (drop (i.len - 1) (drop (at + 1) bytes)))) long
    ∙ ap (λ xs. plus i.len (close_at 0 xs)) (drop-drop (i.len - 1) (at + 1) bytes ∙ ap (λ n. drop n bytes) same)

pub close_end : (bytes : List ℕ) (at : ℕ) → length bytes ≤ at → close_at 0 (drop at bytes) ≡ None
close_end bytes at h = ap (close_at 0) (drop_all at bytes h)

abbrev pub Spelled : Type 0
Spelled = Result (List ℕ) Escape

-- characters, and then what else is spelled
abbrev pub after_chars : List ℕ → Spelled → Spelled
after_chars cs (Ok more) = Ok (cs ++ more)
after_chars cs (Err bad) = Err bad

pub after_none : (r : Spelled) → after_chars [] r ≡ r
after_none (Ok cs) = refl
after_none (Err bad) = refl

after_one : (cs : List ℕ) (c : ℕ) (r : Spelled) → after_chars cs (and_char c r) ≡ after_chars (cs ++ c ∷ []) r
after_one cs c (Ok more) = ap Ok (sym (append_assoc cs (c ∷ []) more))
after_one cs c (Err bad) = refl

spell_skip : (k at : ℕ) (xs : List ℕ) → spelled_from k at xs ≡ spelled_from 0 (at + k) (drop k xs)
spell_skip zero at xs = ap (λ n. spelled_from 0 n xs) (omega arith)
spell_skip (suc k) at [] = refl
spell_skip (suc k) at (x ∷ xs) =
    let same : at + 1 + k ≡ at + suc k = omega arith in
    spell_skip k (at + 1) xs ∙ ap (λ n. spelled_from 0 n (drop k xs)) same

spell_item : (bytes : List ℕ) (at : ℕ) → at < length bytes
    → spelled_from 0 (at + 1) (drop at bytes) ≡ on_next (item_at (drop at bytes)) (at + 1) (λ skip. spelled_from skip (at + 1 + 1) (drop (at + 1) bytes))
spell_item bytes at h =
    ap (spelled_from 0 (at + 1)) (front_at bytes at h)
    ∙ ap (λ xs. on_next (item_at xs) (at + 1) (λ skip. spelled_from skip (at + 1 + 1) (drop (at + 1) bytes))) (sym (front_at bytes at h))

pub spell_none : (bytes : List ℕ) (at : ℕ) → at < length bytes → item_at (drop at bytes) ≡ None → spelled_from 0 (at + 1) (drop at bytes) ≡ Ok []
spell_none bytes at h e = spell_item bytes at h ∙ ap (λ o. on_next o (at + 1) (λ skip. spelled_from skip (at + 1 + 1) (drop (at + 1) bytes))) e

pub spell_step : (bytes : List ℕ) (at : ℕ) (i : Item) → at < length bytes → item_at (drop at bytes) ≡ Some i → 1 ≤ i.len
    → spelled_from 0 (at + 1) (drop at bytes) ≡ on_meaning i.meaning (at + 1) i.len (spelled_from 0 (at + i.len + 1) (drop (at + i.len) bytes))
spell_step bytes at i h e pos =
    let same : at + 1 + (i.len - 1) ≡ at + i.len = omega arith in
    let place : at + 1 + 1 + (i.len - 1) ≡ at + i.len + 1 = omega arith in
    spell_item bytes at h ∙ ap (λ o. on_next o (at + 1) (λ skip. spelled_from skip (at + 1 + 1) (drop (at + 1) bytes))) e
    ∙ ap (on_meaning i.meaning (at + 1) i.len)
    (spell_skip (i.len - 1) (at + 1 + 1) (drop (at + 1) bytes)
    ∙ ap (λ n. spelled_from 0 n (drop (i.len - 1) (drop (at + 1) bytes))) place
    ∙ ap (spelled_from 0 (at + i.len + 1)) (drop-drop (i.len - 1) (at + 1) bytes ∙ ap (λ n. drop n bytes) same))

pub spell_end : (bytes : List ℕ) (at : ℕ) → length bytes ≤ at → spelled_from 0 (at + 1) (drop at bytes) ≡ Ok []
spell_end bytes at h = ap (spelled_from 0 (at + 1)) (drop_all at bytes h)

-- what the characters so far and the rest give
pub spelled_char : (cs : List ℕ) (m : Meaning) (at len c : ℕ) (r : Spelled) → m ≡ meaning.Char c → after_chars cs (on_meaning m at len r) ≡ after_chars (cs ++ c ∷ []) r
spelled_char cs m at len c r e = ap (λ x. after_chars cs (on_meaning x at len r)) e ∙ after_one cs c r

pub spelled_nothing : (cs : List ℕ) (m : Meaning) (at len : ℕ) (r : Spelled) → m ≡ meaning.Nothing → after_chars cs (on_meaning m at len r) ≡ after_chars cs r
spelled_nothing cs m at len r e = ap (λ x. after_chars cs (on_meaning x at len r)) e

pub spelled_bad : (cs : List ℕ) (m : Meaning) (at len : ℕ) (r : Spelled) → m ≡ meaning.TooGreat → after_chars cs (on_meaning m at len r) ≡ Err (record { from = at; to = at + len })
spelled_bad cs m at len r e = ap (λ x. after_chars cs (on_meaning x at len r)) e

pub spelled_all : (cs : List ℕ) → after_chars cs (Ok []) ≡ Ok cs
spelled_all cs = ap Ok (append-nil cs)
