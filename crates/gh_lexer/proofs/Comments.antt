-- Comments that nest, step by step.
use Rattle.std.proofs.Common.{◌≡◌, ℕ, zero, suc, ◌+◌, ◌-◌, ◌<◌, ◌≤◌, Bool, true, false, ◌&&◌, ◌==◌, if◌then◌else◌, List, [], ◌∷◌, length, drop, get_or, Option, Some, None, option_map, refl, ap, ◌∙◌, arith, drop-drop}
use Rattle.std.proofs.lemmas.List.{drop_all}
use Rattle.gh_lexer.specs.Chars.{begins}
use Rattle.gh_lexer.specs.Scan.{comment_end, closing}
use Rattle.gh_lexer.proofs.Literals.{plus, plus_suc, front_at}

abbrev step : ℕ → List ℕ → Bool → Bool → Option ℕ
step depth rest close opens =
    if close then closing depth (λ outer. comment_end true outer rest)
    else (if opens then option_map (λ n. suc n) (comment_end true (suc depth) rest)
    else option_map (λ n. suc n) (comment_end false depth rest))

at_front : (bytes : List ℕ) (at depth : ℕ) → at < length bytes
    → comment_end false depth (drop at bytes) ≡ step depth (drop (at + 1) bytes) (get_or bytes at 0 == 45 && begins 125 (drop (at + 1) bytes)) (get_or bytes at 0 == 123 && begins 45 (drop (at + 1) bytes))
at_front bytes at depth h = ap (comment_end false depth) (front_at bytes at h)

-- the second byte of a mark is passed
second : (depth c : ℕ) (rest : List ℕ) → begins c rest ≡ true → comment_end true depth rest ≡ option_map (λ n. suc n) (comment_end false depth (drop 1 rest))
second depth c [] h = absurd (cc)
second depth c (d ∷ rest) h = refl

pub begins_some : (c : ℕ) (rest : List ℕ) → begins c rest ≡ true → 0 < length rest
begins_some c [] h = absurd (cc)
begins_some c (d ∷ rest) h = omega arith

plus_two : (n : ℕ) (o : Option ℕ) → plus n (option_map (λ k. suc k) (option_map (λ k. suc k) o)) ≡ plus (n + 2) o
plus_two n None = refl
plus_two n (Some k) = ap Some (omega arith)

module _ (bytes : List ℕ) (at depth : ℕ) (h : at < length bytes) where
  pub comment_on : get_or bytes at 0 == 45 && begins 125 (drop (at + 1) bytes) ≡ false → get_or bytes at 0 == 123 && begins 45 (drop (at + 1) bytes) ≡ false
      → plus at (comment_end false depth (drop at bytes)) ≡ plus (at + 1) (comment_end false depth (drop (at + 1) bytes))
  comment_on no_close no_open =
      ap (plus at) (at_front bytes at depth h ∙ ap (λ b. step depth (drop (at + 1) bytes) b (get_or bytes at 0 == 123 && begins 45 (drop (at + 1) bytes))) no_close ∙ ap (step depth (drop (at + 1) bytes) false) no_open)
      ∙ plus_suc at (comment_end false depth (drop (at + 1) bytes))

  pub comment_opens : get_or bytes at 0 == 45 && begins 125 (drop (at + 1) bytes) ≡ false → get_or bytes at 0 == 123 && begins 45 (drop (at + 1) bytes) ≡ true
      → begins 45 (drop (at + 1) bytes) ≡ true
      → plus at (comment_end false depth (drop at bytes)) ≡ plus (at + 2) (comment_end false (depth + 1) (drop (at + 2) bytes))
  comment_opens no_close opens next =
      let deeper : suc depth ≡ depth + 1 = omega arith in
      let far : at + 1 + 1 ≡ at + 2 = omega arith in
      ap (plus at) (at_front bytes at depth h ∙ ap (λ b. step depth (drop (at + 1) bytes) b (get_or bytes at 0 == 123 && begins 45 (drop (at + 1) bytes))) no_close ∙ ap (step depth (drop (at + 1) bytes) false) opens
      ∙ ap (option_map (λ n. suc n)) (second (suc depth) 45 (drop (at + 1) bytes) next))
      ∙ plus_two at (comment_end false (suc depth) (drop 1 (drop (at + 1) bytes)))
      ∙ ap (λ d. plus (at + 2) (comment_end false d (drop 1 (drop (at + 1) bytes)))) deeper
      ∙ ap (λ xs. plus (at + 2) (comment_end false (depth + 1) xs)) (drop-drop 1 (at + 1) bytes ∙ ap (λ n. drop n bytes) far)

  pub comment_closes : get_or bytes at 0 == 45 && begins 125 (drop (at + 1) bytes) ≡ true → begins 125 (drop (at + 1) bytes) ≡ true → 0 < depth
      → plus at (comment_end false depth (drop at bytes)) ≡ plus (at + 2) (comment_end false (depth - 1) (drop (at + 2) bytes))
  comment_closes close next some = go depth some (ap (plus at) (at_front bytes at depth h ∙ ap (λ b. step depth (drop (at + 1) bytes) b (get_or bytes at 0 == 123 && begins 45 (drop (at + 1) bytes))) close))
    where
      go : (d : ℕ) → 0 < d → plus at (comment_end false depth (drop at bytes)) ≡ plus at (closing d (λ outer. comment_end true outer (drop (at + 1) bytes)))
          → plus at (comment_end false depth (drop at bytes)) ≡ plus (at + 2) (comment_end false (d - 1) (drop (at + 2) bytes))
      go zero pos e = absurd (omega arith)
      go (suc d) pos e =
          let less : d ≡ suc d - 1 = omega arith in
          let far : at + 1 + 1 ≡ at + 2 = omega arith in
          e ∙ ap (λ o. plus at (option_map (λ n. suc n) o)) (second d 125 (drop (at + 1) bytes) next)
          ∙ plus_two at (comment_end false d (drop 1 (drop (at + 1) bytes)))
          ∙ ap (λ n. plus (at + 2) (comment_end false n (drop 1 (drop (at + 1) bytes)))) less
          ∙ ap (λ xs. plus (at + 2) (comment_end false (suc d - 1) xs)) (drop-drop 1 (at + 1) bytes ∙ ap (λ n. drop n bytes) far)

  pub comment_ends : get_or bytes at 0 == 45 && begins 125 (drop (at + 1) bytes) ≡ true → depth ≡ 0 → plus at (comment_end false depth (drop at bytes)) ≡ Some (at + 2)
  comment_ends close none =
      ap (plus at) (at_front bytes at depth h ∙ ap (λ b. step depth (drop (at + 1) bytes) b (get_or bytes at 0 == 123 && begins 45 (drop (at + 1) bytes))) close
      ∙ ap (λ d. closing d (λ outer. comment_end true outer (drop (at + 1) bytes))) none)

pub comment_none : (bytes : List ℕ) (at depth : ℕ) → length bytes ≤ at → plus at (comment_end false depth (drop at bytes)) ≡ None
comment_none bytes at depth h = ap (λ xs. plus at (comment_end false depth xs)) (drop_all at bytes h)
