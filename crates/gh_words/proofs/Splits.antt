-- The options and positionals so far, and then the rest.
use Rattle.std.proofs.Common.{◌≡◌, ℕ, drop, if◌then◌else◌, Bool, true, false, List, [], ◌∷◌, ◌++◌, Option, Some, None, refl, sym, ap, ◌∙◌, append_assoc, append-nil}
use Rattle.std.specs.Prelude.{codes, nat_eq}
use Rattle.std.specs.List.{starts_with}
use Rattle.std.specs.Str.{bytes_eq}
use Rattle.gh_words.specs.Words.{with_steps, with_positional, is_option, split_of}
use Rattle.gh_words.specs.declared.words.Arguments.{Arguments}

abbrev pub after_split : List (List ℕ) → List (List ℕ) → Option Arguments → Option Arguments
after_split steps positionals None = None
after_split steps positionals (Some s) = Some (record { steps = steps ++ s.steps; positionals = positionals ++ s.positionals })

pub after_steps : (steps positionals : List (List ℕ)) (v : List ℕ) (o : Option Arguments) → after_split steps positionals (with_steps v o) ≡ after_split (steps ++ v ∷ []) positionals o
after_steps steps positionals v None = refl
after_steps steps positionals v (Some s) = ap (λ x. Some (record { steps = x; positionals = positionals ++ s.positionals })) (sym (append_assoc steps (v ∷ []) s.steps))

pub after_positional : (steps positionals : List (List ℕ)) (w : List ℕ) (o : Option Arguments) → after_split steps positionals (with_positional w o) ≡ after_split steps (positionals ++ w ∷ []) o
after_positional steps positionals w None = refl
after_positional steps positionals w (Some s) = ap (λ x. Some (record { steps = steps ++ s.steps; positionals = x })) (sym (append_assoc positionals (w ∷ []) s.positionals))

pub after_end : (steps positionals : List (List ℕ)) → after_split steps positionals (Some (record { steps = []; positionals = [] })) ≡ Some (record { steps = steps; positionals = positionals })
after_end steps positionals i = Some (record { steps = append-nil steps i; positionals = append-nil positionals i })

pub after_rest : (steps positionals rest : List (List ℕ)) → after_split steps positionals (Some (record { steps = []; positionals = rest })) ≡ Some (record { steps = steps; positionals = positionals ++ rest })
after_rest steps positionals rest i = Some (record { steps = append-nil steps i; positionals = positionals ++ rest })

pub after_start : (o : Option Arguments) → after_split [] [] o ≡ o
after_start None = refl
after_start (Some s) = refl

abbrev plain : Bool → Bool → Bool → Bool → List ℕ → List (List ℕ) → Option Arguments
plain last option value unknown w words =
    if last then Some (record { steps = []; positionals = words })
    else (if option then split_of true words
    else (if value then with_steps (drop 8 w) (split_of false words)
    else (if unknown then None else with_positional w (split_of false words))))

abbrev pub is_last : List ℕ → Bool
is_last w = bytes_eq w (codes "--")

abbrev pub is_steps : List ℕ → Bool
is_steps w = bytes_eq w (codes "--steps")

abbrev pub has_value : List ℕ → Bool
has_value w = starts_with nat_eq w (codes "--steps=")

module _ (steps positionals : List (List ℕ)) (w : List ℕ) (rest : List (List ℕ)) where
  pub at_value : after_split steps positionals (split_of true (w ∷ rest)) ≡ after_split (steps ++ w ∷ []) positionals (split_of false rest)
  at_value = after_steps steps positionals w (split_of false rest)

  pub at_last : is_last w ≡ true → after_split steps positionals (split_of false (w ∷ rest)) ≡ Some (record { steps = steps; positionals = positionals ++ rest })
  at_last a = ap (λ x. after_split steps positionals (plain x (is_steps w) (has_value w) (is_option w) w rest)) a ∙ after_rest steps positionals rest

  pub at_steps : is_last w ≡ false → is_steps w ≡ true → after_split steps positionals (split_of false (w ∷ rest)) ≡ after_split steps positionals (split_of true rest)
  at_steps a b = ap (λ x. after_split steps positionals (plain x (is_steps w) (has_value w) (is_option w) w rest)) a
      ∙ ap (λ x. after_split steps positionals (plain false x (has_value w) (is_option w) w rest)) b

  pub at_steps_value : is_last w ≡ false → is_steps w ≡ false → has_value w ≡ true
      → after_split steps positionals (split_of false (w ∷ rest)) ≡ after_split (steps ++ drop 8 w ∷ []) positionals (split_of false rest)
  at_steps_value a b c = ap (λ x. after_split steps positionals (plain x (is_steps w) (has_value w) (is_option w) w rest)) a
      ∙ ap (λ x. after_split steps positionals (plain false x (has_value w) (is_option w) w rest)) b
      ∙ ap (λ x. after_split steps positionals (plain false false x (is_option w) w rest)) c
      ∙ after_steps steps positionals (drop 8 w) (split_of false rest)

  pub at_unknown : is_last w ≡ false → is_steps w ≡ false → has_value w ≡ false → is_option w ≡ true
      → after_split steps positionals (split_of false (w ∷ rest)) ≡ None
  at_unknown a b c d = ap (λ x. after_split steps positionals (plain x (is_steps w) (has_value w) (is_option w) w rest)) a
      ∙ ap (λ x. after_split steps positionals (plain false x (has_value w) (is_option w) w rest)) b
      ∙ ap (λ x. after_split steps positionals (plain false false x (is_option w) w rest)) c
      ∙ ap (λ x. after_split steps positionals (plain false false false x w rest)) d

  pub at_positional : is_last w ≡ false → is_steps w ≡ false → has_value w ≡ false → is_option w ≡ false
      → after_split steps positionals (split_of false (w ∷ rest)) ≡ after_split steps (positionals ++ w ∷ []) (split_of false rest)
  at_positional a b c d = ap (λ x. after_split steps positionals (plain x (is_steps w) (has_value w) (is_option w) w rest)) a
      ∙ ap (λ x. after_split steps positionals (plain false x (has_value w) (is_option w) w rest)) b
      ∙ ap (λ x. after_split steps positionals (plain false false x (is_option w) w rest)) c
      ∙ ap (λ x. after_split steps positionals (plain false false false x w rest)) d
      ∙ after_positional steps positionals w (split_of false rest)

pub same_state : (whole : Option Arguments) (steps s positionals p : List (List ℕ)) (wants b : Bool) (rest : List (List ℕ)) → steps ≡ s → positionals ≡ p → wants ≡ b
    → whole ≡ after_split s p (split_of b rest) → whole ≡ after_split steps positionals (split_of wants rest)
same_state whole steps s positionals p wants b rest x y z h = h ∙ sym (λ i. after_split (x i) (y i) (split_of (z i) rest))
