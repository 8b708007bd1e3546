use Rattle.std.proofs.Common.{◌≡◌, drop, sym, ap, ◌∙◌, ◌∷◌, [], ◌++◌, List, ℕ, ◌+◌, false, true}
use Rattle.gh_words.specs.Words.{split_of, is_option}
use Rattle.gh_words.proofs.Fronts.{front_of}
use Rattle.gh_words.proofs.Splits.{after_split, is_last, is_steps, has_value, at_value, at_steps, at_steps_value, at_positional, same_state}
use Rattle.gh_words.proofs.words.split.Goals as goal
use Rattle.gh_words.proofs.words.split.Goals.{then-wants_value+in_ok-add, else-wants_value+else-is_word+then-is_word-2, else-wants_value+else-is_word+else-is_word-2+then-gives_steps+in_ok-add-2, else-wants_value+else-is_word+else-is_word-2+else-gives_steps+else-option+in_ok-add-3}

pub loop-at-preserved : goal.loop-at-preserved
loop-at-preserved c =
    let words : List (List ℕ) = c.args.words.now in
    let rest : List (List ℕ) = drop (c.loop-at.at + 1) words in
    let text : List ℕ = c.index-words-at.result in
    let same : c.as_slice-text.result.now ≡ text = c.as_slice-text.ensures in
    let front : drop c.loop-at.at words ≡ text ∷ rest = front_of words c.loop-at.at text c.loop-at-test.true c.index-words-at.is in
    let here : split_of false words ≡ after_split c.loop-at.steps c.loop-at.positionals (split_of c.loop-at.wants_value (text ∷ rest)) =
    c.loop-at.invariant ∙ ap (λ ws. after_split c.loop-at.steps c.loop-at.positionals (split_of c.loop-at.wants_value ws)) front in
    elim c.if-wants_value.branch [
      | then-wants_value+in_ok-add w ↦
          same_state _ c.if-wants_value.steps (c.loop-at.steps ++ text ∷ []) c.if-wants_value.positionals c.loop-at.positionals c.if-wants_value.wants_value false rest
          (w.steps-is ∙ w.in_ok-add.ensures ∙ ap (λ t. c.loop-at.steps ++ t ∷ []) same) w.positionals-is w.wants_value-is
          (here ∙ ap (λ b. after_split c.loop-at.steps c.loop-at.positionals (split_of b (text ∷ rest))) w.if-wants_value.true ∙ at_value c.loop-at.steps c.loop-at.positionals text rest)
      | else-wants_value+else-is_word+then-is_word-2 w ↦
          same_state _ c.if-wants_value.steps c.loop-at.steps c.if-wants_value.positionals c.loop-at.positionals c.if-wants_value.wants_value true rest
          w.steps-is w.positionals-is w.wants_value-is
          (here ∙ ap (λ b. after_split c.loop-at.steps c.loop-at.positionals (split_of b (text ∷ rest))) w.if-wants_value.false
          ∙ at_steps c.loop-at.steps c.loop-at.positionals text rest
          (ap is_last (sym same) ∙ sym w.is_word.ensures ∙ w.if-is_word.false)
          (ap is_steps (sym same) ∙ sym w.is_word-else-is_word.ensures ∙ w.if-is_word-2.true))
      | else-wants_value+else-is_word+else-is_word-2+then-gives_steps+in_ok-add-2 w ↦
          same_state _ c.if-wants_value.steps (c.loop-at.steps ++ drop 8 text ∷ []) c.if-wants_value.positionals c.loop-at.positionals c.if-wants_value.wants_value false rest
          (w.steps-is ∙ w.in_ok-add-2.ensures ∙ ap (λ t. c.loop-at.steps ++ t ∷ []) (w.tail.ensures ∙ ap (drop 8) same)) w.positionals-is (w.wants_value-is ∙ w.if-wants_value.false)
          (here ∙ ap (λ b. after_split c.loop-at.steps c.loop-at.positionals (split_of b (text ∷ rest))) w.if-wants_value.false
          ∙ at_steps_value c.loop-at.steps c.loop-at.positionals text rest
          (ap is_last (sym same) ∙ sym w.is_word.ensures ∙ w.if-is_word.false)
          (ap is_steps (sym same) ∙ sym w.is_word-else-is_word.ensures ∙ w.if-is_word-2.false)
          (ap has_value (sym same) ∙ sym w.gives_steps.ensures ∙ w.if-gives_steps.true))
      | else-wants_value+else-is_word+else-is_word-2+else-gives_steps+else-option+in_ok-add-3 w ↦
          same_state _ c.if-wants_value.steps c.loop-at.steps c.if-wants_value.positionals (c.loop-at.positionals ++ text ∷ []) c.if-wants_value.wants_value false rest
          w.steps-is (w.positionals-is ∙ w.in_ok-add-3.ensures ∙ ap (λ t. c.loop-at.positionals ++ t ∷ []) same) (w.wants_value-is ∙ w.if-wants_value.false)
          (here ∙ ap (λ b. after_split c.loop-at.steps c.loop-at.positionals (split_of b (text ∷ rest))) w.if-wants_value.false
          ∙ at_positional c.loop-at.steps c.loop-at.positionals text rest
          (ap is_last (sym same) ∙ sym w.is_word.ensures ∙ w.if-is_word.false)
          (ap is_steps (sym same) ∙ sym w.is_word-else-is_word.ensures ∙ w.if-is_word-2.false)
          (ap has_value (sym same) ∙ sym w.gives_steps.ensures ∙ w.if-gives_steps.false)
          (ap is_option (sym same) ∙ sym w.option.ensures ∙ w.if-option.false))
    ]
