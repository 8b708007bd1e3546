-- Patterns as lists of tests.
use Rattle.std.proofs.Common.{◌≡◌, ◌<◌, ℕ, suc, ◌+◌, List, [], ◌∷◌, ◌++◌, length, drop, get_or, refl, sym, ap, ◌∙◌, arith}
use Rattle.std.proofs.lemmas.List.{drop_more}
use Rattle.gh_base.specs.declared.place.Origin.{Origin}
use Rattle.gh_kernel.specs.declared.patterns.Pattern.{Pattern, out-Pattern}
use Rattle.gh_kernel.specs.declared.patterns.PatternNode.TheVariants as p
use Rattle.gh_kernel.specs.declared.signatures.Note.{Note}
use Rattle.gh_kernel.specs.Reading.{pattern_of, patterns_of}
use Rattle.gh_match.specs.declared.tests.Test.{Test}
use Rattle.gh_match.specs.declared.tests.Test.TheVariants.{Bind, Built}
use Rattle.gh_match.specs.Compiled.{gain, gains, numbers, tests_pat, tests_pats, width}
use Rattle.gh_match.proofs.Codes.{as_read, con_read, patterns_width}
use Rattle.gh_match.proofs.Lists.{assoc}

abbrev Added : List Test → List Test → ℕ → List Test → ℕ → ℕ → Type 0
Added new old after ts free taken = (new ≡ old ++ ts) × (after ≡ free + taken)

pub con_added : (q : Pattern Note) (con : Origin) (ps slice : List (Pattern Note)) (old new : List Test) (subject free after : ℕ) → (out-Pattern Note q).node ≡ p.PCon con ps → slice ≡ ps
    → Added new old after (Built con (numbers free (width (patterns_of slice))) subject ∷ tests_pats (patterns_of slice) free (free + width (patterns_of slice))) free (width (patterns_of slice) + gains (patterns_of slice))
    → Added new old after (tests_pat (pattern_of q) subject free) free (gain (pattern_of q))
con_added q con ps slice old new subject free after is same h =
    let e = sym (con_read q con ps is) in (
      h.0 ∙ ap (λ l. old ++ Built con (numbers free (width (patterns_of l))) subject ∷ tests_pats (patterns_of l) free (free + width (patterns_of l))) same ∙ ap (λ u. old ++ tests_pat u subject free) e,
      h.1 ∙ ap (λ l. free + (width (patterns_of l) + gains (patterns_of l))) same ∙ ap (λ u. free + gain u) e,
    )

pub as_added : (q : Pattern Note) (x : ℕ) (inner got : Pattern Note) (old mid new : List Test) (subject free after : ℕ) → (out-Pattern Note q).node ≡ p.PAs x inner → got ≡ inner
    → mid ≡ old ++ Bind x (out-Pattern Note q).note.ty subject ∷ [] → Added new mid after (tests_pat (pattern_of got) subject free) free (gain (pattern_of got))
    → Added new old after (tests_pat (pattern_of q) subject free) free (gain (pattern_of q))
as_added q x inner got old mid new subject free after is same one h =
    let e = sym (as_read q x inner is) in (
      h.0 ∙ (λ i. one i ++ tests_pat (pattern_of (same i)) subject free) ∙ assoc old (Bind x (out-Pattern Note q).note.ty subject ∷ []) (tests_pat (pattern_of inner) subject free) ∙ ap (λ u. old ++ tests_pat u subject free) e,
      h.1 ∙ ap (λ l. free + gain (pattern_of l)) same ∙ ap (λ u. free + gain u) e,
    )

-- what is left of the patterns, one step on
left : (ps : List (Pattern Note)) (i : ℕ) (q : Pattern Note) → i < length ps → q ≡ get_or ps i q → patterns_of (drop i ps) ≡ patterns_of (q ∷ drop (i + 1) ps)
left ps i q lt is = ap patterns_of (drop_more ps i q lt) ∙ ap (λ r. patterns_of (r ∷ drop (i + 1) ps)) (sym is)

-- a loop over patterns: what is done and what is left are all
abbrev pub Whole : List (Pattern Note) → List Test → ℕ → ℕ → List Test → ℕ → ℕ → List (Pattern Note) → Type 0
Whole rest new at after old subject free ps = (new ++ tests_pats (patterns_of rest) at after ≡ old ++ tests_pats (patterns_of ps) subject free) × (after + gains (patterns_of rest) ≡ free + gains (patterns_of ps))

pub one_more : (ps : List (Pattern Note)) (i : ℕ) (q : Pattern Note) (old mid new : List Test) (subject free at after next at' : ℕ) → i < length ps → q ≡ get_or ps i q
    → Whole (drop i ps) mid at after old subject free ps → Added new mid next (tests_pat (pattern_of q) at after) after (gain (pattern_of q)) → at' ≡ at + 1
    → Whole (drop (i + 1) ps) new at' next old subject free ps
one_more ps i q old mid new subject free at after next at' lt is whole added step =
    let rest = patterns_of (drop (i + 1) ps) in
    let l = left ps i q lt is in
    let e : after + gain (pattern_of q) + gains rest ≡ after + (gain (pattern_of q) + gains rest) = omega arith in (
      (λ j. added.0 j ++ tests_pats rest (step j) (added.1 j)) ∙ assoc mid (tests_pat (pattern_of q) at after) (tests_pats rest (at + 1) (after + gain (pattern_of q))) ∙ ap (λ u. mid ++ tests_pats u at after) (sym l) ∙ whole.0,
      (λ j. added.1 j + gains rest) ∙ e ∙ ap (λ u. after + gains u) (sym l) ∙ whole.1,
    )

append_none : (xs : List Test) → xs ++ [] ≡ xs
append_none [] = refl
append_none (x ∷ xs) = ap (λ l. x ∷ l) (append_none xs)

none_left : (ps : List (Pattern Note)) (i : ℕ) → length ps ≡ i → drop i ps ≡ []
none_left [] i e = ap (λ j. drop j []) (sym e)
none_left (q ∷ ps) i e = ap (λ j. drop j (q ∷ ps)) (sym e) ∙ none_left ps (length ps) refl

pub all_added : (ps : List (Pattern Note)) (i : ℕ) (old new : List Test) (subject free at after : ℕ) → length ps ≡ i → Whole (drop i ps) new at after old subject free ps
    → Added new old after (tests_pats (patterns_of ps) subject free) free (gains (patterns_of ps))
all_added ps i old new subject free at after e whole =
    let none = none_left ps i e in
    let z : after ≡ after + 0 = omega arith in (
      sym (append_none new) ∙ ap (λ l. new ++ tests_pats (patterns_of l) at after) (sym none) ∙ whole.0,
      z ∙ ap (λ l. after + gains (patterns_of l)) (sym none) ∙ whole.1,
    )

-- a constructor and its parts
pub parts_added : (con : Origin) (ps : List (Pattern Note)) (old mid new : List Test) (names : List ℕ) (subject free between after : ℕ) → between ≡ free + length ps → names ≡ numbers free (length ps)
    → mid ≡ old ++ Built con names subject ∷ [] → Added new mid after (tests_pats (patterns_of ps) free between) between (gains (patterns_of ps))
    → Added new old after (Built con (numbers free (width (patterns_of ps))) subject ∷ tests_pats (patterns_of ps) free (free + width (patterns_of ps))) free (width (patterns_of ps) + gains (patterns_of ps))
parts_added con ps old mid new names subject free between after b n one h =
    let w = sym (patterns_width ps) in
    let b' = b ∙ ap (λ j. free + j) w in
    let n' = n ∙ ap (numbers free) w in
    let e : free + width (patterns_of ps) + gains (patterns_of ps) ≡ free + (width (patterns_of ps) + gains (patterns_of ps)) = omega arith in (
      h.0 ∙ (λ i. (one ∙ ap (λ l. old ++ Built con l subject ∷ []) n') i ++ tests_pats (patterns_of ps) free (b' i))
          ∙ assoc old (Built con (numbers free (width (patterns_of ps))) subject ∷ []) (tests_pats (patterns_of ps) free (free + width (patterns_of ps))),
      h.1 ∙ ap (λ j. j + gains (patterns_of ps)) b' ∙ e,
    )
