-- How many names a case and a letrec bind.
use Rattle.std.proofs.Common.{◌≡◌, ℕ, ◌+◌, ◌<◌, ◌≤◌, List, [], ◌∷◌, length, get_or, true, false, cond, Option, Some, None, refl, sym, ap, ◌∙◌, map, suc, arith}
use Rattle.std.specs.Prelude.{option_map, ◌&&◌, ◌==◌}
use Rattle.gh_base.specs.declared.place.Origin.{Origin}
use Rattle.gh_core.specs.declared.erased.ErasedTerm.{ErasedTerm}
use Rattle.gh_core.specs.declared.erased.ErasedTerm.TheVariants as t
use Rattle.gh_core.specs.declared.erased.ErasedAlt.{ErasedAlt}
use Rattle.gh_core.specs.Terms.{Term, Binds, no_bind, bind, Alt, con_alt, lit_alt, Alts, alt}
use Rattle.gh_core.specs.Closing.{Env, close_alts}
use Rattle.gh_core.specs.Primitives.{same_origin}
use Rattle.gh_core.specs.Reading.{term_of, alt_of, alts_of, binds_of}
use Rattle.gh_core.specs.Read.{bind_of, term_of-LetRec}
use Rattle.gh_core.specs.Reduce.{is_newtype}
use Rattle.gh_core.specs.Bindings.{binding_count, names_chosen, names_begun}
use Rattle.gh_machine.specs.Unload.{binds_in}
use Rattle.gh_machine.specs.Picks.{fits_con, alt_names}
use Rattle.gh_machine.proofs.Picks.{rest_of, rest_next, rest_none}

-- the ones bind as many names as the others
abbrev pub SameNames : Alts → Alts → Origin → ℕ → Type 0
SameNames al be c n = (ρ : Env) (es : List Term) → length es ≡ n → names_chosen (close_alts al ρ) c es ≡ names_chosen (close_alts be ρ) c es

skip_names : (a : Alt) (more : Alts) (c : Origin) (n : ℕ) → fits_con a c n ≡ false → SameNames (alt a more) more c n
skip_names (con_alt d xs t) more c n h ρ es e =
    let Y = names_chosen (close_alts more ρ) c es in
    ap (λ k. cond (same_origin c d && (length xs == k)) (length xs) Y) e ∙ ap (λ b. cond b (length xs) Y) h
skip_names (lit_alt l t) more c n h ρ es e = refl

take_names : (a : Alt) (more : Alts) (c : Origin) (n : ℕ) → fits_con a c n ≡ true → (ρ : Env) (es : List Term) → length es ≡ n → names_chosen (close_alts (alt a more) ρ) c es ≡ length (alt_names a)
take_names (con_alt d xs t) more c n h ρ es e =
    let Y = names_chosen (close_alts more ρ) c es in
    ap (λ k. cond (same_origin c d && (length xs == k)) (length xs) Y) e ∙ ap (λ b. cond b (length xs) Y) h
take_names (lit_alt l t) more c n h ρ es e = absurd (let no : ⊥ = cc in no)

pub names_passed : (items : List ErasedAlt) (o : Option ErasedTerm) (i : ℕ) (a : ErasedAlt) (c : Origin) (n : ℕ) → i < length items → a ≡ get_or items i a → fits_con (alt_of a) c n ≡ false → SameNames (rest_of items o 0) (rest_of items o i) c n → SameNames (rest_of items o 0) (rest_of items o (i + 1)) c n
names_passed items o i a c n lt at h same ρ es e =
    same ρ es e ∙ ap (λ al. names_chosen (close_alts al ρ) c es) (rest_next items o i a lt at) ∙ skip_names (alt_of a) (rest_of items o (i + 1)) c n h ρ es e

pub names_taken : (whole : Alts) (items : List ErasedAlt) (o : Option ErasedTerm) (i : ℕ) (a : ErasedAlt) (c : Origin) (n : ℕ) (xs : List ℕ) → whole ≡ rest_of items o 0 → i < length items → a ≡ get_or items i a → fits_con (alt_of a) c n ≡ true → xs ≡ alt_names (alt_of a)
    → SameNames (rest_of items o 0) (rest_of items o i) c n → (ρ : Env) (es : List Term) → length es ≡ n → names_chosen (close_alts whole ρ) c es ≡ length xs
names_taken whole items o i a c n xs w lt at h ex same ρ es e =
    ap (λ al. names_chosen (close_alts al ρ) c es) w
    ∙ same ρ es e ∙ ap (λ al. names_chosen (close_alts al ρ) c es) (rest_next items o i a lt at) ∙ take_names (alt_of a) (rest_of items o (i + 1)) c n h ρ es e
    ∙ ap length (sym ex)

none_named : (o : Option Term) (ρ : Env) (c : Origin) (es : List Term) → names_chosen (close_alts (alts_of [] o) ρ) c es ≡ 0
none_named None ρ c es = refl
none_named (Some t) ρ c es = refl

-- with the else, or with nothing
pub names_none : (whole : Alts) (items : List ErasedAlt) (o : Option ErasedTerm) (i : ℕ) (c : Origin) (n : ℕ) → whole ≡ rest_of items o 0 → length items ≤ i
    → SameNames (rest_of items o 0) (rest_of items o i) c n → (ρ : Env) (es : List Term) → length es ≡ n → names_chosen (close_alts whole ρ) c es ≡ 0
names_none whole items o i c n w le same ρ es e =
    ap (λ al. names_chosen (close_alts al ρ) c es) w
    ∙ same ρ es e ∙ ap (λ al. names_chosen (close_alts al ρ) c es) (rest_none items o i le) ∙ none_named (option_map term_of o) ρ c es

-- a case on a newtype
pub unwraps_name : (nt : List Origin) (al : Alts) (c : Origin) (x : ℕ) (e : Term) (more : Alts) → al ≡ alt (con_alt c (x ∷ []) e) more → is_newtype nt c ≡ true → (ρ : Env) → names_begun nt (close_alts al ρ) ≡ 1
unwraps_name nt al c x e more is n ρ = ap (λ be. names_begun nt (close_alts be ρ)) is ∙ ap (λ b. cond b 1 0) n

listed_bindings : (bs : List (ℕ × ErasedTerm)) → binding_count (binds_of (map bind_of bs)) ≡ length bs
listed_bindings [] = refl
listed_bindings (b ∷ bs) = ap suc (listed_bindings bs)

pub bindings_counted : (u : ErasedTerm) (bs : List (ℕ × ErasedTerm)) (b : ErasedTerm) → u ≡ t.LetRec bs b → binding_count (binds_in (term_of u)) ≡ length bs
bindings_counted u bs b is = ap (λ v. binding_count (binds_in v)) (ap term_of is ∙ term_of-LetRec bs b) ∙ listed_bindings bs

pub no_bindings : (bs : Binds) → binding_count bs ≡ 0 → bs ≡ no_bind
no_bindings no_bind e = refl
no_bindings (bind x t rest) e = absurd (omega arith)
