-- The parts of a case and of a letrec.
use Rattle.std.proofs.Common.{◌≡◌, ℕ, zero, suc, ◌+◌, ◌<◌, ◌≤◌, List, [], ◌∷◌, length, drop, map, get_or, true, false, cond, Option, Some, None, refl, sym, ap, ◌∙◌, arith, add-one, drop-cons}
use Rattle.std.specs.Prelude.{slice_get, option_map, ◌&&◌, ◌==◌}
use Rattle.gh_base.specs.declared.place.Origin.{Origin}
use Rattle.gh_core.specs.declared.erased.ErasedTerm.{ErasedTerm}
use Rattle.gh_core.specs.declared.erased.ErasedTerm.TheVariants as t
use Rattle.gh_core.specs.declared.erased.ErasedAlt.{ErasedAlt}
use Rattle.gh_core.specs.Terms.{Term, contents, Alt, con_alt, lit_alt, Literal, Alts, alt}
use Rattle.gh_core.specs.Closing.{Env, empty, without, is_in, close, close_alts, put, put_all}
use Rattle.gh_core.specs.Primitives.{nil, same_origin}
use Rattle.gh_core.specs.Reading.{term_of, alt_of, alts_of, binds_of}
use Rattle.gh_core.specs.Read.{bind_of, term_of-Case, term_of-LetRec}
use Rattle.gh_core.specs.Reduce.{Waiting, State, of_case, demand, choose, choose_literal, begin_case, is_newtype}
use Rattle.gh_machine.specs.Unload.{alts_in, binds_in, body_in, bound_at, scrutinee_in, contents_in, first_con}
use Rattle.gh_machine.specs.Picks.{fits_con, fits_literal, alt_names, alt_body}
use Rattle.gh_machine.proofs.Stacks.{drop_beyond}

pub alts_at : (case : ErasedTerm) (s : ErasedTerm) (alts : List ErasedAlt) (o : Option ErasedTerm) → case ≡ t.Case s alts o → alts_in (term_of case) ≡ alts_of (map alt_of alts) (option_map term_of o)
alts_at case s alts o is = ap alts_in (ap term_of is ∙ term_of-Case s alts o)

pub first_is : (alts : List ErasedAlt) (o : Option Term) (a : ErasedAlt) → Some a ≡ slice_get alts 0 → alts_of (map alt_of alts) o ≡ alt (alt_of a) (alts_of (map alt_of (drop 1 alts)) o)
first_is [] o a e = absurd (let no : ⊥ = cc in no)
first_is (b ∷ alts) o a e = let is : b ≡ a = cc in ap (λ x. alt (alt_of x) (alts_of (map alt_of alts) o)) is

pub first_none : (alts : List ErasedAlt) (o : Option Term) → None ≡ slice_get alts 0 → alts_of (map alt_of alts) o ≡ alts_of [] o
first_none [] o e = refl
first_none (b ∷ alts) o e = absurd (let no : ⊥ = cc in no)

pub no_first_con : (o : Option Term) → first_con (alts_of [] o) ≡ nil
no_first_con None = refl
no_first_con (Some t) = refl

-- a case with these alternatives demands its scrutinee
abbrev pub Demands : List Origin → Alts → Type 0
Demands nt alts = (ρ : Env) (u : Term) (stack : List Waiting) (out : List ℕ) → begin_case nt u (close_alts alts ρ) stack out ≡ demand u (of_case (close_alts alts ρ) ∷ stack) out

pub demands_none : (nt : List Origin) (o : Option Term) → Demands nt (alts_of [] o)
demands_none nt None ρ u stack out = refl
demands_none nt (Some t) ρ u stack out = refl

pub demands_literal : (nt : List Origin) (l : Literal) (e : Term) (more : Alts) → Demands nt (alt (lit_alt l e) more)
demands_literal nt l e more ρ u stack out = refl

pub demands_con : (nt : List Origin) (c : Origin) (xs : List ℕ) (e : Term) (more : Alts) → (length xs ≡ 1 → is_newtype nt c ≡ false) → Demands nt (alt (con_alt c xs e) more)
demands_con nt c [] e more h ρ u stack out = refl
demands_con nt c (x ∷ []) e more h ρ u stack out =
    ap (λ b. cond b (demand (close (close e (without ρ (is_in (x ∷ [])))) (put empty x (contents c u))) stack out) (demand u (of_case (close_alts (alt (con_alt c (x ∷ []) e) more) ρ) ∷ stack) out)) (h refl)
demands_con nt c (x ∷ y ∷ xs) e more h ρ u stack out = refl

pub single : (xs : List ℕ) → length xs ≡ 1 → xs ≡ get_or xs 0 0 ∷ []
single [] e = absurd (omega arith)
single (x ∷ []) e = refl
single (x ∷ y ∷ xs) e = absurd (omega arith)

-- a case on a newtype
pub unwraps : (nt : List Origin) (T : Term) (c : Origin) (x : ℕ) (e : Term) (more : Alts) → alts_in T ≡ alt (con_alt c (x ∷ []) e) more → is_newtype nt c ≡ true → (ρ : Env) (stack : List Waiting) (out : List ℕ)
    → begin_case nt (close (scrutinee_in T) ρ) (close_alts (alts_in T) ρ) stack out ≡ demand (close (close e (without ρ (is_in (x ∷ [])))) (put empty x (close (contents_in T) ρ))) stack out
unwraps nt T c x e more is n ρ stack out =
    let u = close (scrutinee_in T) ρ in
    ap (λ al. begin_case nt u (close_alts al ρ) stack out) is
    ∙ ap (λ b. cond b (demand (close (close e (without ρ (is_in (x ∷ [])))) (put empty x (contents c u))) stack out) (demand u (of_case (close_alts (alt (con_alt c (x ∷ []) e) more) ρ) ∷ stack) out)) n
    ∙ ap (λ d. demand (close (close e (without ρ (is_in (x ∷ [])))) (put empty x (contents d u))) stack out) (sym (ap first_con is))

bound_some : (bs : List (ℕ × ErasedTerm)) (j : ℕ) (p : ℕ × ErasedTerm) (d : Term) → Some p ≡ slice_get bs j → bound_at (binds_of (map bind_of bs)) j d ≡ term_of p.1
bound_some [] j p d e = absurd (let no : ⊥ = cc in no)
bound_some (q ∷ bs) zero p d e = let is : q ≡ p = cc in ap (λ (r : ℕ × ErasedTerm). term_of r.1) is
bound_some (q ∷ bs) (suc j) p d e = bound_some bs j p d e

bound_none : (bs : List (ℕ × ErasedTerm)) (j : ℕ) (d : Term) → None ≡ slice_get bs j → bound_at (binds_of (map bind_of bs)) j d ≡ d
bound_none [] j d e = refl
bound_none (q ∷ bs) zero d e = absurd (let no : ⊥ = cc in no)
bound_none (q ∷ bs) (suc j) d e = bound_none bs j d e

pub binding_some : (u : ErasedTerm) (bs : List (ℕ × ErasedTerm)) (b : ErasedTerm) (i : ℕ) (p : ℕ × ErasedTerm) → u ≡ t.LetRec bs b → Some p ≡ slice_get bs i → term_of p.1 ≡ bound_at (binds_in (term_of u)) i (body_in (term_of u))
binding_some u bs b i p is e = sym (ap (λ v. bound_at (binds_in v) i (body_in v)) (ap term_of is ∙ term_of-LetRec bs b) ∙ bound_some bs i p (term_of b) e)

pub binding_none : (u : ErasedTerm) (bs : List (ℕ × ErasedTerm)) (b : ErasedTerm) (i : ℕ) → u ≡ t.LetRec bs b → None ≡ slice_get bs i → term_of b ≡ bound_at (binds_in (term_of u)) i (body_in (term_of u))
binding_none u bs b i is e = sym (ap (λ v. bound_at (binds_in v) i (body_in v)) (ap term_of is ∙ term_of-LetRec bs b) ∙ bound_none bs i (term_of b) e)

-- the choice among the ones is the choice among the others
abbrev pub SameChoice : Alts → Alts → Origin → ℕ → Type 0
SameChoice al be c n = (ρ : Env) (es : List Term) (stack : List Waiting) (out : List ℕ) (s : State) → length es ≡ n → choose (close_alts al ρ) c es stack out s ≡ choose (close_alts be ρ) c es stack out s

abbrev pub SameLiteral : Alts → Alts → Literal → Type 0
SameLiteral al be l = (ρ : Env) (stack : List Waiting) (out : List ℕ) (s : State) → choose_literal (close_alts al ρ) l stack out s ≡ choose_literal (close_alts be ρ) l stack out s

abbrev pub rest_of : List ErasedAlt → Option ErasedTerm → ℕ → Alts
rest_of items o i = alts_of (map alt_of (drop i items)) (option_map term_of o)

skip_con : (a : Alt) (more : Alts) (c : Origin) (n : ℕ) → fits_con a c n ≡ false → SameChoice (alt a more) more c n
skip_con (con_alt d xs t) more c n h ρ es stack out s e =
    let X = demand (close (close t (without ρ (is_in xs))) (put_all empty xs es)) stack out in
    let Y = choose (close_alts more ρ) c es stack out s in
    ap (λ k. cond (same_origin c d && (length xs == k)) X Y) e ∙ ap (λ b. cond b X Y) h
skip_con (lit_alt l t) more c n h ρ es stack out s e = refl

take_con : (a : Alt) (more : Alts) (c : Origin) (n : ℕ) → fits_con a c n ≡ true → (ρ : Env) (es : List Term) (stack : List Waiting) (out : List ℕ) (s : State) → length es ≡ n
    → choose (close_alts (alt a more) ρ) c es stack out s ≡ demand (close (close (alt_body a) (without ρ (is_in (alt_names a)))) (put_all empty (alt_names a) es)) stack out
take_con (con_alt d xs t) more c n h ρ es stack out s e =
    let X = demand (close (close t (without ρ (is_in xs))) (put_all empty xs es)) stack out in
    let Y = choose (close_alts more ρ) c es stack out s in
    ap (λ k. cond (same_origin c d && (length xs == k)) X Y) e ∙ ap (λ b. cond b X Y) h
take_con (lit_alt l t) more c n h ρ es stack out s e = absurd (let no : ⊥ = cc in no)

skip_literal : (a : Alt) (more : Alts) (l : Literal) → fits_literal a l ≡ false → SameLiteral (alt a more) more l
skip_literal (con_alt d xs t) more l h ρ stack out s = refl
skip_literal (lit_alt m t) more l h ρ stack out s = ap (λ b. cond b (demand (close t ρ) stack out) (choose_literal (close_alts more ρ) l stack out s)) h

take_literal : (a : Alt) (more : Alts) (l : Literal) → fits_literal a l ≡ true → (ρ : Env) (stack : List Waiting) (out : List ℕ) (s : State)
    → choose_literal (close_alts (alt a more) ρ) l stack out s ≡ demand (close (alt_body a) ρ) stack out
take_literal (con_alt d xs t) more l h ρ stack out s = absurd (let no : ⊥ = cc in no)
take_literal (lit_alt m t) more l h ρ stack out s = ap (λ b. cond b (demand (close t ρ) stack out) (choose_literal (close_alts more ρ) l stack out s)) h

pub rest_next : (items : List ErasedAlt) (o : Option ErasedTerm) (i : ℕ) (a : ErasedAlt) → i < length items → a ≡ get_or items i a → rest_of items o i ≡ alt (alt_of a) (rest_of items o (i + 1))
rest_next items o i a lt at =
    ap (λ xs. alts_of (map alt_of xs) (option_map term_of o)) (drop-cons items i a lt ∙ (λ k. sym at k ∷ drop (sym (add-one i) k) items))

pub rest_none : (items : List ErasedAlt) (o : Option ErasedTerm) (i : ℕ) → length items ≤ i → rest_of items o i ≡ alts_of [] (option_map term_of o)
rest_none items o i le = ap (λ xs. alts_of (map alt_of xs) (option_map term_of o)) (drop_beyond i items le)

pub con_passed : (items : List ErasedAlt) (o : Option ErasedTerm) (i : ℕ) (a : ErasedAlt) (c : Origin) (n : ℕ) → i < length items → a ≡ get_or items i a → fits_con (alt_of a) c n ≡ false → SameChoice (rest_of items o 0) (rest_of items o i) c n → SameChoice (rest_of items o 0) (rest_of items o (i + 1)) c n
con_passed items o i a c n lt at h same ρ es stack out s e =
    same ρ es stack out s e ∙ ap (λ al. choose (close_alts al ρ) c es stack out s) (rest_next items o i a lt at) ∙ skip_con (alt_of a) (rest_of items o (i + 1)) c n h ρ es stack out s e

pub con_taken : (whole : Alts) (items : List ErasedAlt) (o : Option ErasedTerm) (i : ℕ) (a : ErasedAlt) (c : Origin) (n : ℕ) (xs : List ℕ) (t : Term) → whole ≡ rest_of items o 0 → i < length items → a ≡ get_or items i a → fits_con (alt_of a) c n ≡ true → xs ≡ alt_names (alt_of a) → t ≡ alt_body (alt_of a)
    → SameChoice (rest_of items o 0) (rest_of items o i) c n → (ρ : Env) (es : List Term) (stack : List Waiting) (out : List ℕ) (s : State) → length es ≡ n
    → choose (close_alts whole ρ) c es stack out s ≡ demand (close (close t (without ρ (is_in xs))) (put_all empty xs es)) stack out
con_taken whole items o i a c n xs t w lt at h ex et same ρ es stack out s e =
    ap (λ al. choose (close_alts al ρ) c es stack out s) w
    ∙ same ρ es stack out s e ∙ ap (λ al. choose (close_alts al ρ) c es stack out s) (rest_next items o i a lt at) ∙ take_con (alt_of a) (rest_of items o (i + 1)) c n h ρ es stack out s e
    ∙ sym (λ k. demand (close (close (et k) (without ρ (is_in (ex k)))) (put_all empty (ex k) es)) stack out)

pub con_else : (whole : Alts) (items : List ErasedAlt) (o : Option ErasedTerm) (i : ℕ) (c : Origin) (n : ℕ) (t : ErasedTerm) → whole ≡ rest_of items o 0 → length items ≤ i → o ≡ Some t
    → SameChoice (rest_of items o 0) (rest_of items o i) c n → (ρ : Env) (es : List Term) (stack : List Waiting) (out : List ℕ) (s : State) → length es ≡ n
    → choose (close_alts whole ρ) c es stack out s ≡ demand (close (term_of t) ρ) stack out
con_else whole items o i c n t w le is same ρ es stack out s e =
    ap (λ al. choose (close_alts al ρ) c es stack out s) w
    ∙ same ρ es stack out s e ∙ ap (λ al. choose (close_alts al ρ) c es stack out s) (rest_none items o i le ∙ ap (λ p. alts_of [] (option_map term_of p)) is)

pub con_nothing : (whole : Alts) (items : List ErasedAlt) (o : Option ErasedTerm) (i : ℕ) (c : Origin) (n : ℕ) → whole ≡ rest_of items o 0 → length items ≤ i → o ≡ None
    → SameChoice (rest_of items o 0) (rest_of items o i) c n → (ρ : Env) (es : List Term) (stack : List Waiting) (out : List ℕ) (s : State) → length es ≡ n
    → choose (close_alts whole ρ) c es stack out s ≡ s
con_nothing whole items o i c n w le is same ρ es stack out s e =
    ap (λ al. choose (close_alts al ρ) c es stack out s) w
    ∙ same ρ es stack out s e ∙ ap (λ al. choose (close_alts al ρ) c es stack out s) (rest_none items o i le ∙ ap (λ p. alts_of [] (option_map term_of p)) is)

pub literal_passed : (items : List ErasedAlt) (o : Option ErasedTerm) (i : ℕ) (a : ErasedAlt) (l : Literal) → i < length items → a ≡ get_or items i a → fits_literal (alt_of a) l ≡ false → SameLiteral (rest_of items o 0) (rest_of items o i) l → SameLiteral (rest_of items o 0) (rest_of items o (i + 1)) l
literal_passed items o i a l lt at h same ρ stack out s =
    same ρ stack out s ∙ ap (λ al. choose_literal (close_alts al ρ) l stack out s) (rest_next items o i a lt at) ∙ skip_literal (alt_of a) (rest_of items o (i + 1)) l h ρ stack out s

pub literal_taken : (whole : Alts) (items : List ErasedAlt) (o : Option ErasedTerm) (i : ℕ) (a : ErasedAlt) (l : Literal) (t : Term) → whole ≡ rest_of items o 0 → i < length items → a ≡ get_or items i a → fits_literal (alt_of a) l ≡ true → t ≡ alt_body (alt_of a)
    → SameLiteral (rest_of items o 0) (rest_of items o i) l → (ρ : Env) (stack : List Waiting) (out : List ℕ) (s : State)
    → choose_literal (close_alts whole ρ) l stack out s ≡ demand (close t ρ) stack out
literal_taken whole items o i a l t w lt at h et same ρ stack out s =
    ap (λ al. choose_literal (close_alts al ρ) l stack out s) w
    ∙ same ρ stack out s ∙ ap (λ al. choose_literal (close_alts al ρ) l stack out s) (rest_next items o i a lt at) ∙ take_literal (alt_of a) (rest_of items o (i + 1)) l h ρ stack out s
    ∙ sym (λ k. demand (close (et k) ρ) stack out)

pub literal_else : (whole : Alts) (items : List ErasedAlt) (o : Option ErasedTerm) (i : ℕ) (l : Literal) (t : ErasedTerm) → whole ≡ rest_of items o 0 → length items ≤ i → o ≡ Some t
    → SameLiteral (rest_of items o 0) (rest_of items o i) l → (ρ : Env) (stack : List Waiting) (out : List ℕ) (s : State)
    → choose_literal (close_alts whole ρ) l stack out s ≡ demand (close (term_of t) ρ) stack out
literal_else whole items o i l t w le is same ρ stack out s =
    ap (λ al. choose_literal (close_alts al ρ) l stack out s) w
    ∙ same ρ stack out s ∙ ap (λ al. choose_literal (close_alts al ρ) l stack out s) (rest_none items o i le ∙ ap (λ p. alts_of [] (option_map term_of p)) is)

pub literal_nothing : (whole : Alts) (items : List ErasedAlt) (o : Option ErasedTerm) (i : ℕ) (l : Literal) → whole ≡ rest_of items o 0 → length items ≤ i → o ≡ None
    → SameLiteral (rest_of items o 0) (rest_of items o i) l → (ρ : Env) (stack : List Waiting) (out : List ℕ) (s : State)
    → choose_literal (close_alts whole ρ) l stack out s ≡ s
literal_nothing whole items o i l w le is same ρ stack out s =
    ap (λ al. choose_literal (close_alts al ρ) l stack out s) w
    ∙ same ρ stack out s ∙ ap (λ al. choose_literal (close_alts al ρ) l stack out s) (rest_none items o i le ∙ ap (λ p. alts_of [] (option_map term_of p)) is)
