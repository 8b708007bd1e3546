-- The pieces of one token, and then the rest.
use Rattle.std.proofs.Common.{◌≡◌, ℕ, suc, ◌+◌, ◌<◌, Bool, true, false, if◌then◌else◌, List, [], ◌∷◌, ◌++◌, length, drop, get_or, Option, Some, None, option_and_then, Result, Ok, Err, IfOk, refl, sym, ap, ◌∙◌, add-one, drop-cons, subst}
use Rattle.std.proofs.lemmas.List.{append-nil}
use Rattle.std.proofs.Math.Seq.{drop-length}
use Rattle.std.specs.Option.{option_map_or}
use Rattle.gh_base.specs.declared.refusal.Fault.{Fault}
use Rattle.gh_base.specs.declared.refusal.Fault.TheVariants as fault
use Rattle.gh_base.specs.declared.refusal.Refusal.{Refusal}
use Rattle.gh_base.specs.declared.refusal.Refusal.TheVariants.{BadLayout}
use Rattle.gh_lexer.specs.declared.token.Token.{Token}
use Rattle.gh_layout.specs.Layout.{Piece, block_mark, line_mark, token, line_marks, pieces, end_pieces, marked, treated, place_of, span_at, finished, laid, all_treated, after_token}
use Rattle.gh_layout.specs.Follows.{Follows, Gives, fault_of}
use Rattle.gh_layout.specs.Entries.{lowest}
use Rattle.gh_layout.specs.Roles.{role_of, block_after, stands_for_block}
use Rattle.gh_layout.specs.declared.entry.Owner.{Owner}
use Rattle.gh_layout.specs.declared.laying.LaidToken.{LaidToken}
use Rattle.gh_layout.specs.declared.laying.Laying.{Laying}
use Rattle.gh_layout.specs.declared.laying.Stop.{Stop}
use Rattle.gh_layout.specs.declared.laying.Stop.TheVariants as stop
use Rattle.gh_layout.specs.declared.role.Role.{Role}

-- all these pieces have one place
abbrev pub AllAt : ℕ → List Piece → Type 0
AllAt i [] = Unit {0}
AllAt i (p ∷ ps) = (place_of p ≡ i) × AllAt i ps

abbrev pub refused : List Token → ℕ → Result (List LaidToken) Refusal
refused ts i = Err (BadLayout (span_at ts i))

-- pieces of one place, and then others
pub laid-append : (ts : List Token) (i : ℕ) (ps rest : List Piece) (l : Laying) → AllAt i ps
    → laid ts (ps ++ rest) l ≡ option_map_or (λ m. laid ts rest m) (all_treated ps l) (refused ts i)
laid-append ts i [] rest l h = refl
laid-append ts i (p ∷ ps) rest l h =
    elim (treated p l) as (λ o. option_map_or (λ m. laid ts (ps ++ rest) m) o (refused ts (place_of p))
    ≡ option_map_or (λ m. laid ts rest m) (option_and_then (λ m. all_treated ps m) o) (refused ts i))
    [ None ↦ ap (refused ts) h.0 | Some m ↦ laid-append ts i ps rest m h.1 ]

line_marks_at : (t : Token) (i : ℕ) (b : Bool) → AllAt i ((if b then line_mark t.column i ∷ [] else []) ++ token (role_of t.kind) i ∷ [])
line_marks_at t i true = (refl, (refl, tt))
line_marks_at t i false = (refl, tt)

block_marks_at : (o : Owner) (t : Token) (i : ℕ) (b : Bool)
    → AllAt i ((if b then line_marks t i else block_mark t.column o i ∷ []) ++ token (role_of t.kind) i ∷ [])
block_marks_at o t i true = line_marks_at t i t.first
block_marks_at o t i false = (refl, (refl, tt))

pub pieces_at : (awaited : Option Owner) (t : Token) (i : ℕ) → AllAt i (pieces awaited t i)
pieces_at None t i = line_marks_at t i t.first
pieces_at (Some o) t i = block_marks_at o t i (stands_for_block o (role_of t.kind))

pub end_pieces_at : (awaited : Option Owner) (i : ℕ) → AllAt i (end_pieces awaited i)
end_pieces_at None i = (refl, tt)
end_pieces_at (Some o) i = (refl, (refl, tt))

-- the tokens from one of them on
drop-token : (ts : List Token) (i : ℕ) (t : Token) → i < length ts → t ≡ get_or ts i t → drop i ts ≡ t ∷ drop (suc i) ts
drop-token ts i t h e = drop-cons ts i t h ∙ ap (λ x. x ∷ drop (suc i) ts) (sym e)

-- one token is treated
pub token_laid : (ts : List Token) (awaited : Option Owner) (i : ℕ) (l m : Laying) (t : Token) → i < length ts → t ≡ get_or ts i t
    → all_treated (pieces awaited t i) l ≡ Some m
    → laid ts (marked awaited i (drop i ts)) l ≡ laid ts (marked (block_after (role_of t.kind)) (i + 1) (drop (i + 1) ts)) m
token_laid ts awaited i l m t h e s =
    ap (λ rest. laid ts (marked awaited i rest) l) (drop-token ts i t h e)
    ∙ laid-append ts i (pieces awaited t i) (marked (block_after (role_of t.kind)) (suc i) (drop (suc i) ts)) l (pieces_at awaited t i)
    ∙ ap (λ o. option_map_or (λ n. laid ts (marked (block_after (role_of t.kind)) (suc i) (drop (suc i) ts)) n) o (refused ts i)) s
    ∙ ap (λ k. laid ts (marked (block_after (role_of t.kind)) k (drop k ts)) m) (sym (add-one i))

-- there is no answer at a token
pub token_refused : (ts : List Token) (awaited : Option Owner) (i : ℕ) (l : Laying) (t : Token) → i < length ts → t ≡ get_or ts i t
    → all_treated (pieces awaited t i) l ≡ None → laid ts (marked awaited i (drop i ts)) l ≡ refused ts i
token_refused ts awaited i l t h e s =
    ap (λ rest. laid ts (marked awaited i rest) l) (drop-token ts i t h e)
    ∙ laid-append ts i (pieces awaited t i) (marked (block_after (role_of t.kind)) (suc i) (drop (suc i) ts)) l (pieces_at awaited t i)
    ∙ ap (λ o. option_map_or (λ n. laid ts (marked (block_after (role_of t.kind)) (suc i) (drop (suc i) ts)) n) o (refused ts i)) s

end_treated : (ts : List Token) (awaited : Option Owner) (i : ℕ) (l : Laying)
    → laid ts (end_pieces awaited i) l ≡ option_map_or (λ m. laid ts [] m) (all_treated (end_pieces awaited i) l) (refused ts i)
end_treated ts awaited i l =
    ap (λ ps. laid ts ps l) (sym (append-nil (end_pieces awaited i))) ∙ laid-append ts i (end_pieces awaited i) [] l (end_pieces_at awaited i)

-- the end is treated
pub end_laid : (ts : List Token) (awaited : Option Owner) (i : ℕ) (l m : Laying) → i ≡ length ts
    → all_treated (end_pieces awaited i) l ≡ Some m → laid ts (marked awaited i (drop i ts)) l ≡ finished ts (lowest m.stack) m.output
end_laid ts awaited i l m h s =
    ap (λ rest. laid ts (marked awaited i rest) l) (ap (λ k. drop k ts) h ∙ drop-length ts) ∙ end_treated ts awaited i l
    ∙ ap (λ o. option_map_or (λ n. laid ts [] n) o (refused ts i)) s

pub end_refused : (ts : List Token) (awaited : Option Owner) (i : ℕ) (l : Laying) → i ≡ length ts
    → all_treated (end_pieces awaited i) l ≡ None → laid ts (marked awaited i (drop i ts)) l ≡ refused ts i
end_refused ts awaited i l h s =
    ap (λ rest. laid ts (marked awaited i rest) l) (ap (λ k. drop k ts) h ∙ drop-length ts) ∙ end_treated ts awaited i l
    ∙ ap (λ o. option_map_or (λ n. laid ts [] n) o (refused ts i)) s

-- pieces, and then others
pub all_treated-append : (ps qs : List Piece) (l : Laying) → all_treated (ps ++ qs) l ≡ option_and_then (λ m. all_treated qs m) (all_treated ps l)
all_treated-append [] qs l = refl
all_treated-append (p ∷ ps) qs l =
    elim (treated p l) as (λ o. option_and_then (λ m. all_treated (ps ++ qs) m) o
    ≡ option_and_then (λ m. all_treated qs m) (option_and_then (λ m. all_treated ps m) o))
    [ None ↦ refl | Some m ↦ all_treated-append ps qs m ]

alone : (o : Option Laying) → option_and_then (λ m. all_treated [] m) o ≡ o
alone None = refl
alone (Some m) = refl

-- the step of a token after those of its marks
pub token_after : (ps : List Piece) (r : Role) (i : ℕ) (l m : Laying) (result : Result (Unit {0}) Stop) (new : Laying)
    → all_treated ps l ≡ Some m → Follows (after_token r i m) result new → Follows (all_treated (ps ++ token r i ∷ []) l) result new
token_after ps r i l m result new h k =
    subst (λ o. Follows o result new)
    (sym (all_treated-append ps (token r i ∷ []) l ∙ ap (option_and_then (λ n. all_treated (token r i ∷ []) n)) h ∙ alone (after_token r i m))) k

pub token_not_reached : (ps : List Piece) (r : Role) (i : ℕ) (l : Laying) (s : Stop) (new new' : Laying)
    → Follows (all_treated ps l) (Err s) new → Follows (all_treated (ps ++ token r i ∷ []) l) (Err s) new'
token_not_reached ps r i l stop.BadLayout new new' h =
    all_treated-append ps (token r i ∷ []) l ∙ ap (option_and_then (λ n. all_treated (token r i ∷ []) n)) h
token_not_reached ps r i l stop.NoMemory new new' h = tt

-- the fault of a step that is not made
pub refused_at : (ts : List Token) (i : ℕ) (want : Option Laying) (s : Stop) (new : Laying) (whole : Result (List LaidToken) Refusal)
    → (want ≡ None → whole ≡ refused ts i) → Follows want (Err s) new
    → (f : Fault) (r : Refusal) → f ≡ fault_of ts i s → f ≡ fault.Refused r → whole ≡ Err r
refused_at ts i want stop.BadLayout new whole none h f r e k = none h ∙ same (sym e ∙ k)
  where
    same : fault.Refused (BadLayout (span_at ts i)) ≡ fault.Refused r → refused ts i ≡ Err r
    same q = cc
refused_at ts i want stop.NoMemory new whole none h f r e k = absurd (cc)

pub gives_ok : (answer : Result (List LaidToken) Fault) (want whole : Result (List LaidToken) Refusal) → Gives answer want → whole ≡ want
    → IfOk answer (λ out. whole ≡ Ok out)
gives_ok (Ok out) want whole h e = e ∙ h
gives_ok (Err f) want whole h e = tt
