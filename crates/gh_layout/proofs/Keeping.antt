-- Each layout is in order and nested.
use Rattle.std.proofs.Common.{◌≡◌, ℕ, suc, ◌+◌, Bool, true, false, nat_lt, ◌==◌, if◌then◌else◌, List, [], ◌∷◌, ◌++◌, length, slice_get, Option, Some, None, option_map, option_and_then, IfSome, IfOk, Result, Ok, Err, refl, sym, ap, ◌∙◌, subst, arith, add-zero, zero-add}
use Rattle.std.proofs.lemmas.Bool.{eq-eqb}
use Rattle.std.specs.Option.{option_map_or}
use Rattle.gh_base.specs.declared.refusal.Fault.{Fault}
use Rattle.gh_base.specs.declared.refusal.Refusal.{Refusal}
use Rattle.gh_lexer.specs.declared.token.Token.{Token}
use Rattle.gh_layout.specs.Entries.{block_column, is_within, new_item, item_begun, item_filled, equals_noted, in_brackets, lowest, or_else, is_same}
use Rattle.gh_layout.specs.Laws.{read, in_order, IsInOrder, Open, inserted, written, opened, closes, after_token_of_file, role_at, nests, IsNested}
use Rattle.gh_layout.specs.Layout.{Piece, block_mark, line_mark, token, file_end, line_marks, pieces, end_pieces, marked, with_token, with_entry, new_block, does_end, ended, blocks_ended, lined, after_line, after_block, closed, after_close, brace_closed, then_opened, row, item_after, after_token, finished, laid, layout}
use Rattle.gh_layout.specs.Roles.{role_of, block_after, stands_for_block}
use Rattle.gh_layout.specs.declared.entry.Entry.{Entry}
use Rattle.gh_layout.specs.declared.entry.Entry.TheVariants.{Implicit, Explicit, Opened}
use Rattle.gh_layout.specs.declared.entry.Opening.{Opening}
use Rattle.gh_layout.specs.declared.entry.Opening.TheVariants as opening
use Rattle.gh_layout.specs.declared.entry.Owner.{Owner}
use Rattle.gh_layout.specs.declared.entry.Owner.TheVariants as owner
use Rattle.gh_layout.specs.declared.laying.Ending.{Ending}
use Rattle.gh_layout.specs.declared.laying.Ending.TheVariants as ending
use Rattle.gh_layout.specs.declared.laying.LaidToken.{LaidToken}
use Rattle.gh_layout.specs.declared.laying.LaidToken.TheVariants.{Real, Begin, Semi, End}
use Rattle.gh_layout.specs.declared.laying.Laying.{Laying}
use Rattle.gh_layout.specs.declared.role.Role.{Role}
use Rattle.gh_layout.specs.declared.role.Role.TheVariants as role

read-alone : {S : Type 0} (fits : LaidToken → S → Option S) (o : Option S) → option_and_then (λ t. read fits [] t) o ≡ o
read-alone fits None = refl
read-alone fits (Some t) = refl

read-append : {S : Type 0} (fits : LaidToken → S → Option S) (xs : List LaidToken) (x : LaidToken) (s : S)
    → read fits (xs ++ x ∷ []) s ≡ option_and_then (λ t. fits x t) (read fits xs s)
read-append fits [] x s = read-alone fits (fits x s)
read-append fits (y ∷ xs) x s =
    elim (fits y s) as (λ o. option_and_then (λ t. read fits (xs ++ x ∷ []) t) o ≡ option_and_then (λ t. fits x t) (option_and_then (λ t. read fits xs t) o))
    [ None ↦ refl | Some t ↦ read-append fits xs x t ]

-- one more token that fits
one_more : {S : Type 0} (fits : LaidToken → S → Option S) (xs : List LaidToken) (x : LaidToken) (s t u : S)
    → read fits xs s ≡ Some t → fits x t ≡ Some u → read fits (xs ++ x ∷ []) s ≡ Some u
one_more fits xs x s t u h k = read-append fits xs x s ∙ ap (option_and_then (λ v. fits x v)) h ∙ k

-- what an entry is to the law
abbrev shape : Entry → Open
shape (Implicit b) = inserted
shape (Explicit i) = written
shape (Opened o i) = opened o

abbrev shapes : List Entry → List Open
shapes [] = []
shapes (e ∷ stack) = shape e ∷ shapes stack

shapes-item_begun : (stack : List Entry) → shapes (item_begun stack) ≡ shapes stack
shapes-item_begun [] = refl
shapes-item_begun (Implicit b ∷ stack) = refl
shapes-item_begun (Explicit i ∷ stack) = refl
shapes-item_begun (Opened o i ∷ stack) = ap (λ s. opened o ∷ s) (shapes-item_begun stack)

shapes-item_filled : (stack : List Entry) → shapes (item_filled stack) ≡ shapes stack
shapes-item_filled [] = refl
shapes-item_filled (Implicit b ∷ stack) = refl
shapes-item_filled (Explicit i ∷ stack) = refl
shapes-item_filled (Opened o i ∷ stack) = ap (λ s. opened o ∷ s) (shapes-item_filled stack)

shapes-equals_noted : (stack : List Entry) → shapes (equals_noted stack) ≡ shapes stack
shapes-equals_noted [] = refl
shapes-equals_noted (Implicit b ∷ stack) = refl
shapes-equals_noted (Explicit i ∷ stack) = refl
shapes-equals_noted (Opened o i ∷ stack) = refl

-- what holds before the token at a place: so far all is in order, and what is open is the stack
record Holds (ts : List Token) (i : ℕ) (out : List LaidToken) (open_now : List Open) : Type 0 where
  order : read in_order out 0 ≡ Some i
  nest : read (nests ts) out [] ≡ Some open_now

abbrev HoldsOf : List Token → ℕ → Laying → Type 0
HoldsOf ts i l = Holds ts i l.output (shapes l.stack)

same_place : (i m : ℕ) → let o : Option ℕ = Some m in (if i == i then o else None) ≡ o
same_place i m = let o : Option ℕ = Some m in ap (λ b. if b then o else None) (eq-eqb i i refl)

begin_holds : (ts : List Token) (i : ℕ) (out : List LaidToken) (s : List Open) → Holds ts i out s → Holds ts i (out ++ Begin i ∷ []) (inserted ∷ s)
begin_holds ts i out s h = record {
  order = one_more in_order out (Begin i) 0 i i h.order (same_place i i);
  nest = one_more (nests ts) out (Begin i) [] s (inserted ∷ s) h.nest refl;
}

semi_holds : (ts : List Token) (i : ℕ) (out : List LaidToken) (s : List Open) → Holds ts i out (inserted ∷ s) → Holds ts i (out ++ Semi i ∷ []) (inserted ∷ s)
semi_holds ts i out s h = record {
  order = one_more in_order out (Semi i) 0 i i h.order (same_place i i);
  nest = one_more (nests ts) out (Semi i) [] (inserted ∷ s) (inserted ∷ s) h.nest refl;
}

end_holds : (ts : List Token) (i : ℕ) (out : List LaidToken) (s : List Open) → Holds ts i out (inserted ∷ s) → Holds ts i (out ++ End i ∷ []) s
end_holds ts i out s h = record {
  order = one_more in_order out (End i) 0 i i h.order (same_place i i);
  nest = one_more (nests ts) out (End i) [] (inserted ∷ s) s h.nest refl;
}

ended_holds : (ts : List Token) (e : Ending) (i : ℕ) (out : List LaidToken) (stack : List Entry)
    → Holds ts i out (shapes stack) → HoldsOf ts i (ended e i out stack)
ended_holds ts e i out [] h = h
ended_holds ts e i out (Implicit b ∷ stack) h =
    elim (does_end e b) as (λ v. HoldsOf ts i (if v then ended e i (out ++ End i ∷ []) stack else record { stack = Implicit b ∷ stack; output = out }))
    [ true ↦ ended_holds ts e i (out ++ End i ∷ []) stack (end_holds ts i out (shapes stack) h) | false ↦ h ]
ended_holds ts e i out (Explicit j ∷ stack) h = h
ended_holds ts e i out (Opened o j ∷ stack) h = h

lined_holds : (ts : List Token) (n i : ℕ) (out : List LaidToken) (stack : List Entry)
    → Holds ts i out (shapes stack) → IfSome (lined n i out stack) (HoldsOf ts i)
lined_holds ts n i out [] h = h
lined_holds ts n i out (Implicit b ∷ stack) h =
    elim (n == b.column) as (λ v. IfSome (if v then Some (record { stack = Implicit (new_item b) ∷ stack; output = out ++ Semi i ∷ [] })
    else (if nat_lt n b.column then lined n i (out ++ End i ∷ []) stack else Some (record { stack = Implicit b ∷ stack; output = out }))) (HoldsOf ts i)) [
      | true ↦ semi_holds ts i out (shapes stack) h
      | false ↦ elim (nat_lt n b.column) as (λ v. IfSome (if v then lined n i (out ++ End i ∷ []) stack
          else Some (record { stack = Implicit b ∷ stack; output = out })) (HoldsOf ts i))
          [ true ↦ lined_holds ts n i (out ++ End i ∷ []) stack (end_holds ts i out (shapes stack) h) | false ↦ h ]
    ]
lined_holds ts n i out (Explicit j ∷ stack) h = h
lined_holds ts n i out (Opened o j ∷ stack) h =
    elim (is_within n stack) as (λ v. IfSome (if v then None else Some (record { stack = Opened o j ∷ stack; output = out })) (HoldsOf ts i))
    [ true ↦ tt | false ↦ h ]

block_holds : (ts : List Token) (n : ℕ) (o : Owner) (i : ℕ) (l : Laying) → HoldsOf ts i l → IfSome (after_block n o i l) (HoldsOf ts i)
block_holds ts n o i l h =
    let begun = begin_holds ts i l.output (shapes l.stack) h in
    elim (nat_lt (block_column l.stack) n) as (λ v. IfSome (if v then Some (with_entry (Implicit (new_block n o)) (with_token (Begin i) l))
    else after_line n i (with_token (End i) (with_token (Begin i) l))) (HoldsOf ts i))
    [ true ↦ begun | false ↦ lined_holds ts n i ((l.output ++ Begin i ∷ []) ++ End i ∷ []) l.stack (end_holds ts i (l.output ++ Begin i ∷ []) (shapes l.stack) begun) ]

-- what holds after the row of a token, before the token itself is laid
record Ready (ts : List Token) (i : ℕ) (r : Role) (out : List LaidToken) (open_now : List Open) : Type 0 where
  order : read in_order out 0 ≡ Some i
  before : List Open
  nest : read (nests ts) out [] ≡ Some before
  fits : after_token_of_file r before ≡ Some open_now

abbrev ReadyOf : List Token → ℕ → Role → Laying → Type 0
ReadyOf ts i r l = Ready ts i r l.output (shapes l.stack)

-- a row that leaves the entries as they are
unchanged : (ts : List Token) (i : ℕ) (r : Role) (out : List LaidToken) (s t : List Open)
    → ((u : List Open) → after_token_of_file r u ≡ Some u) → Holds ts i out s → t ≡ s → Ready ts i r out t
unchanged ts i r out s t same h e = record { order = h.order; before = s; nest = h.nest; fits = same s ∙ ap Some (sym e) }

closed_same : (ts : List Token) (i : ℕ) (r : Role) (o p : Opening) (j : ℕ) (out : List LaidToken) (stack : List Entry) (v : Bool) → is_same o p ≡ v
    → ((u : List Open) → after_token_of_file r u ≡ closes o u) → Holds ts i out (opened p ∷ shapes stack)
    → IfSome (if v then Some (record { stack = stack; output = out }) else None) (ReadyOf ts i r)
closed_same ts i r o p j out stack false e k h = tt
closed_same ts i r o p j out stack true e k h = record {
  order = h.order;
  before = opened p ∷ shapes stack;
  nest = h.nest;
  fits = k (opened p ∷ shapes stack) ∙ ap (λ v. if v then Some (shapes stack) else None) e;
}

closed_ready : (ts : List Token) (i : ℕ) (r : Role) (o : Opening) (out : List LaidToken) (stack : List Entry)
    → ((u : List Open) → after_token_of_file r u ≡ closes o u) → Holds ts i out (shapes stack) → IfSome (closed o out stack) (ReadyOf ts i r)
closed_ready ts i r o out [] k h = tt
closed_ready ts i r o out (Implicit b ∷ stack) k h = tt
closed_ready ts i r o out (Explicit j ∷ stack) k h = tt
closed_ready ts i r o out (Opened p j ∷ stack) k h = closed_same ts i r o p j out stack (is_same o p) refl k h

close_ready : (ts : List Token) (i : ℕ) (r : Role) (o : Opening) (l : Laying)
    → ((u : List Open) → after_token_of_file r u ≡ closes o u) → HoldsOf ts i l → IfSome (after_close o i l) (ReadyOf ts i r)
close_ready ts i r o l k h =
    closed_ready ts i r o (blocks_ended ending.Always i l).output (blocks_ended ending.Always i l).stack k
    (ended_holds ts ending.Always i l.output l.stack h)

brace_ready : (ts : List Token) (i : ℕ) (out : List LaidToken) (stack : List Entry)
    → Holds ts i out (shapes stack) → IfSome (brace_closed out stack) (ReadyOf ts i role.CloseBrace)
brace_ready ts i out [] h = tt
brace_ready ts i out (Implicit b ∷ stack) h = tt
brace_ready ts i out (Explicit j ∷ stack) h = record { order = h.order; before = written ∷ shapes stack; nest = h.nest; fits = refl }
brace_ready ts i out (Opened p j ∷ stack) h = tt

then_ready : (ts : List Token) (i : ℕ) (out : List LaidToken) (stack : List Entry)
    → Holds ts i out (shapes stack) → IfSome (then_opened out stack) (ReadyOf ts i role.Then)
then_ready ts i out [] h = tt
then_ready ts i out (Implicit b ∷ stack) h = tt
then_ready ts i out (Explicit j ∷ stack) h = tt
then_ready ts i out (Opened opening.Parenthesis j ∷ stack) h = tt
then_ready ts i out (Opened opening.Bracket j ∷ stack) h = tt
then_ready ts i out (Opened opening.Banana j ∷ stack) h = tt
then_ready ts i out (Opened opening.Let j ∷ stack) h = tt
then_ready ts i out (Opened opening.If j ∷ stack) h = record { order = h.order; before = opened opening.If ∷ shapes stack; nest = h.nest; fits = refl }
then_ready ts i out (Opened opening.Then j ∷ stack) h = tt
then_ready ts i out (Opened opening.Case j ∷ stack) h = tt

comma_ready : (ts : List Token) (i : ℕ) (l : Laying) (v : Bool) → HoldsOf ts i l
    → ReadyOf ts i role.Comma (if v then blocks_ended ending.AtComma i l else l)
comma_ready ts i l true h =
    unchanged ts i role.Comma _ _ _ (λ u. refl) (ended_holds ts ending.AtComma i l.output l.stack h) refl
comma_ready ts i l false h = unchanged ts i role.Comma _ _ _ (λ u. refl) h refl

row_ready : (ts : List Token) (r : Role) (i : ℕ) (l : Laying) → HoldsOf ts i l → IfSome (row r i l) (ReadyOf ts i r)
row_ready ts role.OpenBrace i l h = record { order = h.order; before = shapes l.stack; nest = h.nest; fits = refl }
row_ready ts role.CloseBrace i l h =
    brace_ready ts i (blocks_ended ending.Always i l).output (blocks_ended ending.Always i l).stack (ended_holds ts ending.Always i l.output l.stack h)
row_ready ts role.Semicolon i l h = unchanged ts i role.Semicolon l.output (shapes l.stack) _ (λ u. refl) h (shapes-item_begun l.stack)
row_ready ts (role.Opens o) i l h = record { order = h.order; before = shapes l.stack; nest = h.nest; fits = refl }
row_ready ts (role.Closes o) i l h = close_ready ts i (role.Closes o) o l (λ u. refl) h
row_ready ts role.Of i l h = close_ready ts i role.Of opening.Case l (λ u. refl) h
row_ready ts role.Then i l h =
    then_ready ts i (blocks_ended ending.Always i l).output (blocks_ended ending.Always i l).stack (ended_holds ts ending.Always i l.output l.stack h)
row_ready ts role.Else i l h = close_ready ts i role.Else opening.Then l (λ u. refl) h
row_ready ts role.In i l h = close_ready ts i role.In opening.Let l (λ u. refl) h
row_ready ts role.Comma i l h = comma_ready ts i l (in_brackets l.stack) h
row_ready ts role.Where i l h =
    unchanged ts i role.Where _ _ _ (λ u. refl) (ended_holds ts ending.AtWhere i l.output l.stack h) refl
row_ready ts role.Equals i l h = unchanged ts i role.Equals l.output (shapes l.stack) _ (λ u. refl) h (shapes-equals_noted l.stack)
row_ready ts role.Module i l h = unchanged ts i role.Module l.output (shapes l.stack) _ (λ u. refl) h refl
row_ready ts role.Other i l h = unchanged ts i role.Other l.output (shapes l.stack) _ (λ u. refl) h refl

-- the note that an item is not empty changes nothing for the law
shapes-item_after : (r : Role) (l : Laying) → shapes (item_after r l).stack ≡ shapes l.stack
shapes-item_after role.OpenBrace l = shapes-item_filled l.stack
shapes-item_after role.CloseBrace l = shapes-item_filled l.stack
shapes-item_after role.Semicolon l = refl
shapes-item_after (role.Opens o) l = shapes-item_filled l.stack
shapes-item_after (role.Closes o) l = shapes-item_filled l.stack
shapes-item_after role.Of l = shapes-item_filled l.stack
shapes-item_after role.Then l = shapes-item_filled l.stack
shapes-item_after role.Else l = shapes-item_filled l.stack
shapes-item_after role.In l = shapes-item_filled l.stack
shapes-item_after role.Comma l = shapes-item_filled l.stack
shapes-item_after role.Where l = shapes-item_filled l.stack
shapes-item_after role.Equals l = shapes-item_filled l.stack
shapes-item_after role.Module l = shapes-item_filled l.stack
shapes-item_after role.Other l = shapes-item_filled l.stack

output-item_after : (r : Role) (l : Laying) → (item_after r l).output ≡ l.output
output-item_after role.OpenBrace l = refl
output-item_after role.CloseBrace l = refl
output-item_after role.Semicolon l = refl
output-item_after (role.Opens o) l = refl
output-item_after (role.Closes o) l = refl
output-item_after role.Of l = refl
output-item_after role.Then l = refl
output-item_after role.Else l = refl
output-item_after role.In l = refl
output-item_after role.Comma l = refl
output-item_after role.Where l = refl
output-item_after role.Equals l = refl
output-item_after role.Module l = refl
output-item_after role.Other l = refl

real_holds : (ts : List Token) (r : Role) (i : ℕ) (l : Laying) → role_at ts i ≡ r → ReadyOf ts i r l
    → HoldsOf ts (suc i) (with_token (Real i) (item_after r l))
real_holds ts r i l e h =
    let out = output-item_after r l in
    record {
      order = ap (λ o. read in_order (o ++ Real i ∷ []) 0) out ∙ one_more in_order l.output (Real i) 0 i (suc i) h.order (same_place i (suc i));
      nest = ap (λ o. read (nests ts) (o ++ Real i ∷ []) []) out
          ∙ one_more (nests ts) l.output (Real i) [] h.before (shapes l.stack) h.nest (ap (λ k. after_token_of_file k h.before) e ∙ h.fits)
          ∙ ap Some (sym (shapes-item_after r l));
    }

if_mapped : (ts : List Token) (r : Role) (i : ℕ) (o : Option Laying) → role_at ts i ≡ r → IfSome o (ReadyOf ts i r)
    → IfSome (option_map (λ m. with_token (Real i) (item_after r m)) o) (HoldsOf ts (suc i))
if_mapped ts r i None e h = tt
if_mapped ts r i (Some l) e h = real_holds ts r i l e h

token_holds : (ts : List Token) (r : Role) (i : ℕ) (l : Laying) → role_at ts i ≡ r → HoldsOf ts i l → IfSome (after_token r i l) (HoldsOf ts (suc i))
token_holds ts r i l e h = if_mapped ts r i (row r i l) e (row_ready ts r i l h)

-- pieces that go on from a place: each has the place that is due, and tokens have their roles; the end is last
abbrev Chain : List Token → ℕ → List Piece → ℕ → Type 0
Chain ts i [] n = ⊥
Chain ts i (block_mark c o j ∷ ps) n = (j ≡ i) × Chain ts i ps n
Chain ts i (line_mark c j ∷ ps) n = (j ≡ i) × Chain ts i ps n
Chain ts i (token r j ∷ ps) n = (j ≡ i) × (role_at ts i ≡ r) × Chain ts (suc i) ps n
Chain ts i (file_end j ∷ ps) n = (j ≡ i) × (i ≡ n) × (ps ≡ [])

token_chain : (ts : List Token) (t : Token) (i n : ℕ) (ps : List Piece) → role_at ts i ≡ role_of t.kind → Chain ts (suc i) ps n
    → Chain ts i (token (role_of t.kind) i ∷ ps) n
token_chain ts t i n ps e h = (refl, e, h)

line_chain : (ts : List Token) (t : Token) (i n : ℕ) (ps : List Piece) (v : Bool) → role_at ts i ≡ role_of t.kind → Chain ts (suc i) ps n
    → Chain ts i (((if v then line_mark t.column i ∷ [] else []) ++ token (role_of t.kind) i ∷ []) ++ ps) n
line_chain ts t i n ps true e h = (refl, token_chain ts t i n ps e h)
line_chain ts t i n ps false e h = token_chain ts t i n ps e h

block_chain : (ts : List Token) (o : Owner) (t : Token) (i n : ℕ) (ps : List Piece) (v : Bool) → role_at ts i ≡ role_of t.kind → Chain ts (suc i) ps n
    → Chain ts i (((if v then line_marks t i else block_mark t.column o i ∷ []) ++ token (role_of t.kind) i ∷ []) ++ ps) n
block_chain ts o t i n ps true e h = line_chain ts t i n ps t.first e h
block_chain ts o t i n ps false e h = (refl, token_chain ts t i n ps e h)

pieces_chain : (ts : List Token) (awaited : Option Owner) (t : Token) (i n : ℕ) (ps : List Piece) → role_at ts i ≡ role_of t.kind
    → Chain ts (suc i) ps n → Chain ts i (pieces awaited t i ++ ps) n
pieces_chain ts None t i n ps e h = line_chain ts t i n ps t.first e h
pieces_chain ts (Some o) t i n ps e h = block_chain ts o t i n ps (stands_for_block o (role_of t.kind)) e h

end_chain : (ts : List Token) (awaited : Option Owner) (i n : ℕ) → i ≡ n → Chain ts i (end_pieces awaited i) n
end_chain ts None i n h = (refl, h, refl)
end_chain ts (Some o) i n h = (refl, (refl, h, refl))

marked_chain : (ts : List Token) (awaited : Option Owner) (i : ℕ) (rest : List Token) → ((k : ℕ) → slice_get ts (i + k) ≡ slice_get rest k)
    → i + length rest ≡ length ts → Chain ts i (marked awaited i rest) (length ts)
marked_chain ts awaited i [] h e = end_chain ts awaited i (length ts) (omega arith)
marked_chain ts awaited i (t ∷ rest) h e =
    let role_is : role_at ts i ≡ role_of t.kind =
    ap (λ o. option_map_or (λ u. role_of u.kind) o role.Other) (ap (λ k. slice_get ts k) (sym (add-zero i)) ∙ h 0) in
    pieces_chain ts awaited t i (length ts) (marked (block_after (role_of t.kind)) (suc i) rest) role_is
    (marked_chain ts (block_after (role_of t.kind)) (suc i) rest
    (λ k. let moved : suc i + k ≡ i + suc k = omega arith in ap (λ m. slice_get ts m) moved ∙ h (suc k))
    (omega arith))

-- what holds of the whole
pub record Kept (ts : List Token) (out : List LaidToken) : Type 0 where
  pub order : IsInOrder (length ts) out
  pub nest : IsNested ts out

none_lower : (o : Option ℕ) (i : ℕ) → or_else o (Some i) ≡ None → ⊥
none_lower None i h = cc
none_lower (Some j) i h = cc

-- where all implicit blocks on top have ended and nothing else is open, nothing is open
all_ended : (i : ℕ) (out : List LaidToken) (stack : List Entry) → lowest (ended ending.Always i out stack).stack ≡ None
    → (ended ending.Always i out stack).stack ≡ []
all_ended i out [] h = refl
all_ended i out (Implicit b ∷ stack) h = all_ended i (out ++ End i ∷ []) stack h
all_ended i out (Explicit j ∷ stack) h = absurd (none_lower (lowest stack) j h)
all_ended i out (Opened o j ∷ stack) h = absurd (none_lower (lowest stack) j h)

finished_none : (ts : List Token) (o : Option ℕ) (out' out : List LaidToken) → finished ts o out' ≡ Ok out → (o ≡ None) × (out' ≡ out)
finished_none ts None out' out h = (refl, cc)
finished_none ts (Some i) out' out h = absurd (cc)

end_keeps : (ts : List Token) (i : ℕ) (l : Laying) (out : List LaidToken) → i ≡ length ts → HoldsOf ts i l
    → laid ts [] (blocks_ended ending.Always i l) ≡ Ok out → Kept ts out
end_keeps ts i l out e h k =
    let m = blocks_ended ending.Always i l in
    let held : HoldsOf ts i m = ended_holds ts ending.Always i l.output l.stack h in
    let none = finished_none ts (lowest m.stack) m.output out k in
    record {
      order = ap (λ o. read in_order o 0) (sym none.1) ∙ held.order ∙ ap Some e;
      nest = ap (λ o. read (nests ts) o []) (sym none.1) ∙ held.nest ∙ ap (λ stack. Some (shapes stack)) (all_ended i l.output l.stack none.0);
    }

next_keeps : (ts : List Token) (ps : List Piece) (i : ℕ) (out : List LaidToken) (bad : Refusal) (o : Option Laying) → IfSome o (HoldsOf ts i)
    → ((m : Laying) → HoldsOf ts i m → laid ts ps m ≡ Ok out → Kept ts out)
    → option_map_or (λ m. laid ts ps m) o (Err bad) ≡ Ok out → Kept ts out
next_keeps ts ps i out bad None h f k = absurd (cc)
next_keeps ts ps i out bad (Some m) h f k = f m h k

laid_keeps : (ts : List Token) (ps : List Piece) (i : ℕ) (l : Laying) (out : List LaidToken) → Chain ts i ps (length ts) → HoldsOf ts i l
    → laid ts ps l ≡ Ok out → Kept ts out
laid_keeps ts [] i l out c h k = absurd c
laid_keeps ts (block_mark n o j ∷ ps) i l out c h k =
    next_keeps ts ps j out _ (after_block n o j l) (block_holds ts n o j l (subst (λ m. HoldsOf ts m l) (sym c.0) h))
    (λ m held e. laid_keeps ts ps j m out (subst (λ m. Chain ts m ps (length ts)) (sym c.0) c.1) held e) k
laid_keeps ts (line_mark n j ∷ ps) i l out c h k =
    next_keeps ts ps j out _ (after_line n j l) (lined_holds ts n j l.output l.stack (subst (λ m. HoldsOf ts m l) (sym c.0) h))
    (λ m held e. laid_keeps ts ps j m out (subst (λ m. Chain ts m ps (length ts)) (sym c.0) c.1) held e) k
laid_keeps ts (token r j ∷ ps) i l out c h k =
    next_keeps ts ps (suc j) out _ (after_token r j l)
    (token_holds ts r j l (ap (role_at ts) c.0 ∙ c.1) (subst (λ m. HoldsOf ts m l) (sym c.0) h))
    (λ m held e. laid_keeps ts ps (suc j) m out (subst (λ m. Chain ts (suc m) ps (length ts)) (sym c.0) c.2) held e) k
laid_keeps ts (file_end j ∷ ps) i l out c h k =
    end_keeps ts j l out (c.0 ∙ c.1) (subst (λ m. HoldsOf ts m l) (sym c.0) h)
    (ap (λ qs. laid ts qs (blocks_ended ending.Always j l)) (sym c.2) ∙ k)

-- each layout keeps the laws
pub layout_keeps : (ts : List Token) (out : List LaidToken) → layout ts ≡ Ok out → Kept ts out
layout_keeps ts out k =
    laid_keeps ts (marked (Some owner.File) 0 ts) 0 (record { stack = []; output = [] }) out
    (marked_chain ts (Some owner.File) 0 ts (λ n. ap (λ m. slice_get ts m) (zero-add n)) (zero-add (length ts)))
    (record { order = refl; nest = refl }) k

-- and so does each answer that is one
pub answer_in_order : (ts : List Token) (answer : Result (List LaidToken) Fault) → IfOk answer (λ out. layout ts ≡ Ok out)
    → IfOk answer (λ out. IsInOrder (length ts) out)
answer_in_order ts (Ok out) h = (layout_keeps ts out h).order
answer_in_order ts (Err f) h = tt

pub answer_nested : (ts : List Token) (answer : Result (List LaidToken) Fault) → IfOk answer (λ out. layout ts ≡ Ok out)
    → IfOk answer (λ out. IsNested ts out)
answer_nested ts (Ok out) h = (layout_keeps ts out h).nest
answer_nested ts (Err f) h = tt
