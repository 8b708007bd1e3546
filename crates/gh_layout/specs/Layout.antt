-- The layout of a module (Haskell 98 Report, 9.3, with this language's own rules for where an implicit block ends).
--
-- The marks {n} and <n> are put in first. Then the tokens and marks are treated from left to right. What they do
-- depends on a stack of what stands open: implicit blocks, explicit blocks, and openings. "The block" is the
-- topmost block, and its column is 0 where it is explicit or there is none.
use Rattle.std.specs.Prelude.{ℕ, suc, ◌-◌, min, Bool, true, false, not, ◌&&◌, ◌==◌, nat_lt, if◌then◌else◌, List, [], ◌∷◌, ◌++◌, length, slice_get, Option, Some, None, option_map, option_and_then, Result, Ok, Err}
use Rattle.std.specs.Option.{option_map_or}
use Rattle.gh_base.specs.declared.place.Span.{Span}
use Rattle.gh_base.specs.declared.refusal.Refusal.{Refusal}
use Rattle.gh_base.specs.declared.refusal.Refusal.TheVariants.{BadLayout, Unclosed}
use Rattle.gh_lexer.specs.declared.token.Token.{Token}
use Rattle.gh_layout.specs.Entries.{block_column, is_within, new_item, item_begun, item_filled, equals_noted, in_brackets, lowest, is_same}
use Rattle.gh_layout.specs.Roles.{role_of, block_after, stands_for_block}
use Rattle.gh_layout.specs.declared.entry.Block.{Block}
use Rattle.gh_layout.specs.declared.entry.Entry.{Entry}
use Rattle.gh_layout.specs.declared.entry.Entry.TheVariants.{Implicit, Explicit, Opened}
use Rattle.gh_layout.specs.declared.entry.Opening.{Opening}
use Rattle.gh_layout.specs.declared.entry.Opening.TheVariants as opening
use Rattle.gh_layout.specs.declared.entry.Owner.{Owner}
use Rattle.gh_layout.specs.declared.entry.Owner.TheVariants as owner
use Rattle.gh_layout.specs.declared.laying.Ending.{Ending}
use Rattle.gh_layout.specs.declared.laying.Ending.TheVariants as ending
use Rattle.gh_layout.specs.declared.laying.LaidToken.{LaidToken}
use Rattle.gh_layout.specs.declared.laying.LaidToken.TheVariants.{Real, Begin, Semi, End}
use Rattle.gh_layout.specs.declared.laying.Laying.{Laying}
use Rattle.gh_layout.specs.declared.role.Role.{Role}
use Rattle.gh_layout.specs.declared.role.Role.TheVariants as role

-- What is treated. The place is that of the token, or of the next token after a mark; at the end of the file it is
-- the number of tokens.
pub data Piece : Type 0 where
  -- {n}, with what its block belongs to
  block_mark : (column : ℕ) (owner : Owner) (place : ℕ) → Piece
  -- <n>
  line_mark : (column place : ℕ) → Piece
  -- a token
  token : (role : Role) (place : ℕ) → Piece
  -- the end of the file
  file_end : (place : ℕ) → Piece

-- the mark of a token that is the first of its line
abbrev pub line_marks : Token → ℕ → List Piece
line_marks t i = if t.first then line_mark t.column i ∷ [] else []

-- the marks before a token: {n} where a block is awaited, and else <n>
abbrev pub marks : Option Owner → Token → ℕ → List Piece
marks None t i = line_marks t i
marks (Some o) t i = if stands_for_block o (role_of t.kind) then line_marks t i else block_mark t.column o i ∷ []

-- the marks before a token, and the token
abbrev pub pieces : Option Owner → Token → ℕ → List Piece
pieces awaited t i = marks awaited t i ++ token (role_of t.kind) i ∷ []

-- the marks at the end of the file, and the end
abbrev pub end_pieces : Option Owner → ℕ → List Piece
end_pieces None i = file_end i ∷ []
end_pieces (Some o) i = block_mark 0 o i ∷ file_end i ∷ []

-- tokens, the first of them at a place, with the marks put in; the first argument is the block that is awaited
abbrev pub marked : Option Owner → ℕ → List Token → List Piece
marked awaited i [] = end_pieces awaited i
marked awaited i (t ∷ ts) = pieces awaited t i ++ marked (block_after (role_of t.kind)) (suc i) ts

-- what is laid so far, with one more token
abbrev pub with_token : LaidToken → Laying → Laying
with_token x l = record { stack = l.stack; output = l.output ++ x ∷ [] }

-- with one more entry on top
abbrev pub with_entry : Entry → Laying → Laying
with_entry e l = record { stack = e ∷ l.stack; output = l.output }

-- with another stack
abbrev pub with_stack : List Entry → Laying → Laying
with_stack stack l = record { stack = stack; output = l.output }

-- a new block; its item is empty
abbrev pub new_block : ℕ → Owner → Block
new_block n o = record { column = n; owner = o; is_empty = true; has_equals = false }

abbrev pub is_keyword : Owner → Bool
is_keyword owner.File = false
is_keyword _ = true

abbrev pub is_let_or_where : Owner → Bool
is_let_or_where owner.Let = true
is_let_or_where owner.Where = true
is_let_or_where _ = false

-- whether a block on top ends: always; or at a comma, up to a `let` or `where` block whose item has no `=` yet; or
-- at a `where`, if the block is that of a keyword and its item is empty
abbrev pub does_end : Ending → Block → Bool
does_end ending.Always b = true
does_end ending.AtComma b = not (is_let_or_where b.owner && not b.has_equals)
does_end ending.AtWhere b = is_keyword b.owner && b.is_empty

-- implicit blocks on top end, one after another: for each a `}` is inserted, and it is popped
abbrev pub ended : Ending → ℕ → List LaidToken → List Entry → Laying
ended e i out [] = record { stack = []; output = out }
ended e i out (Implicit b ∷ stack) =
    if does_end e b then ended e i (out ++ End i ∷ []) stack else record { stack = Implicit b ∷ stack; output = out }
ended e i out (Explicit j ∷ stack) = record { stack = Explicit j ∷ stack; output = out }
ended e i out (Opened o j ∷ stack) = record { stack = Opened o j ∷ stack; output = out }

abbrev pub blocks_ended : Ending → ℕ → Laying → Laying
blocks_ended e i l = ended e i l.output l.stack

-- The rows for a mark <n>. At the column of the block an item begins; left of it the block ends, and <n> is treated
-- again; but where an opening stands above the block, there is no answer. Anywhere else nothing happens.
abbrev pub lined : ℕ → ℕ → List LaidToken → List Entry → Option Laying
lined n i out [] = Some (record { stack = []; output = out })
lined n i out (Implicit b ∷ stack) =
    if n == b.column then Some (record { stack = Implicit (new_item b) ∷ stack; output = out ++ Semi i ∷ [] })
    else (if nat_lt n b.column then lined n i (out ++ End i ∷ []) stack
    else Some (record { stack = Implicit b ∷ stack; output = out }))
lined n i out (Explicit j ∷ stack) = Some (record { stack = Explicit j ∷ stack; output = out })
lined n i out (Opened o j ∷ stack) = if is_within n stack then None else Some (record { stack = Opened o j ∷ stack; output = out })

abbrev pub after_line : ℕ → ℕ → Laying → Option Laying
after_line n i l = lined n i l.output l.stack

-- The rows for a mark {n}: right of the block, a block begins; anywhere else an empty block stands there, and then
-- <n> is treated.
abbrev pub after_block : ℕ → Owner → ℕ → Laying → Option Laying
after_block n o i l =
    if nat_lt (block_column l.stack) n then Some (with_entry (Implicit (new_block n o)) (with_token (Begin i) l))
    else after_line n i (with_token (End i) (with_token (Begin i) l))

-- this opening must be on top, and is popped
abbrev pub closed : Opening → List LaidToken → List Entry → Option Laying
closed o out (Opened p j ∷ stack) = if is_same o p then Some (record { stack = stack; output = out }) else None
closed o out _ = None

-- after the implicit blocks on top have ended, this opening must be on top, and is popped
abbrev pub after_close : Opening → ℕ → Laying → Option Laying
after_close o i l = let m = blocks_ended ending.Always i l in closed o m.output m.stack

-- an explicit block must be on top, and is popped
abbrev pub brace_closed : List LaidToken → List Entry → Option Laying
brace_closed out (Explicit j ∷ stack) = Some (record { stack = stack; output = out })
brace_closed out _ = None

-- `if` must be on top, and becomes `then`
abbrev pub then_opened : List LaidToken → List Entry → Option Laying
then_opened out (Opened opening.If j ∷ stack) = Some (record { stack = Opened opening.Then j ∷ stack; output = out })
then_opened out _ = None

-- The rows for the tokens, before the token itself is laid.
abbrev pub row : Role → ℕ → Laying → Option Laying
row role.OpenBrace i l = Some (with_entry (Explicit i) l)
row role.CloseBrace i l = let m = blocks_ended ending.Always i l in brace_closed m.output m.stack
row role.Semicolon i l = Some (with_stack (item_begun l.stack) l)
row (role.Opens o) i l = Some (with_entry (Opened o i) l)
row (role.Closes o) i l = after_close o i l
row role.Of i l = after_close opening.Case i l
row role.Then i l = let m = blocks_ended ending.Always i l in then_opened m.output m.stack
row role.Else i l = after_close opening.Then i l
row role.In i l = after_close opening.Let i l
row role.Comma i l = Some (if in_brackets l.stack then blocks_ended ending.AtComma i l else l)
row role.Where i l = Some (blocks_ended ending.AtWhere i l)
row role.Equals i l = Some (with_stack (equals_noted l.stack) l)
row role.Module i l = Some l
row role.Other i l = Some l

-- a token other than `;` makes the block's item nonempty
abbrev pub item_after : Role → Laying → Laying
item_after role.Semicolon l = l
item_after _ l = with_stack (item_filled l.stack) l

-- each token goes on to the output
abbrev pub after_token : Role → ℕ → Laying → Option Laying
after_token r i l = option_map (λ m. with_token (Real i) (item_after r m)) (row r i l)

-- one equation for each kind of piece; none is an answer where the rows have none
abbrev pub treated : Piece → Laying → Option Laying
treated (block_mark n o i) l = after_block n o i l
treated (line_mark n i) l = after_line n i l
treated (token r i) l = after_token r i l
treated (file_end i) l = Some (blocks_ended ending.Always i l)

abbrev pub place_of : Piece → ℕ
place_of (block_mark n o i) = i
place_of (line_mark n i) = i
place_of (token r i) = i
place_of (file_end i) = i

-- the bytes of the token at a place, or of the last token where the file ends there; a file without tokens has none
abbrev pub span_at : List Token → ℕ → Span
span_at ts i = option_map_or (λ t. t.span) (slice_get ts (min i (length ts - 1))) (record { file = 0; from = 0; to = 0 })

-- at the end nothing may be left open
abbrev pub finished : List Token → Option ℕ → List LaidToken → Result (List LaidToken) Refusal
finished ts None out = Ok out
finished ts (Some i) out = Err (Unclosed (span_at ts i))

-- the pieces are treated from left to right
abbrev pub laid : List Token → List Piece → Laying → Result (List LaidToken) Refusal
laid ts [] l = finished ts (lowest l.stack) l.output
laid ts (p ∷ ps) l = option_map_or (λ m. laid ts ps m) (treated p l) (Err (BadLayout (span_at ts (place_of p))))

-- what some pieces come to, without an end
abbrev pub all_treated : List Piece → Laying → Option Laying
all_treated [] l = Some l
all_treated (p ∷ ps) l = option_and_then (λ m. all_treated ps m) (treated p l)

-- the layout of a file, or why it has none
abbrev pub layout : List Token → Result (List LaidToken) Refusal
layout ts = laid ts (marked (Some owner.File) 0 ts) (record { stack = []; output = [] })
