-- What a file's bytes are, in terms of its tokens: the tokens are those of the reading, there are no more of them than
-- bytes, and the names of a refusal are of the table.
use Rattle.std.proofs.Common.{◌≡◌, ℕ, zero, suc, ◌<◌, ◌≤◌, ◌^◌, Bool, true, false, List, [], ◌∷◌, length, take, drop, Option, Some, None, Result, Ok, Err, refl, ap, ◌∙◌, subst, arith, if◌then◌else◌}
use Rattle.std.specs.Prelude.{nat_lt, ◌==◌, option_map}
use Rattle.std.specs.Option.{option_map_or}
use Rattle.std.specs.Str.Lossy.{utf8_valid_len}
use Rattle.gh_base.specs.declared.NameId.{NameId}
use Rattle.gh_base.specs.declared.refusal.Fault.TheVariants as fault
use Rattle.gh_base.specs.declared.Refusal.{Refusal}
use Rattle.gh_base.specs.declared.Refusal.TheVariants as refusal
use Rattle.gh_base.specs.declared.Span.{Span}
use Rattle.gh_base.specs.declared.fixed.TheConstants.{MAIN}
use Rattle.gh_base.specs.Ids.{text_in}
use Rattle.gh_bindings.specs.declared.binding.Operand.{Operand}
use Rattle.gh_bindings.specs.declared.binding.Operand.TheVariants as operand
use Rattle.gh_bindings.specs.declared.binding.Binding.{Binding}
use Rattle.gh_limits.specs.Limits.{limits_of}
use Rattle.gh_parser.specs.Faults.{BodyFault, FaultWithin, header_has_no_tree, header_is_too_deep, header_is_tree, item_has_no_tree, item_is_too_deep, item_is_tree}
use Rattle.gh_parser.specs.Parse.{parsed_of}
use Rattle.gh_parser.proofs.Whole.{tree_given, cause_given}
use Rattle.gh_tree.specs.Items.{TopItem, items_of}
use Rattle.gh_tree.specs.Print.{flat}
use Rattle.gh_tree.specs.Syms.{syms_of}
use Rattle.gh_tree.specs.declared.module_tree.ModuleTree.{ModuleTree}
use Rattle.gh_tree_form.specs.Form.{has_name, form_of}
use Rattle.gh_tree_form.specs.Named.{OperandPlaced, OperandsPlaced, BindingsPlaced, ParsedPlaced}
use Rattle.gh_tree_form.specs.declared.program.Parsed.{Parsed}
use Rattle.gh_tree_form.specs.declared.program.Parsed.TheVariants as parsed
use Rattle.gh_tree_form.proofs.Placed.{names_placed}
use Rattle.gh_layout.specs.Layout.{Piece as Laying_piece, layout, laid, treated, finished, marked, span_at, place_of as place_of_piece}
use Rattle.gh_layout.specs.Entries.{lowest}
use Rattle.gh_layout.specs.declared.laying.LaidToken.{LaidToken}
use Rattle.gh_layout.specs.declared.laying.Laying.{Laying}
use Rattle.gh_layout.specs.declared.entry.Owner.TheVariants as owner
use Rattle.gh_lexer.specs.Lexeme.{Piece, Lexeme}
use Rattle.gh_lexer.specs.Reading.{Valued, Where, Lexemes, named, number, letter_meant, letter, text, valued, refusal_of, onto, on_value, on_scan, read_from, read, reading, beginning, lexeme_at, skipped, passed}
use Rattle.gh_lexer.specs.Scan.{scan_at}
use Rattle.gh_lexer.specs.Seen.{piece_in, lexeme_in, lexemes_in, IsPlaced, IsPlacedIfSome, IdsPlaced, AllPlaced}
use Rattle.gh_lexer.specs.declared.scan.Class.{Class}
use Rattle.gh_lexer.specs.declared.scan.Class.TheVariants as class
use Rattle.gh_lexer.specs.declared.scan.Escape.{Escape}
use Rattle.gh_lexer.specs.declared.scan.Item.{Item}
use Rattle.gh_lexer.specs.declared.scan.Meaning.{Meaning}
use Rattle.gh_lexer.specs.declared.scan.Meaning.TheVariants as meaning
use Rattle.gh_lexer.specs.declared.scan.Scan.{Scan}
use Rattle.gh_lexer.specs.declared.scan.Wrong.{Wrong}
use Rattle.gh_lexer.specs.declared.scan.Wrong.TheVariants as wrong
use Rattle.gh_lexer.specs.declared.token.Token.{Token}
use Rattle.gh_lexer.specs.declared.token.TokenKind.{TokenKind}
use Rattle.gh_lexer.specs.declared.token.TokenKind.TheVariants as kind
use Rattle.gh_lexer.specs.Literal.{letter_at, integer_of}
use Rattle.gh_check.specs.declared.phases.Checked.{Checked}
use Rattle.gh_check.specs.declared.phases.Checked.TheVariants as checked
use Rattle.gh_check.specs.Check.{id_at, id_of, kind_by, token_by, tokens_by, linked_of, laid_of, limited_of, formed_of, on_form, on_limits, on_tree, on_layout, on_reading, scoped, RefusalNamed}
use Rattle.gh_lines.specs.Lines.{Table, IsNamed}
use Rattle.gh_check.proofs.LimitsNamed.{MaybeNamed, limits_named}
use Rattle.gh_check.specs.Scope.{unknown_use, first_of, first_in, first_unknown}

-- the tokens of the table are those of the reading

id_is : (table : Table) (id : NameId) → IsPlaced table id → id_of table (text_in table id) ≡ id
unfolding id_of
id_is table id p = ap (id_at (length table)) p.place

id_if : (table : Table) (q : Option NameId) → IsPlacedIfSome table q → option_map (λ x. id_of table x) (option_map (λ x. text_in table x) q) ≡ q
id_if table None p = refl
id_if table (Some id) p = ap Some (id_is table id p)

kind_is : (table : Table) (k : TokenKind) → IdsPlaced table k → kind_by table (piece_in table k) ≡ k
kind_is table (kind.Name c q id) p = ap (λ x. kind.Name c x (id_of table (text_in table id))) (id_if table q p.0) ∙ ap (kind.Name c q) (id_is table id p.1)
kind_is table (kind.Word id) p = ap kind.Word (id_is table id p)
kind_is table (kind.Mark id) p = ap kind.Mark (id_is table id p)
kind_is table (kind.Int n) p = refl
kind_is table (kind.Char c) p = refl
kind_is table (kind.Str cs) p = refl

token_is : (table : Table) (t : Token) → IdsPlaced table t.kind → token_by table (lexeme_in table t) ≡ t
token_is table t p = ap (λ k. record { kind = k; span = t.span; line = t.line; column = t.column; first = t.first }) (kind_is table t.kind p)

tokens_are_these : (table : Table) (ts : List Token) → AllPlaced table ts → tokens_by table (lexemes_in table ts) ≡ ts
tokens_are_these table [] p = refl
tokens_are_these table (t ∷ ts) p = ap (λ x. x ∷ tokens_by table (lexemes_in table ts)) (token_is table t p.0) ∙ ap (λ xs. t ∷ xs) (tokens_are_these table ts p.1)

pub tokens_are : (table : Table) (file : ℕ) (bytes : List ℕ) (ts : List Token) → AllPlaced table ts → reading file bytes ≡ Ok (lexemes_in table ts)
    → on_reading table (reading file bytes) ≡ laid_of ts
tokens_are table file bytes ts p e = ap (on_reading table) e ∙ ap laid_of (tokens_are_these table ts p)

-- there are no more tokens than bytes

abbrev AtMost : ℕ → Lexemes → Type 0
AtMost n (Ok ts) = length ts ≤ n
AtMost n (Err r) = Unit {0}

few_onto : (n : ℕ) (t : Lexeme) (r : Lexemes) → AtMost n r → AtMost (suc n) (onto t r)
few_onto n t (Ok ts) h = omega (arith, h)
few_onto n t (Err r) h = tt

few_skipped : (n : ℕ) (r : Lexemes) → AtMost n r → AtMost (suc n) r
few_skipped n (Ok ts) h = omega (arith, h)
few_skipped n (Err r) h = tt

few_value : (n file : ℕ) (w : Where) (bytes : List ℕ) (len : ℕ) (v : Valued) (go : Where → Lexemes) → ((x : Where) → AtMost n (go x)) → AtMost (suc n) (on_value file w bytes len v go)
few_value n file w bytes len (Err r) go f = tt
few_value n file w bytes len (Ok None) go f = few_skipped n (go (skipped len bytes w)) (f (skipped len bytes w))
few_value n file w bytes len (Ok (Some p)) go f = few_onto n (lexeme_at file w len p) (go (passed len bytes w)) (f (passed len bytes w))

few_scan : (n file : ℕ) (w : Where) (bytes : List ℕ) (s : Result Scan Wrong) (go : ℕ → Where → Lexemes) → ((k : ℕ) (x : Where) → AtMost n (go k x)) → AtMost (suc n) (on_scan file w bytes s go)
few_scan n file w bytes (Err why) go f = tt
few_scan n file w bytes (Ok s) go f = few_value n file w bytes s.len (valued file w.at s.class (take s.len bytes)) (go s.len) (f s.len)

few_from : (file n : ℕ) (w : Where) (bytes : List ℕ) → AtMost n (read_from file n w bytes)
few_from file zero w bytes = omega arith
few_from file (suc n) w [] = omega arith
few_from file (suc n) w (c ∷ rest) =
    few_scan n file w (c ∷ rest) (scan_at (c ∷ rest)) (λ len next. read_from file n next (drop len (c ∷ rest))) (λ len next. few_from file n next (drop len (c ∷ rest)))

few_if : (n : ℕ) (b : Bool) (r : Lexemes) (e : Refusal) → AtMost n r → AtMost n (if b then r else Err e)
few_if n true r e h = h
few_if n false r e h = tt

few_read : (file : ℕ) (bytes : List ℕ) → AtMost (length bytes) (reading file bytes)
unfolding reading read
few_read file bytes = few_if (length bytes) (utf8_valid_len bytes == length bytes) (read_from file (length bytes) beginning bytes) _ (few_from file (length bytes) beginning bytes)

count_lexemes : (table : Table) (ts : List Token) → length (lexemes_in table ts) ≡ length ts
count_lexemes table [] = refl
count_lexemes table (t ∷ ts) = ap suc (count_lexemes table ts)

pub few_tokens : (table : Table) (file : ℕ) (bytes : List ℕ) (ts : List Token) → reading file bytes ≡ Ok (lexemes_in table ts) → length bytes ≤ 1048576 → length ts < 2 ^ 32
few_tokens table file bytes ts e h =
    let few : length (lexemes_in table ts) ≤ length bytes = subst (AtMost (length bytes)) e (few_read file bytes) in
    let same : length (lexemes_in table ts) ≡ length ts = count_lexemes table ts in
    omega (arith, few, same, h)

-- the refusals of the lexer have no names

abbrev ValueNamed : Table → Valued → Type 0
ValueNamed table (Ok p) = Unit {0}
ValueNamed table (Err r) = IsNamed table r

value_if : (table : Table) (b : Bool) (u v : Valued) → ValueNamed table u → ValueNamed table v → ValueNamed table (if b then u else v)
value_if table true u v x y = x
value_if table false u v x y = y

meant_named : (table : Table) (file at len : ℕ) (m : Meaning) → ValueNamed table (letter_meant file at len m)
unfolding IsNamed
meant_named table file at len (meaning.Char c) = tt
meant_named table file at len meaning.TooGreat = tt
meant_named table file at len meaning.Nothing = tt

letter_named : (table : Table) (file at len : ℕ) (i : Option Item) → ValueNamed table (letter file at i)
unfolding IsNamed
letter_named table file at len None = tt
letter_named table file at len (Some i) = meant_named table file at i.len i.meaning

text_named : (table : Table) (file at : ℕ) (s : Result (List ℕ) Escape) → ValueNamed table (text file at s)
unfolding IsNamed
text_named table file at (Ok cs) = tt
text_named table file at (Err bad) = tt

name_named : (table : Table) (file at len : ℕ) (p : Piece) → ValueNamed table (named file at len p)
unfolding IsNamed
name_named table file at len p = value_if table (nat_lt 255 len) _ _ tt tt

number_named : (table : Table) (file at len n : ℕ) → ValueNamed table (number file at len n)
unfolding IsNamed
number_named table file at len n = value_if table (nat_lt n (2 ^ 63)) _ _ tt tt

value_named : (table : Table) (file at : ℕ) (c : Class) (bytes : List ℕ) → ValueNamed table (valued file at c bytes)
value_named table file at class.Skip bytes = tt
value_named table file at (class.Name c) bytes = name_named table file at (length bytes) _
value_named table file at (class.Qualified c size) bytes = name_named table file at (length bytes) _
value_named table file at class.Word bytes = tt
value_named table file at class.Mark bytes = tt
value_named table file at class.Int bytes = number_named table file at (length bytes) (integer_of bytes)
value_named table file at class.Char bytes = letter_named table file at (length bytes) (letter_at (drop 1 bytes))
value_named table file at class.Str bytes = text_named table file at _

wrong_named : (table : Table) (file at : ℕ) (why : Wrong) → IsNamed table (refusal_of file at why)
unfolding IsNamed
wrong_named table file at wrong.NoToken = tt
wrong_named table file at wrong.OpenComment = tt
wrong_named table file at wrong.OpenText = tt

abbrev ReadNamed : Table → Lexemes → Type 0
ReadNamed table (Ok ts) = Unit {0}
ReadNamed table (Err r) = IsNamed table r

onto_named : (table : Table) (t : Lexeme) (r : Lexemes) → ReadNamed table r → ReadNamed table (onto t r)
onto_named table t (Ok ts) h = tt
onto_named table t (Err r) h = h

on_value_named : (table : Table) (file : ℕ) (w : Where) (bytes : List ℕ) (len : ℕ) (v : Valued) (go : Where → Lexemes) → ValueNamed table v → ((x : Where) → ReadNamed table (go x))
    → ReadNamed table (on_value file w bytes len v go)
on_value_named table file w bytes len (Err r) go h f = h
on_value_named table file w bytes len (Ok None) go h f = f (skipped len bytes w)
on_value_named table file w bytes len (Ok (Some p)) go h f = onto_named table (lexeme_at file w len p) (go (passed len bytes w)) (f (passed len bytes w))

on_scan_named : (table : Table) (file : ℕ) (w : Where) (bytes : List ℕ) (s : Result Scan Wrong) (go : ℕ → Where → Lexemes) → ((k : ℕ) (x : Where) → ReadNamed table (go k x))
    → ReadNamed table (on_scan file w bytes s go)
on_scan_named table file w bytes (Err why) go f = wrong_named table file w.at why
on_scan_named table file w bytes (Ok s) go f =
    on_value_named table file w bytes s.len (valued file w.at s.class (take s.len bytes)) (go s.len) (value_named table file w.at s.class (take s.len bytes)) (f s.len)

from_named : (table : Table) (file n : ℕ) (w : Where) (bytes : List ℕ) → ReadNamed table (read_from file n w bytes)
from_named table file zero w bytes = tt
from_named table file (suc n) w [] = tt
from_named table file (suc n) w (c ∷ rest) =
    on_scan_named table file w (c ∷ rest) (scan_at (c ∷ rest)) (λ len next. read_from file n next (drop len (c ∷ rest))) (λ len next. from_named table file n next (drop len (c ∷ rest)))

utf8_named : (table : Table) (b : Bool) (r : Lexemes) (s : Span) → ReadNamed table r → ReadNamed table (if b then r else Err (refusal.NotUtf8 s))
unfolding IsNamed
utf8_named table true r s h = h
utf8_named table false r s h = tt

all_read_named : (table : Table) (file : ℕ) (bytes : List ℕ) → ReadNamed table (reading file bytes)
unfolding reading read
all_read_named table file bytes = utf8_named table (utf8_valid_len bytes == length bytes) (read_from file (length bytes) beginning bytes) _ (from_named table file (length bytes) beginning bytes)

pub reading_named : (table : Table) (file : ℕ) (bytes : List ℕ) (r : Refusal) → reading file bytes ≡ Err r → IsNamed table r
reading_named table file bytes r e = subst (ReadNamed table) e (all_read_named table file bytes)

-- nor have those of the layout

abbrev LaidNamed : Table → Result (List LaidToken) Refusal → Type 0
LaidNamed table (Ok xs) = Unit {0}
LaidNamed table (Err r) = IsNamed table r

finished_named : (table : Table) (ts : List Token) (m : Option ℕ) (out : List LaidToken) → LaidNamed table (finished ts m out)
unfolding IsNamed
finished_named table ts None out = tt
finished_named table ts (Some i) out = tt

bad_layout_named : (table : Table) (s : Span) → IsNamed table (refusal.BadLayout s)
unfolding IsNamed
bad_layout_named table s = tt

treated_named : (table : Table) (ts : List Token) (ps : List Laying_piece) (m : Option Laying) (s : Span) → ((l : Laying) → LaidNamed table (laid ts ps l))
    → LaidNamed table (option_map_or (λ x. laid ts ps x) m (Err (refusal.BadLayout s)))
treated_named table ts ps None s f = bad_layout_named table s
treated_named table ts ps (Some l) s f = f l

laying_named : (table : Table) (ts : List Token) (ps : List Laying_piece) (l : Laying) → LaidNamed table (laid ts ps l)
laying_named table ts [] l = finished_named table ts (lowest l.stack) l.output
laying_named table ts (p ∷ ps) l = treated_named table ts ps (treated p l) (span_at ts (place_of_piece p)) (λ m. laying_named table ts ps m)

layout_named : (table : Table) (ts : List Token) → LaidNamed table (layout ts)
layout_named table ts = laying_named table ts (marked (Some owner.File) 0 ts) (record { stack = []; output = [] })

-- those of later phases have names of the tokens

unknown_if : (table : Table) (b : Bool) (n : NameId) (s : Span) → IsPlaced table n → MaybeNamed table (if b then None else Some (refusal.UnknownName s n))
unfolding IsNamed
unknown_if table true n s p = tt
unknown_if table false n s p = (p.known, tt)

use_named : (table : Table) (bs : List Binding) (o : Operand) → OperandPlaced table o → MaybeNamed table (unknown_use bs o)
use_named table bs (operand.Name n s) p = unknown_if table (has_name bs n) n s p
use_named table bs (operand.Text cs) p = tt

first_named : (table : Table) (a b : Option Refusal) → MaybeNamed table a → MaybeNamed table b → MaybeNamed table (first_of a b)
first_named table (Some r) b x y = x
first_named table None b x y = y

in_named : (table : Table) (bs : List Binding) (os : List Operand) → OperandsPlaced table os → MaybeNamed table (first_in bs os)
in_named table bs [] p = tt
in_named table bs (o ∷ os) p = first_named table (unknown_use bs o) (first_in bs os) (use_named table bs o p.0) (in_named table bs os p.1)

unknown_named : (table : Table) (bs rest : List Binding) → BindingsPlaced table rest → MaybeNamed table (first_unknown bs rest)
unknown_named table bs [] p = tt
unknown_named table bs (b ∷ rest) p = first_named table (first_in bs b.operands) (first_unknown bs rest) (in_named table bs b.operands p.0.1) (unknown_named table bs rest p.1)

scoped_named : (table : Table) (bs : List Binding) (r : Option Refusal) → MaybeNamed table r → RefusalNamed table (scoped bs r)
scoped_named table bs None p = tt
scoped_named table bs (Some r) p = p

main_if : (table : Table) (b : Bool) (c : Checked) → RefusalNamed table c → RefusalNamed table (if b then c else checked.Refused refusal.NoMain)
unfolding IsNamed
main_if table true c p = p
main_if table false c p = tt

linked_named : (table : Table) (bs : List Binding) → BindingsPlaced table bs → RefusalNamed table (linked_of bs)
unfolding linked_of
linked_named table bs p = main_if table (has_name bs MAIN) (scoped bs (first_unknown bs bs)) (scoped_named table bs (first_unknown bs bs) (unknown_named table bs bs p))

form_named : (table : Table) (p : Parsed) → ParsedPlaced table p → RefusalNamed table (on_form p)
unfolding IsNamed
form_named table (parsed.Bad s) h = tt
form_named table (parsed.Program bs) h = linked_named table bs h

body_fault_named : (table : Table) (limit : ℕ) (tops : Bool) (is : List TopItem) (r : Refusal) → BodyFault limit tops is r → IsNamed table r
unfolding IsNamed
body_fault_named table limit tops is r (item_has_no_tree t i js none) = tt
body_fault_named table limit tops is r (item_is_too_deep t i js x is_x deep) = tt
body_fault_named table limit tops is r (item_is_tree t i js x q is_x few later) = body_fault_named table limit _ js q later

fault_named : (table : Table) (limit : ℕ) (is : List TopItem) (r : Refusal) → FaultWithin limit is r → IsNamed table r
unfolding IsNamed
fault_named table limit is r (header_has_no_tree i js none) = tt
fault_named table limit is r (header_is_too_deep i js h is_h deep) = tt
fault_named table limit is r (header_is_tree i js h q is_h few later) = body_fault_named table limit _ js q later

formed_named : (table : Table) (ts : List Token) (xs : List LaidToken) (t : ModuleTree) → AllPlaced table ts → flat t ≡ syms_of ts xs → RefusalNamed table (formed_of t)
unfolding formed_of
formed_named table ts xs t p same = form_named table (form_of t) (names_placed table ts xs t p same)

on_limits_named : (table : Table) (r : Option Refusal) (t : ModuleTree) → MaybeNamed table r → RefusalNamed table (formed_of t) → RefusalNamed table (on_limits r t)
on_limits_named table None t p q = q
on_limits_named table (Some r) t p q = p

limited_named : (table : Table) (ts : List Token) (xs : List LaidToken) (t : ModuleTree) → AllPlaced table ts → flat t ≡ syms_of ts xs → RefusalNamed table (limited_of t)
unfolding limited_of
limited_named table ts xs t p same = on_limits_named table (limits_of t) t (limits_named table t) (formed_named table ts xs t p same)

on_tree_named : (table : Table) (ts : List Token) (xs : List LaidToken) (r : Result ModuleTree Refusal) → parsed_of (syms_of ts xs) ≡ r → AllPlaced table ts → RefusalNamed table (on_tree r)
on_tree_named table ts xs (Ok t) is p = limited_named table ts xs t p (tree_given ts xs (Ok t) is).0.1
on_tree_named table ts xs (Err r) is p = fault_named table 2000 (items_of ts xs) r (cause_given ts xs (Err (fault.Refused r)) r is refl)

on_layout_named : (table : Table) (ts : List Token) (r : Result (List LaidToken) Refusal) → AllPlaced table ts → LaidNamed table r → RefusalNamed table (on_layout ts r)
on_layout_named table ts (Ok xs) p h = on_tree_named table ts xs (parsed_of (syms_of ts xs)) refl p
on_layout_named table ts (Err r) p h = h

pub laid_named : (table : Table) (ts : List Token) → AllPlaced table ts → RefusalNamed table (laid_of ts)
unfolding laid_of
laid_named table ts p = on_layout_named table ts (layout ts) p (layout_named table ts)

pub long_named : (table : Table) (s : Span) → IsNamed table (refusal.FileTooLong s)
unfolding IsNamed
long_named table s = tt
