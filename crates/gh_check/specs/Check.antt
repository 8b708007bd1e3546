-- What a file's bytes are: a refusal, or a program.
use Rattle.std.specs.Prelude.{ℕ, length, nat_lt, if◌then◌else◌, List, Option, Some, None, Result, Ok, Err, map, option_map}
use Rattle.gh_base.specs.declared.fixed.TheConstants.{MAIN}
use Rattle.gh_base.specs.declared.names.NameId.{NameId}
use Rattle.gh_base.specs.declared.Span.{Span}
use Rattle.gh_base.specs.declared.Refusal.{Refusal}
use Rattle.gh_base.specs.declared.Refusal.TheVariants as refusal
use Rattle.gh_base.specs.Table.{place_of}
use Rattle.gh_bindings.specs.declared.binding.Binding.{Binding}
use Rattle.gh_layout.specs.Layout.{layout}
use Rattle.gh_layout.specs.declared.laying.LaidToken.{LaidToken}
use Rattle.gh_lexer.specs.Lexeme.{Piece, Named, Word, Mark, Number, Letter, Text, Lexeme}
use Rattle.gh_lexer.specs.Reading.{reading}
use Rattle.gh_lexer.specs.declared.token.Token.{Token}
use Rattle.gh_lexer.specs.declared.token.TokenKind.{TokenKind}
use Rattle.gh_lexer.specs.declared.token.TokenKind.TheVariants as kind
use Rattle.gh_limits.specs.Limits.{limits_of}
use Rattle.gh_parser.specs.Parse.{parsed_of}
use Rattle.gh_tree.specs.Syms.{syms_of}
use Rattle.gh_tree.specs.declared.module_tree.ModuleTree.{ModuleTree}
use Rattle.gh_tree_form.specs.Form.{has_name, form_of}
use Rattle.gh_tree_form.specs.declared.program.Parsed.{Parsed}
use Rattle.gh_tree_form.specs.declared.program.Parsed.TheVariants as parsed
use Rattle.gh_check.specs.declared.phases.Checked.{Checked}
use Rattle.gh_check.specs.declared.phases.Checked.TheVariants as checked
use Rattle.gh_lines.specs.Lines.{Table, IsNamed}
use Rattle.gh_check.specs.Scope.{first_unknown}

abbrev pub id_at : ℕ → Option ℕ → NameId
id_at end None = record { 0 = end }
id_at end (Some n) = record { 0 = n }

-- the number of a text in a table, or the one after all where the table has no such text
unfoldable pub id_of : Table → List ℕ → NameId
id_of table text = id_at (length table) (place_of table text)

-- a token by the numbers of its texts
abbrev pub kind_by : Table → Piece → TokenKind
kind_by table (Named c q s) = kind.Name c (option_map (λ x. id_of table x) q) (id_of table s)
kind_by table (Word s) = kind.Word (id_of table s)
kind_by table (Mark s) = kind.Mark (id_of table s)
kind_by table (Number n) = kind.Int n
kind_by table (Letter c) = kind.Char c
kind_by table (Text cs) = kind.Str cs

abbrev pub token_by : Table → Lexeme → Token
token_by table t = record { kind = kind_by table t.piece; span = t.span; line = t.line; column = t.column; first = t.first }

abbrev pub tokens_by : Table → List Lexeme → List Token
tokens_by table ts = map (token_by table) ts

-- a program whose names all have bindings, or the first name without one
abbrev pub scoped : List Binding → Option Refusal → Checked
scoped bs None = checked.Program bs
scoped bs (Some r) = checked.Refused r

unfoldable pub linked_of : List Binding → Checked
linked_of bs = if has_name bs MAIN then scoped bs (first_unknown bs bs) else checked.Refused refusal.NoMain

-- what is built today: bindings of names to strings and names that `++` joins; the first item of another form is refused
abbrev pub on_form : Parsed → Checked
on_form (parsed.Bad s) = checked.Refused (refusal.NoParse s)
on_form (parsed.Program bs) = linked_of bs

unfoldable pub formed_of : ModuleTree → Checked
formed_of t = on_form (form_of t)

abbrev pub on_limits : Option Refusal → ModuleTree → Checked
on_limits None t = formed_of t
on_limits (Some r) t = checked.Refused r

unfoldable pub limited_of : ModuleTree → Checked
limited_of t = on_limits (limits_of t) t

abbrev pub on_tree : Result ModuleTree Refusal → Checked
on_tree (Ok t) = limited_of t
on_tree (Err r) = checked.Refused r

abbrev pub on_layout : List Token → Result (List LaidToken) Refusal → Checked
on_layout ts (Ok xs) = on_tree (parsed_of (syms_of ts xs))
on_layout ts (Err r) = checked.Refused r

unfoldable pub laid_of : List Token → Checked
laid_of ts = on_layout ts (layout ts)

abbrev pub on_reading : Table → Result (List Lexeme) Refusal → Checked
on_reading table (Ok ts) = laid_of (tokens_by table ts)
on_reading table (Err r) = checked.Refused r

abbrev pub nowhere : Span
nowhere = record { file = 1; from = 0; to = 0 }

-- in the order of the phases: the file's length, its tokens, its layout, its tree, the limits, the form that is built, `main`, and the names that are used
unfoldable pub checked_of : Table → List ℕ → Checked
checked_of table b = if nat_lt 1048576 (length b) then checked.Refused (refusal.FileTooLong nowhere) else on_reading table (reading 1 b)

-- the ids of a refusal are of the table
abbrev pub RefusalNamed : Table → Checked → Type 0
RefusalNamed table (checked.Refused r) = IsNamed table r
RefusalNamed table (checked.Program bs) = Unit {0}
