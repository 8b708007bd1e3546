-- Marks, and the marks of blocks.
use Rattle.std.specs.Prelude.{Bool, true, false, not, if◌then◌else◌, List, Option, Some, None}
use Rattle.gh_tree.specs.declared.symbol.Kind.{Kind}
use Rattle.gh_tree.specs.declared.symbol.Kind.TheVariants as k
use Rattle.gh_tree.specs.declared.symbol.Sym.{Sym}
use Rattle.gh_tree.specs.declared.names.BlockMark.{BlockMark}
use Rattle.gh_tree.specs.declared.names.BlockMark.TheVariants as n_BlockMark
use Rattle.gh_tree.specs.Syms.{nowhere, same_span}
use Rattle.gh_tree.specs.Print.{is_some}
use Rattle.gh_tree.specs.Read.{Read, ◌>>=◌, pure, fail, kind, bytes, after, peek, next, all}

abbrev pub is_equals : Option Kind → Bool
is_equals (Some k.Equals) = true
is_equals _ = false

abbrev pub is_bar : Option Kind → Bool
is_bar (Some k.Bar) = true
is_bar _ = false

abbrev pub is_colons : Option Kind → Bool
is_colons (Some k.Colons) = true
is_colons _ = false

abbrev pub is_of : Option Kind → Bool
is_of (Some k.Of) = true
is_of _ = false

abbrev pub is_in : Option Kind → Bool
is_in (Some k.In) = true
is_in _ = false

abbrev pub is_then : Option Kind → Bool
is_then (Some k.Then) = true
is_then _ = false

abbrev pub is_else : Option Kind → Bool
is_else (Some k.Else) = true
is_else _ = false

abbrev pub is_where : Option Kind → Bool
is_where (Some k.Where) = true
is_where _ = false

abbrev pub is_close_banana : Option Kind → Bool
is_close_banana (Some k.CloseBanana) = true
is_close_banana _ = false

abbrev pub bar_next : List Sym → Bool
bar_next ss = is_bar (kind ss)

-- the next token, which the layout inserted: it has no bytes
unfoldable pub placed : BlockMark → Read BlockMark
placed m = λ ss. if same_span (bytes ss) nowhere then Some (m, after ss) else None

abbrev pub block_open_by : Option Kind → Read BlockMark
block_open_by (Some k.OpenBrace) = next >>= λ a. pure (n_BlockMark.Written a)
block_open_by (Some (k.InsertedOpen p)) = placed (n_BlockMark.Inserted p)
block_open_by _ = fail

unfoldable pub block_open : Read BlockMark
block_open = peek >>= block_open_by

abbrev pub semi_by : Option Kind → Read BlockMark
semi_by (Some k.Semicolon) = next >>= λ a. pure (n_BlockMark.Written a)
semi_by (Some (k.InsertedSemicolon p)) = placed (n_BlockMark.Inserted p)
semi_by _ = fail

unfoldable pub semi : Read BlockMark
semi = peek >>= semi_by

abbrev pub block_close_by : Option Kind → Read BlockMark
block_close_by (Some k.CloseBrace) = next >>= λ a. pure (n_BlockMark.Written a)
block_close_by (Some (k.InsertedClose p)) = placed (n_BlockMark.Inserted p)
block_close_by _ = fail

unfoldable pub block_close : Read BlockMark
block_close = peek >>= block_close_by

abbrev pub is_semi : Option Kind → Bool
is_semi (Some k.Semicolon) = true
is_semi (Some (k.InsertedSemicolon p)) = true
is_semi _ = false

abbrev pub semi_next : List Sym → Bool
semi_next ss = is_semi (kind ss)

unfoldable pub semis : Read (List BlockMark)
semis = all semi_next semi

-- a part of a block comes next: neither the end of the tokens, nor of the block
abbrev pub begins_part_by : Option Kind → Bool
begins_part_by None = false
begins_part_by (Some k.CloseBrace) = false
begins_part_by (Some (k.InsertedClose p)) = false
begins_part_by _ = true

abbrev pub begins_part : List Sym → Bool
begins_part ss = begins_part_by (kind ss)

-- a part with these `;` behind it; with none it is the last
unfoldable pub part_ends : {A : Type 0} → List BlockMark → A → Read A
part_ends ms x = λ ss. if not (is_some ms) then (if begins_part ss then None else Some (x, ss)) else Some (x, ss)
