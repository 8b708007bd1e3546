use Rattle.std.proofs.Common.{◌-◌, length}
use Rattle.gh_base.specs.Table.{IsGrown}
use Rattle.gh_lexer.proofs.Lexing.{Lexed, where_at}
use Rattle.gh_lexer.proofs.lexer.tokens_of.Given as goal

abbrev pub invariant-loop-at : goal.invariant-loop-at
invariant-loop-at l = record { lexed : Lexed l.file l.bytes l.names l.tokens (where_at l.at l.place l.last); grows : IsGrown l.initial.names l.names }

abbrev pub decreases-loop-at : goal.decreases-loop-at
decreases-loop-at l = length l.bytes - l.at
