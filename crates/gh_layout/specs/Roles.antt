-- What each token does to the layout.
use Rattle.std.specs.Prelude.{Bool, true, false, ◌==◌, if◌then◌else◌, Option, Some, None}
use Rattle.gh_base.specs.declared.fixed.TheConstants.{CASE, CLOSE_BANANA, CLOSE_BRACE, CLOSE_BRACKET, CLOSE_PARENTHESIS, COMMA, ELSE, EQUALS, IF, IN, LET, MODULE, OF, OPEN_BANANA, OPEN_BRACE, OPEN_BRACKET, OPEN_PARENTHESIS, SEMICOLON, THEN, WHERE}
use Rattle.gh_base.specs.declared.names.NameId.{NameId}
use Rattle.gh_lexer.specs.declared.token.TokenKind.{TokenKind}
use Rattle.gh_lexer.specs.declared.token.TokenKind.TheVariants.{Word, Mark}
use Rattle.gh_layout.specs.declared.entry.Opening.TheVariants as opening
use Rattle.gh_layout.specs.declared.entry.Owner.{Owner}
use Rattle.gh_layout.specs.declared.entry.Owner.TheVariants as owner
use Rattle.gh_layout.specs.declared.role.Role.{Role}
use Rattle.gh_layout.specs.declared.role.Role.TheVariants as role

-- what a reserved word does
abbrev pub role_of_word : NameId → Role
role_of_word name =
    if name.0 == LET.0 then role.Opens opening.Let
    else (if name.0 == WHERE.0 then role.Where
    else (if name.0 == OF.0 then role.Of
    else (if name.0 == IN.0 then role.In
    else (if name.0 == IF.0 then role.Opens opening.If
    else (if name.0 == THEN.0 then role.Then
    else (if name.0 == ELSE.0 then role.Else
    else (if name.0 == CASE.0 then role.Opens opening.Case
    else (if name.0 == MODULE.0 then role.Module
    else role.Other))))))))

-- what a bracket, a separator or a reserved operator does
abbrev pub role_of_mark : NameId → Role
role_of_mark name =
    if name.0 == OPEN_BRACE.0 then role.OpenBrace
    else (if name.0 == CLOSE_BRACE.0 then role.CloseBrace
    else (if name.0 == SEMICOLON.0 then role.Semicolon
    else (if name.0 == OPEN_PARENTHESIS.0 then role.Opens opening.Parenthesis
    else (if name.0 == CLOSE_PARENTHESIS.0 then role.Closes opening.Parenthesis
    else (if name.0 == OPEN_BRACKET.0 then role.Opens opening.Bracket
    else (if name.0 == CLOSE_BRACKET.0 then role.Closes opening.Bracket
    else (if name.0 == OPEN_BANANA.0 then role.Opens opening.Banana
    else (if name.0 == CLOSE_BANANA.0 then role.Closes opening.Banana
    else (if name.0 == COMMA.0 then role.Comma
    else (if name.0 == EQUALS.0 then role.Equals
    else role.Other))))))))))

-- what a token does
abbrev pub role_of : TokenKind → Role
role_of (Word name) = role_of_word name
role_of (Mark name) = role_of_mark name
role_of _ = role.Other

-- what the block belongs to that begins after a token
abbrev pub block_after : Role → Option Owner
block_after (role.Opens opening.Let) = Some owner.Let
block_after role.Where = Some owner.Where
block_after role.Of = Some owner.Of
block_after _ = None

-- whether no implicit block begins before a token: a brace begins one itself, and a header comes before the file's
abbrev pub stands_for_block : Owner → Role → Bool
stands_for_block _ role.OpenBrace = true
stands_for_block owner.File role.Module = true
stands_for_block _ _ = false
