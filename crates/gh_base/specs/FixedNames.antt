-- Each constant for a fixed name beside its word.
use Rattle.std.specs.Prelude.{◌≡◌, ℕ, List, [], ◌∷◌, codes, map}
use Rattle.gh_base.specs.Fixed.{fixed_texts}
use Rattle.gh_base.specs.Ids.{text_in}
use Rattle.gh_base.specs.declared.names.NameId.{NameId}
use Rattle.gh_base.specs.declared.fixed.TheConstants.{CASE, CLASS, DATA, DEFAULT, DERIVING, DO, ELSE, IF, IMPORT, IN, INFIX, INFIXL, INFIXR, INSTANCE, LET, MODULE, NEWTYPE, OF, THEN, TYPE, WHERE, UNDERSCORE, DOT_DOT, COLON, DOUBLE_COLON, EQUALS, BACKSLASH, BAR, LEFT_ARROW, RIGHT_ARROW, AT, TILDE, DOUBLE_ARROW, OPEN_PARENTHESIS, CLOSE_PARENTHESIS, COMMA, SEMICOLON, OPEN_BRACKET, CLOSE_BRACKET, BACKQUOTE, OPEN_BRACE, CLOSE_BRACE, OPEN_BANANA, CLOSE_BANANA, AS, QUALIFIED, HIDING, EXTENDS, MAIN_MODULE, MAIN, PRELUDE, MINUS, PLUS, TIMES, QUOT, REM, EQUAL, LESS, EQ_CHAR, ORD, CHR, SHOW_INT, ERROR, COMPOSE, APPEND, PRODUCT, NOT_EQUAL, LESS_EQUAL, GREATER, GREATER_EQUAL, AND, OR, APPLY, INT, CHAR, STRING, BOOL, MAYBE, EITHER, UNIT, SUM, PROD, CON, CON_DESCR, FALSE, TRUE, NOTHING, JUST, LEFT, RIGHT, INL, INR, CON_NAME, CON_ARITY, ID, CONST, FLIP, NOT, OTHERWISE, NEGATE, FST, SND, MAP, FILTER, FOLDR, CONCAT, LENGTH, MAYBE_OF, EITHER_OF, EMPTY_BRACKETS, EMPTY_PARENTHESES, TUPLE_2_SYNTAX, TUPLE_3_SYNTAX, TUPLE_4_SYNTAX, TUPLE_5_SYNTAX, TUPLE_6_SYNTAX, TUPLE_7_SYNTAX, LIST, NIL, CONS, TUPLE_0, TUPLE_2, TUPLE_3, TUPLE_4, TUPLE_5, TUPLE_6, TUPLE_7, EP}

-- the constants with the words that they stand for
unfoldable pub fixed_names : List (NameId × List ℕ)
fixed_names =
    (CASE, codes "case") ∷
    (CLASS, codes "class") ∷
    (DATA, codes "data") ∷
    (DEFAULT, codes "default") ∷
    (DERIVING, codes "deriving") ∷
    (DO, codes "do") ∷
    (ELSE, codes "else") ∷
    (IF, codes "if") ∷
    (IMPORT, codes "import") ∷
    (IN, codes "in") ∷
    (INFIX, codes "infix") ∷
    (INFIXL, codes "infixl") ∷
    (INFIXR, codes "infixr") ∷
    (INSTANCE, codes "instance") ∷
    (LET, codes "let") ∷
    (MODULE, codes "module") ∷
    (NEWTYPE, codes "newtype") ∷
    (OF, codes "of") ∷
    (THEN, codes "then") ∷
    (TYPE, codes "type") ∷
    (WHERE, codes "where") ∷
    (UNDERSCORE, codes "_") ∷
    (DOT_DOT, codes "..") ∷
    (COLON, codes ":") ∷
    (DOUBLE_COLON, codes "::") ∷
    (EQUALS, codes "=") ∷
    (BACKSLASH, codes "\\") ∷
    (BAR, codes "|") ∷
    (LEFT_ARROW, codes "<-") ∷
    (RIGHT_ARROW, codes "->") ∷
    (AT, codes "@") ∷
    (TILDE, codes "~") ∷
    (DOUBLE_ARROW, codes "=>") ∷
    (OPEN_PARENTHESIS, codes "(") ∷
    (CLOSE_PARENTHESIS, codes ")") ∷
    (COMMA, codes ",") ∷
    (SEMICOLON, codes ";") ∷
    (OPEN_BRACKET, codes "[") ∷
    (CLOSE_BRACKET, codes "]") ∷
    (BACKQUOTE, codes "`") ∷
    (OPEN_BRACE, codes "{") ∷
    (CLOSE_BRACE, codes "}") ∷
    (OPEN_BANANA, codes "{|") ∷
    (CLOSE_BANANA, codes "|}") ∷
    (AS, codes "as") ∷
    (QUALIFIED, codes "qualified") ∷
    (HIDING, codes "hiding") ∷
    (EXTENDS, codes "extends") ∷
    (MAIN_MODULE, codes "Main") ∷
    (MAIN, codes "main") ∷
    (PRELUDE, codes "Prelude") ∷
    (MINUS, codes "-") ∷
    (PLUS, codes "+") ∷
    (TIMES, codes "*") ∷
    (QUOT, codes "quot") ∷
    (REM, codes "rem") ∷
    (EQUAL, codes "==") ∷
    (LESS, codes "<") ∷
    (EQ_CHAR, codes "eqChar") ∷
    (ORD, codes "ord") ∷
    (CHR, codes "chr") ∷
    (SHOW_INT, codes "showInt") ∷
    (ERROR, codes "error") ∷
    (COMPOSE, codes ".") ∷
    (APPEND, codes "++") ∷
    (PRODUCT, codes ":*:") ∷
    (NOT_EQUAL, codes "/=") ∷
    (LESS_EQUAL, codes "<=") ∷
    (GREATER, codes ">") ∷
    (GREATER_EQUAL, codes ">=") ∷
    (AND, codes "&&") ∷
    (OR, codes "||") ∷
    (APPLY, codes "$") ∷
    (INT, codes "Int") ∷
    (CHAR, codes "Char") ∷
    (STRING, codes "String") ∷
    (BOOL, codes "Bool") ∷
    (MAYBE, codes "Maybe") ∷
    (EITHER, codes "Either") ∷
    (UNIT, codes "Unit") ∷
    (SUM, codes "Sum") ∷
    (PROD, codes "Prod") ∷
    (CON, codes "Con") ∷
    (CON_DESCR, codes "ConDescr") ∷
    (FALSE, codes "False") ∷
    (TRUE, codes "True") ∷
    (NOTHING, codes "Nothing") ∷
    (JUST, codes "Just") ∷
    (LEFT, codes "Left") ∷
    (RIGHT, codes "Right") ∷
    (INL, codes "Inl") ∷
    (INR, codes "Inr") ∷
    (CON_NAME, codes "conName") ∷
    (CON_ARITY, codes "conArity") ∷
    (ID, codes "id") ∷
    (CONST, codes "const") ∷
    (FLIP, codes "flip") ∷
    (NOT, codes "not") ∷
    (OTHERWISE, codes "otherwise") ∷
    (NEGATE, codes "negate") ∷
    (FST, codes "fst") ∷
    (SND, codes "snd") ∷
    (MAP, codes "map") ∷
    (FILTER, codes "filter") ∷
    (FOLDR, codes "foldr") ∷
    (CONCAT, codes "concat") ∷
    (LENGTH, codes "length") ∷
    (MAYBE_OF, codes "maybe") ∷
    (EITHER_OF, codes "either") ∷
    (EMPTY_BRACKETS, codes "[]") ∷
    (EMPTY_PARENTHESES, codes "()") ∷
    (TUPLE_2_SYNTAX, codes "(,)") ∷
    (TUPLE_3_SYNTAX, codes "(,,)") ∷
    (TUPLE_4_SYNTAX, codes "(,,,)") ∷
    (TUPLE_5_SYNTAX, codes "(,,,,)") ∷
    (TUPLE_6_SYNTAX, codes "(,,,,,)") ∷
    (TUPLE_7_SYNTAX, codes "(,,,,,,)") ∷
    (LIST, codes "List") ∷
    (NIL, codes "Nil") ∷
    (CONS, codes "Cons") ∷
    (TUPLE_0, codes "Tuple0") ∷
    (TUPLE_2, codes "Tuple2") ∷
    (TUPLE_3, codes "Tuple3") ∷
    (TUPLE_4, codes "Tuple4") ∷
    (TUPLE_5, codes "Tuple5") ∷
    (TUPLE_6, codes "Tuple6") ∷
    (TUPLE_7, codes "Tuple7") ∷
    (EP, codes "EP") ∷
    []

-- the fixed text at the place of each constant is its word, and these are all of the fixed texts
pub record ConstantsNameTheirWords : Type 0 where
  pub words : map (λ p. text_in fixed_texts p.0) fixed_names ≡ map (λ p. p.1) fixed_names
  pub all : map (λ p. p.1) fixed_names ≡ fixed_texts
