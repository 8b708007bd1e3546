-- Worked runs of the type-passing meaning.
use Rattle.std.proofs.Common.{refl}
use Rattle.std.specs.Char.{encode_utf8}
use Rattle.gh_kernel.specs.GenericRuns.{CaseTaken, ConversionFails, DatatypeWithoutCase, NameDescribed, NestedType, RedefinitionAtList}
use Rattle.gh_kernel.specs.PlainRuns.{AsPatternAgain, CellForLiteral, ErrorNotDemanded, GuardsAllFail, LetEntered, LiteralForCell, NewtypeContents, NewtypeFails, NewtypeTakes, NoRowLeft, PrimitiveOnce}
use Rattle.gh_kernel.specs.Steps.{steps}

pub guards_all_fail : GuardsAllFail
unfolding steps encode_utf8
guards_all_fail = (refl, refl)

pub as_pattern_again : AsPatternAgain
unfolding steps encode_utf8
as_pattern_again = (refl, refl)

pub newtype_takes : NewtypeTakes
unfolding steps encode_utf8
newtype_takes = (refl, refl)

pub newtype_contents : NewtypeContents
unfolding steps encode_utf8
newtype_contents = (refl, refl)

pub newtype_fails : NewtypeFails
unfolding steps encode_utf8
newtype_fails = (refl, refl)

pub error_not_demanded : ErrorNotDemanded
unfolding steps encode_utf8
error_not_demanded = (refl, refl)

pub no_row_left : NoRowLeft
unfolding steps encode_utf8
no_row_left = (refl, refl)

pub literal_for_cell : LiteralForCell
unfolding steps encode_utf8
literal_for_cell = (refl, refl)

pub cell_for_literal : CellForLiteral
unfolding steps encode_utf8
cell_for_literal = (refl, refl)

pub primitive_once : PrimitiveOnce
unfolding steps encode_utf8
primitive_once = (refl, refl)

pub let_entered : LetEntered
unfolding steps encode_utf8
let_entered = (refl, refl)

pub datatype_without_case : DatatypeWithoutCase
unfolding steps encode_utf8
datatype_without_case = (refl, refl)

pub conversion_fails : ConversionFails
unfolding steps encode_utf8
conversion_fails = (refl, refl)

pub nested_type : NestedType
unfolding steps encode_utf8
nested_type = (refl, refl)

pub redefinition_at_list : RedefinitionAtList
unfolding steps encode_utf8
redefinition_at_list = (refl, refl)

pub name_described : NameDescribed
unfolding steps encode_utf8
name_described = (refl, refl)

pub case_taken : CaseTaken
unfolding steps encode_utf8
case_taken = (refl, refl)
