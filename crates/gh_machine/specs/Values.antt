-- What the machine's values of primitives stand for.
use Rattle.std.specs.Fmt.{signed_decimal}
use Rattle.gh_base.specs.declared.names.NameId.{NameId}
use Rattle.gh_core.specs.Terms as s
use Rattle.gh_core.specs.Primitives as p
use Rattle.gh_core.specs.Reduce as r
use Rattle.gh_machine.specs.declared.primitive.Literal.{Literal}
use Rattle.gh_machine.specs.declared.primitive.Literal.TheVariants.{Int, Char}
use Rattle.gh_machine.specs.declared.primitive.Unary.{Unary}
use Rattle.gh_machine.specs.declared.primitive.Unary.TheVariants.{Ord, Chr, ShowInt}
use Rattle.gh_machine.specs.declared.primitive.Binary.{Binary}
use Rattle.gh_machine.specs.declared.primitive.Binary.TheVariants.{Plus, Minus, Times, Quot, Rem, Equal, Less, EqChar}
use Rattle.gh_machine.specs.declared.primitive.Primitive.{Primitive}
use Rattle.gh_machine.specs.declared.primitive.Primitive.TheVariants as m
use Rattle.gh_machine.specs.declared.primitive.Outcome.{Outcome}
use Rattle.gh_machine.specs.declared.primitive.Outcome.TheVariants as o
use Rattle.gh_machine.specs.declared.turn.StopCause.{StopCause}
use Rattle.gh_machine.specs.declared.turn.StopCause.TheVariants.{ErrorCalled, NoMatch, DivideByZero, NoCharacter}
use Rattle.gh_machine.specs.declared.turn.Turn.{Turn}
use Rattle.gh_machine.specs.declared.turn.Turn.TheVariants.{Running, Ended, Failed}

abbrev pub literal_of : Literal → s.Literal
literal_of (Int n) = s.int n
literal_of (Char c) = s.char c

abbrev pub unary_of : Unary → p.Unary
unary_of Ord = p.ord
unary_of Chr = p.chr
unary_of ShowInt = p.show_int

abbrev pub binary_of : Binary → p.Binary
binary_of Plus = p.plus
binary_of Minus = p.minus
binary_of Times = p.times
binary_of Quot = p.quot
binary_of Rem = p.rem
binary_of Equal = p.equal
binary_of Less = p.less
binary_of EqChar = p.eq_char

abbrev pub primitive_of : Primitive → p.Primitive
primitive_of m.Error = p.error
primitive_of (m.Unary u) = p.unary (unary_of u)
primitive_of (m.Binary b) = p.binary (binary_of b)

abbrev pub entry_of : NameId × Primitive → NameId × p.Primitive
entry_of e = (e.0, primitive_of e.1)

abbrev pub cause_of : StopCause → p.Cause
cause_of ErrorCalled = p.error_called
cause_of NoMatch = p.no_match
cause_of DivideByZero = p.divide_by_zero
cause_of NoCharacter = p.no_character

abbrev pub status_of : Turn → r.Status
status_of Running = r.running
status_of Ended = r.ended
status_of (Failed stop) = r.failed (cause_of stop.cause) stop.span

abbrev pub outcome_of : Outcome → p.Outcome
outcome_of (o.Value l) = p.gives (s.lit (literal_of l))
outcome_of (o.Con c) = p.gives (s.con c)
outcome_of (o.Digits n) = p.gives (s.string (signed_decimal n))
outcome_of (o.Fails cause) = p.fails (cause_of cause)
outcome_of o.Nothing = p.nothing
