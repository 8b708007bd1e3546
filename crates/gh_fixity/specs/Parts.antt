-- Operator lists of a program, part by part.
use Rattle.std.specs.Prelude.{ℕ, List, Option, Some, None, slice_get}
use Rattle.gh_base.specs.declared.place.Span.{Span}
use Rattle.gh_base.specs.declared.names.NameId.{NameId}
use Rattle.gh_fixity.specs.declared.item.Item.{Item}
use Rattle.gh_fixity.specs.declared.item.Item.TheVariants as item
use Rattle.gh_fixity.specs.declared.part.Part.{Part}
use Rattle.gh_fixity.specs.declared.part.Part.TheVariants as part
use Rattle.gh_fixity.specs.declared.part.Sign.{Sign}
use Rattle.gh_fixity.specs.declared.part.Sign.TheVariants as sign
use Rattle.gh_fixity.specs.declared.part.Clash.{Clash}
use Rattle.gh_fixity.specs.Fixities.{TopFixities, LocalFixities, fixity_of}

-- what a part is for the arrangement of its list
abbrev pub part_sign : Part → Sign
part_sign (part.Operand x) = sign.Leaf
part_sign (part.Pattern x) = sign.Leaf
part_sign (part.Minus s) = sign.Minus s
part_sign (part.Op o) = sign.Op o

-- the same as the definition of arrangement has it
abbrev pub item_of : TopFixities → LocalFixities → Sign → Item
item_of ts ls sign.Leaf = item.Leaf 0
item_of ts ls (sign.Minus s) = item.Minus s
item_of ts ls (sign.Op o) = item.Op (fixity_of ts ls o) o.span

abbrev pub start : Span
start = record { file = 0; from = 0; to = 0 }

-- the name `-`
abbrev pub minus_name : NameId
minus_name = record { 0 = 51 }

-- the name of an operator or of a minus sign, and its bytes
abbrev pub sign_name : Sign → NameId
sign_name sign.Leaf = minus_name
sign_name (sign.Minus s) = minus_name
sign_name (sign.Op o) = o.name

abbrev pub sign_span : Sign → Span
sign_span sign.Leaf = start
sign_span (sign.Minus s) = s
sign_span (sign.Op o) = o.span

abbrev pub name_in : Option Sign → NameId
name_in None = minus_name
name_in (Some p) = sign_name p

abbrev pub span_in : Option Sign → Span
span_in None = start
span_in (Some p) = sign_span p

abbrev pub name_at : List Sign → ℕ → NameId
name_at ps k = name_in (slice_get ps k)

abbrev pub span_at : List Sign → ℕ → Span
span_at ps k = span_in (slice_get ps k)

-- a clash at two places: the names there, and the bytes of the right one
abbrev pub clash_at : List Sign → ℕ → ℕ → Clash
clash_at ps l r = record { span = span_at ps r; left = name_at ps l; right = name_at ps r }
