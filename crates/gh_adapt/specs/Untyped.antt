-- Terms without their types, and the two types of a pair.
use Rattle.gh_core.specs.declared.types.CoreType.{CoreType}
use Rattle.gh_core.specs.declared.terms.CoreTerm.{CoreTerm}
use Rattle.gh_core.specs.Erase.{erased}
use Rattle.gh_core.specs.Reading.{term_of}
use Rattle.gh_core.specs.SameType.{Nameless}
use Rattle.gh_core.specs.Terms.{Term}
use Rattle.gh_core.specs.Typing.{type_of}

-- the term of core that is run
abbrev pub untyped : CoreTerm → Term
untyped t = term_of (erased t)

abbrev pub first_type : CoreType × CoreType → Nameless
first_type p = type_of p.0

abbrev pub second_type : CoreType × CoreType → Nameless
second_type p = type_of p.1
