-- The numbers and spans of refusals: one table.
use Rattle.std.specs.Prelude.{ℕ, Option, Some, None}
use Rattle.gh_base.specs.declared.place.Span.{Span}
use Rattle.gh_base.specs.declared.refusal.Refusal.{Refusal}
use Rattle.gh_base.specs.declared.refusal.Refusal.TheVariants.{NotUtf8, NoToken, OpenComment, OpenText, NumberOutOfRange, NameTooLong, BadLayout, Unclosed, NoParse, TooDeep, FixityClash, UnknownModule, CyclicImports, NotExported, DoubleModule, UnknownName, AmbiguousName, DoubleDefinition, UnequalArity, RepeatedVariable, ConstructorArity, SignatureAlone, SynonymCycle, SynonymArity, KindClash, KindTooLarge, TypeClash, TypeTooLarge, BadSignature, NotClosed, BadCaseHead, DoubleCase, MissingDependency, NoCase, BadExtends, FileTooLong, TooManyFiles, NoMain, MainNotText, LimitPassed}

-- the number and the place of each refusal
abbrev pub numbered : Refusal → ℕ × Option Span
numbered (NotUtf8 s) = (1, Some s)
numbered (NoToken s) = (2, Some s)
numbered (OpenComment s) = (3, Some s)
numbered (OpenText s) = (4, Some s)
numbered (NumberOutOfRange s) = (5, Some s)
numbered (NameTooLong s) = (6, Some s)
numbered (BadLayout s) = (7, Some s)
numbered (Unclosed s) = (8, Some s)
numbered (NoParse s) = (9, Some s)
numbered (TooDeep s) = (10, Some s)
numbered (FixityClash s left right) = (11, Some s)
numbered (UnknownModule s name) = (12, Some s)
numbered (CyclicImports s names) = (13, Some s)
numbered (NotExported s name) = (14, Some s)
numbered (DoubleModule s name) = (15, Some s)
numbered (UnknownName s name) = (16, Some s)
numbered (AmbiguousName s name) = (17, Some s)
numbered (DoubleDefinition s name) = (18, Some s)
numbered (UnequalArity s name) = (19, Some s)
numbered (RepeatedVariable s name) = (20, Some s)
numbered (ConstructorArity s name) = (21, Some s)
numbered (SignatureAlone s name) = (22, Some s)
numbered (SynonymCycle s name) = (23, Some s)
numbered (SynonymArity s name) = (24, Some s)
numbered (KindClash s) = (25, Some s)
numbered (KindTooLarge s) = (26, Some s)
numbered (TypeClash s) = (27, Some s)
numbered (TypeTooLarge s) = (28, Some s)
numbered (BadSignature s rule) = (29, Some s)
numbered (NotClosed s x y z) = (30, Some s)
numbered (BadCaseHead s) = (31, Some s)
numbered (DoubleCase s) = (32, Some s)
numbered (MissingDependency s function name) = (33, Some s)
numbered (NoCase s chain) = (34, Some s)
numbered (BadExtends s) = (35, Some s)
numbered (FileTooLong s) = (36, Some s)
numbered TooManyFiles = (37, None)
numbered NoMain = (38, None)
numbered (MainNotText s) = (39, Some s)
numbered (LimitPassed s which) = (40, Some s)

-- the number under which a refusal is printed
abbrev pub number_of : Refusal → ℕ
number_of r = (numbered r).0

-- the place of a refusal
abbrev pub span_of : Refusal → Option Span
span_of r = (numbered r).1
