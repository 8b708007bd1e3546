-- The lines on err.
use Rattle.std.specs.Prelude.{◌≡◌, ℕ, ◌+◌, ◌-◌, ◌==◌, ◌<◌, ◌≤◌, max, vec_capacity, Bool, if◌then◌else◌, List, [], ◌∷◌, ◌++◌, take, length, slice_index_or, Option, Some, None, codes, decimal}
use Rattle.std.specs.declared.alloc.Global.{Global}
use Rattle.std.specs.declared.vec.Vec.{Vec}
use Rattle.gh_base.specs.declared.NameId.{NameId}
use Rattle.gh_base.specs.declared.Origin.{Origin}
use Rattle.gh_base.specs.declared.Span.{Span}
use Rattle.gh_base.specs.declared.Limit.{Limit}
use Rattle.gh_base.specs.declared.Limit.TheVariants as limit
use Rattle.gh_base.specs.declared.TyCon.{TyCon}
use Rattle.gh_base.specs.declared.TyCon.TheVariants as tycon
use Rattle.gh_base.specs.declared.Refusal.{Refusal}
use Rattle.gh_base.specs.declared.Refusal.TheVariants.{NotUtf8, NoToken, OpenComment, OpenText, NumberOutOfRange, NameTooLong, BadLayout, Unclosed, NoParse, TooDeep, FixityClash, UnknownModule, CyclicImports, NotExported, DoubleModule, UnknownName, AmbiguousName, DoubleDefinition, UnequalArity, RepeatedVariable, ConstructorArity, SignatureAlone, SynonymCycle, SynonymArity, KindClash, KindTooLarge, TypeClash, TypeTooLarge, BadSignature, NotClosed, BadCaseHead, DoubleCase, MissingDependency, NoCase, BadExtends, FileTooLong, TooManyFiles, NoMain, MainNotText, LimitPassed}
use Rattle.gh_base.specs.Ids.{text_in}
use Rattle.gh_base.specs.Refusals.{number_of, span_of}
use Rattle.gh_lines.specs.declared.position.Position.{Position}
use Rattle.gh_machine.specs.declared.turn.Stop.{Stop}
use Rattle.gh_machine.specs.declared.turn.StopCause.{StopCause}
use Rattle.gh_machine.specs.declared.turn.StopCause.TheVariants as cause
use Rattle.gh_lines.specs.Position.{file_start, moved_over}
use Rattle.gh_lines.specs.declared.source.Source.{Source}

abbrev pub Table : Type 0
Table = List (List ℕ)

-- the name of a refusal
unfoldable pub variant_of : Refusal → List ℕ
variant_of (NotUtf8 s) = codes "NotUtf8"
variant_of (NoToken s) = codes "NoToken"
variant_of (OpenComment s) = codes "OpenComment"
variant_of (OpenText s) = codes "OpenText"
variant_of (NumberOutOfRange s) = codes "NumberOutOfRange"
variant_of (NameTooLong s) = codes "NameTooLong"
variant_of (BadLayout s) = codes "BadLayout"
variant_of (Unclosed s) = codes "Unclosed"
variant_of (NoParse s) = codes "NoParse"
variant_of (TooDeep s) = codes "TooDeep"
variant_of (FixityClash s left right) = codes "FixityClash"
variant_of (UnknownModule s name) = codes "UnknownModule"
variant_of (CyclicImports s names) = codes "CyclicImports"
variant_of (NotExported s name) = codes "NotExported"
variant_of (DoubleModule s name) = codes "DoubleModule"
variant_of (UnknownName s name) = codes "UnknownName"
variant_of (AmbiguousName s name) = codes "AmbiguousName"
variant_of (DoubleDefinition s name) = codes "DoubleDefinition"
variant_of (UnequalArity s name) = codes "UnequalArity"
variant_of (RepeatedVariable s name) = codes "RepeatedVariable"
variant_of (ConstructorArity s name) = codes "ConstructorArity"
variant_of (SignatureAlone s name) = codes "SignatureAlone"
variant_of (SynonymCycle s name) = codes "SynonymCycle"
variant_of (SynonymArity s name) = codes "SynonymArity"
variant_of (KindClash s) = codes "KindClash"
variant_of (KindTooLarge s) = codes "KindTooLarge"
variant_of (TypeClash s) = codes "TypeClash"
variant_of (TypeTooLarge s) = codes "TypeTooLarge"
variant_of (BadSignature s rule) = codes "BadSignature"
variant_of (NotClosed s x y z) = codes "NotClosed"
variant_of (BadCaseHead s) = codes "BadCaseHead"
variant_of (DoubleCase s) = codes "DoubleCase"
variant_of (MissingDependency s function name) = codes "MissingDependency"
variant_of (NoCase s chain) = codes "NoCase"
variant_of (BadExtends s) = codes "BadExtends"
variant_of (FileTooLong s) = codes "FileTooLong"
variant_of TooManyFiles = codes "TooManyFiles"
variant_of NoMain = codes "NoMain"
variant_of (MainNotText s) = codes "MainNotText"
variant_of (LimitPassed s which) = codes "LimitPassed"

-- the word of a limit
unfoldable pub limit_of : Limit → List ℕ
limit_of limit.Parameters = codes "parameters"
limit_of limit.Dependencies = codes "dependencies"
limit_of limit.Constructors = codes "constructors"
limit_of limit.Fields = codes "fields"
limit_of limit.Arguments = codes "arguments"
limit_of limit.Bindings = codes "bindings"
limit_of limit.Clauses = codes "clauses"

-- a type constructor by its source name, and a layer as `Con.C`
unfoldable pub tycon_of : Table → TyCon → List ℕ
tycon_of table (tycon.Named o) = text_in table o.name
tycon_of table tycon.Arrow = codes "->"
tycon_of table tycon.Int = codes "Int"
tycon_of table tycon.Char = codes "Char"
tycon_of table (tycon.ConOf o) = codes "Con." ++ text_in table o.name

-- a pair as `x{T}`
abbrev pub pair_of : Table → Origin → TyCon → List ℕ
pair_of table o t = text_in table o.name ++ (codes "{" ++ (tycon_of table t ++ codes "}"))

-- a field with a space before it
abbrev pub field : List ℕ → List ℕ
field text = 32 ∷ text

abbrev pub names_of : Table → List NameId → List ℕ
names_of table [] = []
names_of table (n ∷ ns) = field (text_in table n) ++ names_of table ns

abbrev pub pairs_of : Table → List (Origin × TyCon) → List ℕ
pairs_of table [] = []
pairs_of table (p ∷ ps) = field (pair_of table p.0 p.1) ++ pairs_of table ps

-- the fields of a refusal behind its span
unfoldable pub fields_of : Table → Refusal → List ℕ
fields_of table (NotUtf8 s) = []
fields_of table (NoToken s) = []
fields_of table (OpenComment s) = []
fields_of table (OpenText s) = []
fields_of table (NumberOutOfRange s) = []
fields_of table (NameTooLong s) = []
fields_of table (BadLayout s) = []
fields_of table (Unclosed s) = []
fields_of table (NoParse s) = []
fields_of table (TooDeep s) = []
fields_of table (FixityClash s left right) = names_of table (left ∷ right ∷ [])
fields_of table (UnknownModule s name) = names_of table (name ∷ [])
fields_of table (CyclicImports s names) = names_of table names
fields_of table (NotExported s name) = names_of table (name ∷ [])
fields_of table (DoubleModule s name) = names_of table (name ∷ [])
fields_of table (UnknownName s name) = names_of table (name ∷ [])
fields_of table (AmbiguousName s name) = names_of table (name ∷ [])
fields_of table (DoubleDefinition s name) = names_of table (name ∷ [])
fields_of table (UnequalArity s name) = names_of table (name ∷ [])
fields_of table (RepeatedVariable s name) = names_of table (name ∷ [])
fields_of table (ConstructorArity s name) = names_of table (name ∷ [])
fields_of table (SignatureAlone s name) = names_of table (name ∷ [])
fields_of table (SynonymCycle s name) = names_of table (name ∷ [])
fields_of table (SynonymArity s name) = names_of table (name ∷ [])
fields_of table (KindClash s) = []
fields_of table (KindTooLarge s) = []
fields_of table (TypeClash s) = []
fields_of table (TypeTooLarge s) = []
fields_of table (BadSignature s rule) = field (decimal rule)
fields_of table (NotClosed s x y z) = names_of table (x ∷ y ∷ z ∷ [])
fields_of table (BadCaseHead s) = []
fields_of table (DoubleCase s) = []
fields_of table (MissingDependency s function name) = names_of table (function ∷ name ∷ [])
fields_of table (NoCase s chain) = pairs_of table chain
fields_of table (BadExtends s) = []
fields_of table (FileTooLong s) = []
fields_of table TooManyFiles = []
fields_of table NoMain = []
fields_of table (MainNotText s) = []
fields_of table (LimitPassed s which) = field (limit_of which)

-- whether the line names the file and no place in it
abbrev pub is_whole_file : Refusal → Bool
is_whole_file r = number_of r == 36

abbrev pub empty_source : Source
empty_source = record { name = []; bytes = [] }

-- the files count from 1
abbrev pub source_of : List Source → Span → Source
source_of files s = slice_index_or files (s.file - 1) empty_source

-- line and column of the first byte of a span
abbrev pub position_of : List Source → Span → Position
position_of files s = moved_over file_start (take s.from (source_of files s).bytes)

abbrev pub located : List Source → Span → List ℕ
located files s =
    (source_of files s).name ++ (codes ":" ++ (decimal (position_of files s).line ++ (codes ":" ++ (decimal (position_of files s).column ++ codes ": "))))

abbrev pub place_of_refusal : List Source → Option Span → Bool → List ℕ
place_of_refusal files None whole = codes "genhs: "
place_of_refusal files (Some s) whole = if whole then (source_of files s).name ++ codes ": " else located files s

-- the line of a refusal: where it is, its number, its name and its fields
unfoldable pub refusal_line_of : Table → List Source → Refusal → List ℕ
refusal_line_of table files r =
    place_of_refusal files (span_of r) (is_whole_file r) ++ (decimal (number_of r) ++ (codes " " ++ (variant_of r ++ (fields_of table r ++ 10 ∷ []))))

-- the ids of a refusal are of the table
abbrev pub IsId : Table → NameId → Type 0
IsId table id = id.0 < length table

abbrev pub AreIds : Table → List NameId → Type 0
AreIds table [] = Unit {0}
AreIds table (n ∷ ns) = IsId table n × AreIds table ns

abbrev pub IsHead : Table → TyCon → Type 0
IsHead table (tycon.Named o) = IsId table o.name
IsHead table tycon.Arrow = Unit {0}
IsHead table tycon.Int = Unit {0}
IsHead table tycon.Char = Unit {0}
IsHead table (tycon.ConOf o) = IsId table o.name

abbrev pub ArePairs : Table → List (Origin × TyCon) → Type 0
ArePairs table [] = Unit {0}
ArePairs table (p ∷ ps) = (IsId table p.0.name × IsHead table p.1) × ArePairs table ps

unfoldable pub IsNamed : Table → Refusal → Type 0
IsNamed table (NotUtf8 s) = Unit {0}
IsNamed table (NoToken s) = Unit {0}
IsNamed table (OpenComment s) = Unit {0}
IsNamed table (OpenText s) = Unit {0}
IsNamed table (NumberOutOfRange s) = Unit {0}
IsNamed table (NameTooLong s) = Unit {0}
IsNamed table (BadLayout s) = Unit {0}
IsNamed table (Unclosed s) = Unit {0}
IsNamed table (NoParse s) = Unit {0}
IsNamed table (TooDeep s) = Unit {0}
IsNamed table (FixityClash s left right) = AreIds table (left ∷ right ∷ [])
IsNamed table (UnknownModule s name) = AreIds table (name ∷ [])
IsNamed table (CyclicImports s names) = AreIds table names
IsNamed table (NotExported s name) = AreIds table (name ∷ [])
IsNamed table (DoubleModule s name) = AreIds table (name ∷ [])
IsNamed table (UnknownName s name) = AreIds table (name ∷ [])
IsNamed table (AmbiguousName s name) = AreIds table (name ∷ [])
IsNamed table (DoubleDefinition s name) = AreIds table (name ∷ [])
IsNamed table (UnequalArity s name) = AreIds table (name ∷ [])
IsNamed table (RepeatedVariable s name) = AreIds table (name ∷ [])
IsNamed table (ConstructorArity s name) = AreIds table (name ∷ [])
IsNamed table (SignatureAlone s name) = AreIds table (name ∷ [])
IsNamed table (SynonymCycle s name) = AreIds table (name ∷ [])
IsNamed table (SynonymArity s name) = AreIds table (name ∷ [])
IsNamed table (KindClash s) = Unit {0}
IsNamed table (KindTooLarge s) = Unit {0}
IsNamed table (TypeClash s) = Unit {0}
IsNamed table (TypeTooLarge s) = Unit {0}
IsNamed table (BadSignature s rule) = Unit {0}
IsNamed table (NotClosed s x y z) = AreIds table (x ∷ y ∷ z ∷ [])
IsNamed table (BadCaseHead s) = Unit {0}
IsNamed table (DoubleCase s) = Unit {0}
IsNamed table (MissingDependency s function name) = AreIds table (function ∷ name ∷ [])
IsNamed table (NoCase s chain) = ArePairs table chain
IsNamed table (BadExtends s) = Unit {0}
IsNamed table (FileTooLong s) = Unit {0}
IsNamed table TooManyFiles = Unit {0}
IsNamed table NoMain = Unit {0}
IsNamed table (MainNotText s) = Unit {0}
IsNamed table (LimitPassed s which) = Unit {0}

unfoldable pub usage_line : List ℕ
usage_line = codes "usage: genhs check FILES, core FILES, run [--steps N] FILES, or sample N" ++ 10 ∷ []

unfoldable pub steps_line : List ℕ
steps_line = codes "genhs: out of steps" ++ 10 ∷ []

-- the line of a failed write
unfoldable pub write_line : List ℕ
write_line = codes "genhs: cannot write" ++ 10 ∷ []

-- the line of want of memory
unfoldable pub memory_line : List ℕ
memory_line = codes "genhs: out of memory" ++ 10 ∷ []

unfoldable pub read_line_of : List ℕ → List ℕ
read_line_of file = codes "genhs: cannot read " ++ (file ++ 10 ∷ [])

-- the name of a cause
unfoldable pub cause_of : StopCause → List ℕ
cause_of cause.ErrorCalled = codes "ErrorCalled"
cause_of cause.NoMatch = codes "NoMatch"
cause_of cause.DivideByZero = codes "DivideByZero"
cause_of cause.NoCharacter = codes "NoCharacter"

-- the line of a run that has failed: where in the program, and why
unfoldable pub stopped_line_of : List Source → Stop → List ℕ
stopped_line_of files stop = located files stop.span ++ (codes "stopped " ++ (cause_of stop.cause ++ 10 ∷ []))

-- as long as the longest name of a file
abbrev pub longest_name : List Source → ℕ
longest_name [] = 0
longest_name (f ∷ files) = max (length f.name) (longest_name files)

-- room for the line of a run that has failed in one of these files: its two numbers, its cause and its marks have 128 bytes at most
pub record IsRoom (files : List Source) (room : Vec ℕ Global) : Type 0 where
  pub clear : room.items ≡ []
  pub long : longest_name files + 128 ≤ vec_capacity room
