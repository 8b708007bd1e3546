-- How imports are read, and what their reader promises.
use Rattle.std.specs.Prelude.{◌≡◌, Bool, true, false, ◌==◌, ◌||◌, if◌then◌else◌, List, Option, Some, None, IsTrue}
use Rattle.gh_base.specs.declared.fixed.TheConstants.{AS, QUALIFIED, HIDING}
use Rattle.gh_base.specs.declared.names.NameId.{NameId}
use Rattle.gh_base.specs.declared.place.Span.{Span}
use Rattle.gh_tree.specs.declared.symbol.Kind.{Kind}
use Rattle.gh_tree.specs.declared.symbol.Kind.TheVariants as k
use Rattle.gh_tree.specs.declared.symbol.Sym.{Sym}
use Rattle.gh_tree.specs.declared.names.Name.{Name}
use Rattle.gh_tree.specs.declared.tops.Alias.{Alias}
use Rattle.gh_tree.specs.declared.tops.Entities.{Entities}
use Rattle.gh_tree.specs.declared.tops.Entity.{Entity}
use Rattle.gh_tree.specs.declared.tops.Entity.TheVariants as v_Entity
use Rattle.gh_tree.specs.declared.tops.Import.{Import}
use Rattle.gh_tree.specs.declared.tops.ImportList.{ImportList}
use Rattle.gh_tree.specs.declared.tops.NextEntity.{NextEntity}
use Rattle.gh_tree.specs.Print as printed
use Rattle.gh_tree.specs.Read.{Read, ◌>>=◌, pure, kind, bytes, after, peek, next, expect, here, since, all, is_open, is_close}
use Rattle.gh_tree.specs.ReadNames.{var}
use Rattle.gh_tree.specs.ReadExports.{any_parts, goes_on, last_comma, module_name}
use Rattle.gh_reader.specs.declared.stop.Stop.{Stop}
use Rattle.gh_reader.specs.declared.stop.Stop.TheVariants as stop

-- a word that is a variable name elsewhere
abbrev pub word_is : NameId → Option Kind → Bool
word_is w (Some (k.VarId None n)) = n.0 == w.0
word_is w _ = false

unfoldable pub any_word : NameId → Read (Option Span)
any_word w = λ ss. if word_is w (kind ss) then Some (Some (bytes ss), after ss) else Some (None, ss)

-- entities

unfoldable pub con_entity : List Sym → Name → Read Entity
con_entity start n = do
  ps ← any_parts
  s ← since start
  pure (v_Entity.Con s n ps)

abbrev pub entity_by : Option Kind → List Sym → Read Entity
entity_by (Some (k.ConId None n)) start = next >>= λ a. con_entity start (record { span = a; qualifier = None; id = n })
entity_by _ start = var >>= λ v. pure (v_Entity.Var v)

unfoldable pub entity : Read Entity
entity = here >>= λ start. peek >>= λ kind. entity_by kind start

unfoldable pub next_entity : Read NextEntity
next_entity = do
  m ← next
  x ← entity
  pure (record { mark = m; entity = x })

unfoldable pub next_entities : Read (List NextEntity)
next_entities = all goes_on next_entity

unfoldable pub some_entities : Read (Option Entities)
some_entities = do
  x ← entity
  xs ← next_entities
  pure (Some (record { first = x; others = xs }))

abbrev pub entities_by : Option Kind → Read (Option Entities)
entities_by (Some k.Close) = pure None
entities_by (Some k.Comma) = pure None
entities_by _ = some_entities

unfoldable pub entities : Read (Option Entities)
entities = peek >>= entities_by

-- the list of an import, and its alias

unfoldable pub some_list : Read (Option ImportList)
some_list = do
  h ← any_word HIDING
  a ← expect is_open
  l ← entities
  c ← last_comma
  b ← expect is_close
  pure (Some (record { hiding = h; «open» = a; list = l; comma = c; close = b }))

abbrev pub list_next : List Sym → Bool
list_next ss = word_is HIDING (kind ss) || is_open (kind ss)

unfoldable pub import_list : Read (Option ImportList)
import_list = λ ss. if list_next ss then some_list ss else Some (None, ss)

unfoldable pub some_alias : Read (Option Alias)
some_alias = do
  m ← next
  n ← module_name
  pure (Some (record { mark = m; name = n }))

unfoldable pub alias : Read (Option Alias)
alias = λ ss. if word_is AS (kind ss) then some_alias ss else Some (None, ss)

abbrev pub is_import : Option Kind → Bool
is_import (Some k.Import) = true
is_import _ = false

unfoldable pub import_item : Read Import
import_item = do
  start ← here
  m ← expect is_import
  q ← any_word QUALIFIED
  n ← module_name
  a ← alias
  l ← import_list
  s ← since start
  pure (record { span = s; mark = m; qualified = q; name = n; alias = a; list = l })

-- these tokens are those of a well-formed import
abbrev pub Spells : List Sym → Import → Type 0
Spells ss x = IsTrue (printed.import_item x).good × ((printed.import_item x).flat ≡ ss)

-- no well-formed import has these tokens
abbrev pub Refuses : Stop → List Sym → Type 0
Refuses stop.NoParse ss = (x : Import) → Spells ss x → ⊥
Refuses stop.NoMemory ss = Unit {0}
