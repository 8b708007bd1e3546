-- How the variables and the dependencies of generic functions are read.
use Rattle.std.specs.Prelude.{Bool, true, false, ◌&&◌, ◌==◌, if◌then◌else◌, List, [], Option, Some, None}
use Rattle.gh_base.specs.declared.fixed.TheConstants.{EXTENDS}
use Rattle.gh_base.specs.declared.place.Span.{Span}
use Rattle.gh_tree.specs.declared.symbol.Kind.{Kind}
use Rattle.gh_tree.specs.declared.symbol.Kind.TheVariants as k
use Rattle.gh_tree.specs.declared.symbol.Sym.{Sym}
use Rattle.gh_tree.specs.declared.names.Name.{Name}
use Rattle.gh_tree.specs.declared.names.NextName.{NextName}
use Rattle.gh_tree.specs.declared.tops.GenVars.{GenVars}
use Rattle.gh_tree.specs.declared.tops.OtherVars.{OtherVars}
use Rattle.gh_tree.specs.declared.tops.Context.{Context}
use Rattle.gh_tree.specs.declared.tops.Deps.{Deps}
use Rattle.gh_tree.specs.declared.tops.Dep.{Dep}
use Rattle.gh_tree.specs.declared.tops.NextDep.{NextDep}
use Rattle.gh_tree.specs.Read.{Read, ◌>>=◌, pure, kind, after, peek, next, expect, here, since, all, is_open, is_close, comma_next}
use Rattle.gh_tree.specs.ReadExports.{any_var}
use Rattle.gh_parse_exps.specs.Ops.{is_banana, call_next}
use Rattle.gh_parse_exps.specs.Marks.{is_colons, is_close_banana}
use Rattle.gh_parse_exps.specs.Exps.{word}

abbrev pub is_word : Option Kind → Bool
is_word (Some (k.VarId None n)) = true
is_word _ = false

abbrev pub word_next : List Sym → Bool
word_next ss = is_word (kind ss)

abbrev pub is_double_arrow : Option Kind → Bool
is_double_arrow (Some k.DoubleArrow) = true
is_double_arrow _ = false

-- the parameters of a declaration
unfoldable pub words : Read (List Name)
words = all word_next word

unfoldable pub next_word : Read NextName
next_word = do
  m ← next
  n ← word
  pure (record { mark = m; name = n })

unfoldable pub next_words : Read (List NextName)
next_words = all comma_next next_word

unfoldable pub some_others : Read (Option OtherVars)
some_others = do
  m ← next
  n ← word
  ns ← next_words
  pure (Some (record { mark = m; first = n; others = ns }))

abbrev pub any_others_by : Option Kind → Read (Option OtherVars)
any_others_by (Some k.Bar) = some_others
any_others_by _ = pure None

unfoldable pub any_others : Read (Option OtherVars)
any_others = peek >>= any_others_by

unfoldable pub gen_vars : Read GenVars
gen_vars = do
  start ← here
  a ← expect is_banana
  n ← word
  ns ← next_words
  os ← any_others
  b ← expect is_close_banana
  s ← since start
  pure (record { span = s; «open» = a; first = n; others = ns; rest = os; close = b })

unfoldable pub dep : Read Dep
dep = do
  start ← here
  v ← any_var
  vs ← gen_vars
  s ← since start
  pure (record { span = s; function = v; vars = vs })

unfoldable pub next_dep : Read NextDep
next_dep = do
  m ← next
  d ← dep
  pure (record { mark = m; dep = d })

unfoldable pub next_deps : Read (List NextDep)
next_deps = all comma_next next_dep

unfoldable pub no_deps : List Sym → Span → Read Deps
no_deps start a = do
  b ← next
  s ← since start
  pure (record { span = s; «open» = a; first = None; others = []; close = b })

unfoldable pub some_deps : List Sym → Span → Read Deps
some_deps start a = do
  d ← dep
  ds ← next_deps
  b ← expect is_close
  s ← since start
  pure (record { span = s; «open» = a; first = Some d; others = ds; close = b })

abbrev pub deps_by : Option Kind → List Sym → Span → Read Deps
deps_by (Some k.Close) start a = no_deps start a
deps_by _ start a = some_deps start a

-- what stands behind `(`
unfoldable pub deps_opened : List Sym → Span → Read Deps
deps_opened start a = peek >>= λ kind. deps_by kind start a

unfoldable pub deps : Read Deps
deps = do
  start ← here
  a ← expect is_open
  deps_opened start a

-- dependencies come next, and no type: `()` and `=>`, or `(`, a variable and `{|`
abbrev pub empty_deps : List Sym → Bool
empty_deps ss = is_close (kind (after ss)) && is_double_arrow (kind (after (after ss)))

unfoldable pub deps_next : List Sym → Bool
deps_next ss = is_open (kind ss) && (if empty_deps ss then true else call_next (after ss))

unfoldable pub some_context : Read (Option Context)
some_context = do
  d ← deps
  m ← expect is_double_arrow
  pure (Some (record { deps = d; mark = m }))

unfoldable pub context : Read (Option Context)
context = λ ss. if deps_next ss then some_context ss else Some (None, ss)

-- behind the function of a generic declaration: its variables come next, and no type of a case
abbrev pub ends_first : Option Kind → Option Kind → Bool
ends_first (Some k.Comma) behind = true
ends_first (Some k.Bar) behind = true
ends_first (Some k.CloseBanana) behind = is_colons behind
ends_first _ behind = false

unfoldable pub gen_vars_next : List Sym → Bool
gen_vars_next ss = is_word (kind (after ss)) && ends_first (kind (after (after ss))) (kind (after (after (after ss))))

-- the word `extends`, which is a name everywhere else
abbrev pub is_extends : Option Kind → Bool
is_extends (Some (k.VarId None n)) = n.0 == EXTENDS.0
is_extends _ = false
