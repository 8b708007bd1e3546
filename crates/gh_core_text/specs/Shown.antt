-- Types as their texts show them: a variable by its level and a constructor by its text.
use Rattle.std.specs.Prelude.{◌≡◌, ℕ, ◌<◌, ◌^◌, suc, ◌==◌, ◌&&◌, ◌||◌, not, Bool, true, false, List, [], ◌∷◌, ◌++◌, codes, decimal}
use Rattle.gh_typeterm.specs.declared.kind.Kind.{Kind}
use Rattle.gh_core.specs.declared.types.CoreType.{CoreType, fold-CoreType}
use Rattle.gh_core.specs.declared.types.CoreType.TheOpen.{CoreType-F}
use Rattle.gh_core.specs.Levels.{Scope, within, level_of}
use Rattle.gh_core.specs.Text.{Table, tycon_text, kind_text, applied, type_binder}

pub data Shown : Type 0 where
  var : (level : ℕ) → Shown
  con : (text : List ℕ) → Shown
  app : (f x : Shown) → Shown
  all : (kind : Kind) (body : Shown) → Shown
  any : (kind : Kind) → Shown

abbrev pub shown_step : Table → CoreType-F (Scope → Shown) → Scope → Shown
shown_step table (CoreType-F.Var x) ts = var (level_of ts x)
shown_step table (CoreType-F.Con c) ts = con (tycon_text table c)
shown_step table (CoreType-F.App f x) ts = app (f ts) (x ts)
shown_step table (CoreType-F.Forall x kind body) ts = all kind (body (within ts x))
shown_step table (CoreType-F.Any kind) ts = any kind

-- types that are equal here are equal up to the numbers of their bound variables, constructors with one text being one
abbrev pub shown : Table → CoreType → Scope → Shown
shown table = fold-CoreType (Scope → Shown) (shown_step table)

-- the text of such a type, inside this many binders
abbrev pub shown_text : Shown → Bool → ℕ → List ℕ
shown_text (var level) inside count = codes "t" ++ decimal level
shown_text (con text) inside count = text
shown_text (app f x) inside count = applied inside (shown_text f true count) (shown_text x false count)
shown_text (all kind body) inside count = codes "(forall " ++ (type_binder count kind ++ (codes " " ++ (shown_text body false (suc count) ++ codes ")")))
shown_text (any kind) inside count = codes "(any " ++ (kind_text kind ++ codes ")")

-- neither a space nor a closing bracket
abbrev pub is_plain : ℕ → Bool
is_plain c = not (c == 32) && not (c == 41)

abbrev pub all_plain : List ℕ → Bool
all_plain [] = true
all_plain (c ∷ cs) = is_plain c && all_plain cs

-- a dot or a dash: a name with its module has a dot, and the arrow a dash
abbrev pub has_mark : List ℕ → Bool
has_mark [] = false
has_mark (c ∷ cs) = (c == 46 || c == 45) || has_mark cs

-- neither an opening bracket nor `t`
abbrev pub begins : ℕ → Bool
begins c = not (c == 40) && not (c == 116)

-- a text of a constructor: no space and no closing bracket, a dot or a dash, and at its beginning no bracket and no `t`
abbrev pub is_name : List ℕ → Bool
is_name [] = false
is_name (c ∷ cs) = begins c && (all_plain (c ∷ cs) && has_mark (c ∷ cs))

-- each constructor's text is a name, and each level has at most 64 bits
abbrev pub IsNamed : Shown → Type 0
IsNamed (var level) = level < 2 ^ 64
IsNamed (con text) = is_name text ≡ true
IsNamed (app f x) = IsNamed f × IsNamed x
IsNamed (all kind body) = IsNamed body
IsNamed (any kind) = Unit {0}
