-- Reading as a function on lists of laid tokens: what is read from the front of a list, and what is left of it.
use Rattle.std.specs.Prelude.{ℕ, zero, suc, ◌-◌, Bool, true, false, if◌then◌else◌, List, [], ◌∷◌, length, take, Option, Some, None}
use Rattle.gh_base.specs.declared.place.Span.{Span}
use Rattle.gh_tree.specs.declared.symbol.Kind.{Kind}
use Rattle.gh_tree.specs.declared.symbol.Kind.TheVariants as k
use Rattle.gh_tree.specs.declared.symbol.Sym.{Sym}
use Rattle.gh_tree.specs.Syms.{nowhere, cover}

abbrev pub Outcome : Type 0 → Type 0
Outcome A = Option (A × List Sym)

abbrev pub taken : {A : Type 0} → A → List Sym → Outcome A
taken x rest = Some (x, rest)

abbrev pub Read : Type 0 → Type 0
Read A = List Sym → Outcome A

abbrev pub and_then : {A B : Type 0} → Outcome A → (A → Read B) → Outcome B
and_then (Some p) f = f p.0 p.1
and_then None f = None

infixl 10 ◌>>=◌
abbrev pub ◌>>=◌ : {A B : Type 0} → Read A → (A → Read B) → Read B
p >>= f = λ ss. and_then (p ss) f

abbrev pub pure : {A : Type 0} → A → Read A
pure a = λ ss. Some (a, ss)

abbrev pub fail : {A : Type 0} → Read A
fail = λ ss. None

abbrev pub check : {A : Type 0} → Bool → A → Read A
check test x = λ ss. if test then Some (x, ss) else None

-- what the first token is, its bytes, and the tokens behind it
abbrev pub kind : List Sym → Option Kind
kind [] = None
kind (s ∷ ss) = Some s.kind

abbrev pub bytes : List Sym → Span
bytes [] = nowhere
bytes (s ∷ ss) = s.span

abbrev pub after : List Sym → List Sym
after [] = []
after (s ∷ ss) = ss

abbrev pub peek : Read (Option Kind)
peek = λ ss. Some (kind ss, ss)

-- the next token, whatever it is
abbrev pub next : Read Span
next = λ ss. Some (bytes ss, after ss)

-- the next token, which is of this kind
abbrev pub expect : (Option Kind → Bool) → Read Span
expect is = λ ss. if is (kind ss) then Some (bytes ss, after ss) else None

abbrev pub here : Read (List Sym)
here = λ ss. Some (ss, ss)

-- the bytes of the tokens that stand before `rest`, which ends the list
unfoldable pub covered : List Sym → List Sym → Span
covered start rest = cover (take (length start - length rest) start)

abbrev pub since : List Sym → Read Span
since start = λ ss. Some (covered start ss, ss)

-- the items as long as what is left begins one, for so many turns at most
unfoldable pub many : {A : Type 0} → (List Sym → Bool) → Read A → ℕ → Read (List A)
many begins item zero = pure []
many begins item (suc n) = λ ss. if begins ss then (item >>= λ x. many begins item n >>= λ xs. pure (x ∷ xs)) ss else pure [] ss

abbrev pub all : {A : Type 0} → (List Sym → Bool) → Read A → Read (List A)
all begins item = λ ss. many begins item (length ss) ss

-- kinds of tokens

abbrev pub is_open : Option Kind → Bool
is_open (Some k.Open) = true
is_open _ = false

abbrev pub is_close : Option Kind → Bool
is_close (Some k.Close) = true
is_close _ = false

abbrev pub is_close_list : Option Kind → Bool
is_close_list (Some k.CloseList) = true
is_close_list _ = false

abbrev pub is_comma : Option Kind → Bool
is_comma (Some k.Comma) = true
is_comma _ = false

abbrev pub is_arrow : Option Kind → Bool
is_arrow (Some k.Arrow) = true
is_arrow _ = false

abbrev pub is_backquote : Option Kind → Bool
is_backquote (Some k.Backquote) = true
is_backquote _ = false

abbrev pub comma_next : List Sym → Bool
comma_next ss = is_comma (kind ss)

unfoldable pub commas : Read (List Span)
commas = all comma_next next
