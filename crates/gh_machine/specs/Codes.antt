-- What callers see of a machine, and how a proof tells such values apart.
use Rattle.std.specs.Prelude.{◌≡◌, ℕ, zero, suc, List, [], ◌∷◌, map, refl, Option, Some, None, option_map}
use Rattle.std.proofs.Common.{ap, ◌∙◌, sym}
use Rattle.std.specs.Coded.{Coded, code_by, coded×, coded_ℕ, coded_list}
use Rattle.gh_base.specs.declared.place.Origin.{Origin}
use Rattle.gh_base.specs.declared.place.Span.{Span}
use Rattle.gh_core.specs.declared.erased.Erased.{Erased}
use Rattle.gh_core.specs.declared.erased.ErasedTerm.{ErasedTerm, fold-ErasedTerm, fold-roll-ErasedTerm}
use Rattle.gh_core.specs.declared.erased.ErasedAlt.{ErasedAlt, fold-ErasedAlt, fold-roll-ErasedAlt}
use Rattle.gh_core.specs.declared.erased.ErasedAlt.TheOpen.{ErasedTerm-F, ErasedAlt-F}
use Rattle.gh_core.specs.declared.erased.ErasedTerm.TheVariants as t
use Rattle.gh_core.specs.declared.erased.ErasedAlt.TheVariants as a
use Rattle.gh_core.specs.contracts.erased.Erased as program
use Rattle.gh_core.specs.contracts.erased.ErasedTerm as term
use Rattle.gh_core.specs.Terms.{int, char, Term, var, glob, con, lit, string, prim, lam, app, letrec, cases, stop, whole, contents, Binds, no_bind, bind, Alt, con_alt, lit_alt, Alts, no_alt, else_to, alt}
use Rattle.gh_core.specs.Reading.{alt_step, binds_of, alts_of}
use Rattle.gh_core.specs.Primitives.{nil, Cause, error_called, no_match, divide_by_zero, no_character, Unary, ord, chr, show_int, Binary, plus, minus, times, quot, rem, equal, less, eq_char}
use Rattle.gh_core.specs.Reduce.{Waiting, arg, of_case, under, only, first, second, printing, Status, running, ended, failed, State}

-- The forms that no program has are told by bindings: none for a term that was put for a name, a first one for 1 for the contents of a
-- newtype, and a first one for 0, in front of those that there are, for bindings.
abbrev con_of : Term → Origin
con_of (con c) = c
con_of u = nil

abbrev from_first : ℕ → Term → List (ℕ × Term) → Term → Term
from_first zero u bs b = letrec (binds_of bs) b
from_first (suc n) u bs b = contents (con_of u) b

abbrev from_binds : List (ℕ × Term) → Term → Term
from_binds [] b = whole b
from_binds (q ∷ bs) b = from_first q.0 q.1 bs b

abbrev told_step : ErasedTerm-F Alt Term → Term
told_step (ErasedTerm-F.Var x) = var x
told_step (ErasedTerm-F.Global name) = glob name
told_step (ErasedTerm-F.ErasedTerm::Con c) = con c
told_step (ErasedTerm-F.ErasedTerm::Int n) = lit (int n)
told_step (ErasedTerm-F.ErasedTerm::Char c) = lit (char c)
told_step (ErasedTerm-F.Str cs) = string cs
told_step (ErasedTerm-F.Prim p place) = prim p place
told_step (ErasedTerm-F.Lam x body) = lam x body
told_step (ErasedTerm-F.App f e) = app f e
told_step (ErasedTerm-F.LetRec bs body) = from_binds bs body
told_step (ErasedTerm-F.Case s alts other) = cases s (alts_of alts other)
told_step (ErasedTerm-F.Stop place) = stop place

abbrev told : ErasedTerm → Term
told = fold-ErasedTerm Alt Term alt_step told_step

abbrev told_alt : ErasedAlt → Alt
told_alt = fold-ErasedAlt Alt Term alt_step told_step

abbrev told_bind : ℕ × ErasedTerm → ℕ × Term
told_bind b = (b.0, told b.1)

abbrev no_place : Span
no_place = record { file = 0; from = 0; to = 0 }

abbrev mutual
  back : Term → ErasedTerm
  back (var x) = t.Var x
  back (glob name) = t.Global name
  back (con c) = t.Con c
  back (lit (int n)) = t.Int n
  back (lit (char c)) = t.Char c
  back (string cs) = t.Str cs
  back (prim p place) = t.Prim p place
  back (lam x b) = t.Lam x (back b)
  back (app f e) = t.App (back f) (back e)
  back (letrec bs b) = t.LetRec ((0, t.Stop no_place) ∷ back_binds bs) (back b)
  back (cases s alts) = t.Case (back s) (back_alts alts) (back_other alts)
  back (stop place) = t.Stop place
  back (whole u) = t.LetRec [] (back u)
  back (contents c u) = t.LetRec ((1, t.Con c) ∷ []) (back u)

  back_binds : Binds → List (ℕ × ErasedTerm)
  back_binds no_bind = []
  back_binds (bind x u rest) = (x, back u) ∷ back_binds rest

  back_alt : Alt → ErasedAlt
  back_alt (con_alt c xs u) = a.Con c xs (back u)
  back_alt (lit_alt (int n) u) = a.Int n (back u)
  back_alt (lit_alt (char c) u) = a.Char c (back u)

  back_alts : Alts → List ErasedAlt
  back_alts no_alt = []
  back_alts (else_to u) = []
  back_alts (alt x rest) = back_alt x ∷ back_alts rest

  back_other : Alts → Option ErasedTerm
  back_other no_alt = None
  back_other (else_to u) = Some (back u)
  back_other (alt x rest) = back_other rest

told-Case : (s : ErasedTerm) (alts : List ErasedAlt) (o : Option ErasedTerm) → told (t.Case s alts o) ≡ cases (told s) (alts_of (map told_alt alts) (option_map told o))
told-Case s alts None = ap told (sym (t.rolls-Case s alts None)) ∙ fold-roll-ErasedTerm Alt Term alt_step told_step (ErasedTerm-F.Case s alts None)
told-Case s alts (Some o) = ap told (sym (t.rolls-Case s alts (Some o))) ∙ fold-roll-ErasedTerm Alt Term alt_step told_step (ErasedTerm-F.Case s alts (Some o))

mutual
  pub told-back : (u : Term) → told (back u) ≡ u
  told-back (var x) = ap told (sym (t.rolls-Var x)) ∙ fold-roll-ErasedTerm Alt Term alt_step told_step (ErasedTerm-F.Var x)
  told-back (glob name) = ap told (sym (t.rolls-Global name)) ∙ fold-roll-ErasedTerm Alt Term alt_step told_step (ErasedTerm-F.Global name)
  told-back (con c) = ap told (sym (t.rolls-Con c)) ∙ fold-roll-ErasedTerm Alt Term alt_step told_step (ErasedTerm-F.ErasedTerm::Con c)
  told-back (lit (int n)) = ap told (sym (t.rolls-Int n)) ∙ fold-roll-ErasedTerm Alt Term alt_step told_step (ErasedTerm-F.ErasedTerm::Int n)
  told-back (lit (char c)) = ap told (sym (t.rolls-Char c)) ∙ fold-roll-ErasedTerm Alt Term alt_step told_step (ErasedTerm-F.ErasedTerm::Char c)
  told-back (string cs) = ap told (sym (t.rolls-Str cs)) ∙ fold-roll-ErasedTerm Alt Term alt_step told_step (ErasedTerm-F.Str cs)
  told-back (prim p place) = ap told (sym (t.rolls-Prim p place)) ∙ fold-roll-ErasedTerm Alt Term alt_step told_step (ErasedTerm-F.Prim p place)
  told-back (lam x b) = ap told (sym (t.rolls-Lam x (back b))) ∙ fold-roll-ErasedTerm Alt Term alt_step told_step (ErasedTerm-F.Lam x (back b)) ∙ ap (lam x) (told-back b)
  told-back (app f e) = ap told (sym (t.rolls-App (back f) (back e))) ∙ fold-roll-ErasedTerm Alt Term alt_step told_step (ErasedTerm-F.App (back f) (back e)) ∙ (λ i. app (told-back f i) (told-back e i))
  told-back (letrec bs b) =
      ap told (sym (t.rolls-LetRec ((0, t.Stop no_place) ∷ back_binds bs) (back b))) ∙ fold-roll-ErasedTerm Alt Term alt_step told_step (ErasedTerm-F.LetRec ((0, t.Stop no_place) ∷ back_binds bs) (back b))
      ∙ (λ i. letrec (told-binds bs i) (told-back b i))
  told-back (cases s alts) =
      told-Case (back s) (back_alts alts) (back_other alts) ∙ (λ i. cases (told-back s i) (told-alts alts i))
  told-back (stop place) = ap told (sym (t.rolls-Stop place)) ∙ fold-roll-ErasedTerm Alt Term alt_step told_step (ErasedTerm-F.Stop place)
  told-back (whole u) = ap told (sym (t.rolls-LetRec [] (back u))) ∙ fold-roll-ErasedTerm Alt Term alt_step told_step (ErasedTerm-F.LetRec [] (back u)) ∙ ap whole (told-back u)
  told-back (contents c u) =
      ap told (sym (t.rolls-LetRec ((1, t.Con c) ∷ []) (back u))) ∙ fold-roll-ErasedTerm Alt Term alt_step told_step (ErasedTerm-F.LetRec ((1, t.Con c) ∷ []) (back u))
      ∙ (λ i. contents (con_of ((ap told (sym (t.rolls-Con c)) ∙ fold-roll-ErasedTerm Alt Term alt_step told_step (ErasedTerm-F.ErasedTerm::Con c)) i)) (told-back u i))

  told-binds : (bs : Binds) → binds_of (map told_bind (back_binds bs)) ≡ bs
  told-binds no_bind = refl
  told-binds (bind x u rest) = λ i. bind x (told-back u i) (told-binds rest i)

  told-alt : (x : Alt) → told_alt (back_alt x) ≡ x
  told-alt (con_alt c xs u) = ap told_alt (sym (a.rolls-Con c xs (back u))) ∙ fold-roll-ErasedAlt Alt Term alt_step told_step (ErasedAlt-F.ErasedAlt::Con c xs (back u)) ∙ ap (con_alt c xs) (told-back u)
  told-alt (lit_alt (int n) u) = ap told_alt (sym (a.rolls-Int n (back u))) ∙ fold-roll-ErasedAlt Alt Term alt_step told_step (ErasedAlt-F.ErasedAlt::Int n (back u)) ∙ ap (lit_alt (int n)) (told-back u)
  told-alt (lit_alt (char c) u) = ap told_alt (sym (a.rolls-Char c (back u))) ∙ fold-roll-ErasedAlt Alt Term alt_step told_step (ErasedAlt-F.ErasedAlt::Char c (back u)) ∙ ap (lit_alt (char c)) (told-back u)

  told-alts : (alts : Alts) → alts_of (map told_alt (back_alts alts)) (option_map told (back_other alts)) ≡ alts
  told-alts no_alt = refl
  told-alts (else_to u) = ap else_to (told-back u)
  told-alts (alt x rest) = λ i. alt (told-alt x i) (told-alts rest i)

abbrev pub coded_term : Coded Term
coded_term = code_by ErasedTerm term.the_row.coded back told told-back

abbrev unary_number : Unary → ℕ
unary_number ord = 0
unary_number chr = 1
unary_number show_int = 2

abbrev numbered_unary : ℕ → Unary
numbered_unary zero = ord
numbered_unary (suc zero) = chr
numbered_unary (suc (suc n)) = show_int

abbrev binary_number : Binary → ℕ
binary_number plus = 0
binary_number minus = 1
binary_number times = 2
binary_number quot = 3
binary_number rem = 4
binary_number equal = 5
binary_number less = 6
binary_number eq_char = 7

abbrev numbered_binary : ℕ → Binary
numbered_binary zero = plus
numbered_binary (suc zero) = minus
numbered_binary (suc (suc zero)) = times
numbered_binary (suc (suc (suc zero))) = quot
numbered_binary (suc (suc (suc (suc zero)))) = rem
numbered_binary (suc (suc (suc (suc (suc zero))))) = equal
numbered_binary (suc (suc (suc (suc (suc (suc zero)))))) = less
numbered_binary (suc (suc (suc (suc (suc (suc (suc n))))))) = eq_char

same_unary : (u : Unary) → numbered_unary (unary_number u) ≡ u
same_unary ord = refl
same_unary chr = refl
same_unary show_int = refl

same_binary : (b : Binary) → numbered_binary (binary_number b) ≡ b
same_binary plus = refl
same_binary minus = refl
same_binary times = refl
same_binary quot = refl
same_binary rem = refl
same_binary equal = refl
same_binary less = refl
same_binary eq_char = refl

-- what waits, as a term of a form of its own
abbrev waiting_term : Waiting → Term
waiting_term (arg e) = whole e
waiting_term (of_case alts) = cases (con nil) alts
waiting_term (under c) = con c
waiting_term (only u place) = app (var (unary_number u)) (stop place)
waiting_term (first b place e) = lam (binary_number b) (app (stop place) e)
waiting_term (second b place l) = letrec (bind (binary_number b) (stop place) no_bind) (lit l)
waiting_term (printing rest) = contents nil rest

abbrev term_waiting : Term → Waiting
term_waiting (whole e) = arg e
term_waiting (cases s alts) = of_case alts
term_waiting (con c) = under c
term_waiting (app (var n) (stop place)) = only (numbered_unary n) place
term_waiting (lam n (app (stop place) e)) = first (numbered_binary n) place e
term_waiting (letrec (bind n (stop place) no_bind) (lit l)) = second (numbered_binary n) place l
term_waiting (contents c rest) = printing rest
term_waiting u = under nil

pub same_waiting : (w : Waiting) → term_waiting (waiting_term w) ≡ w
same_waiting (arg e) = refl
same_waiting (of_case alts) = refl
same_waiting (under c) = refl
same_waiting (only u place) = ap (λ v. only v place) (same_unary u)
same_waiting (first b place e) = ap (λ v. first v place e) (same_binary b)
same_waiting (second b place l) = ap (λ v. second v place l) (same_binary b)
same_waiting (printing rest) = refl

abbrev pub coded_waiting : Coded Waiting
coded_waiting = code_by Term coded_term waiting_term term_waiting same_waiting

abbrev cause_number : Cause → ℕ
cause_number error_called = 0
cause_number no_match = 1
cause_number divide_by_zero = 2
cause_number no_character = 3

abbrev numbered_cause : ℕ → Cause
numbered_cause zero = error_called
numbered_cause (suc zero) = no_match
numbered_cause (suc (suc zero)) = divide_by_zero
numbered_cause (suc (suc (suc n))) = no_character

same_cause : (cause : Cause) → numbered_cause (cause_number cause) ≡ cause
same_cause error_called = refl
same_cause no_match = refl
same_cause divide_by_zero = refl
same_cause no_character = refl

abbrev status_term : Status → Term
status_term running = var 0
status_term ended = var 1
status_term (failed cause place) = lam (cause_number cause) (stop place)

abbrev term_status : Term → Status
term_status (var zero) = running
term_status (var (suc n)) = ended
term_status (lam n (stop place)) = failed (numbered_cause n) place
term_status u = ended

pub same_status : (status : Status) → term_status (status_term status) ≡ status
same_status running = refl
same_status ended = refl
same_status (failed cause place) = ap (λ x. failed x place) (same_cause cause)

abbrev pub coded_status : Coded Status
coded_status = code_by Term coded_term status_term term_status same_status

-- what callers see: the program, the state, the number of cells, and for how many reductions there is room
pub record Seen : Type 0 where
  pub program : Erased
  pub state : State
  pub cells : ℕ
  pub spare : ℕ

abbrev pub coded_seen : Coded Seen
coded_seen = code_by (Erased × (Term × (List Waiting × (List ℕ × (Status × (ℕ × ℕ)))))) (coded× program.the_row.coded (coded× coded_term (coded× (coded_list coded_waiting) (coded× (coded_list coded_ℕ) (coded× coded_status (coded× coded_ℕ coded_ℕ))))))
    (λ s. (s.program, (s.state.focus, (s.state.stack, (s.state.out, (s.state.status, (s.cells, s.spare)))))))
    (λ p. record { program = p.0; state = record { focus = p.1.0; stack = p.1.1.0; out = p.1.1.1.0; status = p.1.1.1.1.0 }; cells = p.1.1.1.1.1.0; spare = p.1.1.1.1.1.1 })
    (λ s. refl)
