-- The core of a program of bindings as plain terms.
use Rattle.std.proofs.Common.{◌≡◌, ℕ, List, [], ◌∷◌, map, refl, sym, ap, ◌∙◌}
use Rattle.std.specs.Prelude.{None}
use Rattle.gh_base.specs.declared.fixed.TheConstants.{MAIN}
use Rattle.gh_base.specs.declared.place.Origin.{Origin}
use Rattle.gh_typeterm.specs.declared.kind.Kind.{Kind}
use Rattle.gh_typeterm.specs.declared.kind.Kind.TheVariants.{Star}
use Rattle.gh_core.specs.Terms as t
use Rattle.gh_core.specs.Primitives.{nil, cons}
use Rattle.gh_core.specs.Erase.{erased, erased_alt, erased_step, erased_alt_step, erased_def, erased_program}
use Rattle.gh_core.specs.Reading.{term_of, alt_of, defs_of}
use Rattle.gh_core.specs.Read.{term_of-Var, term_of-Global, term_of-Con, term_of-Str, term_of-Lam, term_of-App, term_of-Case, alt_of-Con}
use Rattle.gh_core.specs.Reduce.{Program, reductions}
use Rattle.gh_core.specs.Run.{seen, program_of, start, core_main}
use Rattle.gh_core.specs.declared.types.CoreType.{CoreType}
use Rattle.gh_core.specs.declared.types.CoreType.TheVariants as type
use Rattle.gh_core.specs.declared.erased.ErasedTerm.{ErasedTerm}
use Rattle.gh_core.specs.declared.erased.ErasedAlt.{ErasedAlt}
use Rattle.gh_core.specs.declared.terms.CoreName.{CoreName}
use Rattle.gh_core.specs.declared.terms.CoreName.TheVariants.{Plain}
use Rattle.gh_core.specs.declared.terms.CoreTerm.{CoreTerm, fold-roll-CoreTerm}
use Rattle.gh_core.specs.declared.terms.CoreTerm.TheVariants as c
use Rattle.gh_core.specs.declared.terms.CoreAlt.{CoreAlt, fold-roll-CoreAlt}
use Rattle.gh_core.specs.declared.terms.CoreAlt.TheVariants as ca
use Rattle.gh_core.specs.declared.terms.CoreAlt.TheOpen.{CoreTerm-F, CoreAlt-F}
use Rattle.gh_bindings.specs.declared.binding.Binding.{Binding}
use Rattle.gh_bindings.specs.declared.binding.Operand.{Operand}
use Rattle.gh_bindings.specs.declared.binding.Operand.TheVariants.{Name, Text}
use Rattle.gh_bindings.specs.Meaning.{append, main_value}
use Rattle.gh_bindings.specs.Core.{elements, character, joined_at, cell_at, nil_alternative, cons_body, cons_alternative, append_case, append_term, operand_term, joined_term, binding_def, core_program}

-- two terms joined by `++`
abbrev pub join : t.Term → t.Term → t.Term
join a b = t.app (t.app (t.glob (Plain append)) a) b

abbrev pub cell : t.Term → t.Term → t.Term
cell x xs = t.app (t.app (t.con cons) x) xs

abbrev pub append_alts : t.Alts
append_alts = t.alt (t.con_alt nil [] (t.var 1)) (t.alt (t.con_alt cons (2 ∷ 3 ∷ []) (cell (t.var 2) (join (t.var 3) (t.var 1)))) t.no_alt)

abbrev pub append_plain : t.Term
append_plain = t.lam 0 (t.lam 1 (t.cases (t.var 0) append_alts))

abbrev pub operand_plain : Operand → t.Term
operand_plain (Name name span) = t.glob (Plain (main_value name))
operand_plain (Text cs) = t.string cs

abbrev pub joined_plain : List Operand → t.Term
joined_plain [] = t.string []
joined_plain (o ∷ []) = operand_plain o
joined_plain (o ∷ p ∷ ps) = join (operand_plain o) (joined_plain (p ∷ ps))

abbrev pub plain_def : Binding → CoreName × t.Term
plain_def b = (Plain (main_value b.name), joined_plain b.operands)

abbrev pub plain_program : List Binding → Program
plain_program bs = record { newtypes = []; defs = (Plain append, append_plain) ∷ map plain_def bs }

abbrev pub main_plain : t.Term
main_plain = t.glob (Plain (main_value MAIN))

-- a term without its types
abbrev plain : CoreTerm → t.Term
plain term = term_of (erased term)

plain-Var : (x : ℕ) → plain (c.Var x) ≡ t.var x
plain-Var x = ap term_of (ap erased (sym (c.rolls-Var x)) ∙ fold-roll-CoreTerm ErasedAlt ErasedTerm erased_alt_step erased_step (CoreTerm-F.Var x)) ∙ term_of-Var x

plain-Global : (name : CoreName) → plain (c.Global name) ≡ t.glob name
plain-Global name =
    ap term_of (ap erased (sym (c.rolls-Global name)) ∙ fold-roll-CoreTerm ErasedAlt ErasedTerm erased_alt_step erased_step (CoreTerm-F.Global name)) ∙ term_of-Global name

plain-Con : (name : Origin) → plain (c.Con name) ≡ t.con name
plain-Con name =
    ap term_of (ap erased (sym (c.rolls-Con name)) ∙ fold-roll-CoreTerm ErasedAlt ErasedTerm erased_alt_step erased_step (CoreTerm-F.CoreTerm::Con name)) ∙ term_of-Con name

plain-Str : (cs : List ℕ) → plain (c.Str cs) ≡ t.string cs
plain-Str cs = ap term_of (ap erased (sym (c.rolls-Str cs)) ∙ fold-roll-CoreTerm ErasedAlt ErasedTerm erased_alt_step erased_step (CoreTerm-F.Str cs)) ∙ term_of-Str cs

plain-Lam : (x : ℕ) (ty : CoreType) (body : CoreTerm) → plain (c.Lam x ty body) ≡ t.lam x (plain body)
plain-Lam x ty body =
    ap term_of (ap erased (sym (c.rolls-Lam x ty body)) ∙ fold-roll-CoreTerm ErasedAlt ErasedTerm erased_alt_step erased_step (CoreTerm-F.Lam x ty body))
    ∙ term_of-Lam x (erased body)

plain-App : (f e : CoreTerm) → plain (c.App f e) ≡ t.app (plain f) (plain e)
plain-App f e =
    ap term_of (ap erased (sym (c.rolls-App f e)) ∙ fold-roll-CoreTerm ErasedAlt ErasedTerm erased_alt_step erased_step (CoreTerm-F.App f e))
    ∙ term_of-App (erased f) (erased e)

plain-TyLam : (x : ℕ) (kind : Kind) (body : CoreTerm) → plain (c.TyLam x kind body) ≡ plain body
plain-TyLam x kind body =
    ap term_of (ap erased (sym (c.rolls-TyLam x kind body)) ∙ fold-roll-CoreTerm ErasedAlt ErasedTerm erased_alt_step erased_step (CoreTerm-F.TyLam x kind body))

plain-TyApp : (f : CoreTerm) (ty : CoreType) → plain (c.TyApp f ty) ≡ plain f
plain-TyApp f ty = ap term_of (ap erased (sym (c.rolls-TyApp f ty)) ∙ fold-roll-CoreTerm ErasedAlt ErasedTerm erased_alt_step erased_step (CoreTerm-F.TyApp f ty))

plain-alt : (name : Origin) (xs : List ℕ) (body : CoreTerm) → alt_of (erased_alt (ca.Con name xs body)) ≡ t.con_alt name xs (plain body)
plain-alt name xs body =
    ap alt_of (ap erased_alt (sym (ca.rolls-Con name xs body)) ∙ fold-roll-CoreAlt ErasedAlt ErasedTerm erased_alt_step erased_step (CoreAlt-F.CoreAlt::Con name xs body))
    ∙ alt_of-Con name xs (erased body)

plain-Case : (s : CoreTerm) (ty : CoreType) (a b : CoreAlt) →
    plain (c.Case s ty (a ∷ b ∷ []) None) ≡ t.cases (plain s) (t.alt (alt_of (erased_alt a)) (t.alt (alt_of (erased_alt b)) t.no_alt))
plain-Case s ty a b =
    ap term_of (ap erased (sym (c.rolls-Case s ty (a ∷ b ∷ []) None)) ∙ fold-roll-CoreTerm ErasedAlt ErasedTerm erased_alt_step erased_step (CoreTerm-F.Case s ty (a ∷ b ∷ []) None))
    ∙ term_of-Case (erased s) (erased_alt a ∷ erased_alt b ∷ []) None

-- a function of two arguments at a type
plain-two : (f : CoreTerm) (ty : CoreType) (a b : CoreTerm) → plain (c.App (c.App (c.TyApp f ty) a) b) ≡ t.app (t.app (plain f) (plain a)) (plain b)
plain-two f ty a b =
    plain-App (c.App (c.TyApp f ty) a) b
    ∙ ap (λ g. t.app g (plain b)) (plain-App (c.TyApp f ty) a ∙ ap (λ g. t.app g (plain a)) (plain-TyApp f ty))

plain-join : (ty : CoreType) (a b : CoreTerm) → plain (joined_at ty a b) ≡ join (plain a) (plain b)
plain-join ty a b = plain-two (c.Global (Plain append)) ty a b ∙ ap (λ g. t.app (t.app g (plain a)) (plain b)) (plain-Global (Plain append))

plain-cell : (ty : CoreType) (a b : CoreTerm) → plain (cell_at ty a b) ≡ cell (plain a) (plain b)
plain-cell ty a b = plain-two (c.Con cons) ty a b ∙ ap (λ g. t.app (t.app g (plain a)) (plain b)) (plain-Con cons)

plain-recursion : (ty : CoreType) → plain (cell_at ty (c.Var 2) (joined_at ty (c.Var 3) (c.Var 1))) ≡ cell (t.var 2) (join (t.var 3) (t.var 1))
plain-recursion ty =
    plain-cell ty (c.Var 2) (joined_at ty (c.Var 3) (c.Var 1)) ∙ ap (λ x. cell x (plain (joined_at ty (c.Var 3) (c.Var 1)))) (plain-Var 2)
    ∙ ap (cell (t.var 2)) (plain-join ty (c.Var 3) (c.Var 1) ∙ ap (λ x. join x (plain (c.Var 1))) (plain-Var 3) ∙ ap (join (t.var 3)) (plain-Var 1))

abbrev with_alts : t.Alt → t.Alt → t.Term
with_alts a b = t.cases (t.var 0) (t.alt a (t.alt b t.no_alt))

plain-case : plain append_case ≡ with_alts (t.con_alt nil [] (t.var 1)) (t.con_alt cons (2 ∷ 3 ∷ []) (cell (t.var 2) (join (t.var 3) (t.var 1))))
plain-case =
    plain-Case (c.Var 0) elements nil_alternative cons_alternative
    ∙ ap (λ s. t.cases s (t.alt (alt_of (erased_alt nil_alternative)) (t.alt (alt_of (erased_alt cons_alternative)) t.no_alt))) (plain-Var 0)
    ∙ ap (λ a. with_alts a (alt_of (erased_alt cons_alternative))) (plain-alt nil [] (c.Var 1) ∙ ap (t.con_alt nil []) (plain-Var 1))
    ∙ ap (with_alts (t.con_alt nil [] (t.var 1))) (plain-alt cons (2 ∷ 3 ∷ []) cons_body ∙ ap (t.con_alt cons (2 ∷ 3 ∷ [])) (plain-recursion (type.Var 0)))

pub plain-append : plain append_term ≡ append_plain
plain-append =
    plain-TyLam 0 Star (c.Lam 0 elements (c.Lam 1 elements append_case)) ∙ plain-Lam 0 elements (c.Lam 1 elements append_case)
    ∙ ap (t.lam 0) (plain-Lam 1 elements append_case ∙ ap (t.lam 1) plain-case)

plain-operand : (o : Operand) → plain (operand_term o) ≡ operand_plain o
plain-operand (Name name span) = plain-Global (Plain (main_value name))
plain-operand (Text cs) = plain-Str cs

pub plain-joined : (os : List Operand) → plain (joined_term os) ≡ joined_plain os
plain-joined [] = plain-Str []
plain-joined (o ∷ []) = plain-operand o
plain-joined (o ∷ p ∷ ps) =
    plain-join character (operand_term o) (joined_term (p ∷ ps)) ∙ ap (λ x. join x (plain (joined_term (p ∷ ps)))) (plain-operand o)
    ∙ ap (join (operand_plain o)) (plain-joined (p ∷ ps))

plain-defs : (bs : List Binding) → defs_of (map erased_def (map binding_def bs)) ≡ map plain_def bs
plain-defs [] = refl
plain-defs (b ∷ bs) = ap (λ x. (Plain (main_value b.name), x) ∷ defs_of (map erased_def (map binding_def bs))) (plain-joined b.operands) ∙ ap (λ ds. plain_def b ∷ ds) (plain-defs bs)

pub plain-program : (bs : List Binding) → program_of (erased_program (core_program bs)) ≡ plain_program bs
plain-program bs =
    ap (λ x. record { newtypes = []; defs = (Plain append, x) ∷ defs_of (map erased_def (map binding_def bs)) }) plain-append
    ∙ ap (λ ds. record { newtypes = []; defs = (Plain append, append_plain) ∷ ds }) (plain-defs bs)

-- the core of a program runs as its plain terms do
pub runs_plain : (bs : List Binding) (n : ℕ) → core_main (erased_program (core_program bs)) n ≡ seen (reductions (plain_program bs) n (start main_plain))
runs_plain bs n =
    ap (λ x. seen (reductions (program_of (erased_program (core_program bs))) n (start x))) (plain-Global (Plain (main_value MAIN)))
    ∙ ap (λ p. seen (reductions p n (start main_plain))) (plain-program bs)
