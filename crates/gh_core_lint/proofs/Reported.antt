-- What the faults of definitions say of a program.
use Rattle.std.proofs.Common.{◌≡◌, ℕ, suc, ◌+◌, ◌<◌, List, [], ◌∷◌, ◌++◌, take, length, get_or, sym, ap, subst, ◌∙◌, inl, inr, arith}
use Rattle.std.proofs.lemmas.List.{take_more}
use Rattle.gh_core.specs.declared.terms.Def.{Def}
use Rattle.gh_core.specs.Typing.{Code, Program, DefTyped, DefsTyped, string_type}
use Rattle.gh_core_lint.specs.declared.fault.LintFault.{LintFault}
use Rattle.gh_core_lint.specs.declared.fault.LintFault.TheVariants as answer
use Rattle.gh_core_lint.specs.declared.rules.Stop.{Stop}
use Rattle.gh_core_lint.specs.declared.rules.Stop.TheVariants as stop
use Rattle.gh_core_lint.specs.Faults.{Fault, broken, DefFails, DefsFail, RootFails}
use Rattle.gh_core_lint.specs.Reports.{Tells, IsOf, Reports}
use Rattle.gh_core_lint.specs.Stops.{Blames}

pub tells_more : (r : LintFault) (F G : ℕ → Fault → Type 0) → ((n : ℕ) (f : Fault) → F n f → G n f) → Tells r F → Tells r G
tells_more (answer.Clash def node wanted found) F G h t = h def _ t
tells_more (answer.Broken def node) F G h t = h def (broken node) t
tells_more answer.NoMemory F G h t = tt

-- the fault of a stop is one that it blames
pub blamed : (s : Stop) (f : Fault) (F : Fault → Type 0) → IsOf s f → Blames s F → F f
blamed (stop.Broken n) f F h b = subst F (sym h) b
blamed (stop.Clash n w u) f F h b = subst F (sym h) b
blamed stop.NoMemory f F h b = absurd h

-- one definition more that has its type
defs_append : (p : Program) (ds : List Def) (d : Def) → DefsTyped p ds → DefTyped p d → DefsTyped p (ds ++ d ∷ [])
defs_append p [] d h k = (k, tt)
defs_append p (x ∷ ds) d h k = (h.0, defs_append p ds d h.1 k)

pub defs_more : (p : Program) (ds : List Def) (i : ℕ) (d : Def) → i < length ds → d ≡ get_or ds i d → DefsTyped p (take i ds) → DefTyped p d → DefsTyped p (take (i + 1) ds)
defs_more p ds i d lt is h k =
    subst (DefsTyped p) (sym (take_more ds i d lt ∙ ap (λ x. take i ds ++ x ∷ []) (sym is))) (defs_append p (take i ds) d h k)

-- the first definition that has a fault
fails_from : (p : Program) (n i at : ℕ) (ds : List Def) (d : Def) (main : Code) (f : Fault) → at ≡ n + i → i < length ds → DefsTyped p (take i ds) → DefFails p (get_or ds i d) f → DefsFail p n ds main at f
fails_from p n i at [] d main f e lt h k = absurd (omega arith)
fails_from p n ℕ.zero at (x ∷ ds) d main f e lt h k = inl (omega arith, k)
fails_from p n (ℕ.suc i) at (x ∷ ds) d main f e lt h k = inr (h.0, fails_from p (suc n) i at ds d main f (omega arith) (omega arith) h.1 k)

pub def_reported : (p : Program) (ds : List Def) (i : ℕ) (d : Def) (main : Code) (s : Stop) (r : LintFault) → i < length ds → d ≡ get_or ds i d → DefsTyped p (take i ds) → Blames s (DefFails p d)
    → Reports i s r → Tells r (DefsFail p 0 ds main)
def_reported p ds i d main s r lt is h b =
    tells_more r (λ at f. (at ≡ i) × IsOf s f) (DefsFail p 0 ds main)
    (λ at f k. let e = k.0 in fails_from p 0 i at ds d main f (omega arith) lt h (subst (λ (x : Def). DefFails p x f) is (blamed s f (DefFails p d) k.1 b)))

-- `main` after the last
pub main_fails : (p : Program) (n at : ℕ) (ds : List Def) (main : Code) (f : Fault) → at ≡ n + length ds → DefsTyped p ds → RootFails p main string_type f → DefsFail p n ds main at f
main_fails p n at [] main f e h k = (omega arith, k)
main_fails p n at (x ∷ ds) main f e h k = inr (h.0, main_fails p (suc n) at ds main f (omega arith) h.1 k)
