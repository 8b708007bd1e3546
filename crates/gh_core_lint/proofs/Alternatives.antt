-- Whether alternatives fit, and how often they name a constructor.
use Rattle.std.proofs.Common.{◌≡◌, ℕ, suc, ◌+◌, ◌<◌, Bool, true, false, cond, List, [], ◌∷◌, ◌++◌, map, take, length, get_or, Option, Some, None, refl, sym, ap, subst, ◌∙◌, inl, inr, arith}
use Rattle.std.proofs.lemmas.Bool.{false≢true}
use Rattle.std.proofs.lemmas.List.{take_more, map-append}
use Rattle.std.specs.Prelude.{◌↔◌, IsTrue}
use Rattle.gh_base.specs.declared.place.Origin.{Origin}
use Rattle.gh_typeterm.specs.declared.decl.DeclCon.{DeclCon}
use Rattle.gh_typeterm.specs.declared.decl.DeclData.{DeclData}
use Rattle.gh_core.specs.declared.terms.CoreAlt.{CoreAlt}
use Rattle.gh_core.specs.SameType.{Nameless}
use Rattle.gh_core.specs.Primitives.{same_origin}
use Rattle.gh_core.specs.Typing.{Branch, Branches, Code, Program, branches_of, con_branch, con_of, has_else, names_it, times_named, EachOnce, IsCovered, IsData}
use Rattle.gh_core_lint.specs.declared.types.Node.{Node}
use Rattle.gh_core_lint.specs.Branches.{alt_code, tallied, IsChosen}
use Rattle.gh_core_lint.specs.Faults.{AllFit, Fits}
use Rattle.gh_core_lint.specs.Types.{type_at}
use Rattle.gh_core_lint.proofs.Applied.{data_same, origins_same, some_is}
use denote.Bor.{Bor}

-- the list of alternatives as branches
abbrev pub chosen_from : List CoreAlt → Branches
chosen_from xs = branches_of (map alt_code xs) None

-- a constructor of the scrutinee's datatype, with a name for each field
pub con_found : (p : Program) (s : Nameless) (c : Origin) (r : Option (Bor DeclData × Bor DeclCon × Bor (List Node))) (d : Bor DeclData) (k : Bor DeclCon) (args : Bor (List Node)) (xs : List ℕ) (b : Bool)
    → IsChosen p s c r → r ≡ Some (d, k, args) → (IsTrue b ↔ (length k.now.fields ≡ length xs)) → (t : Code) → IsTrue b ↔ Fits p s (con_branch c xs t)
con_found p s c r d k args xs b h is e t =
    let g = subst (IsChosen p s c) is h in (
      λ y. ((d.now, k.now), map type_at args.now, g.0, g.1, sym (e.0 y)),
      λ w. e.1 (let q : (d.now, k.now) ≡ w.0 = some_is (con_of p.decls c) (d.now, k.now) w.0 g.0 w.2 in sym (w.4 ∙ ap (λ (x : DeclData × DeclCon). length x.1.fields) (sym q))),
    )

pub con_missing : (p : Program) (s : Nameless) (c : Origin) (r : Option (Bor DeclData × Bor DeclCon × Bor (List Node))) (xs : List ℕ)
    → IsChosen p s c r → r ≡ None → (t : Code) → IsTrue false ↔ Fits p s (con_branch c xs t)
con_missing p s c r xs h is t =
    let g = subst (IsChosen p s c) is h in
    (λ e. absurd (false≢true e), λ w. absurd (g w.0 w.1 w.2 w.3))

fit_append : (p : Program) (s : Nameless) (xs : List Branch) (b : Branch) → AllFit p s (branches_of xs None) → Fits p s b → AllFit p s (branches_of (xs ++ b ∷ []) None)
fit_append p s [] b h f = (f, tt)
fit_append p s (x ∷ xs) b h f = (h.0, fit_append p s xs b h.1 f)

alternatives_more : (xs : List CoreAlt) (i : ℕ) (a : CoreAlt) → i < length xs → a ≡ get_or xs i a → map alt_code (take (i + 1) xs) ≡ map alt_code (take i xs) ++ alt_code a ∷ []
alternatives_more xs i a lt is =
    ap (map alt_code) (take_more xs i a lt) ∙ map-append alt_code (take i xs) (get_or xs i a ∷ []) ∙ ap (λ x. map alt_code (take i xs) ++ alt_code x ∷ []) (sym is)

-- one alternative more
pub fit_more : (p : Program) (s : Nameless) (xs : List CoreAlt) (i : ℕ) (a : CoreAlt) → i < length xs → a ≡ get_or xs i a → AllFit p s (chosen_from (take i xs)) → Fits p s (alt_code a)
    → AllFit p s (chosen_from (take (i + 1) xs))
fit_more p s xs i a lt is h f =
    subst (λ (l : List Branch). AllFit p s (branches_of l None)) (sym (alternatives_more xs i a lt is)) (fit_append p s (map alt_code (take i xs)) (alt_code a) h f)

-- each of alternatives that all fit does so
pub fit_one : (p : Program) (s : Nameless) (xs : List CoreAlt) (i : ℕ) (d : CoreAlt) → i < length xs → AllFit p s (chosen_from xs) → Fits p s (alt_code (get_or xs i d))
fit_one p s [] i d lt h = absurd (omega arith)
fit_one p s (x ∷ xs) ℕ.zero d lt h = h.0
fit_one p s (x ∷ xs) (ℕ.suc i) d lt h = fit_one p s xs i d (omega arith) h.1

-- a constructor counted
pub counted : (b : Bool) (c o : Origin) (old : Origin → Option ℕ) (new : Option ℕ) (n : ℕ) → same_origin c o ≡ b → new ≡ cond b (Some (suc n)) (old o) → n ≡ tallied (old c)
    → tallied new ≡ cond b 1 0 + tallied (old o)
counted true c o old new n e h k =
    let same : n ≡ tallied (old o) = k ∙ ap (λ x. tallied (old x)) (origins_same c o e) in
    let up : tallied new ≡ suc n = ap tallied h in
    omega arith
counted false c o old new n e h k = let up : tallied new ≡ tallied (old o) = ap tallied h in omega arith

times_append : (o : Origin) (xs : List Branch) (b : Branch) → times_named o (branches_of (xs ++ b ∷ []) None) ≡ names_it o b + times_named o (branches_of xs None)
times_append o [] b = refl
times_append o (x ∷ xs) b = let h = times_append o xs b in omega arith

pub times_more : (o : Origin) (xs : List CoreAlt) (i : ℕ) (a : CoreAlt) (old new : ℕ) → i < length xs → a ≡ get_or xs i a → new ≡ names_it o (alt_code a) + old
    → old ≡ times_named o (chosen_from (take i xs)) → new ≡ times_named o (chosen_from (take (i + 1) xs))
times_more o xs i a old new lt is h e =
    h ∙ ap (λ n. names_it o (alt_code a) + n) e ∙ sym (times_append o (map alt_code (take i xs)) (alt_code a))
    ∙ ap (λ l. times_named o (branches_of l None)) (sym (alternatives_more xs i a lt is))

once_append : (cs : List DeclCon) (c : DeclCon) (bs : Branches) → EachOnce cs bs → times_named c.origin bs ≡ 1 → EachOnce (cs ++ c ∷ []) bs
once_append [] c bs h e = (e, tt)
once_append (x ∷ cs) c bs h e = (h.0, once_append cs c bs h.1 e)

-- one constructor more that is named once
pub once_more : (cs : List DeclCon) (i : ℕ) (c : DeclCon) (bs : Branches) → i < length cs → c ≡ get_or cs i c → EachOnce (take i cs) bs → times_named c.origin bs ≡ 1 → EachOnce (take (i + 1) cs) bs
once_more cs i c bs lt is h e =
    subst (λ (l : List DeclCon). EachOnce l bs) (sym (take_more cs i c lt ∙ ap (λ x. take i cs ++ x ∷ []) (sym is))) (once_append (take i cs) c bs h e)

pub once_one : (cs : List DeclCon) (i : ℕ) (d : DeclCon) (bs : Branches) → i < length cs → EachOnce cs bs → times_named (get_or cs i d).origin bs ≡ 1
once_one [] i d bs lt h = absurd (omega arith)
once_one (c ∷ cs) ℕ.zero d bs lt h = h.0
once_one (c ∷ cs) (ℕ.suc i) d bs lt h = once_one cs i d bs (omega arith) h.1

no_else : (xs : List Branch) → has_else (branches_of xs None) ≡ false
no_else [] = refl
no_else (x ∷ xs) = no_else xs

-- alternatives without an `else` cover a datatype where they name each constructor once
pub covered_data : (decls : List DeclData) (s : Nameless) (d : DeclData) (ts : List Nameless) (xs : List Branch) (b : Bool) → IsData decls s d ts → (IsTrue b ↔ EachOnce d.constructors (branches_of xs None))
    → IsTrue b ↔ IsCovered decls s (branches_of xs None)
covered_data decls s d ts xs b h e = (
  λ y. inr (d, ts, h, e.0 y),
  λ w. covered_by w,
)
  where
    covered_by : IsCovered decls s (branches_of xs None) → IsTrue b
    covered_by (inl y) = absurd (false≢true (sym (no_else xs) ∙ y))
    covered_by (inr w) = e.1 (subst (λ (x : DeclData). EachOnce x.constructors (branches_of xs None)) (sym (data_same decls s d w.0 ts w.1 h w.2).0) w.3)

-- and nothing else
pub covered_none : (decls : List DeclData) (s : Nameless) (xs : List Branch) → ((d : DeclData) (ts : List Nameless) → IsData decls s d ts → ⊥) → IsTrue false ↔ IsCovered decls s (branches_of xs None)
covered_none decls s xs h = (λ y. absurd (false≢true y), λ w. absurd (uncovered w))
  where
    uncovered : IsCovered decls s (branches_of xs None) → ⊥
    uncovered (inl y) = false≢true (sym (no_else xs) ∙ y)
    uncovered (inr w) = h w.0 w.1 w.2
