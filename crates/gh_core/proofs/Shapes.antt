-- How erasure goes through each form of a term.
use Rattle.std.proofs.lemmas.List.{take_more, map-append, append_assoc, append-nil}
use Rattle.std.proofs.Common.{◌≡◌, ◌+◌, ◌<◌, ◌++◌, length, take, get_or, List, [], ◌∷◌, map, refl, sym, ap, ◌∙◌}
use Rattle.std.specs.Prelude.{ℕ}
use Rattle.gh_base.specs.declared.place.Origin.{Origin}
use Rattle.gh_core.specs.declared.types.CoreType.{CoreType}
use Rattle.gh_core.specs.declared.terms.CoreTerm.{CoreTerm, fold-roll-CoreTerm}
use Rattle.gh_core.specs.declared.terms.CoreTerm.TheVariants as c
use Rattle.gh_core.specs.declared.terms.CoreAlt.TheShapes.{former-CoreTerm-LetRec-0}
use Rattle.gh_core.specs.declared.terms.CoreAlt.TheOpen.{CoreTerm-F}
use Rattle.gh_core.specs.declared.erased.ErasedTerm.{ErasedTerm}
use Rattle.gh_core.specs.declared.erased.ErasedAlt.{ErasedAlt}
use Rattle.gh_core.specs.declared.erased.ErasedTerm.TheVariants as t
use Rattle.gh_typeterm.specs.declared.decl.DeclData.{DeclData}
use Rattle.gh_core.specs.Erase.{newtypes_in, newtypes_of, erased, erased_bind, erased_step, erased_alt_step}

-- one more item, mapped
pub push_mapped : {X Y : Type 0} (f : X → Y) (xs : List X) (i : ℕ) (out new : List Y) (x : X) (y : Y)
    → i < length xs → x ≡ get_or xs i x → y ≡ f x → out ≡ map f (take i xs) → new ≡ out ++ y ∷ [] → new ≡ map f (take (i + 1) xs)
push_mapped f xs i out new x y lt at is old pushed =
    pushed ∙ ap (λ o. o ++ y ∷ []) old ∙ ap (λ z. map f (take i xs) ++ z ∷ []) (is ∙ ap f at)
    ∙ sym (ap (map f) (take_more xs i x lt) ∙ map-append f (take i xs) (get_or xs i x ∷ []))

abbrev untyped : (X : Type 0) → ℕ × CoreType × X → ℕ × X
untyped X b = (b.0, b.2)

abbrev untyped_by : {X Y : Type 0} → (X → Y) → ℕ × CoreType × X → ℕ × Y
untyped_by h b = (b.0, h b.2)

binds_mapped : (X Y : Type 0) (h : X → Y) (xs : List (ℕ × CoreType × X)) → map (untyped Y) (former-CoreTerm-LetRec-0.map X Y h xs) ≡ map (untyped_by h) xs
binds_mapped X Y h [] = refl
binds_mapped X Y h (x ∷ xs) = ap (λ ys. (x.0, h x.2) ∷ ys) (binds_mapped X Y h xs)

pub letrec_out : (bs : List (ℕ × CoreType × CoreTerm)) (body : CoreTerm) → erased (c.LetRec bs body) ≡ t.LetRec (map erased_bind bs) (erased body)
letrec_out bs body =
    ap erased (sym (c.rolls-LetRec bs body)) ∙ fold-roll-CoreTerm ErasedAlt ErasedTerm erased_alt_step erased_step (CoreTerm-F.LetRec bs body)
    ∙ ap (λ (ys : List (ℕ × ErasedTerm)). t.LetRec ys (erased body)) (binds_mapped CoreTerm ErasedTerm erased bs)

newtypes_of-snoc : (decls : List DeclData) (decl : DeclData) → newtypes_of (decls ++ decl ∷ []) ≡ newtypes_of decls ++ newtypes_in decl.is_newtype decl.constructors
newtypes_of-snoc [] decl = append-nil (newtypes_in decl.is_newtype decl.constructors)
newtypes_of-snoc (d ∷ decls) decl =
    ap (λ z. newtypes_in d.is_newtype d.constructors ++ z) (newtypes_of-snoc decls decl)
    ∙ sym (append_assoc (newtypes_in d.is_newtype d.constructors) (newtypes_of decls) (newtypes_in decl.is_newtype decl.constructors))

-- the newtypes of one declaration more
pub newtypes_more : (decls : List DeclData) (i : ℕ) (old new : List Origin) (decl : DeclData)
    → i < length decls → decl ≡ get_or decls i decl → old ≡ newtypes_of (take i decls) → new ≡ old ++ newtypes_in decl.is_newtype decl.constructors
    → new ≡ newtypes_of (take (i + 1) decls)
newtypes_more decls i old new decl lt at before more =
    more ∙ ap (λ z. z ++ newtypes_in decl.is_newtype decl.constructors) before ∙ sym (newtypes_of-snoc (take i decls) decl)
    ∙ ap (λ d. newtypes_of (take i decls ++ d ∷ [])) at ∙ ap newtypes_of (sym (take_more decls i decl lt))
