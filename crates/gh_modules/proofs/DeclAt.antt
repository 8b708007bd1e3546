-- The names that a declaration binds, variant by variant.
use Rattle.std.proofs.Common.{◌≡◌, ℕ, ◌+◌, ◌<◌, List, [], ◌∷◌, ◌++◌, length, get_or, take, map, Option, refl, sym, ap, ◌∙◌}
use Rattle.std.specs.List.{flat_map}
use Rattle.std.proofs.lemmas.List.{take_more, flat_map_more}
use Rattle.gh_base.specs.declared.place.Span.{Span}
use Rattle.gh_tree.specs.declared.names.Var.{Var}
use Rattle.gh_tree.specs.declared.names.Op.{Op}
use Rattle.gh_tree.specs.declared.names.NextOp.{NextOp}
use Rattle.gh_tree.specs.declared.names.NextVar.{NextVar}
use Rattle.gh_tree.specs.declared.names.FixityWord.{FixityWord}
use Rattle.gh_tree.specs.declared.patterns.FunLhs.{FunLhs}
use Rattle.gh_tree.specs.declared.patterns.Pattern.{Pattern}
use Rattle.gh_tree.specs.declared.types.TypeExpr.{TypeExpr}
use Rattle.gh_tree.specs.declared.expressions.Rhs.{Rhs}
use Rattle.gh_tree.specs.declared.expressions.Decl.{out-Decl, out-roll-Decl}
use Rattle.gh_tree.specs.declared.expressions.Decl.TheVariants as v_Decl
use Rattle.gh_tree.specs.declared.expressions.Aexp.TheOpen.{Decl-F}
use Rattle.gh_modules.specs.Patterns.{head_name, pattern_names}
use Rattle.gh_modules.specs.Summaries.{decl_names, decl_names_at}

pub names_signature : (x0 : Span) (x1 : Var) (x2 : List NextVar) (x3 : Span) (x4 : TypeExpr) → decl_names (v_Decl.Signature x0 x1 x2 x3 x4) ≡ []
names_signature x0 x1 x2 x3 x4 = ap decl_names_at (ap out-Decl (sym (v_Decl.rolls-Signature x0 x1 x2 x3 x4)) ∙ out-roll-Decl (Decl-F.Signature x0 x1 x2 x3 x4))

pub names_fixity : (x0 : Span) (x1 : FixityWord) (x2 : Option (Span × ℕ)) (x3 : Op) (x4 : List NextOp) → decl_names (v_Decl.Fixity x0 x1 x2 x3 x4) ≡ []
names_fixity x0 x1 x2 x3 x4 = ap decl_names_at (ap out-Decl (sym (v_Decl.rolls-Fixity x0 x1 x2 x3 x4)) ∙ out-roll-Decl (Decl-F.Fixity x0 x1 x2 x3 x4))

pub names_function : (x0 : Span) (x1 : FunLhs) (x2 : Rhs) → decl_names (v_Decl.Function x0 x1 x2) ≡ head_name x1 ∷ []
names_function x0 x1 x2 = ap decl_names_at (ap out-Decl (sym (v_Decl.rolls-Function x0 x1 x2)) ∙ out-roll-Decl (Decl-F.Function x0 x1 x2))

pub names_pattern : (x0 : Span) (x1 : Pattern) (x2 : Rhs) → decl_names (v_Decl.Pattern x0 x1 x2) ≡ pattern_names x1
names_pattern x0 x1 x2 = ap decl_names_at (ap out-Decl (sym (v_Decl.rolls-Pattern x0 x1 x2)) ∙ out-roll-Decl (Decl-F.Pattern x0 x1 x2))

pub over_items : {X Y A : Type 0} (f : Y → List A) (h : X → Y) (xs : List X) → flat_map f (map h xs) ≡ flat_map (λ x. f (h x)) xs
over_items f h [] = refl
over_items f h (x ∷ xs) = ap (λ l. f (h x) ++ l) (over_items f h xs)

pub stays : {A : Type 0} (xs ys : List A) → ys ≡ [] → xs ≡ xs ++ ys
stays [] ys e = sym e
stays (x ∷ xs) ys e = ap (λ l. x ∷ l) (stays xs ys e)

-- a loop that adds what each item gives, one item further
pub flat_more : {X A : Type 0} (f : X → List A) (xs : List X) (i : ℕ) (x : X) (before now after : List A)
    → i < length xs → x ≡ get_or xs i x → now ≡ before ++ flat_map f (take i xs) → after ≡ now ++ f x → after ≡ before ++ flat_map f (take (i + 1) xs)
flat_more f xs i x before now after lt at is more =
    more ∙ ap (λ l. l ++ f x) is ∙ flat_map_more f before (take i xs) x
    ∙ ap (λ l. before ++ flat_map f l) (sym (take_more xs i x lt ∙ ap (λ y. take i xs ++ y ∷ []) (sym at)))
