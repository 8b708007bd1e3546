-- Cases and recursive bindings as plain trees, and patterns as the definitions read them.
use Rattle.std.proofs.Common.{◌≡◌, ℕ, suc, List, [], ◌∷◌, length, map, Some, Result, Ok, Err, IfOk, refl, sym, ap, ◌∙◌}
use Rattle.gh_base.specs.declared.place.Origin.{Origin}
use Rattle.gh_core.specs.declared.types.CoreType.{CoreType}
use Rattle.gh_core.specs.declared.terms.CoreTerm.{CoreTerm, fold-roll-CoreTerm}
use Rattle.gh_core.specs.declared.terms.CoreTerm.TheVariants as c
use Rattle.gh_core.specs.declared.terms.CoreAlt.{CoreAlt}
use Rattle.gh_core.specs.declared.terms.CoreAlt.TheShapes.{former-CoreTerm-LetRec-0}
use Rattle.gh_core.specs.declared.terms.CoreAlt.TheOpen.{CoreTerm-F}
use Rattle.gh_core.specs.Typing.{Code, a_case, a_letrec, binding, Branch, branch_step, code_step, code_of, bindings_of, branches_of, type_of}
use Rattle.gh_kernel.specs.declared.patterns.Pattern.{Pattern, roll-Pattern, out-Pattern, roll-out-Pattern}
use Rattle.gh_kernel.specs.declared.patterns.PatternNode.{PatternNode}
use Rattle.gh_kernel.specs.declared.patterns.PatternNode.TheVariants as p
use Rattle.gh_kernel.specs.declared.signatures.Note.{Note}
use Rattle.gh_kernel.specs.Read.{pattern_node_of, pattern_of-at, pattern-PCon, pattern-PAs}
use Rattle.gh_kernel.specs.Reading.{pats_of, pattern_of, patterns_of}
use Rattle.gh_kernel.specs.Terms.{Pat, pcon, pas, pat}
use Rattle.gh_match.specs.Compiled.{branch_of, group_code, width}

pub code_case : (e : CoreTerm) (ty : CoreType) (alts : List CoreAlt) (o : CoreTerm) → code_of (c.Case e ty alts (Some o)) ≡ a_case (code_of e) (type_of ty) (branches_of (map branch_of alts) (Some (code_of o)))
code_case e ty alts o = ap code_of (sym (c.rolls-Case e ty alts (Some o))) ∙ fold-roll-CoreTerm Branch Code branch_step code_step (CoreTerm-F.Case e ty alts (Some o))

bindings_are : (bs : List (ℕ × CoreType × CoreTerm)) → bindings_of (former-CoreTerm-LetRec-0.map CoreTerm Code code_of bs) ≡ group_code bs
bindings_are [] = refl
bindings_are (b ∷ bs) = ap (binding b.0 (type_of b.1) (code_of b.2)) (bindings_are bs)

pub code_letrec : (bs : List (ℕ × CoreType × CoreTerm)) (b : CoreTerm) → code_of (c.LetRec bs b) ≡ a_letrec (group_code bs) (code_of b)
code_letrec bs b =
    ap code_of (sym (c.rolls-LetRec bs b)) ∙ fold-roll-CoreTerm Branch Code branch_step code_step (CoreTerm-F.LetRec bs b)
    ∙ ap (λ z. a_letrec z (code_of b)) (bindings_are bs)

patterns_map : (ps : List (Pattern Note)) → pats_of (map pattern_of ps) ≡ patterns_of ps
patterns_map [] = refl
patterns_map (q ∷ ps) = ap (pat (pattern_of q)) (patterns_map ps)

node_read : (q : Pattern Note) (n : PatternNode Note) → (out-Pattern Note q).node ≡ n → pattern_of q ≡ pattern_node_of n (out-Pattern Note q).note
node_read q n is = sym (ap pattern_of (roll-out-Pattern Note q)) ∙ pattern_of-at (out-Pattern Note q) ∙ ap (λ m. pattern_node_of m (out-Pattern Note q).note) is

pub con_read : (q : Pattern Note) (con : Origin) (ps : List (Pattern Note)) → (out-Pattern Note q).node ≡ p.PCon con ps → pattern_of q ≡ pcon (out-Pattern Note q).note con (patterns_of ps)
con_read q con ps is = node_read q (p.PCon con ps) is ∙ pattern-PCon con ps (out-Pattern Note q).note ∙ ap (pcon (out-Pattern Note q).note con) (patterns_map ps)

pub as_read : (q : Pattern Note) (x : ℕ) (inner : Pattern Note) → (out-Pattern Note q).node ≡ p.PAs x inner → pattern_of q ≡ pas (out-Pattern Note q).note x (pattern_of inner)
as_read q x inner is = node_read q (p.PAs x inner) is ∙ pattern-PAs x inner (out-Pattern Note q).note

pub patterns_width : (ps : List (Pattern Note)) → width (patterns_of ps) ≡ length ps
patterns_width [] = refl
patterns_width (q ∷ ps) = ap (λ n. suc n) (patterns_width ps)

pub if_ok : {A E : Type 0} (r : Result A E) (P Q : A → Type 0) → ((x : A) → P x → Q x) → IfOk r P → IfOk r Q
if_ok (Ok x) P Q more h = more x h
if_ok (Err e) P Q more h = tt
