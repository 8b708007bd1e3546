-- The type at an arrow, from its parts.
use Rattle.std.proofs.Common.{◌≡◌, ℕ, zero, suc, ◌+◌, ◌≤◌, List, length, map, drop, Result, Ok, Err, IfOk, sym, ap, ◌∙◌, arith}
use Rattle.std.proofs.lemmas.List.{length-map}
use Rattle.gh_typeterm.specs.declared.kind.Kind.{Kind}
use Rattle.gh_typeterm.specs.declared.kind.Kind.TheVariants as kind
use Rattle.gh_core.specs.SameType.{Nameless}
use Rattle.gh_core.specs.Typing.{arrows, type_of}
use Rattle.gh_core.specs.declared.types.CoreType.{CoreType}
use Rattle.gh_kernel.specs.declared.functions.GenFun.{GenFun}
use Rattle.gh_kind_index.specs.KindIndex.{variables_from, for_all, each_applied, asked, indexed}
use Rattle.gh_kind_index.proofs.Equations.{indexed_arrow}

pub if_ok : {A E : Type 0} (r : Result A E) (P Q : A → Type 0) → ((x : A) → P x → Q x) → IfOk r P → IfOk r Q
if_ok (Ok x) P Q more h = more x h
if_ok (Err e) P Q more h = tt

pub arrow_made : (fs : List GenFun) (others : List Nameless) (k l whole : Kind) (f : GenFun) (level count inside i : ℕ) (types at given : List CoreType) (made old first : CoreType)
    → whole ≡ kind.Arrow k l → count ≡ length types → inside ≡ level + count
    → map type_of given ≡ variables_from level count → map type_of at ≡ each_applied (map type_of types) (variables_from level count)
    → type_of first ≡ indexed fs others l f inside (map type_of at) → i ≤ 0
    → type_of old ≡ arrows (asked fs (indexed fs others k) inside (map type_of given) (drop i f.dependencies)) (type_of first)
    → type_of made ≡ for_all k level count (type_of old)
    → type_of made ≡ indexed fs others whole f level (map type_of types)
arrow_made fs others k l whole f level count inside i types at given made old first is counts raised new applied answer least body quantified =
    let none : i ≡ 0 = omega arith in
    let many : count ≡ length (map type_of types) = counts ∙ sym (length-map types type_of) in
    quantified
    ∙ (λ j. for_all k level count ((body
    ∙ (λ m. arrows (asked fs (indexed fs others k) (raised m) (new m) (drop (none m) f.dependencies))
    ((answer ∙ (λ n. indexed fs others l f (raised n) (applied n))) m))) j))
    ∙ (λ m. for_all k level (many m) (arrows (asked fs (indexed fs others k) (level + many m) (variables_from level (many m)) f.dependencies)
    (indexed fs others l f (level + many m) (each_applied (map type_of types) (variables_from level (many m))))))
    ∙ sym (ap (λ by. by f level (map type_of types)) (indexed_arrow fs others k l))
    ∙ ap (λ z. indexed fs others z f level (map type_of types)) (sym is)

pub ok_more : {A E : Type 0} (r : Result A E) (P Q : A → Type 0) → IfOk r P → ((x : A) → P x → Q x) → IfOk r Q
ok_more (Ok x) P Q h more = more x h
ok_more (Err e) P Q h more = tt
