-- One step more of each loop.
use Rattle.std.proofs.Common.{◌≡◌, ℕ, zero, suc, ◌+◌, ◌-◌, ◌<◌, ◌≤◌, List, [], ◌∷◌, ◌++◌, length, map, take, drop, get_or, Some, refl, sym, ap, ◌∙◌, arith, drop-cons}
use Rattle.std.proofs.lemmas.List.{take_more, map-append, length-take-le, length-drop}
use Rattle.gh_base.specs.declared.fixed.TheConstants.{INL, INR, PRODUCT}
use Rattle.gh_typeterm.specs.declared.kind.Kind.{Kind}
use Rattle.gh_typeterm.specs.declared.decl.DeclCon.{DeclCon}
use Rattle.gh_typeterm.specs.declared.ty.TyNode.{TyNode}
use Rattle.gh_core.specs.Primitives.{prelude_value}
use Rattle.gh_core.specs.SameType.{Nameless, applied}
use Rattle.gh_core.specs.declared.terms.CoreAlt.{CoreAlt}
use Rattle.gh_core.specs.declared.types.CoreType.{CoreType}
use Rattle.gh_core.specs.declared.terms.CoreTerm.{CoreTerm, fold-roll-CoreTerm}
use Rattle.gh_core.specs.declared.terms.CoreTerm.TheVariants as c
use Rattle.gh_core.specs.declared.terms.CoreAlt.TheOpen.{CoreTerm-F}
use Rattle.gh_core.specs.Typing.{a_case, branches_of, branch_step, code_step, code_of, Code, a_var, a_tylam, a_tyapp, an_app, Branch, con_branch, applied_to, type_of}
use Rattle.gh_adapt.specs.Conversions.{field_names}
use Rattle.gh_adapt.specs.Typed.{at, at_two, branch_of, case_code, tylams, product_at, product_code, sum_at, injected_code, from_branch, from_branches, types_given, layer_case_code, to_case_code}

-- one name more
names_append : (i n : ℕ) → field_names i (suc n) ≡ field_names i n ++ suc (i + n) ∷ []
names_append i zero = let e : i ≡ i + 0 = omega arith in ap (λ j. suc j ∷ []) e
names_append i (suc n) =
    let e : suc i + n ≡ i + suc n = omega arith in
    ap (λ l. suc i ∷ l) (names_append (suc i) n) ∙ ap (λ j. suc i ∷ (field_names (suc i) n ++ suc j ∷ [])) e

pub names_more : (before n x : ℕ) (names new : List ℕ) → x ≡ before + n + 1 → new ≡ names ++ x ∷ [] → names ≡ field_names before n → new ≡ field_names before (n + 1)
names_more before n x names new is pushed h =
    let one : suc n ≡ n + 1 = omega arith in
    let number : x ≡ suc (before + n) = omega arith in
    pushed ∙ (λ j. h j ++ number j ∷ []) ∙ sym (names_append before n) ∙ ap (field_names before) one

pub one_argument : (h : Nameless) (ts : List CoreType) (i : ℕ) (t : CoreType) → i < length ts → t ≡ get_or ts i t
    → applied_to h (map type_of (drop i ts)) ≡ applied_to (applied h (type_of t)) (map type_of (drop (i + 1) ts))
one_argument h ts i t lt is =
    let one : suc i ≡ i + 1 = omega arith in
    ap (λ l. applied_to h (map type_of l)) (drop-cons ts i t lt) ∙ (λ j. applied_to (applied h (type_of (sym is j))) (map type_of (drop (one j) ts)))

pub one_type : (f : Code) (ts : List CoreType) (i : ℕ) (t : CoreType) → i < length ts → t ≡ get_or ts i t
    → types_given f (map type_of (drop i ts)) ≡ types_given (a_tyapp f (type_of t)) (map type_of (drop (i + 1) ts))
one_type f ts i t lt is =
    let one : suc i ≡ i + 1 = omega arith in
    ap (λ l. types_given f (map type_of l)) (drop-cons ts i t lt) ∙ (λ j. types_given (a_tyapp f (type_of (sym is j))) (map type_of (drop (one j) ts)))

pub one_kind : (ks : List Kind) (i j : ℕ) (k : Kind) (b : Code) → i ≡ suc j → j < length ks → k ≡ get_or ks j k
    → tylams j (drop j ks) b ≡ a_tylam j k (tylams i (drop i ks) b)
one_kind ks i j k b e lt is =
    ap (λ l. tylams j l b) (drop-cons ks j k lt) ∙ (λ m. a_tylam j (sym is m) (tylams (sym e m) (drop (sym e m) ks) b))

from_append : (ts : List Nameless) (layers : List TyNode) (i : ℕ) (cs : List DeclCon) (c : DeclCon) → from_branches ts layers i (cs ++ c ∷ []) ≡ from_branches ts layers i cs ++ from_branch ts layers (i + length cs) c ∷ []
from_append ts layers i [] c = let e : i ≡ i + 0 = omega arith in ap (λ j. from_branch ts layers j c ∷ []) e
from_append ts layers i (d ∷ cs) c =
    let e : suc i + length cs ≡ i + suc (length cs) = omega arith in
    ap (λ l. from_branch ts layers i d ∷ l) (from_append ts layers (suc i) cs c ∙ ap (λ j. from_branches ts layers (suc i) cs ++ from_branch ts layers j c ∷ []) e)

pub one_alternative : (ts : List Nameless) (layers : List TyNode) (cs : List DeclCon) (i : ℕ) (c : DeclCon) (made new : List CoreAlt) (a : CoreAlt) → i < length cs → c ≡ get_or cs i c
    → map branch_of made ≡ from_branches ts layers 0 (take i cs) → branch_of a ≡ from_branch ts layers i c → new ≡ made ++ a ∷ []
    → map branch_of new ≡ from_branches ts layers 0 (take (i + 1) cs)
one_alternative ts layers cs i c made new a lt is before this pushed =
    let count : 0 + length (take i cs) ≡ i = let l = length-take-le i cs (omega arith) in omega arith in
    ap (map branch_of) pushed ∙ map-append branch_of made (a ∷ []) ∙ (λ j. before j ++ this j ∷ [])
    ∙ sym (ap (from_branches ts layers 0) (take_more cs i c lt ∙ ap (λ d. take i cs ++ d ∷ []) (sym is)) ∙ from_append ts layers 0 (take i cs) c
    ∙ ap (λ j. from_branches ts layers 0 (take i cs) ++ from_branch ts layers j c ∷ []) count)

product_more : (ts : List Nameless) (i : ℕ) (t : TyNode) (us : List TyNode) → 0 < length us
    → product_code ts i (t ∷ us) ≡ an_app (an_app (at_two (prelude_value PRODUCT) (at ts t) (product_at ts us)) (a_var (suc i))) (product_code ts (suc i) us)
product_more ts i t [] lt = absurd (omega arith)
product_more ts i t (u ∷ us) lt = refl

pub one_field : (ts : List Nameless) (fields : List TyNode) (i j : ℕ) (t : TyNode) (rest : Code) → i ≡ suc j → i < length fields → t ≡ get_or fields j t
    → rest ≡ product_code ts i (drop i fields)
    → an_app (an_app (at_two (prelude_value PRODUCT) (at ts t) (product_at ts (drop i fields))) (a_var i)) rest ≡ product_code ts j (drop j fields)
one_field ts fields i j t rest e lt is h =
    let some : 0 < length (drop (suc j) fields) = let l = length-drop (suc j) fields in omega arith in
    sym (ap (product_code ts j) (drop-cons fields j t (omega arith) ∙ ap (λ u. u ∷ drop (suc j) fields) (sym is)) ∙ product_more ts j t (drop (suc j) fields) some
    ∙ (λ m. an_app (an_app (at_two (prelude_value PRODUCT) (at ts t) (product_at ts (drop (sym e m) fields))) (a_var (sym e m))) (product_code ts (sym e m) (drop (sym e m) fields)))
    ∙ ap (an_app (an_app (at_two (prelude_value PRODUCT) (at ts t) (product_at ts (drop i fields))) (a_var i))) (sym h))

injected_more : (ts : List Nameless) (l : TyNode) (ms : List TyNode) (n : ℕ) (e : Code) → 0 < length ms
    → injected_code ts (l ∷ ms) (suc n) e ≡ an_app (at_two (prelude_value INR) (at ts l) (sum_at ts ms)) (injected_code ts ms n e)
injected_more ts l [] n e lt = absurd (omega arith)
injected_more ts l (m ∷ ms) n e lt = refl

pub one_injection : (ts : List Nameless) (layers : List TyNode) (index i j : ℕ) (l : TyNode) (e rest : Code) → i ≡ suc j → i ≤ index → index < length layers → l ≡ get_or layers j l
    → rest ≡ injected_code ts (drop i layers) (index - i) e
    → an_app (at_two (prelude_value INR) (at ts l) (sum_at ts (drop i layers))) rest ≡ injected_code ts (drop j layers) (index - j) e
one_injection ts layers index i j l e rest s le lt is h =
    let some : 0 < length (drop (suc j) layers) = let n = length-drop (suc j) layers in omega arith in
    let less : index - j ≡ suc (index - suc j) = omega arith in
    sym ((λ m. injected_code ts ((drop-cons layers j l (omega arith) ∙ ap (λ u. u ∷ drop (suc j) layers) (sym is)) m) (less m) e)
    ∙ injected_more ts l (drop (suc j) layers) (index - suc j) e some
    ∙ (λ m. an_app (at_two (prelude_value INR) (at ts l) (sum_at ts (drop (sym s m) layers))) (injected_code ts (drop (sym s m) layers) (index - sym s m) e))
    ∙ ap (an_app (at_two (prelude_value INR) (at ts l) (sum_at ts (drop i layers)))) (sym h))

to_more : (ts : List Nameless) (ty : Nameless) (c : DeclCon) (cs : List DeclCon) → 0 < length cs
    → to_case_code ts ty (c ∷ cs)
    ≡ case_code (a_var 0) ty (con_branch (prelude_value INL) (0 ∷ []) (layer_case_code ts ty c) ∷ con_branch (prelude_value INR) (0 ∷ []) (to_case_code ts ty cs) ∷ [])
to_more ts ty c [] lt = absurd (omega arith)
to_more ts ty c (d ∷ cs) lt = refl

pub one_constructor : (ts : List Nameless) (ty : Nameless) (cs : List DeclCon) (i j : ℕ) (c : DeclCon) (left right : Code) → i ≡ suc j → i < length cs → c ≡ get_or cs j c
    → left ≡ layer_case_code ts ty c → right ≡ to_case_code ts ty (drop i cs)
    → case_code (a_var 0) ty (con_branch (prelude_value INL) (0 ∷ []) left ∷ con_branch (prelude_value INR) (0 ∷ []) right ∷ []) ≡ to_case_code ts ty (drop j cs)
one_constructor ts ty cs i j c left right s lt is hl hr =
    let some : 0 < length (drop (suc j) cs) = let n = length-drop (suc j) cs in omega arith in
    sym (ap (to_case_code ts ty) (drop-cons cs j c (omega arith) ∙ ap (λ u. u ∷ drop (suc j) cs) (sym is)) ∙ to_more ts ty c (drop (suc j) cs) some
    ∙ (λ m. case_code (a_var 0) ty (con_branch (prelude_value INL) (0 ∷ []) (layer_case_code ts ty c) ∷ con_branch (prelude_value INR) (0 ∷ []) (to_case_code ts ty (drop (sym s m) cs)) ∷ []))
    ∙ (λ m. case_code (a_var 0) ty (con_branch (prelude_value INL) (0 ∷ []) (sym hl m) ∷ con_branch (prelude_value INR) (0 ∷ []) (sym hr m) ∷ [])))

only_layer : (ts : List Nameless) (ls : List TyNode) (e : Code) → length ls ≡ 1 → injected_code ts ls 0 e ≡ e
only_layer ts [] e h = absurd (omega arith)
only_layer ts (l ∷ []) e h = refl
only_layer ts (l ∷ m ∷ ms) e h = absurd (omega arith)

pub last_layer : (ts : List Nameless) (layers : List TyNode) (index : ℕ) (e : Code) → index + 1 ≡ length layers → e ≡ injected_code ts (drop index layers) 0 e
last_layer ts layers index e h = sym (only_layer ts (drop index layers) e (let n = length-drop index layers in omega arith))

only_field : (ts : List Nameless) (i : ℕ) (ls : List TyNode) → length ls ≡ 1 → product_code ts i ls ≡ a_var (suc i)
only_field ts i [] h = absurd (omega arith)
only_field ts i (l ∷ []) h = refl
only_field ts i (l ∷ m ∷ ms) h = absurd (omega arith)

pub last_field : (ts : List Nameless) (fields : List TyNode) → 0 < length fields → product_code ts (length fields - 1) (drop (length fields - 1) fields) ≡ a_var (length fields)
last_field ts fields lt =
    let last : suc (length fields - 1) ≡ length fields = omega arith in
    only_field ts (length fields - 1) (drop (length fields - 1) fields) (let n = length-drop (length fields - 1) fields in omega arith) ∙ ap a_var last

pub case_seen : (e : CoreTerm) (a : CoreType) (alts : List CoreAlt) (o : CoreTerm) → code_of (c.Case e a alts (Some o)) ≡ a_case (code_of e) (type_of a) (branches_of (map branch_of alts) (Some (code_of o)))
case_seen e a alts o = ap code_of (sym (c.rolls-Case e a alts (Some o))) ∙ fold-roll-CoreTerm Branch Code branch_step code_step (CoreTerm-F.Case e a alts (Some o))
