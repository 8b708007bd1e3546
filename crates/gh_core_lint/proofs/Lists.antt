-- Lists of types.
use Rattle.std.proofs.Common.{◌≡◌, ℕ, ◌+◌, ◌-◌, ◌<◌, ◌≤◌, List, [], ◌∷◌, ◌++◌, map, take, length, get_or, reverse, drop, refl, sym, ap, subst, subst₂, ◌∙◌, Some, None, inl, inr, arith}
use Rattle.std.specs.Prelude.{slice_get}
use Rattle.std.proofs.lemmas.Option.{slice_get_past, slice_get-get_or}
use Rattle.std.proofs.lemmas.List.{get_or-reverse, length-reverse, length-map, get_or_default, map-append, append_assoc, append-nil, take_more}
use Rattle.gh_typeterm.specs.declared.decl.DeclCon.{DeclCon}
use Rattle.gh_typeterm.specs.declared.decl.DeclData.{DeclData}
use Rattle.gh_core.specs.SameType.{Nameless}
use Rattle.gh_core_lint.specs.Faults.{clash, FirstClash, repeated}
use Rattle.gh_core_lint.specs.Tables.{cons_with, flat, pair_at}
use Rattle.gh_core.specs.SameType.{bound}
use Rattle.gh_core.specs.Typing.{at_types}
use Rattle.gh_core_lint.specs.declared.types.Node.{Node}
use Rattle.gh_core_lint.specs.declared.types.Node.TheVariants as n
use Rattle.gh_core_lint.specs.Types.{type_at}
use Rattle.gh_core_lint.proofs.Nodes.{at-Bound}
use Rattle.std.proofs.Math.ListN.{get_or-map}
use Rattle.std.specs.Prelude.{unwrap_or}
use denote.Bor.{Bor}

pub reversed_at : {X : Type 0} (xs : List X) (i : ℕ) (d : X) → i < length xs → slice_get (reverse xs) i ≡ Some (get_or xs (length xs - 1 - i) d)
reversed_at xs i d lt = slice_get-get_or (reverse xs) i d (let l = length-reverse xs in omega arith) ∙ ap Some (get_or-reverse xs i d lt)

pub reversed_past : {X : Type 0} (xs : List X) (i : ℕ) → length xs ≤ i → slice_get (reverse xs) i ≡ None
reversed_past xs i le = slice_get_past (reverse xs) i (let l = length-reverse xs in omega arith)

cons_append : (d : DeclData) (cs : List DeclCon) (c : DeclCon) → cons_with d (cs ++ c ∷ []) ≡ cons_with d cs ++ (d, c) ∷ []
cons_append d [] c = refl
cons_append d (x ∷ cs) c = ap (λ l. (d, x) ∷ l) (cons_append d cs c)

-- one constructor more
pub cons_more : (d : DeclData) (cs : List DeclCon) (i : ℕ) (c : DeclCon) → i < length cs → c ≡ get_or cs i c → cons_with d (take (i + 1) cs) ≡ cons_with d (take i cs) ++ (d, c) ∷ []
cons_more d cs i c lt is = ap (cons_with d) (take_more cs i c lt) ∙ cons_append d (take i cs) (get_or cs i c) ∙ ap (λ e. cons_with d (take i cs) ++ (d, e) ∷ []) (sym is)

-- the first place at which two lists differ
pub clash_here : (ws us : List Nameless) (n i : ℕ) (d : Nameless) → i < length ws → i < length us → take i ws ≡ take i us → (get_or ws i d ≡ get_or us i d → ⊥)
    → FirstClash ws us n (clash n (get_or ws i d) (get_or us i d))
clash_here [] us n i d lt lu e ne = absurd (omega arith)
clash_here (w ∷ ws) [] n i d lt lu e ne = absurd (omega arith)
clash_here (w ∷ ws) (u ∷ us) n ℕ.zero d lt lu e ne = inl (ne, refl)
clash_here (w ∷ ws) (u ∷ us) n (ℕ.suc i) d lt lu e ne =
    inr (ap (λ l. get_or l 0 w) e, clash_here ws us n i d (omega arith) (omega arith) (ap (drop 1) e) ne)

pub clash_there : (w : Nameless) (us : List Nameless) (n i : ℕ) (d : Nameless) → i < length us → take i us ≡ repeated w (take i us) → (w ≡ get_or us i d → ⊥)
    → FirstClash (repeated w us) us n (clash n w (get_or us i d))
clash_there w [] n i d lt e ne = absurd (omega arith)
clash_there w (u ∷ us) n ℕ.zero d lt e ne = inl (ne, refl)
clash_there w (u ∷ us) n (ℕ.suc i) d lt e ne =
    inr (ap (λ l. get_or l 0 w) (sym e), clash_there w us n i d (omega arith) (ap (drop 1) e) ne)

abbrev Ref : Type 0
Ref = Bor DeclData × Bor DeclCon

-- a constructor that was added
pub con_pushed : (list new init : List Ref) (r : Ref) (d : DeclData) (cs : List DeclCon) (i : ℕ) (c : DeclCon) → new ≡ list ++ r ∷ [] → r.0.now ≡ d → r.1.now ≡ c
    → map pair_at list ≡ map pair_at init ++ cons_with d (take i cs) → i < length cs → c ≡ get_or cs i c → map pair_at new ≡ map pair_at init ++ cons_with d (take (i + 1) cs)
con_pushed list new init r d cs i c e f g h lt is =
    ap (map pair_at) e ∙ map-append pair_at list (r ∷ []) ∙ (λ j. h j ++ (f j, g j) ∷ [])
    ∙ append_assoc (map pair_at init) (cons_with d (take i cs)) ((d, c) ∷ []) ∙ ap (λ l. map pair_at init ++ l) (sym (cons_more d cs i c lt is))

flat_append : (ds : List DeclData) (d : DeclData) → flat (ds ++ d ∷ []) ≡ flat ds ++ cons_with d d.constructors
flat_append [] d = append-nil (cons_with d d.constructors)
flat_append (x ∷ ds) d = ap (λ l. cons_with x x.constructors ++ l) (flat_append ds d) ∙ sym (append_assoc (cons_with x x.constructors) (flat ds) (cons_with d d.constructors))

pub decl_added : (ds : List DeclData) (i : ℕ) (old new : List (DeclData × DeclCon)) (d : DeclData) → i < length ds → d ≡ get_or ds i d → old ≡ flat (take i ds)
    → new ≡ old ++ cons_with d d.constructors → new ≡ flat (take (i + 1) ds)
decl_added ds i old new d lt is h e =
    e ∙ ap (λ l. l ++ cons_with d d.constructors) h ∙ sym (flat_append (take i ds) d) ∙ ap (λ x. flat (take i ds ++ x ∷ [])) is ∙ sym (ap flat (take_more ds i d lt))

-- a type with types for parameters
pub with_found : (args : List Node) (i : ℕ) (ty made d : Node) → ty ≡ n.Bound i → i < length args → made ≡ get_or args (length args - 1 - i) d
    → type_at made ≡ at_types (reverse (map type_at args)) (type_at ty)
with_found args i ty made d is lt e =
    let len : length (map type_at args) ≡ length args = length-map args type_at in
    ap type_at e ∙ sym (get_or-map type_at args (length args - 1 - i) d) ∙ ap (λ k. get_or (map type_at args) (k - 1 - i) (type_at d)) (sym len)
    ∙ sym (ap (at_types (reverse (map type_at args))) (ap type_at is ∙ at-Bound i)
    ∙ ap (λ o. unwrap_or o (bound i)) (reversed_at (map type_at args) i (type_at d) (omega arith)))

pub with_past : (args : List Node) (i : ℕ) (ty : Node) → ty ≡ n.Bound i → length args ≤ i → type_at ty ≡ at_types (reverse (map type_at args)) (type_at ty)
with_past args i ty is le =
    let len : length (map type_at args) ≡ length args = length-map args type_at in
    ap type_at is ∙ at-Bound i ∙ sym (ap (at_types (reverse (map type_at args))) (ap type_at is ∙ at-Bound i)
    ∙ ap (λ o. unwrap_or o (bound i)) (reversed_past (map type_at args) i (omega arith)))

same_place : (us : List Node) (i : ℕ) (w u : Node) → i < length us → u ≡ get_or us i u → get_or (map type_at us) i (type_at w) ≡ type_at u
same_place us i w u lt at = get_or-map type_at us i w ∙ ap type_at (get_or_default us i w u lt ∙ sym at)

-- the same of lists of nodes
pub clash_nodes : (ws us : List Node) (m i : ℕ) (w u : Node) → i < length ws → length ws ≡ length us → take i (map type_at ws) ≡ take i (map type_at us)
    → w ≡ get_or ws i w → u ≡ get_or us i u → (type_at w ≡ type_at u → ⊥) → FirstClash (map type_at ws) (map type_at us) m (clash m (type_at w) (type_at u))
clash_nodes ws us m i w u lt len e is at ne =
    let l : length (map type_at ws) ≡ length ws = length-map ws type_at in
    let r : length (map type_at us) ≡ length us = length-map us type_at in
    let x : get_or (map type_at ws) i (type_at w) ≡ type_at w = get_or-map type_at ws i w ∙ ap type_at (sym is) in
    let y : get_or (map type_at us) i (type_at w) ≡ type_at u = same_place us i w u (omega arith) at in
    subst₂ (λ (a b : Nameless). FirstClash (map type_at ws) (map type_at us) m (clash m a b)) x y
    (clash_here (map type_at ws) (map type_at us) m i (type_at w) (omega arith) (omega arith) e (λ h. ne (sym x ∙ h ∙ y)))

pub clash_node : (w : Node) (us : List Node) (m i : ℕ) (u : Node) → i < length us → take i (map type_at us) ≡ repeated (type_at w) (take i (map type_at us))
    → u ≡ get_or us i u → (type_at w ≡ type_at u → ⊥) → FirstClash (repeated (type_at w) (map type_at us)) (map type_at us) m (clash m (type_at w) (type_at u))
clash_node w us m i u lt e at ne =
    let r : length (map type_at us) ≡ length us = length-map us type_at in
    let y : get_or (map type_at us) i (type_at u) ≡ type_at u = get_or-map type_at us i u ∙ ap type_at (sym at) in
    subst (λ (b : Nameless). FirstClash (repeated (type_at w) (map type_at us)) (map type_at us) m (clash m (type_at w) b)) y
    (clash_there (type_at w) (map type_at us) m i (type_at u) (omega arith) e (λ h. ne (h ∙ y)))

same_read : (ws : List Node) (i : ℕ) (r s : Node) → i < length ws → r ≡ get_or ws i r → s ≡ get_or ws i s → r ≡ s
same_read ws i r s lt h k = h ∙ get_or_default ws i r s lt ∙ sym k

pub clash_found : (ws us : List Node) (m i : ℕ) (r s u v x y : Node) → i < length ws → length ws ≡ length us → take i (map type_at ws) ≡ take i (map type_at us)
    → r ≡ get_or ws i r → s ≡ get_or ws i s → u ≡ get_or us i u → v ≡ get_or us i v → x ≡ s → y ≡ v → (type_at r ≡ type_at u → ⊥)
    → FirstClash (map type_at ws) (map type_at us) m (clash m (type_at x) (type_at y))
clash_found ws us m i r s u v x y lt len e hr hs hu hv ex ey ne =
    let one = same_read ws i r s lt hr hs in
    let two = same_read us i u v (omega arith) hu hv in
    subst₂ (λ (a b : Node). FirstClash (map type_at ws) (map type_at us) m (clash m (type_at a) (type_at b))) (sym ex) (sym ey)
    (clash_nodes ws us m i s v lt len e hs hv (λ h. ne (ap type_at one ∙ h ∙ sym (ap type_at two))))

pub clash_seen : (w : Node) (us : List Node) (m i : ℕ) (u v x y : Node) → i < length us → take i (map type_at us) ≡ repeated (type_at w) (take i (map type_at us))
    → u ≡ get_or us i u → v ≡ get_or us i v → x ≡ w → y ≡ v → (type_at w ≡ type_at u → ⊥) → FirstClash (repeated (type_at w) (map type_at us)) (map type_at us) m (clash m (type_at x) (type_at y))
clash_seen w us m i u v x y lt e hu hv ex ey ne =
    let two = same_read us i u v lt hu hv in
    subst₂ (λ (a b : Node). FirstClash (repeated (type_at w) (map type_at us)) (map type_at us) m (clash m (type_at a) (type_at b))) (sym ex) (sym ey)
    (clash_node w us m i v lt e hv (λ h. ne (h ∙ sym (ap type_at two))))

typed_more : (ws : List Node) (i : ℕ) (r : Node) → i < length ws → r ≡ get_or ws i r → take (i + 1) (map type_at ws) ≡ take i (map type_at ws) ++ type_at r ∷ []
typed_more ws i r lt is =
    let l : length (map type_at ws) ≡ length ws = length-map ws type_at in
    take_more (map type_at ws) i (type_at r) (omega arith) ∙ ap (λ t. take i (map type_at ws) ++ t ∷ []) (get_or-map type_at ws i r ∙ ap type_at (sym is))

pub equal_more : (ws us : List Node) (i : ℕ) (r u : Node) → i < length ws → length ws ≡ length us → r ≡ get_or ws i r → u ≡ get_or us i u → type_at r ≡ type_at u
    → take i (map type_at ws) ≡ take i (map type_at us) → take (i + 1) (map type_at ws) ≡ take (i + 1) (map type_at us)
equal_more ws us i r u lt len hr hu e h =
    typed_more ws i r lt hr ∙ (λ j. h j ++ e j ∷ []) ∙ sym (typed_more us i u (omega arith) hu)

repeated_append : (w : Nameless) (xs : List Nameless) (x : Nameless) → repeated w (xs ++ x ∷ []) ≡ repeated w xs ++ w ∷ []
repeated_append w [] x = refl
repeated_append w (y ∷ xs) x = ap (λ l. w ∷ l) (repeated_append w xs x)

pub alike_more : (w : Node) (us : List Node) (i : ℕ) (u : Node) → i < length us → u ≡ get_or us i u → type_at w ≡ type_at u
    → take i (map type_at us) ≡ repeated (type_at w) (take i (map type_at us)) → take (i + 1) (map type_at us) ≡ repeated (type_at w) (take (i + 1) (map type_at us))
alike_more w us i u lt hu e h =
    typed_more us i u lt hu ∙ (λ j. h j ++ sym e j ∷ [])
    ∙ sym (ap (repeated (type_at w)) (typed_more us i u lt hu) ∙ repeated_append (type_at w) (take i (map type_at us)) (type_at u))
