-- What a chain of readers has read.
use Rattle.std.proofs.Common.{◌≡◌, Bool, true, false, ◌&&◌, cond, List, [], ◌∷◌, ◌++◌, length, map, Option, Some, None, refl, sym, ap, ◌∙◌, append_assoc, nat_lt}
use Rattle.std.proofs.lemmas.List.{length-map}
use Rattle.gh_base.specs.declared.place.Span.{Span}
use Rattle.gh_tree.specs.declared.symbol.Kind.{Kind}
use Rattle.gh_tree.specs.declared.symbol.Kind.TheVariants as k
use Rattle.gh_tree.specs.declared.symbol.Sym.{Sym}
use Rattle.gh_tree.specs.Syms.{at, nowhere}
use Rattle.gh_tree.specs.Print.{Print, print, flat_all, good_all, is_tuple}
use Rattle.gh_tree.specs.Print as printed
use Rattle.gh_tree.specs.Read.{Read, taken, next, expect, is_close, is_close_list, is_backquote, is_comma, comma_next, commas}
use Rattle.gh_tree.proofs.Steps.{some_is}
use Rattle.gh_tree.proofs.Many.{Taken, many_sound}

abbrev pub SoundAt : {A : Type 0} → (A → Print) → Read A → Type 0
SoundAt {A} printed p = (ss : List Sym) (x : A) (rest : List Sym) → p ss ≡ taken x rest → Taken printed ss x rest

pub built : {A : Type 0} (printed : A → Print) (p : Print) (ss mid : List Sym) (x y : A) (rest : List Sym) → printed x ≡ p → taken x mid ≡ taken y rest →
    ss ≡ p.flat ++ mid → p.good ≡ true → Taken printed ss y rest
built printed p ss mid x y rest is e flat good =
    let h = some_is x y mid rest e in
    let z : printed y ≡ p = ap printed (sym h.0) ∙ is in
    record { flat = flat ∙ ap (λ q. p.flat ++ q) h.1 ∙ ap (λ (q : Print). q.flat ++ rest) (sym z); good = ap (λ (q : Print). q.good) z ∙ good }

pub only_if : {X : Type 0} (b : Bool) (x y : X) → cond b (Some x) None ≡ Some y → (b ≡ true) × (Some x ≡ Some y)
only_if true x y e = (refl, e)
only_if false x y e = absurd (cc)

never : {X : Type 0} (b : Bool) → b ≡ false → b ≡ true → X
never true e f = absurd (cc)
never false e f = absurd (cc)

-- a mark that is expected stands there
pub expect_sound : (is : Option Kind → Bool) (k : Kind) → is None ≡ false → ((x : Kind) → is (Some x) ≡ true → x ≡ k) → (ss : List Sym) (b : Span) (rest : List Sym)
    → expect is ss ≡ taken b rest → ss ≡ at k b ∷ rest
expect_sound is k none same [] b rest e =
    let h = only_if (is None) (nowhere, []) (b, rest) e in
    never (is None) none h.0
expect_sound is k none same (s ∷ ss) b rest e =
    let h = only_if (is (Some s.kind)) (s.span, ss) (b, rest) e in
    let i = some_is s.span b ss rest h.1 in
    let j = same s.kind h.0 in
    λ t. at (j t) (i.0 t) ∷ i.1 t

close_is : (x : Kind) → is_close (Some x) ≡ true → x ≡ k.Close
close_is k.Close e = refl
close_is _ e = absurd (cc)

close_list_is : (x : Kind) → is_close_list (Some x) ≡ true → x ≡ k.CloseList
close_list_is k.CloseList e = refl
close_list_is _ e = absurd (cc)

backquote_is : (x : Kind) → is_backquote (Some x) ≡ true → x ≡ k.Backquote
backquote_is k.Backquote e = refl
backquote_is _ e = absurd (cc)

comma_is : (x : Kind) → is_comma (Some x) ≡ true → x ≡ k.Comma
comma_is k.Comma e = refl
comma_is _ e = absurd (cc)

pub close_sound : (ss : List Sym) (b : Span) (rest : List Sym) → expect is_close ss ≡ taken b rest → ss ≡ at k.Close b ∷ rest
close_sound = expect_sound is_close k.Close refl close_is

pub close_list_sound : (ss : List Sym) (b : Span) (rest : List Sym) → expect is_close_list ss ≡ taken b rest → ss ≡ at k.CloseList b ∷ rest
close_list_sound = expect_sound is_close_list k.CloseList refl close_list_is

pub backquote_sound : (ss : List Sym) (b : Span) (rest : List Sym) → expect is_backquote ss ≡ taken b rest → ss ≡ at k.Backquote b ∷ rest
backquote_sound = expect_sound is_backquote k.Backquote refl backquote_is

-- a comma comes first
pub comma_first : (s : Sym) (ss : List Sym) → comma_next (s ∷ ss) ≡ true → s ∷ ss ≡ at k.Comma s.span ∷ ss
comma_first s ss e = let j = comma_is s.kind e in λ t. at (j t) s.span ∷ ss

-- pieces that follow one another
pub between3 : (ss mid a b rest : List Sym) → ss ≡ a ++ mid → mid ≡ b ++ rest → ss ≡ (a ++ b) ++ rest
between3 ss mid a b rest p q = p ∙ ap (λ m. a ++ m) q ∙ sym (append_assoc a b rest)

pub between : (us ss a : List Sym) (k : Kind) (b : Span) (rest : List Sym) → us ≡ a ++ ss → ss ≡ at k b ∷ rest → us ≡ (a ++ at k b ∷ []) ++ rest
between us ss a k b rest p q = between3 us ss a (at k b ∷ []) rest p q

pub tuple_parts : {A B : Type 0} (f : A → B) (xs : List A) → is_tuple xs ≡ true → is_tuple (map f xs) ≡ true
tuple_parts f xs e = ap (λ n. nat_lt 0 n && nat_lt n 7) (length-map xs f) ∙ e

-- commas
abbrev comma_mark : Span → Print
comma_mark c = print (at k.Comma c ∷ []) true

commas_flat : (cs : List Span) → flat_all (map comma_mark cs) ≡ printed.commas cs
commas_flat [] = refl
commas_flat (c ∷ cs) = ap (λ ss. at k.Comma c ∷ ss) (commas_flat cs)

comma_mark_sound : (ss : List Sym) (x : Span) (rest : List Sym) → comma_next ss ≡ true → next ss ≡ taken x rest → Taken comma_mark ss x rest
comma_mark_sound [] x rest b e = absurd (cc)
comma_mark_sound (s ∷ ss) x rest b e = built comma_mark (comma_mark s.span) (s ∷ ss) ss s.span x rest refl e (comma_first s ss b) refl

pub commas_sound : (ss : List Sym) (cs : List Span) (rest : List Sym) → commas ss ≡ taken cs rest → ss ≡ printed.commas cs ++ rest
unfolding commas
commas_sound ss cs rest e =
    let h = many_sound comma_mark comma_next next comma_mark_sound (length ss) ss cs rest e in
    h.flat ∙ ap (λ us. us ++ rest) (commas_flat cs)
