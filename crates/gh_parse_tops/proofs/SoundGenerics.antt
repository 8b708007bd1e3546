-- What is read as variables or dependencies of generic functions is the print of well-formed ones.
use Rattle.std.proofs.Common.{◌≡◌, true, ◌&&◌, List, [], ◌∷◌, ◌++◌, length, map, Option, Some, None, refl, sym, ap, ◌∙◌}
use Rattle.gh_base.specs.declared.place.Span.{Span}
use Rattle.gh_tree.specs.declared.symbol.Kind.{Kind}
use Rattle.gh_tree.specs.declared.symbol.Kind.TheVariants as k
use Rattle.gh_tree.specs.declared.symbol.Sym.{Sym}
use Rattle.gh_tree.specs.declared.names.Name.{Name}
use Rattle.gh_tree.specs.declared.names.NextName.{NextName}
use Rattle.gh_tree.specs.declared.tops.OtherVars.{OtherVars}
use Rattle.gh_tree.specs.declared.tops.Deps.{Deps}
use Rattle.gh_tree.specs.declared.tops.NextDep.{NextDep}
use Rattle.gh_tree.specs.Syms.{at}
use Rattle.gh_tree.specs.Print.{Print, print, flat_all, good_all, plain}
use Rattle.gh_tree.specs.Print as printed
use Rattle.gh_tree.specs.Read.{taken, kind, expect, covered, is_open, is_close, comma_next}
use Rattle.gh_tree.specs.ReadExports.{any_var}
use Rattle.gh_tree.proofs.Steps.{bound, and_is, spanned_taken}
use Rattle.gh_tree.proofs.Many.{Taken, AllTaken, many_sound}
use Rattle.gh_reader.proofs.Sound.{SoundAt, built, expect_sound, close_sound, comma_first, between, between3}
use Rattle.gh_parse_heads.proofs.Sound.{any_var_sound}
use Rattle.gh_parse_exps.specs.Ops.{is_banana}
use Rattle.gh_parse_exps.specs.Marks.{is_close_banana}
use Rattle.gh_parse_exps.specs.Exps.{word}
use Rattle.gh_parse_exps.proofs.SoundMarks.{either, banana_sound, close_banana_sound}
use Rattle.gh_parse_exps.proofs.SoundAlts.{word_print, word_sound}
use Rattle.gh_parse_tops.specs.Generics.{is_double_arrow, word_next, words, next_word, next_words, some_others, any_others_by, any_others, gen_vars, dep, next_dep, next_deps, no_deps, some_deps, deps_by, deps_opened, deps, deps_next, some_context, context}

open_is : (x : Kind) → is_open (Some x) ≡ true → x ≡ k.Open
open_is k.Open e = refl
open_is _ e = absurd (cc)

double_arrow_is : (x : Kind) → is_double_arrow (Some x) ≡ true → x ≡ k.DoubleArrow
double_arrow_is k.DoubleArrow e = refl
double_arrow_is _ e = absurd (cc)

open_sound : (ss : List Sym) (b : Span) (rest : List Sym) → expect is_open ss ≡ taken b rest → ss ≡ at k.Open b ∷ rest
open_sound = expect_sound is_open k.Open refl open_is

double_arrow_sound : (ss : List Sym) (b : Span) (rest : List Sym) → expect is_double_arrow ss ≡ taken b rest → ss ≡ at k.DoubleArrow b ∷ rest
double_arrow_sound = expect_sound is_double_arrow k.DoubleArrow refl double_arrow_is

-- ---- parameters

pub tyvars_flat : (ns : List Name) → flat_all (map word_print ns) ≡ (printed.tyvars ns).flat
tyvars_flat [] = refl
tyvars_flat (n ∷ ns) = ap (λ us. printed.var_id n ∷ us) (tyvars_flat ns)

pub tyvars_good : (ns : List Name) → good_all (map word_print ns) ≡ (printed.tyvars ns).good
tyvars_good [] = refl
tyvars_good (n ∷ ns) = ap (λ b. plain n && b) (tyvars_good ns)

pub words_sound : SoundAt printed.tyvars words
unfolding words
words_sound ss ns rest e =
    let h = many_sound word_print word_next word (λ ss x rest b e. word_sound ss x rest e) (length ss) ss ns rest e in
    record { flat = h.flat ∙ ap (λ us. us ++ rest) (tyvars_flat ns); good = sym (tyvars_good ns) ∙ h.good }

-- ---- variables of generic functions

next_word_sound : (ss : List Sym) (x : NextName) (rest : List Sym) → comma_next ss ≡ true → next_word ss ≡ taken x rest → Taken printed.next_name ss x rest
unfolding next_word
next_word_sound [] x rest b e = absurd (cc)
next_word_sound (s ∷ ss) x rest b e =
    let h = bound (word ss) _ x rest e in
    let n = word_sound ss h.x h.mid h.first in
    built printed.next_name (printed.next_name (record { mark = s.span; name = h.x })) (s ∷ ss) h.mid _ x rest refl h.then (comma_first s ss b ∙ ap (λ m. at k.Comma s.span ∷ m) n.flat) n.good

next_words_sound : (ss : List Sym) (xs : List NextName) (rest : List Sym) → next_words ss ≡ taken xs rest → AllTaken printed.next_name ss xs rest
unfolding next_words
next_words_sound ss xs rest e = many_sound printed.next_name comma_next next_word next_word_sound (length ss) ss xs rest e

some_others_sound : (a : Span) (ss : List Sym) (x : Option OtherVars) (rest : List Sym) → some_others (at k.Bar a ∷ ss) ≡ taken x rest → Taken printed.other_vars (at k.Bar a ∷ ss) x rest
unfolding some_others
some_others_sound a ss x rest e =
    let h = bound (word ss) _ x rest e in
    let i = bound (next_words h.mid) _ x rest h.then in
    let first = word_sound ss h.x h.mid h.first in
    let others = next_words_sound h.mid i.x i.mid i.first in
    built printed.other_vars (printed.other_vars (Some (record { mark = a; first = h.x; others = i.x }))) (at k.Bar a ∷ ss) i.mid _ x rest refl i.then
    (ap (λ us. at k.Bar a ∷ us) (first.flat ∙ ap (λ us. printed.var_id h.x ∷ us) others.flat)) (and_is first.good others.good)

no_others_sound : (ss : List Sym) (x : Option OtherVars) (rest : List Sym) → taken {A = Option OtherVars} None ss ≡ taken x rest → Taken printed.other_vars ss x rest
no_others_sound ss x rest e = built printed.other_vars (print [] true) ss ss None x rest refl e refl refl

any_others_by_sound : (kind : Kind) (span : Span) (ss : List Sym) (x : Option OtherVars) (rest : List Sym) → any_others_by (Some kind) (at kind span ∷ ss) ≡ taken x rest → Taken printed.other_vars (at kind span ∷ ss) x rest
any_others_by_sound k.Bar a ss x rest e = some_others_sound a ss x rest e
any_others_by_sound kind a ss x rest e = no_others_sound (at kind a ∷ ss) x rest e

any_others_sound : SoundAt printed.other_vars any_others
unfolding any_others
any_others_sound [] x rest e = no_others_sound [] x rest e
any_others_sound (s ∷ ss) x rest e = any_others_by_sound s.kind s.span ss x rest e

pub gen_vars_sound : SoundAt printed.gen_vars gen_vars
unfolding gen_vars
gen_vars_sound ss x rest e =
    let f = bound (expect is_banana ss) _ x rest e in
    let g = bound (word f.mid) _ x rest f.then in
    let h = bound (next_words g.mid) _ x rest g.then in
    let i = bound (any_others h.mid) _ x rest h.then in
    let j = bound (expect is_close_banana i.mid) _ x rest i.then in
    let mark = banana_sound ss f.x f.mid f.first in
    let first = word_sound f.mid g.x g.mid g.first in
    let others = next_words_sound g.mid h.x h.mid h.first in
    let more = any_others_sound h.mid i.x i.mid i.first in
    let last = close_banana_sound i.mid j.x j.mid j.first in
    let names : List Sym = flat_all (map printed.next_name h.x) in
    let tail : List Sym = (printed.other_vars i.x).flat ++ at k.CloseBanana j.x ∷ [] in
    let inside : g.mid ≡ (names ++ tail) ++ j.mid = between3 g.mid h.mid names tail j.mid others.flat (between h.mid i.mid (printed.other_vars i.x).flat k.CloseBanana j.x j.mid more.flat last) in
    let flat : ss ≡ at k.OpenBanana f.x ∷ printed.var_id g.x ∷ ((names ++ tail) ++ j.mid) = mark ∙ ap (λ us. at k.OpenBanana f.x ∷ us) (first.flat ∙ ap (λ us. printed.var_id g.x ∷ us) inside) in
    built printed.gen_vars (printed.gen_vars (record { span = covered ss j.mid; «open» = f.x; first = g.x; others = h.x; rest = i.x; close = j.x })) ss j.mid _ x rest refl j.then flat
    (spanned_taken ss j.mid _ _ flat (and_is first.good (and_is others.good more.good)))

-- ---- dependencies

dep_sound : SoundAt printed.dep dep
unfolding dep
dep_sound ss x rest e =
    let h = bound (any_var ss) _ x rest e in
    let i = bound (gen_vars h.mid) _ x rest h.then in
    let function = any_var_sound ss h.x h.mid h.first in
    let vars = gen_vars_sound h.mid i.x i.mid i.first in
    let flat = between3 ss h.mid (printed.var h.x) (printed.gen_vars i.x).flat i.mid function.flat vars.flat in
    built printed.dep (printed.dep (record { span = covered ss i.mid; function = h.x; vars = i.x })) ss i.mid _ x rest refl i.then flat (spanned_taken ss i.mid _ _ flat vars.good)

next_dep_sound : (ss : List Sym) (x : NextDep) (rest : List Sym) → comma_next ss ≡ true → next_dep ss ≡ taken x rest → Taken printed.next_dep ss x rest
unfolding next_dep
next_dep_sound [] x rest b e = absurd (cc)
next_dep_sound (s ∷ ss) x rest b e =
    let h = bound (dep ss) _ x rest e in
    let d = dep_sound ss h.x h.mid h.first in
    built printed.next_dep (printed.next_dep (record { mark = s.span; dep = h.x })) (s ∷ ss) h.mid _ x rest refl h.then (comma_first s ss b ∙ ap (λ m. at k.Comma s.span ∷ m) d.flat) d.good

next_deps_sound : (ss : List Sym) (xs : List NextDep) (rest : List Sym) → next_deps ss ≡ taken xs rest → AllTaken printed.next_dep ss xs rest
unfolding next_deps
next_deps_sound ss xs rest e = many_sound printed.next_dep comma_next next_dep next_dep_sound (length ss) ss xs rest e

no_deps_sound : (a b : Span) (ss : List Sym) (x : Deps) (rest : List Sym) → no_deps (at k.Open a ∷ at k.Close b ∷ ss) a (at k.Close b ∷ ss) ≡ taken x rest → Taken printed.deps (at k.Open a ∷ at k.Close b ∷ ss) x rest
unfolding no_deps
no_deps_sound a b ss x rest e =
    let start : List Sym = at k.Open a ∷ at k.Close b ∷ ss in
    built printed.deps (printed.deps (record { span = covered start ss; «open» = a; first = None; others = []; close = b })) start ss _ x rest refl e refl (spanned_taken start ss (at k.Open a ∷ at k.Close b ∷ []) true refl refl)

some_deps_sound : (a : Span) (ss : List Sym) (x : Deps) (rest : List Sym) → some_deps (at k.Open a ∷ ss) a ss ≡ taken x rest → Taken printed.deps (at k.Open a ∷ ss) x rest
unfolding some_deps
some_deps_sound a ss x rest e =
    let start : List Sym = at k.Open a ∷ ss in
    let g = bound (dep ss) _ x rest e in
    let h = bound (next_deps g.mid) _ x rest g.then in
    let i = bound (expect is_close h.mid) _ x rest h.then in
    let first = dep_sound ss g.x g.mid g.first in
    let others = next_deps_sound g.mid h.x h.mid h.first in
    let last = close_sound h.mid i.x i.mid i.first in
    let more : List Sym = flat_all (map printed.next_dep h.x) in
    let inside : ss ≡ ((printed.dep g.x).flat ++ more) ++ h.mid = between3 ss g.mid (printed.dep g.x).flat more h.mid first.flat others.flat in
    let flat : start ≡ at k.Open a ∷ ((((printed.dep g.x).flat ++ more) ++ at k.Close i.x ∷ []) ++ i.mid) = ap (λ us. at k.Open a ∷ us) (between ss h.mid ((printed.dep g.x).flat ++ more) k.Close i.x i.mid inside last) in
    built printed.deps (printed.deps (record { span = covered start i.mid; «open» = a; first = Some g.x; others = h.x; close = i.x })) start i.mid _ x rest refl i.then flat
    (spanned_taken start i.mid _ _ flat (and_is first.good others.good))

deps_by_sound : (kind : Kind) (a span : Span) (ss : List Sym) (x : Deps) (rest : List Sym) → deps_by (Some kind) (at k.Open a ∷ at kind span ∷ ss) a (at kind span ∷ ss) ≡ taken x rest → Taken printed.deps (at k.Open a ∷ at kind span ∷ ss) x rest
deps_by_sound k.Close a b ss x rest e = no_deps_sound a b ss x rest e
deps_by_sound kind a b ss x rest e = some_deps_sound a (at kind b ∷ ss) x rest e

deps_opened_sound : (a : Span) (ss : List Sym) (x : Deps) (rest : List Sym) → deps_opened (at k.Open a ∷ ss) a ss ≡ taken x rest → Taken printed.deps (at k.Open a ∷ ss) x rest
unfolding deps_opened
deps_opened_sound a [] x rest e = some_deps_sound a [] x rest e
deps_opened_sound a (s ∷ ss) x rest e = deps_by_sound s.kind a s.span ss x rest e

opened_deps : (start ss : List Sym) (a : Span) (x : Deps) (rest : List Sym) → start ≡ at k.Open a ∷ ss → deps_opened start a ss ≡ taken x rest → Taken printed.deps start x rest
opened_deps start ss a x rest is e =
    let h = deps_opened_sound a ss x rest (ap (λ us. deps_opened us a ss) (sym is) ∙ e) in
    record { flat = is ∙ h.flat; good = h.good }

deps_sound : SoundAt printed.deps deps
unfolding deps
deps_sound ss x rest e =
    let h = bound (expect is_open ss) _ x rest e in
    opened_deps ss h.mid h.x x rest (open_sound ss h.x h.mid h.first) h.then

some_context_sound : SoundAt printed.context some_context
unfolding some_context
some_context_sound ss x rest e =
    let h = bound (deps ss) _ x rest e in
    let i = bound (expect is_double_arrow h.mid) _ x rest h.then in
    let ds = deps_sound ss h.x h.mid h.first in
    let mark = double_arrow_sound h.mid i.x i.mid i.first in
    built printed.context (printed.context (Some (record { deps = h.x; mark = i.x }))) ss i.mid _ x rest refl i.then (between ss h.mid (printed.deps h.x).flat k.DoubleArrow i.x i.mid ds.flat mark) ds.good

pub context_sound : SoundAt printed.context context
unfolding context
context_sound ss x rest e =
    either printed.context ss x rest (deps_next ss) (some_context ss) (Some (None, ss)) (λ b. some_context_sound ss x rest)
    (λ b e. built printed.context (print [] true) ss ss None x rest refl e refl refl) e
