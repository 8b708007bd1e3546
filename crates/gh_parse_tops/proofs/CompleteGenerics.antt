-- What is printed of well-formed variables or dependencies of generic functions is read.
use Rattle.std.proofs.Common.{◌≡◌, true, false, not, ◌&&◌, cond, List, [], ◌∷◌, ◌++◌, length, map, Option, Some, None, refl, sym, ap, ◌∙◌, append_assoc, arith}
use Rattle.gh_base.specs.declared.names.NameId.{NameId}
use Rattle.gh_base.specs.declared.place.Span.{Span}
use Rattle.gh_tree.specs.declared.symbol.Kind.{Kind}
use Rattle.gh_tree.specs.declared.symbol.Kind.TheVariants as k
use Rattle.gh_tree.specs.declared.symbol.Sym.{Sym}
use Rattle.gh_tree.specs.declared.names.Name.{Name}
use Rattle.gh_tree.specs.declared.names.NextName.{NextName}
use Rattle.gh_tree.specs.declared.names.Var.{Var}
use Rattle.gh_tree.specs.declared.names.Var.TheVariants as n_Var
use Rattle.gh_tree.specs.declared.tops.GenVars.{GenVars}
use Rattle.gh_tree.specs.declared.tops.OtherVars.{OtherVars}
use Rattle.gh_tree.specs.declared.tops.Context.{Context}
use Rattle.gh_tree.specs.declared.tops.Deps.{Deps}
use Rattle.gh_tree.specs.declared.tops.Dep.{Dep}
use Rattle.gh_tree.specs.declared.tops.NextDep.{NextDep}
use Rattle.gh_tree.specs.Syms.{at}
use Rattle.gh_tree.specs.Print.{Print, print, spanned, flat_all, good_all, is_none, is_some, plain, var_id}
use Rattle.gh_tree.specs.Print as printed
use Rattle.gh_tree.specs.Read.{taken, kind, after, covered, is_close, comma_next}
use Rattle.gh_tree.proofs.Steps.{chain, both, and_is, spanned_span}
use Rattle.gh_tree.proofs.Many.{items_complete}
use Rattle.gh_parse_exps.specs.Ops.{is_banana, call_next}
use Rattle.gh_parse_exps.specs.Marks.{is_colons}
use Rattle.gh_parse_exps.specs.Exps.{word}
use Rattle.gh_parse_exps.proofs.SoundAlts.{word_print}
use Rattle.gh_parse_exps.proofs.CompleteMarks.{is_some_more}
use Rattle.gh_parse_exps.proofs.CompleteOps.{any_var_complete, any_var_looks, var_behind}
use Rattle.gh_parse_exps.proofs.CompleteAlts.{word_complete}
use Rattle.gh_parse_tops.specs.Generics.{is_word, word_next, is_double_arrow, words, next_word, next_words, some_others, any_others, gen_vars, dep, next_dep, next_deps, no_deps, some_deps, deps_by, deps_opened, deps, deps_next, some_context, context, ends_first, gen_vars_next}
use Rattle.gh_parse_tops.proofs.SoundGenerics.{tyvars_flat, tyvars_good}

-- ---- parameters

word_is : (q : Option NameId) (n : NameId) → is_none q ≡ true → is_word (Some (k.VarId q n)) ≡ true
word_is None n e = refl
word_is (Some m) n e = absurd (cc)

pub words_complete : (ns : List Name) (rest : List Sym) → (printed.tyvars ns).good ≡ true → word_next rest ≡ false → words ((printed.tyvars ns).flat ++ rest) ≡ taken ns rest
unfolding words
words_complete ns rest good ends =
    ap (λ us. words (us ++ rest)) (sym (tyvars_flat ns))
    ∙ items_complete word_print word_next word refl (λ ss. true) (length (flat_all (map word_print ns))) (λ n rest g. word_is n.qualifier n.id g) (λ n rest g f e. word_complete n rest g) (λ ss e. refl)
    ns rest (tyvars_good ns ∙ good) (omega arith) refl ends

-- ---- variables of generic functions

next_word_complete : (x : NextName) (rest : List Sym) → (printed.next_name x).good ≡ true → next_word ((printed.next_name x).flat ++ rest) ≡ taken x rest
unfolding next_word
next_word_complete x rest good = chain _ (word_complete x.name rest good) refl

next_words_complete : (xs : List NextName) (rest : List Sym) → good_all (map printed.next_name xs) ≡ true → comma_next rest ≡ false → next_words (flat_all (map printed.next_name xs) ++ rest) ≡ taken xs rest
unfolding next_words
next_words_complete xs rest good ends =
    items_complete printed.next_name comma_next next_word refl (λ ss. true) (length (flat_all (map printed.next_name xs))) (λ x rest g. refl) (λ x rest g f e. next_word_complete x rest g) (λ ss e. refl)
    xs rest good (omega arith) refl ends

others_complete : (o : Option OtherVars) (b : Span) (rest : List Sym) → (printed.other_vars o).good ≡ true → any_others ((printed.other_vars o).flat ++ (at k.CloseBanana b ∷ rest)) ≡ taken o (at k.CloseBanana b ∷ rest)
unfolding any_others some_others
others_complete None b rest good = refl
others_complete (Some x) b rest good =
    let g = both (plain x.first) (good_all (map printed.next_name x.others)) good in
    chain _ (word_complete x.first (flat_all (map printed.next_name x.others) ++ (at k.CloseBanana b ∷ rest)) g.0) (chain _ (next_words_complete x.others (at k.CloseBanana b ∷ rest) g.1 refl) refl)

others_no_comma : (o : Option OtherVars) (b : Span) (rest : List Sym) → comma_next ((printed.other_vars o).flat ++ (at k.CloseBanana b ∷ rest)) ≡ false
others_no_comma None b rest = refl
others_no_comma (Some x) b rest = refl

gen_vars_split : (x : GenVars) (rest : List Sym)
    → (printed.gen_vars x).flat ++ rest ≡ at k.OpenBanana x.open ∷ var_id x.first ∷ (flat_all (map printed.next_name x.others) ++ ((printed.other_vars x.rest).flat ++ (at k.CloseBanana x.close ∷ rest)))
gen_vars_split x rest =
    let names : List Sym = flat_all (map printed.next_name x.others) in
    let more : List Sym = (printed.other_vars x.rest).flat in
    ap (λ us. at k.OpenBanana x.open ∷ var_id x.first ∷ us) (append_assoc names (more ++ at k.CloseBanana x.close ∷ []) rest ∙ ap (λ us. names ++ us) (append_assoc more (at k.CloseBanana x.close ∷ []) rest))

pub gen_vars_complete : (x : GenVars) (rest : List Sym) → (printed.gen_vars x).good ≡ true → gen_vars ((printed.gen_vars x).flat ++ rest) ≡ taken x rest
unfolding gen_vars
gen_vars_complete x rest good =
    let names : List Sym = flat_all (map printed.next_name x.others) in
    let flat : List Sym = (printed.gen_vars x).flat in
    let all_good = plain x.first && (good_all (map printed.next_name x.others) && (printed.other_vars x.rest).good) in
    let h = both all_good _ good in
    let g = both (plain x.first) (good_all (map printed.next_name x.others) && (printed.other_vars x.rest).good) h.0 in
    let gs = both (good_all (map printed.next_name x.others)) (printed.other_vars x.rest).good g.1 in
    let end : List Sym = at k.CloseBanana x.close ∷ rest in
    let tail : List Sym = (printed.other_vars x.rest).flat ++ end in
    let start : List Sym = at k.OpenBanana x.open ∷ var_id x.first ∷ (names ++ tail) in
    let split : flat ++ rest ≡ start = gen_vars_split x rest in
    let span : covered start rest ≡ x.span = ap (λ us. covered us rest) (sym split) ∙ spanned_span x.span rest flat all_good good in
    ap gen_vars split
    ∙ chain _ (word_complete x.first (names ++ tail) g.0)
    (chain _ (next_words_complete x.others tail gs.0 (others_no_comma x.rest x.close rest))
    (chain _ (others_complete x.rest x.close rest gs.1)
    (ap (λ (z : Span). taken {A = GenVars} (record { span = z; «open» = x.open; first = x.first; others = x.others; rest = x.rest; close = x.close }) rest) span)))

-- the variables of a signature come next: a name, and `,` `|` or `|}` with `::`
names_first : (xs : List NextName) (o : Option OtherVars) (b : Span) (rest : List Sym) → is_colons (kind rest) ≡ true
    → ends_first (kind (flat_all (map printed.next_name xs) ++ ((printed.other_vars o).flat ++ (at k.CloseBanana b ∷ rest)))) (kind (after (flat_all (map printed.next_name xs) ++ ((printed.other_vars o).flat ++ (at k.CloseBanana b ∷ rest))))) ≡ true
names_first [] None b rest e = e
names_first [] (Some x) b rest e = refl
names_first (x ∷ xs) o b rest e = refl

pub gen_vars_looks : (x : GenVars) (rest : List Sym) → (printed.gen_vars x).good ≡ true → is_colons (kind rest) ≡ true → gen_vars_next ((printed.gen_vars x).flat ++ rest) ≡ true
unfolding gen_vars_next
gen_vars_looks x rest good e =
    let h = both (plain x.first && (good_all (map printed.next_name x.others) && (printed.other_vars x.rest).good)) _ good in
    let g = both (plain x.first) (good_all (map printed.next_name x.others) && (printed.other_vars x.rest).good) h.0 in
    ap gen_vars_next (gen_vars_split x rest) ∙ and_is (word_is x.first.qualifier x.first.id g.0) (names_first x.others x.rest x.close rest e)

-- ---- dependencies

dep_complete : (x : Dep) (rest : List Sym) → (printed.dep x).good ≡ true → dep ((printed.dep x).flat ++ rest) ≡ taken x rest
unfolding dep
dep_complete x rest good =
    let vars : List Sym = (printed.gen_vars x.vars).flat in
    let flat : List Sym = printed.var x.function ++ vars in
    let h = both (printed.gen_vars x.vars).good _ good in
    let start : List Sym = printed.var x.function ++ (vars ++ rest) in
    let split : flat ++ rest ≡ start = append_assoc (printed.var x.function) vars rest in
    let span : covered start rest ≡ x.span = ap (λ us. covered us rest) (sym split) ∙ spanned_span x.span rest flat (printed.gen_vars x.vars).good good in
    ap dep split
    ∙ chain _ (any_var_complete x.function (vars ++ rest))
    (chain _ (gen_vars_complete x.vars rest h.0) (ap (λ (z : Span). taken {A = Dep} (record { span = z; function = x.function; vars = x.vars }) rest) span))

next_dep_complete : (x : NextDep) (rest : List Sym) → (printed.next_dep x).good ≡ true → next_dep ((printed.next_dep x).flat ++ rest) ≡ taken x rest
unfolding next_dep
next_dep_complete x rest good = chain _ (dep_complete x.dep rest good) refl

next_deps_complete : (xs : List NextDep) (rest : List Sym) → good_all (map printed.next_dep xs) ≡ true → comma_next rest ≡ false → next_deps (flat_all (map printed.next_dep xs) ++ rest) ≡ taken xs rest
unfolding next_deps
next_deps_complete xs rest good ends =
    items_complete printed.next_dep comma_next next_dep refl (λ ss. true) (length (flat_all (map printed.next_dep xs))) (λ x rest g. refl) (λ x rest g f e. next_dep_complete x rest g) (λ ss e. refl)
    xs rest good (omega arith) refl ends

-- a dependency does not begin with `)`
dep_split : (x : Dep) (rest : List Sym) → (printed.dep x).flat ++ rest ≡ printed.var x.function ++ ((printed.gen_vars x.vars).flat ++ rest)
dep_split x rest = append_assoc (printed.var x.function) (printed.gen_vars x.vars).flat rest

var_no_close : (v : Var) (rest : List Sym) → is_close (kind (printed.var v ++ rest)) ≡ false
var_no_close (n_Var.Word n) rest = refl
var_no_close (n_Var.Symbol a n b) rest = refl

dep_no_close : (x : Dep) (rest : List Sym) → is_close (kind ((printed.dep x).flat ++ rest)) ≡ false
dep_no_close x rest = ap (λ us. is_close (kind us)) (dep_split x rest) ∙ var_no_close x.function ((printed.gen_vars x.vars).flat ++ rest)

dep_call : (x : Dep) (rest : List Sym) → call_next ((printed.dep x).flat ++ rest) ≡ true
unfolding call_next
dep_call x rest =
    let tail : List Sym = (printed.gen_vars x.vars).flat ++ rest in
    ap call_next (dep_split x rest) ∙ and_is (any_var_looks x.function tail) (ap is_banana (var_behind x.function tail))

opened_some : (start : List Sym) (a : Span) (ss : List Sym) → is_close (kind ss) ≡ false → deps_opened start a ss ≡ some_deps start a ss
unfolding deps_opened
opened_some start a ss e = at_kind (kind ss) e
  where
    at_kind : (kind : Option Kind) → is_close kind ≡ false → deps_by kind start a ss ≡ some_deps start a ss
    at_kind (Some k.Close) e = absurd (cc)
    at_kind _ e = refl

some_split : (d : Dep) (ds : List NextDep) (b : Span) (rest : List Sym)
    → (((printed.dep d).flat ++ flat_all (map printed.next_dep ds)) ++ at k.Close b ∷ []) ++ rest ≡ (printed.dep d).flat ++ (flat_all (map printed.next_dep ds) ++ (at k.Close b ∷ rest))
some_split d ds b rest =
    append_assoc ((printed.dep d).flat ++ flat_all (map printed.next_dep ds)) (at k.Close b ∷ []) rest ∙ append_assoc (printed.dep d).flat (flat_all (map printed.next_dep ds)) (at k.Close b ∷ rest)

abbrev deps_of : Span → Span → Option Dep → List NextDep → Span → Deps
deps_of s a d ds b = record { span = s; «open» = a; first = d; others = ds; close = b }

none_complete : (s a b : Span) (rest : List Sym) → (printed.deps (deps_of s a None [] b)).good ≡ true → deps ((printed.deps (deps_of s a None [] b)).flat ++ rest) ≡ taken (deps_of s a None [] b) rest
unfolding deps deps_opened no_deps
none_complete s a b rest good = ap (λ (z : Span). taken (deps_of z a None [] b) rest) (spanned_span s rest (at k.Open a ∷ at k.Close b ∷ []) true good)

some_complete : (s a : Span) (d : Dep) (ds : List NextDep) (b : Span) (rest : List Sym) → (printed.deps (deps_of s a (Some d) ds b)).good ≡ true
    → deps ((printed.deps (deps_of s a (Some d) ds b)).flat ++ rest) ≡ taken (deps_of s a (Some d) ds b) rest
unfolding deps some_deps
some_complete s a d ds b rest good =
    let flat : List Sym = (printed.deps (deps_of s a (Some d) ds b)).flat in
    let all_good = (printed.dep d).good && good_all (map printed.next_dep ds) in
    let h = both all_good _ good in
    let g = both (printed.dep d).good (good_all (map printed.next_dep ds)) h.0 in
    let end : List Sym = at k.Close b ∷ rest in
    let tail : List Sym = flat_all (map printed.next_dep ds) ++ end in
    let start : List Sym = at k.Open a ∷ ((printed.dep d).flat ++ tail) in
    let split : flat ++ rest ≡ start = ap (λ us. at k.Open a ∷ us) (some_split d ds b rest) in
    let span : covered start rest ≡ s = ap (λ us. covered us rest) (sym split) ∙ spanned_span s rest flat all_good good in
    ap deps split
    ∙ opened_some start a ((printed.dep d).flat ++ tail) (dep_no_close d tail)
    ∙ chain _ (dep_complete d tail g.0)
    (chain _ (next_deps_complete ds end g.1 refl) (ap (λ (z : Span). taken (deps_of z a (Some d) ds b) rest) span))

never : {X : Type 0} → true ≡ false → X
never e = absurd (cc)

by_first_complete : (s a : Span) (d : Option Dep) (ds : List NextDep) (b : Span) (rest : List Sym) → (printed.deps (deps_of s a d ds b)).good ≡ true
    → deps ((printed.deps (deps_of s a d ds b)).flat ++ rest) ≡ taken (deps_of s a d ds b) rest
by_first_complete s a None [] b rest good = none_complete s a b rest good
by_first_complete s a None (d ∷ ds) b rest good =
    let h = both (not (is_some (d ∷ ds))) _ good in
    never (sym h.0 ∙ ap not (is_some_more d ds))
by_first_complete s a (Some d) ds b rest good = some_complete s a d ds b rest good

deps_complete : (x : Deps) (rest : List Sym) → (printed.deps x).good ≡ true → deps ((printed.deps x).flat ++ rest) ≡ taken x rest
deps_complete x rest good = by_first_complete x.span x.open x.first x.others x.close rest good

some_looks : (a : Span) (d : Dep) (tail : List Sym) → deps_next (at k.Open a ∷ ((printed.dep d).flat ++ tail)) ≡ true
unfolding deps_next
some_looks a d tail =
    let ss : List Sym = (printed.dep d).flat ++ tail in
    ap (λ c. cond (c && is_double_arrow (kind (after ss))) true (call_next ss)) (dep_no_close d tail) ∙ dep_call d tail

deps_looks_by : (s a : Span) (d : Option Dep) (ds : List NextDep) (b m : Span) (rest : List Sym) → (printed.deps (deps_of s a d ds b)).good ≡ true → deps_next ((printed.deps (deps_of s a d ds b)).flat ++ (at k.DoubleArrow m ∷ rest)) ≡ true
unfolding deps_next
deps_looks_by s a None [] b m rest good = refl
deps_looks_by s a None (d ∷ ds) b m rest good =
    let h = both (not (is_some (d ∷ ds))) _ good in
    never (sym h.0 ∙ ap not (is_some_more d ds))
deps_looks_by s a (Some d) ds b m rest good =
    ap (λ us. deps_next (at k.Open a ∷ us)) (some_split d ds b (at k.DoubleArrow m ∷ rest)) ∙ some_looks a d _

pub context_complete : (c : Option Context) (rest : List Sym) → (printed.context c).good ≡ true → deps_next rest ≡ false → context ((printed.context c).flat ++ rest) ≡ taken c rest
unfolding context some_context
context_complete None rest good is = ap (λ b. cond b (some_context rest) (taken {A = Option Context} None rest)) is
context_complete (Some x) rest good is =
    let d = x.deps in
    let tail : List Sym = at k.DoubleArrow x.mark ∷ rest in
    let start : List Sym = (printed.deps d).flat ++ tail in
    ap context (append_assoc (printed.deps d).flat (at k.DoubleArrow x.mark ∷ []) rest)
    ∙ ap (λ b. cond b (some_context start) (taken {A = Option Context} None start)) (deps_looks_by d.span d.open d.first d.others d.close x.mark rest good)
    ∙ chain _ (deps_complete d tail good) refl
