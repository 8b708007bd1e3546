-- What is printed of a well-formed import is read.
use Rattle.std.proofs.Common.{◌≡◌, ℕ, ◌≤◌, Bool, true, false, not, ◌&&◌, ◌||◌, cond, List, [], ◌∷◌, ◌++◌, length, map, Option, Some, None, refl, ap, ◌∙◌, append_assoc, append-nil, arith, eq-eqb}
use Rattle.gh_base.specs.declared.fixed.TheConstants.{AS, QUALIFIED, HIDING}
use Rattle.gh_base.specs.declared.names.NameId.{NameId}
use Rattle.gh_base.specs.declared.place.Span.{Span}
use Rattle.gh_tree.specs.declared.symbol.Kind.{Kind}
use Rattle.gh_tree.specs.declared.symbol.Kind.TheVariants as k
use Rattle.gh_tree.specs.declared.symbol.Sym.{Sym}
use Rattle.gh_tree.specs.declared.names.Var.{Var}
use Rattle.gh_tree.specs.declared.names.Var.TheVariants as n_Var
use Rattle.gh_tree.specs.declared.tops.Alias.{Alias}
use Rattle.gh_tree.specs.declared.tops.Entities.{Entities}
use Rattle.gh_tree.specs.declared.tops.Entity.{Entity}
use Rattle.gh_tree.specs.declared.tops.Entity.TheVariants as v_Entity
use Rattle.gh_tree.specs.declared.tops.Import.{Import}
use Rattle.gh_tree.specs.declared.tops.ImportList.{ImportList}
use Rattle.gh_tree.specs.declared.tops.NextEntity.{NextEntity}
use Rattle.gh_tree.specs.declared.tops.Parts.{Parts}
use Rattle.gh_tree.specs.Syms.{at}
use Rattle.gh_tree.specs.Print.{Print, print, flat_all, good_all, is_none, plain, plain_var, optional}
use Rattle.gh_tree.specs.Print as printed
use Rattle.gh_tree.specs.Read.{taken, kind, bytes, after, covered, is_close, is_comma}
use Rattle.gh_tree.specs.ReadExports.{goes_on, ends_export}
use Rattle.gh_tree.proofs.Steps.{chain, both, spanned_span}
use Rattle.gh_tree.proofs.Many.{items_complete}
use Rattle.gh_tree.proofs.CompleteNames.{var_complete}
use Rattle.gh_tree.proofs.CompleteExports.{parts_complete, last_comma_complete, comma_ends, end_stops}
use Rattle.gh_parse_heads.proofs.Complete.{name_complete}
use Rattle.gh_parse_heads.specs.Imports.{word_is, any_word, con_entity, entity, next_entity, next_entities, some_entities, entities, entities_by, some_list, list_next, import_list, some_alias, alias, import_item}

any_word_complete : (w : NameId) (q : Option Span) (rest : List Sym) → word_is w (kind rest) ≡ false → any_word w (optional q (k.VarId None w) ++ rest) ≡ taken q rest
unfolding any_word
any_word_complete w None rest e = ap (λ b. cond b (taken (Some (bytes rest)) (after rest)) (taken None rest)) e
any_word_complete w (Some a) rest e = ap (λ b. cond b (taken (Some a) rest) (taken None (at (k.VarId None w) a ∷ rest))) (eq-eqb w.0 w.0 refl)

-- ---- entities

con_entity_complete : (s span : Span) (q : Option NameId) (n : NameId) (ps : Option Parts) (rest : List Sym) → is_none q ≡ true → (printed.parts ps).good ≡ true → ends_export rest ≡ true
    → covered (at (k.ConId q n) span ∷ ((printed.parts ps).flat ++ rest)) rest ≡ s
    → entity (at (k.ConId q n) span ∷ ((printed.parts ps).flat ++ rest)) ≡ taken (v_Entity.Con s (record { span = span; qualifier = q; id = n }) ps) rest
unfolding entity con_entity
con_entity_complete s span None n ps rest e good ends is =
    chain _ (parts_complete ps rest good ends) (ap (λ z. taken (v_Entity.Con z (record { span = span; qualifier = None; id = n }) ps) rest) is)
con_entity_complete s span (Some m) n ps rest e good ends is = absurd (cc)

var_entity : (v : Var) (rest : List Sym) → plain_var v ≡ true → entity (printed.var v ++ rest) ≡ taken (v_Entity.Var v) rest
unfolding entity
var_entity (n_Var.Word n) rest good = chain _ (var_complete (n_Var.Word n) rest good) refl
var_entity (n_Var.Symbol a n b) rest good = chain _ (var_complete (n_Var.Symbol a n b) rest good) refl

entity_complete : (x : Entity) (rest : List Sym) → (printed.entity x).good ≡ true → ends_export rest ≡ true → entity ((printed.entity x).flat ++ rest) ≡ taken x rest
entity_complete (v_Entity.Var v) rest good ends = var_entity v rest good
entity_complete (v_Entity.Con s n ps) rest good ends =
    let all_good : Bool = plain n && (printed.parts ps).good in
    let h = both all_good _ good in
    let g = both (plain n) (printed.parts ps).good h.0 in
    con_entity_complete s n.span n.qualifier n.id ps rest g.0 g.1 ends (spanned_span s rest (printed.con_id n ∷ (printed.parts ps).flat) all_good good)

abbrev begins_entity : List Sym → Bool
begins_entity ss = not (is_close (kind ss)) && not (is_comma (kind ss))

entity_starts : (x : Entity) (rest : List Sym) → begins_entity ((printed.entity x).flat ++ rest) ≡ true
entity_starts (v_Entity.Var (n_Var.Word n)) rest = refl
entity_starts (v_Entity.Var (n_Var.Symbol a n b)) rest = refl
entity_starts (v_Entity.Con s n ps) rest = refl

next_starts : (x : NextEntity) (rest : List Sym) → (printed.next_entity x).good ≡ true → goes_on ((printed.next_entity x).flat ++ rest) ≡ true
next_starts x rest good = (both (not (is_close (kind ((printed.entity x.entity).flat ++ rest)))) _ (entity_starts x.entity rest)).0

next_complete : (most : ℕ) (x : NextEntity) (rest : List Sym) → (printed.next_entity x).good ≡ true → length (printed.next_entity x).flat ≤ most → ends_export rest ≡ true
    → next_entity ((printed.next_entity x).flat ++ rest) ≡ taken x rest
unfolding next_entity
next_complete most x rest good fits ends = chain _ (entity_complete x.entity rest good ends) refl

next_entities_complete : (xs : List NextEntity) (rest : List Sym) → good_all (map printed.next_entity xs) ≡ true → ends_export rest ≡ true → goes_on rest ≡ false
    → next_entities (flat_all (map printed.next_entity xs) ++ rest) ≡ taken xs rest
unfolding next_entities
next_entities_complete xs rest good ends end =
    let most = length (flat_all (map printed.next_entity xs)) in
    items_complete printed.next_entity goes_on next_entity refl ends_export most next_starts (next_complete most) comma_ends xs rest good (omega arith) ends end

nexts_end : (xs : List NextEntity) (rest : List Sym) → ends_export rest ≡ true → ends_export (flat_all (map printed.next_entity xs) ++ rest) ≡ true
nexts_end [] rest ends = ends
nexts_end (x ∷ xs) rest ends = refl

some_next : (ss : List Sym) → begins_entity ss ≡ true → entities ss ≡ some_entities ss
unfolding entities
some_next ss e = at_kind (kind ss) e
  where
    at_kind : (kind : Option Kind) → (not (is_close kind) && not (is_comma kind)) ≡ true → entities_by kind ss ≡ some_entities ss
    at_kind (Some k.Close) e = absurd (cc)
    at_kind (Some k.Comma) e = absurd (cc)
    at_kind _ e = refl

some_complete : (l : Entities) (rest : List Sym) → (printed.entities (Some l)).good ≡ true → ends_export rest ≡ true → goes_on rest ≡ false → entities ((printed.entities (Some l)).flat ++ rest) ≡ taken (Some l) rest
unfolding some_entities
some_complete l rest good ends end =
    let head = (printed.entity l.first).flat in
    let others = flat_all (map printed.next_entity l.others) in
    let g = both (printed.entity l.first).good (good_all (map printed.next_entity l.others)) good in
    let assoc = append_assoc head others rest in
    some_next ((head ++ others) ++ rest) (ap begins_entity assoc ∙ entity_starts l.first (others ++ rest))
    ∙ ap some_entities assoc
    ∙ chain _ (entity_complete l.first (others ++ rest) g.0 (nexts_end l.others rest ends))
    (chain _ (next_entities_complete l.others rest g.1 ends end) refl)

none_complete : (c : Option Span) (b : Span) (rest : List Sym) → entities (optional c k.Comma ++ (at k.Close b ∷ rest)) ≡ taken None (optional c k.Comma ++ (at k.Close b ∷ rest))
unfolding entities
none_complete None b rest = refl
none_complete (Some m) b rest = refl

entities_complete : (l : Option Entities) (c : Option Span) (b : Span) (rest : List Sym) → (printed.entities l).good ≡ true
    → entities ((printed.entities l).flat ++ (optional c k.Comma ++ (at k.Close b ∷ rest))) ≡ taken l (optional c k.Comma ++ (at k.Close b ∷ rest))
entities_complete None c b rest good = none_complete c b rest
entities_complete (Some l) c b rest good = let h = end_stops c b rest in some_complete l (optional c k.Comma ++ (at k.Close b ∷ rest)) good h.0 h.1

-- ---- the list and the alias

list_follows : (h : Option Span) (a : Span) (ss : List Sym) → list_next (optional h (k.VarId None HIDING) ++ (at k.Open a ∷ ss)) ≡ true
list_follows None a ss = refl
list_follows (Some b) a ss = ap (λ t. t || false) (eq-eqb HIDING.0 HIDING.0 refl)

list_complete : (x : Option ImportList) → (printed.import_list x).good ≡ true → import_list ((printed.import_list x).flat ++ []) ≡ taken x []
unfolding import_list some_list
list_complete None good = refl
list_complete (Some x) good =
    let hiding = optional x.hiding (k.VarId None HIDING) in
    let inside = (printed.entities x.list).flat in
    let end : List Sym = optional x.comma k.Comma ++ at k.Close x.close ∷ [] in
    let flat : List Sym = hiding ++ (at k.Open x.open ∷ (inside ++ end)) in
    let tail : List Sym = optional x.comma k.Comma ++ (at k.Close x.close ∷ []) in
    ap import_list (append-nil flat)
    ∙ ap (λ b. cond b (some_list flat) (taken None flat)) (list_follows x.hiding x.open (inside ++ end))
    ∙ chain _ (any_word_complete HIDING x.hiding (at k.Open x.open ∷ (inside ++ end)) refl)
    (chain _ (entities_complete x.list x.comma x.close [] good)
    (chain _ (last_comma_complete x.comma x.close []) refl))

list_is_no_alias : (x : Option ImportList) → word_is AS (kind ((printed.import_list x).flat ++ [])) ≡ false
list_is_no_alias None = refl
list_is_no_alias (Some x) = at_hiding x.hiding
  where
    at_hiding : (h : Option Span) → word_is AS (kind ((optional h (k.VarId None HIDING) ++ (at k.Open x.open ∷ ((printed.entities x.list).flat ++ (optional x.comma k.Comma ++ at k.Close x.close ∷ [])))) ++ [])) ≡ false
    at_hiding None = refl
    at_hiding (Some a) = refl

alias_complete : (x : Option Alias) (rest : List Sym) → (printed.alias x).good ≡ true → word_is AS (kind rest) ≡ false → alias ((printed.alias x).flat ++ rest) ≡ taken x rest
unfolding alias some_alias
alias_complete None rest good e = ap (λ b. cond b (some_alias rest) (taken None rest)) e
alias_complete (Some x) rest good e =
    let ss : List Sym = at (k.VarId None AS) x.mark ∷ printed.con_id x.name ∷ rest in
    ap (λ b. cond b (some_alias ss) (taken None ss)) (eq-eqb AS.0 AS.0 refl)
    ∙ chain _ (name_complete x.name.span x.name.qualifier x.name.id rest good) refl

pub import_complete : (x : Import) → (printed.import_item x).good ≡ true → import_item ((printed.import_item x).flat ++ []) ≡ taken x []
unfolding import_item
import_complete x good =
    let q = optional x.qualified (k.VarId None QUALIFIED) in
    let al = (printed.alias x.alias).flat in
    let li = (printed.import_list x.list).flat in
    let flat : List Sym = at k.Import x.mark ∷ (q ++ (printed.con_id x.name ∷ (al ++ li))) in
    let all_good : Bool = plain x.name && ((printed.alias x.alias).good && (printed.import_list x.list).good) in
    let h = both all_good _ good in
    let g = both (plain x.name) ((printed.alias x.alias).good && (printed.import_list x.list).good) h.0 in
    let gs = both (printed.alias x.alias).good (printed.import_list x.list).good g.1 in
    let behind : List Sym = al ++ (li ++ []) in
    let split : (q ++ (printed.con_id x.name ∷ (al ++ li))) ++ [] ≡ q ++ (printed.con_id x.name ∷ behind) =
    append_assoc q (printed.con_id x.name ∷ (al ++ li)) [] ∙ ap (λ us. q ++ (printed.con_id x.name ∷ us)) (append_assoc al li []) in
    chain _ (ap (any_word QUALIFIED) split ∙ any_word_complete QUALIFIED x.qualified (printed.con_id x.name ∷ behind) refl)
    (chain _ (name_complete x.name.span x.name.qualifier x.name.id behind g.0)
    (chain _ (alias_complete x.alias (li ++ []) gs.0 (list_is_no_alias x.list))
    (chain _ (list_complete x.list gs.1)
    (ap (λ z. taken (record x { span = z }) []) (spanned_span x.span [] flat all_good good)))))
