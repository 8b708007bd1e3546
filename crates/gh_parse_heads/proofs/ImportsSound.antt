-- What is read as an import is the print of a well-formed one.
use Rattle.std.proofs.Common.{◌≡◌, Bool, true, false, not, ◌&&◌, ◌==◌, cond, List, [], ◌∷◌, ◌++◌, length, map, Option, Some, None, refl, ap, ◌∙◌, arith}
use Rattle.std.proofs.lemmas.Bool.Decides.{nat_tests}
use Rattle.gh_base.specs.declared.fixed.TheConstants.{AS, QUALIFIED, HIDING}
use Rattle.gh_base.specs.declared.names.NameId.{NameId}
use Rattle.gh_base.specs.declared.place.Span.{Span}
use Rattle.gh_tree.specs.declared.symbol.Kind.{Kind}
use Rattle.gh_tree.specs.declared.symbol.Kind.TheVariants as k
use Rattle.gh_tree.specs.declared.symbol.Sym.{Sym}
use Rattle.gh_tree.specs.declared.names.Name.{Name}
use Rattle.gh_tree.specs.declared.tops.Alias.{Alias}
use Rattle.gh_tree.specs.declared.tops.Entities.{Entities}
use Rattle.gh_tree.specs.declared.tops.Entity.{Entity}
use Rattle.gh_tree.specs.declared.tops.Entity.TheVariants as v_Entity
use Rattle.gh_tree.specs.declared.tops.ImportList.{ImportList}
use Rattle.gh_tree.specs.declared.tops.NextEntity.{NextEntity}
use Rattle.gh_tree.specs.Syms.{at}
use Rattle.gh_tree.specs.Print.{Print, print, flat_all, good_all, plain, optional}
use Rattle.gh_tree.specs.Print as printed
use Rattle.gh_tree.specs.Read.{and_then, taken, kind, expect, covered, is_open, is_close, is_comma}
use Rattle.gh_tree.specs.ReadNames.{var}
use Rattle.gh_tree.specs.ReadExports.{any_parts, goes_on, last_comma, module_name}
use Rattle.gh_tree.proofs.Steps.{bound, both, and_is, spanned_taken}
use Rattle.gh_tree.proofs.Many.{Taken, AllTaken, many_sound}
use Rattle.gh_reader.proofs.Sound.{SoundAt, built, expect_sound, close_sound, comma_first, between, between3}
use Rattle.gh_reader.proofs.NamesSound.{var_sound}
use Rattle.gh_parse_heads.proofs.Sound.{any_parts_sound, last_comma_sound, module_name_sound, open_is}
use Rattle.gh_parse_heads.specs.Imports.{word_is, any_word, con_entity, entity, entity_by, next_entity, next_entities, some_entities, entities, entities_by, some_list, list_next, import_list, some_alias, alias, is_import, import_item}

-- ---- words

abbrev word_print : NameId → Option Span → Print
word_print w q = print (optional q (k.VarId None w)) true

same_word : (w n : NameId) → (n.0 == w.0) ≡ true → n ≡ w
same_word w n e = let same : n.0 ≡ w.0 = grind (arith, nat_tests) in λ i. record { 0 = same i }

word_is_sound : (w : NameId) (kind : Kind) → word_is w (Some kind) ≡ true → kind ≡ k.VarId None w
word_is_sound w (k.VarId None n) e = ap (k.VarId None) (same_word w n e)
word_is_sound w _ e = absurd (cc)

word_first : (w : NameId) (s : Sym) (ss : List Sym) → word_is w (Some s.kind) ≡ true → s ∷ ss ≡ at (k.VarId None w) s.span ∷ ss
word_first w s ss e = let j = word_is_sound w s.kind e in λ t. at (j t) s.span ∷ ss

no_word : (w : NameId) (ss : List Sym) (x : Option Span) (rest : List Sym) → taken None ss ≡ taken x rest → Taken (word_print w) ss x rest
no_word w ss x rest e = built (word_print w) (word_print w None) ss ss None x rest refl e refl refl

any_word_sound : (w : NameId) → SoundAt (word_print w) (any_word w)
unfolding any_word
any_word_sound w [] x rest e = no_word w [] x rest e
any_word_sound w (s ∷ ss) x rest e = if_word (word_is w (Some s.kind)) refl e
  where
    if_word : (b : Bool) → word_is w (Some s.kind) ≡ b → cond b (taken (Some s.span) ss) (taken None (s ∷ ss)) ≡ taken x rest → Taken (word_print w) (s ∷ ss) x rest
    if_word true is e = built (word_print w) (word_print w (Some s.span)) (s ∷ ss) ss (Some s.span) x rest refl e (word_first w s ss is) refl
    if_word false is e = no_word w (s ∷ ss) x rest e

-- ---- entities

con_entity_sound : (n : Name) (ss : List Sym) (x : Entity) (rest : List Sym) → plain n ≡ true → con_entity (printed.con_id n ∷ ss) n ss ≡ taken x rest → Taken printed.entity (printed.con_id n ∷ ss) x rest
unfolding con_entity
con_entity_sound n ss x rest is e =
    let start : List Sym = printed.con_id n ∷ ss in
    let h = bound (any_parts ss) _ x rest e in
    let p = any_parts_sound ss h.x h.mid h.first in
    let flat : start ≡ printed.con_id n ∷ ((printed.parts h.x).flat ++ h.mid) = ap (λ us. printed.con_id n ∷ us) p.flat in
    built printed.entity (printed.entity (v_Entity.Con (covered start h.mid) n h.x)) start h.mid _ x rest refl h.then flat
    (spanned_taken start h.mid (printed.con_id n ∷ (printed.parts h.x).flat) (plain n && (printed.parts h.x).good) flat (and_is is p.good))

var_entity_sound : (ss : List Sym) (x : Entity) (rest : List Sym) → and_then (var ss) (λ v rest. taken (v_Entity.Var v) rest) ≡ taken x rest → Taken printed.entity ss x rest
var_entity_sound ss x rest e =
    let h = bound (var ss) _ x rest e in
    let v = var_sound ss h.x h.mid h.first in
    built printed.entity (printed.entity (v_Entity.Var h.x)) ss h.mid _ x rest refl h.then v.flat v.good

entity_by_sound : (kind : Kind) (span : Span) (ss : List Sym) (x : Entity) (rest : List Sym) → entity_by (Some kind) (at kind span ∷ ss) (at kind span ∷ ss) ≡ taken x rest → Taken printed.entity (at kind span ∷ ss) x rest
entity_by_sound (k.ConId None n) a ss x rest e = con_entity_sound (record { span = a; qualifier = None; id = n }) ss x rest refl e
entity_by_sound kind a ss x rest e = var_entity_sound (at kind a ∷ ss) x rest e

entity_sound : SoundAt printed.entity entity
unfolding entity
entity_sound [] x rest e = var_entity_sound [] x rest e
entity_sound (s ∷ ss) x rest e = entity_by_sound s.kind s.span ss x rest e

next_entity_sound : (ss : List Sym) (x : NextEntity) (rest : List Sym) → goes_on ss ≡ true → next_entity ss ≡ taken x rest → Taken printed.next_entity ss x rest
unfolding next_entity
next_entity_sound [] x rest b e = absurd (cc)
next_entity_sound (s ∷ ss) x rest b e =
    let h = bound (entity ss) _ x rest e in
    let one = entity_sound ss h.x h.mid h.first in
    let comma = both (is_comma (Some s.kind)) (not (is_close (kind ss))) b in
    built printed.next_entity (printed.next_entity (record { mark = s.span; entity = h.x })) (s ∷ ss) h.mid _ x rest refl h.then (comma_first s ss comma.0 ∙ ap (λ us. at k.Comma s.span ∷ us) one.flat) one.good

next_entities_sound : (ss : List Sym) (xs : List NextEntity) (rest : List Sym) → next_entities ss ≡ taken xs rest → AllTaken printed.next_entity ss xs rest
unfolding next_entities
next_entities_sound ss xs rest e = many_sound printed.next_entity goes_on next_entity next_entity_sound (length ss) ss xs rest e

some_entities_sound : (ss : List Sym) (x : Option Entities) (rest : List Sym) → some_entities ss ≡ taken x rest → Taken printed.entities ss x rest
unfolding some_entities
some_entities_sound ss x rest e =
    let h = bound (entity ss) _ x rest e in
    let i = bound (next_entities h.mid) _ x rest h.then in
    let first = entity_sound ss h.x h.mid h.first in
    let others = next_entities_sound h.mid i.x i.mid i.first in
    built printed.entities (printed.entities (Some (record { first = h.x; others = i.x }))) ss i.mid _ x rest refl i.then
    (between3 ss h.mid (printed.entity h.x).flat (flat_all (map printed.next_entity i.x)) i.mid first.flat others.flat) (and_is first.good others.good)

no_entities_sound : (ss : List Sym) (x : Option Entities) (rest : List Sym) → taken None ss ≡ taken x rest → Taken printed.entities ss x rest
no_entities_sound ss x rest e = built printed.entities (printed.entities None) ss ss None x rest refl e refl refl

entities_by_sound : (kind : Kind) (span : Span) (ss : List Sym) (x : Option Entities) (rest : List Sym) → entities_by (Some kind) (at kind span ∷ ss) ≡ taken x rest → Taken printed.entities (at kind span ∷ ss) x rest
entities_by_sound k.Close a ss x rest e = no_entities_sound (at k.Close a ∷ ss) x rest e
entities_by_sound k.Comma a ss x rest e = no_entities_sound (at k.Comma a ∷ ss) x rest e
entities_by_sound kind a ss x rest e = some_entities_sound (at kind a ∷ ss) x rest e

entities_sound : SoundAt printed.entities entities
unfolding entities
entities_sound [] x rest e = some_entities_sound [] x rest e
entities_sound (s ∷ ss) x rest e = entities_by_sound s.kind s.span ss x rest e

-- ---- the list and the alias

some_list_sound : (ss : List Sym) (x : Option ImportList) (rest : List Sym) → some_list ss ≡ taken x rest → Taken printed.import_list ss x rest
unfolding some_list
some_list_sound ss x rest e =
    let d = bound (any_word HIDING ss) _ x rest e in
    let f = bound (expect is_open d.mid) _ x rest d.then in
    let g = bound (entities f.mid) _ x rest f.then in
    let h = bound (last_comma g.mid) _ x rest g.then in
    let i = bound (expect is_close h.mid) _ x rest h.then in
    let word = any_word_sound HIDING ss d.x d.mid d.first in
    let first = expect_sound is_open k.Open refl open_is d.mid f.x f.mid f.first in
    let list = entities_sound f.mid g.x g.mid g.first in
    let comma = last_comma_sound g.mid h.x h.mid h.first in
    let last = close_sound h.mid i.x i.mid i.first in
    let end : List Sym = optional h.x k.Comma ++ at k.Close i.x ∷ [] in
    let inside : List Sym = at k.Open f.x ∷ ((printed.entities g.x).flat ++ end) in
    let rest_is : d.mid ≡ inside ++ i.mid =
    first ∙ ap (λ us. at k.Open f.x ∷ us) (between3 f.mid g.mid (printed.entities g.x).flat end i.mid list.flat (between g.mid h.mid (optional h.x k.Comma) k.Close i.x i.mid comma.flat last)) in
    built printed.import_list (printed.import_list (Some (record { hiding = d.x; «open» = f.x; list = g.x; comma = h.x; close = i.x }))) ss i.mid _ x rest refl i.then
    (between3 ss d.mid (optional d.x (k.VarId None HIDING)) inside i.mid word.flat rest_is) list.good

either_way : {A : Type 0} (print : A → Print) (ss : List Sym) (x : A) (rest : List Sym) (b : Bool) (p q : Option (A × List Sym)) → (p ≡ taken x rest → Taken print ss x rest) → (q ≡ taken x rest → Taken print ss x rest)
    → cond b p q ≡ taken x rest → Taken print ss x rest
either_way print ss x rest true p q f g e = f e
either_way print ss x rest false p q f g e = g e

no_list : (ss : List Sym) (x : Option ImportList) (rest : List Sym) → taken None ss ≡ taken x rest → Taken printed.import_list ss x rest
no_list ss x rest e = built printed.import_list (printed.import_list None) ss ss None x rest refl e refl refl

import_list_sound : SoundAt printed.import_list import_list
unfolding import_list
import_list_sound ss x rest e = either_way printed.import_list ss x rest (list_next ss) (some_list ss) (taken None ss) (some_list_sound ss x rest) (no_list ss x rest) e

some_alias_sound : (s : Sym) (ss : List Sym) (x : Option Alias) (rest : List Sym) → word_is AS (Some s.kind) ≡ true → some_alias (s ∷ ss) ≡ taken x rest → Taken printed.alias (s ∷ ss) x rest
unfolding some_alias
some_alias_sound s ss x rest is e =
    let h = bound (module_name ss) _ x rest e in
    let n = module_name_sound ss h.x h.mid h.first in
    built printed.alias (printed.alias (Some (record { mark = s.span; name = h.x }))) (s ∷ ss) h.mid _ x rest refl h.then (word_first AS s ss is ∙ ap (λ us. at (k.VarId None AS) s.span ∷ us) n.flat) n.good

no_alias : (ss : List Sym) (x : Option Alias) (rest : List Sym) → taken None ss ≡ taken x rest → Taken printed.alias ss x rest
no_alias ss x rest e = built printed.alias (printed.alias None) ss ss None x rest refl e refl refl

alias_sound : SoundAt printed.alias alias
unfolding alias
alias_sound [] x rest e = no_alias [] x rest e
alias_sound (s ∷ ss) x rest e = if_alias (word_is AS (Some s.kind)) refl e
  where
    if_alias : (b : Bool) → word_is AS (Some s.kind) ≡ b → cond b (some_alias (s ∷ ss)) (taken None (s ∷ ss)) ≡ taken x rest → Taken printed.alias (s ∷ ss) x rest
    if_alias true is e = some_alias_sound s ss x rest is e
    if_alias false is e = no_alias (s ∷ ss) x rest e

import_is : (x : Kind) → is_import (Some x) ≡ true → x ≡ k.Import
import_is k.Import e = refl
import_is _ e = absurd (cc)

pub import_sound : SoundAt printed.import_item import_item
unfolding import_item
import_sound ss x rest e =
    let d = bound (expect is_import ss) _ x rest e in
    let f = bound (any_word QUALIFIED d.mid) _ x rest d.then in
    let g = bound (module_name f.mid) _ x rest f.then in
    let h = bound (alias g.mid) _ x rest g.then in
    let i = bound (import_list h.mid) _ x rest h.then in
    let first = expect_sound is_import k.Import refl import_is ss d.x d.mid d.first in
    let word = any_word_sound QUALIFIED d.mid f.x f.mid f.first in
    let name = module_name_sound f.mid g.x g.mid g.first in
    let al = alias_sound g.mid h.x h.mid h.first in
    let li = import_list_sound h.mid i.x i.mid i.first in
    let inside : List Sym = printed.con_id g.x ∷ ((printed.alias h.x).flat ++ (printed.import_list i.x).flat) in
    let behind : f.mid ≡ inside ++ i.mid = name.flat ∙ ap (λ us. printed.con_id g.x ∷ us) (between3 g.mid h.mid (printed.alias h.x).flat (printed.import_list i.x).flat i.mid al.flat li.flat) in
    let flat : ss ≡ at k.Import d.x ∷ ((optional f.x (k.VarId None QUALIFIED) ++ inside) ++ i.mid) =
    first ∙ ap (λ us. at k.Import d.x ∷ us) (between3 d.mid f.mid (optional f.x (k.VarId None QUALIFIED)) inside i.mid word.flat behind) in
    built printed.import_item (printed.import_item (record { span = covered ss i.mid; mark = d.x; qualified = f.x; name = g.x; alias = h.x; list = i.x })) ss i.mid _ x rest refl i.then flat
    (spanned_taken ss i.mid _ _ flat (and_is name.good (and_is al.good li.good)))
