use Rattle.std.proofs.Common.{slice_get, sym, ap, subst, ◌∙◌}
use Rattle.gh_typeterm.specs.declared.store.Stored.{Stored}
use Rattle.gh_typeterm.specs.Keys.{same_key, Fits}
use Rattle.gh_typeterm.specs.Stores.{there}
use Rattle.indexmap.proofs.CallerLemmas.{insert_entry-new}
use Rattle.gh_typeterm.proofs.Entries.{found_term, absent_term, none_from, added, last_of, more_of, key_same, key_itself}
use Rattle.gh_typeterm.proofs.store.TyStore.put.Goals as goal

pub returns-in-Some-clause-place : goal.returns-in-Some-clause-place
returns-in-Some-clause-place c =
    let es = c.self.inside.terms.entries in
    let k = c.args.key in
    let u = c.args.term.now in
    let fits = subst (λ ts. Fits ts k u) (sym c.self.view_is) c.requires.fits in
    ap (λ ts. slice_get ts c.in-Some.at) (sym c.self.view_is)
    ∙ found_term (same_key k) k (key_same k) (key_itself k) es u c.in-Some.at c.self.invariant fits (sym c.in-Some.ensures.index)

pub returns-in-Some-clause-entered : goal.returns-in-Some-clause-entered
returns-in-Some-clause-entered c =
    let es = c.self.inside.terms.entries in
    let k = c.args.key in
    let u = c.args.term.now in
    let fits = subst (λ ts. Fits ts k u) (sym c.self.view_is) c.requires.fits in
    there (
      c.in-Some.at,
      ap (λ ts. slice_get ts c.in-Some.at) (sym c.self.view_is)
          ∙ found_term (same_key k) k (key_same k) (key_itself k) es u c.in-Some.at c.self.invariant fits (sym c.in-Some.ensures.index),
    )

pub invariant_of-self-2 : goal.invariant_of-self-2
invariant_of-self-2 c =
    let es = c.self.inside.terms.entries in
    let k = c.args.key in
    let u = c.args.term.now in
    let fits = subst (λ ts. Fits ts k u) (sym c.self.view_is) c.requires.fits in
    let none = none_from _ (sym c.in_default.ensures.found) in
    let s : Stored = record { term = c.in_ok-term.term; nodes = c.args.nodes } in
    let grown = c.in_ok-insert.ensures.entries ∙ insert_entry-new same_key c.self.inside.terms k s none in
    let absent = absent_term (same_key k) k (key_same k) (key_itself k) es u c.self.invariant fits none in
    more_of es c.insert.new.self.entries k s u c.args.self.now c.self.view_is grown c.in_ok-term.ensures c.self.invariant fits c.requires.nodes absent c.requires.room

pub returns-clause-place : goal.returns-clause-place
returns-clause-place c =
    let k = c.args.key in
    let none = none_from _ (sym c.in_default.ensures.found) in
    let s : Stored = record { term = c.in_ok-term.term; nodes = c.args.nodes } in
    let grown = c.in_ok-insert.ensures.entries ∙ insert_entry-new same_key c.self.inside.terms k s none in
    last_of c.self.inside.terms.entries c.insert.new.self.entries k s c.args.term.now c.len-at.result grown c.in_ok-term.ensures c.len-at.ensures.len

pub returns-clause-entered : goal.returns-clause-entered
returns-clause-entered c =
    let es = c.self.inside.terms.entries in
    let k = c.args.key in
    let u = c.args.term.now in
    let fits = subst (λ ts. Fits ts k u) (sym c.self.view_is) c.requires.fits in
    let none = none_from _ (sym c.in_default.ensures.found) in
    let s : Stored = record { term = c.in_ok-term.term; nodes = c.args.nodes } in
    let grown = c.in_ok-insert.ensures.entries ∙ insert_entry-new same_key c.self.inside.terms k s none in
    let absent = absent_term (same_key k) k (key_same k) (key_itself k) es u c.self.invariant fits none in
    added es c.insert.new.self.entries k s u c.args.self.now c.self.view_is grown c.in_ok-term.ensures absent
