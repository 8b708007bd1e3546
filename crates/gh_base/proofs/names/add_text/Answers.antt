use Rattle.std.proofs.Common.{◌≡◌, rules, slice_get, false, is_some, ◌∙◌, sym, ap}
use Rattle.gh_base.specs.Stored.{texts}
use Rattle.gh_base.specs.Table.{has_text, place_of}
use Rattle.gh_base.proofs.Texts.{any_texts, found_text, inserted, kept, last_at, length-texts}
use Rattle.gh_base.proofs.Places.{found_place, last_place}
use Rattle.gh_base.proofs.names.add_text.Goals as goal

pub returns-in-Some-clause-table : goal.returns-in-Some-clause-table
returns-in-Some-clause-table c =
    kept (texts c.args.set.now.keys) c.args.text.now
    (sym (any_texts c.args.text.now c.args.set.now.keys) ∙ sym c.get_index_of.ensures.found ∙ ap is_some c.in-Some.is)

pub returns-in-Some-clause-found : goal.returns-in-Some-clause-found
returns-in-Some-clause-found c = found_text c.args.text.now c.args.set.now.keys c.in-Some.at (sym c.get_index_of.ensures.index ∙ c.in-Some.is)

pub returns-in-Some-clause-place : goal.returns-in-Some-clause-place
returns-in-Some-clause-place c = found_place c.args.text.now c.args.set.now.keys c.in-Some.at (sym c.get_index_of.ensures.index ∙ c.in-Some.is)

pub returns-clause-place : goal.returns-clause-place
returns-clause-place c =
    let copied : c.in_ok-owned.owned.items ≡ c.args.text.now = search rules in
    let new : has_text (texts c.args.set.now.keys) c.args.text.now ≡ false =
    sym (any_texts c.args.text.now c.args.set.now.keys) ∙ sym c.get_index_of.ensures.found ∙ ap is_some c.in_default.is in
    ap (λ xs. place_of xs c.args.text.now) (ap texts (c.in_ok-insert.ensures.keys) ∙ inserted c.args.text.now c.args.set.now.keys c.in_ok-owned.owned copied)
    ∙ last_place (texts c.args.set.now.keys) c.args.text.now c.len-at.result new (c.len-at.ensures.len ∙ sym (length-texts c.args.set.now.keys))

pub returns-clause-table : goal.returns-clause-table
returns-clause-table c =
    let copied : c.in_ok-owned.owned.items ≡ c.args.text.now = search rules in
    ap texts (c.in_ok-insert.ensures.keys) ∙ inserted c.args.text.now c.args.set.now.keys c.in_ok-owned.owned copied

pub returns-clause-found : goal.returns-clause-found
returns-clause-found c =
    let copied : c.in_ok-owned.owned.items ≡ c.args.text.now = search rules in
    let new : has_text (texts c.args.set.now.keys) c.args.text.now ≡ false =
    sym (any_texts c.args.text.now c.args.set.now.keys) ∙ sym c.get_index_of.ensures.found ∙ ap is_some c.in_default.is in
    ap (λ xs. slice_get xs c.len-at.result) (ap texts (c.in_ok-insert.ensures.keys) ∙ inserted c.args.text.now c.args.set.now.keys c.in_ok-owned.owned copied)
    ∙ last_at (texts c.args.set.now.keys) c.args.text.now c.len-at.result new (c.len-at.ensures.len ∙ sym (length-texts c.args.set.now.keys))
