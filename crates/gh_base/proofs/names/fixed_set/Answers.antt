use Rattle.std.proofs.Common.{◌≡◌, ap, ◌∙◌, [], rules}
use Rattle.gh_base.specs.Fixed.{fixed_texts}
use Rattle.gh_base.specs.Stored.{texts}
use Rattle.gh_base.specs.Table.{with_all}
use Rattle.gh_base.proofs.FixedTexts.{all_new}
use Rattle.gh_base.proofs.names.fixed_set.Goals as goal

pub returns-clause-table : goal.returns-clause-table
unfolding fixed_texts
returns-clause-table c =
    let none : c.new-set.result.keys ≡ [] = search (rules, c.new-set.ensures.empty) in
    let start : with_all (texts c.new-set.result.keys) fixed_texts ≡ with_all [] fixed_texts = ap (λ ks. with_all (texts ks) fixed_texts) none in
    c.in_ok-add_all.ensures.table ∙ start ∙ all_new
