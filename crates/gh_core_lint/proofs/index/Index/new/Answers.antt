use Rattle.std.proofs.Common.{◌≡◌, ◌-◌, suc, drop, ◌∷◌, sym, ap, subst, ◌∙◌, arith, drop-cons}
use Rattle.std.specs.Option.{is_some}
use Rattle.gh_core.specs.Typing.{NamesDiffer}
use Rattle.gh_core_lint.specs.Keys.{first_from, key_of}
use Rattle.gh_core_lint.proofs.Indexes.{put_first, among_placed, doubled}
use Rattle.gh_core_lint.proofs.index.Index.new.Goals as goal

pub returns-in-Some : goal.returns-in-Some
returns-in-Some c =
    let ns = c.args.names in
    let i = c.loop-left.left - 1 in
    let n = c.name_at-name.result in
    let e : suc i ≡ c.loop-left.left = omega arith in
    let cut : drop i ns ≡ n ∷ drop (suc i) ns = drop-cons ns i n (omega arith) ∙ ap (λ m. m ∷ drop (suc i) ns) (sym c.name_at-name.ensures) in
    doubled ns i _ n cut (ap (λ k. first_from k (drop k ns) n) e ∙ sym (c.loop-left.invariant.agrees n) ∙ sym c.place_of.ensures ∙ c.in-Some.is)

pub loop-left-preserved : goal.loop-left-preserved
loop-left-preserved c =
    let ns = c.args.names in
    let i = c.loop-left.left - 1 in
    let n = c.name_at-name.result in
    let e : suc i ≡ c.loop-left.left = omega arith in
    let cut : drop i ns ≡ n ∷ drop c.loop-left.left ns = drop-cons ns i n (omega arith) ∙ (λ k. sym c.name_at-name.ensures k ∷ drop (e k) ns) in
    record {
      within = omega arith;
      agrees = λ name. put_first n (drop c.loop-left.left ns) i name c.key.result _ _ c.key.ensures (c.in_ok-insert-in-None.ensures.updates.0 (key_of name))
          (c.loop-left.invariant.agrees name ∙ ap (λ k. first_from k (drop c.loop-left.left ns) name) (sym e))
          ∙ ap (λ l. first_from i l name) (sym cut);
      differ = subst NamesDiffer (sym cut)
          (among_placed (drop c.loop-left.left ns) c.loop-left.left n ∙ ap is_some (sym (c.loop-left.invariant.agrees n) ∙ sym c.place_of.ensures ∙ c.in-None.is), c.loop-left.invariant.differ);
    }
