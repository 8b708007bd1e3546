use Rattle.std.proofs.Common.{◌<◌, ◌∙◌, ap, sym, Some, arith, get_or}
use Rattle.gh_groups.proofs.check.goes_down.Goals as goal

pub returns : goal.returns
returns c = λ t.
    let less : get_or c.args.ranks.now c.in-Some.edge.0 0 < get_or c.args.ranks.now c.args.number 0 = omega (arith, c.if-nth-2.false, c.nth-3.ensures, c.nth-4.ensures) in
    record {
      edge = c.args.edge;
      from = c.in-Some.edge.0;
      is = sym c.edge_at.ensures ∙ c.in-Some.is ∙ ap (λ n. Some (c.in-Some.edge.0, n)) c.if-to-number.false;
      same = sym c.nth.ensures ∙ c.if-nth.false ∙ c.nth-2.ensures;
      less = less;
    }
