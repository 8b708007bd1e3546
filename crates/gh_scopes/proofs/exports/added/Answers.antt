use Rattle.std.proofs.Common.{[], ◌∷◌, ◌++◌, get_or, Ok, sym, ap, ◌∙◌, arith}
use Rattle.gh_base.specs.declared.place.Origin.{Origin}
use Rattle.gh_base.specs.declared.place.Space.TheVariants.{Values}
use Rattle.gh_scopes.proofs.Loops.{added_more, added_ends, clashes, is_there, is_new}
use Rattle.gh_scopes.proofs.exports.added.Goals as goal
use Rattle.gh_scopes.proofs.exports.added.Goals.{in-None+in_ok-new-in-None, in-Some+else-not-same_origin}

abbrev no_origin : Origin
no_origin = record { «module» = record { 0 = 0 }; space = Values; name = record { 0 = 0 } }

pub returns-then-not-same_origin : goal.returns-then-not-same_origin
returns-then-not-same_origin c =
    let o = get_or c.args.origins.now c.loop-origin.origin-index no_origin in
    added_ends c.args.exported.now c.args.origins.now c.loop-origin.origin-index no_origin c.loop-origin.new o.name (omega arith) c.loop-origin.invariant
    (clashes c.args.exported.now c.loop-origin.new o c.in-Some.other (sym c.stands_for.ensures ∙ c.in-Some.is) (sym c.same_origin.ensures ∙ c.if-not-same_origin.true))

pub loop-origin-preserved : goal.loop-origin-preserved
loop-origin-preserved c =
    let o = get_or c.args.origins.now c.loop-origin.origin-index no_origin in
    added_more c.args.exported.now c.args.origins.now c.loop-origin.origin-index no_origin c.loop-origin.new (Ok c.match-stands_for.new) (omega arith) c.loop-origin.invariant
    (elim c.match-stands_for.branch [
      | in-None+in_ok-new-in-None w ↦
          is_new c.args.exported.now c.loop-origin.new o (sym c.stands_for.ensures ∙ w.in-None.is)
          ∙ ap Ok (sym (w.new-is ∙ w.in_ok-new-in-None.ensures ∙ ap (λ e. c.loop-origin.new ++ e ∷ []) w.entry.ensures))
      | in-Some+else-not-same_origin w ↦
          is_there c.args.exported.now c.loop-origin.new o w.in-Some.other (sym c.stands_for.ensures ∙ w.in-Some.is) (sym w.same_origin.ensures ∙ w.if-not-same_origin.false)
          ∙ ap Ok (sym w.new-is)
    ])
