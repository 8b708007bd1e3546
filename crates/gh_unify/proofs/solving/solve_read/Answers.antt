use Rattle.std.proofs.Common.{◌≡◌, sym, subst, List}
use Rattle.gh_unify.specs.Types.{mono, inst}
use Rattle.gh_unify.specs.Kept.{AreDrawn, eqs_of}
use Rattle.gh_unify.specs.Tables.{best}
use Rattle.gh_unify.specs.Steps.{IsBound, Refused}
use Rattle.gh_unify.specs.declared.table.Variable.{Variable}
use Rattle.gh_unify.proofs.Going.{goes_first, goes_next, goes_smaller, goes_refused, made_left, made_right, found_pair}
use Rattle.gh_unify.proofs.solving.solve_read.Goals as goal

pub loop-found-init : goal.loop-found-init
loop-found-init c = goes_first c.args.table.items c.args.left c.args.right c.requires.tidy c.requires.left c.requires.right

pub returns-in-Err-clause-refused : goal.returns-in-Err-clause-refused
returns-in-Err-clause-refused c =
    let table = c.args.table.items in
    let kept = c.loop-found.kept.items in
    let left = c.args.left in
    let right = c.args.right in
    let a = c.loop-found.a in
    let b = c.loop-found.b in
    let x = c.in-Some.x in
    let y = c.in-Some.y in
    let g = c.loop-found.invariant in
    let d = found_pair c.in-Ok.found a b x y c.in-Some.is c.in-Ok.ensures in
    goes_refused c.in-Err.fault table kept left right a b x y g d
    (subst (λ (k : List Variable). Refused c.in-Err.fault k x y) c.as_slice.ensures.value c.in-Err.ensures.refused)

pub read-requires : goal.read-requires
read-requires c =
    let table = c.args.table.items in
    let kept = c.loop-found.kept.items in
    let left = c.args.left in
    let right = c.args.right in
    let a = c.loop-found.a in
    let b = c.loop-found.b in
    let x = c.in-Some.x in
    let y = c.in-Some.y in
    let g = c.loop-found.invariant in
    let d = found_pair c.in-Ok.found a b x y c.in-Some.is c.in-Ok.ensures in
    let made = c.in-Ok-bind.made.items in
    let h = subst (λ (k : List Variable). IsBound k x y made) c.as_slice.ensures.value c.in-Ok-bind.ensures.ok in
    record { drawn = subst (λ (k : List Variable). AreDrawn k a) (sym c.as_slice-in-loop-found.ensures.value) (made_left table kept made left right a b x y g h) }

pub read-requires-in-loop-found : goal.read-requires-in-loop-found
read-requires-in-loop-found c =
    let table = c.args.table.items in
    let kept = c.loop-found.kept.items in
    let left = c.args.left in
    let right = c.args.right in
    let a = c.loop-found.a in
    let b = c.loop-found.b in
    let x = c.in-Some.x in
    let y = c.in-Some.y in
    let g = c.loop-found.invariant in
    let d = found_pair c.in-Ok.found a b x y c.in-Some.is c.in-Ok.ensures in
    let made = c.in-Ok-bind.made.items in
    let h = subst (λ (k : List Variable). IsBound k x y made) c.as_slice.ensures.value c.in-Ok-bind.ensures.ok in
    record { drawn = subst (λ (k : List Variable). AreDrawn k b) (sym c.as_slice-in-loop-found-2.ensures.value) (made_right table kept made left right a b x y g h) }

pub loop-found-smaller : goal.loop-found-smaller
loop-found-smaller c =
    let table = c.args.table.items in
    let kept = c.loop-found.kept.items in
    let left = c.args.left in
    let right = c.args.right in
    let a = c.loop-found.a in
    let b = c.loop-found.b in
    let x = c.in-Some.x in
    let y = c.in-Some.y in
    let g = c.loop-found.invariant in
    let d = found_pair c.in-Ok.found a b x y c.in-Some.is c.in-Ok.ensures in
    let made = c.in-Ok-bind.made.items in
    let h = subst (λ (k : List Variable). IsBound k x y made) c.as_slice.ensures.value c.in-Ok-bind.ensures.ok in
    goes_smaller table kept made left right a b x y g d h

pub loop-found-preserved : goal.loop-found-preserved
loop-found-preserved c =
    let table = c.args.table.items in
    let kept = c.loop-found.kept.items in
    let left = c.args.left in
    let right = c.args.right in
    let a = c.loop-found.a in
    let b = c.loop-found.b in
    let x = c.in-Some.x in
    let y = c.in-Some.y in
    let g = c.loop-found.invariant in
    let d = found_pair c.in-Ok.found a b x y c.in-Some.is c.in-Ok.ensures in
    let made = c.in-Ok-bind.made.items in
    let h = subst (λ (k : List Variable). IsBound k x y made) c.as_slice.ensures.value c.in-Ok-bind.ensures.ok in
    goes_next table kept made left right a b x y c.in-Ok-read.read c.in-Ok-read-2.read g d h
    (subst (λ (k : List Variable). mono c.in-Ok-read.read ≡ inst (best (eqs_of k)) (mono a)) c.as_slice-in-loop-found.ensures.value c.in-Ok-read.ensures)
    (subst (λ (k : List Variable). mono c.in-Ok-read-2.read ≡ inst (best (eqs_of k)) (mono b)) c.as_slice-in-loop-found-2.ensures.value c.in-Ok-read-2.ensures)
