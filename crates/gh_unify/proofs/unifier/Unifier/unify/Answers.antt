use Rattle.std.proofs.Common.{◌≡◌, ◌∙◌, subst, List}
use Rattle.gh_unify.specs.Kept.{drawn_of, eqs_of, InScope, InSize}
use Rattle.gh_unify.specs.Tables.{best}
use Rattle.gh_unify.specs.Steps.{IsSettled, Reached, Blocked, Leaves, Exceeds}
use Rattle.gh_unify.specs.declared.table.Variable.{Variable}
use Rattle.gh_unify.proofs.Ends.{settled_met, blocked_lacks, blocked_shows, leaves_both, exceeds_both, made_from, made_to, made_settled, made_values}
use Rattle.gh_unify.proofs.unifier.Unifier.unify.Goals as goal

pub returns-in-Err-clause-before : goal.returns-in-Err-clause-before
returns-in-Err-clause-before c =
    let now = c.args.self.now in
    settled_met now (subst IsSettled c.self.view_is c.self.invariant)

pub returns-in-Err-clause-after : goal.returns-in-Err-clause-after
returns-in-Err-clause-after c =
    let now = c.args.self.now in
    settled_met now (subst IsSettled c.self.view_is c.self.invariant)

pub returns-in-Some-clause-before : goal.returns-in-Some-clause-before
returns-in-Some-clause-before c =
    let now = c.args.self.now in
    settled_met now (subst IsSettled c.self.view_is c.self.invariant)

pub returns-in-Some-clause-after : goal.returns-in-Some-clause-after
returns-in-Some-clause-after c =
    let now = c.args.self.now in
    settled_met now (subst IsSettled c.self.view_is c.self.invariant)

pub returns-in-Some-too_large-clause-before : goal.returns-in-Some-too_large-clause-before
returns-in-Some-too_large-clause-before c =
    let now = c.args.self.now in
    settled_met now (subst IsSettled c.self.view_is c.self.invariant)

pub returns-in-Some-too_large-clause-after : goal.returns-in-Some-too_large-clause-after
returns-in-Some-too_large-clause-after c =
    let now = c.args.self.now in
    settled_met now (subst IsSettled c.self.view_is c.self.invariant)

pub returns-clause-before : goal.returns-clause-before
returns-clause-before c =
    let now = c.args.self.now in
    settled_met now (subst IsSettled c.self.view_is c.self.invariant)

pub returns-in-Err-clause-refused : goal.returns-in-Err-clause-refused
returns-in-Err-clause-refused c =
    let old = c.self.inside.kept.items in
    let now = c.args.self.now in
    let a = c.args.a.now in
    let b = c.args.b.now in
    let is = c.as_slice.ensures.value ∙ c.self.view_is in
    blocked_lacks c.in-Err.fault now a b (subst (λ (k : List Variable). Blocked c.in-Err.fault k a b) is c.in-Err.ensures.refused)

pub returns-in-Err-clause-shown : goal.returns-in-Err-clause-shown
returns-in-Err-clause-shown c =
    let old = c.self.inside.kept.items in
    let now = c.args.self.now in
    let a = c.args.a.now in
    let b = c.args.b.now in
    let is = c.as_slice.ensures.value ∙ c.self.view_is in
    blocked_shows c.in-Err.fault now a b (subst (λ (k : List Variable). Blocked c.in-Err.fault k a b) is c.in-Err.ensures.refused)

pub returns-in-Some-clause-refused : goal.returns-in-Some-clause-refused
returns-in-Some-clause-refused c =
    let old = c.self.inside.kept.items in
    let now = c.args.self.now in
    let a = c.args.a.now in
    let b = c.args.b.now in
    let is = c.as_slice.ensures.value ∙ c.self.view_is in
    let made = c.in-Ok.made.items in
    let e = subst (λ (k : List Variable). drawn_of made ≡ drawn_of k) is c.in-Ok.ensures.drawn in
    let r = subst (λ (k : List Variable). Reached k a b made) is c.in-Ok.ensures.ok in
    let l = subst (λ (k : List Variable). Leaves k c.in-Some.rigid c.in-Some.var) c.as_slice-2.ensures.value c.in-Some.ensures in
    (leaves_both now made a b c.in-Some.rigid c.in-Some.var e r l).0

pub returns-in-Some-too_large-clause-refused : goal.returns-in-Some-too_large-clause-refused
returns-in-Some-too_large-clause-refused c =
    let old = c.self.inside.kept.items in
    let now = c.args.self.now in
    let a = c.args.a.now in
    let b = c.args.b.now in
    let is = c.as_slice.ensures.value ∙ c.self.view_is in
    let made = c.in-Ok.made.items in
    let e = subst (λ (k : List Variable). drawn_of made ≡ drawn_of k) is c.in-Ok.ensures.drawn in
    let r = subst (λ (k : List Variable). Reached k a b made) is c.in-Ok.ensures.ok in
    let scope = subst (λ (k : List Variable). InScope (drawn_of k) (best (eqs_of k))) c.as_slice-2.ensures.value c.in_default.ensures in
    let x = subst (λ (k : List Variable). Exceeds k c.in-Some-too_large.var) c.as_slice-3.ensures.value c.in-Some-too_large.ensures in
    (exceeds_both now made a b c.in-Some-too_large.var e r scope x).0

pub returns-in-Some-clause-shown : goal.returns-in-Some-clause-shown
returns-in-Some-clause-shown c =
    let old = c.self.inside.kept.items in
    let now = c.args.self.now in
    let a = c.args.a.now in
    let b = c.args.b.now in
    let is = c.as_slice.ensures.value ∙ c.self.view_is in
    let made = c.in-Ok.made.items in
    let e = subst (λ (k : List Variable). drawn_of made ≡ drawn_of k) is c.in-Ok.ensures.drawn in
    let r = subst (λ (k : List Variable). Reached k a b made) is c.in-Ok.ensures.ok in
    let l = subst (λ (k : List Variable). Leaves k c.in-Some.rigid c.in-Some.var) c.as_slice-2.ensures.value c.in-Some.ensures in
    (leaves_both now made a b c.in-Some.rigid c.in-Some.var e r l).1

pub returns-in-Some-too_large-clause-shown : goal.returns-in-Some-too_large-clause-shown
returns-in-Some-too_large-clause-shown c =
    let old = c.self.inside.kept.items in
    let now = c.args.self.now in
    let a = c.args.a.now in
    let b = c.args.b.now in
    let is = c.as_slice.ensures.value ∙ c.self.view_is in
    let made = c.in-Ok.made.items in
    let e = subst (λ (k : List Variable). drawn_of made ≡ drawn_of k) is c.in-Ok.ensures.drawn in
    let r = subst (λ (k : List Variable). Reached k a b made) is c.in-Ok.ensures.ok in
    let scope = subst (λ (k : List Variable). InScope (drawn_of k) (best (eqs_of k))) c.as_slice-2.ensures.value c.in_default.ensures in
    let x = subst (λ (k : List Variable). Exceeds k c.in-Some-too_large.var) c.as_slice-3.ensures.value c.in-Some-too_large.ensures in
    (exceeds_both now made a b c.in-Some-too_large.var e r scope x).1

pub returns-clause-solutions : goal.returns-clause-solutions
returns-clause-solutions c =
    let old = c.self.inside.kept.items in
    let now = c.args.self.now in
    let a = c.args.a.now in
    let b = c.args.b.now in
    let is = c.as_slice.ensures.value ∙ c.self.view_is in
    let made = c.in-Ok.made.items in
    let e = subst (λ (k : List Variable). drawn_of made ≡ drawn_of k) is c.in-Ok.ensures.drawn in
    let r = subst (λ (k : List Variable). Reached k a b made) is c.in-Ok.ensures.ok in
    λ ρ. (made_to now made a b e r ρ, made_from now made a b e r ρ)

pub returns-clause-values : goal.returns-clause-values
returns-clause-values c =
    let now = c.args.self.now in
    let a = c.args.a.now in
    let b = c.args.b.now in
    let is = c.as_slice.ensures.value ∙ c.self.view_is in
    let made = c.in-Ok.made.items in
    made_values now made a b (subst (λ (k : List Variable). Reached k a b made) is c.in-Ok.ensures.ok)

pub returns-clause-after : goal.returns-clause-after
returns-clause-after c =
    let old = c.self.inside.kept.items in
    let now = c.args.self.now in
    let a = c.args.a.now in
    let b = c.args.b.now in
    let is = c.as_slice.ensures.value ∙ c.self.view_is in
    let made = c.in-Ok.made.items in
    let e = subst (λ (k : List Variable). drawn_of made ≡ drawn_of k) is c.in-Ok.ensures.drawn in
    let r = subst (λ (k : List Variable). Reached k a b made) is c.in-Ok.ensures.ok in
    let scope = subst (λ (k : List Variable). InScope (drawn_of k) (best (eqs_of k))) c.as_slice-2.ensures.value c.in_default.ensures in
    let size = subst (λ (k : List Variable). InSize (drawn_of k) (best (eqs_of k))) c.as_slice-3.ensures.value c.in_default-too_large.ensures in
    settled_met made (made_settled now made a b e r (subst IsSettled c.self.view_is c.self.invariant) scope size)
