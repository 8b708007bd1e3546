use Rattle.std.proofs.Common.{◌∙◌, sym, ap}
use Rattle.gh_core.specs.SameType.{nameless}
use Rattle.gh_core.specs.Scopes.{lefts, rights}
use Rattle.gh_core.proofs.Nameless.{never, apart_Var, apart_Con, apart_App, apart_Forall, apart_Any}
use Rattle.gh_core.proofs.same.+same_under.Goals as goal

pub returns-in_default : goal.returns-in_default
returns-in_default t c = never (λ e. apart_Var c.in_default.field-0-0 (lefts c.args.scope.now) (rights c.args.scope.now) c.args.b.now c.in_default.not-Var-1 (sym (ap (λ u. nameless u (lefts c.args.scope.now)) c.in_default.is-0) ∙ e))

pub returns-in_default-2 : goal.returns-in_default-2
returns-in_default-2 t c = never (λ e. apart_Con c.in_default.field-0-0 (lefts c.args.scope.now) (rights c.args.scope.now) c.args.b.now c.in_default.not-Con-1 (sym (ap (λ u. nameless u (lefts c.args.scope.now)) c.in_default.is-0) ∙ e))

pub returns-in_default-3 : goal.returns-in_default-3
returns-in_default-3 t c = never (λ e. apart_App c.in_default.field-0-0 c.in_default.field-1-0 (lefts c.args.scope.now) (rights c.args.scope.now) c.args.b.now c.in_default.not-App-1 (sym (ap (λ u. nameless u (lefts c.args.scope.now)) c.in_default.is-0) ∙ e))

pub returns-in_default-4 : goal.returns-in_default-4
returns-in_default-4 t c = never (λ e. apart_Forall c.in_default.field-0-0 c.in_default.field-1-0 c.in_default.field-2-0 (lefts c.args.scope.now) (rights c.args.scope.now) c.args.b.now c.in_default.not-Forall-1 (sym (ap (λ u. nameless u (lefts c.args.scope.now)) c.in_default.is-0) ∙ e))

pub returns-in_default-5 : goal.returns-in_default-5
returns-in_default-5 t c = never (λ e. apart_Any c.in_default.field-0-0 (lefts c.args.scope.now) (rights c.args.scope.now) c.args.b.now c.in_default.not-Any-1 (sym (ap (λ u. nameless u (lefts c.args.scope.now)) c.in_default.is-0) ∙ e))
