use Rattle.std.proofs.Common.{◌≡◌, arith, [], List, length, ap, subst, ◌∙◌}
use Rattle.gh_core.specs.declared.terms.Def.{Def}
use Rattle.gh_core.specs.Typing.{code_of, string_type, DefsTyped, HasType}
use Rattle.gh_core_lint.specs.Faults.{DefsFail, RootFails}
use Rattle.gh_core_lint.specs.Programs.{program_of}
use Rattle.gh_core_lint.specs.Reports.{Tells}
use Rattle.gh_core_lint.proofs.Reported.{main_fails, tells_more}
use Rattle.gh_core_lint.proofs.Results.{on_err_more, on_ok_more}
use Rattle.gh_core_lint.proofs.program.check_terms.Goals as goal

pub returns-in-Err-clause-err : goal.returns-in-Err-clause-err
returns-in-Err-clause-err c =
    let main = code_of c.args.program.now.main in
    subst (λ (ds : List Def). Tells c.in-Err.fault (DefsFail (program_of c.args.known.now) 0 ds main)) c.as_slice-defs.ensures (c.in-Err.ensures.err main)

pub returns-in-Ok-clause-ok : goal.returns-in-Ok-clause-ok
returns-in-Ok-clause-ok c =
    let p = program_of c.args.known.now in
    let ds = c.args.program.now.defs in
    let main = code_of c.args.program.now.main in
    on_ok_more c.check_main.result (HasType p [] [] main string_type) (DefsTyped p ds × HasType p [] [] main string_type)
    (λ h. (subst (DefsTyped p) c.as_slice-defs.ensures c.in-Ok.ensures.ok, h))
    c.check_main.ensures.ok

pub returns-in-Ok-clause-err : goal.returns-in-Ok-clause-err
returns-in-Ok-clause-err c =
    let p = program_of c.args.known.now in
    let ds = c.args.program.now.defs in
    let main = code_of c.args.program.now.main in
    let count = length c.as_slice-defs.result.now in
    on_err_more c.check_main.result (λ r. Tells r (λ at f. (at ≡ count) × RootFails p main string_type f)) (λ r. Tells r (DefsFail p 0 ds main))
    (λ r. tells_more r (λ at f. (at ≡ count) × RootFails p main string_type f) (DefsFail p 0 ds main)
    (λ at f h. let e : at ≡ length ds = h.0 ∙ ap length c.as_slice-defs.ensures in
    main_fails p 0 at ds main f (omega arith) (subst (DefsTyped p) c.as_slice-defs.ensures c.in-Ok.ensures.ok) h.1))
    c.check_main.ensures.err
