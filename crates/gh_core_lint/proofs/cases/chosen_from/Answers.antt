use Rattle.std.proofs.Common.{map}
use Rattle.gh_core_lint.specs.Programs.{program_of}
use Rattle.gh_core_lint.specs.Types.{type_at}
use Rattle.gh_core_lint.proofs.Chosen.{chosen_here, chosen_elsewhere, chosen_unknown}
use Rattle.gh_core_lint.proofs.cases.chosen_from.Goals as goal

pub returns-in-None : goal.returns-in-None
returns-in-None c =
    chosen_unknown (program_of c.args.known.now) (type_at c.args.scrutinee.now) c.args.con c.constructor.result c.constructor.ensures.found c.in-None.is

pub returns-then-same_origin : goal.returns-then-same_origin
returns-then-same_origin c =
    chosen_here (program_of c.args.known.now) (type_at c.args.scrutinee.now) c.args.con c.constructor.result c.in-Some.decl c.in-Some.found c.args.of.now c.args.args
    c.constructor.ensures.found c.in-Some.is c.constructor.ensures.own c.requires (c.same_origin.ensures.0 c.if-same_origin.true)

pub returns-else-same_origin : goal.returns-else-same_origin
returns-else-same_origin c =
    chosen_elsewhere (program_of c.args.known.now) (type_at c.args.scrutinee.now) c.args.con c.constructor.result c.in-Some.decl c.in-Some.found c.args.of.now (map type_at c.args.args.now)
    c.constructor.ensures.found c.in-Some.is c.requires (λ e. let yes = c.same_origin.ensures.1 e in let no = c.if-same_origin.false in absurd (cc))
