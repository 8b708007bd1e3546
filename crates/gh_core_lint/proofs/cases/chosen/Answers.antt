use Rattle.std.proofs.Common.{refl, subst}
use Rattle.gh_base.specs.declared.place.TyCon.TheVariants as tycon
use Rattle.gh_core_lint.specs.Data.{IsSeen}
use Rattle.gh_core_lint.specs.Programs.{program_of}
use Rattle.gh_core_lint.specs.Types.{type_at}
use Rattle.gh_core_lint.proofs.Chosen.{chosen_plain, chosen_none}
use Rattle.gh_core_lint.proofs.cases.chosen.Goals as goal

pub returns-in-Int : goal.returns-in-Int
returns-in-Int c =
    let p = program_of c.args.known.now in
    let s = type_at c.args.scrutinee.now in
    chosen_plain p s c.args.con tycon.Int (subst (IsSeen p.decls s) c.in-Int.is c.requires) refl

pub returns-in-Char : goal.returns-in-Char
returns-in-Char c =
    let p = program_of c.args.known.now in
    let s = type_at c.args.scrutinee.now in
    chosen_plain p s c.args.con tycon.Char (subst (IsSeen p.decls s) c.in-Char.is c.requires) refl

pub returns-in-Other : goal.returns-in-Other
returns-in-Other c =
    let p = program_of c.args.known.now in
    let s = type_at c.args.scrutinee.now in
    chosen_none p s c.args.con (subst (IsSeen p.decls s) c.in-Other.is c.requires)
