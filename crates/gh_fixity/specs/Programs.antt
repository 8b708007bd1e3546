-- A whole program, arranged, or its first clash: modules in link order, and in a module the clash whose right operator begins
-- first.
use Rattle.std.specs.Prelude.{◌≡◌, List, [], ◌∷◌, ◌++◌, map, Option, Some, None, Result, Ok, Err}
use Rattle.gh_base.specs.declared.refusal.Fault.{Fault}
use Rattle.gh_base.specs.declared.refusal.Fault.TheVariants as fault
use Rattle.gh_base.specs.declared.refusal.Refusal.{Refusal}
use Rattle.gh_base.specs.declared.refusal.Refusal.TheVariants as refusal
use Rattle.gh_program.specs.declared.expressions.Aexp.{Aexp}
use Rattle.gh_program.specs.declared.expressions.Alt.{Alt}
use Rattle.gh_program.specs.declared.expressions.Decl.{Decl, out-Decl}
use Rattle.gh_program.specs.declared.expressions.Exp.{Exp}
use Rattle.gh_program.specs.declared.expressions.Locals.{Locals}
use Rattle.gh_program.specs.declared.expressions.Open.{Open}
use Rattle.gh_program.specs.declared.expressions.Operand.{Operand}
use Rattle.gh_program.specs.declared.expressions.Operands.{Operands}
use Rattle.gh_program.specs.declared.expressions.Rhs.{Rhs}
use Rattle.gh_program.specs.declared.expressions.Guard.{Guard}
use Rattle.gh_program.specs.declared.expressions.NextOperand.{NextOperand}
use Rattle.gh_program.specs.declared.expressions.Redef.{Redef}
use Rattle.gh_program.specs.declared.expressions.Aexp.TheOpen.{Decl-F}
use Rattle.gh_program.specs.declared.tops.Top.{Top}
use Rattle.gh_program.specs.declared.tops.Top.TheVariants as top
use Rattle.gh_program.specs.declared.tops.ResolvedModule.{ResolvedModule}
use Rattle.gh_program.specs.declared.tops.Resolved.{Resolved}
use Rattle.gh_fixity.specs.declared.all.Outcome.{Outcome}
use Rattle.gh_fixity.specs.declared.all.Outcome.TheVariants as outcome
use Rattle.gh_fixity.specs.declared.part.Clash.{Clash}
use Rattle.gh_fixity.specs.Exps.{decl_out, rhs_out}
use Rattle.gh_fixity.specs.Fixities.{TopFixities, with_tops, written_fixity}
use Rattle.gh_fixity.specs.Patterns.{arg_pattern_out}
use Rattle.gh_fixity.specs.Walks.{Walk, trees, all_clashes, least}

-- the fixities that a declaration gives to names at the top of a module
abbrev pub decl_tops_by : TopFixities → Decl-F Aexp Alt Decl Exp Locals Open Operand Operands Rhs Guard NextOperand Redef → TopFixities
decl_tops_by ts (Decl-F.Signature s os y) = ts
decl_tops_by ts (Decl-F.Fixity s w n os) = with_tops (written_fixity w n) ts os
decl_tops_by ts (Decl-F.Function s f r) = ts
decl_tops_by ts (Decl-F.Pattern s p r) = ts

unfoldable pub decl_tops : TopFixities → Decl → TopFixities
decl_tops ts d = decl_tops_by ts (out-Decl d)

abbrev pub item_tops : TopFixities → Top → TopFixities
item_tops ts (top.Synonym s o os y) = ts
item_tops ts (top.Data s o os cs) = ts
item_tops ts (top.Newtype s o os c y) = ts
item_tops ts (top.Signature s o vs ds y) = ts
item_tops ts (top.Case s o y ps r) = ts
item_tops ts (top.Extends s o p) = ts
item_tops ts (top.Decl d) = decl_tops ts d

abbrev pub items_tops : TopFixities → List Top → TopFixities
items_tops ts [] = ts
items_tops ts (t ∷ us) = items_tops (item_tops ts t) us

abbrev pub modules_tops : TopFixities → List ResolvedModule → TopFixities
modules_tops ts [] = ts
modules_tops ts (m ∷ ms) = modules_tops (items_tops ts m.tops) ms

-- a declaration of the top
abbrev pub top_out : TopFixities → Top → Walk Top
top_out ts (top.Synonym s o os y) = λ l. record { tree = top.Synonym s o os y; clashes = [] }
top_out ts (top.Data s o os cs) = λ l. record { tree = top.Data s o os cs; clashes = [] }
top_out ts (top.Newtype s o os c y) = λ l. record { tree = top.Newtype s o os c y; clashes = [] }
top_out ts (top.Signature s o vs ds y) = λ l. record { tree = top.Signature s o vs ds y; clashes = [] }
top_out ts (top.Case s o y ps r) = λ l. record { tree = top.Case s o y (trees l (map (arg_pattern_out ts) ps)) (rhs_out ts r l).tree; clashes = all_clashes l (map (arg_pattern_out ts) ps) ++ (rhs_out ts r l).clashes }
top_out ts (top.Extends s o p) = λ l. record { tree = top.Extends s o p; clashes = [] }
top_out ts (top.Decl d) = λ l. record { tree = top.Decl ((decl_out ts d).walk l).tree; clashes = ((decl_out ts d).walk l).clashes }

-- a module; no local name has a fixity at its top
abbrev pub module_tree : TopFixities → ResolvedModule → ResolvedModule
module_tree ts m = record { name = m.name; file = m.file; tops = trees [] (map (top_out ts) m.tops) }

abbrev pub module_clash : TopFixities → ResolvedModule → Option Clash
module_clash ts m = least None (all_clashes [] (map (top_out ts) m.tops))

abbrev pub or_next : Option Clash → Option Clash → Option Clash
or_next None next = next
or_next (Some c) next = Some c

abbrev pub modules_clash : TopFixities → List ResolvedModule → Option Clash
modules_clash ts [] = None
modules_clash ts (m ∷ ms) = or_next (module_clash ts m) (modules_clash ts ms)

-- the fixities of all names at the top of modules
abbrev pub program_tops : Resolved → TopFixities
program_tops p = modules_tops [] p.modules

-- the program, arranged
abbrev pub arranged : Resolved → Resolved
arranged p = record { modules = map (module_tree (program_tops p)) p.modules; main = p.main }

-- its first clash, where it has one
abbrev pub first_clash : Resolved → Option Clash
first_clash p = modules_clash (program_tops p) p.modules

abbrev pub clash_refusal : Clash → Refusal
clash_refusal c = refusal.FixityClash c.span c.left c.right

-- what is due: the arranged program where there is no clash, and otherwise the refusal of the first one; memory may run out
abbrev pub IsDue : Result Resolved Fault → Option Clash → Resolved → Type 0
IsDue (Ok p) None due = p ≡ due
IsDue (Ok p) (Some c) due = ⊥
IsDue (Err (fault.Refused r)) None due = ⊥
IsDue (Err (fault.Refused r)) (Some c) due = r ≡ clash_refusal c
IsDue (Err fault.NoMemory) found due = Unit {0}

abbrev pub clash_fault : Clash → Fault
clash_fault c = fault.Refused (clash_refusal c)

-- the same of a list of modules
abbrev pub AreDue : Result (List ResolvedModule) Fault → Option Clash → List ResolvedModule → Type 0
AreDue (Ok ms) None due = ms ≡ due
AreDue (Ok ms) (Some c) due = ⊥
AreDue (Err (fault.Refused r)) None due = ⊥
AreDue (Err (fault.Refused r)) (Some c) due = r ≡ clash_refusal c
AreDue (Err fault.NoMemory) found due = Unit {0}

-- and of one
abbrev pub IsOutcome : Outcome → Option Clash → ResolvedModule → Type 0
IsOutcome (outcome.Arranged m) None due = m ≡ due
IsOutcome (outcome.Arranged m) (Some c) due = ⊥
IsOutcome (outcome.Clash c) None due = ⊥
IsOutcome (outcome.Clash c) (Some d) due = c ≡ d
