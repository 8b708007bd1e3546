use Rattle.gh_kernel.proofs.TypingBridge.{notes_are_typing}
use Rattle.gh_kernel.proofs.TypingExact.{exact_is_full}
use Rattle.gh_kernel.proofs.TypingFixed.{names_fixed, recursive_has_none}
use Rattle.gh_kernel.proofs.TypingGeneral.{less_general, groups_may_share}
use Rattle.gh_kernel.proofs.TypingRules.{rigid_are_read, case_variables_differ, variables_are_bounded}
use Rattle.gh_kernel.proofs.TypingWorked.{worked}
use Rattle.gh_kernel.proofs.laws.typing_laws.Goals as goal

pub returns-clause-worked : goal.returns-clause-worked
returns-clause-worked c = worked

pub returns-clause-names_fixed : goal.returns-clause-names_fixed
returns-clause-names_fixed c = names_fixed

pub returns-clause-rigid_read : goal.returns-clause-rigid_read
returns-clause-rigid_read c = rigid_are_read

pub returns-clause-case_variables : goal.returns-clause-case_variables
returns-clause-case_variables c = case_variables_differ

pub returns-clause-less_general : goal.returns-clause-less_general
returns-clause-less_general c = less_general

pub returns-clause-most_general : goal.returns-clause-most_general
returns-clause-most_general c = groups_may_share

pub returns-clause-exact_full : goal.returns-clause-exact_full
returns-clause-exact_full c = exact_is_full

pub returns-clause-variables_bounded : goal.returns-clause-variables_bounded
returns-clause-variables_bounded c = variables_are_bounded

pub returns-clause-notes_typing : goal.returns-clause-notes_typing
returns-clause-notes_typing c = notes_are_typing

pub returns-clause-group_has_one_type : goal.returns-clause-group_has_one_type
returns-clause-group_has_one_type c = recursive_has_none
