-- The laws on the answer for a file: a tree exactly where it is the file's, a refusal exactly where it is the first fault.
use Rattle.std.proofs.Common.{◌≡◌, List, Result, Ok, Err, refl, sym, ap, ◌∙◌}
use Rattle.gh_base.specs.declared.refusal.Refusal.{Refusal}
use Rattle.gh_lexer.specs.declared.token.Token.{Token}
use Rattle.gh_layout.specs.declared.laying.LaidToken.{LaidToken}
use Rattle.gh_tree.specs.declared.module_tree.ModuleTree.{ModuleTree}
use Rattle.gh_tree.specs.Items.{top_items, items_of}
use Rattle.gh_tree.specs.Syms.{syms_of}
use Rattle.gh_tree.proofs.Placed.{syms_placed}
use Rattle.gh_tree.proofs.TreeItems.{have_their_items}
use Rattle.gh_parse_exps.proofs.CompleteKnot.{one_exp_is, one_decls_is}
use Rattle.gh_parser.specs.Faults.{FirstFault}
use Rattle.gh_parser.specs.Laws.{IsTreeOf, GivesItsTree, GivesFirstFault, HaveOneExp, HaveOneDecls}
use Rattle.gh_parser.specs.Parse.{parsed_of}
use Rattle.gh_parser.proofs.Causes.{parsed_fault}
use Rattle.gh_parser.proofs.CompleteFile.{each_is_read}
use Rattle.gh_parser.proofs.OneFault.{one_fault, tree_clean}
use Rattle.gh_parser.proofs.SoundFile.{parsed_sound}

tree_is : (tokens : List Token) (laid : List LaidToken) (t : ModuleTree) → parsed_of (syms_of tokens laid) ≡ Ok t → IsTreeOf tokens laid t
tree_is tokens laid t e = let h = parsed_sound 2000 (syms_of tokens laid) t (syms_placed tokens laid) e in (h.spells, h.shallow)

pub gives_its_tree : GivesItsTree
gives_its_tree tokens laid t = (tree_is tokens laid t, λ s. each_is_read (syms_of tokens laid) t s.0 s.1)

fault_is : (tokens : List Token) (laid : List LaidToken) (r : Refusal) → parsed_of (syms_of tokens laid) ≡ Err r → FirstFault (items_of tokens laid) r
fault_is tokens laid r e = parsed_fault 2000 (syms_of tokens laid) r e

-- where a tree is read, no item has a fault
tree_has_none : (tokens : List Token) (laid : List LaidToken) (t : ModuleTree) (r : Refusal) → IsTreeOf tokens laid t → FirstFault (items_of tokens laid) r → ⊥
tree_has_none tokens laid t r s fault = tree_clean 2000 t (items_of tokens laid) r s.0.0 s.1 (sym (have_their_items t) ∙ ap top_items s.0.1) fault

refused_by : (tokens : List Token) (laid : List LaidToken) (r : Refusal) (o : Result ModuleTree Refusal) → parsed_of (syms_of tokens laid) ≡ o → FirstFault (items_of tokens laid) r → o ≡ Err r
refused_by tokens laid r (Ok t) e fault = absurd (tree_has_none tokens laid t r (tree_is tokens laid t e) fault)
refused_by tokens laid r (Err s) e fault = ap Err (one_fault 2000 (items_of tokens laid) s r (fault_is tokens laid s e) fault)

pub gives_first_fault : GivesFirstFault
gives_first_fault tokens laid r = (fault_is tokens laid r, refused_by tokens laid r (parsed_of (syms_of tokens laid)) refl)

pub one_exp : HaveOneExp
one_exp = one_exp_is

pub one_decls : HaveOneDecls
one_decls = one_decls_is
