-- What the public call promises, by what is read.
use Rattle.std.proofs.Common.{◌≡◌, ◌≤◌, List, Result, Ok, Err, IfOk, subst}
use Rattle.gh_base.specs.declared.refusal.Fault.{Fault}
use Rattle.gh_base.specs.declared.refusal.Fault.TheVariants as fault
use Rattle.gh_base.specs.declared.refusal.Refusal.{Refusal}
use Rattle.gh_layout.specs.declared.laying.LaidToken.{LaidToken}
use Rattle.gh_lexer.specs.declared.token.Token.{Token}
use Rattle.gh_tree.specs.declared.module_tree.ModuleTree.{ModuleTree}
use Rattle.gh_tree.specs.Depth.{depth_of}
use Rattle.gh_tree.specs.Items.{items_of}
use Rattle.gh_tree.specs.Print.{Spells}
use Rattle.gh_tree.specs.Syms.{syms_of}
use Rattle.gh_tree.proofs.Placed.{syms_placed}
use Rattle.gh_parser.specs.Faults.{FirstFault}
use Rattle.gh_parser.specs.Gives.{Gives}
use Rattle.gh_parser.specs.Parse.{parsed_of}
use Rattle.gh_parser.proofs.Causes.{parsed_fault}
use Rattle.gh_parser.proofs.SoundFile.{parsed_sound}

tree_spelled : (tokens : List Token) (laid : List LaidToken) (t : ModuleTree) → parsed_of (syms_of tokens laid) ≡ Ok t → Spells (syms_of tokens laid) t × (depth_of t ≤ 2000)
tree_spelled tokens laid t e = let h = parsed_sound 2000 (syms_of tokens laid) t (syms_placed tokens laid) e in (h.spells, h.shallow)

refused_first : (tokens : List Token) (laid : List LaidToken) (r : Refusal) → parsed_of (syms_of tokens laid) ≡ Err r → FirstFault (items_of tokens laid) r
refused_first tokens laid r e = parsed_fault 2000 (syms_of tokens laid) r e

pub tree_given : (tokens : List Token) (laid : List LaidToken) (r : Result ModuleTree Fault) → Gives (parsed_of (syms_of tokens laid)) r
    → IfOk r (λ t. Spells (syms_of tokens laid) t × (depth_of t ≤ 2000))
tree_given tokens laid (Ok t) given = tree_spelled tokens laid t given
tree_given tokens laid (Err e) given = tt

pub cause_given : (tokens : List Token) (laid : List LaidToken) (r : Result ModuleTree Fault) (f : Refusal) → Gives (parsed_of (syms_of tokens laid)) r
    → r ≡ Err (fault.Refused f) → FirstFault (items_of tokens laid) f
cause_given tokens laid r f given e = refused_first tokens laid f (subst (λ s. Gives (parsed_of (syms_of tokens laid)) s) e given)
