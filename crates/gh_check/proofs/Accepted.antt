-- The check gives a program exactly where the file is accepted, phase by phase.
use Rattle.std.proofs.Common.{◌≡◌, ◌≤◌, ℕ, Bool, true, false, List, length, Option, Some, None, Result, Ok, Err, refl, ap, ◌∙◌, subst, if◌then◌else◌}
use Rattle.std.specs.Prelude.{nat_lt}
use Rattle.std.proofs.lemmas.Bool.{le-ltb, ltb-false}
use Rattle.gh_base.specs.declared.Refusal.{Refusal}
use Rattle.gh_base.specs.declared.Refusal.TheVariants as refusal
use Rattle.gh_base.specs.declared.Fault.{Fault}
use Rattle.gh_bindings.specs.declared.binding.Binding.{Binding}
use Rattle.gh_layout.specs.Layout.{layout}
use Rattle.gh_layout.specs.declared.laying.LaidToken.{LaidToken}
use Rattle.gh_lexer.specs.Cut.{IsReading}
use Rattle.gh_lexer.specs.Lexeme.{Lexeme}
use Rattle.gh_lexer.specs.Reading.{reading}
use Rattle.gh_lexer.specs.declared.token.Token.{Token}
use Rattle.gh_lexer.proofs.Law.{reading_is}
use Rattle.gh_lexer.proofs.Once.{reading_once}
use Rattle.gh_limits.specs.Limits.{limits_of}
use Rattle.gh_parser.specs.Parse.{parsed_of}
use Rattle.gh_parser.proofs.CompleteFile.{each_is_read}
use Rattle.gh_parser.proofs.Whole.{tree_given}
use Rattle.gh_tree.specs.Depth.{depth_of}
use Rattle.gh_tree.specs.Print.{Spells}
use Rattle.gh_tree.specs.Syms.{syms_of}
use Rattle.gh_tree.specs.declared.module_tree.ModuleTree.{ModuleTree}
use Rattle.gh_tree_form.specs.Form.{form_of, has_name}
use Rattle.gh_tree_form.specs.Grammar.{IsFirstForm}
use Rattle.gh_tree_form.proofs.Exact.{form_is_exact}
use Rattle.gh_tree_form.specs.declared.program.Parsed.{Parsed}
use Rattle.gh_tree_form.specs.declared.program.Parsed.TheVariants as parsed
use Rattle.gh_base.specs.declared.fixed.TheConstants.{MAIN}
use Rattle.gh_check.specs.declared.phases.Checked.TheVariants as checked
use Rattle.gh_check.specs.Accepted.{IsAccepted, AcceptanceIsExact}
use Rattle.gh_check.specs.Check.{checked_of, tokens_by, laid_of, limited_of, formed_of, linked_of, scoped, on_form, on_limits, on_tree, on_layout, on_reading, nowhere}
use Rattle.gh_lines.specs.Lines.{Table}
use Rattle.gh_check.specs.Scope.{IsScoped, first_unknown}
use Rattle.gh_check.proofs.Scoping.{scope_is_exact}

-- from the relations to the check
module _ (table : Table) (bytes : List ℕ) (bs : List Binding) (a : IsAccepted table bytes bs) where
  formed : formed_of a.tree ≡ checked.Program bs
  unfolding formed_of
  formed =
      let is = (form_is_exact a.tree bs).1 a.is_form in
      ap on_form is ∙ (scope_is_exact a.tree bs is).0 a.is_scoped

  limited : limited_of a.tree ≡ checked.Program bs
  unfolding limited_of
  limited = ap (λ o. on_limits o a.tree) a.within ∙ formed

  laid_is : laid_of (tokens_by table a.lexemes) ≡ checked.Program bs
  unfolding laid_of
  laid_is =
      ap (on_layout (tokens_by table a.lexemes)) a.is_layout
      ∙ ap on_tree (each_is_read (syms_of (tokens_by table a.lexemes) a.laid) a.tree a.spells a.shallow) ∙ limited

  read_is : reading 1 bytes ≡ Ok a.lexemes
  read_is = reading_once 1 bytes (reading 1 bytes) (Ok a.lexemes) (reading_is 1 bytes) a.is_reading

  short_is : nat_lt 1048576 (length bytes) ≡ false
  short_is = le-ltb 1048576 (length bytes) a.short

  accepted : checked_of table bytes ≡ checked.Program bs
  unfolding checked_of
  accepted = ap (λ c. if c then checked.Refused (refusal.FileTooLong nowhere) else on_reading table (reading 1 bytes)) short_is ∙ ap (on_reading table) read_is ∙ laid_is

-- from the check to the relations
same_scoped : (cs bs : List Binding) (o : Option Refusal) → scoped cs o ≡ checked.Program bs → cs ≡ bs
same_scoped cs bs None h = cc
same_scoped cs bs (Some r) h = absurd (cc)

same_linked : (cs bs : List Binding) → linked_of cs ≡ checked.Program bs → cs ≡ bs
unfolding linked_of
same_linked cs bs h = by (has_name cs MAIN) h
  where
    by : (b : Bool) → (if b then scoped cs (first_unknown cs cs) else checked.Refused refusal.NoMain) ≡ checked.Program bs → cs ≡ bs
    by true e = same_scoped cs bs (first_unknown cs cs) e
    by false e = absurd (cc)

pub record FormIs (t : ModuleTree) (bs : List Binding) : Type 0 where
  pub is_form : IsFirstForm t bs
  pub is_scoped : IsScoped bs

formed_back : (t : ModuleTree) (bs : List Binding) → formed_of t ≡ checked.Program bs → FormIs t bs
unfolding formed_of
formed_back t bs h = by (form_of t) refl h
  where
    same : (cs : List Binding) → form_of t ≡ parsed.Program cs → linked_of cs ≡ checked.Program bs → cs ≡ bs → FormIs t bs
    same cs e link is =
        let P : List Binding → Type 0 = λ x. form_of t ≡ parsed.Program x in
        let Q : List Binding → Type 0 = λ x. linked_of x ≡ checked.Program bs in
        let f = subst P is e in
        record { is_form = (form_is_exact t bs).0 f; is_scoped = (scope_is_exact t bs f).1 (subst Q is link) }

    by : (p : Parsed) → form_of t ≡ p → on_form p ≡ checked.Program bs → FormIs t bs
    by (parsed.Bad s) e link = absurd (cc)
    by (parsed.Program cs) e link = same cs e link (same_linked cs bs link)

pub record LimitsAre (t : ModuleTree) (bs : List Binding) : Type 0 where
  pub within : limits_of t ≡ None
  pub form : FormIs t bs

limited_back : (t : ModuleTree) (bs : List Binding) → limited_of t ≡ checked.Program bs → LimitsAre t bs
unfolding limited_of
limited_back t bs h = by (limits_of t) refl h
  where
    by : (o : Option Refusal) → limits_of t ≡ o → on_limits o t ≡ checked.Program bs → LimitsAre t bs
    by None e link = record { within = e; form = formed_back t bs link }
    by (Some r) e link = absurd (cc)

pub record TreeIs (ts : List Token) (bs : List Binding) : Type 0 where
  pub laid : List LaidToken
  pub tree : ModuleTree
  pub is_layout : layout ts ≡ Ok laid
  pub spells : Spells (syms_of ts laid) tree
  pub shallow : depth_of tree ≤ 2000
  pub limits : LimitsAre tree bs

laid_back : (ts : List Token) (bs : List Binding) → laid_of ts ≡ checked.Program bs → TreeIs ts bs
unfolding laid_of
laid_back ts bs h = by (layout ts) refl h
  where
    of_tree : (xs : List LaidToken) (r : Result ModuleTree Refusal) → layout ts ≡ Ok xs → parsed_of (syms_of ts xs) ≡ r → on_tree r ≡ checked.Program bs → TreeIs ts bs
    of_tree xs (Err r) l e link = absurd (cc)
    of_tree xs (Ok t) l e link =
        let made : Result ModuleTree Fault = Ok t in
        let given = tree_given ts xs made e in
        record { laid = xs; tree = t; is_layout = l; spells = given.0; shallow = given.1; limits = limited_back t bs link }

    by : (r : Result (List LaidToken) Refusal) → layout ts ≡ r → on_layout ts r ≡ checked.Program bs → TreeIs ts bs
    by (Err r) e link = absurd (cc)
    by (Ok xs) e link = of_tree xs (parsed_of (syms_of ts xs)) e refl link

accepted_back : (table : Table) (bytes : List ℕ) (bs : List Binding) → checked_of table bytes ≡ checked.Program bs → IsAccepted table bytes bs
unfolding checked_of
accepted_back table bytes bs h = by (nat_lt 1048576 (length bytes)) refl h
  where
    of_reading : (r : Result (List Lexeme) Refusal) → length bytes ≤ 1048576 → reading 1 bytes ≡ r → on_reading table r ≡ checked.Program bs → IsAccepted table bytes bs
    of_reading (Err r) short e link = absurd (cc)
    of_reading (Ok ls) short e link =
        let t = laid_back (tokens_by table ls) bs link in
        record {
          lexemes = ls;
          laid = t.laid;
          tree = t.tree;
          short = short;
          is_reading = subst (IsReading 1 bytes) e (reading_is 1 bytes);
          is_layout = t.is_layout;
          spells = t.spells;
          shallow = t.shallow;
          within = t.limits.within;
          is_form = t.limits.form.is_form;
          is_scoped = t.limits.form.is_scoped;
        }

    by : (c : Bool) → nat_lt 1048576 (length bytes) ≡ c
        → (if c then checked.Refused (refusal.FileTooLong nowhere) else on_reading table (reading 1 bytes)) ≡ checked.Program bs → IsAccepted table bytes bs
    by true e link = absurd (cc)
    by false e link = of_reading (reading 1 bytes) (ltb-false 1048576 (length bytes) e) refl link

pub acceptance_is_exact : AcceptanceIsExact
acceptance_is_exact table bytes bs = (accepted table bytes bs, accepted_back table bytes bs)
