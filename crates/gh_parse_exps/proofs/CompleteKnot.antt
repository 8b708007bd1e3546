-- What is printed of a well-formed expression or block of declarations is read, at a depth of as many levels as it has tokens. So a list of tokens has one of each.
use Rattle.std.proofs.Common.{◌≡◌, true, ◌++◌, ap, ℕ, zero, suc, ◌≤◌, length, sym, subst, arith, [], refl, ◌∙◌}
use Rattle.gh_tree.specs.declared.expressions.Decls.{Decls}
use Rattle.gh_tree.specs.declared.expressions.Exp.{Exp}
use Rattle.gh_tree.specs.Print.{Print}
use Rattle.gh_tree.specs.Print as printed
use Rattle.gh_tree.specs.Read.{taken}
use Rattle.gh_tree.proofs.Steps.{some_is}
use Rattle.gh_tree.proofs.CompleteTypes.{type_complete}
use Rattle.gh_tree.proofs.CompletePatterns.{arg_complete}
use Rattle.gh_parse_lefts.proofs.Complete.{left_complete}
use Rattle.gh_parse_exps.specs.Exps.{twins, knot}
use Rattle.gh_parse_exps.proofs.Layers.{decls_at}
use Rattle.gh_parse_exps.proofs.Ends.{ends_exp, stops_exp}
use Rattle.gh_parse_exps.proofs.Starts.{exp_some, operands_some}
use Rattle.gh_parse_exps.proofs.CompleteDecls.{whole_decls_complete}
use Rattle.gh_parse_exps.proofs.CompleteExps.{whole_exp_complete, whole_closed_complete}
use Rattle.gh_parse_exps.proofs.Premises.{KnotComplete}

pub decls_some : (x : Decls) → 1 ≤ length (printed.decls x).flat
decls_some x = subst (λ (p : Print). 1 ≤ length p.flat) (sym (decls_at x)) (omega arith)

pub knot_complete : (n : ℕ) → KnotComplete (knot n) n
unfolding twins
knot_complete zero = record {
  exp = λ x rest good fits ends. absurd (omega (arith, exp_some x, fits));
  closed = λ xs rest good shut fits ends. absurd (omega (arith, operands_some xs, fits));
  decls = λ x rest good fits ends. absurd (omega (arith, decls_some x, fits));
  typ = type_complete 0;
  arg = arg_complete 0;
  left = left_complete 0;
}
knot_complete (suc n) = record {
  exp = whole_exp_complete (knot n) n (knot_complete n);
  closed = whole_closed_complete (knot n) n (knot_complete n);
  decls = whole_decls_complete (knot n) n (knot_complete n);
  typ = type_complete (suc n);
  arg = arg_complete (suc n);
  left = left_complete (suc n);
}

-- ---- a list of tokens has one expression, and one block of declarations
pub one_exp_is : (x y : Exp) → (printed.exp x).good ≡ true → (printed.exp y).good ≡ true → (printed.exp x).flat ≡ (printed.exp y).flat → x ≡ y
one_exp_is x y gx gy same =
    let n = length (printed.exp x).flat in
    let ends : ends_exp [] ≡ true = stops_exp [] refl in
    let at_x : (knot n).exp ((printed.exp x).flat ++ []) ≡ taken x [] = (knot_complete n).exp x [] gx (omega arith) ends in
    let at_y : (knot n).exp ((printed.exp y).flat ++ []) ≡ taken y [] = (knot_complete n).exp y [] gy (omega (arith, ap length same)) ends in
    (some_is x y [] [] (sym at_x ∙ ap (λ us. (knot n).exp (us ++ [])) same ∙ at_y)).0

pub one_decls_is : (x y : Decls) → (printed.decls x).good ≡ true → (printed.decls y).good ≡ true → (printed.decls x).flat ≡ (printed.decls y).flat → x ≡ y
one_decls_is x y gx gy same =
    let n = length (printed.decls x).flat in
    let at_x : (knot n).decls ((printed.decls x).flat ++ []) ≡ taken x [] = (knot_complete n).decls x [] gx (omega arith) refl in
    let at_y : (knot n).decls ((printed.decls y).flat ++ []) ≡ taken y [] = (knot_complete n).decls y [] gy (omega (arith, ap length same)) refl in
    (some_is x y [] [] (sym at_x ∙ ap (λ us. (knot n).decls (us ++ [])) same ∙ at_y)).0
