use Rattle.std.proofs.Common.{◌≡◌, ◌++◌, ◌∷◌, [], map, List, ap, ◌∙◌}
use Rattle.std.proofs.lemmas.List.{append_assoc}
use Rattle.gh_base.specs.declared.fixed.TheConstants.{INT, CHAR}
use Rattle.gh_declarations.specs.declared.named.Declared.{Declared}
use Rattle.gh_declarations.specs.declared.named.Named.{Named}
use Rattle.gh_declarations.specs.Tops.{a_type, given, given_value, primitives}
use Rattle.gh_declarations.proofs.tops.add_built_in.Goals as goal

pub returns : goal.returns
returns c =
    let before = c.args.list.now in
    let others = map given_value primitives in
    let one : c.push.new.self ≡ before ++ a_type (given INT) ∷ [] =
    c.in_ok-push.ensures.ok ∙ ap (λ (d : Declared). before ++ d ∷ []) (c.a_type.ensures ∙ ap a_type c.given.ensures) in
    let two : c.push-2.new.self ≡ (before ++ a_type (given INT) ∷ []) ++ a_type (given CHAR) ∷ [] =
    c.in_ok-push-2.ensures.ok ∙ ap (λ (d : Declared). c.push.new.self ++ d ∷ []) (c.a_type-2.ensures ∙ ap a_type c.given-2.ensures)
    ∙ ap (λ (l : List Declared). l ++ a_type (given CHAR) ∷ []) one in
    c.in_ok-add_given.ensures
    ∙ ap (λ (l : List Declared). l ++ others) two
    ∙ append_assoc (before ++ a_type (given INT) ∷ []) (a_type (given CHAR) ∷ []) others
    ∙ append_assoc before (a_type (given INT) ∷ []) (a_type (given CHAR) ∷ others)
