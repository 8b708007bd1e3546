use Rattle.std.proofs.Common.{◌≡◌, ◌++◌, ◌∷◌, [], map, List, ap, ◌∙◌}
use Rattle.std.proofs.lemmas.List.{append_assoc}
use Rattle.gh_base.specs.declared.fixed.TheConstants.{INT, CHAR}
use Rattle.gh_scopes.specs.declared.types.Definition.{Definition}
use Rattle.gh_modules.specs.Summaries as spec
use Rattle.gh_modules.proofs.defined.add_built_in.Goals as goal

pub returns : goal.returns
returns c =
    let before = c.args.list.now in
    let others = map spec.value spec.primitives in
    let one : c.push.new.self ≡ before ++ spec.type_named INT ∷ [] =
    c.in_ok-push.ensures.ok ∙ ap (λ (d : Definition). before ++ d ∷ []) c.type_named.ensures in
    let two : c.push-2.new.self ≡ (before ++ spec.type_named INT ∷ []) ++ spec.type_named CHAR ∷ [] =
    c.in_ok-push-2.ensures.ok ∙ ap (λ (d : Definition). c.push.new.self ++ d ∷ []) c.type_named-2.ensures
    ∙ ap (λ (l : List Definition). l ++ spec.type_named CHAR ∷ []) one in
    c.in_ok-add_values.ensures
    ∙ ap (λ (l : List Definition). l ++ others) two
    ∙ append_assoc (before ++ spec.type_named INT ∷ []) (spec.type_named CHAR ∷ []) others
    ∙ append_assoc before (spec.type_named INT ∷ []) (spec.type_named CHAR ∷ others)
