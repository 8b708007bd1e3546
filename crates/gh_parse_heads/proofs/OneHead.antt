-- Two headers, or two imports, with the same tokens are both what is read from these.
use Rattle.std.proofs.Common.{[], ◌++◌, Some, None, refl, sym, ap, ◌∙◌}
use Rattle.gh_tree.proofs.Steps.{some_is}
use Rattle.gh_parse_heads.specs.Header.{header}
use Rattle.gh_parse_heads.specs.Imports.{import_item}
use Rattle.gh_tree.specs.OneTree.{HaveOneHeader}
use Rattle.gh_parse_heads.specs.OneHead.{HaveOneImport}
use Rattle.gh_parse_heads.proofs.Complete.{header_complete}
use Rattle.gh_parse_heads.proofs.ImportsComplete.{import_complete}

pub one_header_is : HaveOneHeader
one_header_is None None g h same = refl
one_header_is None (Some u) g h same = absurd (cc)
one_header_is (Some t) None g h same = absurd (cc)
one_header_is (Some t) (Some u) g h same =
    ap Some (some_is t u [] [] (sym (header_complete t [] g) ∙ ap (λ ss. header (ss ++ [])) same ∙ header_complete u [] h)).0

pub one_import_is : HaveOneImport
one_import_is t u g h same = (some_is t u [] [] (sym (import_complete t g) ∙ ap (λ ss. import_item (ss ++ [])) same ∙ import_complete u h)).0
