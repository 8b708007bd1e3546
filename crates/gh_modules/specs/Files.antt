-- What the files of a program say to one another, by their numbers.
use Rattle.std.specs.Prelude.{ℕ, suc, List, [], ◌∷◌}
use Rattle.gh_tree.specs.declared.module_tree.ModuleTree.{ModuleTree}
use Rattle.gh_scopes.specs.declared.types.Summary.{Summary}
use Rattle.gh_modules.specs.Summaries.{summary_of}

-- the files from a number on
abbrev pub summaries_from : ℕ → List ModuleTree → List Summary
summaries_from f [] = []
summaries_from f (t ∷ ts) = summary_of f t ∷ summaries_from (suc f) ts

abbrev pub summaries_of : List ModuleTree → List Summary
summaries_of ts = summaries_from 0 ts
