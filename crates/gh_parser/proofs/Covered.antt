-- The bytes of all tokens of a list.
use Rattle.std.proofs.Common.{◌≡◌, List, [], sym, ap, ◌∙◌, append-nil}
use Rattle.gh_tree.specs.declared.symbol.Sym.{Sym}
use Rattle.gh_tree.specs.Read.{covered}
use Rattle.gh_tree.specs.Syms.{cover}
use Rattle.gh_tree.proofs.Steps.{covered_piece}

pub covered_all : (ss : List Sym) → covered ss [] ≡ cover ss
covered_all ss = ap (λ us. covered us []) (sym (append-nil ss)) ∙ covered_piece ss []
