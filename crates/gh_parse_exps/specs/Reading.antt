-- What the readers of what nests promise, which the rules are handed.
use Rattle.std.specs.Prelude.{ℕ, List, Result}
use Rattle.std.specs.declared.alloc.Global.{Global}
use denote.Ref.{MutBor}
use Rattle.gh_tree.specs.declared.symbol.Sym.{Sym}
use Rattle.gh_tree.specs.declared.expressions.Exp.{Exp}
use Rattle.gh_tree.specs.declared.expressions.Decls.{Decls}
use Rattle.gh_reader.specs.Reads.{Reads}
use Rattle.gh_reader.specs.declared.stop.Stop.{Stop}
use Rattle.gh_parse_exps.specs.Exps.{knot}

-- a function that reads expressions to a depth
pub record NestsExp (depth : ℕ) (pre : Global → MutBor (List Sym) → ℕ → Type 0)
    (post : Global → MutBor (List Sym) → ℕ → Result Exp Stop → MutBor (List Sym) → Type 0) : Type 0 where
  pub callable : (alloc : Global) (old : MutBor (List Sym)) → pre alloc old depth
  pub reads : (alloc : Global) (old new : MutBor (List Sym)) (r : Result Exp Stop) → post alloc old depth r new
      → Reads ((knot depth).exp old.now) r new.now

-- a function that reads declarations to a depth
pub record NestsDecls (depth : ℕ) (pre : Global → MutBor (List Sym) → ℕ → Type 0)
    (post : Global → MutBor (List Sym) → ℕ → Result Decls Stop → MutBor (List Sym) → Type 0) : Type 0 where
  pub callable : (alloc : Global) (old : MutBor (List Sym)) → pre alloc old depth
  pub reads : (alloc : Global) (old new : MutBor (List Sym)) (r : Result Decls Stop) → post alloc old depth r new
      → Reads ((knot depth).decls old.now) r new.now
