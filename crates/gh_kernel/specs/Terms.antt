-- Type terms and terms, as the definitions read them. A note of the type N stands at each node of a program's text.
use Rattle.std.specs.Prelude.{ℕ, List, Option}
use Rattle.gh_base.specs.declared.names.NameId.{NameId}
use Rattle.gh_base.specs.declared.place.Origin.{Origin}
use Rattle.gh_base.specs.declared.place.Span.{Span}
use Rattle.gh_base.specs.declared.place.TyCon.{TyCon}
use Rattle.gh_core.specs.Terms.{Literal}
use Rattle.gh_kernel.specs.declared.names.TopName.{TopName}
use Rattle.gh_kernel.specs.declared.signatures.Signed.{Signed}

mutual
  pub data Pat (N : Type 0) : Type 0 where
    pvar : (n : N) (x : ℕ) → Pat N
    pwild : (n : N) → Pat N
    pcon : (n : N) (c : Origin) (ps : Pats N) → Pat N
    plit : (n : N) (l : Literal) → Pat N
    -- the list of its characters
    pstring : (n : N) (cs : List ℕ) → Pat N
    pas : (n : N) (x : ℕ) (p : Pat N) → Pat N

  pub data Pats (N : Type 0) : Type 0 where
    no_pat : Pats N
    pat : (p : Pat N) (rest : Pats N) → Pats N

-- the two ways of a conversion between a datatype and its representation
pub data Direction : Type 0 where
  from_data : Direction
  to_data : Direction

mutual
  pub data TypeTerm (N : Type 0) : Type 0 where
    tycon : (c : TyCon) → TypeTerm N
    tyvar : (v : ℕ) → TypeTerm N
    tyapp : (f t : TypeTerm N) → TypeTerm N
    tyname : (k : ℕ) → TypeTerm N
    -- a local name of a running program, with the terms of the functions that are redefined at it
    tylocal : (k : ℕ) (table : Table N) → TypeTerm N

  pub data Expr (N : Type 0) : Type 0 where
    var : (n : N) (x : ℕ) → Expr N
    top : (n : N) (x : TopName) → Expr N
    con : (n : N) (c : Origin) → Expr N
    lit : (n : N) (l : Literal) → Expr N
    -- the list of its characters
    string : (n : N) (cs : List ℕ) → Expr N
    lam : (n : N) (x : ℕ) (body : Expr N) → Expr N
    app : (n : N) (f e : Expr N) → Expr N
    lets : (n : N) (groups : Groups N) (body : Expr N) → Expr N
    cases : (n : N) (es : Exprs N) (rows : Rows N) → Expr N
    call : (n : N) (w : Origin) (t : TypeTerm N) → Expr N
    redef : (n : N) (k : ℕ) (text : NameId) (table : Table N) (body : Expr N) → Expr N
    ann : (n : N) (e : Expr N) (s : Signed) → Expr N
    -- a term that was put for a name: no substitution enters it, so no name in it is ever captured
    whole : (e : Expr N) → Expr N
    -- what stands under this constructor of a newtype in the term
    contents : (c : Origin) (e : Expr N) → Expr N
    -- the conversion of values of a base type between a datatype and its representation; the variables below
    -- `generic` are markers
    convert : (n : N) (d : Direction) (h : TyCon) (generic : ℕ) (t : TypeTerm N) → Expr N

  pub data Exprs (N : Type 0) : Type 0 where
    no_expr : Exprs N
    expr : (e : Expr N) (rest : Exprs N) → Exprs N

  pub data Binds (N : Type 0) : Type 0 where
    no_bind : Binds N
    bind : (n : N) (x : ℕ) (s : Option Signed) (e : Expr N) (rest : Binds N) → Binds N

  pub data Groups (N : Type 0) : Type 0 where
    no_group : Groups N
    group : (bs : Binds N) (rest : Groups N) → Groups N

  pub data Rows (N : Type 0) : Type 0 where
    no_row : Rows N
    row : (ps : Pats N) (gs : Groups N) (bs : Bodies N) (rest : Rows N) → Rows N

  -- the bodies of a row: each with its guard, or without one
  pub data Bodies (N : Type 0) : Type 0 where
    no_body : Bodies N
    always : (e : Expr N) (rest : Bodies N) → Bodies N
    guarded : (g e : Expr N) (rest : Bodies N) → Bodies N

  -- functions with their terms, and the places where these are written
  pub data Table (N : Type 0) : Type 0 where
    no_entry : Table N
    entry : (w : Origin) (place : Span) (e : Expr N) (rest : Table N) → Table N
