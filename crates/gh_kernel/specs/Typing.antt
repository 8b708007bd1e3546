-- Typing (Damas and Milner), with generic calls, cases and local redefinitions (Löh). A typing is the program's text with a
-- type noted at each node; it is typed up to n where each node before the n-th meets its demand.
use Rattle.std.specs.Prelude.{◌≡◌, ◌⊎◌, ℕ, suc, ◌+◌, ◌-◌, ◌<◌, ◌≤◌, Bool, true, false, cond, ◌==◌, ◌&&◌, max, List, [], ◌∷◌, ◌++◌, length, map, take, Option, Some, None, All}
use Rattle.gh_base.specs.declared.fixed.TheConstants.{BOOL}
use Rattle.gh_base.specs.declared.place.Span.{Span}
use Rattle.gh_typeterm.specs.declared.kind.Kind.{Kind}
use Rattle.gh_typeterm.specs.declared.kind.Kind.TheVariants.{Star}
use Rattle.gh_unify.specs.Types as ty
use Rattle.gh_unify.specs.Types.{Mono, inst}
use Rattle.gh_kernel.specs.declared.functions.GenFun.{GenFun}
use Rattle.gh_kernel.specs.declared.signatures.Signed.{Signed}
use Rattle.gh_kernel.specs.Nodes.{pat_nodes, pats_nodes, nodes, all_nodes, binds_nodes, groups_nodes, rows_nodes, bodies_nodes, table_nodes}
use Rattle.gh_kernel.specs.Terms.{Pat, pvar, pwild, pcon, plit, pstring, pas, Pats, no_pat, pat, TypeTerm, tycon, tyvar, tyapp, tyname, tylocal, Expr, var, top, con, lit, string, lam, app, lets, cases, call, redef, ann, whole, contents, convert, Exprs, no_expr, expr, Binds, no_bind, bind, Groups, no_group, group, Rows, no_row, row, Bodies, no_body, always, guarded, Table, no_entry, entry}
use Rattle.gh_kernel.specs.Types.{arrow, of_prelude, char_type, list_type, literal_type, item, assigned, HasKind, Scheme, monomorphic, signed_scheme, is_among, Given, Shape, shape, constructor_scheme, function_among, base_at, Bound, local, global, Scope, scheme_of, occurs_in, TypeName, TypeNames, places_from}

-- what is noted of a node: its place, its type, the types at which a name is used there (or the variables that a binding
-- quantifies, or the types that a type name stands for), and the kinds of the variables of all these
pub record Typed : Type 0 where
  pub span : Span
  pub ty : Mono
  pub at : List Mono
  pub kinds : List (ℕ × Kind)

-- which rules a typing keeps besides the demands: a loose one keeps neither
pub record Rules : Type 0 where
  -- each variable has one kind, and types have the kinds of what they stand for
  pub kinds : Bool
  -- no type at a node passes 1,000 nodes
  pub size : Bool
  -- a member without a signature quantifies all that it may
  pub exact : Bool

abbrev pub full : Rules
full = record { kinds = true; size = true; exact = false }

abbrev pub loose : Rules
loose = record { kinds = false; size = false; exact = false }

-- loose, but within the 1,000
abbrev pub loose_small : Rules
loose_small = record { kinds = false; size = true; exact = false }

-- full, and each member without a signature quantifies all that it may
abbrev pub full_exact : Rules
full_exact = record { kinds = true; size = true; exact = true }

abbrev pub Asked : Bool → Type 0 → Type 0
Asked true P = P
Asked false P = Unit {0}

-- the type of a text's root
abbrev pub root : Expr Typed → Mono
root (var n x) = n.ty
root (top n x) = n.ty
root (con n c) = n.ty
root (lit n l) = n.ty
root (string n cs) = n.ty
root (lam n x body) = n.ty
root (app n f e) = n.ty
root (lets n gs body) = n.ty
root (cases n es rows) = n.ty
root (call n w t) = n.ty
root (redef n k text table body) = n.ty
root (ann n e s) = n.ty
root (whole e) = root e
root (contents c e) = root e
root (convert n d h generic t) = n.ty

abbrev pub pat_root : Pat Typed → Mono
pat_root (pvar n x) = n.ty
pat_root (pwild n) = n.ty
pat_root (pcon n c ps) = n.ty
pat_root (plit n l) = n.ty
pat_root (pstring n cs) = n.ty
pat_root (pas n x p) = n.ty

abbrev pub roots : Exprs Typed → List Mono
roots no_expr = []
roots (expr e rest) = root e ∷ roots rest

abbrev pub pat_roots : Pats Typed → List Mono
pat_roots no_pat = []
pat_roots (pat p rest) = pat_root p ∷ pat_roots rest

-- a member of a group of bindings
pub record Member : Type 0 where
  pub name : Bound
  pub signature : Option Signed
  pub note : Typed

abbrev pub members : Binds Typed → List Member
members no_bind = []
members (bind n x s e rest) = record { name = local x; signature = s; note = n } ∷ members rest

abbrev pub all_members : Groups Typed → List Member
all_members no_group = []
all_members (group bs rest) = members bs ++ all_members rest

-- members with a signature are in scope at it
abbrev pub signed_in : List Member → Scope → Scope
signed_in [] Γ = Γ
signed_in (m ∷ ms) Γ = at_signature m.signature m.name (signed_in ms Γ)
  where
    at_signature : Option Signed → Bound → Scope → Scope
    at_signature None x Γ = Γ
    at_signature (Some s) x Γ = (x, signed_scheme s) ∷ Γ

-- members without one are in scope at a scheme
abbrev pub unsigned_in : (Member → Scheme) → List Member → Scope → Scope
unsigned_in f [] Γ = Γ
unsigned_in f (m ∷ ms) Γ = at_scheme m.signature (m.name, f m) (unsigned_in f ms Γ)
  where
    at_scheme : Option Signed → Bound × Scheme → Scope → Scope
    at_scheme None e Γ = e ∷ Γ
    at_scheme (Some s) e Γ = Γ

-- the variables of a type, from left to right
abbrev pub variables : Mono → List ℕ
variables (ty.con c) = []
variables (ty.var v) = v ∷ []
variables (ty.app f a) = variables f ++ variables a
variables (ty.name n) = []

abbrev pub without : ℕ → List ℕ → List ℕ
without v [] = []
without v (w ∷ ws) = cond (v == w) (without v ws) (w ∷ without v ws)

-- each of these once, in the order in which they first occur
abbrev pub once : List ℕ → List ℕ
once [] = []
once (v ∷ vs) = v ∷ without v (once vs)

-- exactly those of a list that have a property, in its order
abbrev pub Picks : (ℕ → Type 0) → List ℕ → List ℕ → Type 0
Picks P [] picked = picked ≡ []
Picks P (v ∷ vs) picked = (P v × ((rest : List ℕ) × (picked ≡ v ∷ rest) × Picks P vs rest)) ⊎ ((P v → ⊥) × Picks P vs picked)

-- all variables of the type are among these
abbrev pub are_among : List ℕ → Mono → Bool
are_among vs (ty.con c) = true
are_among vs (ty.var v) = is_among v vs
are_among vs (ty.app f a) = are_among vs f && are_among vs a
are_among vs (ty.name n) = true

abbrev pub all_among : List ℕ → List Mono → Bool
all_among vs [] = true
all_among vs (t ∷ ts) = are_among vs t && all_among vs ts

-- the variables whose kinds a note lists
abbrev pub listed : Typed → List ℕ
listed n = map (λ (e : ℕ × Kind). e.0) n.kinds

-- the variables among these types
abbrev pub variables_of : List Mono → List ℕ
variables_of [] = []
variables_of (ty.var v ∷ ts) = v ∷ variables_of ts
variables_of (t ∷ ts) = variables_of ts

-- inside its group a member has its one type
abbrev pub inside : Member → Scheme
inside m = monomorphic m.note.ty

-- the pattern's variables have one type each
abbrev mutual
  pub pat_scope : Pat Typed → Scope → Scope
  pat_scope (pvar n x) Γ = (local x, monomorphic n.ty) ∷ Γ
  pat_scope (pwild n) Γ = Γ
  pat_scope (pcon n c ps) Γ = pats_scope ps Γ
  pat_scope (plit n l) Γ = Γ
  pat_scope (pstring n cs) Γ = Γ
  pat_scope (pas n x p) Γ = (local x, monomorphic n.ty) ∷ pat_scope p Γ

  pub pats_scope : Pats Typed → Scope → Scope
  pats_scope no_pat Γ = Γ
  pats_scope (pat p rest) Γ = pats_scope rest (pat_scope p Γ)

-- the type that a type term stands for at the j-th generic variable
abbrev pub stands_for : Option TypeName → ℕ → ℕ → Mono
stands_for None k j = ty.name k
stands_for (Some t) k j = otherwise (item t.types j) k
  where
    otherwise : Option Mono → ℕ → Mono
    otherwise None k = ty.name k
    otherwise (Some u) k = u

abbrev pub type_at : TypeNames → ℕ → TypeTerm Typed → Mono
type_at Θ j (tycon c) = ty.con c
type_at Θ j (tyvar v) = ty.var v
type_at Θ j (tyapp f t) = ty.app (type_at Θ j f) (type_at Θ j t)
type_at Θ j (tyname k) = stands_for (Θ k) k j
type_at Θ j (tylocal k table) = stands_for (Θ k) k j

-- the type names that occur in a type term
abbrev pub names_of : TypeTerm Typed → List ℕ
names_of (tycon c) = []
names_of (tyvar v) = []
names_of (tyapp f t) = names_of f ++ names_of t
names_of (tyname k) = k ∷ []
names_of (tylocal k table) = k ∷ []

-- what a name fixes is what stands there
abbrev pub Fixes : Option TypeName → List Mono → Type 0
Fixes None others = Unit {0}
Fixes (Some t) others = (v : ℕ) (u : Mono) → v < length others → item t.fixes v ≡ Some u → item others v ≡ Some u

abbrev pub with_name : ℕ → TypeName → TypeNames → TypeNames
with_name k t Θ j = cond (j == k) (Some t) (Θ j)

module _ (R : Rules) (G : Given) (κ : ℕ → Kind) where
  -- the rules that each node keeps; its note lists the kind of each variable of its types
  abbrev pub IsGood : Typed → Type 0
  IsGood n = Asked R.kinds (HasKind G.heads κ n.ty Star × All (λ (e : ℕ × Kind). κ e.0 ≡ e.1) n.kinds × (all_among (listed n) (n.ty ∷ n.at) ≡ true))
      × Asked R.size ((ty.nodes n.ty ≤ 1000) × All (λ t. ty.nodes t ≤ 1000) n.at)

  -- a type of a variable keeps them too, whether or not a node that has it is looked at
  abbrev pub IsFine : Mono → Type 0
  IsFine t = Asked R.kinds (HasKind G.heads κ t Star) × Asked R.size (ty.nodes t ≤ 1000)

  -- a node with so many before it, where the nodes before the n-th are looked at
  abbrev pub Node : ℕ → ℕ → Typed → Type 0 → Type 0
  Node n before note demand = before < n → IsGood note × demand

  -- types of these kinds
  abbrev pub HaveKinds : List Mono → List Kind → Type 0
  HaveKinds ts [] = ts ≡ []
  HaveKinds [] (k ∷ ks) = ⊥
  HaveKinds (t ∷ ts) (k ∷ ks) = Asked R.kinds (HasKind G.heads κ t k) × HaveKinds ts ks

  -- an instance of a scheme, at the types that are noted
  abbrev pub IsInstance : Scheme → Typed → Type 0
  IsInstance s n = HaveKinds n.at s.kinds × (n.ty ≡ inst (assigned s.vars n.at) s.ty)

  abbrev pub Uses : Option Scheme → Typed → Type 0
  Uses None n = ⊥
  Uses (Some s) n = IsInstance s n

  abbrev pub Constructs : Option Shape → Typed → Type 0
  Constructs None n = ⊥
  Constructs (Some s) n = IsInstance (constructor_scheme s) n

  -- a constructor's pattern over patterns of these types
  abbrev pub Matches : Option Shape → List Mono → Typed → Type 0
  Matches None ts n = ⊥
  Matches (Some s) ts n =
      HaveKinds n.at s.kinds × (ts ≡ map (inst (assigned s.vars n.at)) s.fields) × (n.ty ≡ inst (assigned s.vars n.at) s.result)

  abbrev pub AreDistinct : List ℕ → Type 0
  AreDistinct [] = Unit {0}
  AreDistinct (v ∷ vs) = (is_among v vs ≡ false) × AreDistinct vs

  -- the variable occurs in no type of a type name
  abbrev pub IsApart : TypeNames → ℕ → Type 0
  IsApart Θ v = (k : ℕ) (t : TypeName) → Θ k ≡ Some t → All (λ u. ty.has v u ≡ false) (t.types ++ t.fixes)

  -- a variable that occurs in no type of a name or a type name bound outside
  abbrev pub IsFresh : Scope → TypeNames → ℕ → Type 0
  IsFresh Γ Θ v = (occurs_in Γ v ≡ false) × IsApart Θ v

  -- variables that do not
  abbrev pub AreFresh : Scope → TypeNames → List ℕ → Type 0
  AreFresh Γ Θ vs = All (λ v. occurs_in Γ v ≡ false) vs × All (IsApart Θ) vs

  -- the type is the written one with rigid variables: these stand for themselves alone, and for nothing outside
  abbrev pub IsRigid : Scope → TypeNames → Signed → List ℕ → Mono → Type 0
  IsRigid Γ Θ s vs t =
      AreDistinct vs × AreFresh Γ Θ vs × HaveKinds (map ty.var vs) (signed_scheme s).kinds
      × (t ≡ inst (assigned (signed_scheme s).vars (map ty.var vs)) (signed_scheme s).ty)

  -- a binding: its variable has the type of its term; with a signature, that of the signature
  abbrev pub Binding : Scope → TypeNames → Option Signed → Typed → Mono → Type 0
  Binding Γ Θ None n t = n.ty ≡ t
  Binding Γ Θ (Some s) n t = (n.ty ≡ t) × ((vs : List ℕ) × (n.at ≡ map ty.var vs) × IsRigid Γ Θ s vs n.ty)

  -- after its group a member without a signature has a scheme: what it quantifies are variables that occur in no type of a
  -- name or a type name bound outside; under the exact rule these are all such variables of its type, each once, in the order
  -- in which they first occur
  abbrev pub outside : Member → Scheme
  outside m = record { vars = variables_of m.note.at; kinds = map κ (variables_of m.note.at); ty = m.note.ty }

  abbrev pub Generalises : Scope → TypeNames → Member → Type 0
  Generalises Γ Θ m = (m.note.at ≡ map ty.var (variables_of m.note.at)) × AreFresh Γ Θ (variables_of m.note.at)
      × Asked R.exact (Picks (IsFresh Γ Θ) (once (variables m.note.ty)) (variables_of m.note.at))

  abbrev pub Closes : Scope → TypeNames → List Member → Type 0
  Closes Γ Θ [] = Unit {0}
  Closes Γ Θ (m ∷ ms) = unless m.signature (Generalises Γ Θ m) × Closes Γ Θ ms
    where
      unless : Option Signed → Type 0 → Type 0
      unless None P = P
      unless (Some s) P = Unit {0}

  -- the scope after groups
  abbrev pub after : List (List Member) → Scope → Scope
  after [] Γ = Γ
  after (ms ∷ rest) Γ = after rest (unsigned_in outside ms Γ)

  abbrev pub group_members : Groups Typed → List (List Member)
  group_members no_group = []
  group_members (group bs rest) = members bs ∷ group_members rest

  -- the scope in which the term of a `let` stands
  abbrev pub let_scope : Groups Typed → Scope → Scope
  let_scope gs Γ = after (group_members gs) (signed_in (all_members gs) Γ)

  -- a generic call: the base type at the types that its type term stands for, one for each generic variable. A non-generic
  -- variable has the type that a type name fixes for it, or any
  abbrev pub Calls : Option GenFun → TypeNames → TypeTerm Typed → Typed → Type 0
  Calls None Θ t n = ⊥
  Calls (Some f) Θ t n =
      HaveKinds n.at (map (λ v. Star) f.other)
      × All (λ k. Fixes (Θ k) n.at) (names_of t)
      × (n.ty ≡ base_at f (map (λ j. type_at Θ j t) (places_from 0 f.generic)) n.at)

  -- each right side of a redefinition has its base type at the name's types
  abbrev pub Redefines : Option GenFun → TypeName → Mono → Type 0
  Redefines None t u = ⊥
  Redefines (Some f) t u = (length t.types ≡ length f.generic) × (length f.other ≤ length t.fixes) × (u ≡ base_at f t.types (take (length f.other) t.fixes))

  abbrev pub AllRedefine : Table Typed → TypeName → Type 0
  AllRedefine no_entry t = Unit {0}
  AllRedefine (entry w place e rest) t = Redefines (function_among G.functions w) t (root e) × AllRedefine rest t

  abbrev pub others_of : Option GenFun → ℕ
  others_of None = 0
  others_of (Some f) = length f.other

  -- a name fixes as many types as the redefined function with the most non-generic variables has
  abbrev pub most_others : Table Typed → ℕ
  most_others no_entry = 0
  most_others (entry w place e rest) = max (others_of (function_among G.functions w)) (most_others rest)

  -- patterns
  abbrev mutual
    pub PatTyped : ℕ → Pat Typed → Type 0
    PatTyped n (pvar m x) = Node n 0 m (Unit {0})
    PatTyped n (pwild m) = Node n 0 m (Unit {0})
    PatTyped n (pcon m c ps) = PatsTyped n ps × Node n (pats_nodes ps) m (Matches (shape G c) (pat_roots ps) m)
    PatTyped n (plit m l) = Node n 0 m (m.ty ≡ literal_type l)
    PatTyped n (pstring m cs) = Node n 0 m (m.ty ≡ list_type char_type)
    PatTyped n (pas m x p) = PatTyped n p × Node n (pat_nodes p) m (m.ty ≡ pat_root p)

    pub PatsTyped : ℕ → Pats Typed → Type 0
    PatsTyped n no_pat = Unit {0}
    PatsTyped n (pat p rest) = PatTyped n p × PatsTyped (n - pat_nodes p) rest

  -- all results of bodies have the type, and the guards are truth values
  abbrev pub BodiesFit : Mono → Bodies Typed → Type 0
  BodiesFit t no_body = Unit {0}
  BodiesFit t (always e rest) = (root e ≡ t) × BodiesFit t rest
  BodiesFit t (guarded g e rest) = (root g ≡ of_prelude BOOL) × (root e ≡ t) × BodiesFit t rest

  -- patterns fit the terms of the case
  abbrev pub RowsFit : List Mono → Mono → Rows Typed → Type 0
  RowsFit ts t no_row = Unit {0}
  RowsFit ts t (row ps gs bs rest) = (pat_roots ps ≡ ts) × BodiesFit t bs × RowsFit ts t rest

  abbrev mutual
    pub IsTyped : ℕ → Scope → TypeNames → Expr Typed → Type 0
    IsTyped n Γ Θ (var m x) = Node n 0 m (Uses (scheme_of Γ (local x)) m)
    IsTyped n Γ Θ (top m x) = Node n 0 m (Uses (scheme_of Γ (global x)) m)
    IsTyped n Γ Θ (con m c) = Node n 0 m (Constructs (shape G c) m)
    IsTyped n Γ Θ (lit m l) = Node n 0 m (m.ty ≡ literal_type l)
    IsTyped n Γ Θ (string m cs) = Node n 0 m (m.ty ≡ list_type char_type)
    IsTyped n Γ Θ (lam m x body) = (t : Mono) × IsFine t × IsTyped n ((local x, monomorphic t) ∷ Γ) Θ body × Node n (nodes body) m (m.ty ≡ arrow t (root body))
    IsTyped n Γ Θ (app m f e) =
        IsTyped n Γ Θ f × IsTyped (n - nodes f) Γ Θ e × Node n (nodes f + nodes e) m (root f ≡ arrow (root e) m.ty)
    IsTyped n Γ Θ (lets m gs body) =
        GroupsTyped n (signed_in (all_members gs) Γ) Θ gs × IsTyped (n - groups_nodes gs) (let_scope gs Γ) Θ body
        × Node n (groups_nodes gs + nodes body) m (m.ty ≡ root body)
    IsTyped n Γ Θ (cases m es rows) =
        AllTyped n Γ Θ es × RowsTyped (n - all_nodes es) Γ Θ rows × Node n (all_nodes es + rows_nodes rows) m (RowsFit (roots es) m.ty rows)
    IsTyped n Γ Θ (call m w t) = Node n 0 m (Calls (function_among G.functions w) Θ t m)
    IsTyped n Γ Θ (redef m k text table body) =
        (t : TypeName) × All IsFine (t.types ++ t.fixes) × (length t.fixes ≡ most_others table)
        × TableTyped n Γ Θ table × IsTyped (n - table_nodes table) Γ (with_name k t Θ) body
        × Node n (table_nodes table + nodes body) m
        ((m.ty ≡ root body) × (m.at ≡ t.types ++ t.fixes) × HaveKinds m.at (map (λ u. Star) m.at) × AllRedefine table t)
    IsTyped n Γ Θ (ann m e s) =
        IsTyped n Γ Θ e × Node n (nodes e) m (((vs : List ℕ) × IsRigid Γ Θ s vs (root e)) × IsInstance (signed_scheme s) m)
    IsTyped n Γ Θ (whole e) = ⊥
    IsTyped n Γ Θ (contents c e) = ⊥
    IsTyped n Γ Θ (convert m d h generic t) = ⊥

    pub AllTyped : ℕ → Scope → TypeNames → Exprs Typed → Type 0
    AllTyped n Γ Θ no_expr = Unit {0}
    AllTyped n Γ Θ (expr e rest) = IsTyped n Γ Θ e × AllTyped (n - nodes e) Γ Θ rest

    pub TableTyped : ℕ → Scope → TypeNames → Table Typed → Type 0
    TableTyped n Γ Θ no_entry = Unit {0}
    TableTyped n Γ Θ (entry w place e rest) = IsTyped n Γ Θ e × TableTyped (n - nodes e) Γ Θ rest

    -- the members of a group, in its scope
    pub BindsTyped : ℕ → Scope → TypeNames → Binds Typed → Type 0
    BindsTyped n Γ Θ no_bind = Unit {0}
    BindsTyped n Γ Θ (bind m x s e rest) =
        IsFine m.ty × IsTyped n Γ Θ e × Node n (nodes e) m (Binding Γ Θ s m (root e)) × BindsTyped (n - suc (nodes e)) Γ Θ rest

    -- a group has one type for each member inside it, and its schemes after it
    pub GroupsTyped : ℕ → Scope → TypeNames → Groups Typed → Type 0
    GroupsTyped n Γ Θ no_group = Unit {0}
    GroupsTyped n Γ Θ (group bs rest) =
        BindsTyped n (unsigned_in inside (members bs) Γ) Θ bs × Closes Γ Θ (members bs)
        × GroupsTyped (n - binds_nodes bs) (unsigned_in outside (members bs) Γ) Θ rest

    pub BodiesTyped : ℕ → Scope → TypeNames → Bodies Typed → Type 0
    BodiesTyped n Γ Θ no_body = Unit {0}
    BodiesTyped n Γ Θ (always e rest) = IsTyped n Γ Θ e × BodiesTyped (n - nodes e) Γ Θ rest
    BodiesTyped n Γ Θ (guarded g e rest) =
        IsTyped n Γ Θ g × IsTyped (n - nodes g) Γ Θ e × BodiesTyped (n - (nodes g + nodes e)) Γ Θ rest

    pub RowsTyped : ℕ → Scope → TypeNames → Rows Typed → Type 0
    RowsTyped n Γ Θ no_row = Unit {0}
    RowsTyped n Γ Θ (row ps gs bs rest) =
        PatsTyped n ps
        × GroupsTyped (n - pats_nodes ps) (signed_in (all_members gs) (pats_scope ps Γ)) Θ gs
        × BodiesTyped (n - (pats_nodes ps + groups_nodes gs)) (let_scope gs (pats_scope ps Γ)) Θ bs
        × RowsTyped (n - (pats_nodes ps + groups_nodes gs + bodies_nodes bs)) Γ Θ rest
