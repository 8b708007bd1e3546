-- Typings of whole programs, module by module in link order.
use Rattle.std.specs.Prelude.{◌≡◌, ◌⊎◌, ℕ, zero, suc, ◌+◌, ◌-◌, ◌≤◌, Bool, true, false, cond, ◌==◌, List, [], ◌∷◌, ◌++◌, length, map, Option, Some, None}
use Rattle.gh_base.specs.declared.fixed.TheConstants.{CON, CON_DESCR}
use Rattle.gh_base.specs.declared.place.Origin.{Origin}
use Rattle.gh_base.specs.declared.place.Span.{Span}
use Rattle.gh_typeterm.specs.declared.kind.Kind.{Kind}
use Rattle.gh_typeterm.specs.declared.kind.Kind.TheVariants.{Star}
use Rattle.gh_typeterm.specs.declared.kind.Kind.TheVariants as kind
use Rattle.gh_unify.specs.Types as ty
use Rattle.gh_unify.specs.Types.{Mono}
use Rattle.gh_kernel.specs.declared.functions.GenFun.{GenFun}
use Rattle.gh_kernel.specs.declared.kernel.Binding.{Binding}
use Rattle.gh_kernel.specs.declared.kernel.CaseBody.{CaseBody}
use Rattle.gh_kernel.specs.declared.kernel.Kernel.{Kernel}
use Rattle.gh_kernel.specs.declared.names.Head.{Head}
use Rattle.gh_kernel.specs.declared.names.Head.TheVariants.{Of, Layer, Bad}
use Rattle.gh_kernel.specs.declared.names.TopName.{TopName}
use Rattle.gh_kernel.specs.declared.signatures.Signed.{Signed}
use Rattle.gh_kernel.specs.Nodes.{nodes, noted}
use Rattle.gh_kernel.specs.Reading.{term_of}
use Rattle.gh_kernel.specs.Terms.{Expr}
use Rattle.gh_kernel.specs.Types.{arrow, applied_to, of_prelude, Given, Scope, occurs_in, global, TypeName, TypeNames, item, primitive_scope, function_among, base_at, places_from}
use Rattle.gh_kernel.specs.Typing as typing
use Rattle.gh_kernel.specs.Typing.{Typed, Rules, root, Member, signed_in, unsigned_in, inside, IsTyped, Node, Closes, outside, after, AreFresh, HaveKinds}

-- a program's text with notes, module by module ----------------------------------------------------------------------------

pub record Top (N : Type 0) : Type 0 where
  pub name : TopName
  pub signature : Option Signed
  pub body : Expr N
  pub note : N

pub record Clause (N : Type 0) : Type 0 where
  pub function : Origin
  pub head : Head
  -- how many parameters the head has
  pub names : ℕ
  pub body : Expr N
  pub place : Span

pub record Module (N : Type 0) : Type 0 where
  pub groups : List (List (Top N))
  pub cases : List (Clause N)

module _ {M N : Type 0} (f : M → N) where
  abbrev pub noted_top : Top M → Top N
  noted_top b = record { name = b.name; signature = b.signature; body = noted f b.body; note = f b.note }

  abbrev pub noted_clause : Clause M → Clause N
  noted_clause c = record { function = c.function; head = c.head; names = c.names; body = noted f c.body; place = c.place }

  abbrev pub noted_module : Module M → Module N
  noted_module m = record { groups = map (map noted_top) m.groups; cases = map noted_clause m.cases }

-- the modules of a kernel: its groups and its cases by the files in which they stand, in link order
module _ {A : Type 0} (place : A → Span) where
  abbrev pub top_of : Binding A → Top A
  top_of b = record { name = b.name; signature = b.signature; body = term_of b.term; note = b.note }

  abbrev pub clause_of : CaseBody A → Clause A
  clause_of c = record { function = c.function; head = c.head; names = length c.names; body = term_of c.term; place = c.span }

  -- a group stands in the file of its members
  abbrev pub stands_in : ℕ → List (Binding A) → Bool
  stands_in file [] = false
  stands_in file (b ∷ bs) = (place b.note).file == file

  abbrev pub groups_in : ℕ → List (List (Binding A)) → List (List (Top A))
  groups_in file [] = []
  groups_in file (g ∷ gs) = cond (stands_in file g) (map top_of g ∷ groups_in file gs) (groups_in file gs)

  abbrev pub cases_in : ℕ → List (CaseBody A) → List (Clause A)
  cases_in file [] = []
  cases_in file (c ∷ cs) = cond (c.span.file == file) (clause_of c ∷ cases_in file cs) (cases_in file cs)

  abbrev pub modules_of : Kernel A → List (Module A)
  modules_of k = map (λ file. record { groups = groups_in file k.groups; cases = cases_in file k.cases }) k.order

-- the number of nodes
abbrev pub group_nodes : {N : Type 0} → List (Top N) → ℕ
group_nodes [] = 0
group_nodes (b ∷ bs) = suc (nodes b.body) + group_nodes bs

abbrev pub groups_nodes : {N : Type 0} → List (List (Top N)) → ℕ
groups_nodes [] = 0
groups_nodes (g ∷ gs) = group_nodes g + groups_nodes gs

abbrev pub cases_nodes : {N : Type 0} → List (Clause N) → ℕ
cases_nodes [] = 0
cases_nodes (c ∷ cs) = nodes c.body + cases_nodes cs

abbrev pub member : Top Typed → Member
member b = record { name = global b.name; signature = b.signature; note = b.note }

abbrev pub all_of : List (List (Top Typed)) → List Member
all_of [] = []
all_of (g ∷ gs) = map member g ++ all_of gs

-- cases ------------------------------------------------------------------------------------------------------------------

-- the kind of a type constructor with parameters of these kinds
abbrev pub with_parameters : List Kind → Kind
with_parameters [] = Star
with_parameters (k ∷ ks) = kind.Arrow k (with_parameters ks)

abbrev pub flat : {A : Type 0} → List (List A) → List A
flat [] = []
flat (xs ∷ rest) = xs ++ flat rest

-- so many numbers from the first one on
abbrev pub numbers_from : ℕ → ℕ → List ℕ
numbers_from i zero = []
numbers_from i (suc n) = i ∷ numbers_from (suc i) n

-- the rigid variables of the parameters of a case, one for each generic variable
abbrev pub parameter_variables : (first generic : ℕ) → ℕ → List (List ℕ)
parameter_variables i r zero = []
parameter_variables i r (suc m) = numbers_from i r ∷ parameter_variables (i + r) r m

-- the rigid variables of a case have fixed numbers: those of its parameters from 0 on, parameter by parameter
abbrev pub case_parameters : GenFun → Clause Typed → List (List ℕ)
case_parameters f c = parameter_variables 0 (length f.generic) c.names

-- and then those of the non-generic variables
abbrev pub case_others : GenFun → Clause Typed → List ℕ
case_others f c = numbers_from (length (flat (case_parameters f c))) (length f.other)

abbrev pub case_variables : GenFun → Clause Typed → List ℕ
case_variables f c = flat (case_parameters f c) ++ case_others f c

abbrev pub variable_or : Option ℕ → Mono
variable_or None = ty.name 0
variable_or (Some v) = ty.var v

-- the j-th type of each parameter
abbrev pub column : ℕ → List (List ℕ) → List Mono
column j [] = []
column j (vs ∷ rest) = variable_or (item vs j) ∷ column j rest

abbrev pub parameter : List ℕ → Option (List ℕ) → Option TypeName
parameter others None = None
parameter others (Some vs) = Some (record { types = map ty.var vs; fixes = map ty.var others })

-- the parameters of a case as type names: each stands for its variables, one for each generic variable, and fixes those of
-- the non-generic ones
abbrev pub parameters : List (List ℕ) → List ℕ → TypeNames
parameters names others k = parameter others (item names k)

-- the type of a case's body: the base type at the head of the j-th types of its parameters; a case for the layer is a function
-- of the description
abbrev pub body_type : GenFun → Head → List (List ℕ) → List ℕ → Mono
body_type f (Of h) names others = base_at f (map (λ j. applied_to (ty.con h) (column j names)) (places_from 0 f.generic)) (map ty.var others)
body_type f Layer names others =
    arrow (of_prelude CON_DESCR) (base_at f (map (λ j. applied_to (of_prelude CON) (column j names)) (places_from 0 f.generic)) (map ty.var others))
body_type f Bad names others = ty.name 0

-- what is typed ------------------------------------------------------------------------------------------------------------

module _ (R : Rules) (G : Given) (κ : ℕ → Kind) where
  abbrev pub TopsTyped : ℕ → Scope → List (Top Typed) → Type 0
  TopsTyped n Γ [] = Unit {0}
  TopsTyped n Γ (b ∷ bs) =
      typing.IsFine R G κ b.note.ty × IsTyped R G κ n Γ (λ k. None) b.body × Node R G κ n (nodes b.body) b.note (typing.Binding R G κ Γ (λ k. None) b.signature b.note (root b.body))
      × TopsTyped (n - suc (nodes b.body)) Γ bs

  abbrev pub GroupsTyped : ℕ → Scope → List (List (Top Typed)) → Type 0
  GroupsTyped n Γ [] = Unit {0}
  GroupsTyped n Γ (g ∷ gs) =
      TopsTyped n (unsigned_in inside (map member g) Γ) g × Closes R G κ Γ (λ k. None) (map member g)
      × GroupsTyped (n - group_nodes g) (unsigned_in (outside R G κ) (map member g) Γ) gs

  -- the parameters of the head have these kinds
  abbrev pub HeadKinds : Head → List Kind → Type 0
  HeadKinds (Of h) ks = typing.Asked R.kinds (G.heads h ≡ Some (with_parameters ks))
  HeadKinds Layer ks = ks ≡ Star ∷ []
  HeadKinds Bad ks = ⊥

  -- one variable for each generic variable at each parameter, of the parameter's kind
  abbrev pub ParameterKinds : GenFun → List (List ℕ) → List Kind → Type 0
  ParameterKinds f [] [] = Unit {0}
  ParameterKinds f [] (k ∷ ks) = ⊥
  ParameterKinds f (vs ∷ names) [] = ⊥
  ParameterKinds f (vs ∷ names) (k ∷ ks) = HaveKinds R G κ (map ty.var vs) (map (λ v. k) f.generic) × ParameterKinds f names ks

  -- the rigid variables of a case have the kinds of the parameters and of the non-generic variables, and occur in no type of
  -- a name bound outside
  pub record IsHeld (f : GenFun) (c : Clause Typed) (Γ : Scope) : Type 0 where
    pub kinds : (ks : List Kind) × HeadKinds c.head ks × ParameterKinds f (case_parameters f c) ks
    pub others_kinds : HaveKinds R G κ (map ty.var (case_others f c)) (map (λ v. Star) f.other)
    pub fresh : AreFresh R G κ Γ (λ k. None) (case_variables f c)

  -- the body of a case has its base type, which is asked at the root of the body
  abbrev pub BodyTyped : ℕ → Scope → GenFun → Clause Typed → Type 0
  BodyTyped n Γ f c =
      IsHeld f c Γ
      × IsTyped R G κ n Γ (parameters (case_parameters f c) (case_others f c)) c.body
      × (nodes c.body ≤ n → root c.body ≡ body_type f c.head (case_parameters f c) (case_others f c))

-- kinds of variables that are those of others where a variable occurs in the type of a name in scope
abbrev pub AgreeIn : Scope → (κ κ' : ℕ → Kind) → Type 0
AgreeIn Γ κ κ' = (v : ℕ) → occurs_in Γ v ≡ true → κ' v ≡ κ v

module _ (R : Rules) (G : Given) (κ : ℕ → Kind) where
  -- the variables of a case have kinds of their own
  abbrev pub CaseTyped : ℕ → Scope → Option GenFun → Clause Typed → Type 0
  CaseTyped n Γ None c = ⊥
  CaseTyped n Γ (Some f) c = (κ' : ℕ → Kind) × AgreeIn Γ κ κ' × BodyTyped R G κ' n Γ f c

  abbrev pub CasesTyped : ℕ → Scope → List (Clause Typed) → Type 0
  CasesTyped n Γ [] = Unit {0}
  CasesTyped n Γ (c ∷ cs) = CaseTyped n Γ (function_among G.functions c.function) c × CasesTyped (n - nodes c.body) Γ cs

  -- the scope after a module's groups
  abbrev pub module_scope : Module Typed → Scope → Scope
  module_scope m Γ = after R G κ (map (map member) m.groups) (signed_in (all_of m.groups) Γ)

  -- the plain groups of a module, and then its cases; modules in link order
  abbrev pub ModulesTyped : ℕ → Scope → List (Module Typed) → Type 0
  ModulesTyped n Γ [] = Unit {0}
  ModulesTyped n Γ (m ∷ ms) =
      GroupsTyped R G κ n (signed_in (all_of m.groups) Γ) m.groups
      × CasesTyped (n - groups_nodes m.groups) (module_scope m Γ) m.cases
      × ModulesTyped (n - (groups_nodes m.groups + cases_nodes m.cases)) (module_scope m Γ) ms

-- typings of a program -----------------------------------------------------------------------------------------------------

-- the notes are a typing up to n
abbrev pub IsTyping : Rules → Given → ℕ → List (Module Typed) → Type 0
IsTyping R G n typed = (κ : ℕ → Kind) × ModulesTyped R G κ n primitive_scope typed

-- there is a typing up to n: the same text with notes that are one
abbrev pub HasTyping : Rules → Given → List (Module Span) → ℕ → Type 0
HasTyping R G text n = (typed : List (Module Typed)) × (map (noted_module (λ (t : Typed). t.span)) typed ≡ text) × IsTyping R G n typed

abbrev pub all_nodes : {N : Type 0} → List (Module N) → ℕ
all_nodes [] = 0
all_nodes (m ∷ ms) = groups_nodes m.groups + cases_nodes m.cases + all_nodes ms

-- all nodes meet their demands
abbrev pub IsFullTyping : Given → List (Module Typed) → Type 0
IsFullTyping G typed = IsTyping typing.full G (all_nodes typed) typed

abbrev pub HasFullTyping : Given → List (Module Span) → Type 0
HasFullTyping G text = HasTyping typing.full G text (all_nodes text)

-- the first node at which typing fails, and why ------------------------------------------------------------------------------

-- the rules hold where only the nodes before this one are looked at, and fail where it is looked at too
abbrev pub FailsAt : Given → List (Module Span) → ℕ → Type 0
FailsAt G text n = HasTyping typing.full G text n × (HasTyping typing.full G text (suc n) → ⊥)

-- there is no typing of any size, or there is one within the size, but none with its kinds
abbrev pub ClashesAt : Given → List (Module Span) → ℕ → Type 0
ClashesAt G text n = FailsAt G text n × ((HasTyping typing.loose G text (suc n) → ⊥) ⊎ HasTyping typing.loose_small G text (suc n))

-- there are typings, and all of them pass the size
abbrev pub PassesSizeAt : Given → List (Module Span) → ℕ → Type 0
PassesSizeAt G text n = FailsAt G text n × HasTyping typing.loose G text (suc n) × (HasTyping typing.loose_small G text (suc n) → ⊥)
