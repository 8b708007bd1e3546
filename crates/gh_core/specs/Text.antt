-- Programs of typed core as text.
use Rattle.std.specs.Prelude.{ℕ, zero, suc, ◌+◌, Bool, true, false, List, [], ◌∷◌, ◌++◌, length, Option, Some, None, codes, decimal}
use Rattle.std.specs.Fmt.{signed_decimal}
use Rattle.gh_base.specs.declared.names.NameId.{NameId}
use Rattle.gh_base.specs.declared.place.Origin.{Origin}
use Rattle.gh_base.specs.declared.place.Span.{Span}
use Rattle.gh_base.specs.declared.place.TyCon.{TyCon}
use Rattle.gh_base.specs.declared.place.TyCon.TheVariants as tycon
use Rattle.gh_base.specs.Ids.{text_in}
use Rattle.gh_typeterm.specs.declared.kind.Kind.{Kind, fold-Kind}
use Rattle.gh_typeterm.specs.declared.kind.Kind.TheOpen.{Kind-F}
use Rattle.gh_typeterm.specs.declared.ty.TyNode.{TyNode, fold-TyNode}
use Rattle.gh_typeterm.specs.declared.ty.TyNode.TheOpen.{TyNode-F}
use Rattle.gh_typeterm.specs.declared.decl.DeclCon.{DeclCon}
use Rattle.gh_typeterm.specs.declared.decl.DeclData.{DeclData}
use Rattle.gh_core.specs.declared.types.CoreType.{CoreType, fold-CoreType}
use Rattle.gh_core.specs.declared.types.CoreType.TheOpen.{CoreType-F}
use Rattle.gh_core.specs.declared.terms.CoreName.{CoreName}
use Rattle.gh_core.specs.declared.terms.CoreName.TheVariants as name
use Rattle.gh_core.specs.declared.terms.Def.{Def}
use Rattle.gh_core.specs.declared.terms.CoreProgram.{CoreProgram}
use Rattle.gh_core.specs.declared.terms.CoreTerm.{CoreTerm, fold-CoreTerm}
use Rattle.gh_core.specs.declared.terms.CoreAlt.{CoreAlt, fold-CoreAlt}
use Rattle.gh_core.specs.declared.terms.CoreAlt.TheOpen.{CoreTerm-F, CoreAlt-F}
use Rattle.gh_core.specs.Levels.{Scope, within, within_list, level_of}

abbrev pub Table : Type 0
Table = List (List ℕ)

-- a name with its module
abbrev pub qualified : Table → NameId → NameId → List ℕ
qualified table home own = text_in table home ++ (codes "." ++ text_in table own)

abbrev pub origin_text : Table → Origin → List ℕ
origin_text table o = qualified table o.«module» o.name

-- a type constructor as a type
unfoldable pub tycon_text : Table → TyCon → List ℕ
tycon_text table (tycon.Named o) = origin_text table o
tycon_text table tycon.Arrow = codes "->"
tycon_text table tycon.Int = codes "Prelude.Int"
tycon_text table tycon.Char = codes "Prelude.Char"
tycon_text table (tycon.ConOf o) = codes "Prelude.Con"

-- a type constructor in the name of a definition, where each layer has a name of its own
unfoldable pub head_text : Table → TyCon → List ℕ
head_text table (tycon.Named o) = origin_text table o
head_text table tycon.Arrow = codes "->"
head_text table tycon.Int = codes "Prelude.Int"
head_text table tycon.Char = codes "Prelude.Char"
head_text table (tycon.ConOf o) = codes "Con." ++ origin_text table o

abbrev pub braced : List ℕ → List ℕ
braced text = codes "{" ++ (text ++ codes "}")

-- the name of a definition
unfoldable pub core_name_text : Table → CoreName → List ℕ
core_name_text table (name.Plain o) = origin_text table o
core_name_text table (name.Hidden home n) = text_in table home ++ (codes ".pat" ++ braced (decimal n))
core_name_text table (name.Component o c) = origin_text table o ++ braced (head_text table c)
core_name_text table (name.From c) = codes "from" ++ braced (head_text table c)
core_name_text table (name.To c) = codes "to" ++ braced (head_text table c)
core_name_text table (name.Bimap c) = codes "bimap" ++ braced (head_text table c)

abbrev pub kind_step : Kind-F (List ℕ) → List ℕ
kind_step Kind-F.Star = codes "*"
kind_step (Kind-F.Arrow from to) = codes "(=> " ++ (from ++ (codes " " ++ (to ++ codes ")")))

abbrev pub kind_text : Kind → List ℕ
kind_text = fold-Kind (List ℕ) kind_step

-- the brackets of an application, which stand once round all its arguments: the head of a spine has none of its own
abbrev pub opening : Bool → List ℕ
opening true = []
opening false = codes "("

abbrev pub closing : Bool → List ℕ
closing true = []
closing false = codes ")"

abbrev pub applied : Bool → List ℕ → List ℕ → List ℕ
applied inside head arg = opening inside ++ (head ++ (codes " " ++ (arg ++ closing inside)))

-- a type variable where it is bound
abbrev pub type_binder : ℕ → Kind → List ℕ
type_binder level kind = codes "(t" ++ (decimal level ++ (codes " " ++ (kind_text kind ++ codes ")")))

-- a type as the head of a spine (true) or by itself, under these binders of types
abbrev pub type_step : Table → CoreType-F (Bool → Scope → List ℕ) → Bool → Scope → List ℕ
type_step table (CoreType-F.Var x) inside ts = codes "t" ++ decimal (level_of ts x)
type_step table (CoreType-F.Con c) inside ts = tycon_text table c
type_step table (CoreType-F.App f x) inside ts = applied inside (f true ts) (x false ts)
type_step table (CoreType-F.Forall x kind body) inside ts =
    codes "(forall " ++ (type_binder (length ts) kind ++ (codes " " ++ (body false (within ts x) ++ codes ")")))
type_step table (CoreType-F.Any kind) inside ts = codes "(any " ++ (kind_text kind ++ codes ")")

abbrev pub spine_text : Table → CoreType → Bool → Scope → List ℕ
spine_text table = fold-CoreType (Bool → Scope → List ℕ) (type_step table)

abbrev pub type_text : Table → CoreType → Scope → List ℕ
type_text table ty ts = spine_text table ty false ts

-- the type of a field: the parameters are the variables, numbered in their order
abbrev pub field_step : Table → TyNode-F (Bool → List ℕ) → Bool → List ℕ
field_step table (TyNode-F.Con c) inside = tycon_text table c
field_step table (TyNode-F.Var x) inside = codes "t" ++ decimal x
field_step table (TyNode-F.App f x) inside = applied inside (f true) (x false)
field_step table (TyNode-F.Name n) inside = codes "n" ++ decimal n

abbrev pub field_text : Table → TyNode → Bool → List ℕ
field_text table = fold-TyNode (Bool → List ℕ) (field_step table)

abbrev pub place_text : Span → List ℕ
place_text s = decimal s.file ++ (codes " " ++ (decimal s.from ++ (codes " " ++ decimal s.to)))

-- what stands before an item of a bracketed list, by its place there
abbrev pub gap : ℕ → List ℕ
gap zero = []
gap (suc place) = codes " "

-- each number with a space before it
abbrev pub numbers_text : List ℕ → List ℕ
numbers_text [] = []
numbers_text (n ∷ ns) = codes " " ++ (decimal n ++ numbers_text ns)

-- the variables of fields where they are bound, from this level on
abbrev pub names_text : ℕ → List ℕ → List ℕ
names_text level [] = []
names_text level (x ∷ xs) = codes " v" ++ (decimal level ++ names_text (suc level) xs)

abbrev pub result_text : Table → Option CoreType → Scope → List ℕ
result_text table None ts = []
result_text table (Some ty) ts = codes " " ++ type_text table ty ts

-- a variable where it is bound, without the closing bracket
abbrev pub binder_text : Table → ℕ → CoreType → Scope → List ℕ
binder_text table level ty ts = codes "(v" ++ (decimal level ++ (codes " " ++ type_text table ty ts))

-- the text of a term under binders of variables and of types
abbrev pub Text : Type 0
Text = Scope → Scope → List ℕ

abbrev pub binding_text : {X : Type 0} → Table → (X → Text) → ℕ → ℕ × CoreType × X → Text
binding_text table text level b vs ts = binder_text table level b.1 ts ++ (codes " " ++ (text b.2 vs ts ++ codes ")"))

-- bindings from a place on, the first of which has the level `base`
abbrev pub bindings_text : {X : Type 0} → Table → (X → Text) → ℕ → ℕ → List (ℕ × CoreType × X) → Text
bindings_text table text base place [] vs ts = []
bindings_text table text base place (b ∷ bs) vs ts =
    gap place ++ (binding_text table text (base + place) b vs ts ++ bindings_text table text base (suc place) bs vs ts)

abbrev pub binders_of : {X : Type 0} → List (ℕ × CoreType × X) → List ℕ
binders_of [] = []
binders_of (b ∷ bs) = b.0 ∷ binders_of bs

-- a recursive binding's variables are all bound in all of its terms
abbrev pub letrec_text : {X : Type 0} → Table → (X → Text) → List (ℕ × CoreType × X) → (Scope → List ℕ) → Text
letrec_text table text bs body vs ts =
    codes "(letrec (" ++ (bindings_text table text (length vs) 0 bs (within_list vs (binders_of bs)) ts ++ (codes ") " ++ (body (within_list vs (binders_of bs)) ++ codes ")")))

-- alternatives, each with a space before it
abbrev pub alts_text : List Text → Text
alts_text [] vs ts = []
alts_text (a ∷ alts) vs ts = codes " " ++ (a vs ts ++ alts_text alts vs ts)

abbrev pub else_text : Option Text → Text
else_text None vs ts = []
else_text (Some t) vs ts = codes " (else " ++ (t vs ts ++ codes ")")

abbrev pub alt_step : Table → CoreAlt-F Text Text → Text
alt_step table (CoreAlt-F.CoreAlt::Con c xs t) vs ts =
    codes "(alt " ++ (origin_text table c ++ (names_text (length vs) xs ++ (codes " " ++ (t (within_list vs xs) ts ++ codes ")"))))
alt_step table (CoreAlt-F.CoreAlt::Int n t) vs ts = codes "(int " ++ (signed_decimal n ++ (codes " " ++ (t vs ts ++ codes ")")))
alt_step table (CoreAlt-F.CoreAlt::Char c t) vs ts = codes "(char " ++ (decimal c ++ (codes " " ++ (t vs ts ++ codes ")")))

abbrev pub term_step : Table → CoreTerm-F Text Text → Text
term_step table (CoreTerm-F.Var x) vs ts = codes "v" ++ decimal (level_of vs x)
term_step table (CoreTerm-F.Global name) vs ts = core_name_text table name
term_step table (CoreTerm-F.CoreTerm::Con c) vs ts = origin_text table c
term_step table (CoreTerm-F.CoreTerm::Int n) vs ts = codes "(int " ++ (signed_decimal n ++ codes ")")
term_step table (CoreTerm-F.CoreTerm::Char c) vs ts = codes "(char " ++ (decimal c ++ codes ")")
term_step table (CoreTerm-F.Str cs) vs ts = codes "(string" ++ (numbers_text cs ++ codes ")")
term_step table (CoreTerm-F.Prim p place ty) vs ts =
    codes "(prim " ++ (origin_text table p ++ (codes " " ++ (place_text place ++ (result_text table ty ts ++ codes ")"))))
term_step table (CoreTerm-F.Lam x ty body) vs ts =
    codes "(lam " ++ (binder_text table (length vs) ty ts ++ (codes ") " ++ (body (within vs x) ts ++ codes ")")))
term_step table (CoreTerm-F.App f e) vs ts = codes "(app " ++ (f vs ts ++ (codes " " ++ (e vs ts ++ codes ")")))
term_step table (CoreTerm-F.TyLam x kind body) vs ts =
    codes "(tylam " ++ (type_binder (length ts) kind ++ (codes " " ++ (body vs (within ts x) ++ codes ")")))
term_step table (CoreTerm-F.TyApp f ty) vs ts = codes "(tyapp " ++ (f vs ts ++ (codes " " ++ (type_text table ty ts ++ codes ")")))
term_step table (CoreTerm-F.LetRec bs body) vs ts = letrec_text table (λ t. t) bs (λ vs. body vs ts) vs ts
term_step table (CoreTerm-F.Case t ty alts otherwise) vs ts =
    codes "(case " ++ (t vs ts ++ (codes " " ++ (type_text table ty ts ++ (alts_text alts vs ts ++ (else_text otherwise vs ts ++ codes ")")))))
term_step table (CoreTerm-F.Stop place ty) vs ts = codes "(stop " ++ (place_text place ++ (codes " " ++ (type_text table ty ts ++ codes ")")))

abbrev pub term_text : Table → CoreTerm → Text
term_text table = fold-CoreTerm Text Text (alt_step table) (term_step table)

abbrev pub alt_text : Table → CoreAlt → Text
alt_text table = fold-CoreAlt Text Text (alt_step table) (term_step table)

-- parameters from a place on
abbrev pub params_text : ℕ → List Kind → List ℕ
params_text place [] = []
params_text place (k ∷ ks) = gap place ++ (type_binder place k ++ params_text (suc place) ks)

-- types, each with a space before it
abbrev pub fields_text : Table → List TyNode → List ℕ
fields_text table [] = []
fields_text table (f ∷ fs) = codes " " ++ (field_text table f false ++ fields_text table fs)

abbrev pub con_text : Table → DeclCon → List ℕ
con_text table c = codes " (" ++ (origin_text table c.origin ++ (fields_text table c.fields ++ codes ")"))

abbrev pub cons_text : Table → List DeclCon → List ℕ
cons_text table [] = []
cons_text table (c ∷ cs) = con_text table c ++ cons_text table cs

abbrev pub data_word : Bool → List ℕ
data_word true = codes "(newtype "
data_word false = codes "(data "

-- a datatype, on a line of its own
abbrev pub decl_text : Table → DeclData → List ℕ
decl_text table d =
    data_word d.is_newtype ++ (origin_text table d.origin ++ (codes " (" ++ (params_text 0 d.params ++ (codes ")" ++ (cons_text table d.constructors ++ codes ")\n")))))

abbrev pub decls_text : Table → List DeclData → List ℕ
decls_text table [] = []
decls_text table (d ∷ ds) = decl_text table d ++ decls_text table ds

-- a definition, on two lines
abbrev pub def_text : Table → Def → List ℕ
def_text table d =
    codes "(def " ++ (core_name_text table d.name ++ (codes " " ++ (type_text table d.ty [] ++ (codes "\n " ++ (term_text table d.term [] [] ++ codes ")\n")))))

abbrev pub defs_text : Table → List Def → List ℕ
defs_text table [] = []
defs_text table (d ∷ ds) = def_text table d ++ defs_text table ds

-- the text of a program, with the names of this table
abbrev pub program_text : Table → CoreProgram → List ℕ
program_text table p =
    codes "(core 1\n" ++ (decls_text table p.decls ++ (defs_text table p.defs ++ (codes "(main " ++ (term_text table p.main [] [] ++ codes "))\n"))))
