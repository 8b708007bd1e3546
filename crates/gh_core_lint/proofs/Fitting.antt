-- Lists of datatypes, constructors and fields whose types are of values.
use Rattle.std.proofs.Common.{◌≡◌, ℕ, ◌+◌, ◌<◌, List, [], ◌∷◌, ◌++◌, map, take, length, get_or, sym, ap, subst, ◌∙◌, arith}
use Rattle.std.proofs.lemmas.List.{take_more, map-append}
use Rattle.std.specs.Prelude.{reverse}
use Rattle.gh_typeterm.specs.declared.kind.Kind.{Kind}
use Rattle.gh_typeterm.specs.declared.kind.Kind.TheVariants as kind
use Rattle.gh_typeterm.specs.declared.ty.TyNode.{TyNode}
use Rattle.gh_typeterm.specs.declared.decl.DeclCon.{DeclCon}
use Rattle.gh_typeterm.specs.declared.decl.DeclData.{DeclData}
use Rattle.gh_core.specs.SameType.{Nameless}
use Rattle.gh_core.specs.Typing.{field_type, field_types, ConsFit, DeclsFit, FieldsFit, HasKind}

-- one item more
taken : {X : Type 0} (xs : List X) (i : ℕ) (x : X) → i < length xs → x ≡ get_or xs i x → take (i + 1) xs ≡ take i xs ++ x ∷ []
taken xs i x lt is = take_more xs i x lt ∙ ap (λ y. take i xs ++ y ∷ []) (sym is)

-- fields
fields_append : (decls : List DeclData) (ks : List Kind) (ts : List Nameless) (t : Nameless) → FieldsFit decls ks ts → HasKind decls [] ks t kind.Star → FieldsFit decls ks (ts ++ t ∷ [])
fields_append decls ks [] t h k = (k, tt)
fields_append decls ks (x ∷ ts) t h k = (h.0, fields_append decls ks ts t h.1 k)

pub fields_more : (decls : List DeclData) (ks : List Kind) (n : ℕ) (ts : List TyNode) (i : ℕ) (t : TyNode) → i < length ts → t ≡ get_or ts i t
    → FieldsFit decls ks (map (field_type n) (take i ts)) → HasKind decls [] ks (field_type n t) kind.Star → FieldsFit decls ks (map (field_type n) (take (i + 1) ts))
fields_more decls ks n ts i t lt is h k =
    subst (FieldsFit decls ks) (sym (ap (map (field_type n)) (taken ts i t lt is) ∙ map-append (field_type n) (take i ts) (t ∷ [])))
    (fields_append decls ks (map (field_type n) (take i ts)) (field_type n t) h k)

pub field_one : (decls : List DeclData) (ks : List Kind) (n : ℕ) (ts : List TyNode) (i : ℕ) (d : TyNode) → i < length ts → FieldsFit decls ks (map (field_type n) ts)
    → HasKind decls [] ks (field_type n (get_or ts i d)) kind.Star
field_one decls ks n [] i d lt h = absurd (omega arith)
field_one decls ks n (t ∷ ts) ℕ.zero d lt h = h.0
field_one decls ks n (t ∷ ts) (ℕ.suc i) d lt h = field_one decls ks n ts i d (omega arith) h.1

-- constructors
abbrev pub ConFits : List DeclData → DeclData → DeclCon → Type 0
ConFits decls d c = FieldsFit decls (reverse d.params) (field_types d c)

cons_append : (decls : List DeclData) (d : DeclData) (cs : List DeclCon) (c : DeclCon) → ConsFit decls d cs → ConFits decls d c → ConsFit decls d (cs ++ c ∷ [])
cons_append decls d [] c h k = (k, tt)
cons_append decls d (x ∷ cs) c h k = (h.0, cons_append decls d cs c h.1 k)

pub cons_more : (decls : List DeclData) (d : DeclData) (cs : List DeclCon) (i : ℕ) (c : DeclCon) → i < length cs → c ≡ get_or cs i c
    → ConsFit decls d (take i cs) → ConFits decls d c → ConsFit decls d (take (i + 1) cs)
cons_more decls d cs i c lt is h k = subst (ConsFit decls d) (sym (taken cs i c lt is)) (cons_append decls d (take i cs) c h k)

pub con_one : (decls : List DeclData) (d : DeclData) (cs : List DeclCon) (i : ℕ) (e : DeclCon) → i < length cs → ConsFit decls d cs → ConFits decls d (get_or cs i e)
con_one decls d [] i e lt h = absurd (omega arith)
con_one decls d (c ∷ cs) ℕ.zero e lt h = h.0
con_one decls d (c ∷ cs) (ℕ.suc i) e lt h = con_one decls d cs i e (omega arith) h.1

-- datatypes
abbrev pub DeclFits : List DeclData → DeclData → Type 0
DeclFits decls d = ConsFit decls d d.constructors

decls_append : (decls : List DeclData) (ds : List DeclData) (d : DeclData) → DeclsFit decls ds → DeclFits decls d → DeclsFit decls (ds ++ d ∷ [])
decls_append decls [] d h k = (k, tt)
decls_append decls (x ∷ ds) d h k = (h.0, decls_append decls ds d h.1 k)

pub decls_more : (decls : List DeclData) (ds : List DeclData) (i : ℕ) (d : DeclData) → i < length ds → d ≡ get_or ds i d
    → DeclsFit decls (take i ds) → DeclFits decls d → DeclsFit decls (take (i + 1) ds)
decls_more decls ds i d lt is h k = subst (DeclsFit decls) (sym (taken ds i d lt is)) (decls_append decls (take i ds) d h k)

pub decl_one : (decls : List DeclData) (ds : List DeclData) (i : ℕ) (e : DeclData) → i < length ds → DeclsFit decls ds → DeclFits decls (get_or ds i e)
decl_one decls [] i e lt h = absurd (omega arith)
decl_one decls (d ∷ ds) ℕ.zero e lt h = h.0
decl_one decls (d ∷ ds) (ℕ.suc i) e lt h = decl_one decls ds i e (omega arith) h.1
