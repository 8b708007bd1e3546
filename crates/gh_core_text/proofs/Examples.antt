-- Small texts, written out by hand.
use Rattle.std.proofs.Common.{◌≡◌, ℕ, pos, negsuc, true, false, [], ◌∷◌, refl}
use Rattle.std.specs.Prelude.{codes, decimal}
use Rattle.std.specs.Fmt.{digits}
use Rattle.gh_base.specs.declared.place.Origin.{Origin}
use Rattle.gh_base.specs.declared.place.Space.TheVariants.{Values}
use Rattle.gh_base.specs.declared.place.TyCon.TheVariants.{Int, Char, Arrow, Named, ConOf}
use Rattle.gh_typeterm.specs.declared.kind.Kind.TheVariants as k
use Rattle.gh_typeterm.specs.declared.ty.TyNode.TheVariants as f
use Rattle.gh_core.specs.declared.types.CoreType.TheVariants as t
use Rattle.gh_core.specs.declared.terms.CoreTerm.TheVariants as c
use Rattle.gh_core.specs.declared.terms.CoreName.TheVariants.{Hidden, Component, From}
use Rattle.gh_core.specs.Levels.{within, within_list, level_of}
use Rattle.gh_core.specs.Text.{Table, kind_text, type_text, core_name_text, tycon_text, head_text, decl_text, term_text}
use Rattle.gh_core_text.specs.Shown.{is_name}
use Rattle.gh_core_text.proofs.TypeForms.{kind_Star, kind_Arrow, type_Var, type_Con, type_App, type_Forall, type_Any, field_Var, field_App}
use Rattle.gh_core_text.proofs.Forms.{text_Var, text_Int, text_Str, text_Lam, text_TyLam, text_TyApp}

-- a table with the names that the examples need
abbrev table : Table
table = codes "Main" ∷ codes "T" ∷ codes "f" ∷ codes ":*:" ∷ []

abbrev name : ℕ → Origin
name n = record { «module» = record { 0 = 0 }; space = Values; name = record { 0 = n } }

-- the digits of a number
pub digit : decimal 0 ≡ codes "0"
unfolding digits
digit = refl

pub two_digits : decimal 30 ≡ codes "30"
unfolding digits
two_digits = refl

-- ---- levels

pub first_level : level_of (within [] 7) 7 ≡ 0
first_level = refl

pub second_level : level_of (within (within [] 7) 4) 4 ≡ 1
second_level = refl

-- the nearest binder of a number counts
pub nearest_level : level_of (within (within [] 7) 7) 7 ≡ 1
nearest_level = refl

-- of equal numbers in one list the first counts
pub first_of_list : level_of (within_list (within [] 9) (3 ∷ 3 ∷ [])) 3 ≡ 1
first_of_list = refl

pub after_list : level_of (within (within_list (within [] 9) (3 ∷ 4 ∷ [])) 5) 5 ≡ 3
after_list = refl

-- a variable that nothing binds is past them all
pub unbound_level : level_of (within (within [] 7) 4) 5 ≡ 7
unbound_level = refl

-- ---- names

pub hidden_name : core_name_text table (Hidden (name 0).«module» 3) ≡ codes "Main.pat{3}"
unfolding core_name_text digits
hidden_name = refl

pub component_name : core_name_text table (Component (name 2) (Named (name 1))) ≡ codes "Main.f{Main.T}"
unfolding core_name_text head_text
component_name = refl

pub layer_component : core_name_text table (Component (name 2) (ConOf (name 3))) ≡ codes "Main.f{Con.Main.:*:}"
unfolding core_name_text head_text
layer_component = refl

pub from_name : core_name_text table (From (Named (name 1))) ≡ codes "from{Main.T}"
unfolding core_name_text head_text
from_name = refl

pub layer_type : tycon_text table (ConOf (name 3)) ≡ codes "Prelude.Con"
unfolding tycon_text
layer_type = refl

-- ---- kinds and types

pub star_text : kind_text k.Star ≡ codes "*"
star_text = kind_Star

pub arrow_text : kind_text (k.Arrow k.Star (k.Arrow k.Star k.Star)) ≡ codes "(=> * (=> * *))"
arrow_text = simp (kind_Star, kind_Arrow)

pub int_text : type_text table (t.Con Int) [] ≡ codes "Prelude.Int"
unfolding tycon_text
int_text = simp (type_Con)

-- a spine is in one pair of brackets
pub spine : type_text table (t.App (t.App (t.Con Arrow) (t.Con Int)) (t.App (t.Con (Named (name 1))) (t.Con Char))) [] ≡ codes "(-> Prelude.Int (Main.T Prelude.Char))"
unfolding tycon_text
spine = simp (type_Con, type_App)

-- forall a. forall b. b -> a, whatever the numbers are
pub quantified : type_text table (t.Forall 8 k.Star (t.Forall 3 k.Star (t.App (t.App (t.Con Arrow) (t.Var 3)) (t.Var 8)))) []
    ≡ codes "(forall (t0 *) (forall (t1 *) (-> t1 t0)))"
unfolding tycon_text digits
quantified = simp (type_Con, type_App, type_Var, type_Forall, kind_Star)

-- a type under a binder in the head of a spine, and a closed type of a kind
pub any_head : type_text table (t.App (t.Any (k.Arrow k.Star k.Star)) (t.Con Int)) [] ≡ codes "((any (=> * *)) Prelude.Int)"
unfolding tycon_text
any_head = simp (type_Con, type_App, type_Any, kind_Star, kind_Arrow)

-- `newtype T t0 t1 = :*: (t1 t0)`
pub newtype_text : decl_text table (record { origin = name 1; is_newtype = true; params = k.Star ∷ k.Arrow k.Star k.Star ∷ []; constructors = record { origin = name 3; fields = f.App (f.Var 1) (f.Var 0) ∷ [] } ∷ [] })
    ≡ codes "(newtype Main.T ((t0 *) (t1 (=> * *))) (Main.:*: (t1 t0)))\n"
unfolding digits
newtype_text = simp (kind_Star, kind_Arrow, field_Var, field_App)

-- an empty parameter list is written, and a constructor without fields is its name in brackets
pub data_text : decl_text table (record { origin = name 1; is_newtype = false; params = []; constructors = record { origin = name 3; fields = [] } ∷ [] }) ≡ codes "(data Main.T () (Main.:*:))\n"
data_text = refl

-- ---- terms

pub negative : term_text table (c.Int (negsuc 4)) [] [] ≡ codes "(int -5)"
unfolding digits
negative = simp (text_Int)

pub string_text : term_text table (c.Str (104 ∷ 105 ∷ [])) [] [] ≡ codes "(string 104 105)"
unfolding digits
string_text = simp (text_Str)

pub empty_string : term_text table (c.Str []) [] [] ≡ codes "(string)"
empty_string = simp (text_Str)

-- λ x : Int. λ y : Int. x
pub function_text : term_text table (c.Lam 5 (t.Con Int) (c.Lam 2 (t.Con Int) (c.Var 5))) [] [] ≡ codes "(lam (v0 Prelude.Int) (lam (v1 Prelude.Int) v0))"
unfolding tycon_text digits
function_text = simp (text_Lam, text_Var, type_Con)

-- (Λ a : *. 1) Int
pub type_function : term_text table (c.TyApp (c.TyLam 5 k.Star (c.Int (pos 1))) (t.Con Int)) [] [] ≡ codes "(tyapp (tylam (t0 *) (int 1)) Prelude.Int)"
unfolding tycon_text digits
type_function = simp (text_TyApp, text_TyLam, text_Int, type_Con, kind_Star)

-- ---- types as their texts show them

pub qualified_name : is_name (codes "Main.T") ≡ true
qualified_name = refl

pub operator_name : is_name (codes "Main.:*:") ≡ true
operator_name = refl

pub arrow_name : is_name (codes "->") ≡ true
arrow_name = refl

-- these would be read as something else
pub no_variable : is_name (codes "t0") ≡ false
no_variable = refl

pub no_binder : is_name (codes "forall") ≡ false
no_binder = refl

-- the text of a type does not depend on the numbers of its bound variables
pub alike : type_text table (t.Forall 8 k.Star (t.Var 8)) [] ≡ type_text table (t.Forall 3 k.Star (t.Var 3)) []
alike = simp (type_Var, type_Forall)
