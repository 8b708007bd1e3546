-- Type names for parameters, and types for the names.
use Rattle.std.proofs.Common.{◌≡◌, ◌<◌, ℕ, zero, suc, List, [], ◌∷◌, length, refl, ap, ap₂, arith}
use Rattle.std.specs.Prelude.{unwrap_or}
use Rattle.gh_base.specs.declared.place.Span.{Span}
use Rattle.gh_kernel.specs.Conversions.{nowhere}
use Rattle.gh_kernel.specs.ConversionLaws.{NamesThenTypes, BodyInstances}
use Rattle.gh_kernel.specs.Instances.{nth}
use Rattle.gh_kernel.specs.Terms.{to_data, TypeTerm, tycon, tyvar, tyapp, tyname, tylocal, app, call, convert}

-- a place within the list has a type
listed : (ts : List (TypeTerm Span)) (v : ℕ) (s u : TypeTerm Span) → v < length ts → unwrap_or (nth ts v) s ≡ unwrap_or (nth ts v) u
listed [] v s u h = absurd (omega (arith, h))
listed (t ∷ ts) zero s u h = refl
listed (t ∷ ts) (suc v) s u h = listed ts v s u (omega (arith, h))

pub names_then_types : NamesThenTypes
names_then_types ts (tycon c) h = refl
names_then_types ts (tyvar v) h = listed ts v (tyname v) (tyvar v) h
names_then_types ts (tyapp f t) h = ap₂ tyapp (names_then_types ts f h.0) (names_then_types ts t h.1)
names_then_types ts (tyname k) h = absurd h
names_then_types ts (tylocal k table) h = refl

pub body_instances : BodyInstances
body_instances h f ts t over = ap (λ u. app nowhere (convert nowhere to_data h f.generic f.base) (call nowhere f.name u)) (names_then_types ts t over)
