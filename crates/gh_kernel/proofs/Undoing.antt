-- The two conversions of a datatype undo one another.
use Rattle.std.proofs.Common.{ℕ, suc, Bool, List, [], ◌∷◌, length}
use Rattle.gh_base.specs.declared.fixed.TheConstants.{UNIT, PRODUCT, CON}
use Rattle.gh_base.specs.declared.place.Span.{Span}
use Rattle.gh_core.specs.Primitives.{prelude_value}
use Rattle.gh_typeterm.specs.Representation.{paths_of}
use Rattle.gh_kernel.specs.ConversionLaws.{Fits, fits_variable, fits_constructor, FitAll, fit_none, fit_more, Undo, ConversionsUndo}
use Rattle.gh_kernel.specs.Conversions.{nowhere, one_pattern, made, variables, variable_patterns, patterns_of, opened, product, product_pattern, injection, injected, injected_pattern, represented, represented_pattern, from_rows, to_rows}
use Rattle.gh_kernel.specs.Programs.{Constructor, Exp}
use Rattle.gh_kernel.specs.Terms.{Pat, no_pat}

fields_fit : {A : Type 0} (i : ℕ) (fs : List A) → FitAll (patterns_of (variable_patterns i fs)) (variables i fs)
fields_fit i [] = fit_none
fields_fit i (f ∷ fs) = fit_more (fits_variable nowhere nowhere i) (fields_fit (suc i) fs)

product_fits : {A : Type 0} (i : ℕ) (fs : List A) → Fits (product_pattern (variable_patterns i fs)) (product (variables i fs))
product_fits i [] = fits_constructor nowhere nowhere (prelude_value UNIT) no_pat [] fit_none
product_fits i (f ∷ []) = fits_variable nowhere nowhere i
product_fits i (f ∷ g ∷ fs) =
    fits_constructor nowhere nowhere (prelude_value PRODUCT) _ _ (fit_more (fits_variable nowhere nowhere i) (fit_more (product_fits (suc i) (g ∷ fs)) fit_none))

injected_fits : (bs : List Bool) (p : Pat Span) (e : Exp) → Fits p e → Fits (injected_pattern bs p) (injected bs e)
injected_fits [] p e f = f
injected_fits (b ∷ bs) p e f = fits_constructor nowhere nowhere (injection b) (one_pattern (injected_pattern bs p)) (injected bs e ∷ []) (fit_more (injected_fits bs p e f) fit_none)

represented_fits : (count index : ℕ) (c : Constructor) → Fits (represented_pattern count index c) (represented count index c)
represented_fits count index c =
    injected_fits (paths_of count index) _ _ (fits_constructor nowhere nowhere (prelude_value CON) _ _ (fit_more (product_fits 0 c.fields) fit_none))

opened_fits : (c : Constructor) → Fits (opened c) (made nowhere c.name (variables 0 c.fields))
opened_fits c = fits_constructor nowhere nowhere c.name _ _ (fields_fit 0 c.fields)

rows_undo : (count index : ℕ) (cs : List Constructor) → Undo (from_rows count index cs) (to_rows count index cs)
rows_undo count index [] = tt
rows_undo count index (c ∷ cs) = (represented_fits count index c, opened_fits c, rows_undo count (suc index) cs)

pub conversions_undo : ConversionsUndo
conversions_undo cs = rows_undo (length cs) 0 cs
