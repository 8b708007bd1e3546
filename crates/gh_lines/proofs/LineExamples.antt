-- Small cases of the lines on err, worked out by hand.
use Rattle.std.proofs.Common.{◌≡◌, [], ◌∷◌, ◌++◌, refl}
use Rattle.std.specs.Fmt.{digits}
use Rattle.std.specs.Prelude.{codes}
use Rattle.gh_base.specs.declared.Refusal.TheVariants as refusal
use Rattle.gh_lines.specs.Lines.{refusal_line_of, variant_of, fields_of}

-- line 2, column 4: a line feed and three characters stand before
line_of_a_refusal : refusal_line_of [] (record { name = codes "a.hs"; bytes = codes "ab" ++ (10 ∷ codes "   x") } ∷ []) (refusal.NoToken (record { file = 1; from = 6; to = 7 }))
    ≡ codes "a.hs:2:4: 2 NoToken" ++ 10 ∷ []
unfolding refusal_line_of variant_of fields_of digits
line_of_a_refusal = refl

-- a tab goes on to column 9
line_behind_a_tab : refusal_line_of (codes "x" ∷ []) (record { name = codes "a.hs"; bytes = 9 ∷ codes "x" } ∷ [])
    (refusal.UnknownName (record { file = 1; from = 1; to = 2 }) (record { 0 = 0 })) ≡ codes "a.hs:1:9: 16 UnknownName x" ++ 10 ∷ []
unfolding refusal_line_of variant_of fields_of digits
line_behind_a_tab = refl

line_of_a_long_file : refusal_line_of [] (record { name = codes "a.hs"; bytes = [] } ∷ []) (refusal.FileTooLong (record { file = 1; from = 0; to = 0 }))
    ≡ codes "a.hs: 36 FileTooLong" ++ 10 ∷ []
unfolding refusal_line_of variant_of fields_of digits
line_of_a_long_file = refl

line_without_main : refusal_line_of [] [] refusal.NoMain ≡ codes "genhs: 38 NoMain" ++ 10 ∷ []
unfolding refusal_line_of variant_of fields_of digits
line_without_main = refl
