-- The name of a span's file is no longer than the longest one.
use Rattle.std.proofs.Common.{ℕ, zero, suc, ◌≤◌, List, [], ◌∷◌, length, slice_index_or, arith}
use Rattle.gh_base.specs.declared.Span.{Span}
use Rattle.gh_lines.specs.declared.source.Source.{Source}
use Rattle.gh_lines.specs.Lines.{empty_source, longest_name, source_of}

within_at : (files : List Source) (i : ℕ) → length (slice_index_or files i empty_source).name ≤ longest_name files
within_at [] i = omega arith
within_at (f ∷ files) zero = omega arith
within_at (f ∷ files) (suc i) = omega (arith, within_at files i)

pub name_within : (files : List Source) (s : Span) → length (source_of files s).name ≤ longest_name files
name_within files s = within_at files _
