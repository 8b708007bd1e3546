-- What the conversions of pairs do, of the terms that the code makes.
use Rattle.std.proofs.Common.{◌≡◌, List, map}
use Rattle.gh_typeterm.specs.declared.decl.DeclData.{DeclData}
use Rattle.gh_typeterm.specs.declared.ty.TyNode.{TyNode}
use Rattle.gh_core.specs.declared.terms.CoreTerm.{CoreTerm}
use Rattle.gh_core.specs.SameType.{Nameless}
use Rattle.gh_core.specs.Typing.{code_of}
use Rattle.gh_adapt.specs.PairGoes.{MarkerGoes, KeptGoes, ArrowGoes, DataGoes, BimapGoes}
use Rattle.gh_adapt.specs.TypedPairs.{adapter_code, bimap_code}
use Rattle.gh_adapt.specs.Untyped.{untyped}
use Rattle.gh_adapt.proofs.PairForms.{adapter_seen, bimap_seen}
use Rattle.gh_adapt.proofs.PairRuns.{marker_goes, kept_goes, arrow_goes, data_goes, bimap_goes}

module _ (t : CoreTerm) (base : TyNode) (l r o : List Nameless) (pairs : List CoreTerm) (e : code_of t ≡ adapter_code base l r o (map code_of pairs)) where
  pub adapter_at_marker : MarkerGoes (map untyped pairs) base (untyped t)
  adapter_at_marker = marker_goes (map untyped pairs) base (untyped t) (adapter_seen t base l r o pairs e)

  pub adapter_at_kept : KeptGoes (map untyped pairs) base (untyped t)
  adapter_at_kept = kept_goes (map untyped pairs) base (untyped t) (adapter_seen t base l r o pairs e)

  pub adapter_at_arrow : ArrowGoes (map untyped pairs) base (untyped t)
  adapter_at_arrow = arrow_goes (map untyped pairs) base (untyped t) (adapter_seen t base l r o pairs e)

  pub adapter_at_data : DataGoes (map untyped pairs) base (untyped t)
  adapter_at_data = data_goes (map untyped pairs) base (untyped t) (adapter_seen t base l r o pairs e)

pub bimap_runs : (t : CoreTerm) (d : DeclData) → code_of t ≡ bimap_code d → BimapGoes d (untyped t)
bimap_runs t d e = bimap_goes d (untyped t) (bimap_seen t d e)
