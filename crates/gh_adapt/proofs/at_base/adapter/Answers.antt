use Rattle.std.proofs.Common.{map, ap, ◌∙◌}
use Rattle.gh_core.specs.Typing.{code_of, type_of}
use Rattle.gh_adapt.specs.Untyped.{first_type, second_type}
use Rattle.gh_adapt.proofs.PairForms.{adapter_seen}
use Rattle.gh_adapt.proofs.PairStripped.{adapter_at_marker, adapter_at_kept, adapter_at_arrow, adapter_at_data}
use Rattle.gh_adapt.proofs.at_base.adapter.Goals as goal

pub returns-clause-term : goal.returns-clause-term
returns-clause-term c =
    adapter_seen c.into_inner.result c.args.base.now (map first_type c.args.types.now) (map second_type c.args.types.now) (map type_of c.args.others.now) c.args.pairs.now
    (ap code_of c.into_inner.ensures ∙ c.in_ok-made.ensures)

pub returns-clause-marker : goal.returns-clause-marker
returns-clause-marker c =
    adapter_at_marker c.into_inner.result c.args.base.now (map first_type c.args.types.now) (map second_type c.args.types.now) (map type_of c.args.others.now) c.args.pairs.now
    (ap code_of c.into_inner.ensures ∙ c.in_ok-made.ensures)

pub returns-clause-kept : goal.returns-clause-kept
returns-clause-kept c =
    adapter_at_kept c.into_inner.result c.args.base.now (map first_type c.args.types.now) (map second_type c.args.types.now) (map type_of c.args.others.now) c.args.pairs.now
    (ap code_of c.into_inner.ensures ∙ c.in_ok-made.ensures)

pub returns-clause-function : goal.returns-clause-function
returns-clause-function c =
    adapter_at_arrow c.into_inner.result c.args.base.now (map first_type c.args.types.now) (map second_type c.args.types.now) (map type_of c.args.others.now) c.args.pairs.now
    (ap code_of c.into_inner.ensures ∙ c.in_ok-made.ensures)

pub returns-clause-datatype : goal.returns-clause-datatype
returns-clause-datatype c =
    adapter_at_data c.into_inner.result c.args.base.now (map first_type c.args.types.now) (map second_type c.args.types.now) (map type_of c.args.others.now) c.args.pairs.now
    (ap code_of c.into_inner.ensures ∙ c.in_ok-made.ensures)
