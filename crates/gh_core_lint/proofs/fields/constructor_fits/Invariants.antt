use Rattle.std.proofs.Common.{length, map, take}
use Rattle.std.specs.Prelude.{reverse}
use Rattle.gh_core.specs.Typing.{field_type, FieldsFit}
use Rattle.gh_core_lint.proofs.fields.constructor_fits.Given as goal

abbrev pub invariant-loop-ty : goal.invariant-loop-ty
invariant-loop-ty l = FieldsFit l.known.decls.now (reverse l.decl.params) (map (field_type (length l.decl.params)) (take l.ty-index l.con.fields))
