-- What is read as a declaration of the top is the print of a well-formed one.
use Rattle.std.proofs.Common.{◌≡◌, ℕ, true, ◌&&◌, ◌==◌, cond, arith, List, [], ◌∷◌, ◌++◌, map, Some, None, refl, sym, ap, ◌∙◌}
use Rattle.std.proofs.lemmas.Bool.Decides.{nat_tests}
use Rattle.gh_base.specs.declared.place.Span.{Span}
use Rattle.gh_base.specs.declared.fixed.TheConstants.{EXTENDS}
use Rattle.gh_base.specs.declared.names.NameId.{NameId}
use Rattle.gh_tree.specs.declared.symbol.Kind.{Kind}
use Rattle.gh_tree.specs.declared.symbol.Kind.TheVariants as k
use Rattle.gh_tree.specs.declared.symbol.Sym.{Sym}
use Rattle.gh_tree.specs.declared.names.Var.{Var}
use Rattle.gh_tree.specs.declared.tops.Top.{Top}
use Rattle.gh_tree.specs.declared.tops.Top.TheVariants as v_Top
use Rattle.gh_tree.specs.Syms.{at}
use Rattle.gh_tree.specs.Print.{Print, flat_all, good_all}
use Rattle.gh_tree.specs.Print as printed
use Rattle.gh_tree.specs.Read.{taken, kind, bytes, after, expect, covered}
use Rattle.gh_tree.specs.ReadNames.{var_next, var}
use Rattle.gh_tree.specs.ReadExports.{any_var, con, module_name}
use Rattle.gh_tree.specs.ReadTypes.{arg_type}
use Rattle.gh_tree.specs.ReadPatterns.{args}
use Rattle.gh_tree.proofs.Steps.{bound, both, and_is, spanned_taken}
use Rattle.gh_tree.proofs.Many.{Taken}
use Rattle.gh_reader.proofs.Sound.{SoundAt, built, between3}
use Rattle.gh_reader.proofs.NamesSound.{var_print, var_sound}
use Rattle.gh_parse_heads.proofs.Sound.{any_var_sound, con_sound, module_name_sound}
use Rattle.gh_parse_types.proofs.Sound as types
use Rattle.gh_parse_patterns.proofs.Sound.{args_sound}
use Rattle.gh_parse_exps.specs.Knot.{Knot}
use Rattle.gh_parse_exps.specs.Ops.{is_banana}
use Rattle.gh_parse_exps.specs.Marks.{is_equals, is_colons, is_close_banana}
use Rattle.gh_parse_exps.specs.Decls.{rhs, decl}
use Rattle.gh_parse_exps.proofs.SoundKnot.{KnotSound}
use Rattle.gh_parse_exps.proofs.SoundMarks.{either, equals_sound, colons_sound, banana_sound, close_banana_sound}
use Rattle.gh_parse_exps.proofs.SoundDecls.{rhs_sound, decl_sound}
use Rattle.gh_parse_tops.specs.Generics.{words, gen_vars, context, gen_vars_next, is_extends}
use Rattle.gh_parse_tops.specs.Tops.{constr, next_constrs, synonym, datatype, newtype, gen_signature, extension, extension_next, last_var, after_var, generic_next, gen_case, generic, plain_top, other_top, top_by, top}
use Rattle.gh_parse_tops.proofs.DeclLooks.{after_var_is}
use Rattle.gh_parse_tops.proofs.SoundGenerics.{words_sound, gen_vars_sound, context_sound}
use Rattle.gh_parse_tops.proofs.SoundConstrs.{constr_sound, next_constrs_sound}

-- ---- a generic function that extends another

nat_is : (a b : ℕ) → (a == b) ≡ true → a ≡ b
nat_is a b e = grind (arith, nat_tests)

extends_id : (n : NameId) → (n.0 == EXTENDS.0) ≡ true → n ≡ EXTENDS
extends_id n e = let h = nat_is n.0 EXTENDS.0 e in λ t. record { 0 = h t }

extends_is : (x : Kind) → is_extends (Some x) ≡ true → x ≡ k.VarId None EXTENDS
extends_is (k.VarId None n) e = ap (λ m. k.VarId None m) (extends_id n e)
extends_is _ e = absurd (cc)

extends_first : (ss : List Sym) → is_extends (kind ss) ≡ true → ss ≡ at (k.VarId None EXTENDS) (bytes ss) ∷ after ss
extends_first [] e = absurd (cc)
extends_first (s ∷ ss) e = let j = extends_is s.kind e in λ t. at (j t) s.span ∷ ss

extension_sound : (ss : List Sym) (x : Top) (rest : List Sym) → extension_next ss ≡ true → extension ss ss ≡ taken x rest → Taken printed.top ss x rest
unfolding extension extension_next
extension_sound ss x rest is e =
    let h = bound (var ss) _ x rest e in
    let i = bound (any_var (after h.mid)) _ x rest h.then in
    let name = var_sound ss h.x h.mid h.first in
    let given = any_var_sound (after h.mid) i.x i.mid i.first in
    let behind : after_var ss ≡ h.mid = ap after_var name.flat ∙ after_var_is h.x h.mid in
    let g = both (var_next ss) (is_extends (kind (after_var ss)) && last_var (after (after_var ss))) is in
    let gs = both (is_extends (kind (after_var ss))) (last_var (after (after_var ss))) g.1 in
    let mark = extends_first h.mid (ap (λ us. is_extends (kind us)) (sym behind) ∙ gs.0) in
    let more : List Sym = at (k.VarId None EXTENDS) (bytes h.mid) ∷ printed.var i.x in
    let flat : ss ≡ (printed.var h.x ++ more) ++ i.mid = between3 ss h.mid (printed.var h.x) more i.mid name.flat (mark ∙ ap (λ us. at (k.VarId None EXTENDS) (bytes h.mid) ∷ us) given.flat) in
    built printed.top (printed.top (v_Top.Extends (covered ss i.mid) h.x (bytes h.mid) i.x)) ss i.mid _ x rest refl i.then flat (spanned_taken ss i.mid _ _ flat name.good)

module _ (K : Knot) (sound : KnotSound K) where
  synonym_sound : (a : Span) (ss : List Sym) (x : Top) (rest : List Sym) → synonym K.typ (at k.TypeWord a ∷ ss) (at k.TypeWord a ∷ ss) ≡ taken x rest → Taken printed.top (at k.TypeWord a ∷ ss) x rest
  unfolding synonym
  synonym_sound a ss x rest e =
      let start : List Sym = at k.TypeWord a ∷ ss in
      let f = bound (module_name ss) _ x rest e in
      let g = bound (words f.mid) _ x rest f.then in
      let h = bound (expect is_equals g.mid) _ x rest g.then in
      let i = bound (K.typ h.mid) _ x rest h.then in
      let name = module_name_sound ss f.x f.mid f.first in
      let names = words_sound f.mid g.x g.mid g.first in
      let mark = equals_sound g.mid h.x h.mid h.first in
      let typ = sound.typ h.mid i.x i.mid i.first in
      let end : List Sym = at k.Equals h.x ∷ (printed.type_expr i.x).flat in
      let last : g.mid ≡ end ++ i.mid = mark ∙ ap (λ us. at k.Equals h.x ∷ us) typ.flat in
      let flat : start ≡ at k.TypeWord a ∷ printed.con_id f.x ∷ (((printed.tyvars g.x).flat ++ end) ++ i.mid) =
      ap (λ us. at k.TypeWord a ∷ us) (name.flat ∙ ap (λ us. printed.con_id f.x ∷ us) (between3 f.mid g.mid (printed.tyvars g.x).flat end i.mid names.flat last)) in
      built printed.top (printed.top (v_Top.Synonym (covered start i.mid) a f.x g.x h.x i.x)) start i.mid _ x rest refl i.then flat (spanned_taken start i.mid _ _ flat (and_is name.good (and_is names.good typ.good)))

  datatype_sound : (a : Span) (ss : List Sym) (x : Top) (rest : List Sym) → datatype K.typ (at k.Data a ∷ ss) (at k.Data a ∷ ss) ≡ taken x rest → Taken printed.top (at k.Data a ∷ ss) x rest
  unfolding datatype
  datatype_sound a ss x rest e =
      let start : List Sym = at k.Data a ∷ ss in
      let f = bound (module_name ss) _ x rest e in
      let g = bound (words f.mid) _ x rest f.then in
      let h = bound (expect is_equals g.mid) _ x rest g.then in
      let i = bound (constr K.typ h.mid) _ x rest h.then in
      let j = bound (next_constrs K.typ i.mid) _ x rest i.then in
      let name = module_name_sound ss f.x f.mid f.first in
      let names = words_sound f.mid g.x g.mid g.first in
      let mark = equals_sound g.mid h.x h.mid h.first in
      let first = constr_sound K.typ sound.typ h.mid i.x i.mid i.first in
      let others = next_constrs_sound K.typ sound.typ i.mid j.x j.mid j.first in
      let inside : List Sym = (printed.constr i.x).flat ++ flat_all (map printed.next_constr j.x) in
      let all : h.mid ≡ inside ++ j.mid = between3 h.mid i.mid (printed.constr i.x).flat (flat_all (map printed.next_constr j.x)) j.mid first.flat others.flat in
      let end : List Sym = at k.Equals h.x ∷ inside in
      let last : g.mid ≡ end ++ j.mid = mark ∙ ap (λ us. at k.Equals h.x ∷ us) all in
      let flat : start ≡ at k.Data a ∷ printed.con_id f.x ∷ (((printed.tyvars g.x).flat ++ end) ++ j.mid) =
      ap (λ us. at k.Data a ∷ us) (name.flat ∙ ap (λ us. printed.con_id f.x ∷ us) (between3 f.mid g.mid (printed.tyvars g.x).flat end j.mid names.flat last)) in
      built printed.top (printed.top (v_Top.Data (covered start j.mid) a f.x g.x h.x i.x j.x)) start j.mid _ x rest refl j.then flat (spanned_taken start j.mid _ _ flat (and_is name.good (and_is names.good (and_is first.good others.good))))

  newtype_sound : (a : Span) (ss : List Sym) (x : Top) (rest : List Sym) → newtype K.typ (at k.Newtype a ∷ ss) (at k.Newtype a ∷ ss) ≡ taken x rest → Taken printed.top (at k.Newtype a ∷ ss) x rest
  unfolding newtype
  newtype_sound a ss x rest e =
      let start : List Sym = at k.Newtype a ∷ ss in
      let f = bound (module_name ss) _ x rest e in
      let g = bound (words f.mid) _ x rest f.then in
      let h = bound (expect is_equals g.mid) _ x rest g.then in
      let i = bound (con h.mid) _ x rest h.then in
      let j = bound (arg_type K.typ i.mid) _ x rest i.then in
      let name = module_name_sound ss f.x f.mid f.first in
      let names = words_sound f.mid g.x g.mid g.first in
      let mark = equals_sound g.mid h.x h.mid h.first in
      let first = con_sound h.mid i.x i.mid i.first in
      let field = types.arg_sound K.typ sound.typ i.mid j.x j.mid j.first in
      let inside : List Sym = printed.con i.x ++ (printed.arg_type j.x).flat in
      let all : h.mid ≡ inside ++ j.mid = between3 h.mid i.mid (printed.con i.x) (printed.arg_type j.x).flat j.mid first.flat field.flat in
      let end : List Sym = at k.Equals h.x ∷ inside in
      let last : g.mid ≡ end ++ j.mid = mark ∙ ap (λ us. at k.Equals h.x ∷ us) all in
      let flat : start ≡ at k.Newtype a ∷ printed.con_id f.x ∷ (((printed.tyvars g.x).flat ++ end) ++ j.mid) =
      ap (λ us. at k.Newtype a ∷ us) (name.flat ∙ ap (λ us. printed.con_id f.x ∷ us) (between3 f.mid g.mid (printed.tyvars g.x).flat end j.mid names.flat last)) in
      built printed.top (printed.top (v_Top.Newtype (covered start j.mid) a f.x g.x h.x i.x j.x)) start j.mid _ x rest refl j.then flat (spanned_taken start j.mid _ _ flat (and_is name.good (and_is names.good (and_is first.good field.good))))

  -- ---- generic functions

  signature_sound : (us ss : List Sym) (v : Var) (x : Top) (rest : List Sym) → Taken var_print us v ss → gen_signature K.typ us v ss ≡ taken x rest → Taken printed.top us x rest
  unfolding gen_signature
  signature_sound us ss v x rest before e =
      let f = bound (gen_vars ss) _ x rest e in
      let g = bound (expect is_colons f.mid) _ x rest f.then in
      let h = bound (context g.mid) _ x rest g.then in
      let i = bound (K.typ h.mid) _ x rest h.then in
      let vars = gen_vars_sound ss f.x f.mid f.first in
      let mark = colons_sound f.mid g.x g.mid g.first in
      let deps = context_sound g.mid h.x h.mid h.first in
      let typ = sound.typ h.mid i.x i.mid i.first in
      let inside : List Sym = (printed.context h.x).flat ++ (printed.type_expr i.x).flat in
      let end : List Sym = at k.Colons g.x ∷ inside in
      let last : f.mid ≡ end ++ i.mid = mark ∙ ap (λ ts. at k.Colons g.x ∷ ts) (between3 g.mid h.mid (printed.context h.x).flat (printed.type_expr i.x).flat i.mid deps.flat typ.flat) in
      let more : List Sym = (printed.gen_vars f.x).flat ++ end in
      let flat : us ≡ (printed.var v ++ more) ++ i.mid = between3 us ss (printed.var v) more i.mid before.flat (between3 ss f.mid (printed.gen_vars f.x).flat end i.mid vars.flat last) in
      built printed.top (printed.top (v_Top.Signature (covered us i.mid) v f.x g.x h.x i.x)) us i.mid _ x rest refl i.then flat (spanned_taken us i.mid _ _ flat (and_is before.good (and_is vars.good (and_is deps.good typ.good))))

  case_sound : (us ss : List Sym) (v : Var) (x : Top) (rest : List Sym) → Taken var_print us v ss → gen_case K us v ss ≡ taken x rest → Taken printed.top us x rest
  unfolding gen_case
  case_sound us ss v x rest before e =
      let f = bound (expect is_banana ss) _ x rest e in
      let g = bound (K.typ f.mid) _ x rest f.then in
      let h = bound (expect is_close_banana g.mid) _ x rest g.then in
      let i = bound (args K.arg h.mid) _ x rest h.then in
      let j = bound (rhs K i.mid) _ x rest i.then in
      let left = banana_sound ss f.x f.mid f.first in
      let typ = sound.typ f.mid g.x g.mid g.first in
      let right = close_banana_sound g.mid h.x h.mid h.first in
      let patterns = args_sound K.arg sound.arg h.mid i.x i.mid i.first in
      let side = rhs_sound K sound i.mid j.x j.mid j.first in
      let inside : List Sym = flat_all (map printed.arg_pattern i.x) ++ (printed.rhs j.x).flat in
      let end : List Sym = at k.CloseBanana h.x ∷ inside in
      let last : g.mid ≡ end ++ j.mid = right ∙ ap (λ ts. at k.CloseBanana h.x ∷ ts) (between3 h.mid i.mid (flat_all (map printed.arg_pattern i.x)) (printed.rhs j.x).flat j.mid patterns.flat side.flat) in
      let more : List Sym = at k.OpenBanana f.x ∷ ((printed.type_expr g.x).flat ++ end) in
      let behind : ss ≡ more ++ j.mid = left ∙ ap (λ ts. at k.OpenBanana f.x ∷ ts) (between3 f.mid g.mid (printed.type_expr g.x).flat end j.mid typ.flat last) in
      let flat : us ≡ (printed.var v ++ more) ++ j.mid = between3 us ss (printed.var v) more j.mid before.flat behind in
      built printed.top (printed.top (v_Top.Case (covered us j.mid) v f.x g.x h.x i.x j.x)) us j.mid _ x rest refl j.then flat (spanned_taken us j.mid _ _ flat (and_is before.good (and_is typ.good (and_is patterns.good side.good))))

  generic_sound : (ss : List Sym) (x : Top) (rest : List Sym) → generic K ss ss ≡ taken x rest → Taken printed.top ss x rest
  unfolding generic
  generic_sound ss x rest e =
      let h = bound (var ss) _ x rest e in
      let name = var_sound ss h.x h.mid h.first in
      either printed.top ss x rest (gen_vars_next h.mid) (gen_signature K.typ ss h.x h.mid) (gen_case K ss h.x h.mid) (λ b. signature_sound ss h.mid h.x x rest name) (λ b. case_sound ss h.mid h.x x rest name) h.then

  -- ---- declarations of the last form

  plain_sound : (ss : List Sym) (x : Top) (rest : List Sym) → plain_top K ss ≡ taken x rest → Taken printed.top ss x rest
  plain_sound ss x rest e =
      let h = bound (decl K ss) _ x rest e in
      let d = decl_sound K sound ss h.x h.mid h.first in
      built printed.top (printed.decl h.x) ss h.mid _ x rest refl h.then d.flat d.good

  no_generic_sound : (ss : List Sym) (x : Top) (rest : List Sym) → cond (extension_next ss) (extension ss ss) (plain_top K ss) ≡ taken x rest → Taken printed.top ss x rest
  no_generic_sound ss x rest e = either printed.top ss x rest (extension_next ss) (extension ss ss) (plain_top K ss) (λ b. extension_sound ss x rest b) (λ b. plain_sound ss x rest) e

  other_sound : (ss : List Sym) (x : Top) (rest : List Sym) → other_top K ss ss ≡ taken x rest → Taken printed.top ss x rest
  other_sound ss x rest e = either printed.top ss x rest (generic_next ss) (generic K ss ss) (cond (extension_next ss) (extension ss ss) (plain_top K ss)) (λ b. generic_sound ss x rest) (λ b. no_generic_sound ss x rest) e

  top_by_sound : (kind : Kind) (span : Span) (ss : List Sym) (x : Top) (rest : List Sym) → top_by K (Some kind) (at kind span ∷ ss) (at kind span ∷ ss) ≡ taken x rest → Taken printed.top (at kind span ∷ ss) x rest
  top_by_sound k.TypeWord a ss x rest e = synonym_sound a ss x rest e
  top_by_sound k.Data a ss x rest e = datatype_sound a ss x rest e
  top_by_sound k.Newtype a ss x rest e = newtype_sound a ss x rest e
  top_by_sound kind a ss x rest e = other_sound (at kind a ∷ ss) x rest e

  pub top_sound : SoundAt printed.top (top K)
  unfolding top
  top_sound [] x rest e = other_sound [] x rest e
  top_sound (s ∷ ss) x rest e = top_by_sound s.kind s.span ss x rest e
