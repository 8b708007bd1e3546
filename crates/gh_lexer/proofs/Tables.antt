-- Ids while the table of names grows.
use Rattle.std.proofs.Common.{◌≡◌, ℕ, ◌<◌, List, [], ◌∷◌, ◌++◌, length, option_map, Option, Some, None, refl, ap, ◌∙◌, arith, length-append}
use Rattle.std.proofs.Math.ListN.{get_or-append}
use Rattle.gh_base.specs.declared.names.NameId.{NameId}
use Rattle.gh_base.specs.Ids.{text_in}
use Rattle.gh_base.specs.Table.{IsGrown, place_of}
use Rattle.gh_base.proofs.Places.{place_grown}
use Rattle.gh_lexer.specs.declared.token.TokenKind.{TokenKind}
use Rattle.gh_lexer.specs.declared.token.TokenKind.TheVariants as kind
use Rattle.gh_lexer.specs.declared.token.Token.{Token}
use Rattle.gh_lexer.specs.Lexeme.{Named, Word, Mark}
use Rattle.gh_lexer.specs.Seen.{Table, piece_in, lexeme_in, lexemes_in, IsPlaced, IsPlacedIfSome, IdsPlaced, AllPlaced}

kept_text : (old more : Table) (id : NameId) → id.0 < length old → text_in (old ++ more) id ≡ text_in old id
kept_text old more id h = get_or-append old more [] id.0 h

module _ (old new : Table) (g : IsGrown old new) where
  pub same_text : (id : NameId) → id.0 < length old → text_in new id ≡ text_in old id
  same_text id h = ap (λ t. text_in t id) g.is ∙ kept_text old g.more id h

  pub placed_grown : (id : NameId) → IsPlaced old id → IsPlaced new id
  placed_grown id p = record {
    known = omega (arith, p.known, ap length g.is, length-append old g.more);
    place = ap (place_of new) (same_text id p.known) ∙ place_grown old new (text_in old id) id.0 g p.place;
  }

  placed_if : (q : Option NameId) → IsPlacedIfSome old q → IsPlacedIfSome new q
  placed_if None p = tt
  placed_if (Some id) p = placed_grown id p

  same_if : (q : Option NameId) → IsPlacedIfSome old q → option_map (λ i. text_in new i) q ≡ option_map (λ i. text_in old i) q
  same_if None p = refl
  same_if (Some id) p = ap Some (same_text id p.known)

  pub kept_piece : (k : TokenKind) → IdsPlaced old k → piece_in new k ≡ piece_in old k
  kept_piece (kind.Name c q id) h = ap (λ o. Named c o (text_in new id)) (same_if q h.0) ∙ ap (Named c (option_map (λ i. text_in old i) q)) (same_text id h.1.known)
  kept_piece (kind.Word id) h = ap Word (same_text id h.known)
  kept_piece (kind.Mark id) h = ap Mark (same_text id h.known)
  kept_piece (kind.Int n) h = refl
  kept_piece (kind.Char c) h = refl
  kept_piece (kind.Str chars) h = refl

  pub kept_ids : (k : TokenKind) → IdsPlaced old k → IdsPlaced new k
  kept_ids (kind.Name c q id) h = (placed_if q h.0, placed_grown id h.1)
  kept_ids (kind.Word id) h = placed_grown id h
  kept_ids (kind.Mark id) h = placed_grown id h
  kept_ids (kind.Int n) h = tt
  kept_ids (kind.Char c) h = tt
  kept_ids (kind.Str chars) h = tt

  pub kept_all : (ts : List Token) → AllPlaced old ts → AllPlaced new ts
  kept_all [] h = tt
  kept_all (t ∷ ts) h = (kept_ids t.kind h.0, kept_all ts h.1)

  pub kept_lexemes : (ts : List Token) → AllPlaced old ts → lexemes_in new ts ≡ lexemes_in old ts
  kept_lexemes [] h = refl
  kept_lexemes (t ∷ ts) h =
      ap (λ p. record { piece = p; span = t.span; line = t.line; column = t.column; first = t.first } ∷ lexemes_in new ts) (kept_piece t.kind h.0)
      ∙ ap (λ ls. lexeme_in old t ∷ ls) (kept_lexemes ts h.1)

pub placed_push : (table : Table) (ts : List Token) (t : Token) → AllPlaced table ts → IdsPlaced table t.kind → AllPlaced table (ts ++ t ∷ [])
placed_push table [] t all one = (one, tt)
placed_push table (x ∷ ts) t all one = (all.0, placed_push table ts t all.1 one)

-- a number that the table gives for a text is placed
pub placed_by : (table : Table) (text : List ℕ) (id : NameId) → id.0 < length table → text_in table id ≡ text → place_of table text ≡ Some id.0 → IsPlaced table id
placed_by table text id h e p = record { known = h; place = ap (place_of table) e ∙ p }
