-- Top items of small files. Token `i` has the bytes from `i` up to `i + 1`. `<{`, `<;` and `<}` are marks that the layout inserted.
use Rattle.std.proofs.Common.{◌≡◌, ℕ, ◌+◌, [], ◌∷◌, None, refl}
use Rattle.gh_base.specs.declared.place.Span.{Span}
use Rattle.gh_tree.specs.declared.symbol.Kind.{Kind}
use Rattle.gh_tree.specs.declared.symbol.Kind.TheVariants as k
use Rattle.gh_tree.specs.declared.symbol.Sym.{Sym}
use Rattle.gh_tree.specs.Syms.{at, nowhere, cover}
use Rattle.gh_tree.specs.Items.{ended, not_ended, top_items, item_span}

abbrev sp : ℕ → ℕ → Span
sp a b = record { file = 1; from = a; to = b }

-- a token of the file, and a mark that the layout inserted
abbrev real : Kind → ℕ → Sym
real kind i = at kind (sp i (i + 1))

abbrev name : ℕ → Kind
name n = k.VarId None (record { 0 = n })

abbrev begin : ℕ → Sym
begin p = at (k.InsertedOpen p) nowhere

abbrev semi : ℕ → Sym
semi p = at (k.InsertedSemicolon p) nowhere

abbrev end : ℕ → Sym
end p = at (k.InsertedClose p) nowhere

--     no token
pub of_nothing : top_items [] ≡ not_ended [] ∷ []
of_nothing = refl

pub span_of_nothing : item_span (not_ended []) ≡ nowhere
unfolding cover
span_of_nothing = refl

--     an empty file: <{ <}
pub of_empty : top_items (begin 0 ∷ end 0 ∷ []) ≡ ended [] ∷ ended [] ∷ []
of_empty = refl

--     <{ x <; y <}
pub of_two : top_items (begin 0 ∷ real (name 200) 0 ∷ semi 1 ∷ real (name 201) 1 ∷ end 2 ∷ []) ≡ ended [] ∷ ended (real (name 200) 0 ∷ []) ∷ ended (real (name 201) 1 ∷ []) ∷ []
of_two = refl

--     module where { ; x }
pub of_empty_item : top_items (real k.Module 0 ∷ real k.Where 1 ∷ real k.OpenBrace 2 ∷ real k.Semicolon 3 ∷ real (name 200) 4 ∷ real k.CloseBrace 5 ∷ [])
    ≡ ended (real k.Module 0 ∷ real k.Where 1 ∷ []) ∷ ended [] ∷ ended (real (name 200) 4 ∷ []) ∷ []
of_empty_item = refl

--     <{ x where { a ; b } <; y <} : the `;` of an inner block cuts nothing
pub of_inner_block : top_items (begin 0 ∷ real (name 200) 0 ∷ real k.Where 1 ∷ real k.OpenBrace 2 ∷ real (name 201) 3 ∷ real k.Semicolon 4 ∷ real (name 202) 5 ∷ real k.CloseBrace 6 ∷ semi 7 ∷ real (name 203) 7 ∷ end 8 ∷ [])
    ≡ ended [] ∷ ended (real (name 200) 0 ∷ real k.Where 1 ∷ real k.OpenBrace 2 ∷ real (name 201) 3 ∷ real k.Semicolon 4 ∷ real (name 202) 5 ∷ real k.CloseBrace 6 ∷ []) ∷ ended (real (name 203) 7 ∷ []) ∷ []
of_inner_block = refl

--     { ( ; ) } : a `;` of the body cuts inside parentheses too
pub of_parentheses : top_items (real k.OpenBrace 0 ∷ real k.Open 1 ∷ real k.Semicolon 2 ∷ real k.Close 3 ∷ real k.CloseBrace 4 ∷ []) ≡ ended [] ∷ ended (real k.Open 1 ∷ []) ∷ ended (real k.Close 3 ∷ []) ∷ []
of_parentheses = refl

--     module x : no `{`, so all tokens are item 0, which does not end as an item does
pub of_no_body : top_items (real k.Module 0 ∷ real (name 200) 1 ∷ []) ≡ not_ended (real k.Module 0 ∷ real (name 200) 1 ∷ []) ∷ []
of_no_body = refl

--     { x ; y } z : what follows the body is of the last item
pub of_trailing : top_items (real k.OpenBrace 0 ∷ real (name 200) 1 ∷ real k.Semicolon 2 ∷ real (name 201) 3 ∷ real k.CloseBrace 4 ∷ real (name 202) 5 ∷ [])
    ≡ ended [] ∷ ended (real (name 200) 1 ∷ []) ∷ not_ended (real (name 201) 3 ∷ real k.CloseBrace 4 ∷ real (name 202) 5 ∷ []) ∷ []
of_trailing = refl

--     its span is from its first to its last token
pub span_of_trailing : item_span (not_ended (real (name 201) 3 ∷ real k.CloseBrace 4 ∷ real (name 202) 5 ∷ [])) ≡ sp 3 6
unfolding cover
span_of_trailing = refl
