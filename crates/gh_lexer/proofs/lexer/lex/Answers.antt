use Rattle.std.proofs.Common.{◌≡◌, ◌<◌, sym, ap, ◌∙◌, subst, Ok, Err, length}
use Rattle.std.specs.Str.Lossy.{utf8_valid_len}
use Rattle.std.specs.Result.{IfOk}
use Rattle.gh_base.specs.declared.refusal.Refusal.TheVariants.{NotUtf8}
use Rattle.gh_lexer.specs.Reading.{Lexemes, reading, byte_at}
use Rattle.gh_lexer.specs.Seen.{lexemes_in}
use Rattle.gh_lexer.proofs.Once.{reading_once}
use Rattle.gh_lexer.proofs.Utf8.{read_utf8, not_utf8}
use Rattle.gh_lexer.proofs.lexer.lex.Goals as goal

pub returns-in-Err-clause-refused : goal.returns-in-Err-clause-refused
returns-in-Err-clause-refused c =
    let bytes = c.args.bytes.now in
    let at : utf8_valid_len bytes ≡ c.valid_up_to.result = sym c.in-Err.ensures.valid_len ∙ sym c.valid_up_to.ensures in
    let short : utf8_valid_len bytes < length bytes = rw (← c.in-Err.ensures.valid_len) c.in-Err.ensures.cases.1.short in
    let here : reading c.args.file bytes ≡ Err (NotUtf8 c.one_byte.result) =
    not_utf8 c.args.file bytes short ∙ ap (λ n. Err (NotUtf8 (byte_at c.args.file n))) at ∙ ap (λ s. Err (NotUtf8 s)) (sym c.one_byte.ensures) in
    λ r e. here ∙ ap Err (cc)

pub returns-clause-found : goal.returns-clause-found
returns-clause-found c =
    let P : Lexemes → Type 0 = λ x. IfOk c.tokens_of.result (λ ts. x ≡ Ok (lexemes_in c.tokens_of.new.names ts)) in
    subst P (sym (read_utf8 c.args.file c.args.bytes.now c.in_default.ensures.cases.1)) c.tokens_of.ensures.found

pub returns-clause-refused : goal.returns-clause-refused
returns-clause-refused c = λ r e. read_utf8 c.args.file c.args.bytes.now c.in_default.ensures.cases.1 ∙ c.tokens_of.ensures.refused r e

pub returns-clause-once : goal.returns-clause-once
returns-clause-once c = λ a b p q. reading_once c.args.file c.args.bytes.now a b p q
