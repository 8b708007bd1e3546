use Rattle.std.proofs.Common.{◌≡◌, ◌≤◌, ◌+◌, ◌==◌, not, sym, ap, ◌∙◌, Ok, Err, None, length, take, drop, refl}
use Rattle.gh_base.specs.Table.{grown_same, grown_then}
use Rattle.gh_lexer.specs.Scan.{scan_at}
use Rattle.gh_lexer.specs.Reading.{valued, refusal_of, read}
use Rattle.gh_base.specs.declared.refusal.Fault.TheVariants as fault
use Rattle.gh_lexer.specs.declared.token.Token.{Token}
use Rattle.gh_lexer.specs.Seen.{piece_if, IdsPlaced}
use Rattle.gh_lexer.specs.Place.{moved}
use Rattle.gh_lexer.proofs.Lexing.{where_at, started, refused_here, refused_value, skip_step, token_step, finished}
use Rattle.gh_lexer.proofs.lexer.tokens_of.Goals as goal
use Rattle.gh_lexer.proofs.lexer.tokens_of.Goals.{in-Some+in_ok-push, in_default}

pub loop-at-init : goal.loop-at-init
loop-at-init c = record { lexed = rw c.new-tokens.ensures (started c.args.file c.args.bytes.now c.args.names.now); grows = grown_same c.args.names.now }

pub returns-in-Err-clause-refused : goal.returns-in-Err-clause-refused
returns-in-Err-clause-refused c =
    let w = where_at c.loop-at.at c.loop-at.place c.loop-at.last in
    let bytes = c.args.bytes.now in
    let none : scan_at (drop c.loop-at.at bytes) ≡ Err c.in-Err.wrong = ap scan_at (sym c.from_place-rest.ensures) ∙ sym c.scan.ensures.value ∙ c.in-Err.is in
    let here : read c.args.file bytes ≡ Err (refusal_of c.args.file c.loop-at.at c.in-Err.wrong) =
    refused_here c.args.file bytes w c.loop-at-test.true c.loop-at.names c.loop-at.tokens c.loop-at.invariant.lexed c.in-Err.wrong none in
    λ r e. here ∙ ap Err (sym c.refusal.ensures ∙ cc)

pub returns-in-Err-kind_of-clause-refused : goal.returns-in-Err-kind_of-clause-refused
returns-in-Err-kind_of-clause-refused c =
    let w = where_at c.loop-at.at c.loop-at.place c.loop-at.last in
    let bytes = c.args.bytes.now in
    let found : scan_at (drop c.loop-at.at bytes) ≡ Ok c.in-Ok.found = ap scan_at (sym c.from_place-rest.ensures) ∙ sym c.scan.ensures.value ∙ c.in-Ok.is in
    let within : c.in-Ok.found.len ≤ length (drop c.loop-at.at bytes) = rw (← c.from_place-rest.ensures) c.in-Ok.ensures.within.in_bounds in
    let text = c.front-text.ensures ∙ ap (take c.in-Ok.found.len) c.from_place-rest.ensures in
    λ r e. refused_value c.args.file bytes w c.loop-at-test.true c.loop-at.names c.loop-at.tokens c.loop-at.invariant.lexed c.in-Ok.found found c.in-Ok.ensures.within.some within r
    (let same : c.in-Err-kind_of.fault ≡ fault.Refused r = cc in ap (valued c.args.file c.loop-at.at c.in-Ok.found.class) (sym text) ∙ c.in-Err-kind_of.ensures.refused r (ap Err same))

pub loop-at-preserved : goal.loop-at-preserved
loop-at-preserved c =
    let w = where_at c.loop-at.at c.loop-at.place c.loop-at.last in
    let bytes = c.args.bytes.now in
    let found : scan_at (drop c.loop-at.at bytes) ≡ Ok c.in-Ok.found = ap scan_at (sym c.from_place-rest.ensures) ∙ sym c.scan.ensures.value ∙ c.in-Ok.is in
    let within : c.in-Ok.found.len ≤ length (drop c.loop-at.at bytes) = rw (← c.from_place-rest.ensures) c.in-Ok.ensures.within.in_bounds in
    let text = c.front-text.ensures ∙ ap (take c.in-Ok.found.len) c.from_place-rest.ensures in
    let value : valued c.args.file c.loop-at.at c.in-Ok.found.class (take c.in-Ok.found.len (drop c.loop-at.at bytes)) ≡ Ok (piece_if c.kind_of.new.names c.in-Ok-kind_of.kind) =
    ap (valued c.args.file c.loop-at.at c.in-Ok.found.class) (sym text) ∙ c.in-Ok-kind_of.ensures.piece in
    let place : c.advance-after.result ≡ moved c.in-Ok.found.len (drop c.loop-at.at bytes) c.loop-at.place =
    c.advance-after.ensures.value ∙ ap (λ b. moved c.in-Ok.found.len b c.loop-at.place) c.from_place-rest.ensures in
    record {
      lexed = elim c.match-kind.branch [
        | in-Some+in_ok-push s ↦
            let t : Token = record {
              kind = s.in-Some.kind;
              span = record { file = c.args.file; from = c.loop-at.at; to = c.loop-at.at + c.in-Ok.found.len };
              line = c.loop-at.place.line;
              column = c.loop-at.place.column;
              first = not (c.loop-at.place.line == c.loop-at.last);
            } in
            let ids : IdsPlaced c.kind_of.new.names s.in-Some.kind = rw s.in-Some.is at c.in-Ok-kind_of.ensures.ids in
            let step = token_step c.args.file bytes w c.loop-at-test.true c.loop-at.names c.loop-at.tokens c.loop-at.invariant.lexed c.in-Ok.found found c.in-Ok.ensures.within.some within
            c.advance-after.result place c.advance-after.ensures.line c.advance-after.ensures.column c.kind_of.new.names c.kind_of.ensures.grows t
            (value ∙ ap (λ k. Ok (piece_if c.kind_of.new.names k)) s.in-Some.is) ids refl in
            rw (s.tokens-is, s.in_ok-push.ensures.ok, s.token_at.ensures, s.last-is) step
        | in_default s ↦
            let none : c.in-Ok-kind_of.kind ≡ None = s.in_default.is in
            let step = skip_step c.args.file bytes w c.loop-at-test.true c.loop-at.names c.loop-at.tokens c.loop-at.invariant.lexed c.in-Ok.found found c.in-Ok.ensures.within.some within
            c.advance-after.result place c.advance-after.ensures.line c.advance-after.ensures.column c.kind_of.new.names c.kind_of.ensures.grows
            (value ∙ ap (λ k. Ok (piece_if c.kind_of.new.names k)) none) in
            rw (s.tokens-is, s.last-is) step
      ];
      grows = grown_then c.args.names.now c.loop-at.names c.kind_of.new.names c.loop-at.invariant.grows c.kind_of.ensures.grows;
    }

pub returns-clause-found : goal.returns-clause-found
returns-clause-found c =
    finished c.args.file c.args.bytes.now c.loop-at.names c.loop-at.tokens (where_at c.loop-at.at c.loop-at.place c.loop-at.last) c.loop-at.invariant.lexed c.loop-at-test.false
