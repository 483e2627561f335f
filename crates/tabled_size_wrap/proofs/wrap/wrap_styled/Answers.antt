-- A text in no columns, one that is printable, and any other, are wrapped to the one text that this makes.
use Rattle.std.proofs.Common.{◌≡◌, ◌∙◌, ◌<◌, List, true, sym, arith, string_bytes}
use Rattle.std.specs.Cow.{cow_str_bytes}
use Rattle.std.proofs.lemmas.Result.{IfOk-weaker}
use Rattle.ansi_scan.specs.Pieces.{pieces}
use Rattle.ansi_scan.specs.Sequences.{Piece, ArePiecesOf}
use Rattle.grid_records_measure.specs.Measures.{are_printable}
use Rattle.tabled_size_wrap.specs.Bytes.{wrapped_text}
use Rattle.tabled_size_wrap.specs.Wrapping.{IsWrapped}
use Rattle.ansi_scan.proofs.Existence.{ArePiecesOf-pieces}
use Rattle.tabled_size_wrap.proofs.Bytes.{wrapped_text-one}
use Rattle.tabled_size_wrap.proofs.Printable.{printable-is_wrapped}
use Rattle.tabled_size_wrap.proofs.Wraps.{wrapped-nothing}
use Rattle.tabled_size_wrap.proofs.wrap.wrap_styled.Goals as goal

pub returns-clause-bytes : goal.returns-clause-bytes
returns-clause-bytes c =
    let text = c.args.text.now in
    let width = c.args.width in
    IfOk-weaker c.wrap_each_line.result (λ out. (ps : List Piece) → ArePiecesOf text ps → IsWrapped width c.args.keep_words ps (string_bytes out))
    (λ out. string_bytes out ≡ wrapped_text width c.args.keep_words text)
    (λ out is. wrapped_text-one width c.args.keep_words text (string_bytes out) (pieces text) (ArePiecesOf-pieces text) (is (pieces text) (ArePiecesOf-pieces text)))
    c.wrap_each_line.ensures

pub returns-then-width-eq0-clause-bytes : goal.returns-then-width-eq0-clause-bytes
returns-then-width-eq0-clause-bytes c =
    let text = c.args.text.now in
    wrapped_text-one c.args.width c.args.keep_words text (string_bytes c.new.result) (pieces text) (ArePiecesOf-pieces text)
    (wrapped-nothing c.args.width c.args.keep_words (pieces text) (string_bytes c.new.result) c.if-width-eq0.true c.new.ensures.bytes)

-- printable ASCII is its only line
pub returns-then-is_printable-clause-wrapped : goal.returns-then-is_printable-clause-wrapped
returns-then-is_printable-clause-wrapped c =
    let text = c.args.text.now in
    let width = c.args.width in
    let some : 0 < width = omega (arith, c.if-width-eq0.false) in
    let printable : are_printable text ≡ true = sym c.is_printable.ensures ∙ c.if-is_printable.true in
    IfOk-weaker c.into_owned.result (λ out. string_bytes out ≡ cow_str_bytes c.in_ok-made.made.text)
    (λ out. (ps : List Piece) → ArePiecesOf text ps → IsWrapped width c.args.keep_words ps (string_bytes out))
    (λ out is ps of_text. printable-is_wrapped text (string_bytes out) width c.args.keep_words ps some printable c.if-not-keep_words.true of_text (is ∙ c.in_ok-made.ensures)) c.into_owned.ensures.ok

pub returns-then-is_printable-clause-bytes : goal.returns-then-is_printable-clause-bytes
returns-then-is_printable-clause-bytes c =
    let text = c.args.text.now in
    let width = c.args.width in
    IfOk-weaker c.into_owned.result (λ out. (ps : List Piece) → ArePiecesOf text ps → IsWrapped width c.args.keep_words ps (string_bytes out))
    (λ out. string_bytes out ≡ wrapped_text width c.args.keep_words text)
    (λ out is. wrapped_text-one width c.args.keep_words text (string_bytes out) (pieces text) (ArePiecesOf-pieces text) (is (pieces text) (ArePiecesOf-pieces text)))
    (returns-then-is_printable-clause-wrapped c)
