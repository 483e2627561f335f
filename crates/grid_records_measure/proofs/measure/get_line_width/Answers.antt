-- The characters from the back, turned round, are those that the text shows.
use Rattle.std.proofs.Common.{rules, ◌≡◌, ◌<◌, ◌^◌, ℕ, List, length, reverse, ap, sym, ◌∙◌, arith}
use Rattle.std.specs.Prelude.{chars, encode_utf8_all}
use Rattle.ansi_scan.specs.Sequences.{Piece}
use Rattle.ansi_scan.specs.Pieces.{pieces}
use Rattle.ansi_scan.proofs.Existence.{ArePiecesOf-pieces}
use Rattle.ansi_scan.proofs.Uniqueness.{pieces-ArePiecesOf}
use Rattle.ansi_str.specs.StyledText.{strip}
use Rattle.ansi_str_search.proofs.TextLemmas.Stripping.{strip-without_escape}
use Rattle.grid_records_measure.specs.Measures.{measure}
use Rattle.grid_records_measure.proofs.Drained.{Drains-last, length-encode_shown}
use Rattle.grid_records_measure.proofs.measure.get_line_width.Goals as goal

pub returns-then-not-ansi_has_any-clause-pieces : goal.returns-then-not-ansi_has_any-clause-pieces
returns-then-not-ansi_has_any-clause-pieces c = λ found of_text.
    c.get_string_width.ensures ∙ ap (λ (bytes : List ℕ). measure (chars bytes)) (sym (strip-without_escape c.args.text.now found of_text (sym c.ansi_has_any.ensures ∙ c.if-not-ansi_has_any.true)))

pub returns-then-not-ansi_has_any-clause-text : goal.returns-then-not-ansi_has_any-clause-text
returns-then-not-ansi_has_any-clause-text c = returns-then-not-ansi_has_any-clause-pieces c (pieces c.args.text.now) (ArePiecesOf-pieces c.args.text.now)

pub returns-in-Some-clause-pieces : goal.returns-in-Some-clause-pieces
returns-in-Some-clause-pieces c = λ found of_text.
    c.in-Some.ensures ∙ ap (λ (ps : List Piece). measure (chars (strip ps))) (pieces-ArePiecesOf c.args.text.now found of_text)

pub returns-in-Some-clause-text : goal.returns-in-Some-clause-text
returns-in-Some-clause-text c = c.in-Some.ensures

pub returns-in-None-clause-pieces : goal.returns-in-None-clause-pieces
returns-in-None-clause-pieces c = λ found of_text.
    (let cs : List ℕ = c.char_iter_width.ensures.0 in
    let shown : c.stripped_chars.result ≡ chars (strip found) = c.stripped_chars.ensures.characters found of_text in
    let turned : reverse cs ≡ c.stripped_chars.result = Drains-last (λ (characters : List ℕ). characters) c.stripped_chars.result cs c.char_iter_width.ensures.1 in
    let fits : length c.args.text.now < 2 ^ 63 = search rules in
    let bytes : length (encode_utf8_all cs) < 2 ^ 63 = omega (arith, fits, length-encode_shown c.args.text.now found cs c.utf8.text of_text (turned ∙ shown)) in
    c.char_iter_width.ensures.2 bytes ∙ ap measure (turned ∙ shown))

pub returns-in-None-clause-text : goal.returns-in-None-clause-text
returns-in-None-clause-text c = returns-in-None-clause-pieces c (pieces c.args.text.now) (ArePiecesOf-pieces c.args.text.now)
