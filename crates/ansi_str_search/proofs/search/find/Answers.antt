-- Each search gives the first match.
use Rattle.std.proofs.Common.{◌≡◌, ◌∙◌, ◌∷◌, [], ap, length, get_or, List, ℕ, arith}
use Rattle.ansi_scan.specs.Sequences.{Piece}
use Rattle.ansi_scan.specs.Pieces.{pieces}
use Rattle.ansi_str_search.specs.Text.StyledText.{strip}
use Rattle.ansi_str_search.specs.Matches.{IsFirstMatch}
use Rattle.ansi_str_search.specs.PartsLeft.{first_match}
use Rattle.ansi_str_search.specs.Searches.{IsFound}
use Rattle.ansi_str_search.proofs.Finds.{IsUtf8-shown}
use Rattle.ansi_str_search.proofs.Searches.{of_pieces}
use Rattle.ansi_str_search.proofs.FirstPlaces.{is_found, found-empty, one_byte}
use Rattle.ansi_str_search.proofs.search.find.Goals as goal

pub returns-in-empty : goal.returns-in-empty
returns-in-empty c =
    let text = c.args.text.now in
    let p = c.args.pattern.now in
    let same : length c.as_bytes.result.now ≡ length p = ap (λ (bytes : List ℕ). length bytes) c.as_bytes.ensures.value in
    let none : length p ≡ 0 = omega (arith, same, c.in-empty.len_below) in
    of_pieces (λ (ps : List Piece). IsFirstMatch p (strip ps) 0 0) text (found-empty p (strip (pieces text)) none (IsUtf8-shown text c.utf8.text))

pub returns-in-len1 : goal.returns-in-len1
returns-in-len1 c =
    let text = c.args.text.now in
    let p = c.args.pattern.now in
    let same : length c.as_bytes.result.now ≡ length p = ap (λ (bytes : List ℕ). length bytes) c.as_bytes.ensures.value in
    let one : length p ≡ 1 = omega (arith, same, c.in-len1.len_at_least, c.in-len1.len_below) in
    let found =
    c.find_byte.ensures.found ∙ ap (λ (bytes : List ℕ). first_match (get_or bytes 0 0 ∷ []) 0 (strip (pieces text))) c.as_bytes.ensures.value
    ∙ ap (λ (q : List ℕ). first_match q 0 (strip (pieces text))) (one_byte p one) in
    of_pieces (λ (ps : List Piece). IsFound p (strip ps) c.find_byte.result) text
    (is_found p (strip (pieces text)) c.find_byte.result found)

pub returns-in_default : goal.returns-in_default
returns-in_default c =
    let text = c.args.text.now in
    let p = c.args.pattern.now in
    of_pieces (λ (ps : List Piece). IsFound p (strip ps) c.find_at_characters.result) text
    (is_found p (strip (pieces text)) c.find_at_characters.result c.find_at_characters.ensures)
