-- A text of printable ASCII is its only line, and each of its bytes takes a column.
use Rattle.std.proofs.Common.{◌≡◌, ◌∙◌, ℕ, Bool, true, false, List, [], ◌∷◌, All, ap, arith, length, max, refl, subst, sym}
use Rattle.std.specs.Int.{is_in_range}
use Rattle.std.specs.Prelude.{◌==◌, ◌||◌}
use Rattle.std.proofs.lemmas.Bool.{and_parts}
use Rattle.std.proofs.lemmas.Bool.Decides.{nat_tests}
use Rattle.std.proofs.lemmas.List.Elements.{All-cons, All-nil}
use Rattle.std.proofs.lemmas.List.Splits.{slice_split_none}
use Rattle.std.specs.List.{slice_split}
use Rattle.ansi_scan.specs.Pieces.{pieces}
use Rattle.ansi_scan.specs.Sequences.{ArePiecesOf, Piece, escape}
use Rattle.ansi_scan.proofs.Existence.{ArePiecesOf-pieces}
use Rattle.ansi_str_search.specs.Text.StyledText.{has_escape}
use Rattle.ansi_str_search.proofs.TextLemmas.Stripping.{strip-without_escape}
use Rattle.grid_records_measure.specs.Measures.{are_printable}
use Rattle.grid_records_measure.specs.TextLines.{is_line_feed, line_measure, shown_lines, text_height, text_lines, widest}
use Rattle.grid_records_measure.proofs.PrintableWidth.{measure-printable}
use Rattle.grid_records_traits.proofs.TextAnswers.{HasLineCount-text_lines, IsLineAt-text_lines}
use Rattle.grid_records_traits.specs.Cells.{HasLineCount, HasWidth, IsLineAt, line_at}
use Rattle.grid_records_traits.specs.SingleLines.{IsSingleLine}
use Rattle.grid_records.proofs.RowsLemmas.KeptLines.{only_plain}

no_escape-here : (b : ℕ) → is_in_range 0x20 0x7E b ≡ true → (b == escape) ≡ false
no_escape-here b h = grind (arith, nat_tests)

no_feed-here : (b : ℕ) → is_in_range 0x20 0x7E b ≡ true → is_line_feed b ≡ false
no_feed-here b h = grind (arith, nat_tests)

both : (b : ℕ) (bs : List ℕ) → are_printable (b ∷ bs) ≡ true → (is_in_range 0x20 0x7E b ≡ true) × (are_printable bs ≡ true)
both b bs h = and_parts (is_in_range 0x20 0x7E b) (are_printable bs) h

no_escape : (text : List ℕ) → are_printable text ≡ true → has_escape text ≡ false
no_escape [] h = refl
no_escape (b ∷ bs) h = ap (λ (t : Bool). t || has_escape bs) (no_escape-here b (both b bs h).0) ∙ no_escape bs (both b bs h).1

no_feeds : (text : List ℕ) → are_printable text ≡ true → All (λ b. is_line_feed b ≡ false) text
no_feeds [] h = All-nil (λ b. is_line_feed b ≡ false)
no_feeds (b ∷ bs) h = All-cons (λ b. is_line_feed b ≡ false) b bs (no_feed-here b (both b bs h).0) (no_feeds bs (both b bs h).1)

shown : (text : List ℕ) (pieces : List Piece) → are_printable text ≡ true → ArePiecesOf text pieces → shown_lines pieces ≡ text ∷ []
shown text pieces h are = ap (slice_split is_line_feed) (strip-without_escape text pieces are (no_escape text h)) ∙ slice_split_none is_line_feed text (no_feeds text h)

one-line : (text : List ℕ) → are_printable text ≡ true → text_height text ≡ 1
unfolding text_height
one-line text h = ap length (shown text (pieces text) h (ArePiecesOf-pieces text))

pub printable-lines : (text : List ℕ) → are_printable text ≡ true → text_lines text ≡ text ∷ []
printable-lines text h = only_plain text 1 (no_escape text h) (sym (one-line text h)) refl

pub printable-width : (text : List ℕ) → are_printable text ≡ true → HasWidth text (length text)
printable-width text h = λ pieces are.
    let alone : max (line_measure text) 0 ≡ line_measure text = omega arith in
    sym (ap widest (shown text pieces h are) ∙ alone ∙ measure-printable text h)

-- a text that is its only line is plain
pub only_line-plain : (text : List ℕ) (width : ℕ) → text_lines text ≡ text ∷ [] → HasWidth text width → IsSingleLine text width
only_line-plain text width one wide = (
  subst (HasLineCount text) (ap length one) (HasLineCount-text_lines text),
  wide,
  subst (IsLineAt text 0) (ap (λ lines. line_at lines 0) one) (IsLineAt-text_lines text 0),
)
