-- Each line is computed.
use Rattle.std.proofs.Common.{◌≡◌, ◌∙◌, ap, arith, refl, subst, sym, ℕ, List, [], ◌∷◌, None, Some, codes}
use Rattle.std.specs.Str.{chars}
use Rattle.std.proofs.Math.Utf8.{encode}
use Rattle.std.proofs.lemmas.List.Elements.{All-head, All-tail}
use Rattle.unicode_width.specs.Width.{alone, char_width, past_emoji, step, str_width}
use Rattle.ansi_scan.specs.declared.style.color.AnsiColor.TheVariants.{Bit4}
use Rattle.ansi_scan.specs.Attributes.{Attributes, plain_attributes}
use Rattle.ansi_scan.specs.Pieces.{pieces, first_pieces, leading_piece, at_escape, sequence_front, opened, control_from, string_from, escape_from}
use Rattle.ansi_scan.specs.Rendition.{applied, after_parameters}
use Rattle.ansi_scan.specs.Sequences.{Piece}
use Rattle.ansi_scan.proofs.Uniqueness.{pieces-ArePiecesOf}
use Rattle.ansi_str.specs.Lines.{IsClosedLine}
use Rattle.ansi_str.specs.StyledText.{IsClosed}
use Rattle.ansi_str.specs.Characters.{shown_chars}
use Rattle.grid_records_measure.specs.Measures.{line_cost, measure}
use Rattle.basinmug_laws.proofs.additive.even_lines_by_hand.Goals as goal

-- what a closed line has of its pieces
pieces-of : (line : List ℕ) (P : List Piece → Type 0) (is : IsClosedLine line) → P is.pieces → P (pieces line)
pieces-of line P is p = subst P (sym (pieces-ArePiecesOf line is.pieces is.of_line)) p

cost : line_cost (shown_chars (codes "abc")) ≡ 3
unfolding chars encode pieces first_pieces leading_piece at_escape sequence_front opened control_from string_from escape_from char_width str_width step past_emoji alone
cost = refl

one : measure (shown_chars (codes "a")) ≡ 1
unfolding chars encode pieces first_pieces leading_piece at_escape sequence_front opened control_from string_from escape_from char_width str_width step past_emoji alone
one = refl

left-open : IsClosed (pieces (codes "\u{1b}[31mabc")) → ⊥
unfolding chars encode pieces first_pieces leading_piece at_escape sequence_front opened control_from string_from escape_from applied after_parameters plain_attributes
left-open closed =
    let plain : record plain_attributes { foreground = Some (Bit4 31) } ≡ plain_attributes = closed.plain in
    let clash : Some (Bit4 31) ≡ None = ap (λ (a : Attributes). a.foreground) plain in
    cc clash

not-closed : IsClosedLine (codes "\u{1b}[31mabc") → ⊥
not-closed line = left-open (pieces-of (codes "\u{1b}[31mabc") IsClosed line line.closed)

pub returns : goal.returns
returns c = record {
  uneven = λ is.
      let two = All-head (λ line. line_cost (shown_chars line) ≡ 2) (codes "abc") [] (All-tail (λ line. line_cost (shown_chars line) ≡ 2) (codes "ab") (codes "abc" ∷ []) is.even) in
      let clash : 3 ≡ 2 = sym cost ∙ two in
      absurd (omega arith);
  left_open = λ is. not-closed (All-head IsClosedLine (codes "\u{1b}[31mabc") [] is.closed);
  unevenly_measured = λ is.
      let two = All-head (λ line. measure (shown_chars line) ≡ 2) (codes "a") [] (All-tail (λ line. measure (shown_chars line) ≡ 2) (codes "ab") (codes "a" ∷ []) is.even) in
      let clash : 1 ≡ 2 = sym one ∙ two in
      absurd (omega arith);
  measured_and_open = λ is. not-closed (All-head IsClosedLine (codes "\u{1b}[31mabc") [] is.closed);
}
