-- Each line is computed.
use Rattle.std.proofs.Common.{◌≡◌, ◌≤◌, ◌∙◌, ap, arith, refl, subst, sym, ℕ, Bool, true, false, List, [], ◌∷◌, All, None, Some, codes}
use Rattle.std.specs.Prelude.{◌==◌}
use Rattle.std.specs.List.{list_any}
use Rattle.std.specs.Str.{chars}
use Rattle.std.proofs.Math.Utf8.{encode}
use Rattle.std.proofs.lemmas.List.Elements.{All-cons, All-head, All-nil, All-tail}
use Rattle.unicode_width.specs.Width.{alone, char_width, past_emoji, step, str_width}
use Rattle.ansi_scan.specs.declared.style.color.AnsiColor.TheVariants.{Bit4}
use Rattle.ansi_scan.specs.Attributes.{Attributes, plain_attributes}
use Rattle.ansi_scan.specs.Pieces.{pieces, first_pieces, leading_piece, at_escape, sequence_front, opened, control_from, string_from, escape_from}
use Rattle.ansi_scan.specs.Rendition.{applied, after_parameters}
use Rattle.ansi_scan.specs.Sequences.{Piece}
use Rattle.ansi_scan.proofs.Existence.{ArePiecesOf-pieces}
use Rattle.ansi_scan.proofs.Uniqueness.{pieces-ArePiecesOf}
use Rattle.ansi_str.specs.Characters.{shown_chars}
use Rattle.ansi_str.specs.Lines.{IsClosedLine}
use Rattle.ansi_str.specs.StyledText.{IsClosed, strip}
use Rattle.grid_records_measure.specs.Measures.{measure}
use Rattle.basinmug_laws.proofs.widths.lines_within_by_hand.Goals as goal

no-more : 3 ≤ 2 → ⊥
no-more less = absurd (omega arith)

-- what a closed line has of its pieces
pieces-of : (line : List ℕ) (P : List Piece → Type 0) (is : IsClosedLine line) → P is.pieces → P (pieces line)
pieces-of line P is p = subst P (sym (pieces-ArePiecesOf line is.pieces is.of_line)) p

plain-closed : IsClosedLine (codes "ab")
unfolding chars encode pieces first_pieces leading_piece at_escape sequence_front opened control_from string_from escape_from applied after_parameters plain_attributes
plain-closed = record {
  pieces = pieces (codes "ab");
  of_line = ArePiecesOf-pieces (codes "ab");
  closed = record { none_broken = ((λ same. cc same), tt); plain = refl };
  one_line = refl;
}

red-closed : IsClosedLine (codes "\u{1b}[31mabc\u{1b}[0m")
unfolding chars encode pieces first_pieces leading_piece at_escape sequence_front opened control_from string_from escape_from applied after_parameters plain_attributes
red-closed = record {
  pieces = pieces (codes "\u{1b}[31mabc\u{1b}[0m");
  of_line = ArePiecesOf-pieces (codes "\u{1b}[31mabc\u{1b}[0m");
  closed = record { none_broken = ((λ same. cc same), ((λ same. cc same), ((λ same. cc same), tt))); plain = refl };
  one_line = refl;
}

two : measure (shown_chars (codes "ab")) ≡ 2
unfolding chars encode pieces first_pieces leading_piece at_escape sequence_front opened control_from string_from escape_from char_width str_width step past_emoji alone
two = refl

three : measure (shown_chars (codes "abc")) ≡ 3
unfolding chars encode pieces first_pieces leading_piece at_escape sequence_front opened control_from string_from escape_from char_width str_width step past_emoji alone
three = refl

red-three : measure (shown_chars (codes "\u{1b}[31mabc\u{1b}[0m")) ≡ 3
unfolding chars encode pieces first_pieces leading_piece at_escape sequence_front opened control_from string_from escape_from char_width str_width step past_emoji alone
red-three = refl

red-left : IsClosed (pieces (codes "\u{1b}[31mabc")) → ⊥
unfolding chars encode pieces first_pieces leading_piece at_escape sequence_front opened control_from string_from escape_from applied after_parameters plain_attributes
red-left closed =
    let plain : record plain_attributes { foreground = Some (Bit4 31) } ≡ plain_attributes = closed.plain in
    let clash : Some (Bit4 31) ≡ None = ap (λ (a : Attributes). a.foreground) plain in
    cc clash

feed : list_any (λ byte. byte == 0x0a) (strip (pieces (codes "a\nb"))) ≡ true
unfolding chars encode pieces first_pieces leading_piece at_escape sequence_front opened control_from string_from escape_from
feed = refl

at-most : (columns n m : ℕ) → n ≡ m → m ≤ columns → n ≤ columns
at-most columns n m same less = subst (λ (k : ℕ). k ≤ columns) (sym same) less

pub returns : goal.returns
returns c = record {
  within = record {
    within =
        All-cons (λ line. measure (shown_chars line) ≤ 3) (codes "ab") (codes "\u{1b}[31mabc\u{1b}[0m" ∷ []) (at-most 3 _ 2 two (omega arith))
        (All-cons (λ line. measure (shown_chars line) ≤ 3) (codes "\u{1b}[31mabc\u{1b}[0m") [] (at-most 3 _ 3 red-three (omega arith)) (All-nil (λ line. measure (shown_chars line) ≤ 3)));
    closed = All-cons IsClosedLine (codes "ab") (codes "\u{1b}[31mabc\u{1b}[0m" ∷ []) plain-closed (All-cons IsClosedLine (codes "\u{1b}[31mabc\u{1b}[0m") [] red-closed (All-nil IsClosedLine));
  };
  too_wide = λ is.
      let width : measure (shown_chars (codes "abc")) ≤ 2 =
      All-head (λ line. measure (shown_chars line) ≤ 2) (codes "abc") [] (All-tail (λ line. measure (shown_chars line) ≤ 2) (codes "ab") (codes "abc" ∷ []) is.within) in
      no-more (subst (λ (n : ℕ). n ≤ 2) three width);
  left_open = λ is.
      let line = All-head IsClosedLine (codes "\u{1b}[31mabc") [] is.closed in
      red-left (pieces-of (codes "\u{1b}[31mabc") IsClosed line line.closed);
  two_lines = λ is.
      let line = All-head IsClosedLine (codes "a\nb") [] is.closed in
      let one : list_any (λ byte. byte == 0x0a) (strip (pieces (codes "a\nb"))) ≡ false = pieces-of (codes "a\nb") (λ ps. list_any (λ byte. byte == 0x0a) (strip ps) ≡ false) line line.one_line in
      let clash : true ≡ false = sym feed ∙ one in
      cc clash;
}
