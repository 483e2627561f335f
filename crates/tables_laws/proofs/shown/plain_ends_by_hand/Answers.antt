use Rattle.std.proofs.Common.{◌≡◌, ◌∷◌, [], All, None, Some, ap, refl}
use Rattle.std.specs.Prelude.{codes}
use Rattle.std.specs.Str.{chars}
use Rattle.std.proofs.Math.Utf8.{encode}
use Rattle.std.proofs.lemmas.List.Elements.{All-head, All-tail}
use Rattle.ansi_scan.specs.declared.style.color.AnsiColor.TheVariants.{Bit4}
use Rattle.ansi_scan.specs.Attributes.{Attributes, plain_attributes}
use Rattle.ansi_scan.specs.Pieces.{pieces, first_pieces, leading_piece, at_escape, sequence_front, opened, control_from, string_from, escape_from}
use Rattle.ansi_scan.specs.Rendition.{applied, after_parameters}
use Rattle.ansi_scan.proofs.Existence.{ArePiecesOf-pieces}
use Rattle.tables_laws.proofs.ShownLemmas.LineEnds.{FeedIsPlain, ends-plain}
use Rattle.tables_laws.proofs.shown.plain_ends_by_hand.Goals as goal

abbrev red : Attributes
red = record plain_attributes { foreground = Some (Bit4 31) }

pub returns : goal.returns
unfolding pieces first_pieces leading_piece at_escape sequence_front opened control_from string_from escape_from applied after_parameters plain_attributes chars encode
returns c = record {
  ended = ends-plain (codes "\u{1b}[31mx\u{1b}[0m\n") (record {
    here = record {
      utf8 = (codes "\u{1b}[31mx\u{1b}[0m\n", (refl, refl));
      closed = record { none_broken = ((λ same. cc same), ((λ same. cc same), ((λ same. cc same), ((λ same. cc same), tt)))); plain = refl };
      shown = refl;
    };
    feeds = ((λ is. cc is), ((λ is. refl), tt));
  });
  open_at_a_feed = λ is.
      let text = codes "\u{1b}[31mx\n\u{1b}[0m" in
      let all : All FeedIsPlain ((0x78, red) ∷ (0x0a, red) ∷ []) = is.line_feeds (pieces text) (ArePiecesOf-pieces text) in
      let plain : red ≡ plain_attributes = All-head FeedIsPlain (0x0a, red) [] (All-tail FeedIsPlain (0x78, red) ((0x0a, red) ∷ []) all) refl in
      let clash : Some (Bit4 31) ≡ None = ap (λ (a : Attributes). a.foreground) plain in
      cc clash;
  open_at_the_end = λ is.
      let text = codes "\u{1b}[31mx" in
      let plain = (is.closed (pieces text) (ArePiecesOf-pieces text)).plain in
      let clash : Some (Bit4 31) ≡ None = ap (λ (a : Attributes). a.foreground) plain in
      cc clash;
  broken = λ is. let text = codes "\u{1b}" in (is.closed (pieces text) (ArePiecesOf-pieces text)).none_broken.0 refl;
}
