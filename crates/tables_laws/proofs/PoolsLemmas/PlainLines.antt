-- Lines that show no line feed and leave no style open: of nothing, a glyph or a text, side by side, and in a colour.
use Rattle.std.proofs.Common.{◌≡◌, ℕ, false, List, [], ◌∷◌, ◌++◌, Option, None, Some, map, drop, get_or, refl, sym, subst, ap, ◌∙◌}
use Rattle.std.specs.Prelude.{chars, encode_utf8}
use Rattle.std.specs.List.{AllByRecursion}
use Rattle.std.proofs.Math.Utf8.{encode}
use Rattle.std.proofs.lemmas.Str.{encodes-chars}
use Rattle.ansi_scan.specs.Attributes.{plain_attributes}
use Rattle.ansi_scan.specs.Pieces.{pieces}
use Rattle.ansi_scan.proofs.Existence.{ArePiecesOf-pieces}
use Rattle.ansi_str.specs.Lines.{IsClosedLine}
use Rattle.ansi_str_search.specs.Text.StyledText.{strip, styled, styled_from}
use Rattle.ansi_str_search.proofs.TextLemmas.Utf8Pieces.{IsUtf8-shown_text}
use Rattle.grid_config.specs.Colors.{Color}
use Rattle.grid_config.specs.Looks.{Look}
use Rattle.grid_records_measure.specs.TextLines.{is_line_feed, line_feed, text_lines}
use Rattle.papergrid_cells.specs.Painting.{colored}
use Rattle.papergrid_picture.specs.Colors.ColoredPicture.{opened_by}
use Rattle.papergrid_picture.specs.CellLines.{cell_lines, kept, those}
use Rattle.papergrid_picture.specs.Shown.{IsWholeText, Styled, in_plain}
use Rattle.papergrid_picture.proofs.ColorsLemmas.Characters.{characters-from}
use Rattle.papergrid_picture.proofs.ColorsLemmas.Lines.{ShowsHere-painted}
use Rattle.papergrid_picture.proofs.Related.{All-append, All-get_or, All-map_of}
use Rattle.papergrid_picture.proofs.Shown.{All-drop, All-take, BeginsNoSequence-feed, IsClosedPart, ShowsHere, ShowsHere-append, ShowsHere-character, ShowsHere-nothing, characters-styled, lines-closed_parts, lines-styled, styled_of}
use Rattle.tables_laws.specs.Shown.ClosingLooks.{ClosesIfSet, IsNoControl}
use Rattle.tables_laws.proofs.ShownLemmas.LineEnds.{HasNoFeed, NotFeed, PlainHere, feeds-plain, from-characters, plain-append, plain-shown, split-feeds, to-characters}
use Rattle.tables_laws.proofs.ShownLemmas.Signs.{has_feed, no-feed-all, no_control-begins, no_control-feed}

pub record PlainLine (bytes : List ℕ) : Type 0 where
  pub here : ShowsHere bytes (styled (pieces bytes))
  pub no_feed : HasNoFeed (styled (pieces bytes))

line-shown : (bytes : List ℕ) (xs : List Styled) → ShowsHere bytes xs → HasNoFeed xs → PlainLine bytes
line-shown bytes xs shows none = record {
  here = record { utf8 = shows.utf8; closed = shows.closed; shown = refl };
  no_feed = subst HasNoFeed (sym shows.shown) none;
}

pub line-nothing : PlainLine []
line-nothing = line-shown [] [] ShowsHere-nothing tt

pub line-beside : (a b : List ℕ) → PlainLine a → PlainLine b → PlainLine (a ++ b)
line-beside a b first second =
    line-shown (a ++ b) (styled (pieces a) ++ styled (pieces b)) (ShowsHere-append a b (styled (pieces a)) (styled (pieces b)) first.here second.here)
    (All-append (λ (x : Styled). is_line_feed x.0 ≡ false) (styled (pieces a)) (styled (pieces b)) first.no_feed second.no_feed)

pub line-sign : (c : ℕ) → IsNoControl c → PlainLine (encode_utf8 c)
line-sign c is = line-shown (encode_utf8 c) (in_plain c ∷ []) (ShowsHere-character c (no_control-begins c is)) (no_control-feed c is, tt)

-- ---- in a colour

module _ (look : Look) where
  pub line-painted : (color : Option Color) (bytes : List ℕ) → ClosesIfSet color → PlainLine bytes → PlainLine (colored color bytes)
  line-painted None bytes closes plain = plain
  line-painted (Some color) [] closes plain = plain
  line-painted (Some color) (b ∷ bs) closes plain =
      let bytes = b ∷ bs in
      let xs = styled_from (opened_by color) (pieces bytes) in
      line-shown (colored (Some color) bytes) xs (ShowsHere-painted color closes look [] bytes (styled (pieces bytes)) plain.here)
      (from-characters xs (subst (AllByRecursion NotFeed) (sym (characters-from (opened_by color) plain_attributes (pieces bytes))) (to-characters (styled (pieces bytes)) plain.no_feed)))

-- ---- the lines of a text

part-plain : (part : List ℕ) → IsClosedPart part → HasNoFeed (styled_of part) → PlainLine part
part-plain part closed none = record { here = record { utf8 = closed.utf8; closed = closed.closed; shown = refl }; no_feed = none }

parts-plain : (parts : List (List ℕ)) → AllByRecursion IsClosedPart parts → AllByRecursion HasNoFeed (map styled_of parts) → AllByRecursion PlainLine parts
parts-plain [] closed none = tt
parts-plain (part ∷ parts) closed none = (part-plain part closed.0 none.0, parts-plain parts closed.1 none.1)

pub line-of_text : (text : List ℕ) → IsWholeText text → (k : ℕ) → PlainLine (get_or (cell_lines false false text) k [])
line-of_text text whole k =
    let plain = parts-plain (text_lines text) (lines-closed_parts text whole) (subst (AllByRecursion HasNoFeed) (sym (lines-styled text whole)) (split-feeds (styled_of text))) in
    let of_cell = kept false false text in
    All-get_or PlainLine (cell_lines false false text) k []
    (All-map_of PlainLine PlainLine (λ line. line) (λ line is. is) (those of_cell (text_lines text)) (All-take PlainLine of_cell.1 (drop of_cell.0 (text_lines text)) (All-drop PlainLine of_cell.0 (text_lines text) plain)))
    line-nothing

-- ---- what such a line is

pub line-ends_plain : (bytes : List ℕ) → PlainLine bytes → PlainHere bytes
line-ends_plain bytes plain = plain-shown bytes (styled (pieces bytes)) plain.here (feeds-plain (styled (pieces bytes)) plain.no_feed)

pub line-is_closed : (bytes : List ℕ) → PlainLine bytes → IsClosedLine bytes
line-is_closed bytes plain =
    let utf8 = plain.here.utf8 in
    record {
      pieces = pieces bytes;
      of_line = ArePiecesOf-pieces bytes;
      closed = plain.here.closed;
      one_line =
          ap has_feed (sym (encodes-chars (strip (pieces bytes)) (IsUtf8-shown_text bytes utf8)))
          ∙ no-feed-all (chars (strip (pieces bytes))) (subst (AllByRecursion NotFeed) (characters-styled bytes utf8) (to-characters (styled (pieces bytes)) plain.no_feed));
    }

-- a line after a line feed
feed-bytes : encode_utf8 line_feed ≡ line_feed ∷ []
unfolding encode
feed-bytes = refl

feed-here : ShowsHere (line_feed ∷ []) (in_plain line_feed ∷ [])
feed-here = subst (λ (bytes : List ℕ). ShowsHere bytes (in_plain line_feed ∷ [])) feed-bytes (ShowsHere-character line_feed BeginsNoSequence-feed)

pub feed-before : (bytes : List ℕ) → PlainLine bytes → PlainHere (line_feed ∷ bytes)
feed-before bytes plain = plain-append (line_feed ∷ []) bytes (plain-shown (line_feed ∷ []) (in_plain line_feed ∷ []) feed-here ((λ is. refl), tt)) (line-ends_plain bytes plain)
