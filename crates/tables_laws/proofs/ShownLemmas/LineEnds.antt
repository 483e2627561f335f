-- No line of a table's text shows a line feed, so that no style is open where a line of the text ends.
use Rattle.std.proofs.Common.{◌≡◌, ◌==◌, ◌<◌, ℕ, zero, suc, Bool, true, false, cond, All, List, [], ◌∷◌, ◌++◌, Option, None, Some, length, map, drop, get_or, refl, ap, sym, subst, ◌∙◌, arith, eq-eqb}
use Rattle.std.specs.Prelude.{chars, encode_utf8_all, flat_map, if◌then◌else◌}
use Rattle.std.specs.List.{AllByRecursion, join_with_byte, onto_first, range_with_len, slice_split}
use Rattle.std.proofs.lemmas.List.Elements.{All-from_recursion}
use Rattle.std.proofs.lemmas.Str.{encodes-chars}
use Rattle.ansi_scan.specs.Attributes.{Attributes, plain_attributes}
use Rattle.ansi_scan.specs.Pieces.{pieces}
use Rattle.ansi_scan.specs.Sequences.{Piece}
use Rattle.ansi_scan.proofs.Existence.{ArePiecesOf-pieces}
use Rattle.ansi_scan.proofs.Uniqueness.{pieces-ArePiecesOf}
use Rattle.ansi_str.specs.Lines.{IsClosedLine}
use Rattle.ansi_str_search.specs.Text.StyledText.{IsClosed, shown, strip, styled, styled_from}
use Rattle.ansi_str_search.proofs.TextLemmas.Utf8Pieces.{IsUtf8-shown_text}
use Rattle.grid_config.specs.Colors.{Color}
use Rattle.grid_config_values.specs.declared.position.Position.{Position}
use Rattle.grid_records_measure.specs.TextLines.{is_line_feed, line_feed, text_lines}
use Rattle.grid_records_measure.proofs.LinesAndBlocks.{lines-joined}
use Rattle.grid_records_measure.proofs.TextLines.{text_lines-are}
use Rattle.papergrid_picture.specs.Colors.ClosingColors.{AreClosing}
use Rattle.papergrid_picture.specs.Colors.ColoredPicture.{line_in, opened_by}
use Rattle.papergrid_picture.proofs.ColorsLemmas.Characters.{characters-from}
use Rattle.papergrid_picture.specs.CellLines.{kept_lines, those}
use Rattle.papergrid_picture.specs.Reading.{painted}
use Rattle.papergrid_picture.specs.Shown.{AreWholeTexts, Styled, character_of, in_plain, styled_texts}
use Rattle.papergrid_picture.specs.Tables.{in_bytes}
use Rattle.papergrid_picture.proofs.Joins.{table_text-joined}
use Rattle.papergrid_picture.proofs.Related.{All-append, All-get_or, All-map_of}
use Rattle.papergrid_picture.proofs.Shown.{All-drop, All-take, ShowsHere, ShowsHere-append, ShowsHere-nothing, characters-styled}
use Rattle.tabled_steps.specs.States.{State}
use Rattle.tabled_list.specs.Stripping.Printing.{drawn_heights, drawn_widths, printed}
use Rattle.tabled_list.specs.Stripping.Totals.{drawn_height, drawn_line}
use Rattle.tables_laws.specs.Shown.ClosingLooks.{ClosesIfSet, IsClosingLook, IsNoControl}
use Rattle.tables_laws.specs.Shown.PlainEnds.{EndsLinesPlain}
use Rattle.tables_laws.specs.Shown.ShownTables.{in_styles, shown_grid, shown_line, shown_picture, styled_lines, trimmed_if, without_white_end, without_white_start}
use Rattle.tables_laws.proofs.ShownLemmas.Pictures.{line-here, text-here}
use Rattle.tables_laws.proofs.ShownLemmas.Runs.{line-related}
use Rattle.tables_laws.proofs.ShownLemmas.ShownCells.{line-shows}
use Rattle.tables_laws.proofs.ShownLemmas.Signs.{IsNoControl-blank, has_feed, no-feed-all, no_control-feed, plainly}
use Rattle.tables_laws.proofs.ShownLemmas.Trimmed.{end-is, start-is}

-- ---- styled characters without a line feed

abbrev pub NoFeed : Styled → Type 0
NoFeed x = is_line_feed x.0 ≡ false

abbrev pub FeedIsPlain : Styled → Type 0
FeedIsPlain x = x.0 ≡ line_feed → x.1 ≡ plain_attributes

abbrev pub HasNoFeed : List Styled → Type 0
HasNoFeed xs = AllByRecursion NoFeed xs

onto-first : (x : Styled) (parts : List (List Styled)) → NoFeed x → AllByRecursion HasNoFeed parts → AllByRecursion HasNoFeed (onto_first x parts)
onto-first x [] here all = ((here, tt), tt)
onto-first x (part ∷ parts) here all = ((here, all.0), all.1)

pub split-feeds : (xs : List Styled) → AllByRecursion HasNoFeed (slice_split (λ x. is_line_feed x.0) xs)
split-feeds [] = (tt, tt)
split-feeds (x ∷ xs) = by (is_line_feed x.0) refl (split-feeds xs)
  where
    by : (test : Bool) → is_line_feed x.0 ≡ test → AllByRecursion HasNoFeed (slice_split (λ (y : Styled). is_line_feed y.0) xs)
        → AllByRecursion HasNoFeed (cond test ([] ∷ slice_split (λ (y : Styled). is_line_feed y.0) xs) (onto_first x (slice_split (λ (y : Styled). is_line_feed y.0) xs)))
    by true is rest = (tt, rest)
    by false is rest = onto-first x (slice_split (λ (y : Styled). is_line_feed y.0) xs) is rest

trimmed-feeds : (trims : Bool) (xs : List Styled) → HasNoFeed xs → HasNoFeed (trimmed_if trims xs)
trimmed-feeds false xs none = none
trimmed-feeds true xs none =
    let front = without_white_start xs in
    let found = start-is xs in
    let first : HasNoFeed front = subst HasNoFeed (sym found.1) (All-drop NoFeed found.0 xs none) in
    subst HasNoFeed (sym (end-is front)) (All-take NoFeed (length (without_white_end front)) front first)

feed-plain : (x : Styled) → NoFeed x → FeedIsPlain x
feed-plain x none is = let clash : false ≡ true = sym none ∙ eq-eqb x.0 line_feed is in absurd (cc clash)

pub feeds-plain : (xs : List Styled) → HasNoFeed xs → AllByRecursion FeedIsPlain xs
feeds-plain [] none = tt
feeds-plain (x ∷ xs) none = (feed-plain x none.0, feeds-plain xs none.1)

-- ---- by characters

abbrev pub NotFeed : ℕ → Type 0
NotFeed c = is_line_feed c ≡ false

pub to-characters : (xs : List Styled) → HasNoFeed xs → AllByRecursion NotFeed (map character_of xs)
to-characters [] none = tt
to-characters (x ∷ xs) none = (none.0, to-characters xs none.1)

pub from-characters : (xs : List Styled) → AllByRecursion NotFeed (map character_of xs) → HasNoFeed xs
from-characters [] none = tt
from-characters (x ∷ xs) none = (none.0, from-characters xs none.1)

-- ---- glyphs and fills

signs-feeds : (cs : List ℕ) → AllByRecursion IsNoControl cs → HasNoFeed (plainly cs)
signs-feeds [] all = tt
signs-feeds (c ∷ cs) all = (no_control-feed c all.0, signs-feeds cs all.1)

colored-feeds : (style : Attributes) (xs : List Styled) → HasNoFeed xs → HasNoFeed (map (λ (x : Styled). (x.0, style)) xs)
colored-feeds style [] none = tt
colored-feeds style (x ∷ xs) none = (none.0, colored-feeds style xs none.1)

painted-feeds : (s : State) (color : Option Color) (cs : List ℕ) → ClosesIfSet color → AllByRecursion IsNoControl cs → HasNoFeed (painted (in_styles s) color (plainly cs))
painted-feeds s None cs closes all = signs-feeds cs all
painted-feeds s (Some color) [] closes all = tt
painted-feeds s (Some color) (c ∷ cs) closes all = colored-feeds (opened_by color) (plainly (c ∷ cs)) (signs-feeds (c ∷ cs) all)

-- ---- bytes whose line feeds are plain

-- the same as EndsLinesPlain, of the pieces that the bytes have
pub record PlainHere (bytes : List ℕ) : Type 0 where
  pub here : ShowsHere bytes (styled (pieces bytes))
  pub feeds : AllByRecursion FeedIsPlain (styled (pieces bytes))

pub plain-shown : (bytes : List ℕ) (xs : List Styled) → ShowsHere bytes xs → AllByRecursion FeedIsPlain xs → PlainHere bytes
plain-shown bytes xs shows plain = record {
  here = record { utf8 = shows.utf8; closed = shows.closed; shown = refl };
  feeds = subst (AllByRecursion FeedIsPlain) (sym shows.shown) plain;
}

pub plain-nothing : PlainHere []
plain-nothing = plain-shown [] [] ShowsHere-nothing tt

pub plain-append : (a b : List ℕ) → PlainHere a → PlainHere b → PlainHere (a ++ b)
plain-append a b first second =
    plain-shown (a ++ b) (styled (pieces a) ++ styled (pieces b)) (ShowsHere-append a b (styled (pieces a)) (styled (pieces b)) first.here second.here)
    (All-append FeedIsPlain (styled (pieces a)) (styled (pieces b)) first.feeds second.feeds)

pub ends-plain : (bytes : List ℕ) → PlainHere bytes → EndsLinesPlain bytes
ends-plain bytes is = record {
  text = is.here.utf8;
  closed = λ ps of_bytes. subst IsClosed (pieces-ArePiecesOf bytes ps of_bytes) is.here.closed;
  line_feeds = λ ps of_bytes. subst (λ (ps : List Piece). All FeedIsPlain (styled ps)) (pieces-ArePiecesOf bytes ps of_bytes) (All-from_recursion FeedIsPlain (styled (pieces bytes)) is.feeds);
}

-- ---- a table

module _ (s : State) (look : IsClosingLook s.look) (texts : AreWholeTexts s.rows) (colors : AreClosing s.colors) where
  -- no line of a cell shows a line feed
  line-feeds : (cell : Position) (k : ℕ) → HasNoFeed (get_or (styled_lines s cell) k [])
  line-feeds cell k =
      let text = get_or (get_or (styled_texts s.rows) cell.row []) cell.col [] in
      let lines = slice_split (λ (x : Styled). is_line_feed x.0) text in
      let kept = kept_lines (s.look.trim_vertical cell) (map (λ line. encode_utf8_all (map character_of line)) lines) in
      let trims = s.look.trim_horizontal cell in
      All-get_or HasNoFeed (styled_lines s cell) k []
      (All-map_of HasNoFeed HasNoFeed (trimmed_if trims) (trimmed-feeds trims) (those kept lines)
      (All-take HasNoFeed kept.1 (drop kept.0 lines) (All-drop HasNoFeed kept.0 lines (split-feeds text)))) tt

  colored_line-feeds : (cell : Position) (k : ℕ) → HasNoFeed ((in_styles s).line cell k)
  colored_line-feeds cell k = by (s.colors cell)
    where
      by : (color : Option Color) → HasNoFeed (line_in color ((in_bytes s.look s.rows).line cell k) (get_or (styled_lines s cell) k []))
      by None = line-feeds cell k
      by (Some color) =
          let bytes = (in_bytes s.look s.rows).line cell k in
          from-characters (styled_from (opened_by color) (pieces bytes))
          (subst (AllByRecursion NotFeed) (sym (characters-from (opened_by color) plain_attributes (pieces bytes) ∙ ap (map character_of) (line-shows s texts cell k).shown))
          (to-characters (get_or (styled_lines s cell) k []) (line-feeds cell k)))

  -- nor does a line of the picture
  pub picture_line-feeds : (y : ℕ) → HasNoFeed (shown_line s y)
  picture_line-feeds y =
      line-related IsNoControl ClosesIfSet (λ (a b : List Styled). HasNoFeed a) tt (λ a c b d first others. All-append NoFeed a c first others)
      (in_styles s) (in_styles s) (painted-feeds s) colored_line-feeds IsNoControl-blank (shown_grid s) (λ _. refl) look.shown look.colors y

  pub line-closed : (y : ℕ) → IsClosedLine (drawn_line s y)
  line-closed y =
      let line = drawn_line s y in
      let here = line-here s look texts colors y in
      let characters : map character_of (shown_line s y) ≡ chars (strip (pieces line)) = ap (map character_of) (sym here.shown) ∙ characters-styled line here.utf8 in
      record {
        pieces = pieces line;
        of_line = ArePiecesOf-pieces line;
        closed = here.closed;
        one_line =
            ap has_feed (sym (encodes-chars (strip (pieces line)) (IsUtf8-shown_text line here.utf8)))
            ∙ no-feed-all (chars (strip (pieces line))) (subst (AllByRecursion NotFeed) characters (to-characters (shown_line s y) (picture_line-feeds y)));
      }

  -- each line of the text is one of the table
  each-closed : (ys : List ℕ) → AllByRecursion IsClosedLine (map (drawn_line s) ys)
  each-closed [] = tt
  each-closed (y ∷ ys) = (line-closed y, each-closed ys)

  pub text_lines-drawn : 0 < drawn_height s → text_lines (printed s) ≡ map (drawn_line s) (range_with_len 0 (drawn_height s))
  text_lines-drawn some =
      let lines = map (drawn_line s) (range_with_len 0 (drawn_height s)) in
      let joined = table_text-joined s.look s.rows s.colors (drawn_widths s) (drawn_heights s) in
      ap text_lines joined ∙ joined-lines (range_with_len 0 (drawn_height s)) (drawn-some (drawn_height s) some)
    where
      drawn-some : (n : ℕ) → 0 < n → 0 < length (map (drawn_line s) (range_with_len 0 n))
      drawn-some zero some = absurd (omega (arith, some))
      drawn-some (suc n) some = omega arith

      joined-lines : (ys : List ℕ) → 0 < length (map (drawn_line s) ys) → text_lines (join_with_byte line_feed (map (drawn_line s) ys)) ≡ map (drawn_line s) ys
      joined-lines ys some =
          let lines = map (drawn_line s) ys in
          let joined = join_with_byte line_feed lines in
          lines-joined lines (text_lines joined) (pieces joined) some (All-from_recursion IsClosedLine lines (each-closed ys)) (ArePiecesOf-pieces joined) (text_lines-are joined)

  pub line-plain : (y : ℕ) → PlainHere (drawn_line s y)
  line-plain y = plain-shown (drawn_line s y) (shown_line s y) (line-here s look texts colors y) (feeds-plain (shown_line s y) (picture_line-feeds y))

  -- a line feed of the text is plain
  picture-feeds : (ys : List ℕ) → AllByRecursion FeedIsPlain (flat_map (λ y. (if y == 0 then [] else in_plain line_feed ∷ []) ++ shown_line s y) ys)
  picture-feeds [] = tt
  picture-feeds (y ∷ ys) =
      All-append FeedIsPlain ((if y == 0 then [] else in_plain line_feed ∷ []) ++ shown_line s y) (flat_map (λ y. (if y == 0 then [] else in_plain line_feed ∷ []) ++ shown_line s y) ys)
      (All-append FeedIsPlain (if y == 0 then [] else in_plain line_feed ∷ []) (shown_line s y) (fed (y == 0)) (feeds-plain (shown_line s y) (picture_line-feeds y)))
      (picture-feeds ys)
    where
      fed : (b : Bool) → AllByRecursion FeedIsPlain (if b then [] else in_plain line_feed ∷ [])
      fed true = tt
      fed false = ((λ is. refl), tt)

  pub picture-plain : AllByRecursion FeedIsPlain (shown_picture s)
  picture-plain = picture-feeds (range_with_len 0 (drawn_height s))

  pub text-plain : PlainHere (printed s)
  text-plain = plain-shown (printed s) (shown_picture s) (text-here s look texts colors) picture-plain
