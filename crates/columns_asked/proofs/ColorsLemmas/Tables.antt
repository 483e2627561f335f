-- What the table of texts in colours shows.
use Rattle.std.proofs.Common.{◌≡◌, ◌==◌, ℕ, Bool, true, false, All, List, [], ◌∷◌, ◌++◌, Option, None, map, refl, ap, sym, subst, ◌∙◌, lit<, if◌then◌else◌}
use Rattle.std.proofs.lemmas.List.Elements.{All-nil, All-push}
use Rattle.std.proofs.lemmas.List.{map-append}
use Rattle.std.proofs.lemmas.Str.{encode_ascii}
use Rattle.ansi_scan.specs.Attributes.{plain_attributes}
use Rattle.ansi_scan.proofs.Uniqueness.{pieces-ArePiecesOf}
use Rattle.ansi_str.specs.StyledText.{IsClosed, styled}
use Rattle.columns_asked.specs.declared.asked.WidthLimit.{WidthLimit}
use Rattle.columns_asked.specs.DrawnTables.{asked_frame, asked_items, asked_picture, asked_text, asked_widths, ended, heights_of, resized_cells, resized_rows, texts_in}
use Rattle.columns_asked.proofs.Tables.{asked_widths-stripped, heights-kept, kept-styled, kept-whole, picture-kept, shown-ended, texts-in}
use Rattle.columns_asked.specs.Colors.ColoredTables.{colored_items, colored_text}
use Rattle.grid_config.specs.Colors.{Color}
use Rattle.grid_config.specs.Compact.{Compact}
use Rattle.grid_config.specs.Looks.{compact_look}
use Rattle.grid_config_values.specs.declared.position.Position.{Position}
use Rattle.grid_records_measure.specs.TextLines.{line_feed}
use Rattle.papergrid_picture.specs.Colors.ClosingColors.{AreClosing}
use Rattle.papergrid_picture.specs.Colors.ColoredPicture.{colored_picture}
use Rattle.papergrid_picture.proofs.ColorsLemmas.Characters.{characters-colored, feeds-plain}
use Rattle.papergrid_picture.proofs.ColorsLemmas.Pictures.{text-colored}
use Rattle.papergrid_picture.specs.Frame.{Frame, frame_of, line_count}
use Rattle.papergrid_picture.specs.Shown.{AreWholeTexts, IsBare, Shows, Styled, character_of, in_plain, styled_picture, styled_texts}
use Rattle.papergrid_picture.proofs.Shown.{BeginsNoSequence-feed, ShowsHere, ShowsHere-append, ShowsHere-character, ShowsHere-nothing}

characters-ended : (frame : Frame) (a b : List Styled) → map character_of a ≡ map character_of b → map character_of (ended (in_plain line_feed) frame a) ≡ map character_of (ended (in_plain line_feed) frame b)
characters-ended frame a b same = step (line_count frame == 0) where
  step : (test : Bool) → map character_of (if test then [] else a ++ in_plain line_feed ∷ []) ≡ map character_of (if test then [] else b ++ in_plain line_feed ∷ [])
  step true = refl
  step false =
      map-append character_of a (in_plain line_feed ∷ []) ∙ ap (λ (cs : List ℕ). cs ++ line_feed ∷ []) same ∙ sym (map-append character_of b (in_plain line_feed ∷ []))

abbrev FeedIsPlain : Styled → Type 0
FeedIsPlain x = x.0 ≡ line_feed → x.1 ≡ plain_attributes

module _ (style : Compact) (asked : WidthLimit) (colors : Position → Option Color) (texts : List (List (List ℕ))) (all : AreWholeTexts texts) where
  abbrev kept : List (List (List ℕ))
  kept = resized_rows style asked texts

  abbrev drawn : List ℕ → List ℕ → List (List (List Styled)) → List Styled
  drawn widths heights cells = ended (in_plain line_feed) (frame_of (compact_look style) widths heights) (colored_picture (compact_look style) cells kept colors widths heights)

  -- the picture is that of the texts which the table keeps
  items-kept : colored_items style asked colors (styled_texts texts) texts ≡ drawn (asked_widths style asked texts) (heights_of style kept) (styled_texts kept)
  unfolding colored_items
  items-kept =
      let cells = resized_cells character_of in_plain style asked (styled_texts texts) in
      let heights = heights_of style (texts_in character_of in_plain cells) in
      ap (λ (widths : List ℕ). drawn widths heights cells) (ap (asked_widths style asked) (texts-in texts all) ∙ asked_widths-stripped style asked texts)
      ∙ ap (λ (found : List ℕ). drawn (asked_widths style asked texts) found cells) (heights-kept style asked texts all)
      ∙ ap (drawn (asked_widths style asked texts) (heights_of style kept)) (sym (kept-styled style asked texts all))

  pub text-shows_items : IsBare (compact_look style) → AreClosing colors → ShowsHere (colored_text style asked colors texts) (colored_items style asked colors (styled_texts texts) texts)
  unfolding colored_text
  text-shows_items bare close =
      subst (ShowsHere (colored_text style asked colors texts)) (sym items-kept)
      (shown-ended (asked_frame style asked texts) _ _
      (text-colored (compact_look style) kept colors (asked_widths style asked texts) (heights_of style kept) bare (kept-whole style asked texts all) (λ _. refl) close))

  pub text-shows : IsBare (compact_look style) → AreClosing colors → Shows (colored_text style asked colors texts) (colored_items style asked colors (styled_texts texts) texts)
  text-shows bare close =
      let bytes = colored_text style asked colors texts in
      let shows = text-shows_items bare close in
      record {
        text = shows.utf8;
        shown = λ ps of_bytes. ap styled (sym (pieces-ArePiecesOf bytes ps of_bytes)) ∙ shows.shown;
        closed = λ ps of_bytes. subst IsClosed (pieces-ArePiecesOf bytes ps of_bytes) shows.closed;
      }

  pub items-feeds : All FeedIsPlain (colored_items style asked colors (styled_texts texts) texts)
  items-feeds =
      let widths = asked_widths style asked texts in
      let heights = heights_of style kept in
      subst (All FeedIsPlain) (sym items-kept)
      (step (line_count (frame_of (compact_look style) widths heights) == 0) _ (feeds-plain (compact_look style) kept colors widths heights (kept-whole style asked texts all) (λ _. refl)))
    where
      step : (b : Bool) (items : List Styled) → All FeedIsPlain items → All FeedIsPlain (if b then [] else items ++ in_plain line_feed ∷ [])
      step true items all = All-nil FeedIsPlain
      step false items all = All-push FeedIsPlain items (in_plain line_feed) all (λ same. refl)

  pub items-characters : map character_of (colored_items style asked colors (styled_texts texts) texts) ≡ map character_of (asked_picture style asked (styled_texts texts))
  items-characters =
      let widths = asked_widths style asked texts in
      let heights = heights_of style kept in
      ap (map character_of) items-kept
      ∙ characters-ended (frame_of (compact_look style) widths heights) (colored_picture (compact_look style) (styled_texts kept) kept colors widths heights) (styled_picture (compact_look style) (styled_texts kept) widths heights)
      (characters-colored (compact_look style) kept colors widths heights (kept-whole style asked texts all) (λ _. refl))
      ∙ sym (ap (map character_of) (picture-kept style asked texts all))

-- ---- without colours

pub text-uncolored : (style : Compact) (asked : WidthLimit) (texts : List (List (List ℕ))) → colored_text style asked (λ _. None) texts ≡ asked_text style asked texts
unfolding colored_text asked_text
text-uncolored style asked texts = refl

pub items-uncolored : (style : Compact) (asked : WidthLimit) (rows : List (List (List Styled))) (texts : List (List (List ℕ))) → colored_items style asked (λ _. None) rows texts ≡ asked_picture style asked rows
unfolding colored_items asked_items
items-uncolored style asked rows texts = refl
