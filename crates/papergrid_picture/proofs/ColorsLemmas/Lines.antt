-- What a closed line shows between the texts of a colour that closes.
use Rattle.std.proofs.Common.{◌≡◌, ◌≢◌, ℕ, List, [], ◌∷◌, ◌++◌, Some, map, refl, ap, sym, subst, ◌∙◌, append-nil}
use Rattle.std.specs.Prelude.{chars, IsUtf8}
use Rattle.std.specs.List.{AllByRecursion}
use Rattle.std.proofs.lemmas.Str.{chars-nil, IsUtf8-append}
use Rattle.ansi_scan.specs.declared.items.Kind.{Kind}
use Rattle.ansi_scan.specs.declared.items.Kind.TheVariants.{Text, Sgr, Csi, Osc, Esc, Str, Broken}
use Rattle.ansi_scan.specs.Sequences.{Piece, ArePiecesOf}
use Rattle.ansi_scan.specs.Joining.{put_all_before}
use Rattle.ansi_scan.specs.Pieces.{pieces}
use Rattle.ansi_scan.specs.Attributes.{Attributes, plain_attributes}
use Rattle.ansi_scan.proofs.Existence.{ArePiecesOf-pieces}
use Rattle.ansi_scan.proofs.Uniqueness.{pieces-ArePiecesOf}
use Rattle.ansi_scan.proofs.Joins.{ArePiecesOf-append, NoneBroken-put_all_before}
use Rattle.ansi_str_search.specs.Text.StyledText.{IsClosed, shown, style_after, style_after_all, styled, styled_from}
use Rattle.ansi_str_search.proofs.TextLemmas.Utf8Pieces.{EachUtf8, EachUtf8-of}
use Rattle.grid_config.specs.Ansi.Closing.{AreSequences, Clears}
use Rattle.grid_config.specs.Colors.{Color}
use Rattle.grid_config.specs.Looks.{Look}
use Rattle.grid_records_measure.proofs.ShownCuts.{styled-put_all_before, style-put_all_before}
use Rattle.papergrid_picture.specs.Reading.{painted}
use Rattle.papergrid_picture.specs.Tables.{in_bytes, in_color}
use Rattle.papergrid_picture.specs.Shown.{Styled}
use Rattle.papergrid_picture.proofs.Shown.{ShowsHere, ShowsHere-nothing, pieces-nothing}
use Rattle.papergrid_picture.specs.Colors.ClosingColors.{IsClosing, ShowsNothing}
use Rattle.papergrid_picture.specs.Colors.ColoredPicture.{opened_by}
use Rattle.papergrid_picture.proofs.ColorsLemmas.ClosedLines.{closed-behind}

-- ---- sequences

pub none-shown : (kind : Kind) (bytes : List ℕ) → kind ≢ Text → shown kind bytes ≡ []
none-shown Text bytes other = absurd (other refl)
none-shown Sgr bytes other = refl
none-shown Csi bytes other = refl
none-shown Osc bytes other = refl
none-shown Esc bytes other = refl
none-shown Str bytes other = refl
none-shown Broken bytes other = refl

styled-sequences : (style : Attributes) (ps : List Piece) → AllByRecursion (λ (piece : Piece). piece.kind ≢ Text) ps → styled_from style ps ≡ []
styled-sequences style [] none = refl
styled-sequences style (p ∷ ps) none =
    ap (λ bytes. map (λ c. (c, style)) (chars bytes) ++ styled_from (style_after style p) ps) (none-shown p.kind p.bytes none.0)
    ∙ ap (λ cs. map (λ c. (c, style)) cs ++ styled_from (style_after style p) ps) chars-nil
    ∙ styled-sequences (style_after style p) ps none.1

each_utf8 : (bytes : List ℕ) → IsUtf8 bytes → EachUtf8 (pieces bytes)
each_utf8 bytes utf8 = EachUtf8-of bytes (pieces bytes) utf8 (ArePiecesOf-pieces bytes)

-- ---- a line in a colour

-- a colour that closes shows nothing by itself
pub closing-shows_nothing : (color : Color) → IsClosing color → ShowsNothing color
closing-shows_nothing color is = record {
  prefix_form = subst AreSequences (sym (pieces-ArePiecesOf color.prefix is.closes.prefix is.closes.of_prefix)) is.closes.prefix_form;
  suffix_form = subst AreSequences (sym (pieces-ArePiecesOf color.suffix is.closes.suffix is.closes.of_suffix)) is.closes.suffix_form;
}

module _ (color : Color) (is : IsClosing color) where
  of_sequences : ShowsNothing color
  of_sequences = closing-shows_nothing color is

  clears-opened : Clears (opened_by color) (pieces color.suffix)
  clears-opened =
      subst (λ (ps : List Piece). Clears (style_after_all plain_attributes ps) (pieces color.suffix)) (sym (pieces-ArePiecesOf color.prefix is.closes.prefix is.closes.of_prefix))
      (subst (λ (qs : List Piece). Clears (style_after_all plain_attributes is.closes.prefix) qs) (sym (pieces-ArePiecesOf color.suffix is.closes.suffix is.closes.of_suffix)) is.closes.clears)

  ShowsHere-around : (line : List ℕ) (characters : List Styled) → ShowsHere line characters → ShowsHere (in_color color line) (styled_from (opened_by color) (pieces line))
  ShowsHere-around line characters here =
      let ps = pieces color.prefix in
      let ls = pieces line in
      let qs = pieces color.suffix in
      let behind = put_all_before ls qs in
      let are_behind : ArePiecesOf (line ++ color.suffix) behind = ArePiecesOf-append line color.suffix ls qs (ArePiecesOf-pieces line) here.closed.none_broken (ArePiecesOf-pieces color.suffix) in
      let all : pieces (in_color color line) ≡ put_all_before ps behind =
      pieces-ArePiecesOf (in_color color line) (put_all_before ps behind) (ArePiecesOf-append color.prefix (line ++ color.suffix) ps behind (ArePiecesOf-pieces color.prefix) of_sequences.prefix_form.whole are_behind) in
      record {
        utf8 = IsUtf8-append color.prefix (line ++ color.suffix) is.prefix_text (IsUtf8-append line color.suffix here.utf8 is.suffix_text);
        closed = subst IsClosed (sym all) (record {
          none_broken = NoneBroken-put_all_before ps behind of_sequences.prefix_form.whole (NoneBroken-put_all_before ls qs here.closed.none_broken of_sequences.suffix_form.whole);
          plain =
              style-put_all_before plain_attributes ps behind ∙ style-put_all_before (opened_by color) ls qs
              ∙ closed-behind (opened_by color) ls qs here.closed.plain clears-opened;
        });
        shown =
            ap styled all ∙ styled-put_all_before plain_attributes ps behind (each_utf8 color.prefix is.prefix_text)
            ∙ ap (λ cs. cs ++ styled_from (opened_by color) behind) (styled-sequences plain_attributes ps of_sequences.prefix_form.no_text)
            ∙ styled-put_all_before (opened_by color) ls qs (each_utf8 line here.utf8)
            ∙ ap (λ cs. styled_from (opened_by color) ls ++ cs) (styled-sequences (style_after_all (opened_by color) ls) qs of_sequences.suffix_form.no_text)
            ∙ append-nil (styled_from (opened_by color) ls);
      }

  pub ShowsHere-painted : (look : Look) (rows : List (List (List ℕ))) (line : List ℕ) (characters : List Styled) → ShowsHere line characters
      → ShowsHere (painted (in_bytes look rows) (Some color) line) (styled_from (opened_by color) (pieces line))
  ShowsHere-painted look rows [] characters here = subst (ShowsHere []) (sym (ap (styled_from (opened_by color)) pieces-nothing)) ShowsHere-nothing
  ShowsHere-painted look rows (b ∷ bs) characters here = ShowsHere-around (b ∷ bs) characters here
