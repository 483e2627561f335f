-- The table of texts in colours, without its sequences.
use Rattle.std.proofs.Common.{◌≡◌, ◌==◌, ℕ, Bool, true, false, List, [], ◌∷◌, ◌++◌, Option, ap, sym, subst, ◌∙◌, lit<, if◌then◌else◌}
use Rattle.std.proofs.lemmas.Str.{encode_ascii}
use Rattle.ansi_scan.specs.Sequences.{Piece, ArePiecesOf, NoneBroken}
use Rattle.ansi_scan.proofs.Uniqueness.{pieces-ArePiecesOf}
use Rattle.ansi_str.specs.StyledText.{strip}
use Rattle.columns_asked.specs.declared.asked.WidthLimit.{WidthLimit}
use Rattle.columns_asked.specs.DrawnTables.{asked_frame, asked_text, asked_widths, ended, heights_of, resized_rows}
use Rattle.columns_asked.proofs.TextsWithoutEscape.{text-stripped}
use Rattle.columns_asked.proofs.Tables.{kept-whole}
use Rattle.columns_asked.specs.Colors.ColoredTables.{colored_text}
use Rattle.grid_config.specs.Colors.{Color}
use Rattle.grid_config.specs.Compact.{Compact}
use Rattle.grid_config.specs.Looks.{compact_look}
use Rattle.grid_config_values.specs.declared.position.Position.{Position}
use Rattle.grid_records_measure.specs.TextLines.{line_feed}
use Rattle.papergrid_picture.specs.Colors.ClosingColors.{ShowNothing}
use Rattle.papergrid_picture.proofs.ColorsLemmas.Stripped.{AreSame, AreSame-append, AreSame-character, AreSame-nothing, tables-same}
use Rattle.papergrid_picture.specs.Frame.{Frame, line_count}
use Rattle.papergrid_picture.specs.Shown.{AreWholeTexts, IsBare, stripped_texts}
use Rattle.papergrid_picture.proofs.Shown.{BeginsNoSequence-feed}

-- a line feed more
same-ended : (frame : Frame) (a b : List ℕ) → AreSame a b → AreSame (ended line_feed frame a) (ended line_feed frame b)
same-ended frame a b same = step (line_count frame == 0) where
  step : (test : Bool) → AreSame (if test then [] else a ++ line_feed ∷ []) (if test then [] else b ++ line_feed ∷ [])
  step true = AreSame-nothing
  step false = AreSame-append a (line_feed ∷ []) b (line_feed ∷ []) same (subst (λ bytes. AreSame bytes bytes) (encode_ascii line_feed (lit< tt)) (AreSame-character line_feed BeginsNoSequence-feed))

module _ (style : Compact) (asked : WidthLimit) (colors : Position → Option Color) (texts : List (List (List ℕ))) (all : AreWholeTexts texts) (bare : IsBare (compact_look style)) (silent : ShowNothing colors) where
  pub texts-same : AreSame (colored_text style asked colors texts) (asked_text style asked texts)
  unfolding colored_text asked_text
  texts-same =
      same-ended (asked_frame style asked texts) _ _
      (tables-same (compact_look style) (resized_rows style asked texts) colors (asked_widths style asked texts) (heights_of style (resized_rows style asked texts)) bare (kept-whole style asked texts all) silent)

  pub text-left : (ps : List Piece) → ArePiecesOf (colored_text style asked colors texts) ps → strip ps ≡ asked_text style asked (stripped_texts texts)
  text-left ps of_text = ap strip (sym (pieces-ArePiecesOf (colored_text style asked colors texts) ps of_text)) ∙ texts-same.one.left ∙ text-stripped style asked bare texts all

  pub text-whole : (ps : List Piece) → ArePiecesOf (colored_text style asked colors texts) ps → NoneBroken ps
  text-whole ps of_text = subst NoneBroken (pieces-ArePiecesOf (colored_text style asked colors texts) ps of_text) texts-same.one.whole
