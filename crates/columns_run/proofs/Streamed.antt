-- Without a width the other settings of a run change nothing.
use Rattle.std.proofs.Common.{◌≡◌, ◌↔◌, ℕ, Bool, Err, List, [], Ok, Option, Result, false, refl, ap, sym, subst, ◌∙◌}
use Rattle.std.specs.Prelude.{chars, IsUtf8, None, ⊤}
use Rattle.ansi_scan.specs.Pieces.{pieces}
use Rattle.ansi_scan.specs.Sequences.{ArePiecesOf}
use Rattle.ansi_str.specs.StyledText.{styled}
use Rattle.columns_asked.specs.DrawnTables.{AskedInRange, asked_items, asked_text, asked_widths, resized_cells, resized_rows, too_wide}
use Rattle.columns_asked.specs.declared.asked.WidthLimit.{WidthLimit}
use Rattle.grid_config.specs.Compact.{Compact}
use Rattle.papergrid_picture.specs.Shown.{Styled, character_of, in_plain}
use Rattle.tabled_size_priority.specs.declared.choice.Choice.{Choice}
use Rattle.tabled_size_priority.specs.declared.choice.Choice.TheVariants.{None as InTurns}
use Rattle.columns_run.specs.DrawnTables.{TableInRange, encoded_cells, output_of, picture, picture_without_colors, wide_cell}
use Rattle.columns_run.specs.Rows.{cell_parts, rows_of, stripped}
use Rattle.columns_run.specs.Run.{HasTable, MayAnswer, MayEndBy, Serves, Writes}
use Rattle.columns_run.specs.TableShown.{ShowsTableOf}
use Rattle.columns_run.specs.Wanted.{Wanted, style_alone}
use Rattle.program_options.specs.declared.columns.fault.RunFault.{RunFault}
use Rattle.program_options.specs.declared.columns.fault.RunFault.TheVariants.{Escape, LineTooWide, Memory, NotUtf8, Range, Read, ReadTooLong, Write, WriteZero}
use Rattle.columns_run.proofs.Colors.{output-uncolored, picture-uncolored}

-- no width, whatever else is requested
abbrev no_width : Bool → Bool → Choice → WidthLimit
no_width truncate keep_words priority = record { width = None; truncate = truncate; keep_words = keep_words; priority = priority }

module _ (style : Compact) (truncate keep_words : Bool) (priority : Choice) where
  abbrev asked : WidthLimit
  asked = no_width truncate keep_words priority

  abbrev bare : WidthLimit
  bare = no_width false false InTurns

  text-bare : (texts : List (List (List ℕ))) → asked_text style bare texts ≡ asked_text style asked texts
  unfolding asked_text resized_rows asked_widths
  text-bare texts = refl

  fits-bare : (texts : List (List (List ℕ))) → AskedInRange style bare texts ≡ AskedInRange style asked texts
  unfolding AskedInRange resized_rows asked_widths
  fits-bare texts = refl

  wide-bare : (texts : List (List (List ℕ))) → too_wide style bare texts ≡ too_wide style asked texts
  unfolding too_wide resized_rows asked_widths
  wide-bare texts = refl

  items-bare : (rows : List (List (List Styled))) → asked_items character_of in_plain style bare rows ≡ asked_items character_of in_plain style asked rows
  unfolding asked_items resized_cells asked_widths
  items-bare rows = refl

module _ (wanted : Wanted) (none : wanted.limit.width ≡ None) (uncolored : wanted.colors ≡ []) where
  abbrev unasked : Wanted
  unasked = style_alone wanted.style

  abbrev style : Compact
  style = wanted.style

  natural : no_width wanted.limit.truncate wanted.limit.keep_words wanted.limit.priority ≡ wanted.limit
  natural = ap (λ width. record wanted.limit { width = width }) (sym none)

  output-same : (input : List ℕ) → output_of unasked input ≡ output_of wanted input
  output-same input =
      output-uncolored unasked input refl
      ∙ text-bare style wanted.limit.truncate wanted.limit.keep_words wanted.limit.priority (cell_parts input) ∙ ap (λ asked. asked_text style asked (cell_parts input)) natural
      ∙ sym (output-uncolored wanted input uncolored)

  fits-same : (input : List ℕ) → TableInRange unasked input ≡ TableInRange wanted input
  unfolding TableInRange
  fits-same input =
      let texts = encoded_cells (chars (stripped input)) in
      fits-bare style wanted.limit.truncate wanted.limit.keep_words wanted.limit.priority texts ∙ ap (λ asked. AskedInRange style asked texts) natural

  wide-same : (input : List ℕ) → wide_cell unasked input ≡ wide_cell wanted input
  unfolding wide_cell
  wide-same input =
      let texts = encoded_cells (chars (stripped input)) in
      wide-bare style wanted.limit.truncate wanted.limit.keep_words wanted.limit.priority texts ∙ ap (λ asked. too_wide style asked texts) natural

  picture-same : (input : List ℕ) → picture unasked input ≡ picture wanted input
  unfolding picture_without_colors
  picture-same input =
      let rows = rows_of character_of (styled (pieces input)) in
      picture-uncolored unasked input refl
      ∙ items-bare style wanted.limit.truncate wanted.limit.keep_words wanted.limit.priority rows ∙ ap (λ asked. asked_items character_of in_plain style asked rows) natural
      ∙ sym (picture-uncolored wanted input uncolored)

-- what is wanted in two ways that have the same tables
record AreAlike (first second : Wanted) : Type 0 where
  output : (input : List ℕ) → output_of first input ≡ output_of second input
  fits : (input : List ℕ) → TableInRange first input → TableInRange second input
  fits_back : (input : List ℕ) → TableInRange second input → TableInRange first input
  wide : (input : List ℕ) → wide_cell first input ≡ wide_cell second input
  picture : (input : List ℕ) → picture first input ≡ picture second input

alike-back : (first second : Wanted) → AreAlike first second → AreAlike second first
alike-back first second alike = record {
  output = λ input. sym (alike.output input);
  fits = λ input good. alike.fits_back input good;
  fits_back = λ input good. alike.fits input good;
  wide = λ input. sym (alike.wide input);
  picture = λ input. sym (alike.picture input);
}

module _ (first second : Wanted) (alike : AreAlike first second) (input : List ℕ) where
  has : HasTable first input → HasTable second input
  has table = (table.0, table.1, alike.fits input table.2, sym (alike.wide input) ∙ table.3)

  refuse : (fault : RunFault) → MayEndBy first input fault → MayEndBy second input fault
  refuse Read may = tt
  refuse ReadTooLong may = may
  refuse (NotUtf8 at) may = may
  refuse (Escape at) may = may
  refuse Range may = (may.0, may.1, λ good. may.2 (alike.fits_back input good))
  refuse (LineTooWide row column) may = (may.0, may.1, alike.fits input may.2, sym (alike.wide input) ∙ may.3)
  refuse Write may = has may
  refuse WriteZero may = has may
  refuse Memory may = tt

  answer : {T : Type 0} (result : Result T RunFault) → MayAnswer first input result → MayAnswer second input result
  answer (Ok value) may = has may
  answer (Err fault) may = refuse fault may

  shows : HasTable second input → ShowsTableOf first input (output_of first input) → ShowsTableOf second input (output_of second input)
  shows table shown =
      let same = alike.output input in
      record {
        text = subst IsUtf8 same shown.text;
        picture = λ qs of_output. shown.picture qs (subst (λ bytes. ArePiecesOf bytes qs) (sym same) of_output) ∙ alike.picture input;
        lines = λ qs of_output. shown.lines qs (subst (λ bytes. ArePiecesOf bytes qs) (sym same) of_output);
      }

alike-serves : (first second : Wanted) → AreAlike first second → (input : List ℕ) → {T : Type 0} (result : Result T RunFault) (old new : Option (List ℕ))
    → Serves first input result old new → Serves second input result old new
alike-serves first second alike input result old new serves = record {
  answers = answer first second alike input result serves.answers;
  writes = subst (λ bytes. Writes bytes result old new) (alike.output input) serves.writes;
  shows = λ table. shows first second alike input table (serves.shows (has second first (alike-back first second alike) input table));
}

module _ (wanted : Wanted) (input : List ℕ) (none : wanted.limit.width ≡ None) (uncolored : wanted.colors ≡ []) where
  alike : AreAlike (style_alone wanted.style) wanted
  alike = record { output = output-same wanted none uncolored; fits = λ input good. subst (λ (T : Type 0). T) (fits-same wanted none uncolored input) good; fits_back = λ input good. subst (λ (T : Type 0). T) (sym (fits-same wanted none uncolored input)) good; wide = wide-same wanted none uncolored; picture = picture-same wanted none uncolored }

  abbrev back : AreAlike wanted (style_alone wanted.style)
  back = alike-back (style_alone wanted.style) wanted alike

  pub output-streamed : output_of (style_alone wanted.style) input ≡ output_of wanted input
  output-streamed = output-same wanted none uncolored input

  pub accepted-streamed : HasTable (style_alone wanted.style) input ↔ HasTable wanted input
  accepted-streamed = (has (style_alone wanted.style) wanted alike input, has wanted (style_alone wanted.style) back input)

pub refuses-streamed : (wanted : Wanted) (input : List ℕ) (fault : RunFault) → wanted.limit.width ≡ None → wanted.colors ≡ [] → (MayEndBy (style_alone wanted.style) input fault ↔ MayEndBy wanted input fault)
refuses-streamed wanted input fault none uncolored = (
  refuse (style_alone wanted.style) wanted (alike wanted input none uncolored) input fault,
  refuse wanted (style_alone wanted.style) (back wanted input none uncolored) input fault,
)

pub serves-streamed : (wanted : Wanted) (input : List ℕ) (result : Result ⊤ RunFault) (old new : Option (List ℕ)) → wanted.limit.width ≡ None → wanted.colors ≡ []
    → (Serves (style_alone wanted.style) input result old new ↔ Serves wanted input result old new)
serves-streamed wanted input result old new none uncolored = (
  alike-serves (style_alone wanted.style) wanted (alike wanted input none uncolored) input result old new,
  alike-serves wanted (style_alone wanted.style) (back wanted input none uncolored) input result old new,
)
