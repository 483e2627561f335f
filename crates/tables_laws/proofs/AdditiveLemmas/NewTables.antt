-- A new table of additive texts ends its lines plain, and its lines are even.
use Rattle.std.proofs.Common.{◌≡◌, ◌<◌, ◌-◌, ℕ, inl, inr, All, List, [], Ok, length, map, replicate, refl, ap, subst, ◌∙◌, arith}
use Rattle.std.specs.List.{AllByRecursion, join_with_byte, range_with_len}
use Rattle.std.proofs.Math.Path.{fun_ext}
use Rattle.std.proofs.lemmas.Bool.{cases_lt}
use Rattle.ansi_str.specs.Characters.{shown_chars}
use Rattle.tables_laws.specs.Characters.AdditiveCharacters.{is_additive}
use Rattle.grid_records_measure.specs.Measures.{measure}
use Rattle.grid_records_measure.specs.TextLines.{line_feed, text_lines}
use Rattle.grid_records_measure.proofs.Plain.{one-column}
use Rattle.tables_laws.specs.Grids.CountedLooks.{IsSilent, TakesOne, TakesOnes}
use Rattle.tables_laws.specs.Grids.TextsOf.{AreAdditiveTexts, IsTextOf}
use Rattle.tables_laws.proofs.GridsLemmas.Texts.{nothing-of}
use Rattle.papergrid_picture.specs.Shown.{AreWholeTexts, IsWholeText}
use Rattle.papergrid_picture.proofs.Items.{All-keeps}
use Rattle.papergrid_picture.proofs.Joins.{table_text-joined}
use Rattle.papergrid_picture.proofs.Related.{All-append, All-map_of, All-replicate}
use Rattle.tabled.specs.Tables.{new_look, new_state}
use Rattle.tabled_steps.specs.States.{State}
use Rattle.tabled_list.specs.Stripping.Printing.{IsFitsAnswer, drawn_heights, drawn_widths, printed}
use Rattle.tabled_list.specs.Stripping.Totals.{drawn_height, drawn_line, drawn_width}
use Rattle.tabled_text.specs.Rows.{filled, filled_row, longest}
use Rattle.tables_laws.specs.Shown.PlainEnds.{EndsLinesPlain}
use Rattle.tables_laws.proofs.ShownLemmas.LineEnds.{ends-plain, text-plain}
use Rattle.tables_laws.proofs.ShownLemmas.NewLooks.{new-closing, new-colored, new-shown}
use Rattle.tables_laws.proofs.ShownLemmas.SomeCells.{no_spans, positive-none, some-cells}
use Rattle.tables_laws.specs.Additive.MeasuredTables.{IsMeasured}
use Rattle.tables_laws.proofs.AdditiveLemmas.MeasuredLines.{all-measure}

pub new-ones : TakesOnes is_additive new_look
new-ones = record {
  shown = new-shown (TakesOne is_additive)
      (record { begins = record { scalar = refl; no_escape = λ same. cc same }; one = one-column 0x2d refl; inside = refl })
      (record { begins = record { scalar = refl; no_escape = λ same. cc same }; one = one-column 0x2b refl; inside = refl })
      (record { begins = record { scalar = refl; no_escape = λ same. cc same }; one = one-column 0x7c refl; inside = refl })
      (record { begins = record { scalar = refl; no_escape = λ same. cc same }; one = one-column 0x20 refl; inside = refl });
  colors = new-colored IsSilent tt;
}

module _ (rows : List (List (List ℕ))) (texts : AreAdditiveTexts rows) where
  abbrev s : State
  s = new_state (filled rows)

  filled-texts : AreAdditiveTexts (filled rows)
  filled-texts =
      All-map_of (AllByRecursion (IsTextOf is_additive)) (AllByRecursion (IsTextOf is_additive)) (filled_row (longest rows))
      (λ row each. All-append (IsTextOf is_additive) row (replicate (longest rows - length row) []) each (All-replicate (IsTextOf is_additive) (longest rows - length row) [] (nothing-of is_additive))) rows texts

  whole : AreWholeTexts (filled rows)
  whole = All-keeps (AllByRecursion (IsTextOf is_additive)) (AllByRecursion IsWholeText) (λ row all. All-keeps (IsTextOf is_additive) IsWholeText (λ text is. is.whole) row all) (filled rows) filled-texts

  pub new-plain : EndsLinesPlain (printed s)
  new-plain = ends-plain (printed s) (text-plain s new-closing whole (λ cell. tt))

  -- a text without lines is empty
  no-text : drawn_height s ≡ 0 → printed s ≡ []
  no-text none =
      table_text-joined s.look s.rows s.colors (drawn_widths s) (drawn_heights s)
      ∙ ap (λ n. join_with_byte line_feed (map (drawn_line s) (range_with_len 0 n))) none

  pub new-even : IsFitsAnswer s (Ok tt) → 0 < length (printed s) → All (λ line. measure (shown_chars line) ≡ drawn_width s) (text_lines (printed s))
  new-even fits some = elim (cases_lt 0 (drawn_height s)) [
    | inl lines ↦
        let cells = some-cells s 0 lines in
        let measured : IsMeasured [] s = record {
          extents = fun_ext no_spans;
          positive = positive-none;
          some_rows = cells.0;
          some_columns = cells.1;
          fits = fits;
          look = new-ones;
          cells = λ cell. tt;
          texts = filled-texts;
        } in
        all-measure [] s measured new-closing whole (λ cell. tt) lines
    | inr none ↦
        let empty = no-text (omega (arith, none)) in
        let long : 0 < 0 = subst (λ (bytes : List ℕ). 0 < length bytes) empty some in
        absurd (omega (arith, long))
  ]
