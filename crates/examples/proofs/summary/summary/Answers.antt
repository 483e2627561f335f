-- The text is that of a new table of the results.
use Rattle.std.proofs.Common.{◌≡◌, ◌<◌, ◌∙◌, ℕ, All, List, Result, Ok, Err, ap, length, subst, sym}
use Rattle.std.specs.Prelude.{IfOk, OnOk, String, string_bytes}
use Rattle.ansi_str.specs.Characters.{shown_chars}
use Rattle.grid_config_values.specs.declared.fault.Fault.{Fault}
use Rattle.grid_records_measure.specs.Measures.{measure}
use Rattle.grid_records_measure.specs.TextLines.{text_lines}
use Rattle.tables_laws.specs.Grids.TextsOf.{AreAdditiveTexts}
use Rattle.tabled.specs.Printing.{FitsOrFails, IsFitsAnswer, printed}
use Rattle.tabled.specs.Tables.{new_state}
use Rattle.tabled.specs.Totals.{drawn_width}
use Rattle.tables_laws.proofs.AdditiveLemmas.NewTables.{new-even, new-plain}
use Rattle.tables_laws.specs.Shown.PlainEnds.{EndsLinesPlain}
use Rattle.tabled_steps.specs.States.{State}
use Rattle.tabled_text.specs.Rows.{filled}
use Rattle.examples.proofs.summary.summary.Goals as goal

module _ (rows : List (List (List ℕ))) (additive : AreAdditiveTexts rows) (s : State) (is : s ≡ new_state (filled rows)) where
  ends-plain : {Z : Type 0} (result : Result (String Z) Fault) → IfOk result (λ text. string_bytes text ≡ printed s) → IfOk result (λ text. EndsLinesPlain (string_bytes text))
  ends-plain (Ok text) same = subst EndsLinesPlain (sym (same ∙ ap printed is)) (new-plain rows additive)
  ends-plain (Err fault) same = tt

  abbrev Even : List ℕ → Type 0
  Even bytes = 0 < length bytes → (columns : ℕ) × All (λ line. measure (shown_chars line) ≡ columns) (text_lines bytes)

  are-even : {Z : Type 0} (result : Result (String Z) Fault) → FitsOrFails s result → IfOk result (λ text. string_bytes text ≡ printed s) → IfOk result (λ text. Even (string_bytes text))
  are-even (Ok text) fits same =
      let new = new_state (filled rows) in
      let fit : IsFitsAnswer new (Ok tt) = subst (λ (t : State). IsFitsAnswer t (Ok tt)) is fits.fits in
      subst Even (sym (same ∙ ap printed is)) (λ some. (drawn_width new, new-even rows additive fit some))
  are-even (Err fault) fits same = tt

pub returns-clause-plain : goal.returns-clause-plain
returns-clause-plain c = λ additive. ends-plain c.args.results additive _ c.in_ok-table.ensures.table c.to_string-text.result c.to_string-text.ensures.text

pub returns-clause-even : goal.returns-clause-even
returns-clause-even c = λ additive. are-even c.args.results additive _ c.in_ok-table.ensures.table c.to_string-text.result c.to_string-text.ensures.table c.to_string-text.ensures.text
