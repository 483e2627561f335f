use Rattle.std.proofs.Common.{◌∙◌, refl, ℕ}
use Rattle.columns_laws.proofs.PlainLemmas.Totals.{total-asked, total-natural}
use Rattle.columns_run.specs.Narrow.{GlyphsAre}
use Rattle.program_options.specs.Columns.Settings.{settings_with}
use Rattle.grid_config_values.specs.declared.borders.Borders.{Borders}
use Rattle.grid_config_values.specs.Glyphs.{no_borders}
use Rattle.tabled_glyphs.specs.Glyphs.{ascii, extended, modern}
use Rattle.columns_laws.specs.Plain.AdditiveInputs.{HasAdditiveGlyphs, IsAdditive}
use Rattle.columns_laws.proofs.PlainLemmas.EvenLines.{columns-additive, measured-additive}
use Rattle.columns_laws.proofs.plain.additive_inputs_have_even_lines.Goals as goal

pub returns-clause-columns : goal.returns-clause-columns
returns-clause-columns c = λ wanted input y runnable is inside. columns-additive wanted input y runnable.narrow runnable.close is inside

pub returns-clause-measured : goal.returns-clause-measured
returns-clause-measured c = λ wanted input y runnable glyphs is inside. measured-additive wanted input y runnable.narrow glyphs runnable.close is inside

pub returns-clause-natural : goal.returns-clause-natural
returns-clause-natural c = λ wanted input y none runnable glyphs is inside.
    measured-additive wanted input y runnable.narrow glyphs runnable.close is inside ∙ total-natural wanted input none

pub returns-clause-asked : goal.returns-clause-asked
returns-clause-asked c = λ wanted input width y some runnable glyphs is inside.
    measured-additive wanted input y runnable.narrow glyphs runnable.close is inside ∙ total-asked wanted input width some

additive-with : (borders : Borders ℕ) → GlyphsAre IsAdditive borders → HasAdditiveGlyphs (settings_with borders)
additive-with borders glyphs = record { glyphs = glyphs; margin = (refl, refl, refl, refl); padding = (refl, refl, refl, refl) }

pub returns-clause-styles : goal.returns-clause-styles
returns-clause-styles c = (
  additive-with ascii ((refl, refl, refl), (refl, refl, refl), (refl, refl, refl), (refl, refl, refl), (refl, refl, refl)),
  additive-with modern ((refl, refl, refl), (refl, refl, refl), (refl, refl, refl), (refl, refl, refl), (refl, refl, refl)),
  additive-with extended ((refl, refl, refl), (refl, refl, refl), (refl, refl, refl), (refl, refl, refl), (refl, refl, refl)),
  additive-with no_borders ((tt, tt, tt), (tt, tt, tt), (tt, tt, tt), (tt, tt, tt), (tt, tt, tt)),
)
