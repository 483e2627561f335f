use Rattle.std.proofs.Common.{◌≡◌, ◌++◌, ◌⊎◌, ℕ, List, Result, Err, IfErr, IfOk, Ok, OnOk, inl, inr, length, string_bytes, subst, sym}
use Rattle.std.proofs.lemmas.Result.{IfErr-weaker}
use Rattle.grid_config_values.specs.Spans.Spans.{AreGood}
use Rattle.grid_config_values.specs.declared.fault.Fault.{Fault}
use Rattle.grid_config_values.specs.declared.fault.Fault.TheVariants.{Memory}
use Rattle.grid_config.specs.Compact.{Compact, compact_of}
use Rattle.grid_config.specs.Looks.{Look, compact_look, look_of}
use Rattle.grid_config.specs.Settings.{Settings}
use Rattle.grid_config.proofs.Looks.{same_look}
use Rattle.grid_records.specs.RecordRows.Truncating.{truncated_rows}
use Rattle.grid_records_traits.specs.Rows.{evened}
use Rattle.papergrid.specs.Grids.{grid_text}
use Rattle.papergrid.proofs.Flat.{answer-good, none_good}
use Rattle.papergrid.specs.Tables.{CanBeDrawn, IsFitsAnswer, table_frame}
use Rattle.tabled_compact.specs.Tables.{first_or_all, no_colors}
use Rattle.tabled_compact.specs.Iter.Drawing.{IsDrawn}
use Rattle.tabled_size.specs.Dimension.Sizes.{GivenSizes, given_size}
use Rattle.tabled_compact.proofs.iter.printing.draw.Goals as goal

-- a grid that fits is drawn
drawn_ok : (settings : Settings) (sizes : GivenSizes × GivenSizes) (columns : ℕ) (rows : List (List (List ℕ))) (result : Result (Unit {0}) Fault) →
    OnOk result (CanBeDrawn settings (given_size sizes.0) (given_size sizes.1) columns rows) → IfOk result (λ done. IsDrawn (look_of settings) sizes columns rows (Ok done))
drawn_ok settings sizes columns rows (Ok done) fits = (tt, fits.range, fits.room)
drawn_ok settings sizes columns rows (Err _) _ = tt

pub returns-clause-text : goal.returns-clause-text
returns-clause-text g c =
    let compact : Compact = compact_of c.args.config.now in
    let same : look_of c.in_ok-settings.settings ≡ compact_look compact = same_look compact c.in_ok-settings.settings c.in_ok-settings.ensures.settings in
    let shown = evened c.args.columns (truncated_rows (given_size c.args.both.content.0) (first_or_all c.args.kept (g.I.RecordTexts.rows c.args.rows))) in
    subst (λ (look : Look). OnOk c.draw_kept.result (string_bytes c.draw_kept.new.out ≡ string_bytes c.args.out.now
    ++ grid_text look (given_size c.args.both.sizes.0) (given_size c.args.both.sizes.1) no_colors c.args.columns shown))
    same c.draw_kept.ensures.text

pub returns-clause-fits : goal.returns-clause-fits
returns-clause-fits g c =
    let compact : Compact = compact_of c.args.config.now in
    let settings : Settings = c.in_ok-settings.settings in
    let same : look_of settings ≡ compact_look compact = same_look compact settings c.in_ok-settings.ensures.settings in
    let shown = evened c.args.columns (truncated_rows (given_size c.args.both.content.0) (first_or_all c.args.kept (g.I.RecordTexts.rows c.args.rows))) in
    subst (λ (look : Look). IfOk c.draw_kept.result (λ done. IsDrawn look c.args.both.sizes c.args.columns shown (Ok done))) same
    (drawn_ok settings c.args.both.sizes c.args.columns shown c.draw_kept.result c.draw_kept.ensures.fits)

pub returns-clause-fault : goal.returns-clause-fault
returns-clause-fault g c =
    let compact : Compact = compact_of c.args.config.now in
    let settings : Settings = c.in_ok-settings.settings in
    let same : look_of settings ≡ compact_look compact = same_look compact settings c.in_ok-settings.ensures.settings in
    let shown = evened c.args.columns (truncated_rows (given_size c.args.both.content.0) (first_or_all c.args.kept (g.I.RecordTexts.rows c.args.rows))) in
    let Good = AreGood settings.spans (length shown) c.args.columns in
    let good : Good = subst (λ spans. AreGood spans (length shown) c.args.columns) (sym c.in_ok-settings.ensures.settings.spans) (none_good (length shown) c.args.columns) in
    let frame = table_frame settings (given_size c.args.both.sizes.0) (given_size c.args.both.sizes.1) c.args.columns shown in
    subst (λ (look : Look). IfErr c.draw_kept.result (λ fault. (fault ≡ Memory) ⊎ IsDrawn look c.args.both.sizes c.args.columns shown (Err fault))) same
    (IfErr-weaker c.draw_kept.result (λ fault. (fault ≡ Memory) ⊎ IsFitsAnswer settings (given_size c.args.both.sizes.0) (given_size c.args.both.sizes.1) c.args.columns shown (Err fault))
    (λ fault. (fault ≡ Memory) ⊎ IsDrawn (look_of settings) c.args.both.sizes c.args.columns shown (Err fault))
    (λ fault told. elim told [
      | inl memory ↦ inl memory
      | inr is ↦ inr (answer-good frame shown Good good (Err fault) is)
    ]) c.draw_kept.ensures.fault)
