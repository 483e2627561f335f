use Rattle.std.proofs.Common.{◌≡◌, ◌++◌, Err, List, Ok, OnOk, Result, inl, inr, string_bytes, subst, sym, ℕ}
use Rattle.std.proofs.lemmas.Result.{IfErr-weaker, IfOk-weaker}
use Rattle.grid_config_values.specs.declared.fault.Fault.{Fault}
use Rattle.grid_config_values.specs.Spans.Spans.{AreGood}
use Rattle.grid_config.specs.Compact.{Compact, compact_of}
use Rattle.grid_config.specs.Looks.{Look, compact_look, look_of}
use Rattle.grid_config.specs.Settings.{Settings, StartsWith, compact_start}
use Rattle.grid_config.proofs.Looks.{same_look}
use Rattle.papergrid_picture.specs.Fitting.{FitsAnswer}
use Rattle.papergrid_picture.specs.Frame.{frame_of}
use Rattle.papergrid_picture.specs.Tables.{sizes_of, table_text}
use Rattle.papergrid.specs.Compact.{without_high_padding, one_line}
use Rattle.papergrid.proofs.Flat.{answer-good, none_good}
use Rattle.papergrid.proofs.compact.print_lines.Goals as goal

pub returns-clause-text : goal.returns-clause-text
returns-clause-text g c =
    let flattened : Compact = without_high_padding (compact_of c.args.cfg.now) in
    let same : look_of c.in_ok-settings.settings ≡ compact_look flattened = same_look flattened c.in_ok-settings.settings c.in_ok-settings.ensures in
    subst (λ (look : Look). OnOk c.print_fitting-outcome.result (string_bytes c.print_fitting-outcome.new.out ≡ string_bytes c.args.out.now
    ++ table_text look (g.R.RecordTexts.rows c.args.records.now) (g.C.Colors.color c.args.colors.now) (sizes_of (g.D.Dimension.width c.args.dims.now) c.args.columns) (sizes_of one_line c.args.rows)))
    same c.print_fitting-outcome.ensures.text

-- a table of one line a row fits where it does by good spans, since it has none
flat-fits : (flattened : Compact) (settings : Settings) (rows : List (List (List ℕ))) (widths heights : List ℕ) (n m : ℕ) → StartsWith (compact_start flattened) settings
    → (answer : Result (Unit {0}) Fault) → FitsAnswer (frame_of (look_of settings) widths heights) rows (AreGood settings.spans n m) answer → FitsAnswer (frame_of (compact_look flattened) widths heights) rows (Unit {0}) answer
flat-fits flattened settings rows widths heights n m starts answer is =
    let good : AreGood settings.spans n m = subst (λ spans. AreGood spans n m) (sym starts.spans) (none_good n m) in
    subst (λ (look : Look). FitsAnswer (frame_of look widths heights) rows (Unit {0}) answer) (same_look flattened settings starts)
    (answer-good (frame_of (look_of settings) widths heights) rows (AreGood settings.spans n m) good answer is)

pub returns-clause-fits : goal.returns-clause-fits
returns-clause-fits g c =
    let fits = flat-fits (without_high_padding (compact_of c.args.cfg.now)) c.in_ok-settings.settings (g.R.RecordTexts.rows c.args.records.now) (sizes_of (g.D.Dimension.width c.args.dims.now) c.args.columns) (sizes_of one_line c.args.rows) c.args.rows c.args.columns
    c.in_ok-settings.ensures in
    IfOk-weaker c.print_fitting-outcome.result _ _ (λ done is. fits (Ok done) is) c.print_fitting-outcome.ensures.fits

pub returns-clause-fault : goal.returns-clause-fault
returns-clause-fault g c =
    let fits = flat-fits (without_high_padding (compact_of c.args.cfg.now)) c.in_ok-settings.settings (g.R.RecordTexts.rows c.args.records.now) (sizes_of (g.D.Dimension.width c.args.dims.now) c.args.columns) (sizes_of one_line c.args.rows) c.args.rows c.args.columns
    c.in_ok-settings.ensures in
    IfErr-weaker c.print_fitting-outcome.result _ _ (λ fault told. elim told [
      | inl memory ↦ inl memory
      | inr is ↦ inr (fits (Err fault) is)
    ]) c.print_fitting-outcome.ensures.fault
