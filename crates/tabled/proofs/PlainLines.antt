-- Lines of plain characters take the columns of the total width.
use Rattle.std.proofs.Common.{◌≡◌, ◌<◌, ℕ, List, [], ◌∷◌, None, Ok, length, refl, ap, sym, subst, ◌∙◌}
use Rattle.std.specs.Prelude.{chars}
use Rattle.std.specs.List.{AllByRecursion}
use Rattle.grid_config_values.specs.Spans.Spans.{ArePositive}
use Rattle.grid_config.specs.Looks.{Look, look_of}
use Rattle.grid_config.specs.Settings.{Settings}
use Rattle.grid_records_measure.specs.Measures.{line_cost}
use Rattle.papergrid_picture.proofs.ColorsLemmas.Stripped.{closing-show_nothing, lines-same}
use Rattle.papergrid_fits.proofs.Rooms.{good-spans}
use Rattle.papergrid_picture.proofs.Widths.{line-columns}
use Rattle.papergrid_picture.specs.Shown.{ArePlainlyShown, AreWholeTexts, CostsOne, IsBare, IsPlainlyShown, IsWholeText, ShowsOnly}
use Rattle.tabled_size.specs.Dimension.Sizes.{given_size}
use Rattle.tabled_size.specs.Dimension.Stored.{Stored, stored_sizes}
use Rattle.tabled_steps.specs.States.{State, column_count, state_with}
use Rattle.tabled.specs.Narrowed.{IsPlainlyPrinted, line_columns}
use Rattle.tabled.specs.Printing.{IsFitsAnswer, drawn_heights, drawn_sizes, drawn_widths}
use Rattle.tabled.specs.Totals.{drawn_width}
use Rattle.tabled.proofs.Fitting.{fits_given}
use Rattle.tabled.proofs.TotalWidths.{whole_width}
use Rattle.tabled.proofs.TrimmedRoom.{plain-room}

whole-line : (settings : Settings) (rows : List (List (List ℕ))) (stored : Stored) (y : ℕ) → ArePositive settings.spans → 0 < length rows → 0 < column_count rows → ArePlainlyShown rows →
    let s = state_with rows (look_of settings) (λ _. None) stored in
    IsFitsAnswer s (Ok tt) → IsBare (look_of settings) → ShowsOnly CostsOne (look_of settings) → line_columns s y ≡ drawn_width s
whole-line settings rows stored y positive some_rows some_columns texts fit bare ones =
    let s = state_with rows (look_of settings) (λ _. None) stored in
    let sizes = drawn_sizes s in
    let width = given_size (stored_sizes sizes.widths) in
    let height = given_size (stored_sizes sizes.heights) in
    let fits = fits_given settings rows (λ _. None) stored settings sizes (column_count rows) refl refl refl fit in
    line-columns (look_of settings) rows (drawn_widths s) (drawn_heights s) bare ones texts settings.spans y
    (good-spans settings width height (column_count rows) rows (λ _. None) positive fits) (plain-room settings width height (column_count rows) rows (λ _. None) positive fits texts)
    ∙ sym (whole_width settings rows (λ _. None) stored some_rows some_columns)

-- plain texts are whole
rows-whole : (rows : List (List (List ℕ))) → ArePlainlyShown rows → AreWholeTexts rows
rows-whole [] all = tt
rows-whole (row ∷ rows) all = (row-whole row all.0, rows-whole rows all.1)
  where
    row-whole : (row : List (List ℕ)) → AllByRecursion IsPlainlyShown row → AllByRecursion IsWholeText row
    row-whole [] all = tt
    row-whole (text ∷ row) all = (all.0.whole, row-whole row all.1)

-- a line of a table in colours that close takes the columns of that line without colours
pub plain-line : (settings : Settings) (s : State) (y : ℕ) → IsPlainlyPrinted settings s → line_columns s y ≡ drawn_width s
plain-line settings s y is =
    let Counted : Look → Type 0 = λ look.
    (let t = state_with s.rows look (λ _. None) s.sizes in IsFitsAnswer t (Ok tt) → IsBare look → ShowsOnly CostsOne look → line_columns t y ≡ drawn_width t) in
    let here : Counted (look_of settings) = whole-line settings s.rows s.sizes y is.spans is.some_rows is.some_columns is.texts in
    let looked : Counted s.look = subst Counted (sym is.look) here in
    ap (λ (bytes : List ℕ). line_cost (chars bytes))
    (lines-same s.look s.rows s.colors (drawn_widths s) (drawn_heights s) is.bare (rows-whole s.rows is.texts) (closing-show_nothing s.colors is.closing) y).one.left
    ∙ looked is.fits is.bare is.ones
