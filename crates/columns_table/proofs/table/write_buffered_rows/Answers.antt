use Rattle.std.proofs.Common.{[], ◌≡◌, ◌<◌, ◌^◌, ℕ, List, Some, sum, length, sym, subst, ◌∙◌, vec_items}
use Rattle.columns_asked.specs.Colors.ColoredTables.{colored_text}
use Rattle.columns_asked.specs.Colors.ColumnColors.{cell_color}
use Rattle.grid_config.specs.Compact.{compact_of}
use Rattle.grid_records_estimate.proofs.Meets.{IfErr-told}
use Rattle.columns_asked.specs.DrawnTables.{narrowed}
use Rattle.tabled_output.specs.Pieces.{Passes}
use Rattle.tabled_output.proofs.WrittenPieces.{passes-none}
use Rattle.columns_table.specs.Rows.{row_texts_of}
use Rattle.columns_table.proofs.Answers.{Known, alone-narrowed, alone-natural, found-none, found-some, from-narrowed, from-natural, narrow-is, sizes-refused}
use Rattle.columns_table.proofs.Narrowed.{some-sizes, text-natural}
use Rattle.columns_table.proofs.Rooms.{paddings-fit, sum-fits}
use Rattle.columns_table.proofs.table.write_buffered_rows.Given.{Over}
use Rattle.columns_table.proofs.table.write_buffered_rows.Goals as goal
use Rattle.columns_table.proofs.table.write_buffered_rows.Goals.{After-write_narrowed, After-write_natural}

pub returns-in_err-sizes-clause-refused : goal.returns-in_err-sizes-clause-refused
returns-in_err-sizes-clause-refused g c =
    let style = compact_of c.args.style.now in
    let texts = row_texts_of c.args.rows in
    IfErr-told c.from_residual.result c.in_err-sizes.field-0.0 _ c.from_residual.ensures.1 (sizes-refused style c.args.asked.now texts c.in_err-sizes.field-0.0 c.in_err-sizes.ensures.refused)

pub narrower-requires-clause-sum : goal.narrower-requires-clause-sum
narrower-requires-clause-sum g c =
    let style = compact_of c.args.style.now in
    let texts = row_texts_of c.args.rows in
    subst (λ (widths : List ℕ). sum widths < 2 ^ 64) (sym c.in_ok-sizes.ensures.widths) (sum-fits style texts c.in_ok-sizes.ensures.fits)

pub narrower-requires-clause-beside : goal.narrower-requires-clause-beside
narrower-requires-clause-beside g c = λ some.
    let style = compact_of c.args.style.now in
    let texts = row_texts_of c.args.rows in
    paddings-fit style texts c.in_ok-sizes.ensures.fits (subst (λ (widths : List ℕ). 0 < length widths) c.in_ok-sizes.ensures.widths some)

pub write_narrowed-requires-clause-beside : goal.write_narrowed-requires-clause-beside
write_narrowed-requires-clause-beside g c =
    let style = compact_of c.args.style.now in
    let texts = row_texts_of c.args.rows in
    let sizes = c.in_ok-sizes.sizes in
    let told : narrowed style c.args.asked.now texts ≡ Some c.in-Some.widths.items =
    found-some vec_items c.in_ok-widths.field-0 c.in-Some.widths (narrowed style c.args.asked.now texts) c.in-Some.is (c.in_ok-widths.ensures ∙ narrow-is style c.args.asked.now texts sizes.widths.items sizes.whole_width c.in_ok-sizes.ensures.widths c.in_ok-sizes.ensures.whole_width) in
    paddings-fit style texts c.in_ok-sizes.ensures.fits (some-sizes style c.args.asked.now texts c.in-Some.widths.items told).0

-- what is known where columns shrink
narrowed-known : (g : Over) (c : After-write_narrowed g) → Known (compact_of c.args.style.now) c.args.asked.now (row_texts_of c.args.rows) c.write_narrowed.result
narrowed-known g c =
    from-narrowed (compact_of c.args.style.now) c.args.asked.now (row_texts_of c.args.rows) c.write_narrowed.result c.in_ok-sizes.ensures.fits
    c.write_narrowed.ensures.range c.write_narrowed.ensures.room c.write_narrowed.ensures.refused

-- and where none does
natural-known : (g : Over) (c : After-write_natural g) → Known (compact_of c.args.style.now) c.args.asked.now (row_texts_of c.args.rows) c.write_natural.result
natural-known g c =
    let style = compact_of c.args.style.now in
    let asked = c.args.asked.now in
    let texts = row_texts_of c.args.rows in
    let sizes = c.in_ok-sizes.sizes in
    let told = c.in_ok-widths.ensures ∙ narrow-is style asked texts sizes.widths.items sizes.whole_width c.in_ok-sizes.ensures.widths c.in_ok-sizes.ensures.whole_width in
    from-natural style asked texts c.write_natural.result c.in_ok-sizes.ensures.fits (found-none vec_items c.in_ok-widths.field-0 (narrowed style asked texts) c.in-None.is told)
    c.write_natural.ensures.room c.write_natural.ensures.refused

pub returns-in-Some-clause-fits : goal.returns-in-Some-clause-fits
returns-in-Some-clause-fits g c = (narrowed-known g (goal.at.returns-in-Some-clause-fits g c).After-write_narrowed).fits

pub returns-in-Some-clause-refused : goal.returns-in-Some-clause-refused
returns-in-Some-clause-refused g c = (narrowed-known g (goal.at.returns-in-Some-clause-refused g c).After-write_narrowed).refused

pub returns-in-None-clause-table : goal.returns-in-None-clause-table
returns-in-None-clause-table g c =
    let style = compact_of c.args.style.now in
    let asked = c.args.asked.now in
    let texts = row_texts_of c.args.rows in
    let sizes = c.in_ok-sizes.sizes in
    let told = c.in_ok-widths.ensures ∙ narrow-is style asked texts sizes.widths.items sizes.whole_width c.in_ok-sizes.ensures.widths c.in_ok-sizes.ensures.whole_width in
    subst (λ text. Passes g.W.Write.contents text c.write_natural.result [] c.args.writer.now c.write_natural.new.writer)
    (text-natural style asked texts (found-none vec_items c.in_ok-widths.field-0 (narrowed style asked texts) c.in-None.is told) (cell_color c.args.colors.now))
    c.write_natural.ensures.table

pub returns-in_err-sizes-clause-table : goal.returns-in_err-sizes-clause-table
returns-in_err-sizes-clause-table g c =
    passes-none g.W.Write.contents (colored_text (compact_of c.args.style.now) c.args.asked.now (cell_color c.args.colors.now) (row_texts_of c.args.rows)) [] c.from_residual.result c.args.writer.now c.from_residual.ensures.0

pub returns-in_err-widths-clause-table : goal.returns-in_err-widths-clause-table
returns-in_err-widths-clause-table g c =
    passes-none g.W.Write.contents (colored_text (compact_of c.args.style.now) c.args.asked.now (cell_color c.args.colors.now) (row_texts_of c.args.rows)) [] c.from_residual-in_err-widths.result c.args.writer.now c.from_residual-in_err-widths.ensures.0

pub returns-in-None-clause-fits : goal.returns-in-None-clause-fits
returns-in-None-clause-fits g c = (natural-known g (goal.at.returns-in-None-clause-fits g c).After-write_natural).fits

pub returns-in-None-clause-refused : goal.returns-in-None-clause-refused
returns-in-None-clause-refused g c = (natural-known g (goal.at.returns-in-None-clause-refused g c).After-write_natural).refused

pub returns-in-Some-clause-alone : goal.returns-in-Some-clause-alone
returns-in-Some-clause-alone g c =
    alone-narrowed (compact_of c.args.style.now) c.args.asked.now (row_texts_of c.args.rows) c.in_ok-sizes.ensures.fits c.write_narrowed.ensures.alone

pub returns-in-None-clause-alone : goal.returns-in-None-clause-alone
returns-in-None-clause-alone g c =
    let style = compact_of c.args.style.now in
    let asked = c.args.asked.now in
    let texts = row_texts_of c.args.rows in
    let sizes = c.in_ok-sizes.sizes in
    let told = c.in_ok-widths.ensures ∙ narrow-is style asked texts sizes.widths.items sizes.whole_width c.in_ok-sizes.ensures.widths c.in_ok-sizes.ensures.whole_width in
    alone-natural style asked texts c.in_ok-sizes.ensures.fits (found-none vec_items c.in_ok-widths.field-0 (narrowed style asked texts) c.in-None.is told) c.write_natural.ensures.alone
