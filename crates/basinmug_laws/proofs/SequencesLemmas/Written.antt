-- What is written where not all escapes take effect: parts of which each is an allowed sequence or shows no control character.
use Rattle.std.proofs.Common.{◌≡◌, ◌≢◌, ◌||◌, ◌⊎◌, inl, inr, ⊎_elim, ℕ, Bool, true, false, List, Option, None, Some, Result, Ok, Err, length, map, refl, ap}
use Rattle.std.specs.Prelude.{IfOk, IsTrue, MatchBool, OnErr}
use Rattle.std.specs.List.{AllByRecursion}
use Rattle.csv.specs.Reading.{records}
use Rattle.grid_config.specs.Colors.{Color}
use Rattle.papergrid_picture.specs.Colors.ClosingColors.{IsClosing}
use Rattle.papergrid_picture.specs.Shown.{AreWholeTexts, IsWholeText}
use Rattle.papergrid_picture.proofs.Items.{All-keeps}
use Rattle.papergrid_picture.proofs.Related.{All-map_of}
use Rattle.tabled_steps.specs.States.{State}
use Rattle.tables_laws.specs.Grids.TextsOf.{AreTextsOf}
use Rattle.tables_laws.specs.Shown.PlainEnds.{EndsLinesPlain}
use Rattle.tables_laws.proofs.ShownLemmas.LineEnds.{ends-plain}
use Rattle.basinmug_input.specs.Cleaning.{HasOnly, cleaned, may_stand}
use Rattle.basinmug_input.specs.Faults.{IsReadable}
use Rattle.basinmug_input.specs.Flaws.{IsReadableField}
use Rattle.basinmug_input.specs.Reading.{settings}
use Rattle.basinmug_input.specs.Rows.{text_of_bytes}
use Rattle.basinmug_input.proofs.Harmless.{field-only}
use Rattle.program_options.specs.declared.basinmug.ColumnName.{ColumnName}
use Rattle.program_options.specs.declared.basinmug.Escapes.{Escapes}
use Rattle.program_options.specs.declared.basinmug.Escapes.TheVariants.{All as AllEscapes}
use Rattle.basinmug_run.specs.declared.options.Options.{Options}
use Rattle.basinmug_columns.specs.declared.rows.RowsShown.{RowsShown}
use Rattle.basinmug_run.specs.Kept.{Kept, kept_of}
use Rattle.basinmug_run.specs.Picture.Pictures.{IsTable, cells_in}
use Rattle.basinmug_run.specs.Picture.Printed.{PrintsShown, PrintsShownFront, text_of}
use Rattle.basinmug_run.specs.Columns.{column_counts, own_rows, shows_whole_rows, table_columns}
use Rattle.basinmug_run.specs.Runs.{IsOwn, PrintsAsTable, PrintsAsTableFront, PrintsColumns, PrintsColumnsFront, PrintsRecords, PrintsRecordsFront, PrintsTextFront, kept_text, shown_text, table_rows}
use Rattle.basinmug_run.specs.declared.picture.printing.Printed.{Printed}
use Rattle.basinmug_run.specs.declared.fault.RunFault.{RunFault}
use Rattle.basinmug_laws.specs.Controls.ControlTexts.{ShowsNoControls, is_no_control}
use Rattle.basinmug_laws.specs.Controls.Written.{BeginsOnly, HaveNamedColors, WritesOnly, is_put_in, may_be_written}
use Rattle.basinmug_laws.specs.Shown.ClosingOptions.{HaveClosingColors}
use Rattle.basinmug_laws.specs.Shown.Records.{Rows, records_cleaned}
use Rattle.basinmug_laws.specs.Shown.RunsShown.{IsRunOf}
use Rattle.basinmug_laws.proofs.AdditiveLemmas.EvenTables.{IsEven, table-even}
use Rattle.basinmug_laws.proofs.ControlsLemmas.CleanedTexts.{field-of}
use Rattle.basinmug_laws.proofs.ControlsLemmas.PrintedControls.{printed-of}
use Rattle.basinmug_laws.proofs.SequencesLemmas.Allowed.{HasAllowed, allowed-append, allowed-nothing, allowed-plain, allowed-sequence}
use Rattle.basinmug_laws.proofs.SequencesLemmas.Colors.{IsAsked, all-asked, all-kept}
use Rattle.basinmug_laws.proofs.SequencesLemmas.Lines.{line-allowed}
use Rattle.basinmug_laws.proofs.SequencesLemmas.Styles.{IsLeft, MayStand, closed-escapes, kept-read}
use Rattle.basinmug_laws.proofs.SequencesLemmas.Texts.{IsClean, allowed-only, kept-clean, only-allowed, only-also}
use Rattle.basinmug_laws.proofs.ShownLemmas.ChosenColumns.{columns-of, own-colors, own-of}
use Rattle.basinmug_laws.proofs.ShownLemmas.FittedTexts.{ellipsis-whole}
use Rattle.basinmug_laws.proofs.ShownLemmas.KeptRows.{shown-all}
use Rattle.basinmug_laws.proofs.ShownLemmas.OwnBytes.{own-plain}
use Rattle.basinmug_laws.proofs.ShownLemmas.PlainRecords.{shown-plain}
use Rattle.basinmug_laws.proofs.ShownLemmas.PrintedLines.{all-printed}
use Rattle.basinmug_laws.proofs.ShownLemmas.PrintedTables.{picture-plain}
use Rattle.basinmug_laws.proofs.ShownLemmas.RecordLines.{AreLined, shown-lined}
use Rattle.basinmug_laws.proofs.ShownLemmas.Tables.{table-shown}
use Rattle.basinmug_laws.proofs.ShownLemmas.TextSteps.{IsKeptByEach, step-fitted}
use Rattle.basinmug_laws.proofs.ShownLemmas.WholeTexts.{rows-cleaned, whole-nothing}

or-first : (a b : Bool) → a ≡ true → (a || b) ≡ true
or-first a b is = ap (λ t. t || b) is

or-last : (a b : Bool) → b ≡ true → (a || b) ≡ true
or-last true b is = refl
or-last false b is = is

-- ---- records as they are cleaned

module _ (escapes : Escapes) (not_all : escapes ≢ AllEscapes) where
  abbrev Clean : List ℕ → Type 0
  Clean text = IsClean (MayStand escapes) text

  field-clean : (field : List ℕ) → IsReadableField escapes field → Clean (cleaned escapes field)
  field-clean field sound = record {
    shows = field-of escapes not_all field sound;
    allowed = only-allowed (may_stand escapes) (closed-escapes escapes not_all).read (cleaned escapes field) (field-only escapes field not_all);
  }

  rows-clean : (delimiter : ℕ) (bytes : List ℕ) → IsReadable escapes (settings delimiter) (text_of_bytes bytes) → AllByRecursion (AllByRecursion Clean) (records_cleaned escapes delimiter bytes)
  rows-clean delimiter bytes readable =
      All-map_of (AllByRecursion (IsReadableField escapes)) (AllByRecursion Clean) (map (cleaned escapes))
      (λ row all. All-map_of (IsReadableField escapes) Clean (cleaned escapes) field-clean row all)
      (records (settings delimiter) (text_of_bytes bytes)) readable.sound

  -- ---- one below the other

  lined-clean : AreLined Clean Clean
  lined-clean =
      let kept = kept-clean (MayStand escapes) (IsLeft escapes) (closed-escapes escapes not_all) in
      record { own_texts = kept.own; fits = step-fitted Clean kept; lines = kept.lines; append = kept.append; own = kept.own; dots = kept.dots }

  pub records-only : (options : Options) (which : RowsShown) (rows : Rows) → AllByRecursion (AllByRecursion Clean) rows → HasOnly (may_stand escapes) (shown_text options which rows)
  records-only options which rows clean =
      let text = shown-lined Clean Clean lined-clean options which rows clean in
      allowed-only (may_stand escapes) (shown_text options which rows) text.shows text.allowed

  -- ---- in a box, and as a document

  module _ (colors : List (ColumnName × Color)) where
    abbrev MayBeWritten : List ℕ → Type 0
    MayBeWritten bytes = IsTrue (may_be_written escapes colors bytes)

    ends-allowed : (color : Color) → IsAsked colors color → HasAllowed MayBeWritten color.prefix × HasAllowed MayBeWritten color.suffix
    ends-allowed color is = (
      allowed-sequence MayBeWritten color.prefix (kept-read color.prefix is.kept.prefix) (or-last (may_stand escapes color.prefix) (is_put_in colors color.prefix) is.first),
      allowed-sequence MayBeWritten color.suffix (kept-read color.suffix is.kept.suffix) (or-last (may_stand escapes color.suffix) (is_put_in colors color.suffix) is.last),
    )

    table-only : (s : State) → IsEven Clean (IsAsked colors) s → (options : Options) (which : RowsShown) (rows : Rows) (columns : Option (ℕ × ℕ)) → ShowsNoControls (text_of options which rows columns s)
        → HasOnly (may_be_written escapes colors) (text_of options which rows columns s)
    table-only s even options which rows columns shows =
        allowed-only (may_be_written escapes colors) (text_of options which rows columns s) shows
        (all-printed (HasAllowed MayBeWritten) (allowed-nothing MayBeWritten) (allowed-append MayBeWritten) (λ bytes own. allowed-plain MayBeWritten bytes (own-plain bytes own)) s
        (line-allowed (MayStand escapes) (IsLeft escapes) (closed-escapes escapes not_all) MayBeWritten (λ bytes may. or-first (may_stand escapes bytes) (is_put_in colors bytes) may) (IsAsked colors) ends-allowed s even)
        options which rows columns)

-- ---- a run

texts-of_clean : (escapes : Escapes) (rows : Rows) → AllByRecursion (AllByRecursion (IsClean (MayStand escapes))) rows → AreTextsOf is_no_control rows
texts-of_clean escapes rows clean =
    All-keeps (AllByRecursion (IsClean (MayStand escapes))) (AllByRecursion ShowsNoControls) (λ row all. All-keeps (IsClean (MayStand escapes)) ShowsNoControls (λ text is. is.shows) row all) rows clean

module _ (delimiter : ℕ) (bytes : List ℕ) (options : Options) (before after : Option (List ℕ)) (not_all : options.escapes ≢ AllEscapes)
    (readable : IsReadable options.escapes (settings delimiter) (text_of_bytes bytes)) where
  abbrev kept : Kept
  kept = kept_of options (records_cleaned options.escapes delimiter bytes)

  whole : AreWholeTexts kept.rows
  whole = shown-all IsWholeText options (records_cleaned options.escapes delimiter bytes) (rows-cleaned options.escapes delimiter bytes readable)

  clean : AllByRecursion (AllByRecursion (IsClean (MayStand options.escapes))) kept.rows
  clean = shown-all (IsClean (MayStand options.escapes)) options (records_cleaned options.escapes delimiter bytes) (rows-clean options.escapes not_all delimiter bytes readable)

  steps : IsKeptByEach (IsClean (MayStand options.escapes))
  steps = kept-clean (MayStand options.escapes) (IsLeft options.escapes) (closed-escapes options.escapes not_all)

  own-clean : HasOnly (may_stand options.escapes) (kept_text options kept)
  own-clean = records-only options.escapes not_all options kept.shown (own_rows options kept.rows) (own-of (IsClean (MayStand options.escapes)) steps.nothing steps.dots options kept.rows clean)

  own-plain-text : EndsLinesPlain (kept_text options kept)
  own-plain-text = shown-plain options kept.shown (own_rows options kept.rows) (own-of IsWholeText whole-nothing ellipsis-whole options kept.rows whole)

  pub records-written : (wider : Bool) → PrintsRecords options kept wider before after → WritesOnly (may_stand options.escapes) before after
  records-written wider found = (kept_text options kept, found.1.1, own-clean, own-plain-text)

  module _ (named : HaveNamedColors options) where
    abbrev colors : List (ColumnName × Color)
    colors = options.colors.items

    -- a table of rows that are cleaned, and colours of columns that are among these
    table-text : (own : Options) (which : RowsShown) (texts : Rows) (columns : Option (ℕ × ℕ)) → AreWholeTexts texts → AllByRecursion (AllByRecursion (IsClean (MayStand options.escapes))) texts
        → AllByRecursion (λ (pair : ColumnName × Color). IsAsked colors pair.1) own.colors.items → (s : State) → IsTable own which texts s
        → HasOnly (may_be_written options.escapes colors) (text_of own which texts columns s) × EndsLinesPlain (text_of own which texts columns s)
    table-text own which texts columns whole_texts clean_texts asked s made =
        let close : HaveClosingColors own =
        All-keeps (λ (pair : ColumnName × Color). IsAsked colors pair.1) (λ (pair : ColumnName × Color). IsClosing pair.1) (λ pair is. is.kept.closing) own.colors.items asked in
        let shown = table-shown own which texts close whole_texts s made in
        let even = table-even (IsClean (MayStand options.escapes)) steps (IsAsked colors) own which texts asked clean_texts s made in
        let output = text_of own which texts columns s in
        let shows = printed-of s shown (texts-of_clean options.escapes s.rows even.texts) own which texts columns in
        let plain = ends-plain output (picture-plain s shown own.line_style own.rules own.header (length (cells_in own which texts)) columns which) in
        (table-only options.escapes not_all colors s even own which texts columns shows, plain)

    asked_own : AllByRecursion (λ (pair : ColumnName × Color). IsAsked colors pair.1) colors
    asked_own = all-asked colors (all-kept options named)

    -- that of all columns, or of those that are chosen
    all-text : (s : State) → IsTable options kept.shown kept.rows s → HasOnly (may_be_written options.escapes colors) (text_of options kept.shown kept.rows None s) × EndsLinesPlain (text_of options kept.shown kept.rows None s)
    all-text s made = table-text options kept.shown kept.rows None whole clean asked_own s made

    chosen-text : (own : Options) → IsOwn options kept own → (counts : Option (ℕ × ℕ)) (s : State) → IsTable own kept.shown (table_rows options kept) s
        → HasOnly (may_be_written options.escapes colors) (text_of own kept.shown (table_rows options kept) counts s) × EndsLinesPlain (text_of own kept.shown (table_rows options kept) counts s)
    chosen-text own are counts s made =
        let columns = table_columns options kept.rows in
        table-text own kept.shown (table_rows options kept) counts (columns-of IsWholeText whole-nothing ellipsis-whole columns kept.rows whole)
        (columns-of (IsClean (MayStand options.escapes)) steps.nothing steps.dots columns kept.rows clean) (own-colors (IsAsked colors) options own kept.rows columns asked_own are) s made

    abbrev counted : Option (ℕ × ℕ)
    counted = Some (column_counts options kept.rows)

    columns-written : (wider none : Bool) → MatchBool none (PrintsShown options kept.shown kept.rows None wider before after) (PrintsColumns options kept wider before after) → WritesOnly (may_be_written options.escapes colors) before after
    columns-written wider true prints = let text = all-text prints.1.0 prints.1.1 in (text_of options kept.shown kept.rows None prints.1.0, prints.1.4, text.0, text.1)
    columns-written wider false found =
        let own = found.1.0 in
        let prints = found.1.2 in
        let text = chosen-text own found.1.1 counted prints.1.0 prints.1.1 in
        (text_of own kept.shown (table_rows options kept) counted prints.1.0, prints.1.4, text.0, text.1)

    columns-begun : (none : Bool) → MatchBool none (PrintsShownFront options kept.shown kept.rows None before after) (PrintsColumnsFront options kept before after) → BeginsOnly (may_be_written options.escapes colors) before after
    columns-begun true prints = let text = all-text prints.1.0 prints.1.1 in (text_of options kept.shown kept.rows None prints.1.0, prints.1.3, text.0, text.1)
    columns-begun false found =
        let own = found.1.0 in
        let prints = found.1.2 in
        let text = chosen-text own found.1.1 counted prints.1.0 prints.1.1 in
        (text_of own kept.shown (table_rows options kept) counted prints.1.0, prints.1.3, text.0, text.1)

    -- records one below the other, in which colours put in nothing
    records-text : HasOnly (may_be_written options.escapes colors) (kept_text options kept) × EndsLinesPlain (kept_text options kept)
    records-text =
        (only-also (may_stand options.escapes) (may_be_written options.escapes colors) (λ bytes may. or-first (may_stand options.escapes bytes) (is_put_in colors bytes) may) (kept_text options kept) own-clean, own-plain-text)

    either-written : (wider expanded : Bool) → MatchBool expanded (PrintsRecords options kept wider before after) (PrintsAsTable options kept wider before after)
        → WritesOnly (may_be_written options.escapes colors) before after
    either-written wider true found = (kept_text options kept, found.1.1, records-text.0, records-text.1)
    either-written wider false prints = columns-written wider (shows_whole_rows options kept.rows) prints

    either-begun : (expanded : Bool) → MatchBool expanded (PrintsRecordsFront options kept before after) (PrintsAsTableFront options kept before after) → BeginsOnly (may_be_written options.escapes colors) before after
    either-begun true found = (kept_text options kept, found.1, records-text.0, records-text.1)
    either-begun false prints = columns-begun (shows_whole_rows options kept.rows) prints

-- a run that prints writes only such sequences
pub run-written : (delimiter : ℕ) (bytes : List ℕ) (options : Options) (before after : Option (List ℕ)) (not_all : options.escapes ≢ AllEscapes) → HaveNamedColors options
    → (result : Result Printed RunFault) → IsRunOf delimiter bytes options result before after → IfOk result (λ printed. WritesOnly (may_be_written options.escapes options.colors.items) before after)
run-written delimiter bytes options before after not_all named (Ok printed) run = either-written delimiter bytes options before after not_all run.readable named printed.wider options.expanded run.printed
run-written delimiter bytes options before after not_all named (Err fault) run = tt

-- and one that gives up nothing, or a prefix of such a text
text-begun : (delimiter : ℕ) (bytes : List ℕ) (options : Options) (before after : Option (List ℕ)) (not_all : options.escapes ≢ AllEscapes) → HaveNamedColors options
    → PrintsTextFront delimiter bytes options before after → BeginsOnly (may_be_written options.escapes options.colors.items) before after
text-begun delimiter bytes options before after not_all named front = either-begun delimiter bytes options before after not_all front.0 named options.expanded front.1

pub run-begun : (delimiter : ℕ) (bytes : List ℕ) (options : Options) (before after : Option (List ℕ)) (not_all : options.escapes ≢ AllEscapes) → HaveNamedColors options
    → (result : Result Printed RunFault) → IsRunOf delimiter bytes options result before after → OnErr result ((after ≡ before) ⊎ BeginsOnly (may_be_written options.escapes options.colors.items) before after)
run-begun delimiter bytes options before after not_all named (Ok printed) run = tt
run-begun delimiter bytes options before after not_all named (Err fault) run = ⊎_elim (λ same. inl same) (λ front. inr (text-begun delimiter bytes options before after not_all named front)) run.begun

-- whatever its writer had, a test that more sequences pass holds too
pub writes-also : (is_sequence also : List ℕ → Bool) (before after : Option (List ℕ)) → ((bytes : List ℕ) → is_sequence bytes ≡ true → also bytes ≡ true) → (result : Result Printed RunFault)
    → IfOk result (λ printed. WritesOnly is_sequence before after) → IfOk result (λ printed. WritesOnly also before after)
writes-also is_sequence also before after so (Ok printed) written = (written.0, written.1, only-also is_sequence also so written.0 written.2, written.3)
writes-also is_sequence also before after so (Err fault) written = tt
