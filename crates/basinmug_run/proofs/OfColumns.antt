-- Tables of chosen columns, and names that are missing.
use Rattle.std.proofs.Common.{◌≡◌, ◌⊎◌, ◌∙◌, ap, ap₂, inl, inr, refl, sym, subst, ℕ, List, [], ◌∷◌, ◌++◌, Option, None, Some, Result, Ok, Err, length}
use Rattle.std.specs.Prelude.{Bool, true, false, MatchBool, IfErr, IfOk, OnErr, slice_index_or, string_bytes}
use Rattle.std.specs.List.{flat_map, range_with_len}
use Rattle.std.proofs.Math.Path.{fun_ext}
use Rattle.std.proofs.lemmas.List.Concat.{flat_map-append}
use Rattle.grid_config.specs.Colors.{Color as CellColor}
use Rattle.grid_config_values.specs.declared.alignment.AlignmentHorizontal.{AlignmentHorizontal}
use Rattle.basinmug_columns.specs.Names.{column_number}
use Rattle.basinmug_columns.specs.declared.shown.ShownColumn.{ShownColumn}
use Rattle.basinmug_columns.specs.declared.shown.ShownColumn.TheVariants.{LeftOut}
use Rattle.program_options.specs.declared.basinmug.ColumnChoice.{ColumnChoice}
use Rattle.program_options.specs.declared.basinmug.ColumnName.{ColumnName}
use Rattle.basinmug_run.specs.declared.options.Options.{Options}
use Rattle.basinmug_run.specs.Columns.{AreOfColumns, AreOfValues, asked_at, column_counts, columns_in, columns_of_table, given_for, last_for, missing_choices, missing_of_columns, number_in, own_rows, placed, shows_whole_rows, table_columns, value_at, wanted_columns}
use Rattle.basinmug_run.specs.Picture.Names.{IsFirstMissing, missing_by, missing_names, text_if_missing}
use Rattle.basinmug_run.specs.Picture.Pictures.{missing_of}
use Rattle.basinmug_run.specs.Kept.{Kept}
use Rattle.basinmug_run.specs.Picture.Printed.{IsShownFault, PrintsShown, PrintsShownFront}
use Rattle.basinmug_run.specs.Picture.Rows.{header_of}
use Rattle.basinmug_run.specs.Runs.{IsAsTableFault, IsColumnsFault, IsOwn, IsRecordsFault, IsWritingFault, PrintsColumns, PrintsColumnsFront, PrintsRecords, PrintsRecordsFront, WritesRecords, WritesRecordsFront, missing_kept, table_rows}
use Rattle.basinmug_run.specs.declared.picture.fault.PrintFault.{PrintFault}
use Rattle.basinmug_run.specs.declared.picture.fault.PrintFault.TheVariants.{NoColumn, Table, Memory}
use Rattle.basinmug_run.specs.declared.picture.printing.Printed.{Printed}
use Rattle.basinmug_run.proofs.PictureLemmas.Missing.{first-alike, first-behind, first-of-more}

-- ---- names of places are never missing

module _ {X : Type 0} (header : List (List ℕ)) where
  asked-named : (place : ℕ) (value : Option X) → missing_names header (asked_at place value) ≡ []
  asked-named place None = refl
  asked-named place (Some value) = refl

  each-named : (gives : ℕ → List (ColumnName × X)) (numbers : List ℕ) → ((number : ℕ) → missing_names header (gives number) ≡ []) → missing_names header (flat_map gives numbers) ≡ []
  each-named gives [] all = refl
  each-named gives (number ∷ numbers) all =
      flat_map-append (λ (pair : ColumnName × X). text_if_missing (column_number header pair.0) pair.0) (gives number) (flat_map gives numbers)
      ∙ ap₂ (λ (first rest : List (List ℕ)). first ++ rest) (all number) (each-named gives numbers all)

  placed-named : (columns : List ShownColumn) (value_of : ℕ → Option X) → missing_names header (placed columns value_of) ≡ []
  placed-named columns value_of =
      each-named (λ place. asked_at place (value_at value_of (slice_index_or columns place LeftOut))) (range_with_len 0 (length columns))
      (λ place. asked-named place (value_at value_of (slice_index_or columns place LeftOut)))

own-named : (options own : Options) (shown : List ShownColumn) (a : ℕ → Option AlignmentHorizontal) (b : ℕ → Option CellColor) (rows : List (List (List ℕ))) → AreOfValues options shown a b own → missing_of own rows ≡ []
own-named options own shown a b rows are =
    let header = header_of own.header rows in
    ap₂ (λ (first rest : List (List ℕ)). first ++ rest)
    (ap (λ (pairs : List (ColumnName × AlignmentHorizontal)). missing_names header pairs) are.alignments ∙ placed-named header shown a)
    (ap (λ (pairs : List (ColumnName × CellColor)). missing_names header pairs) are.colors ∙ placed-named header shown b)

-- ---- which name is missing

module _ (options : Options) (rows : List (List (List ℕ))) (look : ColumnName → Option ℕ) (count : ℕ) (choices : List ColumnChoice) (aligned : List (ColumnName × AlignmentHorizontal)) (colored : List (ColumnName × CellColor))
    (is : look ≡ number_in options rows) (chosen : choices ≡ options.columns.items) (are_aligned : aligned ≡ options.alignments.items) (are_colored : colored ≡ options.colors.items) where
  abbrev of_choices : List (List ℕ)
  of_choices = missing_choices (number_in options rows) count options.columns.items

  abbrev of_alignments : List (List ℕ)
  of_alignments = missing_names (header_of options.header rows) options.alignments.items

  abbrev of_colors : List (List ℕ)
  of_colors = missing_names (header_of options.header rows) options.colors.items

  choices-same : missing_choices look count choices ≡ of_choices
  choices-same =
      ap (λ (n : ColumnName → Option ℕ). missing_choices n count choices) is ∙ ap (missing_choices (number_in options rows) count) chosen

  aligned-same : missing_by look aligned ≡ of_alignments
  aligned-same = ap₂ (λ (n : ColumnName → Option ℕ) (pairs : List (ColumnName × AlignmentHorizontal)). missing_by n pairs) is are_aligned

  colored-same : missing_by look colored ≡ of_colors
  colored-same = ap₂ (λ (n : ColumnName → Option ℕ) (pairs : List (ColumnName × CellColor)). missing_by n pairs) is are_colored

  pub first-choice : (fault : PrintFault) → IsFirstMissing (missing_choices look count choices) fault → IsFirstMissing (missing_of_columns options count rows) fault
  first-choice fault first = first-of-more of_choices (of_alignments ++ of_colors) fault (first-alike (missing_choices look count choices) of_choices fault choices-same first)

  pub first-alignment : missing_choices look count choices ≡ [] → (fault : PrintFault) → IsFirstMissing (missing_by look aligned) fault → IsFirstMissing (missing_of_columns options count rows) fault
  first-alignment none fault first =
      first-behind of_choices (of_alignments ++ of_colors) fault (sym choices-same ∙ none)
      (first-of-more of_alignments of_colors fault (first-alike (missing_by look aligned) of_alignments fault aligned-same first))

  pub first-color : missing_choices look count choices ≡ [] → missing_by look aligned ≡ [] → (fault : PrintFault) → IsFirstMissing (missing_by look colored) fault → IsFirstMissing (missing_of_columns options count rows) fault
  first-color none no_alignment fault first =
      first-behind of_choices (of_alignments ++ of_colors) fault (sym choices-same ∙ none)
      (first-behind of_alignments of_colors fault (sym aligned-same ∙ no_alignment) (first-alike (missing_by look colored) of_colors fault colored-same first))

  pub none-missing : missing_choices look count choices ≡ [] → missing_by look aligned ≡ [] → missing_by look colored ≡ [] → missing_of_columns options count rows ≡ []
  none-missing none no_alignment no_color =
      ap₂ (λ (first rest : List (List ℕ)). first ++ rest) (sym choices-same ∙ none)
      (ap₂ (λ (first rest : List (List ℕ)). first ++ rest) (sym aligned-same ∙ no_alignment) (sym colored-same ∙ no_color))

-- ---- what is printed

module _ (options : Options) (kept : Kept) where
  -- a name that is missing
  pub columns-fault : (fault : PrintFault) → IsFirstMissing (missing_kept options kept) fault → IsColumnsFault options kept fault
  columns-fault (NoColumn name) is = is
  columns-fault (Table fault) is = absurd is
  columns-fault Memory is = tt

  pub records-fault : (fault : PrintFault) → IsFirstMissing (missing_kept options kept) fault → IsRecordsFault options kept fault
  records-fault (NoColumn name) is = is
  records-fault (Table fault) is = absurd is
  records-fault Memory is = tt

  -- memory ran out
  pub table-memory : IsAsTableFault options kept Memory
  table-memory = by (shows_whole_rows options kept.rows)
    where
      by : (b : Bool) → MatchBool b (IsShownFault options kept.shown kept.rows Memory) (IsColumnsFault options kept Memory)
      by true = tt
      by false = tt

module _ (options : Options) (rows : List (List (List ℕ))) where
  -- the columns of the table, by what was found
  pub table-are : (texts : List (List (List ℕ))) (chosen shown : List ShownColumn) → texts ≡ rows → chosen ≡ columns_in options texts → shown ≡ columns_of_table options texts chosen
      → shown ≡ table_columns options rows
  table-are texts chosen shown given are is =
      is ∙ ap (λ (it : List (List (List ℕ))). columns_of_table options it chosen) given ∙ ap (columns_of_table options rows) (are ∙ ap (columns_in options) given)

  pub all-are : (texts : List (List (List ℕ))) (chosen : List ShownColumn) (all : ℕ) → texts ≡ rows → chosen ≡ columns_in options texts → all ≡ length (wanted_columns options texts chosen)
      → all ≡ length (wanted_columns options rows (columns_in options rows))
  all-are texts chosen all given are is =
      is ∙ ap (λ (it : List (List (List ℕ))). length (wanted_columns options it chosen)) given
      ∙ ap (λ (it : List ShownColumn). length (wanted_columns options rows it)) (are ∙ ap (columns_in options) given)

  -- the options of the table's columns, by what was found
  pub own-are : (own : Options) (shown : List ShownColumn) (a : ℕ → Option AlignmentHorizontal) (b : ℕ → Option CellColor) → shown ≡ table_columns options rows
      → ((column : ℕ) → a column ≡ last_for (given_for (number_in options rows) options.alignments.items) column)
      → ((column : ℕ) → b column ≡ last_for (given_for (number_in options rows) options.colors.items) column) → AreOfValues options shown a b own → AreOfColumns options rows (table_columns options rows) own
  own-are own shown a b same aligned colored are =
      let columns = table_columns options rows in
      subst (λ (f : ℕ → Option CellColor). AreOfValues options columns (last_for (given_for (number_in options rows) options.alignments.items)) f own) (fun_ext colored)
      (subst (λ (f : ℕ → Option AlignmentHorizontal). AreOfValues options columns f b own) (fun_ext aligned)
      (subst (λ (it : List ShownColumn). AreOfValues options it a b own) same are))

module _ (options : Options) (kept : Kept) (named : missing_kept options kept ≡ []) where
  -- a table of its columns, by their number, their options and their rows
  module _ (own : Options) (are : IsOwn options kept own) (counts : ℕ × ℕ) (same : counts ≡ column_counts options kept.rows) (rows : List (List (List ℕ))) (given : rows ≡ table_rows options kept) where
    pub own-printed : (r : Result Printed PrintFault) (old new : Option (List ℕ)) → IfOk r (λ it. PrintsShown own kept.shown rows (Some counts) it.wider old new) → IfOk r (λ it. PrintsColumns options kept it.wider old new)
    own-printed (Ok printed) old new prints = (
      named,
      (
        own,
        are,
        subst (λ (n : ℕ × ℕ). PrintsShown own kept.shown (table_rows options kept) (Some n) printed.wider old new) same
            (subst (λ (it : List (List (List ℕ))). PrintsShown own kept.shown it (Some counts) printed.wider old new) given prints),
      ),
    )
    own-printed (Err fault) old new prints = tt

    pub own-front : (r : Result Printed PrintFault) (Same : Type 0) (old new : Option (List ℕ)) → OnErr r (Same ⊎ PrintsShownFront own kept.shown rows (Some counts) old new) → OnErr r (Same ⊎ PrintsColumnsFront options kept old new)
    own-front (Ok printed) Same old new front = tt
    own-front (Err fault) Same old new (inl same_writer) = inl same_writer
    own-front (Err fault) Same old new (inr front) = inr (
      named,
      (
        own,
        are,
        subst (λ (n : ℕ × ℕ). PrintsShownFront own kept.shown (table_rows options kept) (Some n) old new) same
            (subst (λ (it : List (List (List ℕ))). PrintsShownFront own kept.shown it (Some counts) old new) given front),
      ),
    )

    own-fault : (fault : PrintFault) → IsShownFault own kept.shown (table_rows options kept) fault → IsColumnsFault options kept fault
    own-fault (NoColumn name) is =
        let none : missing_of own (table_rows options kept) ≡ [] =
        own-named options own (table_columns options kept.rows) (last_for (given_for (number_in options kept.rows) options.alignments.items)) (last_for (given_for (number_in options kept.rows) options.colors.items))
        (table_rows options kept) are in
        absurd (let clash : [] ≡ string_bytes name ∷ is.0 = sym none ∙ is.1 in cc clash)
    own-fault (Table fault) is = (named, (own, are, is))
    own-fault Memory is = tt

    pub own-refused : (r : Result Printed PrintFault) → IfErr r (IsShownFault own kept.shown rows) → IfErr r (IsColumnsFault options kept)
    own-refused (Ok printed) is = tt
    own-refused (Err fault) is = own-fault fault (subst (λ (it : List (List (List ℕ))). IsShownFault own kept.shown it fault) given is)

  -- records one below the other
  module _ (rows : List (List (List ℕ))) (given : rows ≡ own_rows options kept.rows) where
    pub records-printed : (r : Result Printed PrintFault) (old new : Option (List ℕ)) → IfOk r (λ it. WritesRecords options kept.shown rows it.wider old new) → IfOk r (λ it. PrintsRecords options kept it.wider old new)
    records-printed (Ok printed) old new writes = (named, subst (λ (it : List (List (List ℕ))). WritesRecords options kept.shown it printed.wider old new) given writes)
    records-printed (Err fault) old new writes = tt

    pub records-front : (r : Result Printed PrintFault) (Same : Type 0) (old new : Option (List ℕ)) → OnErr r (Same ⊎ WritesRecordsFront options kept.shown rows old new) → OnErr r (Same ⊎ PrintsRecordsFront options kept old new)
    records-front (Ok printed) Same old new front = tt
    records-front (Err fault) Same old new (inl same) = inl same
    records-front (Err fault) Same old new (inr front) = inr (named, subst (λ (it : List (List (List ℕ))). WritesRecordsFront options kept.shown it old new) given front)

  writing-fault : (fault : PrintFault) → IsWritingFault fault → IsRecordsFault options kept fault
  writing-fault (NoColumn name) is = absurd is
  writing-fault (Table fault) is = (named, is)
  writing-fault Memory is = tt

  pub records-refused : (r : Result Printed PrintFault) → IfErr r IsWritingFault → IfErr r (IsRecordsFault options kept)
  records-refused (Ok printed) is = tt
  records-refused (Err fault) is = writing-fault fault is
