-- What is printed after other bytes is printed by itself, and so is what is begun.
use Rattle.std.proofs.Common.{◌≡◌, ℕ, Bool, true, false, List, [], ◌++◌, Option, None, Some, ap, refl, take}
use Rattle.std.specs.Io.KnownBytes.{Appends}
use Rattle.std.specs.Prelude.{MatchBool}
use Rattle.basinmug_columns.specs.declared.rows.RowsShown.{RowsShown}
use Rattle.basinmug_run.specs.Columns.{column_counts, shows_whole_rows}
use Rattle.basinmug_run.specs.Kept.{Kept, kept_of}
use Rattle.basinmug_run.specs.Picture.Pictures.{is_wider}
use Rattle.basinmug_run.specs.Picture.Printed.{PrintsShown, PrintsShownFront, text_of}
use Rattle.basinmug_run.specs.Runs.{PrintsAsTable, PrintsAsTableFront, PrintsColumns, PrintsColumnsFront, PrintsKept, PrintsKeptFront, PrintsRecords, PrintsRecordsFront, PrintsRows, PrintsRowsFront, kept_text, table_rows}
use Rattle.basinmug_run.specs.declared.options.Options.{Options}

-- what was known and grew is known
appended : (a : List ℕ) (b : Option (List ℕ)) (text : List ℕ) → Appends (Some a) b text → b ≡ Some (a ++ text)
appended a None text given = absurd given
appended a (Some b) text given = ap Some given

-- ---- all of it

-- what is after `a` in `b` is related to nothing
abbrev pub Alone : (Option (List ℕ) → Option (List ℕ) → Type 0) → List ℕ → Option (List ℕ) → Type 0
Alone P a b = (output : List ℕ) × (b ≡ Some (a ++ output)) × P (Some []) (Some output)

either-alone : (a : List ℕ) (b : Option (List ℕ)) (which : Bool) (P Q : Option (List ℕ) → Option (List ℕ) → Type 0) → (P (Some a) b → Alone P a b) → (Q (Some a) b → Alone Q a b)
    → MatchBool which (P (Some a) b) (Q (Some a) b) → Alone (λ old new. MatchBool which (P old new) (Q old new)) a b
either-alone a b true P Q first second held = first held
either-alone a b false P Q first second held = second held

module _ (a : List ℕ) (b : Option (List ℕ)) (wider : Bool) where
  table-alone : (options : Options) (shown : RowsShown) (rows : List (List (List ℕ))) (columns : Option (ℕ × ℕ)) → PrintsShown options shown rows columns wider (Some a) b
      → Alone (PrintsShown options shown rows columns wider) a b
  table-alone options shown rows columns p =
      let s = p.1.0 in
      let text = text_of options shown rows columns s in (text, appended a b text p.1.4, (p.0, (s, p.1.1, p.1.2, p.1.3, refl)))

  module _ (options : Options) (kept : Kept) where
    records-alone : PrintsRecords options kept wider (Some a) b → Alone (PrintsRecords options kept wider) a b
    records-alone p = let text = kept_text options kept in (text, appended a b text p.1.1, (p.0, (p.1.0, refl)))

    columns-alone : PrintsColumns options kept wider (Some a) b → Alone (PrintsColumns options kept wider) a b
    columns-alone p =
        let own = p.1.0 in
        let inner = table-alone own kept.shown (table_rows options kept) (Some (column_counts options kept.rows)) p.1.2 in (inner.0, inner.1, (p.0, (own, p.1.1, inner.2)))

    as_table-alone : PrintsAsTable options kept wider (Some a) b → Alone (PrintsAsTable options kept wider) a b
    as_table-alone =
        either-alone a b (shows_whole_rows options kept.rows) (PrintsShown options kept.shown kept.rows None wider) (PrintsColumns options kept wider)
        (table-alone options kept.shown kept.rows None) columns-alone

    kept-alone : PrintsKept options kept wider (Some a) b → Alone (PrintsKept options kept wider) a b
    kept-alone = either-alone a b options.expanded (PrintsRecords options kept wider) (PrintsAsTable options kept wider) records-alone as_table-alone

  pub rows-alone : (options : Options) (rows : List (List (List ℕ))) → PrintsRows options rows wider (Some a) b → Alone (PrintsRows options rows wider) a b
  rows-alone options rows = kept-alone options (kept_of options rows)

-- ---- a prefix of it

abbrev pub Begun : (Bool → Option (List ℕ) → Option (List ℕ) → Type 0) → List ℕ → Option (List ℕ) → Type 0
Begun P a b = (wider : Bool) × (output : List ℕ) × (count : ℕ) × (b ≡ Some (a ++ take count output)) × P wider (Some []) (Some output)

either-begun : (a : List ℕ) (b : Option (List ℕ)) (which : Bool) (F G : Type 0) (P Q : Bool → Option (List ℕ) → Option (List ℕ) → Type 0) → (F → Begun P a b) → (G → Begun Q a b)
    → MatchBool which F G → Begun (λ wider old new. MatchBool which (P wider old new) (Q wider old new)) a b
either-begun a b true F G P Q first second held = first held
either-begun a b false F G P Q first second held = second held

module _ (a : List ℕ) (b : Option (List ℕ)) where
  table-begun : (options : Options) (shown : RowsShown) (rows : List (List (List ℕ))) (columns : Option (ℕ × ℕ)) → PrintsShownFront options shown rows columns (Some a) b
      → Begun (PrintsShown options shown rows columns) a b
  table-begun options shown rows columns p =
      let s = p.1.0 in
      let text = text_of options shown rows columns s in (is_wider options.width s, text, p.1.3.0, appended a b (take p.1.3.0 text) p.1.3.1, (p.0, (s, p.1.1, p.1.2, refl, refl)))

  module _ (options : Options) (kept : Kept) where
    records-begun : PrintsRecordsFront options kept (Some a) b → Begun (PrintsRecords options kept) a b
    records-begun p = let text = kept_text options kept in (false, text, p.1.0, appended a b (take p.1.0 text) p.1.1, (p.0, (refl, refl)))

    columns-begun : PrintsColumnsFront options kept (Some a) b → Begun (PrintsColumns options kept) a b
    columns-begun p =
        let own = p.1.0 in
        let inner = table-begun own kept.shown (table_rows options kept) (Some (column_counts options kept.rows)) p.1.2 in (inner.0, inner.1, inner.2, inner.3, (p.0, (own, p.1.1, inner.4)))

    as_table-begun : PrintsAsTableFront options kept (Some a) b → Begun (PrintsAsTable options kept) a b
    as_table-begun =
        either-begun a b (shows_whole_rows options kept.rows) (PrintsShownFront options kept.shown kept.rows None (Some a) b) (PrintsColumnsFront options kept (Some a) b)
        (PrintsShown options kept.shown kept.rows None) (PrintsColumns options kept) (table-begun options kept.shown kept.rows None) columns-begun

    kept-begun : PrintsKeptFront options kept (Some a) b → Begun (PrintsKept options kept) a b
    kept-begun =
        either-begun a b options.expanded (PrintsRecordsFront options kept (Some a) b) (PrintsAsTableFront options kept (Some a) b)
        (PrintsRecords options kept) (PrintsAsTable options kept) records-begun as_table-begun

  pub rows-begun : (options : Options) (rows : List (List (List ℕ))) → PrintsRowsFront options rows (Some a) b → Begun (PrintsRows options rows) a b
  rows-begun options rows = kept-begun options (kept_of options rows)
