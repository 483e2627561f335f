-- Records one below the other: their text, and their errors.
use Rattle.std.proofs.Common.{◌≡◌, ◌∙◌, ap, subst, ℕ, List, Result, Ok, Err}
use Rattle.std.specs.Prelude.{IfErr, OnErr, OnOk}
use Rattle.grid_config_values.specs.declared.fault.Fault.TheVariants.{Memory as OutOfMemory, Range, Spans, Room}
use Rattle.tabled_output.specs.declared.building.BuildFault.{BuildFault}
use Rattle.tabled_output.specs.declared.building.BuildFault.TheVariants.{Table as OfTable, Write, WriteZero}
use Rattle.basinmug_expanded.specs.Records.{records_text}
use Rattle.basinmug_expanded.proofs.Parts.{IsLate}
use Rattle.basinmug_run.specs.declared.options.Options.{Options}
use Rattle.basinmug_run.specs.Picture.Faults.{of_build}
use Rattle.basinmug_columns.specs.declared.rows.RowsShown.{RowsShown}
use Rattle.basinmug_run.specs.Picture.Printed.{IsWithoutText}
use Rattle.basinmug_run.specs.Picture.Rows.{header_of, records_of}
use Rattle.basinmug_run.specs.Runs.{IsWritingFault, form_of, shown_text}

-- ---- the text of those that are shown

module _ (options : Options) (shown : RowsShown) (rows texts : List (List (List ℕ))) (given : texts ≡ rows) where
  pub same-text : (header : List (List ℕ)) (records : List (List (List ℕ))) → header ≡ header_of options.header texts → records ≡ records_of options.header texts
      → records_text (form_of options shown rows) header records ≡ shown_text options shown rows
  same-text header records named listed =
      ap (λ (names : List (List ℕ)). records_text (form_of options shown rows) names records) (named ∙ ap (header_of options.header) given)
      ∙ ap (λ (values : List (List (List ℕ))). records_text (form_of options shown rows) (header_of options.header rows) values) (listed ∙ ap (records_of options.header) given)

-- ---- errors

-- a lack of memory, and errors of the writer
pub late-records : (fault : BuildFault) → IsLate fault → IsWritingFault (of_build fault)
late-records (OfTable OutOfMemory) is = tt
late-records (OfTable Range) is = absurd (let it : Range ≡ OutOfMemory = is in cc it)
late-records (OfTable Spans) is = absurd (let it : Spans ≡ OutOfMemory = is in cc it)
late-records (OfTable (Room row column)) is = absurd (let it : Room row column ≡ OutOfMemory = is in cc it)
late-records Write is = tt
late-records WriteZero is = tt

-- before them something may be written
pub no-nothing : (fault : BuildFault) → IsLate fault → ¬ (IsWithoutText (of_build fault))
no-nothing (OfTable OutOfMemory) is out = out
no-nothing (OfTable Range) is out = absurd (let it : Range ≡ OutOfMemory = is in cc it)
no-nothing (OfTable Spans) is out = absurd (let it : Spans ≡ OutOfMemory = is in cc it)
no-nothing (OfTable (Room row column)) is out = absurd (let it : Room row column ≡ OutOfMemory = is in cc it)
no-nothing Write is out = out
no-nothing WriteZero is out = out

-- what holds of a call that was refused
pub refused-so : {A : Type 0} (r : Result A BuildFault) (fault : BuildFault) (P : Type 0) → r ≡ Err fault → OnErr r P → P
refused-so {A} r fault P is told = subst (λ (it : Result A BuildFault). OnErr it P) is told

pub accepted-so : {A : Type 0} (r : Result A BuildFault) (done : A) (P : Type 0) → r ≡ Ok done → OnOk r P → P
accepted-so {A} r done P is told = subst (λ (it : Result A BuildFault). OnOk it P) is told

pub late-so : {A : Type 0} (r : Result A BuildFault) (fault : BuildFault) → r ≡ Err fault → IfErr r IsLate → IsLate fault
late-so {A} r fault is told = subst (λ (it : Result A BuildFault). IfErr it IsLate) is told
