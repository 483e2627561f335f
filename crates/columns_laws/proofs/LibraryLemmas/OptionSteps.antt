-- The options that make a table narrower, by priorities and measurements of any type.
use Rattle.std.proofs.Common.{◌≡◌, ℕ, Bool, false, true, List, [], None, Some, Result, Ok, subst}
use Rattle.grid_config.specs.Looks.{Look}
use Rattle.grid_config_values.specs.declared.entity.Entity.TheVariants.{Row}
use Rattle.grid_config_values.specs.declared.fault.Fault.{Fault}
use Rattle.tabled_list.specs.Priorities.{IsNamed}
use Rattle.tabled_list.specs.Settings.{cutting_by}
use Rattle.tabled_size_priority.specs.Choices.{IsShrunkByChoice}
use Rattle.tabled_steps.specs.States.{Settles, State}
use Rattle.tabled_width.specs.WholeTables.Tables.{NarrowsTable}
use Rattle.tabled_width_texts.specs.WrappedOrCut.{wrapping_each}
use Rattle.tabled_width_texts.specs.Cutting.{SuffixedCut, truncating}
use Rattle.tabled.specs.Narrowed.{GivesOnly}
use Rattle.columns_run.specs.DrawnTables.{output_of}
use Rattle.columns_run.specs.Wanted.{Wanted}
use Rattle.columns_laws.specs.Library.Tables.{ended_table, table_of}
use Rattle.columns_laws.proofs.LibraryLemmas.NarrowTexts.{cut-table, wrapped-table}

module _ (wanted : Wanted) (input : List ℕ) (width : ℕ) (is_width : wanted.limit.width ≡ Some width)
    {P : Type 0} (shrinks : P → List ℕ → ℕ → List ℕ → P → List ℕ → Type 0) (grows : P → ℕ → List ℕ → P → List ℕ → Type 0) (priority : P) (measures : ℕ → List (List (List ℕ)) → Look → Result ℕ Fault → Type 0) where
  abbrev Named : Type 0
  Named = IsNamed shrinks grows priority wanted.limit.priority

  by-name : Named → (least : List ℕ) (by : ℕ) (widths : List ℕ) (after : P) (left : List ℕ) → shrinks priority least by widths after left → IsShrunkByChoice wanted.limit.priority least by widths left
  by-name named least by widths after left is = named.shrunk least by widths left (after, is)

  pub wrapped-option : (keep_words : Bool) (left : State) → wanted.limit.truncate ≡ false → keep_words ≡ wanted.limit.keep_words → Named → GivesOnly measures (table_of wanted input) width
      → Settles (Some (Row 0)) (NarrowsTable shrinks priority (wrapping_each keep_words) measures) (table_of wanted input) (Ok left) → output_of wanted input ≡ ended_table left
  wrapped-option keep_words left wraps words named gives did =
      wrapped-table wanted input width is_width shrinks priority (by-name named) measures gives left wraps
      (subst (λ (b : Bool). Settles (Some (Row 0)) (NarrowsTable shrinks priority (wrapping_each b) measures) (table_of wanted input) (Ok left)) words did)

  pub cut-option : (cutting : SuffixedCut) (left : State) → wanted.limit.truncate ≡ true → Named → GivesOnly measures (table_of wanted input) width → cutting.suffix ≡ [] → cutting.multiline ≡ false
      → Settles None (NarrowsTable shrinks priority (truncating cutting) measures) (table_of wanted input) (Ok left) → output_of wanted input ≡ ended_table left
  cut-option cutting left cuts named gives none lines did =
      cut-table wanted input width is_width shrinks priority (by-name named) measures gives left cutting.suffix cutting.limit cutting.try_color cuts none
      (subst (λ (b : Bool). Settles None (NarrowsTable shrinks priority (truncating (cutting_by cutting.suffix cutting.limit b cutting.try_color)) measures) (table_of wanted input) (Ok left)) lines did)
