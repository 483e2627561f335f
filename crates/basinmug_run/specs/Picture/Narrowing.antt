-- A table that is made narrower: each column that gets less width than it takes has its texts fitted.
use Rattle.std.specs.Prelude.{◌≡◌, ◌≤◌, ◌⊎◌, ℕ, ◌-◌, ◌^◌, nat_le, Bool, List, MatchBool}
use Rattle.grid_config_values.specs.declared.fault.Fault.{Fault}
use Rattle.grid_config_values.specs.declared.fault.Fault.TheVariants.{Range}
use Rattle.grid_records_estimate.specs.Collecting.{PassesMax}
use Rattle.tabled_list.specs.Lists.{LeadsThrough, RefusedAt}
use Rattle.tabled_list.specs.declared.setting.Setting.{Setting}
use Rattle.tabled_size_priority.specs.declared.choice.Choice.{Choice}
use Rattle.tabled_steps.specs.States.{State}
use Rattle.tabled.specs.Printing.{drawn_widths}
use Rattle.tabled.specs.Totals.{drawn_width}
use Rattle.basinmug_columns.specs.Rooms.{AreShrunkWidths}
use Rattle.basinmug_columns.specs.declared.rooms.Need.{Need}
use Rattle.basinmug_run.specs.Picture.Fitting.{trims, with_fitted_texts}

-- settings are refused at one of them
abbrev pub IsRefusedIn : List Setting → State → Fault → Type 0
IsRefusedIn settings old fault = (at : State) × (index : ℕ) × RefusedAt settings old at index fault

module _ (truncate : Bool) (priority : Choice) (needs : List Need) (asked : ℕ) (old : State) where
  -- widths for the columns of a table that is wider than requested
  abbrev pub AreAsked : List ℕ → Type 0
  AreAsked = AreShrunkWidths priority needs (drawn_width old - asked) (drawn_widths old)

  -- a table that is no wider than requested stays as it is; the columns of a wider one get such widths, their texts
  -- are fitted, and the lines of those that were wrapped are trimmed
  abbrev pub FitsTexts : State → Type 0
  FitsTexts new =
      MatchBool (nat_le (drawn_width old) asked) (new ≡ old)
      ((rooms : List ℕ) × AreAsked rooms × LeadsThrough (trims truncate (drawn_widths old) rooms) (with_fitted_texts truncate (drawn_widths old) rooms old) new)

  -- a width is out of range, or a setting that trims is refused
  abbrev pub IsNotNarrowed : Fault → Type 0
  IsNotNarrowed fault =
      ((fault ≡ Range) × ((2 ^ 64 ≤ drawn_width old) ⊎ PassesMax (drawn_widths old)))
      ⊎ ((rooms : List ℕ) × AreAsked rooms × IsRefusedIn (trims truncate (drawn_widths old) rooms) (with_fitted_texts truncate (drawn_widths old) rooms old) fault)
