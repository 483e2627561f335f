-- What is printed of rows, by what is printed of their table.
use Rattle.std.proofs.Common.{◌≡◌, ◌⊎◌, ◌∙◌, ap, subst, sym, ℕ, List, [], Option, None, Some, Result, Ok, Err, inl, inr, length}
use Rattle.std.specs.Prelude.{⊤, IfErr, IfOk, MatchOption, OnErr}
use Rattle.grid_config_values.specs.declared.fault.Fault.{Fault}
use Rattle.tabled.specs.Printing.{IsFitsAnswer}
use Rattle.tabled.specs.Tables.{new_state}
use Rattle.tabled_output.specs.Streams.{AppendsFront}
use Rattle.tabled_list.specs.Lists.{LeadsThrough}
use Rattle.tabled_list.specs.declared.setting.Setting.{Setting}
use Rattle.tabled_steps.specs.States.{State}
use Rattle.tabled_text.specs.Rows.{filled}
use Rattle.basinmug_run.specs.declared.options.Options.{Options}
use Rattle.basinmug_columns.specs.declared.rooms.Need.{Need}
use Rattle.basinmug_columns.specs.declared.rows.RowsShown.{RowsShown}
use Rattle.basinmug_run.specs.Picture.Known.{AreNeedsFor}
use Rattle.basinmug_run.specs.Picture.Lines.{below, picture_text}
use Rattle.basinmug_run.specs.Picture.Names.{IsFirstMissing}
use Rattle.basinmug_run.specs.Picture.Narrowing.{FitsTexts, IsNotNarrowed, IsRefusedIn}
use Rattle.basinmug_run.specs.Picture.Pictures.{HasNoTable, IsMade, IsNotMade, IsTable, asked_settings, cells_in, missing_of, narrowed_to, needs_in}
use Rattle.basinmug_run.specs.Picture.Printed.{PrintsTableFront, IsShownFault, IsTableFault, PrintsShown, PrintsShownFront, PrintsTable, text_of}
use Rattle.basinmug_run.specs.declared.picture.fault.PrintFault.{PrintFault}
use Rattle.basinmug_run.specs.declared.picture.fault.PrintFault.TheVariants.{NoColumn, Table, Memory}
use Rattle.basinmug_run.specs.declared.picture.printing.Printed.{Printed}

module _ (options : Options) (shown : RowsShown) (rows : List (List (List ℕ))) where
  -- as many rows as there are cells
  pub length-cells : (cells : List (List (List ℕ))) (len : ℕ) → len ≡ length cells → cells ≡ cells_in options shown rows → len ≡ length (cells_in options shown rows)
  length-cells cells len is are = is ∙ ap length are

  -- a name that is missing
  pub no-column : (fault : PrintFault) → IsFirstMissing (missing_of options rows) fault → IsShownFault options shown rows fault
  no-column (NoColumn name) is = is
  no-column (Table fault) is = absurd is
  no-column Memory is = tt

  -- the table is printed, and each named column is in it
  pub with-names : (columns : Option (ℕ × ℕ)) (r : Result Printed PrintFault) (old new : Option (List ℕ)) → missing_of options rows ≡ []
      → IfOk r (λ it. PrintsTable (IsTable options shown rows) (text_of options shown rows columns) options.width it.wider old new) → IfOk r (λ it. PrintsShown options shown rows columns it.wider old new)
  with-names columns (Ok it) old new named printed = (named, printed)
  with-names columns (Err fault) old new named printed = tt

  -- it is refused, and each named column is in it
  refusal-named : (fault : PrintFault) → missing_of options rows ≡ [] → IsTableFault (IsTable options shown rows) (HasNoTable options shown rows) fault → IsShownFault options shown rows fault
  refusal-named (NoColumn name) named out = absurd out
  refusal-named (Table fault) named out = (named, out)
  refusal-named Memory named out = tt

  -- a prefix of it is written, and each named column is in it
  pub begins-named : (columns : Option (ℕ × ℕ)) (r : Result Printed PrintFault) (Same : Type 0) (old new : Option (List ℕ)) → missing_of options rows ≡ []
      → OnErr r (Same ⊎ PrintsTableFront (IsTable options shown rows) (text_of options shown rows columns) old new) → OnErr r (Same ⊎ PrintsShownFront options shown rows columns old new)
  begins-named columns (Ok it) Same old new named begins = tt
  begins-named columns (Err fault) Same old new named (inl same) = inl same
  begins-named columns (Err fault) Same old new named (inr front) = inr (named, front)

  pub refused-named : (r : Result Printed PrintFault) → missing_of options rows ≡ [] → IfErr r (IsTableFault (IsTable options shown rows) (HasNoTable options shown rows)) → IfErr r (IsShownFault options shown rows)
  refused-named (Ok it) named out = tt
  refused-named (Err fault) named out = refusal-named fault named out

-- a prefix of a table that is made is written
pub begins-table : (Makes : State → Type 0) (text : State → List ℕ) (s : State) (Same : Type 0) (old new : Option (List ℕ)) → Makes s → Same ⊎ (IsFitsAnswer s (Ok tt) × AppendsFront old new (text s))
    → Same ⊎ PrintsTableFront Makes text old new
begins-table Makes text s Same old new made (inl same) = inl same
begins-table Makes text s Same old new made (inr front) = inr (s, made, front.0, front.1)

module _ (options : Options) (shown : RowsShown) (rows : List (List (List ℕ))) (columns : Option (ℕ × ℕ)) (settings : List Setting) (needs : List Need) (first : State) (count : ℕ) (line : List ℕ)
    (P : (State → Type 0) → (Fault → Type 0) → (State → List ℕ) → Type 0) where
  abbrev text_by : ℕ → List ℕ → State → List ℕ
  text_by = picture_text options.line_style options.rules options.header

  -- a table that is made by these settings, or is not, where it may be made so narrow
  abbrev MadeIn : Option ℕ → List Setting → List Need → State → Type 0
  MadeIn narrowed list each new = (after : State) × LeadsThrough list first after × MatchOption narrowed (new ≡ after) (λ width. FitsTexts options.truncate options.priority each width after new)

  abbrev NotMadeIn : Option ℕ → List Setting → List Need → Fault → Type 0
  NotMadeIn narrowed list each fault =
      IsRefusedIn list first fault ⊎ ((after : State) × LeadsThrough list first after × MatchOption narrowed ⊥ (λ width. IsNotNarrowed options.truncate options.priority each width after fault))

  -- what its columns need counts only where it may be made narrower
  needless : (narrowed : Option ℕ) (list : List Setting) (which : List Need) → MatchOption narrowed ⊤ (λ width. needs ≡ which)
      → P (MadeIn narrowed list needs) (NotMadeIn narrowed list needs) (text_by count line) → P (MadeIn narrowed list which) (NotMadeIn narrowed list which) (text_by count line)
  needless None list which same given = given
  needless (Some width) list which same given = subst (λ (it : List Need). P (MadeIn (Some width) list it) (NotMadeIn (Some width) list it) (text_by count line)) same given

  -- what holds of the table that is made holds of the table of the rows that are shown
  pub printed-by : settings ≡ asked_settings options rows → AreNeedsFor options rows needs → first ≡ new_state (filled (cells_in options shown rows))
      → count ≡ length (cells_in options shown rows) → line ≡ below options.line_style columns shown
      → P (IsMade options settings needs first) (IsNotMade options settings needs first) (text_by count line)
      → P (IsTable options shown rows) (HasNoTable options shown rows) (text_of options shown rows columns)
  printed-by are numbers made counted lined given =
      let all = asked_settings options rows in
      let which = needs_in options.header rows in
      let text = text_by count line in
      let looked = subst (λ (it : List Setting). P (IsMade options it needs first) (IsNotMade options it needs first) text) are given in
      let numbered = needless (narrowed_to options) all which numbers looked in
      let begun = subst (λ (it : State). P (IsMade options all which it) (IsNotMade options all which it) text) made numbered in
      let by_count = subst (λ (it : ℕ). P (IsTable options shown rows) (HasNoTable options shown rows) (text_by it line)) counted begun in
      subst (λ (it : List ℕ). P (IsTable options shown rows) (HasNoTable options shown rows) (text_by (length (cells_in options shown rows)) it)) lined by_count
