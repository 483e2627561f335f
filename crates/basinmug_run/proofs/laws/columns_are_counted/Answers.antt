-- Columns that are numbered are as many as are asked for, and each is one of the input.
use Rattle.std.proofs.Common.{◌≡◌, ◌∙◌, ◌+◌, ap, arith, refl, ℕ, zero, suc, List, [], length}
use Rattle.std.proofs.lemmas.List.FromFn.{length-map-range_with_len}
use Rattle.std.proofs.lemmas.List.Sums.{sum_by-cons}
use Rattle.std.specs.Prelude.{cond, if◌then◌else◌}
use Rattle.std.specs.List.{count_by}
use Rattle.tabled_text.specs.Rows.{longest}
use Rattle.basinmug_columns.specs.Shown.{numbered}
use Rattle.basinmug_columns.specs.declared.shown.ShownColumn.{ShownColumn}
use Rattle.basinmug_columns.specs.declared.shown.ShownColumn.TheVariants.{Number}
use Rattle.program_options.specs.declared.basinmug.ColumnChoice.{ColumnChoice}
use Rattle.basinmug_run.specs.Columns.{are_none, columns_in, fitting_in, fitting_of, is_of_input, wanted_columns}
use Rattle.basinmug_run.specs.Picture.Pictures.{narrowed_to}
use Rattle.basinmug_run.specs.declared.options.ColumnsShown.{ColumnsShown}
use Rattle.basinmug_run.specs.declared.options.Options.{Options}
use Rattle.basinmug_run.proofs.laws.columns_are_counted.Goals as goal

count-numbered : (from n : ℕ) → count_by is_of_input (numbered from n) ≡ n
count-numbered from zero = refl
count-numbered from (suc n) =
    let one = sum_by-cons (λ column. cond (is_of_input column) 1 0) (Number from) (numbered (from + 1) n) in
    let others = count-numbered (from + 1) n in
    one ∙ omega (arith, others)

-- none are chosen, so that all of the rows are wanted
all-wanted : (options : Options) (rows : List (List (List ℕ))) (chosen : List ShownColumn) → options.columns.items ≡ [] → wanted_columns options rows chosen ≡ numbered 0 (longest rows)
all-wanted options rows chosen none = ap (λ (choices : List ColumnChoice). if are_none choices then numbered 0 (longest rows) else chosen) none

pub returns : goal.returns
returns c = record {
  all = λ options rows none. ap length (all-wanted options rows (columns_in options rows) none) ∙ length-map-range_with_len Number 0 (longest rows);
  shown = λ options rows none all.
      ap (λ (which : ColumnsShown). count_by is_of_input (fitting_of options rows (fitting_in which (narrowed_to options)) (wanted_columns options rows (columns_in options rows)))) all
      ∙ ap (count_by is_of_input) (all-wanted options rows (columns_in options rows) none)
      ∙ count-numbered 0 (longest rows);
}
