-- Each field of a request is given, or one of them is not.
use Rattle.std.proofs.Common.{◌≡◌, ◌≤◌, ◌∙◌, ap, arith, sym, Option, None, Some, ℕ, Bool, true, false}
use Rattle.program_options.specs.declared.basinmug.LineStyle.{LineStyle}
use Rattle.basinmug_run.specs.declared.options.ColumnsShown.{ColumnsShown}
use Rattle.basinmug_run.specs.declared.options.ColumnsShown.TheVariants.{All as AllColumns, Fitting}
use Rattle.basinmug_run.specs.declared.options.Options.{Options}
use Rattle.basinmug_run.specs.Picture.Rows.{is_markdown}
use Rattle.basinmug_laws.specs.Widths.Requested.{IsRequested}
use Rattle.basinmug_laws.proofs.widths.requested_widths_by_hand.Goals as goal

no-five : 5 ≤ 4 → ⊥
no-five less = absurd (omega arith)

pub returns : goal.returns
returns c = record {
  requested = λ options width fitting style. record { width_is = width; enough = omega arith; fitting = fitting; no_document = ap is_markdown style };
  none = λ options width none is. let clash : None ≡ Some width = sym none ∙ is.width_is in cc clash;
  another = λ options five is. let clash : Some 5 ≡ Some 6 = sym five ∙ is.width_is in cc clash;
  too_narrow = λ options is. no-five is.enough;
  all_columns = λ options width all is. let clash : AllColumns ≡ Fitting = sym all ∙ is.fitting in cc clash;
  document = λ options width style is. let clash : true ≡ false = sym (ap is_markdown style) ∙ is.no_document in cc clash;
}
