-- Why heights and lines are those of an estimate.
use Rattle.std.proofs.Common.{◌≡◌, ◌∙◌, ◌^◌, ◌<◌, ◌≤◌, ℕ, inl, inr, List, Result, Ok, Err, ap, length, subst, sym}
use Rattle.grid_config_values.specs.Glyphs.{boundary_count, has_row_boundary}
use Rattle.grid_config_values.specs.declared.fault.Fault.{Fault}
use Rattle.grid_config_values.specs.declared.fault.Fault.TheVariants.{Range}
use Rattle.grid_config_values.specs.declared.sides.Indent.{Indent}
use Rattle.grid_config_values.specs.declared.sides.Sides.{Sides}
use Rattle.grid_config.specs.Looks.{Look, look_of}
use Rattle.grid_config.specs.Settings.{Settings}
use Rattle.grid_records_estimate.proofs.Sizes.{total-passes}
use Rattle.grid_records_estimate.specs.Collecting.{PassesMax}
use Rattle.grid_records_estimate.specs.Estimates.{track_sizes}
use Rattle.grid_records_estimate.specs.Sizes.{IsRefusal, table_heights}
use Rattle.grid_records_estimate.specs.Sizing.{sizing_of}
use Rattle.grid_records_estimate.specs.Totals.{total}
use Rattle.grid_records_traits.proofs.EvenedRows.{evened-twice}
use Rattle.grid_records_traits.specs.Rows.{evened}
use Rattle.tabled_steps.proofs.Estimating.{heights_by_look}
use Rattle.tabled_steps.specs.Outcomes.{◌≫=◌, GivesState, MayRefuseStep, sized}
use Rattle.tabled_steps.specs.Sizes.{natural_heights, row_needs_by_look}
use Rattle.tabled_height.proofs.Giving.{gives_follow, may_follow, memory_may, range_may, sized_held, sized_passed}
use Rattle.tabled_height.specs.Heights.{HeightEstimate, counted, estimate_with, estimated, hundredths, lines_with_heights, percent_of_height}

counted_held : (look : Look) (heights : List ℕ) (lines : ℕ) → lines ≡ lines_with_heights look heights → lines < 2 ^ 64 → counted look heights ≡ Ok (estimate_with heights lines)
counted_held look heights lines is low =
    ap (λ (lines : Result ℕ Fault). lines ≫= λ lines. Ok (estimate_with heights lines)) (ap sized (sym is) ∙ sized_held lines low)

counted_passed : (look : Look) (heights : List ℕ) → 2 ^ 64 ≤ lines_with_heights look heights → counted look heights ≡ Err Range
counted_passed look heights high =
    ap (λ (lines : Result ℕ Fault). lines ≫= λ lines. Ok (estimate_with heights lines)) (sized_passed (lines_with_heights look heights) high)

module _ (settings : Settings) (columns : ℕ) (rows : List (List (List ℕ))) where
  pub estimate_refused : (fault : Fault) → IsRefusal fault (PassesMax (table_heights (sizing_of settings) columns rows)) → MayRefuseStep fault (λ outcome. estimated (look_of settings) columns rows ≡ outcome)
  estimate_refused fault (inl memory) = memory_may fault (λ outcome. estimated (look_of settings) columns rows ≡ outcome) memory
  estimate_refused fault (inr passes) =
      let look : Look = look_of settings in
      let natural : PassesMax (natural_heights look columns rows) = subst (λ (heights : List ℕ). PassesMax heights) (heights_by_look settings columns rows) passes.1 in
      range_may fault (λ outcome. estimated look columns rows ≡ outcome) passes.0
      (counted_passed look (natural_heights look columns rows)
      (total-passes (natural_heights look columns rows) (boundary_count (has_row_boundary look.borders) (length (natural_heights look columns rows))) look.margin.top.size look.margin.bottom.size natural))

  module _ (heights : List ℕ) (is : heights ≡ table_heights (sizing_of settings) columns rows) where
    pub total_refused : (fault : Fault) → fault ≡ Range → 2 ^ 64 ≤ lines_with_heights (look_of settings) heights → MayRefuseStep fault (λ outcome. estimated (look_of settings) columns rows ≡ outcome)
    total_refused fault range high =
        let same : heights ≡ natural_heights (look_of settings) columns rows = is ∙ heights_by_look settings columns rows in
        range_may fault (λ outcome. estimated (look_of settings) columns rows ≡ outcome) range (ap (counted (look_of settings)) (sym same) ∙ counted_passed (look_of settings) heights high)

    pub estimate_held : (lines : ℕ) → lines ≡ lines_with_heights (look_of settings) heights → lines < 2 ^ 64 → estimated (look_of settings) columns rows ≡ Ok (estimate_with heights lines)
    estimate_held lines total low =
        let same : heights ≡ natural_heights (look_of settings) columns rows = is ∙ heights_by_look settings columns rows in
        ap (counted (look_of settings)) (sym same) ∙ counted_held (look_of settings) heights lines total low

-- the total that was requested is that of the heights
pub lines_total : (settings : Settings) (heights found : List ℕ) (boundaries count : ℕ) (margin : Sides Indent) → found ≡ heights → count ≡ length heights → boundaries ≡ boundary_count (has_row_boundary settings.borders) count → margin ≡ settings.margin →
    total found boundaries margin.top.size margin.bottom.size ≡ lines_with_heights (look_of settings) heights
lines_total settings heights found boundaries count margin are counts bounds sides =
    ap (λ (heights : List ℕ). total heights boundaries margin.top.size margin.bottom.size) are
    ∙ ap (λ (n : ℕ). total heights n margin.top.size margin.bottom.size) (bounds ∙ ap (boundary_count (has_row_boundary settings.borders)) counts)
    ∙ ap (λ (m : Sides Indent). total heights (boundary_count (has_row_boundary settings.borders) (length heights)) m.top.size m.bottom.size) sides

-- ---- rows that are looked up

natural_evened : (look : Look) (columns : ℕ) (rows : List (List (List ℕ))) → natural_heights look columns (evened columns rows) ≡ natural_heights look columns rows
unfolding natural_heights
natural_evened look columns rows = ap (λ (texts : List (List (List ℕ))). track_sizes (row_needs_by_look look columns texts)) (evened-twice rows columns)

-- the estimate of the looked up rows is that of the rows
pub estimated_evened : (look : Look) (columns peeked_columns : ℕ) (rows peeked : List (List (List ℕ))) → peeked_columns ≡ columns → peeked ≡ evened columns rows → estimated look peeked_columns peeked ≡ estimated look columns rows
estimated_evened look columns peeked_columns rows peeked counts fits =
    ap (λ n. estimated look n peeked) counts ∙ ap (λ (texts : List (List (List ℕ))). estimated look columns texts) fits ∙ ap (counted look) (natural_evened look columns rows)

-- ---- hundredths

module _ (percent columns : ℕ) (rows : List (List (List ℕ))) (look : Look) where
  pub percent_refused : (fault : Fault) → MayRefuseStep fault (λ outcome. estimated look columns rows ≡ outcome) → MayRefuseStep fault (λ outcome. percent_of_height percent columns rows look ≡ outcome)
  percent_refused fault may =
      may_follow fault (λ outcome. estimated look columns rows ≡ outcome) (λ outcome. percent_of_height percent columns rows look ≡ outcome)
      (λ f is. ap (λ (estimate : Result HeightEstimate Fault). estimate ≫= λ estimate. hundredths percent estimate.lines) is) may

  pub percent_held : (heights : List ℕ) (lines : ℕ) (result : Result ℕ Fault) → estimated look columns rows ≡ Ok (estimate_with heights lines) → GivesState (λ n. n) result (λ outcome. hundredths percent lines ≡ outcome) →
      GivesState (λ n. n) result (λ outcome. percent_of_height percent columns rows look ≡ outcome)
  percent_held heights lines result is given =
      gives_follow (λ n. n) result (λ outcome. hundredths percent lines ≡ outcome) (λ outcome. percent_of_height percent columns rows look ≡ outcome)
      (λ outcome found. ap (λ (estimate : Result HeightEstimate Fault). estimate ≫= λ estimate. hundredths percent estimate.lines) is ∙ found) given
