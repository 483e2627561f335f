-- An estimate by settings is the estimate by their look.
use Rattle.std.proofs.Common.{◌≡◌, ℕ, true, List, IsTrue, ◌↔◌, sym, ap, ◌∙◌, arith}
use Rattle.std.proofs.Math.Path.{fun_ext}
use Rattle.std.proofs.lemmas.Bool.Decides.{nat_tests}
use Rattle.grid_config_values.specs.Order.{same_place}
use Rattle.grid_config_values.specs.declared.position.Position.{Position}
use Rattle.grid_config_values.proofs.SpansLemmas.Order.{same_position}
use Rattle.grid_config_values.proofs.SpansLemmas.Owners.{is_owned, own_if_visible, Itself, Held}
use Rattle.grid_config_values.specs.Spans.Owners.{owner}
use Rattle.grid_config_values.specs.Spans.Spans.{IsVisible, extent_at}
use Rattle.grid_config_values.specs.declared.spans.extent.Extent.{Extent}
use Rattle.grid_config.specs.Looks.{look_of}
use Rattle.grid_config.specs.Settings.{Settings}
use Rattle.grid_records_estimate.specs.Estimates.{track_sizes}
use Rattle.grid_records_estimate.specs.Sizes.{table_heights, table_widths}
use Rattle.grid_records_estimate.specs.Sizing.{is_visible, position_at, sizing_of}
use Rattle.grid_records_estimate.proofs.Visibility.{is_visible-decides}
use Rattle.grid_records_traits.specs.Rows.{evened}
use Rattle.tabled_steps.specs.Sizes.{column_needs_by_look, is_visible_in, natural_heights, natural_widths, row_needs_by_look}

itself : (p : Position) → same_place p p ≡ true
itself p = grind (arith, nat_tests)

module _ (spans : List (Position × Extent)) where
  seen_decides : (p : Position) → IsTrue (is_visible_in (extent_at spans) p) ↔ IsVisible spans p
  seen_decides p = (
    λ seen. elim (is_owned (extent_at spans) p) [
      | Itself same only ↦ only
      | Held held other ↦ absurd (other (same_position (owner (extent_at spans) p) p seen))
    ],
    λ visible. ap (λ o. same_place o p) (own_if_visible spans p visible) ∙ itself p,
  )

  visible_as_seen : (λ (p : Position). is_visible spans p) ≡ is_visible_in (extent_at spans)
  visible_as_seen = fun_ext (λ p. sym (is_visible-decides spans p (is_visible_in (extent_at spans) p) (seen_decides p)))

pub widths_by_look : (settings : Settings) (columns : ℕ) (rows : List (List (List ℕ))) → table_widths (sizing_of settings) columns rows ≡ natural_widths (look_of settings) columns rows
unfolding table_widths natural_widths
widths_by_look settings columns rows =
    ap (λ seen. track_sizes (record (column_needs_by_look (look_of settings) columns (evened columns rows)) { is_visible = λ column row. seen (position_at row column) })) (visible_as_seen settings.spans)

pub heights_by_look : (settings : Settings) (columns : ℕ) (rows : List (List (List ℕ))) → table_heights (sizing_of settings) columns rows ≡ natural_heights (look_of settings) columns rows
unfolding table_heights natural_heights
heights_by_look settings columns rows =
    ap (λ seen. track_sizes (record (row_needs_by_look (look_of settings) columns (evened columns rows)) { is_visible = λ row column. seen (position_at row column) })) (visible_as_seen settings.spans)
