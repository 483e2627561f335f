-- The hundredths of a width that are worked out, and where they are refused.
use Rattle.std.proofs.Common.{◌≡◌, ℕ, ◌*◌, ◌/◌, List, Result, Ok, Err, ap, sym, subst, ◌∙◌}
use Rattle.grid_config_values.specs.declared.fault.Fault.{Fault}
use Rattle.grid_config_values.specs.declared.fault.Fault.TheVariants.{Memory, Range, Spans, Room}
use Rattle.grid_config.specs.Looks.{Look, look_of}
use Rattle.grid_config.specs.Settings.{Settings}
use Rattle.grid_records_estimate.specs.Collecting.{PassesMax}
use Rattle.grid_records_estimate.specs.Estimates.{track_sizes}
use Rattle.grid_records_estimate.specs.Sizes.{IsRefusal, table_widths}
use Rattle.grid_records_estimate.specs.Sizing.{sizing_of}
use Rattle.grid_records_traits.proofs.EvenedRows.{evened-twice}
use Rattle.grid_records_traits.specs.Rows.{evened}
use Rattle.tabled_steps.proofs.Estimating.{widths_by_look}
use Rattle.tabled_steps.specs.Outcomes.{◌≫=◌, MayRefuseStep, all_sized, sized}
use Rattle.tabled_steps.specs.Sizes.{column_needs_by_look, natural_widths}
use Rattle.tabled_width.proofs.TablesLemmas.Totalling.{refused_sizes}
use Rattle.tabled_width.specs.WholeTables.Widths.{width_with_columns}
use Rattle.tabled_width.specs.Measures.{percent_of_width}

-- ---- what is worked out one after the other

pub may_err : {Y : Type 0} (worked : Result Y Fault) (fault : Fault) → worked ≡ Err fault → MayRefuseStep fault (λ outcome. worked ≡ outcome)
may_err worked Memory is = tt
may_err worked Range is = is
may_err worked Spans is = is
may_err worked (Room row column) is = is

pub bind_refused : {A B : Type 0} (worked : Result A Fault) (next : A → Result B Fault) (fault : Fault) → MayRefuseStep fault (λ outcome. worked ≡ outcome) → MayRefuseStep fault (λ outcome. (worked ≫= next) ≡ outcome)
bind_refused worked next Memory may = tt
bind_refused worked next Range may = ap (λ x. x ≫= next) may
bind_refused worked next Spans may = ap (λ x. x ≫= next) may
bind_refused worked next (Room row column) may = ap (λ x. x ≫= next) may

-- ---- the least widths of records that are read by place

pub natural-peeked : (settings : Settings) (columns n : ℕ) (rows seen : List (List (List ℕ))) → seen ≡ evened columns rows → n ≡ columns →
    table_widths (sizing_of settings) n seen ≡ natural_widths (look_of settings) columns rows
unfolding natural_widths
natural-peeked settings columns n rows seen same counted =
    ap (table_widths (sizing_of settings) n) same ∙ ap (λ k. table_widths (sizing_of settings) k (evened columns rows)) counted
    ∙ widths_by_look settings columns (evened columns rows)
    ∙ ap (λ rows. track_sizes (column_needs_by_look (look_of settings) columns rows)) (evened-twice rows columns)

-- ---- hundredths of a width

module _ (percent columns : ℕ) (rows : List (List (List ℕ))) (look : Look) where
  pub percent-no_widths : (widths : List ℕ) → widths ≡ natural_widths look columns rows → (fault : Fault) → IsRefusal fault (PassesMax widths) → MayRefuseStep fault (λ outcome. percent_of_width percent columns rows look ≡ outcome)
  percent-no_widths widths are fault refused =
      bind_refused (all_sized (natural_widths look columns rows)) (λ widths. sized (width_with_columns look widths) ≫= λ whole. sized (whole * percent) ≫= λ product. Ok (product / 100)) fault
      (refused_sizes (natural_widths look columns rows) fault (subst (λ (sizes : List ℕ). IsRefusal fault (PassesMax sizes)) are refused))

  module _ (widths : List ℕ) (are : widths ≡ natural_widths look columns rows) (fit : all_sized widths ≡ Ok widths) where
    with-widths : percent_of_width percent columns rows look ≡ (sized (width_with_columns look widths) ≫= λ whole. sized (whole * percent) ≫= λ product. Ok (product / 100))
    with-widths =
        ap (λ found. found ≫= λ widths. sized (width_with_columns look widths) ≫= λ whole. sized (whole * percent) ≫= λ product. Ok (product / 100))
        (ap all_sized (sym are) ∙ fit)

    pub percent-no_whole : (fault : Fault) → Err fault ≡ sized (width_with_columns look widths) → MayRefuseStep fault (λ outcome. percent_of_width percent columns rows look ≡ outcome)
    percent-no_whole fault is =
        may_err (percent_of_width percent columns rows look) fault (with-widths ∙ ap (λ found. found ≫= λ whole. sized (whole * percent) ≫= λ product. Ok (product / 100)) (sym is))

    module _ (whole : ℕ) (is : Ok whole ≡ sized (width_with_columns look widths)) where
      with-whole : percent_of_width percent columns rows look ≡ (sized (whole * percent) ≫= λ product. Ok (product / 100))
      with-whole = with-widths ∙ ap (λ found. found ≫= λ whole. sized (whole * percent) ≫= λ product. Ok (product / 100)) (sym is)

      pub percent-no_product : (fault : Fault) → Err fault ≡ sized (whole * percent) → MayRefuseStep fault (λ outcome. percent_of_width percent columns rows look ≡ outcome)
      percent-no_product fault none =
          may_err (percent_of_width percent columns rows look) fault (with-whole ∙ ap (λ found. found ≫= λ product. Ok (product / 100)) (sym none))

      pub percent-is : (product : ℕ) → Ok product ≡ sized (whole * percent) → percent_of_width percent columns rows look ≡ Ok (product / 100)
      percent-is product found = with-whole ∙ ap (λ found. found ≫= λ product. Ok (product / 100)) (sym found)
