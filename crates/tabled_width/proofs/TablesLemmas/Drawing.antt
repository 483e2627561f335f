-- What a table takes with its sizes.
use Rattle.std.proofs.Common.{◌≡◌, ℕ, Bool, true, false, Err, refl, ◌⊎◌, inl, inr, ◌&&◌, Option, None, Some, if◌then◌else◌, ◌<◌, ◌≤◌, ◌++◌, List, [], ◌∷◌, Result, Ok, length, sum, take, drop, ap, sym, subst, ◌∙◌, arith}
use Rattle.std.specs.Option.{is_none}
use Rattle.std.specs.List.{list_any}
use Rattle.std.proofs.Math.Seq.{take-append_seam}
use Rattle.grid_config_values.specs.declared.fault.Fault.{Fault}
use Rattle.grid_config_values.specs.declared.fault.Fault.TheVariants.{Range}
use Rattle.grid_config.specs.Looks.{Look, look_of}
use Rattle.grid_config.specs.Settings.{Settings}
use Rattle.grid_records_estimate.proofs.Lengths.{length-table_widths}
use Rattle.grid_records_estimate.specs.Collecting.{PassesMax}
use Rattle.grid_records_estimate.specs.Sizes.{IsRefusal, table_heights, table_widths}
use Rattle.grid_records_estimate.specs.Sizing.{sizing_of}
use Rattle.tabled_steps.proofs.Estimating.{heights_by_look, widths_by_look}
use Rattle.tabled_steps.specs.Outcomes.{◌≫=◌, MayRefuseStep, all_sized, passes_usize}
use Rattle.tabled_steps.specs.Sizes.{natural_heights, natural_widths}
use Rattle.tabled_size_priority.specs.LevelRules.Lists.{sum-le}
use Rattle.tabled_size_priority.specs.Shrinking.{StaysBetween}
use Rattle.tabled_width.specs.WholeTables.Widths.{width_with_columns}
use Rattle.tabled_width.proofs.TablesLemmas.Totalling.{refused_sizes}

-- what was lent of a list as a whole is there again
pub written_back : (items lent new : List ℕ) (n : ℕ) → n ≡ length items → lent ≡ items → length new ≡ length lent → take n (new ++ drop (length new) items) ≡ new
written_back items lent new n count is same =
    ap (λ (k : ℕ). take k (new ++ drop (length new) items)) (count ∙ sym (ap length is) ∙ sym same) ∙ take-append_seam new (drop (length new) items)

-- widths that are shrunk are no more together
pub shrunk_sum-le : (least widths sizes : List ℕ) → length sizes ≡ length widths → StaysBetween least widths sizes → sum sizes ≤ sum widths
shrunk_sum-le least widths sizes same between = sum-le sizes widths same (λ i inside. (between i (omega (arith, same, inside))).1)

-- a table takes at least what its widths are together
pub widths-below : (look : Look) (widths : List ℕ) → sum widths ≤ width_with_columns look widths
widths-below look [] = omega arith
widths-below look (w ∷ ws) = omega arith

-- as many widths that are no more together take no more
pub width_with_columns-le : (look : Look) (widths sizes : List ℕ) → length sizes ≡ length widths → sum sizes ≤ sum widths → width_with_columns look sizes ≤ width_with_columns look widths
width_with_columns-le look [] [] same less = omega arith
width_with_columns-le look [] (s ∷ ss) same less = absurd (omega (arith, same))
width_with_columns-le look (w ∷ ws) [] same less = omega arith
width_with_columns-le look (w ∷ ws) (s ∷ ss) same less = rw same (omega (arith, less))

-- ---- estimates

-- where neither of two is there, each is not
pub neither_kept : (widths heights : Option (List ℕ)) → (is_none widths && is_none heights) ≡ true → (widths ≡ None) × (heights ≡ None)
neither_kept None None is = (refl, refl)
neither_kept None (Some heights) is = absurd (let both : false ≡ true = is in cc both)
neither_kept (Some widths) heights is = absurd (let both : false ≡ true = is in cc both)

-- where the second of two estimates is refused, so are both, whether the first is or not
second_refused : {A : Type 0} (first : List ℕ) (second : Result (List ℕ) Fault) (next : List ℕ → List ℕ → Result A Fault) → second ≡ Err Range → (b : Bool) → ((if b then Err Range else Ok first) ≫= λ sizes. second ≫= next sizes) ≡ Err Range
second_refused first second next is true = refl
second_refused first second next is false = ap (λ r. r ≫= next first) is

module _ (settings : Settings) (columns : ℕ) (rows : List (List (List ℕ))) where
  pub widths_refused : (fault : Fault) → IsRefusal fault (PassesMax (table_widths (sizing_of settings) columns rows)) → MayRefuseStep fault (λ outcome. all_sized (natural_widths (look_of settings) columns rows) ≡ outcome)
  widths_refused fault refused =
      refused_sizes (natural_widths (look_of settings) columns rows) fault (subst (λ (sizes : List ℕ). IsRefusal fault (PassesMax sizes)) (widths_by_look settings columns rows) refused)

  pub heights_refused : (fault : Fault) → IsRefusal fault (PassesMax (table_heights (sizing_of settings) columns rows)) → MayRefuseStep fault (λ outcome. all_sized (natural_heights (look_of settings) columns rows) ≡ outcome)
  heights_refused fault refused =
      refused_sizes (natural_heights (look_of settings) columns rows) fault (subst (λ (sizes : List ℕ). IsRefusal fault (PassesMax sizes)) (heights_by_look settings columns rows) refused)

  pub both_refused : {A : Type 0} (fault : Fault) → IsRefusal fault (PassesMax (table_widths (sizing_of settings) columns rows) ⊎ PassesMax (table_heights (sizing_of settings) columns rows)) → (next : List ℕ → List ℕ → Result A Fault) →
      MayRefuseStep fault (λ outcome. (all_sized (natural_widths (look_of settings) columns rows) ≫= λ widths. all_sized (natural_heights (look_of settings) columns rows) ≫= next widths) ≡ outcome)
  both_refused {A} fault refused next =
      let wanted : Fault → Type 0 = λ fault. MayRefuseStep fault (λ outcome. (all_sized (natural_widths (look_of settings) columns rows) ≫= λ widths. all_sized (natural_heights (look_of settings) columns rows) ≫= next widths) ≡ outcome) in
      elim refused as (λ _. wanted fault) [
        | inl memory ↦ subst wanted (sym memory) tt
        | inr range ↦ subst wanted (sym range.0) (elim range.1 as (λ _. wanted Range) [
          | inl wide ↦ ap (λ r. r ≫= λ widths. all_sized (natural_heights (look_of settings) columns rows) ≫= next widths) (widths_refused Range (inr (refl, wide)))
          | inr high ↦
              second_refused (natural_widths (look_of settings) columns rows) (all_sized (natural_heights (look_of settings) columns rows)) next (heights_refused Range (inr (refl, high)))
              (list_any passes_usize (natural_widths (look_of settings) columns rows))
        ])
      ]

  pub widths_held : (sizes : List ℕ) → sizes ≡ table_widths (sizing_of settings) columns rows → all_sized sizes ≡ Ok sizes → all_sized (natural_widths (look_of settings) columns rows) ≡ Ok sizes
  widths_held sizes are held = ap all_sized (sym (are ∙ widths_by_look settings columns rows)) ∙ held

  pub heights_held : (sizes : List ℕ) → sizes ≡ table_heights (sizing_of settings) columns rows → all_sized sizes ≡ Ok sizes → all_sized (natural_heights (look_of settings) columns rows) ≡ Ok sizes
  heights_held sizes are held = ap all_sized (sym (are ∙ heights_by_look settings columns rows)) ∙ held

  pub width_count : (sizes : List ℕ) → 0 < length rows → sizes ≡ table_widths (sizing_of settings) columns rows → length sizes ≡ columns
  width_count sizes some are = ap length are ∙ length-table_widths (sizing_of settings) columns rows some

-- ---- one after the other

pub after_ok : {A B : Type 0} (worked : Result A Fault) (next : A → Result B Fault) (a : A) (fault : Fault) → worked ≡ Ok a → MayRefuseStep fault (λ outcome. next a ≡ outcome) → MayRefuseStep fault (λ outcome. (worked ≫= next) ≡ outcome)
after_ok worked next a fault is may = subst (λ r. MayRefuseStep fault (λ outcome. (r ≫= next) ≡ outcome)) (sym is) may
