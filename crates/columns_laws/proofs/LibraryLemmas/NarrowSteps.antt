-- What a step that makes a table narrower leaves of one that keeps no sizes.
use Rattle.std.proofs.Common.{◌≡◌, ◌==◌, ◌&&◌, ◌-◌, ◌<◌, ◌≤◌, not, ℕ, Bool, true, false, List, Option, Result, Ok, nat_lt, length, refl, ap, subst, ◌∙◌, arith}
use Rattle.std.specs.List.{list_any}
use Rattle.std.proofs.lemmas.Bool.Decides.{nat_tests}
use Rattle.grid_config.specs.Colors.{Color}
use Rattle.grid_config.specs.Looks.{Look}
use Rattle.grid_config_values.specs.declared.entity.Entity.{Entity}
use Rattle.grid_config_values.specs.declared.fault.Fault.{Fault}
use Rattle.grid_config_values.specs.declared.fault.Fault.TheVariants.{Range}
use Rattle.grid_config_values.specs.declared.position.Position.{Position}
use Rattle.tabled_size.specs.Dimension.Stored.{kept_after, none_stored}
use Rattle.tabled_steps.specs.Outcomes.{◌≫=◌, all_sized, passes_usize, sized}
use Rattle.tabled_steps.specs.Sizes.{natural_heights, natural_widths}
use Rattle.tabled_steps.specs.States.{Outcome, Settles, State, column_count, state_with}
use Rattle.tabled_width.specs.WholeTables.Rooms.{column_widths, empty_widths}
use Rattle.tabled_width.specs.WholeTables.Steps.{Measured, Then}
use Rattle.tabled_width.specs.WholeTables.Tables.{TableSizes, Narrows, NarrowsTable, Shrunk, Where, table_sizes, sizes_with, has_cells, keeping, narrowed_state}
use Rattle.tabled_width.specs.WholeTables.Widths.{width_with_columns}
use Rattle.tabled.specs.Narrowed.{GivesOnly}
use Rattle.tabled.proofs.Narrowing.{back-ok, bind-ok, if-ok, then-ok}

is-less : (a b : ℕ) → nat_lt a b ≡ true → a < b
is-less a b is = grind (arith, nat_tests, is)

not-less : (a b : ℕ) → nat_lt a b ≡ false → b ≤ a
not-less a b is = grind (arith, nat_tests, is)

pub cells-there : (rows columns : ℕ) → (not (rows == 0) && not (columns == 0)) ≡ true → (0 < rows) × (0 < columns)
cells-there rows columns is = (grind (arith, nat_tests, is), grind (arith, nat_tests, is))

-- ---- what is left

module _ (rows : List (List (List ℕ))) (look : Look) (colors : Position → Option Color) where
  abbrev pub fresh : State
  fresh = state_with rows look colors none_stored

  abbrev count : ℕ
  count = column_count rows

  abbrev naturals : List ℕ
  naturals = natural_widths look count rows

  abbrev pub leasts : List ℕ
  leasts = empty_widths look count (length rows)

  -- what is estimated of it
  pub record AreEstimated (it : TableSizes) : Type 0 where
    pub widths : it.widths ≡ natural_widths look count rows
    pub heights : it.heights ≡ natural_heights look count rows
    pub whole : it.whole ≡ width_with_columns look (column_widths count (natural_widths look count rows))

  found-is : (wide high : List ℕ) (whole : ℕ) (it : TableSizes) → it ≡ sizes_with wide high whole → wide ≡ naturals → high ≡ natural_heights look count rows → whole ≡ width_with_columns look (column_widths count wide) → AreEstimated it
  found-is wide high whole it same are_wide are_high is_whole = record {
    widths = ap (λ (d : TableSizes). d.widths) same ∙ are_wide;
    heights = ap (λ (d : TableSizes). d.heights) same ∙ are_high;
    whole = ap (λ (d : TableSizes). d.whole) same ∙ is_whole ∙ ap (λ (found : List ℕ). width_with_columns look (column_widths count found)) are_wide;
  }

  estimated : (it : TableSizes) → table_sizes look count rows none_stored ≡ Ok it → AreEstimated it
  estimated it is =
      let heights : List ℕ = natural_heights look count rows in
      let by_whole = λ (wide high : List ℕ) (whole : ℕ). Ok (sizes_with wide high whole) in
      let by_heights = λ (wide high : List ℕ). sized (width_with_columns look (column_widths count wide)) ≫= by_whole wide high in
      let by_widths = λ (wide : List ℕ). all_sized heights ≫= by_heights wide in
      let first = bind-ok (all_sized naturals) by_widths it is in
      let second = bind-ok (all_sized heights) (by_heights first.value) it first.follows in
      let total : ℕ = width_with_columns look (column_widths count first.value) in
      let third = bind-ok (sized total) (by_whole first.value second.value) it second.follows in
      found-is first.value second.value third.value it (back-ok (sizes_with first.value second.value third.value) it third.follows)
      (if-ok (list_any passes_usize naturals) Range naturals first.value first.is) (if-ok (list_any passes_usize heights) Range heights second.value second.is) (if-ok (passes_usize total) Range total third.value third.is)

  module _ {P : Type 0} (shrinks : P → List ℕ → ℕ → List ℕ → P → List ℕ → Type 0) (priority : P) (change : ℕ → List ℕ → Option (List ℕ)) (asked : ℕ) where
    -- there are no cells; it takes no more than requested; or its columns shrank
    pub data HasNarrowed (changed : State) : Type 0 where
      no_cells : has_cells fresh ≡ false → changed ≡ fresh → HasNarrowed changed
      stayed : has_cells fresh ≡ true → (it : TableSizes) → AreEstimated it → it.whole ≤ asked → changed ≡ keeping it fresh → HasNarrowed changed
      gave : has_cells fresh ≡ true → (it : TableSizes) → AreEstimated it → asked < it.whole → (left : List ℕ) → (after : P) → shrinks priority leasts (it.whole - asked) (column_widths count it.widths) after left
          → changed ≡ narrowed_state change leasts left (keeping it fresh) → HasNarrowed changed

    abbrev shrunk_by : TableSizes → State → Outcome → Type 0
    shrunk_by it = Shrunk shrinks priority change (column_widths count it.widths) (it.whole - asked)

    shrunk-is : has_cells fresh ≡ true → (it : TableSizes) → AreEstimated it → asked < it.whole → (changed : State) → shrunk_by it (keeping it fresh) (Ok changed) → HasNarrowed changed
    shrunk-is some it are wider changed did =
        let next = λ (least : List ℕ) (outcome : Outcome).
        ((left : List ℕ) × ((after : P) × shrinks priority least (it.whole - asked) (column_widths count it.widths) after left) × (Ok (narrowed_state change least left (keeping it fresh)) ≡ outcome)) in
        let found = then-ok (all_sized leasts) next changed did in
        let same : found.value ≡ leasts = if-ok (list_any passes_usize leasts) Range leasts found.value found.is in
        let left : List ℕ = found.follows.0 in
        let after : P = found.follows.1.0 in
        gave some it are wider left after
        (subst (λ (least : List ℕ). shrinks priority least (it.whole - asked) (column_widths count it.widths) after left) same found.follows.1.1)
        (back-ok (narrowed_state change found.value left (keeping it fresh)) changed found.follows.2 ∙ ap (λ (least : List ℕ). narrowed_state change least left (keeping it fresh)) same)

    narrows-is : has_cells fresh ≡ true → (changed : State) → Narrows shrinks priority change asked fresh (Ok changed) → HasNarrowed changed
    narrows-is some changed did =
        let found = then-ok (table_sizes look count rows none_stored) (λ it. Where (nat_lt asked it.whole) (shrunk_by it) (keeping it fresh)) changed did in
        let it : TableSizes = found.value in
        let are = estimated it found.is in
        by it are (nat_lt asked it.whole) refl found.follows
      where
        by : (it : TableSizes) → AreEstimated it → (b : Bool) → nat_lt asked it.whole ≡ b → Where b (shrunk_by it) (keeping it fresh) (Ok changed) → HasNarrowed changed
        by it are true e did = shrunk-is some it are (is-less asked it.whole e) changed did
        by it are false e did = stayed some it are (not-less asked it.whole e) (back-ok (keeping it fresh) changed did)

    module _ (measures : ℕ → List (List (List ℕ)) → Look → Result ℕ Fault → Type 0) (gives : GivesOnly measures fresh asked) where
      table-is : (changed : State) → (b : Bool) → has_cells fresh ≡ b → Where b (Measured measures (Narrows shrinks priority change)) fresh (Ok changed) → HasNarrowed changed
      table-is changed true e did =
          narrows-is e changed (subst (λ (size : Result ℕ Fault). Then size (λ n. Narrows shrinks priority change n fresh) (Ok changed)) (gives did.0 did.1) did.2)
      table-is changed false e did = no_cells e (back-ok fresh changed did)

      -- the table that a step leaves whose cells are these
      pub record IsLeft (hint : Option Entity) (last : State) : Type 0 where
        pub changed : State
        pub has : HasNarrowed changed
        pub last_is : last ≡ record changed { sizes = kept_after hint changed.sizes }

      pub left-is : (hint : Option Entity) (last : State) → Settles hint (NarrowsTable shrinks priority change measures) fresh (Ok last) → IsLeft hint last
      left-is hint last did =
          let found = bind-ok did.0 (λ (t : State). Ok (record t { sizes = kept_after hint t.sizes })) last did.2 in
          let step : NarrowsTable shrinks priority change measures fresh (Ok found.value) = subst (NarrowsTable shrinks priority change measures fresh) found.is did.1 in
          record {
            changed = found.value;
            has = table-is found.value (has_cells fresh) refl step;
            last_is = back-ok (record found.value { sizes = kept_after hint found.value.sizes }) last found.follows;
          }
