-- Why a table that was made narrower takes no more columns than were requested.
use Rattle.std.proofs.Common.{◌≡◌, ◌==◌, ◌&&◌, ◌+◌, ◌-◌, ◌<◌, ◌≤◌, cond, not, ℕ, zero, suc, max, Bool, true, false, List, [], ◌∷◌, Option, Some, Result, Ok, Err, nat_lt, map, length, replicate, sum, slice_index, slice_set, unwrap_or, refl, ap, sym, subst, ◌∙◌, arith, length-set}
use Rattle.std.specs.List.{list_any, range_with_len}
use Rattle.std.proofs.lemmas.Bool.Decides.{nat_tests}
use Rattle.std.proofs.lemmas.List.{length-replicate}
use Rattle.std.proofs.lemmas.List.FromFn.{length-map-range_with_len}
use Rattle.grid_config_values.specs.Glyphs.{boundary_count, has_column_boundary}
use Rattle.grid_config_values.specs.Entities.{covered_positions}
use Rattle.grid_config_values.specs.declared.entity.Entity.{Entity}
use Rattle.grid_config_values.specs.declared.entity.Entity.TheVariants.{Global}
use Rattle.grid_config_values.specs.declared.fault.Fault.{Fault}
use Rattle.grid_config_values.specs.declared.fault.Fault.TheVariants.{Range}
use Rattle.grid_config_values.specs.declared.position.Position.{Position}
use Rattle.grid_config.specs.Looks.{Look, look_of}
use Rattle.grid_config.specs.Settings.{Settings}
use Rattle.grid_records_estimate.proofs.Lengths.{length-table_widths}
use Rattle.grid_records_estimate.specs.Sizing.{sizing_of}
use Rattle.grid_records_traits.specs.Rows.{row_at, with_text}
use Rattle.papergrid_fits.proofs.TotalSizes.{columns-total}
use Rattle.tabled_size.specs.Dimension.Sizes.{given_size}
use Rattle.tabled_size.specs.Dimension.Stored.{Stored, kept_after, stored_sizes}
use Rattle.tabled_size_priority.specs.LevelRules.Lists.{map-le, sum-cons}
use Rattle.tabled_list.specs.Priorities.{shrinks_so}
use Rattle.tabled_size_priority.specs.Choices.{IsShrunkByChoice}
use Rattle.tabled_size_priority.specs.declared.choice.Choice.{Choice}
use Rattle.tabled_size_priority.specs.declared.choice.Choice.TheVariants.{None as InTurns, MinLeft, MinRight, MaxLeft, MaxRight, Left, Right}
use Rattle.tabled_size_priority.specs.Shrinking.{floor_of, floors, shrunk_sum}
use Rattle.tabled_steps.proofs.Estimating.{widths_by_look}
use Rattle.tabled_steps.specs.Changes.{Change, changed_rows, changes, with_all}
use Rattle.tabled_steps.specs.Outcomes.{◌≫=◌, all_sized, passes_usize, sized}
use Rattle.tabled_steps.specs.Sizes.{heights_or, natural_widths, widths_or}
use Rattle.tabled_steps.specs.States.{Outcome, Settles, State, column_count, settled}
use Rattle.tabled_width.specs.Rooms.{column_widths, empty_widths, in_room, text_room}
use Rattle.tabled_width.specs.Steps.{Measured, Then}
use Rattle.tabled_width.specs.Tables.{TableSizes, Narrows, NarrowsTable, Shrunk, Where, table_sizes, sizes_with, has_cells, keeping, narrowed_state}
use Rattle.tabled_width.specs.Widths.{width_with_columns}
use Rattle.tabled.specs.Narrowed.{GivesOnly, IsPlainlyPrinted, TakesAll, empty_total, line_columns}
use Rattle.tabled.specs.Printing.{drawn_heights, drawn_sizes, drawn_widths}
use Rattle.tabled.specs.Totals.{drawn_width}
use Rattle.tabled.proofs.PlainLines.{plain-line}

-- ---- rows of which texts change are as long

first-set : (rows : List (List (List ℕ))) (i : ℕ) (row : List (List ℕ)) → (i ≡ 0 → length row ≡ column_count rows) → column_count (slice_set rows i row) ≡ column_count rows
first-set [] i row same = refl
first-set (r ∷ rs) zero row same = same refl
first-set (r ∷ rs) (suc i) row same = refl

first-row : (rows : List (List (List ℕ))) → length (row_at rows 0) ≡ column_count rows
first-row [] = refl
first-row (row ∷ rows) = refl

columns-with_text : (rows : List (List (List ℕ))) (pos : Position) (text : List ℕ) → column_count (with_text rows pos text) ≡ column_count rows
columns-with_text rows pos text =
    first-set rows pos.row (slice_set (row_at rows pos.row) pos.col text) (λ first. length-set (row_at rows pos.row) pos.col text ∙ ap (λ i. length (row_at rows i)) first ∙ first-row rows)

columns-with_all : (changes : List Change) (rows : List (List (List ℕ))) → column_count (with_all changes rows) ≡ column_count rows
columns-with_all [] rows = refl
columns-with_all (change ∷ changes) rows = columns-with_text (with_all changes rows) change.0 change.1 ∙ columns-with_all changes rows

columns-changed : (change : Position → List ℕ → Option (List ℕ)) (at : Entity) (columns : ℕ) (rows : List (List (List ℕ))) → column_count (changed_rows change at columns rows) ≡ column_count rows
columns-changed change at columns rows = columns-with_all (changes change rows (covered_positions at (length rows) columns)) rows

-- ---- sums

shift : (f : ℕ → ℕ) (a n : ℕ) → map f (range_with_len (a + 1) n) ≡ map (λ k. f (suc k)) (range_with_len a n)
shift f a zero = refl
shift f a (suc n) =
    let next : a + 1 ≡ suc a = omega arith in
    ap (λ k. f k ∷ map f (range_with_len (a + 1 + 1) n)) next ∙ ap (λ rest. f (suc a) ∷ rest) (shift f (a + 1) n)

zeros : (a n : ℕ) → sum (map (λ k. slice_index [] k) (range_with_len a n)) ≡ 0
zeros a zero = refl
zeros a (suc n) = let rest = zeros (a + 1) n in omega (arith, rest, sum-cons 0 (map (λ k. slice_index [] k) (range_with_len (a + 1) n)))

-- the first widths sum to no more than all
first-sum : (widths : List ℕ) (n : ℕ) → sum (column_widths n widths) ≤ sum widths
first-sum [] n = let none = zeros 0 n in omega (arith, none)
first-sum (w ∷ ws) zero = omega arith
first-sum (w ∷ ws) (suc n) =
    let moved : sum (map (λ k. slice_index (w ∷ ws) k) (range_with_len (0 + 1) n)) ≡ sum (column_widths n ws) = ap sum (shift (λ k. slice_index (w ∷ ws) k) 0 n) in
    omega (arith, moved, first-sum ws n, sum-cons w ws, sum-cons w (map (λ k. slice_index (w ∷ ws) k) (range_with_len (0 + 1) n)))

floors-sum : (least widths : List ℕ) → sum (floors least widths) ≤ sum least
floors-sum least widths =
    let below = map-le (floor_of least widths) (λ column. slice_index least column) (length widths) (λ column inside. omega arith) in
    omega (arith, below, first-sum least (length widths))

-- what a table takes beside its widths
abbrev beside : Look → ℕ → ℕ
beside look n = boundary_count (has_column_boundary look.borders) n + look.margin.left.size + look.margin.right.size

with_widths : (look : Look) (widths : List ℕ) → 0 < length widths → width_with_columns look widths ≡ sum widths + beside look (length widths)
with_widths look [] some = absurd (omega (arith, some))
with_widths look (w ∷ ws) some = omega arith

column-total : (look : Look) (n : ℕ) (widths : List ℕ) → 0 < n → width_with_columns look (column_widths n widths) ≡ sum (column_widths n widths) + beside look n
column-total look n widths some =
    let many : length (column_widths n widths) ≡ n = length-map-range_with_len (λ column. slice_index widths column) 0 n in
    with_widths look (column_widths n widths) (omega (arith, many, some)) ∙ ap (λ k. sum (column_widths n widths) + beside look k) many

shrunk-within : (before floor least left more asked whole : ℕ) → whole ≡ before + more → asked < whole → least + more ≤ asked → floor ≤ least → left ≡ max (before - (whole - asked)) floor → left + more ≤ asked
shrunk-within before floor least left more asked whole is wider allowed low taken = omega (arith, is, wider, allowed, low, taken)

-- ---- what was worked out one after the other

-- a value was worked out, and what follows holds of it
pub record WorkedOut {A : Type 0} (worked : Result A Fault) (P : A → Type 0) : Type 0 where
  pub value : A
  pub is : worked ≡ Ok value
  pub follows : P value

pub bind-ok : {A B : Type 0} (worked : Result A Fault) (next : A → Result B Fault) (b : B) → (worked ≫= next) ≡ Ok b → WorkedOut worked (λ a. next a ≡ Ok b)
bind-ok (Ok a) next b is = record { value = a; is = refl; follows = is }
bind-ok (Err fault) next b is = absurd (cc is)

pub then-ok : {A : Type 0} (worked : Result A Fault) (next : A → Outcome → Type 0) (s : State) → Then worked next (Ok s) → WorkedOut worked (λ a. next a (Ok s))
then-ok (Ok a) next s is = record { value = a; is = refl; follows = is }
then-ok (Err fault) next s is = absurd (cc is)

same-ok : {A : Type 0} (a b : A) → ◌≡◌ {A = Result A Fault} (Ok a) (Ok b) → a ≡ b
same-ok a b is = cc is

pub back-ok : {A : Type 0} (a b : A) → ◌≡◌ {A = Result A Fault} (Ok a) (Ok b) → b ≡ a
back-ok a b is = cc is

pub if-ok : {A : Type 0} (b : Bool) (fault : Fault) (x y : A) → cond b (Err fault) (Ok x) ≡ Ok y → y ≡ x
if-ok true fault x y is = absurd (cc is)
if-ok false fault x y is = cc is

data WhereCases (b : Bool) (step : State → Outcome → Type 0) (s : State) (outcome : Outcome) : Type 0 where
  steps : b ≡ true → step s outcome → WhereCases b step s outcome
  stays : b ≡ false → Ok s ≡ outcome → WhereCases b step s outcome

where-cases : (b : Bool) (step : State → Outcome → Type 0) (s : State) (outcome : Outcome) → Where b step s outcome → WhereCases b step s outcome
where-cases true step s outcome is = steps refl is
where-cases false step s outcome is = stays refl is

drawn-whole : (look : Look) (columns : ℕ) (rows : List (List (List ℕ))) (sizes : Stored) (it : TableSizes) → table_sizes look columns rows sizes ≡ Ok it → it.whole ≡ width_with_columns look (column_widths columns it.widths)
drawn-whole look columns rows sizes it is =
    let by_whole = λ (widths heights : List ℕ) (whole : ℕ). Ok (sizes_with widths heights whole) in
    let by_heights = λ (widths heights : List ℕ). sized (width_with_columns look (column_widths columns widths)) ≫= by_whole widths heights in
    let by_widths = λ (widths : List ℕ). heights_or sizes.heights look columns rows ≫= by_heights widths in
    let first = bind-ok (widths_or sizes.widths look columns rows) by_widths it is in
    let second = bind-ok (heights_or sizes.heights look columns rows) (by_heights first.value) it first.follows in
    let total = width_with_columns look (column_widths columns first.value) in
    let third = bind-ok (sized total) (by_whole first.value second.value) it second.follows in
    let found : TableSizes = sizes_with first.value second.value third.value in
    ap (λ (d : TableSizes). d.whole) (back-ok found it third.follows)
    ∙ if-ok (passes_usize total) Range total third.value third.is
    ∙ ap (λ (d : TableSizes). width_with_columns look (column_widths columns d.widths)) (same-ok found it third.follows)

-- ---- the widths that a step leaves

not-less : (a b : ℕ) → nat_lt a b ≡ false → b ≤ a
not-less a b is = grind (arith, nat_tests, is)

is-less : (a b : ℕ) → nat_lt a b ≡ true → a < b
is-less a b is = grind (arith, nat_tests, is)

cells-there : (rows columns : ℕ) → (not (rows == 0) && not (columns == 0)) ≡ true → (0 < rows) × (0 < columns)
cells-there rows columns is = (grind (arith, nat_tests, is), grind (arith, nat_tests, is))

no-cells : (rows columns : ℕ) → (not (rows == 0) && not (columns == 0)) ≡ false → 0 < rows → 0 < columns → ⊥
no-cells rows columns is some more = grind (arith, nat_tests, is, some, more)

-- it keeps the look and as many columns, and widths in which these take no more than was requested
record KeepsTo (settings : Settings) (asked : ℕ) (look : Look) (columns : ℕ) (s : State) : Type 0 where
  widths : List ℕ
  kept : s.sizes.widths ≡ Some widths
  look_is : s.look ≡ look
  columns_are : column_count s.rows ≡ columns
  within : look ≡ look_of settings → width_with_columns look (column_widths columns widths) ≤ asked

module _ (settings : Settings) (s : State) (asked : ℕ) (some_rows : 0 < length s.rows) (some_columns : 0 < column_count s.rows) (allowed : empty_total s ≤ asked) where
  abbrev count : ℕ
  count = column_count s.rows

  abbrev no_texts : List (List ℕ)
  no_texts = replicate count []

  abbrev empties : List (List (List ℕ))
  empties = replicate (length s.rows) no_texts

  abbrev leasts : List ℕ
  leasts = empty_widths s.look count (length s.rows)

  leasts-count : s.look ≡ look_of settings → length leasts ≡ count
  leasts-count is =
      ap (λ (look : Look). length (empty_widths look count (length s.rows))) is
      ∙ ap length (sym (widths_by_look settings count empties))
      ∙ length-table_widths (sizing_of settings) count empties (omega (arith, some_rows, length-replicate (length s.rows) no_texts))

  least-allowed : s.look ≡ look_of settings → sum leasts + beside s.look count ≤ asked
  least-allowed is =
      let many = leasts-count is in
      let total : width_with_columns s.look leasts ≡ sum leasts + beside s.look count = with_widths s.look leasts (omega (arith, many, some_columns)) ∙ ap (λ k. sum leasts + beside s.look k) many in
      omega (arith, allowed, total)

  module _ {P : Type 0} (shrinks : P → List ℕ → ℕ → List ℕ → P → List ℕ → Type 0) (priority : P) (change : ℕ → List ℕ → Option (List ℕ)) (takes : TakesAll shrinks) where
    abbrev step_of : TableSizes → State → Outcome → Type 0
    step_of it = Shrunk shrinks priority change (column_widths count it.widths) (it.whole - asked)

    left-keeps : (it : TableSizes) → it.whole ≡ width_with_columns s.look (column_widths count it.widths) → asked < it.whole → (new : State) (least left : List ℕ) (after : P) → least ≡ leasts →
        shrinks priority least (it.whole - asked) (column_widths count it.widths) after left → narrowed_state change least left (keeping it s) ≡ new → KeepsTo settings asked s.look count new
    left-keeps it whole wider new least left after are shrunk same = record {
      widths = left;
      kept = ap (λ (t : State). t.sizes.widths) (sym same);
      look_is = ap (λ (t : State). t.look) (sym same);
      columns_are = ap (λ (t : State). column_count t.rows) (sym same) ∙ columns-changed (λ place text. in_room change text (text_room s.look least left place)) Global count s.rows;
      within = λ is.
          (let widths = column_widths count it.widths in
          let more = beside s.look count in
          let taken : sum left ≡ shrunk_sum least widths (it.whole - asked) = takes priority least (it.whole - asked) widths after left shrunk in
          let low : sum (floors least widths) ≤ sum leasts = subst (λ (ls : List ℕ). sum (floors least widths) ≤ sum ls) are (floors-sum least widths) in
          let before : it.whole ≡ sum widths + more = whole ∙ column-total s.look count it.widths some_columns in
          let within = shrunk-within (sum widths) (sum (floors least widths)) (sum leasts) (sum left) more asked it.whole before wider (least-allowed is) low taken in
          omega (arith, within, column-total s.look count left some_columns, first-sum left count));
    }

    shrunk-keeps : (it : TableSizes) → it.whole ≡ width_with_columns s.look (column_widths count it.widths) → asked < it.whole → (new : State) → step_of it (keeping it s) (Ok new) → KeepsTo settings asked s.look count new
    shrunk-keeps it whole wider new done =
        let next = λ (least : List ℕ) (outcome : Outcome).
        ((left : List ℕ) × ((after : P) × shrinks priority least (it.whole - asked) (column_widths count it.widths) after left) × (Ok (narrowed_state change least left (keeping it s)) ≡ outcome)) in
        let found = then-ok (all_sized leasts) next new done in
        let least = found.value in
        let are : least ≡ leasts = if-ok (list_any passes_usize leasts) Range leasts least found.is in
        let left = found.follows.0 in
        left-keeps it whole wider new least left found.follows.1.0 are found.follows.1.1 (same-ok (narrowed_state change least left (keeping it s)) new found.follows.2)

    narrows-keeps : (new : State) → Narrows shrinks priority change asked s (Ok new) → KeepsTo settings asked s.look count new
    narrows-keeps new done =
        let found = then-ok (table_sizes s.look count s.rows s.sizes) (λ it. Where (nat_lt asked it.whole) (step_of it) (keeping it s)) new done in
        let it = found.value in
        let whole = drawn-whole s.look count s.rows s.sizes it found.is in
        elim (where-cases (nat_lt asked it.whole) (step_of it) (keeping it s) (Ok new) found.follows) as (λ _. KeepsTo settings asked s.look count new) [
          | steps wider did ↦ shrunk-keeps it whole (is-less asked it.whole wider) new did
          | stays narrow same ↦
              let kept : keeping it s ≡ new = same-ok (keeping it s) new same in
              let low = not-less asked it.whole narrow in
              record {
                widths = it.widths;
                kept = ap (λ (t : State). t.sizes.widths) (sym kept);
                look_is = ap (λ (t : State). t.look) (sym kept);
                columns_are = ap (λ (t : State). column_count t.rows) (sym kept);
                within = λ _. omega (arith, whole, low);
              }
        ]

-- ---- the lines

-- a table that keeps such widths draws lines of no more columns
drawn-within : (settings : Settings) (s : State) (asked : ℕ) (look : Look) (columns : ℕ) → KeepsTo settings asked look columns s → look ≡ look_of settings → 0 < length s.rows → drawn_width s ≤ asked
drawn-within settings s asked look columns keeps is some =
    let many : length (drawn_heights s) ≡ length s.rows = length-map-range_with_len (given_size (stored_sizes (drawn_sizes s).heights)) 0 (length s.rows) in
    let widths : drawn_widths s ≡ column_widths columns keeps.widths =
    ap (λ (kept : Option (List ℕ)). column_widths (column_count s.rows) (unwrap_or kept (natural_widths s.look (column_count s.rows) s.rows))) keeps.kept
    ∙ ap (λ n. column_widths n keeps.widths) keeps.columns_are in
    let whole : drawn_width s ≡ width_with_columns look (column_widths columns keeps.widths) =
    columns-total s.look (drawn_widths s) (drawn_heights s) (omega (arith, many, some))
    ∙ ap (width_with_columns s.look) widths ∙ ap (λ (look : Look). width_with_columns look (column_widths columns keeps.widths)) keeps.look_is in
    omega (arith, whole, keeps.within is)

-- the cells that a step names leave the widths that a table keeps
abbrev LeavesWidths : Option Entity → Type 0
LeavesWidths hint = (kept : Stored) → (kept_after hint kept).widths ≡ kept.widths

-- the same widths are kept when heights are cleared
settled-keeps : (settings : Settings) (asked : ℕ) (look : Look) (columns : ℕ) (hint : Option Entity) (changed new : State) → LeavesWidths hint → settled hint (Ok changed) ≡ Ok new → KeepsTo settings asked look columns changed → KeepsTo settings asked look columns new
settled-keeps settings asked look columns hint changed new leaves is keeps =
    let after : State = record changed { sizes = kept_after hint changed.sizes } in
    let same : after ≡ new = same-ok after new is in
    record {
      widths = keeps.widths;
      kept = ap (λ (t : State). t.sizes.widths) (sym same) ∙ leaves changed.sizes ∙ keeps.kept;
      look_is = ap (λ (t : State). t.look) (sym same) ∙ keeps.look_is;
      columns_are = ap (λ (t : State). column_count t.rows) (sym same) ∙ keeps.columns_are;
      within = keeps.within;
    }

module _ (settings : Settings) (s new : State) (asked : ℕ) (hint : Option Entity) {P : Type 0} (shrinks : P → List ℕ → ℕ → List ℕ → P → List ℕ → Type 0) (priority : P) (change : ℕ → List ℕ → Option (List ℕ))
    (measures : ℕ → List (List (List ℕ)) → Look → Result ℕ Fault → Type 0) (leaves : LeavesWidths hint) (takes : TakesAll shrinks) (gives : GivesOnly measures s asked) (is : IsPlainlyPrinted settings new) (allowed : empty_total s ≤ asked) where
  abbrev measured : State → Outcome → Type 0
  measured = Measured measures (Narrows shrinks priority change)

  measured-keeps : (changed : State) → settled hint (Ok changed) ≡ Ok new → 0 < length s.rows → 0 < column_count s.rows → measured s (Ok changed) → KeepsTo settings asked s.look (column_count s.rows) new
  measured-keeps changed after some_rows some_columns did =
      let narrows : Narrows shrinks priority change asked s (Ok changed) = subst (λ (size : Result ℕ Fault). Then size (λ n. Narrows shrinks priority change n s) (Ok changed)) (gives did.0 did.1) did.2 in
      settled-keeps settings asked s.look (column_count s.rows) hint changed new leaves after (narrows-keeps settings s asked some_rows some_columns allowed shrinks priority change takes changed narrows)

  changed-within : (changed : State) → settled hint (Ok changed) ≡ Ok new → NarrowsTable shrinks priority change measures s (Ok changed) → drawn_width new ≤ asked
  changed-within changed after done = elim (where-cases (has_cells s) measured s (Ok changed) done) as (λ _. drawn_width new ≤ asked) [
    | steps there did ↦
        let some = cells-there (length s.rows) (column_count s.rows) there in
        let keeps = measured-keeps changed after some.0 some.1 did in
        drawn-within settings new asked s.look (column_count s.rows) keeps (sym keeps.look_is ∙ is.look) is.some_rows
    | stays none same ↦
        let cleared : State = record changed { sizes = kept_after hint changed.sizes } in
        let rows : new.rows ≡ s.rows = ap (λ (t : State). t.rows) (sym (same-ok cleared new after)) ∙ ap (λ (t : State). t.rows) (sym (same-ok s changed same)) in
        absurd (no-cells (length s.rows) (column_count s.rows) none (omega (arith, is.some_rows, ap length rows)) (omega (arith, is.some_columns, ap (λ (rows : List (List (List ℕ))). column_count rows) rows)))
  ]

  pub lines-within : (y : ℕ) → Settles hint (NarrowsTable shrinks priority change measures) s (Ok new) → line_columns new y ≤ asked
  lines-within y done =
      let found = bind-ok done.0 (λ (t : State). Ok (record t { sizes = kept_after hint t.sizes })) new done.2 in
      let step : NarrowsTable shrinks priority change measures s (Ok found.value) = subst (NarrowsTable shrinks priority change measures s) found.is done.1 in
      let within = changed-within found.value found.follows step in
      omega (arith, within, plain-line settings new y is)

-- ---- the priorities of names

pub named-takes : (name : Choice) → TakesAll (shrinks_so (IsShrunkByChoice name))
named-takes InTurns = λ before least by widths after left is. is.sums
named-takes MinLeft = λ before least by widths after left is. is.sums
named-takes MinRight = λ before least by widths after left is. is.sums
named-takes MaxLeft = λ before least by widths after left is. is.sums
named-takes MaxRight = λ before least by widths after left is. is.sums
named-takes Left = λ before least by widths after left is. is.sums
named-takes Right = λ before least by widths after left is. is.sums
