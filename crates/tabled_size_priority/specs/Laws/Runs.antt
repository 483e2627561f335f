-- What each run of answers keeps, and how an invariant is carried along it.
use Rattle.std.proofs.Common.{◌≡◌, ℕ, zero, suc, ◌+◌, ◌-◌, ◌<◌, ◌≤◌, List, length, get_or, set, sum, min, refl, sym, ◌∙◌, ap, subst, arith, length-set, true, false, inl, inr}
use Rattle.std.specs.Prelude.{Option, Some, nat_lt}
use Rattle.std.proofs.lemmas.Bool.{cases_lt}
use Rattle.std.proofs.lemmas.List.FromFn.{length-map-range_with_len}
use Rattle.tabled_size_priority.specs.LevelRules.Columns.{column_numbers}
use Rattle.tabled_size_priority.specs.Shrinking.{floor_of, gap_of, floors, gap_sum, shrunk_sum, StaysBetween}
use Rattle.tabled_size_priority.specs.Peaking.{NoneAbove}
use Rattle.tabled_size_priority.specs.Running.{Stand, answered, Leads, Ends, IsNowhere, IsShrunkBy}
use Rattle.tabled_size_priority.specs.Running.Ends.{all_taken, hopeless, nowhere}
use Rattle.tabled_size_priority.specs.Laws.Lists.{sum-le, sum-added, from_columns, at_column, sum-set, set_cases, lt-true, lt-false}

-- ---- sums

-- the floors and what can be taken together are the widths
pub floors-gaps : (least widths : List ℕ) → sum (floors least widths) + gap_sum least widths ≡ sum widths
floors-gaps least widths =
    sum-added (floor_of least widths) (gap_of least widths) (λ (i : ℕ). get_or widths i 0) (column_numbers widths) (λ i. omega arith)
    ∙ ap sum (sym (from_columns (λ (i : ℕ). get_or widths i 0) (length widths) widths refl (λ i below. refl)))

-- ---- shrinking

-- what an answer keeps
pub record IsSound (least widths : List ℕ) (by : ℕ) (sizes : List ℕ) (left : ℕ) : Type 0 where
  pub size : length sizes ≡ length widths
  pub between : (i : ℕ) → i < length widths → (min (get_or widths i 0) (get_or least i 0) ≤ get_or sizes i 0) × (get_or sizes i 0 ≤ get_or widths i 0)
  pub taken : sum sizes + min by (gap_sum least widths) ≡ sum widths + left

pub sound-taken : (least widths : List ℕ) (by : ℕ) (sizes : List ℕ) (left column : ℕ) → IsSound least widths by sizes left → column < length sizes → 0 < left
    → get_or least column 0 < get_or sizes column 0 → IsSound least widths by (set sizes column (get_or sizes column 0 - 1)) (left - 1)
sound-taken least widths by sizes left column sound inside some above =
    let size : length sizes ≡ length widths = sound.size in
    let here : (min (get_or widths column 0) (get_or least column 0) ≤ get_or sizes column 0) × (get_or sizes column 0 ≤ get_or widths column 0) = sound.between column (omega arith) in
    let Between : ℕ → ℕ → Type 0 = λ (i : ℕ) (v : ℕ). i < length widths → (min (get_or widths i 0) (get_or least i 0) ≤ v) × (v ≤ get_or widths i 0) in
    record {
      size = length-set sizes column (get_or sizes column 0 - 1) ∙ size;
      between = set_cases Between sizes column (get_or sizes column 0 - 1) inside (λ below. (omega arith, omega arith)) (λ i other below. sound.between i below);
      taken =
          let total : sum (set sizes column (get_or sizes column 0 - 1)) + get_or sizes column 0 ≡ sum sizes + (get_or sizes column 0 - 1) = sum-set sizes column (get_or sizes column 0 - 1) inside in
          let taken : sum sizes + min by (gap_sum least widths) ≡ sum widths + left = sound.taken in
          omega arith;
    }

-- where something is left to be taken, some column is above its least
pub some_above : (least widths : List ℕ) (by : ℕ) (sizes : List ℕ) (left : ℕ) → IsSound least widths by sizes left → 0 < left → NoneAbove least sizes (length sizes) → ⊥
some_above least widths by sizes left sound some none =
    let size : length sizes ≡ length widths = sound.size in
    let same : sum (floors least widths) + gap_sum least widths ≡ sum widths = floors-gaps least widths in
    let floor_length : length (floors least widths) ≡ length widths = length-map-range_with_len (floor_of least widths) 0 (length widths) in
    let below_floors : sum sizes ≤ sum (floors least widths) =
    sum-le sizes (floors least widths) (omega arith)
    (λ i below.
    let inside : i < length widths = omega arith in
    let at_least : get_or sizes i 0 ≤ get_or least i 0 = none i below in
    let bounds : (min (get_or widths i 0) (get_or least i 0) ≤ get_or sizes i 0) × (get_or sizes i 0 ≤ get_or widths i 0) = sound.between i inside in
    let floor : get_or (floors least widths) i 0 ≡ floor_of least widths i = at_column (floor_of least widths) (length widths) i inside in
    omega arith) in
    let taken : sum sizes + min by (gap_sum least widths) ≡ sum widths + left = sound.taken in
    omega arith

-- an invariant of priority and sizes that each answer keeps
pub record KeepsShrinking {S : Type 0} (peaks : S → List ℕ → List ℕ → Option ℕ → S → Type 0) (least widths : List ℕ) (Keeps : S → List ℕ → Type 0) : Type 0 where
  pub above : (before : S) (sizes : List ℕ) (column : ℕ) (after : S) → peaks before least sizes (Some column) after → column < length sizes → get_or least column 0 < get_or sizes column 0
  pub step : (before : S) (sizes : List ℕ) (column : ℕ) (after : S) → length sizes ≡ length widths → Keeps before sizes → peaks before least sizes (Some column) after → column < length sizes
      → Keeps after (set sizes column (get_or sizes column 0 - 1))
  pub none : (before : S) (sizes : List ℕ) (answer : Option ℕ) (after : S) → length sizes ≡ length widths → peaks before least sizes answer after → IsNowhere (length sizes) answer → NoneAbove least sizes (length sizes)

pub record IsKept {S : Type 0} (least widths : List ℕ) (by : ℕ) (Keeps : S → List ℕ → Type 0) (now : Stand S) : Type 0 where
  pub sound : IsSound least widths by now.widths now.left
  pub kept : Keeps now.priority now.widths
  pub fruitful : now.fruitless ≡ 0

-- ---- an answer that takes, and one that doesn't

pub answered_takes : {S : Type 0} (least : List ℕ) (column : ℕ) (after : S) (stand : Stand S) → get_or least column 0 < get_or stand.widths column 0
    → answered least column after stand ≡ record { priority = after; widths = set stand.widths column (get_or stand.widths column 0 - 1); left = stand.left - 1; fruitless = 0 }
answered_takes least column after stand above = let test : nat_lt (get_or least column 0) (get_or stand.widths column 0) ≡ true = lt-true _ _ above in rw test

pub answered_passes : {S : Type 0} (least : List ℕ) (column : ℕ) (after : S) (stand : Stand S) → get_or stand.widths column 0 ≤ get_or least column 0
    → answered least column after stand ≡ record { priority = after; widths = stand.widths; left = stand.left; fruitless = stand.fruitless + 1 }
answered_passes least column after stand low = let test : nat_lt (get_or least column 0) (get_or stand.widths column 0) ≡ false = lt-false _ _ low in rw test

-- each run keeps what each answer keeps
pub leads_sound : {S : Type 0} (peaks : S → List ℕ → List ℕ → Option ℕ → S → Type 0) (least widths : List ℕ) (by : ℕ) (start : Stand S) → IsSound least widths by start.widths start.left
    → (n : ℕ) (now : Stand S) → Leads peaks least start n now → IsSound least widths by now.widths now.left
leads_sound {S} peaks least widths by start sound zero now leads =
    let P : Stand S → Type 0 = λ (s : Stand S). IsSound least widths by s.widths s.left in subst P (sym leads) sound
leads_sound {S} peaks least widths by start sound (suc n) now leads =
    let before : IsSound least widths by leads.before.widths leads.before.left = leads_sound peaks least widths by start sound n leads.before leads.so_far in
    let P : Stand S → Type 0 = λ (s : Stand S). IsSound least widths by s.widths s.left in
    elim (cases_lt (get_or least leads.column 0) (get_or leads.before.widths leads.column 0)) [
      | inl above ↦ subst P (sym (leads.is_now ∙ answered_takes least leads.column leads.after leads.before above))
          (sound-taken least widths by leads.before.widths leads.before.left leads.column before leads.inside leads.goes_on.some_left above)
      | inr low ↦ subst P (sym (leads.is_now ∙ answered_passes least leads.column leads.after leads.before low)) before
    ]

pub start_sound : (least widths : List ℕ) (by : ℕ) → IsSound least widths by widths (min by (gap_sum least widths))
start_sound least widths by = record { size = refl; between = λ i below. (omega arith, omega arith); taken = refl }

leads-kept : {S : Type 0} (peaks : S → List ℕ → List ℕ → Option ℕ → S → Type 0) (least widths : List ℕ) (by : ℕ) (Keeps : S → List ℕ → Type 0) → KeepsShrinking peaks least widths Keeps
    → (start : Stand S) → IsKept least widths by Keeps start → (n : ℕ) (now : Stand S) → Leads peaks least start n now → IsKept least widths by Keeps now
leads-kept {S} peaks least widths by Keeps keeps start kept zero now leads = let P : Stand S → Type 0 = IsKept least widths by Keeps in subst P (sym leads) kept
leads-kept {S} peaks least widths by Keeps keeps start kept (suc n) now leads =
    let before : IsKept least widths by Keeps leads.before = leads-kept peaks least widths by Keeps keeps start kept n leads.before leads.so_far in
    let above : get_or least leads.column 0 < get_or leads.before.widths leads.column 0 = keeps.above leads.before.priority leads.before.widths leads.column leads.after leads.answer leads.inside in
    let P : Stand S → Type 0 = IsKept least widths by Keeps in
    subst P (sym (leads.is_now ∙ answered_takes least leads.column leads.after leads.before above)) (record {
      sound = sound-taken least widths by leads.before.widths leads.before.left leads.column before.sound leads.inside leads.goes_on.some_left above;
      kept = keeps.step leads.before.priority leads.before.widths leads.column leads.after before.sound.size before.kept leads.answer leads.inside;
      fruitful = refl;
    })

-- where the end is known, what is left is nothing
kept-ends : {S : Type 0} (peaks : S → List ℕ → List ℕ → Option ℕ → S → Type 0) (least widths : List ℕ) (by : ℕ) (Keeps : S → List ℕ → Type 0) → KeepsShrinking peaks least widths Keeps
    → (now : Stand S) (after : S) → IsKept least widths by Keeps now → Ends peaks least now after → Keeps after now.widths × (now.left ≡ 0)
kept-ends peaks least widths by Keeps keeps now after kept (all_taken none_left) = (kept.kept, none_left)
kept-ends peaks least widths by Keeps keeps now after kept (hopeless no_hope) =
    let fruitful : now.fruitless ≡ 0 = kept.fruitful in (
      kept.kept,
      elim (cases_lt 0 now.left) [
        | inl some ↦ absurd (some_above least widths by now.widths now.left kept.sound some (λ other below. absurd (omega arith)))
        | inr none ↦ omega arith
      ],
    )
kept-ends peaks least widths by Keeps keeps now after kept (nowhere goes_on answer end answered is_nowhere) =
    absurd (some_above least widths by now.widths now.left kept.sound goes_on.some_left (keeps.none now.priority now.widths answer end kept.sound.size answered is_nowhere))

-- what is shrunk keeps the invariant, and has the sum that it is to have
pub record IsShrunkWell {S : Type 0} (least widths : List ℕ) (by : ℕ) (Keeps : S → List ℕ → Type 0) (after : S) (sizes : List ℕ) : Type 0 where
  pub size : length sizes ≡ length widths
  pub kept : Keeps after sizes
  pub sums : sum sizes ≡ shrunk_sum least widths by

pub shrunk_well : {S : Type 0} (peaks : S → List ℕ → List ℕ → Option ℕ → S → Type 0) (Keeps : S → List ℕ → Type 0) (before : S) (least : List ℕ) (by : ℕ) (widths : List ℕ) (after : S) (sizes : List ℕ)
    → KeepsShrinking peaks least widths Keeps → Keeps before widths → IsShrunkBy peaks before least by widths after sizes → IsShrunkWell least widths by Keeps after sizes
shrunk_well {S} peaks Keeps before least by widths after sizes keeps kept run =
    let start : Stand S = record { priority = before; widths = widths; left = min by (gap_sum least widths); fruitless = 0 } in
    let begun : IsKept least widths by Keeps start = record { sound = start_sound least widths by; kept = kept; fruitful = refl } in
    let end : IsKept least widths by Keeps run.end = leads-kept peaks least widths by Keeps keeps start begun run.answers run.end run.run in
    let ended : Keeps after run.end.widths × (run.end.left ≡ 0) = kept-ends peaks least widths by Keeps keeps run.end after end run.ends in
    let same : sum (floors least widths) + gap_sum least widths ≡ sum widths = floors-gaps least widths in
    let taken : sum run.end.widths + min by (gap_sum least widths) ≡ sum widths + run.end.left = end.sound.taken in
    let none_left : run.end.left ≡ 0 = ended.1 in
    let P : List ℕ → Type 0 = IsShrunkWell least widths by Keeps after in
    subst P (sym run.sizes_are) (record { size = end.sound.size; kept = ended.0; sums = omega arith })

-- what each priority keeps to
pub record IsShrunkSafely (least widths : List ℕ) (by : ℕ) (sizes : List ℕ) : Type 0 where
  pub between : StaysBetween least widths sizes
  pub at_most : sum widths ≤ sum sizes + by

pub shrunk_safely : {S : Type 0} (peaks : S → List ℕ → List ℕ → Option ℕ → S → Type 0) (before : S) (least : List ℕ) (by : ℕ) (widths : List ℕ) (after : S) (sizes : List ℕ)
    → IsShrunkBy peaks before least by widths after sizes → IsShrunkSafely least widths by sizes
shrunk_safely {S} peaks before least by widths after sizes run =
    let start : Stand S = record { priority = before; widths = widths; left = min by (gap_sum least widths); fruitless = 0 } in
    let end : IsSound least widths by run.end.widths run.end.left = leads_sound peaks least widths by start (start_sound least widths by) run.answers run.end run.run in
    let taken : sum run.end.widths + min by (gap_sum least widths) ≡ sum widths + run.end.left = end.taken in
    let P : List ℕ → Type 0 = IsShrunkSafely least widths by in
    subst P (sym run.sizes_are) (record { between = end.between; at_most = omega arith })
