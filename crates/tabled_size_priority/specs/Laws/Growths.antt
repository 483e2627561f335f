-- What each run of answers to grow keeps, and how an invariant is carried along it.
use Rattle.std.proofs.Common.{◌≡◌, ℕ, zero, suc, ◌+◌, ◌-◌, ◌<◌, ◌≤◌, List, [], length, get_or, set, sum, refl, sym, ◌∙◌, ap, subst, arith, length-set, inl, inr}
use Rattle.std.specs.Prelude.{Option, Some, ◌⊎◌}
use Rattle.tabled_size_priority.specs.LevelRules.Moving.{NoneFalls}
use Rattle.tabled_size_priority.specs.Running.{IsNowhere, Growth, Grows, GrowthEnds, IsGrownBy}
use Rattle.tabled_size_priority.specs.Running.GrowthEnds.{all_given, to_none}
use Rattle.tabled_size_priority.specs.Laws.Lists.{sum-set, set_cases}

-- what an answer keeps
pub record IsSoundGrowth (widths : List ℕ) (by : ℕ) (sizes : List ℕ) (left : ℕ) : Type 0 where
  pub size : length sizes ≡ length widths
  pub above : (i : ℕ) → i < length widths → get_or widths i 0 ≤ get_or sizes i 0
  pub given : sum sizes + left ≡ sum widths + by

pub sound-given : (widths : List ℕ) (by : ℕ) (sizes : List ℕ) (left column : ℕ) → IsSoundGrowth widths by sizes left → column < length sizes → 0 < left
    → IsSoundGrowth widths by (set sizes column (get_or sizes column 0 + 1)) (left - 1)
sound-given widths by sizes left column sound inside some =
    let size : length sizes ≡ length widths = sound.size in
    let Above : ℕ → ℕ → Type 0 = λ (i : ℕ) (v : ℕ). i < length widths → get_or widths i 0 ≤ v in
    record {
      size = length-set sizes column (get_or sizes column 0 + 1) ∙ size;
      above = set_cases Above sizes column (get_or sizes column 0 + 1) inside (λ below. let here : get_or widths column 0 ≤ get_or sizes column 0 = sound.above column below in omega arith) (λ i other below. sound.above i below);
      given =
          let total : sum (set sizes column (get_or sizes column 0 + 1)) + get_or sizes column 0 ≡ sum sizes + (get_or sizes column 0 + 1) = sum-set sizes column (get_or sizes column 0 + 1) inside in
          let given : sum sizes + left ≡ sum widths + by = sound.given in
          omega arith;
    }

pub grows_sound : {S : Type 0} (peaks : S → List ℕ → List ℕ → Option ℕ → S → Type 0) (widths : List ℕ) (by : ℕ) (start : Growth S) → IsSoundGrowth widths by start.widths start.left
    → (n : ℕ) (now : Growth S) → Grows peaks start n now → IsSoundGrowth widths by now.widths now.left
grows_sound {S} peaks widths by start sound zero now leads = let P : Growth S → Type 0 = λ (s : Growth S). IsSoundGrowth widths by s.widths s.left in subst P (sym leads) sound
grows_sound {S} peaks widths by start sound (suc n) now leads =
    let before : IsSoundGrowth widths by leads.before.widths leads.before.left = grows_sound peaks widths by start sound n leads.before leads.so_far in
    let P : Growth S → Type 0 = λ (s : Growth S). IsSoundGrowth widths by s.widths s.left in
    subst P (sym leads.is_now) (sound-given widths by leads.before.widths leads.before.left leads.column before leads.inside leads.some_left)

pub start_sound : (widths : List ℕ) (by : ℕ) → IsSoundGrowth widths by widths by
start_sound widths by = record { size = refl; above = λ i below. omega arith; given = refl }

-- an invariant of priority and sizes that each answer keeps, where there is always a column to name
pub record KeepsGrowing {S : Type 0} (peaks : S → List ℕ → List ℕ → Option ℕ → S → Type 0) (widths : List ℕ) (Keeps : S → List ℕ → Type 0) : Type 0 where
  pub step : (before : S) (sizes : List ℕ) (column : ℕ) (after : S) → length sizes ≡ length widths → Keeps before sizes → peaks before [] sizes (Some column) after → column < length sizes
      → Keeps after (set sizes column (get_or sizes column 0 + 1))
  pub some : (before : S) (sizes : List ℕ) (answer : Option ℕ) (after : S) → length sizes ≡ length widths → Keeps before sizes → peaks before [] sizes answer after → IsNowhere (length sizes) answer → ⊥

grows-kept : {S : Type 0} (peaks : S → List ℕ → List ℕ → Option ℕ → S → Type 0) (widths : List ℕ) (by : ℕ) (Keeps : S → List ℕ → Type 0) → KeepsGrowing peaks widths Keeps
    → (start : Growth S) → IsSoundGrowth widths by start.widths start.left → Keeps start.priority start.widths → (n : ℕ) (now : Growth S) → Grows peaks start n now → Keeps now.priority now.widths
grows-kept {S} peaks widths by Keeps keeps start sound kept zero now leads = let P : Growth S → Type 0 = λ (s : Growth S). Keeps s.priority s.widths in subst P (sym leads) kept
grows-kept {S} peaks widths by Keeps keeps start sound kept (suc n) now leads =
    let before : IsSoundGrowth widths by leads.before.widths leads.before.left = grows_sound peaks widths by start sound n leads.before leads.so_far in
    let kept_before : Keeps leads.before.priority leads.before.widths = grows-kept peaks widths by Keeps keeps start sound kept n leads.before leads.so_far in
    let P : Growth S → Type 0 = λ (s : Growth S). Keeps s.priority s.widths in
    subst P (sym leads.is_now) (keeps.step leads.before.priority leads.before.widths leads.column leads.after before.size kept_before leads.answer leads.inside)

kept-ends : {S : Type 0} (peaks : S → List ℕ → List ℕ → Option ℕ → S → Type 0) (widths : List ℕ) (Keeps : S → List ℕ → Type 0) → KeepsGrowing peaks widths Keeps
    → (now : Growth S) (after : S) → length now.widths ≡ length widths → Keeps now.priority now.widths → GrowthEnds peaks now after → Keeps after now.widths × (now.left ≡ 0)
kept-ends peaks widths Keeps keeps now after size kept (all_given none_left) = (kept, none_left)
kept-ends peaks widths Keeps keeps now after size kept (to_none some answer end answered is_nowhere) = absurd (keeps.some now.priority now.widths answer end size kept answered is_nowhere)

-- what is grown keeps the invariant, and has the sum that it is to have
pub record IsGrownWell {S : Type 0} (widths : List ℕ) (by : ℕ) (Keeps : S → List ℕ → Type 0) (after : S) (sizes : List ℕ) : Type 0 where
  pub size : length sizes ≡ length widths
  pub kept : Keeps after sizes
  pub sums : sum sizes ≡ sum widths + by

pub grown_well : {S : Type 0} (peaks : S → List ℕ → List ℕ → Option ℕ → S → Type 0) (Keeps : S → List ℕ → Type 0) (before : S) (by : ℕ) (widths : List ℕ) (after : S) (sizes : List ℕ)
    → KeepsGrowing peaks widths Keeps → Keeps before widths → IsGrownBy peaks before by widths after sizes → IsGrownWell widths by Keeps after sizes
grown_well {S} peaks Keeps before by widths after sizes keeps kept run =
    let start : Growth S = record { priority = before; widths = widths; left = by } in
    let end : IsSoundGrowth widths by run.end.widths run.end.left = grows_sound peaks widths by start (start_sound widths by) run.answers run.end run.run in
    let kept_end : Keeps run.end.priority run.end.widths = grows-kept peaks widths by Keeps keeps start (start_sound widths by) kept run.answers run.end run.run in
    let ended : Keeps after run.end.widths × (run.end.left ≡ 0) = kept-ends peaks widths Keeps keeps run.end after end.size kept_end run.ends in
    let given : sum run.end.widths + run.end.left ≡ sum widths + by = end.given in
    let none_left : run.end.left ≡ 0 = ended.1 in
    let P : List ℕ → Type 0 = IsGrownWell widths by Keeps after in
    subst P (sym run.sizes_are) (record { size = end.size; kept = ended.0; sums = omega arith })

-- ---- where there is no column to name

-- the priority is not called, or names none
abbrev pub StaysAfter : {S : Type 0} → (S → List ℕ → List ℕ → Option ℕ → S → Type 0) → S → List ℕ → S → Type 0
StaysAfter peaks before widths after = (after ≡ before) ⊎ ((answer : Option ℕ) × peaks before [] widths answer after × IsNowhere (length widths) answer)

stays : {S : Type 0} (peaks : S → List ℕ → List ℕ → Option ℕ → S → Type 0) (start : Growth S)
    → ((column : ℕ) (after : S) → peaks start.priority [] start.widths (Some column) after → column < length start.widths → ⊥)
    → (n : ℕ) (now : Growth S) → Grows peaks start n now → now ≡ start
stays {S} peaks start none zero now leads = leads
stays {S} peaks start none (suc n) now leads =
    let before : leads.before ≡ start = stays peaks start none n leads.before leads.so_far in
    let P : Growth S → Type 0 = λ (s : Growth S). peaks s.priority [] s.widths (Some leads.column) leads.after in
    let Q : Growth S → Type 0 = λ (s : Growth S). leads.column < length s.widths in
    absurd (none leads.column leads.after (subst P before leads.answer) (subst Q before leads.inside))

stays-ends : {S : Type 0} (peaks : S → List ℕ → List ℕ → Option ℕ → S → Type 0) (now : Growth S) (after : S) → GrowthEnds peaks now after → StaysAfter peaks now.priority now.widths after
stays-ends peaks now after (all_given none_left) = inl refl
stays-ends peaks now after (to_none some answer end answered is_nowhere) = inr (answer, answered, is_nowhere)

pub nothing_grown : {S : Type 0} (peaks : S → List ℕ → List ℕ → Option ℕ → S → Type 0) (before : S) (by : ℕ) (widths : List ℕ) (after : S) (sizes : List ℕ)
    → ((column : ℕ) (end : S) → peaks before [] widths (Some column) end → column < length widths → ⊥)
    → IsGrownBy peaks before by widths after sizes → (sizes ≡ widths) × StaysAfter peaks before widths after
nothing_grown {S} peaks before by widths after sizes none run =
    let start : Growth S = record { priority = before; widths = widths; left = by } in
    let same : run.end ≡ start = stays peaks start none run.answers run.end run.run in
    let P : Growth S → Type 0 = λ (s : Growth S). StaysAfter peaks s.priority s.widths after in
    (run.sizes_are ∙ ap (λ (s : Growth S). s.widths) same, subst P same (stays-ends peaks run.end after run.ends))

-- ---- a priority that no answer changes

unchanged : {S : Type 0} (peaks : S → List ℕ → List ℕ → Option ℕ → S → Type 0) → ((before : S) (least sizes : List ℕ) (answer : Option ℕ) (after : S) → peaks before least sizes answer after → after ≡ before)
    → (start : Growth S) (n : ℕ) (now : Growth S) → Grows peaks start n now → now.priority ≡ start.priority
unchanged {S} peaks same start zero now leads = ap (λ (s : Growth S). s.priority) leads
unchanged {S} peaks same start (suc n) now leads =
    ap (λ (s : Growth S). s.priority) leads.is_now ∙ same leads.before.priority [] leads.before.widths (Some leads.column) leads.after leads.answer ∙ unchanged peaks same start n leads.before leads.so_far

unchanged-ends : {S : Type 0} (peaks : S → List ℕ → List ℕ → Option ℕ → S → Type 0) → ((before : S) (least sizes : List ℕ) (answer : Option ℕ) (after : S) → peaks before least sizes answer after → after ≡ before)
    → (now : Growth S) (after : S) → GrowthEnds peaks now after → after ≡ now.priority
unchanged-ends peaks same now after (all_given none_left) = refl
unchanged-ends peaks same now after (to_none some answer end answered is_nowhere) = same now.priority [] now.widths answer end answered

pub state_stays : {S : Type 0} (peaks : S → List ℕ → List ℕ → Option ℕ → S → Type 0) → ((before : S) (least sizes : List ℕ) (answer : Option ℕ) (after : S) → peaks before least sizes answer after → after ≡ before)
    → (before : S) (by : ℕ) (widths : List ℕ) (after : S) (sizes : List ℕ) → IsGrownBy peaks before by widths after sizes → after ≡ before
state_stays {S} peaks same before by widths after sizes run =
    let start : Growth S = record { priority = before; widths = widths; left = by } in
    unchanged-ends peaks same run.end after run.ends ∙ unchanged peaks same start run.answers run.end run.run

-- what each priority keeps to
pub record IsGrownSafely (widths : List ℕ) (by : ℕ) (sizes : List ℕ) : Type 0 where
  pub never_falls : NoneFalls widths sizes
  pub at_most : sum sizes ≤ sum widths + by

pub grown_safely : {S : Type 0} (peaks : S → List ℕ → List ℕ → Option ℕ → S → Type 0) (before : S) (by : ℕ) (widths : List ℕ) (after : S) (sizes : List ℕ)
    → IsGrownBy peaks before by widths after sizes → IsGrownSafely widths by sizes
grown_safely {S} peaks before by widths after sizes run =
    let start : Growth S = record { priority = before; widths = widths; left = by } in
    let end : IsSoundGrowth widths by run.end.widths run.end.left = grows_sound peaks widths by start (start_sound widths by) run.answers run.end run.run in
    let given : sum run.end.widths + run.end.left ≡ sum widths + by = end.given in
    let P : List ℕ → Type 0 = IsGrownSafely widths by in
    subst P (sym run.sizes_are) (record { never_falls = end.above; at_most = omega arith })

-- ---- growths that are at the same place

abbrev stands : {S : Type 0} → S → List ℕ → ℕ → Growth S
stands priority widths left = record { priority = priority; widths = widths; left = left }

pub same_left : {S : Type 0} (priority : S) (widths : List ℕ) (a b : ℕ) → a ≡ b → stands priority widths a ≡ stands priority widths b
same_left priority widths a b same = ap (stands priority widths) same
