-- What a priority answers that holds another one is what that one answers, so a run of the one is a run of the other.
use Rattle.std.proofs.Common.{◌≡◌, ℕ, zero, suc, ◌+◌, ◌-◌, ◌<◌, List, [], length, get_or, set, length-set, true, false, refl, sym, ◌∙◌, ap, subst, inl, inr}
use Rattle.std.specs.Prelude.{Option, Some, min}
use Rattle.std.proofs.lemmas.Bool.{cases_lt}
use Rattle.tabled_size_priority.specs.Chosen.{HoldsThen, chosen_grows, chosen_peaks, chosen_shrinks}
use Rattle.tabled_size_priority.specs.declared.chosen.PriorityChosen.{PriorityChosen}
use Rattle.tabled_size_priority.specs.declared.chosen.PriorityChosen.TheVariants.{None as GoesRound, Min as NarrowestFirst, Max as WidestFirst, Left as LeftFirst, Right as RightFirst}
use Rattle.tabled_size_priority.specs.Peaks.{narrowest_peaks, side_peaks, turn_peaks, widest_peaks}
use Rattle.tabled_size_priority.specs.Running.{Ends, Growth, GrowthEnds, Grows, IsGrownBy, IsShrunkBy, Leads, Stand, answered}
use Rattle.tabled_size_priority.specs.Running.Ends.{all_taken, hopeless, nowhere}
use Rattle.tabled_size_priority.specs.Running.GrowthEnds.{all_given, to_none}
use Rattle.tabled_size_priority.specs.Laws.Alone.{side_grown, widest_grown}
use Rattle.tabled_size_priority.specs.Laws.Levels.{widest_shrunk}
use Rattle.tabled_size_priority.specs.Laws.Order.{narrowest_shrunk, side_shrunk}
use Rattle.tabled_size_priority.specs.Laws.Raising.{narrowest_grown}
use Rattle.tabled_size_priority.specs.Laws.Runs.{answered_passes, answered_takes}
use Rattle.tabled_size_priority.specs.Laws.Turns.{turns_grown, turns_shrunk}
use Rattle.tabled_size_priority.specs.Shrinking.{gap_sum}

-- what the outer one answers is what the inner one answers to as many sizes, which it then holds
abbrev pub AnswersAsHeld : {S P : Type 0} → (S → P) → (P → List ℕ → List ℕ → Option ℕ → P → Type 0) → (S → List ℕ → List ℕ → Option ℕ → S → Type 0) → List ℕ → ℕ → Type 0
AnswersAsHeld {S} {P} kind outer inner least count =
    (before : S) (sizes : List ℕ) (answer : Option ℕ) (after : P) → length sizes ≡ count → outer (kind before) least sizes answer after → HoldsThen kind after (inner before least sizes answer)

module _ {S P : Type 0} (kind : S → P) (outer : P → List ℕ → List ℕ → Option ℕ → P → Type 0) (inner : S → List ℕ → List ℕ → Option ℕ → S → Type 0) where
  -- ---- shrinking

  abbrev held_stand : Stand S → Stand P
  held_stand stand = record { priority = kind stand.priority; widths = stand.widths; left = stand.left; fruitless = stand.fruitless }

  answered_held : (least : List ℕ) (column : ℕ) (after : S) (stand : Stand S) → answered least column (kind after) (held_stand stand) ≡ held_stand (answered least column after stand)
  answered_held least column after stand = elim (cases_lt (get_or least column 0) (get_or stand.widths column 0)) [
    | inl above ↦ answered_takes least column (kind after) (held_stand stand) above ∙ sym (ap held_stand (answered_takes least column after stand above))
    | inr low ↦ answered_passes least column (kind after) (held_stand stand) low ∙ sym (ap held_stand (answered_passes least column after stand low))
  ]

  answered_size : (least : List ℕ) (column : ℕ) (after : S) (stand : Stand S) → length (answered least column after stand).widths ≡ length stand.widths
  answered_size least column after stand = elim (cases_lt (get_or least column 0) (get_or stand.widths column 0)) [
    | inl above ↦ ap (λ (s : Stand S). length s.widths) (answered_takes least column after stand above) ∙ length-set stand.widths column (get_or stand.widths column 0 - 1)
    | inr low ↦ ap (λ (s : Stand S). length s.widths) (answered_passes least column after stand low)
  ]

  record LeadsHeld (least : List ℕ) (start : Stand S) (count n : ℕ) (now : Stand P) : Type 0 where
    pub inside : Stand S
    pub is : now ≡ held_stand inside
    pub size : length inside.widths ≡ count
    pub leads : Leads inner least start n inside

  leads_held : (least : List ℕ) (count : ℕ) → AnswersAsHeld kind outer inner least count → (start : Stand S) → length start.widths ≡ count → (n : ℕ) (now : Stand P) → Leads outer least (held_stand start) n now → LeadsHeld least start count n now
  leads_held least count answers start size zero now leads = record { inside = start; is = leads; size = size; leads = refl }
  leads_held least count answers start size (suc n) now leads =
      let so_far : LeadsHeld least start count n leads.before = leads_held least count answers start size n leads.before leads.so_far in
      let before : Stand S = so_far.inside in
      let answer = subst (λ (s : Stand P). outer s.priority least s.widths (Some leads.column) leads.after) so_far.is leads.answer in
      let then = answers before.priority before.widths (Some leads.column) leads.after so_far.size answer in
      record {
        inside = answered least leads.column then.0 before;
        is = leads.is_now ∙ ap (λ (after : P). answered least leads.column after leads.before) then.1 ∙ ap (answered least leads.column (kind then.0)) so_far.is ∙ answered_held least leads.column then.0 before;
        size = answered_size least leads.column then.0 before ∙ so_far.size;
        leads = record {
          before = before;
          so_far = so_far.leads;
          goes_on = record { some_left = subst (λ (s : Stand P). 0 < s.left) so_far.is leads.goes_on.some_left; some_hope = subst (λ (s : Stand P). s.fruitless < length s.widths) so_far.is leads.goes_on.some_hope };
          column = leads.column;
          inside = subst (λ (s : Stand P). leads.column < length s.widths) so_far.is leads.inside;
          after = then.0;
          answer = then.2;
          is_now = refl;
        };
      }

  ends_held : (least : List ℕ) (count : ℕ) → AnswersAsHeld kind outer inner least count → (now : Stand S) → length now.widths ≡ count → (after : P) → Ends outer least (held_stand now) after → HoldsThen kind after (Ends inner least now)
  ends_held least count answers now size after (all_taken none_left) = (now.priority, refl, all_taken none_left)
  ends_held least count answers now size after (hopeless no_hope) = (now.priority, refl, hopeless no_hope)
  ends_held least count answers now size after (nowhere goes_on answer end named is_nowhere) =
      let then = answers now.priority now.widths answer end size named in
      (then.0, then.1, nowhere (record { some_left = goes_on.some_left; some_hope = goes_on.some_hope }) answer then.0 then.2 is_nowhere)

  pub held_shrunk : (before : S) (least : List ℕ) (by : ℕ) (widths : List ℕ) (after : P) (sizes : List ℕ) → AnswersAsHeld kind outer inner least (length widths)
      → IsShrunkBy outer (kind before) least by widths after sizes → HoldsThen kind after (λ then. IsShrunkBy inner before least by widths then sizes)
  held_shrunk before least by widths after sizes answers run =
      let count : ℕ = length widths in
      let start : Stand S = record { priority = before; widths = widths; left = min by (gap_sum least widths); fruitless = 0 } in
      let held : LeadsHeld least start count run.answers run.end = leads_held least count answers start refl run.answers run.end run.run in
      let ended = ends_held least count answers held.inside held.size after (subst (λ (s : Stand P). Ends outer least s after) held.is run.ends) in (
        ended.0,
        ended.1,
        record { answers = run.answers; end = held.inside; run = held.leads; ends = ended.2; sizes_are = run.sizes_are ∙ ap (λ (s : Stand P). s.widths) held.is },
      )

  -- ---- growing

  abbrev held_growth : Growth S → Growth P
  held_growth growth = record { priority = kind growth.priority; widths = growth.widths; left = growth.left }

  record GrowsHeld (start : Growth S) (count n : ℕ) (now : Growth P) : Type 0 where
    pub inside : Growth S
    pub is : now ≡ held_growth inside
    pub size : length inside.widths ≡ count
    pub grows : Grows inner start n inside

  grows_held : (count : ℕ) → AnswersAsHeld kind outer inner [] count → (start : Growth S) → length start.widths ≡ count → (n : ℕ) (now : Growth P) → Grows outer (held_growth start) n now → GrowsHeld start count n now
  grows_held count answers start size zero now leads = record { inside = start; is = leads; size = size; grows = refl }
  grows_held count answers start size (suc n) now leads =
      let so_far : GrowsHeld start count n leads.before = grows_held count answers start size n leads.before leads.so_far in
      let before : Growth S = so_far.inside in
      let answer = subst (λ (s : Growth P). outer s.priority [] s.widths (Some leads.column) leads.after) so_far.is leads.answer in
      let then = answers before.priority before.widths (Some leads.column) leads.after so_far.size answer in
      let given : Growth P → P → Growth P = λ (s : Growth P) (after : P). record { priority = after; widths = set s.widths leads.column (get_or s.widths leads.column 0 + 1); left = s.left - 1 } in
      record {
        inside = record { priority = then.0; widths = set before.widths leads.column (get_or before.widths leads.column 0 + 1); left = before.left - 1 };
        is = leads.is_now ∙ ap (given leads.before) then.1 ∙ ap (λ (s : Growth P). given s (kind then.0)) so_far.is;
        size = length-set before.widths leads.column (get_or before.widths leads.column 0 + 1) ∙ so_far.size;
        grows = record {
          before = before;
          so_far = so_far.grows;
          some_left = subst (λ (s : Growth P). 0 < s.left) so_far.is leads.some_left;
          column = leads.column;
          inside = subst (λ (s : Growth P). leads.column < length s.widths) so_far.is leads.inside;
          after = then.0;
          answer = then.2;
          is_now = refl;
        };
      }

  growth_ends_held : (count : ℕ) → AnswersAsHeld kind outer inner [] count → (now : Growth S) → length now.widths ≡ count → (after : P) → GrowthEnds outer (held_growth now) after → HoldsThen kind after (GrowthEnds inner now)
  growth_ends_held count answers now size after (all_given none_left) = (now.priority, refl, all_given none_left)
  growth_ends_held count answers now size after (to_none some answer end named is_nowhere) =
      let then = answers now.priority now.widths answer end size named in
      (then.0, then.1, to_none some answer then.0 then.2 is_nowhere)

  pub held_grown : (before : S) (by : ℕ) (widths : List ℕ) (after : P) (sizes : List ℕ) → AnswersAsHeld kind outer inner [] (length widths)
      → IsGrownBy outer (kind before) by widths after sizes → HoldsThen kind after (λ then. IsGrownBy inner before by widths then sizes)
  held_grown before by widths after sizes answers run =
      let count : ℕ = length widths in
      let start : Growth S = record { priority = before; widths = widths; left = by } in
      let held : GrowsHeld start count run.answers run.end = grows_held count answers start refl run.answers run.end run.run in
      let ended = growth_ends_held count answers held.inside held.size after (subst (λ (s : Growth P). GrowthEnds outer s after) held.is run.ends) in (
        ended.0,
        ended.1,
        record { answers = run.answers; end = held.inside; run = held.grows; ends = ended.2; sizes_are = run.sizes_are ∙ ap (λ (s : Growth P). s.widths) held.is },
      )

-- ---- the priority of a name: what its answers make of widths

pub chosen_shrunk : (before : PriorityChosen) (least : List ℕ) (by : ℕ) (widths : List ℕ) (after : PriorityChosen) (sizes : List ℕ) → length least ≡ length widths
    → IsShrunkBy chosen_peaks before least by widths after sizes → chosen_shrinks before least by widths after sizes
chosen_shrunk (GoesRound next) least by widths after sizes leasts run =
    let held = held_shrunk GoesRound chosen_peaks turn_peaks next least by widths after sizes (λ _ _ _ _ _ named. named) run in
    (held.0, held.1, turns_shrunk next least by widths held.0 sizes held.2)
chosen_shrunk (NarrowestFirst side) least by widths after sizes leasts run =
    let held = held_shrunk NarrowestFirst chosen_peaks narrowest_peaks side least by widths after sizes (λ _ _ _ _ _ named. named) run in
    let shrunk = narrowest_shrunk side least by widths held.0 sizes leasts held.2 in
    (shrunk.0, held.1 ∙ ap NarrowestFirst shrunk.1)
chosen_shrunk (WidestFirst side) least by widths after sizes leasts run =
    let held = held_shrunk WidestFirst chosen_peaks widest_peaks side least by widths after sizes (λ _ _ _ _ _ named. named) run in
    let shrunk = widest_shrunk side least by widths held.0 sizes held.2 in
    (shrunk.0, held.1 ∙ ap WidestFirst shrunk.1)
chosen_shrunk (LeftFirst left) least by widths after sizes leasts run =
    let held = held_shrunk LeftFirst chosen_peaks (side_peaks false) left least by widths after sizes (λ _ _ _ _ _ named. named) run in
    (side_shrunk false left least by widths held.0 sizes held.2, held.1)
chosen_shrunk (RightFirst right) least by widths after sizes leasts run =
    let held = held_shrunk RightFirst chosen_peaks (side_peaks true) right least by widths after sizes (λ _ _ _ _ _ named. named) run in
    (side_shrunk true right least by widths held.0 sizes held.2, held.1)

pub chosen_grown : (before : PriorityChosen) (by : ℕ) (widths : List ℕ) (after : PriorityChosen) (sizes : List ℕ) → IsGrownBy chosen_peaks before by widths after sizes → chosen_grows before by widths after sizes
chosen_grown (GoesRound next) by widths after sizes run =
    let held = held_grown GoesRound chosen_peaks turn_peaks next by widths after sizes (λ _ _ _ _ _ named. named) run in
    (held.0, held.1, turns_grown next by widths held.0 sizes held.2)
chosen_grown (NarrowestFirst side) by widths after sizes run =
    let held = held_grown NarrowestFirst chosen_peaks narrowest_peaks side by widths after sizes (λ _ _ _ _ _ named. named) run in
    let grown = narrowest_grown side by widths held.0 sizes held.2 in
    (grown.0, held.1 ∙ ap NarrowestFirst grown.1)
chosen_grown (WidestFirst side) by widths after sizes run =
    let held = held_grown WidestFirst chosen_peaks widest_peaks side by widths after sizes (λ _ _ _ _ _ named. named) run in
    let grown = widest_grown side by widths held.0 sizes held.2 in
    (grown.0, held.1 ∙ ap WidestFirst grown.1)
chosen_grown (LeftFirst left) by widths after sizes run =
    let held = held_grown LeftFirst chosen_peaks (side_peaks false) left by widths after sizes (λ _ _ _ _ _ named. named) run in
    (side_grown false left by widths held.0 sizes held.2, held.1)
chosen_grown (RightFirst right) by widths after sizes run =
    let held = held_grown RightFirst chosen_peaks (side_peaks true) right by widths after sizes (λ _ _ _ _ _ named. named) run in
    (side_grown true right by widths held.0 sizes held.2, held.1)
