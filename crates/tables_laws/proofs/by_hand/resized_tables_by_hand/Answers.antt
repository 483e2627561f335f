-- What a table takes is computed; the priority then has one list.
use Rattle.std.specs.Fmt.{digits}
use Rattle.std.specs.Prelude.{MatchResult, nat_lt}
use Rattle.std.specs.Str.{chars}
use Rattle.std.proofs.Common.{◌≡◌, ◌∙◌, ◌∷◌, ◌<◌, ◌-◌, ◌+◌, ℕ, Bool, Err, List, None, Ok, Option, Result, Some, [], ap, arith, codes, false, refl, subst, sym, true}
use Rattle.std.proofs.Math.Utf8.{encode}
use Rattle.unicode_width.specs.Width.{alone, char_width, past_emoji, step, str_width}
use Rattle.ansi_scan.specs.Attributes.{plain_attributes}
use Rattle.ansi_scan.specs.Pieces.{at_escape, control_from, escape_from, first_pieces, leading_piece, opened, pieces, sequence_front, string_from}
use Rattle.ansi_scan.specs.Rendition.{after_parameters, applied}
use Rattle.ansi_scan.specs.StartsAndEnds.{end_bytes, end_sequences, start_bytes, start_sequences}
use Rattle.grid_config_values.specs.declared.fault.Fault.{Fault}
use Rattle.grid_records_estimate.specs.Estimates.{track_sizes}
use Rattle.grid_records_measure.specs.TextLines.{text_height, text_lines, text_width}
use Rattle.tabled_height.specs.Heights.{HeightEstimate, estimate_with, estimated}
use Rattle.tabled_height.specs.Steps.{GrownRows, LimitsTable, RaisesTable, Resizes, ShrunkRows, keeping_heights, limiting_rows}
use Rattle.tabled_list.specs.Amounts.{height_of, width_of}
use Rattle.tabled_list.specs.Priorities.{grows_so, measured_so, shrinks_so}
use Rattle.tabled_list.specs.Settings.{cutting_by}
use Rattle.tabled_list.specs.declared.amount.Amount.TheVariants.{Exact}
use Rattle.tabled_size.specs.Dimension.Stored.{Stored, none_stored}
use Rattle.tabled_size.specs.declared.dimension.suffix.SuffixLimit.{SuffixLimit}
use Rattle.tabled_size.specs.declared.dimension.suffix.SuffixLimit.TheVariants.{Cut, Replace}
use Rattle.tabled_size_priority.specs.Choices.{IsGrownByChoice, IsShrunkByChoice}
use Rattle.tabled_size_priority.specs.Growing.{IsGrownFromSide}
use Rattle.tabled_size_priority.specs.Laws.Order.{order_one}
use Rattle.tabled_size_priority.specs.LevelRules.Columns.{from_side}
use Rattle.tabled_size_priority.specs.Peaking.{InPlace, IsFirstAbove}
use Rattle.tabled_size_priority.specs.Shrinking.{IsShrunkFromSide, shrunk_sum}
use Rattle.tabled_size_priority.specs.declared.choice.Choice.TheVariants.{Left as FromLeft}
use Rattle.tabled_size_wrap.specs.Bytes.{cut_at, wrapped_text}
use Rattle.tabled_steps.specs.Outcomes.{all_sized}
use Rattle.tabled_steps.specs.Sizes.{natural_heights, natural_widths}
use Rattle.tabled_steps.specs.States.{Outcome, Settles, State, column_count, settled}
use Rattle.tabled_width.specs.Rooms.{column_widths, empty_widths}
use Rattle.tabled_width.specs.Steps.{Then}
use Rattle.tabled_width.specs.Tables.{Grown, Narrows, NarrowsTable, Shrunk, TableSizes, Where, Widens, WidensTable, keeping, narrowed_state, sizes_with, table_sizes}
use Rattle.tabled_width_texts.specs.Cutting.{truncating}
use Rattle.tables_laws.specs.Worked.Tables.{below, beside, of_one}
use Rattle.tables_laws.proofs.by_hand.resized_tables_by_hand.Goals as goal

-- ---- the first of two gets all

first-of-two : (one other : ℕ) → 0 < one → IsFirstAbove (InPlace (from_side false 2)) [] (one ∷ other ∷ []) 2 0
first-of-two one other some = record { inside = omega arith; above = some; first = λ column inside above. omega arith }

grown-first : (by one other : ℕ) (sizes : List ℕ) → 0 < one → IsGrownFromSide false by (one ∷ other ∷ []) sizes → sizes ≡ (one + by) ∷ other ∷ []
grown-first by one other sizes some grown = grown.first_gets_all 0 (first-of-two one other some)

-- ---- a width that is exact

exact : {n : ℕ} (next : ℕ → Outcome → Type 0) (size : Result ℕ Fault) (changed : Outcome) → Ok n ≡ size → Then size next changed → next n changed
exact {n} next (Ok m) changed same done = let is : n ≡ m = cc same in subst (λ (k : ℕ). next k changed) (sym is) done
exact next (Err fault) changed same done = cc same

worked-out : {A : Type 0} (next : A → Outcome → Type 0) (given : Result A Fault) (it : A) (changed : Outcome) → given ≡ Ok it → Then given next changed → next it changed
worked-out next given it changed is done = subst (λ r. Then r next changed) is done

abbrev widens-by : ℕ → State → TableSizes → Outcome → Type 0
widens-by n s it = Where (nat_lt it.whole n) (Grown (grows_so (IsGrownByChoice FromLeft)) tt (column_widths (column_count s.rows) it.widths) (n - it.whole)) (keeping it s)

abbrev two-sizes : TableSizes
two-sizes = sizes_with (3 ∷ 3 ∷ []) (1 ∷ []) 9

abbrev with-widths : List ℕ → State
with-widths widths = record (keeping two-sizes (beside (codes "a") (codes "b"))) { sizes = record { widths = Some widths; heights = Some (1 ∷ []) } }

takes-nine : table_sizes (beside (codes "a") (codes "b")).look 2 (beside (codes "a") (codes "b")).rows (beside (codes "a") (codes "b")).sizes ≡ Ok two-sizes
unfolding natural_widths natural_heights track_sizes cut_at wrapped_text text_width text_height text_lines str_width char_width alone step past_emoji pieces first_pieces leading_piece at_escape sequence_front opened control_from string_from escape_from applied after_parameters plain_attributes start_bytes start_sequences end_bytes end_sequences digits chars encode
takes-nine = refl

widened : (n : ℕ) (changed : Outcome) → WidensTable (grows_so (IsGrownByChoice FromLeft)) tt (measured_so (width_of (Exact n))) (beside (codes "a") (codes "b")) changed → widens-by n (beside (codes "a") (codes "b")) two-sizes changed
widened n changed (size, measured, sized) =
    worked-out (λ it. widens-by n (beside (codes "a") (codes "b")) it) (table_sizes (beside (codes "a") (codes "b")).look 2 (beside (codes "a") (codes "b")).rows (beside (codes "a") (codes "b")).sizes) two-sizes changed takes-nine
    (exact (λ m. Widens (grows_so (IsGrownByChoice FromLeft)) tt m (beside (codes "a") (codes "b"))) size changed measured sized)

grown-to-ten : (changed : Outcome) → widens-by 10 (beside (codes "a") (codes "b")) two-sizes changed → Ok (with-widths (4 ∷ 3 ∷ [])) ≡ changed
grown-to-ten changed (more, (after, grown), same) =
    subst (λ (widths : List ℕ). Ok (with-widths widths) ≡ changed) (grown-first 1 3 3 more (omega arith) grown) same

pub returns-clause-wider : goal.returns-clause-wider
unfolding natural_widths natural_heights track_sizes cut_at wrapped_text text_width text_height text_lines str_width char_width alone step past_emoji pieces first_pieces leading_piece at_escape sequence_front opened control_from string_from escape_from applied after_parameters plain_attributes start_bytes start_sequences end_bytes end_sequences digits chars encode
returns-clause-wider c = λ outcome (changed, taken, left). (
  with-widths (4 ∷ 3 ∷ []),
  sym (ap (settled None) (grown-to-ten changed (widened 10 changed taken)) ∙ left),
  refl,
)

pub returns-clause-wide_enough : goal.returns-clause-wide_enough
unfolding natural_widths natural_heights track_sizes cut_at wrapped_text text_width text_height text_lines str_width char_width alone step past_emoji pieces first_pieces leading_piece at_escape sequence_front opened control_from string_from escape_from applied after_parameters plain_attributes start_bytes start_sequences end_bytes end_sequences digits chars encode
returns-clause-wide_enough c = λ outcome (changed, taken, left). (
  with-widths (3 ∷ 3 ∷ []),
  sym (ap (settled None) (widened 9 changed taken) ∙ left),
  refl,
)

abbrev sizes-of : Outcome → Stored
sizes-of (Ok s) = s.sizes
sizes-of (Err fault) = none_stored

pub returns-clause-sizes : goal.returns-clause-sizes
returns-clause-sizes c = λ s (changed, taken, left). sym (ap sizes-of (ap (settled None) (widened 9 changed taken) ∙ left))

-- ---- a height that is exact

exact-height : {n : ℕ} (next : ℕ → Outcome → Type 0) (size : Result ℕ Fault) (changed : Outcome) → Ok n ≡ size → MatchResult size (λ m. next m changed) (λ fault. Err fault ≡ changed) → next n changed
exact-height {n} next (Ok m) changed same done = let is : n ≡ m = cc same in subst (λ (k : ℕ). next k changed) (sym is) done
exact-height next (Err fault) changed same done = cc same

resized : (finds : HeightEstimate → Option (List ℕ) → Type 0) (change : Option (List ℕ) → State → State) (s : State) (estimate : HeightEstimate) (changed : Outcome)
    → estimated s.look (column_count s.rows) s.rows ≡ Ok estimate → Resizes finds change s changed → (sizes : Option (List ℕ)) × finds estimate sizes × (Ok (change sizes s) ≡ changed)
resized finds change s estimate changed is done =
    subst (λ (r : Result HeightEstimate Fault). MatchResult r (λ found. (sizes : Option (List ℕ)) × finds found sizes × (Ok (change sizes s) ≡ changed)) (λ fault. Err fault ≡ changed)) is done

abbrev two-rows : State
two-rows = below (codes "a") (codes "b")

five-lines : estimated two-rows.look 1 two-rows.rows ≡ Ok (estimate_with (1 ∷ 1 ∷ []) 5)
unfolding natural_widths natural_heights track_sizes cut_at wrapped_text text_width text_height text_lines str_width char_width alone step past_emoji pieces first_pieces leading_piece at_escape sequence_front opened control_from string_from escape_from applied after_parameters plain_attributes start_bytes start_sequences end_bytes end_sequences digits chars encode
five-lines = refl

raised-to-six : (changed : Outcome) → (sizes : Option (List ℕ)) × GrownRows (grows_so (IsGrownByChoice FromLeft)) tt 6 (estimate_with (1 ∷ 1 ∷ []) 5) sizes × (Ok (keeping_heights sizes two-rows) ≡ changed)
    → Ok (keeping_heights (Some (2 ∷ 1 ∷ [])) two-rows) ≡ changed
raised-to-six changed (None, enough, same) = absurd (omega (arith, enough))
raised-to-six changed (Some heights, (less, after, grown), same) =
    subst (λ (list : List ℕ). Ok (keeping_heights (Some list) two-rows) ≡ changed) (grown-first 1 1 1 heights (omega arith) grown) same

raised : (changed : Outcome) → RaisesTable (measured_so (height_of (Exact 6))) (grows_so (IsGrownByChoice FromLeft)) tt two-rows changed → Ok (keeping_heights (Some (2 ∷ 1 ∷ [])) two-rows) ≡ changed
raised changed taken =
    let (height, measured, done) = taken.with_cells refl in
    raised-to-six changed
    (resized (GrownRows (grows_so (IsGrownByChoice FromLeft)) tt 6) keeping_heights two-rows (estimate_with (1 ∷ 1 ∷ []) 5) changed five-lines
    (exact-height (λ n. Resizes (GrownRows (grows_so (IsGrownByChoice FromLeft)) tt n) keeping_heights two-rows) height changed measured done))

pub returns-clause-higher : goal.returns-clause-higher
unfolding natural_widths natural_heights track_sizes cut_at wrapped_text text_width text_height text_lines str_width char_width alone step past_emoji pieces first_pieces leading_piece at_escape sequence_front opened control_from string_from escape_from applied after_parameters plain_attributes start_bytes start_sequences end_bytes end_sequences digits chars encode
returns-clause-higher c = λ outcome (changed, taken, left). (keeping_heights (Some (2 ∷ 1 ∷ [])) two-rows, sym (ap (settled None) (raised changed taken) ∙ left), refl)

-- ---- the first gives all that is too much

shrunk-first : (sizes : List ℕ) → IsShrunkFromSide false (0 ∷ 0 ∷ []) 2 (3 ∷ 2 ∷ []) sizes → sizes ≡ 1 ∷ 2 ∷ []
shrunk-first sizes shrunk =
    order_one (from_side false 2) (0 ∷ 0 ∷ []) (3 ∷ 2 ∷ []) (shrunk_sum (0 ∷ 0 ∷ []) (3 ∷ 2 ∷ []) 2) sizes (1 ∷ 2 ∷ []) shrunk (record { number = 2; column = 0; formed = refl; sums = refl })

abbrev five-texts : State
five-texts = below (codes "a\nb\nc") (codes "d\ne")

eight-lines : estimated five-texts.look 1 five-texts.rows ≡ Ok (estimate_with (3 ∷ 2 ∷ []) 8)
unfolding natural_widths natural_heights track_sizes cut_at wrapped_text text_width text_height text_lines str_width char_width alone step past_emoji pieces first_pieces leading_piece at_escape sequence_front opened control_from string_from escape_from applied after_parameters plain_attributes start_bytes start_sequences end_bytes end_sequences digits chars encode
eight-lines = refl

limited-to-six : (changed : Outcome) → (sizes : Option (List ℕ)) × ShrunkRows (shrinks_so (IsShrunkByChoice FromLeft)) tt 6 (estimate_with (3 ∷ 2 ∷ []) 8) sizes × (Ok (limiting_rows sizes five-texts) ≡ changed)
    → Ok (limiting_rows (Some (1 ∷ 2 ∷ [])) five-texts) ≡ changed
limited-to-six changed (None, enough, same) = absurd (omega (arith, enough))
limited-to-six changed (Some heights, (less, after, shrunk), same) =
    subst (λ (list : List ℕ). Ok (limiting_rows (Some list) five-texts) ≡ changed) (shrunk-first heights shrunk) same

limited : (changed : Outcome) → LimitsTable (measured_so (height_of (Exact 6))) (shrinks_so (IsShrunkByChoice FromLeft)) tt five-texts changed → Ok (limiting_rows (Some (1 ∷ 2 ∷ [])) five-texts) ≡ changed
limited changed taken =
    let (height, measured, done) = taken.with_cells refl in
    limited-to-six changed
    (resized (ShrunkRows (shrinks_so (IsShrunkByChoice FromLeft)) tt 6) limiting_rows five-texts (estimate_with (3 ∷ 2 ∷ []) 8) changed eight-lines
    (exact-height (λ n. Resizes (ShrunkRows (shrinks_so (IsShrunkByChoice FromLeft)) tt n) limiting_rows five-texts) height changed measured done))

pub returns-clause-lower : goal.returns-clause-lower
unfolding natural_widths natural_heights track_sizes cut_at wrapped_text text_width text_height text_lines str_width char_width alone step past_emoji pieces first_pieces leading_piece at_escape sequence_front opened control_from string_from escape_from applied after_parameters plain_attributes start_bytes start_sequences end_bytes end_sequences digits chars encode
returns-clause-lower c = λ outcome (changed, taken, left). (limiting_rows (Some (1 ∷ 2 ∷ [])) five-texts, sym (ap (settled None) (limited changed taken) ∙ left), refl)

-- ---- the only column gives what is too much, and its text is cut

only-shrunk : (sizes : List ℕ) → IsShrunkFromSide false (2 ∷ []) 1 (5 ∷ []) sizes → sizes ≡ 4 ∷ []
only-shrunk sizes shrunk =
    order_one (from_side false 1) (2 ∷ []) (5 ∷ []) (shrunk_sum (2 ∷ []) (5 ∷ []) 1) sizes (4 ∷ []) shrunk (record { number = 1; column = 0; formed = refl; sums = refl })

abbrev seven : TableSizes
seven = sizes_with (5 ∷ []) (1 ∷ []) 7

abbrev shrinks-by : (ℕ → List ℕ → Option (List ℕ)) → List ℕ → ℕ → State → Outcome → Type 0
shrinks-by change = Shrunk (shrinks_so (IsShrunkByChoice FromLeft)) tt change

abbrev narrows-by : (ℕ → List ℕ → Option (List ℕ)) → ℕ → State → TableSizes → Outcome → Type 0
narrows-by change n s it = Where (nat_lt n it.whole) (shrinks-by change (column_widths (column_count s.rows) it.widths) (it.whole - n)) (keeping it s)

abbrev cut-in-four : (ℕ → List ℕ → Option (List ℕ)) → List ℕ → State
cut-in-four change text = narrowed_state change (2 ∷ []) (4 ∷ []) (keeping seven (of_one text))

module _ (change : ℕ → List ℕ → Option (List ℕ)) (text : List ℕ) (takes : table_sizes (of_one text).look 1 (of_one text).rows (of_one text).sizes ≡ Ok seven)
    (leaves : all_sized (empty_widths (of_one text).look 1 1) ≡ Ok (2 ∷ [])) where
  narrowed : (n : ℕ) (changed : Outcome) → NarrowsTable (shrinks_so (IsShrunkByChoice FromLeft)) tt change (measured_so (width_of (Exact n))) (of_one text) changed → narrows-by change n (of_one text) seven changed
  narrowed n changed (size, measured, sized) =
      worked-out (λ it. narrows-by change n (of_one text) it) (table_sizes (of_one text).look 1 (of_one text).rows (of_one text).sizes) seven changed takes
      (exact (λ m. Narrows (shrinks_so (IsShrunkByChoice FromLeft)) tt change m (of_one text)) size changed measured sized)

  cut-to-six : (changed : Outcome) → narrows-by change 6 (of_one text) seven changed → Ok (cut-in-four change text) ≡ changed
  cut-to-six changed shrunk =
      let (left, (after, gave), same) =
      worked-out (λ (least : List ℕ) outcome. (left : List ℕ) × ((after : Unit {0}) × shrinks_so (IsShrunkByChoice FromLeft) tt least 1 (5 ∷ []) after left) × (Ok (narrowed_state change least left (keeping seven (of_one text))) ≡ outcome))
      (all_sized (empty_widths (of_one text).look 1 1)) (2 ∷ []) changed leaves shrunk in
      subst (λ (widths : List ℕ). Ok (narrowed_state change (2 ∷ []) widths (keeping seven (of_one text))) ≡ changed) (only-shrunk left gave) same

  cut-outcome : (outcome : Outcome) → Settles None (NarrowsTable (shrinks_so (IsShrunkByChoice FromLeft)) tt change (measured_so (width_of (Exact 6)))) (of_one text) outcome
      → outcome ≡ settled None (Ok (cut-in-four change text))
  cut-outcome outcome (changed, taken, left) = sym (ap (settled None) (cut-to-six changed (narrowed 6 changed taken)) ∙ left)

abbrev cut-by : SuffixLimit → Bool → Bool → List ℕ → ℕ → List ℕ → Option (List ℕ)
cut-by limit multiline try_color suffix = truncating (cutting_by suffix limit multiline try_color)

abbrev CutBySix : (List ℕ → ℕ → List ℕ → Option (List ℕ)) → State → Outcome → List ℕ → Type 0
CutBySix change s outcome suffix = Settles None (NarrowsTable (shrinks_so (IsShrunkByChoice FromLeft)) tt (change suffix) (measured_so (width_of (Exact 6)))) s outcome

red-takes : table_sizes (of_one (codes "\u{1b}[31mabc\u{1b}[0m")).look 1 (of_one (codes "\u{1b}[31mabc\u{1b}[0m")).rows (of_one (codes "\u{1b}[31mabc\u{1b}[0m")).sizes ≡ Ok seven
unfolding natural_widths natural_heights track_sizes cut_at wrapped_text text_width text_height text_lines str_width char_width alone step past_emoji pieces first_pieces leading_piece at_escape sequence_front opened control_from string_from escape_from applied after_parameters plain_attributes start_bytes start_sequences end_bytes end_sequences digits chars encode
red-takes = refl

plain-takes : table_sizes (of_one (codes "abc")).look 1 (of_one (codes "abc")).rows (of_one (codes "abc")).sizes ≡ Ok seven
unfolding natural_widths natural_heights track_sizes cut_at wrapped_text text_width text_height text_lines str_width char_width alone step past_emoji pieces first_pieces leading_piece at_escape sequence_front opened control_from string_from escape_from applied after_parameters plain_attributes start_bytes start_sequences end_bytes end_sequences digits chars encode
plain-takes = refl

pub returns-clause-in_its_style : goal.returns-clause-in_its_style
unfolding natural_widths natural_heights track_sizes cut_at wrapped_text text_width text_height text_lines str_width char_width alone step past_emoji pieces first_pieces leading_piece at_escape sequence_front opened control_from string_from escape_from applied after_parameters plain_attributes start_bytes start_sequences end_bytes end_sequences digits chars encode
returns-clause-in_its_style c = λ suffix is outcome taken. (
  cut-in-four (cut-by Cut false true (codes ".")) (codes "\u{1b}[31mabc\u{1b}[0m"),
  cut-outcome (cut-by Cut false true (codes ".")) (codes "\u{1b}[31mabc\u{1b}[0m") red-takes refl outcome
      (subst (CutBySix (cut-by Cut false true) (of_one (codes "\u{1b}[31mabc\u{1b}[0m")) outcome) is taken),
  refl,
)

pub returns-clause-replaced : goal.returns-clause-replaced
unfolding natural_widths natural_heights track_sizes cut_at wrapped_text text_width text_height text_lines str_width char_width alone step past_emoji pieces first_pieces leading_piece at_escape sequence_front opened control_from string_from escape_from applied after_parameters plain_attributes start_bytes start_sequences end_bytes end_sequences digits chars encode
returns-clause-replaced c = λ suffix is outcome taken. (
  cut-in-four (cut-by (Replace 0x23) true false (codes "..")) (codes "abc"),
  cut-outcome (cut-by (Replace 0x23) true false (codes "..")) (codes "abc") plain-takes refl outcome
      (subst (CutBySix (cut-by (Replace 0x23) true false) (of_one (codes "abc")) outcome) is taken),
  refl,
)
