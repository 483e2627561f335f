-- Two changes of texts, of which the first leaves out texts that the second sets to what they are.
-- The rows are the same after both.
use Rattle.std.proofs.Common.{◌≡◌, ℕ, suc, zero, List, [], ◌∷◌, ◌⊎◌, inl, inr, Option, None, Some, Result, Ok, Err, Bool, true, false, refl, ap, sym, subst, ◌∙◌, ◌-◌, get_or, if◌then◌else◌, length, nat_lt, slice_set}
use Rattle.std.proofs.lemmas.Bool.{cases_eq}
use Rattle.std.proofs.lemmas.List.{get_or-set_other, set-get_or}
use Rattle.std.specs.List.{cons_option}
use Rattle.std.specs.Option.{option_map}
use Rattle.grid_config_values.specs.Entities.{covered_positions}
use Rattle.grid_config_values.specs.declared.entity.Entity.TheVariants.{Global}
use Rattle.grid_config_values.specs.declared.fault.Fault.{Fault}
use Rattle.grid_config_values.specs.declared.position.Position.{Position}
use Rattle.grid_config.specs.Looks.{Look}
use Rattle.grid_records_traits.specs.Rows.{row_at, text_at, with_text}
use Rattle.tabled_steps.specs.Changes.{changes, with_all}
use Rattle.tabled_steps.specs.Outcomes.{all_sized}
use Rattle.tabled_steps.specs.States.{Outcome, State, Steps, column_count}
use Rattle.tabled_width_texts.specs.WrappedOrCut.{wrapping_each, wrapping_others}
use Rattle.tabled_width.specs.WholeTables.Rooms.{column_widths, empty_widths, in_room, text_room}
use Rattle.tabled_size_wrap.specs.Staying.{stays}
use Rattle.tabled_width.specs.WholeTables.Steps.{Measured, Then}
use Rattle.tabled_width.specs.WholeTables.Tables.{Narrows, NarrowsTable, Shrunk, Where, has_cells, keeping, narrowed_state, table_sizes}
use Rattle.tabled_width.proofs.Stepping.{may_be}
use Rattle.tabled_size_wrap.proofs.StayingTexts.{stays-is}

-- of this text the two say the same, or the first leaves out that it stays
abbrev pub Spares : Option (List ℕ) → Option (List ℕ) → List ℕ → Type 0
Spares first second text = (first ≡ second) ⊎ ((first ≡ None) × (second ≡ Some text))

-- ---- one text in rows

same_place : (p q : Position) → p.row ≡ q.row → p.col ≡ q.col → p ≡ q
same_place p q row col = ap (λ n. record { row = n; col = p.col }) row ∙ ap (λ n. record { row = q.row; col = n }) col

row_set : (rows : List (List (List ℕ))) (i col : ℕ) (text : List ℕ) → row_at (slice_set rows i (slice_set (row_at rows i) col text)) i ≡ slice_set (row_at rows i) col text
row_set [] i col text = refl
row_set (row ∷ rows) zero col text = refl
row_set (row ∷ rows) (suc i) col text = row_set rows i col text

-- a text that is set to what it is leaves the rows
set_same : (rows : List (List (List ℕ))) (p : Position) → with_text rows p (text_at rows p) ≡ rows
set_same rows p = ap (slice_set rows p.row) (set-get_or (row_at rows p.row) p.col []) ∙ set-get_or rows p.row []

-- one that is set elsewhere leaves this one
set_other : (rows : List (List (List ℕ))) (p q : Position) (text : List ℕ) → (p ≡ q → ⊥) → text_at (with_text rows q text) p ≡ text_at rows p
set_other rows p q text other =
    elim (cases_eq p.row q.row) as (λ _. text_at (with_text rows q text) p ≡ text_at rows p) [
      | inl row ↦
          let there : row_at (with_text rows q text) p.row ≡ slice_set (row_at rows q.row) q.col text = ap (row_at (with_text rows q text)) row ∙ row_set rows q.row q.col text in
          ap (λ (texts : List (List ℕ)). get_or texts p.col []) there
          ∙ get_or-set_other (row_at rows q.row) q.col p.col text [] (λ col. other (same_place p q row col))
          ∙ ap (λ n. get_or (row_at rows n) p.col []) (sym row)
      | inr rows_differ ↦ ap (λ (texts : List (List ℕ)). get_or texts p.col []) (get_or-set_other rows q.row p.row (slice_set (row_at rows q.row) q.col text) [] rows_differ)
    ]

-- ---- all texts

module _ (first second : Position → List ℕ → Option (List ℕ)) (spares : (p : Position) (text : List ℕ) → Spares (first p text) (second p text) text) (rows : List (List (List ℕ))) where
  -- of a text that is set to what it is nothing changes
  one_more : (now : List (List (List ℕ))) (p q : Position) → second p (text_at rows p) ≡ Some (text_at rows p) → ((r : Position) → r ≡ p → text_at now r ≡ text_at rows r) →
      (text : List ℕ) → second q (text_at rows q) ≡ Some text → text_at (with_text now q text) p ≡ text_at rows p
  one_more now p q same later text is =
      elim (cases_eq p.row q.row) as (λ _. text_at (with_text now q text) p ≡ text_at rows p) [
        | inl row ↦ elim (cases_eq p.col q.col) as (λ _. text_at (with_text now q text) p ≡ text_at rows p) [
          | inl col ↦
              let place : p ≡ q = same_place p q row col in
              let there : Some text ≡ Some (text_at rows q) = sym is ∙ subst (λ r. second r (text_at rows r) ≡ Some (text_at rows r)) place same in
              let known : text ≡ text_at now q = some_same text (text_at rows q) there ∙ sym (later q (sym place)) in
              ap (λ (given : List ℕ). text_at (with_text now q given) p) known ∙ ap (λ (list : List (List (List ℕ))). text_at list p) (set_same now q) ∙ later p refl
          | inr differ ↦ set_other now p q text (λ place. differ (ap (λ (r : Position). r.col) place)) ∙ later p refl
        ]
        | inr differ ↦ set_other now p q text (λ place. differ (ap (λ (r : Position). r.row) place)) ∙ later p refl
      ]
    where
      some_same : (x y : List ℕ) → Some x ≡ Some y → x ≡ y
      some_same x y is = cc is

  stays_there : (p : Position) → second p (text_at rows p) ≡ Some (text_at rows p) → (places : List Position) → text_at (with_all (changes second rows places) rows) p ≡ text_at rows p
  stays_there p same [] = refl
  stays_there p same (q ∷ places) = by (second q (text_at rows q)) refl (stays_there p same places)
    where
      by : (answer : Option (List ℕ)) → second q (text_at rows q) ≡ answer → text_at (with_all (changes second rows places) rows) p ≡ text_at rows p →
          text_at (with_all (cons_option (option_map (λ text. (q, text)) answer) (changes second rows places)) rows) p ≡ text_at rows p
      by None is later = later
      by (Some text) is later =
          one_more (with_all (changes second rows places) rows) p q same
          (λ r e. subst (λ r. text_at (with_all (changes second rows places) rows) r ≡ text_at rows r) (sym e) later) text is

  same_after : (places : List Position) → with_all (changes first rows places) rows ≡ with_all (changes second rows places) rows
  same_after [] = refl
  same_after (p ∷ places) =
      let later = same_after places in
      let now = with_all (changes second rows places) rows in
      elim (spares p (text_at rows p)) as (λ _. with_all (changes first rows (p ∷ places)) rows ≡ with_all (changes second rows (p ∷ places)) rows) [
        | inl same ↦
            ap (λ answer. with_all (cons_option (option_map (λ text. (p, text)) answer) (changes first rows places)) rows) same
            ∙ both (second p (text_at rows p)) p (changes first rows places) (changes second rows places) later
        | inr spared ↦
            ap (λ answer. with_all (cons_option (option_map (λ text. (p, text)) answer) (changes first rows places)) rows) spared.0
            ∙ later ∙ sym (ap (with_text now p) (sym (stays_there p spared.1 places)) ∙ set_same now p)
            ∙ sym (ap (λ answer. with_all (cons_option (option_map (λ text. (p, text)) answer) (changes second rows places)) rows) spared.1)
      ]
    where
      both : (answer : Option (List ℕ)) (p : Position) (some others : List (Position × List ℕ)) → with_all some rows ≡ with_all others rows →
          with_all (cons_option (option_map (λ text. (p, text)) answer) some) rows ≡ with_all (cons_option (option_map (λ text. (p, text)) answer) others) rows
      both None p some others same = same
      both (Some text) p some others same = ap (λ (list : List (List (List ℕ))). with_text list p text) same

-- ---- the steps of a table

then_too : {A : Type 0} (worked : Result A Fault) (next others : A → Outcome → Type 0) (outcome : Outcome) → ((x : A) → next x outcome → others x outcome) → Then worked next outcome → Then worked others outcome
then_too (Ok x) next others outcome leads is = leads x is
then_too (Err fault) next others outcome leads is = is

where_too : (b : Bool) (step others : State → Outcome → Type 0) (s : State) (outcome : Outcome) → (step s outcome → others s outcome) → Where b step s outcome → Where b others s outcome
where_too true step others s outcome leads is = leads is
where_too false step others s outcome leads is = is

module _ {P : Type 0} (shrinks : P → List ℕ → ℕ → List ℕ → P → List ℕ → Type 0) (priority : P) (first second : ℕ → List ℕ → Option (List ℕ))
    (spares : (width : ℕ) (text : List ℕ) → Spares (first width text) (second width text) text) where
  in_rooms : (room : Option ℕ) (text : List ℕ) → Spares (in_room first text room) (in_room second text room) text
  in_rooms None text = inl refl
  in_rooms (Some width) text = spares width text

  narrowed_too : (least widths : List ℕ) (s : State) → narrowed_state first least widths s ≡ narrowed_state second least widths s
  narrowed_too least widths s =
      ap (λ (rows : List (List (List ℕ))). record s { rows = rows; sizes = record { widths = Some widths; heights = None } })
      (same_after (λ place text. in_room first text (text_room s.look least widths place)) (λ place text. in_room second text (text_room s.look least widths place))
      (λ place text. in_rooms (text_room s.look least widths place) text) s.rows (covered_positions Global (length s.rows) (column_count s.rows)))

  shrunk_too : (widths : List ℕ) (by : ℕ) (s : State) (outcome : Outcome) → Shrunk shrinks priority first widths by s outcome → Shrunk shrinks priority second widths by s outcome
  shrunk_too widths by s outcome is =
      then_too (all_sized (empty_widths s.look (column_count s.rows) (length s.rows)))
      (λ least outcome. (left : List ℕ) × ((after : P) × shrinks priority least by widths after left) × (Ok (narrowed_state first least left s) ≡ outcome))
      (λ least outcome. (left : List ℕ) × ((after : P) × shrinks priority least by widths after left) × (Ok (narrowed_state second least left s) ≡ outcome))
      outcome (λ least it. (it.0, it.1, ap Ok (sym (narrowed_too least it.0 s)) ∙ it.2)) is

  narrows_too : (asked : ℕ) (s : State) (outcome : Outcome) → Narrows shrinks priority first asked s outcome → Narrows shrinks priority second asked s outcome
  narrows_too asked s outcome is =
      then_too (table_sizes s.look (column_count s.rows) s.rows s.sizes)
      (λ it. Where (nat_lt asked it.whole) (Shrunk shrinks priority first (column_widths (column_count s.rows) it.widths) (it.whole - asked)) (keeping it s))
      (λ it. Where (nat_lt asked it.whole) (Shrunk shrinks priority second (column_widths (column_count s.rows) it.widths) (it.whole - asked)) (keeping it s))
      outcome
      (λ it. where_too (nat_lt asked it.whole) (Shrunk shrinks priority first (column_widths (column_count s.rows) it.widths) (it.whole - asked))
      (Shrunk shrinks priority second (column_widths (column_count s.rows) it.widths) (it.whole - asked)) (keeping it s) outcome
      (shrunk_too (column_widths (column_count s.rows) it.widths) (it.whole - asked) (keeping it s) outcome)) is

  module _ (measures : ℕ → List (List (List ℕ)) → Look → Result ℕ Fault → Type 0) where
    table_too : (s : State) (outcome : Outcome) → NarrowsTable shrinks priority first measures s outcome → NarrowsTable shrinks priority second measures s outcome
    table_too s outcome =
        where_too (has_cells s) (Measured measures (Narrows shrinks priority first)) (Measured measures (Narrows shrinks priority second)) s outcome
        (λ it. (it.0, it.1, then_too it.0 (λ n. Narrows shrinks priority first n s) (λ n. Narrows shrinks priority second n s) outcome (λ n. narrows_too n s outcome) it.2))

    -- the steps of a table whose texts change by the first are those by the second
    pub narrows_table : {T : Type 0} (result : Result T Fault) (old new : State) → Steps (NarrowsTable shrinks priority first measures) result old new → Steps (NarrowsTable shrinks priority second measures) result old new
    narrows_table (Ok done) old new is = table_too old (Ok new) is
    narrows_table (Err fault) old new is =
        (is.0, may_be fault (NarrowsTable shrinks priority first measures old) (NarrowsTable shrinks priority second measures old) (table_too old) is.1)

-- ---- texts that are wrapped

-- those that stay are what they are wrapped to
pub spared : (keep_words : Bool) (width : ℕ) (text : List ℕ) → Spares (wrapping_others keep_words width text) (wrapping_each keep_words width text) text
spared keep_words width text = by (stays keep_words width text) refl
  where
    by : (b : Bool) → stays keep_words width text ≡ b → Spares (if b then None else wrapping_each keep_words width text) (wrapping_each keep_words width text) text
    by true is = inr (refl, ap Some (stays-is keep_words width text is))
    by false is = inl refl
