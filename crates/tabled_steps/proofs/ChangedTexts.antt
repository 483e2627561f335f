-- The texts of a table of which some have changed.
use Rattle.std.proofs.Common.{◌≡◌, ◌≢◌, ◌⊎◌, inl, inr, ◌<◌, ℕ, true, false, cond, ◌&&◌, ◌||◌, nat_lt, List, [], ◌∷◌, Option, None, Some, get_or, length, slice_set, unwrap_or, refl, ap, sym, subst, ◌∙◌, arith, get_or-set_other, get_or-set_same, length-set}
use Rattle.std.specs.List.{cons_option}
use Rattle.std.specs.Option.{option_map}
use Rattle.std.proofs.lemmas.Bool.{cases_eq}
use Rattle.std.proofs.lemmas.Bool.Decides.{nat_tests}
use Rattle.grid_config_values.specs.Entities.{covered_positions, covers}
use Rattle.grid_config_values.specs.declared.entity.Entity.{Entity}
use Rattle.grid_config_values.specs.declared.position.Position.{Position}
use Rattle.grid_config_values.specs.Order.{same_place}
use Rattle.grid_config_values.proofs.SpansLemmas.Order.{same_position}
use Rattle.grid_records_traits.specs.Rows.{HasCell, row_at, text_at, with_text}
use Rattle.tabled_steps.specs.Changes.{changed_rows, changes, with_all}
use Rattle.tabled_steps.specs.States.{column_count}
use Rattle.tabled_steps.proofs.Places.{among_covered, is_among}

-- ---- one text

module _ (rows : List (List (List ℕ))) (p : Position) (text : List ℕ) where
  abbrev new_row : List (List ℕ)
  new_row = slice_set (row_at rows p.row) p.col text

  same-rows : length (with_text rows p text) ≡ length rows
  same-rows = length-set rows p.row new_row

  row-there : p.row < length rows → row_at (with_text rows p text) p.row ≡ new_row
  row-there inside = get_or-set_same rows p.row new_row [] inside

  text-there : HasCell rows p → text_at (with_text rows p text) p ≡ text
  text-there inside = ap (λ row. get_or row p.col []) (row-there inside.0) ∙ get_or-set_same (row_at rows p.row) p.col text [] inside.1

  row-length : (row : ℕ) → row < length rows → length (row_at (with_text rows p text) row) ≡ length (row_at rows row)
  row-length row there = elim (cases_eq row p.row) [
    | inl same ↦
        ap (λ i. length (row_at (with_text rows p text) i)) same ∙ ap length (row-there (subst (λ i. i < length rows) same there))
        ∙ length-set (row_at rows p.row) p.col text ∙ ap (λ i. length (row_at rows i)) (sym same)
    | inr other ↦ ap length (get_or-set_other rows p.row row new_row [] other)
  ]

  module _ (q : Position) (inside : HasCell rows q) where
    still-inside : HasCell (with_text rows p text) q
    still-inside = (omega (arith, inside.0, same-rows), omega (arith, inside.1, row-length q.row inside.0))

    text-other : same_place q p ≡ false → text_at (with_text rows p text) q ≡ text_at rows q
    text-other apart = elim (cases_eq q.row p.row) [
      | inl same ↦
          let other : q.col ≢ p.col = λ e. (let no : same_place q p ≡ true = grind (arith, nat_tests, same, e) in absurd (cc (sym no ∙ apart))) in
          ap (λ i. get_or (row_at (with_text rows p text) i) q.col []) same
          ∙ ap (λ row. get_or row q.col []) (row-there (subst (λ i. i < length rows) same inside.0))
          ∙ get_or-set_other (row_at rows p.row) p.col q.col text [] other
          ∙ ap (λ i. get_or (row_at rows i) q.col []) (sym same)
      | inr other ↦ ap (λ row. get_or row q.col []) (get_or-set_other rows p.row q.row new_row [] other)
    ]

-- ---- many

module _ (change : Position → List ℕ → Option (List ℕ)) (rows : List (List (List ℕ))) (q : Position) (inside : HasCell rows q) where
  -- what becomes of the text at this place
  abbrev value : List ℕ
  value = unwrap_or (change q (text_at rows q)) (text_at rows q)

  abbrev after : List Position → List (List (List ℕ))
  after places = with_all (changes change rows places) rows

  abbrev after_first : Position → Option (List ℕ) → List Position → List (List (List ℕ))
  after_first p found places = with_all (cons_option (option_map (λ text. (p, text)) found) (changes change rows places)) rows

  first-inside : (p : Position) (found : Option (List ℕ)) (places : List Position) → HasCell (after places) q → HasCell (after_first p found places) q
  first-inside p None places is = is
  first-inside p (Some text) places is = still-inside (after places) p text q is

  after-inside : (places : List Position) → HasCell (after places) q
  after-inside [] = inside
  after-inside (p ∷ places) = first-inside p (change p (text_at rows p)) places (after-inside places)

  first-other : (p : Position) (found : Option (List ℕ)) (places : List Position) → same_place q p ≡ false → text_at (after_first p found places) q ≡ text_at (after places) q
  first-other p None places apart = refl
  first-other p (Some text) places apart = text-other (after places) p text q (after-inside places) apart

  first-here : (found : Option (List ℕ)) (places : List Position) → found ≡ change q (text_at rows q) → (text_at (after places) q ≡ text_at rows q) ⊎ (text_at (after places) q ≡ value)
      → text_at (after_first q found places) q ≡ value
  first-here None places is before =
      let same : text_at rows q ≡ value = ap (λ found. unwrap_or found (text_at rows q)) is in
      elim before [
        | inl old ↦ old ∙ same
        | inr new ↦ new
      ]
  first-here (Some text) places is before = text-there (after places) q text (after-inside places) ∙ ap (λ found. unwrap_or found (text_at rows q)) is

  old-or-new : (places : List Position) → (text_at (after places) q ≡ text_at rows q) ⊎ (text_at (after places) q ≡ value)
  old-or-new [] = inl refl
  old-or-new (p ∷ places) =
      let Told : Position → Type 0 = λ p. (text_at (after (p ∷ places)) q ≡ text_at rows q) ⊎ (text_at (after (p ∷ places)) q ≡ value) in
      elim (same_place q p) as (λ b. same_place q p ≡ b → Told p) [
        | true ↦ λ same. subst Told (same_position q p same) (inr (first-here (change q (text_at rows q)) places refl (old-or-new places)))
        | false ↦ λ apart. (let other = first-other p (change p (text_at rows p)) places apart in elim (old-or-new places) [
          | inl old ↦ inl (other ∙ old)
          | inr new ↦ inr (other ∙ new)
        ])
      ] refl

  hit : (places : List Position) → is_among q places ≡ true → text_at (after places) q ≡ value
  hit [] none = absurd (cc none)
  hit (p ∷ places) among =
      let Is : Position → Type 0 = λ p. text_at (after (p ∷ places)) q ≡ value in
      elim (same_place q p) as (λ b. same_place q p ≡ b → (b || is_among q places) ≡ true → Is p) [
        | true ↦ λ same _. subst Is (same_position q p same) (first-here (change q (text_at rows q)) places refl (old-or-new places))
        | false ↦ λ apart later. first-other p (change p (text_at rows p)) places apart ∙ hit places later
      ] refl among

  missed : (places : List Position) → is_among q places ≡ false → text_at (after places) q ≡ text_at rows q
  missed [] none = refl
  missed (p ∷ places) none =
      elim (same_place q p) as (λ b. same_place q p ≡ b → (b || is_among q places) ≡ false → text_at (after (p ∷ places)) q ≡ text_at rows q) [
        | true ↦ λ _ no. absurd (cc no)
        | false ↦ λ apart later. first-other p (change p (text_at rows p)) places apart ∙ missed places later
      ] refl none

  -- the text at a place of the table: what it becomes, where the entity covers the place
  pub text-at : (at : Entity) → q.col < column_count rows → text_at (changed_rows change at (column_count rows) rows) q ≡ cond (covers at q) value (text_at rows q)
  text-at at column =
      let places = covered_positions at (length rows) (column_count rows) in
      let there : (nat_lt q.row (length rows) && nat_lt q.col (column_count rows)) ≡ true = grind (arith, nat_tests, inside.0, column) in
      let among : is_among q places ≡ (covers at q && true) = among_covered at (length rows) (column_count rows) q ∙ ap (λ b. covers at q && b) there in
      elim (covers at q) as (λ b. is_among q places ≡ (b && true) → text_at (after places) q ≡ cond b value (text_at rows q)) [
        | true ↦ λ is. hit places is
        | false ↦ λ is. missed places is
      ] among

-- ---- as many rows, each of as many texts

module _ (change : Position → List ℕ → Option (List ℕ)) (rows : List (List (List ℕ))) where
  abbrev many_first : Position → Option (List ℕ) → List Position → List (List (List ℕ))
  many_first p found places = with_all (cons_option (option_map (λ text. (p, text)) found) (changes change rows places)) rows

  first-count : (p : Position) (found : Option (List ℕ)) (places : List Position) → length (with_all (changes change rows places) rows) ≡ length rows → length (many_first p found places) ≡ length rows
  first-count p None places later = later
  first-count p (Some text) places later = same-rows (with_all (changes change rows places) rows) p text ∙ later

  pub row-count : (places : List Position) → length (with_all (changes change rows places) rows) ≡ length rows
  row-count [] = refl
  row-count (p ∷ places) = first-count p (change p (text_at rows p)) places (row-count places)

  module _ (row : ℕ) (there : row < length rows) where
    first-texts : (p : Position) (found : Option (List ℕ)) (places : List Position) → length (row_at (with_all (changes change rows places) rows) row) ≡ length (row_at rows row)
        → length (row_at (many_first p found places) row) ≡ length (row_at rows row)
    first-texts p None places later = later
    first-texts p (Some text) places later = row-length (with_all (changes change rows places) rows) p text row (omega (arith, there, row-count places)) ∙ later

    pub text-count : (places : List Position) → length (row_at (with_all (changes change rows places) rows) row) ≡ length (row_at rows row)
    text-count [] = refl
    text-count (p ∷ places) = first-texts p (change p (text_at rows p)) places (text-count places)
