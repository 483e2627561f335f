-- Rows of cells as the code has them, where a cell, a row or a text of a cell's own comes.
use Rattle.std.proofs.Common.{◌≡◌, ◌∙◌, ℕ, ◌+◌, ◌-◌, ◌<◌, ◌≤◌, List, [], ◌∷◌, ◌++◌, All, ap, ap₂, arith, drop, get_or, length, map, set, subst, sym}
use Rattle.std.specs.Prelude.{slice_range}
use Rattle.std.specs.Prelude.{Err, Ok, OnErr, Result}
use Rattle.std.specs.Str.{IsCharBoundary}
use Rattle.std.proofs.lemmas.List.{drop-append-le, drop-set-lt, drop_all, length-drop, length-map, length-set, length_push, map-set, map_push, take_all}
use Rattle.std.proofs.lemmas.List.Elements.{All-push, All-set}
use Rattle.grid_config_values.specs.declared.Position.{Position}
use Rattle.grid_records_traits.specs.Rows.{HasCell}
use Rattle.grid_records_traits.specs.SingleLines.{IsSingleLine}
use Rattle.basinmug_cells.specs.Ends.{Ascend, rows_by, start_at}
use Rattle.basinmug_cells.specs.Held.{Held, held_in, row_ended, with_cell}
use Rattle.basinmug_cells.specs.Places.{IsPart, IsPlace, own_place, part_place, place_text}
use Rattle.basinmug_cells.specs.declared.place.Place.{Place}
use Rattle.basinmug_cells.proofs.Ends.{ascend-more, count-rows, end-last, end-within, row-at, rows-longer, rows-push, rows-set, start-push}
use Rattle.basinmug_cells.proofs.Parts.{part-length}
use Rattle.basinmug_cells.proofs.Places.{own-is, own-text, part-is, places-more, texts-more}

module _ (text : List ℕ) where
  -- rows that are alike
  pub same-held : (rows more : List (List (List ℕ))) (begun other : List (List ℕ)) → rows ≡ more → begun ≡ other
      → ◌≡◌ {A = Held} (record { text = text; rows = rows; begun = begun }) (record { text = text; rows = more; begun = other })
  same-held rows more begun other same too =
      ap₂ (λ (r : List (List (List ℕ))) (b : List (List ℕ)). let it : Held = record { text = text; rows = r; begun = b } in it) same too

  -- the texts of rows and of the row that isn't ended, in turn
  abbrev pub held_by : List ℕ → List (List ℕ) → Held
  held_by ends texts = record { text = text; rows = rows_by 0 ends texts; begun = drop (start_at 0 ends (length ends)) texts }

  pub by-push : (ends : List ℕ) (texts : List (List ℕ)) (more : List ℕ) → Ascend 0 ends (length texts) → held_by ends (texts ++ more ∷ []) ≡ with_cell (held_by ends texts) more
  by-push ends texts more asc =
      same-held _ _ _ _ (rows-longer 0 ends texts (more ∷ []) (λ row below. end-within 0 ends (length texts) row asc below))
      (drop-append-le (start_at 0 ends (length ends)) texts (more ∷ []) (asc.within (length ends) (omega arith)))

  pub by-end : (ends : List ℕ) (texts : List (List ℕ)) (count : ℕ) → count ≡ length texts → held_by (ends ++ count ∷ []) texts ≡ row_ended (held_by ends texts)
  by-end ends texts count all =
      let last = start_at 0 ends (length ends) in
      same-held _ _ _ _
      (rows-push 0 ends count texts ∙ ap (λ (row : List (List ℕ)). rows_by 0 ends texts ++ row ∷ []) (take_all (count - last) (drop last texts) (omega (arith, all, length-drop last texts))))
      (ap (λ n. drop n texts) (start-push 0 ends count) ∙ drop_all count texts (omega (arith, all)))

module _ (text : List ℕ) (own : List (List ℕ)) (places : List Place) (ends : List ℕ) where
  abbrev texts : List (List ℕ)
  texts = map (place_text text own) places

  abbrev Ascends : Type 0
  Ascends = Ascend 0 ends (length places)

  pub held-push : (place : Place) → Ascend 0 ends (length places) → held_in text own (places ++ place ∷ []) ends ≡ with_cell (held_in text own places ends) (place_text text own place)
  held-push place asc =
      ap (held_by text ends) (map_push (place_text text own) places place)
      ∙ by-push text ends texts (place_text text own place) (rw length-map asc)

  pub held-end : (count : ℕ) → count ≡ length places → held_in text own places (ends ++ count ∷ []) ≡ row_ended (held_in text own places ends)
  held-end count all = by-end text ends texts count (all ∙ sym (length-map places (place_text text own)))

  pub held-more : (more : List (List ℕ)) → All (IsPlace text own) places → held_in text (own ++ more) places ends ≡ held_in text own places ends
  held-more more all = ap (held_by text ends) (texts-more text own more places all)

  -- the text of a cell of a row
  pub held-set : (row col : ℕ) (place : Place) → Ascend 0 ends (length places) → row < length ends → start_at 0 ends row + col < get_or ends row 0
      → held_in text own (set places (start_at 0 ends row + col) place) ends
      ≡ record (held_in text own places ends) { rows = set (rows_by 0 ends texts) row (set (get_or (rows_by 0 ends texts) row []) col (place_text text own place)) }
  held-set row col place asc below inside =
      ap (held_by text ends) (map-set (place_text text own) places (start_at 0 ends row + col) place)
      ∙ same-held text _ _ _ _ (rows-set 0 ends (length places) texts row col (place_text text own place) asc below inside)
      (drop-set-lt (start_at 0 ends (length ends)) texts (start_at 0 ends row + col) (place_text text own place) (omega (arith, inside, end-last 0 ends (length places) row asc below)))

  -- there is a cell where the rows have one
  pub cell-there : (pos : Position) → Ascend 0 ends (length places) → HasCell (rows_by 0 ends texts) pos → (pos.row < length ends) × (start_at 0 ends pos.row + pos.col < get_or ends pos.row 0)
  cell-there pos asc has =
      let below : pos.row < length ends = omega (arith, has.0, count-rows 0 ends texts) in
      let long : length texts ≡ length places = length-map places (place_text text own) in
      let fits : get_or ends pos.row 0 ≤ length texts = omega (arith, long, end-within 0 ends (length places) pos.row asc below) in
      let row : length (get_or (rows_by 0 ends texts) pos.row []) ≡ get_or ends pos.row 0 - start_at 0 ends pos.row =
      ap (λ (of : List (List ℕ)). length of) (row-at 0 ends texts pos.row below) ∙ part-length (start_at 0 ends pos.row) (get_or ends pos.row 0) texts fits in
      (below, omega (arith, has.1, row))

  -- ---- with a cell more

  abbrev pub AreHeld : List (List ℕ) → List Place → Type 0
  AreHeld others these = All (IsPlace text others) these × Ascend 0 ends (length these)

  pub cell-pushed : (after : List Place) (place : Place) → IsPlace text own place → after ≡ places ++ place ∷ [] → AreHeld own places
      → AreHeld own after × (held_in text own after ends ≡ with_cell (held_in text own places ends) (place_text text own place))
  cell-pushed after place is items held = (
    (
      subst (All (IsPlace text own)) (sym items) (All-push (IsPlace text own) places place held.0 is),
      subst (λ (these : List Place). Ascend 0 ends (length these)) (sym items) (ascend-more 0 ends (length places) (length (places ++ place ∷ [])) (omega (arith, length_push places place)) held.1),
    ),
    ap (λ (these : List Place). held_in text own these ends) items ∙ held-push place held.1,
  )

  pub part-pushed : (after : List Place) (place : Place) (start end width : ℕ) → start ≤ end → IsPart text start (end - start) width → after ≡ places ++ place ∷ [] → place ≡ part_place start (end - start) width → AreHeld own places
      → AreHeld own after × (held_in text own after ends ≡ with_cell (held_in text own places ends) (slice_range text start end))
  part-pushed after place start end width ascend part items same held =
      let all : start + (end - start) ≡ end = omega (arith, ascend) in
      let pushed = cell-pushed after place (subst (IsPlace text own) (sym same) (part-is text own start (end - start) width part)) items held in
      (pushed.0, pushed.1 ∙ ap (with_cell (held_in text own places ends)) (ap (place_text text own) same ∙ ap (slice_range text start) all))

-- a part at these places, of the text as it is known
pub part-of : (text given : List ℕ) (start end width : ℕ) → given ≡ text → start ≤ end → IsCharBoundary given start → IsCharBoundary given end → IsSingleLine (slice_range given start end) width → IsPart text start (end - start) width
part-of text given start end width same ascend begins ends line =
    let all : end ≡ start + (end - start) = omega (arith, ascend) in
    subst (λ (of : List ℕ). IsPart of start (end - start) width) same
    (record { begins = begins; ends = subst (IsCharBoundary given) all ends; line = subst (λ n. IsSingleLine (slice_range given start n) width) all line })

module _ (text : List ℕ) (own : List (List ℕ)) (places : List Place) (ends : List ℕ) (others : List (List ℕ)) (place : Place) (bytes : List ℕ)
    (more : others ≡ own ++ bytes ∷ []) (same : place ≡ own_place (length own)) (held : All (IsPlace text own) places × Ascend 0 ends (length places)) where
  is-own : IsPlace text (own ++ bytes ∷ []) place
  is-own = subst (IsPlace text (own ++ bytes ∷ [])) (sym same) (own-is text own bytes)

  text-is : place_text text (own ++ bytes ∷ []) place ≡ bytes
  text-is = ap (place_text text (own ++ bytes ∷ [])) same ∙ own-text text own bytes

  are : All (IsPlace text (own ++ bytes ∷ [])) places
  are = places-more text own (bytes ∷ []) places held.0

  -- a text of a cell's own comes, and no cell
  pub own-came : held_in text others places ends ≡ held_in text own places ends
  own-came = ap (λ (of : List (List ℕ)). held_in text of places ends) more ∙ held-more text own places ends (bytes ∷ []) held.0

  pub still-held : All (IsPlace text others) places × Ascend 0 ends (length places)
  still-held = (subst (λ (of : List (List ℕ)). All (IsPlace text of) places) (sym more) are, held.1)

  pub came-is : IsPlace text others place
  came-is = subst (λ (of : List (List ℕ)). IsPlace text of place) (sym more) is-own

  pub came-text : place_text text others place ≡ bytes
  came-text = ap (λ (of : List (List ℕ)). place_text text of place) more ∙ text-is

  -- and a cell with it
  pub own-pushed : (after : List Place) → after ≡ places ++ place ∷ []
      → (All (IsPlace text others) after × Ascend 0 ends (length after)) × (held_in text others after ends ≡ with_cell (held_in text own places ends) bytes)
  own-pushed after items =
      let pushed = cell-pushed text others places ends after place came-is items still-held in
      (pushed.0, pushed.1 ∙ ap₂ (λ (h : Held) (t : List ℕ). with_cell h t) own-came came-text)

  -- or in place of another's
  pub own-set : (after : List Place) (row col : ℕ) → after ≡ set places (start_at 0 ends row + col) place → row < length ends → start_at 0 ends row + col < get_or ends row 0
      → (All (IsPlace text others) after × Ascend 0 ends (length after))
      × (held_in text others after ends ≡ record (held_in text own places ends) { rows = set (held_in text own places ends).rows row (set (get_or (held_in text own places ends).rows row []) col bytes) })
  own-set after row col items below inside = (
    (
      subst (All (IsPlace text others)) (sym items) (All-set (IsPlace text others) places (start_at 0 ends row + col) place came-is still-held.0),
      subst (λ (these : List Place). Ascend 0 ends (length these)) (sym items) (subst (Ascend 0 ends) (sym (length-set places (start_at 0 ends row + col) place)) held.1),
    ),
    ap (λ (these : List Place). held_in text others these ends) items
        ∙ held-set text others places ends row col place held.1 below inside
        ∙ ap₂ (λ (h : Held) (t : List ℕ). let it : Held = record h { rows = set h.rows row (set (get_or h.rows row []) col t) } in it) own-came came-text,
  )

-- whatever the error
pub on-err : {A E : Type 0} {P : Type 0} (result : Result A E) → P → OnErr result P
on-err {P = P} result p = elim result as (λ v. OnErr v P) [ Ok _ ↦ tt | Err _ ↦ p ]
