-- Rows of cells as the code has them, where rows are removed, or a row comes, or columns are chosen.
use Rattle.std.proofs.Common.{◌≡◌, ◌∙◌, ℕ, zero, suc, ◌+◌, ◌-◌, ◌≤◌, All, List, [], ◌∷◌, ◌++◌, ap, ap₂, arith, cond, drop, inl, inr, length, map, min, refl, replicate, subst, sym, take}
use Rattle.std.specs.Prelude.{Option}
use Rattle.std.proofs.lemmas.Bool.{cases_lt}
use Rattle.std.proofs.lemmas.List.{append-nil, drop-drop, drop-map, drop_all, length-append, length-drop, length-map, length-replicate, length-take, map-append, take-map, take_all, take_min}
use Rattle.std.proofs.lemmas.List.Elements.{All-append, All-drop, All-replicate, All-take}
use Rattle.basinmug_cells.specs.Ends.{Ascend, rows_by, start_at}
use Rattle.basinmug_cells.specs.Held.{Held, first_and_last, held, held_in, owned, renumbered}
use Rattle.basinmug_cells.specs.Places.{IsPlace, own_place, place_text}
use Rattle.basinmug_cells.specs.Selecting.{selected, selected_place}
use Rattle.basinmug_cells.specs.declared.place.Place.{Place}
use Rattle.basinmug_cells.proofs.Ends.{rows-map, start-up}
use Rattle.basinmug_cells.proofs.Held.{came-is, came-text, held_by, own-came, same-held, still-held}
use Rattle.basinmug_cells.proofs.Kept.{places-renumbered, texts-renumbered}
use Rattle.basinmug_cells.proofs.Numbers.{lowered}
use Rattle.basinmug_cells.proofs.Places.{place-more, text-more}
use Rattle.basinmug_cells.proofs.Selected.{rows-selected}
use Rattle.basinmug_cells.proofs.Splices.{ascend-fewer, ascend-more-row, rest-fewer, rest-more, rows-fewer, rows-more}

map-replicate : {X Y : Type 0} (f : X → Y) (n : ℕ) (x : X) → map f (replicate n x) ≡ replicate n (f x)
map-replicate f zero x = refl
map-replicate {Y = Y} f (suc n) x = ap (λ (ys : List Y). f x ∷ ys) (map-replicate f n x)

pub numbered-long : (n : ℕ) (places : List Place) → length (renumbered n places) ≡ length places
numbered-long n [] = refl
numbered-long n (place ∷ places) = ap suc (numbered-long (cond place.is_own (n + 1) n) places)

module _ (text : List ℕ) (own : List (List ℕ)) (places : List Place) (ends : List ℕ) (all : All (IsPlace text own) places × Ascend 0 ends (length places)) where
  abbrev of : Place → List ℕ
  of = place_text text own

  abbrev texts : List (List ℕ)
  texts = map (place_text text own) places

  asc-texts : Ascend 0 ends (length texts)
  asc-texts = subst (Ascend 0 ends) (sym (length-map places (place_text text own))) all.1

  -- rows that are removed
  module _ (row to : ℕ) (f : ℕ → ℕ) (up : row ≤ to) (there : to ≤ length ends)
      (at : (k : ℕ) → start_at 0 ends to ≤ k → f k ≡ start_at 0 ends row + (k - start_at 0 ends to)) (mono : (s e : ℕ) → s ≤ e → f s ≤ f e) where
    abbrev from : ℕ
    from = start_at 0 ends row

    abbrev end : ℕ
    end = start_at 0 ends to

    pub held-fewer : held_in text own (take from places ++ drop end places) (take row ends ++ map f (drop to ends))
        ≡ record (held_in text own places ends) { rows = take row (rows_by 0 ends texts) ++ drop to (rows_by 0 ends texts) }
    held-fewer =
        ap (held_by text (take row ends ++ map f (drop to ends)))
        (map-append of (take from places) (drop end places) ∙ ap₂ (λ (a b : List (List ℕ)). a ++ b) (sym (take-map of from places)) (sym (drop-map of end places)))
        ∙ same-held text _ _ _ _ (rows-fewer texts ends row to f asc-texts up there at mono) (rest-fewer texts ends row to f asc-texts up there at mono)

    pub are-fewer : All (IsPlace text own) (take from places ++ drop end places) × Ascend 0 (take row ends ++ map f (drop to ends)) (length (take from places ++ drop end places))
    are-fewer = (
      All-append (IsPlace text own) (take from places) (drop end places) (All-take (IsPlace text own) from places all.0) (All-drop (IsPlace text own) end places all.0),
      ascend-fewer places ends row to f all.1 up there at mono,
    )

  -- a row that comes, of so many cells of one text
  module _ (row columns : ℕ) (place : Place) (bytes : List ℕ) (f : ℕ → ℕ) (there : row ≤ length ends) (is : IsPlace text own place) (same : place_text text own place ≡ bytes)
      (at : (k : ℕ) → start_at 0 ends row ≤ k → f k ≡ k + columns) (mono : (s e : ℕ) → s ≤ e → f s ≤ f e) where
    abbrev begin : ℕ
    begin = start_at 0 ends row

    cells-are : map (place_text text own) (replicate columns place) ≡ replicate columns bytes
    cells-are = map-replicate (place_text text own) columns place ∙ ap (replicate columns) same

    many : length (replicate columns bytes) ≡ columns
    many = length-replicate columns bytes

    many-places : length (replicate columns place) ≡ columns
    many-places = length-replicate columns place

    at-texts : (k : ℕ) → start_at 0 ends row ≤ k → f k ≡ k + length (replicate columns bytes)
    at-texts k past = omega (arith, at k past, many)

    at-places : (k : ℕ) → start_at 0 ends row ≤ k → f k ≡ k + length (replicate columns place)
    at-places k past = omega (arith, at k past, many-places)

    abbrev ends_then : List ℕ
    ends_then = take row ends ++ (start_at 0 ends row + columns) ∷ map f (drop row ends)

    pub held-more-row : held_in text own (take begin places ++ replicate columns place ++ drop begin places) ends_then
        ≡ record (held_in text own places ends) { rows = take row (rows_by 0 ends texts) ++ replicate columns bytes ∷ drop row (rows_by 0 ends texts) }
    held-more-row =
        ap (held_by text ends_then)
        (map-append of (take begin places ++ replicate columns place) (drop begin places)
        ∙ ap₂ (λ (a b : List (List ℕ)). a ++ b)
        (map-append of (take begin places) (replicate columns place) ∙ ap₂ (λ (a b : List (List ℕ)). a ++ b) (sym (take-map of begin places)) cells-are)
        (sym (drop-map of begin places)))
        ∙ same-held text _ _ _ _
        (ap (λ n. rows_by 0 (take row ends ++ (start_at 0 ends row + n) ∷ map f (drop row ends)) (take begin texts ++ replicate columns bytes ++ drop begin texts)) (sym many)
        ∙ rows-more texts (replicate columns bytes) ends row f asc-texts there at-texts mono)
        (ap (λ n. drop (start_at 0 (take row ends ++ (start_at 0 ends row + n) ∷ map f (drop row ends)) (length (take row ends ++ (start_at 0 ends row + n) ∷ map f (drop row ends)))) (take begin texts ++ replicate columns bytes ++ drop begin texts)) (sym many)
        ∙ rest-more texts (replicate columns bytes) ends row f asc-texts there at-texts mono)

    pub are-more : All (IsPlace text own) (take begin places ++ replicate columns place ++ drop begin places) × Ascend 0 ends_then (length (take begin places ++ replicate columns place ++ drop begin places))
    are-more = (
      All-append (IsPlace text own) (take begin places ++ replicate columns place) (drop begin places)
          (All-append (IsPlace text own) (take begin places) (replicate columns place) (All-take (IsPlace text own) begin places all.0) (All-replicate (IsPlace text own) columns place is))
          (All-drop (IsPlace text own) begin places all.0),
      subst (λ n. Ascend 0 (take row ends ++ (start_at 0 ends row + n) ∷ map f (drop row ends)) (length (take begin places ++ replicate columns place ++ drop begin places))) many-places
          (ascend-more-row places (replicate columns place) ends row f all.1 there at-places mono),
    )

  -- as the code removes rows
  pub removed : (row to begin end : ℕ) (after : List Place) (less now : List ℕ) → row ≤ to → to ≤ length ends → begin ≡ start_at 0 ends row → end ≡ start_at 0 ends to
      → after ≡ take begin places ++ drop end places → less ≡ take row ends ++ drop to ends → now ≡ take row less ++ map (λ n. n - (end - begin)) (drop row less)
      → (All (IsPlace text own) after × Ascend 0 now (length after)) × (held_in text own after now ≡ record (held_in text own places ends) { rows = take row (rows_by 0 ends texts) ++ drop to (rows_by 0 ends texts) })
  removed row to begin end after less now up there first last items gone is =
      let least : begin ≤ end = omega (arith, first, last, start-up 0 ends (length places) row to all.1 up there) in
      let at : (k : ℕ) → start_at 0 ends to ≤ k → k - (end - begin) ≡ start_at 0 ends row + (k - start_at 0 ends to) = λ k past. omega (arith, first, last, least, past) in
      let mono : (s e : ℕ) → s ≤ e → s - (end - begin) ≤ e - (end - begin) = λ s e less. omega (arith, less) in
      let ends_are : now ≡ take row ends ++ map (λ n. n - (end - begin)) (drop to ends) = lowered (λ n. n - (end - begin)) ends less now row to (omega (arith, up, there)) gone is in
      let cells_are : after ≡ take (start_at 0 ends row) places ++ drop (start_at 0 ends to) places = items ∙ ap₂ (λ (m n : ℕ). take m places ++ drop n places) first last in (
        subst (λ (these : List Place). All (IsPlace text own) these × Ascend 0 now (length these)) (sym cells_are)
            (subst (λ (these : List ℕ). All (IsPlace text own) (take (start_at 0 ends row) places ++ drop (start_at 0 ends to) places) × Ascend 0 these (length (take (start_at 0 ends row) places ++ drop (start_at 0 ends to) places))) (sym ends_are)
            (are-fewer row to (λ n. n - (end - begin)) up there at mono)),
        ap₂ (λ (ps : List Place) (es : List ℕ). held_in text own ps es) cells_are ends_are ∙ held-fewer row to (λ n. n - (end - begin)) up there at mono,
      )

  -- and as a row comes
  pub inserted : (row columns begin : ℕ) (place : Place) (bytes : List ℕ) (after : List Place) (now : List ℕ) → row ≤ length ends → IsPlace text own place → place_text text own place ≡ bytes → begin ≡ start_at 0 ends row
      → after ≡ take begin places ++ replicate columns place ++ drop begin places → now ≡ take row ends ++ (begin + columns) ∷ map (λ n. n + columns) (drop row ends)
      → (All (IsPlace text own) after × Ascend 0 now (length after))
      × (held_in text own after now ≡ record (held_in text own places ends) { rows = take row (rows_by 0 ends texts) ++ replicate columns bytes ∷ drop row (rows_by 0 ends texts) })
  inserted row columns begin place bytes after now there is same first items ends_is =
      let at : (k : ℕ) → start_at 0 ends row ≤ k → k + columns ≡ k + columns = λ k past. refl in
      let mono : (s e : ℕ) → s ≤ e → s + columns ≤ e + columns = λ s e less. omega (arith, less) in
      let ends_are : now ≡ take row ends ++ (start_at 0 ends row + columns) ∷ map (λ n. n + columns) (drop row ends) = ends_is ∙ ap (λ (n : ℕ). take row ends ++ (n + columns) ∷ map (λ m. m + columns) (drop row ends)) first in
      let cells : List Place = take (start_at 0 ends row) places ++ replicate columns place ++ drop (start_at 0 ends row) places in
      let cells_are : after ≡ cells = items ∙ ap (λ (n : ℕ). take n places ++ replicate columns place ++ drop n places) first in (
        subst (λ (these : List Place). All (IsPlace text own) these × Ascend 0 now (length these)) (sym cells_are)
            (subst (λ (these : List ℕ). All (IsPlace text own) cells × Ascend 0 these (length cells)) (sym ends_are)
            (are-more row columns place bytes (λ n. n + columns) there is same at mono)),
        ap₂ (λ (ps : List Place) (es : List ℕ). held_in text own ps es) cells_are ends_are ∙ held-more-row row columns place bytes (λ n. n + columns) there is same at mono,
      )

  -- the texts of cells' own that are kept
  pub held-kept : held_in text (owned places own) (renumbered 0 places) ends ≡ held_in text own places ends
  held-kept = ap (held_by text ends) (texts-renumbered text own [] places)

  pub are-kept : All (IsPlace text (owned places own)) (renumbered 0 places) × Ascend 0 ends (length (renumbered 0 places))
  are-kept = (places-renumbered text own [] places all.0, subst (Ascend 0 ends) (sym (numbered-long 0 places)) all.1)

  -- columns that are chosen
  pub held-selected : (columns : List (Option ℕ)) (mark empty : Place) (chosen : List Place) (chosen_ends : List ℕ) (bytes : List ℕ) → place_text text own mark ≡ bytes → place_text text own empty ≡ []
      → rows_by 0 chosen_ends chosen ≡ map (λ row. map (selected_place row mark empty) columns) (rows_by 0 ends places)
      → start_at 0 chosen_ends (length chosen_ends) ≡ length chosen
      → held_in text own chosen chosen_ends ≡ held text (map (selected columns bytes) (held_in text own places ends).rows)
  held-selected columns mark empty chosen chosen_ends bytes same none rows last =
      same-held text _ _ _ _
      (rows-map of 0 chosen_ends chosen
      ∙ ap (map (map of)) rows
      ∙ rows-selected text own mark empty none columns (rows_by 0 ends places)
      ∙ ap₂ (λ (m : List ℕ) (rs : List (List (List ℕ))). map (selected columns m) rs) same (sym (rows-map of 0 ends places)))
      (ap (λ n. drop n (map of chosen)) last ∙ drop_all (length chosen) (map of chosen) (omega (arith, length-map chosen of)))

module _ (text : List ℕ) (own : List (List ℕ)) (places : List Place) (ends : List ℕ) (all : All (IsPlace text own) places × Ascend 0 ends (length places)) where
  -- a row of the text of a cell's own that comes with it
  pub row-came : (others : List (List ℕ)) (place : Place) (bytes : List ℕ) → others ≡ own ++ bytes ∷ [] → place ≡ own_place (length own)
      → (row columns begin : ℕ) (after : List Place) (now : List ℕ) → row ≤ length ends → begin ≡ start_at 0 ends row
      → after ≡ take begin places ++ replicate columns place ++ drop begin places → now ≡ take row ends ++ (begin + columns) ∷ map (λ n. n + columns) (drop row ends)
      → (All (IsPlace text others) after × Ascend 0 now (length after))
      × (held_in text others after now ≡ record (held_in text own places ends) { rows = take row (held_in text own places ends).rows ++ replicate columns bytes ∷ drop row (held_in text own places ends).rows })
  row-came others place bytes more same row columns begin after now there first items ends_is =
      let come = inserted text others places ends (still-held text own places ends others place bytes more same all) row columns begin place bytes after now there
      (came-is text own places ends others place bytes more same all) (came-text text own places ends others place bytes more same all) first items ends_is in (
        come.0,
        come.1 ∙ ap (λ (h : Held). let it : Held = record h { rows = take row h.rows ++ replicate columns bytes ∷ drop row h.rows } in it) (own-came text own places ends others place bytes more same all),
      )

  -- columns that are chosen, with the text of the mark and an empty one
  pub chosen-are : (marked others : List (List ℕ)) (mark empty : Place) (bytes : List ℕ) → marked ≡ own ++ bytes ∷ [] → mark ≡ own_place (length own) → others ≡ marked ++ [] ∷ [] → empty ≡ own_place (length marked)
      → (columns : List (Option ℕ)) (chosen : List Place) (chosen_ends : List ℕ)
      → rows_by 0 chosen_ends chosen ≡ map (λ row. map (selected_place row mark empty) columns) (rows_by 0 ends places)
      → start_at 0 chosen_ends (length chosen_ends) ≡ length chosen → Ascend 0 chosen_ends (length chosen)
      → ((of : List ℕ) (texts : List (List ℕ)) → All (IsPlace of texts) places → IsPlace of texts mark → IsPlace of texts empty → All (IsPlace of texts) chosen)
      → (All (IsPlace text others) chosen × Ascend 0 chosen_ends (length chosen))
      × (held_in text others chosen chosen_ends ≡ held text (map (selected columns bytes) (held_in text own places ends).rows))
  chosen-are marked others mark empty bytes more same more2 same2 columns chosen chosen_ends rows last asc are =
      let all1 = still-held text own places ends marked mark bytes more same all in
      let is1 = came-is text own places ends marked mark bytes more same all in
      let text1 = came-text text own places ends marked mark bytes more same all in
      let all2 = still-held text marked places ends others empty [] more2 same2 all1 in
      let is2 = came-is text marked places ends others empty [] more2 same2 all1 in
      let text2 = came-text text marked places ends others empty [] more2 same2 all1 in
      let mark_is : IsPlace text others mark = subst (λ (of : List (List ℕ)). IsPlace text of mark) (sym more2) (place-more text marked ([] ∷ []) mark is1) in
      let mark_text : place_text text others mark ≡ bytes = ap (λ (of : List (List ℕ)). place_text text of mark) more2 ∙ text-more text marked ([] ∷ []) mark is1 ∙ text1 in (
        (are text others all2.0 mark_is is2, asc),
        held-selected text others places ends all2 columns mark empty chosen chosen_ends bytes mark_text text2 rows last
            ∙ ap (λ (h : Held). held text (map (selected columns bytes) h.rows)) (own-came text marked places ends others empty [] more2 same2 all1 ∙ own-came text own places ends marked mark bytes more same all),
      )

-- ---- lists

pub with-cells-long : (begin columns : ℕ) (place : Place) (places : List Place) → begin ≤ length places → length (take begin places ++ replicate columns place ++ drop begin places) ≡ length places + columns
with-cells-long begin columns place places fits =
    omega (arith, fits, length-append (take begin places ++ replicate columns place) (drop begin places), length-append (take begin places) (replicate columns place), length-take begin places, length-replicate columns place, length-drop begin places)

-- the first and the last, by where those between them begin and end
pub ends-kept : {X : Type 0} (items : List X) (first last count start behind : ℕ) → count ≡ length items → start ≡ min first count → behind ≡ min last (count - start)
    → take start items ++ drop (count - behind) items ≡ first_and_last first last items
ends-kept {X} items first last count start behind all is last_is =
    ap₂ (λ (a b : List X). a ++ b)
    (ap (λ n. take n items) (is ∙ ap (min first) all) ∙ take_min first items)
    (elim (cases_lt (length items) first) [
      | inl past ↦
          drop_all (count - behind) items (omega (arith, all, is, last_is, past))
          ∙ sym (drop-drop (length (drop first items) - last) first items ∙ drop_all (first + (length (drop first items) - last)) items (omega (arith, past)))
      | inr inside ↦
          let place : count - behind ≡ first + (length (drop first items) - last) = omega (arith, all, is, last_is, inside, length-drop first items) in
          ap (λ n. drop n items) place ∙ sym (drop-drop (length (drop first items) - last) first items)
    ])

-- items that are written over all of a vector's
pub whole-written : {X : Type 0} (count : ℕ) (new items : List X) → length new ≡ length items → count ≡ length items → take count (new ++ drop (length new) items) ≡ new
whole-written {X} count new items same all =
    ap (λ (rest : List X). take count (new ++ rest)) (drop_all (length new) items (omega (arith, same)))
    ∙ ap (take count) (append-nil new) ∙ take_all count new (omega (arith, same, all))
