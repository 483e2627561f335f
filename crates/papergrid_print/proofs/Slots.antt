-- What is in the line of a row of empty cells from a slot on, and in a row over which texts were written.
use Rattle.std.proofs.Common.{◌≡◌, ℕ, zero, suc, ◌+◌, ◌-◌, ◌<◌, ◌≤◌, List, [], ◌++◌, drop, get_or, length, refl, ap, sym, ◌∙◌, arith, append_assoc, replicate, string_bytes}
use Rattle.std.specs.Str.{IsUtf8}
use Rattle.std.proofs.Math.Seq.{drop-append_seam}
use Rattle.papergrid_cells.specs.Flat.{IsEmptyRow, Joints, empty_from, joint_behind, joints_of, kept_bytes, led_bytes, room_in, slots_from}
use Rattle.papergrid_cells.specs.Painting.{fill_bytes}
use Rattle.papergrid_cells.specs.Spaces.{HasSpaces}
use Rattle.papergrid_cells.specs.declared.empty_row.EmptyRow.{EmptyRow}
use Rattle.papergrid_cells.specs.declared.empty_row.Ink.{Ink}
use Rattle.papergrid_cells.specs.declared.empty_row.Ink.TheVariants.{Uncolored}
use Rattle.papergrid_cells.specs.declared.empty_row.TextSlot.{TextSlot}
use Rattle.papergrid_cells.specs.declared.flat.FlatRows.{FlatRows}
use Rattle.papergrid_cells.proofs.EmptyRows.{begin-is, empty-more, inked}

-- spaces begin what is from there on
abbrev pub from-spaces : (bytes : List ℕ) (start count : ℕ) (has : HasSpaces bytes start count) → {rest : List ℕ} → rest ≡ drop start bytes → HasSpaces rest 0 count
from-spaces bytes start count has {rest} are = record {
  before = [];
  after = has.after;
  parts = are
      ∙ (ap (λ n. drop n bytes) has.place
      ∙ (ap (drop (length has.before)) has.parts
      ∙ drop-append_seam has.before (replicate count 0x20 ++ has.after)));
  place = refl;
  text = has.text;
}

-- ---- the line of a row of empty cells

module _ (joints : Joints) (inks : List Ink) (columns : ℕ) where
  -- what precedes column j
  empty-front : (j : ℕ) (widths : List ℕ) → j ≤ length widths
      → (front : List ℕ) × (empty_from joints inks columns 0 widths ≡ front ++ empty_from joints inks columns j (drop j widths))
  empty-front zero widths inside = ([], refl)
  empty-front (suc j) widths inside =
      let below : j < length widths = omega (arith, inside) in
      let within : j ≤ length widths = omega (arith, inside) in
      let before = empty-front j widths within in
      let lead = led_bytes (get_or inks j Uncolored) in
      let kept = fill_bytes 0x20 (kept_bytes (get_or inks j Uncolored)) in
      let room = fill_bytes 0x20 (room_in joints (get_or widths j 0)) in
      let joint = joint_behind joints j columns in
      let tail = empty_from joints inks columns (j + 1) (drop (j + 1) widths) in
      let same : j + 1 ≡ suc j = omega arith in
      let front = before.0 ++ (lead ++ (kept ++ (room ++ joint))) in (
        front,
        before.1
            ∙ (ap (λ l. before.0 ++ l) (empty-more joints inks columns j widths below)
            ∙ (regroup before.0 lead kept room joint tail
            ∙ ap (λ n. front ++ empty_from joints inks columns n (drop n widths)) same)),
      )
    where
      regroup : (a b c d e f : List ℕ) → a ++ (b ++ (c ++ (d ++ (e ++ f)))) ≡ (a ++ (b ++ (c ++ (d ++ e)))) ++ f
      regroup a b c d e f = simp append_assoc

pub line-front : (rows : FlatRows) (widths : List ℕ) (inks : List Ink) (empty : EmptyRow) → IsEmptyRow rows widths inks empty → (j : ℕ) → j ≤ length widths
    → (front : List ℕ) × (string_bytes empty.line ≡ front ++ empty_from (joints_of rows) inks (length widths) j (drop j widths))
line-front rows widths inks empty is j within =
    let front = empty-front (joints_of rows) inks (length widths) j widths within in (
      string_bytes rows.front ++ front.0,
      is.line
          ∙ (ap (λ l. string_bytes rows.front ++ l) front.1
          ∙ sym (append_assoc (string_bytes rows.front) front.0 (empty_from (joints_of rows) inks (length widths) j (drop j widths)))),
    )

-- ---- a slot in it

module _ (rows : FlatRows) (widths : List ℕ) (inks : List Ink) (leads : (j : ℕ) → IsUtf8 (led_bytes (get_or inks j Uncolored))) (before : List ℕ) (j : ℕ) (inside : j < length widths) {all : List ℕ}
    (are : all ≡ before ++ empty_from (joints_of rows) inks (length widths) j (drop j widths))
    (slots : List TextSlot) (kept : slots ≡ slots_from (joints_of rows) inks (length widths) 0 widths) (slot : TextSlot) (found : slot ≡ get_or slots j slot)
    (len : ℕ) (counted : len ≡ length all) where
  abbrev tail : List ℕ
  tail = empty_from (joints_of rows) inks (length widths) j (drop j widths)

  abbrev own_ink : Ink
  own_ink = get_or inks j Uncolored

  abbrev lead : List ℕ
  lead = led_bytes slot.ink

  -- what is from it on, after the beginning of a colour
  pub slot-stands : (rest : List ℕ) → led_bytes own_ink ++ rest ≡ tail → rest ≡ drop (len - slot.rest) all
  slot-stands rest behind =
      let apart : all ≡ (before ++ lead) ++ rest =
      are
      ∙ (ap (λ l. before ++ l) (sym behind)
      ∙ (ap (λ ink. before ++ (led_bytes ink ++ rest)) (sym (inked rows widths inks leads before j inside are slots kept slot found len counted))
      ∙ sym (append_assoc before lead rest))) in
      sym
      (ap (λ n. drop n all) (begin-is rows widths inks leads before j inside are slots kept slot found len counted)
      ∙ (ap (drop (length (before ++ lead))) apart
      ∙ drop-append_seam (before ++ lead) rest))

  pub slot-behind : led_bytes own_ink ++ drop (len - slot.rest) all ≡ tail
  slot-behind =
      let room = room_in (joints_of rows) (get_or widths j 0) in
      let own = fill_bytes 0x20 (kept_bytes own_ink) ++ (fill_bytes 0x20 room ++ (joint_behind (joints_of rows) j (length widths) ++ empty_from (joints_of rows) inks (length widths) (j + 1) (drop (j + 1) widths))) in
      let more : tail ≡ led_bytes own_ink ++ own = empty-more (joints_of rows) inks (length widths) j widths inside in
      ap (λ l. led_bytes own_ink ++ l) (sym (slot-stands own (sym more))) ∙ sym more
