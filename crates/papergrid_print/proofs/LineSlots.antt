-- The slot of a column in a line whose cells before it are written, and its cell written over it.
use Rattle.std.proofs.Common.{◌≡◌, ◌+◌, ◌-◌, ◌<◌, ◌≤◌, ◌++◌, List, get_or, length, string_bytes, ap, append_assoc, subst, sym, ◌∙◌, arith, refl, ℕ}
use Rattle.std.specs.Prelude.{IsUtf8}
use Rattle.std.specs.List.{replace_range}
use Rattle.std.proofs.lemmas.List.{get_or_default}
use Rattle.grid_config.specs.Looks.{look_of}
use Rattle.grid_records_traits.specs.Rows.{text_at}
use Rattle.grid_records_traits.specs.SingleLines.{IsSingleLine}
use Rattle.papergrid_cells.specs.Flat.{IsInk, IsSomeEmptyRow, empty_from, joints_of, kept_bytes, led_bytes, slots_from}
use Rattle.papergrid_cells.specs.Spaces.{HasSpaces}
use Rattle.papergrid_cells.specs.declared.empty_row.EmptyRow.{EmptyRow}
use Rattle.papergrid_cells.specs.declared.empty_row.Ink.TheVariants.{Uncolored}
use Rattle.papergrid_cells.specs.declared.empty_row.TextSlot.{TextSlot}
use Rattle.papergrid_cells.specs.declared.flat.FlatRows.{FlatRows}
use Rattle.papergrid_picture.specs.Blocks.{free_left}
use Rattle.papergrid_picture.specs.Picture.{at}
use Rattle.papergrid_print.specs.FlatSheets.{HasCellSlot, HasNoColor, HasWrittenFirst, IsFlatTable, row_front}
use Rattle.papergrid_print.specs.Sheets.{Sheet}
use Rattle.papergrid_cells.proofs.EmptyRows.{inked, length-slots, rest-inside, slot-spaces, slot-wide, text-spaces, utf8-leads}
use Rattle.papergrid_cells.proofs.WrittenTexts.{spaces-inside, utf8-over}
use Rattle.papergrid_print.proofs.Flat.{flat-begins}
use Rattle.papergrid_print.proofs.Placed.{bare-written, written-more}

-- the line of a row of empty cells, of which no text is written yet
pub begun : (sheet : Sheet) (rows : FlatRows) → IsFlatTable sheet rows → (empty : EmptyRow) (i : ℕ) → 0 < length sheet.widths → (out line : List ℕ) → line ≡ out ++ string_bytes empty.line
    → HasWrittenFirst sheet rows empty i 0 out line
begun sheet rows flat empty i columns out line is = λ some.
    let front : string_bytes rows.front ≡ row_front sheet i 0 = flat-begins sheet i rows columns flat.rows in
    let behind = empty_from (joints_of rows) some.0 (length sheet.widths) 0 sheet.widths in
    is ∙ (ap (λ (l : List ℕ). out ++ l) (some.1.0.line ∙ ap (λ (l : List ℕ). l ++ behind) front) ∙ sym (append_assoc out (row_front sheet i 0) behind))

module _ (sheet : Sheet) (rows : FlatRows) (flat : IsFlatTable sheet rows) (empty : EmptyRow) (some : IsSomeEmptyRow rows sheet.colors sheet.widths empty) (i j : ℕ) (begin bytes : List ℕ)
    (written : HasWrittenFirst sheet rows empty i j begin bytes) (inside : j < length sheet.widths) (slots : List TextSlot) (kept : slots ≡ empty.slots.items)
    (d slot : TextSlot) (found : slot ≡ get_or slots j d) (len : ℕ) (counted : len ≡ length bytes) where
  are-slots : slots ≡ slots_from (joints_of rows) some.0 (length sheet.widths) 0 sheet.widths
  are-slots = kept ∙ some.1.0.slots

  pub slots-long : j < length slots
  slots-long = omega (arith, inside, ap (λ (l : List TextSlot). length l) are-slots, length-slots (joints_of rows) some.0 (length sheet.widths) 0 sheet.widths)

  same-slot : slot ≡ get_or slots j slot
  same-slot = found ∙ get_or_default slots j d slot slots-long

  pub slot-inside : slot.rest ≤ len
  slot-inside = rest-inside rows _ _ (utf8-leads _ _ _ _ some.1.1) _ _ inside (written some) _ are-slots _ same-slot _ counted

  pub slot-has : HasCellSlot sheet rows (at i j) slot (len - slot.rest) bytes
  slot-has =
      let leads = utf8-leads _ _ _ _ some.1.1 in
      let kept = written some in
      let own : IsInk rows.alignment (λ row. sheet.colors (at row j)) slot.ink =
      subst (IsInk rows.alignment (λ row. sheet.colors (at row j))) (sym (inked rows _ _ leads _ _ inside kept _ are-slots _ same-slot _ counted)) (some.1.1.each j inside) in
      record {
        flat = flat;
        fill = some.1.0.fill;
        color = some.1.0.color;
        width = slot-wide rows _ _ leads _ _ inside kept _ are-slots _ same-slot _ counted;
        ink = own;
        spaces = slot-spaces rows _ _ leads _ _ inside kept _ are-slots _ same-slot _ counted;
      }

  -- where no cell of the column has a colour
  pub uncolored : slot.ink ≡ Uncolored → HasNoColor sheet slot.ink (at i j)
  uncolored bare = record {
    color = subst (IsInk rows.alignment (λ row. sheet.colors (at row j))) bare slot-has.ink i;
    lead = ap led_bytes bare;
    kept = ap kept_bytes bare;
  }

  -- with a text written over it, after so many of the columns that it leaves free
  module _ (text : List ℕ) (own : text ≡ text_at sheet.rows (at i j)) (plain : IsSingleLine text (length text)) (none : HasNoColor sheet slot.ink (at i j)) (fits : length text ≤ slot.width)
      (before : ℕ) (aligned : before ≡ free_left ((look_of sheet.settings).alignment_horizontal (at i j)) (slot.width - length text)) (place : ℕ) (begins : place ≡ (len - slot.rest) + before) where
    takes : length text ≡ kept_bytes slot.ink + length text
    takes = omega (arith, none.kept)

    spaces-at : HasSpaces bytes (len - slot.rest + before) (length text)
    spaces-at = text-spaces bytes (len - slot.rest) (kept_bytes slot.ink) slot.width slot-has.spaces _ (length text) fits before aligned (length text) takes

    pub own-spaces : HasSpaces bytes place (length text)
    own-spaces = subst (λ n. HasSpaces bytes n (length text)) (sym begins) spaces-at

    pub text-inside : place + length text ≤ length bytes
    text-inside = spaces-inside bytes place (length text) own-spaces

    module _ {new : List ℕ} (over : new ≡ replace_range bytes place (place + length text) text) where
      pub still-utf8 : IsUtf8 bytes → IsUtf8 text → IsUtf8 new
      still-utf8 utf8 text-utf8 = subst IsUtf8 (sym over) (utf8-over bytes place (length text) own-spaces text refl utf8 text-utf8)

      pub next-written : i < length sheet.heights → get_or sheet.heights i 0 ≡ 1 → HasWrittenFirst sheet rows empty i (j + 1) begin new
      next-written row high = λ any.
          let leads = utf8-leads _ _ _ _ any.1.1 in
          let spaces = slot-spaces rows _ _ leads _ _ inside (written any) _ (kept ∙ any.1.0.slots) _ same-slot _ counted in
          let front = begin ++ row_front sheet i j in
          written-more sheet flat.settings rows flat.rows any.0 i j begin row inside high
          (bare-written sheet flat.settings rows (at i j) slot (len - slot.rest) bytes slot-has text (length text) before own plain none.color
          fits aligned none.lead none.kept (over ∙ ap (λ n. replace_range bytes n (n + length text) text) begins) spaces front refl)
