use Rattle.std.proofs.Common.{◌≡◌, ◌+◌, ◌-◌, ◌≤◌, [], List, length, ap, subst, sym, ◌∙◌, arith, refl, ℕ}
use Rattle.std.specs.Prelude.{IsUtf8, slice_index_or}
use Rattle.std.specs.List.{replace_range}
use Rattle.grid_config_values.specs.declared.position.Position.{Position}
use Rattle.grid_config.specs.Looks.{look_of}
use Rattle.grid_records_traits.specs.Rows.{text_at}
use Rattle.grid_records_traits.specs.SingleLines.{IsSingleLine}
use Rattle.papergrid_cells.specs.Flat.{IsInk}
use Rattle.papergrid_cells.specs.declared.empty_row.Ink.TheVariants.{Uncolored}
use Rattle.papergrid_cells.specs.declared.empty_row.TextSlot.{TextSlot}
use Rattle.papergrid_picture.specs.Blocks.{free_left}
use Rattle.papergrid_picture.specs.Picture.{at}
use Rattle.papergrid_print.specs.FlatSheets.{HasNoColor, HasWrittenFirst}
use Rattle.papergrid_print.specs.Printed.{table_sheet}
use Rattle.papergrid_print.proofs.LineSlots.{next-written, slot-has, slot-inside, slots-long, still-utf8, text-inside}
use Rattle.papergrid_print.proofs.printer.Printer.write_known_cells.Goals as goal

pub bounds-slots-column : goal.bounds-slots-column
bounds-slots-column g c =
    slots-long (table_sheet c.args.self.now) c.args.flat.now c.requires.flat c.args.empty.now c.requires.empty_row c.args.i c.loop-column.column _ _
    (c.loop-column.invariant.written c.requires.line.0 c.requires.line.1) c.loop-column-test.true _ c.as_slice-slots.ensures.value (record { width = 0; ink = Uncolored; rest = 0 }) _ refl _ refl

pub offset_bounds-slots-column : goal.offset_bounds-slots-column
offset_bounds-slots-column g c =
    let below = slots-long (table_sheet c.args.self.now) c.args.flat.now c.requires.flat c.args.empty.now c.requires.empty_row c.args.i c.loop-column.column _ _
    (c.loop-column.invariant.written c.requires.line.0 c.requires.line.1) c.loop-column-test.true _ c.as_slice-slots.ensures.value (record { width = 0; ink = Uncolored; rest = 0 }) _ refl _ refl in
    record { fits = omega (arith, below, c.as_slice-slots.type_inv.1) }

pub overflow_sub-rest : goal.overflow_sub-rest
overflow_sub-rest g c =
    let sheet = table_sheet c.args.self.now in
    let j = c.loop-column.column in
    let text = c.in-Some.cell.text.now in
    let slot : TextSlot = slice_index_or c.as_slice-slots.result.now j (record { width = 0; ink = Uncolored; rest = 0 }) in
    let room = c.takes_bytes.ensures.room c.if-not-takes_bytes.false in
    let none : HasNoColor sheet slot.ink (at c.args.i j) = subst (HasNoColor sheet slot.ink) c.new-pos.ensures
    (c.takes_bytes.ensures.no_color c.if-not-takes_bytes.false c.args.flat.now.alignment
    (subst (λ (p : Position). IsInk c.args.flat.now.alignment (λ row. sheet.colors (at row p.col)) slot.ink) (sym c.new-pos.ensures)
    (slot-has sheet c.args.flat.now c.requires.flat c.args.empty.now c.requires.empty_row c.args.i j _ _
    (c.loop-column.invariant.written c.requires.line.0 c.requires.line.1) c.loop-column-test.true _ c.as_slice-slots.ensures.value _ slot refl _ refl).ink)) in
    let own : text ≡ text_at sheet.rows (at c.args.i j) = c.in-Some.ensures.text ∙ ap (λ texts. slice_index_or texts j []) c.requires.cells in
    let plain : IsSingleLine text (length text) = subst (λ (n : ℕ). IsSingleLine text n) (c.takes_bytes.ensures.bytes c.if-not-takes_bytes.false) c.in-Some.ensures.single_line in
    let before = c.free_before_line-before.result in
    let aligned : before ≡ free_left ((look_of sheet.settings).alignment_horizontal (at c.args.i j)) (slot.width - length text) =
    c.free_before_line-before.ensures (length c.args.self.now.widths.now) c.requires.flat.rows
    ∙ ap (λ (p : Position). free_left ((look_of sheet.settings).alignment_horizontal p) (slot.width - length text)) c.new-pos.ensures in
    let start = length c.loop-column.line - slot.rest in
    let left : slot.rest ≤ length c.loop-column.line = slot-inside sheet c.args.flat.now c.requires.flat c.args.empty.now c.requires.empty_row c.args.i j _ _
    (c.loop-column.invariant.written c.requires.line.0 c.requires.line.1) c.loop-column-test.true _ c.as_slice-slots.ensures.value _ slot refl _ refl in
    let within : start + before + length text ≤ length c.loop-column.line = text-inside sheet c.args.flat.now c.requires.flat c.args.empty.now c.requires.empty_row c.args.i j _ _
    (c.loop-column.invariant.written c.requires.line.0 c.requires.line.1) c.loop-column-test.true _ c.as_slice-slots.ensures.value _ slot refl _ refl
    text own plain none room before aligned (start + before) refl in
    omega (arith, left, within)

pub overflow_sub-place : goal.overflow_sub-place
overflow_sub-place g c =
    let left = slot-inside (table_sheet c.args.self.now) c.args.flat.now c.requires.flat c.args.empty.now c.requires.empty_row c.args.i c.loop-column.column _ _
    (c.loop-column.invariant.written c.requires.line.0 c.requires.line.1) c.loop-column-test.true _ c.as_slice-slots.ensures.value (record { width = 0; ink = Uncolored; rest = 0 }) _ refl _ refl in
    omega (arith, left)

pub lay_over-requires : goal.lay_over-requires
lay_over-requires g c =
    let sheet = table_sheet c.args.self.now in
    let j = c.loop-column.column in
    let text = c.in-Some.cell.text.now in
    let slot : TextSlot = slice_index_or c.as_slice-slots.result.now j (record { width = 0; ink = Uncolored; rest = 0 }) in
    let room = c.takes_bytes.ensures.room c.if-not-takes_bytes.false in
    let none : HasNoColor sheet slot.ink (at c.args.i j) = subst (HasNoColor sheet slot.ink) c.new-pos.ensures
    (c.takes_bytes.ensures.no_color c.if-not-takes_bytes.false c.args.flat.now.alignment
    (subst (λ (p : Position). IsInk c.args.flat.now.alignment (λ row. sheet.colors (at row p.col)) slot.ink) (sym c.new-pos.ensures)
    (slot-has sheet c.args.flat.now c.requires.flat c.args.empty.now c.requires.empty_row c.args.i j _ _
    (c.loop-column.invariant.written c.requires.line.0 c.requires.line.1) c.loop-column-test.true _ c.as_slice-slots.ensures.value _ slot refl _ refl).ink)) in
    let own : text ≡ text_at sheet.rows (at c.args.i j) = c.in-Some.ensures.text ∙ ap (λ texts. slice_index_or texts j []) c.requires.cells in
    let plain : IsSingleLine text (length text) = subst (λ (n : ℕ). IsSingleLine text n) (c.takes_bytes.ensures.bytes c.if-not-takes_bytes.false) c.in-Some.ensures.single_line in
    let before = c.free_before_line-before.result in
    let aligned : before ≡ free_left ((look_of sheet.settings).alignment_horizontal (at c.args.i j)) (slot.width - length text) =
    c.free_before_line-before.ensures (length c.args.self.now.widths.now) c.requires.flat.rows
    ∙ ap (λ (p : Position). free_left ((look_of sheet.settings).alignment_horizontal p) (slot.width - length text)) c.new-pos.ensures in
    let start = length c.loop-column.line - slot.rest in
    let left : slot.rest ≤ length c.loop-column.line = slot-inside sheet c.args.flat.now c.requires.flat c.args.empty.now c.requires.empty_row c.args.i j _ _
    (c.loop-column.invariant.written c.requires.line.0 c.requires.line.1) c.loop-column-test.true _ c.as_slice-slots.ensures.value _ slot refl _ refl in
    let within : start + before + length text ≤ length c.loop-column.line = text-inside sheet c.args.flat.now c.requires.flat c.args.empty.now c.requires.empty_row c.args.i j _ _
    (c.loop-column.invariant.written c.requires.line.0 c.requires.line.1) c.loop-column-test.true _ c.as_slice-slots.ensures.value _ slot refl _ refl
    text own plain none room before aligned (start + before) refl in
    omega (arith, left, within, ap (λ (l : List ℕ). length l) c.as_bytes.ensures.value)

pub loop-column-preserved : goal.loop-column-preserved
loop-column-preserved g c =
    let sheet = table_sheet c.args.self.now in
    let j = c.loop-column.column in
    let text = c.in-Some.cell.text.now in
    let slot : TextSlot = slice_index_or c.as_slice-slots.result.now j (record { width = 0; ink = Uncolored; rest = 0 }) in
    let room = c.takes_bytes.ensures.room c.if-not-takes_bytes.false in
    let none : HasNoColor sheet slot.ink (at c.args.i j) = subst (HasNoColor sheet slot.ink) c.new-pos.ensures
    (c.takes_bytes.ensures.no_color c.if-not-takes_bytes.false c.args.flat.now.alignment
    (subst (λ (p : Position). IsInk c.args.flat.now.alignment (λ row. sheet.colors (at row p.col)) slot.ink) (sym c.new-pos.ensures)
    (slot-has sheet c.args.flat.now c.requires.flat c.args.empty.now c.requires.empty_row c.args.i j _ _
    (c.loop-column.invariant.written c.requires.line.0 c.requires.line.1) c.loop-column-test.true _ c.as_slice-slots.ensures.value _ slot refl _ refl).ink)) in
    let own : text ≡ text_at sheet.rows (at c.args.i j) = c.in-Some.ensures.text ∙ ap (λ texts. slice_index_or texts j []) c.requires.cells in
    let plain : IsSingleLine text (length text) = subst (λ (n : ℕ). IsSingleLine text n) (c.takes_bytes.ensures.bytes c.if-not-takes_bytes.false) c.in-Some.ensures.single_line in
    let before = c.free_before_line-before.result in
    let aligned : before ≡ free_left ((look_of sheet.settings).alignment_horizontal (at c.args.i j)) (slot.width - length text) =
    c.free_before_line-before.ensures (length c.args.self.now.widths.now) c.requires.flat.rows
    ∙ ap (λ (p : Position). free_left ((look_of sheet.settings).alignment_horizontal p) (slot.width - length text)) c.new-pos.ensures in
    let start = length c.loop-column.line - slot.rest in
    let left : slot.rest ≤ length c.loop-column.line = slot-inside sheet c.args.flat.now c.requires.flat c.args.empty.now c.requires.empty_row c.args.i j _ _
    (c.loop-column.invariant.written c.requires.line.0 c.requires.line.1) c.loop-column-test.true _ c.as_slice-slots.ensures.value _ slot refl _ refl in
    let within : start + before + length text ≤ length c.loop-column.line = text-inside sheet c.args.flat.now c.requires.flat c.args.empty.now c.requires.empty_row c.args.i j _ _
    (c.loop-column.invariant.written c.requires.line.0 c.requires.line.1) c.loop-column-test.true _ c.as_slice-slots.ensures.value _ slot refl _ refl
    text own plain none room before aligned (start + before) refl in
    let items = c.loop-column.line in
    let place = length items - (slot.rest - before) in
    let begins : place ≡ start + before = omega (arith, left, within) in
    let over : c.lay_over.new.out ≡ replace_range items place (place + length text) text =
    c.lay_over.ensures ∙ ap (λ (l : List ℕ). replace_range items place (place + length l) l) c.as_bytes.ensures.value in
    record {
      written = λ first is. next-written sheet c.args.flat.now c.requires.flat c.args.empty.now c.requires.empty_row c.args.i j first items
          (c.loop-column.invariant.written first is) c.loop-column-test.true _ c.as_slice-slots.ensures.value _ slot refl _ refl
          text own plain none room before aligned place begins over c.requires.one_line.row c.requires.one_line.high;
      utf8 = λ utf8. still-utf8 sheet c.args.flat.now c.requires.flat c.args.empty.now c.requires.empty_row c.args.i j _ items
          (c.loop-column.invariant.written c.requires.line.0 c.requires.line.1) c.loop-column-test.true _ c.as_slice-slots.ensures.value _ slot refl _ refl
          text own plain none room before aligned place begins over (c.loop-column.invariant.utf8 utf8) (subst IsUtf8 c.as_bytes.ensures.value c.as_bytes.ensures.utf8);
    }

pub returns-clause-line : goal.returns-clause-line
returns-clause-line g c =
    let sheet = table_sheet c.args.self.now in
    let end : c.loop-column.column ≡ length c.args.self.now.widths.now = omega (arith, c.loop-column-test.false, c.loop-column.auto.column-end) in
    λ first is. subst (λ (n : ℕ). HasWrittenFirst sheet c.args.flat.now c.args.empty.now c.args.i n first c.loop-column.line) end (c.loop-column.invariant.written first is)
