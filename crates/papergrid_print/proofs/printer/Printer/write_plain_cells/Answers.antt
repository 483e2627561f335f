use Rattle.std.proofs.Common.{◌≡◌, ◌+◌, ◌-◌, ◌<◌, [], List, length, ap, subst, sym, ◌∙◌, arith, refl, ℕ}
use Rattle.std.specs.Prelude.{slice_index_or}
use Rattle.std.specs.List.{replace_range}
use Rattle.grid_config_values.specs.declared.alignment.AlignmentHorizontal.TheVariants.{Left}
use Rattle.grid_records_traits.specs.SingleLines.{IsSingleLine}
use Rattle.papergrid_cells.specs.declared.empty_row.Ink.TheVariants.{Uncolored}
use Rattle.papergrid_cells.specs.declared.empty_row.TextSlot.{TextSlot}
use Rattle.papergrid_picture.specs.Blocks.{free_left}
use Rattle.papergrid_picture.specs.Picture.{at}
use Rattle.papergrid_print.specs.FlatSheets.{HasWrittenFirst}
use Rattle.papergrid_print.specs.Printed.{table_sheet}
use Rattle.papergrid_print.proofs.LineSlots.{next-written, slot-inside, slots-long, still-utf8, text-inside, uncolored}
use Rattle.papergrid_print.proofs.Placed.{one-alignment}
use Rattle.papergrid_print.proofs.printer.Printer.write_plain_cells.Goals as goal

pub bounds-slots-column : goal.bounds-slots-column
bounds-slots-column g c =
    let inside : c.loop-column.column < length c.args.self.now.widths.now = omega (arith, c.loop-column-test.true, c.min-known.ensures) in
    slots-long (table_sheet c.args.self.now) c.args.flat.now c.requires.flat c.args.empty.now c.requires.empty_row c.args.i c.loop-column.column _ _
    (c.loop-column.invariant.written c.requires.line.0 c.requires.line.1) inside _ c.as_slice-slots.ensures.value (record { width = 0; ink = Uncolored; rest = 0 }) _ refl _ refl

pub offset_bounds-slots-column : goal.offset_bounds-slots-column
offset_bounds-slots-column g c =
    let inside : c.loop-column.column < length c.args.self.now.widths.now = omega (arith, c.loop-column-test.true, c.min-known.ensures) in
    let below = slots-long (table_sheet c.args.self.now) c.args.flat.now c.requires.flat c.args.empty.now c.requires.empty_row c.args.i c.loop-column.column _ _
    (c.loop-column.invariant.written c.requires.line.0 c.requires.line.1) inside _ c.as_slice-slots.ensures.value (record { width = 0; ink = Uncolored; rest = 0 }) _ refl _ refl in
    record { fits = omega (arith, below, c.as_slice-slots.type_inv.1) }

pub overflow_sub-begin : goal.overflow_sub-begin
overflow_sub-begin g c =
    let inside : c.loop-column.column < length c.args.self.now.widths.now = omega (arith, c.loop-column-test.true, c.min-known.ensures) in
    slot-inside (table_sheet c.args.self.now) c.args.flat.now c.requires.flat c.args.empty.now c.requires.empty_row c.args.i c.loop-column.column _ _
    (c.loop-column.invariant.written c.requires.line.0 c.requires.line.1) inside _ c.as_slice-slots.ensures.value _ _ refl _ refl

pub lay_over-requires : goal.lay_over-requires
lay_over-requires g c =
    let sheet = table_sheet c.args.self.now in
    let inside : c.loop-column.column < length c.args.self.now.widths.now = omega (arith, c.loop-column-test.true, c.min-known.ensures) in
    let known : c.loop-column.column < c.count_plain.result = omega (arith, c.loop-column-test.true, c.min-known.ensures) in
    let room = c.has_room.ensures c.if-not-has_room.false in
    let plain : IsSingleLine c.text-text.result.now (length c.text-text.result.now) = subst (λ (text : List ℕ). IsSingleLine text (length text)) (sym c.text-text.ensures) (c.count_plain.ensures.plain c.loop-column.column known) in
    let slot : TextSlot = slice_index_or c.as_slice-slots.result.now c.loop-column.column (record { width = 0; ink = Uncolored; rest = 0 }) in
    let begin = length c.loop-column.line - slot.rest in
    let left = one-alignment sheet c.args.flat.now Left (at c.args.i c.loop-column.column) c.requires.flat.rows c.requires.left in
    let aligned = ap (λ a. free_left a (slot.width - length c.text-text.result.now)) (sym left) in
    let none = uncolored sheet c.args.flat.now c.requires.flat c.args.empty.now c.requires.empty_row c.args.i c.loop-column.column _ _
    (c.loop-column.invariant.written c.requires.line.0 c.requires.line.1) inside _ c.as_slice-slots.ensures.value _ slot refl _ refl room.0 in
    let same : begin ≡ begin + 0 = omega arith in
    let within = text-inside sheet c.args.flat.now c.requires.flat c.args.empty.now c.requires.empty_row c.args.i c.loop-column.column _ _
    (c.loop-column.invariant.written c.requires.line.0 c.requires.line.1) inside _ c.as_slice-slots.ensures.value _ _ refl _ refl
    c.text-text.result.now (c.text-text.ensures ∙ ap (λ texts. slice_index_or texts c.loop-column.column []) c.requires.cells) plain none room.1
    0 aligned begin same in
    omega (arith, within, ap (λ (l : List ℕ). length l) c.as_bytes.ensures.value)

pub loop-column-preserved : goal.loop-column-preserved
loop-column-preserved g c =
    let sheet = table_sheet c.args.self.now in
    let inside : c.loop-column.column < length c.args.self.now.widths.now = omega (arith, c.loop-column-test.true, c.min-known.ensures) in
    let known : c.loop-column.column < c.count_plain.result = omega (arith, c.loop-column-test.true, c.min-known.ensures) in
    let room = c.has_room.ensures c.if-not-has_room.false in
    let text = c.text-text.result.now in
    let items = c.loop-column.line in
    let own = c.text-text.ensures ∙ ap (λ texts. slice_index_or texts c.loop-column.column []) c.requires.cells in
    let plain : IsSingleLine text (length text) = subst (λ (text : List ℕ). IsSingleLine text (length text)) (sym c.text-text.ensures) (c.count_plain.ensures.plain c.loop-column.column known) in
    let begin = length c.loop-column.line - (slice_index_or c.as_slice-slots.result.now c.loop-column.column (record { width = 0; ink = Uncolored; rest = 0 })).rest in
    let over : c.lay_over.new.out ≡ replace_range items begin (begin + length text) text =
    c.lay_over.ensures ∙ ap (λ (l : List ℕ). replace_range items begin (begin + length l) l) c.as_bytes.ensures.value in
    let left = one-alignment sheet c.args.flat.now Left (at c.args.i c.loop-column.column) c.requires.flat.rows c.requires.left in
    let slot : TextSlot = slice_index_or c.as_slice-slots.result.now c.loop-column.column (record { width = 0; ink = Uncolored; rest = 0 }) in
    let aligned = ap (λ a. free_left a (slot.width - length text)) (sym left) in
    let none = uncolored sheet c.args.flat.now c.requires.flat c.args.empty.now c.requires.empty_row c.args.i c.loop-column.column _ _
    (c.loop-column.invariant.written c.requires.line.0 c.requires.line.1) inside _ c.as_slice-slots.ensures.value _ slot refl _ refl room.0 in
    let same : begin ≡ begin + 0 = omega arith in
    record {
      written = λ first is. next-written sheet c.args.flat.now c.requires.flat c.args.empty.now c.requires.empty_row c.args.i c.loop-column.column first items
          (c.loop-column.invariant.written first is) inside _ c.as_slice-slots.ensures.value _ _ refl _ refl
          text own plain none room.1 0 aligned begin same over c.requires.one_line.row c.requires.one_line.high;
      utf8 = λ utf8. still-utf8 sheet c.args.flat.now c.requires.flat c.args.empty.now c.requires.empty_row c.args.i c.loop-column.column _ items
          (c.loop-column.invariant.written c.requires.line.0 c.requires.line.1) inside _ c.as_slice-slots.ensures.value _ _ refl _ refl
          text own plain none room.1 0 aligned begin same over (c.loop-column.invariant.utf8 utf8) c.text-text.utf8;
    }

pub returns-clause-line : goal.returns-clause-line
returns-clause-line g c =
    let sheet = table_sheet c.args.self.now in
    let end : c.loop-column.column ≡ c.min-known.result = omega (arith, c.loop-column-test.false, c.loop-column.auto.column-end) in
    λ first is. subst (λ (n : ℕ). HasWrittenFirst sheet c.args.flat.now c.args.empty.now c.args.i n first c.loop-column.line) end (c.loop-column.invariant.written first is)
