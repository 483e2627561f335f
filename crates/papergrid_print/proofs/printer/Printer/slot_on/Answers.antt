use Rattle.std.proofs.Common.{◌-◌, ◌++◌, ◌≤◌, List, ℕ, drop, length, ap, subst, sym, ◌∙◌, arith}
use Rattle.std.specs.Prelude.{slice_index_or}
use Rattle.std.specs.String.Boundary.{IsSplitPoint}
use Rattle.papergrid_cells.specs.Flat.{joints_of, led_bytes}
use Rattle.papergrid_cells.specs.declared.empty_row.Ink.TheVariants.{Uncolored}
use Rattle.papergrid_cells.proofs.EmptyRows.{length-slots, rest-inside, slot-spaces, utf8-leads}
use Rattle.papergrid_cells.proofs.WrittenTexts.{spaces-begin}
use Rattle.papergrid_print.proofs.Slots.{line-front, slot-behind}
use Rattle.papergrid_print.proofs.printer.Printer.slot_on.Goals as goal

pub index-requires : goal.index-requires
index-requires g c =
    let widths = c.args.self.now.widths.now in
    omega (arith, c.requires.column, c.args.empty.now.slots.ok.0, ap (λ slots. length slots) c.requires.empty_row.1.0.slots, length-slots (joints_of c.args.flat.now) c.requires.empty_row.0 (length widths) 0 widths)

pub overflow_sub-len : goal.overflow_sub-len
overflow_sub-len g c =
    let some = c.requires.empty_row in
    let within : c.args.column ≤ length c.args.self.now.widths.now = omega (arith, c.requires.column) in
    let front = line-front c.args.flat.now _ _ _ some.1.0 c.args.column within in
    rest-inside c.args.flat.now _ _ (utf8-leads _ _ _ _ some.1.1) front.0 _ c.requires.column front.1 _ some.1.0.slots _ c.index.ensures _ (c.len.ensures ∙ c.args.empty.now.line.bytes.ok.0)

pub range_from-requires : goal.range_from-requires
range_from-requires g c =
    let some = c.requires.empty_row in
    let within : c.args.column ≤ length c.args.self.now.widths.now = omega (arith, c.requires.column) in
    let front = line-front c.args.flat.now _ _ _ some.1.0 c.args.column within in
    let split = spaces-begin _ _ _ (slot-spaces c.args.flat.now _ _ (utf8-leads _ _ _ _ some.1.1) front.0 _ c.requires.column front.1 _ some.1.0.slots _ c.index.ensures _ (c.len.ensures ∙ c.args.empty.now.line.bytes.ok.0)) in
    let own = subst (λ (bytes : List ℕ). IsSplitPoint bytes (c.len.result - c.index.result.now.rest)) (sym c.deref.ensures) split in
    λ more. (own.0, own.1 more)

pub returns : goal.returns
returns g c = λ some.
    let within : c.args.column ≤ length c.args.self.now.widths.now = omega (arith, c.requires.column) in
    let front = line-front c.args.flat.now _ _ _ some.1.0 c.args.column within in
    let own = led_bytes (slice_index_or some.0 c.args.column Uncolored) in
    ap (λ l. own ++ l) (c.range_from.ensures.value ∙ ap (drop (c.len.result - c.index.result.now.rest)) c.deref.ensures)
    ∙ slot-behind c.args.flat.now _ _ (utf8-leads _ _ _ _ some.1.1) front.0 _ c.requires.column front.1 _ some.1.0.slots _ c.index.ensures _ (c.len.ensures ∙ c.args.empty.now.line.bytes.ok.0)
