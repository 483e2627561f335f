use Rattle.std.proofs.Common.{◌≡◌, ◌+◌, ◌-◌, ◌++◌, ◌∷◌, [], drop, get_or, length, ap, sym, ◌∙◌, arith, append_assoc}
use Rattle.papergrid_cells.specs.Flat.{empty_from, joints_of, kept_bytes, led_bytes, room_in, slots_from}
use Rattle.papergrid_cells.specs.declared.empty_row.Ink.{Ink}
use Rattle.papergrid_cells.specs.declared.empty_row.Ink.TheVariants.{Uncolored}
use Rattle.papergrid_cells.specs.declared.empty_row.TextSlot.{TextSlot}
use Rattle.papergrid_cells.proofs.EmptyRows.{length-more, slots-more}
use Rattle.papergrid_cells.proofs.flat.FlatRows.slots.Goals as goal

pub overflow_sub-rest : goal.overflow_sub-rest
overflow_sub-rest c =
    let widths = c.args.widths.now in
    omega (arith, c.loop-j.invariant.rest, length-more (joints_of c.args.self.now) c.args.inks.now (length widths) c.loop-j.j widths c.loop-j-test.true, ap (λ l. length l) c.lead.ensures, ap (λ ink. length (led_bytes ink)) c.ink_at-ink.ensures)

pub overflow_sub-rest-in-loop-j : goal.overflow_sub-rest-in-loop-j
overflow_sub-rest-in-loop-j c =
    let widths = c.args.widths.now in
    omega (arith, c.loop-j.invariant.rest, length-more (joints_of c.args.self.now) c.args.inks.now (length widths) c.loop-j.j widths c.loop-j-test.true, ap (λ l. length l) c.lead.ensures, ap (λ ink. length (led_bytes ink)) c.ink_at-ink.ensures, c.kept.ensures, ap kept_bytes c.ink_at-ink.ensures)

pub overflow_sub-rest-in-loop-j-2 : goal.overflow_sub-rest-in-loop-j-2
overflow_sub-rest-in-loop-j-2 c =
    let widths = c.args.widths.now in
    omega (arith, c.loop-j.invariant.rest, length-more (joints_of c.args.self.now) c.args.inks.now (length widths) c.loop-j.j widths c.loop-j-test.true, ap (λ l. length l) c.lead.ensures, ap (λ ink. length (led_bytes ink)) c.ink_at-ink.ensures, c.kept.ensures, ap kept_bytes c.ink_at-ink.ensures, c.room-width.ensures)

pub overflow_sub-rest-in-loop-j-3 : goal.overflow_sub-rest-in-loop-j-3
overflow_sub-rest-in-loop-j-3 c =
    let widths = c.args.widths.now in
    omega (arith, c.loop-j.invariant.rest, length-more (joints_of c.args.self.now) c.args.inks.now (length widths) c.loop-j.j widths c.loop-j-test.true, ap (λ l. length l) c.lead.ensures, ap (λ ink. length (led_bytes ink)) c.ink_at-ink.ensures, c.kept.ensures, ap kept_bytes c.ink_at-ink.ensures, c.room-width.ensures, c.len.ensures, ap (λ l. length l) c.behind.ensures)

pub loop-j-preserved : goal.loop-j-preserved
loop-j-preserved c =
    let widths = c.args.widths.now in
    let inks = c.args.inks.now in
    let joints = joints_of c.args.self.now in
    let columns = length widths in
    let j = c.loop-j.j in
    let before = c.loop-j.slots.items in
    let own : Ink = get_or inks j Uncolored in
    let tail = length (empty_from joints inks columns j (drop j widths)) in
    let left : c.loop-j.rest - length c.lead.result.now ≡ tail - length (led_bytes own) =
    ap (λ n. n - length c.lead.result.now) c.loop-j.invariant.rest ∙ ap (λ n. tail - n) (ap (λ l. length l) c.lead.ensures ∙ ap (λ ink. length (led_bytes ink)) c.ink_at-ink.ensures) in
    let slot : TextSlot = record { width = c.room-width.result; ink = c.ink_at-ink.result; rest = c.loop-j.rest - length c.lead.result.now } in
    let same : slot ≡ record { width = room_in joints (get_or widths j 0); ink = own; rest = tail - length (led_bytes own) } =
    λ t. record { width = c.room-width.ensures t; ink = c.ink_at-ink.ensures t; rest = left t } in
    let behind = slots_from joints inks columns (j + 1) (drop (j + 1) widths) in
    record {
      slots = ap (λ l. l ++ behind) c.in_ok-push.ensures.items
          ∙ (append_assoc before (slot ∷ []) behind
          ∙ (ap (λ r. before ++ (r ∷ behind)) same
          ∙ (ap (λ l. before ++ l) (sym (slots-more joints inks columns j widths c.loop-j-test.true))
          ∙ c.loop-j.invariant.slots)));
      rest = omega (arith, c.loop-j.invariant.rest, length-more (joints_of c.args.self.now) c.args.inks.now (length widths) c.loop-j.j widths c.loop-j-test.true, ap (λ l. length l) c.lead.ensures, ap (λ ink. length (led_bytes ink)) c.ink_at-ink.ensures, c.kept.ensures, ap kept_bytes c.ink_at-ink.ensures, c.room-width.ensures, c.len.ensures, ap (λ l. length l) c.behind.ensures);
    }
