use Rattle.std.proofs.Common.{◌≡◌, ◌+◌, ◌-◌, ◌<◌, get_or, length, ap, ◌∙◌, arith}
use Rattle.columns_table.proofs.KeptEnds.{given}
use Rattle.columns_table.proofs.ends.give_widths.Goals as goal

pub loop-widths-preserved : goal.loop-widths-preserved
loop-widths-preserved c =
    let widths = c.loop-widths.widths in
    let starts = c.args.starts.now in
    let cell : c.len-cell.result ≡ length widths.items = c.len-cell.ensures ∙ widths.ok.0 in
    let below : length widths.items + 1 < length starts = omega (arith, c.loop-widths-test.true, c.len.ensures, widths.ok.0) in
    let bytes : c.saturating_sub.result ≡ get_or starts (length widths.items + 1) 0 - 1 - get_or starts (length widths.items) 0 =
    c.saturating_sub.ensures ∙ ap (λ n. n - get_or starts c.len-cell.result 0) c.saturating_sub-end.ensures ∙ ap (λ n. get_or starts (n + 1) 0 - 1 - get_or starts n 0) cell in
    let one = given widths.items starts c.push.new.self.items c.saturating_sub.result below bytes c.in_ok-push.ensures.items in
    record { within = one.0; same = one.1 ∙ c.loop-widths.invariant.same }
