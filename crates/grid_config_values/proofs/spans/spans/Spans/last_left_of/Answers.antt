use Rattle.std.proofs.Common.{◌≡◌, ◌==◌, false, arith}
use Rattle.std.proofs.lemmas.Bool.Decides.{nat_tests}
use Rattle.grid_config_values.proofs.SpansLemmas.Lasts.{last_is, none_before, none_is}
use Rattle.grid_config_values.proofs.spans.spans.Spans.last_left_of.Goals as goal

pub returns-in_err-anchor : goal.returns-in_err-anchor
returns-in_err-anchor c =
    rw (c.from_residual.ensures, ← c.self.view_is) (none_before c.self.inside.extents c.args.place c.range.result (c.range.ensures.in_range tt) c.in_err-anchor.ensures.steps.0)

pub returns-then-anchor-place : goal.returns-then-anchor-place
returns-then-anchor-place c =
    rw (← c.self.view_is) (last_is c.self.inside.extents c.args.place c.range.result (c.range.ensures.in_range tt) (c.in_ok-anchor.anchor.now, c.in_ok-anchor.extent.now) c.next_back.new.self c.in_ok-anchor.ensures.steps c.if-anchor-place.true)

pub returns : goal.returns
returns c =
    let other : (c.in_ok-anchor.anchor.now.row == c.args.place.row) ≡ false = grind (arith, nat_tests, c.if-anchor-place.false) in
    rw (← c.self.view_is) (none_is c.self.inside.extents c.args.place c.range.result (c.range.ensures.in_range tt) (c.in_ok-anchor.anchor.now, c.in_ok-anchor.extent.now) c.next_back.new.self c.in_ok-anchor.ensures.steps other)
