-- A text that is its only line is wrapped as such.
use Rattle.std.proofs.Common.{◌<◌, ◌∙◌, ◌++◌, List, ℕ, ap, arith, string_bytes}
use Rattle.std.specs.List.{join_with_byte}
use Rattle.ansi_scan.specs.Pieces.{pieces}
use Rattle.grid_records_measure.specs.TextLines.{line_feed}
use Rattle.tabled_size_wrap.specs.Runs.{wrapped_lines}
use Rattle.tabled_size_wrap.proofs.OneLine.{no_width-wrapped, one_line-wrapped}
use Rattle.tabled_size_wrap.proofs.wrap.wrap_only_line.Goals as goal

pub returns-then-width-eq0-clause-bytes : goal.returns-then-width-eq0-clause-bytes
returns-then-width-eq0-clause-bytes c = no_width-wrapped c.args.line.now (string_bytes c.new-out.result) c.args.width c.args.keep_words c.if-width-eq0.true c.new-out.ensures.bytes

pub returns-clause-bytes : goal.returns-clause-bytes
returns-clause-bytes c =
    let line = c.args.line.now in
    let width = c.args.width in
    let some : 0 < width = omega (arith, c.if-width-eq0.false) in
    one_line-wrapped line (string_bytes c.push_wrapped_lines.new.out) width c.args.keep_words some c.requires
    (c.in_ok-push_wrapped_lines.ensures ∙ ap (λ (bytes : List ℕ). bytes ++ join_with_byte line_feed (wrapped_lines width c.args.keep_words (pieces line))) (c.reserve.ensures.bytes ∙ c.new-out.ensures.bytes))
