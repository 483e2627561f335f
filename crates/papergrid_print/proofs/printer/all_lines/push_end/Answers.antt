use Rattle.std.proofs.Common.{◌++◌, [], ◌∷◌, ap, append-nil, arith, string_bytes, sym, ◌∙◌}
use Rattle.grid_records_measure.specs.TextLines.{line_feed}
use Rattle.papergrid_print.proofs.Writes.{last-ended, none-ended, not-ended, on-pushed}
use Rattle.papergrid_print.proofs.printer.all_lines.push_end.Goals as goal

pub returns-then-not-ended : goal.returns-then-not-ended
returns-then-not-ended c =
    let out = string_bytes c.args.out.now in
    sym (ap (λ l. out ++ l) (not-ended c.args.ended c.args.lines c.if-not-ended.true) ∙ append-nil out)

pub returns-then-lines-eq0 : goal.returns-then-lines-eq0
returns-then-lines-eq0 c =
    let out = string_bytes c.args.out.now in
    sym (ap (λ l. out ++ l) (none-ended c.args.ended c.args.lines c.if-lines-eq0.true) ∙ append-nil out)

pub returns : goal.returns
unfolding lib.Utf8.encode
returns c =
    let out = string_bytes c.args.out.now in
    on-pushed c.push.result (string_bytes c.push.new.self) (out ++ line_feed ∷ []) out _ (ap (λ l. out ++ l) (sym (last-ended c.args.ended c.args.lines c.if-not-ended.false (omega (arith, c.if-lines-eq0.false))))) c.push.ensures.bytes
