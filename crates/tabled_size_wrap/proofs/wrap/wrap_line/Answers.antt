-- A text that is its only line is wrapped as such.
use Rattle.std.proofs.Common.{◌≡◌, Bool, false, subst, sym}
use Rattle.std.specs.List.{join_with_byte}
use Rattle.std.specs.Cow.{cow_str_bytes}
use Rattle.std.proofs.lemmas.Result.{IfOk-weaker}
use Rattle.ansi_scan.specs.Pieces.{pieces}
use Rattle.grid_records_measure.specs.TextLines.{line_feed}
use Rattle.tabled_size_wrap.specs.Bytes.{wrapped_text}
use Rattle.tabled_size_wrap.specs.Runs.{wrapped_lines}
use Rattle.tabled_size_wrap.proofs.OneLine.{one_line-wrapped}
use Rattle.tabled_size_wrap.proofs.wrap.wrap_line.Goals as goal

pub returns-then-is_printable-clause-bytes : goal.returns-then-is_printable-clause-bytes
returns-then-is_printable-clause-bytes c =
    let line = c.args.line.now in
    let width = c.args.width in
    IfOk-weaker c.full_lines.result (λ made. cow_str_bytes made.text ≡ join_with_byte line_feed (wrapped_lines width false (pieces line)))
    (λ made. cow_str_bytes made.text ≡ wrapped_text width c.args.keep_words line)
    (λ made is. subst (λ (keep : Bool). cow_str_bytes made.text ≡ wrapped_text width keep line) (sym c.if-not-keep_words.true)
    (one_line-wrapped line (cow_str_bytes made.text) width false c.if-width-gt0.true c.requires is)) c.full_lines.ensures
