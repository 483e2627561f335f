-- A line more is written, and those that are written are the first ones.
use Rattle.std.proofs.Common.{◌≡◌, ◌∙◌, List, ℕ, [], ap, arith, refl, string_bytes, sym, take}
use Rattle.std.specs.List.{join_with_byte}
use Rattle.ansi_scan.proofs.Existence.{ArePiecesOf-pieces}
use Rattle.ansi_scan.specs.Pieces.{pieces}
use Rattle.ansi_str_search.specs.Splitting.{PartsLeft}
use Rattle.grid_records_measure.proofs.TextLines.{text_lines-one}
use Rattle.grid_records_measure.specs.TextLines.{line_feed, text_lines}
use Rattle.tabled_height.proofs.Limiting.{all_taken, line_written}
use Rattle.tabled_height.proofs.lines.first_lines.Goals as goal

pub loop-line-preserved : goal.loop-line-preserved
loop-line-preserved c =
    let l = c.loop-line in
    let wrote = line_written l.line-iterator c.next.new.self c.in-Some.line c.into_iter-line-iterator.result.parts l.taken _ (string_bytes l.out) (string_bytes c.push_line.new.out) c.in-Some.ensures.steps
    c.in_ok-push_line.ensures refl l.invariant.written l.invariant.left in
    record {
      written = wrote.0;
      left = wrote.1;
      low = omega arith;
    }

pub returns-then-taken-count : goal.returns-then-taken-count
returns-then-taken-count c =
    let l = c.loop-line in
    let text = c.args.text.now in
    let same : c.into_iter-line-iterator.result ≡ c.get_lines-line-items.result = c.into_iter-line-iterator.ensures.into_iter_gives in
    let lines : c.get_lines-line-items.result.parts ≡ text_lines text =
    text_lines-one text (pieces text) c.get_lines-line-items.result.parts (ArePiecesOf-pieces text) (c.get_lines-line-items.ensures.lines (pieces text) (ArePiecesOf-pieces text)) in
    let taken : l.taken ≡ c.args.count = omega (arith, c.if-taken-count.true) in
    l.invariant.written ∙ ap (λ (n : ℕ). join_with_byte line_feed (take n c.into_iter-line-iterator.result.parts)) taken
    ∙ ap (λ (parts : List (List ℕ)). join_with_byte line_feed (take c.args.count parts)) (ap (λ (left : PartsLeft). left.parts) same ∙ lines)

pub returns : goal.returns
returns c =
    let l = c.loop-line in
    let text = c.args.text.now in
    let none : l.line-iterator.parts ≡ [] = c.in-None.ensures.steps.1.0 in
    let same : c.into_iter-line-iterator.result ≡ c.get_lines-line-items.result = c.into_iter-line-iterator.ensures.into_iter_gives in
    let lines : c.get_lines-line-items.result.parts ≡ text_lines text =
    text_lines-one text (pieces text) c.get_lines-line-items.result.parts (ArePiecesOf-pieces text) (c.get_lines-line-items.ensures.lines (pieces text) (ArePiecesOf-pieces text)) in
    l.invariant.written ∙ ap (join_with_byte line_feed) (all_taken c.into_iter-line-iterator.result.parts l.taken c.args.count (sym l.invariant.left ∙ none) l.invariant.low)
    ∙ ap (λ (parts : List (List ℕ)). join_with_byte line_feed (take c.args.count parts)) (ap (λ (left : PartsLeft). left.parts) same ∙ lines)
