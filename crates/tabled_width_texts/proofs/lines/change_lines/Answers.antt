use Rattle.std.proofs.Common.{◌≡◌, ◌∙◌, ◌++◌, [], List, ℕ, ap, sym, map, string_bytes}
use Rattle.std.specs.Cow.{cow_str_bytes}
use Rattle.std.specs.List.{join_with_byte}
use Rattle.ansi_scan.specs.Pieces.{pieces}
use Rattle.ansi_scan.proofs.Existence.{ArePiecesOf-pieces}
use Rattle.ansi_str.specs.Splitting.{PartsLeft}
use Rattle.grid_records_measure.specs.TextLines.{line_feed}
use Rattle.grid_records_measure.proofs.TextLines.{text_lines-one}
use Rattle.tabled_width_texts.specs.Filling.{separated}
use Rattle.tabled_width_texts.proofs.Lining.{line-last, line-more, lines_left, next-line}
use Rattle.tabled_width_texts.proofs.lines.change_lines.Goals as goal

pub loop-line-preserved-in_ok-push_behind : goal.loop-line-preserved-in_ok-push_behind
loop-line-preserved-in_ok-push_behind g c =
    let f : List ℕ → List ℕ = g.L.LineChange.becomes c.args.change.now in
    let l = c.loop-line in
    let line = cow_str_bytes c.in_ok-line.line in
    let written = c.in_ok-push_behind.ensures ∙ ap (λ (bytes : List ℕ). string_bytes l.out ++ separated l.begun (f bytes)) c.deref.ensures.value in
    let come = next-line l.line-iterator c.next.new.self c.in-Some.line c.in_ok-line.line c.in-Some.ensures.steps c.in_ok-line.was in
    line-more f l.begun (string_bytes l.out) (string_bytes c.push_behind.new.out) line c.next.new.self.parts
    (join_with_byte line_feed (map f c.into_iter-line-iterator.result.parts)) written
    (ap (λ (lines : List (List ℕ)). string_bytes l.out ++ lines_left f l.begun lines) (sym come) ∙ l.invariant)

pub loop-line-preserved : goal.loop-line-preserved
loop-line-preserved g c =
    let f : List ℕ → List ℕ = g.L.LineChange.becomes c.args.change.now in
    let l = c.loop-line in
    let line = cow_str_bytes c.in_ok-line.line in
    let written = c.in_ok-push_behind.ensures ∙ ap (λ (bytes : List ℕ). string_bytes l.out ++ separated l.begun (f bytes)) c.deref.ensures.value in
    let come = next-line l.line-iterator c.next.new.self c.in-Some.line c.in_ok-line.line c.in-Some.ensures.steps c.in_ok-line.was in
    line-more f l.begun (string_bytes l.out) (string_bytes c.push_behind.new.out) line c.next.new.self.parts
    (join_with_byte line_feed (map f c.into_iter-line-iterator.result.parts)) written
    (ap (λ (lines : List (List ℕ)). string_bytes l.out ++ lines_left f l.begun lines) (sym come) ∙ l.invariant)

pub returns : goal.returns
returns g c =
    let f : List ℕ → List ℕ = g.L.LineChange.becomes c.args.change.now in
    let l = c.loop-line in
    let text = c.args.text.now in
    let all : List (List ℕ) → List ℕ = λ lines. join_with_byte line_feed (map f lines) in
    let none : l.line-iterator.parts ≡ [] = c.in-None.ensures.steps.1.0 in
    let same : c.into_iter-line-iterator.result ≡ c.get_lines-line-items.result = c.into_iter-line-iterator.ensures.into_iter_gives in
    let lines = text_lines-one text (pieces text) c.get_lines-line-items.result.parts (ArePiecesOf-pieces text) (c.get_lines-line-items.ensures.lines (pieces text) (ArePiecesOf-pieces text)) in
    line-last f l.begun (string_bytes l.out) (all c.into_iter-line-iterator.result.parts) l.line-iterator.parts none l.invariant
    ∙ ap (λ (left : PartsLeft). all left.parts) same ∙ ap all lines
