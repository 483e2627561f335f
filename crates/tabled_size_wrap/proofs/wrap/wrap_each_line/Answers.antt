-- The lines come one after the other, and all of them come.
use Rattle.std.proofs.Common.{◌≡◌, ◌∙◌, ◌<◌, ◌++◌, ◌∷◌, [], List, ℕ, Bool, flat_map, ap, sym, arith, append-nil, string_bytes, if◌then◌else◌}
use Rattle.std.specs.Cow.{cow_str_bytes}
use Rattle.std.specs.List.{join_with_byte}
use Rattle.std.proofs.lemmas.Str.{encode_ascii}
use Rattle.ansi_scan.specs.Pieces.{pieces}
use Rattle.ansi_str.specs.Splitting.{PartsLeft}
use Rattle.grid_records_measure.specs.TextLines.{line_feed}
use Rattle.tabled_size_wrap.specs.Runs.{wrapped_lines}
use Rattle.tabled_size_wrap.proofs.Wraps.{lines_left, line-more, line-last, next-line, is-wrapped}
use Rattle.tabled_size_wrap.proofs.wrap.wrap_each_line.Goals as goal
use Rattle.tabled_size_wrap.proofs.wrap.wrap_each_line.Goals.{then-begun+in_ok-push, else-begun}

pub loop-line-preserved-in_ok-push_wrapped_lines : goal.loop-line-preserved-in_ok-push_wrapped_lines
loop-line-preserved-in_ok-push_wrapped_lines c =
    let l = c.loop-line in
    let fed : string_bytes c.if-begun.out ≡ string_bytes l.out ++ (if l.begun then line_feed ∷ [] else []) =
    elim c.if-begun.branch [
      | then-begun+in_ok-push w ↦
          let low : line_feed < 128 = omega arith in
          ap string_bytes w.out-is ∙ w.in_ok-push.ensures.bytes ∙ ap (λ (bytes : List ℕ). string_bytes l.out ++ bytes) (encode_ascii line_feed low)
          ∙ sym (ap (λ (begun : Bool). string_bytes l.out ++ (if begun then line_feed ∷ [] else [])) w.if-begun.true)
      | else-begun w ↦
          ap string_bytes w.out-is ∙ sym (append-nil (string_bytes l.out))
          ∙ sym (ap (λ (begun : Bool). string_bytes l.out ++ (if begun then line_feed ∷ [] else [])) w.if-begun.false)
    ] in
    let line = cow_str_bytes c.in_ok-line.line in
    let written = c.in_ok-push_wrapped_lines.ensures ∙ ap (λ (bytes : List ℕ). string_bytes c.if-begun.out ++ join_with_byte line_feed (wrapped_lines c.args.width c.args.keep_words (pieces bytes))) c.deref.ensures.value in
    let come = next-line l.line-iterator c.next.new.self c.in-Some.line c.in_ok-line.line c.in-Some.ensures.steps c.in_ok-line.was in
    line-more c.args.width c.args.keep_words l.begun (string_bytes l.out) (string_bytes c.if-begun.out) (string_bytes c.push_wrapped_lines.new.out) line c.next.new.self.parts
    (join_with_byte line_feed (flat_map (λ others. wrapped_lines c.args.width c.args.keep_words (pieces others)) c.into_iter-line-iterator.result.parts))
    fed written (ap (λ (lines : List (List ℕ)). string_bytes l.out ++ lines_left c.args.width c.args.keep_words l.begun lines) (sym come) ∙ l.invariant)

pub loop-line-preserved : goal.loop-line-preserved
loop-line-preserved c =
    let l = c.loop-line in
    let fed : string_bytes c.if-begun.out ≡ string_bytes l.out ++ (if l.begun then line_feed ∷ [] else []) =
    elim c.if-begun.branch [
      | then-begun+in_ok-push w ↦
          let low : line_feed < 128 = omega arith in
          ap string_bytes w.out-is ∙ w.in_ok-push.ensures.bytes ∙ ap (λ (bytes : List ℕ). string_bytes l.out ++ bytes) (encode_ascii line_feed low)
          ∙ sym (ap (λ (begun : Bool). string_bytes l.out ++ (if begun then line_feed ∷ [] else [])) w.if-begun.true)
      | else-begun w ↦
          ap string_bytes w.out-is ∙ sym (append-nil (string_bytes l.out))
          ∙ sym (ap (λ (begun : Bool). string_bytes l.out ++ (if begun then line_feed ∷ [] else [])) w.if-begun.false)
    ] in
    let line = cow_str_bytes c.in_ok-line.line in
    let written = c.in_ok-push_wrapped_lines.ensures ∙ ap (λ (bytes : List ℕ). string_bytes c.if-begun.out ++ join_with_byte line_feed (wrapped_lines c.args.width c.args.keep_words (pieces bytes))) c.deref.ensures.value in
    let come = next-line l.line-iterator c.next.new.self c.in-Some.line c.in_ok-line.line c.in-Some.ensures.steps c.in_ok-line.was in
    line-more c.args.width c.args.keep_words l.begun (string_bytes l.out) (string_bytes c.if-begun.out) (string_bytes c.push_wrapped_lines.new.out) line c.next.new.self.parts
    (join_with_byte line_feed (flat_map (λ others. wrapped_lines c.args.width c.args.keep_words (pieces others)) c.into_iter-line-iterator.result.parts))
    fed written (ap (λ (lines : List (List ℕ)). string_bytes l.out ++ lines_left c.args.width c.args.keep_words l.begun lines) (sym come) ∙ l.invariant)

pub returns : goal.returns
returns c = λ ps of_text.
    let l = c.loop-line in
    let all : List (List ℕ) → List ℕ = λ lines. join_with_byte line_feed (flat_map (λ line. wrapped_lines c.args.width c.args.keep_words (pieces line)) lines) in
    let none : l.line-iterator.parts ≡ [] = c.in-None.ensures.steps.1.0 in
    let same : c.into_iter-line-iterator.result ≡ c.get_lines-line-items.result = c.into_iter-line-iterator.ensures.into_iter_gives in
    is-wrapped c.args.width c.args.keep_words ps (string_bytes l.out) c.get_lines-line-items.result.parts c.requires (c.get_lines-line-items.ensures.lines ps of_text)
    (line-last c.args.width c.args.keep_words l.begun (string_bytes l.out) (all c.into_iter-line-iterator.result.parts) l.line-iterator.parts none l.invariant
    ∙ ap (λ (left : PartsLeft). all left.parts) same)
