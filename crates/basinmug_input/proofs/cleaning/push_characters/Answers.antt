-- A character comes off the text, and what it is shown as onto the answer.
use Rattle.std.proofs.Common.{rules, ◌++◌, ◌∙◌, true, ℕ, List, [], ap, append_assoc, append-nil, chars, string_bytes, sym}
use Rattle.std.specs.Prelude.{◌==◌, ◌&&◌, not, if◌then◌else◌}
use Rattle.std.specs.Str.Iter.{chars_rest}
use Rattle.std.proofs.lemmas.List.{nil_from_length}
use Rattle.std.proofs.lemmas.Result.{on_ok_weaker}
use Rattle.std.proofs.lemmas.Str.{IsUtf8-past_char, chars_past_char, chars-nil}
use Rattle.csv.specs.Machine.{carriage_return, line_feed}
use Rattle.basinmug_input.specs.Cleaning.{cleaned_text, cleaned_char}
use Rattle.basinmug_input.proofs.Cleans.{end-cleaned, next-cleaned, waiting}
use Rattle.basinmug_input.proofs.cleaning.push_characters.Goals as goal

pub loop-c-preserved : goal.loop-c-preserved
loop-c-preserved c =
    let l = c.loop-c in
    let escapes = c.args.escapes in
    let before = chars_rest l.c-iterator in
    let behind = chars_rest c.next.new.self in
    let x = c.in-Some.c in
    let out = string_bytes l.out in
    let waits : List ℕ = if l.waits && not (x == line_feed) then cleaned_char escapes carriage_return else [] in
    let other : List ℕ = if x == carriage_return then [] else cleaned_char escapes x in
    let more = cleaned_text escapes (waiting (x == carriage_return) ++ chars behind) in
    record {
      goes = search rules;
      text = IsUtf8-past_char before behind x l.invariant.text c.in-Some.ensures.steps.0;
      left = ap (λ (bytes : List ℕ). bytes ++ more) (c.in_ok-push_other.ensures ∙ ap (λ (bytes : List ℕ). bytes ++ other) c.in_ok-push_return.ensures)
          ∙ append_assoc (out ++ waits) other more
          ∙ append_assoc out waits (other ++ more)
          ∙ ap (λ (bytes : List ℕ). out ++ bytes) (sym (next-cleaned escapes l.waits x (chars behind)))
          ∙ ap (λ (cs : List ℕ). out ++ cleaned_text escapes (waiting l.waits ++ cs)) (sym (chars_past_char before behind x l.invariant.text c.in-Some.ensures.steps.0))
          ∙ l.invariant.left;
    }

pub returns-then-waits : goal.returns-then-waits
returns-then-waits c =
    let l = c.loop-c in
    let escapes = c.args.escapes in
    let out = string_bytes l.out in
    let none = ap (λ (bytes : List ℕ). chars bytes) (nil_from_length (chars_rest l.c-iterator) c.in-None.ensures.steps.0.0) ∙ chars-nil in
    let last = ap (λ (cs : List ℕ). cleaned_text escapes (waiting l.waits ++ cs)) none ∙ ap (λ waits. cleaned_text escapes (waiting waits ++ [])) c.if-waits.true ∙ end-cleaned escapes true in
    on_ok_weaker c.push_cleaned_char.result (λ pushed. pushed ∙ ap (λ (bytes : List ℕ). out ++ bytes) (sym last) ∙ l.invariant.left) c.push_cleaned_char.ensures

pub returns : goal.returns
returns c =
    let l = c.loop-c in
    let escapes = c.args.escapes in
    let out = string_bytes l.out in
    let none = ap (λ (bytes : List ℕ). chars bytes) (nil_from_length (chars_rest l.c-iterator) c.in-None.ensures.steps.0.0) ∙ chars-nil in
    sym (append-nil out)
    ∙ sym (ap (λ (cs : List ℕ). out ++ cleaned_text escapes (waiting l.waits ++ cs)) none ∙ ap (λ waits. out ++ cleaned_text escapes (waiting waits ++ [])) c.if-waits.false)
    ∙ l.invariant.left
