-- A full line more is written, or the last one.
use Rattle.std.proofs.Common.{◌∙◌, ◌<◌, ◌≤◌, ◌++◌, ◌∷◌, [], List, ℕ, length, ap, sym, subst, arith, length-drop, string_bytes}
use Rattle.std.proofs.lemmas.Str.{IsUtf8-from_ascii, encode_ascii}
use Rattle.grid_records_measure.specs.TextLines.{line_feed}
use Rattle.grid_records_measure.proofs.PrintableWidth.{printable-ascii}
use Rattle.tabled_size_wrap.proofs.CountedLines.{IsCounted-columns, IsCounted-lines, IsCounted-more, IsCounted-start}
use Rattle.tabled_size_wrap.proofs.Printable.{Filled, Filled-start, Filled-more, Filled-last}
use Rattle.tabled_size_wrap.proofs.full_lines.full_lines.Goals as goal

pub loop-rest-init : goal.loop-rest-init
loop-rest-init c = record {
  utf8 = c.utf8.text;
  filled = Filled-start c.args.text.now c.requires.printable c.args.width c.requires.some_text (string_bytes c.in_ok-out.out) c.in_ok-out.ensures.bytes;
  counted = IsCounted-start (string_bytes c.in_ok-out.out) c.in_ok-out.ensures.bytes;
  less = omega arith;
  few = omega arith;
}

pub loop-rest-preserved : goal.loop-rest-preserved
loop-rest-preserved c =
    let l = c.loop-rest in
    let width = c.args.width in
    let low : line_feed < 128 = omega arith in
    let written =
    c.in_ok-push.ensures.bytes ∙ ap (λ (bytes : List ℕ). string_bytes c.push_str.new.self ++ bytes) (encode_ascii line_feed low)
    ∙ ap (λ (bytes : List ℕ). bytes ++ line_feed ∷ []) (c.in_ok-push_str.ensures.bytes ∙ ap (λ (bytes : List ℕ). string_bytes l.out ++ bytes) c.split_at.ensures.front) in
    let more = Filled-more c.args.text.now c.requires.printable width (string_bytes l.out) l.rest.now l.invariant.filled c.requires.some_width c.loop-rest-test.true (string_bytes c.push.new.self) written in
    let behind = c.split_at.result.1.now in
    let left = subst (λ (bytes : List ℕ). Filled c.args.text.now width (string_bytes c.push.new.self) bytes) (sym c.split_at.ensures.back) more in
    let shorter = ap length c.split_at.ensures.back ∙ length-drop width l.rest.now in
    record {
      utf8 = IsUtf8-from_ascii behind (printable-ascii behind left.printable);
      filled = left;
      counted = IsCounted-more (string_bytes l.out) l.rest.now (string_bytes c.push.new.self) width l.lines l.columns l.invariant.counted l.invariant.filled.printable l.invariant.less c.loop-rest-test.true written;
      less = omega arith;
      few = omega (arith, shorter, l.invariant.few, c.requires.some_width, c.loop-rest-test.true);
    }

pub returns : goal.returns
returns c =
    let l = c.loop-rest in
    let fits : length l.rest.now ≤ c.args.width = omega (arith, c.loop-rest-test.false) in
    c.in_ok-push_str-2.ensures.bytes ∙ Filled-last c.args.text.now c.requires.printable c.args.width (string_bytes l.out) l.rest.now l.invariant.filled c.requires.some_width fits

pub invariant_of-result : goal.invariant_of-result
invariant_of-result c =
    let l = c.loop-rest in
    let is = c.in_ok-push_str-2.ensures.bytes in
    let out = string_bytes l.out in
    let written = string_bytes c.push_str-2.new.self in
    record {
      measured = (
        IsCounted-lines out l.rest.now written l.lines l.columns l.invariant.counted l.invariant.filled.printable is,
        λ ps of_text. c.max.ensures ∙ IsCounted-columns out l.rest.now written l.lines l.columns l.invariant.counted l.invariant.filled.printable is ps of_text,
      );
    }
