-- A full line more is written, or the last one.
use Rattle.std.proofs.Common.{◌≡◌, ◌∙◌, ◌+◌, ◌<◌, ◌≤◌, ◌++◌, ◌∷◌, [], List, ℕ, false, length, ap, arith, string_bytes}
use Rattle.std.specs.List.{join_with_byte}
use Rattle.std.proofs.lemmas.Result.{on_ok_weaker}
use Rattle.std.proofs.lemmas.Str.{encode_ascii}
use Rattle.ansi_scan.specs.Sequences.{Piece}
use Rattle.ansi_scan.specs.Pieces.{pieces}
use Rattle.ansi_str.specs.StyledText.{strip}
use Rattle.grid_records_measure.specs.TextLines.{line_feed}
use Rattle.tabled_size_wrap.specs.Wrapping.{line_part}
use Rattle.tabled_size_wrap.specs.Runs.{wrapped_lines}
use Rattle.tabled_size_wrap.specs.Standing.{StandsAt}
use Rattle.tabled_size_wrap.proofs.Standing.{stands-start}
use Rattle.tabled_size_wrap.proofs.Ascii.{Chunked-start, chunk-good, chunk-more, chunk-last}
use Rattle.tabled_size_wrap.proofs.wrapped_lines.push_full_lines.Goals as goal

pub loop-left-init : goal.loop-left-init
loop-left-init c =
    let from = c.start_of-place in
    Chunked-start (pieces c.args.line.now) c.args.width (string_bytes c.args.out.now) from.result.rest.now from.result.style c.args.len
    (stands-start c.args.line.now from.result.rest.now from.result.style from.ensures.rest from.ensures.style) c.requires.ascii c.requires.shown

pub push_part-requires : goal.push_part-requires
push_part-requires c =
    let l = c.loop-left in
    let fits : c.args.width ≤ l.left = omega (arith, c.loop-left-test.true) in
    chunk-good _ _ _ _ _ _ _ l.invariant c.requires.ascii c.args.width fits

pub loop-left-preserved : goal.loop-left-preserved
loop-left-preserved c =
    let line = pieces c.args.line.now in
    let l = c.loop-left in
    let at = l.invariant.at in
    let shown : 0 < length (strip line) = omega (arith, c.requires.some_text, c.requires.shown) in
    let low : line_feed < 128 = omega arith in
    let pushed = c.in_ok-push_part.ensures.pushes line at l.invariant.stands shown in
    let written = c.in_ok-push.ensures.bytes ∙ ap (λ bytes. string_bytes c.push_part.new.out ++ bytes) (encode_ascii line_feed low) ∙ ap (λ bytes. bytes ++ line_feed ∷ []) pushed in
    chunk-more _ _ _ _ _ _ _ l.invariant c.requires.ascii c.requires.some_width c.loop-left-test.true c.push_part.new.place.rest.now c.push_part.new.place.style
    (c.in_ok-push_part.ensures.stands line at l.invariant.stands) (string_bytes c.push.new.self) written

pub push_part-requires-2 : goal.push_part-requires-2
push_part-requires-2 c =
    let l = c.loop-left in
    let fits : l.left ≤ l.left = omega arith in
    chunk-good _ _ _ _ _ _ _ l.invariant c.requires.ascii l.left fits

pub returns : goal.returns
returns c =
    let line = pieces c.args.line.now in
    let l = c.loop-left in
    let shown : 0 < length (strip line) = omega (arith, c.requires.some_text, c.requires.shown) in
    let fits : l.left ≤ c.args.width = omega (arith, c.loop-left-test.false) in
    let last = chunk-last _ _ _ _ _ _ _ l.invariant c.requires.ascii c.requires.some_width fits in
    let out = string_bytes l.out in
    let all = string_bytes c.args.out.now ++ join_with_byte line_feed (wrapped_lines c.args.width false line) in
    let more : ((ps : List Piece) → (at : ℕ) → StandsAt ps at l.place.rest.now l.place.style → 0 < length (strip ps) → string_bytes c.push_part-2.new.out ≡ out ++ line_part ps at (at + l.left))
    → string_bytes c.push_part-2.new.out ≡ all =
    λ pushes. pushes line l.invariant.at l.invariant.stands shown ∙ last in
    on_ok_weaker c.push_part-2.result more c.push_part-2.ensures.pushes
