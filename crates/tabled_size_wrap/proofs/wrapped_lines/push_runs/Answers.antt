-- A unit that comes next is kept or marked, on a line on which it fits.
use Rattle.std.proofs.Common.{rules, ◌≡◌, ◌∙◌, ◌+◌, ◌-◌, ◌<◌, ◌≤◌, ◌++◌, List, ℕ, length, ap, sym, subst, arith, string_bytes}
use Rattle.std.specs.List.{join_with_byte, repeat}
use Rattle.std.proofs.lemmas.Result.{on_ok_weaker}
use Rattle.ansi_scan.specs.Sequences.{Piece}
use Rattle.ansi_scan.specs.Pieces.{pieces}
use Rattle.ansi_str.specs.StyledText.{strip}
use Rattle.ansi_str_search.proofs.Rests.{strip-fits}
use Rattle.grid_records_measure.specs.TextLines.{line_feed}
use Rattle.tabled_size_wrap.specs.Wrapping.{line_part, replacement_bytes}
use Rattle.tabled_size_wrap.specs.Runs.{wrapped_lines}
use Rattle.tabled_size_wrap.specs.Standing.{StandsAt}
use Rattle.tabled_size_wrap.specs.declared.line_units.Unit.{Unit}
use Rattle.tabled_size_wrap.proofs.Standing.{stands-start, stands-next}
use Rattle.tabled_size_wrap.proofs.Walks.{Walked, Walked-start, Walked-end, kept-good, forward, some-len, more-fits, unit-good, unit-kept, unit-marked, Roomy-made}
use Rattle.tabled_size_wrap.proofs.wrapped_lines.push_runs.Goals as goal

-- the line shows some text
some-shown : (line shown : List ℕ) → shown ≡ strip (pieces line) → 0 < length shown → 0 < length (strip (pieces line))
some-shown line shown is some = subst (λ (bytes : List ℕ). 0 < length bytes) is some

pub loop-unit-init : goal.loop-unit-init
loop-unit-init c =
    let line = pieces c.args.line.now in
    let from = c.start_of in
    let out = string_bytes c.args.out.now in
    let all = out ++ join_with_byte line_feed (wrapped_lines c.args.width c.args.keep_words line) in
    let same : c.into_iter-unit-iterator.result ≡ c.new-unit-items.result = cc in
    record {
      goes = search rules;
      walked = subst (λ (units : List Unit). Walked line c.args.width all out from.result.rest.now from.result.style 0 0 units) (sym (same ∙ c.new-unit-items.ensures))
          (Walked-start line c.args.width c.args.keep_words c.args.stripped.now out from.result.rest.now from.result.style
          (stands-start c.args.line.now from.result.rest.now from.result.style from.ensures.rest from.ensures.style) c.requires.shown c.utf8.stripped);
    }

pub overflow_sub-len : goal.overflow_sub-len
overflow_sub-len c =
    let l = c.loop-unit in
    forward _ _ _ _ _ _ _ _ _ l.invariant.walked c.in-Some.unit c.next.new.self c.in-Some.ensures.steps

pub make_room-requires-clause-good : goal.make_room-requires-clause-good
make_room-requires-clause-good c = kept-good _ _ _ _ _ _ _ _ _ c.loop-unit.invariant.walked

pub overflow_add-run : goal.overflow_add-run
overflow_add-run c =
    let roomy = Roomy-made _ _ _ _ c.loop-unit.run c.make_room.new.self _ c.loop-unit.invariant.walked c.in-Some.unit c.next.new.self c.in-Some.ensures.steps c.requires.some_width
    (some-shown c.args.line.now c.args.stripped.now c.requires.shown c.requires.some_text) _ c.in_ok-make_room.ensures in
    let here = more-fits _ _ _ _ _ _ _ _ _ roomy.walked c.in-Some.unit c.next.new.self c.in-Some.ensures.steps in
    let bound = strip-fits c.args.line.now in
    let fits : c.make_room.new.self.kept + (c.in-Some.unit.end - c.in-Some.unit.start) ≤ length c.args.line.now = omega (arith, here, bound) in
    search (rules, fits)

pub loop-unit-preserved-then-unit-width : goal.loop-unit-preserved-then-unit-width
loop-unit-preserved-then-unit-width c =
    let roomy = Roomy-made _ _ _ _ c.loop-unit.run c.make_room.new.self _ c.loop-unit.invariant.walked c.in-Some.unit c.next.new.self c.in-Some.ensures.steps c.requires.some_width
    (some-shown c.args.line.now c.args.stripped.now c.requires.shown c.requires.some_text) _ c.in_ok-make_room.ensures in
    record {
      goes = search rules;
      walked = unit-kept _ _ _ _ _ _ _ _ _ roomy.walked c.in-Some.unit c.next.new.self c.in-Some.ensures.steps roomy.has_room c.if-unit-width.true;
    }

pub push_part-requires : goal.push_part-requires
push_part-requires c =
    let roomy = Roomy-made _ _ _ _ c.loop-unit.run c.make_room.new.self _ c.loop-unit.invariant.walked c.in-Some.unit c.next.new.self c.in-Some.ensures.steps c.requires.some_width
    (some-shown c.args.line.now c.args.stripped.now c.requires.shown c.requires.some_text) _ c.in_ok-make_room.ensures in
    kept-good _ _ _ _ _ _ _ _ _ roomy.walked

pub through-run-requires : goal.through-run-requires
through-run-requires c =
    let roomy = Roomy-made _ _ _ _ c.loop-unit.run c.make_room.new.self _ c.loop-unit.invariant.walked c.in-Some.unit c.next.new.self c.in-Some.ensures.steps c.requires.some_width
    (some-shown c.args.line.now c.args.stripped.now c.requires.shown c.requires.some_text) _ c.in_ok-make_room.ensures in
    let line = pieces c.args.line.now in
    let end = c.push_part.new.place in
    unit-good _ _ _ _ _ _ _ _ _ roomy.walked c.in-Some.unit c.next.new.self c.in-Some.ensures.steps end.rest.now end.style (c.in_ok-push_part.ensures.stands line roomy.walked.at roomy.walked.stands)

pub loop-unit-preserved : goal.loop-unit-preserved
loop-unit-preserved c =
    let roomy = Roomy-made _ _ _ _ c.loop-unit.run c.make_room.new.self _ c.loop-unit.invariant.walked c.in-Some.unit c.next.new.self c.in-Some.ensures.steps c.requires.some_width
    (some-shown c.args.line.now c.args.stripped.now c.requires.shown c.requires.some_text) _ c.in_ok-make_room.ensures in
    let line = pieces c.args.line.now in
    let shown = some-shown c.args.line.now c.args.stripped.now c.requires.shown c.requires.some_text in
    let end = c.push_part.new.place in
    let behind = c.through-run.result in
    let len = c.in-Some.unit.end - c.in-Some.unit.start in
    let some : 0 < len = some-len _ _ _ _ _ _ _ _ _ roomy.walked c.in-Some.unit c.next.new.self c.in-Some.ensures.steps in
    let stands = stands-next line end.rest.now end.style len behind.rest.now behind.style c.through-run.ensures.rest c.through-run.ensures.style (roomy.walked.at + c.make_room.new.self.kept)
    (c.in_ok-push_part.ensures.stands line roomy.walked.at roomy.walked.stands) some in
    let marks = repeat (c.args.width - c.make_room.new.self.used) replacement_bytes in
    let written = c.in_ok-push_replacements.ensures ∙ ap (λ (bytes : List ℕ). bytes ++ marks) (c.in_ok-push_part.ensures.pushes line roomy.walked.at roomy.walked.stands shown) in
    record {
      goes = search rules;
      walked = unit-marked _ _ _ _ _ _ _ _ _ roomy.walked c.in-Some.unit c.next.new.self c.in-Some.ensures.steps roomy.has_room c.if-unit-width.false behind.rest.now behind.style stands (string_bytes c.push_replacements.new.out) written;
    }

pub push_part-requires-2 : goal.push_part-requires-2
push_part-requires-2 c = kept-good _ _ _ _ _ _ _ _ _ c.loop-unit.invariant.walked

pub returns : goal.returns
returns c =
    let line = pieces c.args.line.now in
    let l = c.loop-unit in
    let shown = some-shown c.args.line.now c.args.stripped.now c.requires.shown c.requires.some_text in
    let all = string_bytes c.args.out.now ++ join_with_byte line_feed (wrapped_lines c.args.width c.args.keep_words line) in
    let walked = l.invariant.walked in
    let last = Walked-end line c.args.width all (string_bytes l.out) l.run.place.rest.now l.run.place.style l.run.kept l.run.used l.unit-iterator walked c.in-None.ensures.steps.0 in
    let more : ((p : List Piece) → (at : ℕ) → StandsAt p at l.run.place.rest.now l.run.place.style → 0 < length (strip p) → string_bytes c.push_part-2.new.out ≡ string_bytes l.out ++ line_part p at (at + l.run.kept))
    → string_bytes c.push_part-2.new.out ≡ all =
    λ pushes. pushes line walked.at walked.stands shown ∙ last in
    on_ok_weaker c.push_part-2.result more c.push_part-2.ensures.pushes
