-- The place of the cut is that of the longest prefix; a plain text is sliced there.
use Rattle.std.proofs.Common.{◌≡◌, ◌∙◌, true, false, ◌-◌, ◌++◌, take, slice_range, ap, sym, subst, arith, append-nil, replicate, encode_utf8_all, string_bytes}
use Rattle.std.specs.Str.{IsCharBoundary}
use Rattle.std.proofs.Math.Seq.{take-length}
use Rattle.ansi_scan.specs.Pieces.{pieces}
use Rattle.ansi_scan.proofs.Existence.{ArePiecesOf-pieces}
use Rattle.ansi_str.specs.StyledText.{has_escape}
use Rattle.grid_records_measure.specs.Cutting.{replacement}
use Rattle.grid_records_measure.proofs.Cuts.{cut-bounds, cut-is, cut-without_escape, cut_at-one, lacking-plain, plain-boundary}
use Rattle.grid_records_measure.proofs.cut.cut_width.Goals.{else-lacking-eq0-via-then-lacking-eq0+else-not-ansi_has_any, else-lacking-eq0-via-else-lacking-eq0}
use Rattle.grid_records_measure.proofs.cut.cut_width.Goals as goal

pub range-requires-clause-end_boundary : goal.range-requires-clause-end_boundary
range-requires-clause-end_boundary c =
    let text = c.args.text.now in
    let none : has_escape text ≡ false = sym c.ansi_has_any.ensures ∙ c.if-not-ansi_has_any.true in
    subst (λ t. IsCharBoundary t c.place_and_lacking-place.result.0) (sym (take-length text))
    (plain-boundary c.args.width text c.place_and_lacking-place.result.0 c.utf8.text none c.place_and_lacking-place.ensures.place)

pub returns-then-not-ansi_has_any-clause-cut : goal.returns-then-not-ansi_has_any-clause-cut
returns-then-not-ansi_has_any-clause-cut c = λ ps of_text.
    let text = c.args.text.now in
    let place = c.place_and_lacking-place.result.0 in
    let n = c.place_and_lacking-place.result.1 in
    let none : has_escape text ≡ false = sym c.ansi_has_any.ensures ∙ c.if-not-ansi_has_any.true in
    let from_start : place - 0 ≡ place = omega arith in
    cut-is c.args.width text place n ps (take place text) c.range.result.now c.place_and_lacking-place.ensures.place c.place_and_lacking-place.ensures.left of_text
    (sym (cut-without_escape place text ps none of_text))
    (c.range.ensures.value ∙ ap (λ t. slice_range t 0 place) (take-length text) ∙ ap (λ k. take k text) from_start ∙ sym (append-nil (take place text)) ∙ ap (λ k. take place text ++ encode_utf8_all (replicate k replacement)) (sym c.if-lacking-eq0.true))

pub returns-then-not-ansi_has_any-clause-text : goal.returns-then-not-ansi_has_any-clause-text
returns-then-not-ansi_has_any-clause-text c =
    let text = c.args.text.now in
    cut_at-one c.args.width text c.range.result.now (pieces text) (ArePiecesOf-pieces text) (returns-then-not-ansi_has_any-clause-cut c (pieces text) (ArePiecesOf-pieces text))

pub ansi_cut-requires : goal.ansi_cut-requires
ansi_cut-requires c = λ ps of_text.
    cut-bounds c.args.width c.args.text.now c.place_and_lacking-place.result.0 ps c.utf8.text c.place_and_lacking-place.ensures.place of_text

pub returns-in_err-out-clause-answers : goal.returns-in_err-out-clause-answers
returns-in_err-out-clause-answers c = λ cut.
    let none = c.place_and_lacking-place.ensures.left ∙ lacking-plain c.args.width c.args.text.now cut in
    absurd (elim c.else-lacking-eq0.branch [
      | else-lacking-eq0-via-then-lacking-eq0+else-not-ansi_has_any w ↦ let found : true ≡ false = sym w.if-not-ansi_has_any.false ∙ w.ansi_has_any.ensures ∙ cut.plain in cc found
      | else-lacking-eq0-via-else-lacking-eq0 w ↦ w.if-lacking-eq0.false none
    ])

pub returns-in_err-push_replacements-clause-answers : goal.returns-in_err-push_replacements-clause-answers
returns-in_err-push_replacements-clause-answers c = λ cut.
    let none = c.place_and_lacking-place.ensures.left ∙ lacking-plain c.args.width c.args.text.now cut in
    absurd (elim c.else-lacking-eq0.branch [
      | else-lacking-eq0-via-then-lacking-eq0+else-not-ansi_has_any w ↦ let found : true ≡ false = sym w.if-not-ansi_has_any.false ∙ w.ansi_has_any.ensures ∙ cut.plain in cc found
      | else-lacking-eq0-via-else-lacking-eq0 w ↦ w.if-lacking-eq0.false none
    ])

pub returns-clause-cut : goal.returns-clause-cut
returns-clause-cut c = λ ps of_text.
    let text = c.args.text.now in
    let place = c.place_and_lacking-place.result.0 in
    let n = c.place_and_lacking-place.result.1 in
    cut-is c.args.width text place n ps (string_bytes c.in_ok-out.out) (string_bytes c.push_replacements.new.out) c.place_and_lacking-place.ensures.place c.place_and_lacking-place.ensures.left of_text
    (c.in_ok-out.ensures.ok ∙ c.in_ok-ansi_cut.ensures.part ps of_text) c.in_ok-push_replacements.ensures

pub returns-clause-text : goal.returns-clause-text
returns-clause-text c =
    let text = c.args.text.now in
    cut_at-one c.args.width text (string_bytes c.push_replacements.new.out) (pieces text) (ArePiecesOf-pieces text) (returns-clause-cut c (pieces text) (ArePiecesOf-pieces text))

pub returns-clause-borrows : goal.returns-clause-borrows
returns-clause-borrows c = λ cut owned.
    let none = c.place_and_lacking-place.ensures.left ∙ lacking-plain c.args.width c.args.text.now cut in
    elim c.else-lacking-eq0.branch [
      | else-lacking-eq0-via-then-lacking-eq0+else-not-ansi_has_any w ↦ let found : true ≡ false = sym w.if-not-ansi_has_any.false ∙ w.ansi_has_any.ensures ∙ cut.plain in cc found
      | else-lacking-eq0-via-else-lacking-eq0 w ↦ w.if-lacking-eq0.false none
    ]
