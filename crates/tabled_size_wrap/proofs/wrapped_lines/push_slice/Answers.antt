-- Bytes of text in no style are appended as they are.
use Rattle.std.proofs.Common.{◌≡◌, ◌∙◌, ◌-◌, ◌++◌, List, ℕ, ap, arith, string_bytes, take}
use Rattle.ansi_scan.specs.Pieces.{pieces}
use Rattle.tabled_size_wrap.proofs.PlainSlices.{slice-boundary, slice-bytes, slice-known, slice-rest}
use Rattle.tabled_size_wrap.proofs.wrapped_lines.push_slice.Goals as goal

pub range-requires-clause-end_boundary : goal.range-requires-clause-end_boundary
range-requires-clause-end_boundary c =
    let from = c.args.place.now in
    slice-boundary from.rest.now from.style c.args.len c.requires (c.shows_text_alone.ensures.run c.if-shows_text_alone.true)

pub range_from-place-requires : goal.range_from-place-requires
range_from-place-requires c = λ _.
    let from = c.args.place.now in
    slice-boundary from.rest.now from.style c.args.len c.requires (c.shows_text_alone.ensures.run c.if-shows_text_alone.true)

pub returns-then-shows_text_alone-clause-pushes : goal.returns-then-shows_text_alone-clause-pushes
returns-then-shows_text_alone-clause-pushes c =
    let from = c.args.place.now in
    let alone = c.shows_text_alone.ensures in
    let yes = c.if-shows_text_alone.true in
    let from-start : c.args.len - 0 ≡ c.args.len = omega arith in
    c.in_ok-push_str.ensures.bytes ∙ ap (λ (bytes : List ℕ). string_bytes c.args.out.now ++ bytes)
    (c.range.ensures.value ∙ ap (λ n. take n from.rest.now) from-start
    ∙ slice-bytes from.rest.now from.style c.args.len c.requires (alone.run yes) (alone.behind yes) (c.is_plain.ensures.0 c.if-is_plain.true) (alone.enough yes))

pub returns-then-shows_text_alone-clause-rest : goal.returns-then-shows_text_alone-clause-rest
returns-then-shows_text_alone-clause-rest c =
    let from = c.args.place.now in
    let alone = c.shows_text_alone.ensures in
    let yes = c.if-shows_text_alone.true in
    ap pieces c.range_from-place.ensures.value ∙ slice-rest from.rest.now from.style c.args.len c.requires (alone.run yes) (alone.behind yes)

pub returns-then-shows_text_alone-clause-style : goal.returns-then-shows_text_alone-clause-style
returns-then-shows_text_alone-clause-style c =
    let from = c.args.place.now in
    let alone = c.shows_text_alone.ensures in
    let yes = c.if-shows_text_alone.true in
    slice-known from.rest.now from.style c.args.len c.requires (alone.run yes) (alone.behind yes)
