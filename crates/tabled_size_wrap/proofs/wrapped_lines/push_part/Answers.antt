-- A part of some bytes goes from one place to the next; of none there is no part.
use Rattle.std.proofs.Common.{◌≡◌, ◌∙◌, ◌+◌, ◌<◌, ◌++◌, List, ℕ, length, ap, subst, arith, string_bytes}
use Rattle.ansi_scan.specs.Pieces.{pieces}
use Rattle.ansi_scan.specs.Sequences.{Piece}
use Rattle.ansi_str.specs.StyledText.{strip}
use Rattle.ansi_str.specs.Parts.{dressed, through_place}
use Rattle.tabled_size_wrap.specs.Wrapping.{line_part}
use Rattle.tabled_size_wrap.specs.Standing.{StandsAt}
use Rattle.tabled_size_wrap.proofs.Standing.{stands-part, stands-next, on_ok_both}
use Rattle.std.proofs.lemmas.Result.{on_ok_weaker}
use Rattle.tabled_size_wrap.proofs.wrapped_lines.push_part.Goals as goal

pub returns-then-len-eq0-clause-stands : goal.returns-then-len-eq0-clause-stands
returns-then-len-eq0-clause-stands c = λ line at stands.
    let same : at ≡ at + c.args.len = omega (arith, c.if-len-eq0.true) in
    subst (λ n. StandsAt line n c.args.place.now.rest.now c.args.place.now.style) same stands

pub returns-clause-pushes : goal.returns-clause-pushes
returns-clause-pushes c =
    let from = c.args.place.now in
    let some : 0 < c.args.len = omega (arith, c.if-len-eq0.false) in
    let out = string_bytes c.args.out.now in
    let more : string_bytes c.push_slice.new.out ≡ out ++ dressed from.style (through_place c.args.len (pieces from.rest.now))
    → (line : List Piece) → (at : ℕ) → StandsAt line at from.rest.now from.style → 0 < length (strip line) → string_bytes c.push_slice.new.out ≡ out ++ line_part line at (at + c.args.len) =
    λ pushed line at stands _. pushed ∙ ap (λ (bytes : List ℕ). out ++ bytes) (stands-part line from.rest.now from.style c.args.len at stands some) in
    on_ok_weaker c.push_slice.result more c.push_slice.ensures.pushes

pub returns-clause-stands : goal.returns-clause-stands
returns-clause-stands c =
    let from = c.args.place.now in
    let end = c.push_slice.new.place in
    let some : 0 < c.args.len = omega (arith, c.if-len-eq0.false) in
    on_ok_both c.push_slice.result
    (λ there opened line at stands. stands-next line from.rest.now from.style c.args.len end.rest.now end.style there opened at stands some)
    c.push_slice.ensures.rest c.push_slice.ensures.style
