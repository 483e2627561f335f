-- Without text the line is one part.
use Rattle.std.proofs.Common.{◌≡◌, ◌∙◌, ◌++◌, List, ℕ, ap, string_bytes}
use Rattle.ansi_scan.specs.Pieces.{pieces}
use Rattle.ansi_str.specs.Parts.{dressed, through_place}
use Rattle.tabled_size_wrap.specs.Wrapping.{line_part}
use Rattle.std.proofs.lemmas.Result.{on_ok_weaker}
use Rattle.tabled_size_wrap.proofs.Standing.{part-nothing}
use Rattle.tabled_size_wrap.proofs.wrapped_lines.push_nothing.Goals as goal

pub returns : goal.returns
returns c =
    let from = c.start_of-place in
    let same = part-nothing c.args.line.now from.result.rest.now from.result.style c.requires from.ensures.rest from.ensures.style in
    let out = string_bytes c.args.out.now in
    let more : string_bytes c.push_slice.new.out ≡ out ++ dressed from.result.style (through_place 0 (pieces from.result.rest.now)) → string_bytes c.push_slice.new.out ≡ out ++ line_part (pieces c.args.line.now) 0 0 =
    λ pushed. pushed ∙ ap (λ (bytes : List ℕ). out ++ bytes) same in
    on_ok_weaker c.push_slice.result more c.push_slice.ensures.pushes
