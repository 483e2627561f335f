-- The bytes of a line, looked at one after the other.
use Rattle.std.proofs.Common.{◌≡◌, ◌∙◌, sym, subst, ℕ, List, arith, get_or}
use Rattle.basinmug_columns.proofs.FittingLemmas.Plain.{line-shows, shows-byte, shows-end}
use Rattle.basinmug_columns.proofs.fitting.wrapping.plain_line_shows.Goals as goal

pub returns-then-byte-ne32 : goal.returns-then-byte-ne32
returns-then-byte-ne32 c =
    let line = c.args.line.now in
    let at = c.loop-byte.byte-index in
    let other : ¬ (get_or line at 0 ≡ 0x20) = subst (λ (bytes : List ℕ). ¬ (get_or bytes at 0 ≡ 0x20)) c.as_bytes-byte-items.ensures.value c.if-byte-ne32.true in
    shows-byte line at (omega (arith, c.loop-byte-test.true)) other ∙ c.loop-byte.invariant ∙ sym (line-shows line c.utf8.line c.requires)

pub returns : goal.returns
returns c =
    let line = c.args.line.now in
    shows-end line c.loop-byte.byte-index (omega (arith, c.loop-byte-test.false)) ∙ c.loop-byte.invariant ∙ sym (line-shows line c.utf8.line c.requires)
