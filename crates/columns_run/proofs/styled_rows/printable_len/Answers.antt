use Rattle.std.proofs.Common.{◌≡◌, false, get_or, sym, arith}
use Rattle.std.specs.Int.{is_in_range}
use Rattle.std.proofs.lemmas.Bool.Decides.{nat_tests}
use Rattle.std.proofs.lemmas.List.Sums.{prefix_len_is}
use Rattle.columns_run.proofs.styled_rows.printable_len.Goals as goal
use Rattle.columns_run.proofs.styled_rows.printable_len.Goals.{in-32-to-126, in_default, in_default-2}

pub returns-else-matches : goal.returns-else-matches
returns-else-matches c =
    let bytes = c.args.bytes.now in
    let size = c.loop-size.size in
    let other : is_in_range 0x20 0x7E (get_or bytes size 0) ≡ false = elim c.if-matches-2.branch [
      | in-32-to-126 w ↦ grind (arith, nat_tests)
      | in_default w ↦ grind (arith, nat_tests)
      | in_default-2 w ↦ grind (arith, nat_tests)
    ] in
    sym (prefix_len_is (is_in_range 0x20 0x7E) bytes size 0 c.loop-size.invariant.0 c.loop-size.invariant.1 (λ _. other))

pub returns-after-loop-size : goal.returns-after-loop-size
returns-after-loop-size c =
    let bytes = c.args.bytes.now in
    let size = c.loop-size.size in
    let end = c.loop-size-test.false in
    sym (prefix_len_is (is_in_range 0x20 0x7E) bytes size 0 c.loop-size.invariant.0 c.loop-size.invariant.1 (λ inside. absurd (omega (arith, inside, end))))
