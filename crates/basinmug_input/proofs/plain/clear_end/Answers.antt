-- Sixteen bytes more are clear, or those before the lowest bit.
use Rattle.std.proofs.Common.{ap, arith, inl, inr}
use Rattle.std.proofs.lemmas.Bool.{cases_lt}
use Rattle.basinmug_input.proofs.Lanes.{few-pass, none-stops, these-pass}
use Rattle.basinmug_input.specs.Parts.{is_unclear}
use Rattle.basinmug_input.proofs.plain.clear_end.Goals as goal
use lib.Count.{count_trailing_zeros}

pub returns-then-unclear-ne0-clause-within : goal.returns-then-unclear-ne0-clause-within
returns-then-unclear-ne0-clause-within c =
    let known = c.loop-at.invariant in
    let is = c.unclear_in-unclear.ensures in
    let few = few-pass (is_unclear c.args.delimiter) c.args.bytes.now c.loop-at.at (omega arith) (omega (arith, is)) in
    let bits = ap (count_trailing_zeros 64) is in
    (omega (arith, known.above), omega (arith, few, bits))

pub returns-then-unclear-ne0-clause-clear : goal.returns-then-unclear-ne0-clause-clear
returns-then-unclear-ne0-clause-clear c = λ k low high.
    let known = c.loop-at.invariant in
    let is = c.unclear_in-unclear.ensures in
    let bits = ap (count_trailing_zeros 64) is in
    elim (cases_lt k c.loop-at.at) [
      | inl before ↦ known.clear k low before
      | inr here ↦ these-pass (is_unclear c.args.delimiter) c.args.bytes.now c.loop-at.at (omega arith) (omega (arith, is)) k here (omega (arith, high, bits))
    ]

pub loop-at-preserved : goal.loop-at-preserved
loop-at-preserved c =
    let known = c.loop-at.invariant in
    let is = c.unclear_in-unclear.ensures in
    record {
      above = omega (arith, known.above);
      within = omega arith;
      clear = λ k low high.
          elim (cases_lt k c.loop-at.at) [
            | inl before ↦ known.clear k low before
            | inr here ↦ none-stops (is_unclear c.args.delimiter) c.args.bytes.now c.loop-at.at (omega arith) (omega (arith, is)) k here high
          ];
    }
