-- One byte more is walked over.
use Rattle.std.proofs.Common.{◌≡◌, ◌∙◌, ◌+◌, ◌<◌, ◌≤◌, ℕ, List, [], ◌∷◌, ◌++◌, ap, arith, get_or, length, refl, subst, sym, take}
use Rattle.std.proofs.lemmas.List.{append-nil, append_assoc, take_all, take_more}
use Rattle.basinmug_input.specs.Reading.{settings}
use Rattle.basinmug_head.specs.Walking.{EndsRecords, IsWalkOf}
use Rattle.basinmug_head.proofs.Steps.{walk-ends, walk-on}
use Rattle.basinmug_head.proofs.walk.walked_over.Goals as goal

pub loop-at-init : goal.loop-at-init
loop-at-init c = record {
  walk = λ count text walk. subst (λ (of : List ℕ). IsWalkOf (settings c.args.delimiter) count of c.args.state c.args.left) (sym (append-nil text)) walk;
  some = λ some. some;
}

-- the byte after a prefix
one-more : (text bytes : List ℕ) (at : ℕ) → at < length bytes → (text ++ take at bytes) ++ get_or bytes at 0 ∷ [] ≡ text ++ take (at + 1) bytes
one-more text bytes at below = append_assoc text (take at bytes) (get_or bytes at 0 ∷ []) ∙ ap (λ (of : List ℕ). text ++ of) (sym (take_more bytes at 0 below))

pub loop-at-preserved : goal.loop-at-preserved
loop-at-preserved c =
    let bytes = c.args.bytes.now in
    let d = c.args.delimiter in
    let at = c.loop-at.at in
    let b = get_or bytes at 0 in
    let below : at < length bytes = omega arith in
    let known = c.loop-at.invariant in
    record {
      walk = λ count text walk.
          let before = known.walk count text walk in
          let after = walk-on d (text ++ take at bytes) b c.loop-at.still c.left_behind-still.result count c.loop-at.stands c.step-next.result.0 c.step-next.result.1 before
          c.step-next.ensures.state c.step-next.ensures.action c.left_behind-still.ensures (omega arith) in
          subst (λ (of : List ℕ). IsWalkOf (settings d) count of c.step-next.result.0 c.left_behind-still.result) (one-more text bytes at below) after;
      some = λ some. omega arith;
    }

pub returns-then-still-eq0-clause-walked : goal.returns-then-still-eq0-clause-walked
returns-then-still-eq0-clause-walked c =
    let bytes = c.args.bytes.now in
    let d = c.args.delimiter in
    let at = c.loop-at.at in
    let b = get_or bytes at 0 in
    let below : at < length bytes = omega arith in
    let known = c.loop-at.invariant in
    λ some. record {
      all = λ more. absurd (omega (arith, more));
      on = λ more. absurd (omega (arith, more));
      end = λ none count text walk.
          let before = known.walk count text walk in
          let after = walk-ends d (text ++ take at bytes) b c.loop-at.still c.left_behind-still.result count c.loop-at.stands c.step-next.result.0 c.step-next.result.1 before
          c.step-next.ensures.action c.left_behind-still.ensures c.if-still-eq0.true in
          subst (λ (of : List ℕ). EndsRecords (settings d) count of) (one-more text bytes at below) after;
    }

pub returns-clause-walked : goal.returns-clause-walked
returns-clause-walked c =
    let bytes = c.args.bytes.now in
    let d = c.args.delimiter in
    let all : length bytes ≤ c.loop-at.at = omega arith in
    let known = c.loop-at.invariant in
    λ some.
    let left = known.some some in
    record {
      all = λ more. refl;
      on = λ more count text walk.
          subst (λ (of : List ℕ). IsWalkOf (settings d) count (text ++ of) c.loop-at.stands c.loop-at.still) (take_all c.loop-at.at bytes all) (known.walk count text walk);
      end = λ none. absurd (omega (arith, left, none));
    }
