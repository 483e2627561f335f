-- One byte more is read, and after the first line nothing is met.
use Rattle.std.proofs.Common.{◌∙◌, List, ap, drop, sym}
use Rattle.std.proofs.lemmas.List.{take_rest}
use Rattle.basinmug_delimiter.specs.Counting.{counts_of, plus}
use Rattle.basinmug_delimiter.specs.Places.{outside_from}
use Rattle.basinmug_delimiter.specs.States.{state_after}
use Rattle.basinmug_delimiter.specs.Walking.{all_counts}
use Rattle.basinmug_delimiter.specs.declared.places.Place.{Place}
use Rattle.basinmug_delimiter.specs.declared.state.State.{State}
use Rattle.basinmug_delimiter.specs.declared.state.State.TheVariants.{Before}
use Rattle.basinmug_delimiter.proofs.Walks.{after-one, ended-only, none-after, none-plus, plus-none, stays-ended}
use Rattle.basinmug_delimiter.proofs.line.read_line.Goals as goal

pub returns-then-is_ended-clause-counts : goal.returns-then-is_ended-clause-counts
returns-then-is_ended-clause-counts c =
    let quotes = c.args.quotes in
    let read = c.loop-at.read in
    let left = drop c.loop-at.at c.args.text.now in
    let ended = ended-only read.state (sym c.is_ended.ensures ∙ c.if-is_ended.true) in
    let none = ap (λ (s : State). outside_from quotes s read.covered read.before left) ended ∙ none-after quotes read.covered read.before left in
    sym (plus-none read.counts)
    ∙ (ap (λ (places : List Place). plus read.counts (counts_of places)) (sym none)
    ∙ (c.loop-at.invariant.counts ∙ none-plus (counts_of (outside_from quotes Before 0 0 c.args.text.now))))

pub returns-then-is_ended-clause-state : goal.returns-then-is_ended-clause-state
returns-then-is_ended-clause-state c =
    let quotes = c.args.quotes in
    let read = c.loop-at.read in
    let left = drop c.loop-at.at c.args.text.now in
    let ended = ended-only read.state (sym c.is_ended.ensures ∙ c.if-is_ended.true) in
    ended
    ∙ (sym (ap (λ (s : State). state_after quotes s left) ended ∙ stays-ended quotes left) ∙ c.loop-at.invariant.state)

pub loop-at-preserved : goal.loop-at-preserved
loop-at-preserved c =
    let text = c.args.text.now in
    let quotes = c.args.quotes in
    let at = c.loop-at.at in
    let read = c.loop-at.read in
    let next = c.with-read.result in
    record {
      counts =
          ap (all_counts quotes next) (sym (after-one text at))
          ∙ (c.with-read.ensures.counts ∙ (ap (all_counts quotes read) (take_rest text at) ∙ c.loop-at.invariant.counts));
      state =
          ap (state_after quotes next.state) (sym (after-one text at))
          ∙ (c.with-read.ensures.state ∙ (ap (state_after quotes read.state) (take_rest text at) ∙ c.loop-at.invariant.state));
      few = c.with-read.ensures.few at c.loop-at.invariant.few;
    }
