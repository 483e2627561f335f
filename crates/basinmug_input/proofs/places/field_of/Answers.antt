-- One byte more is read.
use Rattle.std.proofs.Common.{◌<◌, ℕ, List, length, take, sym, subst, arith}
use Rattle.std.proofs.lemmas.List.{take_more}
use Rattle.basinmug_input.specs.Reading.{settings}
use Rattle.basinmug_input.specs.Walking.{IsReadOf}
use Rattle.basinmug_input.proofs.places.field_of.Goals as goal

pub loop-i-init : goal.loop-i-init
loop-i-init c = record { read = c.start-read.ensures.read c.args.delimiter; few = c.start-read.ensures.few }

pub loop-i-preserved : goal.loop-i-preserved
loop-i-preserved c =
    let text = c.args.text.now in
    let i = c.loop-i.i in
    let known = c.loop-i.invariant in
    let below : i < length text = omega (arith, c.requires) in
    record {
      read = subst (λ (front : List ℕ). IsReadOf (settings c.args.delimiter) front c.with-read.result) (sym (take_more text i 0 below)) (c.with-read.ensures.read (take i text) known.read);
      few = c.with-read.ensures.few i known.few;
    }
