-- The contract of a step implies that of the trait.
use Rattle.ansi_scan.proofs.items.ScanIterator.TheImpl.Goals as goal

pub next-tells : goal.next-tells
next-tells = λ g x c. record {
  steps = c.ensures.steps;
  goes = record { on = c.ensures.goes.on; keeps = c.ensures.goes.keeps; rests = c.ensures.goes.rests };
}
