-- In quotes, the last quote so far that opens a field is known.
use Rattle.std.proofs.Common.{◌≡◌}
use Rattle.basinmug_input.specs.Places.{read_before}
use Rattle.basinmug_input.specs.Reading.{settings}
use Rattle.basinmug_input.specs.Walking.{csv_state}
use Rattle.basinmug_input.proofs.Quotes.{IsInQuotes, LastOpening}
use Rattle.basinmug_input.proofs.places.open_quote.Given as goal

abbrev pub invariant-loop-i : goal.invariant-loop-i
invariant-loop-i l = record {
  state : csv_state l.state ≡ (read_before (settings l.delimiter) l.text l.i).state;
  opening : IsInQuotes (csv_state l.state) → LastOpening (settings l.delimiter) l.text l.i l.opened;
}
