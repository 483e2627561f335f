-- The records so far are the first of the text, sound, and kept as is chosen.
use Rattle.std.proofs.Common.{◌≡◌, ℕ, List, [], Some, length, map, true}
use Rattle.std.specs.List.{AllByRecursion}
use Rattle.csv.specs.Reading.{Reached, Ready, is_flexible, reader_config, reader_state, reader_trim, source_of, strip_bom}
use Rattle.csv.specs.declared.parser.State.TheVariants as st
use Rattle.csv.specs.declared.reader.Trim.TheVariants as trim
use Rattle.basinmug_input.specs.Cleaning.{cleaned}
use Rattle.basinmug_input.specs.Flaws.{IsReadableField}
use Rattle.basinmug_input.specs.Kept.{HasKept}
use Rattle.basinmug_input.specs.Reading.{settings}
use Rattle.basinmug_input.proofs.records.read_rows.Given as goal

abbrev pub invariant-loop-count : goal.invariant-loop-count
invariant-loop-count l = record {
  trim : reader_trim l.reading.reader ≡ trim.None;
  ready : Ready l.reading.reader;
  flexible : is_flexible l.reading.reader ≡ true;
  config : reader_config l.reading.reader ≡ settings l.delimiter;
  left : List ℕ;
  raw : List (List (List ℕ));
  source : source_of (λ s. Some s.now) l.reading.reader ≡ Some left;
  reached : Reached (settings l.delimiter) st.StartRecord (strip_bom l.bytes) raw (reader_state l.reading.reader) left;
  counted : l.count ≡ length raw;
  kept : HasKept l.fn.choice [] (map (map (cleaned l.escapes)) raw) [] l.kept;
  sound : AllByRecursion (AllByRecursion (IsReadableField l.escapes)) raw;
}
