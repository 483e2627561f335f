-- Settings without spans.
use Rattle.std.proofs.Common.{ℕ, List, [], Ok, Err, Result, refl}
use Rattle.grid_config_values.specs.declared.fault.Fault.{Fault}
use Rattle.grid_config_values.specs.declared.fault.Fault.TheVariants.{Memory, Range, Room, Spans}
use Rattle.grid_config_values.specs.declared.position.Position.{Position}
use Rattle.grid_config_values.specs.Spans.Spans.{AreGood, SpansSeveral, extent_at}
use Rattle.papergrid_picture.specs.Fitting.{FitsAnswer}
use Rattle.papergrid_picture.specs.Frame.{Frame}

no_anchor : (p : Position) → ¬ (SpansSeveral [] p)
unfolding extent_at
no_anchor p anchor = anchor refl

-- no spans are good
pub none_good : (rows columns : ℕ) → AreGood [] rows columns
none_good rows columns = record {
  inside = λ anchor is_anchor in_table. absurd (no_anchor anchor is_anchor);
  apart = λ a b place a_is b_is a_in b_in a_holds b_holds. absurd (no_anchor a a_is);
}

-- a result for good spans
pub answer-good : (frame : Frame) (rows : List (List (List ℕ))) (Good : Type 0) → Good → (answer : Result (Unit {0}) Fault) → FitsAnswer frame rows Good answer → FitsAnswer frame rows (Unit {0}) answer
answer-good frame rows Good good (Ok done) is = (tt, is.1, is.2)
answer-good frame rows Good good (Err Spans) is = absurd (is good)
answer-good frame rows Good good (Err Range) is = (tt, is.1)
answer-good frame rows Good good (Err (Room row column)) is = (tt, is.1, is.2)
answer-good frame rows Good good (Err Memory) is = is
