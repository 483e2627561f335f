-- A step over a byte of the first line.
use Rattle.std.proofs.Common.{◌≡◌, ◌∙◌, ◌+◌, ◌-◌, ℕ, Bool, true, List, [], ◌∷◌, add-zero, ap, drop, length, refl, take, zero-add}
use Rattle.std.proofs.lemmas.Bool.{false≢true}
use Rattle.std.proofs.lemmas.List.{drop-drop, take_rest}
use Rattle.basinmug_delimiter.specs.Counting.{counts_of, plus}
use Rattle.basinmug_delimiter.specs.Places.{covered_at, outside_from}
use Rattle.basinmug_delimiter.specs.States.{is_ended, state_after}
use Rattle.basinmug_delimiter.specs.declared.counts.Counts.{Counts}
use Rattle.basinmug_delimiter.specs.declared.state.State.{State}
use Rattle.basinmug_delimiter.specs.declared.state.State.TheVariants.{Before, FieldStart, Field, Quoted, AfterQuote, Ended}

-- ---- counts

pub plus-none : (a : Counts) → plus a (counts_of []) ≡ a
plus-none a = λ i. record {
  tabs = add-zero a.tabs i;
  commas = add-zero a.commas i;
  semicolons = add-zero a.semicolons i;
  bars = add-zero a.bars i;
}

pub none-plus : (a : Counts) → plus (counts_of []) a ≡ a
none-plus a = λ i. record {
  tabs = zero-add a.tabs i;
  commas = zero-add a.commas i;
  semicolons = zero-add a.semicolons i;
  bars = zero-add a.bars i;
}

-- ---- after the first line nothing is outside

pub ended-only : (state : State) → is_ended state ≡ true → state ≡ Ended
ended-only Before is = absurd (false≢true is)
ended-only FieldStart is = absurd (false≢true is)
ended-only Field is = absurd (false≢true is)
ended-only Quoted is = absurd (false≢true is)
ended-only AfterQuote is = absurd (false≢true is)
ended-only Ended is = refl

pub none-after : (quotes : Bool) (covered before : ℕ) (bytes : List ℕ) → outside_from quotes Ended covered before bytes ≡ []
none-after quotes covered before [] = refl
none-after quotes covered before (byte ∷ rest) = none-after quotes (covered_at covered (byte ∷ rest) - 1) byte rest

pub stays-ended : (quotes : Bool) (bytes : List ℕ) → state_after quotes Ended bytes ≡ Ended
stays-ended quotes [] = refl
stays-ended quotes (byte ∷ rest) = stays-ended quotes rest

-- ---- one byte more

pub after-one : (text : List ℕ) (at : ℕ) → drop 1 (take (length text - at) (drop at text)) ≡ drop (at + 1) text
after-one text at = ap (drop 1) (take_rest text at) ∙ drop-drop 1 at text
