-- Each byte behind the last quote that opens a field is read, and opens none.
use Rattle.std.proofs.Common.{◌≡◌, ◌<◌, ap, arith, refl, ℕ, zero, suc, List, codes, length}
use Rattle.csv.proofs.OnLiterals.{csv_on_literals}
use Rattle.csv.specs.declared.parser.Action.{Action}
use Rattle.csv.specs.declared.parser.Action.TheVariants as act
use Rattle.csv.specs.declared.parser.State.{State}
use Rattle.csv.specs.declared.parser.State.TheVariants as st
use Rattle.basinmug_input.specs.Places.{Opens}
use Rattle.basinmug_input.specs.Reading.{settings}
use Rattle.basinmug_input.proofs.laws.open_quotes_by_hand.Goals as goal

abbrev quotes : List ℕ
quotes = codes "\"a\"\n\"b\"\""

within : 4 < length quotes
within = let less : 4 < 8 = omega arith in less

opens : Opens (settings 44) quotes 4
unfolding csv_on_literals
opens = refl

-- a byte that joins its field opens none, and no more does a quote that may close it
joins : ◌≡◌ {A = State × Action} (st.InQuoted, act.Copy) (st.InQuoted, act.Skip) → ⊥
joins same = let clash : act.Copy ≡ act.Skip = ap (λ (done : State × Action). done.1) same in cc clash

closes : ◌≡◌ {A = State × Action} (st.AfterQuote, act.Skip) (st.InQuoted, act.Skip) → ⊥
closes same = let clash : st.AfterQuote ≡ st.InQuoted = ap (λ (done : State × Action). done.0) same in cc clash

none-behind : (at : ℕ) → 4 < at → at < 8 → Opens (settings 44) quotes at → ⊥
unfolding csv_on_literals
none-behind zero past less same = absurd (omega arith)
none-behind (suc zero) past less same = absurd (omega arith)
none-behind (suc (suc zero)) past less same = absurd (omega arith)
none-behind (suc (suc (suc zero))) past less same = absurd (omega arith)
none-behind (suc (suc (suc (suc zero)))) past less same = absurd (omega arith)
none-behind (suc (suc (suc (suc (suc zero))))) past less same = joins same
none-behind (suc (suc (suc (suc (suc (suc zero)))))) past less same = closes same
none-behind (suc (suc (suc (suc (suc (suc (suc zero))))))) past less same = joins same
none-behind (suc (suc (suc (suc (suc (suc (suc (suc at)))))))) past less same = absurd (omega arith)

pub returns : goal.returns
unfolding csv_on_literals
returns c = record {
  last = record { within = within; opens = opens; last = none-behind; ends = refl };
  first = λ is. is.last 4 (omega arith) within opens;
  closed = λ is. let clash : st.AfterQuote ≡ st.InQuoted = is.ends in cc clash;
}
