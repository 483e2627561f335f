-- What is said of each is computed, and is not so.
use Rattle.std.proofs.Common.{◌≡◌, ap, arith, ℕ, List, [], ◌∷◌, codes, get_or}
use Rattle.csv.proofs.OnLiterals.{csv_on_literals}
use Rattle.basinmug_delimiter.specs.declared.Found.{Found}
use Rattle.basinmug_head.proofs.laws.no_heads_by_hand.Goals as goal

pub returns : goal.returns
unfolding csv_on_literals
returns c = record {
  two = λ is. let clash : (codes "a" ∷ []) ∷ (codes "b" ∷ []) ∷ [] ≡ (codes "a" ∷ []) ∷ [] = is.first in cc clash;
  none = λ is. let clash : [] ≡ (codes "a" ∷ []) ∷ [] = is.first in cc clash;
  later = λ is. let clash : 0x61 ≡ 0x62 = ap (λ (bytes : List ℕ). get_or bytes 0 0) is.front in absurd (omega arith);
  another_byte = λ is. let clash : 0x3b ≡ 0x2c = ap (λ (found : Found). found.delimiter) is.finding.found_by in absurd (omega arith);
}
