use Rattle.std.proofs.Common.{◌≡◌, ◌*◌, arith, refl}
use Rattle.basinmug_bounded.specs.Cells.{AreWhole}
use Rattle.basinmug_bounded.proofs.laws.records_by_hand.Goals as goal

-- no times three are five
no-fifth : AreWhole 5 3 → ⊥
no-fifth whole = let is : 5 ≡ whole.0 * 3 = whole.1 in omega (arith, is)

no-thirds : AreWhole 2 3 → ⊥
no-thirds whole = let is : 2 ≡ whole.0 * 3 = whole.1 in omega (arith, is)

no-column : AreWhole 2 0 → ⊥
no-column whole = let is : 2 ≡ whole.0 * 0 = whole.1 in omega (arith, is)

pub returns : goal.returns
returns c = record {
  two = (2, refl);
  no_records = (0, refl);
  no_columns = (0, refl);
  part = no-fifth;
  cells_of_no_column = no-column;
  records = record { whole = (1, refl); all = refl };
  nothing = record { whole = (0, refl); all = refl };
  too_few = λ are. let is : 3 ≡ 2 = are.all in omega (arith, is);
  too_many = λ are. let is : 3 ≡ 4 = are.all in omega (arith, is);
  part_of_cells = λ are. no-thirds are.whole;
  rows = record { joined = refl; whole = ((refl, omega arith), ((refl, omega arith), tt)) };
  no_rows = record { joined = refl; whole = tt };
}
