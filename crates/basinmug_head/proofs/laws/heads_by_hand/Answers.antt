-- Each is computed.
use Rattle.std.proofs.Common.{inl, inr, refl, [], codes}
use Rattle.csv.proofs.OnLiterals.{csv_on_literals}
use Rattle.basinmug_head.proofs.laws.heads_by_hand.Goals as goal

pub returns : goal.returns
unfolding csv_on_literals
returns c = record {
  asked = refl;
  found = refl;
  named = refl;
  records = refl;
  one = record {
    finding = record { front = codes "a,b\n"; behind = codes "c,d\n"; parts = refl; told = inr tt; found_by = refl };
    behind = codes "c,d\n";
    front = refl;
    first = refl;
  };
  two_lines = record {
    finding = record { front = codes "\"a\n\",b\n"; behind = codes "c,d\n"; parts = refl; told = inr tt; found_by = refl };
    behind = codes "c,d\n";
    front = refl;
    first = refl;
  };
  few = record {
    finding = record { front = codes "a\nb"; behind = []; parts = refl; told = inl refl; found_by = refl };
    behind = [];
    front = refl;
    first = refl;
  };
  none = record {
    finding = record { front = codes "a\n"; behind = []; parts = refl; told = inl refl; found_by = refl };
    behind = codes "a\n";
    front = refl;
    first = refl;
  };
  by_name = refl;
  head_by_name = record {
    finding = record { front = codes "a|b\nc\n"; behind = []; parts = refl; told = inl refl; found_by = refl };
    behind = codes "c\n";
    front = refl;
    first = refl;
  };
  marked = refl;
  asked_before_a_name = refl;
}
