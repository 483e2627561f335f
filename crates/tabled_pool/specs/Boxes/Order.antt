-- Which of two nestings comes first: a row before a column, and a column before a text.
use Rattle.std.specs.declared.cmp.Ordering.{Ordering}
use Rattle.std.specs.declared.cmp.Ordering.TheVariants.{Less, Equal, Greater}
use Rattle.std.specs.Ordering.{nat_cmp, ordering_then}
use Rattle.std.specs.Cmp.Lexicographic.{slice_cmp}
use Rattle.tabled_pool.specs.Boxes.Values.{Nesting, Text, Beside, Stacked, Nestings, NoMore, Member}

abbrev mutual
  -- two rows, and two columns, member by member; two texts byte by byte
  pub compared : Nesting → Nesting → Ordering
  compared (Beside a) (Beside b) = all_compared a b
  compared (Beside a) (Stacked b) = Less
  compared (Beside a) (Text b) = Less
  compared (Stacked a) (Beside b) = Greater
  compared (Stacked a) (Stacked b) = all_compared a b
  compared (Stacked a) (Text b) = Less
  compared (Text a) (Beside b) = Greater
  compared (Text a) (Stacked b) = Greater
  compared (Text a) (Text b) = slice_cmp nat_cmp a b

  -- the first two members that differ decide, and else what has fewer comes first
  pub all_compared : Nestings → Nestings → Ordering
  all_compared NoMore NoMore = Equal
  all_compared NoMore (Member b right) = Less
  all_compared (Member a left) NoMore = Greater
  all_compared (Member a left) (Member b right) = ordering_then (compared a b) (all_compared left right)
