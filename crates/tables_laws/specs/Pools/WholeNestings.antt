-- Nestings of boxes whose texts are whole.
use Rattle.papergrid_picture.specs.Shown.{IsWholeText}
use Rattle.tabled_pool.specs.Boxes.Values.{Nesting, Text, Beside, Stacked, Nestings, NoMore, Member}

abbrev mutual
  -- each of its texts is whole, however deep it lies
  pub IsWholeNesting : Nesting → Type 0
  IsWholeNesting (Text text) = IsWholeText text
  IsWholeNesting (Beside nestings) = AreWholeNestings nestings
  IsWholeNesting (Stacked nestings) = AreWholeNestings nestings

  pub AreWholeNestings : Nestings → Type 0
  AreWholeNestings NoMore = Unit {0}
  AreWholeNestings (Member nesting nestings) = IsWholeNesting nesting × AreWholeNestings nestings
