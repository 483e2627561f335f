use Rattle.tabled_list.proofs.Choosing.{from_left, from_right, in_turns, max_left, max_right, min_left, min_right}
use Rattle.tabled_list.proofs.by_choice.by_choice.Goals as goal
use Rattle.tabled_size_priority.specs.declared.choice.Choice.TheVariants.{None, MinLeft, MinRight, MaxLeft, MaxRight, Left, Right}

pub returns-in-None : goal.returns-in-None
returns-in-None g c = rw c.in-None.is (c.adjust_by.ensures None (in_turns c.new.result c.new.ensures))

pub returns-in-MinLeft : goal.returns-in-MinLeft
returns-in-MinLeft g c = rw c.in-MinLeft.is (c.adjust_by-in-MinLeft.ensures MinLeft (min_left c.left.result c.left.ensures))

pub returns-in-MinRight : goal.returns-in-MinRight
returns-in-MinRight g c = rw c.in-MinRight.is (c.adjust_by-in-MinRight.ensures MinRight (min_right c.right.result c.right.ensures))

pub returns-in-MaxLeft : goal.returns-in-MaxLeft
returns-in-MaxLeft g c = rw c.in-MaxLeft.is (c.adjust_by-in-MaxLeft.ensures MaxLeft (max_left c.left-in-MaxLeft.result c.left-in-MaxLeft.ensures))

pub returns-in-MaxRight : goal.returns-in-MaxRight
returns-in-MaxRight g c = rw c.in-MaxRight.is (c.adjust_by-in-MaxRight.ensures MaxRight (max_right c.right-in-MaxRight.result c.right-in-MaxRight.ensures))

pub returns-in-Left : goal.returns-in-Left
returns-in-Left g c = rw c.in-Left.is (c.adjust_by-in-Left.ensures Left (from_left c.new-in-Left.result))

pub returns-in-Right : goal.returns-in-Right
returns-in-Right g c = rw c.in-Right.is (c.adjust_by-in-Right.ensures Right (from_right c.new-in-Right.result))
