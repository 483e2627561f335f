use Rattle.std.proofs.Common.{◌≡◌, ◌-◌, ◌<◌, length}
use Rattle.columns_table.specs.KeptEnds.{ends_of}
use Rattle.columns_table.proofs.ends.give_widths.Given as goal

-- the ends are what they were
abbrev pub invariant-loop-widths : goal.invariant-loop-widths
invariant-loop-widths l = record {
  within : length l.widths.items < length l.starts;
  same : ends_of l.widths.items l.starts ≡ ends_of l.initial.widths.items l.starts;
}

abbrev pub decreases-loop-widths : goal.decreases-loop-widths
decreases-loop-widths l = length l.starts - length l.widths.items
