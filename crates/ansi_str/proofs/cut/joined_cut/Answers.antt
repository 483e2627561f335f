use Rattle.ansi_str.proofs.cut.joined_cut.Goals as goal

pub returns : goal.returns
returns c = rw (← c.in_ok-before.ensures, ← c.end-end.ensures) c.format.ensures.ok
