use Rattle.std.proofs.Common.{refl}
use Rattle.ansi_scan.proofs.StyleLemmas.Ordering.{then-assoc}
use Rattle.ansi_scan.proofs.style.style.StylePartialOrd.partial_cmp.Goals as goal

pub returns : goal.returns
returns c =
    rw (c.or_partial_cmp-4.ensures, c.or_partial_cmp-3.ensures, c.or_partial_cmp-2.ensures, c.or_partial_cmp.ensures, c.partial_cmp.ensures, ← c.t1-1.view_is, ← c.t2-1.view_is, then-assoc, then-assoc, then-assoc) refl
