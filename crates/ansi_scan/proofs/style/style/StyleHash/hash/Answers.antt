use Rattle.std.proofs.Common.{refl}
use Rattle.std.proofs.lemmas.Grind.{fold-append}
use Rattle.ansi_scan.proofs.style.style.StyleHash.hash.Goals as goal

pub returns : goal.returns
returns g c =
    rw (c.hash-5.ensures, c.hash-4.ensures, c.hash-3.ensures, c.hash-2.ensures, c.hash.ensures, ← c.t1-1.view_is, ← fold-append, ← fold-append, ← fold-append, ← fold-append) refl
