-- What was kept, and what is kept of the rest, is all.
use denote.Shadow.{shadow}
use denote.Text.{Utf8}
use Rattle.std.proofs.Common.{length, string_bytes}
use Rattle.ansi_str.proofs.Keeps.{IsKeptLeft}
use Rattle.ansi_str.proofs.trim.kept_text.Given as goal

abbrev pub invariant-loop-kind : goal.invariant-loop-kind
invariant-loop-kind l = shadow (Utf8 l.rest) × IsKeptLeft (string_bytes l.out) l.rest l.place l.from l.to l.text

abbrev pub decreases-loop-kind : goal.decreases-loop-kind
decreases-loop-kind l = length l.rest
