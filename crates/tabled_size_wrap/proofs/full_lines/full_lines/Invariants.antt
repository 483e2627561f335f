-- What was written and what the bytes that are left give are all lines, and those that were written are counted.
use denote.Shadow.{shadow}
use denote.Text.{Utf8}
use Rattle.std.proofs.Common.{◌+◌, ◌≤◌, length, string_bytes}
use Rattle.tabled_size_wrap.proofs.CountedLines.{IsCounted}
use Rattle.tabled_size_wrap.proofs.Printable.{Filled}
use Rattle.tabled_size_wrap.proofs.full_lines.full_lines.Given as goal

abbrev pub invariant-loop-rest : goal.invariant-loop-rest
invariant-loop-rest l = record {
  utf8 : shadow (Utf8 l.rest);
  filled : Filled l.text l.width (string_bytes l.out) l.rest;
  counted : IsCounted (string_bytes l.out) l.lines l.columns;
  less : l.columns ≤ l.width;
  few : l.lines + length l.rest ≤ length l.text + 1;
}

abbrev pub decreases-loop-rest : goal.decreases-loop-rest
decreases-loop-rest l = length l.rest
