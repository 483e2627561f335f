-- The white space at the start, and then that at the end.
use Rattle.ansi_str.proofs.Trims.{IsTrimmedAt-both, from-cut, to-cut}
use Rattle.ansi_str.proofs.trim.trimmed_bounds.Goals as goal

pub returns-clause-trimmed : goal.returns-clause-trimmed
returns-clause-trimmed c = IsTrimmedAt-both c.args.text.now c.trim_start-left.result.now c.trim_end.result.now c.trim_start-left.ensures.value c.trim_start-left.ensures.trim c.trim_end.ensures.value c.trim_end.ensures.trim

pub returns-clause-from : goal.returns-clause-from
returns-clause-from c = from-cut c.args.text.now c.trim_start-left.result.now c.trim_end.result.now c.trim_start-left.ensures.value c.trim_start-left.ensures.trim c.trim_end.ensures.value c.trim_end.ensures.trim c.trim_start-left.utf8

pub returns-clause-to : goal.returns-clause-to
returns-clause-to c =
    to-cut c.args.text.now c.trim_start-left.result.now c.trim_end.result.now c.trim_start-left.ensures.value c.trim_start-left.ensures.trim c.trim_end.ensures.value c.trim_end.ensures.trim c.trim_start-left.utf8 c.trim_end.utf8
