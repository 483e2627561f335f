use Rattle.std.proofs.Common.{arith}
use Rattle.std.proofs.lemmas.Str.Pattern.{strip_prefix_char}
use Rattle.papergrid_print.proofs.Standing.{fed-line}
use Rattle.papergrid_print.proofs.printer.line_behind_feed.Goals as goal

pub returns : goal.returns
returns c = fed-line _ c.args.text.now c.strip_prefix.result (strip_prefix_char 0x0a c.args.text.now c.strip_prefix.result c.strip_prefix.ensures.cases (omega arith))
