use Rattle.std.proofs.Common.{◌≡◌, true, arith}
use Rattle.grid_config_values.specs.Spans.Spans.{IsInTable}
use Rattle.grid_config_values.proofs.SpansLemmas.Good.{inside_if_good, inside_tested, overlap_is_bad}
use Rattle.grid_config_values.proofs.spans.spans.Spans.is_clear.Goals as goal

pub returns-then-not-is_inside-clause-bad : goal.returns-then-not-is_inside-clause-bad
returns-then-not-is_inside-clause-bad c is good =
    let in_table : IsInTable c.args.rows c.args.columns c.args.anchor = (omega arith, omega arith) in
    let inside = inside_if_good c.args.self.now c.requires.positive c.requires.several c.args.rows c.args.columns good (c.args.anchor, c.args.extent) c.requires.one in_table in
    let tested = inside_tested c.args.anchor c.args.extent c.args.rows c.args.columns inside in
    grind (arith, tested, c.is_inside.ensures, c.if-not-is_inside.true)

pub returns-clause-bad : goal.returns-clause-bad
returns-clause-bad c met good =
    let in_table : IsInTable c.args.rows c.args.columns c.args.anchor = (omega arith, omega arith) in
    let is_overlapped : c.is_overlapped.result ≡ true = grind (arith, met) in
    overlap_is_bad c.args.self.now c.requires.positive c.requires.several c.args.rows c.args.columns good (c.args.anchor, c.args.extent) c.requires.one in_table (c.is_overlapped.ensures.overlapped is_overlapped)
