use Rattle.std.proofs.Common.{◌≡◌, ◌++◌, replicate, string_bytes}
use Rattle.grid_config.specs.Looks.{look_of}
use Rattle.tabled_pool.specs.Boxes.Texts.{margin_line}
use Rattle.tabled_pool.proofs.BoxesLemmas.RoundMargins.{before_feeds}
use Rattle.tabled_pool.proofs.boxes.margins.push_above.Given as goal

abbrev pub invariant-loop : goal.invariant-loop
invariant-loop l =
    let look = look_of l.cfg in
    string_bytes l.out ≡ string_bytes l.fn.out ++ before_feeds (replicate l.counter (margin_line look l.width look.margin.top look.margin_color.top))
