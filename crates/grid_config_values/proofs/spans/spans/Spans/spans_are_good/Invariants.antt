use Rattle.std.specs.List.{All}
use Rattle.grid_config_values.specs.declared.position.Position.{Position}
use Rattle.grid_config_values.specs.declared.spans.extent.Extent.{Extent}
use Rattle.grid_config_values.specs.Spans.Clear.{Has, IsClear}
use Rattle.grid_config_values.proofs.spans.spans.Spans.spans_are_good.Given as goal

-- where the spans that are left are clear, all are
abbrev pub invariant-loop-anchor : goal.invariant-loop-anchor
invariant-loop-anchor l =
    All (Has l.self) l.anchor-iterator × (All (IsClear l.self l.rows l.columns) l.anchor-iterator → (span : Position × Extent) → Has l.self span → IsClear l.self l.rows l.columns span)
