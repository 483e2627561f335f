use Rattle.std.proofs.Common.{sym, ap, arith}
use Rattle.grid_config_values.specs.declared.position.Position.{Position}
use Rattle.grid_config_values.proofs.SpansLemmas.Lasts.{first_row, no_row, row_behind}
use Rattle.grid_config_values.proofs.spans.spans.Spans.next_row.Goals as goal

pub returns-in-Some-clause-further : goal.returns-in-Some-clause-further
returns-in-Some-clause-further c =
    let start = ap (λ (p : Position). p.col) c.new.ensures in
    let behind = row_behind c.args.self.now c.new.result start (c.in-Some.anchor, c.in-Some.field-0-1) (sym c.in-Some.ensures.found) in
    grind (arith, behind, c.new.ensures, c.min.ensures, c.requires)

pub returns-in-Some-clause-none : goal.returns-in-Some-clause-none
returns-in-Some-clause-none c span has from =
    let start = ap (λ (p : Position). p.col) c.new.ensures in
    let behind = first_row c.args.self.now c.new.result start c.in-Some.ensures.ordered (c.in-Some.anchor, c.in-Some.field-0-1) (sym c.in-Some.ensures.found) span has (rw c.new.ensures from) in
    grind (arith, behind, c.min.ensures)

pub returns-in-None-clause-none : goal.returns-in-None-clause-none
returns-in-None-clause-none c span has from =
    let start = ap (λ (p : Position). p.col) c.new.ensures in
    absurd (no_row c.args.self.now c.new.result start (sym c.in-None.ensures.found) span has (rw c.new.ensures from))
