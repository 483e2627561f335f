use Rattle.std.proofs.Common.{◌≡◌, ◌⊎◌, ◌∙◌, Err, IfErr, List, ap, drop, subst, sym, take, ℕ}
use Rattle.grid_config.specs.Compact.{compact_of}
use Rattle.grid_config_values.specs.declared.fault.Fault.TheVariants.{Memory}
use Rattle.grid_records_traits.specs.Rows.{evened}
use Rattle.papergrid.specs.Compact.{IsCompactAnswer}
use Rattle.tabled_compact.specs.Tables.{first_or_all}
use Rattle.tabled_compact.proofs.table.CompactTable.fmt.Goals as goal

pub returns-in-Some-clause-fault : goal.returns-in-Some-clause-fault
returns-in-Some-clause-fault g c =
    subst (λ (rows : List (List (List ℕ))). IfErr c.print.result (λ fault. (fault ≡ Memory)
    ⊎ IsCompactAnswer (compact_of c.args.self.config) (g.D.Dimension.width c.args.self.dimension) c.args.self.columns (evened c.args.self.columns rows) (Err fault)))
    (c.new-rows.ensures.rows ∙ ap (take c.in-Some.count) c.new-behind.ensures.rows
    ∙ sym (ap (λ kept. first_or_all kept (drop c.args.self.skipped (g.I.RecordTexts.rows c.args.self.records))) c.in-Some.is))
    c.print.ensures.fault

pub returns-in-None-clause-fault : goal.returns-in-None-clause-fault
returns-in-None-clause-fault g c =
    subst (λ (rows : List (List (List ℕ))). IfErr c.print-in-None.result (λ fault. (fault ≡ Memory)
    ⊎ IsCompactAnswer (compact_of c.args.self.config) (g.D.Dimension.width c.args.self.dimension) c.args.self.columns (evened c.args.self.columns rows) (Err fault)))
    (c.new-behind.ensures.rows
    ∙ sym (ap (λ kept. first_or_all kept (drop c.args.self.skipped (g.I.RecordTexts.rows c.args.self.records))) c.in-None.is))
    c.print-in-None.ensures.fault
