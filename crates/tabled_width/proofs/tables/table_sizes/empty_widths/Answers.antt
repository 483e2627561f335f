use Rattle.std.proofs.Common.{◌≡◌, ◌∙◌, ◌<◌, [], List, Ok, ℕ, ap, arith, length, replicate, subst, sym}
use Rattle.std.proofs.lemmas.List.{length-replicate}
use Rattle.std.proofs.lemmas.Result.{err_from_is_err_and}
use Rattle.grid_records_estimate.specs.Sizes.{table_widths}
use Rattle.grid_records_estimate.specs.Sizing.{sizing_of}
use Rattle.tabled_steps.specs.Outcomes.{all_sized}
use Rattle.tabled_width.proofs.TablesLemmas.Drawing.{width_count, widths_held, widths_refused}
use Rattle.tabled_width.proofs.tables.table_sizes.empty_widths.Goals as goal

pub returns-in_err-least-clause-least : goal.returns-in_err-least-clause-least
returns-in_err-least-clause-least c =
    let p = err_from_is_err_and c.from_residual.result c.from_residual.ensures.1 in
    rw (p.1, p.2) (widths_refused c.args.cfg.now c.args.columns (replicate c.args.rows (replicate c.args.columns [])) c.in_err-least.field-0.0 (rw (sym c.new.ensures.rows, sym c.new.ensures.columns) c.in_err-least.ensures.refused))

pub returns-clause-least : goal.returns-clause-least
returns-clause-least c =
    let held = subst (λ (sizes : List ℕ). all_sized sizes ≡ Ok sizes) c.deref.ensures.value c.are_held.ensures in
    let found : List (List (List ℕ)) = replicate c.new.result.rows (replicate c.new.result.columns []) in
    let are = c.in_ok-least.ensures.ok ∙ ap (λ (n : ℕ). table_widths (sizing_of c.args.cfg.now) n found) c.new.ensures.columns ∙ ap (table_widths (sizing_of c.args.cfg.now) c.args.columns) c.new.ensures.rows in
    widths_held c.args.cfg.now c.args.columns (replicate c.args.rows (replicate c.args.columns [])) c.in_ok-least.least.items are held

pub returns-clause-count : goal.returns-clause-count
returns-clause-count c =
    let texts : List (List (List ℕ)) = replicate c.args.rows (replicate c.args.columns []) in
    let some : 0 < length texts = omega (arith, length-replicate c.args.rows (replicate {A = List ℕ} c.args.columns []), c.requires) in
    let found : List (List (List ℕ)) = replicate c.new.result.rows (replicate c.new.result.columns []) in
    let are = c.in_ok-least.ensures.ok ∙ ap (λ (n : ℕ). table_widths (sizing_of c.args.cfg.now) n found) c.new.ensures.columns ∙ ap (table_widths (sizing_of c.args.cfg.now) c.args.columns) c.new.ensures.rows in
    width_count c.args.cfg.now c.args.columns texts c.in_ok-least.least.items some are
