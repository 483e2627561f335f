use Rattle.std.proofs.Common.{◌≡◌, ◌∙◌, ℕ, List, None, ap, arith, subst, sym}
use Rattle.std.proofs.lemmas.Bool.Decides.{nat_tests}
use Rattle.std.proofs.lemmas.Cmp.{nat_cmp_total}
use Rattle.std.specs.Ordering.{nat_cmp}
use Rattle.grid_config_values.specs.declared.numbered.Numbered.{Numbered}
use Rattle.grid_config_values.specs.declared.position.Position.{Position}
use Rattle.grid_config_values.specs.Numbers.{IsFound, calls_of, seen, value_or}
use Rattle.grid_config_values.specs.Order.{position_cmp}
use Rattle.grid_config_values.specs.Settings.{value_after}
use Rattle.grid_config_values.proofs.Kept.{none_kept}
use Rattle.grid_config_values.proofs.Numbers.{later_none}
use Rattle.grid_config_values.proofs.Together.{position_total, value_found}
use Rattle.grid_config_values.proofs.calls.Calls.column_value.Goals as goal
use Rattle.grid_config_values.proofs.calls.Calls.column_value.Goals.{After-found_line}

-- where all calls are for columns, what was found for one is the value of each of its cells
which : (g : _) (c : After-found_line g) (p : Position) → p.col ≡ c.args.column → value_after c.args.otherwise.now c.args.self.now p ≡ value_or c.args.otherwise.now (seen c.found_line.result)
unfolding calls_of
which g c p is =
    let value = c.args.otherwise.now in
    let fields = c.self.inside in
    let no_rows = none_kept nat_cmp nat_cmp_total fields.rows.items p.row (grind (arith, nat_tests)) in
    let no_cells = none_kept position_cmp position_total fields.cells.items p (grind (arith, nat_tests)) in
    let here : IsFound nat_cmp c.deref.result.now p.col (seen c.found_line.result) = subst (λ (column : ℕ). IsFound nat_cmp c.deref.result.now column (seen c.found_line.result)) (sym is) c.found_line.ensures in
    let found : IsFound nat_cmp fields.columns.items p.col (seen c.found_line.result) = subst (λ (kept : List (Numbered ℕ _)). IsFound nat_cmp kept p.col (seen c.found_line.result)) c.deref.ensures.value here in
    ap (λ (calls : List (_ × _)). value_after value calls p) (sym c.self.view_is)
    ∙ (value_found fields.columns.items fields.rows.items fields.cells.items value p c.self.invariant.columns c.self.invariant.rows c.self.invariant.cells (seen c.found_line.result) None None found no_rows no_cells
    ∙ ap (value_or value) (later_none (seen c.found_line.result)))

pub returns-in-Some : goal.returns-in-Some
returns-in-Some g c p is = which g (goal.at.returns-in-Some g c).After-found_line p is ∙ ap (λ (r : _). value_or c.args.otherwise.now (seen r)) c.in-Some.is

pub returns-in-None : goal.returns-in-None
returns-in-None g c p is = which g (goal.at.returns-in-None g c).After-found_line p is ∙ ap (λ (r : _). value_or c.args.otherwise.now (seen r)) c.in-None.is
