use Rattle.tabled_list.specs.Lists.{LeadsThrough, RefusedAt}
use Rattle.tabled_list.specs.Stripping.Stripping.{stripped_state}
use Rattle.tabled_list.proofs.StrippingLemmas.StrippedRuns.{refused-stripped, runs-stripped}
use Rattle.tabled.specs.Tables.{state_of}
use Rattle.tabled.proofs.Stripping.{of_err_weaker, ok_weaker}
use Rattle.tabled.proofs.table.Table.with_list.Goals as goal

pub returns-clause-stripped_run : goal.returns-clause-stripped_run
returns-clause-stripped_run g c = λ no_escape whole.
    let settings = c.args.settings.now in
    let old = state_of g.T.Cell.text c.args.self.now in
    let new = state_of g.T.Cell.text (record c.args.self.now { inner = c.with_list.new.self }) in
    ok_weaker (LeadsThrough settings old new) (LeadsThrough settings (stripped_state old) (stripped_state new)) c.with_list.result (λ runs. (runs-stripped settings old new no_escape whole runs).0) c.with_list.ensures.run

pub returns-clause-stripped_refused : goal.returns-clause-stripped_refused
returns-clause-stripped_refused g c = λ no_escape whole.
    let settings = c.args.settings.now in
    let old = state_of g.T.Cell.text c.args.self.now in
    let new = state_of g.T.Cell.text (record c.args.self.now { inner = c.with_list.new.self }) in
    of_err_weaker (λ refusal. RefusedAt settings old new refusal.0 refusal.1) (λ refusal. RefusedAt settings (stripped_state old) (stripped_state new) refusal.0 refusal.1) c.with_list.result
    (λ refusal is. refused-stripped settings old new refusal.0 refusal.1 no_escape whole is) c.with_list.ensures.refused
