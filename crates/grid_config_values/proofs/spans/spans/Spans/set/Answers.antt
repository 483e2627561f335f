use Rattle.std.proofs.Common.{◌≡◌, ◌≢◌, ◌≤◌, None, Some, arith, lit<, sym, ap, ◌∙◌, Option, unwrap_or}
use Rattle.std.proofs.lemmas.Bool.Decides.{nat_tests}
use Rattle.grid_config_values.specs.declared.spans.extent.Extent.{Extent}
use Rattle.grid_config_values.specs.Spans.Spans.{single}
use Rattle.grid_config_values.proofs.SpansLemmas.Extents.{bounded_changed, extent_changed, extent_found, same_extent}
use Rattle.grid_config_values.proofs.spans.spans.Spans.set.Goals as goal

pub invariant_of-self : goal.invariant_of-self
invariant_of-self c =
    let old = c.self.inside in
    let rows : 1 ≤ old.most_rows = omega (arith, c.self.invariant.rows c.args.pos) in
    let columns : 1 ≤ old.most_columns = omega (arith, c.self.invariant.columns c.args.pos) in
    bounded_changed old.extents c.remove.new.self c.args.pos None c.remove.ensures.updates old.most_rows old.most_columns old.most_rows old.most_columns
    c.self.invariant (λ e same. cc) (lit< tt) (lit< tt) rows columns (omega arith) (omega arith)

pub returns-then-eq-clause-ok : goal.returns-then-eq-clause-ok
returns-then-eq-clause-ok c =
    let here : c.args.extent ≡ single = same_extent c.args.extent single (grind (arith, nat_tests, c.if-eq.ensures)) (grind (arith, nat_tests, c.if-eq.ensures)) in
    rw (here, ← c.self.view_is) (extent_changed c.self.inside.extents c.remove.new.self c.args.pos None c.remove.ensures.updates)

pub returns-in-Err-clause-again : goal.returns-in-Err-clause-again
returns-in-Err-clause-again c anchor =
    let found = sym (extent_found c.self.inside.extents.entries c.args.pos None (sym c.in-Err.ensures.absent)) in
    absurd (anchor (rw (← c.self.view_is) found))

pub invariant_of-self-2 : goal.invariant_of-self-2
invariant_of-self-2 c =
    let old = c.self.inside in
    let kept : c.args.extent ≢ single = λ same. grind (arith, nat_tests, c.if-eq.ensures, same) in
    bounded_changed old.extents c.insert.new.self c.args.pos (Some c.args.extent) c.in-Ok.ensures.updates old.most_rows old.most_columns c.max-self-inside.result c.max-self-inside-2.result
    c.self.invariant (λ e found same. kept (ap (λ (o : Option Extent). unwrap_or o single) found ∙ same)) c.requires.rows c.requires.columns (grind (arith, c.max-self-inside.ensures)) (grind (arith, c.max-self-inside-2.ensures)) (grind (arith, c.max-self-inside.ensures)) (grind (arith, c.max-self-inside-2.ensures))

pub returns-clause-ok : goal.returns-clause-ok
returns-clause-ok c = rw (← c.self.view_is) (extent_changed c.self.inside.extents c.insert.new.self c.args.pos (Some c.args.extent) c.in-Ok.ensures.updates)
