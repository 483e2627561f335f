use Rattle.std.proofs.Common.{◌^◌, ◌<◌, ℕ, Some, SomeIff, sym, subst, ◌∙◌, arith}
use Rattle.std.proofs.lemmas.Bool.Decides.{nat_tests}
use Rattle.papergrid_fits.proofs.Ranges.{all_lines, line_count-is, told-some}
use Rattle.papergrid.proofs.lines.count_sized_lines.Goals as goal

pub unwrap-requires : goal.unwrap-requires
unwrap-requires g c =
    let some_rows : 0 < c.args.rows = grind (arith, nat_tests, c.if-rows-eq0.false) in
    let some_columns : 0 < c.args.columns = grind (arith, nat_tests, c.if-columns-eq0.false) in
    let width = g.D.Dimension.width c.args.dims.now in
    let height = g.D.Dimension.height c.args.dims.now in
    let lines : ℕ = all_lines c.args.cfg.now width height c.args.columns c.args.rows in
    told-some (lines < 2 ^ 64) lines c.total_height.result c.total_height.ensures
    (subst (λ n. n < 2 ^ 64) (line_count-is c.args.cfg.now width height c.args.columns c.args.rows some_rows some_columns) c.requires)

pub returns : goal.returns
returns g c =
    let some_rows : 0 < c.args.rows = grind (arith, nat_tests, c.if-rows-eq0.false) in
    let some_columns : 0 < c.args.columns = grind (arith, nat_tests, c.if-columns-eq0.false) in
    let width = g.D.Dimension.width c.args.dims.now in
    let height = g.D.Dimension.height c.args.dims.now in
    let lines : ℕ = all_lines c.args.cfg.now width height c.args.columns c.args.rows in
    let told : SomeIff (Some c.unwrap.result) (lines < 2 ^ 64) lines = subst (λ found. SomeIff found (lines < 2 ^ 64) lines) c.unwrap.ensures c.total_height.ensures in
    told.1 ∙ sym (line_count-is c.args.cfg.now width height c.args.columns c.args.rows some_rows some_columns)
