use Rattle.std.proofs.Common.{◌∙◌, arith, sym, IsTrue}
use Rattle.papergrid_fits.proofs.Ranges.{first-is}
use Rattle.papergrid_fits.proofs.fitting.fits_counted.Goals as goal

pub returns-in-Some-clause-answer : goal.returns-in-Some-clause-answer
returns-in-Some-clause-answer g c =
    let good : IsTrue c.spans_are_good.result = grind (arith, c.if-not-spans_are_good.false) in
    let range : IsTrue c.is_in_range.result = grind (arith, c.if-not-is_in_range.false) in (
      c.spans_are_good.ensures.good.0 good,
      c.is_in_range.ensures.0 range,
      sym (first-is c.args.cfg.now (g.D.Dimension.width c.args.dims.now) (g.D.Dimension.height c.args.dims.now) c.args.columns c.args.rows (g.R.RecordTexts.rows c.args.records.now))
          ∙ sym c.first_too_wide.ensures ∙ c.in-Some.is,
    )

pub returns-in-None-clause-answer : goal.returns-in-None-clause-answer
returns-in-None-clause-answer g c =
    let good : IsTrue c.spans_are_good.result = grind (arith, c.if-not-spans_are_good.false) in
    let range : IsTrue c.is_in_range.result = grind (arith, c.if-not-is_in_range.false) in (
      c.spans_are_good.ensures.good.0 good,
      c.is_in_range.ensures.0 range,
      sym (first-is c.args.cfg.now (g.D.Dimension.width c.args.dims.now) (g.D.Dimension.height c.args.dims.now) c.args.columns c.args.rows (g.R.RecordTexts.rows c.args.records.now))
          ∙ sym c.first_too_wide.ensures ∙ c.in-None.is,
    )
