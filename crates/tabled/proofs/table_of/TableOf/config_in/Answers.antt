use Rattle.tabled.proofs.ShownIn.{looks_in}
use Rattle.grid_config.specs.Looks.{look_of}
use Rattle.grid_config_values.specs.declared.sides.Indent.{Indent}
use Rattle.grid_config_values.specs.declared.sides.Sides.{Sides}
use Rattle.tabled.specs.Shown.{lacking_columns, margin_in}
use Rattle.tabled.specs.Tables.{table_state}
use Rattle.std.proofs.Common.{ap, ◌∙◌}
use Rattle.tabled.proofs.table_of.TableOf.config_in.Goals as goal

pub returns-clause-look : goal.returns-clause-look
returns-clause-look g c =
    looks_in c.args.align c.args.fill c.args.self.now.config.settings c.spanned.result.now c.in_ok-config.config c.set_margin.new.self c.in_ok-lacking.lacking (lacking_columns c.args.width (table_state g.R.RecordTexts.rows c.args.self.now))
    c.margin_in-margin.result (look_of c.align_all.new.config) c.spanned.ensures c.in_ok-config.ensures.look c.in_ok-lacking.ensures.lacks
    (c.margin_in-margin.ensures ∙ ap (λ (margin : Sides Indent). margin_in c.in_ok-lacking.lacking c.args.align c.args.fill margin) c.get_margin.ensures) c.set_margin.ensures c.align_all.ensures
