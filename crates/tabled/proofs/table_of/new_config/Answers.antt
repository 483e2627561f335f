use Rattle.std.proofs.Common.{refl, ◌∙◌, ap}
use Rattle.grid_config.specs.Looks.{look_of}
use Rattle.tabled.proofs.NewLooks.{looks_new}
use Rattle.tabled.proofs.table_of.new_config.Goals as goal

pub returns-clause-look : goal.returns-clause-look
returns-clause-look c =
    ap look_of c.new-2.ensures.settings
    ∙ looks_new c.new-config.result c.set_borders.new.self c.set_padding-never_refused.new.self c.from.result c.set_padding-never_refused.result c.new-config.ensures
    (c.set_borders.ensures ∙ ap (λ borders. record c.new-config.result { borders = borders }) (c.get_borders.ensures ∙ c.ascii.ensures)) c.set_padding-never_refused.ensures.others c.set_padding-never_refused.ensures.outcome.set (c.set_padding-never_refused.ensures.outcome.global refl)
    (c.from.ensures ∙ c.new.ensures)
