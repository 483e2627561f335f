use Rattle.std.proofs.Common.{Some}
use Rattle.grid_config_values.specs.declared.entity.Entity.TheVariants.{Row}
use Rattle.tabled_list.proofs.Adjusting.{narrows_through}
use Rattle.tabled_size_priority.specs.Choices.{IsShrunkByChoice}
use Rattle.tabled_width.specs.WrappedOrCut.{wrapping_each}
use Rattle.tabled_width.specs.Options.{wrapping}
use Rattle.tabled_list.proofs.by_choice.WrapAmountPrioritized.adjust_by.Goals as goal

pub returns : goal.returns
returns g c = λ choice named.
    narrows_through (wrapping c.priority.result) (record { width = (wrapping c.args.self).width; keep_words = (wrapping c.args.self).keep_words; priority = c.args.priority }) c.priority.ensures (λ it. it.priority) (λ it. it.width) (Some (Row 0)) c.adjust.result (g.S.Adjustable.state c.args.table.now) (g.S.Adjustable.state c.adjust.new.self)
    g.P.Peaker.shrinks (λ it. wrapping_each it.keep_words) (IsShrunkByChoice choice) named.shrunk c.adjust.ensures
