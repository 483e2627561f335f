use Rattle.std.proofs.Common.{ap, ◌∙◌, sym}
use Rattle.tabled_list.proofs.Naming.{widens, wraps}
use Rattle.tabled_list.proofs.setting.Setting.size_table.Goals as goal
use Rattle.tabled_list.specs.declared.amount.Amount.{Amount}
use Rattle.tabled_width.specs.Options.{Wrapping, widening, wrapping}

pub returns-in-Wrap : goal.returns-in-Wrap
returns-in-Wrap g c =
    rw c.in-Wrap.is
    (wraps c.in-Wrap.priority c.by_choice.result (g.S.Adjustable.state c.args.table.now) (g.S.Adjustable.state c.by_choice.new.table)
    (wrapping c.keep_words.result) (record { width = c.in-Wrap.width; keep_words = c.in-Wrap.keep_words; priority = 0 })
    (c.keep_words.ensures ∙ ap (λ (it : Wrapping Amount _). record { width = it.width; keep_words = c.in-Wrap.keep_words; priority = it.priority }) c.new.ensures)
    c.by_choice.ensures)

pub returns-in-Truncate : goal.returns-in-Truncate
returns-in-Truncate g c = rw c.in-Truncate.is (rw (sym c.as_str.ensures.value) c.by_choice-in-Truncate.ensures)

pub returns-in-MinWidth : goal.returns-in-MinWidth
returns-in-MinWidth g c =
    rw c.in-MinWidth.is
    (widens c.in-MinWidth.priority c.by_choice-in-MinWidth.result (g.S.Adjustable.state c.args.table.now) (g.S.Adjustable.state c.by_choice-in-MinWidth.new.table)
    (widening c.new-in-MinWidth.result) (record { width = c.in-MinWidth.width; fill = 0x20; priority = 0 })
    c.new-in-MinWidth.ensures c.by_choice-in-MinWidth.ensures)
