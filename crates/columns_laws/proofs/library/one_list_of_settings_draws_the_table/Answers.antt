use Rattle.std.proofs.Common.{ap, ◌∙◌}
use Rattle.grid_config.specs.Looks.{compact_look}
use Rattle.tabled_list.specs.declared.amount.Amount.TheVariants.{Exact}
use Rattle.tabled_list.specs.declared.setting.Setting.TheVariants.{Truncate, Wrap}
use Rattle.std.specs.Prelude.{false}
use Rattle.tabled_text.specs.Rows.{filled}
use Rattle.columns_run.specs.Rows.{cell_parts}
use Rattle.columns_laws.specs.Library.Tables.{ended_table}
use Rattle.columns_laws.proofs.LibraryLemmas.ColorSettings.{colored-is, step-behind}
use Rattle.columns_laws.proofs.LibraryLemmas.NarrowTexts.{cut-setting, wrapped-setting}
use Rattle.columns_laws.proofs.LibraryLemmas.SameTexts.{one-table}
use Rattle.columns_laws.proofs.library.one_list_of_settings_draws_the_table.Goals as goal

pub returns-clause-natural : goal.returns-clause-natural
returns-clause-natural c = λ wanted input last none leads.
    one-table wanted input none ∙ ap ended_table (colored-is (filled (cell_parts input)) (compact_look wanted.style) wanted.colors last leads)

pub returns-clause-wrapped : goal.returns-clause-wrapped
returns-clause-wrapped c = λ wanted input width last is_width wraps leads.
    wrapped-setting wanted input width is_width last wraps
    (step-behind (filled (cell_parts input)) (compact_look wanted.style) wanted.colors last (Wrap (Exact width) wanted.limit.keep_words wanted.limit.priority) leads)

pub returns-clause-cut : goal.returns-clause-cut
returns-clause-cut c = λ wanted input width suffix limit try_color last is_width cuts none leads.
    cut-setting wanted input width is_width last suffix limit try_color cuts none
    (step-behind (filled (cell_parts input)) (compact_look wanted.style) wanted.colors last (Truncate (Exact width) suffix limit false try_color wanted.limit.priority) leads)
