use Rattle.std.proofs.Common.{refl, true, ◌∙◌}
use Rattle.ansi_str.specs.Characters.{shown_chars}
use Rattle.tables_laws.specs.Characters.AdditiveCharacters.{is_additive}
use Rattle.tables_laws.proofs.CharactersLemmas.Sums.{measure-own}
use Rattle.papergrid_picture.specs.Tables.{table_line}
use Rattle.tables_laws.proofs.GridsLemmas.EvenLines.{line-even}
use Rattle.tables_laws.proofs.grids.lines_of_additive_tables_are_even.Goals as goal

pub returns-clause-measured : goal.returns-clause-measured
returns-clause-measured c = λ look rows colors widths heights spans y ones silent texts good room.
    let even = line-even is_additive is_additive measure-own (λ _ is. is) refl look rows colors widths heights ones silent texts spans y good room in
    measure-own (shown_chars (table_line look rows colors widths heights y)) even.shown ∙ even.counted

pub returns-clause-counted : goal.returns-clause-counted
returns-clause-counted c = λ of_class look rows colors widths heights spans y adds ones silent texts good room.
    (line-even of_class (λ _. true) adds (λ _ _. refl) refl look rows colors widths heights ones silent texts spans y good room).counted
