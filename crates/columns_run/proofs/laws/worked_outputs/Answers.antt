use Rattle.std.specs.Prelude.{[], codes}
use Rattle.columns_run.proofs.Worked as worked
use Rattle.columns_run.proofs.laws.worked_outputs.Goals as goal

pub returns-clause-two_cells : goal.returns-clause-two_cells
returns-clause-two_cells c = λ wanted default uncolored. worked.output_is wanted default.1 default.0 (codes "\u{1b}[31mab\tc\n") (codes "+----+---+\n| \u{1b}[31mab\u{1b}[39m | \u{1b}[31mc\u{1b}[39m |\n+----+---+\n") worked.two_cells uncolored

pub returns-clause-two_lines : goal.returns-clause-two_lines
returns-clause-two_lines c = λ wanted default uncolored. worked.output_is wanted default.1 default.0 (codes "\u{1b}[1ma\nb\u{1b}[0m\n") (codes "+---+\n| \u{1b}[1ma\u{1b}[22m |\n+---+\n| \u{1b}[1mb\u{1b}[0m |\n+---+\n") worked.two_lines uncolored

pub returns-clause-lone_sequence : goal.returns-clause-lone_sequence
returns-clause-lone_sequence c = λ wanted default uncolored. worked.output_is wanted default.1 default.0 (codes "\u{1b}[31m") [] worked.lone_sequence uncolored

pub returns-clause-tab_in_a_string : goal.returns-clause-tab_in_a_string
returns-clause-tab_in_a_string c = λ wanted default uncolored. worked.output_is wanted default.1 default.0 (codes "\u{1b}]0;a\tb\u{7}x\n") (codes "+---+\n| \u{1b}]0;a\tb\u{7}x |\n+---+\n") worked.tab_in_a_string uncolored

pub returns-clause-same_color_twice : goal.returns-clause-same_color_twice
returns-clause-same_color_twice c = λ wanted default uncolored. worked.output_is wanted default.1 default.0 (codes "\u{1b}[31ma\u{1b}[31mb\n") (codes "+----+\n| \u{1b}[31ma\u{1b}[31mb\u{1b}[39m |\n+----+\n") worked.same_color_twice uncolored
