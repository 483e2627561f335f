use Rattle.std.specs.Prelude.{[], codes}
use Rattle.columns_run.proofs.Worked as worked
use Rattle.columns_run.proofs.laws.worked_tables.Goals as goal

pub returns-clause-empty : goal.returns-clause-empty
returns-clause-empty c = λ wanted default. worked.table_is wanted default.1 default.0 [] [] worked.empty

pub returns-clause-two_by_two : goal.returns-clause-two_by_two
returns-clause-two_by_two c = λ wanted default. worked.table_is wanted default.1 default.0 (codes "a\tb\n1\t2\n") (codes "+---+---+\n| a | b |\n+---+---+\n| 1 | 2 |\n+---+---+\n") worked.two_by_two

pub returns-clause-short_row : goal.returns-clause-short_row
returns-clause-short_row c = λ wanted default. worked.table_is wanted default.1 default.0 (codes "a\tb\nc\n") (codes "+---+---+\n| a | b |\n+---+---+\n| c |   |\n+---+---+\n") worked.short_row

pub returns-clause-longer_row : goal.returns-clause-longer_row
returns-clause-longer_row c = λ wanted default. worked.table_is wanted default.1 default.0 (codes "a\nbcd\te\tf\n") (codes "+-----+---+---+\n| a   |   |   |\n+-----+---+---+\n| bcd | e | f |\n+-----+---+---+\n") worked.longer_row

pub returns-clause-empty_row : goal.returns-clause-empty_row
returns-clause-empty_row c = λ wanted default. worked.table_is wanted default.1 default.0 (codes "\n") (codes "+--+\n|  |\n+--+\n") worked.empty_row

pub returns-clause-two_empty_rows : goal.returns-clause-two_empty_rows
returns-clause-two_empty_rows c = λ wanted default. worked.table_is wanted default.1 default.0 (codes "\n\n") (codes "+--+\n|  |\n+--+\n|  |\n+--+\n") worked.two_empty_rows

pub returns-clause-empty_last_row : goal.returns-clause-empty_last_row
returns-clause-empty_last_row c = λ wanted default. worked.table_is wanted default.1 default.0 (codes "a\n\n") (codes "+---+\n| a |\n+---+\n|   |\n+---+\n") worked.empty_last_row

pub returns-clause-empty_middle_row : goal.returns-clause-empty_middle_row
returns-clause-empty_middle_row c = λ wanted default. worked.table_is wanted default.1 default.0 (codes "a\n\nb") (codes "+---+\n| a |\n+---+\n|   |\n+---+\n| b |\n+---+\n") worked.empty_middle_row

pub returns-clause-lone_tab : goal.returns-clause-lone_tab
returns-clause-lone_tab c = λ wanted default. worked.table_is wanted default.1 default.0 (codes "\t") (codes "+--+--+\n|  |  |\n+--+--+\n") worked.lone_tab

pub returns-clause-tab_at_end : goal.returns-clause-tab_at_end
returns-clause-tab_at_end c = λ wanted default. worked.table_is wanted default.1 default.0 (codes "a\t\n") (codes "+---+--+\n| a |  |\n+---+--+\n") worked.tab_at_end

pub returns-clause-no_final_line_feed : goal.returns-clause-no_final_line_feed
returns-clause-no_final_line_feed c = λ wanted default. worked.table_is wanted default.1 default.0 (codes "a\tb") (codes "+---+---+\n| a | b |\n+---+---+\n") worked.no_final_line_feed

pub returns-clause-carriage_return : goal.returns-clause-carriage_return
returns-clause-carriage_return c = λ wanted default. worked.table_is wanted default.1 default.0 (codes "a\r\n") (codes "+----+\n| a\r |\n+----+\n") worked.carriage_return
