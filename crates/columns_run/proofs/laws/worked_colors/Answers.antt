use Rattle.std.specs.Prelude.{◌∷◌, [], codes, false}
use Rattle.columns_asked.specs.Worked.{cuts, no_width, wraps}
use Rattle.columns_asked.specs.Colors.Worked.{bold, green, only, red}
use Rattle.tabled_size_priority.specs.declared.choice.Choice.TheVariants.{None as InTurns}
use Rattle.columns_run.proofs.Worked as worked
use Rattle.columns_run.proofs.laws.worked_colors.Goals as goal

pub returns-clause-one_column : goal.returns-clause-one_column
returns-clause-one_column c = worked.colored_is no_width (only 1 red) (codes "a\tb\n") (codes "+---+---+\n| a | \u{1b}[31mb\u{1b}[39m |\n+---+---+\n") worked.color_one_column

pub returns-clause-cleared : goal.returns-clause-cleared
returns-clause-cleared c = worked.colored_is no_width (only 0 red) (codes "\u{1b}[1mab\u{1b}[0mc\n") (codes "+-----+\n| \u{1b}[31m\u{1b}[1mab\u{1b}[0mc\u{1b}[39m |\n+-----+\n") worked.color_cleared

pub returns-clause-both : goal.returns-clause-both
returns-clause-both c = worked.colored_is no_width (only 0 red) (codes "\u{1b}[1mab\n") (codes "+----+\n| \u{1b}[31m\u{1b}[1mab\u{1b}[22m\u{1b}[39m |\n+----+\n") worked.color_both

pub returns-clause-wrapped : goal.returns-clause-wrapped
returns-clause-wrapped c = worked.colored_is (wraps 6 false InTurns) (only 0 red) (codes "1234\n") (codes "+----+\n| \u{1b}[31m12\u{1b}[39m |\n| \u{1b}[31m34\u{1b}[39m |\n+----+\n") worked.color_wrapped

pub returns-clause-cut : goal.returns-clause-cut
returns-clause-cut c = worked.colored_is (cuts 6) (only 0 red) (codes "1234\n") (codes "+----+\n| \u{1b}[31m12\u{1b}[39m |\n+----+\n") worked.color_cut

pub returns-clause-empty : goal.returns-clause-empty
returns-clause-empty c = worked.colored_is no_width (only 0 red) (codes "\ta\n") (codes "+--+---+\n|  | a |\n+--+---+\n") worked.color_empty

pub returns-clause-outside : goal.returns-clause-outside
returns-clause-outside c = worked.colored_is no_width (only 5 red) (codes "a\n") (codes "+---+\n| a |\n+---+\n") worked.color_outside

pub returns-clause-last : goal.returns-clause-last
returns-clause-last c = worked.colored_is no_width ((0, red) ∷ (1, bold) ∷ (0, green) ∷ []) (codes "a\n") (codes "+---+\n| \u{1b}[32ma\u{1b}[39m |\n+---+\n") worked.color_last
