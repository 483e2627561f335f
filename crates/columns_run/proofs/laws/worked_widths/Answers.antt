use Rattle.std.specs.Prelude.{codes, false, true}
use Rattle.columns_asked.specs.Worked.{cuts, wraps}
use Rattle.tabled_size_priority.specs.declared.choice.Choice.TheVariants.{None as InTurns, MaxLeft}
use Rattle.columns_run.proofs.Worked as worked
use Rattle.columns_run.proofs.laws.worked_widths.Goals as goal

pub returns-clause-wrapped : goal.returns-clause-wrapped
returns-clause-wrapped c = worked.asked_is (wraps 6 false InTurns) (codes "\u{1b}[31m123456\u{1b}[0m\n") (codes "+----+\n| \u{1b}[31m12\u{1b}[39m |\n| \u{1b}[31m34\u{1b}[39m |\n| \u{1b}[31m56\u{1b}[0m |\n+----+\n") worked.out_wrapped

pub returns-clause-wrapped_behind : goal.returns-clause-wrapped_behind
returns-clause-wrapped_behind c = worked.asked_is (wraps 6 false InTurns) (codes "\u{1b}[31m12\u{1b}[0m34\n") (codes "+----+\n| \u{1b}[31m12\u{1b}[0m |\n| 34 |\n+----+\n") worked.out_wrapped_behind

pub returns-clause-cut : goal.returns-clause-cut
returns-clause-cut c = worked.asked_is (cuts 6) (codes "\u{1b}[31m123456\u{1b}[0m\n") (codes "+----+\n| \u{1b}[31m12\u{1b}[39m |\n+----+\n") worked.out_cut

pub returns-clause-words : goal.returns-clause-words
returns-clause-words c = worked.asked_is (wraps 8 true InTurns) (codes "111 234 1\n") (codes "+------+\n| 111  |\n| 234  |\n| 1    |\n+------+\n") worked.out_words

pub returns-clause-nothing : goal.returns-clause-nothing
returns-clause-nothing c = worked.asked_is (wraps 0 false InTurns) (codes "ab\tc\n") (codes "+--+--+\n|  |  |\n+--+--+\n") worked.out_nothing

pub returns-clause-in_turns : goal.returns-clause-in_turns
returns-clause-in_turns c = worked.asked_is (wraps 11 false InTurns) (codes "aaaa\tbb\n") (codes "+-----+---+\n| aaa | b |\n| a   | b |\n+-----+---+\n") worked.out_in_turns

pub returns-clause-widest : goal.returns-clause-widest
returns-clause-widest c = worked.asked_is (wraps 11 false MaxLeft) (codes "aaaa\tbb\n") (codes "+----+----+\n| aa | bb |\n| aa |    |\n+----+----+\n") worked.out_widest

pub returns-clause-natural : goal.returns-clause-natural
returns-clause-natural c = worked.asked_is (wraps 6 false InTurns) (codes "ab\n") (codes "+----+\n| ab |\n+----+\n") worked.out_natural

pub returns-clause-wide : goal.returns-clause-wide
returns-clause-wide c = worked.asked_is (wraps 100 false InTurns) (codes "ab\n") (codes "+----+\n| ab |\n+----+\n") worked.out_wide
