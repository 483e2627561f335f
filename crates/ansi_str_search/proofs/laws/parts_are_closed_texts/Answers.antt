-- The lemmas of `Utf8` and `AllParts`.
use Rattle.std.proofs.Common.{All, subst, sym}
use Rattle.std.specs.Str.{IsUtf8}
use Rattle.ansi_str_search.specs.Lines.{IsClosedLine, IsClosedText}
use Rattle.ansi_str_search.proofs.Utf8.{All-closed, All-utf8}
use Rattle.ansi_str_search.proofs.AllParts.{All-closed_lines}
use Rattle.ansi_str_search.proofs.laws.parts_are_closed_texts.Goals as goal

pub returns-clause-closed : goal.returns-clause-closed
returns-clause-closed c = λ pattern text pieces parts whole are.
    subst (All IsClosedText) (sym are.are_parts) (All-closed pattern text pieces are.matches whole.of_text are.are_matches whole.none_broken)

pub returns-clause-text : goal.returns-clause-text
returns-clause-text c = λ pattern text pieces parts of_text are utf8 pattern_utf8.
    subst (All IsUtf8) (sym are.are_parts) (All-utf8 pattern text pieces are.matches of_text are.are_matches utf8 pattern_utf8)

pub returns-clause-lines : goal.returns-clause-lines
returns-clause-lines c = λ text pieces parts whole are.
    subst (All IsClosedLine) (sym are.are_parts) (All-closed_lines text pieces are.matches whole.of_text are.are_matches whole.none_broken)
