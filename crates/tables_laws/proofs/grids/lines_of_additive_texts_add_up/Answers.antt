use Rattle.std.proofs.Common.{◌≡◌, true, ℕ, List, [], ◌∷◌}
use Rattle.std.specs.List.{AllByRecursion, sum_by}
use Rattle.std.proofs.lemmas.List.Elements.{All-from_recursion}
use Rattle.ansi_str.specs.Characters.{shown_chars}
use Rattle.tables_laws.specs.Characters.AdditiveCharacters.{are_additive, columns_of, is_additive}
use Rattle.tables_laws.proofs.CharactersLemmas.Sums.{measure-additive}
use Rattle.grid_records_measure.specs.Measures.{measure}
use Rattle.grid_records_measure.specs.TextLines.{text_lines}
use Rattle.grid_records_measure.specs.Trimming.{trimmed}
use Rattle.papergrid_picture.proofs.Shown.{IsClosedPart, lines-closed_parts}
use Rattle.tables_laws.proofs.GridsLemmas.Texts.{parts-of_text, trimmed-of}
use Rattle.tables_laws.proofs.grids.lines_of_additive_texts_add_up.Goals as goal

abbrev Sums : List ℕ → Type 0
Sums line = measure (shown_chars line) ≡ sum_by columns_of (shown_chars line)

each-sums : (lines : List (List ℕ)) → AllByRecursion (λ line. are_additive (shown_chars line) ≡ true) lines → AllByRecursion Sums lines
each-sums [] all = tt
each-sums (line ∷ lines) all = (measure-additive (shown_chars line) all.0, each-sums lines all.1)

each-trimmed : (lines : List (List ℕ)) → AllByRecursion IsClosedPart lines → AllByRecursion (λ line. are_additive (shown_chars line) ≡ true) lines → AllByRecursion (λ line. Sums (trimmed line)) lines
each-trimmed [] closed all = tt
each-trimmed (line ∷ lines) closed all = (measure-additive (shown_chars (trimmed line)) (trimmed-of is_additive line closed.0 all.0), each-trimmed lines closed.1 all.1)

pub returns-clause-lines : goal.returns-clause-lines
returns-clause-lines c = λ text is. All-from_recursion (λ line. are_additive (shown_chars line) ≡ true) (text_lines text) (parts-of_text is_additive text is)

pub returns-clause-measures : goal.returns-clause-measures
returns-clause-measures c = λ text is. All-from_recursion Sums (text_lines text) (each-sums (text_lines text) (parts-of_text is_additive text is))

pub returns-clause-trims : goal.returns-clause-trims
returns-clause-trims c = λ text is.
    All-from_recursion (λ line. Sums (trimmed line)) (text_lines text) (each-trimmed (text_lines text) (lines-closed_parts text is.whole) (parts-of_text is_additive text is))
