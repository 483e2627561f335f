-- Lemmas of `EditSlices`.
use Rattle.ansi_str.proofs.EditSlices.{TakesTo-shows, TakeInTurn-utf8, TakeInTurn-shows}
use Rattle.ansi_str.proofs.laws.edits_show_slices.Goals as goal

pub returns-clause-one : goal.returns-clause-one
returns-clause-one c = λ edit text left pieces of_left in_utf8 utf8 whole takes of_the_left. TakesTo-shows edit text left pieces of_left in_utf8 utf8 whole.of_text whole.none_broken takes of_the_left

pub returns-clause-utf8 : goal.returns-clause-utf8
returns-clause-utf8 c = TakeInTurn-utf8

pub returns-clause-in_turn : goal.returns-clause-in_turn
returns-clause-in_turn c = λ edits text left pieces of_left in_utf8 utf8 whole takes of_the_left. TakeInTurn-shows edits text left pieces of_left in_utf8 utf8 whole.of_text whole.none_broken takes of_the_left
