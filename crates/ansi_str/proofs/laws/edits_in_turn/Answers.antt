-- By the list of edits.
use Rattle.ansi_str.proofs.EditLaws.{TakeInTurn-append, TakeInTurn-fails, TakeInTurn-split, TakeInTurn-unique, OneFails-append, OneFails-split}
use Rattle.ansi_str.proofs.WholeEdits.{TakeInTurn-whole}
use Rattle.ansi_str.proofs.laws.edits_in_turn.Goals as goal

pub returns-clause-leave : goal.returns-clause-leave
returns-clause-leave c = λ first second text left. (TakeInTurn-split first second text left, λ takes. TakeInTurn-append first second text left takes.0 takes.1 takes.2)

pub returns-clause-fail : goal.returns-clause-fail
returns-clause-fail c = λ first second text. (OneFails-split first second text, OneFails-append first second text)

pub returns-clause-one : goal.returns-clause-one
returns-clause-one c = TakeInTurn-unique

pub returns-clause-not_both : goal.returns-clause-not_both
returns-clause-not_both c = TakeInTurn-fails

pub returns-clause-whole : goal.returns-clause-whole
returns-clause-whole c = TakeInTurn-whole
