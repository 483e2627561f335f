-- What the edits that are left do to what is left, all edits do to the text.
use Rattle.std.proofs.Common.{drop}
use Rattle.std.specs.Prelude.{string_bytes}
use Rattle.ansi_str.proofs.PickedParts.{Edited}
use Rattle.ansi_str.proofs.editing.edit.Given as goal

abbrev pub invariant-loop-edit : goal.invariant-loop-edit
invariant-loop-edit l = Edited l.edits l.text (drop l.edit-index l.edits) (string_bytes l.left)
