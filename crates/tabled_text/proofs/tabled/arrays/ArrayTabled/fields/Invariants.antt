-- The texts of the members so far.
use Rattle.std.proofs.Common.{◌≡◌, map, take, vec_len}
use Rattle.tabled_text.specs.Fields.{texts_of}
use Rattle.tabled_text.proofs.tabled.arrays.ArrayTabled.fields.Given as goal

abbrev pub invariant-loop-member : goal.invariant-loop-member
invariant-loop-member g l =
    (texts_of l.fields.items ≡ map g.T.CellText.text (take l.member-index l.self)) × (vec_len l.fields ≡ l.member-index)
