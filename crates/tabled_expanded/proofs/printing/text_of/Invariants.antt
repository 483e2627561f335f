-- The records so far have heads, and their lines are the text.
use Rattle.std.proofs.Common.{◌≡◌, List, ℕ, length, map, string_bytes, take}
use Rattle.tabled_text.specs.Rows.{text_rows}
use Rattle.tabled_expanded.specs.Expanded.{all_lines, joined_lines}
use Rattle.tabled_expanded.specs.Heads.{AreHeads}
use Rattle.tabled_expanded.proofs.printing.text_of.Given as goal

abbrev pub invariant-loop-number : goal.invariant-loop-number
invariant-loop-number g l =
    (heads : List (List ℕ)) × AreHeads (g.F.Template.gives l.template) heads × (length heads ≡ l.number)
    × (string_bytes l.text ≡ joined_lines (all_lines l.widths.0 l.widths.1 (map string_bytes l.fields) heads (text_rows (take l.number l.records))))
