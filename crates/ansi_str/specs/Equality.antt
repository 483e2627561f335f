-- Edits that are the same.
use Rattle.std.specs.Prelude.{◌≡◌}
use Rattle.ansi_str.specs.declared.edits.Edit.{Edit}
use Rattle.ansi_str.specs.declared.edits.Edit.TheVariants.{Cut, Left, Right, Part, Prefix, Suffix, Trim}

-- of one kind, with the same places and texts
abbrev pub AreSame : Edit → Edit → Type 0
AreSame (Cut start end) (Cut other_start other_end) = (start ≡ other_start) × (end ≡ other_end)
AreSame (Left place) (Left other) = place ≡ other
AreSame (Right place) (Right other) = place ≡ other
AreSame (Part pattern index) (Part other_pattern other_index) = (pattern.now ≡ other_pattern.now) × (index ≡ other_index)
AreSame (Prefix text) (Prefix other) = text.now ≡ other.now
AreSame (Suffix text) (Suffix other) = text.now ≡ other.now
AreSame Trim Trim = Unit {0}
AreSame _ _ = ⊥
