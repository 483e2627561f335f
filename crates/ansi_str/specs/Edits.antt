-- Edits of a text, each of what the one before it left.
use Rattle.std.specs.Prelude.{◌≡◌, ◌≤◌, ◌-◌, ℕ, min, List, [], ◌∷◌, ◌++◌, length, slice_get, Some, None, ◌⊎◌}
use Rattle.std.specs.Str.{IsUtf8}
use Rattle.ansi_scan.specs.Sequences.{Piece, ArePiecesOf}
use Rattle.ansi_scan.specs.Attributes.{Attributes}
use Rattle.ansi_str.specs.declared.edits.Edit.{Edit}
use Rattle.ansi_str.specs.declared.edits.Edit.TheVariants.{Cut, Left, Right, Part, Prefix, Suffix, Trim}
use Rattle.ansi_str.specs.StyledText.{strip, styled}
use Rattle.ansi_str.specs.Cuts.{AreGoodBounds, cut_part, later_part}
use Rattle.ansi_str.specs.Parts.{IsGoodBound}
use Rattle.ansi_str.specs.Matches.{AreMatches, AreParts, split_bounds, styled_slice}
use Rattle.ansi_str.specs.Searches.{BeginsWith, EndsWith}
use Rattle.ansi_str.specs.Keeping.{IsTrimmed, IsTrimmedAt, without_end, without_front}

-- the part before a place, and the part after it; a place past the end counts as the end
abbrev pub left_side : ℕ → List Piece → List ℕ
left_side mid pieces = cut_part 0 (min mid (length (strip pieces))) pieces

abbrev pub right_side : ℕ → List Piece → List ℕ
right_side mid pieces = later_part (min mid (length (strip pieces))) (length (strip pieces)) pieces

-- the edit leaves these bytes of the pieces
abbrev pub LeavesOf : Edit → List Piece → List ℕ → Type 0
LeavesOf (Cut start end) pieces left = AreGoodBounds (strip pieces) start (Some end) × (left ≡ cut_part start end pieces)
LeavesOf (Left mid) pieces left = IsGoodBound (strip pieces) mid × (left ≡ left_side mid pieces)
LeavesOf (Right mid) pieces left = IsGoodBound (strip pieces) mid × (left ≡ right_side mid pieces)
LeavesOf (Part pattern index) pieces left =
    (parts : List (List ℕ)) × AreParts pattern.now pieces parts × (slice_get parts index ≡ Some left)
LeavesOf (Prefix prefix) pieces left = BeginsWith prefix.now (strip pieces) × (left ≡ without_front (length prefix.now) pieces)
LeavesOf (Suffix suffix) pieces left = EndsWith suffix.now (strip pieces) × (left ≡ without_end (length suffix.now) pieces)
LeavesOf Trim pieces left = IsTrimmed pieces left

-- the pieces have no such part: bad bounds, a place inside a character, a part too many, no such prefix or suffix
abbrev pub FailsOf : Edit → List Piece → Type 0
FailsOf (Cut start end) pieces = ¬ (AreGoodBounds (strip pieces) start (Some end))
FailsOf (Left mid) pieces = ¬ (IsGoodBound (strip pieces) mid)
FailsOf (Right mid) pieces = ¬ (IsGoodBound (strip pieces) mid)
FailsOf (Part pattern index) pieces =
    (parts : List (List ℕ)) × AreParts pattern.now pieces parts × (slice_get parts index ≡ None)
FailsOf (Prefix prefix) pieces = ¬ (BeginsWith prefix.now (strip pieces))
FailsOf (Suffix suffix) pieces = ¬ (EndsWith suffix.now (strip pieces))
FailsOf Trim pieces = ⊥

-- the edit takes this text to that one
pub record TakesTo (edit : Edit) (text left : List ℕ) : Type 0 where
  pub pieces : List Piece
  pub of_text : ArePiecesOf text pieces
  pub leaves : LeavesOf edit pieces left

-- the edit fails at this text
pub record FailsAt (edit : Edit) (text : List ℕ) : Type 0 where
  pub pieces : List Piece
  pub of_text : ArePiecesOf text pieces
  pub fails : FailsOf edit pieces

-- the edits, one after the other, take this text to that one
abbrev pub TakeInTurn : List Edit → List ℕ → List ℕ → Type 0
TakeInTurn [] text left = left ≡ text
TakeInTurn (edit ∷ edits) text left = (next : List ℕ) × TakesTo edit text next × TakeInTurn edits next left

-- one of the edits fails at its turn
abbrev pub OneFails : List Edit → List ℕ → Type 0
OneFails [] text = ⊥
OneFails (edit ∷ edits) text = FailsAt edit text ⊎ ((next : List ℕ) × TakesTo edit text next × OneFails edits next)

-- ---- what an edit leaves shows

-- the edit leaves the text from place a to place b. They are those of a cut, the bounds of that part of a
-- split, or those between which `trim` leaves the text
abbrev pub LeavesFromTo : Edit → List Piece → ℕ → ℕ → Type 0
LeavesFromTo (Cut start end) pieces a b = (a ≡ start) × (b ≡ end)
LeavesFromTo (Left mid) pieces a b = (a ≡ 0) × (b ≡ min mid (length (strip pieces)))
LeavesFromTo (Right mid) pieces a b = (a ≡ min mid (length (strip pieces))) × (b ≡ length (strip pieces))
LeavesFromTo (Part pattern index) pieces a b =
    (matches : List ℕ) × AreMatches pattern.now (strip pieces) matches
    × (slice_get (split_bounds pattern.now (strip pieces) matches) index ≡ Some (a, b))
LeavesFromTo (Prefix prefix) pieces a b = (a ≡ length prefix.now) × (b ≡ length (strip pieces))
LeavesFromTo (Suffix suffix) pieces a b = (a ≡ 0) × (b ≡ length (strip pieces) - length suffix.now)
LeavesFromTo Trim pieces a b = IsTrimmedAt (strip pieces) a b

-- what is left shows the characters of the pieces, each in its style, between the two places of the edit
pub record ShowsItsSlice (edit : Edit) (pieces left : List Piece) : Type 0 where
  pub start : ℕ
  pub end : ℕ
  pub ordered : start ≤ end
  pub told : LeavesFromTo edit pieces start end
  pub shown : styled left ≡ styled_slice pieces start end

-- the pattern, prefix or suffix of an edit is UTF-8, as each `&str` is
abbrev pub IsInUtf8 : Edit → Type 0
IsInUtf8 (Part pattern index) = IsUtf8 pattern.now
IsInUtf8 (Prefix prefix) = IsUtf8 prefix.now
IsInUtf8 (Suffix suffix) = IsUtf8 suffix.now
IsInUtf8 _ = Unit {0}

-- these styled characters are among those, one after another
pub record StandAmong (part whole : List (ℕ × Attributes)) : Type 0 where
  pub before : List (ℕ × Attributes)
  pub behind : List (ℕ × Attributes)
  pub parted : whole ≡ before ++ (part ++ behind)
