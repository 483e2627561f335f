-- What edits leave of a whole text is whole.
use Rattle.std.proofs.Common.{◌≡◌, ◌<◌, ◌≤◌, ℕ, min, List, [], ◌∷◌, length, get_or, Some, sym, subst, arith}
use Rattle.std.specs.Prelude.{slice_get}
use Rattle.std.proofs.lemmas.Option.{slice_get_within, get_or_from_slice_get}
use Rattle.ansi_scan.specs.Sequences.{Piece, ArePiecesOf, NoneBroken, IsWhole}
use Rattle.ansi_scan.specs.Pieces.{pieces}
use Rattle.ansi_scan.proofs.Existence.{ArePiecesOf-pieces}
use Rattle.ansi_scan.proofs.Uniqueness.{ArePiecesOf-unique}
use Rattle.ansi_str.specs.declared.edits.Edit.{Edit}
use Rattle.ansi_str.specs.declared.edits.Edit.TheVariants.{Cut, Left, Right, Part, Prefix, Suffix, Trim}
use Rattle.ansi_str.specs.StyledText.{strip}
use Rattle.ansi_str.specs.Cuts.{cut_part, later_part}
use Rattle.ansi_str.specs.Keeping.{kept}
use Rattle.ansi_str.specs.Lines.{IsClosedText}
use Rattle.ansi_str.specs.Edits.{LeavesOf, TakeInTurn}
use Rattle.ansi_str_search.proofs.Utf8.{All-closed}
use Rattle.ansi_str.proofs.WholeCuts.{first_part-closed, later_part-closed}
use Rattle.ansi_str.proofs.WholeSlices.{cut-closed}
use Rattle.ansi_str.proofs.KeptPieces.{kept_whole}

-- a text of which no piece is broken, in each list of its pieces
IsWhole-all : (text : List ℕ) → ((ps : List Piece) → ArePiecesOf text ps → NoneBroken ps) → IsWhole text
IsWhole-all text none = record { pieces = pieces text; of_text = ArePiecesOf-pieces text; none_broken = none (pieces text) (ArePiecesOf-pieces text) }

-- the element of a list of closed texts
closed-at : (parts : List (List ℕ)) (i : ℕ) (left : List ℕ) → ((k : ℕ) (d : List ℕ) → k < length parts → IsClosedText (get_or parts k d)) → slice_get parts i ≡ Some left → IsClosedText left
closed-at parts i left all found = subst IsClosedText (get_or_from_slice_get parts i left [] found) (all i [] (slice_get_within parts i left found))

IsWhole-closed : (text : List ℕ) → IsClosedText text → IsWhole text
IsWhole-closed text closed = record { pieces = closed.pieces; of_text = closed.of_text; none_broken = closed.closed.none_broken }

module _ (text : List ℕ) (ps : List Piece) (of_text : ArePiecesOf text ps) (whole : NoneBroken ps) where
  IsWhole-kept : (a b : ℕ) (left : List ℕ) → left ≡ kept a b ps → IsWhole left
  IsWhole-kept a b left same = subst IsWhole (sym same) (IsWhole-all (kept a b ps) (λ qs of_left. kept_whole a b text ps qs of_text whole of_left))

  pub LeavesOf-whole : (edit : Edit) (left : List ℕ) → LeavesOf edit ps left → IsWhole left
  LeavesOf-whole (Cut start end) left leaves =
      subst IsWhole (sym leaves.1) (IsWhole-all (cut_part start end ps) (λ qs of_left. (cut-closed text ps qs start end leaves.0.ordered of_text whole of_left).none_broken))
  LeavesOf-whole (Left mid) left leaves =
      let at = min mid (length (strip ps)) in
      let same : cut_part 0 at ps ≡ left = cc leaves.1 in
      subst IsWhole same (IsWhole-all (cut_part 0 at ps) (λ qs of_left. (first_part-closed text ps of_text whole at qs of_left).none_broken))
  LeavesOf-whole (Right mid) left leaves =
      let end = length (strip ps) in
      let at = min mid end in
      let order : at ≤ end = omega arith in
      let same : later_part at end ps ≡ left = cc leaves.1 in
      subst IsWhole same (IsWhole-all (later_part at end ps) (λ qs of_left. (later_part-closed text ps of_text whole at end order qs of_left).none_broken))
  LeavesOf-whole (Part pattern index) left leaves =
      let parts = leaves.1 in
      let found = subst (λ all. slice_get all index ≡ Some left) parts.are_parts leaves.2 in
      IsWhole-closed left (closed-at _ index left (All-closed pattern.now text ps parts.matches of_text parts.are_matches whole) found)
  LeavesOf-whole (Prefix prefix) left leaves = IsWhole-kept (length prefix.now) (length (strip ps)) left leaves.1
  LeavesOf-whole (Suffix suffix) left leaves = IsWhole-kept 0 _ left leaves.1
  LeavesOf-whole Trim left leaves = IsWhole-kept leaves.0 leaves.1 left leaves.3

pub TakeInTurn-whole : (edits : List Edit) (text left : List ℕ) → IsWhole text → TakeInTurn edits text left → IsWhole left
TakeInTurn-whole [] text left whole taken = subst IsWhole (sym taken) whole
TakeInTurn-whole (edit ∷ edits) text left whole (next, takes, behind) =
    TakeInTurn-whole edits next left (LeavesOf-whole text takes.pieces takes.of_text (subst NoneBroken (ArePiecesOf-unique text whole.pieces takes.pieces whole.of_text takes.of_text) whole.none_broken) edit next takes.leaves) behind
