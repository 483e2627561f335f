-- A closed line that is cut is a closed line.
use Rattle.std.proofs.Common.{◌≡◌, ◌==◌, ◌||◌, ℕ, zero, suc, false, List, ◌++◌, length, take, replicate, refl, ap, sym, subst, ◌∙◌}
use Rattle.std.specs.Prelude.{chars, encode_utf8_all, IsUtf8}
use Rattle.std.specs.List.{list_any}
use Rattle.std.proofs.Math.Utf8.{encode}
use Rattle.std.proofs.lemmas.List.Folds.{list_any-append}
use Rattle.ansi_scan.specs.Attributes.{plain_attributes}
use Rattle.ansi_scan.specs.Pieces.{pieces}
use Rattle.ansi_scan.specs.Sequences.{EachStands, NoneBroken, Piece}
use Rattle.ansi_scan.proofs.Existence.{ArePiecesOf-pieces}
use Rattle.ansi_scan.proofs.Kept.{IsRendition-plain}
use Rattle.ansi_scan.proofs.Uniqueness.{pieces-ArePiecesOf}
use Rattle.ansi_str.specs.Cuts.{cut_part}
use Rattle.ansi_str.specs.Parts.{dressed, through_place}
use Rattle.ansi_str.specs.StyledText.{strip}
use Rattle.ansi_str.proofs.CutParts.{first_part-slice}
use Rattle.ansi_str_search.specs.Lines.{IsClosedLine}
use Rattle.ansi_str_search.proofs.Dressed.{ArePiecesOf-dressed, EachStands-through, IsClosed-dressed, NoneBroken-through, dressed_pieces}
use Rattle.ansi_str_search.proofs.Slices.{strip-dressed_pieces, strip-through}
use Rattle.ansi_str_search.proofs.TextLemmas.Stripping.{strip-without_escape}
use Rattle.grid_records_measure.specs.Cutting.{lacking, replacement}
use Rattle.grid_records_measure.specs.Filling.{behind_front, fitting_front}
use Rattle.grid_records_measure.proofs.Cuts.{cut_at-meets}
use Rattle.grid_records_measure.proofs.ShownCuts.{cut-shows}
use Rattle.papergrid_picture.proofs.Stripped.{Leaves, Leaves-append, none-broken}
use Rattle.tabled_size_wrap.proofs.CellsLemmas.TextsWithoutEscape.{free-marks, free-none}
use Rattle.tabled_size_wrap.specs.Bytes.{cut_at}
use Rattle.tabled_size_wrap.proofs.Shows.{feeds, feeds-take}

no-feeds : (bytes others : List ℕ) → feeds bytes ≡ false → feeds others ≡ false → feeds (bytes ++ others) ≡ false
no-feeds bytes others one two = list_any-append (λ byte. byte == 0x0a) bytes others ∙ ap (λ b. b || feeds others) one ∙ two

no-feeds-marks : (n : ℕ) → feeds (encode_utf8_all (replicate n replacement)) ≡ false
unfolding encode
no-feeds-marks zero = refl
no-feeds-marks (suc n) = no-feeds-marks n

-- what a cut keeps before its marks
module _ (ps : List Piece) (stand : EachStands ps) (whole : NoneBroken ps) (n : ℕ) where
  abbrev inner : List Piece
  inner = through_place n ps

  fitting_front-pieces : pieces (cut_part 0 n ps) ≡ dressed_pieces plain_attributes inner
  fitting_front-pieces =
      ap pieces (first_part-slice n ps)
      ∙ pieces-ArePiecesOf (dressed plain_attributes inner) (dressed_pieces plain_attributes inner)
      (ArePiecesOf-dressed plain_attributes inner IsRendition-plain (EachStands-through n ps stand whole) (NoneBroken-through n ps whole))

  fitting_front-leaves : Leaves (cut_part 0 n ps) (take n (strip ps))
  fitting_front-leaves = record {
    whole = subst NoneBroken (sym fitting_front-pieces) (IsClosed-dressed plain_attributes inner IsRendition-plain (NoneBroken-through n ps whole)).none_broken;
    left = ap strip fitting_front-pieces ∙ strip-dressed_pieces plain_attributes inner ∙ strip-through n ps;
  }

marks-leave : (n : ℕ) → Leaves (encode_utf8_all (replicate n replacement)) (encode_utf8_all (replicate n replacement))
marks-leave n =
    let marks = encode_utf8_all (replicate n replacement) in
    let are = ArePiecesOf-pieces marks in
    let free = free-none marks (free-marks n) in
    record { whole = none-broken (pieces marks) are.stand (ap (λ (bytes : List ℕ). list_any (λ b. b == 0x1b) bytes) are.joins ∙ free); left = strip-without_escape marks (pieces marks) are free }

pub cut-closed_line : (width : ℕ) (cell : List ℕ) → IsUtf8 cell → IsClosedLine cell → IsClosedLine (cut_at width cell)
unfolding cut_at
cut-closed_line width cell utf8 closed =
    let ps = pieces cell in
    let same : ps ≡ closed.pieces = pieces-ArePiecesOf cell closed.pieces closed.of_line in
    let whole : NoneBroken ps = subst NoneBroken (sym same) closed.closed.none_broken in
    let line : feeds (strip ps) ≡ false = subst (λ (qs : List Piece). feeds (strip qs) ≡ false) (sym same) closed.one_line in
    let of_text = ArePiecesOf-pieces cell in
    let out = cut_at width cell in
    let kept = fitting_front width 0 (chars (strip ps)) in
    let n = length (encode_utf8_all kept) in
    let k = lacking width kept (behind_front width 0 (chars (strip ps))) in
    let marks = encode_utf8_all (replicate k replacement) in
    let leaves = Leaves-append (cut_part 0 n ps) marks (take n (strip ps)) marks (fitting_front-leaves ps of_text.stand whole n) (marks-leave k) in
    let shows = cut-shows width cell out ps (pieces out) utf8 of_text whole (cut_at-meets width cell ps of_text) (ArePiecesOf-pieces out) in
    record {
      pieces = pieces out;
      of_line = ArePiecesOf-pieces out;
      closed = shows.closed;
      one_line = ap feeds leaves.left ∙ no-feeds (take n (strip ps)) marks (feeds-take n (strip ps) line) (no-feeds-marks k);
    }
