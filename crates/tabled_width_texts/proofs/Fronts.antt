-- What a cut keeps is the longest prefix of what a text shows that fits.
use Rattle.std.proofs.Common.{◌≡◌, ◌++◌, ℕ, List, length, chars, map, take, replicate, ap, sym, subst, ◌∙◌}
use Rattle.std.specs.Str.{IsUtf8}
use Rattle.std.proofs.Math.Seq.{take-append_seam}
use Rattle.std.proofs.lemmas.List.{append_cancel_left, length-map}
use Rattle.ansi_scan.specs.Attributes.{Attributes, plain_attributes}
use Rattle.ansi_scan.specs.Sequences.{Piece, ArePiecesOf, NoneBroken}
use Rattle.ansi_scan.proofs.Uniqueness.{pieces-ArePiecesOf}
use Rattle.ansi_str.specs.StyledText.{strip, styled}
use Rattle.ansi_str_search.proofs.TextLemmas.Utf8Pieces.{styled-characters}
use Rattle.grid_records_measure.specs.Cutting.{IsLongestFront, lacking, replacement}
use Rattle.grid_records_measure.proofs.Cuts.{cut_at-meets}
use Rattle.grid_records_measure.proofs.Filling.{IsLongestFront-unique}
use Rattle.grid_records_measure.proofs.ShownCuts.{cut-shows}
use Rattle.tabled_size_wrap.specs.Bytes.{cut_at}
use Rattle.tabled_size_wrap.specs.Fronts.{IsFrontOf}
use Rattle.tabled_size_wrap.proofs.Fronts.{fitting_front-meets, fitting_front-one, kept_of, left_of}
use Rattle.tabled_width_texts.specs.Cutting.{kept_characters}

abbrev character_of : ℕ × Attributes → ℕ
character_of x = x.0

kept-by : (width : ℕ) (text : List ℕ) (ps : List Piece) → ArePiecesOf text ps → kept_of character_of width (styled ps) ≡ kept_characters width text
kept-by width text ps of_text = ap (λ (found : List Piece). kept_of character_of width (styled found)) (sym (pieces-ArePiecesOf text ps of_text))

pub kept-meets : (width : ℕ) (text : List ℕ) (ps : List Piece) → ArePiecesOf text ps → (left : List (ℕ × Attributes)) × IsFrontOf character_of width (styled ps) (kept_characters width text) left
kept-meets width text ps of_text = (
  left_of character_of width (styled ps),
  subst (λ found. IsFrontOf character_of width (styled ps) found (left_of character_of width (styled ps))) (kept-by width text ps of_text) (fitting_front-meets character_of width (styled ps)),
)

pub kept-one : (width : ℕ) (text : List ℕ) (ps : List Piece) (found left : List (ℕ × Attributes)) → ArePiecesOf text ps → IsFrontOf character_of width (styled ps) found left → found ≡ kept_characters width text
kept-one width text ps found left of_text is = fitting_front-one character_of width (styled ps) found left is ∙ kept-by width text ps of_text

pub kept-shown : (width : ℕ) (text : List ℕ) (ps qs : List Piece) (left : List (ℕ × Attributes)) → IsUtf8 text → ArePiecesOf text ps → NoneBroken ps
    → ArePiecesOf (cut_at width text) qs → IsFrontOf character_of width (styled ps) (kept_characters width text) left
    → styled qs ≡ kept_characters width text ++ map (λ c. (c, plain_attributes)) (replicate (lacking width (map character_of (kept_characters width text)) (map character_of left)) replacement)
kept-shown width text ps qs left utf8 of_text whole of_cut is =
    let shows = cut-shows width text (cut_at width text) ps qs utf8 of_text whole (cut_at-meets width text ps of_text) of_cut in
    let cells : List (ℕ × Attributes) = styled ps in
    let characters : map character_of cells ≡ chars (strip ps) = styled-characters text ps utf8 of_text in
    let longest : IsLongestFront width (map character_of cells) shows.kept shows.left = subst (λ (cs : List ℕ). IsLongestFront width cs shows.kept shows.left) (sym characters) shows.longest in
    let same : shows.kept ≡ map character_of (kept_characters width text) =
    IsLongestFront-unique width (map character_of cells) shows.kept shows.left (map character_of (kept_characters width text)) (map character_of left) longest is.longest in
    let behind : shows.left ≡ map character_of left =
    append_cancel_left (map character_of (kept_characters width text)) shows.left (map character_of left)
    (sym (longest.parted ∙ ap (λ (xs : List ℕ). xs ++ shows.left) same) ∙ is.longest.parted) in
    let size : length shows.kept ≡ length (kept_characters width text) = ap (λ (xs : List ℕ). length xs) same ∙ length-map (kept_characters width text) character_of in
    let front : take (length shows.kept) cells ≡ kept_characters width text =
    ap (λ n. take n cells) size ∙ ap (take (length (kept_characters width text))) is.parted ∙ take-append_seam (kept_characters width text) left in
    let marks : List ℕ → List ℕ → List (ℕ × Attributes) = λ xs ys. map (λ c. (c, plain_attributes)) (replicate (lacking width xs ys) replacement) in
    shows.shown
    ∙ ap (λ (xs : List (ℕ × Attributes)). xs ++ marks shows.kept shows.left) front
    ∙ ap (λ (xs : List ℕ). kept_characters width text ++ marks xs shows.left) same
    ∙ ap (λ (ys : List ℕ). kept_characters width text ++ marks (map character_of (kept_characters width text)) ys) behind
