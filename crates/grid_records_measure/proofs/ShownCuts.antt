-- What a cut at a width shows.
use Rattle.std.proofs.Common.{◌≡◌, ◌≤◌, ◌<◌, ◌-◌, ℕ, zero, suc, ◌&&◌, Bool, true, false, cond, List, [], ◌∷◌, ◌++◌, length, take, map, replicate, chars, encode_utf8_all, slice_range, refl, ap, sym, subst, ◌∙◌, arith, append-nil, append_assoc}
use Rattle.std.specs.List.{list_all}
use Rattle.std.specs.Str.{IsUtf8, IsCharBoundary}
use Rattle.std.proofs.Math.Seq.{take-append_seam}
use Rattle.std.proofs.Math.Utf8.{scalars, scalar, encode}
use Rattle.std.proofs.lemmas.Bool.{and_parts}
use Rattle.std.proofs.lemmas.List.{map-append}
use Rattle.std.proofs.lemmas.Str.{chars-append, chars-encodes, encodes-append, encodes-chars, scalars-chars, IsCharBoundary-start, IsCharBoundary-at_seam, chars-nil, length-le-encodes}
use Rattle.ansi_scan.specs.declared.items.Kind.TheVariants.{Text}
use Rattle.ansi_scan.specs.Sequences.{Piece, ArePiecesOf, NoneBroken, is_not_escape}
use Rattle.ansi_scan.specs.Joining.{is_text_kind, put_before, put_all_before}
use Rattle.ansi_scan.specs.Pieces.{pieces}
use Rattle.ansi_scan.specs.Attributes.{Attributes, plain_attributes}
use Rattle.ansi_scan.proofs.Existence.{ArePiecesOf-pieces}
use Rattle.ansi_scan.proofs.Uniqueness.{ArePiecesOf-unique}
use Rattle.ansi_scan.proofs.Joins.{ArePiecesOf-append, NoneBroken-put_all_before}
use Rattle.ansi_str.specs.StyledText.{IsClosed, strip, style_after, style_after_all, styled, styled_from, text_of}
use Rattle.ansi_str.specs.Parts.{from_place, through_place, dressed, split_part}
use Rattle.ansi_str.specs.Cuts.{cut_part}
use Rattle.ansi_str_search.proofs.TextLemmas.Utf8Pieces.{EachUtf8, EachUtf8-pieces, IsUtf8-shown_text}
use Rattle.ansi_str_search.proofs.Parts.{style_by-text}
use Rattle.ansi_str_search.proofs.PiecesAtPlaces.{before-none, from-none}
use Rattle.ansi_str_search.proofs.Styles.{split_part-slice}
use Rattle.ansi_str_search.proofs.Cuts.{with_style, styled_from-text}
use Rattle.ansi_str.proofs.CutParts.{first_part-slice}
use Rattle.ansi_str_search.proofs.CharSlices.{styled-slice}
use Rattle.ansi_str_search.proofs.Utf8.{IsUtf8-split_part}
use Rattle.ansi_str.proofs.WholeCuts.{first_part-closed}
use Rattle.grid_records_measure.specs.Cutting.{IsLongestFront, IsCutAt, ShowsCut, lacking, replacement}
use Rattle.grid_records_measure.proofs.Cuts.{scalars-behind}

-- ---- pieces before others, of which a neighbouring text is made one

styled-both : (style : Attributes) (p q : Piece) (qs : List Piece) (one : Bool) → is_text_kind p.kind && is_text_kind q.kind ≡ one → IsUtf8 p.bytes
    → styled_from style (cond one (record { kind = Text; bytes = p.bytes ++ q.bytes } ∷ qs) (p ∷ q ∷ qs)) ≡ styled_from style (p ∷ q ∷ qs)
styled-both style p q qs false e utf8 = refl
styled-both style p q qs true e utf8 =
    let texts = and_parts (is_text_kind p.kind) (is_text_kind q.kind) e in
    let rest = styled_from style qs in
    ap (λ cs. with_style style cs ++ rest) (chars-append p.bytes q.bytes utf8)
    ∙ ap (λ shown. shown ++ rest) (map-append (λ x. (x, style)) (chars p.bytes) (chars q.bytes))
    ∙ append_assoc (with_style style (chars p.bytes)) (with_style style (chars q.bytes)) rest
    ∙ ap (λ shown. with_style style (chars p.bytes) ++ shown) (sym (styled_from-text style q qs texts.1))
    ∙ sym (styled_from-text style p (q ∷ qs) texts.0)

styled-put_before : (style : Attributes) (p : Piece) (qs : List Piece) → IsUtf8 p.bytes → styled_from style (put_before p qs) ≡ styled_from style (p ∷ qs)
styled-put_before style p [] utf8 = refl
styled-put_before style p (q ∷ qs) utf8 = styled-both style p q qs (is_text_kind p.kind && is_text_kind q.kind) refl utf8

pub styled-put_all_before : (style : Attributes) (ps qs : List Piece) → EachUtf8 ps → styled_from style (put_all_before ps qs) ≡ styled_from style ps ++ styled_from (style_after_all style ps) qs
styled-put_all_before style [] qs each = refl
styled-put_all_before style (p ∷ ps) qs each =
    let here = map (λ c. (c, style)) (chars (text_of p)) in
    let after = style_after style p in
    styled-put_before style p (put_all_before ps qs) each.0
    ∙ ap (λ shown. here ++ shown) (styled-put_all_before after ps qs each.1)
    ∙ sym (append_assoc here (styled_from after ps) (styled_from (style_after_all after ps) qs))

style-both : (style : Attributes) (p q : Piece) (qs : List Piece) (one : Bool) → is_text_kind p.kind && is_text_kind q.kind ≡ one
    → style_after_all style (cond one (record { kind = Text; bytes = p.bytes ++ q.bytes } ∷ qs) (p ∷ q ∷ qs)) ≡ style_after_all style (p ∷ q ∷ qs)
style-both style p q qs false e = refl
style-both style p q qs true e =
    let texts = and_parts (is_text_kind p.kind) (is_text_kind q.kind) e in
    let first = style_by-text style p.kind p.bytes texts.0 in
    ap (λ s. style_after_all s qs) (sym (ap (λ s. style_after s q) first ∙ style_by-text style q.kind q.bytes texts.1))

style-put_before : (style : Attributes) (p : Piece) (qs : List Piece) → style_after_all style (put_before p qs) ≡ style_after_all style (p ∷ qs)
style-put_before style p [] = refl
style-put_before style p (q ∷ qs) = style-both style p q qs (is_text_kind p.kind && is_text_kind q.kind) refl

pub style-put_all_before : (style : Attributes) (ps qs : List Piece) → style_after_all style (put_all_before ps qs) ≡ style_after_all (style_after_all style ps) qs
style-put_all_before style [] qs = refl
style-put_all_before style (p ∷ ps) qs = style-put_before style p (put_all_before ps qs) ∙ style-put_all_before (style_after style p) ps qs

-- ---- replacement characters

unfoldable pub fill_pieces : ℕ → List Piece
fill_pieces zero = []
fill_pieces (suc n) = record { kind = Text; bytes = encode_utf8_all (replicate (suc n) replacement) } ∷ []

filled-plain : (n : ℕ) → list_all is_not_escape (encode_utf8_all (replicate n replacement)) ≡ true
unfolding encode
filled-plain zero = refl
filled-plain (suc n) = filled-plain n

some-fill : (n : ℕ) → 0 < length (encode_utf8_all (replicate (suc n) replacement))
some-fill n = let few = length-le-encodes (replicate (suc n) replacement) in omega (arith, few)

pub ArePiecesOf-fill : (n : ℕ) → ArePiecesOf (encode_utf8_all (replicate n replacement)) (fill_pieces n)
unfolding fill_pieces
ArePiecesOf-fill zero = record { joins = refl; stand = tt }
ArePiecesOf-fill (suc n) = record {
  joins = append-nil (encode_utf8_all (replicate (suc n) replacement));
  stand = (record { some = some-fill n; plain = filled-plain (suc n); ends = tt }, tt);
}

pub NoneBroken-fill : (n : ℕ) → NoneBroken (fill_pieces n)
unfolding fill_pieces
NoneBroken-fill zero = tt
NoneBroken-fill (suc n) = (λ same. cc same, tt)

pub style-fill : (style : Attributes) (n : ℕ) → style_after_all style (fill_pieces n) ≡ style
unfolding fill_pieces
style-fill style zero = refl
style-fill style (suc n) = refl

scalars-fill : (n : ℕ) → scalars (replicate n replacement) ≡ true
scalars-fill zero = refl
scalars-fill (suc n) = scalars-fill n

pub styled-fill : (style : Attributes) (n : ℕ) → styled_from style (fill_pieces n) ≡ map (λ c. (c, style)) (replicate n replacement)
unfolding fill_pieces
styled-fill style zero = refl
styled-fill style (suc n) =
    append-nil (with_style style (chars (encode_utf8_all (replicate (suc n) replacement))))
    ∙ ap (with_style style) (chars-encodes (replicate (suc n) replacement) (scalars-fill (suc n)))

-- ---- the cut

pub scalars-before : (xs ys : List ℕ) → scalars (xs ++ ys) ≡ true → scalars xs ≡ true
scalars-before [] ys all = refl
scalars-before (x ∷ xs) ys all =
    let parts = and_parts (scalar x) (scalars (xs ++ ys)) all in
    ap (λ b. b && scalars xs) parts.0 ∙ scalars-before xs ys parts.1

cut-split : (b : ℕ) (ps : List Piece) → split_part 0 b ps ≡ cut_part 0 b ps
cut-split b ps =
    let low : 0 ≤ b = omega arith in
    let all : b - 0 ≡ b = omega arith in
    split_part-slice 0 b ps low
    ∙ ap (λ before. dressed (style_after_all plain_attributes before) (through_place (b - 0) (from_place 0 ps))) (before-none ps)
    ∙ ap (λ from. dressed plain_attributes (through_place (b - 0) from)) (from-none ps)
    ∙ ap (λ n. dressed plain_attributes (through_place n ps)) all
    ∙ sym (first_part-slice b ps)

module _ (width : ℕ) (text : List ℕ) (ps : List Piece) (utf8 : IsUtf8 text) (of_text : ArePiecesOf text ps) (whole : NoneBroken ps)
    (kept left : List ℕ) (longest : IsLongestFront width (chars (strip ps)) kept left) where
  abbrev at : ℕ
  at = length (encode_utf8_all kept)

  IsUtf8-shown : IsUtf8 (strip ps)
  IsUtf8-shown = subst (λ (of : List Piece). IsUtf8 (strip of)) (ArePiecesOf-unique text (pieces text) ps (ArePiecesOf-pieces text) of_text) (IsUtf8-shown_text text utf8)

  all_scalars : scalars (kept ++ left) ≡ true
  all_scalars = ap scalars (sym longest.parted) ∙ scalars-chars (strip ps) IsUtf8-shown

  spelled : strip ps ≡ encode_utf8_all kept ++ encode_utf8_all left
  spelled = sym (encodes-chars (strip ps) IsUtf8-shown) ∙ ap encode_utf8_all longest.parted ∙ encodes-append kept left

  boundary : IsCharBoundary (strip ps) at
  boundary = IsCharBoundary-at_seam (strip ps) (encode_utf8_all kept) (encode_utf8_all left) spelled (left, (scalars-behind kept left all_scalars, refl))

  start : IsCharBoundary (strip ps) 0
  start = IsCharBoundary-start (strip ps) IsUtf8-shown

  kept-chars : chars (take at (strip ps)) ≡ kept
  kept-chars =
      ap (λ bytes. chars (take at bytes)) spelled ∙ ap chars (take-append_seam (encode_utf8_all kept) (encode_utf8_all left))
      ∙ chars-encodes kept (scalars-before kept left all_scalars)

  shown-front : (qs : List Piece) → ArePiecesOf (cut_part 0 at ps) qs → styled qs ≡ take (length kept) (styled ps)
  shown-front qs of_cut =
      let low : 0 ≤ at = omega arith in
      let from : length (chars (take 0 (strip ps))) ≡ 0 = ap length chars-nil in
      let size : length kept - 0 ≡ length kept = omega arith in
      styled-slice text ps qs 0 at low utf8 of_text whole start boundary (subst (λ bytes. ArePiecesOf bytes qs) (sym (cut-split at ps)) of_cut)
      ∙ ap (λ n. slice_range (styled ps) n (length (chars (take at (strip ps))))) from
      ∙ ap (λ cs. slice_range (styled ps) 0 (length cs)) kept-chars
      ∙ ap (λ n. take n (styled ps)) size

  utf8-front : IsUtf8 (cut_part 0 at ps)
  utf8-front = let low : 0 ≤ at = omega arith in subst IsUtf8 (cut-split at ps) (IsUtf8-split_part text ps 0 at low utf8 of_text start boundary)

  pub shows-cut : (bytes : List ℕ) (qs : List Piece) → bytes ≡ cut_part 0 at ps ++ encode_utf8_all (replicate (lacking width kept left) replacement) → ArePiecesOf bytes qs → ShowsCut width ps qs
  shows-cut bytes qs is_bytes of_bytes =
      let n = lacking width kept left in
      let first = pieces (cut_part 0 at ps) in
      let of_first = ArePiecesOf-pieces (cut_part 0 at ps) in
      let closed = first_part-closed text ps of_text whole at first of_first in
      let each = EachUtf8-pieces first of_first.stand (subst IsUtf8 (sym of_first.joins) utf8-front) in
      let both = ArePiecesOf-append (cut_part 0 at ps) (encode_utf8_all (replicate n replacement)) first (fill_pieces n) of_first closed.none_broken (ArePiecesOf-fill n) in
      let same : qs ≡ put_all_before first (fill_pieces n) =
      ArePiecesOf-unique bytes qs (put_all_before first (fill_pieces n)) of_bytes (subst (λ all. ArePiecesOf all (put_all_before first (fill_pieces n))) (sym is_bytes) both) in
      record {
        kept = kept;
        left = left;
        longest = longest;
        shown =
            ap styled same
            ∙ styled-put_all_before plain_attributes first (fill_pieces n) each
            ∙ ap (λ style. styled_from plain_attributes first ++ styled_from style (fill_pieces n)) closed.plain
            ∙ ap (λ shown. styled_from plain_attributes first ++ shown) (styled-fill plain_attributes n)
            ∙ ap (λ shown. shown ++ map (λ c. (c, plain_attributes)) (replicate n replacement)) (shown-front first of_first);
        closed = subst IsClosed (sym same) (record {
          none_broken = NoneBroken-put_all_before first (fill_pieces n) closed.none_broken (NoneBroken-fill n);
          plain = style-put_all_before plain_attributes first (fill_pieces n) ∙ ap (λ style. style_after_all style (fill_pieces n)) closed.plain ∙ style-fill plain_attributes n;
        });
      }

pub cut-shows : (width : ℕ) (text bytes : List ℕ) (ps qs : List Piece) → IsUtf8 text → ArePiecesOf text ps → NoneBroken ps → IsCutAt width ps bytes → ArePiecesOf bytes qs → ShowsCut width ps qs
cut-shows width text bytes ps qs utf8 of_text whole cut of_bytes = shows-cut width text ps utf8 of_text whole cut.0 cut.1 cut.2 bytes qs cut.3 of_bytes
