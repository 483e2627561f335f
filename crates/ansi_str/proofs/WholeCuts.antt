-- What the parts of a whole text show that is split at places.
use Rattle.std.proofs.Common.{◌≡◌, ℕ, ◌-◌, ◌<◌, ◌≤◌, Bool, true, false, List, [], ◌∷◌, ◌++◌, length, map, take, drop, slice_range, refl, ap, sym, subst, ◌∙◌, arith, append_assoc, append-nil, length-append}
use Rattle.std.specs.Prelude.{chars, if◌then◌else◌}
use Rattle.std.specs.Str.{IsUtf8}
use Rattle.std.proofs.lemmas.List.{map-append, take-append-drop, length-drop}
use Rattle.std.proofs.lemmas.Str.{chars-nil, chars-append, IsUtf8-take}
use Rattle.ansi_scan.specs.Sequences.{Piece, EachStands, ArePiecesOf, NoneBroken}
use Rattle.ansi_scan.specs.Joining.{is_text_kind}
use Rattle.ansi_scan.specs.Attributes.{Attributes, IsRendition, plain_attributes}
use Rattle.ansi_scan.proofs.Uniqueness.{ArePiecesOf-unique, Stands-some}
use Rattle.ansi_scan.proofs.Kept.{IsRendition-plain}
use Rattle.ansi_str.specs.StyledText.{text_of, strip, style_after, style_after_all, styled_from, styled, IsClosed}
use Rattle.ansi_str.specs.Parts.{piece_from, from_place, before_place, through_place, dressed, IsGoodBound}
use Rattle.ansi_str.specs.Walking.{from_text}
use Rattle.ansi_str.specs.Cuts.{cut_part, later_part}
use Rattle.ansi_str_search.proofs.Parts.{text_of-text, text_of-sequence, style_by-text}
use Rattle.ansi_str_search.proofs.PiecesAtPlaces.{none, inside, past, reach, has_text, from-inside, from-past, before-inside, before-past, through-inside, through-past, EachStands-from, strip-from}
use Rattle.ansi_str_search.proofs.PlaceSums.{through-all, through-parted, style-through_split}
use Rattle.ansi_str_search.proofs.Dressed.{dressed_pieces, styled_from-append, EachStands-through, NoneBroken-through, NoneBroken-from, ArePiecesOf-dressed, styled-dressed, IsClosed-dressed, IsRendition-after}
use Rattle.ansi_str_search.proofs.Slices.{strip-dressed_pieces, strip-through}
use Rattle.ansi_str_search.proofs.Utf8.{EachUtf8, EachUtf8-pieces, boundary-second, boundary-bytes}
use Rattle.ansi_str.proofs.CutParts.{first_part-slice, later_part-slice}
use Rattle.ansi_str.proofs.SplitSteps.{EachStands-from_text, strip-from_text}

-- ---- a dressed slice

module _ (bytes : List ℕ) (style : Attributes) (slice qs : List Piece) (same : bytes ≡ dressed style slice) (rendition : IsRendition style) (each : EachStands slice) (whole : NoneBroken slice) (of_part : ArePiecesOf bytes qs) where
  its_pieces : qs ≡ dressed_pieces style slice
  its_pieces = ArePiecesOf-unique bytes qs (dressed_pieces style slice) of_part
      (subst (λ found. ArePiecesOf found (dressed_pieces style slice)) (sym same) (ArePiecesOf-dressed style slice rendition each whole))

  pub dressed-shows : styled qs ≡ styled_from style slice
  dressed-shows = ap styled its_pieces ∙ styled-dressed style slice rendition

  pub dressed-strip : strip qs ≡ strip slice
  dressed-strip = ap strip its_pieces ∙ strip-dressed_pieces style slice

  pub dressed-closed : IsClosed qs
  dressed-closed = subst IsClosed (sym its_pieces) (IsClosed-dressed style slice rendition whole)

NoneBroken-from_text : (ps : List Piece) → NoneBroken ps → NoneBroken (from_text ps)
NoneBroken-from_text [] whole = tt
NoneBroken-from_text (p ∷ ps) whole = by (is_text_kind p.kind) refl (NoneBroken-from_text ps whole.1)
  where
    by : (text : Bool) → is_text_kind p.kind ≡ text → NoneBroken (from_text ps) → NoneBroken (from_text (p ∷ ps))
    by true e others = subst NoneBroken (ap (λ t. if t then p ∷ ps else from_text ps) (sym e)) whole
    by false e others = subst NoneBroken (ap (λ t. if t then p ∷ ps else from_text ps) (sym e)) others

module _ (text : List ℕ) (ps : List Piece) (of_text : ArePiecesOf text ps) (whole : NoneBroken ps) where
  module _ (b : ℕ) (qs : List Piece) (of_part : ArePiecesOf (cut_part 0 b ps) qs) where
    first_stands : EachStands (through_place b ps)
    first_stands = EachStands-through b ps of_text.stand whole

    pub first_part-shows : styled qs ≡ styled_from plain_attributes (through_place b ps)
    first_part-shows = dressed-shows (cut_part 0 b ps) plain_attributes (through_place b ps) qs (first_part-slice b ps) IsRendition-plain first_stands (NoneBroken-through b ps whole) of_part

    pub first_part-closed : IsClosed qs
    first_part-closed = dressed-closed (cut_part 0 b ps) plain_attributes (through_place b ps) qs (first_part-slice b ps) IsRendition-plain first_stands (NoneBroken-through b ps whole) of_part

  module _ (a b : ℕ) (order : a ≤ b) (qs : List Piece) (of_part : ArePiecesOf (later_part a b ps) qs) where
    abbrev opened : Attributes
    opened = style_after_all plain_attributes (through_place a ps)

    abbrev left : List Piece
    left = from_text (from_place a ps)

    left_whole : NoneBroken left
    left_whole = NoneBroken-from_text (from_place a ps) (NoneBroken-from a ps whole)

    left_stands : EachStands (through_place (b - a) left)
    left_stands = EachStands-through (b - a) left (EachStands-from_text (from_place a ps) (EachStands-from a ps of_text.stand)) left_whole

    pub later_part-shows : styled qs ≡ styled_from opened (through_place (b - a) left)
    later_part-shows = dressed-shows (later_part a b ps) opened (through_place (b - a) left) qs (later_part-slice a b ps order of_text.stand)
        (IsRendition-after plain_attributes (through_place a ps) IsRendition-plain) left_stands (NoneBroken-through (b - a) left left_whole) of_part

    pub later_part-strip : strip qs ≡ slice_range (strip ps) a b
    later_part-strip =
        dressed-strip (later_part a b ps) opened (through_place (b - a) left) qs (later_part-slice a b ps order of_text.stand)
        (IsRendition-after plain_attributes (through_place a ps) IsRendition-plain) left_stands (NoneBroken-through (b - a) left left_whole) of_part
        ∙ strip-through (b - a) left ∙ ap (take (b - a)) (strip-from_text (from_place a ps) ∙ strip-from a ps)

    pub later_part-closed : IsClosed qs
    later_part-closed = dressed-closed (later_part a b ps) opened (through_place (b - a) left) qs (later_part-slice a b ps order of_text.stand)
        (IsRendition-after plain_attributes (through_place a ps) IsRendition-plain) left_stands (NoneBroken-through (b - a) left left_whole) of_part

-- ---- both sides of a place

-- the sequences that come first show nothing
shown-none : (style : Attributes) (ps : List Piece) → EachStands ps → styled_from style (through_place 0 ps) ≡ []
shown-none style [] each = refl
shown-none style (p ∷ ps) each = by (is_text_kind p.kind) refl (shown-none (style_after style p) ps each.1)
  where
    by : (text : Bool) → is_text_kind p.kind ≡ text → styled_from (style_after style p) (through_place 0 ps) ≡ [] → styled_from style (through_place 0 (p ∷ ps)) ≡ []
    by true e others =
        let some : 0 < length (text_of p) = omega (arith, ap length (text_of-text p e), Stands-some p.kind p.bytes ps each.0) in
        ap (styled_from style) (through-inside 0 p ps some)
    by false e others =
        let none_here : length (text_of p) ≡ 0 = ap length (text_of-sequence p e) in
        let over : length (text_of p) ≤ 0 = omega (arith, none_here) in
        let front : 0 - length (text_of p) ≡ 0 = omega (arith, none_here) in
        ap (styled_from style) (through-past 0 p ps over)
        ∙ ap (λ n. map (λ c. (c, style)) (chars (text_of p)) ++ styled_from (style_after style p) (through_place n ps)) front
        ∙ ap (λ bytes. map (λ c. (c, style)) (chars bytes) ++ styled_from (style_after style p) (through_place 0 ps)) (text_of-sequence p e)
        ∙ ap (λ cs. map (λ c. (c, style)) cs ++ styled_from (style_after style p) (through_place 0 ps)) chars-nil ∙ others

-- and the text after them shows all
shown-text : (style : Attributes) (ps : List Piece) → EachStands ps → styled_from style ps ≡ styled_from (style_after_all style (through_place 0 ps)) (from_text ps)
shown-text style [] each = refl
shown-text style (p ∷ ps) each = by (is_text_kind p.kind) refl (shown-text (style_after style p) ps each.1)
  where
    by : (text : Bool) → is_text_kind p.kind ≡ text → styled_from (style_after style p) ps ≡ styled_from (style_after_all (style_after style p) (through_place 0 ps)) (from_text ps)
        → styled_from style (p ∷ ps) ≡ styled_from (style_after_all style (through_place 0 (p ∷ ps))) (from_text (p ∷ ps))
    by true e others =
        let some : 0 < length (text_of p) = omega (arith, ap length (text_of-text p e), Stands-some p.kind p.bytes ps each.0) in
        ap (λ t. styled_from style (if t then p ∷ ps else from_text ps)) (sym e)
        ∙ ap (λ found. styled_from (style_after_all style found) (from_text (p ∷ ps))) (sym (through-inside 0 p ps some))
    by false e others =
        let none_here : length (text_of p) ≡ 0 = ap length (text_of-sequence p e) in
        let over : length (text_of p) ≤ 0 = omega (arith, none_here) in
        let front : 0 ≡ 0 - length (text_of p) = omega (arith, none_here) in
        ap (λ bytes. map (λ c. (c, style)) (chars bytes) ++ styled_from (style_after style p) ps) (text_of-sequence p e)
        ∙ ap (λ cs. map (λ c. (c, style)) cs ++ styled_from (style_after style p) ps) chars-nil ∙ others
        ∙ ap (λ n. styled_from (style_after_all (style_after style p) (through_place n ps)) (from_text ps)) front
        ∙ ap (λ found. styled_from (style_after_all style found) (from_text ps)) (sym (through-past 0 p ps over))
        ∙ ap (λ t. styled_from (style_after_all style (through_place 0 (p ∷ ps))) (if t then p ∷ ps else from_text ps)) (sym e)

abbrev in_style : Attributes → ℕ → (ℕ × Attributes)
in_style style c = (c, style)

shown-cut : (style : Attributes) (n : ℕ) (p : Piece) (ps : List Piece) → n < length (text_of p) → IsUtf8 p.bytes → IsGoodBound (strip (p ∷ ps)) n
    → map (in_style style) (chars (text_of p)) ≡ map (in_style style) (chars (take n p.bytes)) ++ map (in_style style) (chars (drop n p.bytes))
shown-cut style n p ps h utf8 good =
    let less : n < length (strip (p ∷ ps)) = omega (arith, h, length-append (text_of p) (strip ps)) in
    let boundary = boundary-bytes n p ps h (good less) in
    ap (λ bytes. map (in_style style) (chars bytes)) (text_of-text p (has_text p n h) ∙ sym (take-append-drop n p.bytes))
    ∙ ap (map (in_style style)) (chars-append (take n p.bytes) (drop n p.bytes) (IsUtf8-take p.bytes n utf8 boundary))
    ∙ map-append (in_style style) (chars (take n p.bytes)) (chars (drop n p.bytes))

good-behind : (n : ℕ) (p : Piece) (ps : List Piece) → length (text_of p) ≤ n → IsGoodBound (strip (p ∷ ps)) n → IsGoodBound (strip ps) (n - length (text_of p))
good-behind n p ps h good = λ less.
    let inside_all : n < length (strip (p ∷ ps)) = omega (arith, less, h, length-append (text_of p) (strip ps)) in
    boundary-second (text_of p) (strip ps) n h (good inside_all)

shown-places : (style : Attributes) (n : ℕ) (ps : List Piece) → EachUtf8 ps → IsGoodBound (strip ps) n
    → styled_from style ps ≡ styled_from style (before_place n ps) ++ styled_from (style_after_all style (before_place n ps)) (from_place n ps)
shown-places style n [] each good = refl
shown-places style n (p ∷ ps) each good = elim (reach n p) [
  | none e ↦ ap (λ m. styled_from style (before_place m (p ∷ ps)) ++ styled_from (style_after_all style (before_place m (p ∷ ps))) (from_place m (p ∷ ps))) (sym e)
  | inside some h ↦
      let text = has_text p n h in
      let front : Piece = record { kind = p.kind; bytes = take n p.bytes } in
      let others = styled_from (style_after style p) ps in
      ap (λ cs. cs ++ others) (shown-cut style n p ps h each.0 good)
      ∙ append_assoc (map (in_style style) (chars (take n p.bytes))) (map (in_style style) (chars (drop n p.bytes))) others
      ∙ ap (λ bytes. map (in_style style) (chars bytes) ++ (map (in_style style) (chars (drop n p.bytes)) ++ others)) (sym (text_of-text front text))
      ∙ ap (λ bytes. map (in_style style) (chars (text_of front)) ++ (map (in_style style) (chars bytes) ++ others)) (sym (text_of-text (piece_from n p) text))
      ∙ ap (λ s. map (in_style style) (chars (text_of front)) ++ (map (in_style style) (chars (text_of (piece_from n p))) ++ styled_from s ps)) (style_by-text style p.kind p.bytes text ∙ sym (style_by-text style p.kind (drop n p.bytes) text))
      ∙ ap (λ cs. cs ++ styled_from style (piece_from n p ∷ ps)) (sym (append-nil (map (in_style style) (chars (text_of front)))))
      ∙ ap (λ s. styled_from style (front ∷ []) ++ styled_from s (piece_from n p ∷ ps)) (sym (style_by-text style p.kind (take n p.bytes) text))
      ∙ ap (λ found. styled_from style found ++ styled_from (style_after_all style found) (piece_from n p ∷ ps)) (sym (before-inside n p ps some h))
      ∙ ap (λ found. styled_from style (before_place n (p ∷ ps)) ++ styled_from (style_after_all style (before_place n (p ∷ ps))) found) (sym (from-inside n p ps some h))
  | past some h ↦
      let m = n - length (text_of p) in
      let here = map (in_style style) (chars (text_of p)) in
      let next = style_after style p in
      ap (λ cs. here ++ cs) (shown-places next m ps each.1 (good-behind n p ps h good))
      ∙ sym (append_assoc here (styled_from next (before_place m ps)) (styled_from (style_after_all next (before_place m ps)) (from_place m ps)))
      ∙ ap (λ found. styled_from style found ++ styled_from (style_after_all style found) (from_place m ps)) (sym (before-past n p ps some h))
      ∙ ap (λ found. styled_from style (before_place n (p ∷ ps)) ++ styled_from (style_after_all style (before_place n (p ∷ ps))) found) (sym (from-past n p ps some h))
]

-- the two sides of a place show what the text shows
pub shown-sides : (style : Attributes) (n : ℕ) (ps : List Piece) → EachStands ps → EachUtf8 ps → IsGoodBound (strip ps) n
    → styled_from style (through_place n ps) ++ styled_from (style_after_all style (through_place n ps)) (from_text (from_place n ps)) ≡ styled_from style ps
shown-sides style n ps stands each good =
    let before = before_place n ps in
    let behind = from_place n ps in
    let known = style_after_all style before in
    ap (λ s. styled_from style (through_place n ps) ++ styled_from s (from_text behind)) (style-through_split n style ps)
    ∙ ap (λ found. styled_from style found ++ styled_from (style_after_all known (through_place 0 behind)) (from_text behind)) (through-parted n ps)
    ∙ ap (λ cs. cs ++ styled_from (style_after_all known (through_place 0 behind)) (from_text behind))
    (styled_from-append style before (through_place 0 behind) ∙ ap (λ cs. styled_from style before ++ cs) (shown-none known behind (EachStands-from n ps stands)) ∙ append-nil (styled_from style before))
    ∙ ap (λ cs. styled_from style before ++ cs) (sym (shown-text known behind (EachStands-from n ps stands)))
    ∙ sym (shown-places style n ps each good)

-- the two parts of a split at a place show what the text shows
pub sides-show : (text : List ℕ) (ps first second : List Piece) (mid : ℕ) → IsUtf8 text → ArePiecesOf text ps → NoneBroken ps → mid ≤ length (strip ps) → IsGoodBound (strip ps) mid
    → ArePiecesOf (cut_part 0 mid ps) first → ArePiecesOf (later_part mid (length (strip ps)) ps) second → styled first ++ styled second ≡ styled ps
sides-show text ps first second mid utf8 of_text whole fits good of_first of_second =
    let behind = from_text (from_place mid ps) in
    let opened = style_after_all plain_attributes (through_place mid ps) in
    let size : length (strip behind) ≤ length (strip ps) - mid = omega (arith, ap length (strip-from_text (from_place mid ps) ∙ strip-from mid ps), length-drop mid (strip ps)) in
    ap (λ cs. cs ++ styled second) (first_part-shows text ps of_text whole mid first of_first)
    ∙ ap (λ cs. styled_from plain_attributes (through_place mid ps) ++ cs)
    (later_part-shows text ps of_text whole mid (length (strip ps)) fits second of_second ∙ ap (styled_from opened) (through-all (length (strip ps) - mid) behind size))
    ∙ shown-sides plain_attributes mid ps of_text.stand (EachUtf8-pieces ps of_text.stand (subst IsUtf8 (sym of_text.joins) utf8)) good
