-- What the walk to the place of a cut knows.
use Rattle.std.proofs.Common.{◌≡◌, ◌≤◌, ◌<◌, ◌==◌, ℕ, ◌+◌, ◌-◌, ◌&&◌, ◌||◌, not, nat_lt, Bool, true, false, cond, Some, None, List, [], ◌∷◌, ◌++◌, length, take, drop, replicate, chars, encode_utf8_all, refl, ap, sym, subst, ◌∙◌, arith, append-nil, length-append}
use Rattle.std.specs.List.{list_all}
use Rattle.std.specs.Str.{IsUtf8, IsCharBoundary}
use Rattle.std.proofs.Math.Utf8.{scalars, scalar, encode}
use Rattle.std.proofs.Math.Seq.{drop-append_seam}
use Rattle.std.proofs.lemmas.Bool.{and_parts}
use Rattle.std.proofs.lemmas.Bool.Decides.{nat_tests}
use Rattle.std.proofs.lemmas.List.{replicate-append-replicate, take_all}
use Rattle.std.proofs.lemmas.Str.{chars-nil, chars-append, encodes-append, encodes-chars, scalars-chars, chars_past_char, length-le-encodes, IsCharBoundary-start, IsCharBoundary-at_seam}
use Rattle.ansi_scan.specs.declared.items.Kind.TheVariants.{Text}
use Rattle.ansi_scan.specs.Sequences.{Piece, ArePiecesOf, escape, is_not_escape, joined}
use Rattle.ansi_scan.specs.Pieces.{pieces}
use Rattle.ansi_scan.specs.Attributes.{plain_attributes}
use Rattle.ansi_scan.proofs.Existence.{ArePiecesOf-pieces}
use Rattle.ansi_scan.proofs.Uniqueness.{ArePiecesOf-unique}
use Rattle.ansi_str.specs.StyledText.{has_escape, strip, style_after_all}
use Rattle.ansi_str.specs.Parts.{through_place}
use Rattle.ansi_str.specs.Cuts.{AreGoodBounds, cut_part}
use Rattle.ansi_str_search.proofs.TextLemmas.Stripping.{strip-without_escape}
use Rattle.ansi_str_search.proofs.Parts.{take_nil}
use Rattle.ansi_str_search.proofs.PlainParts.{plain_part}
use Rattle.ansi_str.proofs.CutParts.{first_part-slice}
use Rattle.ansi_str_search.proofs.TextLemmas.Utf8Pieces.{IsUtf8-shown_text}
use Rattle.grid_records_measure.specs.Cutting.{IsLongestFront, IsCutAt, CutIsFront, cut_bytes, lacking, replacement}
use Rattle.grid_records_measure.specs.CutTexts.{cut_at}
use Rattle.grid_records_measure.specs.Filling.{has_room, used_behind, columns_with, fitting_front, front_columns, behind_front}
use Rattle.grid_records_measure.proofs.Filling.{fitting_front-parted, lacking-left, goes-on, stops, IsLongestFront-fitting_front, IsLongestFront-unique}

-- ---- replacement characters

pub encodes-one_more : (n c : ℕ) → encode_utf8_all (replicate n c) ++ encode c ≡ encode_utf8_all (replicate (n + 1) c)
encodes-one_more n c =
    ap (λ bytes. encode_utf8_all (replicate n c) ++ bytes) (sym (append-nil (encode c)))
    ∙ sym (encodes-append (replicate n c) (c ∷ []))
    ∙ ap encode_utf8_all (replicate-append-replicate n 1 c)

-- ---- one character

room-some : (room : Bool) (n columns : ℕ) → cond room (Some n) None ≡ Some columns → (room ≡ true) × (n ≡ columns)
room-some true n columns e = (refl, cc e)
room-some false n columns e = absurd (cc e)

room-none : (room : Bool) (n : ℕ) → cond room (Some n) None ≡ None → room ≡ false
room-none true n e = absurd (cc e)
room-none false n e = refl

-- a character that fits
pub record Takes (width used c columns : ℕ) (bs rest : List ℕ) : Type 0 where
  pub kept : fitting_front width used (chars bs) ≡ c ∷ fitting_front width columns (chars rest)
  pub columns_same : front_columns width used (chars bs) ≡ front_columns width columns (chars rest)

pub takes : (width used c columns : ℕ) (bs rest : List ℕ) → IsUtf8 bs → bs ≡ encode c ++ rest → columns_with width used c ≡ Some columns → Takes width used c columns bs rest
takes width used c columns bs rest utf8 spelled some =
    let first = chars_past_char bs rest c utf8 spelled in
    let room = room-some (has_room width used c) (used_behind used c) columns some in
    record {
      kept =
          ap (fitting_front width used) first
          ∙ ap (λ b. cond b (c ∷ fitting_front width (used_behind used c) (chars rest)) []) room.0
          ∙ ap (λ n. c ∷ fitting_front width n (chars rest)) room.1;
      columns_same =
          ap (front_columns width used) first
          ∙ ap (λ b. cond b (front_columns width (used_behind used c) (chars rest)) used) room.0
          ∙ ap (λ n. front_columns width n (chars rest)) room.1;
    }

pub takes-len : (width used c columns : ℕ) (bs rest : List ℕ) → Takes width used c columns bs rest
    → length (encode_utf8_all (fitting_front width used (chars bs))) ≡ length (encode c) + length (encode_utf8_all (fitting_front width columns (chars rest)))
takes-len width used c columns bs rest taken =
    ap (λ cs. length (encode_utf8_all cs)) taken.kept ∙ length-append (encode c) (encode_utf8_all (fitting_front width columns (chars rest)))

-- one that does not
pub refuses : (width used c : ℕ) (bs rest : List ℕ) → IsUtf8 bs → bs ≡ encode c ++ rest → columns_with width used c ≡ None
    → (fitting_front width used (chars bs) ≡ []) × (front_columns width used (chars bs) ≡ used)
refuses width used c bs rest utf8 spelled none =
    let first = chars_past_char bs rest c utf8 spelled in
    let room = room-none (has_room width used c) (used_behind used c) none in (
      ap (fitting_front width used) first ∙ ap (λ b. cond b (c ∷ fitting_front width (used_behind used c) (chars rest)) []) room,
      ap (front_columns width used) first ∙ ap (λ b. cond b (front_columns width (used_behind used c) (chars rest)) used) room,
    )

-- and where no character is left
nothing : (bs : List ℕ) → length bs ≡ 0 → bs ≡ []
nothing [] none = refl
nothing (b ∷ bs) none = absurd (omega (arith, none))

pub ends : (width used : ℕ) (bs : List ℕ) → length bs ≡ 0 → (fitting_front width used (chars bs) ≡ []) × (front_columns width used (chars bs) ≡ used)
ends width used bs none =
    let empty = ap chars (nothing bs none) ∙ chars-nil in
    (ap (fitting_front width used) empty, ap (front_columns width used) empty)

-- ---- how many bytes fit

parted-bytes : (width used : ℕ) (cs : List ℕ)
    → length (encode_utf8_all (fitting_front width used cs)) + length (encode_utf8_all (behind_front width used cs)) ≡ length (encode_utf8_all cs)
parted-bytes width used cs =
    let kept = fitting_front width used cs in
    let left = behind_front width used cs in
    sym (length-append (encode_utf8_all kept) (encode_utf8_all left)) ∙ ap length (sym (encodes-append kept left)) ∙ ap (λ all. length (encode_utf8_all all)) (sym (fitting_front-parted width used cs))

pub fitting_front-fits : (width used : ℕ) (bs : List ℕ) → IsUtf8 bs → length (encode_utf8_all (fitting_front width used (chars bs))) ≤ length bs
fitting_front-fits width used bs utf8 =
    let sum = parted-bytes width used (chars bs) in
    let all : length (encode_utf8_all (chars bs)) ≡ length bs = ap length (encodes-chars bs utf8) in
    omega (arith, sum, all)

some-bytes : (cs : List ℕ) → 0 < length (encode_utf8_all cs) → 0 < length cs
some-bytes [] some = absurd (omega (arith, some))
some-bytes (c ∷ cs) some = omega arith

none-left : (cs : List ℕ) → length (encode_utf8_all cs) ≡ 0 → cs ≡ []
none-left cs none = let few = length-le-encodes cs in nothing cs (omega (arith, few, none))

pub all-fit : (width used : ℕ) (bs : List ℕ) → IsUtf8 bs → length bs ≤ length (encode_utf8_all (fitting_front width used (chars bs))) → behind_front width used (chars bs) ≡ []
all-fit width used bs utf8 long =
    let sum = parted-bytes width used (chars bs) in
    let all : length (encode_utf8_all (chars bs)) ≡ length bs = ap length (encodes-chars bs utf8) in
    none-left (behind_front width used (chars bs)) (omega (arith, sum, all, long))

pub some-left : (width used : ℕ) (bs : List ℕ) → IsUtf8 bs → length (encode_utf8_all (fitting_front width used (chars bs))) < length bs → 0 < length (behind_front width used (chars bs))
some-left width used bs utf8 short =
    let sum = parted-bytes width used (chars bs) in
    let all : length (encode_utf8_all (chars bs)) ≡ length bs = ap length (encodes-chars bs utf8) in
    some-bytes (behind_front width used (chars bs)) (omega (arith, sum, all, short))

fitting_front-all : (width used : ℕ) (cs : List ℕ) → behind_front width used cs ≡ [] → fitting_front width used cs ≡ cs
fitting_front-all width used cs none =
    sym (append-nil (fitting_front width used cs)) ∙ ap (λ left. fitting_front width used cs ++ left) (sym none) ∙ sym (fitting_front-parted width used cs)

-- ---- one text after another

-- all of the first text fits
pub record FitsOn (width used : ℕ) (first rest : List ℕ) : Type 0 where
  pub len : length (encode_utf8_all (fitting_front width used (chars (first ++ rest))))
      ≡ length (encode_utf8_all (fitting_front width used (chars first))) + length (encode_utf8_all (fitting_front width (front_columns width used (chars first)) (chars rest)))
  pub columns : front_columns width used (chars (first ++ rest)) ≡ front_columns width (front_columns width used (chars first)) (chars rest)
  pub left : behind_front width used (chars (first ++ rest)) ≡ behind_front width (front_columns width used (chars first)) (chars rest)

pub fits-on : (width used : ℕ) (first rest : List ℕ) → IsUtf8 first → behind_front width used (chars first) ≡ [] → FitsOn width used first rest
fits-on width used first rest utf8 none =
    let cs = chars first in
    let both = chars-append first rest utf8 in
    let on = goes-on width used cs (chars rest) none in
    let others = fitting_front width (front_columns width used cs) (chars rest) in
    record {
      len =
          ap (λ all. length (encode_utf8_all (fitting_front width used all))) both
          ∙ ap (λ all. length (encode_utf8_all all)) (on.kept ∙ ap (λ all. all ++ others) (sym (fitting_front-all width used cs none)))
          ∙ ap length (encodes-append (fitting_front width used cs) others)
          ∙ length-append (encode_utf8_all (fitting_front width used cs)) (encode_utf8_all others);
      columns = ap (front_columns width used) both ∙ on.columns;
      left = ap (behind_front width used) both ∙ on.left;
    }

-- not all of it does
pub record StopsIn (width used : ℕ) (first rest : List ℕ) : Type 0 where
  pub kept : fitting_front width used (chars (first ++ rest)) ≡ fitting_front width used (chars first)
  pub columns : front_columns width used (chars (first ++ rest)) ≡ front_columns width used (chars first)
  pub some : 0 < length (behind_front width used (chars (first ++ rest)))

pub stops-in : (width used : ℕ) (first rest : List ℕ) → IsUtf8 first → 0 < length (behind_front width used (chars first)) → StopsIn width used first rest
stops-in width used first rest utf8 some =
    let cs = chars first in
    let both = chars-append first rest utf8 in
    let stop = stops width used cs (chars rest) some in
    record {
      kept = ap (fitting_front width used) both ∙ stop.kept;
      columns = ap (front_columns width used) both ∙ stop.columns;
      some =
          let len = ap length (ap (behind_front width used) both ∙ stop.left) ∙ length-append (behind_front width used cs) (chars rest) in
          omega (arith, len, some);
    }

-- the prefix is no shorter with a text after it
longer-by : (width used : ℕ) (first rest left : List ℕ) → IsUtf8 first → behind_front width used (chars first) ≡ left
    → length (encode_utf8_all (fitting_front width used (chars first))) ≤ length (encode_utf8_all (fitting_front width used (chars (first ++ rest))))
longer-by width used first rest [] utf8 behind = let on = (fits-on width used first rest utf8 behind).len in omega (arith, on)
longer-by width used first rest (c ∷ left) utf8 behind =
    let some : 0 < length (behind_front width used (chars first)) = let len = ap length behind in omega (arith, len) in
    let stop = ap (λ cs. length (encode_utf8_all cs)) (stops-in width used first rest utf8 some).kept in
    omega (arith, stop)

pub fitting_front-longer : (width used : ℕ) (first rest : List ℕ) → IsUtf8 first
    → length (encode_utf8_all (fitting_front width used (chars first))) ≤ length (encode_utf8_all (fitting_front width used (chars (first ++ rest))))
fitting_front-longer width used first rest utf8 = longer-by width used first rest (behind_front width used (chars first)) utf8 refl

lacking-by : (width : ℕ) (cs left : List ℕ) → behind_front width 0 cs ≡ left → 0 < length left → lacking width (fitting_front width 0 cs) (behind_front width 0 cs) ≡ width - front_columns width 0 cs
lacking-by width cs [] behind some = absurd (omega (arith, some))
lacking-by width cs (c ∷ left) behind some = lacking-left width c cs left behind

pub lacking-some : (width : ℕ) (cs : List ℕ) → 0 < length (behind_front width 0 cs) → lacking width (fitting_front width 0 cs) (behind_front width 0 cs) ≡ width - front_columns width 0 cs
lacking-some width cs some = lacking-by width cs (behind_front width 0 cs) refl some

-- ---- the place of the cut

pub scalars-behind : (xs ys : List ℕ) → scalars (xs ++ ys) ≡ true → scalars ys ≡ true
scalars-behind [] ys all = all
scalars-behind (x ∷ xs) ys all = scalars-behind xs ys (and_parts (scalar x) (scalars (xs ++ ys)) all).1

pub fitting_front-boundary : (width : ℕ) (bs : List ℕ) → IsUtf8 bs → IsCharBoundary bs (length (encode_utf8_all (fitting_front width 0 (chars bs))))
fitting_front-boundary width bs utf8 =
    let cs = chars bs in
    let kept = fitting_front width 0 cs in
    let left = behind_front width 0 cs in
    let all : scalars (kept ++ left) ≡ true = ap scalars (sym (fitting_front-parted width 0 cs)) ∙ scalars-chars bs utf8 in
    let spelled : bs ≡ encode_utf8_all kept ++ encode_utf8_all left =
    sym (encodes-chars bs utf8) ∙ ap encode_utf8_all (fitting_front-parted width 0 cs) ∙ encodes-append kept left in
    IsCharBoundary-at_seam bs (encode_utf8_all kept) (encode_utf8_all left) spelled (left, (scalars-behind kept left all, refl))

-- ---- a text without ESC

-- its bytes are the one piece of text
plain-step : (b : ℕ) (bs : List ℕ) (here : Bool) → here || has_escape bs ≡ false → (has_escape bs ≡ false → list_all is_not_escape bs ≡ true)
    → not here && list_all is_not_escape bs ≡ true
plain-step b bs true none rest = absurd (cc none)
plain-step b bs false none rest = rest none

plain-bytes : (bs : List ℕ) → has_escape bs ≡ false → list_all is_not_escape bs ≡ true
plain-bytes [] none = refl
plain-bytes (b ∷ bs) none = plain-step b bs (b == escape) none (plain-bytes bs)

through-text : (n : ℕ) (bs : List ℕ) (short empty : Bool) → nat_lt n (length bs) ≡ short → (n == 0) ≡ empty
    → joined (cond short (cond empty [] (record { kind = Text; bytes = take n bs } ∷ [])) (record { kind = Text; bytes = bs } ∷ [])) ≡ take n bs
through-text n bs false empty long none = append-nil bs ∙ sym (take_all n bs (grind (arith, nat_tests, long)))
through-text n bs true true short none = let same : 0 ≡ n = grind (arith, nat_tests, none) in ap (λ k. take k bs) same
through-text n bs true false short none = append-nil (take n bs)

style-through : (n : ℕ) (bs : List ℕ) (short empty : Bool)
    → style_after_all plain_attributes (cond short (cond empty [] (record { kind = Text; bytes = take n bs } ∷ [])) (record { kind = Text; bytes = bs } ∷ [])) ≡ plain_attributes
style-through n bs false empty = refl
style-through n bs true true = refl
style-through n bs true false = refl

cut-empty : (n : ℕ) → cut_part 0 n [] ≡ take n []
cut-empty n = first_part-slice n [] ∙ plain_part plain_attributes plain_attributes [] refl refl ∙ sym (take_nil n)

cut-text : (n b : ℕ) (bs : List ℕ) → cut_part 0 n (record { kind = Text; bytes = b ∷ bs } ∷ []) ≡ take n (b ∷ bs)
cut-text n b bs =
    let piece : Piece = record { kind = Text; bytes = b ∷ bs } in
    let slice = through_place n (piece ∷ []) in
    first_part-slice n (piece ∷ [])
    ∙ plain_part plain_attributes (style_after_all plain_attributes slice) (joined slice) refl
    (style-through n (b ∷ bs) (nat_lt n (length (b ∷ bs))) (n == 0))
    ∙ through-text n (b ∷ bs) (nat_lt n (length (b ∷ bs))) (n == 0) refl refl

pub cut-without_escape : (n : ℕ) (text : List ℕ) (ps : List Piece) → has_escape text ≡ false → ArePiecesOf text ps → cut_part 0 n ps ≡ take n text
cut-without_escape n [] ps none of_text =
    ap (cut_part 0 n) (ArePiecesOf-unique [] ps [] of_text (record { joins = refl; stand = tt })) ∙ cut-empty n
cut-without_escape n (b ∷ bs) ps none of_text =
    let all : List Piece = record { kind = Text; bytes = b ∷ bs } ∷ [] in
    let stands : ArePiecesOf (b ∷ bs) all = record {
      joins = append-nil (b ∷ bs);
      stand = (record { some = omega arith; plain = plain-bytes (b ∷ bs) none; ends = tt }, tt);
    } in
    ap (cut_part 0 n) (ArePiecesOf-unique (b ∷ bs) ps all of_text stands) ∙ cut-text n b bs

-- ---- the cut

abbrev shown_front : ℕ → List ℕ → List ℕ
shown_front width text = fitting_front width 0 (chars (strip (pieces text)))

abbrev shown_left : ℕ → List ℕ → List ℕ
shown_left width text = behind_front width 0 (chars (strip (pieces text)))

abbrev shown_lacking : ℕ → List ℕ → ℕ
shown_lacking width text = lacking width (shown_front width text) (shown_left width text)

pub cut-bounds : (width : ℕ) (text : List ℕ) (place : ℕ) (ps : List Piece) → IsUtf8 text → place ≡ length (encode_utf8_all (shown_front width text)) → ArePiecesOf text ps
    → AreGoodBounds (strip ps) 0 (Some place)
cut-bounds width text place ps utf8 at of_text =
    let same = ArePiecesOf-unique text (pieces text) ps (ArePiecesOf-pieces text) of_text in
    subst (λ (of : List Piece). AreGoodBounds (strip of) 0 (Some place)) same (record {
      ordered = omega arith;
      start_good = λ some. IsCharBoundary-start (strip (pieces text)) (IsUtf8-shown_text text utf8);
      end_good = λ short. subst (λ n. IsCharBoundary (strip (pieces text)) n) (sym at) (fitting_front-boundary width (strip (pieces text)) (IsUtf8-shown_text text utf8));
    })

pub cut-is : (width : ℕ) (text : List ℕ) (place n : ℕ) (ps : List Piece) (cut bytes : List ℕ) → place ≡ length (encode_utf8_all (shown_front width text)) → n ≡ shown_lacking width text
    → ArePiecesOf text ps → cut ≡ cut_part 0 place ps → bytes ≡ cut ++ encode_utf8_all (replicate n replacement) → IsCutAt width ps bytes
cut-is width text place n ps cut bytes at lack of_text is_cut is_bytes =
    let same = ArePiecesOf-unique text (pieces text) ps (ArePiecesOf-pieces text) of_text in
    let cs = chars (strip ps) in
    let shown : chars (strip (pieces text)) ≡ cs = ap (λ (of : List Piece). chars (strip of)) same in
    let here : place ≡ length (encode_utf8_all (fitting_front width 0 cs)) = at ∙ ap (λ all. length (encode_utf8_all (fitting_front width 0 all))) shown in
    let none : n ≡ lacking width (fitting_front width 0 cs) (behind_front width 0 cs) = lack ∙ ap (λ all. lacking width (fitting_front width 0 all) (behind_front width 0 all)) shown in (
      fitting_front width 0 cs,
      behind_front width 0 cs,
      IsLongestFront-fitting_front width cs,
      is_bytes
          ∙ ap (λ first. first ++ encode_utf8_all (replicate n replacement)) (is_cut ∙ ap (λ k. cut_part 0 k ps) here)
          ∙ ap (λ k. cut_part 0 (length (encode_utf8_all (fitting_front width 0 cs))) ps ++ encode_utf8_all (replicate k replacement)) none,
    )

left-unique : (width : ℕ) (cs kept left others more : List ℕ) → IsLongestFront width cs kept left → IsLongestFront width cs others more → left ≡ more
left-unique width cs kept left others more one two =
    let same = IsLongestFront-unique width cs kept left others more one two in
    sym (drop-append_seam kept left) ∙ ap (drop (length kept)) (sym one.parted ∙ two.parted)
    ∙ ap (λ (front : List ℕ). drop (length front) (others ++ more)) same ∙ drop-append_seam others more

-- a text has one cut at a width, which is the function's
cut-meets : (width : ℕ) (text : List ℕ) → IsCutAt width (pieces text) (cut_at width text)
unfolding cut_at
cut-meets width text =
    let cs = chars (strip (pieces text)) in
    (fitting_front width 0 cs, behind_front width 0 cs, IsLongestFront-fitting_front width cs, refl)

cut-one : (width : ℕ) (ps : List Piece) (bytes others : List ℕ) → IsCutAt width ps bytes → IsCutAt width ps others → bytes ≡ others
cut-one width ps bytes others a b =
    let cs = chars (strip ps) in
    let same = IsLongestFront-unique width cs a.0 a.1 b.0 b.1 a.2 b.2 in
    let left = left-unique width cs a.0 a.1 b.0 b.1 a.2 b.2 in
    a.3 ∙ ap (λ (kept : List ℕ). cut_bytes width ps kept a.1) same ∙ ap (λ (rest : List ℕ). cut_bytes width ps b.0 rest) left ∙ sym b.3

pub cut_at-meets : (width : ℕ) (text : List ℕ) (ps : List Piece) → ArePiecesOf text ps → IsCutAt width ps (cut_at width text)
cut_at-meets width text ps of_text =
    subst (λ (qs : List Piece). IsCutAt width qs (cut_at width text)) (ArePiecesOf-unique text (pieces text) ps (ArePiecesOf-pieces text) of_text) (cut-meets width text)

pub cut_at-one : (width : ℕ) (text bytes : List ℕ) (ps : List Piece) → ArePiecesOf text ps → IsCutAt width ps bytes → bytes ≡ cut_at width text
cut_at-one width text bytes ps of_text is = cut-one width ps bytes (cut_at width text) is (cut_at-meets width text ps of_text)

pub lacking-plain : (width : ℕ) (text : List ℕ) → CutIsFront width text → shown_lacking width text ≡ 0
lacking-plain width text cut =
    let cs = chars text in
    let shown : chars (strip (pieces text)) ≡ cs = ap chars (strip-without_escape text (pieces text) (ArePiecesOf-pieces text) cut.plain) in
    let kept = IsLongestFront-unique width cs (fitting_front width 0 cs) (behind_front width 0 cs) cut.kept cut.left (IsLongestFront-fitting_front width cs) cut.longest in
    let left = left-unique width cs (fitting_front width 0 cs) (behind_front width 0 cs) cut.kept cut.left (IsLongestFront-fitting_front width cs) cut.longest in
    ap (λ all. lacking width (fitting_front width 0 all) (behind_front width 0 all)) shown
    ∙ ap (λ front. lacking width front (behind_front width 0 cs)) kept
    ∙ ap (lacking width cut.kept) left
    ∙ cut.none_lacking

pub plain-boundary : (width : ℕ) (text : List ℕ) (place : ℕ) → IsUtf8 text → has_escape text ≡ false → place ≡ length (encode_utf8_all (shown_front width text)) → IsCharBoundary text place
plain-boundary width text place utf8 none at =
    let shown = strip-without_escape text (pieces text) (ArePiecesOf-pieces text) none in
    subst (λ n. IsCharBoundary text n) (sym (at ∙ ap (λ bytes. length (encode_utf8_all (fitting_front width 0 (chars bytes)))) shown)) (fitting_front-boundary width text utf8)
