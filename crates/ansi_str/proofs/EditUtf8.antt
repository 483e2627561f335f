-- What edits leave of a text in UTF-8 is in UTF-8.
use Rattle.std.proofs.Common.{◌≡◌, ℕ, ◌+◌, ◌-◌, ◌<◌, ◌≤◌, min, nat_le, nat_lt, ◌==◌, ◌&&◌, Bool, true, false, List, [], ◌∷◌, ◌++◌, length, take, drop, slice_range, refl, ap, sym, subst, ◌∙◌, arith, length-append}
use Rattle.std.specs.Prelude.{chars, if◌then◌else◌}
use Rattle.std.specs.Str.{IsUtf8, IsCharBoundary, skip_leading_whitespace, drop_trailing_whitespace, trim_start, trim_end}
use Rattle.std.specs.Char.{is_whitespace}
use Rattle.std.proofs.Math.Utf8.{scalar, scalars}
use Rattle.std.specs.Cmp.Derive.{both_true}
use Rattle.std.proofs.lemmas.Bool.{and_parts}
use Rattle.std.proofs.lemmas.Bool.Decides.{nat_tests}
use Rattle.std.proofs.lemmas.List.{drop_all, take_all, length-drop}
use Rattle.std.proofs.lemmas.Str.{IsUtf8-nil, IsUtf8-append, IsUtf8-drop, IsUtf8-between, IsCharBoundary-start, IsCharBoundary-from_drop, IsCharBoundary-from_take, IsCharBoundary-from_rest, scalars-chars}
use Rattle.ansi_scan.specs.Sequences.{Piece}
use Rattle.ansi_scan.specs.Joining.{is_text_kind}
use Rattle.ansi_scan.specs.Attributes.{Attributes, IsRendition, plain_attributes}
use Rattle.ansi_scan.specs.StartsAndEnds.{start_bytes, start_sequences, end_bytes, end_sequences}
use Rattle.ansi_scan.proofs.Kept.{IsRendition-plain}
use Rattle.ansi_scan.proofs.Effects.{start_sequences_are_read, end_sequences_are_read, start_bytes-sequences, end_bytes-sequences}
use Rattle.ansi_str.specs.StyledText.{text_of, strip, style_after}
use Rattle.ansi_str.specs.Parts.{Places, taken_piece, taken, style_where, part, IsGoodBound}
use Rattle.ansi_str.specs.Cuts.{cut_part, later_part}
use Rattle.ansi_str.specs.Keeping.{IsTrimmedAt}
use Rattle.ansi_str_search.proofs.Parts.{taken_piece-text, taken_piece-sequence, text_of-text}
use Rattle.ansi_str_search.proofs.Dressed.{renditions, joined-renditions, IsRendition-after}
use Rattle.ansi_str.proofs.Trims.{TrimsFromTo, by_places}
use Rattle.ansi_str_search.proofs.Utf8.{EachUtf8, IsUtf8-joined, IsUtf8-strip, EachUtf8-renditions, boundary-first, boundary-second}

-- ---- places at which a text can be cut, or after which it ends

pub boundary-within : (text : List ℕ) (n : ℕ) → n ≤ length text → IsGoodBound text n → IsCharBoundary text n
boundary-within text n fits good = (fits, λ short. (good short).1 short)

pub boundary-min : (text : List ℕ) (n : ℕ) → IsGoodBound text n → IsCharBoundary text (min n (length text))
boundary-min text n good =
    boundary-within text (min n (length text)) (omega arith)
    (λ short. let same : n ≡ min n (length text) = omega arith in subst (IsCharBoundary text) same (good (omega arith)))

good-first : (xs ys : List ℕ) (n : ℕ) → IsGoodBound (xs ++ ys) n → IsGoodBound xs n
good-first xs ys n good = λ short. boundary-first xs ys n short (good (omega (arith, length-append xs ys)))

good-rest : (xs ys : List ℕ) (n : ℕ) → IsUtf8 ys → IsGoodBound (xs ++ ys) n → IsGoodBound ys (n - length xs)
good-rest xs ys n utf8 good = by (nat_le (length xs) n) refl
  where
    by : (past : Bool) → nat_le (length xs) n ≡ past → IsGoodBound ys (n - length xs)
    by true e = λ short.
        let over : length xs ≤ n = grind (arith, nat_tests) in
        boundary-second xs ys n over (good (omega (arith, length-append xs ys)))
    by false e = λ short.
        let under : n < length xs = grind (arith, nat_tests) in
        let none : 0 ≡ n - length xs = omega arith in
        subst (IsCharBoundary ys) none (IsCharBoundary-start ys utf8)

-- a slice between such places
IsUtf8-slice : (bytes : List ℕ) (a b : ℕ) → IsUtf8 bytes → a ≤ b → IsGoodBound bytes a → IsGoodBound bytes b → IsUtf8 (slice_range bytes a b)
IsUtf8-slice bytes a b utf8 order first last = by (nat_lt a (length bytes)) (nat_lt b (length bytes)) refl refl
  where
    by : (begun ended : Bool) → nat_lt a (length bytes) ≡ begun → nat_lt b (length bytes) ≡ ended → IsUtf8 (slice_range bytes a b)
    by false ended e f =
        let past : length bytes ≤ a = grind (arith, nat_tests) in
        subst IsUtf8 (sym (ap (take (b - a)) (drop_all a bytes past) ∙ take_all (b - a) [] (omega arith))) IsUtf8-nil
    by true true e f =
        let begun : a < length bytes = grind (arith, nat_tests) in
        let ended : b < length bytes = grind (arith, nat_tests) in
        IsUtf8-between bytes a b utf8 order (first begun) (last ended)
    by true false e f =
        let begun : a < length bytes = grind (arith, nat_tests) in
        let over : length bytes ≤ b = grind (arith, nat_tests) in
        subst IsUtf8 (sym (take_all (b - a) (drop a bytes) (omega (arith, length-drop a bytes)))) (IsUtf8-drop bytes a utf8 (first begun))

-- ---- what is taken of the pieces of a text

IsUtf8-taken_piece : (counts : Places) (a b place : ℕ) (p : Piece) (ps : List Piece) → IsUtf8 p.bytes → a ≤ b
    → IsGoodBound (strip (p ∷ ps)) (a - place) → IsGoodBound (strip (p ∷ ps)) (b - place) → IsUtf8 (taken_piece counts a b place p)
IsUtf8-taken_piece counts a b place p ps utf8 order first last = by (is_text_kind p.kind) (counts place) refl refl
  where
    good : (n : ℕ) → is_text_kind p.kind ≡ true → IsGoodBound (strip (p ∷ ps)) n → IsGoodBound p.bytes n
    good n e bound = subst (λ bytes. IsGoodBound bytes n) (text_of-text p e) (good-first (text_of p) (strip ps) n bound)

    by : (text counted : Bool) → is_text_kind p.kind ≡ text → counts place ≡ counted → IsUtf8 (taken_piece counts a b place p)
    by true counted e f =
        let ordered : a - place ≤ b - place = omega arith in
        subst IsUtf8 (sym (taken_piece-text counts a b place p e)) (IsUtf8-slice p.bytes (a - place) (b - place) utf8 ordered (good (a - place) e first) (good (b - place) e last))
    by false true e f = subst IsUtf8 (sym (taken_piece-sequence counts a b place p true e f)) utf8
    by false false e f = subst IsUtf8 (sym (taken_piece-sequence counts a b place p false e f)) IsUtf8-nil

IsUtf8-taken_from : (counts : Places) (a b place : ℕ) (ps : List Piece) → EachUtf8 ps → a ≤ b
    → IsGoodBound (strip ps) (a - place) → IsGoodBound (strip ps) (b - place) → IsUtf8 (taken counts a b place ps)
IsUtf8-taken_from counts a b place [] each order first last = IsUtf8-nil
IsUtf8-taken_from counts a b place (p ∷ ps) each order first last =
    let next = place + length (text_of p) in
    let rest = IsUtf8-strip ps each.1 in
    let from : a - place - length (text_of p) ≡ a - (place + length (text_of p)) = omega arith in
    let to : b - place - length (text_of p) ≡ b - (place + length (text_of p)) = omega arith in
    IsUtf8-append (taken_piece counts a b place p) (taken counts a b next ps)
    (IsUtf8-taken_piece counts a b place p ps each.0 order first last)
    (IsUtf8-taken_from counts a b next ps each.1 order
    (subst (IsGoodBound (strip ps)) from (good-rest (text_of p) (strip ps) (a - place) rest first))
    (subst (IsGoodBound (strip ps)) to (good-rest (text_of p) (strip ps) (b - place) rest last)))

pub IsUtf8-taken : (counts : Places) (a b : ℕ) (ps : List Piece) → EachUtf8 ps → a ≤ b → IsGoodBound (strip ps) a → IsGoodBound (strip ps) b → IsUtf8 (taken counts a b 0 ps)
IsUtf8-taken counts a b ps each order first last =
    let from : a ≡ a - 0 = omega arith in
    let to : b ≡ b - 0 = omega arith in
    IsUtf8-taken_from counts a b 0 ps each order (subst (IsGoodBound (strip ps)) from first) (subst (IsGoodBound (strip ps)) to last)

-- ---- the start of a style, and its end

IsRendition-where : (counts : Places) (style : Attributes) (place : ℕ) (ps : List Piece) → IsRendition style → IsRendition (style_where counts style place ps)
IsRendition-where counts style place [] known = known
IsRendition-where counts style place (p ∷ ps) known =
    IsRendition-where counts (if counts place then style_after style p else style) (place + length (text_of p)) ps (by (counts place))
  where
    by : (counted : Bool) → IsRendition (if counted then style_after style p else style)
    by true = IsRendition-after style (p ∷ []) known
    by false = known

IsUtf8-start : (style : Attributes) → IsRendition style → IsUtf8 (start_bytes style)
IsUtf8-start style known =
    let sequences = start_sequences style in
    subst IsUtf8 (joined-renditions sequences ∙ sym (start_bytes-sequences style)) (IsUtf8-joined (renditions sequences) (EachUtf8-renditions sequences (start_sequences_are_read style known)))

IsUtf8-end : (style : Attributes) → IsUtf8 (end_bytes style)
IsUtf8-end style =
    let sequences = end_sequences style in
    subst IsUtf8 (joined-renditions sequences ∙ sym (end_bytes-sequences style)) (IsUtf8-joined (renditions sequences) (EachUtf8-renditions sequences (end_sequences_are_read style)))

IsUtf8-part : (before within : Places) (a b : ℕ) (ps : List Piece) → EachUtf8 ps → a ≤ b → IsGoodBound (strip ps) a → IsGoodBound (strip ps) b → IsUtf8 (part before within a b ps)
IsUtf8-part before within a b ps each order first last =
    let start = style_where before plain_attributes 0 ps in
    let open_style = style_where within start 0 ps in
    IsUtf8-append (start_bytes start) (taken within a b 0 ps ++ end_bytes open_style)
    (IsUtf8-start start (IsRendition-where before plain_attributes 0 ps IsRendition-plain))
    (IsUtf8-append (taken within a b 0 ps) (end_bytes open_style) (IsUtf8-taken within a b ps each order first last) (IsUtf8-end open_style))

module _ (a b : ℕ) (ps : List Piece) (each : EachUtf8 ps) (order : a ≤ b) (first : IsGoodBound (strip ps) a) (last : IsGoodBound (strip ps) b) where
  pub IsUtf8-cut_part : IsUtf8 (cut_part a b ps)
  IsUtf8-cut_part = IsUtf8-part (λ place. false) (λ place. nat_le place b) a b ps each order first last

  pub IsUtf8-later_part : IsUtf8 (later_part a b ps)
  IsUtf8-later_part = IsUtf8-part (λ place. nat_le place a) (λ place. nat_lt a place && nat_le place b) a b ps each order first last

-- ---- what `trim` leaves

scalars-if : (t : Bool) (cs ds : List ℕ) → scalars cs ≡ true → scalars ds ≡ true → scalars (if t then cs else ds) ≡ true
scalars-if true cs ds e f = e
scalars-if false cs ds e f = f

scalars-skip : (cs : List ℕ) → scalars cs ≡ true → scalars (skip_leading_whitespace cs) ≡ true
scalars-skip [] e = e
scalars-skip (c ∷ cs) e = scalars-if (is_whitespace c) (skip_leading_whitespace cs) (c ∷ cs) (scalars-skip cs (and_parts (scalar c) (scalars cs) e).1) e

IsUtf8-trim_start : (text : List ℕ) → IsUtf8 text → IsUtf8 (trim_start text)
unfolding trim_start
IsUtf8-trim_start text utf8 = (skip_leading_whitespace (chars text), (scalars-skip (chars text) (scalars-chars text utf8), refl))

scalars-drop : (cs : List ℕ) → scalars cs ≡ true → scalars (drop_trailing_whitespace cs) ≡ true
scalars-drop [] e = e
scalars-drop (c ∷ cs) e =
    let parts = and_parts (scalar c) (scalars cs) e in
    scalars-if (is_whitespace c && length (drop_trailing_whitespace cs) == 0) [] (c ∷ drop_trailing_whitespace cs) refl
    (both_true parts.0 (scalars-drop cs parts.1))

IsUtf8-trim_end : (text : List ℕ) → IsUtf8 text → IsUtf8 (trim_end text)
unfolding trim_end
IsUtf8-trim_end text utf8 = (drop_trailing_whitespace (chars text), (scalars-drop (chars text) (scalars-chars text utf8), refl))

module _ (text : List ℕ) (a b : ℕ) (utf8 : IsUtf8 text) (at : IsTrimmedAt text a b) where
  trimmed : TrimsFromTo text a b
  trimmed = by_places text a b at

  begun_utf8 : IsUtf8 (drop a text)
  begun_utf8 = subst IsUtf8 (sym trimmed.begins) (IsUtf8-trim_start text utf8)

  pub trimmed-first : IsCharBoundary text a
  trimmed-first = let order = trimmed.ordered in let fits = trimmed.within in IsCharBoundary-from_drop text a (omega arith) begun_utf8

  pub trimmed-last : IsCharBoundary text b
  trimmed-last =
      let order = trimmed.ordered in
      let fits = trimmed.within in
      let sum : a + (b - a) ≡ b = omega arith in
      let left_utf8 : IsUtf8 (slice_range text a b) = subst IsUtf8 (sym trimmed.left) (IsUtf8-trim_end (trim_start text) (IsUtf8-trim_start text utf8)) in
      subst (IsCharBoundary text) sum (IsCharBoundary-from_rest text a (b - a) (omega arith) (IsCharBoundary-from_take (drop a text) (b - a) begun_utf8 (omega (arith, length-drop a text)) left_utf8))
