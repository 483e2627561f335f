-- What texts measure that are one below the other, or end in an ellipsis.
use Rattle.std.proofs.Common.{◌≡◌, ◌≤◌, ◌<◌, ◌+◌, max, ℕ, Bool, true, false, List, [], ◌∷◌, ◌++◌, length, map, refl, ap, sym, subst, ◌∙◌, arith}
use Rattle.std.specs.Str.{chars}
use Rattle.std.specs.List.{AllByRecursion, onto_first, slice_split}
use Rattle.std.proofs.lemmas.List.{map-append}
use Rattle.std.proofs.lemmas.List.Elements.{All-from_recursion}
use Rattle.std.proofs.lemmas.List.Splits.{slice_split-cons_no, slice_split-cons_yes, slice_split_none}
use Rattle.std.proofs.lemmas.Simd.{map-map}
use Rattle.std.proofs.lemmas.Str.{chars-append}
use Rattle.unicode_width.proofs.Computing.{unicode_width}
use Rattle.unicode_width.specs.Width.{plain, read_before, step, str_width}
use Rattle.ansi_scan.specs.Pieces.{pieces}
use Rattle.ansi_scan.proofs.Existence.{ArePiecesOf-pieces}
use Rattle.ansi_str_search.specs.Text.Characters.{shown_chars}
use Rattle.ansi_str_search.specs.Text.StyledText.{strip}
use Rattle.ansi_str_search.proofs.TextLemmas.Stripping.{strip-without_escape}
use Rattle.ansi_str_search.proofs.TextLemmas.Utf8Pieces.{IsUtf8-shown_text}
use Rattle.grid_records_estimate.specs.Estimates.{greatest}
use Rattle.grid_records_fronts.proofs.BoundsLemmas.Spaces.{read-append, read-more}
use Rattle.grid_records_measure.specs.Measures.{measure}
use Rattle.grid_records_measure.specs.TextLines.{is_line_feed, line_feed, line_width, text_lines, text_width, widest}
use Rattle.grid_records_measure.proofs.TextLines.{text_lines-shown}
use Rattle.papergrid_picture.specs.Shown.{IsWholeText, character_of}
use Rattle.papergrid_picture.proofs.Items.{slice_split-map}
use Rattle.papergrid_picture.proofs.Shown.{IsClosedPart, characters-styled, lines-closed_parts, styled_of}
use Rattle.papergrid_picture.proofs.Stripped.{Leaves-append, stripped}
use Rattle.tabled_size_wrap.proofs.CellsLemmas.Bridges.{width-same}

-- ---- characters

abbrev splits : List ℕ → List (List ℕ)
splits cs = slice_split is_line_feed cs

-- the columns that the widest line of some characters takes
abbrev pub width_of : List ℕ → ℕ
width_of cs = greatest (map measure (splits cs))

greatest-append : (xs ys : List ℕ) → greatest (xs ++ ys) ≡ max (greatest xs) (greatest ys)
greatest-append [] ys = omega arith
greatest-append (x ∷ xs) ys = omega (arith, greatest-append xs ys)

onto-append : (c : ℕ) (xs ys : List (List ℕ)) → 0 < length xs → onto_first c (xs ++ ys) ≡ onto_first c xs ++ ys
onto-append c [] ys some = absurd (omega (arith, some))
onto-append c (x ∷ xs) ys some = refl

onto-some : (c : ℕ) (lines : List (List ℕ)) → 0 < length (onto_first c lines)
onto-some c [] = omega arith
onto-some c (line ∷ lines) = omega arith

some-splits : (cs : List ℕ) → 0 < length (splits cs)
some-splits [] = omega arith
some-splits (c ∷ cs) = by (is_line_feed c) refl
  where
    by : (ends : Bool) → is_line_feed c ≡ ends → 0 < length (splits (c ∷ cs))
    by true e = subst (λ (lines : List (List ℕ)). 0 < length lines) (sym (slice_split-cons_yes is_line_feed c cs e)) (omega arith)
    by false e = subst (λ (lines : List (List ℕ)). 0 < length lines) (sym (slice_split-cons_no is_line_feed c cs e)) (onto-some c (splits cs))

-- a line feed parts the lines before it from those after it
splits-feed : (xs ys : List ℕ) → splits (xs ++ line_feed ∷ ys) ≡ splits xs ++ splits ys
splits-feed [] ys = slice_split-cons_yes is_line_feed line_feed ys refl
splits-feed (x ∷ xs) ys = by (is_line_feed x) refl (splits-feed xs ys)
  where
    by : (ends : Bool) → is_line_feed x ≡ ends → splits (xs ++ line_feed ∷ ys) ≡ splits xs ++ splits ys → splits (x ∷ xs ++ line_feed ∷ ys) ≡ splits (x ∷ xs) ++ splits ys
    by true e rest =
        slice_split-cons_yes is_line_feed x (xs ++ line_feed ∷ ys) e ∙ ap (λ (lines : List (List ℕ)). [] ∷ lines) rest
        ∙ ap (λ (lines : List (List ℕ)). lines ++ splits ys) (sym (slice_split-cons_yes is_line_feed x xs e))
    by false e rest =
        slice_split-cons_no is_line_feed x (xs ++ line_feed ∷ ys) e ∙ ap (onto_first x) rest
        ∙ onto-append x (splits xs) (splits ys) (some-splits xs)
        ∙ ap (λ (lines : List (List ℕ)). lines ++ splits ys) (sym (slice_split-cons_no is_line_feed x xs e))

width-feed : (xs ys : List ℕ) → width_of (xs ++ line_feed ∷ ys) ≡ max (width_of xs) (width_of ys)
width-feed xs ys =
    ap (λ (lines : List (List ℕ)). greatest (map measure lines)) (splits-feed xs ys)
    ∙ ap greatest (map-append measure (splits xs) (splits ys))
    ∙ greatest-append (map measure (splits xs)) (map measure (splits ys))

-- ---- an ellipsis after them

abbrev pub dots : ℕ
dots = 0x2026

step-dots : step false dots (0, plain) ≡ (1, plain)
unfolding unicode_width
step-dots = refl

measure-dots : (cs : List ℕ) → measure (cs ++ dots ∷ []) ≡ measure cs + 1
unfolding str_width
measure-dots cs =
    let here : (read_before false (cs ++ dots ∷ []) (0, plain)).0 ≡ (read_before false cs (1, plain)).0 =
    ap (λ r. r.0) (read-append cs (dots ∷ []) (0, plain) ∙ ap (read_before false cs) step-dots) in
    omega (arith, here, read-more cs 1)

-- the last of some lines, with the ellipsis after it
abbrev ended : List (List ℕ) → List (List ℕ)
ended [] = (dots ∷ []) ∷ []
ended (line ∷ []) = (line ++ dots ∷ []) ∷ []
ended (line ∷ next ∷ lines) = line ∷ ended (next ∷ lines)

onto-ended : (c : ℕ) (lines : List (List ℕ)) → onto_first c (ended lines) ≡ ended (onto_first c lines)
onto-ended c [] = refl
onto-ended c (line ∷ []) = refl
onto-ended c (line ∷ next ∷ lines) = refl

first-ended : (lines : List (List ℕ)) → 0 < length lines → [] ∷ ended lines ≡ ended ([] ∷ lines)
first-ended [] some = absurd (omega (arith, some))
first-ended (line ∷ lines) some = refl

splits-dots : (cs : List ℕ) → splits (cs ++ dots ∷ []) ≡ ended (splits cs)
splits-dots [] = slice_split-cons_no is_line_feed dots [] refl
splits-dots (c ∷ cs) = by (is_line_feed c) refl (splits-dots cs)
  where
    by : (ends : Bool) → is_line_feed c ≡ ends → splits (cs ++ dots ∷ []) ≡ ended (splits cs) → splits (c ∷ cs ++ dots ∷ []) ≡ ended (splits (c ∷ cs))
    by true e rest =
        slice_split-cons_yes is_line_feed c (cs ++ dots ∷ []) e ∙ ap (λ (lines : List (List ℕ)). [] ∷ lines) rest
        ∙ first-ended (splits cs) (some-splits cs) ∙ ap ended (sym (slice_split-cons_yes is_line_feed c cs e))
    by false e rest =
        slice_split-cons_no is_line_feed c (cs ++ dots ∷ []) e ∙ ap (onto_first c) rest
        ∙ onto-ended c (splits cs) ∙ ap ended (sym (slice_split-cons_no is_line_feed c cs e))

nothing : measure [] ≡ 0
unfolding str_width
nothing = refl

ended-width : (lines : List (List ℕ)) → greatest (map measure (ended lines)) ≤ greatest (map measure lines) + 1
ended-width [] = omega (arith, measure-dots [], nothing)
ended-width (line ∷ []) = omega (arith, measure-dots line)
ended-width (line ∷ next ∷ lines) = omega (arith, ended-width (next ∷ lines))

pub width-dots : (cs : List ℕ) → width_of (cs ++ dots ∷ []) ≤ width_of cs + 1
width-dots cs = subst (λ (lines : List (List ℕ)). greatest (map measure lines) ≤ width_of cs + 1) (sym (splits-dots cs)) (ended-width (splits cs))

-- ---- texts

pub text-width : (text : List ℕ) → IsWholeText text → text_width text ≡ width_of (shown_chars text)
text-width text whole =
    width-same text whole
    ∙ sym (ap (λ (lines : List (List ℕ)). greatest (map measure lines)) (slice_split-map character_of is_line_feed (styled_of text))
    ∙ ap greatest (map-map measure (map character_of) (slice_split (λ item. is_line_feed (character_of item)) (styled_of text))))
    ∙ ap width_of (characters-styled text whole.utf8)

pub shown-append : (a b : List ℕ) → IsWholeText a → IsWholeText b → shown_chars (a ++ b) ≡ shown_chars a ++ shown_chars b
shown-append a b first second =
    let both = Leaves-append a b (stripped a) (stripped b) (record { whole = first.whole; left = refl }) (record { whole = second.whole; left = refl }) in
    ap chars both.left ∙ chars-append (stripped a) (stripped b) (IsUtf8-shown_text a first.utf8)

shown-feed : shown_chars (line_feed ∷ []) ≡ line_feed ∷ []
unfolding chars
shown-feed = ap chars (strip-without_escape (line_feed ∷ []) (pieces (line_feed ∷ [])) (ArePiecesOf-pieces (line_feed ∷ [])) refl)

-- one text below the other
pub width-below : (a b : List ℕ) → IsWholeText a → IsWholeText (line_feed ∷ []) → IsWholeText b → IsWholeText (line_feed ∷ b) → IsWholeText (a ++ line_feed ∷ b) → text_width (a ++ line_feed ∷ b) ≡ max (text_width a) (text_width b)
width-below a b first feed second behind both =
    let shown : shown_chars (a ++ line_feed ∷ b) ≡ shown_chars a ++ line_feed ∷ shown_chars b =
    shown-append a (line_feed ∷ b) first behind ∙ ap (λ (cs : List ℕ). shown_chars a ++ cs) (shown-append (line_feed ∷ []) b feed second ∙ ap (λ (cs : List ℕ). cs ++ shown_chars b) shown-feed) in
    let total : width_of (shown_chars (a ++ line_feed ∷ b)) ≡ max (width_of (shown_chars a)) (width_of (shown_chars b)) =
    ap width_of shown ∙ width-feed (shown_chars a) (shown_chars b) in
    omega (arith, total, text-width (a ++ line_feed ∷ b) both, text-width a first, text-width b second)

-- ---- the lines of a text

abbrev IsInLine : ℕ → Type 0
IsInLine b = is_line_feed b ≡ false

onto-inside : (b : ℕ) (lines : List (List ℕ)) → is_line_feed b ≡ false → AllByRecursion (AllByRecursion IsInLine) lines → AllByRecursion (AllByRecursion IsInLine) (onto_first b lines)
onto-inside b [] is all = ((is, tt), tt)
onto-inside b (line ∷ lines) is all = ((is, all.0), all.1)

splits-inside : (bytes : List ℕ) → AllByRecursion (AllByRecursion IsInLine) (splits bytes)
splits-inside [] = (tt, tt)
splits-inside (b ∷ bytes) = by (is_line_feed b) refl (splits-inside bytes)
  where
    by : (ends : Bool) → is_line_feed b ≡ ends → AllByRecursion (AllByRecursion IsInLine) (splits bytes) → AllByRecursion (AllByRecursion IsInLine) (splits (b ∷ bytes))
    by true e rest = subst (AllByRecursion (AllByRecursion IsInLine)) (sym (slice_split-cons_yes is_line_feed b bytes e)) (tt, rest)
    by false e rest = subst (AllByRecursion (AllByRecursion IsInLine)) (sym (slice_split-cons_no is_line_feed b bytes e)) (onto-inside b (splits bytes) e rest)

-- a whole text that is one line, which measures what it does as a text
pub record IsLine (line : List ℕ) : Type 0 where
  pub whole : IsWholeText line
  pub one : text_width line ≡ line_width line

one-line : (line : List ℕ) → AllByRecursion IsInLine (strip (pieces line)) → text_width line ≡ line_width line
unfolding text_width
one-line line inside =
    let bytes = strip (pieces line) in
    let only : widest (splits bytes) ≡ widest (bytes ∷ []) = ap widest (slice_split_none is_line_feed bytes (All-from_recursion IsInLine bytes inside)) in
    omega (arith, only)

each-line : (lines : List (List ℕ)) → AllByRecursion IsClosedPart lines → AllByRecursion (AllByRecursion IsInLine) (map (λ line. strip (pieces line)) lines) → AllByRecursion IsLine lines
each-line [] closed inside = tt
each-line (line ∷ lines) closed inside =
    (record { whole = record { utf8 = closed.0.utf8; whole = closed.0.closed.none_broken }; one = one-line line inside.0 }, each-line lines closed.1 inside.1)

each-within : (most : ℕ) (lines : List (List ℕ)) → widest (map (λ line. strip (pieces line)) lines) ≤ most → AllByRecursion (λ line. line_width line ≤ most) lines
each-within most [] within = tt
each-within most (line ∷ lines) within = (omega (arith, within), each-within most lines (omega (arith, within)))

module _ (text : List ℕ) (whole : IsWholeText text) where
  pub lines-are : AllByRecursion IsLine (text_lines text)
  lines-are =
      each-line (text_lines text) (lines-closed_parts text whole)
      (subst (AllByRecursion (AllByRecursion IsInLine)) (sym (text_lines-shown text whole.whole)) (splits-inside (strip (pieces text))))

  pub lines-within : (most : ℕ) → text_width text ≤ most → AllByRecursion (λ line. line_width line ≤ most) (text_lines text)
  unfolding text_width
  lines-within most within = each-within most (text_lines text) (subst (λ (lines : List (List ℕ)). widest lines ≤ most) (sym (text_lines-shown text whole.whole)) within)
