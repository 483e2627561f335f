-- Texts without ESC: their lines, and whether each shows something.
use Rattle.std.proofs.Common.{◌≡◌, ◌<◌, ◌≤◌, ◌+◌, ◌==◌, ◌||◌, ◌&&◌, not, ℕ, Bool, true, false, cond, List, [], ◌∷◌, ◌++◌, length, get_or, drop, flat_map, refl, ap, sym, subst, ◌∙◌, arith, eqb-true, append-nil, append_assoc, length-append}
use Rattle.std.specs.Prelude.{None, Option, Some, chars, encode_utf8, encode_utf8_all, is_none, map}
use Rattle.std.specs.List.{filter, list_all, list_any, onto_first, slice_split}
use Rattle.std.specs.Borrow.{Bor}
use Rattle.std.specs.Option.{IfSome}
use Rattle.std.specs.Str.{IsUtf8}
use Rattle.std.proofs.lemmas.Bool.{and_parts}
use Rattle.std.proofs.lemmas.Bool.Decides.{nat_tests}
use Rattle.std.proofs.lemmas.List.{drop_all, drop_more}
use Rattle.std.proofs.lemmas.List.Concat.{flat_map-append}
use Rattle.std.proofs.lemmas.List.Elements.{All-from_get_or}
use Rattle.std.proofs.lemmas.List.Folds.{list_all-append, list_any-append, list_any_at, list_any_none}
use Rattle.std.proofs.lemmas.List.Splits.{length-slice_split, slice_split-cons_no, slice_split-cons_yes}
use Rattle.std.proofs.lemmas.Str.{char_from_byte, chars-nil, encode_ascii, encodes-chars, len_utf8_bounds, length-encode}
use Rattle.memchr.specs.Find.{IsFirstByte, is_byte2}
use Rattle.ansi_scan.specs.Pieces.{pieces}
use Rattle.ansi_scan.specs.Sequences.{escape}
use Rattle.ansi_scan.proofs.Existence.{ArePiecesOf-pieces}
use Rattle.ansi_str.specs.StyledText.{has_escape, strip}
use Rattle.ansi_str_search.proofs.TextLemmas.Stripping.{strip-without_escape}
use Rattle.grid_records_measure.specs.TextLines.{is_line_feed, line_feed, shown_lines, text_lines}
use Rattle.grid_records_measure.specs.RawLines.{IsLineAndRest, lines_behind}
use Rattle.tabled_size_wrap.proofs.StayingTexts.{lines_without_escape}
use Rattle.basinmug_columns.specs.Fitting.Fitting.{is_not_blank, joined_lines, line_if}
use Rattle.basinmug_columns.proofs.FittingLemmas.Lined.{filtered-more}

-- ---- a line shows what its bytes are

-- whether some bytes are not all spaces
abbrev pub shows : List ℕ → Bool
shows bytes = list_any (λ c. not (c == 0x20)) bytes

encode-shows : (c : ℕ) → shows (encode_utf8 c) ≡ not (c == 0x20)
encode-shows c = by_test (c == 0x20) refl
  where
    other : (bytes : List ℕ) → encode_utf8 c ≡ bytes → (c == 0x20) ≡ false → shows bytes ≡ true
    other [] are e =
        let none : length (encode_utf8 c) ≡ 0 = ap (λ (bs : List ℕ). length bs) are in
        absurd (omega (arith, none, length-encode c, (len_utf8_bounds c).0))
    other (b ∷ bytes) are e = by_byte (b == 0x20) refl
      where
        by_byte : (space : Bool) → (b == 0x20) ≡ space → shows (b ∷ bytes) ≡ true
        by_byte true is =
            let byte : b ≡ 0x20 = eqb-true b 0x20 is in
            let low : b < 128 = omega (arith, byte) in
            let some : 0 < length (b ∷ bytes) = omega arith in
            let spelled : b ∷ bytes ≡ encode_utf8 c ++ [] = sym are ∙ sym (append-nil (encode_utf8 c)) in
            let same : c ≡ b = char_from_byte (b ∷ bytes) [] c spelled low some in
            let both : true ≡ false = sym is ∙ ap (λ n. n == 0x20) (sym same) ∙ e in
            absurd (cc both)
        by_byte false is = ap (λ t. not t || shows bytes) is

    by_test : (space : Bool) → (c == 0x20) ≡ space → shows (encode_utf8 c) ≡ not (c == 0x20)
    by_test true e =
        let byte : c ≡ 0x20 = eqb-true c 0x20 e in
        let low : c < 128 = omega (arith, byte) in
        ap shows (encode_ascii c low) ∙ ap (λ t. not t || false) e ∙ sym (ap not e)
    by_test false e = other (encode_utf8 c) refl e ∙ sym (ap not e)

encodes-shows : (cs : List ℕ) → shows (encode_utf8_all cs) ≡ shows cs
encodes-shows [] = refl
encodes-shows (c ∷ cs) =
    list_any-append (λ b. not (b == 0x20)) (encode_utf8 c) (encode_utf8_all cs)
    ∙ ap (λ t. t || shows (encode_utf8_all cs)) (encode-shows c)
    ∙ ap (λ t. not (c == 0x20) || t) (encodes-shows cs)

abbrev IsFree : List ℕ → Type 0
IsFree bytes = has_escape bytes ≡ false

pub line-shows : (line : List ℕ) → IsUtf8 line → IsFree line → is_not_blank line ≡ shows line
line-shows line utf8 free =
    ap (λ (bytes : List ℕ). shows (chars bytes)) (strip-without_escape line (pieces line) (ArePiecesOf-pieces line) free)
    ∙ sym (encodes-shows (chars line)) ∙ ap shows (encodes-chars line utf8)

module _ (line : List ℕ) (at : ℕ) where
  pub shows-byte : at < length line → ¬ (get_or line at 0 ≡ 0x20) → true ≡ shows (drop at line)
  shows-byte within other =
      let differs : (get_or line at 0 == 0x20) ≡ false = grind (arith, nat_tests) in
      sym (ap shows (drop_more line at 0 within) ∙ ap (λ t. not t || shows (drop (at + 1) line)) differs)

  pub shows-end : length line ≤ at → false ≡ shows (drop at line)
  shows-end over = sym (ap shows (drop_all at line over))

-- ---- neither ESC nor line feed

neither : (x y : Bool) → ¬ ((x || y) ≡ true) → (x ≡ false) × (y ≡ false)
neither true y not_any = absurd (not_any refl)
neither false true not_any = absurd (not_any refl)
neither false false not_any = (refl, refl)

pub found-neither : (bytes : List ℕ) (r : Option ℕ) → IsFirstByte (is_byte2 escape line_feed) bytes r → is_none r ≡ (not (has_escape bytes) && not (list_any is_line_feed bytes))
found-neither bytes None none =
    let each : (i : ℕ) → i < length bytes → ((get_or bytes i 0 == escape) ≡ false) × (is_line_feed (get_or bytes i 0) ≡ false) =
    λ i low. neither (get_or bytes i 0 == escape) (is_line_feed (get_or bytes i 0)) (none i (omega arith) low) in
    let free : has_escape bytes ≡ false = list_any_none (λ b. b == escape) bytes (All-from_get_or (λ b. (b == escape) ≡ false) bytes 0 (λ i low. (each i low).0)) in
    let line : list_any is_line_feed bytes ≡ false = list_any_none is_line_feed bytes (All-from_get_or (λ b. is_line_feed b ≡ false) bytes 0 (λ i low. (each i low).1)) in
    sym (ap (λ t. not t && not (list_any is_line_feed bytes)) free ∙ ap not line)
found-neither bytes (Some k) found = by_test (get_or bytes k 0 == escape) refl
  where
    false-and : (b : Bool) → false ≡ (b && false)
    false-and true = refl
    false-and false = refl

    by_test : (is : Bool) → (get_or bytes k 0 == escape) ≡ is → false ≡ (not (has_escape bytes) && not (list_any is_line_feed bytes))
    by_test true e = sym (ap (λ t. not t && not (list_any is_line_feed bytes)) (list_any_at (λ b. b == escape) bytes k 0 found.0.high e))
    by_test false e =
        let feed : is_line_feed (get_or bytes k 0) ≡ true = sym (ap (λ t. t || is_line_feed (get_or bytes k 0)) e) ∙ found.1 in
        false-and (not (has_escape bytes)) ∙ sym (ap (λ t. not (has_escape bytes) && not t) (list_any_at is_line_feed bytes k 0 found.0.high feed))

-- ---- a text that stays

filter-passed : (test : List ℕ → Bool) (lines : List (List ℕ)) → list_all test lines ≡ true → filter test lines ≡ lines
filter-passed test [] all = refl
filter-passed test (line ∷ lines) all =
    let parts = and_parts (test line) (list_all test lines) all in
    ap (λ t. cond t (line ∷ filter test lines) (filter test lines)) parts.0 ∙ ap (λ (rest : List (List ℕ)). line ∷ rest) (filter-passed test lines parts.1)

some-lines : (bytes : List ℕ) → 0 < length (slice_split is_line_feed bytes)
some-lines bytes = omega (arith, length-slice_split is_line_feed bytes)

joined-onto : (b : ℕ) (lines : List (List ℕ)) → 0 < length lines → joined_lines (onto_first b lines) ≡ b ∷ joined_lines lines
joined-onto b [] some = absurd (omega (arith, some))
joined-onto b (line ∷ lines) some = refl

joined-feed : (lines : List (List ℕ)) → 0 < length lines → joined_lines ([] ∷ lines) ≡ line_feed ∷ joined_lines lines
joined-feed [] some = absurd (omega (arith, some))
joined-feed (line ∷ lines) some = refl

joined-split : (bytes : List ℕ) → joined_lines (slice_split is_line_feed bytes) ≡ bytes
joined-split [] = refl
joined-split (b ∷ bytes) = by_test (is_line_feed b) refl (joined-split bytes)
  where
    lines : List (List ℕ)
    lines = slice_split is_line_feed bytes

    by_test : (ends : Bool) → is_line_feed b ≡ ends → joined_lines (slice_split is_line_feed bytes) ≡ bytes → joined_lines (slice_split is_line_feed (b ∷ bytes)) ≡ b ∷ bytes
    by_test true e same =
        let feed : b ≡ line_feed = eqb-true b line_feed e in
        ap joined_lines (slice_split-cons_yes is_line_feed b bytes e) ∙ joined-feed lines (some-lines bytes)
        ∙ ap (λ (rest : List ℕ). line_feed ∷ rest) same ∙ ap (λ n. n ∷ bytes) (sym feed)
    by_test false e same =
        ap joined_lines (slice_split-cons_no is_line_feed b bytes e) ∙ joined-onto b lines (some-lines bytes) ∙ ap (λ (rest : List ℕ). b ∷ rest) same

-- without ESC and without a line that shows nothing a text keeps all its lines
pub kept-text : (text : List ℕ) → IsFree text → list_all is_not_blank (text_lines text) ≡ true → joined_lines (filter is_not_blank (text_lines text)) ≡ text
kept-text text free all = ap joined_lines (filter-passed is_not_blank (text_lines text) all ∙ lines_without_escape text free) ∙ joined-split text

-- ---- a text that is its only line

not-true : (b : Bool) → not b ≡ true → b ≡ false
not-true true is = cc is
not-true false is = refl

split-none : (bytes : List ℕ) → list_any is_line_feed bytes ≡ false → slice_split is_line_feed bytes ≡ bytes ∷ []
split-none [] none = refl
split-none (b ∷ bytes) none = by_test (is_line_feed b) refl (split-none bytes)
  where
    by_test : (ends : Bool) → is_line_feed b ≡ ends → (list_any is_line_feed bytes ≡ false → slice_split is_line_feed bytes ≡ bytes ∷ []) → slice_split is_line_feed (b ∷ bytes) ≡ (b ∷ bytes) ∷ []
    by_test true e rest = absurd (cc (sym (ap (λ t. t || list_any is_line_feed bytes) e) ∙ none))
    by_test false e rest =
        slice_split-cons_no is_line_feed b bytes e ∙ ap (onto_first b) (rest (sym (ap (λ t. t || list_any is_line_feed bytes) e) ∙ none))

pub plain-line : (text : List ℕ) → (not (has_escape text) && not (list_any is_line_feed text)) ≡ true → text_lines text ≡ text ∷ []
plain-line text is =
    let parts = and_parts (not (has_escape text)) (not (list_any is_line_feed text)) is in
    lines_without_escape text (not-true (has_escape text) parts.0) ∙ split-none text (not-true (list_any is_line_feed text) parts.1)

-- it becomes what its line becomes
pub plain-becomes : (becomes : List ℕ → List ℕ) (text : List ℕ) → (not (has_escape text) && not (list_any is_line_feed text)) ≡ true → becomes text ≡ joined_lines (map becomes (text_lines text))
plain-becomes becomes text is = sym (ap (λ (lines : List (List ℕ)). joined_lines (map becomes lines)) (plain-line text is) ∙ append-nil (becomes text))

-- ---- its lines, taken one after the other

-- where bytes that are joined have no ESC, neither part has
free-both : (bytes rest : List ℕ) → IsFree (bytes ++ rest) → IsFree bytes × IsFree rest
free-both bytes rest free = by_test (has_escape bytes) refl
  where
    by_test : (is : Bool) → has_escape bytes ≡ is → IsFree bytes × IsFree rest
    by_test true e = absurd (cc (sym (ap (λ t. t || has_escape rest) e) ∙ sym (list_any-append (λ b. b == escape) bytes rest) ∙ free))
    by_test false e = (e, sym (ap (λ t. t || has_escape rest) e) ∙ sym (list_any-append (λ b. b == escape) bytes rest) ∙ free)

own-bytes : (text : List ℕ) → IsFree text → strip (pieces text) ≡ text
own-bytes text free = strip-without_escape text (pieces text) (ArePiecesOf-pieces text) free

-- the first line, and what is after it
pub split-first : (text line : List ℕ) (rest : Option (Bor (List ℕ))) → IsFree text → IsLineAndRest text line rest → shown_lines (pieces text) ≡ strip (pieces line) ∷ lines_behind rest
    → (shown_lines (pieces text) ≡ line ∷ lines_behind rest) × IsFree line × IfSome rest (λ other. IsFree other.now)
split-first text line None free parted lines = (lines ∙ ap (λ (bytes : List ℕ). bytes ∷ []) (own-bytes line (subst IsFree parted free)), subst IsFree parted free, tt)
split-first text line (Some rest) free parted lines =
    let both = free-both line (line_feed ∷ rest.now) (subst IsFree parted free) in
    (lines ∙ ap (λ (bytes : List ℕ). bytes ∷ shown_lines (pieces rest.now)) (own-bytes line both.0), both.0, both.1)

pub lines-shown : (text : List ℕ) → IsFree text → text_lines text ≡ shown_lines (pieces text)
lines-shown text free = lines_without_escape text free ∙ ap (slice_split is_line_feed) (sym (own-bytes text free))

-- these lines show something, and what is left gives the others
pub record AreSeen (all : List (List ℕ)) (out : List ℕ) (left : List (List ℕ)) : Type 0 where
  pub lines : List (List ℕ)
  pub show : list_all is_not_blank lines ≡ true
  pub joined : out ≡ joined_lines lines
  pub others : lines ++ filter is_not_blank left ≡ all

-- what is appended to lines that show something
abbrev pub Appends : List ℕ → List ℕ → List ℕ → Type 0
Appends old new line = (lines : List (List ℕ)) → list_all is_not_blank lines ≡ true → old ≡ joined_lines lines → new ≡ joined_lines (lines ++ line_if (is_not_blank line) line)

show-more : (lines : List (List ℕ)) (line : List ℕ) (shows : Bool) → is_not_blank line ≡ shows → list_all is_not_blank lines ≡ true → list_all is_not_blank (lines ++ line_if shows line) ≡ true
show-more lines line true e all =
    list_all-append is_not_blank lines (line ∷ []) ∙ ap (λ t. t && (is_not_blank line && true)) all ∙ ap (λ t. t && true) e
show-more lines line false e all = ap (list_all is_not_blank) (append-nil lines) ∙ all

pub AreSeen-more : (all : List (List ℕ)) (old new : List ℕ) (left behind : List (List ℕ)) (line : List ℕ) → Appends old new line → left ≡ line ∷ behind → AreSeen all old left → AreSeen all new behind
AreSeen-more all old new left behind line appends first seen = record {
  lines = seen.lines ++ line_if (is_not_blank line) line;
  show = show-more seen.lines line (is_not_blank line) refl seen.show;
  joined = appends seen.lines seen.show seen.joined;
  others = filtered-more is_not_blank seen.lines (seen.lines ++ line_if (is_not_blank line) line) line left behind all refl first seen.others;
}

pub AreSeen-end : (all : List (List ℕ)) (out : List ℕ) (left : List (List ℕ)) → left ≡ [] → AreSeen all out left → out ≡ joined_lines all
AreSeen-end all out left none seen =
    seen.joined ∙ ap joined_lines (sym (append-nil seen.lines) ∙ ap (λ (ls : List (List ℕ)). seen.lines ++ filter is_not_blank ls) (sym none) ∙ seen.others)

-- ---- a line that is appended

-- a line that shows something has some bytes
some-bytes : (line : List ℕ) → is_not_blank line ≡ true → 0 < length line
some-bytes [] shown =
    let none : is_not_blank [] ≡ false = ap (λ (bytes : List ℕ). shows (chars bytes)) (own-bytes [] refl) ∙ ap shows chars-nil in
    absurd (cc (sym none ∙ shown))
some-bytes (b ∷ line) shown = omega arith

some-joined : (line : List ℕ) (lines : List (List ℕ)) → is_not_blank line ≡ true → 0 < length (joined_lines (line ∷ lines))
some-joined line lines shown = omega (arith, some-bytes line shown, length-append line (flat_map (λ l. line_feed ∷ l) lines))

joined-append : (first : List ℕ) (lines : List (List ℕ)) (line : List ℕ) → joined_lines ((first ∷ lines) ++ line ∷ []) ≡ (joined_lines (first ∷ lines) ++ line_feed ∷ []) ++ line
joined-append first lines line =
    ap (λ (rest : List ℕ). first ++ rest) (flat_map-append (λ (l : List ℕ). line_feed ∷ l) lines (line ∷ []) ∙ ap (λ (rest : List ℕ). flat_map (λ l. line_feed ∷ l) lines ++ rest) (append-nil (line_feed ∷ line)))
    ∙ sym (append_assoc first (flat_map (λ l. line_feed ∷ l) lines) (line_feed ∷ line))
    ∙ sym (append_assoc (joined_lines (first ∷ lines)) (line_feed ∷ []) line)

-- the first line is appended alone
pub Appends-first : (old line : List ℕ) → is_not_blank line ≡ true → length old ≡ 0 → Appends old (old ++ line) line
Appends-first old line shown none [] show is = ap (λ (bytes : List ℕ). bytes ++ line) is ∙ sym (ap (λ t. joined_lines (line_if t line)) shown ∙ append-nil line)
Appends-first old line shown none (first ∷ lines) show is =
    let seen = and_parts (is_not_blank first) (list_all is_not_blank lines) show in
    let size : length old ≡ length (joined_lines (first ∷ lines)) = ap (λ (bytes : List ℕ). length bytes) is in
    absurd (omega (arith, none, size, some-joined first lines seen.0))

-- another comes after a line feed
pub Appends-next : (old line : List ℕ) → is_not_blank line ≡ true → 0 < length old → Appends old ((old ++ line_feed ∷ []) ++ line) line
Appends-next old line shown some [] show is =
    let size : length old ≡ 0 = ap (λ (bytes : List ℕ). length bytes) is in
    absurd (omega (arith, some, size))
Appends-next old line shown some (first ∷ lines) show is =
    ap (λ (bytes : List ℕ). (bytes ++ line_feed ∷ []) ++ line) is ∙ sym (ap (λ t. joined_lines ((first ∷ lines) ++ line_if t line)) shown ∙ joined-append first lines line)
