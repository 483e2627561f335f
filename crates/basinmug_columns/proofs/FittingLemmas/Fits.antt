-- A line that is cut measures no more than its width.
use Rattle.std.proofs.Common.{◌≡◌, ◌≤◌, ◌==◌, ℕ, zero, suc, ◌+◌, ◌-◌, ◌*◌, not, ◌&&◌, ◌||◌, nat_lt, Bool, true, false, List, [], ◌∷◌, ◌++◌, length, map, replicate, take, encode_utf8_all, refl, ap, sym, subst, ◌∙◌, arith, append-nil, if◌then◌else◌}
use Rattle.std.specs.List.{list_all, onto_first, sum_by}
use Rattle.std.specs.Str.{IsUtf8, chars}
use Rattle.std.proofs.Math.Seq.{take-append_seam}
use Rattle.std.proofs.Math.Utf8.{scalars}
use Rattle.std.proofs.lemmas.Bool.{and_parts, eqb-true}
use Rattle.std.proofs.lemmas.Bool.Decides.{nat_tests}
use Rattle.std.proofs.lemmas.List.{map-append, take-map}
use Rattle.std.proofs.lemmas.List.Folds.{list_all-append, sum_by-replicate}
use Rattle.std.proofs.lemmas.List.Splits.{slice_split-cons_no}
use Rattle.std.proofs.lemmas.List.Sums.{sum_by-append, sum_by_push}
use Rattle.std.proofs.lemmas.Str.{chars-append, encodes-append, encodes-chars, scalars-chars, IsUtf8-append, IsCharBoundary-start, IsCharBoundary-at_seam}
use Rattle.ucd_table.specs.Rows.{in_ranges}
use Rattle.ucd_table.proofs.Computing.{tables}
use Rattle.ucd_table.proofs.Stepped.{Stepped, of_ranges, zip_stepped}
use Rattle.ucd_table.proofs.Facts.{always, ends_by, Stepped-everywhere}
use Rattle.unicode_width.specs.declared.kind.Kind.{Kind}
use Rattle.unicode_width.specs.declared.kind.Kind.TheVariants as kinds
use Rattle.unicode_width.specs.Kind.{kind}
use Rattle.unicode_width.specs.Width.{plain, of_kind, added, alone, past_emoji, step, read_before, str_width}
use Rattle.unicode_width.proofs.KindLemmas.{kind_stepped}
use Rattle.ansi_scan.specs.declared.items.Kind.TheVariants.{Text}
use Rattle.ansi_scan.specs.Attributes.{Attributes, plain_attributes}
use Rattle.ansi_scan.specs.Joining.{put_all_before}
use Rattle.ansi_scan.specs.Pieces.{first_pieces, pieces}
use Rattle.ansi_scan.specs.Sequences.{Piece, ArePiecesOf, NoneBroken}
use Rattle.ansi_scan.proofs.Existence.{ArePiecesOf-pieces}
use Rattle.ansi_scan.proofs.Joins.{ArePiecesOf-append}
use Rattle.ansi_scan.proofs.Uniqueness.{ArePiecesOf-unique}
use Rattle.ansi_str.specs.Cuts.{cut_part}
use Rattle.ansi_str.specs.StyledText.{strip, styled}
use Rattle.ansi_str.proofs.EditUtf8.{IsUtf8-cut_part}
use Rattle.ansi_str_search.proofs.Merges.{alike-put_all_before}
use Rattle.ansi_str_search.proofs.TextLemmas.LastSequence.{strip-append}
use Rattle.ansi_str_search.proofs.TextLemmas.Utf8Pieces.{EachUtf8-pieces, IsUtf8-shown_text, styled-characters}
use Rattle.grid_records_measure.specs.Cutting.{Fits, IsCutAt, LinesFit, ShowsCut, lacking, last_of, lines_of, replacement}
use Rattle.grid_records_measure.specs.CutTexts.{cut_at}
use Rattle.grid_records_measure.specs.Measures.{line_cost, cost, measure, own_width}
use Rattle.grid_records_measure.specs.PlainCharacters.{is_plain_character}
use Rattle.grid_records_measure.specs.TextLines.{is_line_feed, line_width}
use Rattle.grid_records_measure.proofs.Cuts.{cut_at-meets, scalars-behind}
use Rattle.grid_records_measure.proofs.Plain.{line_cost-plain, measure-plain, one-column}
use Rattle.grid_records_measure.proofs.ShownCuts.{cut-shows}
use Rattle.basinmug_columns.specs.Fitting.Fitting.{cut_line, ellipsis, shortened}

-- ---- a text is read from its end, where the ellipsis is as any other character of one column

abbrev is_narrow_kind : Kind → Bool
is_narrow_kind kinds.Narrow = true
is_narrow_kind kinds.Ambiguous = true
is_narrow_kind _ = false

abbrev ellipsis_range : List (ℕ × ℕ)
ellipsis_range = (0x2026, 0x2026) ∷ []

narrow-stepped : Stepped (λ c. not (in_ranges ellipsis_range c) || is_narrow_kind (kind c))
unfolding tables
narrow-stepped = zip_stepped (λ inside k. not inside || is_narrow_kind k) (in_ranges ellipsis_range) kind (of_ranges ellipsis_range refl) kind_stepped

narrow-everywhere : (always (λ c. not (in_ranges ellipsis_range c) || is_narrow_kind (kind c)) narrow-stepped && (ends_by 0x11_0000 narrow-stepped.steps && narrow-stepped.default)) ≡ true
unfolding tables kind_stepped narrow-stepped
narrow-everywhere = refl

ellipsis-kind : is_narrow_kind (kind 0x2026) ≡ true
unfolding in_ranges
ellipsis-kind = Stepped-everywhere (λ c. not (in_ranges ellipsis_range c) || is_narrow_kind (kind c)) narrow-stepped narrow-everywhere 0x2026

narrow-alone : (c : ℕ) (k : Kind) → is_narrow_kind k ≡ true → of_kind false c k ≡ (1, plain)
narrow-alone c kinds.Zero h = absurd (cc h)
narrow-alone c kinds.Narrow h = refl
narrow-alone c kinds.Wide h = absurd (cc h)
narrow-alone c kinds.Ambiguous h = refl
narrow-alone c kinds.Alef h = absurd (cc h)
narrow-alone c kinds.KhmerLetter h = absurd (cc h)
narrow-alone c kinds.TifinaghConsonant h = absurd (cc h)
narrow-alone c kinds.LisuTone h = absurd (cc h)
narrow-alone c kinds.RegionalIndicator h = absurd (cc h)
narrow-alone c kinds.EmojiModifier h = absurd (cc h)
narrow-alone c kinds.Emoji h = absurd (cc h)
narrow-alone c kinds.Single h = absurd (cc h)

ends-alike : step false 0x2026 (0, plain) ≡ step false 0x78 (0, plain)
unfolding step past_emoji alone
ends-alike = ap (added 0) (narrow-alone 0x2026 (kind 0x2026) ellipsis-kind)

read-alike : (cs : List ℕ) → read_before false (cs ++ 0x2026 ∷ []) (0, plain) ≡ read_before false (cs ++ 0x78 ∷ []) (0, plain)
read-alike [] = ends-alike
read-alike (c ∷ cs) = ap (step false c) (read-alike cs)

measure-more : (cs : List ℕ) → list_all is_plain_character cs ≡ true → measure (cs ++ 0x2026 ∷ []) ≡ line_cost cs + 1
unfolding str_width
measure-more cs all =
    let more : list_all is_plain_character (cs ++ 0x78 ∷ []) ≡ true = list_all-append is_plain_character cs (0x78 ∷ []) ∙ ap (λ b. b && true) all in
    ap (λ r. r.0) (read-alike cs) ∙ measure-plain (cs ++ 0x78 ∷ []) more ∙ sum_by_push own_width cs 0x78
    ∙ ap (λ n. sum_by own_width cs + n) (one-column 0x78 refl) ∙ ap (λ n. n + 1) (sym (line_cost-plain cs all))

-- ---- what is kept fits, and so do the characters that mark the columns that are lacking

no-feed : (c : ℕ) → is_plain_character c ≡ true → is_line_feed c ≡ false
no-feed c e = by_test (c == 0x0a) refl
  where
    by_test : (same : Bool) → (c == 0x0a) ≡ same → (c == 0x0a) ≡ false
    by_test false is = is
    by_test true is =
        let feed : c ≡ 0x0a = eqb-true c 0x0a is in
        let both : true ≡ false = sym e ∙ ap is_plain_character feed in
        absurd (cc both)

one-line : (cs : List ℕ) → list_all is_plain_character cs ≡ true → lines_of cs ≡ cs ∷ []
one-line [] all = refl
one-line (c ∷ cs) all =
    let parts = and_parts (is_plain_character c) (list_all is_plain_character cs) all in
    slice_split-cons_no is_line_feed c cs (no-feed c parts.0) ∙ ap (onto_first c) (one-line cs parts.1)

lacking-most : (n : ℕ) (kept left : List ℕ) → lines_of kept ≡ kept ∷ [] → lacking n kept left ≤ n - line_cost kept
lacking-most n kept [] one = omega arith
lacking-most n kept (c ∷ left) one =
    let is : lacking n kept (c ∷ left) ≡ n - line_cost kept = ap (λ (ls : List (List ℕ)). n - line_cost (last_of ls)) one in
    omega arith

kept-fits : (n : ℕ) (kept left : List ℕ) → list_all is_plain_character kept ≡ true → Fits n kept → line_cost kept + lacking n kept left ≤ n
kept-fits n kept left all fits =
    let one = one-line kept all in
    let low : line_cost kept ≤ n = subst (LinesFit n) one fits in
    let most = lacking-most n kept left one in
    omega (arith, low, most)

marks-plain : (n : ℕ) → list_all is_plain_character (replicate n replacement) ≡ true
marks-plain zero = refl
marks-plain (suc n) = marks-plain n

marks-scalars : (n : ℕ) → scalars (replicate n replacement) ≡ true
marks-scalars zero = refl
marks-scalars (suc n) = marks-scalars n

marks-columns : (n : ℕ) → line_cost (replicate n replacement) ≡ n
marks-columns n =
    let width : own_width replacement ≡ 1 = one-column replacement refl in
    let each : sum_by own_width (replicate n replacement) ≡ n * 1 = sum_by-replicate own_width n replacement ∙ ap (λ w. n * w) width in
    omega (arith, line_cost-plain (replicate n replacement) (marks-plain n), each)

plain-front : (kept left : List ℕ) → list_all is_plain_character (kept ++ left) ≡ true → list_all is_plain_character kept ≡ true
plain-front kept left all = (and_parts (list_all is_plain_character kept) (list_all is_plain_character left) (sym (list_all-append is_plain_character kept left) ∙ all)).0

-- ---- the cut and the ellipsis

firsts : (cs : List ℕ) → map (λ (x : ℕ × Attributes). x.0) (map (λ c. (c, plain_attributes)) cs) ≡ cs
firsts [] = refl
firsts (c ∷ cs) = ap (λ rest. c ∷ rest) (firsts cs)

abbrev mark-pieces : List Piece
mark-pieces = record { kind = Text; bytes = ellipsis } ∷ []

of-mark : ArePiecesOf ellipsis mark-pieces
of-mark = record { joins = append-nil ellipsis; stand = (record { some = omega arith; plain = refl; ends = tt }, tt) }

mark-chars : chars ellipsis ≡ 0x2026 ∷ []
unfolding chars
mark-chars = refl

module _ (n : ℕ) (line : List ℕ) (utf8 : IsUtf8 line) (whole : NoneBroken (pieces line)) (all : list_all is_plain_character (chars (strip (pieces line))) ≡ true) where
  abbrev ps : List Piece
  ps = pieces line

  abbrev out : List ℕ
  out = cut_at n line

  of_line : ArePiecesOf line ps
  of_line = ArePiecesOf-pieces line

  of_out : ArePiecesOf out (pieces out)
  of_out = ArePiecesOf-pieces out

  is_cut : IsCutAt n ps out
  is_cut = cut_at-meets n line ps of_line

  shows : ShowsCut n ps (pieces out)
  shows = cut-shows n line out ps (pieces out) utf8 of_line whole is_cut of_out

  utf8-strip : IsUtf8 (strip ps)
  utf8-strip = IsUtf8-shown_text line utf8

  utf8-front : (kept left : List ℕ) → chars (strip ps) ≡ kept ++ left → IsUtf8 (cut_part 0 (length (encode_utf8_all kept)) ps)
  utf8-front kept left parted =
      let scalars-all : scalars (kept ++ left) ≡ true = ap scalars (sym parted) ∙ scalars-chars (strip ps) utf8-strip in
      let spelled : strip ps ≡ encode_utf8_all kept ++ encode_utf8_all left = sym (encodes-chars (strip ps) utf8-strip) ∙ ap encode_utf8_all parted ∙ encodes-append kept left in
      IsUtf8-cut_part 0 (length (encode_utf8_all kept)) ps (EachUtf8-pieces ps of_line.stand (subst IsUtf8 (sym of_line.joins) utf8)) (omega arith)
      (λ _. IsCharBoundary-start (strip ps) utf8-strip)
      (λ _. IsCharBoundary-at_seam (strip ps) (encode_utf8_all kept) (encode_utf8_all left) spelled (left, (scalars-behind kept left scalars-all, refl)))

  utf8-out : IsUtf8 out
  utf8-out =
      let marks : ℕ = lacking n is_cut.0 is_cut.1 in
      subst IsUtf8 (sym is_cut.3)
      (IsUtf8-append (cut_part 0 (length (encode_utf8_all is_cut.0)) ps) (encode_utf8_all (replicate marks replacement))
      (utf8-front is_cut.0 is_cut.1 is_cut.2.parted) (replicate marks replacement, (marks-scalars marks, refl)))

  abbrev marks : List ℕ
  marks = replicate (lacking n shows.kept shows.left) replacement

  out-chars : chars (strip (pieces out)) ≡ shows.kept ++ marks
  out-chars =
      let first : ℕ × Attributes → ℕ = λ x. x.0 in
      sym (styled-characters out (pieces out) utf8-out of_out) ∙ ap (map first) shows.shown
      ∙ map-append first (take (length shows.kept) (styled ps)) (map (λ c. (c, plain_attributes)) marks)
      ∙ ap (λ (cs : List ℕ). map first (take (length shows.kept) (styled ps)) ++ cs) (firsts marks)
      ∙ ap (λ (cs : List ℕ). cs ++ marks)
      (sym (take-map first (length shows.kept) (styled ps)) ∙ ap (take (length shows.kept)) (styled-characters line ps utf8 of_line ∙ shows.longest.parted) ∙ take-append_seam shows.kept shows.left)

  shortened-chars : chars (strip (pieces (out ++ ellipsis))) ≡ (shows.kept ++ marks) ++ 0x2026 ∷ []
  shortened-chars =
      let qs = pieces out in
      let both = ArePiecesOf-append out ellipsis qs mark-pieces of_out shows.closed.none_broken of-mark in
      let same = ArePiecesOf-unique (out ++ ellipsis) (pieces (out ++ ellipsis)) (put_all_before qs mark-pieces) (ArePiecesOf-pieces (out ++ ellipsis)) both in
      let stripped : strip (pieces (out ++ ellipsis)) ≡ strip qs ++ ellipsis =
      ap strip same ∙ (alike-put_all_before qs mark-pieces).strip_same ∙ strip-append qs mark-pieces ∙ ap (λ (bytes : List ℕ). strip qs ++ bytes) (append-nil ellipsis) in
      ap chars stripped ∙ chars-append (strip qs) ellipsis (IsUtf8-shown_text out utf8-out) ∙ ap (λ cs. chars (strip qs) ++ cs) mark-chars ∙ ap (λ cs. cs ++ 0x2026 ∷ []) out-chars

  kept-plain : list_all is_plain_character shows.kept ≡ true
  kept-plain = plain-front shows.kept shows.left (ap (list_all is_plain_character) (sym shows.longest.parted) ∙ all)

  both-plain : list_all is_plain_character (shows.kept ++ marks) ≡ true
  both-plain =
      list_all-append is_plain_character shows.kept marks
      ∙ ap (λ b. b && list_all is_plain_character marks) kept-plain ∙ marks-plain (lacking n shows.kept shows.left)

  pub cut-fits : line_width (out ++ ellipsis) ≤ n + 1
  cut-fits =
      let is : line_width (out ++ ellipsis) ≡ line_cost (shows.kept ++ marks) + 1 = ap measure shortened-chars ∙ measure-more (shows.kept ++ marks) both-plain in
      let parts : line_cost (shows.kept ++ marks) ≡ line_cost shows.kept + line_cost marks = sum_by-append cost shows.kept marks in
      let low = kept-fits n shows.kept shows.left kept-plain shows.longest.fits in
      omega (arith, is, parts, low, marks-columns (lacking n shows.kept shows.left))

-- ---- a line

nothing-measures : line_width [] ≡ 0
unfolding pieces first_pieces chars str_width
nothing-measures = refl

pub shortened-fits : (room : ℕ) (line : List ℕ) → IsUtf8 line → NoneBroken (pieces line) → list_all is_plain_character (chars (strip (pieces line))) ≡ true → line_width (shortened room line) ≤ room
shortened-fits zero line utf8 whole all = omega (arith, nothing-measures)
shortened-fits (suc n) line utf8 whole all =
    let some : (suc n == 0) ≡ false = grind (arith, nat_tests) in
    let less : suc n - 1 ≡ n = omega arith in
    let is : shortened (suc n) line ≡ cut_at n line ++ ellipsis =
    ap (λ (none : Bool). if none then [] else cut_at (suc n - 1) line ++ ellipsis) some ∙ ap (λ (k : ℕ). cut_at k line ++ ellipsis) less in
    let same : line_width (shortened (suc n) line) ≡ line_width (cut_at n line ++ ellipsis) = ap line_width is in
    let fits : line_width (cut_at n line ++ ellipsis) ≤ n + 1 = cut-fits n line utf8 whole all in
    omega (arith, same, fits)

pub line-fits : (room : ℕ) (line : List ℕ) → IsUtf8 line → NoneBroken (pieces line) → list_all is_plain_character (chars (strip (pieces line))) ≡ true → line_width (cut_line room line) ≤ room
line-fits room line utf8 whole all = by_test (nat_lt room (line_width line)) refl
  where
    by_test : (wider : Bool) → nat_lt room (line_width line) ≡ wider → line_width (if wider then shortened room line else line) ≤ room
    by_test true e = shortened-fits room line utf8 whole all
    by_test false e = grind (arith, nat_tests, e)
