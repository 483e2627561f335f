-- Texts that stay as they are where they are wrapped.
use Rattle.std.proofs.Common.{◌≡◌, ◌≤◌, ◌<◌, ℕ, zero, suc, ◌+◌, ◌-◌, ◌==◌, inl, inr, None, Some, Option, Bool, true, false, cond, nat_le, nat_lt, List, [], ◌∷◌, ◌++◌, All, length, map, flat_map, refl, ap, sym, subst, ◌∙◌, arith, append-nil, length-append}
use Rattle.std.specs.Borrow.{Bor}
use Rattle.std.specs.Option.{IfSome}
use Rattle.std.specs.Prelude.{◌&&◌, ◌||◌, not, chars, encode_utf8_all}
use Rattle.std.specs.List.{join_by, join_with_byte, list_all, repeat, slice_split}
use Rattle.std.specs.Str.{IsUtf8, is_utf8}
use Rattle.std.proofs.lemmas.Bool.{and_parts, cases_lt}
use Rattle.std.proofs.lemmas.Bool.Decides.{nat_tests}
use Rattle.std.proofs.lemmas.List.{take_all}
use Rattle.std.proofs.lemmas.List.Elements.{All-cons, All-head, All-nil, All-tail}
use Rattle.std.proofs.lemmas.List.Folds.{list_all-append}
use Rattle.std.proofs.lemmas.List.Splits.{join_with_byte-slice_split}
use Rattle.std.proofs.lemmas.List.Sums.{sum_by-append, sum_by-cons}
use Rattle.std.proofs.lemmas.Str.{IsUtf8-from_is_utf8, is_utf8-from_IsUtf8, encodes-append, encodes-chars}
use Rattle.ansi_scan.specs.Pieces.{pieces}
use Rattle.ansi_scan.proofs.Existence.{ArePiecesOf-pieces}
use Rattle.ansi_str.specs.StyledText.{has_escape, strip}
use Rattle.ansi_str.specs.Matches.{AreMatches, split_bounds, styled_parts}
use Rattle.ansi_str.specs.Cuts.{cut_part}
use Rattle.ansi_str.proofs.CutSteps.{no_escape-parts}
use Rattle.ansi_str_search.proofs.AllParts.{styled_parts-without_escape}
use Rattle.ansi_str_search.proofs.StdSplits.{split_at_one_byte}
use Rattle.ansi_str_search.proofs.TextLemmas.Stripping.{strip-without_escape}
use Rattle.grid_records_measure.specs.Measures.{line_cost, cost, measure}
use Rattle.grid_records_measure.specs.PlainCharacters.{is_plain_character}
use Rattle.grid_records_measure.specs.Tabs.{space}
use Rattle.grid_records_measure.specs.RawLines.{IsLineAndRest, lines_behind as lines_behind_of}
use Rattle.grid_records_measure.specs.TextLines.{is_line_feed, line_feed, shown_lines, text_lines}
use Rattle.grid_records_measure.proofs.Cuts.{cut-without_escape}
use Rattle.grid_records_measure.proofs.Plain.{line_cost-plain, measure-plain}
use Rattle.grid_records_measure.proofs.TextLines.{text_lines-are}
use Rattle.tabled_size_wrap.specs.FittingRuns.{run_cost}
use Rattle.tabled_size_wrap.specs.Bytes.{wrapped_text}
use Rattle.tabled_size_wrap.specs.Runs.{wrapped_lines, wrapped}
use Rattle.tabled_size_wrap.specs.Units.{LineUnit, character_unit, is_space, line_units, space_unit, unit_len, word_units}
use Rattle.tabled_size_wrap.specs.Wrapping.{line_part, replacement_bytes, run_len}
use Rattle.tabled_size_wrap.proofs.Runs.{left_bytes, lines-all, put}
use Rattle.tabled_size_wrap.proofs.AllUnits.{printable-cost, texts, texts-units}
use Rattle.tabled_size_wrap.proofs.Wraps.{line-more, lines_left}
use Rattle.tabled_size_wrap.specs.Staying.{line_stays, stays}

-- ---- a run on which all units fit

module _ (part : ℕ → ℕ → List ℕ) (mark : List ℕ) (width : ℕ) where
  kept_all : (us : List LineUnit) (a b used : ℕ) → used + run_cost us ≤ width → left_bytes part mark width a b used us ≡ part a (b + run_len us)
  kept_all [] a b used fits = let none : b ≡ b + run_len [] = omega arith in ap (part a) none
  kept_all (u ∷ us) a b used fits =
      let costs : run_cost (u ∷ us) ≡ u.cost + run_cost us = sum_by-cons (λ (v : LineUnit). v.cost) u us in
      let rest : used + u.cost + run_cost us ≤ width = omega (arith, fits, costs) in
      let low : u.cost ≤ width = omega (arith, rest) in
      let more : used + u.cost ≤ width = omega (arith, rest) in
      let narrow : nat_le u.cost width ≡ true = grind (arith, nat_tests) in
      let room : nat_le (used + u.cost) width ≡ true = grind (arith, nat_tests) in
      let others : ℕ → ℕ → ℕ → List ℕ = λ c d n. left_bytes part mark width c d n us in
      let place : b + unit_len u + run_len us ≡ b + run_len (u ∷ us) = omega (arith, sum_by-cons unit_len u us) in
      ap (λ t. cond t (put part mark width others a b used u) (part a b ++ line_feed ∷ put part mark width others b b 0 u))
      (ap (λ t. cond t (nat_le (used + u.cost) width) (nat_lt used width)) narrow ∙ room)
      ∙ ap (λ t. cond t (others a (b + unit_len u) (used + u.cost)) (part a b ++ (repeat (width - used) mark ++ others (b + unit_len u) (b + unit_len u) width))) narrow
      ∙ kept_all us a (b + unit_len u) (used + u.cost) rest ∙ ap (part a) place

-- ---- what units cost, and how long they are

len_texts : (us : List LineUnit) → run_len us ≡ length (encode_utf8_all (texts us))
len_texts [] = refl
len_texts (u ∷ us) =
    sum_by-cons unit_len u us ∙ ap (λ n. unit_len u + n) (len_texts us) ∙ sym (length-append (encode_utf8_all u.text) (encode_utf8_all (texts us)))
    ∙ ap length (sym (encodes-append u.text (texts us)))

characters_cost : (cs : List ℕ) → run_cost (map character_unit cs) ≡ line_cost cs
characters_cost [] = refl
characters_cost (c ∷ cs) =
    sum_by-cons (λ (v : LineUnit). v.cost) (character_unit c) (map character_unit cs) ∙ ap (λ n. cost c + n) (characters_cost cs) ∙ sym (sum_by-cons cost c cs)

-- a word of plain characters that costs at most the width is one unit, which costs as much
word_cost : (width : ℕ) (word : List ℕ) → list_all is_plain_character word ≡ true → line_cost word ≤ width → run_cost (word_units width word) ≡ line_cost word
word_cost width [] plain fits = refl
word_cost width (c ∷ cs) plain fits =
    let measured : measure (c ∷ cs) ≡ line_cost (c ∷ cs) = measure-plain (c ∷ cs) plain ∙ sym (line_cost-plain (c ∷ cs) plain) in
    let less : measure (c ∷ cs) ≤ width = omega (arith, measured, fits) in
    let narrow : nat_le (measure (c ∷ cs)) width ≡ true = grind (arith, nat_tests) in
    let whole : LineUnit = record { text = c ∷ cs; cost = measure (c ∷ cs) } in
    let alone : run_cost (whole ∷ []) ≡ measure (c ∷ cs) = omega arith in
    ap (λ t. run_cost (cond t (whole ∷ []) (map character_unit (c ∷ cs)))) narrow ∙ alone ∙ measured

-- a space, and a word after it
abbrev spaced : ℕ → List ℕ → List LineUnit
spaced width word = (space_unit ∷ []) ++ word_units width word

-- a space costs one column
space_cost : (word : List ℕ) → line_cost (space ∷ word) ≡ 1 + line_cost word
space_cost word = let one = printable-cost space refl refl in omega (arith, sum_by-cons cost space word, one)

behind_cost : (width : ℕ) (words : List (List ℕ)) → list_all is_plain_character (flat_map (λ word. space ∷ word) words) ≡ true → line_cost (flat_map (λ word. space ∷ word) words) ≤ width →
    run_cost (flat_map (spaced width) words) ≡ line_cost (flat_map (λ word. space ∷ word) words)
behind_cost width [] plain fits = refl
behind_cost width (word ∷ words) plain fits =
    let others = flat_map (λ word. space ∷ word) words in
    let sizes : line_cost ((space ∷ word) ++ others) ≡ 1 + line_cost word + line_cost others = sum_by-append cost (space ∷ word) others ∙ ap (λ n. n + line_cost others) (space_cost word) in
    let both = and_parts (list_all is_plain_character (space ∷ word)) (list_all is_plain_character others) (sym (list_all-append is_plain_character (space ∷ word) others) ∙ plain) in
    let here : list_all is_plain_character word ≡ true = both.0 in
    let short : line_cost word ≤ width = omega (arith, fits, sizes) in
    let less : line_cost others ≤ width = omega (arith, fits, sizes) in
    let first : run_cost (spaced width word) ≡ 1 + run_cost (word_units width word) = sum_by-cons (λ (v : LineUnit). v.cost) space_unit (word_units width word) in
    omega (
      arith,
      sizes,
      sum_by-append (λ (v : LineUnit). v.cost) (spaced width word) (flat_map (spaced width) words),
      first,
      word_cost width word here short,
      behind_cost width words both.1 less,
    )

joined_flat : (separator : ℕ) (parts : List (List ℕ)) (part : List ℕ) → part ++ flat_map (λ other. separator ∷ other) parts ≡ join_with_byte separator (part ∷ parts)
joined_flat separator [] part = append-nil part
joined_flat separator (next ∷ parts) part = ap (λ (cs : List ℕ). part ++ separator ∷ cs) (joined_flat separator parts next)

words_cost : (width : ℕ) (words : List (List ℕ)) → list_all is_plain_character (join_with_byte space words) ≡ true → line_cost (join_with_byte space words) ≤ width →
    run_cost (join_by (word_units width) (space_unit ∷ []) words) ≡ line_cost (join_with_byte space words)
words_cost width [] plain fits = refl
words_cost width (word ∷ words) plain fits =
    let others = flat_map (λ word. space ∷ word) words in
    let whole = joined_flat space words word in
    let sizes : line_cost (join_with_byte space (word ∷ words)) ≡ line_cost word + line_cost others = ap line_cost (sym whole) ∙ sum_by-append cost word others in
    let both = and_parts (list_all is_plain_character word) (list_all is_plain_character others) (sym (list_all-append is_plain_character word others) ∙ ap (list_all is_plain_character) whole ∙ plain) in
    let short : line_cost word ≤ width = omega (arith, fits, sizes) in
    let less : line_cost others ≤ width = omega (arith, fits, sizes) in
    omega (
      arith,
      sizes,
      sum_by-append (λ (v : LineUnit). v.cost) (word_units width word) (flat_map (spaced width) words),
      word_cost width word both.0 short,
      behind_cost width words both.1 less,
    )

-- the units of a line that stays take at most the width
units_fit : (width : ℕ) (keep_words : Bool) (line : List ℕ) → line_stays keep_words width line ≡ true → run_cost (line_units width keep_words (chars line)) ≤ width
units_fit width true line stay =
    let cs = chars line in
    let both = and_parts (nat_le (line_cost cs) width) (list_all is_plain_character cs) (and_parts (is_utf8 line) (nat_le (line_cost cs) width && list_all is_plain_character cs) stay).1 in
    let words = slice_split is_space cs in
    let whole : join_with_byte space words ≡ cs = join_with_byte-slice_split space cs in
    let fits : line_cost cs ≤ width = grind (arith, nat_tests, both.0) in
    let joined : line_cost (join_with_byte space words) ≤ width = omega (arith, fits, ap line_cost whole) in
    let costs = words_cost width words (ap (list_all is_plain_character) whole ∙ both.1) joined in
    omega (arith, costs, joined)
units_fit width false line stay =
    let both = and_parts (nat_le (line_cost (chars line)) width) true (and_parts (is_utf8 line) (nat_le (line_cost (chars line)) width && true) stay).1 in
    let fits : line_cost (chars line) ≤ width = grind (arith, nat_tests, both.0) in
    omega (arith, fits, characters_cost (chars line))

-- ---- a line

-- the part of a line without ESC from its start to its end
whole_part : (line : List ℕ) → has_escape line ≡ false → line_part (pieces line) 0 (length line) ≡ line
whole_part line plain =
    by (0 == length line) refl
  where
    shown : strip (pieces line) ≡ line
    shown = strip-without_escape line (pieces line) (ArePiecesOf-pieces line) plain

    cut : cut_part 0 (length line) (pieces line) ≡ line
    cut = cut-without_escape (length line) line (pieces line) plain (ArePiecesOf-pieces line) ∙ take_all (length line) line (omega arith)

    by : (none : Bool) → (0 == length line) ≡ none → line_part (pieces line) 0 (length line) ≡ line
    by true is =
        let empty : length line ≡ 0 = grind (arith, nat_tests) in
        let some : nat_lt 0 (length (strip (pieces line))) ≡ false = ap (λ bytes. nat_lt 0 (length bytes)) shown ∙ ap (nat_lt 0) empty in
        ap (λ b. cond (b && nat_lt 0 (length (strip (pieces line)))) [] (cut_part 0 (length line) (pieces line))) is
        ∙ ap (λ b. cond b [] (cut_part 0 (length line) (pieces line))) some ∙ cut
    by false is = ap (λ b. cond (b && nat_lt 0 (length (strip (pieces line)))) [] (cut_part 0 (length line) (pieces line))) is ∙ cut

line_is : (width : ℕ) (keep_words : Bool) (line : List ℕ) → has_escape line ≡ false → line_stays keep_words width line ≡ true →
    join_with_byte line_feed (wrapped_lines width keep_words (pieces line)) ≡ line
line_is width keep_words line plain stay =
    let rest = nat_le (line_cost (chars line)) width && (not keep_words || list_all is_plain_character (chars line)) in
    let utf8 : IsUtf8 line = IsUtf8-from_is_utf8 line (and_parts (is_utf8 line) rest stay).0 in
    let shown : strip (pieces line) ≡ line = strip-without_escape line (pieces line) (ArePiecesOf-pieces line) plain in
    let units = line_units width keep_words (chars (strip (pieces line))) in
    let same : units ≡ line_units width keep_words (chars line) = ap (λ bytes. line_units width keep_words (chars bytes)) shown in
    let fits : 0 + run_cost units ≤ width = omega (arith, units_fit width keep_words line stay, ap run_cost same) in
    let all : 0 + run_len units ≡ run_len units = omega arith in
    let long : 0 + run_len units ≡ length line =
    all ∙ ap run_len same ∙ len_texts (line_units width keep_words (chars line)) ∙ ap (λ cs. length (encode_utf8_all cs)) (texts-units width keep_words (chars line)) ∙ ap length (encodes-chars line utf8) in
    lines-all (line_part (pieces line)) replacement_bytes width units
    ∙ kept_all (line_part (pieces line)) replacement_bytes width units 0 0 0 fits
    ∙ ap (line_part (pieces line) 0) long ∙ whole_part line plain

-- ---- a text

-- the lines of a text without ESC are its parts between line feeds
pub lines_without_escape : (text : List ℕ) → has_escape text ≡ false → text_lines text ≡ slice_split is_line_feed text
lines_without_escape text plain =
    let are = text_lines-are text in
    let of_text = ArePiecesOf-pieces text in
    let shown : strip (pieces text) ≡ text = strip-without_escape text (pieces text) of_text plain in
    let low : line_feed < 128 = omega arith in
    let matches = subst (λ bytes. AreMatches (line_feed ∷ []) bytes are.matches) shown are.are_matches in
    are.are_parts ∙ ap (λ bytes. styled_parts (pieces text) (split_bounds (line_feed ∷ []) bytes are.matches)) shown
    ∙ styled_parts-without_escape (line_feed ∷ []) text (pieces text) are.matches plain of_text matches
    ∙ split_at_one_byte line_feed text are.matches low matches

module _ (width : ℕ) (keep_words : Bool) where
  abbrev wrapped_one : List ℕ → List (List ℕ)
  wrapped_one line = wrapped_lines width keep_words (pieces line)

  -- these lines are what they are wrapped to
  abbrev AreTheirs : List (List ℕ) → Type 0
  AreTheirs lines = All (λ line. join_with_byte line_feed (wrapped_one line) ≡ line) lines

  are_theirs : (lines : List (List ℕ)) → has_escape (flat_map (λ line. line_feed ∷ line) lines) ≡ false → list_all (line_stays keep_words width) lines ≡ true → AreTheirs lines
  are_theirs [] plain stay = All-nil (λ line. join_with_byte line_feed (wrapped_one line) ≡ line)
  are_theirs (line ∷ lines) plain stay =
      let parts = no_escape-parts (line_feed ∷ line) (flat_map (λ line. line_feed ∷ line) lines) plain in
      let here : has_escape line ≡ false = (no_escape-parts (line_feed ∷ []) line parts.0).1 in
      let both = and_parts (line_stays keep_words width line) (list_all (line_stays keep_words width) lines) stay in
      All-cons (λ line. join_with_byte line_feed (wrapped_one line) ≡ line) line lines (line_is width keep_words line here both.0) (are_theirs lines parts.1 both.1)

  lines_behind : (lines : List (List ℕ)) → AreTheirs lines → lines_left width keep_words true lines ≡ flat_map (λ line. line_feed ∷ line) lines
  lines_behind [] theirs = refl
  lines_behind (line ∷ lines) theirs =
      ap (λ (bytes : List ℕ). (line_feed ∷ bytes) ++ lines_left width keep_words true lines) (All-head (λ line. join_with_byte line_feed (wrapped_one line) ≡ line) line lines theirs)
      ∙ ap (λ (bytes : List ℕ). (line_feed ∷ line) ++ bytes) (lines_behind lines (All-tail (λ line. join_with_byte line_feed (wrapped_one line) ≡ line) line lines theirs))

  lines_are : (lines : List (List ℕ)) → AreTheirs lines → join_with_byte line_feed (flat_map wrapped_one lines) ≡ join_with_byte line_feed lines
  lines_are [] theirs = refl
  lines_are (line ∷ lines) theirs =
      let here = join_with_byte line_feed (wrapped_one line) in
      sym (line-more width keep_words false [] [] here line lines (join_with_byte line_feed (flat_map wrapped_one (line ∷ lines))) refl refl refl)
      ∙ ap (λ (bytes : List ℕ). bytes ++ lines_left width keep_words true lines) (All-head (λ line. join_with_byte line_feed (wrapped_one line) ≡ line) line lines theirs)
      ∙ ap (λ (bytes : List ℕ). line ++ bytes) (lines_behind lines (All-tail (λ line. join_with_byte line_feed (wrapped_one line) ≡ line) line lines theirs))
      ∙ joined_flat line_feed lines line

some_lines : (lines : List (List ℕ)) (text : List ℕ) → join_with_byte line_feed lines ≡ text → has_escape text ≡ false → has_escape (flat_map (λ line. line_feed ∷ line) lines) ≡ false
some_lines [] text is plain = refl
some_lines (line ∷ lines) text is plain = ap has_escape (ap (λ (bytes : List ℕ). line_feed ∷ bytes) (joined_flat line_feed lines line ∙ is)) ∙ plain

-- a text that stays is what it is wrapped to
pub stays-is : (keep_words : Bool) (width : ℕ) (text : List ℕ) → stays keep_words width text ≡ true → wrapped_text width keep_words text ≡ text
unfolding wrapped_text
stays-is keep_words zero text stay = absurd (cc stay)
stays-is keep_words (suc n) text stay =
    let width = suc n in
    let lines = list_all (line_stays keep_words width) (shown_lines (pieces text)) in
    let both = and_parts (not (has_escape text)) lines (and_parts (nat_lt 0 width) (not (has_escape text) && lines) stay).1 in
    let plain : has_escape text ≡ false = not_true (has_escape text) both.0 in
    let shown : strip (pieces text) ≡ text = strip-without_escape text (pieces text) (ArePiecesOf-pieces text) plain in
    let parts = slice_split is_line_feed text in
    let whole : join_with_byte line_feed parts ≡ text = join_with_byte-slice_split line_feed text in
    let stay_each : list_all (line_stays keep_words width) parts ≡ true = ap (λ bytes. list_all (line_stays keep_words width) (slice_split is_line_feed bytes)) (sym shown) ∙ both.1 in
    ap (wrapped width keep_words) (lines_without_escape text plain)
    ∙ lines_are width keep_words parts (are_theirs width keep_words parts (some_lines parts text whole plain) stay_each) ∙ whole
  where
    not_true : (b : Bool) → not b ≡ true → b ≡ false
    not_true true is = absurd (cc is)
    not_true false is = refl

-- ---- the test, line by line and character by character

-- the first line of a text without ESC, and those after it, which have none either
pub split_stays : (f : List ℕ → Bool) (text line : List ℕ) (rest : Option (Bor (List ℕ))) → has_escape text ≡ false → IsLineAndRest text line rest →
    shown_lines (pieces text) ≡ strip (pieces line) ∷ lines_behind_of rest →
    (list_all f (shown_lines (pieces text)) ≡ (f line && list_all f (lines_behind_of rest))) × IfSome rest (λ other. has_escape other.now ≡ false)
split_stays f text line rest plain parted lines =
    let parts = by rest parted in
    let shown : strip (pieces line) ≡ line = strip-without_escape line (pieces line) (ArePiecesOf-pieces line) parts.0 in
    (ap (list_all f) lines ∙ ap (λ first. f first && list_all f (lines_behind_of rest)) shown, parts.1)
  where
    by : (rest : Option (Bor (List ℕ))) → IsLineAndRest text line rest → (has_escape line ≡ false) × IfSome rest (λ other. has_escape other.now ≡ false)
    by None is = (ap has_escape (sym is) ∙ plain, tt)
    by (Some other) is =
        let first = no_escape-parts line (line_feed ∷ other.now) (ap has_escape (sym is) ∙ plain) in
        (first.0, (no_escape-parts (line_feed ∷ []) other.now first.1).1)

module _ (c left taken : ℕ) (cs : List ℕ) (is : taken ≡ cost c) where
  costs : line_cost (c ∷ cs) ≡ taken + line_cost cs
  costs = let both = sum_by-cons cost c cs in omega (arith, both, is)

  -- a character that costs more than is left, and one that doesn't
  pub passes_room : left < taken → nat_le (line_cost (c ∷ cs)) left ≡ false
  passes_room more = let far : left < line_cost (c ∷ cs) = omega (arith, costs, more) in grind (arith, nat_tests)

  pub takes_room : taken ≤ left → nat_le (line_cost (c ∷ cs)) left ≡ nat_le (line_cost cs) (left - taken)
  takes_room fits =
      elim (cases_lt left (line_cost (c ∷ cs))) as (λ _. nat_le (line_cost (c ∷ cs)) left ≡ nat_le (line_cost cs) (left - taken)) [
        | inl more ↦
            let far : left - taken < line_cost cs = omega (arith, costs, more, fits) in
            let here : nat_le (line_cost (c ∷ cs)) left ≡ false = grind (arith, nat_tests) in
            let there : nat_le (line_cost cs) (left - taken) ≡ false = grind (arith, nat_tests) in
            here ∙ sym there
        | inr less ↦
            let near : line_cost cs ≤ left - taken = omega (arith, costs, less, fits) in
            let here : nat_le (line_cost (c ∷ cs)) left ≡ true = grind (arith, nat_tests) in
            let there : nat_le (line_cost cs) (left - taken) ≡ true = grind (arith, nat_tests) in
            here ∙ sym there
      ]

-- what the test of a line answers, whose characters cost at most the width
pub costs_less : (width : ℕ) (line : List ℕ) → IsUtf8 line → (keep_words : Bool) (answer : Bool) → true ≡ nat_le (line_cost (chars line)) width →
    answer ≡ (not keep_words || list_all is_plain_character (chars line)) → answer ≡ line_stays keep_words width line
costs_less width line utf8 keep_words answer fits is =
    is ∙ sym (ap (λ b. b && (nat_le (line_cost (chars line)) width && (not keep_words || list_all is_plain_character (chars line)))) (is_utf8-from_IsUtf8 line utf8)
    ∙ ap (λ b. b && (not keep_words || list_all is_plain_character (chars line))) (sym fits))
