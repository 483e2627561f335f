-- What becomes of a text, with its sequences and without.
use Rattle.std.proofs.Common.{◌≡◌, ◌==◌, ◌-◌, ◌*◌, ◌/◌, ◌++◌, ℕ, zero, suc, Bool, true, false, List, [], ◌∷◌, Option, None, Some, length, map, take, replicate, nat_lt, chars, refl, ap, sym, subst, ◌∙◌, append-nil, if◌then◌else◌, unwrap_or, IsUtf8}
use Rattle.std.specs.Prelude.{IfSome, encode_utf8, encode_utf8_all}
use Rattle.std.specs.List.{AllByRecursion, AllZip, join_with_byte, repeat, slice_split}
use Rattle.std.specs.Option.{option_map, option_or}
use Rattle.std.proofs.Math.Utf8.{encode}
use Rattle.std.proofs.lemmas.List.{map-append}
use Rattle.std.proofs.lemmas.Simd.{map-map}
use Rattle.std.proofs.lemmas.Str.{encodes-chars, IsUtf8-append, IsUtf8-encode, IsUtf8-nil}
use Rattle.ansi_scan.specs.Attributes.{Attributes, IsRendition, plain_attributes}
use Rattle.ansi_scan.specs.Pieces.{pieces}
use Rattle.ansi_scan.specs.Sequences.{Piece, NoneBroken}
use Rattle.ansi_scan.specs.StartsAndEnds.{end_bytes, end_sequences, start_bytes, start_sequences}
use Rattle.ansi_scan.proofs.Effects.{end_bytes-sequences, end_sequences_are_read, start_bytes-sequences, start_sequences_are_read}
use Rattle.ansi_scan.proofs.Existence.{ArePiecesOf-pieces}
use Rattle.ansi_scan.proofs.Kept.{IsRendition-plain}
use Rattle.ansi_str.specs.StyledText.{has_escape, strip, style_after, styled, styled_from, text_of}
use Rattle.ansi_str_search.proofs.Dressed.{IsRendition-after, joined-renditions, renditions}
use Rattle.ansi_str_search.specs.Matches.{split_bounds, styled_parts, text_parts}
use Rattle.ansi_str_search.proofs.AllParts.{strip-styled_parts, styled_parts-without_escape}
use Rattle.ansi_str_search.proofs.Parts.{style_by-text}
use Rattle.ansi_str_search.proofs.PlainParts.{end_bytes-plain, start_bytes-plain}
use Rattle.ansi_str_search.proofs.Starts.{end-shows, start-shows}
use Rattle.ansi_str_search.proofs.Utf8.{EachUtf8-renditions, IsUtf8-joined}
use Rattle.ansi_str_search.proofs.TextLemmas.Stripping.{strip-without_escape}
use Rattle.ansi_str_search.proofs.TextLemmas.Utf8Pieces.{IsUtf8-shown_text}
use Rattle.grid_config_values.specs.declared.position.Position.{Position}
use Rattle.grid_records_measure.specs.Cutting.{lacking, replacement}
use Rattle.grid_records_measure.specs.Filling.{behind_front, fitting_front}
use Rattle.grid_records_measure.specs.Measures.{cost, measure}
use Rattle.grid_records_measure.specs.TextLines.{is_line_feed, line_feed, line_feed_places, shown_lines, text_height, text_lines, text_width}
use Rattle.grid_records_measure.proofs.TextLines.{line_feeds_match, text_lines-shown}
use Rattle.papergrid_picture.specs.Shown.{BeginsNoSequence, IsTextWithoutEscape, IsWholeText, Styled, character_of, in_plain}
use Rattle.papergrid_picture.proofs.Related.{All-append}
use Rattle.papergrid_picture.proofs.Shown.{All-take, IsClosedPart, BeginsNoSequence-feed, BeginsNoSequence-space, characters-styled, lines-closed_parts, pieces-nothing, styled_of, take-map}
use Rattle.papergrid_picture.proofs.Stripped.{Leaves-append, Leaves-character, stripped, stripped-plain}
use Rattle.tabled_height.specs.Lines.{first_lines, limited, raised}
use Rattle.tabled_size.specs.declared.dimension.suffix.SuffixLimit.{SuffixLimit}
use Rattle.tabled_size.specs.declared.dimension.suffix.SuffixLimit.TheVariants.{Cut, Ignore, Replace}
use Rattle.tabled_size_wrap.specs.Bytes.{cut_at, wrapped_text}
use Rattle.tabled_width.specs.WrappedOrCut.{wrapping_each, cutting_wider, justifying, one_then_other, wrapping_wider}
use Rattle.tabled_width.specs.Cutting.{SuffixedCut, cut_line, cut_text, kept_characters, last_style, suffix_behind, truncating, without_room}
use Rattle.tabled_width.specs.Filling.{filled_line, filling}
use Rattle.tabled_size_wrap.specs.Cells.Resizing.{Wrap, cut, resized}
use Rattle.tabled_size_wrap.proofs.CellsLemmas.Bridges.{cut-shows_whole, resized-shows}
use Rattle.tabled_size_wrap.proofs.CellsLemmas.CellStripping.{resized-characters, stripped-height, stripped-none, stripped-twice, stripped-width}
use Rattle.tabled_size_wrap.proofs.CellsLemmas.Characters.{same}
use Rattle.tabled_list.proofs.StrippingLemmas.TextsByPlace.{stripped_but}
use Rattle.tabled_list.specs.Stripping.Stripping.{LimitBeginsNoSequence}
use Rattle.tabled_size_wrap.proofs.CellsLemmas.TextsWithoutEscape.{AreFreeTexts, free-cut, free-from, free-none, free-wrapped, pieces-free, plain-whole}
use Rattle.tabled_list.proofs.StrippingLemmas.PassingSteps.{Commutes, IsBlind}

-- a whole text, and what is left of it without its sequences
pub record Alike (text bare : List ℕ) : Type 0 where
  pub whole : IsWholeText text
  pub left : stripped text ≡ bare

Alike-nothing : Alike [] []
Alike-nothing = record { whole = record { utf8 = IsUtf8-nil; whole = subst NoneBroken (sym pieces-nothing) tt }; left = stripped-none }

pub Alike-append : (a c b d : List ℕ) → Alike a b → Alike c d → Alike (a ++ c) (b ++ d)
Alike-append a c b d first second =
    let leaves = Leaves-append a c b d (record { whole = first.whole.whole; left = first.left }) (record { whole = second.whole.whole; left = second.left }) in
    record { whole = record { utf8 = IsUtf8-append a c first.whole.utf8 second.whole.utf8; whole = leaves.whole }; left = leaves.left }

Alike-plain : (text : List ℕ) → IsTextWithoutEscape text → Alike text text
Alike-plain text plain = record { whole = plain-whole text plain; left = strip-without_escape text (pieces text) (ArePiecesOf-pieces text) plain.no_escape }

pub Alike-stripped : (text : List ℕ) → IsWholeText text → Alike text (stripped text)
Alike-stripped text whole = record { whole = whole; left = refl }

Alike-character : (c : ℕ) → BeginsNoSequence c → Alike (encode_utf8_all (c ∷ [])) (encode_utf8_all (c ∷ []))
Alike-character c is =
    let leaves = Leaves-character c is in
    subst (λ (bytes : List ℕ). Alike bytes bytes) (sym (append-nil (encode_utf8 c))) (record { whole = record { utf8 = IsUtf8-encode c is.scalar; whole = leaves.whole }; left = leaves.left })

Alike-feed : Alike (line_feed ∷ []) (line_feed ∷ [])
unfolding encode
Alike-feed = Alike-character line_feed BeginsNoSequence-feed

Alike-repeat : (n : ℕ) (a b : List ℕ) → Alike a b → Alike (repeat n a) (repeat n b)
Alike-repeat zero a b is = Alike-nothing
Alike-repeat (suc n) a b is = Alike-append a (repeat n a) b (repeat n b) is (Alike-repeat n a b is)

Alike-feeds : (n : ℕ) → Alike (replicate n line_feed) (replicate n line_feed)
Alike-feeds zero = Alike-nothing
Alike-feeds (suc n) = Alike-append (line_feed ∷ []) (replicate n line_feed) (line_feed ∷ []) (replicate n line_feed) Alike-feed (Alike-feeds n)

Alike-join : (lines others : List (List ℕ)) → AllZip Alike lines others → Alike (join_with_byte line_feed lines) (join_with_byte line_feed others)
Alike-join [] [] all = Alike-nothing
Alike-join [] (other ∷ others) all = absurd all
Alike-join (line ∷ lines) [] all = absurd all
Alike-join (line ∷ []) (other ∷ []) all = all.0
Alike-join (line ∷ []) (other ∷ more ∷ others) all = absurd all.1
Alike-join (line ∷ next ∷ lines) (other ∷ []) all = absurd all.1
Alike-join (line ∷ next ∷ lines) (other ∷ more ∷ others) all =
    let behind = join_with_byte line_feed (next ∷ lines) in
    let after = join_with_byte line_feed (more ∷ others) in
    Alike-append line (line_feed ∷ behind) other (line_feed ∷ after) all.0 (Alike-append (line_feed ∷ []) behind (line_feed ∷ []) after Alike-feed (Alike-join (next ∷ lines) (more ∷ others) all.1))

-- ---- lines

pub plain-stripped : (text : List ℕ) → IsWholeText text → IsTextWithoutEscape (stripped text)
plain-stripped text whole = record { utf8 = IsUtf8-shown_text text whole.utf8; no_escape = stripped-plain text }

lines-plain : (text : List ℕ) → IsTextWithoutEscape text → text_lines text ≡ shown_lines (pieces text)
unfolding text_lines
lines-plain text plain =
    let ps = pieces text in
    let of_text = ArePiecesOf-pieces text in
    let feed = line_feed ∷ [] in
    let same : strip ps ≡ text = strip-without_escape text ps of_text plain.no_escape in
    let whole : NoneBroken ps = (plain-whole text plain).whole in
    subst (λ (shown : List ℕ). styled_parts ps (split_bounds feed shown (line_feed_places shown)) ≡ text_parts shown (split_bounds feed shown (line_feed_places shown))) (sym same)
    (styled_parts-without_escape feed text ps (line_feed_places text) plain.no_escape of_text (line_feeds_match text))
    ∙ sym (strip-styled_parts feed text ps (line_feed_places (strip ps)) of_text whole (line_feeds_match (strip ps)))
    ∙ text_lines-shown text whole

whole-part : (part : List ℕ) → IsClosedPart part → IsWholeText part
whole-part part closed = record { utf8 = closed.utf8; whole = closed.closed.none_broken }

each-line : (g : List ℕ → List ℕ) → ((line : List ℕ) → IsWholeText line → Alike (g line) (g (stripped line))) → (lines : List (List ℕ)) → AllByRecursion IsClosedPart lines → AllZip Alike (map g lines) (map g (map stripped lines))
each-line g alike [] all = tt
each-line g alike (line ∷ lines) all = (alike line (whole-part line all.0), each-line g alike lines all.1)

lines-alike : (lines : List (List ℕ)) → AllByRecursion IsClosedPart lines → AllZip Alike lines (map stripped lines)
lines-alike [] all = tt
lines-alike (line ∷ lines) all = (Alike-stripped line (whole-part line all.0), lines-alike lines all.1)

pub lines-stripped : (text : List ℕ) → IsWholeText text → text_lines (stripped text) ≡ map stripped (text_lines text)
lines-stripped text whole =
    lines-plain (stripped text) (plain-stripped text whole) ∙ ap (λ (shown : List ℕ). shown_lines_of shown) (stripped-twice text) ∙ sym (text_lines-shown text whole.whole)
  where
    shown_lines_of : List ℕ → List (List ℕ)
    shown_lines_of shown = slice_split is_line_feed shown

-- each line by itself
Alike-lines : (g : List ℕ → List ℕ) → ((line : List ℕ) → IsWholeText line → Alike (g line) (g (stripped line))) → (text : List ℕ) → IsWholeText text
    → Alike (join_with_byte line_feed (map g (text_lines text))) (join_with_byte line_feed (map g (text_lines (stripped text))))
Alike-lines g alike text whole =
    subst (λ (lines : List (List ℕ)). Alike (join_with_byte line_feed (map g (text_lines text))) (join_with_byte line_feed (map g lines))) (sym (lines-stripped text whole))
    (Alike-join (map g (text_lines text)) (map g (map stripped (text_lines text))) (each-line g alike (text_lines text) (lines-closed_parts text whole)))

-- ---- wrapped and cut

pub Alike-wrapped : (width : ℕ) (keep_words : Bool) (text : List ℕ) → IsWholeText text → Alike (wrapped_text width keep_words text) (wrapped_text width keep_words (stripped text))
Alike-wrapped width keep_words text whole =
    let other = wrapped_text width keep_words (stripped text) in
    let plain = plain-stripped text whole in
    record {
      whole = (resized-shows (Wrap width keep_words) text whole).whole;
      left =
          resized-characters (Wrap width keep_words) text whole
          ∙ ap (λ (shown : List ℕ). encode_utf8_all (resized same same (Wrap width keep_words) (chars shown))) (sym (stripped-twice text))
          ∙ sym (resized-characters (Wrap width keep_words) (stripped text) (plain-whole (stripped text) plain))
          ∙ strip-without_escape other (pieces other) (ArePiecesOf-pieces other) (free-none other (free-wrapped width keep_words (stripped text) (free-from (stripped text) (stripped-plain text))));
    }

cut-natural : (width : ℕ) (cell : List Styled) → map character_of (cut character_of in_plain width cell) ≡ cut same same width (map character_of cell)
cut-natural width cell =
    let cs = map character_of cell in
    let kept = fitting_front width 0 cs in
    let marks = replicate (lacking width kept (behind_front width 0 cs)) replacement in
    let cut_by : List ℕ → List ℕ = λ found. take (length (fitting_front width 0 found)) (map character_of cell) ++ map same (replicate (lacking width (fitting_front width 0 found) (behind_front width 0 found)) replacement) in
    map-append character_of (take (length kept) cell) (map in_plain marks)
    ∙ ap (λ (first : List ℕ). first ++ map character_of (map in_plain marks)) (sym (take-map character_of (length kept) cell))
    ∙ ap (λ (rest : List ℕ). take (length kept) (map character_of cell) ++ rest) (map-map character_of in_plain marks)
    ∙ ap cut_by (sym (map-map same character_of cell))

cut-characters : (width : ℕ) (text : List ℕ) → IsWholeText text → stripped (cut_at width text) ≡ encode_utf8_all (cut same same width (chars (stripped text)))
cut-characters width text whole =
    let out = cut_at width text in
    let shows = cut-shows_whole text whole width in
    sym (encodes-chars (stripped out) (IsUtf8-shown_text out shows.whole.utf8))
    ∙ ap encode_utf8_all
    (sym (characters-styled out shows.whole.utf8) ∙ ap (map character_of) shows.shown ∙ cut-natural width (styled_of text) ∙ ap (cut same same width) (characters-styled text whole.utf8))

pub Alike-cut : (width : ℕ) (text : List ℕ) → IsWholeText text → Alike (cut_at width text) (cut_at width (stripped text))
Alike-cut width text whole =
    let other = cut_at width (stripped text) in
    let plain = plain-stripped text whole in
    record {
      whole = (cut-shows_whole text whole width).whole;
      left =
          cut-characters width text whole
          ∙ ap (λ (shown : List ℕ). encode_utf8_all (cut same same width (chars shown))) (sym (stripped-twice text))
          ∙ sym (cut-characters width (stripped text) (plain-whole (stripped text) plain))
          ∙ strip-without_escape other (pieces other) (ArePiecesOf-pieces other) (free-none other (free-cut width (stripped text) (free-from (stripped text) (stripped-plain text))));
    }

-- ---- starts and ends

module _ (style : Attributes) where
  Alike-start : IsRendition style → Alike (start_bytes style) []
  Alike-start is =
      let shows = start-shows style (pieces (start_bytes style)) is (ArePiecesOf-pieces (start_bytes style)) in
      record {
        whole = record {
          utf8 = subst IsUtf8 (joined-renditions (start_sequences style) ∙ sym (start_bytes-sequences style)) (IsUtf8-joined (renditions (start_sequences style)) (EachUtf8-renditions (start_sequences style) (start_sequences_are_read style is)));
          whole = shows.1;
        };
        left = shows.0;
      }

  Alike-end : Alike (end_bytes style) []
  Alike-end =
      let shows = end-shows style (pieces (end_bytes style)) (ArePiecesOf-pieces (end_bytes style)) in
      record {
        whole = record {
          utf8 = subst IsUtf8 (joined-renditions (end_sequences style) ∙ sym (end_bytes-sequences style)) (IsUtf8-joined (renditions (end_sequences style)) (EachUtf8-renditions (end_sequences style) (end_sequences_are_read style)));
          whole = shows.1;
        };
        left = shows.0;
      }

-- ---- the style of the last character

abbrev HasRendition : Styled → Type 0
HasRendition x = IsRendition x.1

abbrev HasPlain : Styled → Type 0
HasPlain x = x.1 ≡ plain_attributes

each-styled : (P : Attributes → Type 0) (style : Attributes) (cs : List ℕ) → P style → AllByRecursion (λ (x : Styled). P x.1) (map (λ c. (c, style)) cs)
each-styled P style [] is = tt
each-styled P style (c ∷ cs) is = (is, each-styled P style cs is)

styled-renditions : (style : Attributes) (ps : List Piece) → IsRendition style → AllByRecursion HasRendition (styled_from style ps)
styled-renditions style [] is = tt
styled-renditions style (p ∷ ps) is =
    All-append HasRendition (map (λ c. (c, style)) (chars (text_of p))) (styled_from (style_after style p) ps) (each-styled IsRendition style (chars (text_of p)) is)
    (styled-renditions (style_after style p) ps (IsRendition-after style (p ∷ []) is))

styled-plain : (style : Attributes) (ps : List Piece) → AreFreeTexts ps → style ≡ plain_attributes → AllByRecursion HasPlain (styled_from style ps)
styled-plain style [] all is = tt
styled-plain style (p ∷ ps) all is =
    All-append HasPlain (map (λ c. (c, style)) (chars (text_of p))) (styled_from (style_after style p) ps) (each-styled (λ s. s ≡ plain_attributes) style (chars (text_of p)) is)
    (styled-plain (style_after style p) ps all.1 (style_by-text style p.kind p.bytes all.0.0 ∙ is))

last-style : (P : Attributes → Type 0) (style : Attributes) (xs : List Styled) → P style → AllByRecursion (λ (x : Styled). P x.1) xs → P (last_style style xs)
last-style P style [] is all = is
last-style P style (x ∷ xs) is all = last-style P x.1 xs all.0 all.1

kept-rendition : (width : ℕ) (text : List ℕ) → IsRendition (last_style plain_attributes (kept_characters width text))
kept-rendition width text =
    let n = length (fitting_front width 0 (map (λ x. x.0) (styled (pieces text)))) in
    last-style IsRendition plain_attributes (kept_characters width text) IsRendition-plain (All-take HasRendition n (styled (pieces text)) (styled-renditions plain_attributes (pieces text) IsRendition-plain))

kept-plain : (width : ℕ) (text : List ℕ) → has_escape text ≡ false → last_style plain_attributes (kept_characters width text) ≡ plain_attributes
kept-plain width text gone =
    let n = length (fitting_front width 0 (map (λ x. x.0) (styled (pieces text)))) in
    last-style (λ s. s ≡ plain_attributes) plain_attributes (kept_characters width text) refl
    (All-take HasPlain n (styled (pieces text)) (styled-plain plain_attributes (pieces text) (pieces-free text (free-from text gone)) refl))

-- ---- cut with a suffix

module _ (cutting : SuffixedCut) (plain : IsTextWithoutEscape cutting.suffix) where
  Alike-suffix : (width : ℕ) (text : List ℕ) → IsWholeText text → Alike (suffix_behind cutting width text) (suffix_behind cutting width (stripped text))
  Alike-suffix width text whole = by cutting.try_color
    where
      style : Attributes
      style = last_style plain_attributes (kept_characters width text)

      other : Attributes
      other = last_style plain_attributes (kept_characters width (stripped text))

      is_plain : other ≡ plain_attributes
      is_plain = kept-plain width (stripped text) (stripped-plain text)

      colored : Alike (start_bytes style ++ (cutting.suffix ++ end_bytes style)) (start_bytes other ++ (cutting.suffix ++ end_bytes other))
      colored =
          subst (λ (bytes : List ℕ). Alike (start_bytes style ++ (cutting.suffix ++ end_bytes style)) bytes)
          (ap (λ bytes. bytes ++ (cutting.suffix ++ [])) (sym (ap start_bytes is_plain ∙ start_bytes-plain)) ∙ ap (λ bytes. start_bytes other ++ (cutting.suffix ++ bytes)) (sym (ap end_bytes is_plain ∙ end_bytes-plain)))
          (Alike-append (start_bytes style) (cutting.suffix ++ end_bytes style) [] (cutting.suffix ++ []) (Alike-start style (kept-rendition width text))
          (Alike-append cutting.suffix (end_bytes style) cutting.suffix [] (Alike-plain cutting.suffix plain) (Alike-end style)))

      by : (b : Bool) → Alike (if b then start_bytes style ++ (cutting.suffix ++ end_bytes style) else cutting.suffix) (if b then start_bytes other ++ (cutting.suffix ++ end_bytes other) else cutting.suffix)
      by true = colored
      by false = Alike-plain cutting.suffix plain

  Alike-room : (limit : SuffixLimit) → LimitBeginsNoSequence limit → (room : ℕ) (text : List ℕ) → IsWholeText text → Alike (without_room cutting limit room text) (without_room cutting limit room (stripped text))
  Alike-room Cut shown room text whole =
      let same : stripped cutting.suffix ≡ cutting.suffix = (Alike-plain cutting.suffix plain).left in
      subst (λ (bytes : List ℕ). Alike (cut_at room cutting.suffix) (cut_at room bytes)) same (Alike-cut room cutting.suffix (plain-whole cutting.suffix plain))
  Alike-room Ignore shown room text whole = Alike-cut room text whole
  Alike-room (Replace c) shown room text whole =
      let char = encode_utf8_all (c ∷ []) in
      let mark = encode_utf8_all (replacement ∷ []) in
      let n = room / cost c in
      let m = room - room / cost c * cost c in
      Alike-append (repeat n char) (repeat m mark) (repeat n char) (repeat m mark) (Alike-repeat n char char (Alike-character c shown)) (Alike-repeat m mark mark (Alike-character replacement shown-mark))
    where
      shown-mark : BeginsNoSequence replacement
      shown-mark = record { scalar = refl; no_escape = λ same. cc same }

  module _ (limited : LimitBeginsNoSequence cutting.limit) (room : ℕ) where
    Alike-line : (text : List ℕ) → IsWholeText text → Alike (cut_line cutting room text) (cut_line cutting room (stripped text))
    Alike-line text whole = by (length cutting.suffix == 0) (nat_lt taken room)
      where
        taken : ℕ
        taken = measure (chars (strip (pieces cutting.suffix)))

        by : (b c : Bool) → Alike (if b then cut_at room text else if c then cut_at (room - taken) text ++ suffix_behind cutting (room - taken) text else without_room cutting cutting.limit room text)
            (if b then cut_at room (stripped text) else if c then cut_at (room - taken) (stripped text) ++ suffix_behind cutting (room - taken) (stripped text) else without_room cutting cutting.limit room (stripped text))
        by true c = Alike-cut room text whole
        by false true =
            Alike-append (cut_at (room - taken) text) (suffix_behind cutting (room - taken) text) (cut_at (room - taken) (stripped text)) (suffix_behind cutting (room - taken) (stripped text)) (Alike-cut (room - taken) text whole)
            (Alike-suffix (room - taken) text whole)
        by false false = Alike-room cutting.limit limited room text whole

    pub Alike-text : (text : List ℕ) → IsWholeText text → Alike (cut_text cutting room text) (cut_text cutting room (stripped text))
    Alike-text text whole = by cutting.multiline
      where
        by : (b : Bool) → Alike (if b then join_with_byte line_feed (map (cut_line cutting room) (text_lines text)) else cut_line cutting room text)
            (if b then join_with_byte line_feed (map (cut_line cutting room) (text_lines (stripped text))) else cut_line cutting room (stripped text))
        by true = Alike-lines (cut_line cutting room) Alike-line text whole
        by false = Alike-line text whole

-- ---- changes

-- of a text with sequences and without the same becomes
pub record PassesThrough (change : List ℕ → Option (List ℕ)) : Type 0 where
  pub same_change : (text : List ℕ) → IsWholeText text → change (stripped text) ≡ option_map stripped (change text)
  pub whole_change : (text : List ℕ) → IsWholeText text → IfSome (change text) IsWholeText

tested : (b : Bool) (x y : List ℕ) → Alike x y → ((if b then Some y else None) ≡ option_map stripped (if b then Some x else None)) × IfSome (if b then Some x else None) IsWholeText
tested true x y is = (ap Some (sym is.left), is.whole)
tested false x y is = (refl, tt)

-- a change that is tested by the width of the text
by-width : (test : ℕ → Bool) (g : List ℕ → List ℕ) → ((text : List ℕ) → IsWholeText text → Alike (g text) (g (stripped text))) → PassesThrough (λ text. if test (text_width text) then Some (g text) else None)
by-width test g alike = record {
  same_change = λ text whole. ap (λ n. if test n then Some (g (stripped text)) else None) (stripped-width text) ∙ (tested (test (text_width text)) (g text) (g (stripped text)) (alike text whole)).0;
  whole_change = λ text whole. (tested (test (text_width text)) (g text) (g (stripped text)) (alike text whole)).1;
}

pub wrapping_each-passes : (keep_words : Bool) (width : ℕ) → PassesThrough (wrapping_each keep_words width)
wrapping_each-passes keep_words width = record {
  same_change = λ text whole. ap Some (sym (Alike-wrapped width keep_words text whole).left);
  whole_change = λ text whole. (Alike-wrapped width keep_words text whole).whole;
}

pub wrapping-passes : (keep_words : Bool) (width : ℕ) → PassesThrough (wrapping_wider keep_words width)
wrapping-passes keep_words width = by-width (λ n. nat_lt width n) (wrapped_text width keep_words) (Alike-wrapped width keep_words)

pub cutting-passes : (width : ℕ) → PassesThrough (cutting_wider width)
cutting-passes width = by-width (λ n. nat_lt width n) (cut_at width) (Alike-cut width)

pub truncating-passes : (cutting : SuffixedCut) → IsTextWithoutEscape cutting.suffix → LimitBeginsNoSequence cutting.limit → (room : ℕ) → PassesThrough (truncating cutting room)
truncating-passes cutting plain limited room = by-width (λ n. nat_lt room n) (cut_text cutting room) (Alike-text cutting plain limited room)

Alike-filled : (width fill : ℕ) → BeginsNoSequence fill → (line : List ℕ) → IsWholeText line → Alike (filled_line width fill line) (filled_line width fill (stripped line))
Alike-filled width fill shown line whole =
    let char = encode_utf8_all (fill ∷ []) in
    let n = width - measure (chars (stripped line)) in
    subst (λ (text : List ℕ). Alike (filled_line width fill line) (stripped line ++ repeat (width - measure (chars text)) char)) (sym (stripped-twice line))
    (Alike-append line (repeat n char) (stripped line) (repeat n char) (Alike-stripped line whole) (Alike-repeat n char char (Alike-character fill shown)))

pub filling-passes : (fill : ℕ) → BeginsNoSequence fill → (width : ℕ) → PassesThrough (filling fill width)
filling-passes fill shown width =
    by-width (λ n. nat_lt n width) (λ text. join_with_byte line_feed (map (filled_line width fill) (text_lines text))) (Alike-lines (filled_line width fill) (Alike-filled width fill shown))

module _ (first second : List ℕ → Option (List ℕ)) (one : PassesThrough first) (two : PassesThrough second) where
  left-or : (o : Option (List ℕ)) (text : List ℕ) → unwrap_or (option_map stripped o) (stripped text) ≡ stripped (unwrap_or o text)
  left-or None text = refl
  left-or (Some x) text = refl

  whole-or : (o : Option (List ℕ)) (text : List ℕ) → IsWholeText text → IfSome o IsWholeText → IsWholeText (unwrap_or o text)
  whole-or None text whole is = whole
  whole-or (Some x) text whole is = is

  either : (a b : Option (List ℕ)) → option_or (option_map stripped a) (option_map stripped b) ≡ option_map stripped (option_or a b)
  either None b = refl
  either (Some x) b = refl

  whole-either : (a b : Option (List ℕ)) → IfSome a IsWholeText → IfSome b IsWholeText → IfSome (option_or a b) IsWholeText
  whole-either None b is bs = bs
  whole-either (Some x) b is bs = is

  pub both-pass : PassesThrough (one_then_other first second)
  both-pass = record {
    same_change = λ text whole.
        let middle = unwrap_or (first text) text in
        ap (λ (found : Option (List ℕ)). option_or (second (unwrap_or found (stripped text))) found) (one.same_change text whole)
        ∙ ap (λ (found : List ℕ). option_or (second found) (option_map stripped (first text))) (left-or (first text) text)
        ∙ ap (λ (found : Option (List ℕ)). option_or found (option_map stripped (first text))) (two.same_change middle (whole-or (first text) text whole (one.whole_change text whole)))
        ∙ either (second middle) (first text);
    whole_change = λ text whole.
        let middle = unwrap_or (first text) text in
        whole-either (second middle) (first text) (two.whole_change middle (whole-or (first text) text whole (one.whole_change text whole))) (one.whole_change text whole);
  }

pub justifying-passes : (width : ℕ) → PassesThrough (justifying width)
justifying-passes width = both-pass (filling 0x20 width) (cutting_wider width) (filling-passes 0x20 BeginsNoSequence-space width) (cutting-passes width)

module _ (height : ℕ) (place : Position) where
  abbrev raised_text : ℕ → List ℕ → List ℕ
  raised_text n text = text ++ replicate (height - n) line_feed

  pub raised-passes : PassesThrough (raised height place)
  raised-passes =
      let alike : (text : List ℕ) → IsWholeText text → Alike (raised_text (text_height text) text) (raised_text (text_height text) (stripped text)) =
      λ text whole. let n = height - text_height text in Alike-append text (replicate n line_feed) (stripped text) (replicate n line_feed) (Alike-stripped text whole) (Alike-feeds n) in
      record {
        same_change = λ text whole.
            ap (λ n. if nat_lt n height then Some (raised_text n (stripped text)) else None) (stripped-height text)
            ∙ (tested (nat_lt (text_height text) height) (raised_text (text_height text) text) (raised_text (text_height text) (stripped text)) (alike text whole)).0;
        whole_change = λ text whole. (tested (nat_lt (text_height text) height) (raised_text (text_height text) text) (raised_text (text_height text) (stripped text)) (alike text whole)).1;
      }

  Alike-first : (text : List ℕ) → IsWholeText text → Alike (first_lines height text) (first_lines height (stripped text))
  Alike-first text whole =
      let lines = take height (text_lines text) in
      subst (λ (others : List (List ℕ)). Alike (first_lines height text) (join_with_byte line_feed others)) (sym (ap (take height) (lines-stripped text whole) ∙ take-map stripped height (text_lines text)))
      (Alike-join lines (map stripped lines) (lines-alike lines (All-take IsClosedPart height (text_lines text) (lines-closed_parts text whole))))

  pub limited-passes : PassesThrough (limited height place)
  limited-passes = record {
    same_change = λ text whole.
        ap (λ n. if nat_lt height n then Some (first_lines height (stripped text)) else None) (stripped-height text)
        ∙ (tested (nat_lt height (text_height text)) (first_lines height text) (first_lines height (stripped text)) (Alike-first text whole)).0;
    whole_change = λ text whole. (tested (nat_lt height (text_height text)) (first_lines height text) (first_lines height (stripped text)) (Alike-first text whole)).1;
  }

-- ---- at the places that are not kept

module _ (keep : Position → Bool) where
  pub blind-stripped : IsBlind (stripped_but keep)
  blind-stripped = record { none = λ p. none (keep p); wide = λ p text. wide (keep p) text; high = λ p text. high (keep p) text }
    where
      none : (b : Bool) → (if b then [] else stripped []) ≡ []
      none true = refl
      none false = stripped-none

      wide : (b : Bool) (text : List ℕ) → text_width (if b then text else stripped text) ≡ text_width text
      wide true text = refl
      wide false text = stripped-width text

      high : (b : Bool) (text : List ℕ) → text_height (if b then text else stripped text) ≡ text_height text
      high true text = refl
      high false text = stripped-height text

  option-same : (o : Option (List ℕ)) → o ≡ option_map (λ text. text) o
  option-same None = refl
  option-same (Some text) = refl

  pub commutes-stripped : (change : Position → List ℕ → Option (List ℕ)) → ((p : Position) → PassesThrough (change p)) → Commutes (stripped_but keep) blind-stripped change
  commutes-stripped change passes = record { same = λ p text whole. by p text whole (keep p); stays = λ p text whole. (passes p).whole_change text whole }
    where
      by : (p : Position) (text : List ℕ) → IsWholeText text → (b : Bool) → change p (if b then text else stripped text) ≡ option_map (λ found. if b then found else stripped found) (change p text)
      by p text whole true = option-same (change p text)
      by p text whole false = (passes p).same_change text whole
