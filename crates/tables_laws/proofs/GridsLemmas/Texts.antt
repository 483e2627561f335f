-- The lines of texts of a class, trimmed or not, and texts one after the other.
use Rattle.std.proofs.Common.{◌≡◌, ◌&&◌, ◌||◌, ℕ, Bool, true, List, [], ◌∷◌, ◌++◌, map, refl, ap, sym, subst, ◌∙◌}
use Rattle.std.specs.Prelude.{chars, encode_utf8}
use Rattle.std.specs.List.{AllByRecursion, list_all, slice_split}
use Rattle.std.specs.Str.{drop_trailing_whitespace, skip_leading_whitespace}
use Rattle.std.proofs.lemmas.List.Folds.{list_all-append}
use Rattle.std.proofs.lemmas.Simd.{map-map}
use Rattle.std.proofs.lemmas.Str.{IsUtf8-append, IsUtf8-encode, IsUtf8-nil, chars-append, chars-nil}
use Rattle.ansi_scan.specs.Sequences.{NoneBroken}
use Rattle.ansi_str.specs.Characters.{shown_chars}
use Rattle.ansi_str_search.specs.Text.StyledText.{strip}
use Rattle.ansi_str_search.proofs.TextLemmas.Utf8Pieces.{IsUtf8-shown_text}
use Rattle.grid_records_measure.specs.TextLines.{is_line_feed, text_lines}
use Rattle.grid_records_measure.specs.Trimming.{trimmed}
use Rattle.papergrid_picture.specs.Shown.{BeginsNoSequence, character_of}
use Rattle.papergrid_picture.proofs.Items.{slice_split-map}
use Rattle.papergrid_picture.proofs.Shown.{IsClosedPart, characters-styled, chars-one, lines-closed_parts, lines-styled, map-same, pieces-nothing, styled_of}
use Rattle.papergrid_picture.proofs.Stripped.{Leaves-append, Leaves-character, stripped}
use Rattle.papergrid_picture.proofs.Widths.{chars-trim, drop-plain, shown-trimmed, skip-plain}
use Rattle.tables_laws.specs.Grids.TextsOf.{IsTextOf}
use Rattle.tables_laws.proofs.GridsLemmas.Lists.{all-from, all-test, list_all-weaker, or-feed, split-of}

-- ---- trimmed bytes

pub trimmed-characters : (part : List ℕ) → IsClosedPart part → shown_chars (trimmed part) ≡ drop_trailing_whitespace (skip_leading_whitespace (shown_chars part))
trimmed-characters part closed = ap chars (shown-trimmed part closed) ∙ chars-trim (stripped part) (IsUtf8-shown_text part closed.utf8)

module _ (p : ℕ → Bool) where
  -- ---- a text of nothing, and two texts as one

  pub nothing-of : IsTextOf p []
  nothing-of = record {
    whole = record { utf8 = IsUtf8-nil; whole = subst NoneBroken (sym pieces-nothing) tt };
    shown = ap (λ ps. list_all (λ c. p c || is_line_feed c) (chars (strip ps))) pieces-nothing ∙ ap (list_all (λ c. p c || is_line_feed c)) chars-nil;
  }

  pub append-of : (a b : List ℕ) → IsTextOf p a → IsTextOf p b → IsTextOf p (a ++ b)
  append-of a b first second =
      let both = Leaves-append a b (stripped a) (stripped b) (record { whole = first.whole.whole; left = refl }) (record { whole = second.whole.whole; left = refl }) in
      let test : ℕ → Bool = λ c. p c || is_line_feed c in
      record {
        whole = record { utf8 = IsUtf8-append a b first.whole.utf8 second.whole.utf8; whole = both.whole };
        shown =
            ap (λ bytes. list_all test (chars bytes)) both.left
            ∙ ap (list_all test) (chars-append (stripped a) (stripped b) (IsUtf8-shown_text a first.whole.utf8))
            ∙ list_all-append test (shown_chars a) (shown_chars b)
            ∙ ap (λ all. all && list_all test (shown_chars b)) first.shown
            ∙ second.shown;
      }

  pub character-of : (c : ℕ) → BeginsNoSequence c → (p c || is_line_feed c) ≡ true → IsTextOf p (encode_utf8 c)
  character-of c begins inside =
      let left = Leaves-character c begins in
      record {
        whole = record { utf8 = IsUtf8-encode c begins.scalar; whole = left.whole };
        shown =
            ap (λ bytes. list_all (λ c. p c || is_line_feed c) (chars bytes)) left.left ∙ ap (list_all (λ c. p c || is_line_feed c)) (chars-one c begins.scalar)
            ∙ ap (λ b. b && true) inside;
      }

  -- a closed line of the class
  pub line-text : (part : List ℕ) → IsClosedPart part → list_all p (shown_chars part) ≡ true → IsTextOf p part
  line-text part closed all = record {
    whole = record { utf8 = closed.utf8; whole = closed.closed.none_broken };
    shown = list_all-weaker p (λ c. p c || is_line_feed c) (or-feed p) (shown_chars part) all;
  }

  -- ---- lines

  abbrev pub IsPartOf : List ℕ → Type 0
  IsPartOf part = list_all p (shown_chars part) ≡ true

  module _ (text : List ℕ) (is : IsTextOf p text) where
    lines-of_characters : map (λ part. chars (stripped part)) (text_lines text) ≡ slice_split is_line_feed (shown_chars text)
    lines-of_characters =
        map-same IsClosedPart (λ part. chars (stripped part)) (λ part. map character_of (styled_of part)) (λ part closed. sym (characters-styled part closed.utf8)) (text_lines text) (lines-closed_parts text is.whole)
        ∙ sym (map-map (map character_of) styled_of (text_lines text))
        ∙ ap (map (map character_of)) (lines-styled text is.whole)
        ∙ sym (slice_split-map character_of is_line_feed (styled_of text))
        ∙ ap (slice_split is_line_feed) (characters-styled text is.whole.utf8)

    tested : (parts : List (List ℕ)) → AllByRecursion (λ cs. AllByRecursion (λ c. p c ≡ true) cs) (map (λ part. chars (stripped part)) parts) → AllByRecursion IsPartOf parts
    tested [] all = tt
    tested (part ∷ parts) all = (all-test p (shown_chars part) all.0, tested parts all.1)

    pub parts-of_text : AllByRecursion IsPartOf (text_lines text)
    parts-of_text =
        tested (text_lines text)
        (subst (λ (lines : List (List ℕ)). AllByRecursion (λ cs. AllByRecursion (λ c. p c ≡ true) cs) lines) (sym lines-of_characters)
        (split-of p (shown_chars text) (all-from (λ c. p c || is_line_feed c) (shown_chars text) is.shown)))

  -- ---- trimmed

  pub trimmed-of : (part : List ℕ) → IsClosedPart part → IsPartOf part → IsPartOf (trimmed part)
  trimmed-of part closed all =
      let front = skip_leading_whitespace (shown_chars part) in
      ap (list_all p) (trimmed-characters part closed) ∙ drop-plain p front (skip-plain p (shown_chars part) all)
