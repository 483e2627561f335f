-- What the lines measure that printable ASCII is wrapped into, while they are written.
use Rattle.std.proofs.Common.{◌≡◌, ◌≤◌, ◌<◌, ℕ, ◌+◌, ◌==◌, ◌||◌, false, true, max, List, [], ◌∷◌, ◌++◌, length, take, drop, refl, ap, sym, ◌∙◌, arith, append_assoc}
use Rattle.std.specs.Int.{is_in_range}
use Rattle.std.specs.List.{slice_split}
use Rattle.std.proofs.lemmas.Bool.{and_parts}
use Rattle.std.proofs.lemmas.List.{length-take-le, take-append-drop}
use Rattle.std.proofs.lemmas.List.Folds.{list_all-append, list_any-append}
use Rattle.std.proofs.lemmas.List.Splits.{slice_split_at, slice_split_none}
use Rattle.ansi_scan.specs.Sequences.{escape}
use Rattle.ansi_str.specs.StyledText.{has_escape}
use Rattle.ansi_str_search.proofs.TextLemmas.Stripping.{strip-without_escape}
use Rattle.grid_records_measure.specs.Measures.{are_printable}
use Rattle.grid_records_measure.specs.TextLines.{is_line_feed, line_feed, line_measure, widest}
use Rattle.grid_records_measure.proofs.PrintableWidth.{measure-printable}
use Rattle.tabled_size_wrap.specs.Measured.{HasColumns, HasLines}
use Rattle.tabled_size_wrap.proofs.Printable.{printable-feeds, printable-no_escape}

abbrev parts : List ℕ → List (List ℕ)
parts text = slice_split is_line_feed text

-- of a text that begins so, and goes on in any way, this is known: how many lines it has, and what the widest measures
pub record IsCounted (out : List ℕ) (lines columns : ℕ) : Type 0 where
  pub plain : has_escape out ≡ false
  pub height : (behind : List ℕ) → length (parts (out ++ behind)) + 1 ≡ lines + length (parts behind)
  pub width : (behind : List ℕ) → widest (parts (out ++ behind)) ≡ max columns (widest (parts behind))

pub IsCounted-start : (out : List ℕ) → out ≡ [] → IsCounted out 1 0
IsCounted-start out none = record {
  plain = ap has_escape none;
  height = λ behind. let same = ap (λ (front : List ℕ). length (parts (front ++ behind))) none in omega (arith, same);
  width = λ behind. let same = ap (λ (front : List ℕ). widest (parts (front ++ behind))) none in omega (arith, same);
}

none-both : (xs ys : List ℕ) → has_escape xs ≡ false → has_escape ys ≡ false → has_escape (xs ++ ys) ≡ false
none-both xs ys first second = list_any-append (λ b. b == escape) xs ys ∙ ap (λ b. b || has_escape ys) first ∙ second

printable-take : (n : ℕ) (bytes : List ℕ) → are_printable bytes ≡ true → are_printable (take n bytes) ≡ true
printable-take n bytes h =
    (and_parts (are_printable (take n bytes)) (are_printable (drop n bytes))
    (sym (list_all-append (is_in_range 0x20 0x7E) (take n bytes) (drop n bytes)) ∙ ap are_printable (take-append-drop n bytes) ∙ h)).0

-- so it is with a full line more
module _ (out rest written : List ℕ) (width lines columns : ℕ) (counted : IsCounted out lines columns) (printable : are_printable rest ≡ true) (less : columns ≤ width) (more : width < length rest)
    (is : written ≡ (out ++ take width rest) ++ line_feed ∷ []) where
  abbrev line : List ℕ
  line = take width rest

  printable-line : are_printable line ≡ true
  printable-line = printable-take width rest printable

  long : length line ≡ width
  long = length-take-le width rest (omega (arith, more))

  measures : line_measure line ≡ width
  measures = measure-printable line printable-line ∙ long

  all : (behind : List ℕ) → written ++ behind ≡ out ++ (line ++ line_feed ∷ behind)
  all behind = ap (λ (front : List ℕ). front ++ behind) is ∙ append_assoc (out ++ line) (line_feed ∷ []) behind ∙ append_assoc out line (line_feed ∷ behind)

  split : (behind : List ℕ) → parts (line ++ line_feed ∷ behind) ≡ line ∷ parts behind
  split behind = slice_split_at is_line_feed line line_feed behind (printable-feeds line printable-line) refl

  pub IsCounted-more : IsCounted written (lines + 1) width
  IsCounted-more = record {
    plain = ap has_escape is ∙ none-both (out ++ line) (line_feed ∷ []) (none-both out line counted.plain (printable-no_escape line printable-line)) refl;
    height = λ behind.
        let same = ap (λ (text : List ℕ). length (parts text)) (all behind) in
        let one = ap length (split behind) in
        omega (arith, same, one, counted.height (line ++ line_feed ∷ behind));
    width = λ behind.
        let same = ap (λ (text : List ℕ). widest (parts text)) (all behind) in
        let one = ap widest (split behind) in
        omega (arith, same, one, measures, less, counted.width (line ++ line_feed ∷ behind));
  }

-- and with what is left, after which nothing comes
module _ (out rest written : List ℕ) (lines columns : ℕ) (counted : IsCounted out lines columns) (printable : are_printable rest ≡ true) (is : written ≡ out ++ rest) where
  plain : has_escape written ≡ false
  plain = ap has_escape is ∙ none-both out rest counted.plain (printable-no_escape rest printable)

  one : parts rest ≡ rest ∷ []
  one = slice_split_none is_line_feed rest (printable-feeds rest printable)

  pub IsCounted-lines : HasLines written lines
  IsCounted-lines = λ ps of_text.
      let shown = ap (λ (text : List ℕ). length (parts text)) (strip-without_escape written ps of_text plain) in
      let same = ap (λ (text : List ℕ). length (parts text)) is in
      let last = ap length one in
      omega (arith, shown, same, last, counted.height rest)

  pub IsCounted-columns : HasColumns written (max columns (length rest))
  IsCounted-columns = λ ps of_text.
      let shown = ap (λ (text : List ℕ). widest (parts text)) (strip-without_escape written ps of_text plain) in
      let same = ap (λ (text : List ℕ). widest (parts text)) is in
      let last = ap widest one in
      omega (arith, shown, same, last, measure-printable rest printable, counted.width rest)
