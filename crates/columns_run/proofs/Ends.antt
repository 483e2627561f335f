-- The walk to the end of a cell.
use Rattle.std.proofs.Common.{◌≡◌, ℕ, ◌+◌, ◌<◌, ◌≤◌, ◌==◌, ◌&&◌, Bool, true, false, not, List, [], ◌∷◌, ◌++◌, length, take, drop, refl, ap, sym, subst, ◌∙◌, arith, eqb-true, get_or}
use Rattle.std.specs.List.{prefix_len, list_all}
use Rattle.std.specs.Cmp.Derive.{both_true}
use Rattle.std.proofs.lemmas.Bool.{and_parts}
use Rattle.std.proofs.lemmas.Bool.Decides.{nat_tests}
use Rattle.std.proofs.lemmas.List.{length-take, take-append-drop}
use Rattle.std.proofs.lemmas.List.Sums.{prefix_len-le-length, prefix_len_stops}
use Rattle.std.proofs.lemmas.Str.{IsCharBoundary-end, IsCharBoundary-before_ascii}
use Rattle.std.specs.Str.{IsCharBoundary}
use Rattle.ansi_scan.specs.Sequences.{escape, is_not_escape}
use Rattle.ansi_scan.specs.Pieces.{pieces, text_len}
use Rattle.ansi_scan.specs.Attributes.{Attributes}
use Rattle.ansi_scan.proofs.Uniqueness.{pieces-joined}
use Rattle.ansi_scan.proofs.Runs.{prefix_len-pass, prefix_len-fail, list_all-take_run, prefix_len-drop_run}
use Rattle.ansi_str_search.specs.Text.StyledText.{strip, style_after_all}
use Rattle.ansi_str_search.specs.Parts.{from_place, before_place, through_place}
use Rattle.ansi_str_search.specs.Walking.{from_text, begins_with_escape, AreFirstAndRest}
use Rattle.ansi_str_search.proofs.Landing.{sequence-place, sequence-style}
use Rattle.ansi_str_search.proofs.PiecesAtPlaces.{from-none, strip-from}
use Rattle.ansi_str_search.proofs.PlaceSums.{from-from, style-before_sum, style-through_split}
use Rattle.ansi_str_search.proofs.Walks.{from-plain, style-plain, take-strip, strip-sequence, at_text}
use Rattle.columns_run.specs.Rows.{line_feed, tab, stripped}
use Rattle.columns_run.specs.Ends.{is_cell_byte, is_cell_text, cell_size, EndsCell}

-- the same place is reached from both
pub record SameEnd (rest : List ℕ) (style : Attributes) (text : List ℕ) (text_style : Attributes) : Type 0 where
  pub there : from_text (from_place (cell_size rest) (pieces rest)) ≡ from_text (from_place (cell_size text) (pieces text))
  pub known : style_after_all style (through_place (cell_size rest) (pieces rest)) ≡ style_after_all text_style (through_place (cell_size text) (pieces text))

-- ---- over bytes of a cell

-- a run of bytes goes on after bytes that are of it
prefix_len-behind : (p : ℕ → Bool) (xs ys : List ℕ) → list_all p xs ≡ true → prefix_len p (xs ++ ys) ≡ length xs + prefix_len p ys
prefix_len-behind p [] ys each = omega arith
prefix_len-behind p (x ∷ xs) ys each =
    let parts = and_parts (p x) (list_all p xs) each in
    let one = prefix_len-pass p x (xs ++ ys) parts.0 in
    let others = prefix_len-behind p xs ys parts.1 in
    omega (arith, one, others)

cell_bytes : (xs : List ℕ) → list_all is_cell_text xs ≡ true → list_all is_cell_byte xs ≡ true
cell_bytes [] each = refl
cell_bytes (x ∷ xs) each =
    let parts = and_parts (is_cell_text x) (list_all is_cell_text xs) each in
    both_true (and_parts (is_not_escape x) (is_cell_byte x) parts.0).1 (cell_bytes xs parts.1)

run_tests : (x : ℕ) (xs : List ℕ) (plain other : Bool) → is_not_escape x ≡ plain → is_cell_text x ≡ other → prefix_len is_cell_text xs ≤ prefix_len is_not_escape xs → prefix_len is_cell_text (x ∷ xs) ≤ prefix_len is_not_escape (x ∷ xs)
run_tests x xs plain false e f others = let none = prefix_len-fail is_cell_text x xs f in omega (arith, none)
run_tests x xs true true e f others =
    let here = prefix_len-pass is_cell_text x xs f in
    let all = prefix_len-pass is_not_escape x xs e in
    omega (arith, here, all, others)
run_tests x xs false true e f others = let both : true ≡ false = sym f ∙ ap (λ t. t && is_cell_byte x) e in cc both

cell_run : (t : List ℕ) → prefix_len is_cell_text t ≤ text_len t
cell_run [] = omega arith
cell_run (x ∷ xs) = run_tests x xs (is_not_escape x) (is_cell_text x) refl refl (cell_run xs)

stop_tests : (b : ℕ) (is_escape is_tab is_feed : Bool) → (b == escape) ≡ is_escape → (b == tab) ≡ is_tab → (b == line_feed) ≡ is_feed → is_cell_text b ≡ false → b < 128
stop_tests b true is_tab is_feed e f g stop = let same = eqb-true b escape e in omega (arith, same)
stop_tests b false true is_feed e f g stop = let same = eqb-true b tab f in omega (arith, same)
stop_tests b false false true e f g stop = let same = eqb-true b line_feed g in omega (arith, same)
stop_tests b false false false e f g stop =
    let both : true ≡ false = sym (ap (λ x. not x && (not (b == tab) && not (b == line_feed))) e ∙ ap (λ x. not x && not (b == line_feed)) f ∙ ap not g) ∙ stop in cc both

module _ (rest : List ℕ) (k : ℕ) (is_run : k ≡ prefix_len is_cell_text rest) where
  pub run-within : k ≤ text_len rest
  run-within = omega (arith, is_run, cell_run rest)

  pub run-fits : k ≤ length rest
  run-fits = omega (arith, is_run, prefix_len-le-length is_cell_text rest)

  run-bytes : list_all is_cell_byte (take k rest) ≡ true
  run-bytes = cell_bytes (take k rest) (ap (λ n. list_all is_cell_text (take n rest)) is_run ∙ list_all-take_run is_cell_text rest)

  parted : stripped rest ≡ take k rest ++ stripped (drop k rest)
  parted =
      sym (take-append-drop k (stripped rest))
      ∙ ap (λ front. front ++ drop k (stripped rest)) (take-strip rest k run-within)
      ∙ ap (λ bytes. take k rest ++ bytes) (sym (strip-from k (pieces rest)) ∙ ap strip (from-plain rest k run-within))

  run-size : cell_size rest ≡ k + cell_size (drop k rest)
  run-size =
      let fits = run-fits in
      let len : length (take k rest) ≡ k = omega (arith, fits, length-take k rest) in
      ap (prefix_len is_cell_byte) parted ∙ prefix_len-behind is_cell_byte (take k rest) (stripped (drop k rest)) run-bytes ∙ ap (λ n. n + cell_size (drop k rest)) len

  run-place : (m : ℕ) → from_place (k + m) (pieces rest) ≡ from_place m (pieces (drop k rest))
  run-place m = from-from k m (pieces rest) ∙ ap (from_place m) (from-plain rest k run-within)

  run-style : (style : Attributes) (m : ℕ) → style_after_all style (through_place (k + m) (pieces rest)) ≡ style_after_all style (through_place m (pieces (drop k rest)))
  run-style style m =
      style-through_split (k + m) style (pieces rest)
      ∙ ap (λ ps. style_after_all (style_after_all style (before_place (k + m) (pieces rest))) (through_place 0 ps)) (run-place m)
      ∙ ap (λ s. style_after_all s (through_place 0 (from_place m (pieces (drop k rest))))) (style-before_sum k m style (pieces rest)
      ∙ ap (λ s. style_after_all s (before_place m (from_place k (pieces rest)))) (style-plain rest k run-within style)
      ∙ ap (λ ps. style_after_all style (before_place m ps)) (from-plain rest k run-within))
      ∙ sym (style-through_split m style (pieces (drop k rest)))

  -- the text can be cut there
  pub run-boundary : IsCharBoundary rest k
  run-boundary = by (k == length rest) refl
    where
      by : (at_end : Bool) → (k == length rest) ≡ at_end → IsCharBoundary rest k
      by true e = subst (IsCharBoundary rest) (sym (eqb-true k (length rest) e)) (IsCharBoundary-end rest)
      by false e =
          let fits = run-fits in
          let some : k < length rest = grind (arith, nat_tests) in
          let inside_run : prefix_len is_cell_text rest < length rest = omega (arith, is_run, some) in
          let b = get_or rest k 0 in
          let stop : is_cell_text b ≡ false = ap (λ n. is_cell_text (get_or rest n 0)) is_run ∙ prefix_len_stops is_cell_text rest 0 inside_run in
          IsCharBoundary-before_ascii rest k some (stop_tests b (b == escape) (b == tab) (b == line_feed) refl refl refl stop)

-- over the bytes of the cell that come first
pub SameEnd-run : (rest left : List ℕ) (style : Attributes) (text : List ℕ) (text_style : Attributes) → left ≡ drop (prefix_len is_cell_text rest) rest
    → SameEnd rest style text text_style → SameEnd left style text text_style
SameEnd-run rest left style text text_style is_left same =
    let k = prefix_len is_cell_text rest in
    subst (λ bytes. SameEnd bytes style text text_style) (sym is_left) (record {
      there = ap from_text (sym (run-place rest k refl (cell_size (drop k rest)))) ∙ ap (λ m. from_text (from_place m (pieces rest))) (sym (run-size rest k refl)) ∙ same.there;
      known = sym (run-style rest k refl style (cell_size (drop k rest))) ∙ ap (λ m. style_after_all style (through_place m (pieces rest))) (sym (run-size rest k refl)) ∙ same.known;
    })

-- after them there are none
pub run_over : (rest left : List ℕ) → left ≡ drop (prefix_len is_cell_text rest) rest → prefix_len is_cell_text left ≡ 0
run_over rest left is_left = ap (prefix_len is_cell_text) is_left ∙ prefix_len-drop_run is_cell_text rest

-- ---- over a sequence

module _ (rest : List ℕ) (style : Attributes) (behind : List ℕ) (after : Attributes) (first_and : AreFirstAndRest style (pieces rest) after (pieces behind)) (gone : text_len rest ≡ 0) where
  same-size : cell_size behind ≡ cell_size rest
  same-size = ap (prefix_len is_cell_byte) (sym (strip-sequence rest behind first_and.first first_and.parted gone))

  pub SameEnd-sequence : (text : List ℕ) (text_style : Attributes) → SameEnd rest style text text_style → SameEnd behind after text text_style
  SameEnd-sequence text text_style same = record {
    there = sym (sequence-place rest style behind after first_and gone (cell_size behind) (cell_size behind == 0) refl) ∙ ap (λ m. from_text (from_place m (pieces rest))) same-size ∙ same.there;
    known = sym (sequence-style rest style behind after first_and gone (cell_size behind)) ∙ ap (λ m. style_after_all style (through_place m (pieces rest))) same-size ∙ same.known;
  }

-- ---- the end

-- what a text shows first, where it begins with no sequence
pub shown_first : (b : ℕ) (bs : List ℕ) → begins_with_escape (b ∷ bs) ≡ false → stripped (b ∷ bs) ≡ b ∷ stripped bs
shown_first b bs plain =
    let some : 1 ≤ text_len (b ∷ bs) = (let one = prefix_len-pass is_not_escape b bs (ap not plain) in omega (arith, one)) in
    sym (take-append-drop 1 (stripped (b ∷ bs)))
    ∙ ap (λ front. front ++ drop 1 (stripped (b ∷ bs))) (take-strip (b ∷ bs) 1 some)
    ∙ ap (λ bytes. b ∷ bytes) (sym (strip-from 1 (pieces (b ∷ bs))) ∙ ap strip (from-plain (b ∷ bs) 1 some))

pub shown_none : stripped [] ≡ []
shown_none = ap strip (pieces-joined [] tt)

other_byte : (b : ℕ) (bs : List ℕ) (text cell : Bool) → begins_with_escape (b ∷ bs) ≡ false → is_cell_text b ≡ text → is_cell_byte b ≡ cell → prefix_len is_cell_text (b ∷ bs) ≡ 0 → is_cell_byte b ≡ false
other_byte b bs true cell plain e f stop = let one = prefix_len-pass is_cell_text b bs e in absurd (omega (arith, one, stop))
other_byte b bs false true plain e f stop = let both : true ≡ false = sym (ap (λ t. not t && is_cell_byte b) plain ∙ f) ∙ e in cc both
other_byte b bs false false plain e f stop = f

-- a text that begins with no byte of a cell
pub size-none : (end : List ℕ) → prefix_len is_cell_text end ≡ 0 → begins_with_escape end ≡ false → cell_size end ≡ 0
size-none [] stop plain = ap (prefix_len is_cell_byte) shown_none
size-none (b ∷ bs) stop plain =
    ap (prefix_len is_cell_byte) (shown_first b bs plain)
    ∙ prefix_len-fail is_cell_byte b (stripped bs) (other_byte b bs (is_cell_text b) (is_cell_byte b) plain refl refl stop)

pub SameEnd-start : (rest left : List ℕ) (style text_style : Attributes) → left ≡ drop (prefix_len is_cell_text rest) rest → style ≡ text_style → SameEnd left style rest text_style
SameEnd-start rest left style text_style is_left known =
    SameEnd-run rest left style rest text_style is_left (record { there = refl; known = ap (λ s. style_after_all s (through_place (cell_size rest) (pieces rest))) known })

pub EndsCell-end : (end : List ℕ) (style : Attributes) (text : List ℕ) (text_style : Attributes) → SameEnd end style text text_style → prefix_len is_cell_text end ≡ 0 → begins_with_escape end ≡ false
    → EndsCell text text_style end style
EndsCell-end end style text text_style same stop plain =
    let here = at_text end style plain in
    let size = size-none end stop plain in
    record {
      there = sym here.0 ∙ ap from_text (sym (from-none (pieces end))) ∙ ap (λ m. from_text (from_place m (pieces end))) (sym size) ∙ same.there;
      known = sym here.1 ∙ ap (λ m. style_after_all style (through_place m (pieces end))) (sym size) ∙ same.known;
      shows_text = plain;
    }
