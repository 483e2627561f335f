-- A walk to the first byte c of what a text shows.
use Rattle.std.proofs.Common.{◌≡◌, ℕ, ◌+◌, ◌-◌, ◌<◌, ◌≤◌, ◌==◌, Bool, true, false, not, List, [], ◌∷◌, ◌++◌, length, take, drop, refl, ap, sym, subst, ◌∙◌, arith, length-append, Option, None, Some, eqb-true, if◌then◌else◌}
use Rattle.std.specs.Prelude.{unwrap_or, is_some, slice_index}
use Rattle.std.specs.Option.{option_map}
use Rattle.std.specs.List.{prefix_len}
use Rattle.std.proofs.lemmas.Bool.Decides.{nat_tests}
use Rattle.std.proofs.lemmas.List.{length-take}
use Rattle.std.proofs.lemmas.List.Sums.{prefix_len_stops}
use Rattle.std.proofs.Math.ListN.{get_or}
use Rattle.ansi_scan.specs.Pieces.{pieces, text_len}
use Rattle.ansi_scan.specs.Attributes.{Attributes}
use Rattle.ansi_scan.proofs.Uniqueness.{pieces-joined}
use Rattle.ansi_scan.proofs.Runs.{prefix_len-drop_run}
use Rattle.ansi_str_search.specs.Text.StyledText.{text_of, strip, style_after, style_after_all}
use Rattle.ansi_str_search.specs.Parts.{from_place, before_place, through_place}
use Rattle.ansi_str_search.specs.PartsLeft.{first_match}
use Rattle.ansi_str_search.specs.Walking.{from_text, begins_with_escape, is_other, AreFirstAndRest, bytes_to, Lands}
use Rattle.ansi_str_search.proofs.Parts.{text_of-sequence}
use Rattle.ansi_str_search.proofs.PiecesAtPlaces.{from-none, through-past}
use Rattle.ansi_str_search.proofs.PlaceSums.{from-from, style-before_sum, style-through_split}
use Rattle.ansi_str_search.proofs.Walks.{from-plain, style-plain, first-sequence, strip-sequence, from-sequence, from_text-sequence, at_text}
use Rattle.ansi_str_search.proofs.Finds.{match-behind_others, match-here, match-nowhere, other_run, other_fits, parted, found_byte}

abbrev found_in : ℕ → List ℕ → Option ℕ
found_in c t = first_match (c ∷ []) 0 (strip (pieces t))

-- the same place is reached from both
pub record SameLanding (c : ℕ) (rest : List ℕ) (style : Attributes) (text : List ℕ) (text_style : Attributes) : Type 0 where
  pub there : from_text (from_place (bytes_to c rest) (pieces rest)) ≡ from_text (from_place (bytes_to c text) (pieces text))
  pub known : style_after_all style (through_place (bytes_to c rest) (pieces rest)) ≡ style_after_all text_style (through_place (bytes_to c text) (pieces text))
  pub found : is_some (found_in c rest) ≡ is_some (found_in c text)

pub SameLanding-start : (c : ℕ) (text : List ℕ) (style : Attributes) → SameLanding c text style text style
SameLanding-start c text style = record { there = refl; known = refl; found = refl }

-- ---- over bytes of text of which none is c

unwrap-map : (k all : ℕ) (o : Option ℕ) → unwrap_or (option_map (λ n. k + n) o) (k + all) ≡ k + unwrap_or o all
unwrap-map k all None = refl
unwrap-map k all (Some n) = refl

some-map : (k : ℕ) (o : Option ℕ) → is_some (option_map (λ n. k + n) o) ≡ is_some o
some-map k None = refl
some-map k (Some n) = refl

-- what comes after bytes of text is the same counted from their end
module _ (rest : List ℕ) (k : ℕ) (within : k ≤ text_len rest) where
  pub place-behind : (m : ℕ) → from_place (k + m) (pieces rest) ≡ from_place m (pieces (drop k rest))
  place-behind m = from-from k m (pieces rest) ∙ ap (from_place m) (from-plain rest k within)

  pub style-behind : (style : Attributes) (m : ℕ) → style_after_all style (through_place (k + m) (pieces rest)) ≡ style_after_all style (through_place m (pieces (drop k rest)))
  style-behind style m =
      style-through_split (k + m) style (pieces rest)
      ∙ ap (λ ps. style_after_all (style_after_all style (before_place (k + m) (pieces rest))) (through_place 0 ps)) (place-behind m)
      ∙ ap (λ s. style_after_all s (through_place 0 (from_place m (pieces (drop k rest))))) (style-before_sum k m style (pieces rest)
      ∙ ap (λ s. style_after_all s (before_place m (from_place k (pieces rest)))) (style-plain rest k within style)
      ∙ ap (λ ps. style_after_all style (before_place m ps)) (from-plain rest k within))
      ∙ sym (style-through_split m style (pieces (drop k rest)))

module _ (c : ℕ) (low : c < 128) (rest : List ℕ) (style : Attributes) (k : ℕ) (is_run : k ≡ prefix_len (is_other c) rest) where
  run-within : k ≤ text_len rest
  run-within = omega (arith, is_run, other_run c rest)

  run-bytes : bytes_to c rest ≡ k + bytes_to c (drop k rest)
  run-bytes =
      let fits = other_fits c low rest k is_run in
      let len : length (strip (pieces rest)) ≡ length (take k rest ++ strip (pieces (drop k rest))) = ap length (parted c low rest k is_run) in
      let all : length (strip (pieces rest)) ≡ k + length (strip (pieces (drop k rest))) = omega (arith, len, length-append (take k rest) (strip (pieces (drop k rest))), length-take k rest, fits) in
      ap (λ o. unwrap_or o (length (strip (pieces rest)))) (match-behind_others c low rest k is_run)
      ∙ ap (λ n. unwrap_or (option_map (λ m. k + m) (found_in c (drop k rest))) n) all
      ∙ unwrap-map k (length (strip (pieces (drop k rest)))) (found_in c (drop k rest))

  pub SameLanding-run : (text : List ℕ) (text_style : Attributes) → SameLanding c rest style text text_style → SameLanding c (drop k rest) style text text_style
  SameLanding-run text text_style same = record {
    there = ap from_text (sym (place-behind rest k run-within (bytes_to c (drop k rest)))) ∙ ap (λ m. from_text (from_place m (pieces rest))) (sym run-bytes) ∙ same.there;
    known = sym (style-behind rest k run-within style (bytes_to c (drop k rest))) ∙ ap (λ m. style_after_all style (through_place m (pieces rest))) (sym run-bytes) ∙ same.known;
    found = sym (some-map k (found_in c (drop k rest))) ∙ ap is_some (sym (match-behind_others c low rest k is_run)) ∙ same.found;
  }

-- ---- over a sequence

-- what comes after a place, and the style there, are the same after a sequence
module _ (rest : List ℕ) (style : Attributes) (behind : List ℕ) (after : Attributes) (parted : AreFirstAndRest style (pieces rest) after (pieces behind)) (gone : text_len rest ≡ 0) where
  pub sequence-place : (m : ℕ) (is_zero : Bool) → (m == 0) ≡ is_zero → from_text (from_place m (pieces rest)) ≡ from_text (from_place m (pieces behind))
  sequence-place m true e =
      let none = eqb-true m 0 e in
      ap (λ n. from_text (from_place n (pieces rest))) none ∙ ap from_text (from-none (pieces rest)) ∙ from_text-sequence rest behind parted.first parted.parted gone
      ∙ ap from_text (sym (from-none (pieces behind))) ∙ ap (λ n. from_text (from_place n (pieces behind))) (sym none)
  sequence-place m false e = let some : 0 < m = grind (arith, nat_tests) in ap from_text (from-sequence rest behind parted.first parted.parted gone m some)

  pub sequence-style : (m : ℕ) → style_after_all style (through_place m (pieces rest)) ≡ style_after_all after (through_place m (pieces behind))
  sequence-style m =
      let len : length (text_of parted.first) ≡ 0 = ap length (text_of-sequence parted.first (first-sequence rest behind parted.first parted.parted gone)) in
      let over : length (text_of parted.first) ≤ m = omega (arith, len) in
      let same : m - length (text_of parted.first) ≡ m = omega (arith, len) in
      ap (λ ps. style_after_all style (through_place m ps)) parted.parted ∙ ap (style_after_all style) (through-past m parted.first (pieces behind) over)
      ∙ ap (λ n. style_after_all (style_after style parted.first) (through_place n (pieces behind))) same
      ∙ ap (λ s. style_after_all s (through_place m (pieces behind))) (sym parted.styled)

module _ (c : ℕ) (rest : List ℕ) (style : Attributes) (behind : List ℕ) (after : Attributes) (parted : AreFirstAndRest style (pieces rest) after (pieces behind)) (gone : text_len rest ≡ 0) where
  same-strip : strip (pieces rest) ≡ strip (pieces behind)
  same-strip = strip-sequence rest behind parted.first parted.parted gone

  same-bytes : bytes_to c behind ≡ bytes_to c rest
  same-bytes = ap (λ bytes. unwrap_or (first_match (c ∷ []) 0 bytes) (length bytes)) (sym same-strip)

  pub SameLanding-sequence : (text : List ℕ) (text_style : Attributes) → SameLanding c rest style text text_style → SameLanding c behind after text text_style
  SameLanding-sequence text text_style same = record {
    there = sym (sequence-place rest style behind after parted gone (bytes_to c behind) (bytes_to c behind == 0) refl) ∙ ap (λ m. from_text (from_place m (pieces rest))) same-bytes ∙ same.there;
    known = sym (sequence-style rest style behind after parted gone (bytes_to c behind)) ∙ ap (λ m. style_after_all style (through_place m (pieces rest))) same-bytes ∙ same.known;
    found = ap (λ bytes. is_some (first_match (c ∷ []) 0 bytes)) (sym same-strip) ∙ same.found;
  }

-- ---- the end

none_is : (o : Option ℕ) → is_some o ≡ false → o ≡ None
none_is None e = refl
none_is (Some n) e = cc e

some_is : (o : Option ℕ) (d : ℕ) → is_some o ≡ true → o ≡ Some (unwrap_or o d)
some_is None d e = cc e
some_is (Some n) d e = refl

-- what is found where the walk ends
record EndsAt (c : ℕ) (end : List ℕ) : Type 0 where
  bytes : bytes_to c end ≡ 0
  some : is_some (found_in c end) ≡ not (length end == 0)
  at : 0 < length end → slice_index end 0 ≡ c

ends_at : (c : ℕ) (end : List ℕ) → c < 128 → prefix_len (is_other c) end ≡ 0 → begins_with_escape end ≡ false → EndsAt c end
ends_at c [] low stop plain =
    let none = match-nowhere c [] refl in
    record {
      bytes = ap (λ o. unwrap_or o (length (strip (pieces [])))) none ∙ ap (λ ps. length (strip ps)) (pieces-joined [] tt);
      some = ap is_some none;
      at = λ some. absurd (omega (arith, some));
    }
ends_at c (b ∷ bs) low stop plain =
    let some : 0 < length (b ∷ bs) = omega arith in
    let here = match-here c (b ∷ bs) low plain stop some in
    let inside_end : prefix_len (is_other c) (b ∷ bs) < length (b ∷ bs) = omega (arith, stop, some) in
    let other : is_other c b ≡ false = ap (λ n. is_other c (get_or (b ∷ bs) n 0)) (sym stop) ∙ prefix_len_stops (is_other c) (b ∷ bs) 0 inside_end in
    let more : length (b ∷ bs) == 0 ≡ false = grind (arith, nat_tests) in
    record {
      bytes = ap (λ o. unwrap_or o (length (strip (pieces (b ∷ bs))))) here;
      some = ap is_some here ∙ ap not (sym more);
      at = λ _. found_byte c (b ∷ bs) b bs (b == c) refl plain other refl;
    }

found-tests : (c : ℕ) (text : List ℕ) (none : Bool) → is_some (found_in c text) ≡ not none → found_in c text ≡ if none then None else Some (bytes_to c text)
found-tests c text true e = none_is (found_in c text) e
found-tests c text false e = some_is (found_in c text) (length (strip (pieces text))) e

pub Lands-end : (c : ℕ) (end : List ℕ) (style : Attributes) (text : List ℕ) (text_style : Attributes) → c < 128 → SameLanding c end style text text_style → prefix_len (is_other c) end ≡ 0 → begins_with_escape end ≡ false
    → Lands c text text_style end style
Lands-end c end style text text_style low same stop plain =
    let here = at_text end style plain in
    let ends = ends_at c end low stop plain in
    record {
      there = sym here.0 ∙ ap from_text (sym (from-none (pieces end))) ∙ ap (λ m. from_text (from_place m (pieces end))) (sym ends.bytes) ∙ same.there;
      known = sym here.1 ∙ ap (λ m. style_after_all style (through_place m (pieces end))) (sym ends.bytes) ∙ same.known;
      found = found-tests c text (length end == 0) (sym same.found ∙ ends.some);
      at = ends.at;
      shows_text = plain;
    }

-- ---- the steps of the walk

-- the same place is reached from the same text
pub SameLanding-same : (c : ℕ) (rest text : List ℕ) (style text_style : Attributes) → rest ≡ text → style ≡ text_style → SameLanding c rest style text text_style
SameLanding-same c rest text style text_style same known =
    subst (λ t. SameLanding c rest style t text_style) same (subst (λ s. SameLanding c rest style rest s) known (SameLanding-start c rest style))

-- after a run there is none
pub run_over : (c : ℕ) (rest left : List ℕ) (k : ℕ) → k ≡ prefix_len (is_other c) rest → left ≡ drop k rest → prefix_len (is_other c) left ≡ 0
run_over c rest left k is_run is_left = ap (prefix_len (is_other c)) is_left ∙ ap (λ n. prefix_len (is_other c) (drop n rest)) is_run ∙ prefix_len-drop_run (is_other c) rest

pub SameLanding-left : (c : ℕ) → c < 128 → (rest left : List ℕ) (style : Attributes) (k : ℕ) → k ≡ prefix_len (is_other c) rest → left ≡ drop k rest → (text : List ℕ) (text_style : Attributes)
    → SameLanding c rest style text text_style → SameLanding c left style text text_style
SameLanding-left c low rest left style k is_run is_left text text_style same =
    subst (λ bytes. SameLanding c bytes style text text_style) (sym is_left) (SameLanding-run c low rest style k is_run text text_style same)
