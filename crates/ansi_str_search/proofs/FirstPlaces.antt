-- The first match, looked for at each character of what a text shows, and the pattern at its end.
use Rattle.std.proofs.Common.{◌≡◌, ℕ, zero, suc, ◌+◌, ◌-◌, ◌<◌, ◌≤◌, nat_lt, Bool, true, false, List, [], ◌∷◌, ◌++◌, length, take, drop, Option, None, Some, refl, ap, sym, subst, ◌∙◌, arith, append-nil, length-append}
use Rattle.std.specs.Option.{option_map}
use Rattle.std.specs.Str.{IsUtf8, IsCharBoundary}
use Rattle.std.proofs.Math.ListN.{get_or}
use Rattle.std.proofs.Math.Seq.{drop-append_seam}
use Rattle.std.proofs.lemmas.Bool.Decides.{nat_tests}
use Rattle.std.proofs.lemmas.List.{length-drop, take-append-drop}
use Rattle.std.proofs.lemmas.Str.{IsCharBoundary-start, IsCharBoundary-at_seam}
use Rattle.ansi_scan.specs.Pieces.{pieces, text_len}
use Rattle.ansi_str_search.specs.Text.StyledText.{strip}
use Rattle.ansi_str_search.specs.Matches.{Occurs, IsFirstMatch}
use Rattle.ansi_str_search.specs.PartsLeft.{begins_with, first_match}
use Rattle.ansi_str_search.specs.Searches.{EndsWith, IsFound}
use Rattle.ansi_str_search.specs.Walking.{begins_with_escape}
use Rattle.ansi_str_search.proofs.FirstMatch.{IsFirstOrNone, first_match-unique, first_match-sound, first_match-is_first, begins_with-sound, begins_with-append, Occurs-on, Occurs-back}
use Rattle.ansi_str_search.proofs.PiecesAtPlaces.{strip-from}
use Rattle.ansi_str_search.proofs.Walks.{from-plain}
use Rattle.ansi_str_search.proofs.Finds.{IsUtf8-shown}
use Rattle.ansi_str_search.proofs.Searches.{begins_with-none_left}

-- ---- the first match

empty_behind : (xs : List ℕ) → length xs ≡ 0 → xs ≡ []
empty_behind [] e = refl
empty_behind (x ∷ xs) e = absurd (omega (arith, e))

-- the pattern is at the start
pub first_match-here : (p text : List ℕ) → IsUtf8 text → begins_with p text ≡ true → first_match p 0 text ≡ Some 0
first_match-here p text utf8 e =
    let front = begins_with-sound p text e in
    first_match-unique p 0 text (Some 0) (record {
      not_before = omega arith;
      occurs = record { behind = front.0; stands = front.1; boundary = IsCharBoundary-start text utf8 };
      first = λ other low less o. absurd (omega (arith, less));
    })

module _ (p text : List ℕ) (other : begins_with p text ≡ false) where
  not_here : ¬ (Occurs p text 0)
  not_here o = let both : true ≡ false = sym (ap (begins_with p) o.stands ∙ begins_with-append p o.behind) ∙ other in cc both

  begins-there : (at : ℕ) → Occurs p text at → Occurs [] text at
  begins-there at o = record { behind = drop at text; stands = refl; boundary = o.boundary }

  -- no character begins after the first
  pub first_match-nowhere : None ≡ first_match [] 1 text → first_match p 0 text ≡ None
  first_match-nowhere e = first_match-unique p 0 text None none
    where
      one : IsFirstOrNone [] text 1 None
      one = subst (IsFirstOrNone [] text 1) (sym e) (first_match-sound [] 1 text)

      none : (at : ℕ) → 0 ≤ at → ¬ (Occurs p text at)
      none zero low o = not_here o
      none (suc i) low o = one (suc i) (omega arith) (begins-there (suc i) o)

  module _ (k : ℕ) (is_first : Some k ≡ first_match [] 1 text) where
    next : IsFirstMatch [] text 1 k
    next = first_match-is_first [] 1 text k (sym is_first)

    fits : k ≤ length text
    fits = next.occurs.boundary.0

    none_before : (at : ℕ) → at < k → ¬ (Occurs p text at)
    none_before zero less o = not_here o
    none_before (suc i) less o = next.first (suc i) (omega arith) less (begins-there (suc i) o)

    back : (at : ℕ) → k ≤ at → Occurs p text at → Occurs p (drop k text) (at - k)
    back at low o = let sum : at ≡ k + (at - k) = omega arith in Occurs-back p text k (at - k) (subst (Occurs p text) sum o)

    none-on : ((i : ℕ) → 0 ≤ i → ¬ (Occurs p (drop k text) i)) → (at : ℕ) (less : Bool) → nat_lt at k ≡ less → ¬ (Occurs p text at)
    none-on none at true e o = none_before at (grind (arith, nat_tests)) o
    none-on none at false e o = let low : k ≤ at = grind (arith, nat_tests) in none (at - k) (omega arith) (back at low o)

    first-on : (m : ℕ) → IsFirstMatch p (drop k text) 0 m → (at : ℕ) (less : Bool) → nat_lt at k ≡ less → at < k + m → ¬ (Occurs p text at)
    first-on m first at true e below o = none_before at (grind (arith, nat_tests)) o
    first-on m first at false e below o = let low : k ≤ at = grind (arith, nat_tests) in first.first (at - k) (omega arith) (omega (arith, low, below)) (back at low o)

    on : (r : Option ℕ) → IsFirstOrNone p (drop k text) 0 r → IsFirstOrNone p text 0 (option_map (λ n. k + n) r)
    on None none = λ at low. none-on none at (nat_lt at k) refl
    on (Some m) first = record {
      not_before = omega arith;
      occurs = Occurs-on p text k m fits first.occurs;
      first = λ at low below. first-on m first at (nat_lt at k) refl below;
    }

    -- the first match comes after the first character
    pub first_match-on : first_match p 0 text ≡ option_map (λ n. k + n) (first_match p 0 (drop k text))
    first_match-on = first_match-unique p 0 text (option_map (λ n. k + n) (first_match p 0 (drop k text))) (on (first_match p 0 (drop k text)) (first_match-sound p 0 (drop k text)))

pub is_found : (p text : List ℕ) (r : Option ℕ) → r ≡ first_match p 0 text → IsFound p text r
is_found p text r e = subst (IsFound p text) (sym e) (found (first_match p 0 text) (first_match-sound p 0 text))
  where
    found : (r : Option ℕ) → IsFirstOrNone p text 0 r → IsFound p text r
    found None none = λ at. none at (omega arith)
    found (Some at) first = first

pub found-empty : (p text : List ℕ) → length p ≡ 0 → IsUtf8 text → IsFirstMatch p text 0 0
found-empty p text none utf8 = first_match-is_first p 0 text 0 (first_match-here p text utf8 (begins_with-none_left p text none))

pub one_byte : (p : List ℕ) → length p ≡ 1 → get_or p 0 0 ∷ [] ≡ p
one_byte [] e = absurd (omega (arith, e))
one_byte (b ∷ bs) e = let none : length bs ≡ 0 = omega (arith, e) in ap (λ others. b ∷ others) (sym (empty_behind bs none))

-- ---- the walk from character to character

-- the first match in the text is that in the rest, once the bytes that were passed are counted
pub record IsFoundLeft (p rest : List ℕ) (passed : ℕ) (text : List ℕ) : Type 0 where
  pub found : option_map (λ n. passed + n) (first_match p 0 (strip (pieces rest))) ≡ first_match p 0 (strip (pieces text))
  pub fits : passed + length (strip (pieces rest)) ≤ length (strip (pieces text))
  pub begins : begins_with_escape rest ≡ false

counted_on : (n k : ℕ) (o : Option ℕ) → option_map (λ m. n + m) (option_map (λ m. k + m) o) ≡ option_map (λ m. n + k + m) o
counted_on n k None = refl
counted_on n k (Some m) = let sum : n + (k + m) ≡ n + k + m = omega arith in ap Some sum

counted_none : (o : Option ℕ) → option_map (λ m. 0 + m) o ≡ o
counted_none None = refl
counted_none (Some m) = let sum : 0 + m ≡ m = omega arith in ap Some sum

pub IsFoundLeft-start : (p rest text : List ℕ) → strip (pieces rest) ≡ strip (pieces text) → begins_with_escape rest ≡ false → IsFoundLeft p rest 0 text
IsFoundLeft-start p rest text shown begins =
    let len : length (strip (pieces rest)) ≡ length (strip (pieces text)) = ap length shown in
    record { found = counted_none (first_match p 0 (strip (pieces rest))) ∙ ap (first_match p 0) shown; fits = omega (arith, len); begins = begins }

module _ (p rest : List ℕ) (passed : ℕ) (text : List ℕ) (left : IsFoundLeft p rest passed text) where
  pub found-here : IsUtf8 rest → begins_with p (strip (pieces rest)) ≡ true → Some passed ≡ first_match p 0 (strip (pieces text))
  found-here utf8 e =
      let none : passed ≡ passed + 0 = omega arith in
      ap Some none ∙ ap (option_map (λ n. passed + n)) (sym (first_match-here p (strip (pieces rest)) (IsUtf8-shown rest utf8) e)) ∙ left.found

  module _ (other : begins_with p (strip (pieces rest)) ≡ false) where
    pub found-nowhere : None ≡ first_match [] 1 (strip (pieces rest)) → None ≡ first_match p 0 (strip (pieces text))
    found-nowhere e = ap (option_map (λ n. passed + n)) (sym (first_match-nowhere p (strip (pieces rest)) other e)) ∙ left.found

    module _ (k : ℕ) (is_first : Some k ≡ first_match [] 1 (strip (pieces rest))) where
      char_fits : (1 ≤ k) × (k ≤ length (strip (pieces rest)))
      char_fits = let first = first_match-is_first [] 1 (strip (pieces rest)) k (sym is_first) in (first.not_before, first.occurs.boundary.0)

      pub char_sum : passed + k ≤ length (strip (pieces text))
      char_sum = let h = char_fits in omega (arith, h.1, left.fits)

    module _ (k : ℕ) (is_first : Some k ≡ first_match [] 1 (strip (pieces rest))) (within : k ≤ text_len rest) (behind : List ℕ) (shown : strip (pieces behind) ≡ strip (pieces (drop k rest))) where
      behind_shown : strip (pieces behind) ≡ drop k (strip (pieces rest))
      behind_shown = shown ∙ ap strip (sym (from-plain rest k within)) ∙ strip-from k (pieces rest)

      pub char_shorter : length (strip (pieces behind)) < length (strip (pieces rest))
      char_shorter =
          let h = char_fits k is_first in
          let len : length (strip (pieces behind)) ≡ length (drop k (strip (pieces rest))) = ap length behind_shown in
          omega (arith, len, h.0, h.1, length-drop k (strip (pieces rest)))

      pub IsFoundLeft-on : begins_with_escape behind ≡ false → IsFoundLeft p behind (passed + k) text
      IsFoundLeft-on begins =
          let h = char_fits k is_first in
          let len : length (strip (pieces behind)) ≡ length (drop k (strip (pieces rest))) = ap length behind_shown in
          record {
            found =
                ap (λ bytes. option_map (λ n. passed + k + n) (first_match p 0 bytes)) behind_shown
                ∙ sym (counted_on passed k (first_match p 0 (drop k (strip (pieces rest)))))
                ∙ ap (option_map (λ n. passed + n)) (sym (first_match-on p (strip (pieces rest)) other k is_first)) ∙ left.found;
            fits = omega (arith, len, h.1, left.fits, length-drop k (strip (pieces rest)));
            begins = begins;
          }

-- ---- the end of a text

module _ (p text : List ℕ) (n : ℕ) (sum : n + length p ≡ length text) where
  before_len : (ends : EndsWith p text) → length ends.0 ≡ n
  before_len ends =
      let len : length text ≡ length (ends.0 ++ p) = ap length ends.1 in
      omega (arith, len, sum, length-append ends.0 p)

  pub ends-boundary : IsUtf8 p → EndsWith p text → IsCharBoundary text n
  ends-boundary utf8 ends = subst (IsCharBoundary text) (before_len ends) (IsCharBoundary-at_seam text ends.0 p ends.1 utf8)

  pub ends-begins : EndsWith p text → begins_with p (drop n text) ≡ true
  ends-begins ends =
      ap (λ m. begins_with p (drop m text)) (sym (before_len ends)) ∙ ap (λ bytes. begins_with p (drop (length ends.0) bytes)) ends.1
      ∙ ap (begins_with p) (drop-append_seam ends.0 p ∙ sym (append-nil p)) ∙ begins_with-append p []

  pub ends-there : begins_with p (drop n text) ≡ true → EndsWith p text
  ends-there e =
      let front = begins_with-sound p (drop n text) e in
      let len : length (drop n text) ≡ length (p ++ front.0) = ap length front.1 in
      let none : length front.0 ≡ 0 = omega (arith, len, sum, length-append p front.0, length-drop n text) in
      (take n text, sym (take-append-drop n text) ∙ ap (λ bytes. take n text ++ bytes) (front.1 ∙ ap (λ bytes. p ++ bytes) (empty_behind front.0 none) ∙ append-nil p))
