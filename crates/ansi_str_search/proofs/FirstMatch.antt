-- The first match of a pattern, as a relation and as a function, and the parts that the matches leave.
use Rattle.std.proofs.Common.{◌≡◌, ℕ, zero, suc, ◌+◌, ◌-◌, ◌<◌, ◌≤◌, ◌==◌, Bool, true, false, List, [], ◌∷◌, ◌++◌, length, take, drop, Option, None, Some, refl, ap, sym, subst, ◌∙◌, arith, length-append, length-drop, get_or-drop, eqb-true, if◌then◌else◌}
use Rattle.std.specs.Option.{MatchOption, option_map}
use Rattle.std.specs.Str.{IsCharBoundary, IsUtf8}
use Rattle.std.specs.Cmp.Derive.{both_true}
use Rattle.std.proofs.lemmas.Bool.{and_parts}
use Rattle.std.proofs.lemmas.Bool.Decides.{nat_tests}
use Rattle.std.proofs.lemmas.List.{drop-drop, take_at}
use Rattle.std.proofs.lemmas.Str.{IsUtf8-drop, IsCharBoundary-from_take, IsCharBoundary-from_rest}
use Rattle.ansi_scan.specs.Sequences.{Piece}
use Rattle.ansi_scan.specs.Attributes.{Attributes, plain_attributes}
use Rattle.ansi_str_search.specs.Text.StyledText.{strip, style_after_all}
use Rattle.ansi_str_search.specs.Parts.{from_place, before_place, through_place, split_part, dressed}
use Rattle.ansi_str_search.specs.Matches.{Occurs, IsFirstMatch, behind_match, AreMatchesFrom, AreMatches, bounds_between, split_bounds, styled_parts}
use Rattle.ansi_str_search.specs.PartsLeft.{begins_character, begins_with, matches_first, first_match, passed_over, part_and_others, first_parts, parts_left}
use Rattle.ansi_str_search.proofs.PiecesAtPlaces.{strip-from, from-none, before-none}
use Rattle.ansi_str_search.proofs.PlaceSums.{from-from, style-before_sum, through-all}
use Rattle.ansi_str_search.proofs.Styles.{split_part-slice}

-- the first match from a place on, or that there is none
abbrev pub IsFirstOrNone : List ℕ → List ℕ → ℕ → Option ℕ → Type 0
IsFirstOrNone pattern text from found =
    MatchOption found ((at : ℕ) → from ≤ at → ¬ (Occurs pattern text at)) (λ at. IsFirstMatch pattern text from at)

-- ---- the pattern at the start

pub begins_with-sound : (pattern text : List ℕ) → begins_with pattern text ≡ true → (behind : List ℕ) × (text ≡ pattern ++ behind)
begins_with-sound [] text e = (text, refl)
begins_with-sound (p ∷ ps) [] e = cc e
begins_with-sound (p ∷ ps) (b ∷ bs) e =
    let parts = and_parts (p == b) (begins_with ps bs) e in
    let rest = begins_with-sound ps bs parts.1 in
    (rest.0, ap (λ c. c ∷ bs) (sym (eqb-true p b parts.0)) ∙ ap (λ cs. p ∷ cs) rest.1)

pub begins_with-append : (pattern behind : List ℕ) → begins_with pattern (pattern ++ behind) ≡ true
begins_with-append [] behind = refl
begins_with-append (p ∷ ps) behind = let same : (p == p) ≡ true = grind (arith, nat_tests) in both_true same (begins_with-append ps behind)

begins_character-sound : (text : List ℕ) → begins_character text ≡ true → IsCharBoundary text 0
begins_character-sound [] e = (omega arith, λ some. absurd (omega arith))
begins_character-sound (b ∷ bs) e = (omega arith, λ some high. grind (arith, nat_tests))

begins_character-from : (text : List ℕ) → IsCharBoundary text 0 → begins_character text ≡ true
begins_character-from [] h = refl
begins_character-from (b ∷ bs) h = let lead : 128 ≤ b → 192 ≤ b = h.1 (omega arith) in grind (arith, nat_tests)

Occurs-first : (pattern text : List ℕ) → matches_first pattern text ≡ true → Occurs pattern text 0
Occurs-first pattern text e =
    let parts = and_parts (begins_character text) (begins_with pattern text) e in
    let front = begins_with-sound pattern text parts.1 in
    record { behind = front.0; stands = front.1; boundary = begins_character-sound text parts.0 }

matches_first-from : (pattern text : List ℕ) → Occurs pattern text 0 → matches_first pattern text ≡ true
matches_first-from pattern text o =
    both_true (begins_character-from text o.boundary) (ap (begins_with pattern) o.stands ∙ begins_with-append pattern o.behind)

-- ---- one byte on

Occurs-past_first : (pattern : List ℕ) (b : ℕ) (bs : List ℕ) (i : ℕ) → Occurs pattern (b ∷ bs) (suc i) → Occurs pattern bs i
Occurs-past_first pattern b bs i o = record {
  behind = o.behind;
  stands = o.stands;
  boundary = (omega (arith, o.boundary.0), λ some. o.boundary.1 (omega arith));
}

Occurs-behind_first : (pattern : List ℕ) (b : ℕ) (bs : List ℕ) (i : ℕ) → Occurs pattern bs i → Occurs pattern (b ∷ bs) (suc i)
Occurs-behind_first pattern b bs i o = record {
  behind = o.behind;
  stands = o.stands;
  boundary = (omega (arith, o.boundary.0), λ some. o.boundary.1 (omega arith));
}

module _ (pattern : List ℕ) (b : ℕ) (bs : List ℕ) (from passed : ℕ) (order : from ≤ suc passed) (later : (at : ℕ) → from ≤ at → Occurs pattern (b ∷ bs) at → passed < at) where
  none-behind : ((at : ℕ) → passed ≤ at → ¬ (Occurs pattern bs at)) → (at : ℕ) → from ≤ at → ¬ (Occurs pattern (b ∷ bs) at)
  none-behind none zero h o = let past = later zero h o in absurd (omega arith)
  none-behind none (suc i) h o =
      let past = later (suc i) h o in
      let on : passed ≤ i = omega arith in
      none i on (Occurs-past_first pattern b bs i o)

  first-behind : (at : ℕ) → IsFirstMatch pattern bs passed at → (other : ℕ) → from ≤ other → other < suc at → ¬ (Occurs pattern (b ∷ bs) other)
  first-behind at found zero low high o = let past = later zero low o in absurd (omega arith)
  first-behind at found (suc i) low high o =
      let past = later (suc i) low o in
      let on : passed ≤ i = omega arith in
      let short : i < at = omega arith in
      found.first i on short (Occurs-past_first pattern b bs i o)

  first_or_none-behind : (r : Option ℕ) → IsFirstOrNone pattern bs passed r → IsFirstOrNone pattern (b ∷ bs) from (option_map (λ n. suc n) r)
  first_or_none-behind None h = none-behind h
  first_or_none-behind (Some at) h = record {
    not_before = omega (arith, h.not_before);
    occurs = Occurs-behind_first pattern b bs at h.occurs;
    first = first-behind at h;
  }

-- ---- the function finds the first match

first_here : (pattern text : List ℕ) → matches_first pattern text ≡ true → IsFirstMatch pattern text 0 0
first_here pattern text e = record { not_before = omega arith; occurs = Occurs-first pattern text e; first = λ other low high o. absurd (omega arith) }

not_first : (pattern text : List ℕ) → matches_first pattern text ≡ false → ¬ (Occurs pattern text 0)
not_first pattern text e o = let both : true ≡ false = sym (matches_first-from pattern text o) ∙ e in cc both

none_past : (pattern : List ℕ) (at : ℕ) → 0 < at → ¬ (Occurs pattern [] at)
none_past pattern at some o = absurd (omega (arith, o.boundary.0))

end-sound : (pattern : List ℕ) (here : Bool) → matches_first pattern [] ≡ here → IsFirstOrNone pattern [] 0 (if here then Some 0 else None)
end-sound pattern true e = first_here pattern [] e
end-sound pattern false e = none where
  none : (at : ℕ) → 0 ≤ at → ¬ (Occurs pattern [] at)
  none zero low = not_first pattern [] e
  none (suc i) low = none_past pattern (suc i) (omega arith)

byte-sound : (pattern : List ℕ) (b : ℕ) (bs : List ℕ) (r : Option ℕ) (here : Bool) → matches_first pattern (b ∷ bs) ≡ here → IsFirstOrNone pattern bs 0 r
    → IsFirstOrNone pattern (b ∷ bs) 0 (if here then Some 0 else option_map (λ n. suc n) r)
byte-sound pattern b bs r true e h = first_here pattern (b ∷ bs) e
byte-sound pattern b bs r false e h = first_or_none-behind pattern b bs 0 0 (omega arith) later r h where
  later : (at : ℕ) → 0 ≤ at → Occurs pattern (b ∷ bs) at → 0 < at
  later zero low o = absurd (not_first pattern (b ∷ bs) e o)
  later (suc i) low o = omega arith

pub first_match-sound : (pattern : List ℕ) (from : ℕ) (text : List ℕ) → IsFirstOrNone pattern text from (first_match pattern from text)
unfolding first_match
first_match-sound pattern zero [] = end-sound pattern (matches_first pattern []) refl
first_match-sound pattern zero (b ∷ bs) = byte-sound pattern b bs (first_match pattern zero bs) (matches_first pattern (b ∷ bs)) refl (first_match-sound pattern zero bs)
first_match-sound pattern (suc passed) [] = λ at low. none_past pattern at (omega arith)
first_match-sound pattern (suc passed) (b ∷ bs) =
    first_or_none-behind pattern b bs (suc passed) passed (omega arith) (λ at low o. omega arith) (first_match pattern passed bs) (first_match-sound pattern passed bs)

-- ---- and it is the one answer

pub two_firsts : (pattern text : List ℕ) (from a b : ℕ) → IsFirstMatch pattern text from a → IsFirstMatch pattern text from b → a < b → ⊥
two_firsts pattern text from a b of_a of_b h = of_b.first a of_a.not_before h of_a.occurs

one_first : (pattern text : List ℕ) (from : ℕ) (r s : Option ℕ) → IsFirstOrNone pattern text from r → IsFirstOrNone pattern text from s → r ≡ s
one_first pattern text from None None of_r of_s = refl
one_first pattern text from None (Some b) of_r of_s = absurd (of_r b of_s.not_before of_s.occurs)
one_first pattern text from (Some a) None of_r of_s = absurd (of_s a of_r.not_before of_r.occurs)
one_first pattern text from (Some a) (Some b) of_r of_s =
    let not_less : ¬ (a < b) = two_firsts pattern text from a b of_r of_s in
    let not_more : ¬ (b < a) = two_firsts pattern text from b a of_s of_r in
    let same : a ≡ b = omega arith in
    ap (λ n. Some n) same

pub first_match-unique : (pattern : List ℕ) (from : ℕ) (text : List ℕ) (r : Option ℕ) → IsFirstOrNone pattern text from r → first_match pattern from text ≡ r
first_match-unique pattern from text r h = one_first pattern text from (first_match pattern from text) r (first_match-sound pattern from text) h

pub first_match-is_first : (pattern : List ℕ) (from : ℕ) (text : List ℕ) (at : ℕ) → first_match pattern from text ≡ Some at → IsFirstMatch pattern text from at
first_match-is_first pattern from text at e = subst (IsFirstOrNone pattern text from) e (first_match-sound pattern from text)

-- ---- a match lies within the text

pub Occurs-within : (pattern text : List ℕ) (at : ℕ) → Occurs pattern text at → at + length pattern ≤ length text
Occurs-within pattern text at o =
    let size : length text - at ≡ length pattern + length o.behind = sym (length-drop at text) ∙ ap length o.stands ∙ length-append pattern o.behind in
    omega (arith, o.boundary.0)

pub Occurs-ends : (pattern text : List ℕ) (at : ℕ) → IsUtf8 pattern → IsUtf8 text → Occurs pattern text at → IsCharBoundary text (at + length pattern)
Occurs-ends pattern text at of_pattern of_text o =
    let behind = drop at text in
    let utf8 : IsUtf8 behind = IsUtf8-drop text at of_text o.boundary in
    let front : take (length pattern) behind ≡ pattern = ap (take (length pattern)) o.stands ∙ take_at pattern o.behind (length pattern) refl in
    let within = Occurs-within pattern text at o in
    let fits : length pattern ≤ length behind = omega (arith, length-drop at text) in
    IsCharBoundary-from_rest text at (length pattern) o.boundary.0
    (IsCharBoundary-from_take behind (length pattern) utf8 fits (subst IsUtf8 (sym front) of_pattern))

module _ (pattern : List ℕ) (from : ℕ) (text : List ℕ) (at : ℕ) (found : first_match pattern from text ≡ Some at) where
  pub first_match-not_before : from ≤ at
  first_match-not_before = (first_match-is_first pattern from text at found).not_before

  pub first_match-begins : IsCharBoundary text at
  first_match-begins = (first_match-is_first pattern from text at found).occurs.boundary

  pub first_match-within : at + length pattern ≤ length text
  first_match-within = Occurs-within pattern text at (first_match-is_first pattern from text at found).occurs

  pub first_match-ends : IsUtf8 pattern → IsUtf8 text → IsCharBoundary text (at + length pattern)
  first_match-ends of_pattern of_text = Occurs-ends pattern text at of_pattern of_text (first_match-is_first pattern from text at found).occurs

-- ---- from a place on

pub Occurs-on : (pattern text : List ℕ) (from at : ℕ) → from ≤ length text → Occurs pattern (drop from text) at → Occurs pattern text (from + at)
Occurs-on pattern text from at h o = record {
  behind = o.behind;
  stands = sym (drop-drop at from text) ∙ o.stands;
  boundary = IsCharBoundary-from_rest text from at h o.boundary;
}

pub Occurs-back : (pattern text : List ℕ) (from at : ℕ) → Occurs pattern text (from + at) → Occurs pattern (drop from text) at
Occurs-back pattern text from at o = record {
  behind = o.behind;
  stands = drop-drop at from text ∙ o.stands;
  boundary = (
    omega (arith, o.boundary.0, length-drop from text),
    λ some high.
        subst (λ b. 192 ≤ b) (sym (get_or-drop from text at 0)) (o.boundary.1 (omega (arith, length-drop from text)) (subst (λ b. 128 ≤ b) (get_or-drop from text at 0) high)),
  );
}

module _ (pattern text : List ℕ) (from passed : ℕ) (fits : from ≤ length text) where
  pub first_match-none_left : ((at : ℕ) → from + passed ≤ at → ¬ (Occurs pattern text at)) → first_match pattern passed (drop from text) ≡ None
  first_match-none_left none =
      first_match-unique pattern passed (drop from text) None (λ at low o. none (from + at) (omega arith) (Occurs-on pattern text from at fits o))

  first-left : (at : ℕ) → IsFirstMatch pattern text (from + passed) at → IsFirstMatch pattern (drop from text) passed (at - from)
  first-left at first =
      let same : at ≡ from + (at - from) = omega (arith, first.not_before) in
      record {
        not_before = omega (arith, first.not_before);
        occurs = Occurs-back pattern text from (at - from) (subst (Occurs pattern text) same first.occurs);
        first = λ other low high o. first.first (from + other) (omega arith) (omega arith) (Occurs-on pattern text from other fits o);
      }

  pub first_match-left : (at : ℕ) → IsFirstMatch pattern text (from + passed) at → first_match pattern passed (drop from text) ≡ Some (at - from)
  first_match-left at first = first_match-unique pattern passed (drop from text) (Some (at - from)) (first-left at first)

-- ---- how many parts are looked for

-- the parts are no more than this, where so many bytes are left
abbrev pub most_parts : Bool → ℕ → ℕ
most_parts false size = size + 2
most_parts true size = size + 1

-- a match that has one before it, or the bytes that it leaves out, takes a byte
passed_some : (pattern : List ℕ) (at : ℕ) → passed_over true pattern ≤ at → 0 < at + length pattern
passed_some [] at h = omega arith
passed_some (p ∷ ps) at h = omega arith

most_parts-fall : (begun : Bool) (pattern : List ℕ) (size at n : ℕ) → passed_over begun pattern ≤ at → at + length pattern ≤ size → most_parts begun size ≤ suc n
    → most_parts true (size - (at + length pattern)) ≤ n
most_parts-fall false pattern size at n past within h = omega arith
most_parts-fall true pattern size at n past within h = omega (arith, passed_some pattern at past)

most_parts-some : (begun : Bool) (size : ℕ) → 0 < most_parts begun size
most_parts-some false size = omega arith
most_parts-some true size = omega arith

-- the others count only where the match is
part_and_others-same : (style : Attributes) (ps : List Piece) (r : Option ℕ) (f g : ℕ → List (List ℕ)) → ((at : ℕ) → r ≡ Some at → f at ≡ g at)
    → part_and_others style ps r f ≡ part_and_others style ps r g
part_and_others-same style ps None f g same = refl
part_and_others-same style ps (Some at) f g same = ap (λ others. dressed style (through_place at ps) ∷ others) (same at refl)

length-part_and_others : (style : Attributes) (ps : List Piece) (n : ℕ) (r : Option ℕ) (others : ℕ → List (List ℕ)) → ((at : ℕ) → length (others at) ≤ n)
    → length (part_and_others style ps r others) ≤ suc n
length-part_and_others style ps n None others h = omega arith
length-part_and_others style ps n (Some at) others h = omega (arith, h at)

part_and_others-some : (style : Attributes) (ps : List Piece) (r : Option ℕ) (others : ℕ → List (List ℕ)) → 1 ≤ length (part_and_others style ps r others)
part_and_others-some style ps None others = omega arith
part_and_others-some style ps (Some at) others = omega arith

module _ (pattern : List ℕ) where
  -- after a match: the style that is known, the pieces that are left, and their parts
  abbrev style_behind : Attributes → List Piece → ℕ → Attributes
  style_behind style ps at = style_after_all style (before_place (at + length pattern) ps)

  abbrev left_behind : List Piece → ℕ → List Piece
  left_behind ps at = from_place (at + length pattern) ps

  abbrev pub parts_behind : Attributes → List Piece → ℕ → List (List ℕ)
  parts_behind style ps at = parts_left pattern true (style_behind style ps at) (left_behind ps at)

  abbrev first_found : Bool → List Piece → Option ℕ
  first_found begun ps = first_match pattern (passed_over begun pattern) (strip ps)

  -- what is left after a match needs fewer parts
  most_parts-behind : (begun : Bool) (ps : List Piece) (at n : ℕ) → first_found begun ps ≡ Some at → most_parts begun (length (strip ps)) ≤ suc n
      → most_parts true (length (strip (left_behind ps at))) ≤ n
  most_parts-behind begun ps at n e h =
      let first = first_match-is_first pattern (passed_over begun pattern) (strip ps) at e in
      let within = Occurs-within pattern (strip ps) at first.occurs in
      let size : length (strip (left_behind ps at)) ≡ length (strip ps) - (at + length pattern) =
      ap length (strip-from (at + length pattern) ps) ∙ length-drop (at + length pattern) (strip ps) in
      subst (λ k. most_parts true k ≤ n) (sym size) (most_parts-fall begun pattern (length (strip ps)) at n first.not_before within h)

  pub first_parts-enough : (n m : ℕ) (begun : Bool) (style : Attributes) (ps : List Piece) → most_parts begun (length (strip ps)) ≤ n → most_parts begun (length (strip ps)) ≤ m
      → first_parts n pattern begun style ps ≡ first_parts m pattern begun style ps
  unfolding first_parts
  first_parts-enough zero m begun style ps h k = absurd (omega (arith, most_parts-some begun (length (strip ps))))
  first_parts-enough (suc n) zero begun style ps h k = absurd (omega (arith, most_parts-some begun (length (strip ps))))
  first_parts-enough (suc n) (suc m) begun style ps h k =
      part_and_others-same style ps (first_found begun ps)
      (λ at. first_parts n pattern true (style_behind style ps at) (left_behind ps at))
      (λ at. first_parts m pattern true (style_behind style ps at) (left_behind ps at))
      (λ at e. first_parts-enough n m true (style_behind style ps at) (left_behind ps at) (most_parts-behind begun ps at n e h) (most_parts-behind begun ps at m e k))

  most_parts-two : (begun : Bool) (size : ℕ) → most_parts begun size ≤ size + 2
  most_parts-two false size = omega arith
  most_parts-two true size = omega arith

  pub parts_left-step : (begun : Bool) (style : Attributes) (ps : List Piece)
      → parts_left pattern begun style ps ≡ part_and_others style ps (first_match pattern (passed_over begun pattern) (strip ps)) (parts_behind style ps)
  unfolding parts_left first_parts
  parts_left-step begun style ps =
      let n = length (strip ps) + 1 in
      let size : length (strip ps) + 2 ≡ suc n = omega arith in
      let enough : most_parts begun (length (strip ps)) ≤ suc n = omega (arith, most_parts-two begun (length (strip ps))) in
      ap (λ k. first_parts k pattern begun style ps) size
      ∙ part_and_others-same style ps (first_found begun ps) (λ at. first_parts n pattern true (style_behind style ps at) (left_behind ps at)) (parts_behind style ps)
      (λ at e. first_parts-enough n (length (strip (left_behind ps at)) + 2) true (style_behind style ps at) (left_behind ps at)
      (most_parts-behind begun ps at n e enough) (most_parts-two true (length (strip (left_behind ps at)))))

  -- the same where the match is known
  pub parts_left-found : (begun : Bool) (style : Attributes) (ps : List Piece) (r : Option ℕ) → first_found begun ps ≡ r
      → parts_left pattern begun style ps ≡ part_and_others style ps r (parts_behind style ps)
  parts_left-found begun style ps r e = parts_left-step begun style ps ∙ ap (λ found. part_and_others style ps found (parts_behind style ps)) e

  length-first_parts : (n : ℕ) (begun : Bool) (style : Attributes) (ps : List Piece) → length (first_parts n pattern begun style ps) ≤ n
  unfolding first_parts
  length-first_parts zero begun style ps = omega arith
  length-first_parts (suc n) begun style ps =
      length-part_and_others style ps n (first_found begun ps) (λ at. first_parts n pattern true (style_behind style ps at) (left_behind ps at))
      (λ at. length-first_parts n true (style_behind style ps at) (left_behind ps at))

  pub length-parts_left : (begun : Bool) (style : Attributes) (ps : List Piece) → length (parts_left pattern begun style ps) ≤ length (strip ps) + 2
  unfolding parts_left
  length-parts_left begun style ps = length-first_parts (length (strip ps) + 2) begun style ps

  pub parts_left-some : (begun : Bool) (style : Attributes) (ps : List Piece) → 1 ≤ length (parts_left pattern begun style ps)
  parts_left-some begun style ps = subst (λ parts. 1 ≤ length parts) (sym (parts_left-step begun style ps)) (part_and_others-some style ps (first_found begun ps) (parts_behind style ps))

-- ---- the parts between the matches are the parts left

behind_match-passed : (pattern : List ℕ) (at : ℕ) → behind_match pattern at ≡ at + length pattern + passed_over true pattern
behind_match-passed [] at = omega arith
behind_match-passed (p ∷ ps) at = omega arith

module _ (pattern : List ℕ) (ps : List Piece) where
  -- the style before a place
  abbrev style_at : ℕ → Attributes
  style_at from = style_after_all plain_attributes (before_place from ps)

  -- the part from a place to the end, and to a match
  last-part : (from : ℕ) → from ≤ length (strip ps) → split_part from (length (strip ps)) ps ≡ dressed (style_at from) (from_place from ps)
  last-part from fits =
      let size : length (strip (from_place from ps)) ≤ length (strip ps) - from = omega (arith, ap length (strip-from from ps) ∙ length-drop from (strip ps)) in
      split_part-slice from (length (strip ps)) ps fits ∙ ap (dressed (style_at from)) (through-all (length (strip ps) - from) (from_place from ps) size)

  -- after a match, from one place and from the next
  behind-part : (from at : ℕ) → from ≤ at
      → parts_behind pattern (style_at from) (from_place from ps) (at - from) ≡ parts_left pattern true (style_at (at + length pattern)) (from_place (at + length pattern) ps)
  behind-part from at order =
      let same : from + (at - from + length pattern) ≡ at + length pattern = omega arith in
      ap (λ style. parts_left pattern true style (from_place (at - from + length pattern) (from_place from ps)))
      (sym (style-before_sum from (at - from + length pattern) plain_attributes ps) ∙ ap style_at same)
      ∙ ap (parts_left pattern true (style_at (at + length pattern))) (sym (from-from from (at - from + length pattern) ps) ∙ ap (λ n. from_place n ps) same)

  -- what is left from a place, where the first match in the text after it is known
  left-found : (begun : Bool) (from : ℕ) (r : Option ℕ) → first_match pattern (passed_over begun pattern) (drop from (strip ps)) ≡ r
      → parts_left pattern begun (style_at from) (from_place from ps) ≡ part_and_others (style_at from) (from_place from ps) r (parts_behind pattern (style_at from) (from_place from ps))
  left-found begun from r e =
      parts_left-found pattern begun (style_at from) (from_place from ps) r (ap (first_match pattern (passed_over begun pattern)) (strip-from from ps) ∙ e)

  abbrev Bridge : Bool → ℕ → List ℕ → Type 0
  Bridge begun from ms = styled_parts ps (bounds_between (length pattern) from (length (strip ps)) ms) ≡ parts_left pattern begun (style_at from) (from_place from ps)

  bridge : (begun : Bool) (from : ℕ) (ms : List ℕ) → from ≤ length (strip ps) → AreMatchesFrom pattern (strip ps) (from + passed_over begun pattern) ms → Bridge begun from ms
  bridge begun from [] fits none =
      ap (λ part. part ∷ []) (last-part from fits)
      ∙ sym (left-found begun from None (first_match-none_left pattern (strip ps) from (passed_over begun pattern) fits none))
  bridge begun from (at ∷ others) fits found =
      let first = found.0 in
      let order : from ≤ at = omega (arith, first.not_before) in
      let within = Occurs-within pattern (strip ps) at first.occurs in
      let next = subst (λ n. AreMatchesFrom pattern (strip ps) n others) (behind_match-passed pattern at) found.1 in
      ap (λ part. part ∷ styled_parts ps (bounds_between (length pattern) (at + length pattern) (length (strip ps)) others)) (split_part-slice from at ps order)
      ∙ ap (λ rest. dressed (style_at from) (through_place (at - from) (from_place from ps)) ∷ rest) (bridge true (at + length pattern) others within next ∙ sym (behind-part from at order))
      ∙ sym (left-found begun from (Some (at - from)) (first_match-left pattern (strip ps) from (passed_over begun pattern) fits at first))

  pub styled_parts-parts_left : (ms : List ℕ) → AreMatches pattern (strip ps) ms → styled_parts ps (split_bounds pattern (strip ps) ms) ≡ parts_left pattern false plain_attributes ps
  styled_parts-parts_left ms are =
      let start : 0 ≡ 0 + passed_over false pattern = omega arith in
      bridge false 0 ms (omega arith) (subst (λ n. AreMatchesFrom pattern (strip ps) n ms) start are)
      ∙ ap (λ style. parts_left pattern false style (from_place 0 ps)) (ap (style_after_all plain_attributes) (before-none ps))
      ∙ ap (parts_left pattern false plain_attributes) (from-none ps)
