-- Texts without sequences, split as std splits them.
use Rattle.std.proofs.Common.{◌≡◌, ℕ, ◌+◌, ◌-◌, ◌<◌, ◌≤◌, ◌==◌, Bool, true, false, All, List, [], ◌∷◌, ◌++◌, length, take, drop, Option, None, Some, ap, sym, subst, ◌∙◌, arith, length-append, length-drop, slice_range, slice_index, get_or, get_or-drop, ne_eqb, min}
use Rattle.std.specs.Borrow.{Bor}
use Rattle.std.specs.Iterator.{AlwaysYields}
use Rattle.std.specs.List.{slice_split}
use Rattle.std.specs.Option.{MatchOption, option_map}
use Rattle.std.specs.Str.{IsCharBoundary, IsUtf8}
use Rattle.std.specs.Str.Iter.{split_text, split_has_more, split_pattern, split_steps}
use Rattle.std.specs.Str.Pattern.{FindsText}
use Rattle.std.specs.declared.str.Split.{Split}
use Rattle.std.proofs.lemmas.Bool.Decides.{nat_tests}
use Rattle.std.proofs.lemmas.Iterator.{YieldsList}
use Rattle.std.proofs.lemmas.List.{drop-drop, take_all, take-append-drop, get_or_append_left, get_or-take, length-take, drop_more}
use Rattle.std.proofs.lemmas.List.Elements.{All-from_get_or}
use Rattle.std.proofs.lemmas.List.Splits.{slice_split_none, slice_split_at}
use Rattle.std.proofs.lemmas.Str.{IsCharBoundary-start}
use Rattle.ansi_str_search.specs.Matches.{Occurs, IsFirstMatch, behind_match, AreMatchesFrom, AreMatches, bounds_between, split_bounds, text_parts}
use Rattle.ansi_str_search.specs.PartsLeft.{first_match}
use Rattle.ansi_str_search.proofs.FirstMatch.{first_match-unique, first_match-none_left, first_match-left, Occurs-within}

-- the part from a place to the end of a text
last-slice : (text : List ℕ) (from : ℕ) → slice_range text from (length text) ≡ drop from text
last-slice text from = take_all (length text - from) (drop from text) (omega (arith, length-drop from text))

-- ---- where std finds a pattern

module _ (pattern : List ℕ) (some : 0 < length pattern) (begins : IsCharBoundary pattern 0) where
  boundary-at : (w : List ℕ) (at : ℕ) (behind : List ℕ) → drop at w ≡ pattern ++ behind → IsCharBoundary w at
  boundary-at w at behind stands =
      let size : length w - at ≡ length pattern + length behind = sym (length-drop at w) ∙ ap length stands ∙ length-append pattern behind in
      let here : at + 0 ≡ at = omega arith in
      let first : slice_index w at ≡ slice_index pattern 0 =
      ap (slice_index w) (sym here) ∙ sym (get_or-drop at w 0 0) ∙ ap (λ bytes. slice_index bytes 0) stands ∙ get_or_append_left pattern behind 0 0 some in
      (omega arith, λ within high. subst (λ b. 192 ≤ b) (sym first) (begins.1 some (subst (λ b. 128 ≤ b) first high)))

  first_match-finds : (w : List ℕ) (o : Option (ℕ × ℕ)) → FindsText pattern w o → first_match pattern 0 w ≡ option_map (λ q. q.0) o
  first_match-finds w None finds = first_match-unique pattern 0 w None (λ at low o. finds at o.boundary.0 o.behind o.stands)
  first_match-finds w (Some q) finds = first_match-unique pattern 0 w (Some q.0) (record {
    not_before = omega arith;
    occurs = record { behind = drop q.1 w; stands = finds.1.split; boundary = boundary-at w q.0 (drop q.1 w) finds.1.split };
    first = λ other low high o. finds.0 other high o.behind o.stands;
  })

  -- the part before the first match, and what is left after it
  abbrev IsCut : Option ℕ → List ℕ → List ℕ → Bool → List ℕ → Type 0
  IsCut r w part more rest =
      MatchOption r ((part ≡ w) × (more ≡ false)) (λ at. (part ≡ take at w) × (more ≡ true) × (rest ≡ drop (at + length pattern) w))

  IsCut-found : (w part : List ℕ) (more : Bool) (rest : List ℕ) (o : Option (ℕ × ℕ)) → FindsText pattern w o
      → MatchOption o ((part ≡ w) × (more ≡ false)) (λ q. 0 < q.1 → (part ≡ take q.0 w) × (more ≡ true) × (rest ≡ drop q.1 w))
      → IsCut (option_map (λ q. q.0) o) w part more rest
  IsCut-found w part more rest None finds cut = cut
  IsCut-found w part more rest (Some q) finds cut =
      let ends : q.1 ≡ q.0 + length pattern = finds.1.ends in
      let parts = cut (omega arith) in
      (parts.0, parts.1, parts.2 ∙ ap (λ n. drop n w) ends)

  -- ---- the steps of std's iterator

  abbrev steps : Split (Bor (List ℕ)) → Option (Bor (List ℕ)) → Split (Bor (List ℕ)) → Type 0
  steps = split_steps (λ n. FindsText n.now) (λ n m. m.now ≡ n.now)

  not_ended : (s t : Split (Bor (List ℕ))) → split_has_more s ≡ true → ¬ (steps s None t)
  not_ended s t more step = let both : false ≡ true = step.0 ∙ more in cc both

  not_more : (s t : Split (Bor (List ℕ))) (x : Bor (List ℕ)) → split_has_more s ≡ false → ¬ (steps s (Some x) t)
  not_more s t x ended step = let both : true ≡ false = step.0 ∙ ended in cc both

  -- these bytes are still to be split at the pattern
  abbrev Splits : Split (Bor (List ℕ)) → List ℕ → Type 0
  Splits s w = (split_text s ≡ w) × (split_has_more s ≡ true) × ((split_pattern s).now ≡ pattern)

  step-cut : (s t : Split (Bor (List ℕ))) (x : Bor (List ℕ)) (w : List ℕ) (r : Option ℕ) → Splits s w → first_match pattern 0 w ≡ r → steps s (Some x) t
      → ((split_pattern t).now ≡ pattern) × IsCut r w x.now (split_has_more t) (split_text t)
  step-cut s t x w r of_w found step =
      let cut = step.1.1.1 in
      let finds = subst (λ n. FindsText n (split_text s) cut.0) of_w.2 cut.1 in
      let same : option_map (λ q. q.0) cut.0 ≡ r = sym (first_match-finds (split_text s) cut.0 finds) ∙ ap (first_match pattern 0) of_w.0 ∙ found in
      let parted = IsCut-found (split_text s) x.now (split_has_more t) (split_text t) cut.0 finds cut.2 in
      let of_r = subst (λ o. IsCut o (split_text s) x.now (split_has_more t) (split_text t)) same parted in
      (step.1.0 ∙ of_w.2, subst (λ v. IsCut r v x.now (split_has_more t) (split_text t)) of_w.0 of_r)

  -- ---- the parts of the text, from a place on

  module _ (text : List ℕ) where
    abbrev Yields_from : ℕ → List ℕ → Split (Bor (List ℕ)) → Type 0
    Yields_from from ms s = AlwaysYields steps (λ part. part.now) s (text_parts text (bounds_between (length pattern) from (length text) ms))

    yields-last : (from : ℕ) (s : Split (Bor (List ℕ))) → Splits s (drop from text) → first_match pattern 0 (drop from text) ≡ None → Yields_from from [] s
    yields-last from s of_rest none = (
      (λ t. not_ended s t of_rest.1),
      λ x t step. let cut = step-cut s t x (drop from text) None of_rest none step in
          (cut.1.0 ∙ sym (last-slice text from), λ y u. not_more t u y cut.1.1),
    )

    yields-next : (from at : ℕ) (others : List ℕ) (s : Split (Bor (List ℕ))) → from ≤ at → Splits s (drop from text) → first_match pattern 0 (drop from text) ≡ Some (at - from)
        → ((t : Split (Bor (List ℕ))) → Splits t (drop (at + length pattern) text) → Yields_from (at + length pattern) others t) → Yields_from from (at ∷ others) s
    yields-next from at others s order of_rest found rest =
        let place : from + (at - from + length pattern) ≡ at + length pattern = omega arith in (
          (λ t. not_ended s t of_rest.1),
          λ x t step. let cut = step-cut s t x (drop from text) (Some (at - from)) of_rest found step in
              (cut.1.0, rest t (cut.1.2 ∙ drop-drop (at - from + length pattern) from text ∙ ap (λ n. drop n text) place, cut.1.1, cut.0)),
        )

    yields-from : (from : ℕ) (ms : List ℕ) (s : Split (Bor (List ℕ))) → from ≤ length text → Splits s (drop from text) → AreMatchesFrom pattern text from ms → Yields_from from ms s
    yields-from from [] s fits of_rest none =
        yields-last from s of_rest (first_match-none_left pattern text from 0 fits (λ at low. none at (omega arith)))
    yields-from from (at ∷ others) s fits of_rest found =
        let first = found.0 in
        let start : from ≡ from + 0 = omega arith in
        let next : behind_match pattern at ≡ at + length pattern = omega arith in
        let here = first_match-left pattern text from 0 fits at (subst (λ n. IsFirstMatch pattern text n at) start first) in
        yields-next from at others s first.not_before of_rest here (λ t of_others.
        yields-from (at + length pattern) others t (Occurs-within pattern text at first.occurs) of_others (subst (λ n. AreMatchesFrom pattern text n others) next found.1))

pub split_as_std : (pattern text ms : List ℕ) (s : Split (Bor (List ℕ))) → 0 < length pattern → IsUtf8 pattern
    → split_text s ≡ text → split_has_more s ≡ true → (split_pattern s).now ≡ pattern → AreMatches pattern text ms
    → AlwaysYields (split_steps (λ n. FindsText n.now) (λ n m. m.now ≡ n.now)) (λ part. part.now) s (text_parts text (split_bounds pattern text ms))
split_as_std pattern text ms s some utf8 of_text more of_pattern are =
    yields-from pattern some (IsCharBoundary-start pattern utf8) text 0 ms s (omega arith) (of_text, more, of_pattern) are

-- the same, as chains of iterators take it
pub YieldsList-split_as_std : {s : Split (Bor (List ℕ))} (pattern text ms : List ℕ) → 0 < length pattern → IsUtf8 pattern
    → split_text s ≡ text → split_has_more s ≡ true → (split_pattern s).now ≡ pattern → AreMatches pattern text ms
    → YieldsList (split_steps (λ n. FindsText n.now) (λ n m. m.now ≡ n.now)) (λ part. part.now) s (text_parts text (split_bounds pattern text ms))
YieldsList-split_as_std {s} pattern text ms some utf8 of_text more of_pattern are = record { runs = split_as_std pattern text ms s some utf8 of_text more of_pattern are }

-- ---- one byte

module _ (c : ℕ) (ascii : c < 128) (text : List ℕ) where
  abbrev is_c : ℕ → Bool
  is_c b = b == c

  Occurs-byte : (at : ℕ) → at < length text → slice_index text at ≡ c → Occurs (c ∷ []) text at
  Occurs-byte at within same = record {
    behind = drop (at + 1) text;
    stands = drop_more text at 0 within ∙ ap (λ b. b ∷ drop (at + 1) text) same;
    boundary = (omega arith, λ short high. absurd (omega arith));
  }

  byte_at : (from to : ℕ) → from ≤ to → to ≤ length text → (i : ℕ) → i < length (slice_range text from to)
      → (from + i < to) × (get_or (slice_range text from to) i 0 ≡ slice_index text (from + i))
  byte_at from to order within i h =
      let size : length (slice_range text from to) ≡ min (to - from) (length (drop from text)) = length-take (to - from) (drop from text) in
      let short : i < to - from = omega arith in
      (omega arith, get_or-take (to - from) (drop from text) i 0 short ∙ get_or-drop from text i 0)

  -- no byte from one place to another is this one
  other_bytes : (from to : ℕ) → from ≤ to → to ≤ length text → ((at : ℕ) → from ≤ at → at < to → ¬ (Occurs (c ∷ []) text at)) → All (λ b. is_c b ≡ false) (slice_range text from to)
  other_bytes from to order within none = All-from_get_or (λ b. is_c b ≡ false) (slice_range text from to) 0 (λ i h.
      let found = byte_at from to order within i h in
      ne_eqb (get_or (slice_range text from to) i 0) c (λ same. none (from + i) (omega arith) found.0 (Occurs-byte (from + i) (omega arith) (sym found.1 ∙ same))))

  -- the text from a place on, cut at a match
  cut_at : (from at : ℕ) → from ≤ at → Occurs (c ∷ []) text at → drop from text ≡ slice_range text from at ++ (c ∷ drop (at + 1) text)
  cut_at from at order o =
      let place : from + (at - from) ≡ at = omega arith in
      let rest : drop (at + 1) text ≡ o.behind = sym (drop-drop 1 at text) ∙ ap (drop 1) o.stands in
      let behind : drop (at - from) (drop from text) ≡ c ∷ drop (at + 1) text =
      drop-drop (at - from) from text ∙ ap (λ n. drop n text) place ∙ o.stands ∙ ap (λ bytes. c ∷ bytes) (sym rest) in
      sym (take-append-drop (at - from) (drop from text)) ∙ ap (λ bytes. slice_range text from at ++ bytes) behind

  splits-from : (from : ℕ) (ms : List ℕ) → from ≤ length text → AreMatchesFrom (c ∷ []) text from ms
      → text_parts text (bounds_between 1 from (length text) ms) ≡ slice_split is_c (drop from text)
  splits-from from [] fits none =
      let others = subst (All (λ b. is_c b ≡ false)) (last-slice text from) (other_bytes from (length text) fits (omega arith) (λ at low high. none at low)) in
      ap (λ part. part ∷ []) (last-slice text from) ∙ sym (slice_split_none is_c (drop from text) others)
  splits-from from (at ∷ ms) fits found =
      let first = found.0 in
      let within : at + 1 ≤ length text = Occurs-within (c ∷ []) text at first.occurs in
      let here : is_c c ≡ true = grind (arith, nat_tests) in
      let others = other_bytes from at first.not_before (omega arith) first.first in
      ap (λ parts. slice_range text from at ∷ parts) (splits-from (at + 1) ms within found.1)
      ∙ sym (slice_split_at is_c (slice_range text from at) c (drop (at + 1) text) others here)
      ∙ ap (slice_split is_c) (sym (cut_at from at first.not_before first.occurs))

pub split_at_one_byte : (c : ℕ) (text ms : List ℕ) → c < 128 → AreMatches (c ∷ []) text ms → text_parts text (split_bounds (c ∷ []) text ms) ≡ slice_split (λ b. b == c) text
split_at_one_byte c text ms ascii are = splits-from c ascii text 0 ms (omega arith) are
