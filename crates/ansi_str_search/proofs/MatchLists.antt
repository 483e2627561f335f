-- The matches of a pattern in a text: that they are one list, and how the list is found.
use Rattle.std.proofs.Common.{◌≡◌, ℕ, zero, suc, ◌+◌, ◌<◌, ◌≤◌, List, [], ◌∷◌, length, Option, None, Some, refl, ap, sym, subst, ◌∙◌, arith}
use Rattle.ansi_str_search.specs.Matches.{IsFirstMatch, behind_match, AreMatchesFrom, AreMatches}
use Rattle.ansi_str_search.specs.PartsLeft.{first_match}
use Rattle.ansi_str_search.proofs.FirstMatch.{IsFirstOrNone, first_match-sound, two_firsts}

-- ---- one list

one_place : (pattern text : List ℕ) (from a b : ℕ) → IsFirstMatch pattern text from a → IsFirstMatch pattern text from b → a ≡ b
one_place pattern text from a b of_a of_b =
    let not_less : ¬ (a < b) = two_firsts pattern text from a b of_a of_b in
    let not_more : ¬ (b < a) = two_firsts pattern text from b a of_b of_a in
    omega arith

AreMatchesFrom-unique : (pattern text : List ℕ) (from : ℕ) (ms ns : List ℕ) → AreMatchesFrom pattern text from ms → AreMatchesFrom pattern text from ns → ms ≡ ns
AreMatchesFrom-unique pattern text from [] [] of_ms of_ns = refl
AreMatchesFrom-unique pattern text from [] (n ∷ ns) of_ms of_ns = absurd (of_ms n of_ns.0.not_before of_ns.0.occurs)
AreMatchesFrom-unique pattern text from (m ∷ ms) [] of_ms of_ns = absurd (of_ns m of_ms.0.not_before of_ms.0.occurs)
AreMatchesFrom-unique pattern text from (m ∷ ms) (n ∷ ns) of_ms of_ns =
    let same = one_place pattern text from m n of_ms.0 of_ns.0 in
    let next = subst (λ k. AreMatchesFrom pattern text (behind_match pattern k) ns) (sym same) of_ns.1 in
    ap (λ k. k ∷ ms) same ∙ ap (λ rest. n ∷ rest) (AreMatchesFrom-unique pattern text (behind_match pattern m) ms ns of_ms.1 next)

pub AreMatches-unique : (pattern text ms ns : List ℕ) → AreMatches pattern text ms → AreMatches pattern text ns → ms ≡ ns
AreMatches-unique pattern text ms ns of_ms of_ns = AreMatchesFrom-unique pattern text 0 ms ns of_ms of_ns

-- ---- the list that is found

-- a match and the others after it, or none
abbrev pub match_and_others : Option ℕ → (ℕ → List ℕ) → List ℕ
match_and_others None others = []
match_and_others (Some at) others = at ∷ others at

-- the first matches from a place on, at most this many
unfoldable pub matches_from : ℕ → List ℕ → List ℕ → ℕ → List ℕ
matches_from zero pattern text from = []
matches_from (suc n) pattern text from = match_and_others (first_match pattern from text) (λ at. matches_from n pattern text (behind_match pattern at))

behind_match-later : (pattern : List ℕ) (at : ℕ) → at < behind_match pattern at
behind_match-later pattern at = omega arith

AreMatchesFrom-step : (pattern text : List ℕ) (from : ℕ) (r : Option ℕ) (others : ℕ → List ℕ) → IsFirstOrNone pattern text from r
    → ((at : ℕ) → from ≤ at → AreMatchesFrom pattern text (behind_match pattern at) (others at)) → AreMatchesFrom pattern text from (match_and_others r others)
AreMatchesFrom-step pattern text from None others none behind = none
AreMatchesFrom-step pattern text from (Some at) others first behind = (first, behind at first.not_before)

pub AreMatchesFrom-found : (n : ℕ) (pattern text : List ℕ) (from : ℕ) → length text < n + from → AreMatchesFrom pattern text from (matches_from n pattern text from)
unfolding matches_from
AreMatchesFrom-found zero pattern text from h = λ at low o. absurd (omega (arith, o.boundary.0))
AreMatchesFrom-found (suc n) pattern text from h =
    AreMatchesFrom-step pattern text from (first_match pattern from text) (λ at. matches_from n pattern text (behind_match pattern at)) (first_match-sound pattern from text)
    (λ at low. AreMatchesFrom-found n pattern text (behind_match pattern at) (omega (arith, behind_match-later pattern at)))

pub AreMatches-found : (pattern text : List ℕ) → AreMatches pattern text (matches_from (suc (length text)) pattern text 0)
AreMatches-found pattern text = AreMatchesFrom-found (suc (length text)) pattern text 0 (omega arith)

-- the list that the function gives, worked out
pub AreMatches-worked : (pattern text ms : List ℕ) → matches_from (suc (length text)) pattern text 0 ≡ ms → AreMatches pattern text ms
AreMatches-worked pattern text ms e = subst (AreMatches pattern text) e (AreMatches-found pattern text)
