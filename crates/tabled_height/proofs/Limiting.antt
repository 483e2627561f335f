-- Texts that get lines, and texts that keep their first.
use Rattle.std.proofs.Common.{◌≡◌, ◌∙◌, ◌+◌, ◌-◌, ◌<◌, ◌≤◌, ◌++◌, ℕ, zero, suc, Bool, true, List, [], ◌∷◌, None, Some, Result, Ok, Err, ap, append_assoc, arith, drop, get_or, length, length-drop, nat_lt, refl, replicate, sym, take}
use Rattle.std.specs.Prelude.{MatchResult}
use Rattle.std.proofs.lemmas.List.{length-take-le, take_more}
use Rattle.std.specs.Cow.{cow_str_bytes}
use Rattle.std.specs.List.{join_with_byte}
use Rattle.std.specs.declared.borrow.CowStr.{CowStr}
use Rattle.ansi_scan.proofs.Comparing.{below, not_below}
use Rattle.ansi_str_search.specs.Splitting.{GivesPart, PartsLeft}
use Rattle.grid_config_values.specs.declared.position.Position.{Position}
use Rattle.grid_records_measure.specs.TextLines.{line_feed, text_height}
use Rattle.grid_records_traits.proofs.LineAt.{left_at, left_next}
use Rattle.tabled_height.specs.Lines.{first_lines, limited, raised, with_line}

-- ---- texts that stay, and texts that change

module _ (height : ℕ) (place : Position) (text : List ℕ) where
  pub stays_raised : height ≤ text_height text → None ≡ raised height place text
  stays_raised high = rw (not_below (text_height text) height high) refl

  pub is_raised : (bytes : List ℕ) → text_height text < height → bytes ≡ text ++ replicate (height - text_height text) line_feed → Some bytes ≡ raised height place text
  is_raised bytes low is = rw (below (text_height text) height low) (ap (λ (bytes : List ℕ). Some bytes) is)

  pub stays_limited : text_height text ≤ height → None ≡ limited height place text
  stays_limited low = rw (not_below height (text_height text) low) refl

  pub is_limited : (bytes : List ℕ) → height < text_height text → bytes ≡ first_lines height text → Some bytes ≡ limited height place text
  is_limited bytes high is = rw (below height (text_height text) high) (ap (λ (bytes : List ℕ). Some bytes) is)

-- ---- lines one after the other

join_more : (lines : List (List ℕ)) (line : List ℕ) → 0 < length lines → join_with_byte line_feed (lines ++ line ∷ []) ≡ join_with_byte line_feed lines ++ line_feed ∷ line
join_more [] line some = absurd (omega (arith, some))
join_more (x ∷ []) line some = refl
join_more (x ∷ y ∷ lines) line some =
    let others : 0 < length (y ∷ lines) = omega arith in
    ap (λ (bytes : List ℕ). x ++ line_feed ∷ bytes) (join_more (y ∷ lines) line others)
    ∙ sym (append_assoc x (line_feed ∷ join_with_byte line_feed (y ∷ lines)) (line_feed ∷ line))

some_left : (lines : List (List ℕ)) (k : ℕ) (line : List ℕ) (rest : List (List ℕ)) → drop k lines ≡ line ∷ rest → k < length lines
some_left lines k line rest left = omega (arith, length-drop k lines, ap length left)

-- so many lines and the next one
next_joined : (lines : List (List ℕ)) (k : ℕ) (line : List ℕ) (rest : List (List ℕ)) → drop k lines ≡ line ∷ rest →
    with_line (join_with_byte line_feed (take k lines)) (nat_lt 0 k) line ≡ join_with_byte line_feed (take (k + 1) lines)
next_joined lines zero line rest left =
    let inside : 0 < length lines = some_left lines 0 line rest left in
    let this : get_or lines 0 line ≡ line = left_at lines 0 0 line line rest left (omega arith) (omega arith) in
    sym (ap (join_with_byte line_feed) (take_more lines 0 line inside) ∙ this)
next_joined lines (suc k) line rest left =
    let inside : suc k < length lines = some_left lines (suc k) line rest left in
    let this : get_or lines (suc k) line ≡ line = left_at lines (suc k) (suc k) line line rest left (omega arith) (omega arith) in
    let behind : nat_lt 0 (suc k) ≡ true = below 0 (suc k) (omega arith) in
    let many : 0 < length (take (suc k) lines) = omega (arith, length-take-le (suc k) lines (omega (arith, inside))) in
    rw behind
    (sym (ap (join_with_byte line_feed) (take_more lines (suc k) line inside ∙ ap (λ (line : List ℕ). take (suc k) lines ++ line ∷ []) this)
    ∙ join_more (take (suc k) lines) line many))

-- a line that came was written
pub line_written : {E Z : Type 0} (old new : PartsLeft) (answer : Result (CowStr Z) E) (lines : List (List ℕ)) (k : ℕ) (behind : Bool) (before after : List ℕ) → GivesPart old (Some answer) new →
    MatchResult answer (λ part. after ≡ with_line before behind (cow_str_bytes part)) (λ _. ⊥) → behind ≡ nat_lt 0 k → before ≡ join_with_byte line_feed (take k lines) → old.parts ≡ drop k lines →
    (after ≡ join_with_byte line_feed (take (k + 1) lines)) × (new.parts ≡ drop (k + 1) lines)
line_written {E} {Z} old new (Ok part) lines k behind before after gives wrote is so_far left =
    let come : drop k lines ≡ cow_str_bytes part ∷ new.parts = sym left ∙ gives.1.0 in (
      wrote ∙ ap (λ (bytes : List ℕ). with_line bytes behind (cow_str_bytes part)) so_far ∙ ap (λ b. with_line (join_with_byte line_feed (take k lines)) b (cow_str_bytes part)) is ∙ next_joined lines k (cow_str_bytes part) new.parts come,
      sym (left_next lines k (cow_str_bytes part) new.parts come),
    )
line_written {E} {Z} old new (Err fault) lines k behind before after gives wrote is so_far left = absurd wrote

-- after the last line nothing more comes
pub all_taken : (lines : List (List ℕ)) (k n : ℕ) → drop k lines ≡ [] → k ≤ n → take k lines ≡ take n lines
all_taken [] zero zero none low = refl
all_taken [] zero (suc n) none low = refl
all_taken [] (suc k) zero none low = refl
all_taken [] (suc k) (suc n) none low = refl
all_taken (line ∷ lines) zero n none low = absurd (omega (arith, ap length none))
all_taken (line ∷ lines) (suc k) zero none low = absurd (omega (arith, low))
all_taken (line ∷ lines) (suc k) (suc n) none low = ap (λ (lines : List (List ℕ)). line ∷ lines) (all_taken lines k n none (omega (arith, low)))
