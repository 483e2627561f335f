-- A word, or a character of one that is divided, comes off the start.
use Rattle.std.proofs.Common.{rules, ◌≡◌, ◌∙◌, ◌+◌, ◌<◌, ◌≤◌, ◌==◌, ◌∷◌, List, ℕ, length, true, false, ap, sym, arith, inl, inr, ◌⊎◌}
use Rattle.std.specs.Prelude.{chars, encode_utf8}
use Rattle.std.proofs.lemmas.Bool.Decides.{nat_tests}
use Rattle.std.proofs.lemmas.Str.{length-encode}
use Rattle.grid_records_measure.specs.Measures.{cost, measure}
use Rattle.tabled_size_wrap.specs.Units.{placed_units}
use Rattle.tabled_size_wrap.specs.declared.line_units.Unit.{Unit}
use Rattle.tabled_size_wrap.proofs.AllUnits.{left, placed-word, placed-divided, placed-character}
use Rattle.tabled_size_wrap.proofs.line_units.LineUnitsIterator.next.Goals as goal
use Rattle.tabled_size_wrap.proofs.line_units.LineUnitsIterator.next.Goals.{then-is_empty+else-not-is_empty, else-not-is_empty-via-then-not-is_empty+else-cost-self, else-not-is_empty-via-else-not-is_empty, else-is_empty}

pub returns-then-cost-self-clause-steps : goal.returns-then-cost-self-clause-steps
returns-then-cost-self-clause-steps c =
    let inside = c.self.inside in
    let word = c.split_word.result.0.now in
    let rest = c.split_word.result.1.now in
    let empty : (length inside.characters.now == 0) ≡ true = sym c.is_empty.ensures ∙ c.if-is_empty.true in
    let none : length inside.characters.now ≡ 0 = grind (arith, nat_tests) in
    let not-empty : (length word == 0) ≡ false = sym c.is_empty-then-is_empty.ensures ∙ c.if-not-is_empty.true in
    let some : 0 < length word = grind (arith, nat_tests) in
    let fits : measure (chars word) ≤ inside.width = omega (arith, c.if-cost-self.true, c.word_cost-cost.ensures) in
    sym c.self.view_is
    ∙ placed-word inside.width inside.place inside.characters.now inside.words.now word rest c.split_word.ensures none some fits
    ∙ ap (λ n. record { start = inside.place; end = inside.place + length word; cost = n } ∷ placed_units (inside.place + length word) (left inside.width inside.characters.now rest)) (sym c.word_cost-cost.ensures)

pub returns-then-cost-self-clause-goes : goal.returns-then-cost-self-clause-goes
returns-then-cost-self-clause-goes c = let steps = returns-then-cost-self-clause-steps c in search (rules, steps)

pub returns-clause-steps : goal.returns-clause-steps
returns-clause-steps c =
    let inside = c.self.inside in
    let joined = c.if-is_empty.self-inside in
    let character = c.in_ok-c.c in
    let rest = c.in_ok-c.rest.now in
    let len : length (encode_utf8 character) ≡ c.len_utf8.result = length-encode character ∙ sym c.len_utf8.ensures.value in
    let unit-at : ℕ → ℕ → List Unit = λ n k. record { start = inside.place; end = inside.place + n; cost = k } ∷ placed_units (inside.place + n) (left inside.width rest joined.1.1.0.now) in
    let taken : placed_units inside.place (left inside.width joined.1.0.now joined.1.1.0.now) ≡ unit-at c.len_utf8.result c.cost.result =
    placed-character inside.width inside.place joined.1.0.now rest joined.1.1.0.now character c.in_ok-c.ensures.1
    ∙ ap (λ n. unit-at n (cost character)) len ∙ ap (unit-at c.len_utf8.result) (sym c.cost.ensures) in
    let same : placed_units inside.place (left inside.width inside.characters.now inside.words.now) ≡ placed_units inside.place (left inside.width joined.1.0.now joined.1.1.0.now) =
    elim c.if-is_empty.branch [
      | then-is_empty+else-not-is_empty w ↦
          let h = w.self-inside-is in
          let word = w.split_word.result.0.now in
          let behind = w.split_word.result.1.now in
          let characters-are : word ≡ joined.1.0.now = cc in
          let words-are : behind ≡ joined.1.1.0.now = sym (ap (λ t. t.1.1.0.now) h) in
          let empty : (length inside.characters.now == 0) ≡ true = sym c.is_empty.ensures ∙ w.if-is_empty.true in
          let none : length inside.characters.now ≡ 0 = grind (arith, nat_tests) in
          let why : length word ≡ 0 ⊎ (inside.width < measure (chars word)) =
          elim w.else-not-is_empty.branch [
            | else-not-is_empty-via-then-not-is_empty+else-cost-self w' ↦ inr (omega (arith, w'.if-cost-self.false, w.word_cost-cost.ensures))
            | else-not-is_empty-via-else-not-is_empty w' ↦
                let no-word : (length word == 0) ≡ true = sym w.is_empty-then-is_empty.ensures ∙ w'.if-not-is_empty.false in
                inl (grind (arith, nat_tests))
          ] in
          placed-divided inside.width inside.place inside.characters.now inside.words.now word behind w.split_word.ensures none why
          ∙ ap (λ (bytes : List ℕ). placed_units inside.place (left inside.width bytes behind)) characters-are
          ∙ ap (λ (bytes : List ℕ). placed_units inside.place (left inside.width joined.1.0.now bytes)) words-are
      | else-is_empty w ↦
          let h = w.self-inside-is in
          let characters-are : inside.characters.now ≡ joined.1.0.now = cc in
          let words-are : inside.words.now ≡ joined.1.1.0.now = sym (ap (λ t. t.1.1.0.now) h) in
          ap (λ (bytes : List ℕ). placed_units inside.place (left inside.width bytes inside.words.now)) characters-are
          ∙ ap (λ (bytes : List ℕ). placed_units inside.place (left inside.width joined.1.0.now bytes)) words-are
    ] in
    sym c.self.view_is ∙ same ∙ taken

pub returns-clause-goes : goal.returns-clause-goes
returns-clause-goes c = let steps = returns-clause-steps c in search (rules, steps)
