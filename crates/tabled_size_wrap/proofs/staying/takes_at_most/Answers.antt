-- A character that fits is taken.
use Rattle.std.proofs.Common.{rules, ◌≡◌, ◌∙◌, ℕ, List, [], ◌∷◌, ap, arith, length, nat_le, refl, sym, true, chars}
use Rattle.std.specs.Str.Iter.{chars_rest}
use Rattle.std.proofs.lemmas.Bool.Decides.{nat_tests}
use Rattle.std.proofs.lemmas.Str.{IsUtf8-past_char, chars-nil, chars_past_char}
use Rattle.grid_records_measure.specs.Measures.{line_cost, cost}
use Rattle.tabled_size_wrap.proofs.StayingTexts.{passes_room, takes_room}
use Rattle.tabled_size_wrap.proofs.staying.takes_at_most.Goals as goal

no_bytes : (bytes : List ℕ) → length bytes ≡ 0 → bytes ≡ []
no_bytes [] none = refl
no_bytes (b ∷ bs) none = absurd (omega (arith, none))

pub returns-then-cost-left : goal.returns-then-cost-left
returns-then-cost-left c =
    let l = c.loop-c in
    let behind = chars_rest c.next.new.self in
    let taken : c.max-cost.result ≡ cost c.in-Some.c = omega (arith, c.max-cost.ensures, c.get_char_width.ensures) in
    sym (l.invariant.same ∙ ap (λ cs. nat_le (line_cost cs) l.left) (chars_past_char (chars_rest l.c-iterator) behind c.in-Some.c l.invariant.text c.in-Some.ensures.steps.0)
    ∙ passes_room c.in-Some.c l.left c.max-cost.result (chars behind) taken c.if-cost-left.true)

pub loop-c-preserved : goal.loop-c-preserved
loop-c-preserved c =
    let l = c.loop-c in
    let behind = chars_rest c.next.new.self in
    let taken : c.max-cost.result ≡ cost c.in-Some.c = omega (arith, c.max-cost.ensures, c.get_char_width.ensures) in
    record {
      goes = search rules;
      text = IsUtf8-past_char (chars_rest l.c-iterator) behind c.in-Some.c l.invariant.text c.in-Some.ensures.steps.0;
      same = l.invariant.same ∙ ap (λ cs. nat_le (line_cost cs) l.left) (chars_past_char (chars_rest l.c-iterator) behind c.in-Some.c l.invariant.text c.in-Some.ensures.steps.0)
          ∙ takes_room c.in-Some.c l.left c.max-cost.result (chars behind) taken c.if-cost-left.false;
    }

pub returns : goal.returns
returns c =
    let l = c.loop-c in
    let none : nat_le 0 l.left ≡ true = grind (arith, nat_tests) in
    sym (l.invariant.same
    ∙ ap (λ (text : List ℕ). nat_le (line_cost (chars text)) l.left) (no_bytes (chars_rest l.c-iterator) c.in-None.ensures.steps.0.0)
    ∙ ap (λ (cs : List ℕ). nat_le (line_cost cs) l.left) chars-nil ∙ none)
