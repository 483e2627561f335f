-- A refusal leaves nothing, where parts were left.
use Rattle.std.proofs.Common.{rules, ◌≡◌, ◌∙◌, ◌<◌, [], length, IsTrue, Option, None, Some, ap, sym, subst, refl, arith}
use Rattle.ansi_scan.specs.Pieces.{pieces}
use Rattle.ansi_str_search.specs.declared.rest.Rest.{Rest}
use Rattle.ansi_str_search.specs.Rests.{rest_parts, parts_of, can_fail, what_is_left}
use Rattle.ansi_str_search.specs.Splitting.{PartsLeft}
use Rattle.ansi_str_search.proofs.FirstMatch.{parts_left-some}
use Rattle.ansi_str_search.proofs.split.AnsiSplitIterator.next.Goals as goal

refused-none : (rest : Rest) → IsTrue rest.styled → (IsTrue (can_fail None) → IsTrue rest.styled) × ((0 < length (rest_parts rest)) × (parts_of None ≡ []) × IsTrue rest.styled)
refused-none rest styled =
    let some = parts_left-some rest.pattern.now rest.begun rest.place.style (pieces rest.place.rest.now) in
    ((λ none. styled), (omega (arith, some), refl, styled))

refused : (old : PartsLeft) (held new : Option Rest) (rest : Rest) → old ≡ what_is_left held → held ≡ Some rest → new ≡ None → IsTrue rest.styled
    → (IsTrue (can_fail new) → IsTrue old.can_fail) × ((0 < length old.parts) × (parts_of new ≡ []) × IsTrue old.can_fail)
refused old held new rest is_left same none styled =
    subst (λ (o : PartsLeft). (IsTrue (can_fail new) → IsTrue o.can_fail) × ((0 < length o.parts) × (parts_of new ≡ []) × IsTrue o.can_fail)) (sym (is_left ∙ ap what_is_left same))
    (subst (λ (o : Option Rest). (IsTrue (can_fail o) → IsTrue rest.styled) × ((0 < length (rest_parts rest)) × (parts_of o ≡ []) × IsTrue rest.styled)) (sym none) (refused-none rest styled))

pub returns-in-Err-clause-steps : goal.returns-in-Err-clause-steps
returns-in-Err-clause-steps c = refused c.args.self.now c.self.inside.rest c.take.new.self c.in_ok-rest.rest (sym c.self.view_is) (sym c.take.ensures.value ∙ c.in_ok-rest.was) c.take.ensures.after c.in-Err.ensures.refuses

pub returns-in-Err-clause-goes : goal.returns-in-Err-clause-goes
returns-in-Err-clause-goes c = let steps = returns-in-Err-clause-steps c in search (rules, steps)
