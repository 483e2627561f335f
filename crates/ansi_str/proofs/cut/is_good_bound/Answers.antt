-- A step over a sequence or over text.
use Rattle.std.proofs.Common.{◌≡◌, ◌∙◌, ◌-◌, ◌<◌, ◌≤◌, ℕ, List, length, sym, subst, true, false, arith, eqb-true, refl}
use Rattle.ansi_str_search.proofs.Walks.{run_none}
use Rattle.ansi_str.proofs.CutSteps.{SameBound, SameBound-plain, bound-inside, bound-sequence, bound-front, bound-end, run-left}
use Rattle.ansi_str.proofs.cut.is_good_bound.Goals as goal

pub loop-left-preserved-then-len-eq0 : goal.loop-left-preserved-then-len-eq0
loop-left-preserved-then-len-eq0 c =
    let rest = c.loop-left.rest.now in
    let parted = c.behind_item-rest.ensures.parted in
    let some : 0 < c.loop-left.left = c.loop-left-test.true in
    let short : c.text_len-len.result ≤ 0 = omega (arith, c.if-len-eq0.true) in
    let none = run_none rest c.loop-left.left c.text_len-len.result c.text_len-len.ensures.value short some in (
      c.behind_item-rest.utf8,
      bound-sequence rest c.loop-left.left c.args.text.now c.args.at c.loop-left.invariant.1 c.behind_item-rest.result.now parted.first parted.parted none,
    )

pub overflow_sub-left : goal.overflow_sub-left
overflow_sub-left c = run-left c.loop-left.rest.now c.loop-left.left c.text_len-len.result c.text_len-len.ensures.value

pub loop-left-preserved : goal.loop-left-preserved
loop-left-preserved c =
    let rest = c.loop-left.rest.now in (
      c.range_from-rest.utf8,
      subst (λ (bytes : List ℕ). SameBound bytes (c.loop-left.left - c.text_len-len.result) c.args.text.now c.args.at) (sym c.range_from-rest.ensures.value)
          (SameBound-plain rest c.loop-left.left c.args.text.now c.args.at c.loop-left.invariant.1 c.text_len-len.result c.text_len-len.ensures.value),
    )

pub returns-else-is_char_boundary : goal.returns-else-is_char_boundary
returns-else-is_char_boundary c = (
  λ e. cc e,
  λ good. let inside = c.is_char_boundary.ensures.test.1 (bound-inside c.loop-left.rest.now c.loop-left.left c.args.text.now c.args.at c.loop-left.invariant.1 c.text_len-len.result c.text_len-len.ensures.value good) in
      let both : false ≡ true = sym c.if-is_char_boundary.false ∙ inside in cc both,
)

pub returns-else-not-is_empty : goal.returns-else-not-is_empty
returns-else-not-is_empty c = (
  λ _. bound-end c.loop-left.rest.now c.loop-left.left c.args.text.now c.args.at c.loop-left.invariant.1 (eqb-true (length c.loop-left.rest.now) 0 (sym c.if-not-is_empty.ensures)),
  λ _. refl,
)

pub returns-after-loop-left : goal.returns-after-loop-left
returns-after-loop-left c = (
  λ _. bound-front c.loop-left.rest.now c.loop-left.left c.args.text.now c.args.at c.loop-left.invariant.1 c.loop-left.invariant.0 (omega (arith, c.loop-left-test.false)),
  λ _. refl,
)
