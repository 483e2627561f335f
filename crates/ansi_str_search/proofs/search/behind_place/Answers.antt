-- A step over text, and over a sequence after it.
use Rattle.std.proofs.Common.{◌≡◌, ◌-◌, ◌∙◌, true, false, ap, sym, subst, length, List, ℕ, arith, eqb-true}
use Rattle.ansi_scan.specs.Pieces.{text_len}
use Rattle.ansi_str_search.proofs.Searches.{IsSamePlace, place-found, place-past, place-cut, run-low, run-ends, IsSamePlace-plain, IsSamePlace-sequence}
use Rattle.ansi_str_search.proofs.search.behind_place.Goals as goal

pub returns-then-not-is_char_boundary : goal.returns-then-not-is_char_boundary
returns-then-not-is_char_boundary c = λ at.
    let l = c.loop-left in
    let cut = place-cut l.rest.now l.left c.args.text.now c.args.n l.invariant.1 c.text_len-len.result c.text_len-len.ensures.value at in
    let both : true ≡ false = sym (c.is_char_boundary.ensures.test.1 cut) ∙ c.if-not-is_char_boundary.true in
    cc both

pub overflow_sub-left : goal.overflow_sub-left
overflow_sub-left c = run-low c.loop-left.rest.now c.loop-left.left c.args.text.now c.args.n c.loop-left.invariant.1 c.text_len-len.result c.text_len-len.ensures.value

pub returns-then-is_empty : goal.returns-then-is_empty
returns-then-is_empty c =
    let l = c.loop-left in
    let step = IsSamePlace-plain l.rest.now l.left c.args.text.now c.args.n l.invariant.1 c.text_len-len.result c.text_len-len.ensures.value in
    let here = subst (λ (rest : List ℕ). IsSamePlace rest (l.left - c.text_len-len.result) c.args.text.now c.args.n) (sym c.range_from-rest.ensures.value) step in
    place-past c.range_from-rest.result.now (l.left - c.text_len-len.result) c.args.text.now c.args.n here (eqb-true (length c.range_from-rest.result.now) 0 (sym c.is_empty.ensures ∙ c.if-is_empty.true)) c.if-left-gt0.true

pub loop-left-preserved-then-left-gt0 : goal.loop-left-preserved-then-left-gt0
loop-left-preserved-then-left-gt0 c =
    let l = c.loop-left in
    let k = c.text_len-len.result in
    let rest = c.range_from-rest.result.now in
    let step = IsSamePlace-plain l.rest.now l.left c.args.text.now c.args.n l.invariant.1 k c.text_len-len.ensures.value in
    let here = subst (λ (bytes : List ℕ). IsSamePlace bytes (l.left - k) c.args.text.now c.args.n) (sym c.range_from-rest.ensures.value) step in
    let ends = run-ends l.rest.now l.left c.args.text.now c.args.n l.invariant.1 k c.text_len-len.ensures.value c.if-left-gt0.true in (
      c.behind_item-rest.utf8,
      IsSamePlace-sequence rest (l.left - k) c.args.text.now c.args.n here c.behind_item-rest.result.now c.behind_item-rest.ensures.parted (ap text_len c.range_from-rest.ensures.value ∙ ends) c.if-left-gt0.true,
    )

pub loop-left-preserved : goal.loop-left-preserved
loop-left-preserved c =
    let l = c.loop-left in
    let k = c.text_len-len.result in
    let step = IsSamePlace-plain l.rest.now l.left c.args.text.now c.args.n l.invariant.1 k c.text_len-len.ensures.value in (
      c.range_from-rest.utf8,
      subst (λ (bytes : List ℕ). IsSamePlace bytes (l.left - k) c.args.text.now c.args.n) (sym c.range_from-rest.ensures.value) step,
    )

pub returns : goal.returns
returns c =
    let l = c.loop-left in
    let none : l.left ≡ 0 = omega (arith, c.loop-left-test.false) in
    place-found l.rest.now l.left c.args.text.now c.args.n l.invariant.1 none l.invariant.0
