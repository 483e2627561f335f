-- A step over the bytes that are the same, and over a sequence after them.
use Rattle.std.proofs.Common.{◌≡◌, ◌∙◌, ap, sym, subst, length, List, ℕ, eqb-true}
use Rattle.ansi_scan.specs.Pieces.{pieces}
use Rattle.ansi_str_search.specs.Text.StyledText.{strip}
use Rattle.ansi_str_search.specs.Walking.{shared_len, IsBehindFirst}
use Rattle.ansi_str_search.proofs.Finds.{not_empty}
use Rattle.ansi_str_search.proofs.Searches.{shared-fails, shared-all, shared-sequence, begins_with-none_left, escape-cut}
use Rattle.ansi_str_search.proofs.search.shows_first.Goals as goal

pub returns-then-not-is_escape_at : goal.returns-then-not-is_escape_at
returns-then-not-is_escape_at c =
    let p = c.loop-rest.left.now in
    let t = c.loop-rest.rest.now in
    let left = c.split_at.result.1.now in
    sym (sym c.loop-rest.invariant.1 ∙ shared-fails p t c.shared_len-len.result (c.shared_len-len.ensures.value ∙ ap (λ (bytes : List ℕ). shared_len c.loop-rest.left.now bytes) c.as_bytes.ensures.value) left c.split_at.ensures.back (not_empty (length left) c.if-not-is_empty.ensures) (sym c.is_escape_at.ensures ∙ c.if-not-is_escape_at.true))

pub range_from-requires : goal.range_from-requires
range_from-requires c = λ some. escape-cut c.loop-rest.rest.now c.shared_len-len.result (sym c.is_escape_at.ensures ∙ c.if-not-is_escape_at.false)

pub loop-rest-preserved-then-not-is_empty : goal.loop-rest-preserved-then-not-is_empty
loop-rest-preserved-then-not-is_empty c =
    let p = c.loop-rest.left.now in
    let t = c.loop-rest.rest.now in
    let left = c.split_at.result.1.now in
    let behind = c.behind_item-rest.result.now in
    let first = subst (λ (bytes : List ℕ). IsBehindFirst (pieces bytes) (pieces behind)) c.range_from.ensures.value c.behind_item-rest.ensures.parted in (
      c.behind_item-rest.utf8,
      shared-sequence p t c.shared_len-len.result (c.shared_len-len.ensures.value ∙ ap (λ (bytes : List ℕ). shared_len c.loop-rest.left.now bytes) c.as_bytes.ensures.value) left c.split_at.ensures.back behind first (sym c.is_escape_at.ensures ∙ c.if-not-is_escape_at.false) ∙ c.loop-rest.invariant.1,
    )

pub loop-rest-preserved : goal.loop-rest-preserved
loop-rest-preserved c =
    let left = c.split_at.result.1.now in
    let gone : length left ≡ 0 = eqb-true (length left) 0 (sym c.is_empty-in-loop-rest.ensures ∙ c.if-not-is_empty.false) in (
      c.loop-rest.invariant.0,
      begins_with-none_left left (strip (pieces c.loop-rest.rest.now)) gone
          ∙ sym (shared-all c.loop-rest.left.now c.loop-rest.rest.now c.shared_len-len.result (c.shared_len-len.ensures.value ∙ ap (λ (bytes : List ℕ). shared_len c.loop-rest.left.now bytes) c.as_bytes.ensures.value) left c.split_at.ensures.back gone) ∙ c.loop-rest.invariant.1,
    )
