-- A step over text without the byte, and one over a sequence.
use Rattle.std.proofs.Common.{◌∙◌, ◌+◌, sym, length, [], ◌∷◌, Some, eqb-true}
use Rattle.ansi_scan.specs.Pieces.{pieces}
use Rattle.ansi_str_search.specs.Text.StyledText.{strip}
use Rattle.ansi_str_search.proofs.Finds.{SameMatch-run, SameMatch-sequence, match-found, match-none, match_ends, other_boundary, not_empty, IsUtf8-byte, IsUtf8-shown}
use Rattle.ansi_str_search.proofs.matches.find_byte.Goals as goal

pub range_from-rest-requires : goal.range_from-rest-requires
range_from-rest-requires c = λ some. other_boundary c.args.byte c.requires c.loop-rest.rest.now c.run_len-len.result c.run_len-len.ensures.value

pub loop-rest-preserved-then-begins_with_escape : goal.loop-rest-preserved-then-begins_with_escape
loop-rest-preserved-then-begins_with_escape c = (
  c.behind_item-rest.utf8,
  SameMatch-sequence c.args.byte c.requires c.loop-rest.rest.now c.loop-rest.passed c.args.text.now c.loop-rest.invariant.1 c.run_len-len.result c.run_len-len.ensures.value c.range_from-rest.result.now c.range_from-rest.ensures.value
      c.behind_item-rest.result.now c.behind_item-rest.ensures.parted (sym c.begins_with_escape.ensures ∙ c.if-begins_with_escape.true) c.behind_item-rest.ensures.shorter,
)

pub returns-then-not-is_empty : goal.returns-then-not-is_empty
returns-then-not-is_empty c =
    let some = not_empty (length c.range_from-rest.result.now) c.if-not-is_empty.ensures in
    let found = match-found c.args.byte c.requires c.loop-rest.rest.now c.loop-rest.passed c.args.text.now c.loop-rest.invariant.1 c.run_len-len.result c.run_len-len.ensures.value c.range_from-rest.result.now c.range_from-rest.ensures.value
    (sym c.begins_with_escape.ensures ∙ c.if-begins_with_escape.false) some in
    record {
      found = found;
      ends = match_ends (c.args.byte ∷ []) 0 (strip (pieces c.args.text.now)) (Some (c.loop-rest.passed + c.run_len-len.result)) (IsUtf8-byte c.args.byte c.requires) (IsUtf8-shown c.args.text.now c.utf8.text) found;
    }

pub loop-rest-preserved : goal.loop-rest-preserved
loop-rest-preserved c = (
  c.range_from-rest.utf8,
  SameMatch-run c.args.byte c.requires c.loop-rest.rest.now c.loop-rest.passed c.args.text.now c.loop-rest.invariant.1 c.run_len-len.result c.run_len-len.ensures.value c.range_from-rest.result.now c.range_from-rest.ensures.value,
)

pub returns-clause-found : goal.returns-clause-found
returns-clause-found c = match-none c.args.byte c.loop-rest.rest.now c.loop-rest.passed c.args.text.now c.loop-rest.invariant.1 (eqb-true (length c.loop-rest.rest.now) 0 (sym c.is_empty.ensures ∙ c.loop-rest-test.false))
