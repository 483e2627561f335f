-- A step over a sequence.
use Rattle.std.proofs.Common.{◌∙◌, sym}
use Rattle.ansi_str_search.proofs.Walks.{escape_first, strip-sequence}
use Rattle.ansi_str_search.proofs.matches.behind_sequences.Goals as goal

pub loop-rest-preserved : goal.loop-rest-preserved
loop-rest-preserved c =
    let rest = c.loop-rest.rest.now in
    let first = c.behind_item-rest.ensures.parted in (
      c.behind_item-rest.utf8,
      sym (strip-sequence rest c.behind_item-rest.result.now first.first first.parted (escape_first rest (sym c.begins_with_escape.ensures ∙ c.loop-rest-test.true)).0) ∙ c.loop-rest.invariant.1,
    )
