use Rattle.std.proofs.Common.{◌∙◌, map, sym}
use Rattle.basinmug_bounded.proofs.OfRequests.{color-refused}
use Rattle.basinmug_bounded.proofs.options.options_of.Goals as goal
use Rattle.basinmug_bounded.specs.Lists.{texts_of}
use Rattle.basinmug_run.proofs.PictureLemmas.Narrowed.{err-told}
use Rattle.basinmug_values.specs.Choices.{chosen_of}
use Rattle.basinmug_values.specs.Lists.{seen_items}

pub returns-in_err-options-3-clause-refused : goal.returns-in_err-options-3-clause-refused
returns-in_err-options-3-clause-refused c =
    err-told c.from_residual-in_err-options-3.result c.in_err-options-3.field-0.0 _ c.from_residual-in_err-options-3.ensures.1
    (color-refused c.args.request.now (texts_of c.args.lists) (map chosen_of c.in_ok-options.field-0.items) (seen_items c.in_ok-options-2.field-0.items)
    (sym c.first_fault.ensures ∙ c.in_default.is) c.in_ok-options.ensures.read c.in_ok-options-2.ensures.read
    c.in_err-options-3.field-0.0 c.in_err-options-3.ensures.refused)
