-- The last list is refused where those before it have the form.
use Rattle.std.proofs.Common.{◌≡◌, List, None, Some, subst, sym}
use Rattle.basinmug_bounded.specs.Meant.{IsFirstBadList, IsRefusedRequest, alignments_in, colors_in, columns_in}
use Rattle.basinmug_bounded.specs.Lists.{IsRefusedList, Texts}
use Rattle.basinmug_bounded.specs.Requests.{first_fault}
use Rattle.basinmug_bounded.specs.declared.refusal.ListFault.TheVariants.{Color}
use Rattle.basinmug_bounded.specs.declared.refusal.Refusal.{Refusal}
use Rattle.basinmug_bounded.specs.declared.refusal.Refusal.TheVariants.{Request, List as OfList, Cell, Run, OverMaxSize}
use Rattle.basinmug_bounded.specs.declared.request.PrintRequest.{PrintRequest}
use Rattle.basinmug_values.specs.Choices.{Chosen}
use Rattle.basinmug_values.specs.Lists.{Column}
use Rattle.grid_config_values.specs.declared.alignment.AlignmentHorizontal.{AlignmentHorizontal}

module _ (request : PrintRequest) (lists : Texts) (chosen : List Chosen) (aligned : List (Column × AlignmentHorizontal)) (first : first_fault request ≡ None)
    (columns : columns_in lists ≡ Some chosen) (alignments : alignments_in lists ≡ Some aligned) where
  pub color-refused : (refusal : Refusal) → IsRefusedList Color (colors_in lists) refusal → IsRefusedRequest request lists refusal
  color-refused (OfList fault) refused = (first, subst (IsFirstBadList lists) (sym refused.1) ((chosen, columns), (aligned, alignments), refused.0))
  color-refused (Run fault) refused = (first, refused)
  color-refused (Request fault) refused = absurd refused
  color-refused (Cell fault) refused = absurd refused
  color-refused OverMaxSize refused = absurd refused
