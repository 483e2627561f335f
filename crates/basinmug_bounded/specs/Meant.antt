-- What a request means with its lists.
use Rattle.std.specs.Prelude.{◌≡◌, ◌==◌, List, Option, None, Some, get_or, map}
use Rattle.basinmug_bounded.specs.Lists.{Texts, list_in}
use Rattle.basinmug_bounded.specs.Requests.{all_escapes, all_rules, columns_shown, first_fault, line_styles, number_in, priorities}
use Rattle.basinmug_bounded.specs.declared.refusal.ListFault.{ListFault}
use Rattle.basinmug_bounded.specs.declared.refusal.ListFault.TheVariants.{Columns, Align, Color}
use Rattle.basinmug_bounded.specs.declared.refusal.Refusal.{Refusal}
use Rattle.basinmug_bounded.specs.declared.refusal.Refusal.TheVariants.{Request, List as OfList, Cell, Run, OverMaxSize}
use Rattle.basinmug_bounded.specs.declared.request.PrintRequest.{PrintRequest}
use Rattle.basinmug_run.specs.declared.fault.RunFault.TheVariants.{Memory}
use Rattle.basinmug_run.specs.declared.options.ColumnsShown.TheVariants.{Fitting}
use Rattle.basinmug_values.specs.Choices.{Chosen, chosen_listed, chosen_of}
use Rattle.basinmug_values.specs.Lists.{Column, listed, seen_items}
use Rattle.basinmug_values.specs.Names.{alignment_named}
use Rattle.grid_config.specs.Ansi.Colors.{Color as CellColor}
use Rattle.grid_config_values.specs.declared.alignment.AlignmentHorizontal.{AlignmentHorizontal}
use Rattle.program_options.specs.ColorList.Listed.{color_of_name}
use Rattle.program_options.specs.declared.basinmug.Escapes.TheVariants.{Colors}
use Rattle.program_options.specs.declared.basinmug.LineStyle.TheVariants.{Rounded}
use Rattle.basinmug_run.specs.declared.options.Options.{Options}
use Rattle.program_options.specs.declared.basinmug.Rules.TheVariants.{Header}
use Rattle.tabled_size_priority.specs.declared.choice.Choice.TheVariants.{MaxRight}

-- what each list says
abbrev pub columns_in : Texts → Option (List Chosen)
columns_in lists = list_in chosen_listed lists.columns

abbrev pub alignments_in : Texts → Option (List (Column × AlignmentHorizontal))
alignments_in lists = list_in (listed alignment_named) lists.align

abbrev pub colors_in : Texts → Option (List (Column × CellColor))
colors_in lists = list_in (listed color_of_name) lists.color

-- each number of the request has a meaning and each list has the form, and the options are what they mean
pub record AreOptionsOf (request : PrintRequest) (lists : Texts) (options : Options) : Type 0 where
  pub accepted : first_fault request ≡ None
  pub line_style : options.line_style ≡ get_or line_styles request.style Rounded
  pub header : options.header ≡ (request.no_header == 0)
  pub escapes : options.escapes ≡ get_or all_escapes request.escapes Colors
  pub rules : options.rules ≡ get_or all_rules request.rules Header
  pub width : options.width ≡ number_in request.width
  pub truncate : options.truncate ≡ (request.truncate == 1)
  pub priority : options.priority ≡ get_or priorities request.priority MaxRight
  pub columns : columns_in lists ≡ Some (map chosen_of options.columns.items)
  pub alignments : alignments_in lists ≡ Some (seen_items options.alignments.items)
  pub colors : colors_in lists ≡ Some (seen_items options.colors.items)
  pub expanded : options.expanded ≡ (request.expanded == 1)
  pub max_rows : options.max_rows ≡ number_in request.max_rows
  pub tail : options.tail ≡ number_in request.tail
  pub columns_shown : options.columns_shown ≡ get_or columns_shown request.all_columns Fitting

-- a list does not have the form, and those before it do
abbrev pub IsFirstBadList : Texts → ListFault → Type 0
IsFirstBadList lists Columns = columns_in lists ≡ None
IsFirstBadList lists Align = ((chosen : List Chosen) × (columns_in lists ≡ Some chosen)) × (alignments_in lists ≡ None)
IsFirstBadList lists Color =
    ((chosen : List Chosen) × (columns_in lists ≡ Some chosen))
    × ((aligned : List (Column × AlignmentHorizontal)) × (alignments_in lists ≡ Some aligned))
    × (colors_in lists ≡ None)

-- the first number without a meaning; or all have one, and this is the first list without the form, or memory ran out
abbrev pub IsRefusedRequest : PrintRequest → Texts → Refusal → Type 0
IsRefusedRequest request lists (Request fault) = first_fault request ≡ Some fault
IsRefusedRequest request lists (OfList fault) = (first_fault request ≡ None) × IsFirstBadList lists fault
IsRefusedRequest request lists (Run fault) = (first_fault request ≡ None) × (fault ≡ Memory)
IsRefusedRequest request lists (Cell fault) = ⊥
IsRefusedRequest request lists OverMaxSize = ⊥
