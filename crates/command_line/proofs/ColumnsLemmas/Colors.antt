-- The colours of a run that is requested close.
use Rattle.std.proofs.Common.{◌≡◌, ℕ, Bool, List, Option, None, Some, IfSome, codes, subst}
use Rattle.std.specs.List.{AllByRecursion}
use Rattle.std.proofs.lemmas.List.Elements.{All-from_recursion}
use Rattle.clap.specs.Simple.{matches_of}
use Rattle.clap.specs.Walk.{first_of}
use Rattle.program_options.proofs.ColorListLemmas.ClosedLists.{lists-close}
use Rattle.program_options.specs.Columns.ColumnColors.{AllClose}
use Rattle.program_options.specs.declared.columns.options.Options.{Options}
use Rattle.command_line.specs.Columns.Asking.{IsAnswer, colors_asked}
use Rattle.command_line.specs.declared.columns.words.Asked.TheVariants.{Run}
use Rattle.grid_config.specs.Colors.{Color}
use Rattle.papergrid_picture.specs.Colors.ClosingColors.{IsClosing}

abbrev ClosedOnes : List (ℕ × Color) → Type 0
ClosedOnes colors = AllByRecursion (λ given. IsClosing given.1) colors

given-close : (given : Option (List ℕ)) (colors : List (ℕ × Color)) → colors_asked given ≡ Some colors → ClosedOnes colors
given-close None colors is = subst (λ (found : Option (List (ℕ × Color))). IfSome found ClosedOnes) is tt
given-close (Some list) colors is = subst (λ (found : Option (List (ℕ × Color))). IfSome found ClosedOnes) is (lists-close list)

pub asked-close : (words : List (List ℕ)) (options : Options) (streamed : Bool) → IsAnswer words (Run options streamed) → AllClose options.colors.items
asked-close words options streamed answer =
    All-from_recursion (λ (given : ℕ × Color). IsClosing given.1) options.colors.items
    (given-close (first_of (codes "color") (matches_of answer.command words)) options.colors.items answer.answer.1.colors)
