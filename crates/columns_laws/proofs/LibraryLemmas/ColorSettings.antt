-- Settings that give columns their colours, one after the other, lead to the table in these colours.
use Rattle.std.proofs.Common.{◌≡◌, ◌==◌, ℕ, Bool, List, [], ◌∷◌, ◌++◌, Option, None, Some, Ok, fold, refl, subst, arith, if◌then◌else◌}
use Rattle.std.proofs.lemmas.Bool.Decides.{nat_tests}
use Rattle.grid_config.specs.Colors.{Color}
use Rattle.grid_config.specs.Looks.{Look}
use Rattle.grid_config_values.specs.declared.entity.Entity.TheVariants.{Column}
use Rattle.grid_config_values.specs.declared.position.Position.{Position}
use Rattle.tabled_list.specs.Lists.{LeadsThrough}
use Rattle.tabled_list.specs.Settings.{setting_step}
use Rattle.tabled_list.specs.declared.setting.Setting.{Setting}
use Rattle.tabled_size.specs.Dimension.Stored.{none_stored}
use Rattle.tabled_steps.specs.Looks.{covering}
use Rattle.tabled_steps.specs.States.{State, state_with}
use Rattle.tabled_list.proofs.StrippingLemmas.OneOutcome.{one-run}
use Rattle.columns_laws.specs.Library.Tables.{color_settings}

-- what is given for a column decides, and where nothing is given what was there
abbrev colored_from : List (ℕ × Color) → (Position → Option Color) → Position → Option Color
colored_from colors before cell = fold (λ found (given : ℕ × Color). if given.0 == cell.col then Some given.1 else found) (before cell) colors

same-test : (a b : ℕ) → (a == b) ≡ (b == a)
same-test a b = grind (arith, nat_tests)

module _ (rows : List (List (List ℕ))) (look : Look) where
  abbrev in_colors : (Position → Option Color) → State
  in_colors colors = state_with rows look colors none_stored

  pub settings-lead : (colors : List (ℕ × Color)) (before : Position → Option Color) → LeadsThrough (color_settings colors) (in_colors before) (in_colors (colored_from colors before))
  settings-lead [] before = refl
  settings-lead (given ∷ colors) before =
      let next : Position → Option Color = covering (Column given.0) (Some given.1) before in
      let same : colored_from colors next ≡ colored_from (given ∷ colors) before =
      (λ k cell. fold (λ found (other : ℕ × Color). if other.0 == cell.col then Some other.1 else found) (if same-test cell.col given.0 k then Some given.1 else before cell) colors) in
      (in_colors next, (Ok (in_colors next), refl, refl), subst (λ (after : Position → Option Color). LeadsThrough (color_settings colors) (in_colors next) (in_colors after)) same (settings-lead colors next))

-- ---- one list

-- the table that the settings at the start lead to
record LeadsOver (settings others : List Setting) (first last : State) : Type 0 where
  between : State
  before : LeadsThrough settings first between
  behind : LeadsThrough others between last

parted : (settings others : List Setting) (first last : State) → LeadsThrough (settings ++ others) first last → LeadsOver settings others first last
parted [] others first last leads = record { between = first; before = refl; behind = leads }
parted (setting ∷ settings) others first last leads =
    let rest = parted settings others leads.0 last leads.2 in
    record { between = rest.between; before = (leads.0, leads.1, rest.before); behind = rest.behind }

module _ (rows : List (List (List ℕ))) (look : Look) (colors : List (ℕ × Color)) (last : State) where
  abbrev bare : State
  bare = in_colors rows look (λ _. None)

  abbrev colored : State
  colored = in_colors rows look (colored_from colors (λ _. None))

  pub colored-is : LeadsThrough (color_settings colors) bare last → colored ≡ last
  colored-is leads = one-run (color_settings colors) bare colored last (settings-lead rows look colors (λ _. None)) leads

  -- a setting after those of colours is a step of the table in these colours
  pub step-behind : (setting : Setting) → LeadsThrough (color_settings colors ++ setting ∷ []) bare last → setting_step setting colored (Ok last)
  step-behind setting leads =
      let found = parted (color_settings colors) (setting ∷ []) bare last leads in
      let same : found.between ≡ colored = one-run (color_settings colors) bare found.between colored found.before (settings-lead rows look colors (λ _. None)) in
      subst (λ (s : State). setting_step setting s (Ok last)) same
      (subst (λ (s : State). setting_step setting found.between (Ok s)) found.behind.2 found.behind.1)
