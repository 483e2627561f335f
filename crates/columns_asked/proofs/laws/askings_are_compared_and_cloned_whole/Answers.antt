-- Two width limits are equal by `==` where their parts are, and the other way round.
use Rattle.std.proofs.Common.{◌≡◌, Bool, List, [], ◌∷◌, ap}
use Rattle.std.proofs.Math.Bool.{beq}
use Rattle.std.proofs.lemmas.Bool.{eqb-true}
use Rattle.std.specs.Option.{option_eq}
use Rattle.columns_asked.specs.WidthLimits.{WidthLimit}
use Rattle.columns_asked.proofs.laws.askings_are_compared_and_cloned_whole.Goals as goal
use Rattle.grid_config_values.proofs.Equality.{each_passes, number_eq, numbers_pass, passes_all, same_option, switch_passes, switch_same}
use Rattle.tabled_size_priority.proofs.Names.{name_passes, name_same}
use Rattle.tabled_size_priority.specs.contracts.choice.ChoicePartialEq.TheImpl.{ghosts as names}

-- the tests after that of the width
abbrev other_tests : WidthLimit → WidthLimit → List Bool
other_tests a b = beq a.truncate b.truncate ∷ beq a.keep_words b.keep_words ∷ names.eq a.priority b.priority ∷ []

pub returns-clause-equality : goal.returns-clause-equality
returns-clause-equality c = λ a b. (
  λ e.
      let each = each_passes (option_eq number_eq a.width b.width) (other_tests a b) e in
      let width : a.width ≡ b.width = same_option number_eq eqb-true a.width b.width each.0 in
      let truncate = switch_same a.truncate b.truncate each.1.0 in
      let keep_words = switch_same a.keep_words b.keep_words each.1.1.0 in
      let priority = name_same a.priority b.priority each.1.1.1 in
      λ i. record {
        width = width i;
        truncate = truncate i;
        keep_words = keep_words i;
        priority = priority i;
      },
  λ same. passes_all (option_eq number_eq a.width b.width) (other_tests a b) (
    numbers_pass a.width b.width (ap (λ (it : WidthLimit). it.width) same),
    (
      switch_passes a.truncate b.truncate (ap (λ (it : WidthLimit). it.truncate) same),
      (
        switch_passes a.keep_words b.keep_words (ap (λ (it : WidthLimit). it.keep_words) same),
        name_passes a.priority b.priority (ap (λ (it : WidthLimit). it.priority) same),
      ),
    ),
  ),
)
