-- A list of settings is run one by one.
use Rattle.std.proofs.Common.{◌≡◌, ◌<◌, ◌+◌, ◌++◌, ◌∙◌, ℕ, List, [], ◌∷◌, Result, Ok, ap, get_or, length, refl, subst, sym, take}
use Rattle.std.proofs.lemmas.List.{take_more}
use Rattle.grid_config_values.specs.declared.fault.Fault.{Fault}
use Rattle.tabled_list.specs.Lists.{LeadsThrough}
use Rattle.tabled_list.specs.Settings.{setting_step}
use Rattle.tabled_list.specs.declared.setting.Setting.{Setting}
use Rattle.tabled_steps.specs.States.{State, Steps}

-- one setting more
pub run_more : (settings : List Setting) (setting : Setting) (old now next : State) → LeadsThrough settings old now → setting_step setting now (Ok next) → LeadsThrough (settings ++ setting ∷ []) old next
run_more [] setting old now next run stepped = (next, subst (λ (s : State). setting_step setting s (Ok next)) (sym run) stepped, refl)
run_more (first ∷ settings) setting old now next run stepped = (run.0, run.1, run_more settings setting run.0 now next run.2 stepped)

-- the one at an index, after those before it
pub run_next : {T : Type 0} (settings : List Setting) (index : ℕ) (setting : Setting) (result : Result T Fault) (x : T) (old now next : State) → index < length settings → setting ≡ get_or settings index setting →
    LeadsThrough (take index settings) old now → Steps (setting_step setting) result now next → result ≡ Ok x → LeadsThrough (take (index + 1) settings) old next
run_next {T} settings index setting result x old now next inside is run stepped done =
    subst (λ (part : List Setting). LeadsThrough part old next)
    (sym (take_more settings index setting inside ∙ ap (λ (it : Setting). take index settings ++ it ∷ []) (sym is)))
    (run_more (take index settings) setting old now next run (subst (λ (result : Result T Fault). Steps (setting_step setting) result now next) done stepped))
