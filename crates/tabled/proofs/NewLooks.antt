-- What settings look like once they are set.
use Rattle.std.proofs.Common.{◌≡◌, false, true, Result, Ok, Err, IsOk, OnOk, ◌∙◌, ap}
use Rattle.std.proofs.Math.Path.{fun_ext}
use Rattle.grid_config_values.specs.declared.entity.Entity.TheVariants.{Global}
use Rattle.grid_config_values.specs.declared.sides.Indent.{Indent}
use Rattle.grid_config_values.specs.declared.sides.Sides.{Sides}
use Rattle.grid_config_values.specs.Settings.{SetsCovered}
use Rattle.grid_config.proofs.Looks.{same_look}
use Rattle.grid_config.specs.Compact.{new_compact}
use Rattle.grid_config.specs.Looks.{Look, compact_look, look_of}
use Rattle.grid_config.specs.Settings.{KeepsOthers, Settings, StartsWith, Padding, new_start}
use Rattle.tabled_options.specs.Options.{spaced_sides}
use Rattle.tabled_glyphs.specs.Glyphs.{ascii}
use Rattle.tabled.specs.Tables.{new_look}

false-true : false ≡ true → ⊥
false-true e = cc

of_ok : {X E : Type 0} (result : Result X E) (P : Type 0) → IsOk result → OnOk result P → P
of_ok result P = elim result as (λ result. IsOk result → OnOk result P → P) [ Ok x ↦ λ is p. p | Err e ↦ λ is p. absurd (false-true is) ]

pub looks_new : {X E : Type 0} (start drawn padded : Settings) (value : Sides Indent) (result : Result X E) → StartsWith new_start start → drawn ≡ record start { borders = ascii } →
    KeepsOthers Padding drawn padded → OnOk result (SetsCovered drawn.padding padded.padding Global value) → IsOk result → value ≡ spaced_sides 1 1 0 0 → look_of padded ≡ new_look
looks_new start drawn padded value result starts draws pads sets is spaced =
    let drawn_look : look_of drawn ≡ record (compact_look new_compact) { borders = ascii } =
    ap look_of draws ∙ ap (λ (look : Look). record look { borders = ascii }) (same_look new_compact start starts) in
    ap look_of pads ∙ ap (λ padding. record (look_of drawn) { padding = padding }) (fun_ext (of_ok result (SetsCovered drawn.padding padded.padding Global value) is sets))
    ∙ ap (λ (sides : Sides Indent). record (look_of drawn) { padding = λ _. sides }) spaced ∙ ap (λ (look : Look). record look { padding = λ _. spaced_sides 1 1 0 0 }) drawn_look
