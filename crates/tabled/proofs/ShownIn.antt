-- A table as it is shown in a width.
use Rattle.std.proofs.Common.{◌≡◌, ℕ, Option, ap, ◌∙◌}
use Rattle.grid_config_values.specs.declared.alignment.AlignmentHorizontal.{AlignmentHorizontal}
use Rattle.grid_config_values.specs.declared.sides.Indent.{Indent}
use Rattle.grid_config_values.specs.declared.sides.Sides.{Sides}
use Rattle.grid_config.specs.Looks.{Look, look_of}
use Rattle.grid_config.specs.Settings.{Settings}
use Rattle.tabled.specs.Shown.{aligned_look, margin_in}

module _ (align : Option AlignmentHorizontal) (fill : ℕ) where
  abbrev look_in : ℕ → Look → Look
  look_in n look = aligned_look align (record look { margin = margin_in n align fill look.margin })

  -- other margins, and then the alignment, in a copy of the settings
  pub looks_in : (settings given copy changed : Settings) (m n : ℕ) (margin : Sides Indent) (last : Look) →
      given ≡ settings → look_of copy ≡ look_of given → m ≡ n → margin ≡ margin_in m align fill copy.margin → changed ≡ record copy { margin = margin } →
      last ≡ aligned_look align (look_of changed) → last ≡ look_in n (look_of settings)
  looks_in settings given copy changed m n margin last same copied lacks is set of_last =
      of_last ∙ ap (λ settings. aligned_look align (look_of settings)) set
      ∙ ap (λ margin. aligned_look align (record (look_of copy) { margin = margin })) (is ∙ ap (λ n. margin_in n align fill copy.margin) lacks)
      ∙ ap (look_in n) (copied ∙ ap look_of same)
