-- What the parts of a picture are, together.
use Rattle.std.proofs.Common.{◌≡◌, ◌∙◌, ◌⊎◌, ap, inl, inr, subst, ℕ, List, Bool, Result, Ok, Err, map}
use Rattle.std.specs.List.{range_with_len}
use Rattle.std.specs.Prelude.{IfErr, MatchOption, OnOk}
use Rattle.grid_config_values.specs.declared.fault.Fault.{Fault}
use Rattle.grid_config_values.specs.declared.fault.Fault.TheVariants.{Memory as OutOfMemory}
use Rattle.tabled_list.specs.Lists.{LeadsThrough}
use Rattle.tabled_list.specs.declared.setting.Setting.{Setting}
use Rattle.tabled_steps.specs.States.{State}
use Rattle.tabled_text.specs.Rows.{longest}
use Rattle.basinmug_columns.specs.Needs.{needs_of}
use Rattle.basinmug_columns.specs.Numbers.Columns.{is_numeric}
use Rattle.basinmug_columns.specs.declared.rooms.Need.{Need}
use Rattle.basinmug_run.specs.declared.options.Options.{Options}
use Rattle.basinmug_run.specs.Picture.Settings.{settings_of}
use Rattle.basinmug_run.specs.Picture.Narrowing.{IsNotNarrowed, FitsTexts}
use Rattle.basinmug_run.specs.Picture.Pictures.{IsMade, IsNotMade, asked_settings, narrowed_to, needs_in, numeric_of}
use Rattle.basinmug_run.specs.Picture.Rows.{header_of, records_of}

pub numeric-is : (header : Bool) (rows records : List (List (List ℕ))) (columns : ℕ) (numeric : List Bool) → numeric ≡ map (is_numeric records) (range_with_len 0 columns) → records ≡ records_of header rows → columns ≡ longest rows
    → numeric ≡ numeric_of header rows
numeric-is header rows records columns numeric is are count =
    is ∙ ap (λ (it : List (List (List ℕ))). map (is_numeric it) (range_with_len 0 columns)) are ∙ ap (λ n. map (is_numeric (records_of header rows)) (range_with_len 0 n)) count

pub settings-are : (options : Options) (rows : List (List (List ℕ))) (header : List (List ℕ)) (numeric : List Bool) (settings : List Setting)
    → settings ≡ settings_of options.line_style header numeric options.alignments.items options.colors.items → header ≡ header_of options.header rows → numeric ≡ numeric_of options.header rows → settings ≡ asked_settings options rows
settings-are options rows header numeric settings are head is =
    are ∙ ap (λ (it : List (List ℕ)). settings_of options.line_style it numeric options.alignments.items options.colors.items) head
    ∙ ap (λ (it : List Bool). settings_of options.line_style (header_of options.header rows) it options.alignments.items options.colors.items) is

pub needs-are : (has_header : Bool) (rows : List (List (List ℕ))) (header : List (List ℕ)) (records : List (List (List ℕ))) (numeric : List Bool) (needs : List Need)
    → needs ≡ needs_of header records numeric → header ≡ header_of has_header rows → records ≡ records_of has_header rows → numeric ≡ numeric_of has_header rows → needs ≡ needs_in has_header rows
needs-are has_header rows header records numeric needs are head rest is =
    are ∙ ap (λ (it : List (List ℕ)). needs_of it records numeric) head ∙ ap (λ (it : List (List (List ℕ))). needs_of (header_of has_header rows) it numeric) rest
    ∙ ap (needs_of (header_of has_header rows) (records_of has_header rows)) is

module _ (options : Options) (settings list : List Setting) (needs given : List Need) (old after : State) where
  -- a table is made by its settings, and then by its width
  pub made-by : list ≡ settings → given ≡ needs → LeadsThrough list old after → (new : State) (r : Result Bool Fault)
      → OnOk r (MatchOption (narrowed_to options) (new ≡ after) (λ width. FitsTexts options.truncate options.priority given width after new)) → OnOk r (IsMade options settings needs old new)
  made-by listed numbered run new (Err fault) narrowed = tt
  made-by listed numbered run new (Ok wider) narrowed = (
    after,
    subst (λ (it : List Setting). LeadsThrough it old after) listed run,
    subst (λ (it : List Need). MatchOption (narrowed_to options) (new ≡ after) (λ width. FitsTexts options.truncate options.priority it width after new)) numbered narrowed,
  )

  not-made : list ≡ settings → given ≡ needs → LeadsThrough list old after → (fault : Fault)
      → (fault ≡ OutOfMemory) ⊎ MatchOption (narrowed_to options) ⊥ (λ width. IsNotNarrowed options.truncate options.priority given width after fault) → (fault ≡ OutOfMemory) ⊎ IsNotMade options settings needs old fault
  not-made listed numbered run fault (inl is) = inl is
  not-made listed numbered run fault (inr out) = inr (inr (
    after,
    subst (λ (it : List Setting). LeadsThrough it old after) listed run,
    subst (λ (it : List Need). MatchOption (narrowed_to options) ⊥ (λ width. IsNotNarrowed options.truncate options.priority it width after fault)) numbered out,
  ))

  -- it is not made, since it is not made narrower
  pub not-made-by : list ≡ settings → given ≡ needs → LeadsThrough list old after → (r : Result Bool Fault)
      → IfErr r (λ fault. (fault ≡ OutOfMemory) ⊎ MatchOption (narrowed_to options) ⊥ (λ width. IsNotNarrowed options.truncate options.priority given width after fault))
      → IfErr r (λ fault. (fault ≡ OutOfMemory) ⊎ IsNotMade options settings needs old fault)
  not-made-by listed numbered run (Ok wider) out = tt
  not-made-by listed numbered run (Err fault) out = not-made listed numbered run fault out
