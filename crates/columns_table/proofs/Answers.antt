-- What both ways to a table know of it.
use Rattle.std.proofs.Common.{◌≡◌, ◌⊎◌, inl, inr, ℕ, List, Option, None, Some, Result, Ok, Err, OnOk, IfErr, ap, sym, subst, ◌∙◌}
use Rattle.std.specs.Option.{option_map}
use Rattle.std.proofs.lemmas.Result.{IfErr-weaker}
use Rattle.grid_config.specs.Compact.{Compact}
use Rattle.grid_config_values.specs.declared.fault.Fault.{Fault}
use Rattle.grid_config_values.specs.declared.fault.Fault.TheVariants.{Memory, Range, Room, Spans}
use Rattle.grid_records_estimate.specs.Sizes.{IsRefusal}
use Rattle.papergrid_picture.specs.Fitting.{FitsAnswer, InRange, first_too_wide, table_width}
use Rattle.columns_asked.specs.DrawnTables.{AskedInRange, asked_frame, frame_under, resized_rows, narrow, narrowed, too_wide, widths_of}
use Rattle.columns_asked.specs.declared.asked.WidthLimit.{WidthLimit}
use Rattle.columns_table.specs.Answers.{HasTable, MayBeRefused}
use Rattle.columns_table.proofs.Narrowed.{fits-natural, room-natural}

module _ (style : Compact) (asked : WidthLimit) (texts : List (List (List ℕ))) where
  -- that there is a table, or why there is none
  pub record Known {A : Type 0} (table : Result A Fault) : Type 0 where
    pub fits : OnOk table (HasTable style asked texts)
    pub refused : IfErr table (MayBeRefused style asked texts)

  -- the sizes that were found determine the widths
  pub narrow-is : (widths : List ℕ) (total : ℕ) → widths ≡ widths_of style texts → total ≡ table_width (frame_under style texts) → narrow style asked widths total asked.width ≡ narrowed style asked texts
  narrow-is widths total wide same = ap (λ (found : List ℕ). narrow style asked found total asked.width) wide ∙ ap (λ (n : ℕ). narrow style asked (widths_of style texts) n asked.width) same

  may-refuse : InRange (frame_under style texts) → (fault : Fault) → FitsAnswer (asked_frame style asked texts) (resized_rows style asked texts) (Unit {0}) (Err fault) → MayBeRefused style asked texts fault
  unfolding AskedInRange too_wide
  may-refuse range Memory is = tt
  may-refuse range Range is = λ fits. is.1 fits.1
  may-refuse range Spans is = absurd (is tt)
  may-refuse range (Room row column) is = ((range, is.1), is.2)

  refuses : InRange (frame_under style texts) → (fault : Fault) → (fault ≡ Memory) ⊎ FitsAnswer (asked_frame style asked texts) (resized_rows style asked texts) (Unit {0}) (Err fault) → MayBeRefused style asked texts fault
  refuses range fault (inl memory) = subst (MayBeRefused style asked texts) (sym memory) tt
  refuses range fault (inr is) = may-refuse range fault is

  out-of-range : ¬ (InRange (frame_under style texts)) → ¬ (AskedInRange style asked texts)
  unfolding AskedInRange
  out-of-range out fits = out fits.0

  -- sizes that are refused
  pub sizes-refused : (fault : Fault) → IsRefusal fault (¬ (InRange (frame_under style texts))) → MayBeRefused style asked texts fault
  sizes-refused fault (inl memory) = subst (MayBeRefused style asked texts) (sym memory) tt
  sizes-refused fault (inr range) = subst (MayBeRefused style asked texts) (sym range.0) (out-of-range range.1)

  has-table : InRange (frame_under style texts) → InRange (asked_frame style asked texts) → too_wide style asked texts ≡ None → HasTable style asked texts
  unfolding AskedInRange
  has-table range kept room = record { fits = (range, kept); room = room }

  both : {A : Type 0} (table : Result A Fault) (P Q R : Type 0) → (P → Q → R) → OnOk table P → OnOk table Q → OnOk table R
  both (Ok found) P Q R f p q = f p q
  both (Err fault) P Q R f p q = tt

  pub from-narrowed : {A : Type 0} (table : Result A Fault) → InRange (frame_under style texts) → OnOk table (InRange (asked_frame style asked texts))
      → OnOk table (too_wide style asked texts ≡ None)
      → IfErr table (λ fault. (fault ≡ Memory) ⊎ FitsAnswer (asked_frame style asked texts) (resized_rows style asked texts) (Unit {0}) (Err fault)) → Known table
  from-narrowed table range kept room refused = record {
    fits = both table (InRange (asked_frame style asked texts)) (too_wide style asked texts ≡ None) (HasTable style asked texts) (has-table range) kept room;
    refused = IfErr-weaker table _ _ (refuses range) refused;
  }

  pub from-natural : {A : Type 0} (table : Result A Fault) → InRange (frame_under style texts) → narrowed style asked texts ≡ None
      → OnOk table (first_too_wide (frame_under style texts) texts ≡ None) → IfErr table (λ fault. fault ≡ Memory) → Known table
  from-natural table range told room refused = record {
    fits = both table (first_too_wide (frame_under style texts) texts ≡ None) (first_too_wide (frame_under style texts) texts ≡ None) (HasTable style asked texts)
        (λ none _. record { fits = fits-natural style asked texts told range; room = room-natural style asked texts told none }) room room;
    refused = IfErr-weaker table _ _ (λ fault memory. refuses range fault (inl memory)) refused;
  }

  -- what holds where the columns shrink and there is no table, and the same of a table in its own sizes
  pub alone-narrowed : {P : Type 0} → InRange (frame_under style texts) → (¬ (InRange (asked_frame style asked texts) × (too_wide style asked texts ≡ None)) → P) → ¬ (HasTable style asked texts) → P
  alone-narrowed range alone none = alone (λ both. none (has-table range both.0 both.1))

  pub alone-natural : {P : Type 0} → InRange (frame_under style texts) → narrowed style asked texts ≡ None → (¬ (first_too_wide (frame_under style texts) texts ≡ None) → P) → ¬ (HasTable style asked texts) → P
  alone-natural range told alone none = alone (λ room. none (record { fits = fits-natural style asked texts told range; room = room-natural style asked texts told room }))

-- widths that were found, or none
pub found-some : {A : Type 0} (items : A → List ℕ) (found : Option A) (widths : A) (P : Option (List ℕ)) → found ≡ Some widths → option_map items found ≡ P → P ≡ Some (items widths)
found-some items found widths P is told = sym told ∙ ap (option_map items) is

pub found-none : {A : Type 0} (items : A → List ℕ) (found : Option A) (P : Option (List ℕ)) → found ≡ None → option_map items found ≡ P → P ≡ None
found-none items found P is told = sym told ∙ ap (option_map items) is
