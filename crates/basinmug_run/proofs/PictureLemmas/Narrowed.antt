-- How a table is made narrower.
use Rattle.std.proofs.Common.{◌≡◌, ◌∙◌, ◌⊎◌, ◌<◌, ◌-◌, ℕ, Bool, false, List, ◌++◌, Result, Ok, Err, ap, arith, drop, inl, inr, length, subst, sym, take}
use Rattle.std.proofs.Math.Seq.{take-append_seam}
use Rattle.std.proofs.lemmas.Bool.Decides.{nat_tests}
use Rattle.std.specs.Prelude.{IfErr, IsErrAnd, MatchBool, OnErr, OnOk, nat_le}
use Rattle.grid_config_values.specs.declared.fault.Fault.{Fault}
use Rattle.grid_config_values.specs.declared.fault.Fault.TheVariants.{Memory}
use Rattle.tabled.specs.Printing.{drawn_widths}
use Rattle.tabled.specs.Totals.{drawn_width}
use Rattle.tabled_list.specs.Lists.{LeadsThrough}
use Rattle.tabled_size_priority.specs.declared.choice.Choice.{Choice}
use Rattle.tabled_steps.specs.States.{State}
use Rattle.basinmug_columns.specs.Rooms.{AreShrunkWidths}
use Rattle.basinmug_columns.specs.declared.rooms.Need.{Need}
use Rattle.basinmug_run.specs.Picture.Fitting.{trims, with_fitted_texts}
use Rattle.basinmug_run.specs.Picture.Narrowing.{AreAsked, IsNotNarrowed, IsRefusedIn, FitsTexts}

-- what holds anyway holds where a call is accepted
pub on-ok : {T E : Type 0} (r : Result T E) (P : Type 0) → P → OnOk r P
on-ok (Ok x) P p = p
on-ok (Err e) P p = tt

-- or where it is refused
pub on-err : {T E : Type 0} (r : Result T E) (P : Type 0) → P → OnErr r P
on-err (Ok x) P p = tt
on-err (Err e) P p = p

-- what is reported of an error
pub err-told : {T E : Type 0} (r : Result T E) (fault : E) (P : E → Type 0) → IsErrAnd r (λ e. e ≡ fault) → P fault → IfErr r P
err-told (Ok x) fault P told p = tt
err-told (Err e) fault P told p = subst P (sym told) p

-- what was lent of a list as a whole is there again
pub written_back : (items lent new : List ℕ) (n : ℕ) → n ≡ length items → lent ≡ items → length new ≡ length lent → take n (new ++ drop (length new) items) ≡ new
written_back items lent new n count is same =
    ap (λ (k : ℕ). take k (new ++ drop (length new) items)) (count ∙ sym (ap length is) ∙ sym same) ∙ take-append_seam new (drop (length new) items)

wider : (total asked : ℕ) → asked < total → nat_le total asked ≡ false
wider total asked more = grind (arith, nat_tests)

module _ (truncate : Bool) (priority : Choice) (needs : List Need) (asked total : ℕ) (old : State) (is_total : total ≡ drawn_width old) where
  -- widths as they are requested, by what was lent of the list of widths and written back
  pub are-asked : (lent shrunk rooms : List ℕ) → lent ≡ drawn_widths old → AreShrunkWidths priority needs (total - asked) lent shrunk → rooms ≡ shrunk → AreAsked truncate priority needs asked old rooms
  are-asked lent shrunk rooms are_lent are_shrunk same =
      subst (λ (n : ℕ). AreShrunkWidths priority needs (n - asked) (drawn_widths old) rooms) is_total
      (subst (λ (xs : List ℕ). AreShrunkWidths priority needs (total - asked) xs rooms) are_lent (subst (λ (xs : List ℕ). AreShrunkWidths priority needs (total - asked) lent xs) (sym same) are_shrunk))

  -- what holds of a table whose texts were fitted from these widths to new ones
  pub of-widths : (P : List ℕ → Type 0) (widths : List ℕ) → widths ≡ drawn_widths old → P widths → P (drawn_widths old)
  of-widths P widths are p = subst P are p

  pub narrows-by : asked < total → (rooms : List ℕ) → AreAsked truncate priority needs asked old rooms → (new : State)
      → LeadsThrough (trims truncate (drawn_widths old) rooms) (with_fitted_texts truncate (drawn_widths old) rooms old) new → FitsTexts truncate priority needs asked old new
  narrows-by more rooms are new ran =
      let wide : nat_le (drawn_width old) asked ≡ false = wider (drawn_width old) asked (subst (λ (n : ℕ). asked < n) is_total more) in
      subst
      (λ (b : Bool). MatchBool b (new ≡ old)
      ((all : List ℕ) × AreAsked truncate priority needs asked old all × LeadsThrough (trims truncate (drawn_widths old) all) (with_fitted_texts truncate (drawn_widths old) all old) new))
      (sym wide) (rooms, are, ran)

  -- it is not made narrower, since its texts are not fitted
  pub not-fitted : (rooms : List ℕ) → AreAsked truncate priority needs asked old rooms → (fault : Fault) (widths : List ℕ) → widths ≡ drawn_widths old
      → (fault ≡ Memory) ⊎ IsRefusedIn (trims truncate widths rooms) (with_fitted_texts truncate widths rooms old) fault → (fault ≡ Memory) ⊎ IsNotNarrowed truncate priority needs asked old fault
  not-fitted rooms are fault widths are_widths (inl is) = inl is
  not-fitted rooms are fault widths are_widths (inr out) =
      inr (inr (rooms, are, subst (λ (all : List ℕ). IsRefusedIn (trims truncate all rooms) (with_fitted_texts truncate all rooms old) fault) are_widths out))
