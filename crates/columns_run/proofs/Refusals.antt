-- Why an input has no table.
use Rattle.std.proofs.Common.{◌≡◌, ℕ, ◌⊎◌, inl, inr, List, None, Some, ap, refl, sym, ◌∙◌}
use Rattle.std.specs.Prelude.{IsUtf8}
use Rattle.std.specs.Str.Lossy.{utf8_valid_len}
use Rattle.ansi_scan.specs.Sequences.{IsFirstBroken, IsWhole}
use Rattle.ansi_scan.proofs.FirstBroken.{IsFirstBroken-same, IsWhole-IsFirstBroken}
use Rattle.grid_config_values.specs.declared.position.Position.{Position}
use Rattle.columns_run.specs.Fault.{TellsOfInput}
use Rattle.columns_run.specs.DrawnTables.{TableInRange, wide_cell}
use Rattle.columns_run.specs.Run.{HasTable, MayEndBy}
use Rattle.columns_run.specs.Wanted.{Wanted}
use Rattle.program_options.specs.declared.columns.fault.RunFault.{RunFault}
use Rattle.program_options.specs.declared.columns.fault.RunFault.TheVariants.{Escape, LineTooWide, Memory, NotUtf8, Range, Read, ReadTooLong, Write, WriteZero}

-- the reasons, of which each excludes the others
module _ (wanted : Wanted) (input : List ℕ) (fault : RunFault) where
  record HasNoText : Type 0 where
    at : ℕ
    is : fault ≡ NotUtf8 at
    none : ¬ (IsUtf8 input)
    place : at ≡ utf8_valid_len input

  record Breaks : Type 0 where
    at : ℕ
    is : fault ≡ Escape at
    text : IsUtf8 input
    first : IsFirstBroken input at

  record Passes : Type 0 where
    is : fault ≡ Range
    text : IsUtf8 input
    whole : IsWhole input
    high : ¬ (TableInRange wanted input)

  record HasWideCell : Type 0 where
    row : ℕ
    column : ℕ
    is : fault ≡ LineTooWide row column
    text : IsUtf8 input
    whole : IsWhole input
    fits : TableInRange wanted input
    wide : wide_cell wanted input ≡ Some (record { row = row; col = column })

  abbrev Reason : Type 0
  Reason = HasNoText ⊎ (Breaks ⊎ (Passes ⊎ HasWideCell))

reason : (wanted : Wanted) (input : List ℕ) (fault : RunFault) → TellsOfInput fault → MayEndBy wanted input fault → Reason wanted input fault
reason wanted input (NotUtf8 at) tells may = inl (record { at = at; is = refl; none = may.0; place = may.1 })
reason wanted input (Escape at) tells may = inr (inl (record { at = at; is = refl; text = may.0; first = may.1 }))
reason wanted input Range tells may = inr (inr (inl (record { is = refl; text = may.0; whole = may.1; high = may.2 })))
reason wanted input (LineTooWide row column) tells may =
    inr (inr (inr (record { row = row; column = column; is = refl; text = may.0; whole = may.1; fits = may.2; wide = may.3 })))
reason wanted input Read tells may = absurd tells
reason wanted input ReadTooLong tells may = absurd tells
reason wanted input Write tells may = absurd tells
reason wanted input WriteZero tells may = absurd tells
reason wanted input Memory tells may = absurd tells

module _ (wanted : Wanted) (input : List ℕ) where
  wide-same : (fault other : RunFault) → HasWideCell wanted input fault → HasWideCell wanted input other → fault ≡ other
  wide-same fault other x y =
      let first : Position = record { row = x.row; col = x.column } in
      let second : Position = record { row = y.row; col = y.column } in
      let both : Some first ≡ Some second = sym x.wide ∙ y.wide in
      let same : first ≡ second = cc both in
      x.is ∙ ap (λ (p : Position). LineTooWide p.row p.col) same ∙ sym y.is

  one : (fault other : RunFault) → Reason wanted input fault → Reason wanted input other → fault ≡ other
  one fault other (inl x) (inl y) = x.is ∙ ap NotUtf8 (x.place ∙ sym y.place) ∙ sym y.is
  one fault other (inl x) (inr (inl y)) = absurd (x.none y.text)
  one fault other (inl x) (inr (inr (inl y))) = absurd (x.none y.text)
  one fault other (inl x) (inr (inr (inr y))) = absurd (x.none y.text)
  one fault other (inr (inl x)) (inl y) = absurd (y.none x.text)
  one fault other (inr (inl x)) (inr (inl y)) = x.is ∙ ap Escape (IsFirstBroken-same input x.at y.at x.first y.first) ∙ sym y.is
  one fault other (inr (inl x)) (inr (inr (inl y))) = absurd (IsWhole-IsFirstBroken input x.at y.whole x.first)
  one fault other (inr (inl x)) (inr (inr (inr y))) = absurd (IsWhole-IsFirstBroken input x.at y.whole x.first)
  one fault other (inr (inr (inl x))) (inl y) = absurd (y.none x.text)
  one fault other (inr (inr (inl x))) (inr (inl y)) = absurd (IsWhole-IsFirstBroken input y.at x.whole y.first)
  one fault other (inr (inr (inl x))) (inr (inr (inl y))) = x.is ∙ sym y.is
  one fault other (inr (inr (inl x))) (inr (inr (inr y))) = absurd (x.high y.fits)
  one fault other (inr (inr (inr x))) (inl y) = absurd (y.none x.text)
  one fault other (inr (inr (inr x))) (inr (inl y)) = absurd (IsWhole-IsFirstBroken input y.at x.whole y.first)
  one fault other (inr (inr (inr x))) (inr (inr (inl y))) = absurd (y.high x.fits)
  one fault other (inr (inr (inr x))) (inr (inr (inr y))) = wide-same fault other x y

  none : (fault : RunFault) → Reason wanted input fault → HasTable wanted input → ⊥
  none fault (inl x) table = x.none table.0
  none fault (inr (inl x)) table = IsWhole-IsFirstBroken input x.at table.1 x.first
  none fault (inr (inr (inl x))) table = x.high table.2
  none fault (inr (inr (inr x))) table = let clash : Some (record { row = x.row; col = x.column }) ≡ None = sym x.wide ∙ table.3 in cc clash

pub one-refusal : (wanted : Wanted) (input : List ℕ) (fault other : RunFault) → TellsOfInput fault → TellsOfInput other → MayEndBy wanted input fault → MayEndBy wanted input other → fault ≡ other
one-refusal wanted input fault other tells tells' may may' = one wanted input fault other (reason wanted input fault tells may) (reason wanted input other tells' may')

pub no-table : (wanted : Wanted) (input : List ℕ) (fault : RunFault) → TellsOfInput fault → MayEndBy wanted input fault → ¬ (HasTable wanted input)
no-table wanted input fault tells may = none wanted input fault (reason wanted input fault tells may)
