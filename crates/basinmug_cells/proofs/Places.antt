-- Places of cells' texts, where texts of cells' own come.
use Rattle.std.proofs.Common.{◌≡◌, ◌∙◌, ℕ, ◌+◌, true, false, Bool, List, [], ◌∷◌, ◌++◌, All, ap, ap₂, arith, cond, get_or, length, map, refl, sym}
use Rattle.std.specs.Prelude.{slice_range}
use Rattle.std.proofs.lemmas.List.{get_or_append_left, get_or_push, length-append}
use Rattle.std.proofs.lemmas.List.Elements.{All-head, All-tail, All-weaker}
use Rattle.basinmug_cells.specs.Places.{IsPart, IsPlace, own_place, part_place, place_text}
use Rattle.basinmug_cells.specs.declared.place.Place.{Place}

module _ (text : List ℕ) (own more : List (List ℕ)) where
  pub text-more : (place : Place) → IsPlace text own place → place_text text (own ++ more) place ≡ place_text text own place
  text-more place is = step place.is_own refl where
    step : (b : Bool) → place.is_own ≡ b → place_text text (own ++ more) place ≡ place_text text own place
    step true e =
        ap (λ (t : Bool). cond t (get_or (own ++ more) place.start []) (slice_range text place.start (place.start + place.len))) e
        ∙ get_or_append_left own more [] place.start (is.apart e)
        ∙ sym (ap (λ (t : Bool). cond t (get_or own place.start []) (slice_range text place.start (place.start + place.len))) e)
    step false e =
        ap (λ (t : Bool). cond t (get_or (own ++ more) place.start []) (slice_range text place.start (place.start + place.len))) e
        ∙ sym (ap (λ (t : Bool). cond t (get_or own place.start []) (slice_range text place.start (place.start + place.len))) e)

  pub place-more : (place : Place) → IsPlace text own place → IsPlace text (own ++ more) place
  place-more place is = record { apart = λ e. omega (arith, is.apart e, length-append own more); part = is.part }

  pub places-more : (places : List Place) → All (IsPlace text own) places → All (IsPlace text (own ++ more)) places
  places-more places all = All-weaker (IsPlace text own) (IsPlace text (own ++ more)) place-more places all

  pub texts-more : (places : List Place) → All (IsPlace text own) places → map (place_text text (own ++ more)) places ≡ map (place_text text own) places
  texts-more [] all = refl
  texts-more (place ∷ places) all =
      ap₂ (λ (t : List ℕ) (ts : List (List ℕ)). t ∷ ts) (text-more place (All-head (IsPlace text own) place places all)) (texts-more places (All-tail (IsPlace text own) place places all))

-- a new text of a cell's own
pub own-is : (text : List ℕ) (own : List (List ℕ)) (bytes : List ℕ) → IsPlace text (own ++ bytes ∷ []) (own_place (length own))
own-is text own bytes = record { apart = λ e. omega (arith, length-append own (bytes ∷ [])); part = λ e. absurd (cc e) }

pub own-text : (text : List ℕ) (own : List (List ℕ)) (bytes : List ℕ) → place_text text (own ++ bytes ∷ []) (own_place (length own)) ≡ bytes
own-text text own bytes = get_or_push own bytes [] (length own) refl

-- a part
pub part-is : (text : List ℕ) (own : List (List ℕ)) (start len width : ℕ) → IsPart text start len width → IsPlace text own (part_place start len width)
part-is text own start len width part = record { apart = λ e. absurd (cc e); part = λ e. part }
