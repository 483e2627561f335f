-- Texts of cells' own that are kept, and the numbers that their places get.
use Rattle.std.proofs.Common.{◌≡◌, ◌∙◌, ℕ, ◌+◌, Bool, true, false, List, [], ◌∷◌, ◌++◌, All, ap, ap₂, arith, cond, get_or, length, map, refl, subst, sym}
use Rattle.std.specs.Prelude.{slice_range}
use Rattle.std.proofs.lemmas.List.{length-append, length_push}
use Rattle.std.proofs.lemmas.List.Elements.{All-cons, All-head, All-nil, All-tail}
use lib.Seq.{append_snoc, get_or-append_seam}
use Rattle.basinmug_cells.specs.Held.{owned, renumbered}
use Rattle.basinmug_cells.specs.Places.{IsPlace, place_text}
use Rattle.basinmug_cells.specs.declared.place.Place.{Place}

module _ (own : List (List ℕ)) (place : Place) (places : List Place) where
  abbrev here : List ℕ
  here = get_or own place.start []

  abbrev numbered_here : ℕ → Place
  numbered_here n = record place { start = n }

  owned-own : place.is_own ≡ true → owned (place ∷ places) own ≡ here ∷ owned places own
  owned-own e = ap (λ (t : Bool). cond t (here ∷ []) [] ++ owned places own) e

  owned-part : place.is_own ≡ false → owned (place ∷ places) own ≡ owned places own
  owned-part e = ap (λ (t : Bool). cond t (here ∷ []) [] ++ owned places own) e

  numbered-own : (n : ℕ) → place.is_own ≡ true → renumbered n (place ∷ places) ≡ numbered_here n ∷ renumbered (n + 1) places
  numbered-own n e = ap (λ (t : Bool). cond t (numbered_here n) place ∷ renumbered (cond t (n + 1) n) places) e

  numbered-part : (n : ℕ) → place.is_own ≡ false → renumbered n (place ∷ places) ≡ place ∷ renumbered n places
  numbered-part n e = ap (λ (t : Bool). cond t (numbered_here n) place ∷ renumbered (cond t (n + 1) n) places) e

module _ (text : List ℕ) (own : List (List ℕ)) where
  abbrev part_of : Place → List ℕ
  part_of place = slice_range text place.start (place.start + place.len)

  text-own : (others : List (List ℕ)) (place : Place) → place.is_own ≡ true → place_text text others place ≡ get_or others place.start []
  text-own others place e = ap (λ (t : Bool). cond t (get_or others place.start []) (part_of place)) e

  text-part : (others : List (List ℕ)) (place : Place) → place.is_own ≡ false → place_text text others place ≡ part_of place
  text-part others place e = ap (λ (t : Bool). cond t (get_or others place.start []) (part_of place)) e

  abbrev pub TextsStay : List (List ℕ) → List Place → Type 0
  TextsStay before places = map (place_text text (before ++ owned places own)) (renumbered (length before) places) ≡ map (place_text text own) places

  texts-step : (before : List (List ℕ)) (place : Place) (places : List Place) (b : Bool) → place.is_own ≡ b → ((front : List (List ℕ)) → TextsStay front places) → TextsStay before (place ∷ places)
  texts-step before place places true e rest =
      ap₂ (λ (os : List (List ℕ)) (ps : List Place). map (place_text text (before ++ os)) ps) (owned-own own place places e) (numbered-own own place places (length before) e)
      ∙ ap₂ (λ (t : List ℕ) (ts : List (List ℕ)). t ∷ ts)
      (text-own (before ++ get_or own place.start [] ∷ owned places own) (record place { start = length before }) e
      ∙ get_or-append_seam before (get_or own place.start []) (owned places own) []
      ∙ sym (text-own own place e))
      (ap₂ (λ (os : List (List ℕ)) (n : ℕ). map (place_text text os) (renumbered n places)) (sym (append_snoc before (get_or own place.start []) (owned places own))) (sym (length_push before (get_or own place.start [])))
      ∙ rest (before ++ get_or own place.start [] ∷ []))
  texts-step before place places false e rest =
      ap₂ (λ (os : List (List ℕ)) (ps : List Place). map (place_text text (before ++ os)) ps) (owned-part own place places e) (numbered-part own place places (length before) e)
      ∙ ap₂ (λ (t : List ℕ) (ts : List (List ℕ)). t ∷ ts)
      (text-part (before ++ owned places own) place e ∙ sym (text-part own place e))
      (rest before)

  pub texts-renumbered : (before : List (List ℕ)) (places : List Place) → TextsStay before places
  texts-renumbered before [] = refl
  texts-renumbered before (place ∷ places) = texts-step before place places place.is_own refl (λ front. texts-renumbered front places)

  abbrev pub PlacesStay : List (List ℕ) → List Place → Type 0
  PlacesStay before places = All (IsPlace text (before ++ owned places own)) (renumbered (length before) places)

  places-step : (before : List (List ℕ)) (place : Place) (places : List Place) (b : Bool) → place.is_own ≡ b → IsPlace text own place → ((front : List (List ℕ)) → PlacesStay front places) → PlacesStay before (place ∷ places)
  places-step before place places true e is rest =
      let x = get_or own place.start [] in
      let os = owned places own in
      let behind : All (IsPlace text (before ++ x ∷ os)) (renumbered (length before + 1) places) =
      subst (λ n. All (IsPlace text (before ++ x ∷ os)) (renumbered n places)) (length_push before x)
      (subst (λ (of : List (List ℕ)). All (IsPlace text of) (renumbered (length (before ++ x ∷ [])) places)) (append_snoc before x os) (rest (before ++ x ∷ []))) in
      let first : IsPlace text (before ++ x ∷ os) (record place { start = length before }) =
      record { apart = λ t. omega (arith, length-append before (x ∷ os)); part = λ f. absurd (cc (e, f)) } in
      subst (λ (of : List (List ℕ)). All (IsPlace text (before ++ of)) (renumbered (length before) (place ∷ places))) (sym (owned-own own place places e))
      (subst (λ (ps : List Place). All (IsPlace text (before ++ x ∷ os)) ps) (sym (numbered-own own place places (length before) e))
      (All-cons (IsPlace text (before ++ x ∷ os)) (record place { start = length before }) (renumbered (length before + 1) places) first behind))
  places-step before place places false e is rest =
      let os = owned places own in
      let first : IsPlace text (before ++ os) place = record { apart = λ t. absurd (cc (e, t)); part = is.part } in
      subst (λ (of : List (List ℕ)). All (IsPlace text (before ++ of)) (renumbered (length before) (place ∷ places))) (sym (owned-part own place places e))
      (subst (λ (ps : List Place). All (IsPlace text (before ++ os)) ps) (sym (numbered-part own place places (length before) e))
      (All-cons (IsPlace text (before ++ os)) place (renumbered (length before) places) first (rest before)))

  pub places-renumbered : (before : List (List ℕ)) (places : List Place) → All (IsPlace text own) places → PlacesStay before places
  places-renumbered before [] all = All-nil (IsPlace text (before ++ owned [] own))
  places-renumbered before (place ∷ places) all =
      places-step before place places place.is_own refl (All-head (IsPlace text own) place places all) (λ front. places-renumbered front places (All-tail (IsPlace text own) place places all))
