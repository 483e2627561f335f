-- The first of the names that denote no column.
use Rattle.std.proofs.Common.{◌≡◌, ◌∙◌, ap, sym, ℕ, suc, ◌+◌, ◌<◌, List, [], ◌∷◌, ◌++◌, append-nil, length, take, drop, get_or, take-append-drop, drop-cons}
use Rattle.std.specs.List.{flat_map}
use Rattle.std.proofs.lemmas.List.{take_more}
use Rattle.std.proofs.lemmas.List.Concat.{flat_map-append}
use Rattle.basinmug_run.specs.Picture.Names.{IsFirstMissing}
use Rattle.basinmug_run.specs.declared.picture.fault.PrintFault.{PrintFault}
use Rattle.basinmug_run.specs.declared.picture.fault.PrintFault.TheVariants.{NoColumn, Table, Memory}

-- the first of some is the first of more after them
pub first-of-more : (names more : List (List ℕ)) (fault : PrintFault) → IsFirstMissing names fault → IsFirstMissing (names ++ more) fault
first-of-more names more (NoColumn name) is = (is.0 ++ more, ap (λ l. l ++ more) is.1)
first-of-more names more (Table fault) is = is
first-of-more names more Memory is = tt

pub first-alike : (names others : List (List ℕ)) (fault : PrintFault) → names ≡ others → IsFirstMissing names fault → IsFirstMissing others fault
first-alike names others (NoColumn name) same is = (is.0, sym same ∙ is.1)
first-alike names others (Table fault) same is = is
first-alike names others Memory same is = tt

-- and of those after some of which there are none
pub first-behind : (none names : List (List ℕ)) (fault : PrintFault) → none ≡ [] → IsFirstMissing names fault → IsFirstMissing (none ++ names) fault
first-behind none names fault is first = first-alike names (none ++ names) fault (ap (λ l. l ++ names) (sym is)) first

module _ {X : Type 0} (names : X → List (List ℕ)) (xs : List X) (i : ℕ) (x : X) (inside : i < length xs) (is : x ≡ get_or xs i x) (none : flat_map names (take i xs) ≡ []) where
  -- after those of which none is missing
  from-here : flat_map names xs ≡ names x ++ flat_map names (drop (suc i) xs)
  from-here =
      let split : xs ≡ take i xs ++ x ∷ drop (suc i) xs =
      sym (take-append-drop i xs) ∙ ap (λ rest. take i xs ++ rest) (drop-cons xs i x inside ∙ ap (λ it. it ∷ drop (suc i) xs) (sym is)) in
      ap (flat_map names) split ∙ flat_map-append names (take i xs) (x ∷ drop (suc i) xs) ∙ ap (λ l. l ++ flat_map names (x ∷ drop (suc i) xs)) none

  -- a name at an index is the first where none before it is missing
  pub first-at : (fault : PrintFault) → IsFirstMissing (names x) fault → IsFirstMissing (flat_map names xs) fault
  first-at fault first =
      first-alike (names x ++ flat_map names (drop (suc i) xs)) (flat_map names xs) fault (sym from-here) (first-of-more (names x) (flat_map names (drop (suc i) xs)) fault first)

  -- and where it is not either, none is missing as far as it
  pub none-more : names x ≡ [] → flat_map names (take (i + 1) xs) ≡ []
  none-more here =
      ap (flat_map names) (take_more xs i x inside ∙ ap (λ it. take i xs ++ it ∷ []) (sym is)) ∙ flat_map-append names (take i xs) (x ∷ [])
      ∙ ap (λ it. it ++ (names x ++ [])) none ∙ append-nil (names x) ∙ here
