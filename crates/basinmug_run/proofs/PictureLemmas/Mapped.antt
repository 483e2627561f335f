-- Lists that grow by what a function gives for the next item.
use Rattle.std.proofs.Common.{◌≡◌, ◌∙◌, ap, sym, ℕ, ◌+◌, List, [], ◌∷◌, ◌++◌, map, zero-add}
use Rattle.std.specs.List.{flat_map, range_with_len}
use Rattle.std.proofs.lemmas.List.{flat_map_more, map-append}
use Rattle.papergrid_picture.proofs.Frames.{range_with_len-more}

-- of the numbers from 0 on
pub next_number : {Y : Type 0} (f : ℕ → List Y) (n : ℕ) (start old new own : List Y) → old ≡ start ++ flat_map f (range_with_len 0 n) → new ≡ old ++ own → own ≡ f n
    → new ≡ start ++ flat_map f (range_with_len 0 (n + 1))
next_number f n start old new own before grown value =
    grown ∙ ap (λ l. l ++ own) before ∙ ap (λ l. (start ++ flat_map f (range_with_len 0 n)) ++ l) value ∙ flat_map_more f start (range_with_len 0 n) n ∙ ap (λ l. start ++ flat_map f l) (sym (range_with_len-more 0 n ∙ ap (λ j. range_with_len 0 n ++ j ∷ []) (zero-add n)))

-- what a function gives for the next number is pushed
pub next_mapped : {Y : Type 0} (f : ℕ → Y) (n : ℕ) (old new : List Y) (value : Y) → old ≡ map f (range_with_len 0 n) → new ≡ old ++ value ∷ [] → value ≡ f n → new ≡ map f (range_with_len 0 (n + 1))
next_mapped f n old new value before grown is =
    let numbers : range_with_len 0 (n + 1) ≡ range_with_len 0 n ++ n ∷ [] = range_with_len-more 0 n ∙ ap (λ j. range_with_len 0 n ++ j ∷ []) (zero-add n) in
    grown ∙ ap (λ l. l ++ value ∷ []) before ∙ ap (λ v. map f (range_with_len 0 n) ++ v ∷ []) is ∙ sym (ap (map f) numbers ∙ map-append f (range_with_len 0 n) (n ∷ []))
