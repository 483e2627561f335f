-- Names by number: one for each, and the next one after them.
use native.Mathlib.Omega.{arith}
use Rattle.std.proofs.Common.{◌≡◌, ◌∙◌, sym, ap, ℕ, List, ◌+◌, ◌++◌, [], ◌∷◌, decimal, length}
use Rattle.std.specs.Cow.{cow_str_bytes}
use Rattle.std.specs.declared.borrow.CowStr.{CowStr}
use Rattle.std.proofs.lemmas.List.{map_push}
use Rattle.std.proofs.lemmas.List.FromFn.{length-map-range_with_len, map-range_with_len_more}
use Rattle.tabled_text.specs.Fields.{numbers, texts_of}

pub numbers_count : (count : ℕ) → length (numbers count) ≡ count
numbers_count count = length-map-range_with_len decimal 0 count

pub numbers_push : {Z : Type 0} (headers : List (CowStr Z)) (next : CowStr Z) (count : ℕ) → texts_of headers ≡ numbers count → cow_str_bytes next ≡ decimal count → texts_of (headers ++ next ∷ []) ≡ numbers (count + 1)
numbers_push headers next count are is = map_push cow_str_bytes headers next ∙ ap (λ texts. texts ++ cow_str_bytes next ∷ []) are ∙ ap (λ text. numbers count ++ text ∷ []) is ∙ sym (map-range_with_len_more decimal 0 count count (omega arith))
