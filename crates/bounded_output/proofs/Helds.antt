-- What stays of a writer to which a text was written, and what grows.
use Rattle.std.proofs.Common.{◌≡◌, ◌∙◌, ℕ, List, [], ◌∷◌, ◌++◌, Some, ap, append_assoc, drop, length, sym, take}
use Rattle.std.proofs.Math.Seq.{drop-append_seam, take-append_seam}
use Rattle.std.specs.Io.KnownBytes.{Appends}
use Rattle.bounded_output.specs.Held.{held_of, limit_of, memory_of, name_of, taken_of}
use Rattle.bounded_output.specs.declared.bounded.Bounded.{Bounded}

-- the first of a list, and the rest
abbrev first_of : List ℕ → ℕ
first_of [] = 0
first_of (x ∷ xs) = x

abbrev rest_of : List ℕ → List ℕ
rest_of [] = []
rest_of (x ∷ xs) = xs

module _ (before after : Bounded) (text : List ℕ) (written : Appends (Some (held_of before)) (Some (held_of after)) text) where
  pub same-name : name_of after ≡ name_of before
  same-name = ap first_of written

  pub same-limit : limit_of after ≡ limit_of before
  same-limit = ap (λ held. first_of (rest_of held)) written

  same-length : length (memory_of after) ≡ length (memory_of before)
  same-length = ap (λ held. first_of (rest_of (rest_of held))) written

  same-bytes : memory_of after ++ taken_of after ≡ memory_of before ++ (taken_of before ++ text)
  same-bytes = ap (λ held. rest_of (rest_of (rest_of held))) written ∙ append_assoc (memory_of before) (taken_of before) text

  pub same-memory : memory_of after ≡ memory_of before
  same-memory =
      sym (take-append_seam (memory_of after) (taken_of after))
      ∙ ap (λ n. take n (memory_of after ++ taken_of after)) same-length
      ∙ ap (take (length (memory_of before))) same-bytes
      ∙ take-append_seam (memory_of before) (taken_of before ++ text)

  pub more-taken : taken_of after ≡ taken_of before ++ text
  more-taken =
      sym (drop-append_seam (memory_of after) (taken_of after))
      ∙ ap (λ n. drop n (memory_of after ++ taken_of after)) same-length
      ∙ ap (drop (length (memory_of before))) same-bytes
      ∙ drop-append_seam (memory_of before) (taken_of before ++ text)
