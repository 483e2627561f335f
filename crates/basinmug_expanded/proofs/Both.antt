-- The first rows and those after them, and lines in three parts.
use Rattle.std.proofs.Common.{◌≡◌, ◌∙◌, ◌-◌, ap, arith, ℕ, List, ◌++◌, drop, length, take}
use Rattle.std.specs.Prelude.{slice_range}
use Rattle.std.proofs.lemmas.List.{take_rest}
use Rattle.basinmug_expanded.specs.Records.{ended_lines}
use Rattle.basinmug_expanded.proofs.Numbered.{ended-append}

module _ {X : Type 0} (rows part : List X) (first : ℕ) where
  pub first-ones : part ≡ slice_range rows 0 first → part ≡ take first rows
  first-ones is = let whole : first - 0 ≡ first = omega arith in is ∙ ap (λ (n : ℕ). take n rows) whole

  pub other-ones : (count : ℕ) → count ≡ length rows → part ≡ slice_range rows first count → part ≡ drop first rows
  other-ones count counted is = is ∙ ap (λ (n : ℕ). take (n - first) (drop first rows)) counted ∙ take_rest rows first

pub three-parts : (a b c : List (List ℕ)) → ended_lines (a ++ (b ++ c)) ≡ ended_lines a ++ (ended_lines b ++ ended_lines c)
three-parts a b c = ended-append a (b ++ c) ∙ ap (λ (rest : List ℕ). ended_lines a ++ rest) (ended-append b c)
