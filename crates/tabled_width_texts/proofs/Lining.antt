-- The lines of a text, changed one after the other.
use Rattle.std.proofs.Common.{◌≡◌, ℕ, Bool, true, false, List, [], ◌∷◌, ◌++◌, map, flat_map, refl, ap, sym, subst, ◌∙◌, append_assoc, append-nil}
use Rattle.std.specs.Prelude.{Ok, Result, Some}
use Rattle.std.specs.declared.borrow.CowStr.{CowStr}
use Rattle.std.specs.Cow.{cow_str_bytes}
use Rattle.std.specs.List.{join_with_byte}
use Rattle.ansi_str.specs.Splitting.{GivesPart, PartsLeft}
use Rattle.grid_records_measure.specs.TextLines.{line_feed}
use Rattle.tabled_width_texts.specs.Filling.{separated}

module _ (f : List ℕ → List ℕ) where
  -- what is still to be written of the lines that are left; after others a line feed comes first
  abbrev pub lines_left : Bool → List (List ℕ) → List ℕ
  lines_left false lines = join_with_byte line_feed (map f lines)
  lines_left true lines = flat_map (λ line. line_feed ∷ f line) lines

  first-line : (line : List ℕ) (lines : List (List ℕ)) → join_with_byte line_feed (map f (line ∷ lines)) ≡ f line ++ lines_left true lines
  first-line line [] = sym (append-nil (f line))
  first-line line (next ∷ lines) = ap (λ (bytes : List ℕ). f line ++ line_feed ∷ bytes) (first-line next lines)

  next-left : (begun : Bool) (line : List ℕ) (lines : List (List ℕ)) → lines_left begun (line ∷ lines) ≡ separated begun (f line) ++ lines_left true lines
  next-left true line lines = refl
  next-left false line lines = first-line line lines

  pub line-more : (begun : Bool) (out written line : List ℕ) (lines : List (List ℕ)) (all : List ℕ) → written ≡ out ++ separated begun (f line) →
      out ++ lines_left begun (line ∷ lines) ≡ all → written ++ lines_left true lines ≡ all
  line-more begun out written line lines all is so_far =
      ap (λ (bytes : List ℕ). bytes ++ lines_left true lines) is ∙ append_assoc out (separated begun (f line)) (lines_left true lines)
      ∙ ap (λ (bytes : List ℕ). out ++ bytes) (sym (next-left begun line lines)) ∙ so_far

  nothing-left : (begun : Bool) → lines_left begun [] ≡ []
  nothing-left true = refl
  nothing-left false = refl

  pub line-last : (begun : Bool) (out all : List ℕ) (lines : List (List ℕ)) → lines ≡ [] → out ++ lines_left begun lines ≡ all → out ≡ all
  line-last begun out all lines none so_far =
      sym (append-nil out) ∙ sym (ap (λ (bytes : List ℕ). out ++ bytes) (ap (lines_left begun) none ∙ nothing-left begun)) ∙ so_far

-- the line that comes is the first of those that were left
pub next-line : {E Z : Type 0} (old new : PartsLeft) (answer : Result (CowStr Z) E) (part : CowStr Z) → GivesPart old (Some answer) new → answer ≡ Ok part → old.parts ≡ cow_str_bytes part ∷ new.parts
next-line {E} {Z} old new answer part gives was =
    let step = subst (λ v. GivesPart {E = E} {Z = Z} old (Some v) new) was gives in
    step.1.0
