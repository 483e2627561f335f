-- How far a loop has come that writes a prefix of what is left, again and again.
use Rattle.std.proofs.Common.{◌≡◌, ℕ, ◌+◌, ◌-◌, List, Option, length, take, drop, sym, ◌∙◌, ap, subst}
use Rattle.std.proofs.lemmas.List.{take_rest, drop-drop}
use Rattle.std.proofs.Math.Seq.{take-add}
use Rattle.std.proofs.KnownBytes.{Appends-trans}
use Rattle.std.specs.Io.KnownBytes.{Appends}

-- of the bytes `all`, the writer took those before `rest`, and nothing else
abbrev pub HasWritten : Option (List ℕ) → Option (List ℕ) → List ℕ → List ℕ → Type 0
HasWritten old new all rest = (n : ℕ) × (rest ≡ drop n all) × Appends old new (take n all)

-- one write more, which took n bytes
pub HasWritten-step : (a b c : Option (List ℕ)) (all rest : List ℕ) (n : ℕ) → HasWritten a b all rest → Appends b c (take n rest)
    → HasWritten a c all (take (length rest - n) (drop n rest))
HasWritten-step a b c all rest n (m, e, p) q = (
  m + n,
  take_rest rest n ∙ ap (drop n) e ∙ drop-drop n m all,
  subst (Appends a c) (sym (take-add m n all)) (Appends-trans a b c _ _ p (subst (λ l. Appends b c (take n l)) e q)),
)
