-- What a loop over parameters has written.
use Rattle.std.proofs.Common.{◌≡◌, ℕ, ◌+◌, ◌<◌, Option, List, [], ◌∷◌, ◌++◌, length, get_or, take, ap, ◌∙◌, append-nil}
use Rattle.std.specs.List.{concat}
use Rattle.std.proofs.lemmas.Grind.{flat_map-append}
use Rattle.std.proofs.lemmas.List.Folds.{concat-append}
use Rattle.std.proofs.lemmas.List.{take_more}
use Rattle.ansi_scan.specs.declared.style.sequences.Parameters.{Parameters}
use Rattle.ansi_scan.specs.Styles.Sequences.{sequence_if, sequences_of}

-- one turn more writes the next sequence
pub concat-sequences_of-take : (all : List (Option Parameters)) (i : ℕ) (d : Option Parameters) → i < length all
    → concat (sequences_of (take (i + 1) all)) ≡ concat (sequences_of (take i all)) ++ concat (sequence_if (get_or all i d))
concat-sequences_of-take all i d h =
    ap (λ part. concat (sequences_of part)) (take_more all i d h)
    ∙ (ap concat (flat_map-append sequence_if (take i all) (get_or all i d ∷ []))
    ∙ (concat-append (sequences_of (take i all)) (sequence_if (get_or all i d) ++ [])
    ∙ ap (λ last. concat (sequences_of (take i all)) ++ concat last) (append-nil (sequence_if (get_or all i d)))))
