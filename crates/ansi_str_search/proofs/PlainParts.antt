-- Parts between plain styles.
use Rattle.std.proofs.Common.{◌≡◌, ◌∙◌, ap, ℕ, List, [], ◌++◌, append-nil}
use Rattle.std.specs.List.{concat}
use Rattle.ansi_scan.specs.Attributes.{Attributes, plain_attributes}
use Rattle.ansi_scan.specs.StartsAndEnds.{start_bytes, end_bytes}
use Rattle.ansi_scan.proofs.Effects.{start_bytes-sequences, end_bytes-sequences, start_sequences-plain, end_sequences-plain}

pub start_bytes-plain : start_bytes plain_attributes ≡ []
start_bytes-plain = start_bytes-sequences plain_attributes ∙ ap concat start_sequences-plain

pub end_bytes-plain : end_bytes plain_attributes ≡ []
end_bytes-plain = end_bytes-sequences plain_attributes ∙ ap concat end_sequences-plain

-- between two plain styles a slice is all
pub plain_part : (start end : Attributes) (slice : List ℕ) → start ≡ plain_attributes → end ≡ plain_attributes → start_bytes start ++ (slice ++ end_bytes end) ≡ slice
plain_part start end slice e f =
    ap (λ s. start_bytes s ++ (slice ++ end_bytes end)) e ∙ ap (λ bytes. bytes ++ (slice ++ end_bytes end)) start_bytes-plain
    ∙ ap (λ s. slice ++ end_bytes s) f ∙ ap (λ bytes. slice ++ bytes) end_bytes-plain ∙ append-nil slice
