-- What the laws say of starts and ends.
use Rattle.std.proofs.Common.{[], ◌≡◌, ◌∙◌, refl, fold, List, ℕ, None, ap}
use Rattle.std.specs.Prelude.{All, IsSome}
use Rattle.std.specs.List.{concat}
use Rattle.ansi_scan.specs.Styles.Attributes.{Attributes, IsRendition, plain_attributes}
use Rattle.ansi_scan.specs.Styles.Rendition.{applied, after_parameter_bytes, sgr_parameters}
use Rattle.ansi_scan.specs.Styles.Sequences.{start_parameters, start_sequences, start_bytes, end_parameters, end_sequences, end_bytes}
use Rattle.ansi_scan.proofs.StyleLemmas.Reading.{fold-sequences_of, sequences_are_read}
use Rattle.ansi_scan.proofs.StyleLemmas.Merging.{start_is_readable, end_is_readable, merged, fold-start_parameters, merged-plain, merged-self, fold-end_parameters, cleared-self}

-- a start that is read adds what its style sets
pub fold-start_sequences : (a b : Attributes) → IsRendition a → fold applied b (start_sequences a) ≡ merged a b
unfolding start_sequences
fold-start_sequences a b r = fold-sequences_of b (start_parameters a) (start_is_readable a r) ∙ fold-start_parameters a b r

pub start_from_plain : (a : Attributes) → IsRendition a → fold applied plain_attributes (start_sequences a) ≡ a
start_from_plain a r = fold-start_sequences a plain_attributes r ∙ merged-plain a

pub start_from_itself : (a : Attributes) → IsRendition a → fold applied a (start_sequences a) ≡ a
start_from_itself a r = fold-start_sequences a a r ∙ merged-self a

pub end_from_itself : (a : Attributes) → fold applied a (end_sequences a) ≡ plain_attributes
unfolding end_sequences
end_from_itself a = fold-sequences_of a (end_parameters a) (end_is_readable a) ∙ (fold-end_parameters a a ∙ cleared-self a)

pub start_bytes-sequences : (a : Attributes) → start_bytes a ≡ concat (start_sequences a)
unfolding start_bytes
start_bytes-sequences a = refl

pub end_bytes-sequences : (a : Attributes) → end_bytes a ≡ concat (end_sequences a)
unfolding end_bytes
end_bytes-sequences a = refl

pub start_sequences_are_read : (a : Attributes) → IsRendition a → All (λ bytes. IsSome (sgr_parameters bytes)) (start_sequences a)
unfolding start_sequences
start_sequences_are_read a r = sequences_are_read (start_parameters a) (start_is_readable a r)

pub end_sequences_are_read : (a : Attributes) → All (λ bytes. IsSome (sgr_parameters bytes)) (end_sequences a)
unfolding end_sequences
end_sequences_are_read a = sequences_are_read (end_parameters a) (end_is_readable a)

-- bytes that are no such sequence change nothing
pub applied-other : (a : Attributes) (bytes : List ℕ) → sgr_parameters bytes ≡ None → applied a bytes ≡ a
unfolding applied
applied-other a bytes none = ap (after_parameter_bytes a) none

-- a style in which nothing is set
pub start_sequences-plain : start_sequences plain_attributes ≡ []
unfolding start_sequences plain_attributes
start_sequences-plain = refl

pub end_sequences-plain : end_sequences plain_attributes ≡ []
unfolding end_sequences plain_attributes
end_sequences-plain = refl
