use Rattle.std.proofs.Common.{refl}
use Rattle.std.specs.Prelude.{encode_utf8}
use Rattle.tables_laws.specs.Characters.AdditiveCharacters.{is_additive}
use Rattle.tabled_size_wrap.specs.Bytes.{cut_at}
use Rattle.tables_laws.proofs.GridsLemmas.Resized.{cut-text, resized-text}
use Rattle.tables_laws.proofs.GridsLemmas.Texts.{append-of, character-of}
use Rattle.tables_laws.proofs.grids.resized_texts_stay_in_their_class.Goals as goal

pub returns-clause-resizes : goal.returns-clause-resizes
returns-clause-resizes c = λ of_class resize text mark is. resized-text of_class mark resize text is

pub returns-clause-cuts : goal.returns-clause-cuts
returns-clause-cuts c = λ of_class width text mark is. cut-text of_class mark width text is

pub returns-clause-joins : goal.returns-clause-joins
returns-clause-joins c = append-of

pub returns-clause-additive : goal.returns-clause-additive
returns-clause-additive c = λ resize text is. resized-text is_additive refl resize text is

pub returns-clause-shortened : goal.returns-clause-shortened
returns-clause-shortened c = λ width text is.
    append-of is_additive (cut_at width text) (encode_utf8 0x2026) (cut-text is_additive refl width text is)
    (character-of is_additive 0x2026 (record { scalar = refl; no_escape = λ same. cc same }) refl)
