-- A field of a text is a text, and any escape may be in it.
use Rattle.std.proofs.Common.{◌≢◌, List, ℕ, [], ◌∷◌, refl}
use Rattle.std.specs.List.{AllByRecursion}
use Rattle.std.specs.Str.{IsUtf8}
use Rattle.csv.specs.Reading.{records}
use Rattle.program_options.specs.declared.basinmug.Escapes.{Escapes}
use Rattle.program_options.specs.declared.basinmug.Escapes.TheVariants.{Colors, All, None as NoEscapes}
use Rattle.basinmug_input.specs.Flaws.{HasGoodEscapes, IsReadableField}
use Rattle.basinmug_input.specs.Reading.{settings}
use Rattle.basinmug_input.proofs.Texts.{fields-are_texts}
use Rattle.basinmug_input.proofs.laws.escapes_refuse_no_text.Goals as goal

good : (escapes : Escapes) (field : List ℕ) → escapes ≢ All → HasGoodEscapes escapes field
good All field not_all = absurd (not_all refl)
good Colors field not_all = tt
good NoEscapes field not_all = tt

fields-good : (escapes : Escapes) (fields : List (List ℕ)) → escapes ≢ All → AllByRecursion IsUtf8 fields → AllByRecursion (IsReadableField escapes) fields
fields-good escapes [] not_all all = tt
fields-good escapes (field ∷ fields) not_all all = ((all.0, good escapes field not_all), fields-good escapes fields not_all all.1)

records-good : (escapes : Escapes) (rows : List (List (List ℕ))) → escapes ≢ All → AllByRecursion (AllByRecursion IsUtf8) rows → AllByRecursion (AllByRecursion (IsReadableField escapes)) rows
records-good escapes [] not_all all = tt
records-good escapes (row ∷ rows) not_all all = (fields-good escapes row not_all all.0, records-good escapes rows not_all all.1)

pub returns : goal.returns
returns c = λ escapes delimiter text not_all low is.
    record { is_text = is; sound = records-good escapes (records (settings delimiter) text) not_all (fields-are_texts delimiter text low is.0) }
