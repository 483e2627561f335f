-- A field with a flaw isn't sound.
use Rattle.std.proofs.Common.{◌≡◌, ◌∷◌, ◌++◌, ℕ, List, inl, inr, subst, refl}
use Rattle.std.specs.List.{AllByRecursion}
use Rattle.csv.specs.declared.parser.Config.{Config}
use Rattle.program_options.specs.declared.basinmug.Escapes.{Escapes}
use Rattle.basinmug_input.specs.Faults.{HasFirstFlaw, IsFaultOf, IsReadable}
use Rattle.basinmug_input.specs.Flaws.{HasBrokenEscape, IsNoUtf8, IsReadableField}
use Rattle.basinmug_input.specs.Reading.{settings}
use Rattle.basinmug_input.specs.declared.fault.InputFault.{InputFault}
use Rattle.basinmug_input.specs.declared.fault.InputFault.TheVariants.{NotText, Quote, Escape, Memory}
use Rattle.basinmug_input.proofs.OneFault.{broken-fails, one-of}
use Rattle.basinmug_input.proofs.laws.readable_texts_have_no_fault.Goals as goal

sound-here : (escapes : Escapes) (Flaw : List ℕ → ℕ → Type 0) (cfg : Config) (text : List ℕ) (line field : ℕ) (flaw : HasFirstFlaw escapes Flaw cfg text line field) → IsReadable escapes cfg text → IsReadableField escapes flaw.here
sound-here escapes Flaw cfg text line field flaw readable =
    one-of (IsReadableField escapes) flaw.fields flaw.here flaw.behind
    (one-of (AllByRecursion (IsReadableField escapes)) flaw.before (flaw.fields ++ flaw.here ∷ flaw.behind) flaw.after (subst (AllByRecursion (AllByRecursion (IsReadableField escapes))) flaw.of_text readable.sound))

no-fault : (escapes : Escapes) (cfg : Config) (text : List ℕ) (fault : InputFault) → IsReadable escapes cfg text → IsFaultOf escapes cfg text fault → fault ≡ Memory
no-fault escapes cfg text (NotText line field) readable why =
    elim why [
      | inl bytes ↦ absurd (bytes.no_text readable.is_text.0)
      | inr flaw ↦ absurd (flaw.flaw.0 (sound-here escapes IsNoUtf8 cfg text line field flaw readable).0)
    ]
no-fault escapes cfg text (Quote line) readable why = absurd (readable.is_text.1 why.quote.ends)
no-fault escapes cfg text (Escape line field) readable why = absurd (broken-fails escapes why.here why.byte why.flaw (sound-here escapes (HasBrokenEscape escapes) cfg text line field why readable))
no-fault escapes cfg text Memory readable why = refl

pub returns : goal.returns
returns c = λ escapes delimiter text fault. no-fault escapes (settings delimiter) text fault
