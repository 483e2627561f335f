use Rattle.std.proofs.Common.{inl, inr, ◌∷◌, ◌++◌, subst}
use Rattle.std.specs.List.{AllByRecursion}
use Rattle.std.specs.Str.{IsUtf8}
use Rattle.basinmug_input.proofs.Texts.{fields-are_texts}
use Rattle.basinmug_input.proofs.OneFault.{one-of}
use Rattle.basinmug_input.proofs.laws.fields_of_texts_are_texts.Goals as goal

pub returns : goal.returns
returns c = record {
  fields = λ delimiter text low utf8. fields-are_texts delimiter text low utf8;
  faults = λ escapes delimiter text line field low why. elim why [
    | inl bytes ↦ bytes
    | inr flaw ↦
        let all = subst (AllByRecursion (AllByRecursion IsUtf8)) flaw.of_text (fields-are_texts delimiter text low flaw.is_text.0) in
        absurd (flaw.flaw.0 (one-of IsUtf8 flaw.fields flaw.here flaw.behind (one-of (AllByRecursion IsUtf8) flaw.before (flaw.fields ++ flaw.here ∷ flaw.behind) flaw.after all)))
  ];
}
