-- Bytes with the first records of a text are a head of it.
use Rattle.std.proofs.Common.{ℕ, List, [], Option, None, Some, append-nil, drop, inl, refl, sym, take}
use Rattle.std.proofs.lemmas.List.{take-append-drop}
use Rattle.basinmug_bounded.specs.Texts.{AreReadOf, HaveRecords, found_by}

pub are-read : (given records : Option ℕ) (text : List ℕ) (end : ℕ) → HaveRecords (found_by given text) records text (take end text) → AreReadOf given records text (take end text)
are-read given None text end have = have
are-read given (Some records) text end have = record {
  finding = record { front = text; behind = []; parts = sym (append-nil text); told = inl refl; found_by = refl };
  behind = drop end text;
  front = sym (take-append-drop end text);
  first = have;
}
