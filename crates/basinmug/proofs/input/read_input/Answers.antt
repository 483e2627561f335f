-- A text that is read to its end is all that was left.
use Rattle.std.proofs.Common.{◌≡◌, ◌∙◌, IfSome, None, Option, Some, option_copied, ℕ, List, [], ap, refl}
use Rattle.std.proofs.KnownBytes.{Consumes-all}
use Rattle.std.specs.Io.KnownBytes.{Consumes, IsAtEnd}
use Rattle.tabled_output.specs.Counts.{inner_of}
use Rattle.basinmug_head.specs.Heads.{asked_or_found}
use Rattle.basinmug_head.specs.declared.heads.Head.{Head}
use Rattle.basinmug.specs.Inputs.{IsInputOf}
use Rattle.basinmug.proofs.input.read_input.Goals as goal

all-read : (asked : Option ℕ) (file : Option (List ℕ)) (records : Option ℕ) (old new : Option (List ℕ)) (input : Head) → records ≡ None → Consumes old new input.bytes.items → IsAtEnd new
    → input.found ≡ asked_or_found asked input.bytes.items file → IfSome old (IsInputOf asked file records input)
all-read asked file (Some records) old new input none consumed ended found = cc none
all-read asked file None None new input none consumed ended found = tt
all-read asked file None (Some text) new input none consumed ended found =
    let all : input.bytes.items ≡ text = Consumes-all (Some text) new input.bytes.items [] input.bytes.items consumed ended refl in
    (all, found ∙ ap (λ (of : List ℕ). asked_or_found asked of file) all)

pub returns-in_default-clause-input : goal.returns-in_default-clause-input
returns-in_default-clause-input g c =
    let found = c.asked_or_found-found.ensures.found ∙ ap (λ (of : List ℕ). asked_or_found c.args.reading.delimiter of (option_copied c.args.reading.file)) c.deref.ensures.value in
    all-read c.args.reading.delimiter (option_copied c.args.reading.file) c.args.reading.records (g.R.Read.remaining (inner_of c.args.reader.now)) (g.R.Read.remaining (inner_of c.read_to_end.new.reader)) _
    c.in_default.is c.in_ok-bytes.ensures.bytes c.in_ok-bytes.ensures.end found
