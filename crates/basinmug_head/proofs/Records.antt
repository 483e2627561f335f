-- Records that have ended stay the first, whatever is after them.
use Rattle.std.proofs.Common.{◌≡◌, ◌∙◌, ◌+◌, ◌≤◌, ℕ, Bool, false, true, List, [], ◌∷◌, ◌++◌, ap, append_assoc, arith, if◌then◌else◌, length, length-append, refl, subst, sym, take}
use Rattle.std.specs.Prelude.{fold}
use Rattle.std.proofs.lemmas.List.{append-nil}
use Rattle.std.proofs.lemmas.List.Sums.{fold-append}
use Rattle.std.proofs.Math.Seq.{take-append_seam}
use Rattle.basinmug_input.specs.Reading.{SoFar, all_read, nothing, read_of, read_on, with_byte}
use Rattle.basinmug_input.proofs.ReadRecords.{records-read}
use Rattle.csv.specs.Machine.{ends_at_end, step}
use Rattle.csv.specs.Reading.{records}
use Rattle.csv.specs.declared.parser.Action.{Action}
use Rattle.csv.specs.declared.parser.Action.TheVariants as act
use Rattle.csv.specs.declared.parser.Config.{Config}
use Rattle.csv.specs.declared.parser.State.{State}
use Rattle.basinmug_head.specs.Walking.{EndsRecords}

abbrev Rows : Type 0
Rows = List (List (List ℕ))

-- ---- what has ended stays

ended-byte : (a : Action) (s : State) (r : SoFar) (c : ℕ) → (more : Rows) × ((with_byte a s r c).ended ≡ r.ended ++ more)
ended-byte act.Skip s r c = ([], sym (append-nil r.ended))
ended-byte act.Copy s r c = ([], sym (append-nil r.ended))
ended-byte act.EndField s r c = ([], sym (append-nil r.ended))
ended-byte act.EndRecord s r c = ((r.fields ++ r.field ∷ []) ∷ [], refl)

ended-more : (cfg : Config) (r : SoFar) (rest : List ℕ) → (more : Rows) × ((fold (read_on cfg) r rest).ended ≡ r.ended ++ more)
ended-more cfg r [] = ([], sym (append-nil r.ended))
ended-more cfg r (c ∷ rest) =
    let next = with_byte (step cfg r.state c).1 (step cfg r.state c).0 r c in
    let (here, one) = ended-byte (step cfg r.state c).1 (step cfg r.state c).0 r c in
    let (behind, others) = ended-more cfg next rest in
    (here ++ behind, others ∙ (ap (λ (rows : Rows). rows ++ behind) one ∙ append_assoc r.ended here behind))

all-ended : (r : SoFar) → (more : Rows) × (all_read r ≡ r.ended ++ more)
all-ended r =
    elim (ends_at_end r.state) as (λ (ends : Bool). (more : Rows) × ((if ends then r.ended ++ (r.fields ++ r.field ∷ []) ∷ [] else r.ended) ≡ r.ended ++ more)) [
      | true ↦ ((r.fields ++ r.field ∷ []) ∷ [], refl)
      | false ↦ ([], sym (append-nil r.ended))
    ]

-- the records of a text are those that have ended in a prefix of it, and others
pub ended-first : (cfg : Config) (text rest : List ℕ) → (more : Rows) × (records cfg (text ++ rest) ≡ (read_of cfg text).ended ++ more)
ended-first cfg text rest =
    let r = read_of cfg text in
    let all = fold (read_on cfg) r rest in
    let (behind, ended) = ended-more cfg r rest in
    let (last, every) = all-ended all in
    let joined : read_of cfg (text ++ rest) ≡ all = fold-append (read_on cfg) nothing text rest in (
      behind ++ last,
      records-read cfg (text ++ rest) ∙ (ap all_read joined ∙ (every ∙ (ap (λ (rows : Rows). rows ++ last) ended ∙ append_assoc r.ended behind last))),
    )

-- ---- where the last of so many ends

pub ends-all : (cfg : Config) (count : ℕ) (text : List ℕ) → EndsRecords cfg count text → records cfg text ≡ (read_of cfg text).ended
ends-all cfg count text ends =
    let r = read_of cfg text in
    records-read cfg text ∙ ap (λ (at_end : Bool). if at_end then r.ended ++ (r.fields ++ r.field ∷ []) ∷ [] else r.ended) ends.ended

-- its records are the first of each text that goes on after it
pub ends-first : (cfg : Config) (count : ℕ) (text rest : List ℕ) → EndsRecords cfg count text → records cfg text ≡ take count (records cfg (text ++ rest))
ends-first cfg count text rest ends =
    let r = read_of cfg text in
    let (more, all) = ended-first cfg text rest in
    ends-all cfg count text ends
    ∙ sym (ap (take count) all ∙ (ap (λ (n : ℕ). take n (r.ended ++ more)) (sym ends.counted) ∙ take-append_seam r.ended more))

-- a text has at most one record more than have ended
last-one : (r : SoFar) → length (all_read r) ≤ length r.ended + 1
last-one r =
    elim (ends_at_end r.state) as (λ (ends : Bool). length (if ends then r.ended ++ (r.fields ++ r.field ∷ []) ∷ [] else r.ended) ≤ length r.ended + 1) [
      | true ↦ let joined = length-append r.ended ((r.fields ++ r.field ∷ []) ∷ []) in omega (arith, joined)
      | false ↦ omega arith
    ]

pub at-most-one-more : (cfg : Config) (text : List ℕ) → length (records cfg text) ≤ length (read_of cfg text).ended + 1
at-most-one-more cfg text = subst (λ (rows : Rows). length rows ≤ length (read_of cfg text).ended + 1) (sym (records-read cfg text)) (last-one (read_of cfg text))
