-- Where the first records of bytes end.
use Rattle.std.proofs.Common.{◌≡◌, ◌∙◌, ◌≤◌, ℕ, List, [], ap, arith, length, subst, sym, take}
use Rattle.std.proofs.Math.Seq.{take-length}
use Rattle.std.proofs.lemmas.List.{append-nil, drop_all, length-take, take_all}
use Rattle.basinmug_delimiter.specs.declared.Found.{Found}
use Rattle.basinmug_input.specs.Reading.{settings}
use Rattle.basinmug_input.proofs.ReadRecords.{records-read}
use Rattle.csv.specs.Reading.{records, strip_bom}
use Rattle.basinmug_head.specs.Heads.{records_of}
use Rattle.basinmug_head.specs.Walking.{IsEnd, IsStep, IsWalked, record_text}
use Rattle.basinmug_head.specs.declared.walk.Step.{Step}
use Rattle.basinmug_head.specs.declared.walk.Walk.{Walk}
use Rattle.basinmug_head.proofs.Walks.{cut-of-end, end-within, text-shorter, told-start, whole-of-walked}

-- what comes of bytes of which none are walked over yet
pub first-step : (found of : Found) (records : ℕ) (bytes : List ℕ) (walk : Walk) (step : Step) → IsWalked found records [] walk → of ≡ found
    → ((count : ℕ) → IsWalked of count (take 0 bytes) walk → IsStep of count bytes step) → IsStep found records bytes step
first-step found of records bytes walk step start same steps =
    subst (λ (f : Found). IsStep f records bytes step) same (steps records (subst (λ (f : Found). IsWalked f records [] walk) (sym same) start))

-- the bytes up to this place have the first so many records
abbrev pub Ends : Found → ℕ → List ℕ → ℕ → Type 0
Ends found count all end = records_of found (take end all) ≡ take count (records_of found all)

pub end-below : (found : Found) (count : ℕ) (all : List ℕ) (end : ℕ) → IsEnd found count all end → end ≤ length all
end-below found count all end is =
    let short = text-shorter found all (told-start found all is.told) in
    let low = is.within in
    let place = is.place in omega (arith, short, low, place)

pub end-above : (found : Found) (count : ℕ) (all : List ℕ) (end : ℕ) → IsEnd found count all end → found.start ≤ end
end-above found count all end is =
    let within = end-within found count all end is in
    let long = length-take end all in omega (arith, within, long)

pub ends-there : (found : Found) (count : ℕ) (all : List ℕ) (end : ℕ) → IsEnd found count all end → Ends found count all end
ends-there found count all end is = (cut-of-end found count all end is).first [] ∙ ap (λ (of : List ℕ). take count (records_of found of)) (append-nil all)

-- all of them have no more
pub ends-whole : (found : Found) (count : ℕ) (all : List ℕ) (walk : Walk) → IsWalked found count all walk → Ends found count all (length all)
ends-whole found count all walk is =
    ap (records_of found) (take-length all) ∙ sym (take_all count (records_of found all) (whole-of-walked found count all walk is).few)

-- no records are before the first
pub ends-none : (found : Found) (all : List ℕ) → found.start ≤ length all → Ends found 0 all found.start
unfolding strip_bom
ends-none found all within =
    let long = length-take found.start all in
    let none : record_text found (take found.start all) ≡ [] = ap strip_bom (drop_all found.start (take found.start all) (omega (arith, long))) in
    ap (records (settings found.delimiter)) none ∙ records-read (settings found.delimiter) []
