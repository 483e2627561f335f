-- More bytes are walked over, and bytes are cut after the last record.
use Rattle.std.proofs.Common.{◌≡◌, ◌∙◌, ◌+◌, ◌-◌, ◌<◌, ◌==◌, ◌&&◌, ◌≤◌, ◌⊎◌, inl, inr, ℕ, Bool, false, true, List, [], ◌∷◌, ◌++◌, ap, arith, drop, eqb-true, if◌then◌else◌, length, length-append, length-drop, not, refl, subst, sym, take}
use Rattle.std.specs.Prelude.{Option, None, Some}
use Rattle.std.proofs.lemmas.Bool.{and_parts, cases_lt, false≢true}
use Rattle.std.proofs.lemmas.List.{append-nil, append_assoc, drop-append-le, drop-take, drop_all, length-take, take-append-drop, take_all}
use Rattle.std.proofs.Math.Seq.{take-append-add}
use Rattle.std.specs.Io.KnownBytes.{Consumes, IsAtEnd}
use Rattle.basinmug_delimiter.specs.Preamble.{tells_mark}
use Rattle.basinmug_delimiter.specs.declared.Found.{Found}
use Rattle.basinmug_input.specs.Reading.{SoFar, nothing, read_of, read_on, settings, with_byte}
use Rattle.basinmug_input.specs.declared.progress.RecordState.{RecordState}
use Rattle.csv.specs.Reading.{records, strip_bom}
use Rattle.csv.specs.declared.parser.Action.{Action}
use Rattle.csv.specs.declared.parser.Action.TheVariants as act
use Rattle.csv.specs.declared.parser.State.{State}
use Rattle.csv.specs.declared.parser.State.TheVariants as st
use Rattle.basinmug_head.specs.Fronts.{TellsFields}
use Rattle.basinmug_head.specs.Heads.{IsCut, IsFoundIn, IsHeadIn, IsHeadOf, IsWhole, asked_or_found, records_of}
use Rattle.basinmug_head.specs.Walking.{EndsRecords, IsEnd, IsStep, IsStepOver, IsWalkOf, IsWalked, StandsBehind, behind_start, record_text}
use Rattle.basinmug_head.specs.declared.walk.Step.{Step}
use Rattle.basinmug_head.specs.declared.walk.Step.TheVariants.{On, End}
use Rattle.basinmug_head.specs.declared.walk.Walk.{Walk}
use Rattle.basinmug_input.proofs.ReadRecords.{records-read}
use Rattle.basinmug_head.proofs.Marks.{strip-more, strip-shorter, strip-take, told-more}
use Rattle.basinmug_head.proofs.Records.{at-most-one-more, ends-first}

-- ---- the text of the records

-- it grows by the bytes that come, once it is known whether a mark is at the start
pub text-more : (found : Found) (front rest : List ℕ) → found.start ≤ length front → tells_mark (behind_start found front) ≡ true
    → record_text found (front ++ rest) ≡ record_text found front ++ rest
text-more found front rest within told = ap strip_bom (drop-append-le found.start front rest within) ∙ strip-more (behind_start found front) rest told

pub told-start : (found : Found) (front : List ℕ) → tells_mark (behind_start found front) ≡ true → found.start ≤ length front
told-start found front told =
    elim (cases_lt (length front) found.start) [
      | inr within ↦ within
      | inl past ↦
          let none : behind_start found front ≡ [] = drop_all found.start front (omega (arith, past)) in
          absurd (false≢true (ap tells_mark (sym none) ∙ told))
    ]

pub text-shorter : (found : Found) (bytes : List ℕ) → found.start ≤ length bytes → length (record_text found bytes) + found.start ≤ length bytes
text-shorter found bytes within =
    let stripped = strip-shorter (behind_start found bytes) in
    let dropped = length-drop found.start bytes in
    omega (arith, stripped, dropped, within)

-- ---- steps

-- of the first bytes
pub step-first : (found : Found) (count : ℕ) (bytes : List ℕ) (step : Step) → tells_mark (behind_start found bytes) ≡ true → 0 < count
    → IsStepOver found count [] (record_text found bytes) (length bytes) step → IsStep found count bytes step
step-first found count bytes (On walk) told some over = record {
  same = over.0;
  some = some;
  stands = subst (λ (s : Option RecordState). StandsBehind found count bytes walk.left s) (sym over.2) (told, over.3);
}
step-first found count bytes (End end) told some over = record { told = told; number = over.0; within = over.1; place = over.2; ends = over.3 }

-- of more bytes
pub step-more : (found : Found) (count : ℕ) (front rest : List ℕ) (step : Step) → tells_mark (behind_start found front) ≡ true → 0 < count
    → IsStepOver found count (record_text found front) rest (length (front ++ rest)) step → IsStep found count (front ++ rest) step
step-more found count front rest (On walk) told some over =
    let within = told-start found front told in
    let state = over.1 in
    record {
      same = over.0;
      some = some;
      stands = subst (λ (s : Option RecordState). StandsBehind found count (front ++ rest) walk.left s) (sym over.2) (
        subst (λ (of : List ℕ). tells_mark of ≡ true) (sym (drop-append-le found.start front rest within)) (told-more (behind_start found front) rest told),
        subst (λ (of : List ℕ). IsWalkOf (settings found.delimiter) count of state walk.left) (sym (text-more found front rest within told)) over.3,
      );
    }
step-more found count front rest (End end) told some over =
    let within = told-start found front told in
    let n = over.0 in
    let text = record_text found front in
    let grown = text-more found front rest within told in
    let long = ap length grown ∙ length-append text rest in
    let all = length-append front rest in
    let short = text-shorter found front within in
    let low = over.1 in
    let place = over.2 in
    record {
      told = subst (λ (of : List ℕ). tells_mark of ≡ true) (sym (drop-append-le found.start front rest within)) (told-more (behind_start found front) rest told);
      number = length text + n;
      within = omega (arith, long, low);
      place = omega (arith, long, all, short, low, place);
      ends = subst (λ (of : List ℕ). EndsRecords (settings found.delimiter) count of)
          (sym (ap (take (length text + n)) grown ∙ take-append-add text rest n)) over.3;
    }

-- ---- bytes are cut after the last record

pub cut-of-end : (found : Found) (count : ℕ) (all : List ℕ) (end : ℕ) → IsEnd found count all end → IsCut found count all (take end all)
cut-of-end found count all end is =
    let text = record_text found all in
    let here = behind_start found all in
    let n = is.number in
    let cfg = settings found.delimiter in
    let within = told-start found all is.told in
    let short = strip-shorter here in
    let dropped = length-drop found.start all in
    let so_far = is.place in
    let place : end ≡ found.start + (length here - length text + n) = omega (arith, short, dropped, within, so_far) in
    let cut : record_text found (take end all) ≡ take n text =
    ap (λ (k : ℕ). record_text found (take k all)) place
    ∙ (ap strip_bom (drop-take found.start (length here - length text + n) all) ∙ strip-take here n) in
    record {
      behind = drop end all;
      front = sym (take-append-drop end all);
      first = λ rest.
          let grown : record_text found (all ++ rest) ≡ take n text ++ (drop n text ++ rest) =
          text-more found all rest within is.told
          ∙ (ap (λ (of : List ℕ). of ++ rest) (sym (take-append-drop n text)) ∙ append_assoc (take n text) (drop n text) rest) in
          ap (records cfg) cut
          ∙ (ends-first cfg count (take n text) (drop n text ++ rest) is.ends ∙ ap (λ (of : List ℕ). take count (records cfg of)) (sym grown));
    }

-- ---- there are no more records

-- what the first byte of a mark does, and what the second does
abbrev joins : Bool → State × Action
joins parts = if parts then (st.StartField, act.EndField) else (st.InField, act.Copy)

abbrev behind-first : Bool → SoFar
behind-first parts = with_byte (joins parts).1 (joins parts).0 nothing 0xef

first-mark : (d : ℕ) → length (read_of (settings d) (0xef ∷ [])).ended ≡ 0
first-mark d =
    elim (0xef == d) as (λ (parts : Bool). length (behind-first parts).ended ≡ 0) [
      | true ↦ refl
      | false ↦ refl
    ]

second-mark : (d : ℕ) → length (read_of (settings d) (0xef ∷ 0xbb ∷ [])).ended ≡ 0
second-mark d =
    elim (0xef == d) as (λ (parts : Bool). length (read_on (settings d) (behind-first parts) 0xbb).ended ≡ 0) [
      | true ↦ elim (0xbb == d) as (λ (parts : Bool). length (with_byte (joins parts).1 (joins parts).0 (behind-first true) 0xbb).ended ≡ 0) [
        | true ↦ refl
        | false ↦ refl
      ]
      | false ↦ elim (0xbb == d) as (λ (parts : Bool). length (with_byte (joins parts).1 (joins parts).0 (behind-first false) 0xbb).ended ≡ 0) [
        | true ↦ refl
        | false ↦ refl
      ]
    ]

untold-first : (is_first : Bool) → not is_first ≡ false → is_first ≡ true
untold-first true untold = refl
untold-first false untold = absurd (false≢true (sym untold))

one-more : (d : ℕ) (text : List ℕ) → length (read_of (settings d) text).ended ≡ 0 → length (records (settings d) text) ≤ 1
one-more d text none = let more = at-most-one-more (settings d) text in omega (arith, none, more)

untold-few : (d : ℕ) (text : List ℕ) → tells_mark text ≡ false → length (records (settings d) (strip_bom text)) ≤ 1
unfolding strip_bom
untold-few d [] untold = one-more d [] refl
untold-few d (a ∷ []) untold =
    let first : a ≡ 0xef = eqb-true a 0xef (untold-first (a == 0xef) untold) in
    subst (λ (b : ℕ). length (records (settings d) (b ∷ [])) ≤ 1) (sym first) (one-more d (0xef ∷ []) (first-mark d))
untold-few d (a ∷ b ∷ []) untold =
    let both = and_parts (a == 0xef) (b == 0xbb) (untold-first ((a == 0xef) && (b == 0xbb)) untold) in
    let first : a ≡ 0xef = eqb-true a 0xef both.0 in
    let second : b ≡ 0xbb = eqb-true b 0xbb both.1 in
    subst (λ (x : ℕ). length (records (settings d) (x ∷ b ∷ [])) ≤ 1) (sym first)
    (subst (λ (y : ℕ). length (records (settings d) (0xef ∷ y ∷ [])) ≤ 1) (sym second) (one-more d (0xef ∷ 0xbb ∷ []) (second-mark d)))
untold-few d (a ∷ b ∷ c ∷ rest) untold = absurd (false≢true (sym untold))

pub whole-of-walked : (found : Found) (count : ℕ) (all : List ℕ) (walk : Walk) → IsWalked found count all walk → IsWhole found count all all
whole-of-walked found count all walk is = record { same = refl; few = few-of walk.state is.stands }
  where
    few-of : (state : Option RecordState) → StandsBehind found count all walk.left state → length (records_of found all) ≤ count
    few-of None stands =
        let one = untold-few found.delimiter (behind_start found all) stands.0 in
        let some = is.some in
        omega (arith, one, some)
    few-of (Some state) stands =
        let one = at-most-one-more (settings found.delimiter) (record_text found all) in
        let counted = stands.1.counted in
        let some = stands.1.some in
        omega (arith, one, counted, some)

-- ---- what is kept of what is read

pub end-within : (found : Found) (count : ℕ) (all : List ℕ) (end : ℕ) → IsEnd found count all end → found.start ≤ length (take end all)
end-within found count all end is =
    let within = told-start found all is.told in
    let short = text-shorter found all within in
    let place = is.place in
    let long = length-take end all in
    omega (arith, within, short, place, long)

pub head-cut : (old new : Option (List ℕ)) (found : Found) (count : ℕ) (before more : List ℕ) (ended : Bool) (all bytes : List ℕ) (end : ℕ)
    → Consumes old new more → (ended ≡ true → more ≡ []) → all ≡ before ++ more → IsEnd found count all end → bytes ≡ take end all
    → IsHeadIn old new found count before ended bytes
head-cut old new found count before more ended all bytes end consumed no_more parts is cut =
    let here = subst (λ (of : List ℕ). IsCut found count of (take end all)) parts (cut-of-end found count all end is) in
    record {
      more = more;
      consumed = consumed;
      within = subst (λ (of : List ℕ). found.start ≤ length of) (sym cut) (end-within found count all end is);
      no_more = no_more;
      kept = inl (subst (λ (of : List ℕ). IsCut found count (before ++ more) of) (sym cut) here);
    }

pub head-whole : (old new : Option (List ℕ)) (found : Found) (count : ℕ) (before more : List ℕ) (ended : Bool) (all : List ℕ) (walk : Walk)
    → Consumes old new more → (ended ≡ true → more ≡ []) → all ≡ before ++ more → found.start ≤ length all → IsWalked found count all walk → (ended ≡ false → IsAtEnd new)
    → IsHeadIn old new found count before ended all
head-whole old new found count before more ended all walk consumed no_more parts within is at_end = record {
  more = more;
  consumed = consumed;
  within = within;
  no_more = no_more;
  kept = inr (subst (λ (of : List ℕ). IsWhole found count of all) parts (whole-of-walked found count all walk is), at_end);
}

-- no records are wanted
pub head-none : (old : Option (List ℕ)) (found : Found) (before bytes : List ℕ) (ended : Bool) → Consumes old old [] → found.start ≤ length before → bytes ≡ take found.start before
    → IsHeadIn old old found 0 before ended bytes
unfolding strip_bom
head-none old found before bytes ended consumed within cut =
    let long = length-take found.start before in
    let none : record_text found (take found.start before) ≡ [] = ap strip_bom (drop_all found.start (take found.start before) (omega (arith, long))) in
    record {
      more = [];
      consumed = consumed;
      within = subst (λ (of : List ℕ). found.start ≤ length of) (sym cut) (omega (arith, long, within));
      no_more = λ _. refl;
      kept = inl (record {
        behind = drop found.start before;
        front = append-nil before ∙ (sym (take-append-drop found.start before) ∙ ap (λ (of : List ℕ). of ++ drop found.start before) (sym cut));
        first = λ rest. ap (records_of found) cut ∙ (ap (records (settings found.delimiter)) none ∙ no-records found.delimiter);
      });
    }
  where
    no-records : (d : ℕ) → records (settings d) [] ≡ []
    no-records d = records-read (settings d) []

-- ---- the head of a text

pub head-is : (asked : Option ℕ) (file : Option (List ℕ)) (count : ℕ) (front more bytes rest : List ℕ) (found : Found) → found ≡ asked_or_found asked front file
    → (more ++ rest ≡ []) ⊎ TellsFields asked front → IsCut found count (front ++ more) bytes ⊎ (IsWhole found count (front ++ more) bytes × (rest ≡ []))
    → IsHeadOf asked file count bytes found ((front ++ more) ++ rest)
head-is asked file count front more bytes rest found is told kept =
    let finding : IsFoundIn asked file ((front ++ more) ++ rest) found = record {
      front = front;
      behind = more ++ rest;
      parts = append_assoc front more rest;
      told = told;
      found_by = is;
    } in
    elim kept [
      | inl cut ↦ record {
        finding = finding;
        behind = cut.behind ++ rest;
        front = ap (λ (of : List ℕ). of ++ rest) cut.front ∙ append_assoc bytes cut.behind rest;
        first = cut.first rest;
      }
      | inr whole ↦
          let all : (front ++ more) ++ rest ≡ bytes = ap (λ (of : List ℕ). (front ++ more) ++ of) whole.1 ∙ (append-nil (front ++ more) ∙ sym whole.0.same) in
          record {
            finding = finding;
            behind = [];
            front = all ∙ sym (append-nil bytes);
            first = sym (ap (λ (of : List ℕ). take count (records_of found of)) all ∙ take_all count (records_of found bytes) whole.0.few);
          }
    ]

-- what is after the bytes that two reads gave
pub left-behind : (left : List ℕ) (mid new : Option (List ℕ)) (front more : List ℕ) → Consumes (Some left) mid front → Consumes mid new more
    → (rest : List ℕ) × (left ≡ (front ++ more) ++ rest) × (IsAtEnd mid → rest ≡ []) × (IsAtEnd new → rest ≡ [])
left-behind left None new front more first second = absurd first
left-behind left (Some ys) None front more first second = absurd second
left-behind left (Some ys) (Some zs) front more first second = (
  zs,
  first ∙ (ap (λ (of : List ℕ). front ++ of) second ∙ sym (append_assoc front more zs)),
  λ none. nothing-behind more zs (sym second ∙ none),
  λ none. none,
)
  where
    nothing-behind : (xs ys : List ℕ) → xs ++ ys ≡ [] → ys ≡ []
    nothing-behind [] ys none = none
    nothing-behind (x ∷ xs) ys none = cc none
