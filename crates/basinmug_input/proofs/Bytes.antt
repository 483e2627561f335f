-- How many bytes the fields have that are read so far.
use Rattle.std.proofs.Common.{◌≡◌, ◌∙◌, ◌<◌, ◌≤◌, ℕ, zero, suc, Bool, true, false, List, [], ◌∷◌, ◌++◌, inl, inr, length, get_or, refl, sym, ap, subst, arith}
use Rattle.std.proofs.lemmas.Bool.{cases_eq, cases_lt}
use Rattle.std.proofs.lemmas.List.{get_or_append_left, get_or_past, get_or_push, length_push}
use Rattle.std.specs.Prelude.{if◌then◌else◌}
use Rattle.csv.specs.Machine.{ends_at_end}
use Rattle.csv.specs.declared.parser.Action.{Action}
use Rattle.csv.specs.declared.parser.Action.TheVariants as act
use Rattle.csv.specs.declared.parser.Config.{Config}
use Rattle.csv.specs.declared.parser.State.{State}
use Rattle.basinmug_input.specs.Reading.{HasByte, SoFar, field_in, read_of, with_byte}
use Rattle.basinmug_input.proofs.ReadRecords.{records-read}

pub other-push : {X : Type 0} (xs : List X) (y d : X) (i : ℕ) → (i ≡ length xs → ⊥) → get_or (xs ++ y ∷ []) i d ≡ get_or xs i d
other-push xs y d i other =
    elim (cases_lt i (length xs)) [
      | inl below ↦ get_or_append_left xs (y ∷ []) d i below
      | inr above ↦
          let size = length_push xs y in
          get_or_past (xs ++ y ∷ []) i d (omega (arith, size, above, other)) ∙ sym (get_or_past xs i d above)
    ]

-- a default that is put to a list can't be distinguished from none
pub default-push : {X : Type 0} (xs : List X) (d : X) (i : ℕ) → get_or (xs ++ d ∷ []) i d ≡ get_or xs i d
default-push xs d i =
    elim (cases_eq i (length xs)) [
      | inl same ↦ get_or_push xs d d i (sym same) ∙ sym (get_or_past xs i d (omega (arith, same)))
      | inr other ↦ other-push xs d d i other
    ]

-- what is read, with the record at hand
abbrev pub with_hand : SoFar → List (List (List ℕ))
with_hand r = r.ended ++ (r.fields ++ r.field ∷ []) ∷ []

-- this field of this record has at most so many bytes so far
abbrev pub HasAtMost : SoFar → ℕ → ℕ → ℕ → Type 0
HasAtMost r row field byte = length (field_in (with_hand r) row field) ≤ byte

pub no-bytes : (row field byte : ℕ) → length (field_in (([] ∷ []) ∷ []) row field) ≤ byte
no-bytes zero zero byte = omega arith
no-bytes zero (suc field) byte = omega arith
no-bytes (suc row) field byte = let none = ap length (get_or_past {X = List ℕ} [] field [] (omega arith)) in omega (arith, none)

-- two records in the same place
pub both-push : (rows : List (List (List ℕ))) (x y : List (List ℕ)) (row field : ℕ) → get_or x field [] ≡ get_or y field []
    → field_in (rows ++ x ∷ []) row field ≡ field_in (rows ++ y ∷ []) row field
both-push rows x y row field same =
    elim (cases_eq row (length rows)) [
      | inl here ↦
          ap (λ (fs : List (List ℕ)). get_or fs field []) (get_or_push rows x [] row (sym here))
          ∙ same
          ∙ sym (ap (λ (fs : List (List ℕ)). get_or fs field []) (get_or_push rows y [] row (sym here)))
      | inr other ↦ ap (λ (fs : List (List ℕ)). get_or fs field []) (other-push rows x [] row other ∙ sym (other-push rows y [] row other))
    ]

copied : (s : State) (r : SoFar) (b row field byte : ℕ) → HasAtMost r row field byte → (length r.ended ≡ row → length r.fields ≡ field → length r.field ≡ byte → ⊥)
    → HasAtMost (with_byte act.Copy s r b) row field byte
copied s r b row field byte few never =
    let x : List (List ℕ) = r.fields ++ r.field ∷ [] in
    let y : List (List ℕ) = r.fields ++ (r.field ++ b ∷ []) ∷ [] in
    elim (cases_eq field (length r.fields)) [
      | inr other ↦
          let same : get_or x field [] ≡ get_or y field [] = other-push r.fields r.field [] field other ∙ sym (other-push r.fields (r.field ++ b ∷ []) [] field other) in
          subst (λ (bytes : List ℕ). length bytes ≤ byte) (both-push r.ended x y row field same) few
      | inl here ↦ elim (cases_eq row (length r.ended)) [
        | inr other ↦
            subst (λ (bytes : List ℕ). length bytes ≤ byte)
            (ap (λ (fs : List (List ℕ)). get_or fs field []) (other-push r.ended x [] row other ∙ sym (other-push r.ended y [] row other))) few
        | inl at ↦
            let old : field_in (with_hand r) row field ≡ r.field =
            ap (λ (fs : List (List ℕ)). get_or fs field []) (get_or_push r.ended x [] row (sym at)) ∙ get_or_push r.fields r.field [] field (sym here) in
            let new : field_in (r.ended ++ y ∷ []) row field ≡ r.field ++ b ∷ [] =
            ap (λ (fs : List (List ℕ)). get_or fs field []) (get_or_push r.ended y [] row (sym at)) ∙ get_or_push r.fields (r.field ++ b ∷ []) [] field (sym here) in
            let low : length r.field ≤ byte = subst (λ (bytes : List ℕ). length bytes ≤ byte) old few in
            let ne : length r.field ≡ byte → ⊥ = never (sym at) (sym here) in
            let size = length_push r.field b in
            let above : length (r.field ++ b ∷ []) ≤ byte = omega (arith, low, ne, size) in
            subst (λ (bytes : List ℕ). length bytes ≤ byte) (sym new) above
      ]
    ]

ended-record : (s : State) (r : SoFar) (b row field byte : ℕ) → HasAtMost r row field byte → HasAtMost (with_byte act.EndRecord s r b) row field byte
ended-record s r b row field byte few =
    elim (cases_eq row (length (with_hand r))) [
      | inl here ↦
          let new = ap (λ (fs : List (List ℕ)). get_or fs field []) (get_or_push (with_hand r) ([] ∷ []) [] row (sym here)) in
          subst (λ (bytes : List ℕ). length bytes ≤ byte) (sym new) (no-bytes 0 field byte)
      | inr other ↦
          let new = ap (λ (fs : List (List ℕ)). get_or fs field []) (other-push (with_hand r) ([] ∷ []) [] row other) in
          subst (λ (bytes : List ℕ). length bytes ≤ byte) (sym new) few
    ]

pub few-with : (a : Action) (s : State) (r : SoFar) (b row field byte : ℕ) → HasAtMost r row field byte
    → (a ≡ act.Copy → length r.ended ≡ row → length r.fields ≡ field → length r.field ≡ byte → ⊥)
    → HasAtMost (with_byte a s r b) row field byte
few-with act.Skip s r b row field byte few never = few
few-with act.Copy s r b row field byte few never = copied s r b row field byte few (never refl)
few-with act.EndField s r b row field byte few never =
    let x : List (List ℕ) = r.fields ++ r.field ∷ [] in
    subst (λ (bytes : List ℕ). length bytes ≤ byte) (both-push r.ended x (x ++ [] ∷ []) row field (sym (default-push x [] field))) few
few-with act.EndRecord s r b row field byte few never = ended-record s r b row field byte few

few-all : (b : Bool) (r : SoFar) (row field byte : ℕ) → HasAtMost r row field byte → length (field_in (if b then with_hand r else r.ended) row field) ≤ byte
few-all true r row field byte few = few
few-all false r row field byte few =
    let x : List (List ℕ) = r.fields ++ r.field ∷ [] in
    elim (cases_lt row (length r.ended)) [
      | inl below ↦ subst (λ (bytes : List ℕ). length bytes ≤ byte) (ap (λ (fs : List (List ℕ)). get_or fs field []) (get_or_append_left r.ended (x ∷ []) [] row below)) few
      | inr above ↦
          let none = ap (λ (fs : List (List ℕ)). get_or fs field []) (get_or_past r.ended row [] above) ∙ get_or_past {X = List ℕ} [] field [] (omega arith) in
          subst (λ (bytes : List ℕ). length bytes ≤ byte) (sym none) (omega arith)
    ]

-- a byte of a text is read at some time
pub read-all : (cfg : Config) (text : List ℕ) (row field byte : ℕ) → HasAtMost (read_of cfg text) row field byte → HasByte cfg text row field byte → ⊥
read-all cfg text row field byte few has =
    let r = read_of cfg text in
    let all = few-all (ends_at_end r.state) r row field byte few in
    let here = subst (λ (rows : List (List (List ℕ))). byte < length (field_in rows row field)) (records-read cfg text) has in
    omega (arith, all, here)
