-- A text has one error, and each error one place.
use Rattle.std.proofs.Common.{◌≡◌, ◌∙◌, ◌+◌, ◌-◌, ◌<◌, ◌≤◌, ℕ, zero, suc, List, [], ◌∷◌, ◌++◌, inl, inr, length, get_or, refl, sym, ap, subst, arith}
use Rattle.std.proofs.lemmas.Bool.{cases_eq, cases_lt}
use Rattle.std.proofs.lemmas.List.{get_or_past, get_or_push, length_push}
use Rattle.std.proofs.lemmas.List.Sums.{fold_more}
use Rattle.std.proofs.lemmas.Str.{utf8_valid_len-IsValidUpTo}
use Rattle.std.specs.List.{AllByRecursion}
use Rattle.std.specs.Str.{IsUtf8, IsValidUpTo}
use Rattle.ansi_scan.proofs.FirstBroken.{IsFirstBroken-same, IsWhole-IsFirstBroken}
use Rattle.csv.specs.Machine.{step}
use Rattle.csv.specs.declared.parser.Action.{Action}
use Rattle.csv.specs.declared.parser.Action.TheVariants as act
use Rattle.csv.specs.declared.parser.Config.{Config}
use Rattle.csv.specs.declared.parser.State.{State}
use Rattle.program_options.specs.declared.basinmug.Escapes.{Escapes}
use Rattle.program_options.specs.declared.basinmug.Escapes.TheVariants.{Colors, All, None as NoEscapes}
use Rattle.basinmug_input.specs.Faults.{HasFirstFlaw, IsFaultOf}
use Rattle.basinmug_input.specs.Flaws.{HasBrokenEscape, IsNoUtf8, IsReadableField}
use Rattle.basinmug_input.specs.Places.{IsOpenQuote, IsReadAs, field_at, line_number_at, read_before}
use Rattle.basinmug_input.specs.Reading.{SoFar, field_in, nothing, read_on, with_byte}
use Rattle.basinmug_input.specs.declared.fault.InputFault.{InputFault}
use Rattle.basinmug_input.specs.declared.fault.InputFault.TheVariants.{NotText, Quote, Escape, Memory}
use Rattle.basinmug_input.proofs.Bytes.{both-push, default-push, other-push, with_hand}

-- ---- a byte of a field is read once

-- this field of this record has at least so many bytes
abbrev HasAtLeast : SoFar → ℕ → ℕ → ℕ → Type 0
HasAtLeast r row field n = n ≤ length (field_in (with_hand r) row field)

hand : (rows : List (List (List ℕ))) (fields : List (List ℕ)) (x : List ℕ) (row field : ℕ) → length rows ≡ row → length fields ≡ field
    → field_in (rows ++ (fields ++ x ∷ []) ∷ []) row field ≡ x
hand rows fields x row field at here =
    ap (λ (fs : List (List ℕ)). get_or fs field []) (get_or_push rows (fields ++ x ∷ []) [] row at) ∙ get_or_push fields x [] field here

longer : (s : State) (r : SoFar) (b row field n : ℕ) → HasAtLeast r row field n → HasAtLeast (with_byte act.Copy s r b) row field n
longer s r b row field n more =
    let x : List (List ℕ) = r.fields ++ r.field ∷ [] in
    let y : List (List ℕ) = r.fields ++ (r.field ++ b ∷ []) ∷ [] in
    elim (cases_eq field (length r.fields)) [
      | inr other ↦
          let same : get_or x field [] ≡ get_or y field [] = other-push r.fields r.field [] field other ∙ sym (other-push r.fields (r.field ++ b ∷ []) [] field other) in
          subst (λ (bytes : List ℕ). n ≤ length bytes) (both-push r.ended x y row field same) more
      | inl here ↦ elim (cases_eq row (length r.ended)) [
        | inr other ↦
            subst (λ (bytes : List ℕ). n ≤ length bytes)
            (ap (λ (fs : List (List ℕ)). get_or fs field []) (other-push r.ended x [] row other ∙ sym (other-push r.ended y [] row other))) more
        | inl at ↦
            let old = subst (λ (bytes : List ℕ). n ≤ length bytes) (hand r.ended r.fields r.field row field (sym at) (sym here)) more in
            let size = length_push r.field b in
            let above : n ≤ length (r.field ++ b ∷ []) = omega (arith, old, size) in
            subst (λ (bytes : List ℕ). n ≤ length bytes) (sym (hand r.ended r.fields (r.field ++ b ∷ []) row field (sym at) (sym here))) above
      ]
    ]

keeps-record : (s : State) (r : SoFar) (b row field n : ℕ) → HasAtLeast r row field n → HasAtLeast (with_byte act.EndRecord s r b) row field n
keeps-record s r b row field n more =
    elim (cases_eq row (length (with_hand r))) [
      | inl here ↦
          let none = ap (λ (fs : List (List ℕ)). length (get_or fs field [])) (get_or_past (with_hand r) row [] (omega (arith, here))) ∙ ap length (get_or_past {X = List ℕ} [] field [] (omega arith)) in
          let zero_bytes : n ≡ 0 = omega (arith, none, more) in
          omega (arith, zero_bytes)
      | inr other ↦
          subst (λ (bytes : List ℕ). n ≤ length bytes) (sym (ap (λ (fs : List (List ℕ)). get_or fs field []) (other-push (with_hand r) ([] ∷ []) [] row other))) more
    ]

keeps : (a : Action) (s : State) (r : SoFar) (b row field n : ℕ) → HasAtLeast r row field n → HasAtLeast (with_byte a s r b) row field n
keeps act.Skip s r b row field n more = more
keeps act.Copy s r b row field n more = longer s r b row field n more
keeps act.EndField s r b row field n more =
    let x : List (List ℕ) = r.fields ++ r.field ∷ [] in
    subst (λ (bytes : List ℕ). n ≤ length bytes) (both-push r.ended x (x ++ [] ∷ []) row field (sym (default-push x [] field))) more
keeps act.EndRecord s r b row field n more = keeps-record s r b row field n more

next : (cfg : Config) (text : List ℕ) (i : ℕ) → i < length text
    → read_before cfg text (i + 1) ≡ with_byte (step cfg (read_before cfg text i).state (get_or text i 0)).1 (step cfg (read_before cfg text i).state (get_or text i 0)).0 (read_before cfg text i) (get_or text i 0)
next cfg text i below = fold_more (read_on cfg) nothing text i 0 below

later : (cfg : Config) (text : List ℕ) (i k row field n : ℕ) → HasAtLeast (read_before cfg text i) row field n → i + k ≤ length text → HasAtLeast (read_before cfg text (i + k)) row field n
later cfg text i zero row field n more within = subst (λ m. HasAtLeast (read_before cfg text m) row field n) (let same : i ≡ i + 0 = omega arith in same) more
later cfg text i (suc k) row field n more within =
    let before = read_before cfg text (i + k) in
    let b = get_or text (i + k) 0 in
    let rest = later cfg text i k row field n more (omega (arith, within)) in
    let one : HasAtLeast (read_before cfg text ((i + k) + 1)) row field n =
    subst (λ (r : SoFar). HasAtLeast r row field n) (sym (next cfg text (i + k) (omega (arith, within)))) (keeps (step cfg before.state b).1 (step cfg before.state b).0 before b row field n rest) in
    let same : (i + k) + 1 ≡ i + suc k = omega arith in
    subst (λ m. HasAtLeast (read_before cfg text m) row field n) same one

not-before : (cfg : Config) (text : List ℕ) (row field byte at at2 : ℕ) → IsReadAs cfg text at row field byte → IsReadAs cfg text at2 row field byte → at < at2 → ⊥
not-before cfg text row field byte at at2 one two lt =
    let before = read_before cfg text at in
    let b = get_or text at 0 in
    let s = (step cfg before.state b).0 in
    let read : read_before cfg text (at + 1) ≡ with_byte act.Copy s before b = next cfg text at one.within ∙ ap (λ a. with_byte a s before b) one.joins in
    let size = length_push before.field b in
    let as_byte = one.as_byte in
    let long : byte + 1 ≤ length (before.field ++ b ∷ []) = omega (arith, size, as_byte) in
    let first : HasAtLeast (read_before cfg text (at + 1)) row field (byte + 1) =
    subst (λ (r : SoFar). HasAtLeast r row field (byte + 1)) (sym read)
    (subst (λ (bytes : List ℕ). byte + 1 ≤ length bytes) (sym (hand before.ended before.fields (before.field ++ b ∷ []) row field one.in_record one.in_field)) long) in
    let k = at2 - (at + 1) in
    let is : at2 ≡ (at + 1) + k = omega (arith, lt) in
    let end = two.within in
    let still : HasAtLeast (read_before cfg text at2) row field (byte + 1) = subst (λ m. HasAtLeast (read_before cfg text m) row field (byte + 1)) (sym is) (later cfg text (at + 1) k row field (byte + 1) first (omega (arith, is, end))) in
    let after = read_before cfg text at2 in
    let last = subst (λ (bytes : List ℕ). byte + 1 ≤ length bytes) (hand after.ended after.fields after.field row field two.in_record two.in_field) still in
    let same = two.as_byte in
    omega (arith, last, same)

-- the byte of a field is read from one place
read-once : (cfg : Config) (text : List ℕ) (row field byte at at2 : ℕ) → IsReadAs cfg text at row field byte → IsReadAs cfg text at2 row field byte → at ≡ at2
read-once cfg text row field byte at at2 one two =
    elim (cases_lt at at2) [
      | inl below ↦ absurd (not-before cfg text row field byte at at2 one two below)
      | inr above ↦ elim (cases_eq at at2) [
        | inl same ↦ same
        | inr other ↦ absurd (not-before cfg text row field byte at2 at two one (omega (arith, above, other)))
      ]
    ]

-- ---- the first of a list that fails is one

first-same : {A : Type 0} (P : A → Type 0) (xs : List A) (x : A) (ys xs2 : List A) (x2 : A) (ys2 : List A) → xs ++ x ∷ ys ≡ xs2 ++ x2 ∷ ys2
    → AllByRecursion P xs → (P x → ⊥) → AllByRecursion P xs2 → (P x2 → ⊥) → (length xs ≡ length xs2) × (x ≡ x2)
first-same P [] x ys [] x2 ys2 same all fails all2 fails2 = (refl, cc same)
first-same P [] x ys (q ∷ xs2) x2 ys2 same all fails all2 fails2 = let first : x ≡ q = cc same in absurd (fails (subst P (sym first) all2.0))
first-same P (p ∷ xs) x ys [] x2 ys2 same all fails all2 fails2 = let first : p ≡ x2 = cc same in absurd (fails2 (subst P first all.0))
first-same P (p ∷ xs) x ys (q ∷ xs2) x2 ys2 same all fails all2 fails2 =
    let rest : xs ++ x ∷ ys ≡ xs2 ++ x2 ∷ ys2 = cc same in
    let more = first-same P xs x ys xs2 x2 ys2 rest all.1 fails all2.1 fails2 in
    (ap suc more.0, more.1)

pub one-of : {A : Type 0} (P : A → Type 0) (before : List A) (x : A) (behind : List A) → AllByRecursion P (before ++ x ∷ behind) → P x
one-of P [] x behind all = all.0
one-of P (y ∷ before) x behind all = one-of P before x behind all.1

no-text-fails : (escapes : Escapes) (field : List ℕ) (byte : ℕ) → IsNoUtf8 field byte → IsReadableField escapes field → ⊥
no-text-fails escapes field byte flaw sound = flaw.0 sound.0

pub broken-fails : (escapes : Escapes) (field : List ℕ) (byte : ℕ) → HasBrokenEscape escapes field byte → IsReadableField escapes field → ⊥
broken-fails All field byte flaw sound = IsWhole-IsFirstBroken field byte sound.1 flaw.1
broken-fails Colors field byte flaw sound = flaw
broken-fails NoEscapes field byte flaw sound = flaw

-- two first flaws are of one field
record AreOfOne (row field row2 field2 : ℕ) (here here2 : List ℕ) : Type 0 where
  row_same : row ≡ row2
  field_same : field ≡ field2
  here_same : here ≡ here2

same-field : (escapes : Escapes) (F G : List ℕ → ℕ → Type 0) → ((field : List ℕ) (byte : ℕ) → F field byte → IsReadableField escapes field → ⊥) → ((field : List ℕ) (byte : ℕ) → G field byte → IsReadableField escapes field → ⊥)
    → (cfg : Config) (text : List ℕ) (line field line2 field2 : ℕ) (one : HasFirstFlaw escapes F cfg text line field) (two : HasFirstFlaw escapes G cfg text line2 field2)
    → AreOfOne (length one.before) (length one.fields) (length two.before) (length two.fields) one.here two.here
same-field escapes F G fails fails2 cfg text line field line2 field2 one two =
    let rows = first-same (AllByRecursion (IsReadableField escapes)) one.before (one.fields ++ one.here ∷ one.behind) one.after two.before (two.fields ++ two.here ∷ two.behind) two.after
    (sym one.of_text ∙ two.of_text) one.sound_records (λ all. fails one.here one.byte one.flaw (one-of (IsReadableField escapes) one.fields one.here one.behind all))
    two.sound_records (λ all. fails2 two.here two.byte two.flaw (one-of (IsReadableField escapes) two.fields two.here two.behind all)) in
    let fields = first-same (IsReadableField escapes) one.fields one.here one.behind two.fields two.here two.behind rows.1
    one.sound_fields (fails one.here one.byte one.flaw) two.sound_fields (fails2 two.here two.byte two.flaw) in
    record { row_same = rows.0; field_same = fields.0; here_same = fields.1 }

-- two first flaws of one kind have one place
same-place : (escapes : Escapes) (F : List ℕ → ℕ → Type 0) → ((field : List ℕ) (byte : ℕ) → F field byte → IsReadableField escapes field → ⊥) → ((field : List ℕ) (byte byte2 : ℕ) → F field byte → F field byte2 → byte ≡ byte2)
    → (cfg : Config) (text : List ℕ) (line field line2 field2 : ℕ) → HasFirstFlaw escapes F cfg text line field → HasFirstFlaw escapes F cfg text line2 field2 → (line ≡ line2) × (field ≡ field2)
same-place escapes F fails unique cfg text line field line2 field2 one two =
    let same = same-field escapes F F fails fails cfg text line field line2 field2 one two in
    let byte = unique one.here one.byte two.byte one.flaw (subst (λ (here : List ℕ). F here two.byte) (sym same.here_same) two.flaw) in
    let read : IsReadAs cfg text two.at (length one.before) (length one.fields) one.byte = rw (same.row_same, same.field_same, byte) two.read in
    let at = read-once cfg text (length one.before) (length one.fields) one.byte one.at two.at one.read read in
    (one.in_line ∙ ap (line_number_at text) at ∙ sym two.in_line, one.in_field ∙ ap (λ n. n + 1) same.field_same ∙ sym two.in_field)

valid-once : (bytes : List ℕ) (n m : ℕ) → IsValidUpTo bytes n → IsValidUpTo bytes m → n ≡ m
valid-once bytes n m one two = sym (utf8_valid_len-IsValidUpTo bytes n one) ∙ utf8_valid_len-IsValidUpTo bytes m two

no-text-once : (field : List ℕ) (byte byte2 : ℕ) → IsNoUtf8 field byte → IsNoUtf8 field byte2 → byte ≡ byte2
no-text-once field byte byte2 one two = valid-once field byte byte2 one.1 two.1

broken-once : (escapes : Escapes) (field : List ℕ) (byte byte2 : ℕ) → HasBrokenEscape escapes field byte → HasBrokenEscape escapes field byte2 → byte ≡ byte2
broken-once All field byte byte2 one two = IsFirstBroken-same field byte byte2 one.1 two.1
broken-once Colors field byte byte2 one two = absurd one
broken-once NoEscapes field byte byte2 one two = absurd one

broken-text : (escapes : Escapes) (field : List ℕ) (byte : ℕ) → HasBrokenEscape escapes field byte → IsUtf8 field
broken-text All field byte flaw = flaw.0
broken-text Colors field byte flaw = absurd flaw
broken-text NoEscapes field byte flaw = absurd flaw

-- a field isn't text and no text
one-kind : (escapes : Escapes) (cfg : Config) (text : List ℕ) (line field line2 field2 : ℕ) → HasFirstFlaw escapes IsNoUtf8 cfg text line field → HasFirstFlaw escapes (HasBrokenEscape escapes) cfg text line2 field2 → ⊥
one-kind escapes cfg text line field line2 field2 one two =
    let same = same-field escapes IsNoUtf8 (HasBrokenEscape escapes) (no-text-fails escapes) (broken-fails escapes) cfg text line field line2 field2 one two in
    one.flaw.0 (subst IsUtf8 (sym same.here_same) (broken-text escapes two.here two.byte two.flaw))

open-once : (cfg : Config) (text : List ℕ) (at at2 : ℕ) → IsOpenQuote cfg text at → IsOpenQuote cfg text at2 → at ≡ at2
open-once cfg text at at2 one two =
    elim (cases_lt at at2) [
      | inl below ↦ absurd (one.last at2 below two.within two.opens)
      | inr above ↦ elim (cases_eq at at2) [
        | inl same ↦ same
        | inr other ↦ absurd (two.last at (omega (arith, above, other)) one.within one.opens)
      ]
    ]

pub one-fault : (escapes : Escapes) (cfg : Config) (text : List ℕ) (one two : InputFault) → IsFaultOf escapes cfg text one → IsFaultOf escapes cfg text two → (one ≡ Memory → ⊥) → (two ≡ Memory → ⊥) → one ≡ two
one-fault escapes cfg text Memory two why why2 told told2 = absurd (told refl)
one-fault escapes cfg text (NotText line field) Memory why why2 told told2 = absurd (told2 refl)
one-fault escapes cfg text (Quote line) Memory why why2 told told2 = absurd (told2 refl)
one-fault escapes cfg text (Escape line field) Memory why why2 told told2 = absurd (told2 refl)
one-fault escapes cfg text (NotText line field) (NotText line2 field2) (inl bytes) (inl bytes2) told told2 =
    let at = valid-once text bytes.at bytes2.at bytes.valid bytes2.valid in
    let line_same = bytes.in_line ∙ ap (line_number_at text) at ∙ sym bytes2.in_line in
    let field_same = bytes.in_field ∙ ap (field_at cfg text) at ∙ sym bytes2.in_field in
    cc (line_same, field_same)
one-fault escapes cfg text (NotText line field) (NotText line2 field2) (inl bytes) (inr flaw) told told2 = absurd (bytes.no_text flaw.is_text.0)
one-fault escapes cfg text (NotText line field) (NotText line2 field2) (inr flaw) (inl bytes) told told2 = absurd (bytes.no_text flaw.is_text.0)
one-fault escapes cfg text (NotText line field) (NotText line2 field2) (inr flaw) (inr flaw2) told told2 =
    let (line_same, field_same) = same-place escapes IsNoUtf8 (no-text-fails escapes) no-text-once cfg text line field line2 field2 flaw flaw2 in
    cc (line_same, field_same)
one-fault escapes cfg text (NotText line field) (Quote line2) (inl bytes) quote told told2 = absurd (bytes.no_text quote.is_text)
one-fault escapes cfg text (NotText line field) (Quote line2) (inr flaw) quote told told2 = absurd (flaw.is_text.1 quote.quote.ends)
one-fault escapes cfg text (NotText line field) (Escape line2 field2) (inl bytes) flaw told told2 = absurd (bytes.no_text flaw.is_text.0)
one-fault escapes cfg text (NotText line field) (Escape line2 field2) (inr flaw) flaw2 told told2 = absurd (one-kind escapes cfg text line field line2 field2 flaw flaw2)
one-fault escapes cfg text (Quote line) (NotText line2 field2) quote (inl bytes) told told2 = absurd (bytes.no_text quote.is_text)
one-fault escapes cfg text (Quote line) (NotText line2 field2) quote (inr flaw) told told2 = absurd (flaw.is_text.1 quote.quote.ends)
one-fault escapes cfg text (Quote line) (Quote line2) quote quote2 told told2 =
    let at = open-once cfg text quote.at quote2.at quote.quote quote2.quote in
    ap Quote (quote.in_line ∙ ap (line_number_at text) at ∙ sym quote2.in_line)
one-fault escapes cfg text (Quote line) (Escape line2 field2) quote flaw told told2 = absurd (flaw.is_text.1 quote.quote.ends)
one-fault escapes cfg text (Escape line field) (NotText line2 field2) flaw (inl bytes) told told2 = absurd (bytes.no_text flaw.is_text.0)
one-fault escapes cfg text (Escape line field) (NotText line2 field2) flaw (inr flaw2) told told2 = absurd (one-kind escapes cfg text line2 field2 line field flaw2 flaw)
one-fault escapes cfg text (Escape line field) (Quote line2) flaw quote told told2 = absurd (flaw.is_text.1 quote.quote.ends)
one-fault escapes cfg text (Escape line field) (Escape line2 field2) flaw flaw2 told told2 =
    let (line_same, field_same) = same-place escapes (HasBrokenEscape escapes) (broken-fails escapes) (broken-once escapes) cfg text line field line2 field2 flaw flaw2 in
    cc (line_same, field_same)
