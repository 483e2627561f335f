-- The fields of a text are texts, where the delimiter is ASCII: what separates its fields is then no byte of a
-- character past ASCII.
use Rattle.std.proofs.Common.{◌≡◌, ◌∙◌, ◌<◌, ◌≤◌, ℕ, suc, Bool, true, false, List, [], ◌∷◌, ◌++◌, inl, inr, length, get_or, refl, sym, ap, subst, arith}
use Rattle.std.proofs.lemmas.Bool.{cases_lt, ne_eqb}
use Rattle.std.proofs.lemmas.List.{append_assoc, append-nil}
use Rattle.std.proofs.lemmas.List.Sums.{fold-append}
use Rattle.std.proofs.lemmas.Str.{IsUtf8-append, IsUtf8-nil, encode_ascii, inside_one}
use Rattle.std.proofs.Math.Utf8.{encode, encodes, scalar, scalars}
use Rattle.std.specs.List.{AllByRecursion}
use Rattle.std.specs.Prelude.{⊤, ◌==◌, ◌&&◌, ◌||◌, IsUtf8, fold, if◌then◌else◌}
use Rattle.csv.specs.Machine.{after_end, carriage_return, ends_at_end, ends_with, in_field, line_feed, start_field, start_record, step}
use Rattle.csv.specs.Reading.{records}
use Rattle.csv.specs.declared.parser.Action.{Action}
use Rattle.csv.specs.declared.parser.Action.TheVariants as act
use Rattle.csv.specs.declared.parser.State.{State}
use Rattle.csv.specs.declared.parser.State.TheVariants as st
use Rattle.csv.specs.declared.parser.Terminator.TheVariants as term
use Rattle.basinmug_input.specs.Reading.{SoFar, nothing, read_of, read_on, settings, with_byte}
use Rattle.basinmug_input.proofs.Cleans.{both}
use Rattle.basinmug_input.proofs.Quotes.{either, state-with}
use Rattle.basinmug_input.proofs.ReadRecords.{records-read}
use Rattle.basinmug_input.proofs.Rows.{all-push}

-- no comment is read
abbrev IsNoComment : State → Type 0
IsNoComment st.InComment = ⊥
IsNoComment st.StartRecord = ⊤
IsNoComment st.StartField = ⊤
IsNoComment st.InField = ⊤
IsNoComment st.InQuoted = ⊤
IsNoComment st.AfterQuote = ⊤
IsNoComment st.InEscape = ⊤
IsNoComment st.AfterCr = ⊤

abbrev LeadsOn : State × Action → Type 0
LeadsOn r = IsNoComment r.0

on-end : (b : Bool) → LeadsOn (if b then st.AfterCr else st.StartRecord, act.EndRecord)
on-end true = tt
on-end false = tt

on-in_field : (d c : ℕ) → LeadsOn (in_field (settings d) c)
on-in_field d c =
    either LeadsOn (c == d) (st.StartField, act.EndField) (if ends_with term.CRLF c then (after_end term.CRLF c, act.EndRecord) else (st.InField, act.Copy)) tt
    (either LeadsOn (ends_with term.CRLF c) (after_end term.CRLF c, act.EndRecord) (st.InField, act.Copy) (on-end (c == carriage_return)) tt)

on-start_field : (d c : ℕ) → LeadsOn (start_field (settings d) c)
on-start_field d c = either LeadsOn (true && (c == 34)) (st.InQuoted, act.Skip) (in_field (settings d) c) tt (on-in_field d c)

on-start_record : (d c : ℕ) → LeadsOn (start_record (settings d) c)
on-start_record d c = either LeadsOn (ends_with term.CRLF c) (st.StartRecord, act.Skip) (start_field (settings d) c) tt (on-start_field d c)

on-step : (d : ℕ) (s : State) (c : ℕ) → IsNoComment s → LeadsOn (step (settings d) s c)
on-step d st.StartRecord c on = on-start_record d c
on-step d st.StartField c on = on-start_field d c
on-step d st.InField c on = on-in_field d c
on-step d st.InQuoted c on = either LeadsOn (true && (c == 34)) (st.AfterQuote, act.Skip) (st.InQuoted, act.Copy) tt tt
on-step d st.InEscape c on = tt
on-step d st.AfterQuote c on = either LeadsOn (true && true && (c == 34)) (st.InQuoted, act.Copy) (in_field (settings d) c) tt (on-in_field d c)
on-step d st.AfterCr c on = either LeadsOn (c == line_feed) (st.StartRecord, act.Skip) (start_record (settings d) c) tt (on-start_record d c)
on-step d st.InComment c on = absurd on

-- ---- a byte past ASCII joins the field at hand

abbrev Joins : State × Action → Type 0
Joins r = r.1 ≡ act.Copy

other : (c k : ℕ) → 128 ≤ c → k < 128 → (c == k) ≡ false
other c k high low = ne_eqb c k (λ e. omega (arith, e, high, low))

no-end : (c : ℕ) → 128 ≤ c → ends_with term.CRLF c ≡ false
no-end c high = ap (λ (b : Bool). b || (c == line_feed)) (other c carriage_return high (omega arith)) ∙ other c line_feed high (omega arith)

joins-in_field : (d c : ℕ) → d < 128 → 128 ≤ c → Joins (in_field (settings d) c)
joins-in_field d c low high =
    subst (λ (b : Bool). Joins (if b then (st.StartField, act.EndField) else if ends_with term.CRLF c then (after_end term.CRLF c, act.EndRecord) else (st.InField, act.Copy))) (sym (other c d high low))
    (subst (λ (b : Bool). Joins (if b then (after_end term.CRLF c, act.EndRecord) else (st.InField, act.Copy))) (sym (no-end c high)) refl)

joins-start_field : (d c : ℕ) → d < 128 → 128 ≤ c → Joins (start_field (settings d) c)
joins-start_field d c low high =
    subst (λ (b : Bool). Joins (if true && b then (st.InQuoted, act.Skip) else in_field (settings d) c)) (sym (other c 34 high (omega arith))) (joins-in_field d c low high)

joins-start_record : (d c : ℕ) → d < 128 → 128 ≤ c → Joins (start_record (settings d) c)
joins-start_record d c low high =
    subst (λ (b : Bool). Joins (if b then (st.StartRecord, act.Skip) else start_field (settings d) c)) (sym (no-end c high)) (joins-start_field d c low high)

joins-step : (d : ℕ) (s : State) (c : ℕ) → d < 128 → 128 ≤ c → IsNoComment s → Joins (step (settings d) s c)
joins-step d st.StartRecord c low high on = joins-start_record d c low high
joins-step d st.StartField c low high on = joins-start_field d c low high
joins-step d st.InField c low high on = joins-in_field d c low high
joins-step d st.InQuoted c low high on =
    subst (λ (b : Bool). Joins (if true && b then (st.AfterQuote, act.Skip) else (st.InQuoted, act.Copy))) (sym (other c 34 high (omega arith))) refl
joins-step d st.InEscape c low high on = refl
joins-step d st.AfterQuote c low high on = either Joins (true && true && (c == 34)) (st.InQuoted, act.Copy) (in_field (settings d) c) refl (joins-in_field d c low high)
joins-step d st.AfterCr c low high on =
    subst (λ (b : Bool). Joins (if b then (st.StartRecord, act.Skip) else start_record (settings d) c)) (sym (other c line_feed high (omega arith))) (joins-start_record d c low high)
joins-step d st.InComment c low high on = absurd on

-- what is read with these bytes more, all of one character past ASCII
record JoinsAll (r after : SoFar) (bytes : List ℕ) : Type 0 where
  ended : after.ended ≡ r.ended
  fields : after.fields ≡ r.fields
  field : after.field ≡ r.field ++ bytes
  state : IsNoComment after.state

joins-all : (d : ℕ) (r : SoFar) (bytes : List ℕ) → d < 128 → ((k : ℕ) → k < length bytes → 128 ≤ get_or bytes k 0) → IsNoComment r.state
    → JoinsAll r (fold (read_on (settings d)) r bytes) bytes
joins-all d r [] low high on = record { ended = refl; fields = refl; field = sym (append-nil r.field); state = on }
joins-all d r (b ∷ bytes) low high on =
    let cfg = settings d in
    let s = (step cfg r.state b).0 in
    let first = high 0 (omega arith) in
    let is : read_on cfg r b ≡ with_byte act.Copy s r b = ap (λ a. with_byte a s r b) (joins-step d r.state b low first on) in
    let more = joins-all d (with_byte act.Copy s r b) bytes low (λ k below. high (suc k) (omega (arith, below))) (on-step d r.state b on) in
    subst (λ (next : SoFar). JoinsAll r (fold (read_on cfg) next bytes) (b ∷ bytes)) (sym is) (record {
      ended = more.ended;
      fields = more.fields;
      field = more.field ∙ append_assoc r.field (b ∷ []) bytes;
      state = more.state;
    })

-- ---- character by character

record IsTextSoFar (r : SoFar) : Type 0 where
  ended : AllByRecursion (AllByRecursion IsUtf8) r.ended
  fields : AllByRecursion IsUtf8 r.fields
  field : IsUtf8 r.field

text-with : (a : Action) (s : State) (r : SoFar) (b : ℕ) → IsUtf8 (b ∷ []) → IsTextSoFar r → IsTextSoFar (with_byte a s r b)
text-with act.Skip s r b ascii text = record { ended = text.ended; fields = text.fields; field = text.field }
text-with act.Copy s r b ascii text = record { ended = text.ended; fields = text.fields; field = IsUtf8-append r.field (b ∷ []) text.field ascii }
text-with act.EndField s r b ascii text = record { ended = text.ended; fields = all-push IsUtf8 r.fields r.field text.fields text.field; field = IsUtf8-nil }
text-with act.EndRecord s r b ascii text = record {
  ended = all-push (AllByRecursion IsUtf8) r.ended (r.fields ++ r.field ∷ []) text.ended (all-push IsUtf8 r.fields r.field text.fields text.field);
  fields = tt;
  field = IsUtf8-nil;
}

one-char : (c : ℕ) → scalar c ≡ true → IsUtf8 (encode c)
one-char c is = (c ∷ [], (ap (λ (b : Bool). b && true) is, append-nil (encode c)))

text-char : (d : ℕ) (r : SoFar) (c : ℕ) → d < 128 → scalar c ≡ true → IsNoComment r.state → IsTextSoFar r
    → IsTextSoFar (fold (read_on (settings d)) r (encode c)) × IsNoComment (fold (read_on (settings d)) r (encode c)).state
text-char d r c low is on text =
    let cfg = settings d in
    elim (cases_lt c 128) [
      | inl ascii ↦
          let one = encode_ascii c ascii in
          let next = step cfg r.state c in
          let utf8 : IsUtf8 (c ∷ []) = subst IsUtf8 one (one-char c is) in
          subst (λ (bytes : List ℕ). IsTextSoFar (fold (read_on cfg) r bytes) × IsNoComment (fold (read_on cfg) r bytes).state) (sym one)
          (text-with next.1 next.0 r c utf8 text, subst IsNoComment (sym (state-with next.1 next.0 r c)) (on-step d r.state c on))
      | inr above ↦
          let high : (k : ℕ) → k < length (encode c) → 128 ≤ get_or (encode c) k 0 = λ k below.
          elim (cases_lt (get_or (encode c) k 0) 128) [
            | inl ascii ↦ let same = inside_one c [] (encode c) k (sym (append-nil (encode c))) below ascii in absurd (omega (arith, same, ascii, above))
            | inr past ↦ past
          ] in
          let more = joins-all d r (encode c) low high on in (
            record {
              ended = subst (AllByRecursion (AllByRecursion IsUtf8)) (sym more.ended) text.ended;
              fields = subst (AllByRecursion IsUtf8) (sym more.fields) text.fields;
              field = subst IsUtf8 (sym more.field) (IsUtf8-append r.field (encode c) text.field (one-char c is));
            },
            more.state,
          )
    ]

text-all : (d : ℕ) (r : SoFar) (cs : List ℕ) → d < 128 → scalars cs ≡ true → IsNoComment r.state → IsTextSoFar r → IsTextSoFar (fold (read_on (settings d)) r (encodes cs))
text-all d r [] low is on text = text
text-all d r (c ∷ cs) low is on text =
    let cfg = settings d in
    let each = both (scalar c) (scalars cs) is in
    let (first, state) = text-char d r c low each.0 on text in
    subst IsTextSoFar (sym (fold-append (read_on cfg) r (encode c) (encodes cs))) (text-all d (fold (read_on cfg) r (encode c)) cs low each.1 state first)

text-read : (b : Bool) (r : SoFar) → IsTextSoFar r → AllByRecursion (AllByRecursion IsUtf8) (if b then r.ended ++ (r.fields ++ r.field ∷ []) ∷ [] else r.ended)
text-read true r text = all-push (AllByRecursion IsUtf8) r.ended (r.fields ++ r.field ∷ []) text.ended (all-push IsUtf8 r.fields r.field text.fields text.field)
text-read false r text = text.ended

pub fields-are_texts : (d : ℕ) (text : List ℕ) → d < 128 → IsUtf8 text → AllByRecursion (AllByRecursion IsUtf8) (records (settings d) text)
fields-are_texts d text low utf8 =
    let (cs, spelled) = utf8 in
    let cfg = settings d in
    let read = text-all d nothing cs low spelled.0 tt (record { ended = tt; fields = tt; field = IsUtf8-nil }) in
    let so : IsTextSoFar (read_of cfg text) = subst (λ (bytes : List ℕ). IsTextSoFar (read_of cfg bytes)) spelled.1 read in
    subst (AllByRecursion (AllByRecursion IsUtf8)) (sym (records-read cfg text)) (text-read (ends_at_end (read_of cfg text).state) (read_of cfg text) so)
