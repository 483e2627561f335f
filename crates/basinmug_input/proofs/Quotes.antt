-- The states of the machine, byte by byte, and the last quote that opens a field.
use Rattle.std.proofs.Common.{◌≡◌, ◌∙◌, ◌+◌, ◌<◌, ℕ, Bool, true, false, List, ◌⊎◌, inl, inr, length, get_or, refl, sym, ap, subst, arith, [], ◌∷◌}
use Rattle.std.proofs.lemmas.Bool.{cases_eq}
use Rattle.std.proofs.lemmas.List.Sums.{fold_more}
use Rattle.std.specs.Prelude.{⊤, ◌==◌, ◌&&◌, if◌then◌else◌, fold}
use Rattle.std.specs.List.{list_any}
use Rattle.csv.specs.Machine.{after_end, carriage_return, ends_with, in_field, line_feed, start_field, start_record, step}
use Rattle.csv.specs.declared.parser.Action.{Action}
use Rattle.csv.specs.declared.parser.Action.TheVariants as act
use Rattle.csv.specs.declared.parser.Config.{Config}
use Rattle.csv.specs.declared.parser.State.{State}
use Rattle.csv.specs.declared.parser.State.TheVariants as st
use Rattle.csv.specs.declared.parser.Terminator.TheVariants as term
use Rattle.basinmug_input.specs.Places.{Opens, read_before}
use Rattle.basinmug_input.specs.Reading.{SoFar, nothing, read_of, read_on, settings, with_byte}
use Rattle.basinmug_input.specs.Walking.{csv_action, csv_state}
use Rattle.basinmug_input.specs.declared.progress.ByteAction.{ByteAction}
use Rattle.basinmug_input.specs.declared.progress.RecordState.{RecordState}
use Rattle.basinmug_input.specs.declared.progress.RecordState.TheVariants as own_st
use Rattle.basinmug_input.proofs.Cleans.{neither}

pub state-with : (a : Action) (s : State) (r : SoFar) (b : ℕ) → (with_byte a s r b).state ≡ s
state-with act.Skip s r b = refl
state-with act.Copy s r b = refl
state-with act.EndField s r b = refl
state-with act.EndRecord s r b = refl

-- the state after a byte
pub state-next : (cfg : Config) (text : List ℕ) (at : ℕ) → at < length text
    → (read_before cfg text (at + 1)).state ≡ (step cfg (read_before cfg text at).state (get_or text at 0)).0
state-next cfg text at below =
    let before = read_before cfg text at in
    let b = get_or text at 0 in
    ap (λ (r : SoFar). r.state) (fold_more (read_on cfg) nothing text at 0 below) ∙ state-with (step cfg before.state b).1 (step cfg before.state b).0 before b

-- in quotes, or after a quote in them
abbrev pub IsInQuotes : State → Type 0
IsInQuotes st.InQuoted = ⊤
IsInQuotes st.AfterQuote = ⊤
IsInQuotes st.StartRecord = ⊥
IsInQuotes st.StartField = ⊥
IsInQuotes st.InField = ⊥
IsInQuotes st.InEscape = ⊥
IsInQuotes st.InComment = ⊥
IsInQuotes st.AfterCr = ⊥

-- it comes into quotes only by a quote that opens a field
abbrev Enters : State × Action → Type 0
Enters r = IsInQuotes r.0 → r ≡ (st.InQuoted, act.Skip)

pub either : {X : Type 0} (P : X → Type 0) (b : Bool) (x y : X) → P x → P y → P (if b then x else y)
either P true x y p q = p
either P false x y p q = q

enters-end : (b : Bool) → Enters (if b then st.AfterCr else st.StartRecord, act.EndRecord)
enters-end true = λ q. absurd q
enters-end false = λ q. absurd q

enters-in_field : (d c : ℕ) → Enters (in_field (settings d) c)
enters-in_field d c =
    either Enters (c == d) (st.StartField, act.EndField) (if ends_with term.CRLF c then (after_end term.CRLF c, act.EndRecord) else (st.InField, act.Copy)) (λ q. absurd q)
    (either Enters (ends_with term.CRLF c) (after_end term.CRLF c, act.EndRecord) (st.InField, act.Copy) (enters-end (c == carriage_return)) (λ q. absurd q))

enters-start_field : (d c : ℕ) → Enters (start_field (settings d) c)
enters-start_field d c = either Enters (true && (c == 34)) (st.InQuoted, act.Skip) (in_field (settings d) c) (λ q. refl) (enters-in_field d c)

enters-start_record : (d c : ℕ) → Enters (start_record (settings d) c)
enters-start_record d c = either Enters (ends_with term.CRLF c) (st.StartRecord, act.Skip) (start_field (settings d) c) (λ q. absurd q) (enters-start_field d c)

-- where a byte leads into quotes, they were there before it, or it opens a field
pub was-quoted : (d : ℕ) (own : RecordState) (c : ℕ) → IsInQuotes (step (settings d) (csv_state own) c).0
    → IsInQuotes (csv_state own) ⊎ (step (settings d) (csv_state own) c ≡ (st.InQuoted, act.Skip))
was-quoted d own_st.RecordStart c q = inr (enters-start_record d c q)
was-quoted d own_st.FieldStart c q = inr (enters-start_field d c q)
was-quoted d own_st.Unquoted c q = inr (enters-in_field d c q)
was-quoted d own_st.Quoted c q = inl tt
was-quoted d own_st.QuoteBehind c q = inl tt
was-quoted d own_st.ReturnBehind c q =
    inr (either Enters (c == line_feed) (st.StartRecord, act.Skip) (start_record (settings d) c) (λ q. absurd q) (enters-start_record d c) q)

-- the last quote before `end` that opens a field
pub record LastOpening (cfg : Config) (text : List ℕ) (end at : ℕ) : Type 0 where
  pub within : at < end
  pub opens : Opens cfg text at
  pub last : (n : ℕ) → at < n → n < end → Opens cfg text n → ⊥

pub opening-here : (cfg : Config) (text : List ℕ) (at : ℕ) → Opens cfg text at → LastOpening cfg text (at + 1) at
opening-here cfg text at opens = record { within = omega arith; opens = opens; last = λ n above below _. omega (arith, above, below) }

pub opening-before : (cfg : Config) (text : List ℕ) (i at : ℕ) → LastOpening cfg text i at → (Opens cfg text i → ⊥) → LastOpening cfg text (i + 1) at
opening-before cfg text i at found never = record {
  within = let within = found.within in omega (arith, within);
  opens = found.opens;
  last = λ n above below opens. elim (cases_eq n i) [
    | inl same ↦ never (subst (λ k. Opens cfg text k) same opens)
    | inr other ↦ found.last n above (omega (arith, below, other)) opens
  ];
}

pair-is : (p : State × Action) (s : State) (a : Action) → p.0 ≡ s → p.1 ≡ a → p ≡ (s, a)
pair-is (x, y) s a is_state is_action = cc

-- the byte at `i` opens a field
pub opens-at : (d : ℕ) (text : List ℕ) (i : ℕ) (own next : RecordState) (action : ByteAction) → csv_state own ≡ (read_before (settings d) text i).state
    → csv_state next ≡ (step (settings d) (csv_state own) (get_or text i 0)).0 → csv_action action ≡ (step (settings d) (csv_state own) (get_or text i 0)).1
    → (csv_state next ≡ st.InQuoted) × (csv_action action ≡ act.Skip) → Opens (settings d) text i
opens-at d text i own next action was is_state is_action opening =
    let cfg = settings d in
    let b = get_or text i 0 in
    ap (λ s. step cfg s b) (sym was)
    ∙ pair-is (step cfg (csv_state own) b) st.InQuoted act.Skip (sym is_state ∙ opening.0) (sym is_action ∙ opening.1)

-- it doesn't, and the last that does is the one before
pub opened-before : (d : ℕ) (text : List ℕ) (i at : ℕ) (own next : RecordState) (action : ByteAction) → csv_state own ≡ (read_before (settings d) text i).state
    → csv_state next ≡ (step (settings d) (csv_state own) (get_or text i 0)).0 → csv_action action ≡ (step (settings d) (csv_state own) (get_or text i 0)).1
    → (IsInQuotes (csv_state own) → LastOpening (settings d) text i at) → ((csv_state next ≡ st.InQuoted) × (csv_action action ≡ act.Skip) → ⊥)
    → IsInQuotes (csv_state next) → LastOpening (settings d) text (i + 1) at
opened-before d text i at own next action was is_state is_action found never quoted =
    let cfg = settings d in
    let b = get_or text i 0 in
    let opens_not : step cfg (csv_state own) b ≡ (st.InQuoted, act.Skip) → ⊥ = λ e. never (is_state ∙ ap (λ p. p.0) e, is_action ∙ ap (λ p. p.1) e) in
    elim (was-quoted d own b (subst IsInQuotes is_state quoted)) [
      | inl before ↦ opening-before cfg text i at (found before) (λ opens. opens_not (ap (λ s. step cfg s b) was ∙ opens))
      | inr opens ↦ absurd (opens_not opens)
    ]

pub only-quoted : (own : RecordState) → csv_state own ≡ st.InQuoted → own ≡ own_st.Quoted
only-quoted own_st.RecordStart e = cc e
only-quoted own_st.FieldStart e = cc e
only-quoted own_st.Unquoted e = cc e
only-quoted own_st.Quoted e = refl
only-quoted own_st.QuoteBehind e = cc e
only-quoted own_st.ReturnBehind e = cc e

-- ---- a text without quotes

-- neither in quotes nor after one, and in no state that these settings never reach
abbrev IsPlain : State → Type 0
IsPlain st.StartRecord = ⊤
IsPlain st.StartField = ⊤
IsPlain st.InField = ⊤
IsPlain st.AfterCr = ⊤
IsPlain st.InQuoted = ⊥
IsPlain st.AfterQuote = ⊥
IsPlain st.InEscape = ⊥
IsPlain st.InComment = ⊥

abbrev LeadsOn : State × Action → Type 0
LeadsOn r = IsPlain r.0

plain-end : (b : Bool) → LeadsOn (if b then st.AfterCr else st.StartRecord, act.EndRecord)
plain-end true = tt
plain-end false = tt

plain-in_field : (d c : ℕ) → LeadsOn (in_field (settings d) c)
plain-in_field d c =
    either LeadsOn (c == d) (st.StartField, act.EndField) (if ends_with term.CRLF c then (after_end term.CRLF c, act.EndRecord) else (st.InField, act.Copy)) tt
    (either LeadsOn (ends_with term.CRLF c) (after_end term.CRLF c, act.EndRecord) (st.InField, act.Copy) (plain-end (c == carriage_return)) tt)

plain-start_field : (d c : ℕ) → (c == 34) ≡ false → LeadsOn (start_field (settings d) c)
plain-start_field d c no_quote = subst (λ (b : Bool). LeadsOn (if true && b then (st.InQuoted, act.Skip) else in_field (settings d) c)) (sym no_quote) (plain-in_field d c)

plain-start_record : (d c : ℕ) → (c == 34) ≡ false → LeadsOn (start_record (settings d) c)
plain-start_record d c no_quote = either LeadsOn (ends_with term.CRLF c) (st.StartRecord, act.Skip) (start_field (settings d) c) tt (plain-start_field d c no_quote)

plain-step : (d : ℕ) (s : State) (c : ℕ) → IsPlain s → (c == 34) ≡ false → LeadsOn (step (settings d) s c)
plain-step d st.StartRecord c plain no_quote = plain-start_record d c no_quote
plain-step d st.StartField c plain no_quote = plain-start_field d c no_quote
plain-step d st.InField c plain no_quote = plain-in_field d c
plain-step d st.AfterCr c plain no_quote = either LeadsOn (c == line_feed) (st.StartRecord, act.Skip) (start_record (settings d) c) tt (plain-start_record d c no_quote)
plain-step d st.InQuoted c plain no_quote = absurd plain
plain-step d st.AfterQuote c plain no_quote = absurd plain
plain-step d st.InEscape c plain no_quote = absurd plain
plain-step d st.InComment c plain no_quote = absurd plain

plain-text : (d : ℕ) (r : SoFar) (text : List ℕ) → IsPlain r.state → list_any (λ b. b == 34) text ≡ false → IsPlain (fold (read_on (settings d)) r text).state
plain-text d r [] plain none = plain
plain-text d r (c ∷ rest) plain none =
    let parts = neither (c == 34) (list_any (λ b. b == 34) rest) none in
    let cfg = settings d in
    let next = step cfg r.state c in
    plain-text d (with_byte next.1 next.0 r c) rest (subst IsPlain (sym (state-with next.1 next.0 r c)) (plain-step d r.state c plain parts.0)) parts.1

pub never-quoted : (d : ℕ) (text : List ℕ) → list_any (λ b. b == 34) text ≡ false → (read_of (settings d) text).state ≡ st.InQuoted → ⊥
never-quoted d text none ends = subst IsPlain ends (plain-text d nothing text tt none)
