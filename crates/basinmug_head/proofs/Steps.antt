-- One byte more.
use Rattle.std.proofs.Common.{◌≡◌, ◌∙◌, ◌+◌, ◌<◌, ◌==◌, ◌&&◌, ℕ, Bool, false, true, List, [], ◌∷◌, ◌++◌, ap, arith, if◌then◌else◌, length, length-append, refl, subst, sym}
use Rattle.std.proofs.lemmas.List.Sums.{fold-append}
use Rattle.basinmug_input.specs.Reading.{SoFar, nothing, read_of, read_on, settings, with_byte}
use Rattle.basinmug_input.specs.Walking.{csv_action, csv_state}
use Rattle.basinmug_input.specs.declared.progress.ByteAction.{ByteAction}
use Rattle.basinmug_input.specs.declared.progress.RecordState.{RecordState}
use Rattle.basinmug_input.specs.declared.progress.RecordState.TheVariants as own_st
use Rattle.basinmug_input.proofs.Quotes.{either, state-with}
use Rattle.csv.specs.Machine.{after_end, carriage_return, ends_at_end, ends_with, in_field, line_feed, start_field, start_record, step}
use Rattle.csv.specs.declared.parser.Action.{Action}
use Rattle.csv.specs.declared.parser.Action.TheVariants as act
use Rattle.csv.specs.declared.parser.Config.{Config}
use Rattle.csv.specs.declared.parser.State.{State}
use Rattle.csv.specs.declared.parser.State.TheVariants as st
use Rattle.csv.specs.declared.parser.Terminator.TheVariants as term
use Rattle.basinmug_head.specs.Walking.{EndsRecords, IsWalkOf, left_behind}

-- ---- after a record none is at hand

abbrev EndsClosed : State × Action → Type 0
EndsClosed r = r.1 ≡ act.EndRecord → ends_at_end r.0 ≡ false

closed-end : (b : Bool) → EndsClosed (if b then st.AfterCr else st.StartRecord, act.EndRecord)
closed-end true = λ is. refl
closed-end false = λ is. refl

closed-in_field : (d c : ℕ) → EndsClosed (in_field (settings d) c)
closed-in_field d c =
    either EndsClosed (c == d) (st.StartField, act.EndField) (if ends_with term.CRLF c then (after_end term.CRLF c, act.EndRecord) else (st.InField, act.Copy)) (λ is. cc is)
    (either EndsClosed (ends_with term.CRLF c) (after_end term.CRLF c, act.EndRecord) (st.InField, act.Copy) (closed-end (c == carriage_return)) (λ is. cc is))

closed-start_field : (d c : ℕ) → EndsClosed (start_field (settings d) c)
closed-start_field d c = either EndsClosed (true && (c == 34)) (st.InQuoted, act.Skip) (in_field (settings d) c) (λ is. cc is) (closed-in_field d c)

closed-start_record : (d c : ℕ) → EndsClosed (start_record (settings d) c)
closed-start_record d c = either EndsClosed (ends_with term.CRLF c) (st.StartRecord, act.Skip) (start_field (settings d) c) (λ is. refl) (closed-start_field d c)

pub closed : (d : ℕ) (own : RecordState) (c : ℕ) → EndsClosed (step (settings d) (csv_state own) c)
closed d own_st.RecordStart c = closed-start_record d c
closed d own_st.FieldStart c = closed-start_field d c
closed d own_st.Unquoted c = closed-in_field d c
closed d own_st.Quoted c = either EndsClosed (true && (c == 34)) (st.AfterQuote, act.Skip) (st.InQuoted, act.Copy) (λ is. cc is) (λ is. cc is)
closed d own_st.QuoteBehind c = either EndsClosed (true && true && (c == 34)) (st.InQuoted, act.Copy) (in_field (settings d) c) (λ is. cc is) (closed-in_field d c)
closed d own_st.ReturnBehind c = either EndsClosed (c == line_feed) (st.StartRecord, act.Skip) (start_record (settings d) c) (λ is. refl) (closed-start_record d c)

-- ---- what a byte does

pub read-one : (cfg : Config) (text : List ℕ) (b : ℕ)
    → read_of cfg (text ++ b ∷ []) ≡ with_byte (step cfg (read_of cfg text).state b).1 (step cfg (read_of cfg text).state b).0 (read_of cfg text) b
read-one cfg text b = fold-append (read_on cfg) nothing text (b ∷ [])

-- so many records are still to end
counted-one : (a : Action) (s : State) (r : SoFar) (b left count : ℕ) → 0 < left → length r.ended + left ≡ count
    → length (with_byte a s r b).ended + left_behind a left ≡ count
counted-one act.EndRecord s r b left count some counted =
    let joined = length-append r.ended ((r.fields ++ r.field ∷ []) ∷ []) in
    omega (arith, joined, some, counted)
counted-one act.Skip s r b left count some counted = counted
counted-one act.Copy s r b left count some counted = counted
counted-one act.EndField s r b left count some counted = counted

none-left : (a : Action) (left : ℕ) → 0 < left → left_behind a left ≡ 0 → a ≡ act.EndRecord
none-left act.EndRecord left some none = refl
none-left act.Skip left some none = absurd (omega (arith, some, none))
none-left act.Copy left some none = absurd (omega (arith, some, none))
none-left act.EndField left some none = absurd (omega (arith, some, none))

-- the record that is left of what is read with one byte more
abbrev Next : Config → List ℕ → ℕ → SoFar
Next cfg text b = with_byte (step cfg (read_of cfg text).state b).1 (step cfg (read_of cfg text).state b).0 (read_of cfg text) b

stepped-counts : (d : ℕ) (text : List ℕ) (b left count : ℕ) (own : RecordState) → IsWalkOf (settings d) count text own left
    → length (read_of (settings d) (text ++ b ∷ [])).ended + left_behind (step (settings d) (csv_state own) b).1 left ≡ count
stepped-counts d text b left count own walk =
    let cfg = settings d in
    let r = read_of cfg text in
    let counted = counted-one (step cfg r.state b).1 (step cfg r.state b).0 r b left count walk.some walk.counted in
    subst (λ s. length (read_of cfg (text ++ b ∷ [])).ended + left_behind (step cfg s b).1 left ≡ count) (sym walk.stands)
    (subst (λ (of : SoFar). length of.ended + left_behind (step cfg r.state b).1 left ≡ count) (sym (read-one cfg text b)) counted)

stepped-state : (d : ℕ) (text : List ℕ) (b : ℕ) → (read_of (settings d) (text ++ b ∷ [])).state ≡ (step (settings d) (read_of (settings d) text).state b).0
stepped-state d text b =
    let cfg = settings d in
    let r = read_of cfg text in
    ap (λ (of : SoFar). of.state) (read-one cfg text b) ∙ state-with (step cfg r.state b).1 (step cfg r.state b).0 r b

-- records are still to end after one byte more
pub walk-on : (d : ℕ) (text : List ℕ) (b left still count : ℕ) (own next : RecordState) (action : ByteAction) → IsWalkOf (settings d) count text own left
    → csv_state next ≡ (step (settings d) (csv_state own) b).0 → csv_action action ≡ (step (settings d) (csv_state own) b).1
    → still ≡ left_behind (csv_action action) left → 0 < still → IsWalkOf (settings d) count (text ++ b ∷ []) next still
walk-on d text b left still count own next action walk is_state is_action is_left some =
    let cfg = settings d in
    record {
      stands = is_state ∙ (ap (λ s. (step cfg s b).0) walk.stands ∙ sym (stepped-state d text b));
      counted = ap (λ (n : ℕ). length (read_of cfg (text ++ b ∷ [])).ended + n) (is_left ∙ ap (λ (a : Action). left_behind a left) is_action)
          ∙ stepped-counts d text b left count own walk;
      some = some;
    }

-- the last has ended
pub walk-ends : (d : ℕ) (text : List ℕ) (b left still count : ℕ) (own next : RecordState) (action : ByteAction) → IsWalkOf (settings d) count text own left
    → csv_action action ≡ (step (settings d) (csv_state own) b).1
    → still ≡ left_behind (csv_action action) left → still ≡ 0 → EndsRecords (settings d) count (text ++ b ∷ [])
walk-ends d text b left still count own next action walk is_action is_left none =
    let cfg = settings d in
    let no_left : left_behind (step cfg (csv_state own) b).1 left ≡ 0 = ap (λ (a : Action). left_behind a left) (sym is_action) ∙ (sym is_left ∙ none) in
    let counted = stepped-counts d text b left count own walk in
    let last = none-left (step cfg (csv_state own) b).1 left walk.some no_left in
    record {
      counted = omega (arith, counted, no_left);
      ended = ap ends_at_end (stepped-state d text b ∙ ap (λ s. (step cfg s b).0) (sym walk.stands)) ∙ closed d own b last;
    }
