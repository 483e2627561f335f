-- How the machine joins the bytes of a field, byte by byte.
use Rattle.std.proofs.Common.{◌≡◌, ◌≢◌, ◌∙◌, ◌+◌, ◌<◌, ◌≤◌, ℕ, Bool, true, false, List, [], ◌∷◌, ◌++◌, drop, get_or, inl, inr, length, refl, sym, ap, subst, arith}
use Rattle.std.proofs.lemmas.Bool.{cases_Bool, false≢true}
use Rattle.std.proofs.lemmas.List.{drop_all, drop_more}
use Rattle.std.specs.Prelude.{⊤, ◌==◌, ◌||◌, if◌then◌else◌}
use Rattle.csv.specs.Machine.{after_end, in_field, step}
use Rattle.csv.specs.declared.parser.Action.{Action}
use Rattle.csv.specs.declared.parser.Action.TheVariants as act
use Rattle.csv.specs.declared.parser.Config.{Config}
use Rattle.csv.specs.declared.parser.State.{State}
use Rattle.csv.specs.declared.parser.State.TheVariants as st
use Rattle.csv.specs.declared.parser.Terminator.TheVariants as term
use Rattle.basinmug_input.specs.Reading.{settings}
use Rattle.basinmug_input.specs.Parts.{IsFieldAt, ReadsAs, is_between_fields, is_field_end, is_line_end, joined_with, quote}
use Rattle.basinmug_input.proofs.PartedFields.{behind-step, field-step, next-by, nothing-behind, nothing-left, open-by, same-text, both-read}

-- the states in a field
abbrev pub IsInField : State → Type 0
IsInField st.StartField = ⊤
IsInField st.InField = ⊤
IsInField st.InQuoted = ⊤
IsInField st.AfterQuote = ⊤
IsInField st.StartRecord = ⊥
IsInField st.AfterCr = ⊥
IsInField st.InEscape = ⊥
IsInField st.InComment = ⊥

-- ---- a byte that does not end the field

by-action : (cfg : Config) (s t : State) (a : Action) (fields : List (List ℕ)) (field : List ℕ) (c : ℕ) (rest : List ℕ) → step cfg s c ≡ (t, a) → is_field_end a ≡ false
    → ReadsAs cfg s fields field (c ∷ rest) t fields (joined_with a c field) rest
by-action cfg s t act.Skip fields field c rest e none = record { next = next-by cfg s (t, act.Skip) fields field c rest e; quoted = open-by cfg s (t, act.Skip) c rest e }
by-action cfg s t act.Copy fields field c rest e none = record { next = next-by cfg s (t, act.Copy) fields field c rest e; quoted = open-by cfg s (t, act.Copy) c rest e }
by-action cfg s t act.EndField fields field c rest e none = absurd (false≢true (sym none))
by-action cfg s t act.EndRecord fields field c rest e none = absurd (false≢true (sym none))

pair-is : (p : State × Action) (s : State) (a : Action) → s ≡ p.0 → a ≡ p.1 → p ≡ (s, a)
pair-is (x, y) s a is_state is_action = cc

pub one-more : (d : ℕ) (text : List ℕ) (at : ℕ) (s t : State) (a : Action) (fields : List (List ℕ)) (field : List ℕ) → at < length text
    → t ≡ (step (settings d) s (get_or text at 0)).0 → a ≡ (step (settings d) s (get_or text at 0)).1 → is_field_end a ≡ false
    → ReadsAs (settings d) s fields field (drop at text) t fields (joined_with a (get_or text at 0) field) (drop (at + 1) text)
one-more d text at s t a fields field below is_state is_action none =
    let c = get_or text at 0 in
    both-read (same-text (settings d) s fields field (drop at text) (c ∷ drop (at + 1) text) (drop_more text at 0 below))
    (by-action (settings d) s t a fields field c (drop (at + 1) text) (pair-is (step (settings d) s c) t a is_state is_action) none)

-- one of two outcomes, of which the first ends no field
module _ (P : State × Action → Type 0) (b : Bool) (x y : State × Action) where
  either-way : P x → P y → P (if b then x else y)
  either-way one other =
      elim (cases_Bool b) [
        | inl is ↦ subst (λ b. P (if b then x else y)) (sym is) one
        | inr is ↦ subst (λ b. P (if b then x else y)) (sym is) other
      ]

-- what it leads to, if it ends no field, is a state in the field
abbrev StaysIn : State × Action → Type 0
StaysIn r = is_field_end r.1 ≡ false → IsInField r.0

stays-in_field : (d c : ℕ) → StaysIn (in_field (settings d) c)
stays-in_field d c =
    either-way StaysIn (c == d) (st.StartField, act.EndField) (if is_line_end c then (after_end term.CRLF c, act.EndRecord) else (st.InField, act.Copy)) (λ _. tt)
    (either-way StaysIn (is_line_end c) (after_end term.CRLF c, act.EndRecord) (st.InField, act.Copy) (λ none. absurd (false≢true (sym none))) (λ _. tt))

pub stays : (d : ℕ) (s : State) (c : ℕ) → IsInField s → StaysIn (step (settings d) s c)
stays d st.StartField c is = either-way StaysIn (c == quote) (st.InQuoted, act.Skip) (in_field (settings d) c) (λ _. tt) (stays-in_field d c)
stays d st.InField c is = stays-in_field d c
stays d st.InQuoted c is = either-way StaysIn (c == quote) (st.AfterQuote, act.Skip) (st.InQuoted, act.Copy) (λ _. tt) (λ _. tt)
stays d st.AfterQuote c is = either-way StaysIn (c == quote) (st.InQuoted, act.Copy) (in_field (settings d) c) (λ _. tt) (stays-in_field d c)
stays d st.StartRecord c is = absurd is
stays d st.AfterCr c is = absurd is
stays d st.InEscape c is = absurd is
stays d st.InComment c is = absurd is

-- ---- a byte that ends it

-- it does what it does in a field outside quotes
ends-alike : (d : ℕ) (s : State) (c : ℕ) → IsInField s → is_field_end (step (settings d) s c).1 ≡ true → step (settings d) s c ≡ step (settings d) st.InField c
ends-alike d st.StartField c is ends =
    elim (cases_Bool (c == quote)) [
      | inl same ↦ absurd (false≢true (sym (ap (λ (b : Bool). is_field_end (if b then (st.InQuoted, act.Skip) else in_field (settings d) c).1) same) ∙ ends))
      | inr other ↦ field-step d c other
    ]
ends-alike d st.InField c is ends = refl
ends-alike d st.InQuoted c is ends =
    absurd (either-way (λ r. ¬ (is_field_end r.1 ≡ true)) (c == quote) (st.AfterQuote, act.Skip) (st.InQuoted, act.Copy) false≢true false≢true ends)
ends-alike d st.AfterQuote c is ends =
    elim (cases_Bool (c == quote)) [
      | inl same ↦ absurd (false≢true (sym (ap (λ (b : Bool). is_field_end (if b then (st.InQuoted, act.Copy) else in_field (settings d) c).1) same) ∙ ends))
      | inr other ↦ behind-step d c other
    ]
ends-alike d st.StartRecord c is ends = absurd is
ends-alike d st.AfterCr c is ends = absurd is
ends-alike d st.InEscape c is ends = absurd is
ends-alike d st.InComment c is ends = absurd is

-- a byte with this outcome ends a field
abbrev ends : State × Action → Bool
ends r = is_field_end r.1

ends-between : (d c : ℕ) → is_field_end (step (settings d) st.InField c).1 ≡ true → is_between_fields d c ≡ true
ends-between d c is =
    elim (cases_Bool (c == d)) [
      | inl same ↦ ap (λ b. b || is_line_end c) same
      | inr other ↦ elim (cases_Bool (is_line_end c)) [
        | inl line ↦ ap (λ b. b || is_line_end c) other ∙ line
        | inr none ↦ absurd (false≢true (sym (
            ap (λ (b : Bool). ends (if b then (st.StartField, act.EndField) else (if is_line_end c then (after_end term.CRLF c, act.EndRecord) else (st.InField, act.Copy)))) other
            ∙ ap (λ (b : Bool). ends (if b then (after_end term.CRLF c, act.EndRecord) else (st.InField, act.Copy))) none) ∙ is))
      ]
    ]

module _ (d : ℕ) (text : List ℕ) (start at : ℕ) (s : State) (field : List ℕ) (low : start ≤ at) (is : IsInField s)
    (read : (fields : List (List ℕ)) → ReadsAs (settings d) st.StartField fields [] (drop start text) s fields field (drop at text)) where
  pub ends-here : at < length text → is_field_end (step (settings d) s (get_or text at 0)).1 ≡ true → IsFieldAt d text start at field
  ends-here below ends =
      let alike = ends-alike d s (get_or text at 0) is ends in
      record {
        read = λ fields. both-read (read fields) (from-byte fields alike);
        stops = λ _. ends-between d (get_or text at 0) (sym (ap (λ (r : State × Action). is_field_end r.1) alike) ∙ ends);
        upward = low;
        within = omega (arith, below);
      }
    where
      from-byte : (fields : List (List ℕ)) → step (settings d) s (get_or text at 0) ≡ step (settings d) st.InField (get_or text at 0)
          → ReadsAs (settings d) s fields field (drop at text) st.InField fields field (drop at text)
      from-byte fields alike =
          let split = drop_more text at 0 below in
          subst (λ (of : List ℕ). ReadsAs (settings d) s fields field of st.InField fields field of) (sym split)
          (record {
            next = next-by (settings d) s (step (settings d) st.InField (get_or text at 0)) fields field (get_or text at 0) (drop (at + 1) text) alike
                ∙ sym (next-by (settings d) st.InField (step (settings d) st.InField (get_or text at 0)) fields field (get_or text at 0) (drop (at + 1) text) refl);
            quoted = open-by (settings d) s (step (settings d) st.InField (get_or text at 0)) (get_or text at 0) (drop (at + 1) text) alike;
          })

  none-left : (t : State) → IsInField t → t ≢ st.InQuoted → (fields : List (List ℕ)) → ReadsAs (settings d) t fields field [] st.InField fields field []
  none-left st.StartField in_field out fields = nothing-left d fields field
  none-left st.InField in_field out fields = same-text (settings d) st.InField fields field [] [] refl
  none-left st.InQuoted in_field out fields = absurd (out refl)
  none-left st.AfterQuote in_field out fields = nothing-behind d fields field
  none-left st.StartRecord in_field out fields = absurd in_field
  none-left st.AfterCr in_field out fields = absurd in_field
  none-left st.InEscape in_field out fields = absurd in_field
  none-left st.InComment in_field out fields = absurd in_field

  -- the text ends
  pub ends-last : at ≡ length text → s ≢ st.InQuoted → IsFieldAt d text start at field
  ends-last last out =
      let none : drop at text ≡ [] = drop_all at text (omega (arith, last)) in
      record {
        read = λ fields. both-read (read fields) (subst (λ (of : List ℕ). ReadsAs (settings d) s fields field of st.InField fields field of) (sym none) (none-left s is out fields));
        stops = λ below. absurd (omega (arith, last, below));
        upward = low;
        within = omega (arith, last);
      }
