-- Lines of parts as more is added to them.
use Rattle.std.proofs.Common.{◌≡◌, ℕ, zero, suc, ◌+◌, ◌-◌, ◌<◌, ◌≤◌, Bool, true, false, cond, List, [], ◌∷◌, ◌++◌, length, get_or, map, set, refl, ap, sym, ◌∙◌, arith, append_assoc, append-nil, inl, inr}
use Rattle.std.specs.Prelude.{Vec, nat_lt, nat_eq}
use Rattle.std.specs.declared.alloc.Global.{Global}
use Rattle.std.proofs.lemmas.Bool.{cases_lt, cases_eq, lt-ltb, le-ltb, eq-eqb, ne_eqb}
use Rattle.std.proofs.lemmas.List.{length-set, map-append}
use Rattle.tabled_pool.specs.Boxes.Boxes.{BoxPart, first_lines, from_line}
use Rattle.tabled_pool.specs.Boxes.Canvas.{Adds, box_part, box_parts, shown_at}
use Rattle.tabled_pool.specs.declared.boxes.part.DrawnPart.{DrawnPart}

abbrev pub Lines : Type 0
Lines = List (Vec DrawnPart Global)

abbrev pub Line : Type 0
Line = List BoxPart

pub adds-nothing : (lines : Lines) (f : ℕ → Line) → ((k : ℕ) → f k ≡ []) → Adds lines lines f
adds-nothing lines f none = (refl, λ k inside. sym (append-nil (shown_at lines k)) ∙ ap (λ l. shown_at lines k ++ l) (sym (none k)))

pub adds-as : (before after : Lines) (f g : ℕ → Line) → Adds before after f → ((k : ℕ) → f k ≡ g k) → Adds before after g
adds-as before after f g adds same = (adds.0, λ k inside. adds.1 k inside ∙ ap (λ l. shown_at before k ++ l) (same k))

pub adds-more : (a b c : Lines) (f g : ℕ → Line) → Adds a b f → Adds b c g → Adds a c (λ k. f k ++ g k)
adds-more a b c f g one two = (
  two.0 ∙ one.0,
  λ k inside.
      let in_b : k < length b = omega (arith, one.0, inside) in
      two.1 k in_b ∙ (ap (λ l. l ++ g k) (one.1 k inside) ∙ append_assoc (shown_at a k) (f k) (g k)),
)

-- what is there with what is left to add is what was there with all that is to be added
pub record Leads (start : Lines) (all : ℕ → Line) (now : Lines) (left : ℕ → Line) : Type 0 where
  pub long : length now ≡ length start
  pub shows : (k : ℕ) → k < length start → shown_at now k ++ left k ≡ shown_at start k ++ all k

pub leads-start : (start : Lines) (all : ℕ → Line) → Leads start all start all
leads-start start all = record { long = refl; shows = λ k inside. refl }

pub leads-more : (start : Lines) (all : ℕ → Line) (now next : Lines) (left added behind : ℕ → Line) → Leads start all now left → Adds now next added
    → ((k : ℕ) → left k ≡ added k ++ behind k) → Leads start all next behind
leads-more start all now next left added behind leads adds parted = record {
  long = adds.0 ∙ leads.long;
  shows = λ k inside.
      let within : k < length now = omega (arith, leads.long, inside) in
      ap (λ l. l ++ behind k) (adds.1 k within)
      ∙ (append_assoc (shown_at now k) (added k) (behind k)
      ∙ (ap (λ l. shown_at now k ++ l) (sym (parted k)) ∙ leads.shows k inside));
}

pub leads-end : (start : Lines) (all : ℕ → Line) (now : Lines) (left : ℕ → Line) → Leads start all now left → ((k : ℕ) → left k ≡ []) → Adds start now all
leads-end start all now left leads none = (
  leads.long,
  λ k inside. sym (append-nil (shown_at now k)) ∙ (ap (λ l. shown_at now k ++ l) (sym (none k)) ∙ leads.shows k inside),
)

-- ---- lines from one on

at-bool : (b : Bool) (f g : Line) → cond b [] (f ++ g) ≡ cond b [] f ++ cond b [] g
at-bool true f g = refl
at-bool false f g = refl

pub from-append : (top : ℕ) (f g : ℕ → Line) (k : ℕ) → from_line top (λ y. f y ++ g y) k ≡ from_line top f k ++ from_line top g k
from-append top f g k = at-bool (nat_lt k top) (f (k - top)) (g (k - top))

pub nothing : (b : Bool) (line : Line) → line ≡ [] → cond b [] line ≡ []
nothing true line none = refl
nothing false line none = none

pub from-none : (top : ℕ) (f : ℕ → Line) (k : ℕ) → ((y : ℕ) → f y ≡ []) → from_line top f k ≡ []
from-none top f k none = nothing (nat_lt k top) (f (k - top)) (none (k - top))

module _ (a b : ℕ) (f : ℕ → Line) (k : ℕ) where
  above-both : k < a → from_line a (from_line b f) k ≡ from_line (a + b) f k
  above-both h =
      ap (λ t. cond t [] (from_line b f (k - a))) (lt-ltb k a h)
      ∙ sym (ap (λ t. cond t [] (f (k - (a + b)))) (lt-ltb k (a + b) (omega (arith, h))))

  above-second : a ≤ k → k - a < b → from_line a (from_line b f) k ≡ from_line (a + b) f k
  above-second h g =
      ap (λ t. cond t [] (from_line b f (k - a))) (le-ltb k a h)
      ∙ (ap (λ t. cond t [] (f (k - a - b))) (lt-ltb (k - a) b g)
      ∙ sym (ap (λ t. cond t [] (f (k - (a + b)))) (lt-ltb k (a + b) (omega (arith, h, g)))))

  below-both : a ≤ k → b ≤ k - a → from_line a (from_line b f) k ≡ from_line (a + b) f k
  below-both h g =
      let same : k - a - b ≡ k - (a + b) = omega (arith, h, g) in
      ap (λ t. cond t [] (from_line b f (k - a))) (le-ltb k a h)
      ∙ (ap (λ t. cond t [] (f (k - a - b))) (le-ltb (k - a) b g)
      ∙ (ap f same
      ∙ sym (ap (λ t. cond t [] (f (k - (a + b)))) (le-ltb k (a + b) (omega (arith, h, g))))))

  pub from-from : from_line a (from_line b f) k ≡ from_line (a + b) f k
  from-from =
      elim (cases_lt k a) [
        | inl h ↦ above-both h
        | inr h ↦ elim (cases_lt (k - a) b) [ inl g ↦ above-second h g | inr g ↦ below-both h g ]
      ]

-- one line more
module _ (top n : ℕ) (parts : ℕ → Line) (k : ℕ) where
  abbrev Goal : Type 0
  Goal = from_line top (first_lines (n + 1) parts) k ≡ from_line top (first_lines n parts) k ++ cond (nat_eq k (top + n)) (parts n) []

  by-tests : (b0 b1 b2 b3 : Bool) → nat_lt k top ≡ b0 → nat_lt (k - top) (n + 1) ≡ b1 → nat_lt (k - top) n ≡ b2 → nat_eq k (top + n) ≡ b3
      → cond b0 [] (cond b1 (parts (k - top)) []) ≡ cond b0 [] (cond b2 (parts (k - top)) []) ++ cond b3 (parts n) [] → Goal
  by-tests b0 b1 b2 b3 e0 e1 e2 e3 same = rw (e0, e1, e2, e3) same

  pub one-more : Goal
  one-more =
      elim (cases_lt k top) [
        | inl h ↦ by-tests true (nat_lt (k - top) (n + 1)) (nat_lt (k - top) n) false (lt-ltb k top h) refl refl (ne_eqb k (top + n) (λ e. omega (arith, h, e))) refl
        | inr h ↦ elim (cases_lt (k - top) n) [
          | inl g ↦ by-tests false true true false (le-ltb k top h) (lt-ltb (k - top) (n + 1) (omega (arith, g))) (lt-ltb (k - top) n g) (ne_eqb k (top + n) (λ e. omega (arith, h, g, e))) (sym (append-nil (parts (k - top))))
          | inr g ↦ elim (cases_eq k (top + n)) [
            | inl e ↦
                let here : k - top ≡ n = omega (arith, h, e) in
                by-tests false true false true (le-ltb k top h) (lt-ltb (k - top) (n + 1) (omega (arith, h, e))) (le-ltb (k - top) n g) (eq-eqb k (top + n) e) (ap parts here)
            | inr e ↦
                let past : n + 1 ≤ k - top = omega (arith, h, g, e) in
                by-tests false false false false (le-ltb k top h) (le-ltb (k - top) (n + 1) past) (le-ltb (k - top) n g) (ne_eqb k (top + n) e) refl
          ]
        ]
      ]

-- ---- one part

same-line : (before : Lines) (i : ℕ) (line : Vec DrawnPart Global) → i < length before → shown_at (set before i line) i ≡ box_parts line
same-line [] i line h = absurd (omega (arith, h))
same-line (x ∷ xs) zero line h = refl
same-line (x ∷ xs) (suc i) line h = same-line xs i line (omega (arith, h))

other-line : (before : Lines) (i k : ℕ) (line : Vec DrawnPart Global) → (k ≡ i → ⊥) → shown_at (set before i line) k ≡ shown_at before k
other-line [] i k line ne = refl
other-line (x ∷ xs) zero zero line ne = absurd (ne refl)
other-line (x ∷ xs) zero (suc k) line ne = refl
other-line (x ∷ xs) (suc i) zero line ne = refl
other-line (x ∷ xs) (suc i) (suc k) line ne = other-line xs i k line (λ e. ne (ap suc e))

read-line : (before : Lines) (i : ℕ) (old : Vec DrawnPart Global) → i < length before → shown_at before i ≡ box_parts (get_or before i old)
read-line [] i old h = absurd (omega (arith, h))
read-line (x ∷ xs) zero old h = refl
read-line (x ∷ xs) (suc i) old h = read-line xs i old (omega (arith, h))

pub adds-part : (before after : Lines) (i : ℕ) (old line : Vec DrawnPart Global) (part : DrawnPart) → i < length before → line.items ≡ (get_or before i old).items ++ part ∷ []
    → after ≡ set before i line → Adds before after (λ k. cond (nat_eq k i) (box_part part ∷ []) [])
adds-part before after i old line part inside pushed made = (
  ap length made ∙ length-set before i line,
  λ k within.
      elim (cases_eq k i) [
        | inl e ↦
            ap (λ l. shown_at l k) made
            ∙ (ap (λ j. shown_at (set before i line) j) e
            ∙ (same-line before i line inside
            ∙ (ap (map box_part) pushed
            ∙ (map-append box_part (get_or before i old).items (part ∷ [])
            ∙ (ap (λ l. l ++ box_part part ∷ []) (sym (read-line before i old inside))
            ∙ (ap (λ j. shown_at before j ++ box_part part ∷ []) (sym e)
            ∙ ap (λ t. shown_at before k ++ cond t (box_part part ∷ []) []) (sym (eq-eqb k i e))))))))
        | inr ne ↦
            ap (λ l. shown_at l k) made
            ∙ (other-line before i k line ne
            ∙ (sym (append-nil (shown_at before k))
            ∙ ap (λ t. shown_at before k ++ cond t (box_part part ∷ []) []) (sym (ne_eqb k i ne))))
      ],
)

-- ---- one part in each of some lines

pub same-start : (lines : Lines) (top : ℕ) (parts : ℕ → Line) → Adds lines lines (from_line top (first_lines 0 parts))
same-start lines top parts =
    adds-nothing lines (from_line top (first_lines 0 parts)) (λ k. from-none top (first_lines 0 parts) k (λ y. ap (λ t. cond t (parts y) []) (le-ltb y 0 (omega arith))))

pub same-more : (a b c : Lines) (top n : ℕ) (parts : ℕ → Line) → Adds a b (from_line top (first_lines n parts)) → Adds b c (λ k. cond (nat_eq k (top + n)) (parts n) [])
    → Adds a c (from_line top (first_lines (n + 1) parts))
same-more a b c top n parts one two =
    adds-as a c (λ k. from_line top (first_lines n parts) k ++ cond (nat_eq k (top + n)) (parts n) []) (from_line top (first_lines (n + 1) parts))
    (adds-more a b c (from_line top (first_lines n parts)) (λ k. cond (nat_eq k (top + n)) (parts n) []) one two)
    (λ k. sym (one-more top n parts k))
