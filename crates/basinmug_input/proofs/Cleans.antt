-- Cleaning, character by character.
use Rattle.std.proofs.Common.{◌≡◌, ◌∙◌, ◌≤◌, ℕ, Bool, true, false, List, [], ◌∷◌, ◌++◌, inl, inr, refl, sym, ap, subst, arith, flat_map}
use Rattle.std.proofs.lemmas.Bool.{cases_Bool, eqb-true, false≢true, ltb-false, ne_eqb, not-true}
use Rattle.std.proofs.lemmas.Bool.Decides.{nat_tests}
use Rattle.std.proofs.lemmas.List.{append-nil}
use Rattle.std.proofs.lemmas.Str.{encode_ascii}
use Rattle.std.specs.List.{list_all}
use Rattle.std.specs.Prelude.{◌==◌, ◌&&◌, ◌||◌, not, encode_utf8, if◌then◌else◌, nat_lt}
use Rattle.std.specs.Str.{encode_utf8_all}
use Rattle.program_options.specs.declared.basinmug.Escapes.{Escapes}
use Rattle.csv.specs.Machine.{carriage_return, line_feed}
use Rattle.basinmug_input.specs.Cleaning.{begins_with_line_feed, cleaned_text, delete, is_c1, is_control, is_turned, cleaned_char, always_stays, ordered_char, replacement, stays, visible_char, without_returns}
use Rattle.grid_records_measure.specs.Tabs.{tab}

-- the carriage return that waits
abbrev pub waiting : Bool → List ℕ
waiting true = carriage_return ∷ []
waiting false = []

-- a character that comes when nothing waits
coming : (escapes : Escapes) (b : Bool) (c : ℕ) (cs : List ℕ) → (c == carriage_return) ≡ b
    → cleaned_text escapes (c ∷ cs) ≡ (if b then [] else cleaned_char escapes c) ++ cleaned_text escapes (waiting b ++ cs)
coming escapes true c cs e = ap (λ x. cleaned_text escapes (x ∷ cs)) (eqb-true c carriage_return e)
coming escapes false c cs e = ap (λ (b : Bool). flat_map (cleaned_char escapes) ((if b && begins_with_line_feed cs then [] else c ∷ []) ++ without_returns cs)) e

-- the return that waits, before the next character
behind_return : (escapes : Escapes) (b : Bool) (cs : List ℕ) → flat_map (cleaned_char escapes) ((if b then [] else carriage_return ∷ []) ++ cs) ≡ (if true && not b then cleaned_char escapes carriage_return else []) ++ flat_map (cleaned_char escapes) cs
behind_return escapes true cs = refl
behind_return escapes false cs = refl

pub next-cleaned : (escapes : Escapes) (waits : Bool) (c : ℕ) (cs : List ℕ)
    → cleaned_text escapes (waiting waits ++ c ∷ cs)
    ≡ (if waits && not (c == line_feed) then cleaned_char escapes carriage_return else []) ++ ((if c == carriage_return then [] else cleaned_char escapes c) ++ cleaned_text escapes (waiting (c == carriage_return) ++ cs))
next-cleaned escapes true c cs =
    behind_return escapes (c == line_feed) (without_returns (c ∷ cs))
    ∙ ap (λ (bytes : List ℕ). (if true && not (c == line_feed) then cleaned_char escapes carriage_return else []) ++ bytes) (coming escapes (c == carriage_return) c cs refl)
next-cleaned escapes false c cs = coming escapes (c == carriage_return) c cs refl

pub end-cleaned : (escapes : Escapes) (waits : Bool) → cleaned_text escapes (waiting waits ++ []) ≡ (if waits then cleaned_char escapes carriage_return else [])
end-cleaned escapes true = append-nil (cleaned_char escapes carriage_return)
end-cleaned escapes false = refl

or-left : (p q : Bool) → (not p || q) ≡ true → q ≡ false → p ≡ false
or-left true true h none = none
or-left true false h none = sym h
or-left false q h none = refl

pub neither : (p q : Bool) → (p || q) ≡ false → (p ≡ false) × (q ≡ false)
neither true q h = cc h
neither false q h = (refl, h)

pub both : (p q : Bool) → (p && q) ≡ true → (p ≡ true) × (q ≡ true)
both true q h = (refl, h)
both false q h = cc h

-- what is not turned is made visible
ordered-visible : (escapes : Escapes) (c : ℕ) → is_turned escapes c ≡ false → ordered_char escapes c ≡ visible_char c
ordered-visible escapes c h = ap (λ (b : Bool). if b then encode_utf8 replacement else visible_char c) h

-- a character that stays is shown as it is
stays-cleaned : (escapes : Escapes) (c : ℕ) → stays escapes c ≡ true → (cleaned_char escapes c ≡ encode_utf8 c) × ((c == carriage_return) ≡ false)
stays-cleaned escapes c h =
    let parts = both (always_stays c) (not (is_turned escapes c)) h in
    let ordered : ordered_char escapes c ≡ visible_char c = ordered-visible escapes c (not-true (is_turned escapes c) parts.1) in
    elim (cases_Bool (c == line_feed)) [
      | inl is ↦
          subst (λ x. (cleaned_char escapes x ≡ encode_utf8 x) × ((x == carriage_return) ≡ false)) (sym (eqb-true c line_feed is)) (sym (encode_ascii line_feed (omega arith)), refl)
      | inr other ↦
          let none = neither (nat_lt c 0x20) (nat_lt 0x7e c && nat_lt c 0xa0) (or-left (is_control c) (c == line_feed) parts.0 other) in
          let low : 0x20 ≤ c = ltb-false c 0x20 none.0 in
          let no_tab : (c == tab) ≡ false = ne_eqb c tab (λ e. omega (arith, e, low)) in
          let no_delete : (c == delete) ≡ false = ne_eqb c delete (λ e. false≢true (sym none.1 ∙ ap (λ x. nat_lt 0x7e x && nat_lt x 0xa0) e)) in
          let no_c1 : is_c1 c ≡ false = grind (arith, nat_tests, none.1) in
          let seen : visible_char c ≡ encode_utf8 c = rw (none.0, no_delete, no_c1) refl in
          (rw (other, no_tab) (ordered ∙ seen), ne_eqb c carriage_return (λ e. omega (arith, e, low)))
    ]

pub stay-cleaned : (escapes : Escapes) (cs : List ℕ) → list_all (stays escapes) cs ≡ true → cleaned_text escapes cs ≡ encode_utf8_all cs
stay-cleaned escapes [] h = refl
stay-cleaned escapes (c ∷ cs) h =
    let each = both (stays escapes c) (list_all (stays escapes) cs) h in
    let here = stays-cleaned escapes c each.0 in
    coming escapes false c cs here.1
    ∙ ap (λ (bytes : List ℕ). bytes ++ cleaned_text escapes cs) here.0
    ∙ ap (λ (bytes : List ℕ). encode_utf8 c ++ bytes) (stay-cleaned escapes cs each.1)
