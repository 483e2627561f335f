-- A space, and U+FFFD before the end, separate what a text measures: nothing before them joins what comes after.
use Rattle.std.proofs.Common.{◌≡◌, ℕ, zero, suc, ◌+◌, ◌++◌, true, false, not, List, [], ◌∷◌, replicate, refl, ap, ◌∙◌, arith, add-one, if◌then◌else◌}
use Rattle.std.specs.List.{list_all}
use Rattle.ucd_emoji.specs.Binary.{is_emoji_variation_base}
use Rattle.unicode_width.specs.Width.{Reading, before, if_kept, is_joined_emoji, past_emoji, plain, read_before, step, str_width}
use Rattle.unicode_width.specs.declared.state.State.{State}
use Rattle.unicode_width.specs.declared.state.After.TheVariants.{Emoji}
use Rattle.unicode_width.proofs.Computing.{unicode_width}
use Rattle.unicode_width.proofs.Rules.{is_simple, str_width-append_simple}
use Rattle.grid_records_measure.specs.Cutting.{replacement}
use Rattle.grid_records_measure.specs.Measures.{measure}
use Rattle.grid_records_measure.specs.Tabs.{space}

-- ---- a text before another

pub read-append : (xs ys : List ℕ) (r : Reading) → read_before false (xs ++ ys) r ≡ read_before false xs (read_before false ys r)
read-append [] ys r = refl
read-append (x ∷ xs) ys r = ap (step false x) (read-append xs ys r)

-- ---- a space joins nothing

variation-space : is_emoji_variation_base space ≡ false
unfolding unicode_width
variation-space = refl

past-space : (total : ℕ) (s : State) → past_emoji false space total s ≡ (total + 1, plain)
unfolding past_emoji
past-space total s = refl

pub space-resets : (r : Reading) → step false space r ≡ (r.0 + 1, plain)
unfolding step
space-resets (total, s) =
    let rest : State = record (if_kept s) { emoji = false } in
    elim (not s.emoji) as (λ b. (if b then past_emoji false space total s else if is_emoji_variation_base space then (total + (if is_joined_emoji s.after then 0 else 2), before Emoji) else past_emoji false space total rest) ≡ (total + 1, plain)) [
      | true ↦ past-space total s
      | false ↦ ap (λ b. if b then (total + (if is_joined_emoji s.after then 0 else 2), before Emoji) else past_emoji false space total rest) variation-space ∙ past-space total rest
    ]

read-spaces : (n : ℕ) → read_before false (replicate n space) (0, plain) ≡ (n, plain)
read-spaces zero = refl
read-spaces (suc n) = ap (step false space) (read-spaces n) ∙ space-resets (n, plain) ∙ ap (λ m. (m, plain)) (add-one n)

simple-spaces : (n : ℕ) → list_all is_simple (replicate n space) ≡ true
simple-spaces zero = refl
simple-spaces (suc n) = simple-spaces n

-- ---- what was read before is only added

pub read-more : (cs : List ℕ) (t : ℕ) → (read_before false cs (t, plain)).0 ≡ t + measure cs
unfolding str_width
read-more cs t =
    let both = str_width-append_simple false cs (replicate t space) (simple-spaces t) in
    let here : (read_before false (cs ++ replicate t space) (0, plain)).0 ≡ (read_before false cs (t, plain)).0 =
    ap (λ r. r.0) (read-append cs (replicate t space) (0, plain) ∙ ap (read_before false cs) (read-spaces t)) in
    let spaces : (read_before false (replicate t space) (0, plain)).0 ≡ t = ap (λ r. r.0) (read-spaces t) in
    omega (arith, both, here, spaces)

pub measure-space : (xs ys : List ℕ) → measure (xs ++ space ∷ ys) ≡ measure xs + 1 + measure ys
unfolding str_width
measure-space xs ys =
    let t = (read_before false ys (0, plain)).0 in
    let here : (read_before false (xs ++ space ∷ ys) (0, plain)).0 ≡ (read_before false xs (t + 1, plain)).0 =
    ap (λ r. r.0) (read-append xs (space ∷ ys) (0, plain) ∙ ap (read_before false xs) (space-resets (read_before false ys (0, plain)))) in
    omega (arith, here, read-more xs (t + 1))

-- ---- U+FFFD joins nothing

step-mark : (n : ℕ) → step false replacement (n, plain) ≡ (n + 1, plain)
unfolding unicode_width
step-mark n = refl

pub read-marks : (n : ℕ) → read_before false (replicate n replacement) (0, plain) ≡ (n, plain)
read-marks zero = refl
read-marks (suc n) = ap (step false replacement) (read-marks n) ∙ step-mark n ∙ ap (λ m. (m, plain)) (add-one n)

pub measure-marks : (xs : List ℕ) (n : ℕ) → measure (xs ++ replicate n replacement) ≡ measure xs + n
unfolding str_width
measure-marks xs n =
    let here : (read_before false (xs ++ replicate n replacement) (0, plain)).0 ≡ (read_before false xs (n, plain)).0 =
    ap (λ r. r.0) (read-append xs (replicate n replacement) (0, plain) ∙ ap (read_before false xs) (read-marks n)) in
    omega (arith, here, read-more xs n)
