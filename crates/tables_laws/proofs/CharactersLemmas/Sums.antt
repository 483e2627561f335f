-- The measure of additive characters is the sum of their columns.
use Rattle.std.proofs.Common.{◌≡◌, ℕ, ◌+◌, ◌≤◌, ◌&&◌, nat_le, true, false, List, [], ◌∷◌, ◌++◌, refl, ap, sym, ◌∙◌, arith, add_comm}
use Rattle.std.specs.List.{list_all, sum_by}
use Rattle.std.proofs.lemmas.Bool.{and_parts, leb-true}
use Rattle.std.proofs.lemmas.List.Folds.{list_all-append}
use Rattle.std.proofs.lemmas.List.Sums.{sum_by-append, sum_by-cons}
use Rattle.unicode_width.specs.declared.state.After.{After}
use Rattle.unicode_width.specs.declared.state.After.TheVariants.{Nothing}
use Rattle.unicode_width.specs.declared.state.State.{State}
use Rattle.unicode_width.specs.Width.{before, plain, read_before, step, str_width}
use Rattle.grid_records_measure.specs.Measures.{cost, line_cost, measure, own_width}
use Rattle.tables_laws.specs.Characters.AdditiveCharacters.{are_additive, columns_of, is_additive, is_spacing}
use Rattle.tables_laws.proofs.CharactersLemmas.OwnColumns.{is_still}
use Rattle.tables_laws.proofs.CharactersLemmas.Steps.{own-additive, step-additive}

record Reads (reading : ℕ × State) (total : ℕ) : Type 0 where
  after : After
  still : is_still after ≡ true
  is : reading ≡ (total, before after)

reads : (cs : List ℕ) → are_additive cs ≡ true → Reads (read_before false cs (0, plain)) (sum_by columns_of cs)
reads [] all = record { after = Nothing; still = refl; is = refl }
reads (c ∷ cs) all =
    let parts = and_parts (is_additive c) (are_additive cs) all in
    let rest = reads cs parts.1 in
    let here = step-additive c (sum_by columns_of cs) rest.after parts.0 rest.still in
    record {
      after = here.next;
      still = here.still;
      is = ap (step false c) rest.is ∙ here.is ∙ ap (λ n. (n, before here.next)) (add_comm (sum_by columns_of cs) (columns_of c) ∙ sym (sum_by-cons columns_of c cs));
    }

pub measure-additive : (cs : List ℕ) → are_additive cs ≡ true → measure cs ≡ sum_by columns_of cs
unfolding str_width
measure-additive cs all = ap (λ r. r.0) (reads cs all).is

pub own-sum : (cs : List ℕ) → are_additive cs ≡ true → sum_by own_width cs ≡ sum_by columns_of cs
own-sum [] all = refl
own-sum (c ∷ cs) all =
    let parts = and_parts (is_additive c) (are_additive cs) all in
    sum_by-cons own_width c cs ∙ ap (λ n. n + sum_by own_width cs) (own-additive c parts.0) ∙ ap (λ n. columns_of c + n) (own-sum cs parts.1) ∙ sym (sum_by-cons columns_of c cs)

pub measure-own : (cs : List ℕ) → are_additive cs ≡ true → measure cs ≡ sum_by own_width cs
measure-own cs all = measure-additive cs all ∙ sym (own-sum cs all)

-- ---- parts of a text

pub both-additive : (cs ds : List ℕ) → are_additive cs ≡ true → are_additive ds ≡ true → are_additive (cs ++ ds) ≡ true
both-additive cs ds one two = list_all-append is_additive cs ds ∙ ap (λ b. b && are_additive ds) one ∙ two

pub parts-additive : (cs ds : List ℕ) → are_additive (cs ++ ds) ≡ true → (are_additive cs ≡ true) × (are_additive ds ≡ true)
parts-additive cs ds all = and_parts (are_additive cs) (are_additive ds) (sym (list_all-append is_additive cs ds) ∙ all)

pub measure-append : (cs ds : List ℕ) → are_additive (cs ++ ds) ≡ true → measure (cs ++ ds) ≡ measure cs + measure ds
measure-append cs ds all =
    let parts = parts-additive cs ds all in
    measure-additive (cs ++ ds) all ∙ sum_by-append columns_of cs ds
    ∙ ap (λ n. n + sum_by columns_of ds) (sym (measure-additive cs parts.0)) ∙ ap (λ n. measure cs + n) (sym (measure-additive ds parts.1))

pub measure-parts : (front part behind : List ℕ) → are_additive (front ++ (part ++ behind)) ≡ true → measure (front ++ (part ++ behind)) ≡ measure front + (measure part + measure behind)
measure-parts front part behind all =
    measure-append front (part ++ behind) all
    ∙ ap (λ n. measure front + n) (measure-append part behind (parts-additive front (part ++ behind) all).1)

-- ---- what such a text costs

-- characters that take a column or more cost what they take
pub cost-own : (cs : List ℕ) → list_all (λ c. nat_le 1 (own_width c)) cs ≡ true → line_cost cs ≡ sum_by own_width cs
cost-own [] all = refl
cost-own (c ∷ cs) all =
    let parts = and_parts (nat_le 1 (own_width c)) (list_all (λ c. nat_le 1 (own_width c)) cs) all in
    let some : 1 ≤ own_width c = leb-true 1 (own_width c) parts.0 in
    let here : cost c ≡ own_width c = omega (arith, some) in
    sum_by-cons cost c cs ∙ ap (λ n. n + line_cost cs) here ∙ ap (λ n. own_width c + n) (cost-own cs parts.1) ∙ sym (sum_by-cons own_width c cs)

spacing-parts : (cs : List ℕ) → list_all is_spacing cs ≡ true → (are_additive cs ≡ true) × (list_all (λ c. nat_le 1 (own_width c)) cs ≡ true)
spacing-parts [] all = (refl, refl)
spacing-parts (c ∷ cs) all =
    let parts = and_parts (is_spacing c) (list_all is_spacing cs) all in
    let here = and_parts (is_additive c) (nat_le 1 (columns_of c)) parts.0 in
    let rest = spacing-parts cs parts.1 in
    (ap (λ b. b && are_additive cs) here.0 ∙ rest.0, ap (λ n. nat_le 1 n && list_all (λ c. nat_le 1 (own_width c)) cs) (own-additive c here.0) ∙ ap (λ b. b && list_all (λ c. nat_le 1 (own_width c)) cs) here.1 ∙ rest.1)

pub spacing-additive : (cs : List ℕ) → list_all is_spacing cs ≡ true → are_additive cs ≡ true
spacing-additive cs all = (spacing-parts cs all).0

pub cost-spacing : (cs : List ℕ) → list_all is_spacing cs ≡ true → line_cost cs ≡ measure cs
cost-spacing cs all = let parts = spacing-parts cs all in cost-own cs parts.1 ∙ sym (measure-own cs parts.0)
