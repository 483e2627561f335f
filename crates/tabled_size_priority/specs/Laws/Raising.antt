-- Lists that are grown to a level: each lower width is raised to it.
use Rattle.std.proofs.Common.{◌≡◌, ℕ, zero, suc, ◌+◌, ◌<◌, ◌≤◌, List, [], ◌∷◌, length, map, get_or, set, sum, max, refl, sym, ◌∙◌, ap, subst, arith, ◌≢◌, inl, inr, Bool}
use Rattle.std.specs.Prelude.{◌⊎◌, Option, Some, None}
use Rattle.std.specs.List.{range_with_len}
use Rattle.std.proofs.lemmas.Bool.{cases_lt, cases_order}
use Rattle.std.proofs.lemmas.Bool.Decides.{nat_tests}
use Rattle.std.proofs.lemmas.List.FromFn.{length-map-range_with_len}
use Rattle.tabled_size_priority.specs.LevelRules.Columns.{from_side}
use Rattle.tabled_size_priority.specs.Growing.{raised_to_level, grown_to_level, IsGrownByNarrowest}
use Rattle.tabled_size_priority.specs.Levels.{AreAtLeast, CouldBeGrown, IsGreatestLevel}
use Rattle.tabled_size_priority.specs.Shrinking.{IsOfForm}
use Rattle.tabled_size_priority.specs.Peaking.{IsFirstAbove, Narrowest, NamesNarrowest, HasNothing}
use Rattle.tabled_size_priority.specs.Peaks.{narrowest_peaks}
use Rattle.tabled_size_priority.specs.Running.{IsGrownBy, IsNowhere}
use Rattle.tabled_size_priority.specs.Laws.Forms.{one_of_form}
use Rattle.tabled_size_priority.specs.Laws.Growths.{KeepsGrowing, IsGrownWell, StaysAfter, grown_well, nothing_grown, state_stays}
use Rattle.tabled_size_priority.specs.Laws.Lists.{from_columns, set_cases, at_column, sum-same, map-same, map-le, map-equal}
use Rattle.tabled_size_priority.specs.Laws.Places.{IsPlacing, side-placing}

-- ---- the form at one column

before-is : (level c place width : ℕ) → place < c → raised_to_level level c place width ≡ max width (level + 1)
before-is level c place width h = grind (arith, nat_tests)

behind-is : (level c place width : ℕ) → c ≤ place → raised_to_level level c place width ≡ max width level
behind-is level c place width h = grind (arith, nat_tests)

pub record IsRaised (place : ℕ → ℕ) (widths sizes : List ℕ) : Type 0 where
  pub level : ℕ
  pub c : ℕ
  pub formed : (i : ℕ) → i < length widths → get_or sizes i 0 ≡ raised_to_level level c (place i) (get_or widths i 0)
  pub positive : (i : ℕ) → i < length widths → 0 < get_or sizes i 0

-- what the narrowest column is raised to
next-here : (level c q v w : ℕ) → v ≡ raised_to_level level c q w → v + 1 ≡ raised_to_level v (q + 1) q w
next-here level c q v w v_is =
    let new : raised_to_level v (q + 1) q w ≡ max w (v + 1) = before-is v (q + 1) q w (omega arith) in
    elim (cases_lt q c) [
      | inl before ↦ let was : raised_to_level level c q w ≡ max w (level + 1) = before-is level c q w before in omega arith
      | inr behind ↦ let was : raised_to_level level c q w ≡ max w level = behind-is level c q w behind in omega arith
    ]

-- another column stays at what it was raised to
next-early : (level c q v k w s : ℕ) → k < q → ((k < c) × (s ≡ max w (level + 1))) ⊎ ((c ≤ k) × (s ≡ max w level)) → ((q < c) × (level + 1 ≤ v)) ⊎ (c ≤ q)
    → (v < s) ⊎ ((s ≡ v) × (q ≤ k)) → level ≤ v → s ≡ max w (v + 1)
next-early level c q v k w s early s_cases q_cases narrowest v_level = grind arith

next-late : (level c q v k w s : ℕ) → q < k → ((k < c) × (s ≡ max w (level + 1))) ⊎ ((c ≤ k) × (s ≡ max w level)) → ((q < c) × (level + 1 ≤ v)) ⊎ (c ≤ q)
    → (v < s) ⊎ ((s ≡ v) × (q ≤ k)) → level ≤ v → s ≡ max w v
next-late level c q v k w s late s_cases q_cases narrowest v_level = grind arith

next-other : (level c q v wp k w s : ℕ) → s ≡ raised_to_level level c k w → v ≡ raised_to_level level c q wp → (v ≤ s) × (v ≡ s → q ≤ k) → k ≢ q → s ≡ raised_to_level v (q + 1) k w
next-other level c q v wp k w s s_is v_is narrowest other =
    let q_cases : ((q < c) × (level + 1 ≤ v)) ⊎ (c ≤ q) = elim (cases_lt q c) [
      | inl before ↦ let was : raised_to_level level c q wp ≡ max wp (level + 1) = before-is level c q wp before in inl (before, omega arith)
      | inr behind ↦ inr behind
    ] in
    let v_level : level ≤ v = elim (cases_lt q c) [
      | inl before ↦ let was : raised_to_level level c q wp ≡ max wp (level + 1) = before-is level c q wp before in omega arith
      | inr behind ↦ let was : raised_to_level level c q wp ≡ max wp level = behind-is level c q wp behind in omega arith
    ] in
    let s_cases : ((k < c) × (s ≡ max w (level + 1))) ⊎ ((c ≤ k) × (s ≡ max w level)) = elim (cases_lt k c) [
      | inl before ↦ inl (before, s_is ∙ before-is level c k w before)
      | inr behind ↦ inr (behind, s_is ∙ behind-is level c k w behind)
    ] in
    let le : v ≤ s = narrowest.0 in
    let s_narrowest : (v < s) ⊎ ((s ≡ v) × (q ≤ k)) = elim (cases_lt v s) [ inl less ↦ inl less | inr not_less ↦ let tie : v ≡ s = omega arith in inr (sym tie, narrowest.1 tie) ] in
    elim (cases_order k q) [
      | inl same ↦ absurd (other same)
      | inr apart ↦ elim apart [
        | inl early ↦ next-early level c q v k w s early s_cases q_cases s_narrowest v_level ∙ sym (before-is v (q + 1) k w (omega arith))
        | inr late ↦ next-late level c q v k w s late s_cases q_cases s_narrowest v_level ∙ sym (behind-is v (q + 1) k w (omega arith))
      ]
    ]

-- the narrowest column gets one
raised-step : (place : ℕ → ℕ) (widths sizes : List ℕ) (column : ℕ) → IsPlacing place (length widths) → length sizes ≡ length widths → IsRaised place widths sizes → column < length sizes
    → ((i : ℕ) → i < length widths → (get_or sizes column 0 ≤ get_or sizes i 0) × (get_or sizes column 0 ≡ get_or sizes i 0 → place column ≤ place i))
    → IsRaised place widths (set sizes column (get_or sizes column 0 + 1))
raised-step place widths sizes column placing size raised inside narrowest =
    let column_inside : column < length widths = omega arith in
    let here : get_or sizes column 0 ≡ raised_to_level raised.level raised.c (place column) (get_or widths column 0) = raised.formed column column_inside in
    let New : ℕ → ℕ → Type 0 = λ (i : ℕ) (v : ℕ). i < length widths → v ≡ raised_to_level (get_or sizes column 0) (place column + 1) (place i) (get_or widths i 0) in
    let Positive : ℕ → ℕ → Type 0 = λ (i : ℕ) (v : ℕ). i < length widths → 0 < v in
    record {
      level = get_or sizes column 0;
      c = place column + 1;
      formed = set_cases New sizes column (get_or sizes column 0 + 1) inside
          (λ below. next-here raised.level raised.c (place column) (get_or sizes column 0) (get_or widths column 0) here)
          (λ i other below. next-other raised.level raised.c (place column) (get_or sizes column 0) (get_or widths column 0) (place i) (get_or widths i 0) (get_or sizes i 0)
          (raised.formed i below) here (narrowest i below) (λ same. other (placing i column below column_inside same)));
      positive = set_cases Positive sizes column (get_or sizes column 0 + 1) inside (λ below. omega arith) (λ i other below. raised.positive i below);
    }

raised-start : (place : ℕ → ℕ) (widths : List ℕ) → ((i : ℕ) → i < length widths → 0 < get_or widths i 0) → IsRaised place widths widths
raised-start place widths positive = record {
  level = 0;
  c = 0;
  positive = positive;
  formed = λ i below.
      let is : raised_to_level 0 0 (place i) (get_or widths i 0) ≡ max (get_or widths i 0) 0 = behind-is 0 0 (place i) (get_or widths i 0) (omega arith) in omega arith;
}

raised-form : (place : ℕ → ℕ) (widths sizes : List ℕ) (total : ℕ) → length sizes ≡ length widths → IsRaised place widths sizes → sum sizes ≡ total → IsOfForm (grown_to_level place widths) total sizes
raised-form place widths sizes total size raised sums =
    let form : ℕ → ℕ = λ (i : ℕ). raised_to_level raised.level raised.c (place i) (get_or widths i 0) in
    record { number = raised.level; column = raised.c; formed = from_columns form (length widths) sizes size raised.formed; sums = sums }

-- where no size is 0 the narrowest grows
narrowest-some : (place : ℕ → ℕ) (sizes : List ℕ) (answer : Option ℕ) → 0 < length sizes → ((i : ℕ) → i < length sizes → 0 < get_or sizes i 0) → NamesNarrowest place [] sizes answer → IsNowhere (length sizes) answer → ⊥
narrowest-some place sizes None some positive named nowhere = elim named [ inl empty ↦ omega arith | inr zero_there ↦ let above : 0 < get_or sizes zero_there.0 0 = positive zero_there.0 zero_there.1 in let is : get_or sizes zero_there.0 0 ≡ 0 = zero_there.2 in omega arith ]
narrowest-some place sizes (Some column) some positive named nowhere = let first = named.0 in let inside : column < length sizes = first.inside in omega arith

keeps-raised : (right : Bool) (widths : List ℕ) → 0 < length widths → KeepsGrowing narrowest_peaks widths (λ side sizes. (side ≡ right) × IsRaised (from_side right (length widths)) widths sizes)
keeps-raised right widths some = record {
  step = λ before sizes column after size kept answer inside.
      let P : Bool → Type 0 = λ (side : Bool). NamesNarrowest (from_side side (length sizes)) [] sizes (Some column) in
      let Q : ℕ → Type 0 = λ (n : ℕ). IsFirstAbove (Narrowest (from_side right n) sizes) [] sizes n column in
      let found = subst P kept.0 answer.0 in
      let named : IsFirstAbove (Narrowest (from_side right (length widths)) sizes) [] sizes (length widths) column = subst Q size found.0 in (
        answer.1 ∙ kept.0,
        raised-step (from_side right (length widths)) widths sizes column (side-placing right (length widths)) size kept.1 inside
            (λ i below. let raised = kept.1 in named.first i below (raised.positive i below)),
      );
  some = λ before sizes answer after size kept answered nowhere. let raised = kept.1 in
      narrowest-some (from_side before (length sizes)) sizes answer (omega arith) (λ i below. raised.positive i (omega arith)) answered.0 nowhere;
}

-- ---- a list has a 0, or none

pub zero_or_positive : (xs : List ℕ) → ((i : ℕ) × (i < length xs) × (get_or xs i 0 ≡ 0)) ⊎ ((i : ℕ) → i < length xs → 0 < get_or xs i 0)
zero_or_positive [] = inr (λ i below. absurd (omega arith))
zero_or_positive (zero ∷ xs) = inl (0, omega arith, refl)
zero_or_positive (suc x ∷ xs) = elim (zero_or_positive xs) [
  | inl found ↦ inl (suc found.0, let below : found.0 < length xs = found.1 in omega arith, found.2)
  | inr positive ↦ inr (λ i. elim i as (λ k. k < length (suc x ∷ xs) → 0 < get_or (suc x ∷ xs) k 0) [
    | zero ↦ λ below. omega arith
    | suc k ↦ λ below. positive k (omega arith)
  ])
]

pub nothing_or_all : (widths : List ℕ) → HasNothing widths ⊎ ((0 < length widths) × ((i : ℕ) → i < length widths → 0 < get_or widths i 0))
nothing_or_all widths = elim (cases_lt 0 (length widths)) [
  | inr empty ↦ inl (inl (omega arith))
  | inl some ↦ elim (zero_or_positive widths) [ inl found ↦ inl (inr found) | inr positive ↦ inr (some, positive) ]
]

nothing-not : (widths : List ℕ) → HasNothing widths → 0 < length widths → ((i : ℕ) → i < length widths → 0 < get_or widths i 0) → ⊥
nothing-not widths nothing some positive = elim nothing [ inl empty ↦ omega arith | inr found ↦ let above : 0 < get_or widths found.0 0 = positive found.0 found.1 in let is : get_or widths found.0 0 ≡ 0 = found.2 in omega arith ]

-- ---- the narrowest first

narrowest-stays : (right : Bool) (by : ℕ) (widths : List ℕ) (after : Bool) (sizes : List ℕ) → HasNothing widths → IsGrownBy narrowest_peaks right by widths after sizes → (sizes ≡ widths) × StaysAfter narrowest_peaks right widths after
narrowest-stays right by widths after sizes nothing run =
    nothing_grown narrowest_peaks right by widths after sizes (λ column end answer inside. let named = answer.0 in nothing-not widths nothing (omega arith) named.1) run

narrowest-raised : (right : Bool) (by : ℕ) (widths : List ℕ) (after : Bool) (sizes : List ℕ) → 0 < length widths → ((i : ℕ) → i < length widths → 0 < get_or widths i 0)
    → IsGrownBy narrowest_peaks right by widths after sizes → IsGrownWell widths by (λ (side : Bool) (found : List ℕ). (side ≡ right) × IsRaised (from_side right (length widths)) widths found) after sizes
narrowest-raised right by widths after sizes some positive run =
    grown_well narrowest_peaks (λ side found. (side ≡ right) × IsRaised (from_side right (length widths)) widths found) right by widths after sizes (keeps-raised right widths some) (refl, raised-start (from_side right (length widths)) widths positive) run

pub narrowest_grown : (right : Bool) (by : ℕ) (widths : List ℕ) (after : Bool) (sizes : List ℕ) → IsGrownBy narrowest_peaks right by widths after sizes → IsGrownByNarrowest right by widths sizes × (after ≡ right)
narrowest_grown right by widths after sizes run = (
  record {
    nothing = λ nothing. let stays = narrowest-stays right by widths after sizes nothing run in stays.0;
    raised = λ some positive.
        let well : IsGrownWell widths by (λ (side : Bool) (found : List ℕ). (side ≡ right) × IsRaised (from_side right (length widths)) widths found) after sizes = narrowest-raised right by widths after sizes some positive run in
        let kept = well.kept in
        raised-form (from_side right (length widths)) widths sizes (sum widths + by) well.size kept.1 well.sums;
  },
  state_stays narrowest_peaks (λ before least found answer end answered. answered.1) right by widths after sizes run,
)

-- ---- one list

chained : (w k a c b d x y : ℕ) → (a < b) ⊎ ((a ≡ b) × (c ≤ d)) → ((k < c) × (x ≡ max w (a + 1))) ⊎ ((c ≤ k) × (x ≡ max w a)) → ((k < d) × (y ≡ max w (b + 1))) ⊎ ((d ≤ k) × (y ≡ max w b)) → x ≤ y
chained w k a c b d x y later a_cases b_cases = grind arith

pub cases-of : (level c k w : ℕ) → ((k < c) × (raised_to_level level c k w ≡ max w (level + 1))) ⊎ ((c ≤ k) × (raised_to_level level c k w ≡ max w level))
cases-of level c k w = elim (cases_lt k c) [ inl before ↦ inl (before, before-is level c k w before) | inr behind ↦ inr (behind, behind-is level c k w behind) ]

raised-chain : (w k a c b d : ℕ) → (a < b) ⊎ ((a ≡ b) × (c ≤ d)) → raised_to_level a c k w ≤ raised_to_level b d k w
raised-chain w k a c b d later = chained w k a c b d (raised_to_level a c k w) (raised_to_level b d k w) later (cases-of a c k w) (cases-of b d k w)

pub raised_one : (place : ℕ → ℕ) (widths : List ℕ) (total : ℕ) (xs ys : List ℕ) → IsOfForm (grown_to_level place widths) total xs → IsOfForm (grown_to_level place widths) total ys → xs ≡ ys
raised_one place widths total xs ys one two =
    let at : ℕ → ℕ → ℕ → ℕ = λ (a : ℕ) (c : ℕ) (i : ℕ). raised_to_level a c (place i) (get_or widths i 0) in
    one_of_form (grown_to_level place widths) at (length widths) (λ a c. refl) total
    (λ a c b d. elim (cases_order a b) [
      | inl same ↦ elim (cases_lt c d) [
        | inl less ↦ inl (λ i below. raised-chain (get_or widths i 0) (place i) a c b d (inr (same, omega arith)))
        | inr more ↦ inr (λ i below. raised-chain (get_or widths i 0) (place i) b d a c (inr (sym same, more)))
      ]
      | inr apart ↦ elim apart [
        | inl less ↦ inl (λ i below. raised-chain (get_or widths i 0) (place i) a c b d (inl less))
        | inr more ↦ inr (λ i below. raised-chain (get_or widths i 0) (place i) b d a c (inl more))
      ]
    ])
    xs ys one two

pub narrowest_one : (right : Bool) (by : ℕ) (widths xs ys : List ℕ) → IsGrownByNarrowest right by widths xs → IsGrownByNarrowest right by widths ys → xs ≡ ys
narrowest_one right by widths xs ys one two = elim (nothing_or_all widths) [
  | inl nothing ↦ one.nothing nothing ∙ sym (two.nothing nothing)
  | inr all ↦ raised_one (from_side right (length widths)) widths (sum widths + by) xs ys (one.raised all.0 all.1) (two.raised all.0 all.1)
]

-- ---- the greatest level

at-least_level : (level c k w : ℕ) → max w level ≤ raised_to_level level c k w
at-least_level level c k w = elim (cases-of level c k w) [
  | inl before ↦ let is : raised_to_level level c k w ≡ max w (level + 1) = before.1 in omega arith
  | inr behind ↦ let is : raised_to_level level c k w ≡ max w level = behind.1 in omega arith
]

below-level : (level c k w t : ℕ) → level < t → raised_to_level level c k w ≤ max w t
below-level level c k w t lower = elim (cases-of level c k w) [
  | inl before ↦ let is : raised_to_level level c k w ≡ max w (level + 1) = before.1 in omega arith
  | inr behind ↦ let is : raised_to_level level c k w ≡ max w level = behind.1 in omega arith
]

-- what is grown is raised to the greatest level that needs no more than there is
pub raised_greatest : (place : ℕ → ℕ) (widths : List ℕ) (total : ℕ) (sizes : List ℕ) (level : ℕ) → IsOfForm (grown_to_level place widths) total sizes → IsGreatestLevel widths total level
    → (c : ℕ) × (sizes ≡ grown_to_level place widths level c)
raised_greatest place widths total sizes level form is_greatest =
    let n : ℕ = length widths in
    let formed : ℕ → ℕ = λ (i : ℕ). raised_to_level form.number form.column (place i) (get_or widths i 0) in
    let raised : ℕ → ℕ → ℕ = λ (t : ℕ) (i : ℕ). max (get_or widths i 0) t in
    let sizes_are : sizes ≡ map formed (range_with_len 0 n) = form.formed in
    let sizes_sum : sum (map formed (range_with_len 0 n)) ≡ total = sym (ap sum sizes_are) ∙ form.sums in
    let within : sum (map (raised level) (range_with_len 0 n)) ≤ total = is_greatest.within in
    elim (cases_order form.number level) [
      | inl same ↦ let P : ℕ → Type 0 = λ (t : ℕ). sizes ≡ grown_to_level place widths t form.column in (form.column, subst P same form.formed)
      | inr apart ↦ elim apart [
        | inl lower ↦
            let le : (i : ℕ) → i < n → formed i ≤ raised level i = λ i below. below-level form.number form.column (place i) (get_or widths i 0) level lower in
            let sums : sum (map formed (range_with_len 0 n)) ≤ sum (map (raised level) (range_with_len 0 n)) = map-le formed (raised level) n le in
            let lists : map formed (range_with_len 0 n) ≡ map (raised level) (range_with_len 0 n) = map-same formed (raised level) n le (omega arith) in (
              0,
              sizes_are ∙ lists ∙ map-equal (raised level) (λ (i : ℕ). raised_to_level level 0 (place i) (get_or widths i 0)) n
                  (λ i below. sym (behind-is level 0 (place i) (get_or widths i 0) (omega arith))),
            )
        | inr higher ↦
            let le : sum (map (raised form.number) (range_with_len 0 n)) ≤ sum (map formed (range_with_len 0 n)) = map-le (raised form.number) formed n (λ i below. at-least_level form.number form.column (place i) (get_or widths i 0)) in
            let not_higher : form.number ≤ level = is_greatest.greatest_one form.number (omega arith) in
            absurd (omega arith)
      ]
    ]

-- ---- no list of the same sum has a greater least width

missing : (level c k w s fewest other : ℕ) → s ≡ raised_to_level level c k w → w ≤ other → fewest ≤ other → s < fewest → (level < fewest) × (s < other)
missing level c k w s fewest other s_is low bound miss = elim (cases-of level c k w) [
  | inl before ↦ let is : raised_to_level level c k w ≡ max w (level + 1) = before.1 in (omega arith, omega arith)
  | inr behind ↦ let is : raised_to_level level c k w ≡ max w level = behind.1 in (omega arith, omega arith)
]

pub raised_optimal : (place : ℕ → ℕ) (widths : List ℕ) (total : ℕ) (sizes others : List ℕ) (fewest : ℕ) → IsOfForm (grown_to_level place widths) total sizes → CouldBeGrown widths sizes others
    → AreAtLeast others fewest → AreAtLeast sizes fewest
raised_optimal place widths total sizes others fewest form could bound = λ i below.
    let n : ℕ = length widths in
    let formed : ℕ → ℕ = λ (j : ℕ). raised_to_level form.number form.column (place j) (get_or widths j 0) in
    let sizes_are : sizes ≡ map formed (range_with_len 0 n) = form.formed in
    let sizes_length : length sizes ≡ n = ap length sizes_are ∙ length-map-range_with_len formed 0 n in
    let others_length : length others ≡ n = could.size in
    let at : (j : ℕ) → j < n → get_or sizes j 0 ≡ formed j = λ j inside. ap (λ (xs : List ℕ). get_or xs j 0) sizes_are ∙ at_column formed n j inside in
    elim (cases_lt (get_or sizes i 0) fewest) [
      | inl miss ↦
          let inside : i < n = omega arith in
          let low : (form.number < fewest) × (get_or sizes i 0 < get_or others i 0) =
          missing form.number form.column (place i) (get_or widths i 0) (get_or sizes i 0) fewest (get_or others i 0) (at i inside) (could.above i inside) (bound i (omega arith)) miss in
          let strict : get_or sizes i 0 < get_or others i 0 = low.1 in
          let le : (j : ℕ) → j < length sizes → get_or sizes j 0 ≤ get_or others j 0 = λ j j_below.
          let j_inside : j < n = omega arith in
          let is : get_or sizes j 0 ≡ formed j = at j j_inside in
          let above : get_or widths j 0 ≤ get_or others j 0 = could.above j j_inside in
          let other : fewest ≤ get_or others j 0 = bound j (omega arith) in
          let raised : formed j ≤ max (get_or widths j 0) fewest = below-level form.number form.column (place j) (get_or widths j 0) fewest low.0 in
          omega arith in
          let same : sizes ≡ others = sum-same sizes others (sizes_length ∙ sym others_length) le (sym could.sums) in
          let equal : get_or sizes i 0 ≡ get_or others i 0 = ap (λ (xs : List ℕ). get_or xs i 0) same in
          absurd (omega arith)
      | inr within ↦ within
    ]

pub narrowest_optimal : (right : Bool) (by : ℕ) (widths sizes others : List ℕ) (fewest : ℕ) → AreAtLeast widths 1 → IsGrownByNarrowest right by widths sizes → CouldBeGrown widths sizes others
    → AreAtLeast others fewest → AreAtLeast sizes fewest
narrowest_optimal right by widths sizes others fewest positive grown could bound = elim (cases_lt 0 (length widths)) [
  | inl some ↦ raised_optimal (from_side right (length widths)) widths (sum widths + by) sizes others fewest (grown.raised some (λ i below. let one : 1 ≤ get_or widths i 0 = positive i below in omega arith)) could bound
  | inr empty ↦ let same : sizes ≡ widths = grown.nothing (inl (omega arith)) in let size : length sizes ≡ length widths = ap length same in λ i below. absurd (omega arith)
]
