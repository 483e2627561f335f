-- Lists that are shrunk to a level: each width is cut to it, but not below its floor.
use Rattle.std.proofs.Common.{◌≡◌, ℕ, ◌+◌, ◌-◌, ◌<◌, ◌≤◌, List, length, map, get_or, set, sum, min, max, refl, sym, ◌∙◌, ap, subst, arith, ◌≢◌, inl, inr, Bool}
use Rattle.std.specs.Prelude.{◌⊎◌}
use Rattle.std.specs.List.{range_with_len}
use Rattle.std.proofs.lemmas.Bool.{cases_lt, cases_order}
use Rattle.std.proofs.lemmas.Bool.Decides.{nat_tests}
use Rattle.std.proofs.lemmas.List.Sums.{get_or-le-sum_by}
use Rattle.std.proofs.lemmas.List.FromFn.{length-map-range_with_len}
use Rattle.tabled_size_priority.specs.LevelRules.Columns.{from_side}
use Rattle.tabled_size_priority.specs.Shrinking.{IsOfForm, size_at_level, shrunk_to_level, shrunk_sum, IsShrunkByWidest}
use Rattle.tabled_size_priority.specs.Peaking.{IsFirstAbove, Widest}
use Rattle.tabled_size_priority.specs.Peaks.{widest_peaks}
use Rattle.tabled_size_priority.specs.Running.{IsShrunkBy}
use Rattle.tabled_size_priority.specs.Levels.{AreAtMost, CouldBeShrunk, IsLeastLevel}
use Rattle.tabled_size_priority.specs.Laws.Forms.{one_of_form}
use Rattle.tabled_size_priority.specs.Laws.Lists.{from_columns, set_cases, at_column, sum-same, map-same, map-le, map-equal}
use Rattle.tabled_size_priority.specs.Laws.Naming.{names-none}
use Rattle.tabled_size_priority.specs.Laws.Places.{IsPlacing, side-placing}
use Rattle.tabled_size_priority.specs.Laws.Runs.{KeepsShrinking, IsShrunkWell, shrunk_well}

-- ---- the form at one column

before-is : (level c place width least : ℕ) → place < c → size_at_level level c place width least ≡ max (min width least) (min width (level - 1))
before-is level c place width least h = grind (arith, nat_tests)

behind-is : (level c place width least : ℕ) → c ≤ place → size_at_level level c place width least ≡ max (min width least) (min width level)
behind-is level c place width least h = grind (arith, nat_tests)

pub record ToLevel (place : ℕ → ℕ) (least widths sizes : List ℕ) : Type 0 where
  pub level : ℕ
  pub c : ℕ
  pub formed : (i : ℕ) → i < length widths → get_or sizes i 0 ≡ size_at_level level c (place i) (get_or widths i 0) (get_or least i 0)

-- what the widest column above its least is cut to
next-here : (level c q v w l : ℕ) → v ≡ size_at_level level c q w l → l < v → v - 1 ≡ size_at_level v (q + 1) q w l
next-here level c q v w l v_is above =
    let new : size_at_level v (q + 1) q w l ≡ max (min w l) (min w (v - 1)) = before-is v (q + 1) q w l (omega arith) in
    elim (cases_lt q c) [
      | inl before ↦ let was : size_at_level level c q w l ≡ max (min w l) (min w (level - 1)) = before-is level c q w l before in omega arith
      | inr behind ↦ let was : size_at_level level c q w l ≡ max (min w l) (min w level) = behind-is level c q w l behind in omega arith
    ]

-- another column stays at what it was cut to
next-early : (level c q v k w l s : ℕ) → k < q → ((k < c) × (s ≡ max (min w l) (min w (level - 1)))) ⊎ ((c ≤ k) × (s ≡ max (min w l) (min w level))) → ((q < c) × (v ≤ level - 1)) ⊎ (c ≤ q)
    → (s ≤ l) ⊎ ((s < v) ⊎ ((s ≡ v) × (q ≤ k))) → v ≤ level → s ≡ max (min w l) (min w (v - 1))
next-early level c q v k w l s early s_cases q_cases s_widest v_level = grind arith

next-late : (level c q v k w l s : ℕ) → q < k → ((k < c) × (s ≡ max (min w l) (min w (level - 1)))) ⊎ ((c ≤ k) × (s ≡ max (min w l) (min w level))) → ((q < c) × (v ≤ level - 1)) ⊎ (c ≤ q)
    → (s ≤ l) ⊎ ((s < v) ⊎ ((s ≡ v) × (q ≤ k))) → v ≤ level → s ≡ max (min w l) (min w v)
next-late level c q v k w l s late s_cases q_cases s_widest v_level = grind arith

next-other : (level c q v wp lp k w l s : ℕ) → s ≡ size_at_level level c k w l → v ≡ size_at_level level c q wp lp → lp < v
    → (l < s → (s ≤ v) × (v ≡ s → q ≤ k)) → k ≢ q → s ≡ size_at_level v (q + 1) k w l
next-other level c q v wp lp k w l s s_is v_is above widest other =
    let v_bound : (v ≤ level) × (q < c → v ≤ level - 1) = elim (cases_lt q c) [
      | inl before ↦ let was : size_at_level level c q wp lp ≡ max (min wp lp) (min wp (level - 1)) = before-is level c q wp lp before in (omega arith, λ _. omega arith)
      | inr behind ↦ let was : size_at_level level c q wp lp ≡ max (min wp lp) (min wp level) = behind-is level c q wp lp behind in (omega arith, λ early. omega arith)
    ] in
    let v_level : v ≤ level = v_bound.0 in
    let s_cases : ((k < c) × (s ≡ max (min w l) (min w (level - 1)))) ⊎ ((c ≤ k) × (s ≡ max (min w l) (min w level))) = elim (cases_lt k c) [
      | inl before ↦ inl (before, s_is ∙ before-is level c k w l before)
      | inr behind ↦ inr (behind, s_is ∙ behind-is level c k w l behind)
    ] in
    let q_cases : ((q < c) × (v ≤ level - 1)) ⊎ (c ≤ q) = elim (cases_lt q c) [ inl before ↦ inl (before, v_bound.1 before) | inr behind ↦ inr behind ] in
    let s_widest : (s ≤ l) ⊎ ((s < v) ⊎ ((s ≡ v) × (q ≤ k))) = elim (cases_lt l s) [
      | inl high ↦
          let facts : (s ≤ v) × (v ≡ s → q ≤ k) = widest high in
          let le : s ≤ v = facts.0 in
          inr (elim (cases_lt s v) [ inl less ↦ inl less | inr not_less ↦ let tie : v ≡ s = omega arith in inr (sym tie, facts.1 tie) ])
      | inr low ↦ inl low
    ] in
    elim (cases_order k q) [
      | inl same ↦ absurd (other same)
      | inr apart ↦ elim apart [
        | inl early ↦ next-early level c q v k w l s early s_cases q_cases s_widest v_level ∙ sym (before-is v (q + 1) k w l (omega arith))
        | inr late ↦ next-late level c q v k w l s late s_cases q_cases s_widest v_level ∙ sym (behind-is v (q + 1) k w l (omega arith))
      ]
    ]

-- the widest column above its least gives one
pub level-step : (place : ℕ → ℕ) (least widths sizes : List ℕ) (column : ℕ) → IsPlacing place (length widths) → length sizes ≡ length widths → ToLevel place least widths sizes
    → column < length sizes → get_or least column 0 < get_or sizes column 0
    → ((i : ℕ) → i < length widths → get_or least i 0 < get_or sizes i 0 → (get_or sizes i 0 ≤ get_or sizes column 0) × (get_or sizes column 0 ≡ get_or sizes i 0 → place column ≤ place i))
    → ToLevel place least widths (set sizes column (get_or sizes column 0 - 1))
level-step place least widths sizes column placing size cut inside above widest =
    let column_inside : column < length widths = omega arith in
    let here : get_or sizes column 0 ≡ size_at_level cut.level cut.c (place column) (get_or widths column 0) (get_or least column 0) = cut.formed column column_inside in
    let New : ℕ → ℕ → Type 0 = λ (i : ℕ) (v : ℕ). i < length widths → v ≡ size_at_level (get_or sizes column 0) (place column + 1) (place i) (get_or widths i 0) (get_or least i 0) in
    record {
      level = get_or sizes column 0;
      c = place column + 1;
      formed = set_cases New sizes column (get_or sizes column 0 - 1) inside
          (λ below. next-here cut.level cut.c (place column) (get_or sizes column 0) (get_or widths column 0) (get_or least column 0) here above)
          (λ i other below. next-other cut.level cut.c (place column) (get_or sizes column 0) (get_or widths column 0) (get_or least column 0) (place i) (get_or widths i 0) (get_or least i 0) (get_or sizes i 0)
          (cut.formed i below) here above (widest i below) (λ same. other (placing i column below column_inside same)));
    }

pub level-start : (place : ℕ → ℕ) (least widths : List ℕ) → ToLevel place least widths widths
level-start place least widths = record {
  level = sum widths;
  c = 0;
  formed = λ i below.
      let most : get_or widths i 0 ≤ sum widths = get_or-le-sum_by (λ (x : ℕ). x) widths i 0 below in
      let is : size_at_level (sum widths) 0 (place i) (get_or widths i 0) (get_or least i 0) ≡ max (min (get_or widths i 0) (get_or least i 0)) (min (get_or widths i 0) (sum widths)) = behind-is (sum widths) 0 (place i) (get_or widths i 0) (get_or least i 0) (omega arith) in
      omega arith;
}

pub level-form : (place : ℕ → ℕ) (least widths sizes : List ℕ) (total : ℕ) → length sizes ≡ length widths → ToLevel place least widths sizes → sum sizes ≡ total → IsOfForm (shrunk_to_level place least widths) total sizes
level-form place least widths sizes total size cut sums =
    let form : ℕ → ℕ = λ (i : ℕ). size_at_level cut.level cut.c (place i) (get_or widths i 0) (get_or least i 0) in
    record { number = cut.level; column = cut.c; formed = from_columns form (length widths) sizes size cut.formed; sums = sums }

keeps-level : (right : Bool) (least widths : List ℕ) → KeepsShrinking widest_peaks least widths (λ side sizes. (side ≡ right) × ToLevel (from_side right (length widths)) least widths sizes)
keeps-level right least widths = record {
  above = λ before sizes column after answer inside. let named = answer.0 in named.above;
  step = λ before sizes column after size kept answer inside.
      let P : Bool → Type 0 = λ (side : Bool). IsFirstAbove (Widest (from_side side (length sizes)) sizes) least sizes (length sizes) column in
      let Q : ℕ → Type 0 = λ (n : ℕ). IsFirstAbove (Widest (from_side right n) sizes) least sizes n column in
      let named : IsFirstAbove (Widest (from_side right (length widths)) sizes) least sizes (length widths) column = subst Q size (subst P kept.0 answer.0) in
      (answer.1 ∙ kept.0, level-step (from_side right (length widths)) least widths sizes column (side-placing right (length widths)) size kept.1 inside named.above named.first);
  none = λ before sizes answer after size answered nowhere. names-none _ least sizes answer answered.0 nowhere;
}

pub widest_shrunk : (right : Bool) (least : List ℕ) (by : ℕ) (widths : List ℕ) (after : Bool) (sizes : List ℕ)
    → IsShrunkBy widest_peaks right least by widths after sizes → IsShrunkByWidest right least by widths sizes × (after ≡ right)
widest_shrunk right least by widths after sizes run =
    let place : ℕ → ℕ = from_side right (length widths) in
    let well : IsShrunkWell least widths by (λ (side : Bool) (found : List ℕ). (side ≡ right) × ToLevel place least widths found) after sizes =
    shrunk_well widest_peaks (λ side found. (side ≡ right) × ToLevel place least widths found) right least by widths after sizes (keeps-level right least widths) (refl, level-start place least widths) run in
    (level-form place least widths sizes (shrunk_sum least widths by) well.size well.kept.1 well.sums, well.kept.0)

-- ---- one list

chained : (w l k a c b d x y : ℕ) → (a < b) ⊎ ((a ≡ b) × (d ≤ c)) → ((k < c) × (x ≡ max (min w l) (min w (a - 1)))) ⊎ ((c ≤ k) × (x ≡ max (min w l) (min w a)))
    → ((k < d) × (y ≡ max (min w l) (min w (b - 1)))) ⊎ ((d ≤ k) × (y ≡ max (min w l) (min w b))) → x ≤ y
chained w l k a c b d x y later a_cases b_cases = grind arith

level-chain : (w l k a c b d : ℕ) → (a < b) ⊎ ((a ≡ b) × (d ≤ c)) → size_at_level a c k w l ≤ size_at_level b d k w l
level-chain w l k a c b d later =
    let a_cases : ((k < c) × (size_at_level a c k w l ≡ max (min w l) (min w (a - 1)))) ⊎ ((c ≤ k) × (size_at_level a c k w l ≡ max (min w l) (min w a))) = elim (cases_lt k c) [
      | inl before ↦ inl (before, before-is a c k w l before)
      | inr behind ↦ inr (behind, behind-is a c k w l behind)
    ] in
    let b_cases : ((k < d) × (size_at_level b d k w l ≡ max (min w l) (min w (b - 1)))) ⊎ ((d ≤ k) × (size_at_level b d k w l ≡ max (min w l) (min w b))) = elim (cases_lt k d) [
      | inl before ↦ inl (before, before-is b d k w l before)
      | inr behind ↦ inr (behind, behind-is b d k w l behind)
    ] in
    chained w l k a c b d (size_at_level a c k w l) (size_at_level b d k w l) later a_cases b_cases

-- sizes of this form with one sum are one list
pub level_one : (place : ℕ → ℕ) (least widths : List ℕ) (total : ℕ) (xs ys : List ℕ) → IsOfForm (shrunk_to_level place least widths) total xs → IsOfForm (shrunk_to_level place least widths) total ys → xs ≡ ys
level_one place least widths total xs ys one two =
    let at : ℕ → ℕ → ℕ → ℕ = λ (a : ℕ) (c : ℕ) (i : ℕ). size_at_level a c (place i) (get_or widths i 0) (get_or least i 0) in
    one_of_form (shrunk_to_level place least widths) at (length widths) (λ a c. refl) total
    (λ a c b d. elim (cases_order a b) [
      | inl same ↦ elim (cases_lt c d) [
        | inl less ↦ inr (λ i below. level-chain (get_or widths i 0) (get_or least i 0) (place i) b d a c (inr (sym same, omega arith)))
        | inr more ↦ inl (λ i below. level-chain (get_or widths i 0) (get_or least i 0) (place i) a c b d (inr (same, more)))
      ]
      | inr apart ↦ elim apart [
        | inl less ↦ inl (λ i below. level-chain (get_or widths i 0) (get_or least i 0) (place i) a c b d (inl less))
        | inr more ↦ inr (λ i below. level-chain (get_or widths i 0) (get_or least i 0) (place i) b d a c (inl more))
      ]
    ])
    xs ys one two

-- ---- the least level

at-least_level : (level c k w l t : ℕ) → t < level → max (min w l) (min w t) ≤ size_at_level level c k w l
at-least_level level c k w l t higher = elim (cases_lt k c) [
  | inl before ↦ let is : size_at_level level c k w l ≡ max (min w l) (min w (level - 1)) = before-is level c k w l before in omega arith
  | inr behind ↦ let is : size_at_level level c k w l ≡ max (min w l) (min w level) = behind-is level c k w l behind in omega arith
]

below-level : (level c k w l : ℕ) → size_at_level level c k w l ≤ max (min w l) (min w level)
below-level level c k w l = elim (cases_lt k c) [
  | inl before ↦ let is : size_at_level level c k w l ≡ max (min w l) (min w (level - 1)) = before-is level c k w l before in omega arith
  | inr behind ↦ let is : size_at_level level c k w l ≡ max (min w l) (min w level) = behind-is level c k w l behind in omega arith
]

-- what is shrunk is cut to the least level at which enough is left
pub level_least : (place : ℕ → ℕ) (least widths : List ℕ) (total : ℕ) (sizes : List ℕ) (level : ℕ) → IsOfForm (shrunk_to_level place least widths) total sizes → IsLeastLevel least widths total level
    → (c : ℕ) × (sizes ≡ shrunk_to_level place least widths level c)
level_least place least widths total sizes level form is_least =
    let n : ℕ = length widths in
    let formed : ℕ → ℕ = λ (i : ℕ). size_at_level form.number form.column (place i) (get_or widths i 0) (get_or least i 0) in
    let cut : ℕ → ℕ → ℕ = λ (t : ℕ) (i : ℕ). max (min (get_or widths i 0) (get_or least i 0)) (min (get_or widths i 0) t) in
    let sizes_are : sizes ≡ map formed (range_with_len 0 n) = form.formed in
    let sizes_sum : sum (map formed (range_with_len 0 n)) ≡ total = sym (ap sum sizes_are) ∙ form.sums in
    let enough : total ≤ sum (map (cut level) (range_with_len 0 n)) = is_least.enough in
    elim (cases_order form.number level) [
      | inl same ↦ let P : ℕ → Type 0 = λ (t : ℕ). sizes ≡ shrunk_to_level place least widths t form.column in (form.column, subst P same form.formed)
      | inr apart ↦ elim apart [
        | inl lower ↦
            let le : sum (map formed (range_with_len 0 n)) ≤ sum (map (cut form.number) (range_with_len 0 n)) = map-le formed (cut form.number) n (λ i below. below-level form.number form.column (place i) (get_or widths i 0) (get_or least i 0)) in
            let not_lower : level ≤ form.number = is_least.least_one form.number (omega arith) in
            absurd (omega arith)
        | inr higher ↦
            let le : (i : ℕ) → i < n → cut level i ≤ formed i = λ i below. at-least_level form.number form.column (place i) (get_or widths i 0) (get_or least i 0) level higher in
            let sums : sum (map (cut level) (range_with_len 0 n)) ≤ sum (map formed (range_with_len 0 n)) = map-le (cut level) formed n le in
            let lists : map (cut level) (range_with_len 0 n) ≡ map formed (range_with_len 0 n) = map-same (cut level) formed n le (omega arith) in (
              0,
              sizes_are ∙ sym lists ∙ map-equal (cut level) (λ (i : ℕ). size_at_level level 0 (place i) (get_or widths i 0) (get_or least i 0)) n
                  (λ i below. sym (behind-is level 0 (place i) (get_or widths i 0) (get_or least i 0) (omega arith))),
            )
      ]
    ]

-- ---- no list of the same sum has a smaller greatest width

-- a width that passes a bound was cut to a level above the bound, and so were all
passing : (level c k w l s most other : ℕ) → s ≡ size_at_level level c k w l → min w l ≤ other → other ≤ w → other ≤ most → most < s → (most < level) × (other < s)
passing level c k w l s most other s_is low high bound pass = elim (cases_lt k c) [
  | inl before ↦ let is : size_at_level level c k w l ≡ max (min w l) (min w (level - 1)) = before-is level c k w l before in (omega arith, omega arith)
  | inr behind ↦ let is : size_at_level level c k w l ≡ max (min w l) (min w level) = behind-is level c k w l behind in (omega arith, omega arith)
]

below-cut : (level c k w l most other : ℕ) → most < level → other ≤ w → other ≤ most → other ≤ size_at_level level c k w l
below-cut level c k w l most other higher high bound = let cut : max (min w l) (min w most) ≤ size_at_level level c k w l = at-least_level level c k w l most higher in omega arith

pub level_optimal : (place : ℕ → ℕ) (least widths : List ℕ) (total : ℕ) (sizes others : List ℕ) (most : ℕ) → IsOfForm (shrunk_to_level place least widths) total sizes → CouldBeShrunk least widths sizes others
    → AreAtMost others most → AreAtMost sizes most
level_optimal place least widths total sizes others most form could bound = λ i below.
    let n : ℕ = length widths in
    let formed : ℕ → ℕ = λ (j : ℕ). size_at_level form.number form.column (place j) (get_or widths j 0) (get_or least j 0) in
    let sizes_are : sizes ≡ map formed (range_with_len 0 n) = form.formed in
    let sizes_length : length sizes ≡ n = ap length sizes_are ∙ length-map-range_with_len formed 0 n in
    let others_length : length others ≡ n = could.size in
    let at : (j : ℕ) → j < n → get_or sizes j 0 ≡ formed j = λ j inside. ap (λ (xs : List ℕ). get_or xs j 0) sizes_are ∙ at_column formed n j inside in
    elim (cases_lt most (get_or sizes i 0)) [
      | inl pass ↦
          let inside : i < n = omega arith in
          let between_i : (min (get_or widths i 0) (get_or least i 0) ≤ get_or others i 0) × (get_or others i 0 ≤ get_or widths i 0) = could.between i inside in
          let high : (most < form.number) × (get_or others i 0 < get_or sizes i 0) =
          passing form.number form.column (place i) (get_or widths i 0) (get_or least i 0) (get_or sizes i 0) most (get_or others i 0) (at i inside) between_i.0 between_i.1 (bound i (omega arith)) pass in
          let strict : get_or others i 0 < get_or sizes i 0 = high.1 in
          let le : (j : ℕ) → j < length others → get_or others j 0 ≤ get_or sizes j 0 = λ j j_below.
          let j_inside : j < n = omega arith in
          let between : (min (get_or widths j 0) (get_or least j 0) ≤ get_or others j 0) × (get_or others j 0 ≤ get_or widths j 0) = could.between j j_inside in
          let is : get_or sizes j 0 ≡ formed j = at j j_inside in
          let cut : get_or others j 0 ≤ formed j = below-cut form.number form.column (place j) (get_or widths j 0) (get_or least j 0) most (get_or others j 0) high.0 between.1 (bound j j_below) in
          omega arith in
          let same : others ≡ sizes = sum-same others sizes (others_length ∙ sym sizes_length) le could.sums in
          let equal : get_or others i 0 ≡ get_or sizes i 0 = ap (λ (xs : List ℕ). get_or xs i 0) same in
          absurd (omega arith)
      | inr within ↦ within
    ]
