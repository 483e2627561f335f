-- Values drawn onto lines: a row and a column, member by member.
use Rattle.std.proofs.Common.{◌≡◌, ℕ, zero, suc, ◌+◌, ◌-◌, ◌*◌, ◌/◌, ◌%◌, ◌<◌, ◌≤◌, Bool, true, false, cond, List, [], ◌∷◌, ◌++◌, drop, get_or, length, refl, ap, sym, ◌∙◌, arith, rules, append_assoc, inl, inr}
use Rattle.std.specs.Prelude.{nat_lt, String, string_bytes}
use Rattle.std.specs.declared.alloc.Global.{Global}
use Rattle.std.proofs.lemmas.Bool.{cases_lt, cases_eq, lt-ltb, le-ltb, eq-eqb, ne_eqb}
use Rattle.std.proofs.lemmas.List.{append_cancel_left, drop_all}
use Rattle.std.proofs.lemmas.Nat.{div-add-mod', mod_below}
use Rattle.grid_config.specs.Looks.{Look}
use Rattle.tabled_size.specs.declared.dimension.priority.DimensionPriority.{DimensionPriority}
use Rattle.tabled_size.specs.declared.dimension.priority.DimensionPriority.TheVariants.{First, Last, List as Each}
use Rattle.tabled_size.specs.Dimension.Takers.{Takers}
use Rattle.tabled_pool.specs.declared.boxes.size.Size.{Size}
use Rattle.tabled_pool.specs.declared.boxes.value.TableValue.{TableValue, Cell, the_lemmas}
use Rattle.tabled_pool.specs.Boxes.Boxes.{box_of, boxes_of, column_from, column_height, from_line, gap, gaps, has_horizontal, horizontal_before, row_from, upright_before}
use Rattle.tabled_pool.specs.Boxes.Canvas.{Adds, BeginWith}
use Rattle.tabled_pool.specs.Boxes.Sizes.{size_of, sizes_of}
use Rattle.tabled_pool.specs.Boxes.Shares.{share}
use Rattle.tabled_pool.specs.Boxes.Values.{Nesting, Text, Beside, Stacked, nesting_of, nestings_of}
use Rattle.tabled_pool.proofs.BoxesLemmas.Adding.{Leads, Line, Lines, adds-as, from-append, from-from, leads-end, leads-more, nothing}
use Rattle.tabled_pool.proofs.BoxesLemmas.Sizes.{all_sizes, box, heights, heights-cons, highest_box, lengths, step, widest_box, widths, widths-cons}

-- ---- a row

module _ (look : Look) (takers : Takers) (n beyond height : ℕ) where
  abbrev pub row_left : ℕ → List TableValue → ℕ → Line
  row_left i values y = row_from look takers n beyond height y i (boxes_of look (nestings_of values))

  module _ (values : List TableValue) (i : ℕ) (value : TableValue) (inside : i < length values) (is : value ≡ get_or values i value) where
    abbrev pub member_line : ℕ → Line
    member_line y = (box look value).line takers ((box look value).width + share takers.width beyond n i) height y

    row_more : (y : ℕ) → row_left i (drop i values) y ≡ upright_before look i height y ++ (member_line y ++ row_left (i + 1) (drop (i + 1) values) y)
    row_more y = step values i value inside is (λ vs. row_left i vs y)

    row_parted : (top k : ℕ) → from_line top (row_left i (drop i values)) k
        ≡ from_line top (upright_before look i height) k ++ (from_line top member_line k ++ from_line top (row_left (i + 1) (drop (i + 1) values)) k)
    row_parted top k =
        ap (λ l. cond (nat_lt k top) [] l) (row_more (k - top))
        ∙ (from-append top (upright_before look i height) (λ y. member_line y ++ row_left (i + 1) (drop (i + 1) values) y) k
        ∙ ap (λ l. from_line top (upright_before look i height) k ++ l) (from-append top member_line (row_left (i + 1) (drop (i + 1) values)) k))

    pub row_step : (top : ℕ) (start : Lines) (all : ℕ → Line) (now mid next : Lines) → Leads start all now (from_line top (row_left i (drop i values)))
        → Adds now mid (from_line top (upright_before look i height)) → Adds mid next (from_line top member_line)
        → Leads start all next (from_line top (row_left (i + 1) (drop (i + 1) values)))
    row_step top start all now mid next leads first second =
        leads-more start all mid next (λ k. from_line top member_line k ++ from_line top (row_left (i + 1) (drop (i + 1) values)) k) (from_line top member_line) (from_line top (row_left (i + 1) (drop (i + 1) values)))
        (leads-more start all now mid (from_line top (row_left i (drop i values))) (from_line top (upright_before look i height))
        (λ k. from_line top member_line k ++ from_line top (row_left (i + 1) (drop (i + 1) values)) k) leads first (row_parted top))
        second (λ k. refl)

-- ---- a column

module _ (look : Look) (takers : Takers) (n beyond width : ℕ) where
  abbrev pub column_left : ℕ → ℕ → List TableValue → ℕ → Line
  column_left i top values y = column_from look takers n beyond width y i top (boxes_of look (nestings_of values))

  module _ (values : List TableValue) (i : ℕ) (value : TableValue) (inside : i < length values) (is : value ≡ get_or values i value) (top : ℕ) where
    abbrev pub below : ℕ
    below = top + gap (has_horizontal look) i

    abbrev pub given : ℕ
    given = (box look value).height + share takers.height beyond n i

    abbrev pub stacked_line : ℕ → Line
    stacked_line y = (box look value).line takers width given y

    abbrev rest : ℕ → Line
    rest y = column_left (i + 1) (below + given) (drop (i + 1) values) y

    column_more : (y : ℕ) → column_left i top (drop i values) y ≡ from_line top (horizontal_before look i width) y ++ (from_line below stacked_line y ++ rest y)
    column_more y = step values i value inside is (λ vs. column_left i top vs y)

    column_parted : (base k : ℕ) → from_line base (column_left i top (drop i values)) k
        ≡ from_line (base + top) (horizontal_before look i width) k ++ (from_line (base + below) stacked_line k ++ from_line base rest k)
    column_parted base k =
        ap (λ l. cond (nat_lt k base) [] l) (column_more (k - base))
        ∙ (from-append base (from_line top (horizontal_before look i width)) (λ y. from_line below stacked_line y ++ rest y) k
        ∙ (ap (λ l. from_line base (from_line top (horizontal_before look i width)) k ++ l) (from-append base (from_line below stacked_line) rest k)
        ∙ (ap (λ l. l ++ (from_line base (from_line below stacked_line) k ++ from_line base rest k)) (from-from base top (horizontal_before look i width) k)
        ∙ ap (λ l. from_line (base + top) (horizontal_before look i width) k ++ (l ++ from_line base rest k)) (from-from base below stacked_line k))))

    pub column_step : (base : ℕ) (start : Lines) (all : ℕ → Line) (now mid next : Lines) → Leads start all now (from_line base (column_left i top (drop i values)))
        → Adds now mid (from_line (base + top) (horizontal_before look i width)) → Adds mid next (from_line (base + below) stacked_line)
        → Leads start all next (from_line base (column_left (i + 1) (below + given) (drop (i + 1) values)))
    column_step base start all now mid next leads first second =
        leads-more start all mid next (λ k. from_line (base + below) stacked_line k ++ from_line base rest k) (from_line (base + below) stacked_line) (from_line base rest)
        (leads-more start all now mid (from_line base (column_left i top (drop i values))) (from_line (base + top) (horizontal_before look i width))
        (λ k. from_line (base + below) stacked_line k ++ from_line base rest k) leads first (column_parted base))
        second (λ k. refl)

-- ---- who takes what is left over

-- what k members from member i on take
abbrev pub shares_from : DimensionPriority → ℕ → ℕ → ℕ → ℕ → ℕ
shares_from taker beyond n i zero = 0
shares_from taker beyond n i (suc k) = share taker beyond n i + shares_from taker beyond n (i + 1) k

module _ (beyond n : ℕ) where
  behind-first : (i k : ℕ) → 0 < i → shares_from First beyond n i k ≡ 0
  behind-first i zero later = refl
  behind-first i (suc k) later =
      let none : share First beyond n i ≡ 0 = ap (λ t. cond t beyond 0) (ne_eqb i 0 (λ e. omega (arith, later, e))) in
      omega (arith, none, behind-first (i + 1) k (omega arith))

  to-last : (i k : ℕ) → i + suc k ≡ n → shares_from Last beyond n i (suc k) ≡ beyond
  to-last i zero ends =
      let all : share Last beyond n i ≡ beyond = ap (λ t. cond t beyond 0) (eq-eqb (i + 1) n (omega (arith, ends))) in
      omega (arith, all)
  to-last i (suc k) ends =
      let none : share Last beyond n i ≡ 0 = ap (λ t. cond t beyond 0) (ne_eqb (i + 1) n (λ e. omega (arith, ends, e))) in
      omega (arith, none, to-last (i + 1) k (omega (arith, ends)))

  each : (i k : ℕ) → i + k ≡ n → beyond % n < n → shares_from Each beyond n i k ≡ k * (beyond / n) + (beyond % n - i)
  each i zero ends small = omega (arith, ends, small)
  each i (suc k) ends small =
      let others = each (i + 1) k (omega (arith, ends)) small in
      elim (cases_lt i (beyond % n)) [
        | inl h ↦
            let one : share Each beyond n i ≡ beyond / n + 1 = ap (λ t. beyond / n + cond t 1 0) (lt-ltb i (beyond % n) h) in
            let more : suc k * (beyond / n) ≡ beyond / n + k * (beyond / n) = grind arith in
            omega (arith, one, others, more, h)
        | inr h ↦
            let one : share Each beyond n i ≡ beyond / n + 0 = ap (λ t. beyond / n + cond t 1 0) (le-ltb i (beyond % n) h) in
            let more : suc k * (beyond / n) ≡ beyond / n + k * (beyond / n) = grind arith in
            omega (arith, one, others, more, h)
      ]

-- all members take all that is left over
pub shares-all : (taker : DimensionPriority) (beyond k : ℕ) → shares_from taker beyond (suc k) 0 (suc k) ≡ beyond
shares-all First beyond k =
    let later : shares_from First beyond (suc k) 1 k ≡ 0 = behind-first beyond (suc k) 1 k (omega arith) in
    omega (arith, later)
shares-all Last beyond k = to-last beyond (suc k) 0 k (omega arith)
shares-all Each beyond k =
    let small : beyond % suc k < suc k = mod_below beyond (suc k) (omega arith) in
    let parts : beyond / suc k * suc k + beyond % suc k ≡ beyond = div-add-mod' beyond (suc k) in
    let turned : suc k * (beyond / suc k) ≡ beyond / suc k * suc k = grind arith in
    omega (arith, each beyond (suc k) 0 (suc k) (omega arith) small, parts, turned)

-- no member takes more
pub share-within : (taker : DimensionPriority) (beyond n i : ℕ) → i < n → share taker beyond n i ≤ beyond
share-within First beyond n i inside = elim (cases_eq i 0) [
  | inl e ↦ let is : share First beyond n i ≡ beyond = ap (λ t. cond t beyond 0) (eq-eqb i 0 e) in omega (arith, is)
  | inr e ↦ let is : share First beyond n i ≡ 0 = ap (λ t. cond t beyond 0) (ne_eqb i 0 e) in omega (arith, is)
]
share-within Last beyond n i inside = elim (cases_eq (i + 1) n) [
  | inl e ↦ let is : share Last beyond n i ≡ beyond = ap (λ t. cond t beyond 0) (eq-eqb (i + 1) n e) in omega (arith, is)
  | inr e ↦ let is : share Last beyond n i ≡ 0 = ap (λ t. cond t beyond 0) (ne_eqb (i + 1) n e) in omega (arith, is)
]
share-within Each beyond zero i inside = absurd (omega (arith, inside))
share-within Each beyond (suc m) i inside =
    let n = suc m in
    let parts : beyond / n * n + beyond % n ≡ beyond = div-add-mod' beyond n in
    let many : beyond / n * n ≡ beyond / n + beyond / n * m = grind arith in
    elim (cases_lt i (beyond % n)) [
      | inl h ↦ let is : share Each beyond n i ≡ beyond / n + 1 = ap (λ t. beyond / n + cond t 1 0) (lt-ltb i (beyond % n) h) in omega (arith, is, parts, many, h)
      | inr h ↦ let is : share Each beyond n i ≡ beyond / n + 0 = ap (λ t. beyond / n + cond t 1 0) (le-ltb i (beyond % n) h) in omega (arith, is, parts, many)
    ]

-- ---- the lines of a column

abbrev pub gaps_from : Bool → ℕ → ℕ → ℕ
gaps_from has i zero = 0
gaps_from has i (suc k) = gap has i + gaps_from has (i + 1) k

gaps-behind : (has : Bool) (i k : ℕ) → 0 < i → gaps_from has i k ≡ cond has k 0
gaps-behind true i zero later = refl
gaps-behind false i zero later = refl
gaps-behind true i (suc k) later =
    let one : gap true i ≡ 1 = ap (λ t. cond t 0 1) (ne_eqb i 0 (λ e. omega (arith, later, e))) in
    omega (arith, one, gaps-behind true (i + 1) k (omega arith))
gaps-behind false i (suc k) later =
    let none : gap false i ≡ 0 = ap (λ t. cond t 0 0) (ne_eqb i 0 (λ e. omega (arith, later, e))) in
    omega (arith, none, gaps-behind false (i + 1) k (omega arith))

gaps-all : (has : Bool) (k : ℕ) → gaps_from has 0 (suc k) ≡ gaps has (suc k)
gaps-all true k = let behind : gaps_from true 1 k ≡ k = gaps-behind true 1 k (omega arith) in omega (arith, behind)
gaps-all false k = let behind : gaps_from false 1 k ≡ 0 = gaps-behind false 1 k (omega arith) in omega (arith, behind)

module _ (look : Look) (takers : Takers) (n beyond : ℕ) where
  -- the lines that the values from number i on take
  abbrev pub need_from : ℕ → List TableValue → ℕ
  need_from i [] = 0
  need_from i (value ∷ values) = gap (has_horizontal look) i + ((box look value).height + share takers.height beyond n i) + need_from (i + 1) values

  need-parts : (i : ℕ) (values : List TableValue)
      → need_from i values ≡ heights look values + shares_from takers.height beyond n i (length values) + gaps_from (has_horizontal look) i (length values)
  need-parts i [] = omega arith
  need-parts i (value ∷ values) = omega (arith, need-parts (i + 1) values, heights-cons look value values)

  module _ (values : List TableValue) (i : ℕ) (value : TableValue) (inside : i < length values) (is : value ≡ get_or values i value) where
    pub need_more : need_from i (drop i values) ≡ gap (has_horizontal look) i + ((box look value).height + share takers.height beyond n i) + need_from (i + 1) (drop (i + 1) values)
    need_more = step values i value inside is (need_from i)

-- together as many as the column gets
pub need-all : (look : Look) (takers : Takers) (values : List TableValue) (height : ℕ) → 0 < length values → column_height look (boxes_of look (nestings_of values)) ≤ height
    → need_from look takers (length values) (height - column_height look (boxes_of look (nestings_of values))) 0 values ≡ height
need-all look takers [] height some room = absurd (omega (arith, some))
need-all look takers (value ∷ values) height some room =
    let all = value ∷ values in
    let own = column_height look (boxes_of look (nestings_of all)) in
    let k = length values in
    let parts = need-parts look takers (suc k) (height - own) 0 all in
    let shares = shares-all takers.height (height - own) k in
    let gaps_are = gaps-all (has_horizontal look) k in
    let long : length (boxes_of look (nestings_of all)) ≡ suc k = lengths look all in
    let own_is : own ≡ heights look all + gaps (has_horizontal look) (suc k) = ap (λ m. heights look all + gaps (has_horizontal look) m) long in
    omega (arith, parts, shares, gaps_are, own_is, room)

-- ---- sizes

pub first-size : (look : Look) (nesting : Nesting) → (more : List Size) × (sizes_of look nesting ≡ size_of (box_of look nesting) ∷ more)
first-size look (Text text) = (_, refl)
first-size look (Beside nestings) = (_, refl)
first-size look (Stacked nestings) = (_, refl)

-- a member is no larger than its row or its column
pub width-within : (look : Look) (values : List TableValue) (i : ℕ) (value : TableValue) → i < length values → value ≡ get_or values i value → (box look value).width ≤ widths look values
width-within look [] i value inside is = absurd (omega (arith, inside))
width-within look (v ∷ values) zero value inside is =
    let same : (box look value).width ≡ (box look v).width = ap (λ x. (box look x).width) is in omega (arith, same, widths-cons look v values)
width-within look (v ∷ values) (suc i) value inside is = omega (arith, widths-cons look v values, width-within look values i value (omega (arith, inside)) is)

pub height-within : (look : Look) (values : List TableValue) (i : ℕ) (value : TableValue) → i < length values → value ≡ get_or values i value → (box look value).height ≤ heights look values
height-within look [] i value inside is = absurd (omega (arith, inside))
height-within look (v ∷ values) zero value inside is =
    let same : (box look value).height ≡ (box look v).height = ap (λ x. (box look x).height) is in omega (arith, same, heights-cons look v values)
height-within look (v ∷ values) (suc i) value inside is = omega (arith, heights-cons look v values, height-within look values i value (omega (arith, inside)) is)

pub highest-within : (look : Look) (values : List TableValue) (i : ℕ) (value : TableValue) → i < length values → value ≡ get_or values i value → (box look value).height ≤ highest_box look values
highest-within look [] i value inside is = absurd (omega (arith, inside))
highest-within look (v ∷ values) zero value inside is =
    let same : (box look value).height ≡ (box look v).height = ap (λ x. (box look x).height) is in omega (arith, same)
highest-within look (v ∷ values) (suc i) value inside is = omega (arith, highest-within look values i value (omega (arith, inside)) is)

pub widest-within : (look : Look) (values : List TableValue) (i : ℕ) (value : TableValue) → i < length values → value ≡ get_or values i value → (box look value).width ≤ widest_box look values
widest-within look [] i value inside is = absurd (omega (arith, inside))
widest-within look (v ∷ values) zero value inside is =
    let same : (box look value).width ≡ (box look v).width = ap (λ x. (box look x).width) is in omega (arith, same)
widest-within look (v ∷ values) (suc i) value inside is = omega (arith, widest-within look values i value (omega (arith, inside)) is)

-- ---- all members

no-more : {Y : Type 0} (f : List TableValue → Y) (values : List TableValue) (i : ℕ) → i ≡ length values → f (drop i values) ≡ f []
no-more f values i e = ap f (drop_all i values (omega (arith, e)))

pub row_end : (look : Look) (takers : Takers) (values : List TableValue) (top width height n beyond i : ℕ) (start now : Lines) → 0 < length values → n ≡ length values → i ≡ length values
    → beyond ≡ width - (box_of look (Beside (nestings_of values))).width
    → Leads start (from_line top (row_left look takers n beyond height 0 values)) now (from_line top (row_left look takers n beyond height i (drop i values)))
    → Adds start now (from_line top ((box_of look (Beside (nestings_of values))).line takers width height))
row_end look takers [] top width height n beyond i start now some n_is i_is beyond_is leads = absurd (omega (arith, some))
row_end look takers (value ∷ values) top width height n beyond i start now some n_is i_is beyond_is leads =
    let all = value ∷ values in
    let boxes = boxes_of look (nestings_of all) in
    let long : length boxes ≡ length all = lengths look all in
    adds-as start now (from_line top (row_left look takers n beyond height 0 all)) (from_line top ((box_of look (Beside (nestings_of all))).line takers width height))
    (leads-end start (from_line top (row_left look takers n beyond height 0 all)) now (from_line top (row_left look takers n beyond height i (drop i all))) leads
    (λ k. nothing (nat_lt k top) (row_left look takers n beyond height i (drop i all) (k - top)) (no-more (λ vs. row_left look takers n beyond height i vs (k - top)) all i i_is)))
    (λ k. ap (λ m. from_line top (row_left look takers m beyond height 0 all) k) (n_is ∙ sym long)
    ∙ ap (λ b. from_line top (row_left look takers (length boxes) b height 0 all) k) beyond_is)

pub column_end : (look : Look) (takers : Takers) (values : List TableValue) (base width height n beyond i top : ℕ) (start now : Lines) → 0 < length values → n ≡ length values → i ≡ length values
    → beyond ≡ height - (box_of look (Stacked (nestings_of values))).height
    → Leads start (from_line base (column_left look takers n beyond width 0 0 values)) now (from_line base (column_left look takers n beyond width i top (drop i values)))
    → Adds start now (from_line base ((box_of look (Stacked (nestings_of values))).line takers width height))
column_end look takers [] base width height n beyond i top start now some n_is i_is beyond_is leads = absurd (omega (arith, some))
column_end look takers (value ∷ values) base width height n beyond i top start now some n_is i_is beyond_is leads =
    let all = value ∷ values in
    let boxes = boxes_of look (nestings_of all) in
    let long : length boxes ≡ length all = lengths look all in
    adds-as start now (from_line base (column_left look takers n beyond width 0 0 all)) (from_line base ((box_of look (Stacked (nestings_of all))).line takers width height))
    (leads-end start (from_line base (column_left look takers n beyond width 0 0 all)) now (from_line base (column_left look takers n beyond width i top (drop i all))) leads
    (λ k. nothing (nat_lt k base) (column_left look takers n beyond width i top (drop i all) (k - base)) (no-more (λ vs. column_left look takers n beyond width i top vs (k - base)) all i i_is)))
    (λ k. ap (λ m. from_line base (column_left look takers m beyond width 0 0 all) k) (n_is ∙ sym long)
    ∙ ap (λ b. from_line base (column_left look takers (length boxes) b width 0 0 all) k) beyond_is)

-- ---- the sizes in their order

pub begins-first : (look : Look) (nesting : Nesting) (xs : List Size) (own : Size) → BeginWith (sizes_of look nesting) xs → own ≡ get_or xs 0 own → own ≡ size_of (box_of look nesting)
begins-first look nesting xs own begins is =
    let first = first-size look nesting in
    is ∙ (ap (λ l. get_or l 0 own) begins.1 ∙ ap (λ l. get_or (l ++ begins.0) 0 own) first.1)

module _ (look : Look) (values : List TableValue) (i : ℕ) (value : TableValue) (inside : i < length values) (is : value ≡ get_or values i value) (sizes more : List Size)
    (ahead : sizes ≡ all_sizes look (drop i values) ++ more) where
  pub member-ahead : sizes ≡ sizes_of look (nesting_of value) ++ (all_sizes look (drop (i + 1) values) ++ more)
  member-ahead = ahead ∙ (ap (λ l. l ++ more) (step values i value inside is (all_sizes look)) ∙ append_assoc (sizes_of look (nesting_of value)) (all_sizes look (drop (i + 1) values)) more)

  pub member-begins : BeginWith (sizes_of look (nesting_of value)) sizes
  member-begins = (all_sizes look (drop (i + 1) values) ++ more, member-ahead)

  pub member-rest : (rest : List Size) → sizes ≡ sizes_of look (nesting_of value) ++ rest → rest ≡ all_sizes look (drop (i + 1) values) ++ more
  member-rest rest left = append_cancel_left (sizes_of look (nesting_of value)) rest (all_sizes look (drop (i + 1) values) ++ more) (sym left ∙ member-ahead)

-- what one value is
pub nesting-cell : (text : String Global) → nesting_of (Cell text) ≡ Text (string_bytes text)
nesting-cell text = search (rules, the_lemmas)
