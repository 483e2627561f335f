-- `cmp` of tables, as it is derived, goes by their parts in turn, and finds equal what is the same.
use Rattle.std.proofs.Common.{◌≡◌, ◌∙◌, Ordering, Equal, refl, ap, sym}
use Rattle.std.specs.Ordering.{ordering_then}
use Rattle.tabled_options.specs.contracts.multiline.config.CompactMultilineConfigOrd.TheImpl.{ghosts as settings}
use Rattle.tabled_options.proofs.MultilineLemmas.Equality.{compared_pass, compared_same}
use Rattle.tabled_size.specs.contracts.dimension.pool.PoolTableDimensionOrd.TheImpl.{ghosts as takers}
use Rattle.tabled_size.specs.contracts.dimension.priority.DimensionPriorityOrd.TheImpl.{ghosts as one_taker}
use Rattle.tabled_size.specs.declared.dimension.priority.DimensionPriority.{DimensionPriority}
use Rattle.tabled_size.specs.declared.dimension.priority.DimensionPriority.TheVariants.{First, Last, List as Each}
use Rattle.tabled_size.specs.Dimension.Takers.{Takers}
use Rattle.tabled_pool.specs.Boxes.Order.{compared}
use Rattle.tabled_pool.specs.Boxes.Values.{nesting_of}
use Rattle.tabled_pool.proofs.BoxesLemmas.Equality.{compared_is, value_equal, value_same}
use Rattle.tabled_pool.proofs.BoxesLemmas.SameOrder.{first_equal, second_equal}
use Rattle.tabled_pool.specs.contracts.boxes.value.TableValueOrd.TheImpl.{ghosts as values}
use Rattle.tabled_pool.specs.contracts.table.PoolTableOrd.TheImpl.{ghosts as order}
use Rattle.tabled_pool.specs.declared.table.PoolTable.{PoolTable}
use Rattle.tabled_pool.specs.Pools.{Pool, pool_of}

-- what the settings and the takers of two tables say
abbrev behind : PoolTable → PoolTable → Ordering
behind a b = ordering_then (settings.cmp a.config b.config) (takers.cmp a.dimension b.dimension)

pub table_order : (a b : PoolTable) → order.cmp a b ≡ ordering_then (compared (nesting_of a.value) (nesting_of b.value)) (behind a b)
table_order a b = ap (λ first. ordering_then first (behind a b)) (compared_is a.value b.value)

taker_same : (a b : DimensionPriority) → one_taker.cmp a b ≡ Equal → a ≡ b
taker_same First First h = refl
taker_same First Last h = cc
taker_same First Each h = cc
taker_same Last First h = cc
taker_same Last Last h = refl
taker_same Last Each h = cc
taker_same Each First h = cc
taker_same Each Last h = cc
taker_same Each Each h = refl

taker_itself : (a : DimensionPriority) → one_taker.cmp a a ≡ Equal
taker_itself First = refl
taker_itself Last = refl
taker_itself Each = refl

takers_same : (a b : Takers) → takers.cmp a b ≡ Equal → a ≡ b
takers_same a b h =
    let widths = taker_same a.width b.width (first_equal (one_taker.cmp a.width b.width) (one_taker.cmp a.height b.height) h) in
    let heights = taker_same a.height b.height (second_equal (one_taker.cmp a.width b.width) (one_taker.cmp a.height b.height) h) in
    λ i. record { width = widths i; height = heights i }

takers_itself : (a : Takers) → takers.cmp a a ≡ Equal
takers_itself a = ap (λ first. ordering_then first (one_taker.cmp a.height a.height)) (taker_itself a.width) ∙ taker_itself a.height

pub table_same : (a b : PoolTable) → order.cmp a b ≡ Equal → pool_of a ≡ pool_of b
table_same a b h =
    let nesting = value_same a.value b.value (first_equal (values.cmp a.value b.value) (behind a b) h) in
    let others = second_equal (values.cmp a.value b.value) (behind a b) h in
    let config = compared_same a.config b.config (first_equal (settings.cmp a.config b.config) (takers.cmp a.dimension b.dimension) others) in
    let dimension = takers_same a.dimension b.dimension (second_equal (settings.cmp a.config b.config) (takers.cmp a.dimension b.dimension) others) in
    λ i. record { nesting = nesting i; settings = config i; takers = dimension i }

pub table_equal : (a b : PoolTable) → pool_of a ≡ pool_of b → order.cmp a b ≡ Equal
table_equal a b h =
    let nesting = value_equal a.value b.value (ap (λ (p : Pool). p.nesting) h) in
    let config = compared_pass a.config b.config (ap (λ (p : Pool). p.settings) h) in
    let dimension = sym (ap (λ d. takers.cmp a.dimension d) (ap (λ (p : Pool). p.takers) h)) ∙ takers_itself a.dimension in
    λ i. ordering_then (nesting i) (ordering_then (config i) (dimension i))
