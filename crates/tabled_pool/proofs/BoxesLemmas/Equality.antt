-- Values are compared by what they say.
use Rattle.std.proofs.Common.{◌≡◌, ◌∙◌, sym, refl, ap, ℕ, ◌<◌, ◌+◌, List, [], ◌∷◌, Less, Greater, Equal, nat_cmp, Ordering, arith, suc, zero, max, Vec, Global}
use Rattle.std.specs.Cmp.Lexicographic.{slice_cmp}
use Rattle.std.specs.Ordering.{ordering_then}
use Rattle.std.specs.Prelude.{string_bytes}
use Rattle.tabled_pool.specs.Boxes.Values.{nesting_of, nestings_of, nesting_step}
use Rattle.tabled_pool.specs.Boxes.Order.{compared, all_compared}
use Rattle.tabled_pool.proofs.BoxesLemmas.SameOrder.{nesting_equal, nesting_same}
use Rattle.tabled_pool.specs.declared.boxes.value.TableValue.{TableValue, out-TableValue, roll-TableValue}
use Rattle.tabled_pool.specs.declared.boxes.value.TableValue.TheOpen.{TableValue-F}
use Rattle.tabled_pool.specs.declared.boxes.value.TableValue.TheBlock as block
use Rattle.tabled_pool.specs.declared.boxes.value.TableValue.TheFolds as folds
use Rattle.tabled_pool.specs.declared.boxes.value.TableValue.TheViews as views
use Rattle.tabled_pool.specs.contracts.boxes.value.TableValueOrd.TheImpl as order
use Rattle.tabled_pool.specs.contracts.boxes.value.TableValueOrd.TheImpl.Laws as laws

-- the order by one layer of each value, where the members are compared by r
abbrev layer : (TableValue → TableValue → Ordering) → TableValue-F TableValue → TableValue-F TableValue → Ordering
layer r (TableValue-F.Row x) (TableValue-F.Row y) = slice_cmp r x.items y.items
layer r (TableValue-F.Row x) (TableValue-F.Column y) = Less
layer r (TableValue-F.Row x) (TableValue-F.Cell y) = Less
layer r (TableValue-F.Column x) (TableValue-F.Row y) = Greater
layer r (TableValue-F.Column x) (TableValue-F.Column y) = slice_cmp r x.items y.items
layer r (TableValue-F.Column x) (TableValue-F.Cell y) = Less
layer r (TableValue-F.Cell x) (TableValue-F.Row y) = Greater
layer r (TableValue-F.Cell x) (TableValue-F.Column y) = Greater
layer r (TableValue-F.Cell x) (TableValue-F.Cell y) = slice_cmp nat_cmp (string_bytes x) (string_bytes y)

abbrev cmp : TableValue → TableValue → Ordering
cmp a b = (order.ghosts).cmp a b

abbrev said : TableValue → TableValue → Ordering
said a b = compared (nesting_of a) (nesting_of b)

opened : (x y : TableValue-F TableValue) → laws.unfolded (roll-TableValue x) (roll-TableValue y) ≡ layer cmp x y
opened (TableValue-F.Row x) (TableValue-F.Row y) = rw (views.out-roll-TableValue (TableValue-F.Row x), views.out-roll-TableValue (TableValue-F.Row y))
opened (TableValue-F.Row x) (TableValue-F.Column y) = rw (views.out-roll-TableValue (TableValue-F.Row x), views.out-roll-TableValue (TableValue-F.Column y))
opened (TableValue-F.Row x) (TableValue-F.Cell y) = rw (views.out-roll-TableValue (TableValue-F.Row x), views.out-roll-TableValue (TableValue-F.Cell y))
opened (TableValue-F.Column x) (TableValue-F.Row y) = rw (views.out-roll-TableValue (TableValue-F.Column x), views.out-roll-TableValue (TableValue-F.Row y))
opened (TableValue-F.Column x) (TableValue-F.Column y) = rw (views.out-roll-TableValue (TableValue-F.Column x), views.out-roll-TableValue (TableValue-F.Column y))
opened (TableValue-F.Column x) (TableValue-F.Cell y) = rw (views.out-roll-TableValue (TableValue-F.Column x), views.out-roll-TableValue (TableValue-F.Cell y))
opened (TableValue-F.Cell x) (TableValue-F.Row y) = rw (views.out-roll-TableValue (TableValue-F.Cell x), views.out-roll-TableValue (TableValue-F.Row y))
opened (TableValue-F.Cell x) (TableValue-F.Column y) = rw (views.out-roll-TableValue (TableValue-F.Cell x), views.out-roll-TableValue (TableValue-F.Column y))
opened (TableValue-F.Cell x) (TableValue-F.Cell y) = rw (views.out-roll-TableValue (TableValue-F.Cell x), views.out-roll-TableValue (TableValue-F.Cell y))

-- what is said of members is what their list says
all_said : (xs ys : List TableValue) → slice_cmp said xs ys ≡ all_compared (nestings_of xs) (nestings_of ys)
all_said [] [] = refl
all_said [] (y ∷ ys) = refl
all_said (x ∷ xs) [] = refl
all_said (x ∷ xs) (y ∷ ys) = ap (ordering_then (said x y)) (all_said xs ys)

rolled : (x : TableValue-F TableValue) → nesting_of (roll-TableValue x) ≡ nesting_step (folds.map-TableValue TableValue _ nesting_of x)
rolled x = folds.fold-roll-TableValue _ nesting_step x

said_of : (x y : TableValue-F TableValue) → layer said x y ≡ compared (nesting_step (folds.map-TableValue TableValue _ nesting_of x)) (nesting_step (folds.map-TableValue TableValue _ nesting_of y))
said_of (TableValue-F.Row x) (TableValue-F.Row y) = all_said x.items y.items
said_of (TableValue-F.Row x) (TableValue-F.Column y) = refl
said_of (TableValue-F.Row x) (TableValue-F.Cell y) = refl
said_of (TableValue-F.Column x) (TableValue-F.Row y) = refl
said_of (TableValue-F.Column x) (TableValue-F.Column y) = all_said x.items y.items
said_of (TableValue-F.Column x) (TableValue-F.Cell y) = refl
said_of (TableValue-F.Cell x) (TableValue-F.Row y) = refl
said_of (TableValue-F.Cell x) (TableValue-F.Column y) = refl
said_of (TableValue-F.Cell x) (TableValue-F.Cell y) = refl

-- how deep a layer's value is
weighed : (x : TableValue-F TableValue) → views.size-TableValue (roll-TableValue x) ≡ (block.weighs-TableValue).weight _ block.the_depth x + 1
weighed x = views.size_is-TableValue (roll-TableValue x) ∙ ap (λ y. (block.weighs-TableValue).weight _ block.the_depth y + 1) (views.out-roll-TableValue x)

inside_row : (n : ℕ) (x : Vec TableValue Global) → views.size-TableValue (roll-TableValue (TableValue-F.Row x)) < suc n → views.weight-TableValue-Row-0 x < n
inside_row n x p = let e = weighed (TableValue-F.Row x) in omega (arith, p, e)

inside_column : (n : ℕ) (x : Vec TableValue Global) → views.size-TableValue (roll-TableValue (TableValue-F.Column x)) < suc n → views.weight-TableValue-Row-0 x < n
inside_column n x p = let e = weighed (TableValue-F.Column x) in omega (arith, p, e)

-- a layer is compared by what its members say, where values less deep than n are
alike : (n : ℕ) → ((a b : TableValue) → views.size-TableValue a < n → views.size-TableValue b < n → cmp a b ≡ said a b) → (x y : TableValue-F TableValue) → views.size-TableValue (roll-TableValue x) < suc n → views.size-TableValue (roll-TableValue y) < suc n → layer cmp x y ≡ layer said x y
alike n same (TableValue-F.Row x) (TableValue-F.Row y) p q = laws.alike-TableValue-Row-0 cmp said n same x y (inside_row n x p) (inside_row n y q)
alike n same (TableValue-F.Row x) (TableValue-F.Column y) p q = refl
alike n same (TableValue-F.Row x) (TableValue-F.Cell y) p q = refl
alike n same (TableValue-F.Column x) (TableValue-F.Row y) p q = refl
alike n same (TableValue-F.Column x) (TableValue-F.Column y) p q = laws.alike-TableValue-Row-0 cmp said n same x y (inside_column n x p) (inside_column n y q)
alike n same (TableValue-F.Column x) (TableValue-F.Cell y) p q = refl
alike n same (TableValue-F.Cell x) (TableValue-F.Row y) p q = refl
alike n same (TableValue-F.Cell x) (TableValue-F.Column y) p q = refl
alike n same (TableValue-F.Cell x) (TableValue-F.Cell y) p q = refl

layers : (n : ℕ) → ((a b : TableValue) → views.size-TableValue a < n → views.size-TableValue b < n → cmp a b ≡ said a b) → (x y : TableValue-F TableValue) → views.size-TableValue (roll-TableValue x) < suc n → views.size-TableValue (roll-TableValue y) < suc n → cmp (roll-TableValue x) (roll-TableValue y) ≡ said (roll-TableValue x) (roll-TableValue y)
layers n same x y p q =
    laws.is (roll-TableValue x) (roll-TableValue y) ∙ opened x y ∙ alike n same x y p q ∙ said_of x y ∙ sym (λ i. compared (rolled x i) (rolled y i))

up_to : (n : ℕ) (a b : TableValue) → views.size-TableValue a < n → views.size-TableValue b < n → cmp a b ≡ said a b
up_to zero a b p q = absurd (omega arith)
up_to (suc n) a b p q =
    let before : cmp (roll-TableValue (out-TableValue a)) (roll-TableValue (out-TableValue b)) ≡ cmp a b = λ i. cmp (views.roll-out-TableValue a i) (views.roll-out-TableValue b i) in
    let behind : said (roll-TableValue (out-TableValue a)) (roll-TableValue (out-TableValue b)) ≡ said a b = λ i. said (views.roll-out-TableValue a i) (views.roll-out-TableValue b i) in
    let deep = ap views.size-TableValue (views.roll-out-TableValue a) in
    let deep_too = ap views.size-TableValue (views.roll-out-TableValue b) in
    sym before ∙ layers n (λ c d r s. up_to n c d r s) (out-TableValue a) (out-TableValue b) (omega (arith, deep, p)) (omega (arith, deep_too, q)) ∙ behind

-- `cmp` compares what values say
pub compared_is : (a b : TableValue) → cmp a b ≡ compared (nesting_of a) (nesting_of b)
compared_is a b = up_to (suc (max (views.size-TableValue a) (views.size-TableValue b))) a b (omega arith) (omega arith)

-- `cmp` finds equal what says the same
pub value_same : (a b : TableValue) → cmp a b ≡ Equal → nesting_of a ≡ nesting_of b
value_same a b h = nesting_same (nesting_of a) (nesting_of b) (sym (compared_is a b) ∙ h)

pub value_equal : (a b : TableValue) → nesting_of a ≡ nesting_of b → cmp a b ≡ Equal
value_equal a b h = compared_is a b ∙ nesting_equal (nesting_of a) (nesting_of b) h
