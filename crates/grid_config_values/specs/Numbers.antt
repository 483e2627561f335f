-- Calls that set values for cells, by their numbers.
use Rattle.std.specs.Prelude.{◌≡◌, ℕ, ◌<◌, ◌≤◌, List, [], ◌∷◌, ◌++◌, map, length, Option, None, Some, MatchOption, if◌then◌else◌, nat_lt, slice_index_or, slice_set, ◌⊎◌, ◌==◌, insert}
use Rattle.std.specs.Borrow.{Bor}
use Rattle.std.specs.List.{AllByRecursion, Contains}
use Rattle.std.specs.Ordering.{nat_cmp}
use Rattle.std.specs.declared.cmp.Ordering.{Ordering}
use Rattle.std.specs.declared.cmp.Ordering.TheVariants.{Less, Equal, Greater}
use Rattle.grid_config_values.specs.declared.calls.Calls.TheInside.{Inside}
use Rattle.grid_config_values.specs.declared.entity.Entity.{Entity}
use Rattle.grid_config_values.specs.declared.entity.Entity.TheVariants.{Column, Row, Cell}
use Rattle.grid_config_values.specs.declared.numbered.Numbered.{Numbered}
use Rattle.grid_config_values.specs.declared.position.Position.{Position}
use Rattle.grid_config_values.specs.Order.{position_cmp}
use Rattle.grid_config_values.specs.Settings.{value_after}

-- a call with its number
abbrev pub Call : Type 0 → Type 0
Call T = ℕ × (Entity × T)

-- one more among calls in the order of their numbers
abbrev pub put : {T : Type 0} → Call T → List (Call T) → List (Call T)
put call [] = call ∷ []
put call (other ∷ later) = if nat_lt other.0 call.0 then other ∷ put call later else call ∷ (other ∷ later)

-- the calls in the order of their numbers
abbrev pub by_number : {T : Type 0} → List (Call T) → List (Call T)
by_number [] = []
by_number (call ∷ calls) = put call (by_number calls)

-- without their numbers
abbrev pub in_order : {T : Type 0} → List (Call T) → List (Entity × T)
in_order calls = map (λ call. call.1) (by_number calls)

-- the call that set the value kept for a key, which names these cells
abbrev pub call_for : {K T : Type 0} → (K → Entity) → Numbered K T → Call T
call_for entity_of kept = (kept.number, (entity_of kept.key, kept.value))

abbrev pub cell_at : Position → Entity
cell_at p = Cell p.row p.col

-- the calls for columns, rows and cells
abbrev pub calls_for : {T : Type 0} → List (Numbered ℕ T) → List (Numbered ℕ T) → List (Numbered Position T) → List (Call T)
calls_for columns rows cells = map (call_for Column) columns ++ (map (call_for Row) rows ++ map (call_for cell_at) cells)

-- the calls that still count, in the order in which they were made
unfoldable pub calls_of : {T : Type 0} → Inside T → List (Entity × T)
calls_of fields = in_order (calls_for fields.columns.items fields.rows.items fields.cells.items)

-- ---- what is kept for keys

abbrev pub keys_of : {K T : Type 0} → List (Numbered K T) → List K
keys_of kept = map (λ one. one.key) kept

-- the keys rise, so that none comes twice
abbrev pub AreRising : {K : Type 0} → (K → K → Ordering) → List K → Type 0
AreRising {K} cmp keys = (i j : ℕ) (d : K) → i < j → j < length keys → cmp (slice_index_or keys i d) (slice_index_or keys j d) ≡ Less

-- the key is at this place
pub record IsAt {K : Type 0} (cmp : K → K → Ordering) (keys : List K) (key : K) (place : ℕ) : Type 0 where
  pub inside : place < length keys
  pub is : (d : K) → cmp (slice_index_or keys place d) key ≡ Equal

-- it would go to this place: smaller ones are before it, greater ones from it on
pub record IsGapFor {K : Type 0} (cmp : K → K → Ordering) (keys : List K) (key : K) (place : ℕ) : Type 0 where
  pub inside : place ≤ length keys
  pub before : (j : ℕ) (d : K) → j < place → cmp (slice_index_or keys j d) key ≡ Less
  pub after : (j : ℕ) (d : K) → place ≤ j → j < length keys → cmp (slice_index_or keys j d) key ≡ Greater

-- what was found is the number and the value that are kept for the key; None: nothing is
abbrev pub IsFound : {K T : Type 0} → (K → K → Ordering) → List (Numbered K T) → K → Option (ℕ × T) → Type 0
IsFound {K} {T} cmp kept key found =
    MatchOption found ((place : ℕ) × IsGapFor cmp (keys_of kept) key place)
    (λ one. (place : ℕ) × IsAt cmp (keys_of kept) key place × ((d : Numbered K T) → one ≡ ((slice_index_or kept place d).number, (slice_index_or kept place d).value)))

-- one is kept for its key, in place of what was
abbrev pub Keeps : {K T : Type 0} → (K → K → Ordering) → List (Numbered K T) → List (Numbered K T) → Numbered K T → Type 0
Keeps cmp old new one =
    ((place : ℕ) × IsAt cmp (keys_of old) one.key place × (new ≡ slice_set old place one))
    ⊎ ((place : ℕ) × IsGapFor cmp (keys_of old) one.key place × (new ≡ insert old place one))

-- ---- numbers

abbrev pub numbers : {T : Type 0} → List (Call T) → List ℕ
numbers calls = map (λ call. call.0) calls

abbrev pub numbers_of : {K T : Type 0} → List (Numbered K T) → List ℕ
numbers_of kept = map (λ one. one.number) kept

-- each is below this one
abbrev pub AreBelow : ℕ → List ℕ → Type 0
AreBelow next ns = AllByRecursion (λ n. n < next) ns

-- another number in place of one
abbrev pub moved : ℕ → ℕ → ℕ → ℕ
moved from to number = if number == from then to else number

abbrev pub renumbered : {K T : Type 0} → ℕ → ℕ → Numbered K T → Numbered K T
renumbered from to one = record { key = one.key; number = moved from to one.number; value = one.value }

-- the same calls in the same order, for the same keys
pub record AreRenumbered {T : Type 0} (cs rs : List (Numbered ℕ T)) (ps : List (Numbered Position T)) (cs' rs' : List (Numbered ℕ T)) (ps' : List (Numbered Position T)) : Type 0 where
  pub calls : in_order (calls_for cs' rs' ps') ≡ in_order (calls_for cs rs ps)
  pub columns : keys_of cs' ≡ keys_of cs
  pub rows : keys_of rs' ≡ keys_of rs
  pub cells : keys_of ps' ≡ keys_of ps

-- none lies from the one to before the other
abbrev pub AreParted : ℕ → ℕ → List ℕ → Type 0
AreParted from least ns = AllByRecursion (λ n. (n < from) ⊎ (least ≤ n)) ns

-- the least of the numbers from the one on, or the other where there is none below that
pub record IsLeastFrom (from most : ℕ) (ns : List ℕ) (least : ℕ) : Type 0 where
  pub at_least : from ≤ least
  pub at_most : least ≤ most
  pub parted : AreParted from least ns
  pub stands : (least ≡ most) ⊎ Contains ns least

-- of two numbered values the one of the greater number, of the same numbers the second
abbrev pub later : {T : Type 0} → Option (ℕ × T) → Option (ℕ × T) → Option (ℕ × T)
later None b = b
later (Some a) None = Some a
later (Some a) (Some b) = if nat_lt b.0 a.0 then Some a else Some b

-- what was found, with the value in place of a reference to it
abbrev pub seen : {T : Type 0} → Option (ℕ × Bor T) → Option (ℕ × T)
seen None = None
seen (Some one) = Some (one.0, one.1.now)

-- the value of what was found, and the other one where nothing was
abbrev pub value_or : {T : Type 0} → T → Option (ℕ × T) → T
value_or otherwise None = otherwise
value_or otherwise (Some one) = one.1

-- what was found is the value at a position, where a call covers it
abbrev pub IsNewest : {T : Type 0} → List (Numbered ℕ T) → List (Numbered ℕ T) → List (Numbered Position T) → Position → Option (ℕ × T) → Type 0
IsNewest {T} columns rows cells p found = (otherwise : T) → value_after otherwise (in_order (calls_for columns rows cells)) p ≡ value_or otherwise found

-- what is kept for columns, rows and cells: each key comes once, and the numbers are below the next
pub record AreKept {T : Type 0} (next : ℕ) (cs rs : List (Numbered ℕ T)) (ps : List (Numbered Position T)) : Type 0 where
  pub columns : AreRising nat_cmp (keys_of cs)
  pub rows : AreRising nat_cmp (keys_of rs)
  pub cells : AreRising position_cmp (keys_of ps)
  pub below : AreBelow next (numbers (calls_for cs rs ps))

abbrev pub AreKeptInside : {T : Type 0} → Inside T → Type 0
AreKeptInside fields = AreKept fields.next fields.columns.items fields.rows.items fields.cells.items
