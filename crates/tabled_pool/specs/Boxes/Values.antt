-- What a pool shows: texts, side by side in rows, and one below the other in columns.
use Rattle.std.specs.Prelude.{ℕ, List, [], ◌∷◌, map, string_bytes}
use Rattle.tabled_pool.specs.declared.boxes.value.TableValue.{TableValue, fold-TableValue}
use Rattle.tabled_pool.specs.declared.boxes.value.TableValue.TheOpen.{TableValue-F}

mutual
  pub data Nesting : Type 0 where
    -- a cell, by the bytes of its text
    Text : List ℕ → Nesting
    -- a row: its members side by side
    Beside : Nestings → Nesting
    -- a column: its members one below the other
    Stacked : Nestings → Nesting

  pub data Nestings : Type 0 where
    NoMore : Nestings
    Member : Nesting → Nestings → Nestings

-- these members, in their order
abbrev pub members : List Nesting → Nestings
members [] = NoMore
members (nesting ∷ nestings) = Member nesting (members nestings)

-- one level of a value, where each value inside is already a nesting
abbrev pub nesting_step : TableValue-F Nesting → Nesting
nesting_step (TableValue-F.Cell text) = Text (string_bytes text)
nesting_step (TableValue-F.Row values) = Beside (members values.items)
nesting_step (TableValue-F.Column values) = Stacked (members values.items)

-- what a value says: two values that say the same are equal
abbrev pub nesting_of : TableValue → Nesting
nesting_of = fold-TableValue Nesting nesting_step

abbrev pub nestings_of : List TableValue → Nestings
nestings_of values = members (map nesting_of values)
