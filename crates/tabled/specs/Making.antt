-- Rows that tables are made of.
use Rattle.std.specs.Iterator.{Count, Drains, IsFinite}
use Rattle.std.specs.Prelude.{◌≡◌, ℕ, List, Option, [], ◌∷◌, flat_map, map}
use Rattle.std.specs.List.{zip}

-- an iterator of the items can be read, and ends
abbrev pub EndsOnceRead : {Items S : Type 0} → (Items → S → Type 0) → (S → Type 0) → (S → Count) → Items → Type 0
EndsOnceRead {Items} {S} into_iter_gives can_next remaining items = (s : S) → into_iter_gives items s → can_next s × IsFinite (remaining s)

-- what an iterator of the items gives, one after the other until it ends, is such a list
abbrev pub Collects : {Items S Item : Type 0} → (Items → S → Type 0) → (S → Option Item → S → Type 0) → Items → (List Item → Type 0) → Type 0
Collects {Items} {S} {Item} into_iter_gives next_gives items is =
    (s : S) × (taken : List Item) × into_iter_gives items s × Drains next_gives s taken × is taken

-- a row for each field of a value: its name, and its text
abbrev pub named_fields : List (List ℕ) → List (List ℕ) → List (List (List ℕ))
named_fields names texts = map (λ field. field.0 ∷ field.1 ∷ []) (zip names texts)

-- these rows for each of the values
abbrev pub named_field_rows : {T : Type 0} → List (List ℕ) → (T → List (List ℕ)) → List T → List (List (List ℕ))
named_field_rows names texts values = flat_map (λ value. named_fields names (texts value)) values

-- a row of these texts: its iterator gives items with them, and then ends
abbrev pub HoldsTexts : {Row S Item : Type 0} → (Row → S → Type 0) → (S → Option Item → S → Type 0) → (Item → List ℕ) → Row → List (List ℕ) → Type 0
HoldsTexts {Row} {S} {Item} into_iter_gives next_gives text row texts = (s : S) × (items : List Item) × into_iter_gives row s × Drains next_gives s items × (texts ≡ map text items)
