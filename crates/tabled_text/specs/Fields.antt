-- What the fields of a value say, and what they are called. A text is the list of its bytes.
use Rattle.std.specs.Prelude.{ℕ, ◌-◌, ◌^◌, Bool, true, false, List, [], Option, None, Some, codes, decimal, map, min, replicate}
use Rattle.std.specs.Cow.{cow_str_bytes}
use Rattle.std.specs.declared.borrow.CowStr.{CowStr}
use Rattle.std.specs.List.{range_with_len}

-- a yes or no as Rust prints it
abbrev pub bool_text : Bool → List ℕ
bool_text true = codes "true"
bool_text false = codes "false"

-- the texts of a list of texts, borrowed or owned
abbrev pub texts_of : {Z : Type 0} → List (CowStr Z) → List (List ℕ)
texts_of texts = map cow_str_bytes texts

-- the fields of a value that may be missing: where it is, as many empty texts
abbrev pub fields_or_empty : {T : Type 0} → (T → List (List ℕ)) → ℕ → Option T → List (List ℕ)
fields_or_empty fields count None = replicate count []
fields_or_empty fields count (Some value) = fields value

-- the names of fields that have numbers alone: 0, 1, ..
abbrev pub numbers : ℕ → List (List ℕ)
numbers count = map decimal (range_with_len 0 count)

-- a count that stops at the largest usize
abbrev pub saturated : ℕ → ℕ
saturated count = min count (2 ^ 64 - 1)
