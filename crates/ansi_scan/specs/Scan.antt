-- What a clause sees of a `Scan`.
use Rattle.std.specs.Prelude.{◌≡◌, ◌+◌, ◌<◌, ℕ, List, Option, IfSome, IfNone, OnSome, length, ⊤}
use Rattle.std.specs.Iterator.{IsFinite, item_count, size}
use Rattle.ansi_scan.specs.declared.items.Item.{Item}
use Rattle.ansi_scan.specs.declared.items.Scan.{Scan}
use Rattle.ansi_scan.specs.Pieces.{pieces}
use Rattle.ansi_scan.specs.Places.{placed}
use Rattle.ansi_scan.specs.Reads.{reads_over}

-- the items that are still to come
abbrev pub items_left : Scan → List Item
items_left s = placed s.place (pieces s.rest.now)

-- how many bytes the text has
abbrev pub text_length : Scan → ℕ
text_length s = s.place + length s.rest.now

-- the reads that were made so far, one of each byte before the place and those beyond; and those that all items take
abbrev pub reads_taken : Scan → ℕ
reads_taken s = s.place + s.beyond

abbrev pub reads_in_all : Scan → ℕ
reads_in_all s = reads_taken s + reads_over (pieces s.rest.now)

-- what a step does beside its item: it comes closer to the end, and keeps the text and the reads in all
pub record GoesOn (before : Scan) (given : Option Item) (after : Scan) : Type 0 where
  pub on : IsFinite (item_count items_left before) → OnSome given (⊤ × IsFinite (item_count items_left after) × (size (item_count items_left after) < size (item_count items_left before)))
  pub keeps : IfSome given (λ _. ⊤)
  pub rests : IsFinite (item_count items_left before) → IfNone given (IsFinite (item_count items_left after))
  pub text : text_length after ≡ text_length before
  pub reads : reads_in_all after ≡ reads_in_all before
