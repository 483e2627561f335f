-- What the loops over parts know.
use Rattle.std.proofs.Common.{◌≡◌, ℕ, suc, ◌+◌, ◌-◌, ◌<◌, ◌≤◌, ◌==◌, Bool, true, false, Option, Some, None, IsSome, List, [], ◌∷◌, ◌++◌, map, flat_map, length, sum, drop, refl, ap, sym, subst, ◌∙◌, arith, length-append, if◌then◌else◌, option_to_list, slice_get}
use Rattle.std.proofs.Math.Seq.{drop-append_seam}
use Rattle.ansi_scan.specs.declared.items.Kind.{Kind}
use Rattle.ansi_scan.specs.declared.items.Kind.TheVariants.{Text, Sgr, Csi, Osc, Esc, Str, Broken}
use Rattle.ansi_scan.specs.Sequences.{Piece, Stands, EachStands}
use Rattle.ansi_scan.specs.Pieces.{pieces}
use Rattle.ansi_scan.specs.Attributes.{Attributes, plain_attributes}
use Rattle.ansi_scan.proofs.Existence.{ArePiecesOf-pieces}
use Rattle.ansi_scan.proofs.Comparing.{not_zero}
use Rattle.ansi_str.specs.StyledText.{style_after}
use Rattle.ansi_str.specs.Blocks.{Block, block_if, blocks_from, text_of_block}
use Rattle.ansi_str_search.proofs.TextLemmas.Shown.{text_of_block-blocks_from}
use Rattle.columns_run.specs.Rows.{stripped, without_unshown_last}
use Rattle.columns_run.specs.Cells.{last_shows_nothing}
use Rattle.columns_table.specs.Rows.{split_by_lengths}
use Rattle.columns_table.proofs.SplitByLengths.{split_by_lengths-append, split_by_lengths-more}

-- ---- a text that shows nothing

block_text : (style : Attributes) (kind : Kind) (bytes : List ℕ) (after : List Piece) (others : List Block) (first : Block) (rest : List Block) → Stands kind bytes after
    → block_if kind bytes style ++ others ≡ first ∷ rest → (others ≡ first ∷ rest → 0 < length first.text) → 0 < length first.text
block_text style Text bytes after others first rest stands e later =
    let same : record { text = bytes; style = style } ≡ first = cc e in
    subst (λ (block : Block). 0 < length block.text) same stands.some
block_text style Sgr bytes after others first rest stands e later = later e
block_text style Csi bytes after others first rest stands e later = later e
block_text style Osc bytes after others first rest stands e later = later e
block_text style Esc bytes after others first rest stands e later = later e
block_text style Str bytes after others first rest stands e later = later e
block_text style Broken bytes after others first rest stands e later = later e

first_block_text : (style : Attributes) (ps : List Piece) (first : Block) (rest : List Block) → EachStands ps → blocks_from style ps ≡ first ∷ rest → 0 < length first.text
first_block_text style [] first rest each e = absurd (cc e)
first_block_text style (p ∷ ps) first rest each e =
    block_text style p.kind p.bytes ps (blocks_from (style_after style p) ps) first rest each.0 e (λ later. first_block_text (style_after style p) ps first rest each.1 later)

pub bare-none : (text : List ℕ) → blocks_from plain_attributes (pieces text) ≡ [] → (length (stripped text) == 0) ≡ true
bare-none text none = ap (λ shown. length shown == 0) (sym (text_of_block-blocks_from plain_attributes (pieces text)) ∙ ap (flat_map text_of_block) none)

pub bare-some : (text : List ℕ) (first : Block) (rest : List Block) → blocks_from plain_attributes (pieces text) ≡ first ∷ rest → (length (stripped text) == 0) ≡ false
bare-some text first rest some =
    let there = first_block_text plain_attributes (pieces text) first rest (ArePiecesOf-pieces text).stand some in
    let shown : stripped text ≡ first.text ++ flat_map text_of_block rest = sym (text_of_block-blocks_from plain_attributes (pieces text)) ∙ ap (flat_map text_of_block) some in
    not_zero (length (stripped text)) (omega (arith, ap length shown, length-append first.text (flat_map text_of_block rest), there))

-- ---- the last part

module _ {A : Type 0} (f : A → List ℕ) where
  abbrev bare : A → Bool
  bare x = length (stripped (f x)) == 0

  pub last_shows_nothing-last : (xs : List A) (x : A) → slice_get xs (length xs - 1) ≡ Some x → last_shows_nothing (map f xs) ≡ bare x
  last_shows_nothing-last [] x e = absurd (cc e)
  last_shows_nothing-last (y ∷ []) x e = let same : y ≡ x = cc e in ap bare same
  last_shows_nothing-last (y ∷ z ∷ ys) x e =
      let index : length (y ∷ z ∷ ys) - 1 ≡ suc (length (z ∷ ys) - 1) = omega arith in
      last_shows_nothing-last (z ∷ ys) x (sym (ap (slice_get (y ∷ z ∷ ys)) index) ∙ e)

  last_shows_nothing-push : (ys : List A) (x : A) → last_shows_nothing (map f (ys ++ x ∷ [])) ≡ bare x
  last_shows_nothing-push [] x = refl
  last_shows_nothing-push (y ∷ []) x = refl
  last_shows_nothing-push (y ∷ z ∷ ys) x = last_shows_nothing-push (z ∷ ys) x

  onto : (part : List ℕ) (test : Bool) (less more : List (List ℕ)) → part ∷ (if test then less else more) ≡ if test then part ∷ less else part ∷ more
  onto part true less more = refl
  onto part false less more = refl

  without_unshown_last-push : (ys : List A) (x : A) → without_unshown_last (map f (ys ++ x ∷ [])) ≡ if bare x then map f ys else map f (ys ++ x ∷ [])
  without_unshown_last-push [] x = refl
  without_unshown_last-push (y ∷ []) x = onto (f y) (bare x) [] (f x ∷ [])
  without_unshown_last-push (y ∷ z ∷ ys) x =
      ap (λ parts. f y ∷ parts) (without_unshown_last-push (z ∷ ys) x) ∙ onto (f y) (bare x) (map f (z ∷ ys)) (map f ((z ∷ ys) ++ x ∷ []))

  -- a last part that shows nothing is taken away
  pub popped : (old new : List A) (last : Option A) → old ≡ new ++ option_to_list last → (0 < length old → IsSome last) → last_shows_nothing (map f old) ≡ true
      → map f new ≡ without_unshown_last (map f old)
  popped old new (Some x) is there e =
      let test : bare x ≡ true = sym (ap (λ xs. last_shows_nothing (map f xs)) is ∙ last_shows_nothing-push new x) ∙ e in
      sym (ap (λ xs. without_unshown_last (map f xs)) is ∙ without_unshown_last-push new x ∙ ap (λ t. if t then map f new else map f (new ++ x ∷ [])) test)
  popped [] new None is there e = absurd (cc e)
  popped (y ∷ ys) new None is there e = let some : 0 < length (y ∷ ys) = omega arith in absurd (cc (there some))

-- and another one stays
pub kept : (parts : List (List ℕ)) → last_shows_nothing parts ≡ false → parts ≡ without_unshown_last parts
kept [] e = refl
kept (part ∷ []) e = ap (λ t. if t then [] else part ∷ []) (sym e)
kept (part ∷ next ∷ parts) e = ap (λ others. part ∷ others) (kept (next ∷ parts) e)

-- ---- rows of cells

-- one row more
pub split-row : (counts : List ℕ) (cells row : List (List ℕ)) (n : ℕ) → sum counts ≡ length cells → n ≡ length row → split_by_lengths (counts ++ n ∷ []) (cells ++ row) ≡ split_by_lengths counts cells ++ row ∷ []
split-row counts cells row n whole size =
    let all : sum counts + n ≡ length (cells ++ row) = omega (arith, length-append cells row) in
    let fits : sum counts ≤ length cells = omega arith in
    split_by_lengths-more counts n (cells ++ row) all
    ∙ ap (λ rows. rows ++ drop (sum counts) (cells ++ row) ∷ []) (split_by_lengths-append counts cells row fits)
    ∙ ap (λ k. split_by_lengths counts cells ++ drop k (cells ++ row) ∷ []) whole
    ∙ ap (λ rest. split_by_lengths counts cells ++ rest ∷ []) (drop-append_seam cells row)
