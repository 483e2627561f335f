-- Pieces before and after a place.
use Rattle.std.proofs.Common.{◌≡◌, ℕ, zero, suc, ◌-◌, ◌<◌, ◌≤◌, ◌==◌, nat_lt, Bool, true, false, List, [], ◌∷◌, ◌++◌, length, take, drop, refl, ap, sym, subst, ◌∙◌, arith, append_assoc, append-nil, eqb-true, if◌then◌else◌, IsTrue}
use Rattle.std.specs.List.{list_all}
use Rattle.std.proofs.lemmas.Bool.{and_parts}
use Rattle.std.proofs.lemmas.Bool.Decides.{nat_tests}
use Rattle.std.proofs.lemmas.List.{length-drop, take-append-drop}
use Rattle.ansi_scan.specs.declared.items.Kind.{Kind}
use Rattle.ansi_scan.specs.declared.items.Kind.TheVariants.{Text, Sgr, Csi, Osc, Esc, Str, Broken}
use Rattle.ansi_scan.specs.Sequences.{Piece, joined, Stands, EachStands, ArePiecesOf, is_not_escape}
use Rattle.ansi_scan.specs.Joining.{is_text_kind}
use Rattle.ansi_str_search.specs.Text.StyledText.{text_of, strip}
use Rattle.ansi_str_search.specs.Parts.{piece_from, from_place, front_of, before_place, through_place}
use Rattle.ansi_str_search.proofs.Parts.{below, not_below, not_zero, text_of-text, text_of-sequence}

-- how a number of bytes of text compares with a piece
pub data Reach (n : ℕ) (piece : Piece) : Type 0 where
  none : n ≡ 0 → Reach n piece
  inside : 0 < n → n < length (text_of piece) → Reach n piece
  past : 0 < n → length (text_of piece) ≤ n → Reach n piece

reach-at : (n : ℕ) (piece : Piece) (zero_n cut : Bool) → (n == 0) ≡ zero_n → nat_lt n (length (text_of piece)) ≡ cut → Reach n piece
reach-at n piece true cut e f = none (eqb-true n 0 e)
reach-at n piece false true e f = let some : 0 < n = grind (arith, nat_tests) in let short : n < length (text_of piece) = grind (arith, nat_tests) in inside some short
reach-at n piece false false e f = let some : 0 < n = grind (arith, nat_tests) in let long : length (text_of piece) ≤ n = grind (arith, nat_tests) in past some long

pub reach : (n : ℕ) (piece : Piece) → Reach n piece
reach n piece = reach-at n piece (n == 0) (nat_lt n (length (text_of piece))) refl refl

-- a piece with text is one of text
text_kind : (piece : Piece) (n : ℕ) (text : Bool) → n < length (text_of piece) → is_text_kind piece.kind ≡ text → is_text_kind piece.kind ≡ true
text_kind piece n true h e = e
text_kind piece n false h e = let gone : length (text_of piece) ≡ 0 = ap length (text_of-sequence piece e) in absurd (omega arith)

pub has_text : (piece : Piece) (n : ℕ) → n < length (text_of piece) → is_text_kind piece.kind ≡ true
has_text piece n h = text_kind piece n (is_text_kind piece.kind) h refl

module _ (n : ℕ) (piece : Piece) (pieces : List Piece) where
  pub from-inside : 0 < n → n < length (text_of piece) → from_place n (piece ∷ pieces) ≡ piece_from n piece ∷ pieces
  from-inside some h =
      ap (λ t. if t then piece ∷ pieces else if nat_lt n (length (text_of piece)) then piece_from n piece ∷ pieces else from_place (n - length (text_of piece)) pieces) (not_zero n some)
      ∙ ap (λ t. if t then piece_from n piece ∷ pieces else from_place (n - length (text_of piece)) pieces) (below n (length (text_of piece)) h)

  pub from-past : 0 < n → length (text_of piece) ≤ n → from_place n (piece ∷ pieces) ≡ from_place (n - length (text_of piece)) pieces
  from-past some h =
      ap (λ t. if t then piece ∷ pieces else if nat_lt n (length (text_of piece)) then piece_from n piece ∷ pieces else from_place (n - length (text_of piece)) pieces) (not_zero n some)
      ∙ ap (λ t. if t then piece_from n piece ∷ pieces else from_place (n - length (text_of piece)) pieces) (not_below n (length (text_of piece)) h)

  pub before-inside : 0 < n → n < length (text_of piece) → before_place n (piece ∷ pieces) ≡ record { kind = piece.kind; bytes = take n piece.bytes } ∷ []
  before-inside some h =
      ap (λ t. if t then [] else if nat_lt n (length (text_of piece)) then front_of n piece else piece ∷ before_place (n - length (text_of piece)) pieces) (not_zero n some)
      ∙ ap (λ t. if t then front_of n piece else piece ∷ before_place (n - length (text_of piece)) pieces) (below n (length (text_of piece)) h)
      ∙ ap (λ t. if t then [] else record { kind = piece.kind; bytes = take n piece.bytes } ∷ []) (not_zero n some)

  pub before-past : 0 < n → length (text_of piece) ≤ n → before_place n (piece ∷ pieces) ≡ piece ∷ before_place (n - length (text_of piece)) pieces
  before-past some h =
      ap (λ t. if t then [] else if nat_lt n (length (text_of piece)) then front_of n piece else piece ∷ before_place (n - length (text_of piece)) pieces) (not_zero n some)
      ∙ ap (λ t. if t then front_of n piece else piece ∷ before_place (n - length (text_of piece)) pieces) (not_below n (length (text_of piece)) h)

  pub through-inside : n < length (text_of piece) → through_place n (piece ∷ pieces) ≡ front_of n piece
  through-inside h = ap (λ t. if t then front_of n piece else piece ∷ through_place (n - length (text_of piece)) pieces) (below n (length (text_of piece)) h)

  pub through-past : length (text_of piece) ≤ n → through_place n (piece ∷ pieces) ≡ piece ∷ through_place (n - length (text_of piece)) pieces
  through-past h = ap (λ t. if t then front_of n piece else piece ∷ through_place (n - length (text_of piece)) pieces) (not_below n (length (text_of piece)) h)

pub from-none : (pieces : List Piece) → from_place 0 pieces ≡ pieces
from-none [] = refl
from-none (piece ∷ pieces) = refl

pub before-none : (pieces : List Piece) → before_place 0 pieces ≡ []
before-none [] = refl
before-none (piece ∷ pieces) = refl

-- ---- the bytes

pub joined-places : (n : ℕ) (pieces : List Piece) → joined pieces ≡ joined (before_place n pieces) ++ joined (from_place n pieces)
joined-places n [] = refl
joined-places n (piece ∷ pieces) = elim (reach n piece) [
  | none e ↦ ap (λ m. joined (before_place m (piece ∷ pieces)) ++ joined (from_place m (piece ∷ pieces))) (sym e)
  | inside some h ↦
      ap (λ bytes. bytes ++ joined pieces) (sym (take-append-drop n piece.bytes)) ∙ append_assoc (take n piece.bytes) (drop n piece.bytes) (joined pieces)
      ∙ ap (λ bytes. bytes ++ (drop n piece.bytes ++ joined pieces)) (sym (append-nil (take n piece.bytes)))
      ∙ ap (λ found. joined found ++ (drop n piece.bytes ++ joined pieces)) (sym (before-inside n piece pieces some h))
      ∙ ap (λ found. joined (before_place n (piece ∷ pieces)) ++ joined found) (sym (from-inside n piece pieces some h))
  | past some h ↦
      ap (λ bytes. piece.bytes ++ bytes) (joined-places (n - length (text_of piece)) pieces)
      ∙ sym (append_assoc piece.bytes (joined (before_place (n - length (text_of piece)) pieces)) (joined (from_place (n - length (text_of piece)) pieces)))
      ∙ ap (λ found. joined found ++ joined (from_place (n - length (text_of piece)) pieces)) (sym (before-past n piece pieces some h))
      ∙ ap (λ found. joined (before_place n (piece ∷ pieces)) ++ joined found) (sym (from-past n piece pieces some h))
]

pub drop-append_past : (xs ys : List ℕ) (n : ℕ) → length xs ≤ n → drop n (xs ++ ys) ≡ drop (n - length xs) ys
drop-append_past [] ys n h = let same : n ≡ n - 0 = omega arith in ap (λ m. drop m ys) same
drop-append_past (x ∷ xs) ys zero h = absurd (omega arith)
drop-append_past (x ∷ xs) ys (suc n) h =
    let fits : length xs ≤ n = omega arith in
    let same : n - length xs ≡ suc n - suc (length xs) = omega arith in
    drop-append_past xs ys n fits ∙ ap (λ m. drop m ys) same

pub drop-append_inside : (xs ys : List ℕ) (n : ℕ) → n ≤ length xs → drop n (xs ++ ys) ≡ drop n xs ++ ys
drop-append_inside xs ys zero h = refl
drop-append_inside [] ys (suc n) h = absurd (omega arith)
drop-append_inside (x ∷ xs) ys (suc n) h = let fits : n ≤ length xs = omega arith in drop-append_inside xs ys n fits

pub strip-from : (n : ℕ) (pieces : List Piece) → strip (from_place n pieces) ≡ drop n (strip pieces)
strip-from zero [] = refl
strip-from (suc n) [] = refl
strip-from n (piece ∷ pieces) = elim (reach n piece) [
  | none e ↦ ap (λ m. strip (from_place m (piece ∷ pieces))) e ∙ ap (λ m. drop m (strip (piece ∷ pieces))) (sym e)
  | inside some h ↦
      let text = has_text piece n h in
      let whole = text_of-text piece text in
      let fits : n ≤ length (text_of piece) = omega arith in
      ap strip (from-inside n piece pieces some h) ∙ ap (λ bytes. bytes ++ strip pieces) (text_of-text (piece_from n piece) text ∙ ap (drop n) (sym whole)) ∙ sym (drop-append_inside (text_of piece) (strip pieces) n fits)
  | past some h ↦ ap strip (from-past n piece pieces some h) ∙ strip-from (n - length (text_of piece)) pieces ∙ sym (drop-append_past (text_of piece) (strip pieces) n h)
]

-- ---- what the relation allows of a piece, it allows of the piece from a place on

pub list_all-drop : (p : ℕ → Bool) (n : ℕ) (xs : List ℕ) → IsTrue (list_all p xs) → IsTrue (list_all p (drop n xs))
list_all-drop p zero xs h = h
list_all-drop p (suc n) [] h = h
list_all-drop p (suc n) (x ∷ xs) h = list_all-drop p n xs (and_parts (p x) (list_all p xs) h).1

Stands-from : (kind : Kind) (bytes : List ℕ) (after : List Piece) (n : ℕ) → is_text_kind kind ≡ true → n < length bytes → Stands kind bytes after → Stands kind (drop n bytes) after
Stands-from Text bytes after n e h stands = record { some = omega (arith, length-drop n bytes); plain = list_all-drop is_not_escape n bytes stands.plain; ends = stands.ends }
Stands-from Sgr bytes after n e h stands = cc e
Stands-from Csi bytes after n e h stands = cc e
Stands-from Osc bytes after n e h stands = cc e
Stands-from Esc bytes after n e h stands = cc e
Stands-from Str bytes after n e h stands = cc e
Stands-from Broken bytes after n e h stands = cc e

pub EachStands-from : (n : ℕ) (pieces : List Piece) → EachStands pieces → EachStands (from_place n pieces)
EachStands-from n [] all = tt
EachStands-from n (piece ∷ pieces) all = elim (reach n piece) [
  | none e ↦ subst (λ m. EachStands (from_place m (piece ∷ pieces))) (sym e) all
  | inside some h ↦
      let text = has_text piece n h in
      let size : length (text_of piece) ≡ length piece.bytes = ap length (text_of-text piece text) in
      let shorter : n < length piece.bytes = omega arith in
      subst EachStands (sym (from-inside n piece pieces some h)) (Stands-from piece.kind piece.bytes pieces n text shorter all.0, all.1)
  | past some h ↦ subst EachStands (sym (from-past n piece pieces some h)) (EachStands-from (n - length (text_of piece)) pieces all.1)
]

-- the pieces after a place are the pieces of the bytes after it
pub ArePiecesOf-from : (text : List ℕ) (pieces : List Piece) (n : ℕ) → ArePiecesOf text pieces → ArePiecesOf (joined (from_place n pieces)) (from_place n pieces)
ArePiecesOf-from text pieces n of_text = record { joins = refl; stand = EachStands-from n pieces of_text.stand }
