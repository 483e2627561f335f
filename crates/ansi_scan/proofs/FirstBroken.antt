-- The first Broken piece of a text.
use Rattle.std.proofs.Common.{◌≡◌, ◌≢◌, ◌+◌, ℕ, true, false, Option, Some, None, IfSome, IsNone, ◌↔◌, List, [], ◌∷◌, ◌++◌, length, refl, ap, sym, ◌∙◌, subst, inl, inr, arith, length-append}
use Rattle.std.specs.Option.{option_map, MatchOption}
use Rattle.std.specs.List.{find}
use Rattle.std.proofs.lemmas.Bool.{cases_Bool, cond-true, cond-false}
use Rattle.ansi_scan.specs.declared.items.Kind.{Kind}
use Rattle.ansi_scan.specs.declared.items.Kind.TheVariants.{Text, Sgr, Csi, Osc, Esc, Str, Broken}
use Rattle.ansi_scan.specs.declared.items.Item.{Item}
use Rattle.ansi_scan.specs.Sequences.{Piece, joined, ArePiecesOf, NoneBroken, IsWhole, IsFirstBroken}
use Rattle.ansi_scan.specs.Places.{placed, AreItemsOf, is_broken_kind, is_broken}
use Rattle.ansi_scan.proofs.Uniqueness.{pieces-ArePiecesOf}

-- the test means what it says
pub is_broken_kind-true : (kind : Kind) → is_broken_kind kind ≡ true → kind ≡ Broken
is_broken_kind-true Text test = cc
is_broken_kind-true Sgr test = cc
is_broken_kind-true Csi test = cc
is_broken_kind-true Osc test = cc
is_broken_kind-true Esc test = cc
is_broken_kind-true Str test = cc
is_broken_kind-true Broken test = refl

pub is_broken_kind-false : (kind : Kind) → is_broken_kind kind ≡ false → kind ≢ Broken
is_broken_kind-false kind test same = let here : is_broken_kind kind ≡ true = ap is_broken_kind same in cc (test, here)

-- a Broken piece after others that are not, which begins at this byte
pub record BreaksAt (ps : List Piece) (at : ℕ) : Type 0 where
  pub before : List Piece
  pub broken : Piece
  pub after : List Piece
  pub parts : ps ≡ before ++ broken ∷ after
  pub none_before : NoneBroken before
  pub is_broken : broken.kind ≡ Broken
  pub place : at ≡ length (joined before)

-- what is found after a piece that is not Broken
pub BreaksAt-cons : (p : Piece) (ps : List Piece) (at : ℕ) → p.kind ≢ Broken → BreaksAt ps at → BreaksAt (p ∷ ps) (length p.bytes + at)
BreaksAt-cons p ps at other breaks = record {
  before = p ∷ breaks.before;
  broken = breaks.broken;
  after = breaks.after;
  parts = ap (λ qs. p ∷ qs) breaks.parts;
  none_before = (other, breaks.none_before);
  is_broken = breaks.is_broken;
  place = ap (λ n. length p.bytes + n) breaks.place ∙ sym (length-append p.bytes (joined breaks.before));
}

-- the first item that is Broken is the first such piece, and where no item is, no piece is
abbrev pub IsFoundFrom : ℕ → List Piece → Option Item → Type 0
IsFoundFrom place ps found = MatchOption found (NoneBroken ps) (λ item. (at : ℕ) × BreaksAt ps at × (item.start ≡ place + at))

pub IsFoundFrom-cons : (place : ℕ) (p : Piece) (ps : List Piece) (found : Option Item) → p.kind ≢ Broken → IsFoundFrom (place + length p.bytes) ps found → IsFoundFrom place (p ∷ ps) found
IsFoundFrom-cons place p ps None other is_found = (other, is_found)
IsFoundFrom-cons place p ps (Some item) other is_found =
    (length p.bytes + is_found.0, BreaksAt-cons p ps is_found.0 other is_found.1, (let at : item.start ≡ place + (length p.bytes + is_found.0) = omega (arith, is_found.2) in at))

pub IsFoundFrom-find : (place : ℕ) (ps : List Piece) → IsFoundFrom place ps (find is_broken (placed place ps))
IsFoundFrom-find place [] = tt
IsFoundFrom-find place (p ∷ ps) =
    let item : Item = record { kind = p.kind; start = place; end = place + length p.bytes } in
    let rest : Option Item = find is_broken (placed (place + length p.bytes) ps) in
    let Found : Option Item → Type 0 = λ found. IsFoundFrom place (p ∷ ps) found in
    elim (cases_Bool (is_broken_kind p.kind)) [
      | inl yes_ ↦ subst Found (sym (cond-true (is_broken_kind p.kind) (Some item) rest yes_))
          (0, record { before = []; broken = p; after = ps; parts = refl; none_before = tt; is_broken = is_broken_kind-true p.kind yes_; place = refl }, (let at : place ≡ place + 0 = omega arith in at))
      | inr no_ ↦ subst Found (sym (cond-false (is_broken_kind p.kind) (Some item) rest no_))
          (IsFoundFrom-cons place p ps rest (is_broken_kind-false p.kind no_) (IsFoundFrom-find (place + length p.bytes) ps))
    ]

-- a piece after others is not Broken where none is
pub NoneBroken-middle : (before : List Piece) (p : Piece) (after : List Piece) → NoneBroken (before ++ p ∷ after) → p.kind ≢ Broken
NoneBroken-middle [] p after none = none.0
NoneBroken-middle (q ∷ before) p after none = NoneBroken-middle before p after none.1

-- a whole text has no first Broken piece
pub IsWhole-IsFirstBroken : (text : List ℕ) (at : ℕ) → IsWhole text → IsFirstBroken text at → ⊥
IsWhole-IsFirstBroken text at whole first =
    let same : whole.pieces ≡ first.before ++ first.broken ∷ first.after =
    sym (pieces-ArePiecesOf text whole.pieces whole.of_text) ∙ pieces-ArePiecesOf text (first.before ++ first.broken ∷ first.after) first.of_text in
    NoneBroken-middle first.before first.broken first.after (subst NoneBroken same whole.none_broken) first.is_broken

-- the answer of `first_broken`, where it is the start of the first Broken item
pub record IsFirstBrokenAnswer (text : List ℕ) (r : Option ℕ) : Type 0 where
  pub broken : IfSome r (IsFirstBroken text)
  pub whole : IsNone r ↔ IsWhole text

pub IsFirstBrokenAnswer-find : (text : List ℕ) (ps : List Piece) (found : Option Item) → ArePiecesOf text ps → IsFoundFrom 0 ps found → IsFirstBrokenAnswer text (option_map (λ item. item.start) found)
IsFirstBrokenAnswer-find text ps None are none = record {
  broken = tt;
  whole = (λ _. record { pieces = ps; of_text = are; none_broken = none }, λ _. refl);
}
IsFirstBrokenAnswer-find text ps (Some item) are (at, breaks, is_at) =
    let first : IsFirstBroken text item.start = record {
      before = breaks.before;
      broken = breaks.broken;
      after = breaks.after;
      of_text = subst (λ qs. ArePiecesOf text qs) breaks.parts are;
      none_before = breaks.none_before;
      is_broken = breaks.is_broken;
      place = (let at_start : item.start ≡ at = omega (arith, is_at) in at_start ∙ breaks.place);
    } in
    record { broken = first; whole = (λ none. cc none, λ whole. absurd (IsWhole-IsFirstBroken text item.start whole first)) }

pub IsFirstBrokenAnswer-items : (text : List ℕ) (items : List Item) (r : Option ℕ) → AreItemsOf text items → r ≡ option_map (λ item. item.start) (find is_broken items) → IsFirstBrokenAnswer text r
IsFirstBrokenAnswer-items text items r are is =
    let found : IsFoundFrom 0 are.pieces (find is_broken (placed 0 are.pieces)) = IsFoundFrom-find 0 are.pieces in
    subst (λ o. IsFirstBrokenAnswer text o) (ap (λ xs. option_map (λ (item : Item). item.start) (find is_broken xs)) (sym are.at_places) ∙ sym is)
    (IsFirstBrokenAnswer-find text are.pieces (find is_broken (placed 0 are.pieces)) are.of_text found)

-- a list falls apart in one way at its first Broken piece
pub same_before : (before : List Piece) (broken : Piece) (after before' : List Piece) (broken' : Piece) (after' : List Piece) → before ++ broken ∷ after ≡ before' ++ broken' ∷ after' → NoneBroken before → broken.kind ≡ Broken → NoneBroken before' → broken'.kind ≡ Broken → length (joined before) ≡ length (joined before')
same_before [] broken after [] broken' after' same none is none' is' = refl
same_before [] broken after (q ∷ before') broken' after' same none is none' is' = let first : broken ≡ q = cc same in absurd (none'.0 (ap (λ p. p.kind) (sym first) ∙ is))
same_before (p ∷ before) broken after [] broken' after' same none is none' is' = let first : p ≡ broken' = cc same in absurd (none.0 (ap (λ q. q.kind) first ∙ is'))
same_before (p ∷ before) broken after (q ∷ before') broken' after' same none is none' is' =
    let first : p ≡ q = cc same in
    let rest : before ++ broken ∷ after ≡ before' ++ broken' ∷ after' = cc same in
    let len : length p.bytes ≡ length q.bytes = ap (λ p. length p.bytes) first in
    let lens : length (joined before) ≡ length (joined before') = same_before before broken after before' broken' after' rest none.1 is none'.1 is' in
    omega (arith, len, lens, length-append p.bytes (joined before), length-append q.bytes (joined before'))

-- a text has one first Broken piece at most
pub IsFirstBroken-same : (text : List ℕ) (at at' : ℕ) → IsFirstBroken text at → IsFirstBroken text at' → at ≡ at'
IsFirstBroken-same text at at' one other =
    let same : one.before ++ one.broken ∷ one.after ≡ other.before ++ other.broken ∷ other.after =
    sym (pieces-ArePiecesOf text (one.before ++ one.broken ∷ one.after) one.of_text) ∙ pieces-ArePiecesOf text (other.before ++ other.broken ∷ other.after) other.of_text in
    one.place ∙ same_before one.before one.broken one.after other.before other.broken other.after same one.none_before one.is_broken other.none_before other.is_broken ∙ sym other.place
