-- Where the last sequence of a text begins.
use Rattle.std.proofs.Common.{◌≡◌, ◌≢◌, ◌==◌, ◌+◌, ◌-◌, ◌<◌, ◌≤◌, ◌||◌, ℕ, zero, suc, Bool, true, false, Option, Some, None, unwrap_or, List, [], ◌∷◌, ◌++◌, length, take, drop, get_or, slice_index, slice_range, refl, ap, sym, ◌∙◌, arith, append_assoc, length-append}
use Rattle.std.specs.Prelude.{MatchOption}
use Rattle.std.proofs.Math.Seq.{take-append_seam, drop-append_seam, drop-cons}
use Rattle.std.proofs.lemmas.Bool.{ne_eqb, eqb-false}
use Rattle.std.proofs.lemmas.List.{take-append-drop, get_or-drop, length-take-le, length-drop}
use Rattle.std.proofs.lemmas.List.Elements.{All-from_get_or}
use Rattle.std.proofs.lemmas.List.Concat.{flat_map-append}
use Rattle.std.proofs.lemmas.List.Folds.{list_any-append, list_any_none}
use Rattle.ansi_scan.specs.declared.items.Item.{Item}
use Rattle.ansi_scan.specs.declared.items.Kind.{Kind}
use Rattle.ansi_scan.specs.declared.items.Kind.TheVariants.{Text, Broken}
use Rattle.ansi_scan.specs.Sequences.{Piece, escape}
use Rattle.ansi_scan.specs.Places.{AreItemsOf}
use Rattle.ansi_scan.specs.Pieces.{text_len, sequence_front, at_escape, leading_piece, first_pieces, pieces}
use Rattle.ansi_scan.proofs.Sound.{FormAtFront, FormAtFront-sequence_front}
use Rattle.ansi_scan.proofs.Fronts.{IsAtEscape-at_escape, leading_piece-escape, leading_piece-some, leading_piece-in_range, pieces-step}
use Rattle.ansi_scan.proofs.Existence.{ArePiecesOf-pieces}
use Rattle.ansi_scan.proofs.Uniqueness.{pieces-ArePiecesOf, at_escape-HasForm}
use Rattle.ansi_str_search.specs.Text.StyledText.{has_escape, shown, text_of, strip}
use Rattle.ansi_str_search.specs.Text.Last.{IsLastEscape, IsLastSequence}
use Rattle.ansi_str_search.proofs.TextLemmas.Stripping.{has_escape-plain, shown-sequence, strip-without_escape}
use Rattle.ansi_str_search.proofs.TextLemmas.FirstItem.{IsFirstItem, IsFirstItem-items}
use Rattle.ansi_str_search.proofs.TextLemmas.Tails.{heads, tails, Reaches, EndsString-Reaches, plain-open}
use Rattle.ansi_str_search.proofs.TextLemmas.Seams.{NoneReaches, ArePiecesOf-seam, no_end}

-- ---- texts without ESC

neither : (a b : Bool) → (a || b) ≡ false → (a ≡ false) × (b ≡ false)
neither true b h = absurd (cc h)
neither false b h = (refl, h)

pub has_escape-append : (xs ys : List ℕ) → has_escape (xs ++ ys) ≡ false → (has_escape xs ≡ false) × (has_escape ys ≡ false)
has_escape-append xs ys none = neither (has_escape xs) (has_escape ys) (sym (list_any-append (λ b. b == escape) xs ys) ∙ none)

pub has_escape-drop : (n : ℕ) (bs : List ℕ) → has_escape bs ≡ false → has_escape (drop n bs) ≡ false
has_escape-drop n bs none = (has_escape-append (take n bs) (drop n bs) (ap has_escape (take-append-drop n bs) ∙ none)).1

has_escape-behind : (n : ℕ) (behind : List ℕ) → 0 < n → has_escape behind ≡ false → has_escape (drop n (escape ∷ behind)) ≡ false
has_escape-behind zero behind some none = absurd (omega arith)
has_escape-behind (suc n) behind some none = has_escape-drop n behind none

-- an ESC among the bytes
escape_there : (xs ys : List ℕ) → has_escape (xs ++ escape ∷ ys) ≡ false → ⊥
escape_there xs ys none =
    let both : true ≡ false = (has_escape-append xs (escape ∷ ys) none).1 in
    cc both

pub has_escape-none : (bs : List ℕ) → ((i : ℕ) → i < length bs → get_or bs i 0 ≢ escape) → has_escape bs ≡ false
has_escape-none bs none = list_any_none (λ b. b == escape) bs (All-from_get_or (λ b. (b == escape) ≡ false) bs 0 (λ i within. ne_eqb (get_or bs i 0) escape (none i within)))

-- ---- the first item

pub leading_piece-IsFirstItem : (text : List ℕ) (item : Item) → 0 < length text → IsFirstItem text item → item.end ≡ (leading_piece text).1
leading_piece-IsFirstItem text item some first =
    let same = sym first.read ∙ pieces-step text some in
    let bytes : slice_range text 0 item.end ≡ take (leading_piece text).1 text = ap (λ (piece : Piece). piece.bytes) (heads same) in
    let own : length (take (item.end - 0) text) ≡ item.end - 0 = length-take-le (item.end - 0) text (omega (arith, first.within)) in
    let found : length (take (leading_piece text).1 text) ≡ (leading_piece text).1 = length-take-le (leading_piece text).1 text (leading_piece-in_range text some) in
    omega (arith, own, found, ap length bytes)

pub nothing-short : (text : List ℕ) → 0 < length text → pieces text ≡ [] → ⊥
nothing-short text some none = let same = sym none ∙ pieces-step text some in cc same

-- ---- the last ESC

pub IsLastEscape-index : (text : List ℕ) (at : ℕ) → at < length text → get_or text at 0 ≡ escape → ((i : ℕ) → at < i → i < length text → get_or text i 0 ≢ escape) → IsLastEscape text at
IsLastEscape-index text at within is none =
    let one : suc at ≡ at + 1 = omega arith in
    record {
      here = sym (take-append-drop at text) ∙ ap (λ bs. take at text ++ bs) (drop-cons text at 0 within ∙ ap (λ b. b ∷ drop (suc at) text) is ∙ ap (λ n. escape ∷ drop n text) one);
      before = length-take-le at text (omega (arith, within));
      last = has_escape-none (drop (at + 1) text) (λ i fits same.
          none ((at + 1) + i) (omega arith) (omega (arith, fits, length-drop (at + 1) text)) (sym (get_or-drop (at + 1) text i 0) ∙ same));
    }

-- as a search from the end finds it
pub IsLastEscape-found : (text : List ℕ) (r : Option ℕ)
    → MatchOption r ((i : ℕ) → i < length text → get_or text i 0 ≢ escape) (λ k. (k < length text) × (get_or text k 0 ≡ escape) × ((i : ℕ) → k < i → i < length text → get_or text i 0 ≢ escape))
    → MatchOption r (has_escape text ≡ false) (IsLastEscape text)
IsLastEscape-found text None none = has_escape-none text none
IsLastEscape-found text (Some at) found = IsLastEscape-index text at found.0 found.1 found.2

-- a text has one last ESC
pub record SameParts (xs ys zs ws : List ℕ) : Type 0 where
  pub fronts : xs ≡ zs
  pub rests : ys ≡ ws

same_last : (xs ys zs ws : List ℕ) → xs ++ escape ∷ ys ≡ zs ++ escape ∷ ws → has_escape ys ≡ false → has_escape ws ≡ false → SameParts xs ys zs ws
same_last [] ys [] ws same none_y none_w = record { fronts = refl; rests = tails same }
same_last [] ys (z ∷ zs) ws same none_y none_w = absurd (escape_there zs ws (ap has_escape (sym (tails same)) ∙ none_y))
same_last (x ∷ xs) ys [] ws same none_y none_w = absurd (escape_there xs ys (ap has_escape (tails same) ∙ none_w))
same_last (x ∷ xs) ys (z ∷ zs) ws same none_y none_w =
    let others = same_last xs ys zs ws (tails same) none_y none_w in
    record { fronts = ap (λ c. c ∷ xs) (heads same) ∙ ap (λ cs. z ∷ cs) others.fronts; rests = others.rests }

-- ---- where no sequence reaches over the last ESC

-- no ESC comes before it
pub NoneReaches-none : (text behind : List ℕ) → has_escape text ≡ false → NoneReaches text behind
NoneReaches-none text behind none = λ before inside same r. escape_there before inside (ap has_escape (sym same) ∙ none)

-- no terminator begins with it
pub NoneReaches-other : (text behind : List ℕ) → ((after : List ℕ) → behind ≢ 0x5c ∷ after) → NoneReaches text behind
NoneReaches-other text behind other = λ before inside same r. other r.after (EndsString-Reaches inside behind r).behind_is

pub NoneReaches-byte : (text : List ℕ) (at : ℕ) → (slice_index text (at + 1) == 0x5c) ≡ false → NoneReaches (take at text) (drop (at + 1) text)
NoneReaches-byte text at other =
    NoneReaches-other (take at text) (drop (at + 1) text) (λ after same.
    let place : at + 1 ≡ (at + 1) + 0 = omega arith in
    eqb-false (slice_index text (at + 1)) 0x5c other (ap (λ n. get_or text n 0) place ∙ sym (get_or-drop (at + 1) text 0 0) ∙ ap (λ bs. get_or bs 0 0) same))

-- what begins with the ESC before it ends before it
NoneReaches-ended : (text behind : List ℕ) (at : ℕ) → IsLastEscape text at → at + (leading_piece (escape ∷ (drop (at + 1) text ++ escape ∷ behind))).1 ≤ length text → NoneReaches text behind
NoneReaches-ended text behind at is ended = λ before inside same r.
    (let ends = EndsString-Reaches inside behind r in
    let plain : has_escape inside ≡ false = ap has_escape ends.front_is ∙ has_escape-plain (ends.opener ∷ ends.string) (plain-open ends.opener ends.string ends.opened) in
    let parts = same_last (take at text) (drop (at + 1) text) before inside (sym is.here ∙ same) is.last plain in
    let place : length (take at text) ≡ length before = ap length parts.fronts in
    let len : length text ≡ length before + suc (length inside) = ap length same ∙ length-append before (escape ∷ inside) in
    let found : leading_piece (escape ∷ (inside ++ escape ∷ behind)) ≡ (r.kind, length r.form) =
    leading_piece-escape (escape ∷ (inside ++ escape ∷ behind)) refl ∙ ap at_escape r.spelled ∙ at_escape-HasForm r.kind r.form r.after r.has in
    let long : (leading_piece (escape ∷ (drop (at + 1) text ++ escape ∷ behind))).1 ≡ length r.form =
    ap (λ bs. (leading_piece (escape ∷ (bs ++ escape ∷ behind))).1) parts.rests ∙ ap (λ (f : Kind × ℕ). f.1) found in
    omega (arith, ended, place, is.before, len, long, r.longer))

-- ---- where the last sequence begins

parted : (text behind : List ℕ) → NoneReaches text behind → pieces (text ++ escape ∷ behind) ≡ pieces text ++ pieces (escape ∷ behind)
parted text behind none =
    pieces-ArePiecesOf (text ++ escape ∷ behind) (pieces text ++ pieces (escape ∷ behind))
    (ArePiecesOf-seam text behind (pieces text) (pieces (escape ∷ behind)) (ArePiecesOf-pieces text) (ArePiecesOf-pieces (escape ∷ behind)) none)

-- after so many bytes
IsLastSequence-behind : (text before rest : List ℕ) (at : ℕ) → text ≡ before ++ escape ∷ rest → length before ≡ at → NoneReaches before rest → has_escape (drop (leading_piece (escape ∷ rest)).1 (escape ∷ rest)) ≡ false → IsLastSequence text at
IsLastSequence-behind text before rest at spelled place none plain =
    let of_at : drop at text ≡ escape ∷ rest = ap (λ n. drop n text) (sym place) ∙ ap (λ bs. drop (length before) bs) spelled ∙ drop-append_seam before (escape ∷ rest) in
    let of_before : take at text ≡ before = ap (λ n. take n text) (sym place) ∙ ap (λ bs. take (length before) bs) spelled ∙ take-append_seam before (escape ∷ rest) in
    record {
      rest = rest;
      here = of_at;
      parted = ap pieces spelled ∙ parted before rest none ∙ ap (λ bs. pieces bs ++ pieces (escape ∷ rest)) (sym of_before) ∙ ap (λ bs. pieces (take at text) ++ pieces bs) (sym of_at);
      last = ap (λ bs. has_escape (drop (leading_piece bs).1 bs)) of_at ∙ plain;
    }

-- at the last ESC, where no sequence reaches over it
pub IsLastSequence-last : (text : List ℕ) (at : ℕ) → IsLastEscape text at → NoneReaches (take at text) (drop (at + 1) text) → IsLastSequence text at
IsLastSequence-last text at is none =
    IsLastSequence-behind text (take at text) (drop (at + 1) text) at is.here is.before none
    (has_escape-behind (leading_piece (escape ∷ drop (at + 1) text)).1 (drop (at + 1) text) (leading_piece-some (escape ∷ drop (at + 1) text)) is.last)

-- the text from the ESC before the last one on
from_escape : (text : List ℕ) (last at : ℕ) → IsLastEscape text last → IsLastEscape (take last text) at
    → text ≡ take at (take last text) ++ escape ∷ (drop (at + 1) (take last text) ++ escape ∷ drop (last + 1) text)
from_escape text last at is_last is =
    is_last.here
    ∙ ap (λ bs. bs ++ escape ∷ drop (last + 1) text) is.here
    ∙ append_assoc (take at (take last text)) (escape ∷ drop (at + 1) (take last text)) (escape ∷ drop (last + 1) text)

dropped : (text before rest : List ℕ) (at : ℕ) → text ≡ before ++ rest → length before ≡ at → drop at text ≡ rest
dropped text before rest at spelled place = ap (λ n. drop n text) (sym place) ∙ ap (λ bs. drop (length before) bs) spelled ∙ drop-append_seam before rest

-- the item at the ESC before the last one ends before that
pub NoneReaches-short : (text : List ℕ) (last at : ℕ) → IsLastEscape text last → IsLastEscape (take last text) at → at + (leading_piece (drop at text)).1 ≤ last → NoneReaches (take last text) (drop (last + 1) text)
NoneReaches-short text last at is_last is short =
    let rest : List ℕ = escape ∷ (drop (at + 1) (take last text) ++ escape ∷ drop (last + 1) text) in
    let same : drop at text ≡ rest = dropped text (take at (take last text)) rest at (from_escape text last at is_last is) is.before in
    let len : (leading_piece (drop at text)).1 ≡ (leading_piece rest).1 = ap (λ bs. (leading_piece bs).1) same in
    NoneReaches-ended (take last text) (drop (last + 1) text) at is (omega (arith, len, short, is_last.before))

-- the item at the ESC before the last one ends after that
reaching : (inside behind : List ℕ) (found : Option (Kind × ℕ)) → sequence_front (escape ∷ (inside ++ escape ∷ behind)) ≡ found → suc (length inside) < (unwrap_or found (Broken, 1)).1
    → (r : Reaches (escape ∷ inside) behind) × ((unwrap_or found (Broken, 1)).1 ≡ length r.form)
reaching inside behind None is longer = absurd (omega arith)
reaching inside behind (Some found) is longer =
    let at : FormAtFront (escape ∷ (inside ++ escape ∷ behind)) found = FormAtFront-sequence_front (inside ++ escape ∷ behind) found is in
    (record { kind = found.0; form = at.form; after = at.after; has = at.has; spelled = at.spelled; longer = (let long : length (escape ∷ inside) < length at.form = omega (arith, longer, at.counted) in long) }, at.counted)

pub IsLastSequence-opened : (text : List ℕ) (last at : ℕ) → IsLastEscape text last → IsLastEscape (take last text) at → last < at + (leading_piece (drop at text)).1 → IsLastSequence text at
unfolding at_escape
IsLastSequence-opened text last at is_last is long =
    let before : List ℕ = take at (take last text) in
    let inside : List ℕ = drop (at + 1) (take last text) in
    let behind : List ℕ = drop (last + 1) text in
    let rest : List ℕ = inside ++ escape ∷ behind in
    let spelled : text ≡ before ++ escape ∷ rest = from_escape text last at is_last is in
    let same : drop at text ≡ escape ∷ rest = dropped text before (escape ∷ rest) at spelled is.before in
    let found : leading_piece (drop at text) ≡ unwrap_or (sequence_front (escape ∷ rest)) (Broken, 1) = ap leading_piece same ∙ leading_piece-escape (escape ∷ rest) refl in
    let len : length (take last text) ≡ length before + suc (length inside) = ap length is.here ∙ length-append before (escape ∷ inside) in
    let size : (leading_piece (drop at text)).1 ≡ (unwrap_or (sequence_front (escape ∷ rest)) (Broken, 1)).1 = ap (λ (f : Kind × ℕ). f.1) found in
    let reach = reaching inside behind (sequence_front (escape ∷ rest)) refl (omega (arith, long, len, size, is.before, is_last.before)) in
    let r = reach.0 in
    let ends = EndsString-Reaches inside behind r in
    let own : (leading_piece (escape ∷ rest)).1 ≡ length r.form = ap (λ (bs : List ℕ). (leading_piece bs).1) (sym same) ∙ size ∙ reach.1 in
    let after : drop (leading_piece (escape ∷ rest)).1 (escape ∷ rest) ≡ r.after =
    ap (λ n. drop n (escape ∷ rest)) own ∙ ap (λ bs. drop (length r.form) bs) r.spelled ∙ drop-append_seam r.form r.after in
    let plain : has_escape r.after ≡ false = (has_escape-append (0x5c ∷ []) r.after (ap has_escape (sym ends.behind_is) ∙ is_last.last)).1 in
    let first : rest ≡ ends.opener ∷ (ends.string ++ escape ∷ behind) = ap (λ bs. bs ++ escape ∷ behind) ends.front_is in
    IsLastSequence-behind text before rest at spelled is.before
    (NoneReaches-other before rest (λ others other. no_end ends.opener ends.string ends.opened (heads (sym first ∙ other))))
    (ap has_escape after ∙ plain)

-- ---- what the last sequence separates

pub strip-append : (ps qs : List Piece) → strip (ps ++ qs) ≡ strip ps ++ strip qs
strip-append ps qs = flat_map-append text_of ps qs

-- a text without ESC shows itself
pub strip-plain : (text : List ℕ) → has_escape text ≡ false → strip (pieces text) ≡ text
strip-plain text none = strip-without_escape text (pieces text) (ArePiecesOf-pieces text) none

-- a text shows what comes before its last sequence, and what comes after that
pub strip-last : (text before sequence behind : List ℕ) (at len : ℕ) → IsLastSequence text at → before ≡ take at text → sequence ≡ drop at text → len ≡ (leading_piece sequence).1 → behind ≡ drop len sequence
    → strip (pieces text) ≡ strip (pieces before) ++ behind
strip-last text before sequence behind at len is is_before is_sequence is_len is_behind =
    let starts : sequence ≡ escape ∷ is.rest = is_sequence ∙ is.here in
    let some : 0 < length sequence = (let size : length sequence ≡ suc (length is.rest) = ap length starts in omega (arith, size)) in
    let at_front : leading_piece sequence ≡ at_escape sequence = leading_piece-escape sequence (ap text_len starts) in
    let other : (leading_piece sequence).0 ≢ Text = λ same. (IsAtEscape-at_escape sequence).other (ap (λ (f : Kind × ℕ). f.0) (sym at_front) ∙ same) in
    let after : behind ≡ drop (leading_piece sequence).1 sequence = is_behind ∙ ap (λ n. drop n sequence) is_len in
    let plain : has_escape (drop (leading_piece sequence).1 sequence) ≡ false = ap (λ bs. has_escape (drop (leading_piece bs).1 bs)) is_sequence ∙ is.last in
    let shows : strip (pieces sequence) ≡ behind =
    ap strip (pieces-step sequence some)
    ∙ ap (λ bs. bs ++ strip (pieces (drop (leading_piece sequence).1 sequence))) (shown-sequence (leading_piece sequence).0 (take (leading_piece sequence).1 sequence) other)
    ∙ strip-plain (drop (leading_piece sequence).1 sequence) plain
    ∙ sym after in
    ap strip is.parted
    ∙ strip-append (pieces (take at text)) (pieces (drop at text))
    ∙ ap (λ bs. strip (pieces bs) ++ strip (pieces (drop at text))) (sym is_before)
    ∙ ap (λ bs. strip (pieces before) ++ strip (pieces bs)) (sym is_sequence)
    ∙ ap (λ bs. strip (pieces before) ++ bs) shows

-- the empty text shows nothing
pub strip-nothing : strip (pieces []) ≡ []
unfolding pieces first_pieces
strip-nothing = refl

-- the first item of a text, and what the text shows after it
pub strip-first : (text bytes behind : List ℕ) (items rest : List Item) (item : Item) → AreItemsOf text items → items ≡ item ∷ rest → bytes ≡ slice_range text 0 item.end → behind ≡ drop item.end text
    → strip (pieces text) ≡ shown item.kind bytes ++ strip (pieces behind)
strip-first text bytes behind items rest item are first own left =
    ap strip (IsFirstItem-items text items rest item are first).read
    ∙ ap (λ bs. shown item.kind bs ++ strip (pieces (drop item.end text))) (sym own)
    ∙ ap (λ bs. shown item.kind bytes ++ strip (pieces bs)) (sym left)

-- the first item has a byte
pub first-some : (text bytes : List ℕ) (items rest : List Item) (item : Item) → AreItemsOf text items → items ≡ item ∷ rest → bytes ≡ slice_range text 0 item.end → bytes ≡ [] → ⊥
first-some text bytes items rest item are first own empty =
    let found = IsFirstItem-items text items rest item are first in
    let size : length (take (item.end - 0) text) ≡ item.end - 0 = length-take-le (item.end - 0) text (omega (arith, found.within)) in
    let none : length (take (item.end - 0) text) ≡ 0 = ap length (sym own ∙ empty) in
    omega (arith, size, none, found.some)
