-- Fields and rows, one after the other.
use Rattle.std.proofs.Common.{◌≡◌, ◌∙◌, ◌<◌, ◌≤◌, ℕ, zero, suc, Bool, true, false, List, [], ◌∷◌, ◌++◌, Some, None, length, get_or, drop, sym, ap, subst, arith}
use Rattle.std.specs.List.{AllByRecursion}
use Rattle.std.specs.Prelude.{if◌then◌else◌, map}
use Rattle.std.proofs.lemmas.List.{append-nil, append_assoc, get_or_at, length-append, map_push}
use Rattle.ansi_scan.specs.Sequences.{EachStands, IsFirstBroken, Piece, joined}
use Rattle.ansi_scan.proofs.Uniqueness.{Stands-some}
use Rattle.csv.specs.Reading.{is_bom, records, strip_bom}
use Rattle.csv.specs.Records.{field_at}
use Rattle.csv.specs.declared.parser.Config.{Config}
use Rattle.program_options.specs.declared.basinmug.Escapes.{Escapes}
use Rattle.basinmug_cells.specs.Held.{Held, with_cell}
use Rattle.basinmug_input.specs.Reading.{HasByte}
use Rattle.basinmug_input.specs.Cleaning.{cleaned}
use Rattle.basinmug_input.specs.Flaws.{HasBrokenEscape, IsReadableField}
use Rattle.basinmug_input.specs.Rows.{HasShown, HaveShown, IsFirstFlawed}
use Rattle.basinmug_input.specs.declared.records.Flawed.{Flawed}
use Rattle.program_options.specs.declared.basinmug.Escapes.TheVariants.{Colors, All, None as NoEscapes}

-- a field by its place
pub field_at-some : (fs : List (List ℕ)) (i : ℕ) (f : List ℕ) → field_at fs i ≡ Some f → (i < length fs) × (get_or fs i [] ≡ f)
unfolding field_at
field_at-some [] i f e = cc e
field_at-some (x ∷ fs) zero f e = (omega arith, cc e)
field_at-some (x ∷ fs) (suc i) f e = let (below, is) = field_at-some fs i f e in (omega (arith, below), is)

pub field_at-none : (fs : List (List ℕ)) (i : ℕ) → field_at fs i ≡ None → length fs ≤ i
unfolding field_at
field_at-none [] i e = omega arith
field_at-none (x ∷ fs) zero e = cc e
field_at-none (x ∷ fs) (suc i) e = let low = field_at-none fs i e in omega (arith, low)

pub all-push : {A : Type 0} (P : A → Type 0) (xs : List A) (x : A) → AllByRecursion P xs → P x → AllByRecursion P (xs ++ x ∷ [])
all-push P [] x all here = (here, tt)
all-push P (y ∷ xs) x all here = (all.0, all-push P xs x all.1 here)

-- ---- cells, one after the other

-- no field yet
pub none-shown : (escapes : Escapes) (rows : Held) → HaveShown escapes [] rows rows
none-shown escapes rows = record { sound = tt; more = ap (λ (begun : List (List ℕ)). record rows { begun = begun }) (sym (append-nil rows.begun)) }

-- one field more
pub shown-push : (escapes : Escapes) (fields : List (List ℕ)) (here : List ℕ) (old rows new : Held) → HaveShown escapes fields old rows → HasShown escapes here rows new
    → HaveShown escapes (fields ++ here ∷ []) old new
shown-push escapes fields here old rows new known next = record {
  sound = all-push (IsReadableField escapes) fields here known.sound next.sound;
  more = next.more
      ∙ ap (λ (rows : Held). with_cell rows (cleaned escapes here)) known.more
      ∙ ap (λ (begun : List (List ℕ)). record old { begun = begun })
      (append_assoc old.begun (map (cleaned escapes) fields) (cleaned escapes here ∷ []) ∙ ap (λ (cells : List (List ℕ)). old.begun ++ cells) (sym (map_push (cleaned escapes) fields here)));
}

-- ---- the byte of a flaw is one of its field

pieces-below : (before : List Piece) (piece : Piece) (after : List Piece) → EachStands (before ++ piece ∷ after) → length (joined before) < length (joined (before ++ piece ∷ after))
pieces-below [] piece after stand =
    let some = Stands-some piece.kind piece.bytes after stand.0 in
    let size = length-append piece.bytes (joined after) in
    omega (arith, some, size)
pieces-below (p ∷ before) piece after stand =
    let more = pieces-below before piece after stand.1 in
    let old = length-append p.bytes (joined before) in
    let new = length-append p.bytes (joined (before ++ piece ∷ after)) in
    omega (arith, more, old, new)

pub broken-below : (field : List ℕ) (byte : ℕ) → IsFirstBroken field byte → byte < length field
broken-below field byte first =
    let below = pieces-below first.before first.broken first.after first.of_text.stand in
    let size = ap length first.of_text.joins in
    let place = first.place in
    omega (arith, below, size, place)

-- the first field with a flaw, in the records
pub has-byte : (escapes : Escapes) (cfg : Config) (text : List ℕ) (row : ℕ) (flawed : Flawed) (byte : ℕ) (first : IsFirstFlawed escapes cfg text row flawed)
    → byte < length first.flaw.here → HasByte cfg text row flawed.field byte
has-byte escapes cfg text row flawed byte first below =
    let in_row : get_or (records cfg text) row [] ≡ first.here =
    ap (λ (rows : List (List (List ℕ))). get_or rows row []) first.of_text ∙ get_or_at first.before first.here first.after [] row (sym first.place) in
    let in_field : get_or first.here flawed.field [] ≡ first.flaw.here =
    ap (λ (fields : List (List ℕ)). get_or fields flawed.field []) first.flaw.of_fields
    ∙ get_or_at first.flaw.before first.flaw.here first.flaw.behind [] flawed.field (sym first.flaw.place) in
    subst (λ (field : List ℕ). byte < length field) (sym (ap (λ (fields : List (List ℕ)). get_or fields flawed.field []) in_row ∙ in_field)) below

pub broken-first : (escapes : Escapes) (field : List ℕ) (byte : ℕ) → HasBrokenEscape escapes field byte → IsFirstBroken field byte
broken-first All field byte is = is.1
broken-first Colors field byte is = absurd is
broken-first NoEscapes field byte is = absurd is

-- ---- the byte order mark

pub mark-goes : (bs : List ℕ) → 3 ≤ length bs → is_bom (get_or bs 0 0) (get_or bs 1 0) (get_or bs 2 0) ≡ true → drop 3 bs ≡ strip_bom bs
unfolding strip_bom
mark-goes [] le e = absurd (omega (arith, le))
mark-goes (a ∷ []) le e = absurd (omega (arith, le))
mark-goes (a ∷ b ∷ []) le e = absurd (omega (arith, le))
mark-goes (a ∷ b ∷ c ∷ rest) le e = sym (ap (λ (m : Bool). if m then rest else a ∷ b ∷ c ∷ rest) e)

pub mark-stays : (bs : List ℕ) → 3 ≤ length bs → is_bom (get_or bs 0 0) (get_or bs 1 0) (get_or bs 2 0) ≡ false → bs ≡ strip_bom bs
unfolding strip_bom
mark-stays [] le e = absurd (omega (arith, le))
mark-stays (a ∷ []) le e = absurd (omega (arith, le))
mark-stays (a ∷ b ∷ []) le e = absurd (omega (arith, le))
mark-stays (a ∷ b ∷ c ∷ rest) le e = sym (ap (λ (m : Bool). if m then rest else a ∷ b ∷ c ∷ rest) e)
