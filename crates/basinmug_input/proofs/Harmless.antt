-- What is cleaned has no control character but line feeds, and an ESC only where a sequence begins that is allowed.
use Rattle.std.proofs.Common.{◌≡◌, ◌≢◌, ◌∙◌, ◌+◌, ◌<◌, ℕ, Bool, true, false, List, [], ◌∷◌, ◌++◌, inl, inr, refl, sym, ap, subst, arith, append-nil, chars, flat_map, map}
use Rattle.std.specs.Prelude.{◌==◌, ◌&&◌, ◌⊎◌, IsTrue, encode_utf8, encode_utf8_all, if◌then◌else◌, nat_lt, replicate}
use Rattle.std.specs.List.{AllByRecursion, list_all}
use Rattle.std.proofs.lemmas.Bool.Decides.{nat_tests}
use Rattle.std.proofs.lemmas.List.{append_assoc}
use Rattle.std.proofs.lemmas.Str.{encode_ascii}
use Rattle.ansi_scan.specs.Pieces.{pieces}
use Rattle.ansi_scan.specs.Sequences.{Piece}
use Rattle.csv.specs.Machine.{line_feed}
use Rattle.grid_records_measure.specs.Tabs.{space, tab}
use Rattle.program_options.specs.declared.basinmug.Escapes.{Escapes}
use Rattle.program_options.specs.declared.basinmug.Escapes.TheVariants.{Colors, All, None as NoEscapes}
use Rattle.basinmug_input.specs.Cleaning.{HasNoControls, HasOnly, always_stays, cleaned, cleaned_char, cleaned_piece, cleaned_text, delete, is_c1, is_dropped, is_kept, is_turned, may_stand, replacement, visible_char, without_returns}

-- ---- characters

encodes-append : (cs ds : List ℕ) → encode_utf8_all (cs ++ ds) ≡ encode_utf8_all cs ++ encode_utf8_all ds
encodes-append [] ds = refl
encodes-append (c ∷ cs) ds = ap (λ (bytes : List ℕ). encode_utf8 c ++ bytes) (encodes-append cs ds) ∙ sym (append_assoc (encode_utf8 c) (encode_utf8_all cs) (encode_utf8_all ds))

stay-append : (cs ds : List ℕ) → list_all always_stays cs ≡ true → list_all always_stays ds ≡ true → list_all always_stays (cs ++ ds) ≡ true
stay-append [] ds all others = others
stay-append (c ∷ cs) ds all others = first (always_stays c) (list_all always_stays cs) all (λ rest. stay-append cs ds rest others)
  where
    first : (here rest : Bool) → (here && rest) ≡ true → (rest ≡ true → list_all always_stays (cs ++ ds) ≡ true) → (here && list_all always_stays (cs ++ ds)) ≡ true
    first true rest both more = more both
    first false rest both more = cc both

pub none-nothing : HasNoControls []
none-nothing = record { characters = []; spelled = refl; each = refl }

pub none-append : (a b : List ℕ) → HasNoControls a → HasNoControls b → HasNoControls (a ++ b)
none-append a b one two = record {
  characters = one.characters ++ two.characters;
  spelled = encodes-append one.characters two.characters ∙ ap (λ (bytes : List ℕ). bytes ++ encode_utf8_all two.characters) one.spelled ∙ ap (λ (bytes : List ℕ). a ++ bytes) two.spelled;
  each = stay-append one.characters two.characters one.each two.each;
}

pub none-character : (c : ℕ) → always_stays c ≡ true → HasNoControls (encode_utf8 c)
none-character c stays = record { characters = c ∷ []; spelled = append-nil (encode_utf8 c); each = ap (λ (b : Bool). b && true) stays }

pub none-byte : (c : ℕ) → c < 128 → always_stays c ≡ true → HasNoControls (c ∷ [])
none-byte c low stays = subst HasNoControls (encode_ascii c low) (none-character c stays)

either : (b : Bool) (x y : List ℕ) → (b ≡ true → HasNoControls x) → (b ≡ false → HasNoControls y) → HasNoControls (if b then x else y)
either true x y first second = first refl
either false x y first second = second refl

picture : (c : ℕ) → nat_lt c 0x20 ≡ true → always_stays (0x2400 + c) ≡ true
picture c e = grind (arith, nat_tests, e)

other : (c : ℕ) → nat_lt c 0x20 ≡ false → (c == delete) ≡ false → is_c1 c ≡ false → always_stays c ≡ true
other c low no_delete no_c1 = grind (arith, nat_tests, low, no_delete, no_c1)

pub none-visible : (c : ℕ) → HasNoControls (visible_char c)
none-visible c =
    let high = if is_c1 c then encode_utf8 0xfffd else encode_utf8 c in
    let rest = if c == delete then encode_utf8 0x2421 else high in
    either (nat_lt c 0x20) (encode_utf8 (0x2400 + c)) rest (λ low. none-character (0x2400 + c) (picture c low))
    (λ low. either (c == delete) (encode_utf8 0x2421) high (λ is. none-character 0x2421 refl)
    (λ no_delete. either (is_c1 c) (encode_utf8 0xfffd) (encode_utf8 c) (λ is. none-character 0xfffd refl) (λ no_c1. none-character c (other c low no_delete no_c1))))

none-space : HasNoControls (space ∷ [])
none-space = none-byte space (omega arith) refl

none-spaces : HasNoControls (replicate 4 space)
none-spaces =
    none-append (space ∷ []) (space ∷ space ∷ space ∷ []) none-space
    (none-append (space ∷ []) (space ∷ space ∷ []) none-space (none-append (space ∷ []) (space ∷ []) none-space none-space))

none-cleaned : (escapes : Escapes) (c : ℕ) → HasNoControls (cleaned_char escapes c)
none-cleaned escapes c =
    let ordered = if is_turned escapes c then encode_utf8 replacement else visible_char c in
    let rest = if c == tab then replicate 4 space else ordered in
    either (c == line_feed) (line_feed ∷ []) rest (λ is. none-byte line_feed (omega arith) refl)
    (λ no_feed. either (c == tab) (replicate 4 space) ordered (λ is. none-spaces)
    (λ no_tab. either (is_turned escapes c) (encode_utf8 replacement) (visible_char c) (λ is. none-character replacement refl) (λ is. none-visible c)))

none-each : (escapes : Escapes) (cs : List ℕ) → HasNoControls (flat_map (cleaned_char escapes) cs)
none-each escapes [] = none-nothing
none-each escapes (c ∷ cs) = none-append (cleaned_char escapes c) (flat_map (cleaned_char escapes) cs) (none-cleaned escapes c) (none-each escapes cs)

pub none-text : (escapes : Escapes) (cs : List ℕ) → HasNoControls (cleaned_text escapes cs)
none-text escapes cs = none-each escapes (without_returns cs)

-- ---- pieces

-- what stays is allowed
stays-may : (escapes : Escapes) (p : Piece) → escapes ≢ All → is_kept escapes p ≡ true → IsTrue (may_stand escapes p.bytes)
stays-may All p not_all kept = absurd (not_all refl)
stays-may Colors p not_all kept = kept
stays-may NoEscapes p not_all kept = cc kept

piece-only : (escapes : Escapes) (p : Piece) → escapes ≢ All → IsTrue (may_stand escapes (cleaned_piece escapes p)) ⊎ HasNoControls (cleaned_piece escapes p)
piece-only escapes p not_all = by (is_kept escapes p) (is_dropped escapes p.bytes) (stays-may escapes p not_all)
  where
    shown : List ℕ
    shown = cleaned_text escapes (chars p.bytes)

    by : (kept dropped : Bool) → (kept ≡ true → IsTrue (may_stand escapes p.bytes))
        → IsTrue (may_stand escapes (if kept then p.bytes else if dropped then [] else shown)) ⊎ HasNoControls (if kept then p.bytes else if dropped then [] else shown)
    by true dropped may = inl (may refl)
    by false true may = inr none-nothing
    by false false may = inr (none-text escapes (chars p.bytes))

pieces-only : (escapes : Escapes) (ps : List Piece) → escapes ≢ All → HasOnly (may_stand escapes) (flat_map (cleaned_piece escapes) ps)
pieces-only escapes [] not_all = record { parts = []; joins = refl; each = tt }
pieces-only escapes (p ∷ ps) not_all =
    let others = pieces-only escapes ps not_all in
    record {
      parts = cleaned_piece escapes p ∷ others.parts;
      joins = ap (λ (bytes : List ℕ). cleaned_piece escapes p ++ bytes) others.joins;
      each = (piece-only escapes p not_all, others.each);
    }

pub field-only : (escapes : Escapes) (field : List ℕ) → escapes ≢ All → HasOnly (may_stand escapes) (cleaned escapes field)
field-only escapes field not_all = pieces-only escapes (pieces field) not_all

row-only : (escapes : Escapes) (fields : List (List ℕ)) → escapes ≢ All → AllByRecursion (HasOnly (may_stand escapes)) (map (cleaned escapes) fields)
row-only escapes [] not_all = tt
row-only escapes (field ∷ fields) not_all = (field-only escapes field not_all, row-only escapes fields not_all)

pub rows-only : (escapes : Escapes) (rows : List (List (List ℕ))) → escapes ≢ All → AllByRecursion (AllByRecursion (HasOnly (may_stand escapes))) (map (map (cleaned escapes)) rows)
rows-only escapes [] not_all = tt
rows-only escapes (row ∷ rows) not_all = (row-only escapes row not_all, rows-only escapes rows not_all)
