-- The units of a line, read word by word.
use Rattle.std.proofs.Common.{◌≡◌, ◌≤◌, ◌<◌, ℕ, suc, ◌+◌, Bool, true, false, cond, nat_le, List, [], ◌∷◌, ◌++◌, length, map, flat_map, refl, ap, sym, subst, ◌∙◌, arith, append-nil, eqb-true, not, min, max, take, drop, get_or, inl, inr, get_or, inl, inr, length-append, ◌⊎◌, ⊎_elim}
use Rattle.std.specs.Prelude.{chars, encode_utf8, encode_utf8_all}
use Rattle.std.specs.Str.{IsUtf8, IsCharBoundary}
use Rattle.std.specs.List.{AllByRecursion, join_by, join_with_byte, onto_first, prefix_len, slice_split}
use Rattle.std.proofs.Math.Seq.{take-append_seam, drop-append_seam, take-nil, drop-nil}
use Rattle.std.proofs.lemmas.List.{get_or-drop}
use Rattle.std.proofs.lemmas.Grind.{flat_map-append}
use Rattle.std.proofs.lemmas.Bool.Decides.{nat_tests}
use Rattle.std.proofs.lemmas.List.Splits.{slice_split-cons_no, length-slice_split, join_with_byte-slice_split}
use Rattle.std.proofs.lemmas.Str.{chars-nil, chars-append, chars_past_char, encodes-chars, encode_ascii, IsUtf8-encode, IsCharBoundary-after_ascii, IsCharBoundary-before_ascii, IsCharBoundary-end}
use Rattle.ansi_str_search.proofs.Chars.{Without-chars, hold_both}
use Rattle.grid_records_measure.specs.Measures.{cost, measure}
use Rattle.grid_records_measure.specs.Tabs.{space}
use Rattle.grid_records_measure.proofs.PrintableWidth.{measure-printable}
use Rattle.grid_records_measure.proofs.Plain.{one-column}
use Rattle.tabled_size_wrap.specs.Units.{LineUnit, character_unit, space_unit, word_units, is_space, line_units, placed_units}
use Rattle.tabled_size_wrap.specs.Words.{IsWord, EndsWord, AreWordAndRest}

-- ---- what a space costs

pub printable-cost : (c : ℕ) → nat_le 0x20 c ≡ true → nat_le c 0x7e ≡ true → cost c ≡ 1
printable-cost c low high =
    let one = one-column c (grind (arith, nat_tests)) in
    omega (arith, one)

space-cost : cost space ≡ 1
space-cost = printable-cost space refl refl

space-character : character_unit space ≡ space_unit
space-character = ap (λ n. record { text = space ∷ []; cost = n }) space-cost

no-bytes : (bytes : List ℕ) → length bytes ≡ 0 → bytes ≡ []
no-bytes [] none = refl
no-bytes (b ∷ bs) none = absurd (omega (arith, none))

-- ---- a line by its words

-- the parts after the first, where it ends before a space
others : List ℕ → List (List ℕ)
others [] = []
others (b ∷ bs) = slice_split is_space bs

split-rest : (rest : List ℕ) → EndsWord rest → slice_split is_space rest ≡ [] ∷ others rest
unfolding others
split-rest [] ends = refl
split-rest (b ∷ bs) ends = ap (λ c. slice_split is_space (c ∷ bs)) ends

split-word : (word rest : List ℕ) → IsWord word → EndsWord rest → slice_split is_space (word ++ rest) ≡ word ∷ others rest
split-word [] rest is ends = split-rest rest ends
split-word (c ∷ word) rest is ends =
    slice_split-cons_no is_space c (word ++ rest) is.0 ∙ ap (onto_first c) (split-word word rest is.1 ends)

module _ (width : ℕ) where
  abbrev kept : List ℕ → List LineUnit
  kept line = line_units width true line

  joined : List (List ℕ) → List LineUnit
  joined parts = join_by (word_units width) (space_unit ∷ []) parts

  pub kept-word : (word rest : List ℕ) → IsWord word → EndsWord rest → kept (word ++ rest) ≡ word_units width word ++ kept rest
  unfolding joined
  kept-word word rest is ends =
      ap joined (split-word word rest is ends) ∙ ap (λ (us : List LineUnit). word_units width word ++ us) (sym (ap joined (split-rest rest ends)))

  behind-space : (parts : List (List ℕ)) → 0 < length parts → flat_map (λ part. (space_unit ∷ []) ++ word_units width part) parts ≡ space_unit ∷ joined parts
  unfolding joined
  behind-space [] some = absurd (omega (arith, some))
  behind-space (part ∷ parts) some = refl

  pub kept-space : (cs : List ℕ) → kept (space ∷ cs) ≡ space_unit ∷ kept cs
  unfolding joined
  kept-space cs =
      let some : 0 < length (slice_split is_space cs) = omega (arith, length-slice_split is_space cs) in
      behind-space (slice_split is_space cs) some

  -- ---- by bytes

  ends-chars : (rest : List ℕ) → IsUtf8 rest → EndsWord rest → EndsWord (chars rest)
  ends-chars [] utf8 ends = subst EndsWord (sym chars-nil) tt
  ends-chars (b ∷ bs) utf8 ends =
      let low : b < 128 = omega (arith, ends) in
      let spelled : b ∷ bs ≡ encode_utf8 b ++ bs = ap (λ bytes. bytes ++ bs) (sym (encode_ascii b low)) in
      subst EndsWord (sym (chars_past_char (b ∷ bs) bs b utf8 spelled)) ends

  space-chars : chars (space ∷ []) ≡ space ∷ []
  space-chars =
      let low : space < 128 = omega arith in
      let spelled : space ∷ [] ≡ encode_utf8 space ++ [] = sym (append-nil (encode_utf8 space) ∙ encode_ascii space low) in
      let utf8 : IsUtf8 (space ∷ []) = subst IsUtf8 (encode_ascii space low) (IsUtf8-encode space refl) in
      chars_past_char (space ∷ []) [] space utf8 spelled ∙ ap (λ (cs : List ℕ). space ∷ cs) chars-nil

  -- characters that are units, and after them text whose words are kept
  abbrev pub left : List ℕ → List ℕ → List LineUnit
  left characters words = map character_unit (chars characters) ++ kept (chars words)

  pub left-first : (characters rest words : List ℕ) (c : ℕ) → chars characters ≡ c ∷ chars rest → left characters words ≡ character_unit c ∷ left rest words
  left-first characters rest words c first = ap (λ cs. map character_unit cs ++ kept (chars words)) first

  pub left-none : (words : List ℕ) → left [] words ≡ kept (chars words)
  left-none words = ap (λ cs. map character_unit cs ++ kept (chars words)) chars-nil

  abbrev whole : List ℕ → LineUnit
  whole cs = record { text = cs; cost = measure cs }

  units-fit : (cs : List ℕ) → 0 < length cs → measure cs ≤ width → word_units width cs ≡ whole cs ∷ []
  units-fit [] some fits = absurd (omega (arith, some))
  units-fit (c ∷ cs) some fits =
      let test : nat_le (measure (c ∷ cs)) width ≡ true = grind (arith, nat_tests) in
      ap (λ b. cond b (whole (c ∷ cs) ∷ []) (map character_unit (c ∷ cs))) test

  units-long : (cs : List ℕ) → width < measure cs → word_units width cs ≡ map character_unit cs
  units-long [] long = refl
  units-long (c ∷ cs) long =
      let test : nat_le (measure (c ∷ cs)) width ≡ false = grind (arith, nat_tests) in
      ap (λ b. cond b (whole (c ∷ cs) ∷ []) (map character_unit (c ∷ cs))) test

  pub some-chars : (word : List ℕ) → IsUtf8 word → 0 < length word → 0 < length (chars word)
  some-chars word utf8 some = by (chars word) refl
    where
      by : (cs : List ℕ) → chars word ≡ cs → 0 < length cs
      by [] e = let none = ap length (sym (encodes-chars word utf8) ∙ ap encode_utf8_all e) in absurd (omega (arith, some, none))
      by (c ∷ cs) e = omega arith

  space-whole : whole (space ∷ []) ≡ space_unit
  space-whole = ap (λ n. record { text = space ∷ []; cost = n }) (sym (ap measure space-chars) ∙ measure-printable (space ∷ []) refl)

  module _ (words word rest : List ℕ) (are : AreWordAndRest words word rest) where
    both : chars words ≡ chars word ++ chars rest
    both = ap chars are.parted ∙ chars-append word rest are.word_text

    space-first : word ≡ space ∷ [] → chars word ≡ space ∷ []
    space-first e = ap chars e ∙ space-chars

    by-space : word ≡ space ∷ [] → kept (chars words) ≡ space_unit ∷ kept (chars rest)
    by-space e = ap kept (both ∙ ap (λ cs. cs ++ chars rest) (space-first e)) ∙ kept-space (chars rest)

    by-word : IsWord word × EndsWord rest → kept (chars words) ≡ word_units width (chars word) ++ kept (chars rest)
    by-word is =
        let low : space < 128 = omega arith in
        ap kept both ∙ kept-word (chars word) (chars rest) (Without-chars space word low are.word_text is.0) (ends-chars rest are.rest_text is.1)

    -- a word that fits is one unit
    pub kept-fits : 0 < length word → measure (chars word) ≤ width → kept (chars words) ≡ record { text = chars word; cost = measure (chars word) } ∷ kept (chars rest)
    kept-fits some fits =
        ⊎_elim
        (λ e. by-space e ∙ ap (λ (u : LineUnit). u ∷ kept (chars rest)) (sym (ap whole (space-first e) ∙ space-whole)))
        (λ is. by-word is ∙ ap (λ (us : List LineUnit). us ++ kept (chars rest)) (units-fit (chars word) (some-chars word are.word_text some) fits))
        are.is_word

    -- a longer one is divided
    pub kept-long : width < measure (chars word) → kept (chars words) ≡ left word rest
    kept-long long =
        ⊎_elim
        (λ e. by-space e ∙ ap (λ (u : LineUnit). u ∷ kept (chars rest)) (sym space-character) ∙ sym (ap (λ cs. map character_unit cs ++ kept (chars rest)) (space-first e)))
        (λ is. by-word is ∙ ap (λ (us : List LineUnit). us ++ kept (chars rest)) (units-long (chars word) long))
        are.is_word

    -- without a word nothing is left
    pub kept-none : length word ≡ 0 → kept (chars words) ≡ left word rest
    kept-none none =
        let word-none : word ≡ [] = no-bytes word none in
        ap kept (both ∙ ap (λ bytes. chars bytes ++ chars rest) word-none ∙ ap (λ (cs : List ℕ). cs ++ chars rest) chars-nil)
        ∙ sym (left-none rest) ∙ ap (λ bytes. left bytes rest) (sym word-none)

-- ---- the units with their places

module _ (width place : ℕ) where
  -- a word that fits comes off the start
  pub placed-word : (characters words word rest : List ℕ) → AreWordAndRest words word rest → length characters ≡ 0 → 0 < length word → measure (chars word) ≤ width
      → placed_units place (left width characters words)
      ≡ record { start = place; end = place + length word; cost = measure (chars word) } ∷ placed_units (place + length word) (left width characters rest)
  placed-word characters words word rest are none some fits =
      let empty = no-bytes characters none in
      let len : length (encode_utf8_all (chars word)) ≡ length word = ap length (encodes-chars word are.word_text) in
      ap (λ bytes. placed_units place (left width bytes words)) empty
      ∙ ap (placed_units place) (left-none width words ∙ kept-fits width words word rest are some fits ∙ ap (λ (us : List LineUnit). record { text = chars word; cost = measure (chars word) } ∷ us) (sym (left-none width rest)))
      ∙ ap (λ n. record { start = place; end = place + n; cost = measure (chars word) } ∷ placed_units (place + n) (left width [] rest)) len
      ∙ sym (ap (λ bytes. record { start = place; end = place + length word; cost = measure (chars word) } ∷ placed_units (place + length word) (left width bytes rest)) empty)

  -- any other is divided
  pub placed-divided : (characters words word rest : List ℕ) → AreWordAndRest words word rest → length characters ≡ 0 → (length word ≡ 0 ⊎ (width < measure (chars word)))
      → placed_units place (left width characters words) ≡ placed_units place (left width word rest)
  placed-divided characters words word rest are none why =
      ap (λ bytes. placed_units place (left width bytes words)) (no-bytes characters none)
      ∙ ap (placed_units place) (left-none width words ∙ ⊎_elim (kept-none width words word rest are) (kept-long width words word rest are) why)

  -- a character comes off the start
  pub placed-character : (characters rest words : List ℕ) (c : ℕ) → chars characters ≡ c ∷ chars rest
      → placed_units place (left width characters words)
      ≡ record { start = place; end = place + length (encode_utf8 c); cost = cost c } ∷ placed_units (place + length (encode_utf8 c)) (left width rest words)
  placed-character characters rest words c first =
      let len : length (encode_utf8_all (c ∷ [])) ≡ length (encode_utf8 c) = ap length (append-nil (encode_utf8 c)) in
      ap (placed_units place) (left-first width characters rest words c first)
      ∙ ap (λ n. record { start = place; end = place + n; cost = cost c } ∷ placed_units (place + n) (left width rest words)) len

  -- where no byte is left, no unit is
  pub placed-none : (characters words : List ℕ) → length characters ≡ 0 → length words ≡ 0 → placed_units place (left width characters words) ≡ []
  placed-none characters words none no-words =
      ap (λ bytes. placed_units place (left width bytes words)) (no-bytes characters none)
      ∙ ap (λ bytes. placed_units place (left width [] bytes)) (no-bytes words no-words)
      ∙ ap (placed_units place) (left-none width [] ∙ ap (kept width) chars-nil)

-- ---- the line that the units make up

abbrev pub texts : List LineUnit → List ℕ
texts units = flat_map (λ unit. unit.text) units

abbrev pub AllSome : List LineUnit → Type 0
AllSome units = AllByRecursion (λ (unit : LineUnit). 0 < length unit.text) units

texts-characters : (cs : List ℕ) → texts (map character_unit cs) ≡ cs
texts-characters [] = refl
texts-characters (c ∷ cs) = ap (λ (others : List ℕ). c ∷ others) (texts-characters cs)

some-characters : (cs : List ℕ) → AllSome (map character_unit cs)
some-characters [] = tt
some-characters (c ∷ cs) = (omega arith, some-characters cs)

texts-word : (width : ℕ) (word : List ℕ) → texts (word_units width word) ≡ word
texts-word width [] = refl
texts-word width (c ∷ cs) = by (nat_le (measure (c ∷ cs)) width)
  where
    by : (fits : Bool) → texts (cond fits (record { text = c ∷ cs; cost = measure (c ∷ cs) } ∷ []) (map character_unit (c ∷ cs))) ≡ c ∷ cs
    by true = append-nil (c ∷ cs)
    by false = texts-characters (c ∷ cs)

some-word : (width : ℕ) (word : List ℕ) → AllSome (word_units width word)
some-word width [] = tt
some-word width (c ∷ cs) = by (nat_le (measure (c ∷ cs)) width)
  where
    by : (fits : Bool) → AllSome (cond fits (record { text = c ∷ cs; cost = measure (c ∷ cs) } ∷ []) (map character_unit (c ∷ cs)))
    by true = (omega arith, tt)
    by false = some-characters (c ∷ cs)

texts-behind : (width : ℕ) (parts : List (List ℕ)) → texts (flat_map (λ part. (space_unit ∷ []) ++ word_units width part) parts) ≡ flat_map (λ part. space ∷ part) parts
texts-behind width [] = refl
texts-behind width (part ∷ parts) =
    flat_map-append (λ (unit : LineUnit). unit.text) ((space_unit ∷ []) ++ word_units width part) (flat_map (λ others. (space_unit ∷ []) ++ word_units width others) parts)
    ∙ ap (λ (cs : List ℕ). (space ∷ cs) ++ texts (flat_map (λ others. (space_unit ∷ []) ++ word_units width others) parts)) (texts-word width part)
    ∙ ap (λ (cs : List ℕ). (space ∷ part) ++ cs) (texts-behind width parts)

some-behind : (width : ℕ) (parts : List (List ℕ)) → AllSome (flat_map (λ part. (space_unit ∷ []) ++ word_units width part) parts)
some-behind width [] = tt
some-behind width (part ∷ parts) =
    hold_both (λ (unit : LineUnit). 0 < length unit.text) ((space_unit ∷ []) ++ word_units width part) (flat_map (λ others. (space_unit ∷ []) ++ word_units width others) parts)
    (omega arith, some-word width part) (some-behind width parts)

joined-parts : (parts : List (List ℕ)) (part : List ℕ) → part ++ flat_map (λ others. space ∷ others) parts ≡ join_with_byte space (part ∷ parts)
joined-parts [] part = append-nil part
joined-parts (next ∷ parts) part = ap (λ (cs : List ℕ). part ++ space ∷ cs) (joined-parts parts next)

texts-join : (width : ℕ) (parts : List (List ℕ)) → texts (join_by (word_units width) (space_unit ∷ []) parts) ≡ join_with_byte space parts
texts-join width [] = refl
texts-join width (part ∷ parts) =
    flat_map-append (λ (unit : LineUnit). unit.text) (word_units width part) (flat_map (λ others. (space_unit ∷ []) ++ word_units width others) parts)
    ∙ ap (λ (cs : List ℕ). cs ++ texts (flat_map (λ others. (space_unit ∷ []) ++ word_units width others) parts)) (texts-word width part)
    ∙ ap (λ (cs : List ℕ). part ++ cs) (texts-behind width parts)
    ∙ joined-parts parts part

some-join : (width : ℕ) (parts : List (List ℕ)) → AllSome (join_by (word_units width) (space_unit ∷ []) parts)
some-join width [] = tt
some-join width (part ∷ parts) =
    hold_both (λ (unit : LineUnit). 0 < length unit.text) (word_units width part) (flat_map (λ others. (space_unit ∷ []) ++ word_units width others) parts)
    (some-word width part) (some-behind width parts)

pub texts-units : (width : ℕ) (keep_words : Bool) (line : List ℕ) → texts (line_units width keep_words line) ≡ line
texts-units width true line = texts-join width (slice_split is_space line) ∙ join_with_byte-slice_split space line
texts-units width false line = texts-characters line

pub some-units : (width : ℕ) (keep_words : Bool) (line : List ℕ) → AllSome (line_units width keep_words line)
some-units width true line = some-join width (slice_split is_space line)
some-units width false line = some-characters line

-- ---- the start of a line in bytes

module _ (text : List ℕ) where
  -- the bytes before the first space
  abbrev pub front_len : ℕ
  front_len = prefix_len (λ b. not (is_space b)) text

  pub record IsFrontOf (front rest : List ℕ) : Type 0 where
    pub parted : text ≡ front ++ rest
    pub is_word : IsWord front
    pub ends : EndsWord rest
    pub len : front_len ≡ length front

pub front-of : (text : List ℕ) → (front : List ℕ) × (rest : List ℕ) × IsFrontOf text front rest
front-of [] = ([], [], record { parted = refl; is_word = tt; ends = tt; len = refl })
front-of (b ∷ bs) = by (is_space b) refl (front-of bs)
  where
    by : (space_first : Bool) → is_space b ≡ space_first → ((front : List ℕ) × (rest : List ℕ) × IsFrontOf bs front rest) → (front : List ℕ) × (rest : List ℕ) × IsFrontOf (b ∷ bs) front rest
    by true e others = ([], b ∷ bs, record { parted = refl; is_word = tt; ends = eqb-true b space e; len = ap (λ t. cond (not t) (1 + front_len bs) 0) e })
    by false e others =
        let is = others.2 in
        let len : cond (not (is_space b)) (1 + front_len bs) 0 ≡ suc (length others.0) = ap (λ t. cond (not t) (1 + front_len bs) 0) e ∙ omega (arith, is.len) in
        (b ∷ others.0, others.1, record { parted = ap (λ (cs : List ℕ). b ∷ cs) is.parted; is_word = (e, is.is_word); ends = is.ends; len = len })

module _ (text : List ℕ) (n : ℕ) (len : n ≡ min (max (front_len text) 1) (length text)) where
  module _ (word rest : List ℕ) (word_text : IsUtf8 word) (rest_text : IsUtf8 rest) where
    -- a space comes first
    by-first : (b : ℕ) (bs : List ℕ) → text ≡ b ∷ bs → b ≡ space → n ≡ 1 → word ≡ take n text → rest ≡ drop n text → AreWordAndRest text word rest
    by-first b bs same first one is_word is_rest =
        let word-is : word ≡ space ∷ [] = is_word ∙ ap (λ k. take k text) one ∙ ap (take 1) same ∙ ap (λ (c : ℕ). c ∷ []) first in
        let rest-is : rest ≡ bs = is_rest ∙ ap (λ k. drop k text) one ∙ ap (drop 1) same in
        record {
          parted = same ∙ ap (λ (c : ℕ). c ∷ bs) first ∙ sym (ap (λ (cs : List ℕ). cs ++ rest) word-is ∙ ap (λ (cs : List ℕ). space ∷ cs) rest-is);
          is_word = inl word-is;
          word_text = word_text;
          rest_text = rest_text;
          some = λ some. let one-long = ap length word-is in omega (arith, one-long);
        }

    nothing : text ≡ [] → word ≡ take n text → rest ≡ drop n text → AreWordAndRest text word rest
    nothing none is_word is_rest =
        let word-none : word ≡ [] = is_word ∙ ap (take n) none ∙ take-nil n in
        let rest-none : rest ≡ [] = is_rest ∙ ap (drop n) none ∙ drop-nil n in
        record {
          parted = none ∙ sym (ap (λ (cs : List ℕ). cs ++ rest) word-none ∙ rest-none);
          is_word = inr (subst IsWord (sym word-none) tt, subst EndsWord (sym rest-none) tt);
          word_text = word_text;
          rest_text = rest_text;
          some = λ some. let zero-long = ap length none in absurd (omega (arith, some, zero-long));
        }

    some-word-first : (front behind : List ℕ) → IsFrontOf text front behind → 0 < length front → word ≡ take n text → rest ≡ drop n text → AreWordAndRest text word rest
    some-word-first front behind is some is_word is_rest =
        let long : length text ≡ length front + length behind = ap length is.parted ∙ length-append front behind in
        let at : n ≡ length front = omega (arith, len, is.len, long, some) in
        let word-is : word ≡ front = is_word ∙ ap (λ k. take k text) at ∙ ap (take (length front)) is.parted ∙ take-append_seam front behind in
        let rest-is : rest ≡ behind = is_rest ∙ ap (λ k. drop k text) at ∙ ap (drop (length front)) is.parted ∙ drop-append_seam front behind in
        record {
          parted = is.parted ∙ sym (ap (λ (cs : List ℕ). cs ++ rest) word-is ∙ ap (λ (cs : List ℕ). front ++ cs) rest-is);
          is_word = inr (subst IsWord (sym word-is) is.is_word, subst EndsWord (sym rest-is) is.ends);
          word_text = word_text;
          rest_text = rest_text;
          some = λ _. let same = ap length word-is in omega (arith, same, some);
        }

    pub split-word-is : word ≡ take n text → rest ≡ drop n text → AreWordAndRest text word rest
    split-word-is is_word is_rest = let found = front-of text in by found.0 found.1 found.2
      where
        first : (behind : List ℕ) → text ≡ behind → EndsWord behind → front_len text ≡ 0 → AreWordAndRest text word rest
        first [] same ends none = nothing same is_word is_rest
        first (b ∷ bs) same ends none =
            let long = ap length same in
            let one : n ≡ 1 = omega (arith, len, none, long) in
            by-first b bs same ends one is_word is_rest

        by : (front behind : List ℕ) → IsFrontOf text front behind → AreWordAndRest text word rest
        by [] behind is = first behind is.parted is.ends is.len
        by (b ∷ front) behind is = let some : 0 < length (b ∷ front) = omega arith in some-word-first (b ∷ front) behind is some is_word is_rest

  pub split-boundary : IsUtf8 text → IsCharBoundary text n
  split-boundary utf8 = let found = front-of text in by found.0 found.1 found.2
    where
      none : text ≡ [] → IsCharBoundary text n
      none same = let long = ap length same in let end : length text ≡ n = omega (arith, len, long) in subst (IsCharBoundary text) end (IsCharBoundary-end text)

      first : (behind : List ℕ) → text ≡ behind → EndsWord behind → front_len text ≡ 0 → IsCharBoundary text n
      first [] same ends zero-long = none same
      first (b ∷ bs) same ends zero-long =
          let long = ap length same in
          let one : 0 + 1 ≡ n = omega (arith, len, zero-long, long) in
          let some : 0 < length text = omega (arith, long) in
          let space-first : get_or text 0 0 ≡ space = ap (λ t. get_or t 0 0) same ∙ ends in
          let low : get_or text 0 0 < 128 = omega (arith, space-first) in
          subst (IsCharBoundary text) one (IsCharBoundary-after_ascii text 0 utf8 some low)

      before : (front behind : List ℕ) → text ≡ front ++ behind → EndsWord behind → n ≡ length front → IsCharBoundary text n
      before front [] same ends at =
          let long = ap length same ∙ ap length (append-nil front) in
          let end : length text ≡ n = omega (arith, long, at) in
          subst (IsCharBoundary text) end (IsCharBoundary-end text)
      before front (b ∷ bs) same ends at =
          let long = ap length same ∙ length-append front (b ∷ bs) in
          let inside : n < length text = omega (arith, long, at) in
          let here : drop n text ≡ b ∷ bs = ap (λ k. drop k text) at ∙ ap (drop (length front)) same ∙ drop-append_seam front (b ∷ bs) in
          let no-more : n ≡ n + 0 = omega arith in
          let first-of-drop : get_or text n 0 ≡ get_or (drop n text) 0 0 = ap (λ k. get_or text k 0) no-more ∙ sym (get_or-drop n text 0 0) in
          let space-here : get_or text n 0 ≡ space = first-of-drop ∙ ap (λ t. get_or t 0 0) here ∙ ends in
          let low : get_or text n 0 < 128 = omega (arith, space-here) in
          IsCharBoundary-before_ascii text n inside low

      by : (front behind : List ℕ) → IsFrontOf text front behind → IsCharBoundary text n
      by [] behind is = first behind is.parted is.ends is.len
      by (b ∷ front) behind is =
          let long : length text ≡ length (b ∷ front) + length behind = ap length is.parted ∙ length-append (b ∷ front) behind in
          let at : n ≡ length (b ∷ front) = omega (arith, len, is.len, long) in
          before (b ∷ front) behind is.parted is.ends at
