-- The first match of a pattern of one byte, over steps through a text.
use Rattle.std.proofs.Common.{◌≡◌, ℕ, zero, suc, ◌+◌, ◌<◌, ◌≤◌, ◌==◌, ◌&&◌, nat_lt, Bool, true, false, not, List, [], ◌∷◌, ◌++◌, length, take, drop, refl, ap, sym, subst, ◌∙◌, arith, Option, None, Some, eqb-true, if◌then◌else◌}
use Rattle.std.specs.List.{prefix_len, list_all}
use Rattle.std.specs.Option.{option_map}
use Rattle.std.specs.Prelude.{MatchOption, IfSome}
use Rattle.std.specs.Str.{IsUtf8, IsAscii, IsCharBoundary}
use Rattle.std.specs.Str.Pattern.{FindsText, HasTextAt, MatchBeginsAt}
use Rattle.std.proofs.Math.ListN.{get_or}
use Rattle.std.proofs.lemmas.Bool.{and_parts}
use Rattle.std.proofs.lemmas.Bool.Decides.{nat_tests}
use Rattle.std.proofs.lemmas.List.{length-take, length-drop, take-append-drop}
use Rattle.std.proofs.lemmas.List.Sums.{prefix_len-le-length, prefix_len_stops}
use Rattle.std.proofs.lemmas.Str.{IsUtf8-drop, IsUtf8-from_ascii, IsCharBoundary-start, IsCharBoundary-end, IsCharBoundary-before_ascii, IsCharBoundary-from_drop}
use Rattle.ansi_scan.specs.Sequences.{escape, is_not_escape}
use Rattle.ansi_scan.specs.Pieces.{pieces, text_len}
use Rattle.ansi_scan.proofs.Existence.{ArePiecesOf-pieces}
use Rattle.ansi_scan.proofs.Uniqueness.{pieces-joined}
use Rattle.ansi_scan.proofs.Runs.{prefix_len-pass, prefix_len-fail, list_all-take_run, prefix_len-drop_run}
use Rattle.ansi_str_search.specs.Text.StyledText.{strip}
use Rattle.ansi_str_search.specs.Walking.{begins_with_escape, is_other, IsBehindFirst}
use Rattle.ansi_str_search.specs.PartsLeft.{matches_first, first_match, passed_over}
use Rattle.ansi_str_search.specs.Matches.{Occurs}
use Rattle.ansi_str_search.proofs.FirstMatch.{IsFirstOrNone, first_match-unique, first_match-ends}
use Rattle.ansi_str_search.proofs.PiecesAtPlaces.{strip-from}
use Rattle.ansi_str_search.proofs.Walks.{from-plain, strip_byte, take-strip, strip-sequence, escape_first, escape_ends}
use Rattle.ansi_str_search.proofs.Utf8.{EachUtf8-pieces, IsUtf8-strip}

-- ---- the first match of one byte

one_here : (c : ℕ) (bs : List ℕ) → c < 128 → first_match (c ∷ []) 0 (c ∷ bs) ≡ Some 0
unfolding first_match
one_here c bs low = ap (λ t. if t then Some 0 else option_map (λ n. suc n) (first_match (c ∷ []) 0 bs)) here
  where
    here : matches_first (c ∷ []) (c ∷ bs) ≡ true
    here = grind (arith, nat_tests)

one_past : (c b : ℕ) (bs : List ℕ) → (b == c) ≡ false → first_match (c ∷ []) 0 (b ∷ bs) ≡ option_map (λ n. suc n) (first_match (c ∷ []) 0 bs)
unfolding first_match
one_past c b bs other = ap (λ t. if t then Some 0 else option_map (λ n. suc n) (first_match (c ∷ []) 0 bs)) here
  where
    here : matches_first (c ∷ []) (b ∷ bs) ≡ false
    here = grind (arith, nat_tests)

one_nowhere : (c : ℕ) → first_match (c ∷ []) 0 [] ≡ None
unfolding first_match
one_nowhere c = refl

-- counts of bytes that were passed add up
counts : (k n : ℕ) (o : Option ℕ) → option_map (λ m. k + m) (option_map (λ m. n + m) o) ≡ option_map (λ m. k + n + m) o
counts k n None = refl
counts k n (Some m) = let sum : k + (n + m) ≡ k + n + m = omega arith in ap Some sum

count_suc : (k : ℕ) (o : Option ℕ) → option_map (λ m. suc m) (option_map (λ m. k + m) o) ≡ option_map (λ m. suc k + m) o
count_suc k None = refl
count_suc k (Some m) = let sum : suc (k + m) ≡ suc k + m = omega arith in ap Some sum

count_none : (o : Option ℕ) → o ≡ option_map (λ m. 0 + m) o
count_none None = refl
count_none (Some m) = let sum : m ≡ 0 + m = omega arith in ap Some sum

not_true : (a : Bool) → not a ≡ true → a ≡ false
not_true true e = cc e
not_true false e = refl

-- after bytes of which none is c
one_behind : (c : ℕ) (xs ys : List ℕ) → list_all (is_other c) xs ≡ true → first_match (c ∷ []) 0 (xs ++ ys) ≡ option_map (λ n. length xs + n) (first_match (c ∷ []) 0 ys)
one_behind c [] ys others = count_none (first_match (c ∷ []) 0 ys)
one_behind c (x ∷ xs) ys others =
    let parts = and_parts (is_other c x) (list_all (is_other c) xs) others in
    let other = not_true (x == c) (and_parts (is_not_escape x) (not (x == c)) parts.0).1 in
    one_past c x (xs ++ ys) other ∙ ap (option_map (λ n. suc n)) (one_behind c xs ys parts.1) ∙ count_suc (length xs) (first_match (c ∷ []) 0 ys)

-- ---- bytes of text of which none is c

run_tests : (c x : ℕ) (xs : List ℕ) (plain other : Bool) → is_not_escape x ≡ plain → is_other c x ≡ other → prefix_len (is_other c) xs ≤ prefix_len is_not_escape xs → prefix_len (is_other c) (x ∷ xs) ≤ prefix_len is_not_escape (x ∷ xs)
run_tests c x xs plain false e f others = let none = prefix_len-fail (is_other c) x xs f in omega (arith, none)
run_tests c x xs true true e f others =
    let here = prefix_len-pass (is_other c) x xs f in
    let all = prefix_len-pass is_not_escape x xs e in
    omega (arith, here, all, others)
run_tests c x xs false true e f others = let both : true ≡ false = sym f ∙ ap (λ t. t && not (x == c)) e in cc both

pub other_run : (c : ℕ) (t : List ℕ) → prefix_len (is_other c) t ≤ text_len t
other_run c [] = omega arith
other_run c (x ∷ xs) = run_tests c x xs (is_not_escape x) (is_other c x) refl refl (other_run c xs)

module _ (c : ℕ) (low : c < 128) (t : List ℕ) (k : ℕ) (is_run : k ≡ prefix_len (is_other c) t) where
  within : k ≤ text_len t
  within = omega (arith, is_run, other_run c t)

  pub other_fits : k ≤ length t
  other_fits = omega (arith, is_run, prefix_len-le-length (is_other c) t)

  others : list_all (is_other c) (take k t) ≡ true
  others = ap (λ n. list_all (is_other c) (take n t)) is_run ∙ list_all-take_run (is_other c) t

  pub parted : strip (pieces t) ≡ take k t ++ strip (pieces (drop k t))
  parted =
      sym (take-append-drop k (strip (pieces t)))
      ∙ ap (λ front. front ++ drop k (strip (pieces t))) (take-strip t k within)
      ∙ ap (λ bytes. take k t ++ bytes) (sym (strip-from k (pieces t)) ∙ ap strip (from-plain t k within))

  -- the first match comes after them
  pub match-behind_others : first_match (c ∷ []) 0 (strip (pieces t)) ≡ option_map (λ n. k + n) (first_match (c ∷ []) 0 (strip (pieces (drop k t))))
  match-behind_others =
      let fits = other_fits in
      let len : length (take k t) ≡ k = omega (arith, fits, length-take k t) in
      ap (first_match (c ∷ []) 0) parted ∙ one_behind c (take k t) (strip (pieces (drop k t))) others
      ∙ ap (λ n. option_map (λ m. n + m) (first_match (c ∷ []) 0 (strip (pieces (drop k t))))) len

  -- the next byte is ESC or c
  stops : k < length t → is_other c (get_or t k 0) ≡ false
  stops some =
      let inside_t : prefix_len (is_other c) t < length t = omega (arith, is_run, some) in
      ap (λ n. is_other c (get_or t n 0)) is_run ∙ prefix_len_stops (is_other c) t 0 inside_t

  ascii_tests : (b : ℕ) (is_escape is_c : Bool) → (b == escape) ≡ is_escape → (b == c) ≡ is_c → is_other c b ≡ false → b < 128
  ascii_tests b true is_c e f stop = let same = eqb-true b escape e in omega (arith, same)
  ascii_tests b false true e f stop = let same = eqb-true b c f in omega (arith, same, low)
  ascii_tests b false false e f stop = let both : true ≡ false = sym (ap (λ x. not x && not (b == c)) e ∙ ap (λ x. not x) f) ∙ stop in cc both

  -- the text can be cut there
  pub other_boundary : IsCharBoundary t k
  other_boundary = by (nat_lt k (length t)) refl
    where
      by : (inside_t : Bool) → nat_lt k (length t) ≡ inside_t → IsCharBoundary t k
      by true e =
          let some : k < length t = grind (arith, nat_tests) in
          let b = get_or t k 0 in
          IsCharBoundary-before_ascii t k some (ascii_tests b (b == escape) (b == c) refl refl (stops some))
      by false e =
          let over : length t ≤ k = grind (arith, nat_tests) in
          let fits = other_fits in
          let end : length t ≡ k = omega (arith, over, fits) in
          subst (IsCharBoundary t) end (IsCharBoundary-end t)

-- ---- where the walk ends

head_is : (c : ℕ) (t : List ℕ) → c < 128 → 0 < length t → get_or t 0 0 ≡ c → first_match (c ∷ []) 0 t ≡ Some 0
head_is c [] low some same = absurd (omega (arith, some))
head_is c (b ∷ bs) low some same = ap (λ x. first_match (c ∷ []) 0 (x ∷ bs)) same ∙ one_here c bs low

pub found_byte : (c : ℕ) (t : List ℕ) (b : ℕ) (bs : List ℕ) (is_c : Bool) → t ≡ b ∷ bs → (b == escape) ≡ false → is_other c b ≡ false → (b == c) ≡ is_c → b ≡ c
found_byte c t b bs true spelled plain stop e = eqb-true b c e
found_byte c t b bs false spelled plain stop e = let both : true ≡ false = sym (ap (λ x. not x && not (b == c)) plain ∙ ap (λ x. not x) e) ∙ stop in cc both

-- text begins with c
pub match-here : (c : ℕ) (t : List ℕ) → c < 128 → begins_with_escape t ≡ false → prefix_len (is_other c) t ≡ 0 → 0 < length t → first_match (c ∷ []) 0 (strip (pieces t)) ≡ Some 0
match-here c [] low plain stop some = absurd (omega (arith, some))
match-here c (b ∷ bs) low plain stop some =
    let inside_t : prefix_len (is_other c) (b ∷ bs) < length (b ∷ bs) = omega (arith, stop, some) in
    let other : is_other c b ≡ false = ap (λ n. is_other c (get_or (b ∷ bs) n 0)) (sym stop) ∙ prefix_len_stops (is_other c) (b ∷ bs) 0 inside_t in
    let same = found_byte c (b ∷ bs) b bs (b == c) refl plain other refl in
    let text : 0 < text_len (b ∷ bs) = let pass = prefix_len-pass is_not_escape b bs (ap not plain) in omega (arith, pass) in
    let byte = strip_byte (b ∷ bs) 0 text in
    head_is c (strip (pieces (b ∷ bs))) low byte.1 (byte.0 ∙ same)

-- nothing is found where nothing is
pub match-nowhere : (c : ℕ) (t : List ℕ) → length t ≡ 0 → first_match (c ∷ []) 0 (strip (pieces t)) ≡ None
match-nowhere c [] gone = ap (λ ps. first_match (c ∷ []) 0 (strip ps)) (pieces-joined [] tt) ∙ one_nowhere c
match-nowhere c (b ∷ bs) gone = absurd (omega (arith, gone))

-- ---- the walk

-- the first match in the text is that in the rest, once the bytes that were passed are counted
pub record SameMatch (c : ℕ) (rest : List ℕ) (passed : ℕ) (text : List ℕ) : Type 0 where
  pub found : option_map (λ n. passed + n) (first_match (c ∷ []) 0 (strip (pieces rest))) ≡ first_match (c ∷ []) 0 (strip (pieces text))
  pub fits : passed + length rest ≤ length text

module _ (c : ℕ) (low : c < 128) (rest : List ℕ) (passed : ℕ) (text : List ℕ) (same : SameMatch c rest passed text) (k : ℕ) (is_run : k ≡ prefix_len (is_other c) rest) (left : List ℕ) (is_left : left ≡ drop k rest) where
  behind_run : option_map (λ n. passed + k + n) (first_match (c ∷ []) 0 (strip (pieces left))) ≡ first_match (c ∷ []) 0 (strip (pieces text))
  behind_run =
      ap (λ bytes. option_map (λ n. passed + k + n) (first_match (c ∷ []) 0 (strip (pieces bytes)))) is_left
      ∙ sym (counts passed k (first_match (c ∷ []) 0 (strip (pieces (drop k rest)))))
      ∙ ap (option_map (λ n. passed + n)) (sym (match-behind_others c low rest k is_run)) ∙ same.found

  left_fits : passed + k + length left ≤ length text
  left_fits =
      let len : length left ≡ length (drop k rest) = ap length is_left in
      let h = other_fits c low rest k is_run in
      omega (arith, len, h, same.fits, length-drop k rest)

  pub SameMatch-run : SameMatch c left (passed + k) text
  SameMatch-run = record { found = behind_run; fits = left_fits }

  pub SameMatch-sequence : (behind : List ℕ) → IsBehindFirst (pieces left) (pieces behind) → begins_with_escape left ≡ true → length behind < length left → SameMatch c behind (passed + k) text
  SameMatch-sequence behind first escaped shorter =
      let h = left_fits in
      record {
        found = ap (λ bytes. option_map (λ n. passed + k + n) (first_match (c ∷ []) 0 bytes)) (sym (strip-sequence left behind first.first first.parted (escape_first left escaped).0)) ∙ behind_run;
        fits = omega (arith, h, shorter);
      }

  pub match-found : begins_with_escape left ≡ false → 0 < length left → Some (passed + k) ≡ first_match (c ∷ []) 0 (strip (pieces text))
  match-found plain some =
      let here : prefix_len (is_other c) left ≡ 0 = ap (prefix_len (is_other c)) is_left ∙ ap (λ n. prefix_len (is_other c) (drop n rest)) is_run ∙ prefix_len-drop_run (is_other c) rest in
      let whole : passed + k ≡ passed + k + 0 = omega arith in
      ap Some whole ∙ ap (option_map (λ n. passed + k + n)) (sym (match-here c left low plain here some)) ∙ behind_run

pub match-none : (c : ℕ) (rest : List ℕ) (passed : ℕ) (text : List ℕ) → SameMatch c rest passed text → length rest ≡ 0 → None ≡ first_match (c ∷ []) 0 (strip (pieces text))
match-none c rest passed text same gone = ap (option_map (λ n. passed + n)) (sym (match-nowhere c rest gone)) ∙ same.found

pub SameMatch-start : (c : ℕ) (text : List ℕ) → SameMatch c text 0 text
SameMatch-start c text = record { found = sym (count_none (first_match (c ∷ []) 0 (strip (pieces text)))); fits = omega arith }

pub not_empty : (n : ℕ) → false ≡ (n == 0) → 0 < n
not_empty n e = grind (arith, nat_tests)

-- ---- the first match of a text, as std finds it

HasTextAt-Occurs : (pattern text : List ℕ) (i j : ℕ) → HasTextAt pattern text i j → IsCharBoundary text i → Occurs pattern text i
HasTextAt-Occurs pattern text i j at boundary = record { behind = drop j text; stands = at.split; boundary = boundary }

found_text : (pattern text : List ℕ) (r : Option ℕ) → MatchOption r (FindsText pattern text None) (MatchBeginsAt (FindsText pattern) text) → IsFirstOrNone pattern text 0 r
found_text pattern text None lacks = λ at low occurs. lacks at occurs.boundary.0 occurs.behind occurs.stands
found_text pattern text (Some i) begins = record {
  not_before = omega arith;
  occurs = HasTextAt-Occurs pattern text i begins.0 begins.1.1 begins.3;
  first = λ other low less occurs. begins.1.0 other less occurs.behind occurs.stands;
}

pub first_match-found : (pattern text : List ℕ) (r : Option ℕ) → MatchOption r (FindsText pattern text None) (MatchBeginsAt (FindsText pattern) text) → r ≡ first_match pattern 0 text
first_match-found pattern text r found = sym (first_match-unique pattern 0 text r (found_text pattern text r found))

-- ---- the first character

text_end : (t : List ℕ) → IsCharBoundary t (text_len t)
text_end t = by (nat_lt (text_len t) (length t)) refl
  where
    by : (some : Bool) → nat_lt (text_len t) (length t) ≡ some → IsCharBoundary t (text_len t)
    by true e = let inside_t : text_len t < length t = grind (arith, nat_tests) in IsCharBoundary-before_ascii t (text_len t) inside_t (escape_ends t (text_len t) inside_t refl)
    by false e =
        let over : length t ≤ text_len t = grind (arith, nat_tests) in
        let end : length t ≡ text_len t = omega (arith, over, prefix_len-le-length is_not_escape t) in
        subst (IsCharBoundary t) end (IsCharBoundary-end t)

module _ (t : List ℕ) (k : ℕ) (utf8 : IsUtf8 t) (text : 0 < text_len t) (some : 1 ≤ k) (boundary : IsCharBoundary t k) (nearest : (i : ℕ) → 1 ≤ i → i < k → ¬ (IsCharBoundary t i)) where
  pub char_within : k ≤ text_len t
  char_within = by (nat_lt (text_len t) k) refl
    where
      by : (short : Bool) → nat_lt (text_len t) k ≡ short → k ≤ text_len t
      by true e = let less : text_len t < k = grind (arith, nat_tests) in absurd (nearest (text_len t) (omega arith) less (text_end t))
      by false e = grind (arith, nat_tests)

  strip_fits : k ≤ length (strip (pieces t))
  strip_fits =
      let len : length (take k (strip (pieces t))) ≡ length (take k t) = ap length (take-strip t k char_within) in
      omega (arith, len, length-take k (strip (pieces t)), length-take k t, boundary.0)

  strip_behind : IsUtf8 (drop k (strip (pieces t)))
  strip_behind =
      let behind = ArePiecesOf-pieces (drop k t) in
      let left = subst IsUtf8 (sym behind.joins) (IsUtf8-drop t k utf8 boundary) in
      subst IsUtf8 (ap strip (sym (from-plain t k char_within)) ∙ strip-from k (pieces t)) (IsUtf8-strip (pieces (drop k t)) (EachUtf8-pieces (pieces (drop k t)) behind.stand left))

  none_inside : (i : ℕ) → 1 ≤ i → i < k → ¬ (Occurs [] (strip (pieces t)) i)
  none_inside i low high occurs =
      let fits = char_within in
      let inside_text : i < text_len t = omega (arith, high, fits) in
      let byte = strip_byte t i inside_text in
      let len = prefix_len-le-length is_not_escape t in
      nearest i low high (omega (arith, inside_text, len), λ _. subst (λ b. 128 ≤ b → 192 ≤ b) byte.0 (occurs.boundary.1 byte.1))

  first_character-is : IsFirstOrNone [] (strip (pieces t)) 1 (Some k)
  first_character-is = record {
    not_before = some;
    occurs = record { behind = drop k (strip (pieces t)); stands = refl; boundary = IsCharBoundary-from_drop (strip (pieces t)) k strip_fits strip_behind };
    first = none_inside;
  }

  pub first_match-character : Some k ≡ first_match [] 1 (strip (pieces t))
  first_match-character = sym (first_match-unique [] 1 (strip (pieces t)) (Some k) first_character-is)

-- an empty text has none
pub first_match-no_character : (t : List ℕ) → length t ≡ 0 → None ≡ first_match [] 1 (strip (pieces t))
unfolding first_match
first_match-no_character [] gone = ap (λ ps. first_match [] 1 (strip ps)) (sym (pieces-joined [] tt))
first_match-no_character (b ∷ bs) gone = absurd (omega (arith, gone))

-- a text that does not begin with a sequence begins with text
pub text_some : (t : List ℕ) → begins_with_escape t ≡ false → 0 < length t → 0 < text_len t
text_some [] plain some = absurd (omega (arith, some))
text_some (b ∷ bs) plain some = let pass = prefix_len-pass is_not_escape b bs (ap not plain) in omega (arith, pass)

-- ---- both ends of a match

pub IsUtf8-shown : (t : List ℕ) → IsUtf8 t → IsUtf8 (strip (pieces t))
IsUtf8-shown t utf8 = let are = ArePiecesOf-pieces t in IsUtf8-strip (pieces t) (EachUtf8-pieces (pieces t) are.stand (subst IsUtf8 (sym are.joins) utf8))

pub match_ends : (pattern : List ℕ) (from : ℕ) (text : List ℕ) (r : Option ℕ) → IsUtf8 pattern → IsUtf8 text → r ≡ first_match pattern from text → IfSome r (λ n. IsCharBoundary text (n + length pattern))
match_ends pattern from text None utf8 utf8_text same = tt
match_ends pattern from text (Some n) utf8 utf8_text same = first_match-ends pattern from text n (sym same) utf8 utf8_text

pub IsUtf8-byte : (c : ℕ) → c < 128 → IsUtf8 (c ∷ [])
IsUtf8-byte c low = IsUtf8-from_ascii (c ∷ []) (one c low)
  where
    one : (c : ℕ) → c < 128 → IsAscii (c ∷ [])
    one c low zero = low
    one c low (suc i) = omega arith

pub passed_over-some : (begun : Bool) (pattern : List ℕ) → 0 < length pattern → passed_over begun pattern ≡ 0
passed_over-some false pattern some = refl
passed_over-some true [] some = absurd (omega (arith, some))
passed_over-some true (b ∷ bs) some = refl

-- the empty pattern matches where the text begins
pub match-empty_first : (text : List ℕ) → IsUtf8 text → Some 0 ≡ first_match [] 0 text
match-empty_first text utf8 = sym (first_match-unique [] 0 text (Some 0) found)
  where
    found : IsFirstOrNone [] text 0 (Some 0)
    found = record {
      not_before = omega arith;
      occurs = record { behind = text; stands = refl; boundary = IsCharBoundary-start text utf8 };
      first = λ other low less _. omega (arith, less);
    }
