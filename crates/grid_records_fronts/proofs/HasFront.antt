-- Simple characters and emoji that a text begins with, one after the other.
use Rattle.std.proofs.Common.{◌≡◌, ℕ, ◌+◌, ◌-◌, ◌*◌, ◌/◌, ◌%◌, ◌≤◌, ◌<◌, zero, suc, cond, nat_lt, ◌&&◌, Bool, true, false, List, [], ◌∷◌, ◌++◌, length, drop, take, get_or, refl, ap, sym, subst, ◌∙◌, arith, zero-add, length-append, ⊎_elim}
use Rattle.std.specs.Prelude.{chars}
use Rattle.std.specs.List.{list_all}
use Rattle.std.proofs.lemmas.Bool.{and_parts, cases_lt, leb-true}
use Rattle.std.proofs.Math.Seq.{drop-append_seam, take-append_seam}
use Rattle.std.proofs.Math.Utf8.{encode, encodes}
use Rattle.std.proofs.lemmas.List.{get_or_append_left, get_or-append_right}
use Rattle.std.proofs.lemmas.List.Folds.{list_all-append}
use Rattle.std.proofs.lemmas.Str.{chars-encodes, encodes-append, length-le-encodes}
use Rattle.unicode_width.specs.declared.state.After.{After}
use Rattle.unicode_width.specs.declared.state.After.TheVariants.{Nothing}
use Rattle.unicode_width.specs.Width.{before, read_before, str_width}
use Rattle.grid_records_fronts.proofs.BoundsLemmas.Spaces.{read-append}
use Rattle.grid_records_measure.specs.Measures.{measure}
use Rattle.grid_records_fronts.specs.Fronts.{Begins, BeginsWithAddend, BeginsWithEmoji}
use Rattle.grid_records_fronts.proofs.Beginnings.{begins-both, begins-shorter}
use Rattle.grid_records_fronts.proofs.EmojiSteps.{is_apart}
use Rattle.grid_records_fronts.proofs.Addends.{IsAddend, flag-addend, is_shown, joined-addend, simple-addend}

-- ---- the bytes of characters that are no controls

bytes-shown : (one two three : Bool) (c k : ℕ) → 0x20 ≤ c
    → k < length (cond one (c ∷ []) (cond two ((192 + c / 64) ∷ (128 + c % 64) ∷ []) (cond three ((224 + c / 4096) ∷ (128 + c / 64 % 64) ∷ (128 + c % 64) ∷ []) ((240 + c / 262144) ∷ (128 + c / 4096 % 64) ∷ (128 + c / 64 % 64) ∷ (128 + c % 64) ∷ []))))
    → 0x20 ≤ get_or (cond one (c ∷ []) (cond two ((192 + c / 64) ∷ (128 + c % 64) ∷ []) (cond three ((224 + c / 4096) ∷ (128 + c / 64 % 64) ∷ (128 + c % 64) ∷ []) ((240 + c / 262144) ∷ (128 + c / 4096 % 64) ∷ (128 + c / 64 % 64) ∷ (128 + c % 64) ∷ [])))) k 0
bytes-shown true two three c zero low h = low
bytes-shown true two three c (suc k) low h = absurd (omega (arith, h))
bytes-shown false true three c zero low h = omega arith
bytes-shown false true three c (suc zero) low h = omega arith
bytes-shown false true three c (suc (suc k)) low h = absurd (omega (arith, h))
bytes-shown false false true c zero low h = omega arith
bytes-shown false false true c (suc zero) low h = omega arith
bytes-shown false false true c (suc (suc zero)) low h = omega arith
bytes-shown false false true c (suc (suc (suc k))) low h = absurd (omega (arith, h))
bytes-shown false false false c zero low h = omega arith
bytes-shown false false false c (suc zero) low h = omega arith
bytes-shown false false false c (suc (suc zero)) low h = omega arith
bytes-shown false false false c (suc (suc (suc zero))) low h = omega arith
bytes-shown false false false c (suc (suc (suc (suc k)))) low h = absurd (omega (arith, h))

encode-shown : (c k : ℕ) → 0x20 ≤ c → k < length (encode c) → 0x20 ≤ get_or (encode c) k 0
unfolding encode
encode-shown c k low h = bytes-shown (nat_lt c 128) (nat_lt c 2048) (nat_lt c 65536) c k low h

-- two lists whose bytes are no controls
both-shown : (front behind : List ℕ) → ((k : ℕ) → k < length front → 0x20 ≤ get_or front k 0) → ((k : ℕ) → k < length behind → 0x20 ≤ get_or behind k 0)
    → (k : ℕ) → k < length (front ++ behind) → 0x20 ≤ get_or (front ++ behind) k 0
both-shown front behind one two k below =
    ⊎_elim
    (λ (inside : k < length front). subst (λ b. 0x20 ≤ b) (sym (get_or_append_left front behind 0 k inside)) (one k inside))
    (λ (past : length front ≤ k).
    let there = k - length front in
    subst (λ b. 0x20 ≤ b) (sym (get_or-append_right front behind (length front) k 0 refl past)) (two there (omega (arith, past, below, length-append front behind))))
    (cases_lt k (length front))

encodes-shown : (cs : List ℕ) → list_all is_shown cs ≡ true → (k : ℕ) → k < length (encodes cs) → 0x20 ≤ get_or (encodes cs) k 0
encodes-shown [] h k below = absurd (omega (arith, below))
encodes-shown (c ∷ cs) h k below =
    let parts = and_parts (is_shown c) (list_all is_shown cs) h in
    both-shown (encode c) (encodes cs) (λ i inside. encode-shown c i (leb-true 0x20 c parts.0) inside) (encodes-shown cs parts.1) k below

-- ---- an addend at the beginning

pub record HasAddend (text rest : List ℕ) (columns : ℕ) : Type 0 where
  pub characters : List ℕ
  pub begins : Begins text characters rest
  pub addend : IsAddend characters columns

of-emoji : (text rest : List ℕ) → BeginsWithEmoji text rest → HasAddend text rest 2
of-emoji text rest known =
    ⊎_elim
    (λ flag. record { characters = flag.characters; begins = flag.begins; addend = flag-addend flag.characters flag.flag })
    (λ emoji. record { characters = _; begins = emoji.begins; addend = joined-addend emoji.first emoji.others emoji.elements })
    known

pub has-addend : (text rest : List ℕ) (columns : ℕ) → BeginsWithAddend text columns rest → HasAddend text rest columns
has-addend text rest columns known =
    ⊎_elim
    (λ simple. record { characters = simple.character ∷ []; begins = simple.begins; addend = simple-addend simple.character columns simple.simple })
    (λ emoji. subst (λ n. HasAddend text rest n) (sym emoji.0) (of-emoji text rest emoji.1))
    known

pub addend-shorter : (text rest : List ℕ) (columns : ℕ) → HasAddend text rest columns → length rest < length text
addend-shorter text rest columns known = begins-shorter text known.characters rest known.addend.some known.begins

-- ---- the prefix so far

-- so many columns of such characters come before the rest
pub record HasFront (text rest : List ℕ) (columns : ℕ) : Type 0 where
  pub characters : List ℕ
  pub begins : Begins text characters rest
  pub reads : (t : ℕ) (after : After) → is_apart after ≡ true → (read_before false characters (t, before after)).0 ≡ t + columns
  pub shown : list_all is_shown characters ≡ true
  pub bound : columns ≤ 2 * length (encodes characters)

pub front-start : (text : List ℕ) → HasFront text text 0
front-start text = record {
  characters = [];
  begins = record { parts = refl; scalar = refl };
  reads = λ t after a. let same : t ≡ t + 0 = omega arith in same;
  shown = refl;
  bound = omega arith;
}

pub front-step : (text rest behind : List ℕ) (columns own : ℕ) → HasFront text rest columns → HasAddend rest behind own → HasFront text behind (columns + own)
front-step text rest behind columns own known more =
    let front = known.characters in
    let next = more.characters in
    let joins = encodes-append front next in
    let some = more.addend.some in
    let few = more.addend.few in
    record {
      characters = front ++ next;
      begins = begins-both text rest behind front next known.begins more.begins;
      reads = λ t after a.
          let sum : t + own + columns ≡ t + (columns + own) = omega arith in
          ap (λ r. r.0) (read-append front next (t, before after) ∙ ap (read_before false front) (more.addend.reads t after a)) ∙ known.reads (t + own) more.addend.next more.addend.apart ∙ sum;
      shown = list_all-append is_shown front next ∙ ap (λ b. b && list_all is_shown next) known.shown ∙ more.addend.shown;
      bound = omega (arith, known.bound, few, some, length-le-encodes next, ap length joins, length-append (encodes front) (encodes next));
    }

module _ (text rest : List ℕ) (columns : ℕ) (known : HasFront text rest columns) where
  size : length text - length rest ≡ length (encodes known.characters)
  size = omega (arith, ap length known.begins.parts, length-append (encodes known.characters) rest)

  pub front-within : length text - length rest ≤ length text
  front-within = omega arith

  pub front-shown : (k : ℕ) → k < length text - length rest → 0x20 ≤ get_or text k 0
  front-shown k below =
      let inside : k < length (encodes known.characters) = omega (arith, below, size) in
      subst (λ b. 0x20 ≤ b) (sym (ap (λ l. get_or l k 0) known.begins.parts ∙ get_or_append_left (encodes known.characters) rest 0 k inside)) (encodes-shown known.characters known.shown k inside)

  pub front-behind : drop (length text - length rest) text ≡ rest
  front-behind = ap (λ n. drop n text) size ∙ ap (λ l. drop (length (encodes known.characters)) l) known.begins.parts ∙ drop-append_seam (encodes known.characters) rest

  front-is : take (length text - length rest) text ≡ encodes known.characters
  front-is = ap (λ n. take n text) size ∙ ap (λ l. take (length (encodes known.characters)) l) known.begins.parts ∙ take-append_seam (encodes known.characters) rest

  pub front-measure : measure (chars (take (length text - length rest) text)) ≡ columns
  unfolding str_width
  front-measure = ap (λ l. measure (chars l)) front-is ∙ ap measure (chars-encodes known.characters known.begins.scalar) ∙ known.reads 0 Nothing refl ∙ zero-add columns
