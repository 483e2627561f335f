-- What is left out of the first line are the sequences SELECT GRAPHIC RENDITION of `ansi_scan`.
use Rattle.std.proofs.Common.{◌≡◌, ◌∙◌, ◌+◌, ◌<◌, ◌≤◌, ◌==◌, ◌&&◌, ℕ, Bool, true, false, cond, List, [], ◌∷◌, ◌++◌, suc, ap, append_assoc, arith, eqb-true, get_or, if◌then◌else◌, length, nat_lt, length-append, refl, slice_index, sym, take}
use Rattle.std.specs.List.{list_all, prefix_len}
use Rattle.std.proofs.lemmas.Bool.{and_parts}
use Rattle.std.proofs.lemmas.Bool.Decides.{nat_tests}
use Rattle.std.proofs.lemmas.List.{get_or_past}
use Rattle.std.proofs.Math.Seq.{get_or-append_seam, take-suc}
use Rattle.ansi_scan.specs.Sequences.{IsSgr, escape}
use Rattle.ansi_scan.specs.Styles.Rendition.{is_numeric}
use Rattle.basinmug_delimiter.specs.Sequences.{len_after_opener, opens, rendition_len}

-- ---- parameter bytes at the start

numeric-taken : (bytes : List ℕ) → list_all is_numeric (take (prefix_len is_numeric bytes) bytes) ≡ true
numeric-taken [] = refl
numeric-taken (b ∷ bytes) =
    elim (is_numeric b) as
    (λ numeric. is_numeric b ≡ numeric → list_all is_numeric (take (cond numeric (1 + prefix_len is_numeric bytes) 0) (b ∷ bytes)) ≡ true) [
      | true ↦
          λ is.
          let n = prefix_len is_numeric bytes in
          let one : 1 + n ≡ suc n = omega arith in
          ap (λ (k : ℕ). list_all is_numeric (take k (b ∷ bytes))) one
          ∙ (ap (λ (numeric : Bool). numeric && list_all is_numeric (take n bytes)) is ∙ numeric-taken bytes)
      | false ↦ λ is. refl
    ] refl

-- U+006D, by which a sequence ends, is no parameter byte
numeric-front : (parameters after : List ℕ) → list_all is_numeric parameters ≡ true → prefix_len is_numeric (parameters ++ 0x6d ∷ after) ≡ length parameters
numeric-front [] after all = refl
numeric-front (b ∷ parameters) after all =
    let both = and_parts (is_numeric b) (list_all is_numeric parameters) all in
    let n = length parameters in
    let one : 1 + n ≡ suc n = omega arith in
    ap (λ (numeric : Bool). cond numeric (1 + prefix_len is_numeric (parameters ++ 0x6d ∷ after)) 0) both.0
    ∙ (ap (λ (k : ℕ). 1 + k) (numeric-front parameters after both.1) ∙ one)

-- ---- a sequence is found

two-more : (n : ℕ) → n + 3 ≡ suc (suc (suc n))
two-more n = omega arith

no-end : (byte : ℕ) → byte ≡ 0 → byte ≡ 0x6d → ⊥
no-end byte none ends = omega arith

within : (bytes : List ℕ) (n : ℕ) → get_or bytes n 0 ≡ 0x6d → n < length bytes
within bytes n is =
    elim (nat_lt n (length bytes)) as (λ below. nat_lt n (length bytes) ≡ below → n < length bytes) [
      | true ↦ λ below. grind (arith, nat_tests)
      | false ↦
          λ above.
          let past : length bytes ≤ n = grind (arith, nat_tests) in
          absurd (no-end (get_or bytes n 0) (get_or_past bytes n 0 past) is)
    ] refl

-- after the first byte and the second come parameter bytes, and then the `m`
spelled-form : (a b : ℕ) (rest : List ℕ) → opens a b ≡ true → get_or rest (prefix_len is_numeric rest) 0 ≡ 0x6d → IsSgr (take (prefix_len is_numeric rest + 3) (a ∷ b ∷ rest))
spelled-form a b rest opener ends =
    let n = prefix_len is_numeric rest in
    let both = and_parts (a == escape) (b == 0x5b) opener in
    let fronts = ap (λ (k : ℕ). take k (a ∷ b ∷ rest)) (two-more n) in
    let taken = take-suc rest n 0 (within rest n ends) in
    let joined = taken ∙ ap (λ (last : ℕ). take n rest ++ last ∷ []) ends in
    record {
      parameters = take n rest;
      spelled = fronts ∙ (ap (λ (after : List ℕ). a ∷ b ∷ after) joined
          ∙ (ap (λ (first : ℕ). first ∷ b ∷ (take n rest ++ 0x6d ∷ [])) (eqb-true a escape both.0)
          ∙ ap (λ (second : ℕ). escape ∷ second ∷ (take n rest ++ 0x6d ∷ [])) (eqb-true b 0x5b both.1)));
      each_numeric = numeric-taken rest;
    }

ended-form : (a b : ℕ) (rest : List ℕ) → opens a b ≡ true → 0 < len_after_opener rest → IsSgr (take (len_after_opener rest) (a ∷ b ∷ rest))
ended-form a b rest opener some =
    let n = prefix_len is_numeric rest in
    elim (slice_index rest n == 0x6d) as
    (λ ends. (slice_index rest n == 0x6d) ≡ ends → 0 < (if ends then n + 3 else 0) → IsSgr (take (if ends then n + 3 else 0) (a ∷ b ∷ rest))) [
      | true ↦ λ ends some. spelled-form a b rest opener (eqb-true (slice_index rest n) 0x6d ends)
      | false ↦ λ other none. absurd (omega arith)
    ] refl some

pub rendition-form : (bytes : List ℕ) → 0 < rendition_len bytes → IsSgr (take (rendition_len bytes) bytes)
rendition-form [] none = absurd (omega arith)
rendition-form (a ∷ []) none = absurd (omega arith)
rendition-form (a ∷ b ∷ rest) some =
    elim (opens a b) as
    (λ opener. opens a b ≡ opener → 0 < (if opener then len_after_opener rest else 0) → IsSgr (take (if opener then len_after_opener rest else 0) (a ∷ b ∷ rest))) [
      | true ↦ λ opener some. ended-form a b rest opener some
      | false ↦ λ other none. absurd (omega arith)
    ] refl some

-- ---- each sequence is found

ends-here : (rest : List ℕ) (n : ℕ) → prefix_len is_numeric rest ≡ n → get_or rest n 0 ≡ 0x6d → len_after_opener rest ≡ n + 3
ends-here rest n is ends =
    ap (λ (k : ℕ). if get_or rest k 0 == 0x6d then k + 3 else 0) is ∙ ap (λ (byte : ℕ). if byte == 0x6d then n + 3 else 0) ends

spelled-len : (parameters after : List ℕ) → list_all is_numeric parameters ≡ true → rendition_len ((escape ∷ 0x5b ∷ (parameters ++ 0x6d ∷ [])) ++ after) ≡ length parameters + 3
spelled-len parameters after all =
    ap len_after_opener (append_assoc parameters (0x6d ∷ []) after)
    ∙ ends-here (parameters ++ 0x6d ∷ after) (length parameters) (numeric-front parameters after all) (get_or-append_seam parameters 0x6d after 0)

form-len : (parameters : List ℕ) → length parameters + 3 ≡ length (escape ∷ 0x5b ∷ (parameters ++ 0x6d ∷ []))
form-len parameters = let joined : length (parameters ++ 0x6d ∷ []) ≡ length parameters + 1 = length-append parameters (0x6d ∷ []) in omega arith

pub rendition-found : (form after : List ℕ) → IsSgr form → rendition_len (form ++ after) ≡ length form
rendition-found form after sgr =
    ap (λ (bytes : List ℕ). rendition_len (bytes ++ after)) sgr.spelled
    ∙ (spelled-len sgr.parameters after sgr.each_numeric ∙ (form-len sgr.parameters ∙ ap length (sym sgr.spelled)))
