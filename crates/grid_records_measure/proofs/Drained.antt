-- What an iterator that shows what is left gives from the back.
use Rattle.std.proofs.Common.{◌≡◌, ◌≤◌, ℕ, List, [], ◌∷◌, ◌++◌, length, reverse, refl, ap, sym, ◌∙◌, subst, arith, append_assoc, append-nil, length-append}
use Rattle.std.specs.Prelude.{chars, encode_utf8_all}
use Rattle.std.specs.Iterator.{Yields, Drains, YieldsLast}
use Rattle.std.specs.Str.{IsUtf8}
use Rattle.std.proofs.lemmas.List.{reverse-append}
use Rattle.std.proofs.lemmas.Str.{encodes-append, encodes-chars}
use Rattle.ansi_scan.specs.Sequences.{Piece, ArePiecesOf}
use Rattle.ansi_str_search.specs.Text.StyledText.{strip}
use Rattle.ansi_str_search.proofs.TextLemmas.Utf8Pieces.{EachUtf8-pieces, IsUtf8-strip}
use Rattle.ansi_str_search.proofs.TextLemmas.ShownCharacters.{length-strip}

Yields-last : {S A : Type 0} (rest : S → List A) (s t : S) (xs : List A) → Yields (YieldsLast rest) s xs t → rest s ≡ rest t ++ reverse xs
Yields-last rest s t [] same = ap rest same ∙ sym (append-nil (rest t))
Yields-last rest s t (x ∷ xs) steps =
    steps.1
    ∙ ap (λ ys. ys ++ x ∷ []) (Yields-last rest steps.0 t xs steps.2)
    ∙ append_assoc (rest t) (reverse xs) (x ∷ [])
    ∙ ap (λ ys. rest t ++ ys) (sym (reverse-append (x ∷ []) xs))

-- the items from the back, turned round, are those that were left
pub Drains-last : {S A : Type 0} (rest : S → List A) (s : S) (xs : List A) → Drains (YieldsLast rest) s xs → reverse xs ≡ rest s
Drains-last rest s xs drained = sym (Yields-last rest s drained.1.0 xs drained.1.1 ∙ ap (λ ys. ys ++ reverse xs) drained.1.2.0)

-- turned round, characters have as many bytes
pub length-encode_reverse : (cs : List ℕ) → length (encode_utf8_all (reverse cs)) ≡ length (encode_utf8_all cs)
length-encode_reverse [] = refl
length-encode_reverse (c ∷ cs) =
    let turned : encode_utf8_all (reverse (c ∷ cs)) ≡ encode_utf8_all (reverse cs) ++ encode_utf8_all (c ∷ []) =
    ap encode_utf8_all (reverse-append (c ∷ []) cs) ∙ encodes-append (reverse cs) (c ∷ []) in
    omega (
      arith,
      ap length turned,
      ap length (encodes-append (c ∷ []) cs),
      length-append (encode_utf8_all (reverse cs)) (encode_utf8_all (c ∷ [])),
      length-append (encode_utf8_all (c ∷ [])) (encode_utf8_all cs),
      length-encode_reverse cs,
    )

-- characters that, turned round, are those that a text shows have no more bytes than the text
pub length-encode_shown : (text : List ℕ) (ps : List Piece) (cs : List ℕ) → IsUtf8 text → ArePiecesOf text ps → reverse cs ≡ chars (strip ps) → length (encode_utf8_all cs) ≤ length text
length-encode_shown text ps cs utf8 are same =
    let shown : encode_utf8_all (reverse cs) ≡ strip ps = ap encode_utf8_all same ∙ encodes-chars (strip ps) (IsUtf8-strip ps (EachUtf8-pieces ps are.stand (subst IsUtf8 (sym are.joins) utf8))) in
    omega (arith, ap length shown, length-encode_reverse cs, length-strip ps, ap length are.joins)
