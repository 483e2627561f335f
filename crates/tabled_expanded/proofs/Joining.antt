-- One record more: its lines come after those of the others, and so does its text.
use Rattle.std.proofs.Common.{◌≡◌, ◌∙◌, sym, ap, refl, arith, Bool, false, ◌==◌, if◌then◌else◌, ℕ, suc, List, [], ◌∷◌, ◌++◌, append-nil, append_assoc, flat_map, length}
use Rattle.std.specs.Prelude.{zip}
use Rattle.std.proofs.lemmas.Bool.Decides.{nat_tests}
use Rattle.std.proofs.lemmas.List.Concat.{flat_map-append}
use Rattle.grid_records_measure.specs.TextLines.{line_feed}
use Rattle.tabled_expanded.specs.Expanded.{all_lines, behind_feeds, feed_before, field_lines, head_line, joined_lines, record_lines}

-- lists that are equally long, with a pair more
zip_push : {A B : Type 0} (xs : List A) (ys : List B) (x : A) (y : B) → length xs ≡ length ys → zip (xs ++ x ∷ []) (ys ++ y ∷ []) ≡ zip xs ys ++ ((x, y) ∷ [])
zip_push [] [] x y same = refl
zip_push [] (b ∷ ys) x y same = absurd (omega arith)
zip_push (a ∷ xs) [] x y same = absurd (omega arith)
zip_push (a ∷ xs) (b ∷ ys) x y same = ap (λ pairs. (a, b) ∷ pairs) (zip_push xs ys x y (omega arith))

-- the lines of one record more
pub lines_more : (width values_width : ℕ) (fields heads : List (List ℕ)) (records : List (List (List ℕ))) (head : List ℕ) (values : List (List ℕ)) → length heads ≡ length records →
    all_lines width values_width fields (heads ++ head ∷ []) (records ++ values ∷ []) ≡ all_lines width values_width fields heads records ++ record_lines width values_width fields head values
lines_more width values_width fields heads records head values same =
    let lines = λ (pair : List ℕ × List (List ℕ)). record_lines width values_width fields pair.0 pair.1 in
    ap (flat_map lines) (zip_push heads records head values same)
    ∙ flat_map-append lines (zip heads records) ((head, values) ∷ [])
    ∙ ap (λ (more : List (List ℕ)). all_lines width values_width fields heads records ++ more) (append-nil (record_lines width values_width fields head values))

-- lines after others, of which there is one at least
joined_more : (line : List ℕ) (lines : List (List ℕ)) (next : List ℕ) (more : List (List ℕ)) →
    joined_lines ((line ∷ lines) ++ (next ∷ more)) ≡ joined_lines (line ∷ lines) ++ (line_feed ∷ []) ++ joined_lines (next ∷ more)
joined_more line lines next more =
    ap (λ (bytes : List ℕ). line ++ bytes) (flat_map-append (λ (l : List ℕ). line_feed ∷ l) lines (next ∷ more))
    ∙ sym (append_assoc line (behind_feeds lines) (behind_feeds (next ∷ more)))
    ∙ sym (append_assoc (line ++ behind_feeds lines) (line_feed ∷ []) (joined_lines (next ∷ more)))

feed_more : (n : ℕ) → feed_before (suc n) ≡ line_feed ∷ []
feed_more n =
    let not_first : (suc n == 0) ≡ false = grind (arith, nat_tests) in
    ap (λ (b : Bool). if b then [] else line_feed ∷ []) not_first

-- the text with one record more
pub text_more : (width values_width : ℕ) (fields heads : List (List ℕ)) (records : List (List (List ℕ))) (head : List ℕ) (values : List (List ℕ)) → length heads ≡ length records →
    joined_lines (all_lines width values_width fields heads records) ++ feed_before (length heads) ++ joined_lines (record_lines width values_width fields head values)
    ≡ joined_lines (all_lines width values_width fields (heads ++ head ∷ []) (records ++ values ∷ []))
text_more width values_width fields [] [] head values same =
    ap joined_lines (sym (lines_more width values_width fields [] [] head values refl))
text_more width values_width fields [] (others ∷ records) head values same = absurd (omega arith)
text_more width values_width fields (other ∷ heads) [] head values same = absurd (omega arith)
text_more width values_width fields (other ∷ heads) (others ∷ records) head values same =
    let before = joined_lines (all_lines width values_width fields (other ∷ heads) (others ∷ records)) in
    let behind = joined_lines (record_lines width values_width fields head values) in
    ap (λ (feed : List ℕ). before ++ feed ++ behind) (feed_more (length heads))
    ∙ sym (joined_more (head_line width values_width other) (field_lines width fields others ++ all_lines width values_width fields heads records) (head_line width values_width head) (field_lines width fields values))
    ∙ ap joined_lines (sym (lines_more width values_width fields (other ∷ heads) (others ∷ records) head values same))
