-- The characters that fit one by one are the longest prefix that fits.
use Rattle.std.proofs.Common.{◌≡◌, ◌≤◌, ◌<◌, ℕ, suc, ◌+◌, ◌-◌, ◌&&◌, Bool, true, false, cond, nat_lt, nat_le, List, [], ◌∷◌, ◌++◌, length, take, refl, ap, sym, subst, ◌∙◌, arith}
use Rattle.std.proofs.Math.Seq.{take-append_seam}
use Rattle.std.specs.List.{onto_first}
use Rattle.std.proofs.lemmas.Bool.Decides.{nat_tests}
use Rattle.std.proofs.lemmas.List.Sums.{sum_by-cons}
use Rattle.std.proofs.lemmas.List.Splits.{length-slice_split}
use Rattle.grid_records_measure.specs.Measures.{cost, line_cost}
use Rattle.grid_records_measure.specs.TextLines.{is_line_feed}
use Rattle.grid_records_measure.specs.Cutting.{lines_of, LinesFit, IsLongestFront, last_of, lacking}
use Rattle.grid_records_measure.specs.Filling.{used_behind, has_room, fitting_front, front_columns, behind_front}

-- ---- lines of which the first comes after so many columns

abbrev Behind : ℕ → ℕ → List (List ℕ) → Type 0
Behind width n [] = n ≤ width
Behind width n (line ∷ lines) = (n < width) × LinesFit width (line ∷ lines)

abbrev FitBehind : ℕ → ℕ → List (List ℕ) → Type 0
FitBehind width used [] = used ≤ width
FitBehind width used (line ∷ lines) = Behind width (used + line_cost line) lines

-- the same, by characters
abbrev Either : Bool → Type 0 → Type 0 → Type 0
Either true A B = A
Either false A B = B

abbrev FitsFrom : ℕ → ℕ → List ℕ → Type 0
FitsFrom width used [] = used ≤ width
FitsFrom width used (c ∷ cs) = Either (is_line_feed c) ((used < width) × FitsFrom width 0 cs) (FitsFrom width (used + cost c) cs)

line_cost-nil : (used : ℕ) → used + line_cost [] ≡ used
line_cost-nil used = omega arith

line_cost-cons : (used c : ℕ) (line : List ℕ) → used + line_cost (c ∷ line) ≡ used + cost c + line_cost line
line_cost-cons used c line = let e = sum_by-cons cost c line in omega (arith, e)

fit-first : (width : ℕ) (line : List ℕ) (lines : List (List ℕ)) → LinesFit width (line ∷ lines) → FitBehind width 0 (line ∷ lines)
fit-first width line [] fits = let e : 0 + line_cost line ≡ line_cost line = omega arith in subst (λ n. n ≤ width) (sym e) fits
fit-first width line (next ∷ lines) fits = let e : 0 + line_cost line ≡ line_cost line = omega arith in (subst (λ n. n < width) (sym e) fits.0, fits.1)

first-fit : (width : ℕ) (line : List ℕ) (lines : List (List ℕ)) → FitBehind width 0 (line ∷ lines) → LinesFit width (line ∷ lines)
first-fit width line [] fits = let e : 0 + line_cost line ≡ line_cost line = omega arith in subst (λ n. n ≤ width) e fits
first-fit width line (next ∷ lines) fits = let e : 0 + line_cost line ≡ line_cost line = omega arith in (subst (λ n. n < width) e fits.0, fits.1)

some-lines : (cs : List ℕ) → 0 < length (lines_of cs)
some-lines cs = let e = length-slice_split is_line_feed cs in omega (arith, e)

-- ---- from lines to characters

from-step : (width used c : ℕ) (cs : List ℕ) (is_end : Bool) (lines : List (List ℕ)) → 0 < length lines
    → ((n : ℕ) → FitBehind width n lines → FitsFrom width n cs)
    → FitBehind width used (cond is_end ([] ∷ lines) (onto_first c lines)) → Either is_end ((used < width) × FitsFrom width 0 cs) (FitsFrom width (used + cost c) cs)
from-step width used c cs is_end [] some rest fits = absurd (omega (arith, some))
from-step width used c cs true (line ∷ lines) some rest fits =
    (subst (λ n. n < width) (line_cost-nil used) fits.0, rest 0 (fit-first width line lines fits.1))
from-step width used c cs false (line ∷ lines) some rest fits =
    rest (used + cost c) (subst (λ n. Behind width n lines) (line_cost-cons used c line) fits)

from-lines : (width used : ℕ) (cs : List ℕ) → FitBehind width used (lines_of cs) → FitsFrom width used cs
from-lines width used [] fits = subst (λ n. n ≤ width) (line_cost-nil used) fits
from-lines width used (c ∷ cs) fits =
    from-step width used c cs (is_line_feed c) (lines_of cs) (some-lines cs) (λ n. from-lines width n cs) fits

-- ---- from characters to lines

to-step : (width used c : ℕ) (cs : List ℕ) (is_end : Bool) (lines : List (List ℕ)) → 0 < length lines
    → ((n : ℕ) → FitsFrom width n cs → FitBehind width n lines)
    → Either is_end ((used < width) × FitsFrom width 0 cs) (FitsFrom width (used + cost c) cs) → FitBehind width used (cond is_end ([] ∷ lines) (onto_first c lines))
to-step width used c cs is_end [] some rest fits = absurd (omega (arith, some))
to-step width used c cs true (line ∷ lines) some rest fits =
    (subst (λ n. n < width) (sym (line_cost-nil used)) fits.0, first-fit width line lines (rest 0 fits.1))
to-step width used c cs false (line ∷ lines) some rest fits =
    subst (λ n. Behind width n lines) (sym (line_cost-cons used c line)) (rest (used + cost c) fits)

to-lines : (width used : ℕ) (cs : List ℕ) → FitsFrom width used cs → FitBehind width used (lines_of cs)
to-lines width used [] fits = subst (λ n. n ≤ width) (sym (line_cost-nil used)) fits
to-lines width used (c ∷ cs) fits =
    to-step width used c cs (is_line_feed c) (lines_of cs) (some-lines cs) (λ n. to-lines width n cs) fits

-- ---- the prefix fits

room-line : (width used : ℕ) → nat_lt used width && nat_le 0 width ≡ true → used < width
room-line width used room = grind (arith, nat_tests)

room-more : (width used n : ℕ) → nat_lt used width && nat_le n width ≡ true → n ≤ width
room-more width used n room = grind (arith, nat_tests)

has-room-line : (width used : ℕ) → used < width → nat_lt used width && nat_le 0 width ≡ true
has-room-line width used room = grind (arith, nat_tests)

has-room-more : (width used n : ℕ) → used + n ≤ width → 1 ≤ n → nat_lt used width && nat_le (used + n) width ≡ true
has-room-more width used n fits some = grind (arith, nat_tests)

some-cost : (c : ℕ) → 1 ≤ cost c
some-cost c = omega arith

fits-end : (width used c : ℕ) (cs : List ℕ) (is_end : Bool)
    → nat_lt used width && nat_le (cond is_end 0 (used + cost c)) width ≡ true
    → ((n : ℕ) → n ≤ width → FitsFrom width n (fitting_front width n cs))
    → Either is_end ((used < width) × FitsFrom width 0 (fitting_front width (cond is_end 0 (used + cost c)) cs)) (FitsFrom width (used + cost c) (fitting_front width (cond is_end 0 (used + cost c)) cs))
fits-end width used c cs true room rest = (room-line width used room, rest 0 (omega arith))
fits-end width used c cs false room rest = rest (used + cost c) (room-more width used (used + cost c) room)

fits-step : (width used c : ℕ) (cs : List ℕ) (room : Bool) → used ≤ width → has_room width used c ≡ room
    → ((n : ℕ) → n ≤ width → FitsFrom width n (fitting_front width n cs))
    → FitsFrom width used (cond room (c ∷ fitting_front width (used_behind used c) cs) [])
fits-step width used c cs true fits room rest = fits-end width used c cs (is_line_feed c) room rest
fits-step width used c cs false fits room rest = fits

fitting_front-fits : (width used : ℕ) (cs : List ℕ) → used ≤ width → FitsFrom width used (fitting_front width used cs)
fitting_front-fits width used [] fits = fits
fitting_front-fits width used (c ∷ cs) fits =
    fits-step width used c cs (has_room width used c) fits refl (λ n. fitting_front-fits width n cs)

-- ---- no longer prefix fits

used-step : (width used c : ℕ) (cs : List ℕ) (is_end : Bool) → (FitsFrom width (used + cost c) cs → used + cost c ≤ width)
    → Either is_end ((used < width) × FitsFrom width 0 cs) (FitsFrom width (used + cost c) cs) → used ≤ width
used-step width used c cs true rest fits = omega (arith, fits.0)
used-step width used c cs false rest fits = let more = rest fits in omega (arith, more)

used-fits : (width used : ℕ) (cs : List ℕ) → FitsFrom width used cs → used ≤ width
used-fits width used [] fits = fits
used-fits width used (c ∷ cs) fits = used-step width used c cs (is_line_feed c) (used-fits width (used + cost c) cs) fits

more-end : (width used c : ℕ) (other behind : List ℕ) (is_end : Bool)
    → ((n : ℕ) → FitsFrom width n other → length other ≤ length (fitting_front width n (other ++ behind)))
    → Either is_end ((used < width) × FitsFrom width 0 other) (FitsFrom width (used + cost c) other)
    → suc (length other) ≤ length (cond (nat_lt used width && nat_le (cond is_end 0 (used + cost c)) width) (c ∷ fitting_front width (cond is_end 0 (used + cost c)) (other ++ behind)) [])
more-end width used c other behind true rest fits =
    let long = rest 0 fits.1 in
    let longer : suc (length other) ≤ length (c ∷ fitting_front width 0 (other ++ behind)) = omega (arith, long) in
    subst (λ room. suc (length other) ≤ length (cond room (c ∷ fitting_front width 0 (other ++ behind)) [])) (sym (has-room-line width used fits.0)) longer
more-end width used c other behind false rest fits =
    let long = rest (used + cost c) fits in
    let longer : suc (length other) ≤ length (c ∷ fitting_front width (used + cost c) (other ++ behind)) = omega (arith, long) in
    subst (λ room. suc (length other) ≤ length (cond room (c ∷ fitting_front width (used + cost c) (other ++ behind)) []))
    (sym (has-room-more width used (cost c) (used-fits width (used + cost c) other fits) (some-cost c))) longer

fitting_front-longest : (width used : ℕ) (other behind : List ℕ) → FitsFrom width used other → length other ≤ length (fitting_front width used (other ++ behind))
fitting_front-longest width used [] behind fits = omega arith
fitting_front-longest width used (c ∷ other) behind fits =
    more-end width used c other behind (is_line_feed c) (λ n. fitting_front-longest width n other behind) fits

-- ---- what is left

parted-step : (width used c : ℕ) (cs : List ℕ) (room : Bool) → cs ≡ fitting_front width (used_behind used c) cs ++ behind_front width (used_behind used c) cs
    → c ∷ cs ≡ cond room (c ∷ fitting_front width (used_behind used c) cs) [] ++ cond room (behind_front width (used_behind used c) cs) (c ∷ cs)
parted-step width used c cs true rest = ap (λ others. c ∷ others) rest
parted-step width used c cs false rest = refl

pub fitting_front-parted : (width used : ℕ) (cs : List ℕ) → cs ≡ fitting_front width used cs ++ behind_front width used cs
fitting_front-parted width used [] = refl
fitting_front-parted width used (c ∷ cs) = parted-step width used c cs (has_room width used c) (fitting_front-parted width (used_behind used c) cs)

lines-fit : (width : ℕ) (lines : List (List ℕ)) → 0 < length lines → FitBehind width 0 lines → LinesFit width lines
lines-fit width [] some fits = absurd (omega (arith, some))
lines-fit width (line ∷ lines) some fits = first-fit width line lines fits

fit-lines : (width : ℕ) (lines : List (List ℕ)) → 0 < length lines → LinesFit width lines → FitBehind width 0 lines
fit-lines width [] some fits = absurd (omega (arith, some))
fit-lines width (line ∷ lines) some fits = fit-first width line lines fits

pub IsLongestFront-fitting_front : (width : ℕ) (cs : List ℕ) → IsLongestFront width cs (fitting_front width 0 cs) (behind_front width 0 cs)
IsLongestFront-fitting_front width cs = record {
  parted = fitting_front-parted width 0 cs;
  fits =
      let kept = fitting_front width 0 cs in
      lines-fit width (lines_of kept) (some-lines kept) (to-lines width 0 kept (fitting_front-fits width 0 cs (omega arith)));
  longest = λ other more parted fits.
      subst (λ all. length other ≤ length (fitting_front width 0 all)) (sym parted)
      (fitting_front-longest width 0 other more (from-lines width 0 other (fit-lines width (lines_of other) (some-lines other) fits)));
}

pub IsLongestFront-unique : (width : ℕ) (cs kept left others more : List ℕ) → IsLongestFront width cs kept left → IsLongestFront width cs others more → kept ≡ others
IsLongestFront-unique width cs kept left others more one two =
    let up = two.longest kept left one.parted one.fits in
    let down = one.longest others more two.parted two.fits in
    let same : length kept ≡ length others = omega (arith, up, down) in
    sym (take-append_seam kept left) ∙ ap (λ all. take (length kept) all) (sym one.parted ∙ two.parted) ∙ ap (λ n. take n (others ++ more)) same ∙ take-append_seam others more

-- ---- the columns of the last line

last_behind : ℕ → List (List ℕ) → ℕ
last_behind used [] = used
last_behind used (line ∷ []) = used + line_cost line
last_behind used (line ∷ next ∷ lines) = line_cost (last_of (next ∷ lines))

last-first : (line : List ℕ) (lines : List (List ℕ)) → last_behind 0 (line ∷ lines) ≡ line_cost (last_of (line ∷ lines))
unfolding last_behind
last-first line [] = omega arith
last-first line (next ∷ lines) = refl

last-line : (c used : ℕ) (is_end : Bool) (lines : List (List ℕ)) → 0 < length lines
    → last_behind (cond is_end 0 (used + cost c)) lines ≡ last_behind used (cond is_end ([] ∷ lines) (onto_first c lines))
unfolding last_behind
last-line c used is_end [] some = absurd (omega (arith, some))
last-line c used true (line ∷ lines) some = last-first line lines
last-line c used false (line ∷ []) some = sym (line_cost-cons used c line)
last-line c used false (line ∷ next ∷ lines) some = refl

columns-step : (width used c : ℕ) (cs : List ℕ) (room : Bool)
    → front_columns width (used_behind used c) cs ≡ last_behind (used_behind used c) (lines_of (fitting_front width (used_behind used c) cs))
    → cond room (front_columns width (used_behind used c) cs) used ≡ last_behind used (lines_of (cond room (c ∷ fitting_front width (used_behind used c) cs) []))
unfolding last_behind
columns-step width used c cs true rest =
    let kept = fitting_front width (used_behind used c) cs in
    rest ∙ last-line c used (is_line_feed c) (lines_of kept) (some-lines kept)
columns-step width used c cs false rest = sym (line_cost-nil used)

fitting_front-columns : (width used : ℕ) (cs : List ℕ) → front_columns width used cs ≡ last_behind used (lines_of (fitting_front width used cs))
unfolding last_behind
fitting_front-columns width used [] = sym (line_cost-nil used)
fitting_front-columns width used (c ∷ cs) = columns-step width used c cs (has_room width used c) (fitting_front-columns width (used_behind used c) cs)

line_cost-last : (lines : List (List ℕ)) → 0 < length lines → last_behind 0 lines ≡ line_cost (last_of lines)
line_cost-last [] some = absurd (omega (arith, some))
line_cost-last (line ∷ lines) some = last-first line lines

pub lacking-left : (width c : ℕ) (cs left : List ℕ) → behind_front width 0 cs ≡ c ∷ left → lacking width (fitting_front width 0 cs) (behind_front width 0 cs) ≡ width - front_columns width 0 cs
lacking-left width c cs left behind =
    let kept = fitting_front width 0 cs in
    ap (lacking width kept) behind ∙ ap (λ n. width - n) (sym (fitting_front-columns width 0 cs ∙ line_cost-last (lines_of kept) (some-lines kept)))

pub lacking-none : (width : ℕ) (cs : List ℕ) → behind_front width 0 cs ≡ [] → lacking width (fitting_front width 0 cs) (behind_front width 0 cs) ≡ 0
lacking-none width cs behind = ap (lacking width (fitting_front width 0 cs)) behind

-- ---- characters after others

-- all of xs fit, and ys go on after them
pub record GoesOn (width used : ℕ) (xs ys : List ℕ) : Type 0 where
  pub kept : fitting_front width used (xs ++ ys) ≡ xs ++ fitting_front width (front_columns width used xs) ys
  pub columns : front_columns width used (xs ++ ys) ≡ front_columns width (front_columns width used xs) ys
  pub left : behind_front width used (xs ++ ys) ≡ behind_front width (front_columns width used xs) ys

goes-step : (width used c : ℕ) (xs ys : List ℕ) (room : Bool) → has_room width used c ≡ room
    → (behind_front width (used_behind used c) xs ≡ [] → GoesOn width (used_behind used c) xs ys)
    → cond room (behind_front width (used_behind used c) xs) (c ∷ xs) ≡ [] → GoesOn width used (c ∷ xs) ys
goes-step width used c xs ys true room rest none =
    let on = rest none in
    let n = front_columns width (used_behind used c) xs in
    record {
      kept =
          ap (λ b. cond b (c ∷ fitting_front width (used_behind used c) (xs ++ ys)) []) room
          ∙ ap (λ cs. c ∷ cs) on.kept
          ∙ ap (λ b. c ∷ xs ++ fitting_front width (cond b n used) ys) (sym room);
      columns =
          ap (λ b. cond b (front_columns width (used_behind used c) (xs ++ ys)) used) room
          ∙ on.columns
          ∙ ap (λ b. front_columns width (cond b n used) ys) (sym room);
      left =
          ap (λ b. cond b (behind_front width (used_behind used c) (xs ++ ys)) (c ∷ xs ++ ys)) room
          ∙ on.left
          ∙ ap (λ b. behind_front width (cond b n used) ys) (sym room);
    }
goes-step width used c xs ys false room rest none = absurd (cc none)

pub goes-on : (width used : ℕ) (xs ys : List ℕ) → behind_front width used xs ≡ [] → GoesOn width used xs ys
goes-on width used [] ys none = record { kept = refl; columns = refl; left = refl }
goes-on width used (c ∷ xs) ys none =
    goes-step width used c xs ys (has_room width used c) refl (λ later. goes-on width (used_behind used c) xs ys later) none

-- a character of xs does not fit, so ys change nothing
pub record Stops (width used : ℕ) (xs ys : List ℕ) : Type 0 where
  pub kept : fitting_front width used (xs ++ ys) ≡ fitting_front width used xs
  pub columns : front_columns width used (xs ++ ys) ≡ front_columns width used xs
  pub left : behind_front width used (xs ++ ys) ≡ behind_front width used xs ++ ys

stops-step : (width used c : ℕ) (xs ys : List ℕ) (room : Bool) → has_room width used c ≡ room
    → (0 < length (behind_front width (used_behind used c) xs) → Stops width (used_behind used c) xs ys)
    → 0 < length (cond room (behind_front width (used_behind used c) xs) (c ∷ xs)) → Stops width used (c ∷ xs) ys
stops-step width used c xs ys true room rest some =
    let stop = rest some in
    record {
      kept =
          ap (λ b. cond b (c ∷ fitting_front width (used_behind used c) (xs ++ ys)) []) room
          ∙ ap (λ cs. c ∷ cs) stop.kept
          ∙ ap (λ b. cond b (c ∷ fitting_front width (used_behind used c) xs) []) (sym room);
      columns =
          ap (λ b. cond b (front_columns width (used_behind used c) (xs ++ ys)) used) room
          ∙ stop.columns
          ∙ ap (λ b. cond b (front_columns width (used_behind used c) xs) used) (sym room);
      left =
          ap (λ b. cond b (behind_front width (used_behind used c) (xs ++ ys)) (c ∷ xs ++ ys)) room
          ∙ stop.left
          ∙ ap (λ b. cond b (behind_front width (used_behind used c) xs) (c ∷ xs) ++ ys) (sym room);
    }
stops-step width used c xs ys false room rest some = record {
  kept =
      ap (λ b. cond b (c ∷ fitting_front width (used_behind used c) (xs ++ ys)) []) room
      ∙ ap (λ b. cond b (c ∷ fitting_front width (used_behind used c) xs) []) (sym room);
  columns =
      ap (λ b. cond b (front_columns width (used_behind used c) (xs ++ ys)) used) room
      ∙ ap (λ b. cond b (front_columns width (used_behind used c) xs) used) (sym room);
  left =
      ap (λ b. cond b (behind_front width (used_behind used c) (xs ++ ys)) (c ∷ xs ++ ys)) room
      ∙ ap (λ b. cond b (behind_front width (used_behind used c) xs) (c ∷ xs) ++ ys) (sym room);
}

pub stops : (width used : ℕ) (xs ys : List ℕ) → 0 < length (behind_front width used xs) → Stops width used xs ys
stops width used [] ys some = absurd (omega (arith, some))
stops width used (c ∷ xs) ys some =
    stops-step width used c xs ys (has_room width used c) refl (λ later. stops width (used_behind used c) xs ys later) some
