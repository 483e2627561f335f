-- A text measures no more than its characters cost one by one. It is read from its end. The width so far is at most
-- what was read costs, less what the characters before it may still take beyond their own cost.
use Rattle.std.proofs.Common.{◌≡◌, ℕ, ◌+◌, ◌<◌, ◌≤◌, Bool, true, false, List, [], ◌∷◌, Option, Some, None, max, refl, ap, sym, ◌∙◌, arith, if◌then◌else◌}
use Rattle.std.specs.Prelude.{◌==◌, ◌&&◌, not, nat_lt, nat_le, unwrap_or}
use Rattle.std.specs.Int.{is_in_range}
use Rattle.std.proofs.lemmas.Bool.{and_parts}
use Rattle.std.proofs.lemmas.List.Sums.{sum_by-cons}
use Rattle.std.proofs.lemmas.Bool.Decides.{nat_tests}
use Rattle.ucd_emoji.specs.Binary.{is_emoji_modifier_base, is_emoji_variation_base}
use Rattle.ucd_bidi.specs.JoiningType.{joining_type, joining_type_eq}
use Rattle.ucd_bidi.specs.declared.JoiningType.TheVariants.{Transparent}
use Rattle.unicode_width.specs.declared.kind.Kind.{Kind}
use Rattle.unicode_width.specs.declared.kind.Kind.TheVariants as kinds
use Rattle.unicode_width.specs.declared.state.After.{After}
use Rattle.unicode_width.specs.declared.state.After.TheVariants.{Nothing, LineFeed, EmojiModifier, RegionalIndicator, RegionalIndicators, Emoji, ZwjEmoji, KeycapZwjEmoji, IndicatorZwj, EvenIndicatorsZwj, OddIndicatorsZwj, TagEnd, TagDigit1, TagDigit2, TagDigit3, TagLetter1, TagLetter2, TagLetter3, TagLetter4, TagLetter5, TagLetter6, KiratE, KiratAi, Alef, Solidus, SolidusAlef, Lamed, ZwjLamed, Ya, ZwjYa, VowelZwjYa, Tifinagh, ZwjTifinagh, JoinerTifinagh, LisuTone, OrkhonI, ZwjOrkhonI, KhmerLetter}
use Rattle.unicode_width.specs.declared.state.State.{State}
use Rattle.unicode_width.specs.declared.state.Change.{Change}
use Rattle.unicode_width.specs.declared.state.Change.TheVariants.{Less, Same, One, Three}
use Rattle.unicode_width.specs.Kind.{is_ligature_transparent, is_text_presentation_base, kind}
use Rattle.unicode_width.specs.Width.{Reading, added, alone, before, before_alef, before_joiner, before_modifier, changed, char_width, first_of, if_kept, in_context, is_line_feed, in_emoji, in_ligature, in_tags, is_emoji, is_indicator, is_joined_emoji, is_kept, is_lam, is_plain, is_quote, is_quote_selector, is_tag_digit, is_tag_letter, is_tifinagh, joined_or, joins, of_kind, past_emoji, past_selectors, plain, read_before, single, skips_marks, step, str_width, with_joiner}
use Rattle.grid_records_measure.specs.Measures.{line_cost, cost, measure}

-- ---- what may still come beyond a character's own cost

-- an even number of regional indicators before a joiner lacks two columns, which a third one takes
abbrev pub slack : After → ℕ
slack EvenIndicatorsZwj = 2
slack _ = 0

abbrev pub flag : Bool → ℕ
flag true = 1
flag false = 0

-- a selector costs one column and takes none; the character before it may take two
abbrev pub owed : State → ℕ
owed s = slack s.after + (flag s.emoji + flag s.quote)

-- so much was read at least
abbrev pub needs : After → ℕ
needs IndicatorZwj = 1
needs OddIndicatorsZwj = 1
needs _ = 0

abbrev pub Fits : Reading → ℕ → Type 0
Fits r most = r.0 + owed r.1 ≤ most

-- ---- by tests

if-known : (b : Bool) (x y : Reading) (n : ℕ) → (b ≡ true → Fits x n) → (b ≡ false → Fits y n) → Fits (if b then x else y) n
if-known true x y n p q = p refl
if-known false x y n p q = q refl

-- ---- a character by itself

-- what it takes, and what the one before it may take beyond its cost
abbrev is_own : ℕ × State → Bool
is_own r = nat_le (r.0 + owed r.1) (max 1 r.0)

own-if : (b : Bool) (x y : ℕ × State) → is_own x ≡ true → is_own y ≡ true → is_own (if b then x else y) ≡ true
own-if true x y p q = p
own-if false x y p q = q

own-single : (c : ℕ) → is_own (single false c) ≡ true
own-single c =
    own-if (c == 0x05DC) _ _ refl
    (own-if (c == 0xFB3C) _ _ refl
    (own-if (c == 0x17D8) _ _ refl
    (own-if (c == 0x1A10) _ _ refl
    (own-if (c == 0x10C03) _ _ refl
    (own-if (c == 0x16D67) _ _ refl
    (own-if (c == 0x16D68) _ _ refl
    (own-if (c == 0xFE0F) _ _ refl
    (own-if (is_quote_selector false c) _ _ refl
    (own-if (c == 0xFE0E) (0, record plain { text = true }) (0, plain) refl refl)))))))))

own-kind : (c : ℕ) (k : Kind) → is_own (of_kind false c k) ≡ true
own-kind c kinds.Zero = refl
own-kind c kinds.Narrow = refl
own-kind c kinds.Wide = refl
own-kind c kinds.Ambiguous = refl
own-kind c kinds.Alef = refl
own-kind c kinds.KhmerLetter = refl
own-kind c kinds.TifinaghConsonant = refl
own-kind c kinds.LisuTone = refl
own-kind c kinds.RegionalIndicator = refl
own-kind c kinds.EmojiModifier = refl
own-kind c kinds.Emoji = refl
own-kind c kinds.Single = own-single c

own-alone : (c : ℕ) → is_own (alone false c) ≡ true
unfolding alone
own-alone c = own-kind c (kind c)

-- what a character costs
cost-some : (c : ℕ) → 1 ≤ cost c
cost-some c = omega arith

cost-high : (c : ℕ) → 0xA0 < c → cost c ≡ max 1 (alone false c).0
unfolding char_width
cost-high c high =
    let low : nat_lt c 0x7F ≡ false = grind (arith, nat_tests, high) in
    let own : nat_le 0xA0 c ≡ true = grind (arith, nat_tests, high) in
    let none : Option ℕ = None in
    ap (λ b. max 1 (unwrap_or (if b then (if nat_le 0x20 c then Some 1 else None) else if nat_le 0xA0 c then Some (alone false c).0 else None) 0)) low
    ∙ ap (λ b. max 1 (unwrap_or (if b then Some (alone false c).0 else None) 0)) own

own-fits : (c total most : ℕ) → 0xA0 < c → total ≤ most → Fits (added total (alone false c)) (most + cost c)
own-fits c total most high within =
    let own : (alone false c).0 + owed (alone false c).1 ≤ max 1 (alone false c).0 = grind (arith, nat_tests, own-alone c) in
    omega (arith, own, within, cost-high c high)

-- ---- a character that joins those after it

abbrev is_small_change : Change → Bool
is_small_change Three = false
is_small_change _ = true

abbrev no_slack : After → Bool
no_slack EvenIndicatorsZwj = false
no_slack _ = true

abbrev is_small : Option (Change × After) → Bool
is_small None = true
is_small (Some j) = is_small_change j.0 && no_slack j.1

small-if : (b : Bool) (x y : Option (Change × After)) → is_small x ≡ true → is_small y ≡ true → is_small (if b then x else y) ≡ true
small-if true x y p q = p
small-if false x y p q = q

small-first : (a b : Option (Change × After)) → is_small a ≡ true → is_small b ≡ true → is_small (first_of a b) ≡ true
small-first None b p q = q
small-first (Some j) b p q = p

small-ligature : (after : After) (c : ℕ) → is_small (in_ligature after c) ≡ true
small-ligature Nothing c = refl
small-ligature LineFeed c = refl
small-ligature EmojiModifier c = refl
small-ligature RegionalIndicator c = refl
small-ligature RegionalIndicators c = refl
small-ligature Emoji c = refl
small-ligature ZwjEmoji c = refl
small-ligature KeycapZwjEmoji c = refl
small-ligature IndicatorZwj c = refl
small-ligature EvenIndicatorsZwj c = refl
small-ligature OddIndicatorsZwj c = refl
small-ligature TagEnd c = refl
small-ligature TagDigit1 c = refl
small-ligature TagDigit2 c = refl
small-ligature TagDigit3 c = refl
small-ligature TagLetter1 c = refl
small-ligature TagLetter2 c = refl
small-ligature TagLetter3 c = refl
small-ligature TagLetter4 c = refl
small-ligature TagLetter5 c = refl
small-ligature TagLetter6 c = refl
small-ligature KiratE c = small-if (c == 0x16D63) _ _ refl (small-if (c == 0x16D67) _ _ refl (small-if (c == 0x16D68) _ _ refl (small-if (c == 0x16D69) _ _ refl refl)))
small-ligature KiratAi c = small-if (c == 0x16D63) _ _ refl refl
small-ligature Alef c = refl
small-ligature Solidus c = refl
small-ligature SolidusAlef c = refl
small-ligature Lamed c = refl
small-ligature ZwjLamed c = small-if (c == 0x05D0) _ _ refl refl
small-ligature Ya c = refl
small-ligature ZwjYa c = small-if (c == 0x1A17) _ _ refl refl
small-ligature VowelZwjYa c = small-if (c == 0x1A15) _ _ refl refl
small-ligature Tifinagh c = small-if (c == 0x2D7F) _ _ refl refl
small-ligature ZwjTifinagh c = small-if (c == 0x2D7F) _ _ refl (small-if (is_tifinagh c) _ _ refl refl)
small-ligature JoinerTifinagh c = small-if (is_tifinagh c) _ _ refl refl
small-ligature LisuTone c = small-if (is_in_range 0xA4F8 0xA4FB c) _ _ refl refl
small-ligature OrkhonI c = refl
small-ligature ZwjOrkhonI c = small-if (c == 0x10C32) _ _ refl refl
small-ligature KhmerLetter c = small-if (c == 0x17D2) _ _ refl refl

small-tags : (after : After) (c : ℕ) → is_small (in_tags after c) ≡ true
small-tags Nothing c = refl
small-tags LineFeed c = refl
small-tags EmojiModifier c = refl
small-tags RegionalIndicator c = refl
small-tags RegionalIndicators c = refl
small-tags Emoji c = refl
small-tags ZwjEmoji c = refl
small-tags KeycapZwjEmoji c = refl
small-tags IndicatorZwj c = refl
small-tags EvenIndicatorsZwj c = refl
small-tags OddIndicatorsZwj c = refl
small-tags TagEnd c = small-if (is_tag_letter c) _ _ refl (small-if (is_tag_digit c) _ _ refl refl)
small-tags TagDigit1 c = small-if (is_tag_digit c) _ _ refl refl
small-tags TagDigit2 c = small-if (is_tag_digit c) _ _ refl refl
small-tags TagDigit3 c = small-if (c == 0x1F3F4) _ _ refl refl
small-tags TagLetter1 c = small-if (is_tag_letter c) _ _ refl (small-if (is_tag_digit c) _ _ refl refl)
small-tags TagLetter2 c = small-if (is_tag_letter c) _ _ refl (small-if (is_tag_digit c) _ _ refl refl)
small-tags TagLetter3 c = small-if (is_tag_letter c) _ _ refl (small-if (is_tag_digit c) _ _ refl (small-if (c == 0x1F3F4) _ _ refl refl))
small-tags TagLetter4 c = small-if (is_tag_letter c) _ _ refl (small-if (is_tag_digit c) _ _ refl (small-if (c == 0x1F3F4) _ _ refl refl))
small-tags TagLetter5 c = small-if (is_tag_letter c) _ _ refl (small-if (c == 0x1F3F4) _ _ refl refl)
small-tags TagLetter6 c = small-if (c == 0x1F3F4) _ _ refl refl
small-tags KiratE c = refl
small-tags KiratAi c = refl
small-tags Alef c = refl
small-tags Solidus c = refl
small-tags SolidusAlef c = refl
small-tags Lamed c = refl
small-tags ZwjLamed c = refl
small-tags Ya c = refl
small-tags ZwjYa c = refl
small-tags VowelZwjYa c = refl
small-tags Tifinagh c = refl
small-tags ZwjTifinagh c = refl
small-tags JoinerTifinagh c = refl
small-tags LisuTone c = refl
small-tags OrkhonI c = refl
small-tags ZwjOrkhonI c = refl
small-tags KhmerLetter c = refl

small-joiner : (c : ℕ) → is_small (before_joiner c) ≡ true
small-joiner c =
    small-if (c == 0x20E3) _ _ refl
    (small-if (is_indicator c) _ _ refl
    (small-if (is_in_range 0x1F3FB 0x1F3FF c) _ _ refl
    (small-if (c == 0xE007F) _ _ refl
    (small-if (is_emoji (kind c)) _ _ refl refl))))

small-modifier : (c : ℕ) → is_small (before_modifier c) ≡ true
small-modifier c = small-if (is_emoji_modifier_base c) _ _ refl (small-if (c == 0x200D) _ _ refl refl)

small-alef : (c : ℕ) → is_small (before_alef false c) ≡ true
unfolding before_alef
small-alef c = small-if (is_lam c) _ _ refl (small-if (((alone false c).0 == 0) && joining_type_eq (joining_type c) Transparent) (Some (Same, Alef)) None refl refl)

-- a small change fits, and so does the character's own width
joined-small : (c total most : ℕ) (j : Option (Change × After)) → is_small j ≡ true → 0xA0 < c → total ≤ most → Fits (joined_or total j (alone false c)) (most + cost c)
joined-small c total most None small high within = own-fits c total most high within
joined-small c total most (Some j) small high within =
    let parts = and_parts (is_small_change j.0) (no_slack j.1) small in
    by j.0 j.1 parts.0 parts.1
  where
    none : (after : After) → no_slack after ≡ true → slack after ≡ 0
    none Nothing h = refl
    none LineFeed h = refl
    none EmojiModifier h = refl
    none RegionalIndicator h = refl
    none RegionalIndicators h = refl
    none Emoji h = refl
    none ZwjEmoji h = refl
    none KeycapZwjEmoji h = refl
    none IndicatorZwj h = refl
    none EvenIndicatorsZwj h = let both : true ≡ false = sym h in cc both
    none OddIndicatorsZwj h = refl
    none TagEnd h = refl
    none TagDigit1 h = refl
    none TagDigit2 h = refl
    none TagDigit3 h = refl
    none TagLetter1 h = refl
    none TagLetter2 h = refl
    none TagLetter3 h = refl
    none TagLetter4 h = refl
    none TagLetter5 h = refl
    none TagLetter6 h = refl
    none KiratE h = refl
    none KiratAi h = refl
    none Alef h = refl
    none Solidus h = refl
    none SolidusAlef h = refl
    none Lamed h = refl
    none ZwjLamed h = refl
    none Ya h = refl
    none ZwjYa h = refl
    none VowelZwjYa h = refl
    none Tifinagh h = refl
    none ZwjTifinagh h = refl
    none JoinerTifinagh h = refl
    none LisuTone h = refl
    none OrkhonI h = refl
    none ZwjOrkhonI h = refl
    none KhmerLetter h = refl

    by : (change : Change) (after : After) → is_small_change change ≡ true → no_slack after ≡ true → Fits (changed total change, before after) (most + cost c)
    by Less after p q = omega (arith, within, none after q)
    by Same after p q = omega (arith, within, none after q)
    by One after p q = omega (arith, within, none after q, cost-some c)
    by Three after p q = let both : true ≡ false = sym p in cc both

-- regional indicators before a joiner and an emoji change more
joined-fits : (after : After) (c total most : ℕ) → 0xA0 < c → total + slack after ≤ most → needs after ≤ most → Fits (joined_or total (joins false after c) (alone false c)) (most + cost c)
unfolding joins
joined-fits Nothing c total most high within some = joined-small c total most (first_of (in_ligature Nothing c) (first_of (in_emoji Nothing c) (in_tags Nothing c))) (small-first (in_ligature Nothing c) (first_of (in_emoji Nothing c) (in_tags Nothing c)) (small-ligature Nothing c) (small-first (in_emoji Nothing c) (in_tags Nothing c) (refl) (small-tags Nothing c))) high (omega (arith, within))
joined-fits LineFeed c total most high within some = joined-small c total most (first_of (in_ligature LineFeed c) (first_of (in_emoji LineFeed c) (in_tags LineFeed c))) (small-first (in_ligature LineFeed c) (first_of (in_emoji LineFeed c) (in_tags LineFeed c)) (small-ligature LineFeed c) (small-first (in_emoji LineFeed c) (in_tags LineFeed c) (refl) (small-tags LineFeed c))) high (omega (arith, within))
joined-fits EmojiModifier c total most high within some = joined-small c total most (before_modifier c) (small-modifier c) high (omega (arith, within))
joined-fits RegionalIndicator c total most high within some = joined-small c total most (first_of (in_ligature RegionalIndicator c) (first_of (in_emoji RegionalIndicator c) (in_tags RegionalIndicator c))) (small-first (in_ligature RegionalIndicator c) (first_of (in_emoji RegionalIndicator c) (in_tags RegionalIndicator c)) (small-ligature RegionalIndicator c) (small-first (in_emoji RegionalIndicator c) (in_tags RegionalIndicator c) (small-if (is_indicator c) _ _ refl refl) (small-tags RegionalIndicator c))) high (omega (arith, within))
joined-fits RegionalIndicators c total most high within some = joined-small c total most (first_of (in_ligature RegionalIndicators c) (first_of (in_emoji RegionalIndicators c) (in_tags RegionalIndicators c))) (small-first (in_ligature RegionalIndicators c) (first_of (in_emoji RegionalIndicators c) (in_tags RegionalIndicators c)) (small-ligature RegionalIndicators c) (small-first (in_emoji RegionalIndicators c) (in_tags RegionalIndicators c) (small-if (is_indicator c) _ _ refl (small-if (c == 0x200D) _ _ refl refl)) (small-tags RegionalIndicators c))) high (omega (arith, within))
joined-fits Emoji c total most high within some = joined-small c total most (first_of (in_ligature Emoji c) (first_of (in_emoji Emoji c) (in_tags Emoji c))) (small-first (in_ligature Emoji c) (first_of (in_emoji Emoji c) (in_tags Emoji c)) (small-ligature Emoji c) (small-first (in_emoji Emoji c) (in_tags Emoji c) (small-if (c == 0x200D) _ _ refl refl) (small-tags Emoji c))) high (omega (arith, within))
joined-fits ZwjEmoji c total most high within some = joined-small c total most (before_joiner c) (small-joiner c) high (omega (arith, within))
joined-fits KeycapZwjEmoji c total most high within some = joined-small c total most (first_of (in_ligature KeycapZwjEmoji c) (first_of (in_emoji KeycapZwjEmoji c) (in_tags KeycapZwjEmoji c))) (small-first (in_ligature KeycapZwjEmoji c) (first_of (in_emoji KeycapZwjEmoji c) (in_tags KeycapZwjEmoji c)) (small-ligature KeycapZwjEmoji c) (small-first (in_emoji KeycapZwjEmoji c) (in_tags KeycapZwjEmoji c) (refl) (small-tags KeycapZwjEmoji c))) high (omega (arith, within))
joined-fits IndicatorZwj c total most high within some = elim (is_indicator c) as (λ b. Fits (joined_or total (first_of (if b then Some (Less, EvenIndicatorsZwj) else None) None) (alone false c)) (most + cost c)) [
  | true ↦ omega (arith, within, some, cost-some c)
  | false ↦ own-fits c total most high (omega (arith, within))
]
joined-fits EvenIndicatorsZwj c total most high within some = elim (c == 0x200D) as (λ a. Fits (joined_or total (first_of (if a then Some (Same, ZwjEmoji) else if is_indicator c then Some (Three, OddIndicatorsZwj) else None) None) (alone false c)) (most + cost c)) [
  | true ↦ omega (arith, within)
  | false ↦ elim (is_indicator c) as (λ b. Fits (joined_or total (first_of (if b then Some (Three, OddIndicatorsZwj) else None) None) (alone false c)) (most + cost c)) [
    | true ↦ omega (arith, within, cost-some c)
    | false ↦ own-fits c total most high (omega (arith, within))
  ]
]
joined-fits OddIndicatorsZwj c total most high within some = elim (c == 0x200D) as (λ a. Fits (joined_or total (first_of (if a then Some (Same, ZwjEmoji) else if is_indicator c then Some (Less, EvenIndicatorsZwj) else None) None) (alone false c)) (most + cost c)) [
  | true ↦ omega (arith, within)
  | false ↦ elim (is_indicator c) as (λ b. Fits (joined_or total (first_of (if b then Some (Less, EvenIndicatorsZwj) else None) None) (alone false c)) (most + cost c)) [
    | true ↦ omega (arith, within, some, cost-some c)
    | false ↦ own-fits c total most high (omega (arith, within))
  ]
]
joined-fits TagEnd c total most high within some = joined-small c total most (first_of (in_ligature TagEnd c) (first_of (in_emoji TagEnd c) (in_tags TagEnd c))) (small-first (in_ligature TagEnd c) (first_of (in_emoji TagEnd c) (in_tags TagEnd c)) (small-ligature TagEnd c) (small-first (in_emoji TagEnd c) (in_tags TagEnd c) (refl) (small-tags TagEnd c))) high (omega (arith, within))
joined-fits TagDigit1 c total most high within some = joined-small c total most (first_of (in_ligature TagDigit1 c) (first_of (in_emoji TagDigit1 c) (in_tags TagDigit1 c))) (small-first (in_ligature TagDigit1 c) (first_of (in_emoji TagDigit1 c) (in_tags TagDigit1 c)) (small-ligature TagDigit1 c) (small-first (in_emoji TagDigit1 c) (in_tags TagDigit1 c) (refl) (small-tags TagDigit1 c))) high (omega (arith, within))
joined-fits TagDigit2 c total most high within some = joined-small c total most (first_of (in_ligature TagDigit2 c) (first_of (in_emoji TagDigit2 c) (in_tags TagDigit2 c))) (small-first (in_ligature TagDigit2 c) (first_of (in_emoji TagDigit2 c) (in_tags TagDigit2 c)) (small-ligature TagDigit2 c) (small-first (in_emoji TagDigit2 c) (in_tags TagDigit2 c) (refl) (small-tags TagDigit2 c))) high (omega (arith, within))
joined-fits TagDigit3 c total most high within some = joined-small c total most (first_of (in_ligature TagDigit3 c) (first_of (in_emoji TagDigit3 c) (in_tags TagDigit3 c))) (small-first (in_ligature TagDigit3 c) (first_of (in_emoji TagDigit3 c) (in_tags TagDigit3 c)) (small-ligature TagDigit3 c) (small-first (in_emoji TagDigit3 c) (in_tags TagDigit3 c) (refl) (small-tags TagDigit3 c))) high (omega (arith, within))
joined-fits TagLetter1 c total most high within some = joined-small c total most (first_of (in_ligature TagLetter1 c) (first_of (in_emoji TagLetter1 c) (in_tags TagLetter1 c))) (small-first (in_ligature TagLetter1 c) (first_of (in_emoji TagLetter1 c) (in_tags TagLetter1 c)) (small-ligature TagLetter1 c) (small-first (in_emoji TagLetter1 c) (in_tags TagLetter1 c) (refl) (small-tags TagLetter1 c))) high (omega (arith, within))
joined-fits TagLetter2 c total most high within some = joined-small c total most (first_of (in_ligature TagLetter2 c) (first_of (in_emoji TagLetter2 c) (in_tags TagLetter2 c))) (small-first (in_ligature TagLetter2 c) (first_of (in_emoji TagLetter2 c) (in_tags TagLetter2 c)) (small-ligature TagLetter2 c) (small-first (in_emoji TagLetter2 c) (in_tags TagLetter2 c) (refl) (small-tags TagLetter2 c))) high (omega (arith, within))
joined-fits TagLetter3 c total most high within some = joined-small c total most (first_of (in_ligature TagLetter3 c) (first_of (in_emoji TagLetter3 c) (in_tags TagLetter3 c))) (small-first (in_ligature TagLetter3 c) (first_of (in_emoji TagLetter3 c) (in_tags TagLetter3 c)) (small-ligature TagLetter3 c) (small-first (in_emoji TagLetter3 c) (in_tags TagLetter3 c) (refl) (small-tags TagLetter3 c))) high (omega (arith, within))
joined-fits TagLetter4 c total most high within some = joined-small c total most (first_of (in_ligature TagLetter4 c) (first_of (in_emoji TagLetter4 c) (in_tags TagLetter4 c))) (small-first (in_ligature TagLetter4 c) (first_of (in_emoji TagLetter4 c) (in_tags TagLetter4 c)) (small-ligature TagLetter4 c) (small-first (in_emoji TagLetter4 c) (in_tags TagLetter4 c) (refl) (small-tags TagLetter4 c))) high (omega (arith, within))
joined-fits TagLetter5 c total most high within some = joined-small c total most (first_of (in_ligature TagLetter5 c) (first_of (in_emoji TagLetter5 c) (in_tags TagLetter5 c))) (small-first (in_ligature TagLetter5 c) (first_of (in_emoji TagLetter5 c) (in_tags TagLetter5 c)) (small-ligature TagLetter5 c) (small-first (in_emoji TagLetter5 c) (in_tags TagLetter5 c) (refl) (small-tags TagLetter5 c))) high (omega (arith, within))
joined-fits TagLetter6 c total most high within some = joined-small c total most (first_of (in_ligature TagLetter6 c) (first_of (in_emoji TagLetter6 c) (in_tags TagLetter6 c))) (small-first (in_ligature TagLetter6 c) (first_of (in_emoji TagLetter6 c) (in_tags TagLetter6 c)) (small-ligature TagLetter6 c) (small-first (in_emoji TagLetter6 c) (in_tags TagLetter6 c) (refl) (small-tags TagLetter6 c))) high (omega (arith, within))
joined-fits KiratE c total most high within some = joined-small c total most (first_of (in_ligature KiratE c) (first_of (in_emoji KiratE c) (in_tags KiratE c))) (small-first (in_ligature KiratE c) (first_of (in_emoji KiratE c) (in_tags KiratE c)) (small-ligature KiratE c) (small-first (in_emoji KiratE c) (in_tags KiratE c) (refl) (small-tags KiratE c))) high (omega (arith, within))
joined-fits KiratAi c total most high within some = joined-small c total most (first_of (in_ligature KiratAi c) (first_of (in_emoji KiratAi c) (in_tags KiratAi c))) (small-first (in_ligature KiratAi c) (first_of (in_emoji KiratAi c) (in_tags KiratAi c)) (small-ligature KiratAi c) (small-first (in_emoji KiratAi c) (in_tags KiratAi c) (refl) (small-tags KiratAi c))) high (omega (arith, within))
joined-fits Alef c total most high within some = joined-small c total most (before_alef false c) (small-alef c) high (omega (arith, within))
joined-fits Solidus c total most high within some = joined-small c total most (first_of (in_ligature Solidus c) (first_of (in_emoji Solidus c) (in_tags Solidus c))) (small-first (in_ligature Solidus c) (first_of (in_emoji Solidus c) (in_tags Solidus c)) (small-ligature Solidus c) (small-first (in_emoji Solidus c) (in_tags Solidus c) (refl) (small-tags Solidus c))) high (omega (arith, within))
joined-fits SolidusAlef c total most high within some = joined-small c total most None refl high (omega (arith, within))
joined-fits Lamed c total most high within some = joined-small c total most (first_of (in_ligature Lamed c) (first_of (in_emoji Lamed c) (in_tags Lamed c))) (small-first (in_ligature Lamed c) (first_of (in_emoji Lamed c) (in_tags Lamed c)) (small-ligature Lamed c) (small-first (in_emoji Lamed c) (in_tags Lamed c) (refl) (small-tags Lamed c))) high (omega (arith, within))
joined-fits ZwjLamed c total most high within some = joined-small c total most (first_of (in_ligature ZwjLamed c) (first_of (in_emoji ZwjLamed c) (in_tags ZwjLamed c))) (small-first (in_ligature ZwjLamed c) (first_of (in_emoji ZwjLamed c) (in_tags ZwjLamed c)) (small-ligature ZwjLamed c) (small-first (in_emoji ZwjLamed c) (in_tags ZwjLamed c) (refl) (small-tags ZwjLamed c))) high (omega (arith, within))
joined-fits Ya c total most high within some = joined-small c total most (first_of (in_ligature Ya c) (first_of (in_emoji Ya c) (in_tags Ya c))) (small-first (in_ligature Ya c) (first_of (in_emoji Ya c) (in_tags Ya c)) (small-ligature Ya c) (small-first (in_emoji Ya c) (in_tags Ya c) (refl) (small-tags Ya c))) high (omega (arith, within))
joined-fits ZwjYa c total most high within some = joined-small c total most (first_of (in_ligature ZwjYa c) (first_of (in_emoji ZwjYa c) (in_tags ZwjYa c))) (small-first (in_ligature ZwjYa c) (first_of (in_emoji ZwjYa c) (in_tags ZwjYa c)) (small-ligature ZwjYa c) (small-first (in_emoji ZwjYa c) (in_tags ZwjYa c) (refl) (small-tags ZwjYa c))) high (omega (arith, within))
joined-fits VowelZwjYa c total most high within some = joined-small c total most (first_of (in_ligature VowelZwjYa c) (first_of (in_emoji VowelZwjYa c) (in_tags VowelZwjYa c))) (small-first (in_ligature VowelZwjYa c) (first_of (in_emoji VowelZwjYa c) (in_tags VowelZwjYa c)) (small-ligature VowelZwjYa c) (small-first (in_emoji VowelZwjYa c) (in_tags VowelZwjYa c) (refl) (small-tags VowelZwjYa c))) high (omega (arith, within))
joined-fits Tifinagh c total most high within some = joined-small c total most (first_of (in_ligature Tifinagh c) (first_of (in_emoji Tifinagh c) (in_tags Tifinagh c))) (small-first (in_ligature Tifinagh c) (first_of (in_emoji Tifinagh c) (in_tags Tifinagh c)) (small-ligature Tifinagh c) (small-first (in_emoji Tifinagh c) (in_tags Tifinagh c) (refl) (small-tags Tifinagh c))) high (omega (arith, within))
joined-fits ZwjTifinagh c total most high within some = joined-small c total most (first_of (in_ligature ZwjTifinagh c) (first_of (in_emoji ZwjTifinagh c) (in_tags ZwjTifinagh c))) (small-first (in_ligature ZwjTifinagh c) (first_of (in_emoji ZwjTifinagh c) (in_tags ZwjTifinagh c)) (small-ligature ZwjTifinagh c) (small-first (in_emoji ZwjTifinagh c) (in_tags ZwjTifinagh c) (refl) (small-tags ZwjTifinagh c))) high (omega (arith, within))
joined-fits JoinerTifinagh c total most high within some = joined-small c total most (first_of (in_ligature JoinerTifinagh c) (first_of (in_emoji JoinerTifinagh c) (in_tags JoinerTifinagh c))) (small-first (in_ligature JoinerTifinagh c) (first_of (in_emoji JoinerTifinagh c) (in_tags JoinerTifinagh c)) (small-ligature JoinerTifinagh c) (small-first (in_emoji JoinerTifinagh c) (in_tags JoinerTifinagh c) (refl) (small-tags JoinerTifinagh c))) high (omega (arith, within))
joined-fits LisuTone c total most high within some = joined-small c total most (first_of (in_ligature LisuTone c) (first_of (in_emoji LisuTone c) (in_tags LisuTone c))) (small-first (in_ligature LisuTone c) (first_of (in_emoji LisuTone c) (in_tags LisuTone c)) (small-ligature LisuTone c) (small-first (in_emoji LisuTone c) (in_tags LisuTone c) (refl) (small-tags LisuTone c))) high (omega (arith, within))
joined-fits OrkhonI c total most high within some = joined-small c total most (first_of (in_ligature OrkhonI c) (first_of (in_emoji OrkhonI c) (in_tags OrkhonI c))) (small-first (in_ligature OrkhonI c) (first_of (in_emoji OrkhonI c) (in_tags OrkhonI c)) (small-ligature OrkhonI c) (small-first (in_emoji OrkhonI c) (in_tags OrkhonI c) (refl) (small-tags OrkhonI c))) high (omega (arith, within))
joined-fits ZwjOrkhonI c total most high within some = joined-small c total most (first_of (in_ligature ZwjOrkhonI c) (first_of (in_emoji ZwjOrkhonI c) (in_tags ZwjOrkhonI c))) (small-first (in_ligature ZwjOrkhonI c) (first_of (in_emoji ZwjOrkhonI c) (in_tags ZwjOrkhonI c)) (small-ligature ZwjOrkhonI c) (small-first (in_emoji ZwjOrkhonI c) (in_tags ZwjOrkhonI c) (refl) (small-tags ZwjOrkhonI c))) high (omega (arith, within))
joined-fits KhmerLetter c total most high within some = joined-small c total most (first_of (in_ligature KhmerLetter c) (first_of (in_emoji KhmerLetter c) (in_tags KhmerLetter c))) (small-first (in_ligature KhmerLetter c) (first_of (in_emoji KhmerLetter c) (in_tags KhmerLetter c)) (small-ligature KhmerLetter c) (small-first (in_emoji KhmerLetter c) (in_tags KhmerLetter c) (refl) (small-tags KhmerLetter c))) high (omega (arith, within))

-- ---- one step back

slack-joiner : (after : After) → slack (with_joiner after) ≡ slack after
slack-joiner Nothing = refl
slack-joiner LineFeed = refl
slack-joiner EmojiModifier = refl
slack-joiner RegionalIndicator = refl
slack-joiner RegionalIndicators = refl
slack-joiner Emoji = refl
slack-joiner ZwjEmoji = refl
slack-joiner KeycapZwjEmoji = refl
slack-joiner IndicatorZwj = refl
slack-joiner EvenIndicatorsZwj = refl
slack-joiner OddIndicatorsZwj = refl
slack-joiner TagEnd = refl
slack-joiner TagDigit1 = refl
slack-joiner TagDigit2 = refl
slack-joiner TagDigit3 = refl
slack-joiner TagLetter1 = refl
slack-joiner TagLetter2 = refl
slack-joiner TagLetter3 = refl
slack-joiner TagLetter4 = refl
slack-joiner TagLetter5 = refl
slack-joiner TagLetter6 = refl
slack-joiner KiratE = refl
slack-joiner KiratAi = refl
slack-joiner Alef = refl
slack-joiner Solidus = refl
slack-joiner SolidusAlef = refl
slack-joiner Lamed = refl
slack-joiner ZwjLamed = refl
slack-joiner Ya = refl
slack-joiner ZwjYa = refl
slack-joiner VowelZwjYa = refl
slack-joiner Tifinagh = refl
slack-joiner ZwjTifinagh = refl
slack-joiner JoinerTifinagh = refl
slack-joiner LisuTone = refl
slack-joiner OrkhonI = refl
slack-joiner ZwjOrkhonI = refl
slack-joiner KhmerLetter = refl

past-fits : (c total most : ℕ) (after : After) → 0xA0 < c → total + slack after ≤ most → needs after ≤ most → Fits (past_selectors false c total after) (most + cost c)
unfolding past_selectors
past-fits c total most after high within some =
    if-known (skips_marks after && (c == 0x200D)) (total, before (with_joiner after)) _ (most + cost c)
    (λ _. omega (arith, within, slack-joiner after))
    (λ _. if-known (skips_marks after && is_ligature_transparent c) (total, before after) _ (most + cost c)
    (λ _. omega (arith, within))
    (λ _. joined-fits after c total most high within some))

-- what stays of the state under a selector owes no more
kept-owes : (s : State) → owed (if_kept s) ≤ owed s
kept-owes s = elim (is_kept s.after) as (λ b. owed (if b then s else plain) ≤ owed s) [
  | true ↦ omega arith
  | false ↦ omega arith
]

kept-slack : (s : State) → slack (if_kept s).after ≤ slack s.after
kept-slack s = elim (is_kept s.after) as (λ b. slack (if b then s else plain).after ≤ slack s.after) [
  | true ↦ omega arith
  | false ↦ omega arith
]

kept-quote : (s : State) → flag (if_kept s).quote ≤ flag s.quote
kept-quote s = elim (is_kept s.after) as (λ b. flag (if b then s else plain).quote ≤ flag s.quote) [
  | true ↦ omega arith
  | false ↦ omega arith
]

kept-emoji : (s : State) → flag (if_kept s).emoji ≤ flag s.emoji
kept-emoji s = elim (is_kept s.after) as (λ b. flag (if b then s else plain).emoji ≤ flag s.emoji) [
  | true ↦ omega arith
  | false ↦ omega arith
]

kept-needs : (s : State) → needs (if_kept s).after ≤ needs s.after
kept-needs s = elim (is_kept s.after) as (λ b. needs (if b then s else plain).after ≤ needs s.after) [
  | true ↦ omega arith
  | false ↦ omega arith
]

context-fits : (c total most : ℕ) (s : State) → 0xA0 < c → total + owed s ≤ most → needs s.after ≤ most → Fits (in_context false c total s) (most + cost c)
unfolding in_context
context-fits c total most s high within some =
    if-known (c == 0xFE0F) _ _ (most + cost c)
    (λ _. elim (is_joined_emoji s.after) as (λ b. total + owed (record (if b then s else if_kept s) { emoji = true }) ≤ most + cost c) [
      | true ↦ omega (arith, within, cost-some c)
      | false ↦ omega (arith, within, cost-some c, kept-slack s, kept-quote s)
    ])
    (λ _. if-known (c == 0xFE01) _ _ (most + cost c)
    (λ _. omega (arith, within, cost-some c, kept-slack s, kept-emoji s))
    (λ _. if-known (c == 0xFE0E) _ _ (most + cost c)
    (λ _. omega (arith, within, cost-some c, kept-owes s))
    (λ _. if-known (s.text && is_text_presentation_base c) _ _ (most + cost c)
    (λ _. omega (arith, within, cost-some c))
    (λ _. if-known (s.quote && is_quote c) _ _ (most + cost c)
    (λ is. let quote = ap flag (and_parts s.quote (is_quote c) is).0 in omega (arith, within, cost-some c, quote))
    (λ _. past-fits c total most s.after high (omega (arith, within)) some)))))

emoji-fits : (c total most : ℕ) (s : State) → total + owed s ≤ most → needs s.after ≤ most → Fits (past_emoji false c total s) (most + cost c)
unfolding past_emoji
emoji-fits c total most s within some =
    if-known (c == 0x0A) _ _ (most + cost c)
    (λ _. omega (arith, within, cost-some c))
    (λ _. if-known ((c == 0x0D) && is_line_feed s.after) (total, plain) _ (most + cost c)
    (λ _. omega (arith, within, cost-some c))
    (λ _. if-known (nat_le c 0xA0) _ _ (most + cost c)
    (λ _. omega (arith, within, cost-some c))
    (λ above. let high : 0xA0 < c = grind (arith, nat_tests, above) in
    if-known (is_plain s) _ _ (most + cost c)
    (λ _. own-fits c total most high (omega (arith, within)))
    (λ _. context-fits c total most s high within some))))

step-fits : (c total most : ℕ) (s : State) → total + owed s ≤ most → needs s.after ≤ most → Fits (step false c (total, s)) (most + cost c)
unfolding step
step-fits c total most s within some =
    if-known (not s.emoji) _ _ (most + cost c)
    (λ _. emoji-fits c total most s within some)
    (λ is. if-known (is_emoji_variation_base c) _ _ (most + cost c)
    (λ _. let set = emoji-set s.emoji is in elim (is_joined_emoji s.after) as (λ b. total + (if b then 0 else 2) + 0 ≤ most + cost c) [
      | true ↦ omega (arith, within, cost-some c)
      | false ↦ omega (arith, within, cost-some c, set)
    ])
    (λ _. emoji-fits c total most (record (if_kept s) { emoji = false }) (omega (arith, within, kept-slack s, kept-quote s)) (omega (arith, some, kept-needs s))))
  where
    emoji-set : (b : Bool) → not b ≡ false → flag b ≡ 1
    emoji-set true h = refl
    emoji-set false h = let both : true ≡ false = h in cc both

needs-one : (after : After) → needs after ≤ 1
needs-one Nothing = omega arith
needs-one LineFeed = omega arith
needs-one EmojiModifier = omega arith
needs-one RegionalIndicator = omega arith
needs-one RegionalIndicators = omega arith
needs-one Emoji = omega arith
needs-one ZwjEmoji = omega arith
needs-one KeycapZwjEmoji = omega arith
needs-one IndicatorZwj = omega arith
needs-one EvenIndicatorsZwj = omega arith
needs-one OddIndicatorsZwj = omega arith
needs-one TagEnd = omega arith
needs-one TagDigit1 = omega arith
needs-one TagDigit2 = omega arith
needs-one TagDigit3 = omega arith
needs-one TagLetter1 = omega arith
needs-one TagLetter2 = omega arith
needs-one TagLetter3 = omega arith
needs-one TagLetter4 = omega arith
needs-one TagLetter5 = omega arith
needs-one TagLetter6 = omega arith
needs-one KiratE = omega arith
needs-one KiratAi = omega arith
needs-one Alef = omega arith
needs-one Solidus = omega arith
needs-one SolidusAlef = omega arith
needs-one Lamed = omega arith
needs-one ZwjLamed = omega arith
needs-one Ya = omega arith
needs-one ZwjYa = omega arith
needs-one VowelZwjYa = omega arith
needs-one Tifinagh = omega arith
needs-one ZwjTifinagh = omega arith
needs-one JoinerTifinagh = omega arith
needs-one LisuTone = omega arith
needs-one OrkhonI = omega arith
needs-one ZwjOrkhonI = omega arith
needs-one KhmerLetter = omega arith

-- ---- the whole text

read-fits : (cs : List ℕ) → Fits (read_before false cs (0, plain)) (line_cost cs) × (needs (read_before false cs (0, plain)).1.after ≤ line_cost cs)
read-fits [] = (omega arith, omega arith)
read-fits (c ∷ cs) =
    let before_c = read-fits cs in
    let r = read_before false cs (0, plain) in
    let fits = step-fits c r.0 (line_cost cs) r.1 before_c.0 before_c.1 in
    let sum : line_cost (c ∷ cs) ≡ cost c + line_cost cs = sum_by-cons cost c cs in
    let more : line_cost (c ∷ cs) ≡ line_cost cs + cost c = omega (arith, sum) in
    (omega (arith, fits, more), omega (arith, needs-one (step false c r).1.after, cost-some c, more))

pub bounded : (cs : List ℕ) → measure cs ≤ line_cost cs
unfolding str_width
bounded cs = omega (arith, (read-fits cs).0)

-- ---- what was read takes at most so many columns, with what the characters before it may still add

abbrev pub Bounded : Reading → ℕ → Type 0
Bounded r most = Fits r most × (needs r.1.after ≤ most)

pub bounded-plain : (total most : ℕ) → total ≤ most → Bounded (total, plain) most
bounded-plain total most within = (omega (arith, within), omega arith)

pub bounded-step : (c : ℕ) (r : Reading) (most : ℕ) → Bounded r most → Bounded (step false c r) (most + cost c)
bounded-step c r most is = (step-fits c r.0 most r.1 is.0 is.1, omega (arith, needs-one (step false c r).1.after, cost-some c))

pub bounded-total : (r : Reading) (most : ℕ) → Bounded r most → r.0 ≤ most
bounded-total r most is = omega (arith, is.0)
