-- The part before the next match, and the rest after it.
use Rattle.std.proofs.Common.{rules, ◌≡◌, ◌∙◌, ◌∷◌, [], ◌+◌, ◌≤◌, drop, ap, sym, subst, true, false, Bool, IsTrue, refl, ℕ, List, length, Option, Some, arith}
use Rattle.std.specs.Prelude.{unwrap_or, IfSome}
use Rattle.std.specs.Option.{option_map}
use Rattle.std.specs.Str.{IsCharBoundary}
use Rattle.ansi_scan.specs.Pieces.{pieces}
use Rattle.ansi_str_search.specs.Text.StyledText.{strip}
use Rattle.ansi_str_search.specs.PartsLeft.{passed_over, parts_left}
use Rattle.ansi_str_search.proofs.Rests.{strip-fits, match-cut, match-fits, last-part, next-part, next_pieces, next_open, pattern-cut, left-no_escape, left-plain, left-shown, shown-behind}
use Rattle.ansi_str_search.proofs.rest.Rest.split_at_match.Goals as goal

is_true : (b : Bool) → (b ≡ false → ⊥) → IsTrue b
is_true true other = refl
is_true false other = absurd (other refl)

pub part-requires : goal.part-requires
part-requires c =
    let self = c.next_match.new.self in
    let shown = strip (pieces self.place.rest.now) in
    let found = c.in_ok-found.found in
    let from = passed_over self.begun self.pattern.now in
    let all = length self.place.rest.now in
    record {
      cut = match-cut self.pattern.now from shown found all c.unwrap_or-len.result c.in_ok-found.ensures.found c.unwrap_or-len.ensures (strip-fits self.place.rest.now);
      fits = match-fits self.pattern.now from shown found all c.unwrap_or-len.result c.in_ok-found.ensures.found c.unwrap_or-len.ensures (strip-fits self.place.rest.now);
    }

pub returns-in_default-clause-part : goal.returns-in_default-clause-part
returns-in_default-clause-part c =
    let self = c.next_match.new.self in
    let rest = self.place.rest.now in
    let all : c.unwrap_or-len.result ≡ length rest = c.unwrap_or-len.ensures ∙ ap (λ (found : Option ℕ). unwrap_or found (length rest)) c.in_default.is in
    sym c.next_match.ensures.parts
    ∙ last-part self.pattern.now self.begun rest self.place.style c.unwrap_or-len.result (sym c.in_default.is ∙ c.in_ok-found.ensures.found) (omega (arith, all))
    ∙ ap (λ (bytes : List ℕ). bytes ∷ []) (sym c.in_ok-part.ensures.part)

pub overflow_add-n : goal.overflow_add-n
overflow_add-n c =
    let self = c.next_match.new.self in
    let at = subst (λ (found : Option ℕ). IfSome found (λ n. IsCharBoundary (strip (pieces self.place.rest.now)) (n + length self.pattern.now))) c.in-Some.is c.in_ok-found.ensures.ends in
    let shown = strip-fits self.place.rest.now in
    let fits : c.in-Some.n + length self.pattern.now ≤ length self.place.rest.now = omega (arith, shown, at.0) in
    search (rules, fits)

pub after-self-requires : goal.after-self-requires
after-self-requires c = λ less.
    let self = c.next_match.new.self in
    let shown = strip (pieces self.place.rest.now) in
    let size = length self.pattern.now in
    let at = subst (λ (found : Option ℕ). IfSome found (λ n. IsCharBoundary shown (n + size))) c.in-Some.is c.in_ok-found.ensures.ends in
    let len : c.unwrap_or-len.result ≡ c.in-Some.n = c.unwrap_or-len.ensures ∙ ap (λ (found : Option ℕ). unwrap_or found (length self.place.rest.now)) c.in-Some.is in
    pattern-cut self.place.rest.now c.unwrap_or-len.result size (subst (λ n. IsCharBoundary shown (n + size)) (sym len) at) c.in_ok-part.cut.rest.now c.in_ok-part.ensures.rest

pub invariant_of-self : goal.invariant_of-self
invariant_of-self c =
    let self = c.next_match.new.self in
    let rest = self.place.rest.now in
    let shown = strip (pieces rest) in
    let size = length self.pattern.now in
    let cut = c.in_ok-part.cut in
    let next = c.after-self.result in
    let at = subst (λ (found : Option ℕ). IfSome found (λ n. IsCharBoundary shown (n + size))) c.in-Some.is c.in_ok-found.ensures.ends in
    let len : c.unwrap_or-len.result ≡ c.in-Some.n = c.unwrap_or-len.ensures ∙ ap (λ (found : Option ℕ). unwrap_or found (length rest)) c.in-Some.is in
    let there = next_pieces rest self.place.style c.unwrap_or-len.result cut.rest.now cut.style c.in_ok-part.ensures.rest c.in_ok-part.ensures.style size next.rest.now next.style c.after-self.ensures.rest c.after-self.ensures.style in
    let known = next_open rest self.place.style c.unwrap_or-len.result cut.rest.now cut.style c.in_ok-part.ensures.rest c.in_ok-part.ensures.style size next.rest.now next.style c.after-self.ensures.rest c.after-self.ensures.style in
    let k = c.unwrap_or-len.result + size in
    let fits : k ≤ length shown = omega (arith, len, at.0) in
    record {
      no_escape = λ plain_text. left-no_escape rest self.place.style k next.rest.now next.style there known (self.no_escape plain_text);
      plain = λ plain_text. left-plain rest self.place.style k next.rest.now next.style there known (self.no_escape plain_text) (self.plain plain_text) fits;
      shown = λ bytes e.
          shown-behind (c.in-Some.n + size) shown self.stripped self.shown bytes (ap (option_map (drop (c.in-Some.n + size))) (sym c.take.ensures.value) ∙ sym c.behind.ensures ∙ e)
          ∙ ap (λ m. drop (m + size) shown) (sym len) ∙ sym (left-shown rest self.place.style k next.rest.now next.style there known);
    }

pub returns-clause-borrows : goal.returns-clause-borrows
returns-clause-borrows c = λ owned.
    let self = c.next_match.new.self in
    is_true c.args.self.styled (λ plain_text.
    let plain : self.styled ≡ false = c.next_match.ensures.styled ∙ plain_text in
    c.in_ok-part.ensures.borrows (self.plain plain) (self.no_escape plain) owned)

pub returns-clause-part : goal.returns-clause-part
returns-clause-part c =
    let self = c.next_match.new.self in
    let rest = self.place.rest.now in
    let size = length self.pattern.now in
    let cut = c.in_ok-part.cut in
    let next = c.after-self.result in
    let len : c.unwrap_or-len.result ≡ c.in-Some.n = c.unwrap_or-len.ensures ∙ ap (λ (found : Option ℕ). unwrap_or found (length rest)) c.in-Some.is in
    let there = next_pieces rest self.place.style c.unwrap_or-len.result cut.rest.now cut.style c.in_ok-part.ensures.rest c.in_ok-part.ensures.style size next.rest.now next.style c.after-self.ensures.rest c.after-self.ensures.style in
    let known = next_open rest self.place.style c.unwrap_or-len.result cut.rest.now cut.style c.in_ok-part.ensures.rest c.in_ok-part.ensures.style size next.rest.now next.style c.after-self.ensures.rest c.after-self.ensures.style in
    sym c.next_match.ensures.parts
    ∙ next-part self.pattern.now self.begun rest self.place.style c.unwrap_or-len.result next.rest.now next.style (ap Some len ∙ sym c.in-Some.is ∙ c.in_ok-found.ensures.found) there known
    ∙ ap (λ (bytes : List ℕ). bytes ∷ parts_left self.pattern.now true next.style (pieces next.rest.now)) (sym c.in_ok-part.ensures.part)
