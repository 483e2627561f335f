-- The part before the byte, and the rest after it.
use Rattle.std.proofs.Common.{rules, ◌≡◌, ◌∙◌, ◌+◌, ap, sym, true, false, Bool, IsTrue, ℕ, List, [], ◌∷◌, length, drop, refl, eqb-true}
use Rattle.std.specs.Prelude.{is_some}
use Rattle.std.specs.Cow.{cow_str_bytes}
use Rattle.ansi_scan.specs.Sequences.{joined}
use Rattle.ansi_scan.specs.Pieces.{pieces}
use Rattle.ansi_str_search.specs.Parts.{through_place}
use Rattle.ansi_str_search.specs.PartsLeft.{parts_left}
use Rattle.ansi_str_search.specs.Walking.{bytes_to}
use Rattle.ansi_str_search.proofs.Finds.{not_empty}
use Rattle.ansi_str_search.proofs.Rests.{left-no_escape}
use Rattle.ansi_str_search.proofs.ByteParts.{byte-slice, byte-part, byte-plain, byte-there, byte-known, byte-next, byte-last}
use Rattle.ansi_str_search.proofs.rest.Rest.split_at_byte.Goals as goal

is_true : (b : Bool) → (b ≡ false → ⊥) → IsTrue b
is_true true other = refl
is_true false other = absurd (other refl)

pub part_to-requires : goal.part_to-requires
part_to-requires c =
    let self = c.args.self in
    let end = c.to_byte-end.result in (
      joined (through_place (bytes_to c.args.byte self.place.rest.now) (pieces self.place.rest.now)),
      byte-slice c.args.byte self.place.rest.now self.place.style end.rest.now end.style c.to_byte-end.ensures,
    )

pub returns-in_err-part-clause-refuses : goal.returns-in_err-part-clause-refuses
returns-in_err-part-clause-refuses c =
    let self = c.args.self in
    let end = c.to_byte-end.result in
    let styled : IsTrue self.styled = is_true self.styled (λ plain_text.
    let answered : false ≡ true = c.in_err-part.ensures.answers (self.plain plain_text) (byte-plain c.args.byte self.place.rest.now self.place.style end.rest.now end.style c.to_byte-end.ensures (self.no_escape plain_text) (self.plain plain_text)) in
    cc answered) in
    search (rules, styled)

pub returns-then-is_empty-clause-part : goal.returns-then-is_empty-clause-part
returns-then-is_empty-clause-part c =
    let self = c.args.self in
    let rest = self.place.rest.now in
    let end = c.to_byte-end.result in
    ap (λ (pattern : List ℕ). parts_left pattern self.begun self.place.style (pieces rest)) c.requires.1
    ∙ byte-last c.args.byte rest self.place.style end.rest.now end.style c.to_byte-end.ensures self.begun (eqb-true (length end.rest.now) 0 (sym c.is_empty.ensures ∙ c.if-is_empty.true))
    ∙ ap (λ (bytes : List ℕ). bytes ∷ []) (sym (c.in_ok-part.ensures.part ∙ byte-part c.args.byte rest self.place.style end.rest.now end.style c.to_byte-end.ensures))

pub returns-then-is_empty-clause-borrows : goal.returns-then-is_empty-clause-borrows
returns-then-is_empty-clause-borrows c = λ owned.
    let self = c.args.self in
    let end = c.to_byte-end.result in
    is_true self.styled (λ plain_text.
    c.in_ok-part.ensures.borrows (self.plain plain_text) (byte-plain c.args.byte self.place.rest.now self.place.style end.rest.now end.style c.to_byte-end.ensures (self.no_escape plain_text) (self.plain plain_text)) owned)

pub invariant_of-self : goal.invariant_of-self
invariant_of-self c =
    let self = c.args.self in
    let rest = self.place.rest.now in
    let end = c.to_byte-end.result in
    let next = c.behind_byte.result.now in
    let some = not_empty (length end.rest.now) c.if-is_empty.ensures in
    let there = ap pieces c.behind_byte.ensures ∙ byte-there c.args.byte rest self.place.style end.rest.now end.style c.to_byte-end.ensures some in
    let known = byte-known c.args.byte rest self.place.style end.rest.now end.style c.to_byte-end.ensures some in
    record {
      no_escape = λ plain_text. left-no_escape rest self.place.style (bytes_to c.args.byte rest + 1) next end.style there known (self.no_escape plain_text);
      plain = λ plain_text. byte-plain c.args.byte rest self.place.style end.rest.now end.style c.to_byte-end.ensures (self.no_escape plain_text) (self.plain plain_text);
      shown = λ bytes e. let both : false ≡ true = ap is_some e in cc both;
    }

pub returns-clause-part : goal.returns-clause-part
returns-clause-part c =
    let self = c.args.self in
    let rest = self.place.rest.now in
    let end = c.to_byte-end.result in
    let some = not_empty (length end.rest.now) c.if-is_empty.ensures in
    let part = cow_str_bytes c.in_ok-part.part in
    ap (λ (pattern : List ℕ). parts_left pattern self.begun self.place.style (pieces rest)) c.requires.1
    ∙ byte-next c.args.byte rest self.place.style end.rest.now end.style c.to_byte-end.ensures some self.begun
    ∙ ap (λ (bytes : List ℕ). bytes ∷ parts_left (c.args.byte ∷ []) true end.style (pieces (drop 1 end.rest.now))) (sym (c.in_ok-part.ensures.part ∙ byte-part c.args.byte rest self.place.style end.rest.now end.style c.to_byte-end.ensures))
    ∙ ap (λ (pattern : List ℕ). part ∷ parts_left pattern true end.style (pieces (drop 1 end.rest.now))) (sym c.requires.1)
    ∙ ap (λ (bytes : List ℕ). part ∷ parts_left self.pattern.now true end.style (pieces bytes)) (sym c.behind_byte.ensures)
