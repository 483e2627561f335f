-- A character comes off the text, and its escape is appended to the result.
use Rattle.std.proofs.Common.{rules, ◌++◌, ◌∙◌, ℕ, List, ap, append_assoc, append-nil, chars, flat_map, string_bytes, sym}
use Rattle.std.specs.Str.Iter.{chars_rest}
use Rattle.std.proofs.lemmas.List.{nil_from_length}
use Rattle.std.proofs.lemmas.Str.{IsUtf8-past_char, chars_past_char, chars-nil}
use Rattle.tabled_expanded.specs.Escapes.{escaped_char}
use Rattle.tabled_expanded.proofs.escaping.escaped_text.Goals as goal

pub loop-c-preserved : goal.loop-c-preserved
loop-c-preserved c =
    let l = c.loop-c in
    let before = chars_rest l.c-iterator in
    let behind = chars_rest c.next.new.self in
    let more = flat_map escaped_char (chars behind) in
    record {
      goes = search rules;
      text = IsUtf8-past_char before behind c.in-Some.c l.invariant.text c.in-Some.ensures.steps.0;
      left = ap (λ (bytes : List ℕ). bytes ++ more) c.in_ok-push_escaped.ensures
          ∙ append_assoc (string_bytes l.out) (escaped_char c.in-Some.c) more
          ∙ ap (λ (cs : List ℕ). string_bytes l.out ++ flat_map escaped_char cs) (sym (chars_past_char before behind c.in-Some.c l.invariant.text c.in-Some.ensures.steps.0))
          ∙ l.invariant.left;
    }

pub returns : goal.returns
returns c =
    let l = c.loop-c in
    let none = ap (λ (bytes : List ℕ). chars bytes) (nil_from_length (chars_rest l.c-iterator) c.in-None.ensures.steps.0.0) ∙ chars-nil in
    sym (append-nil (string_bytes l.out)) ∙ sym (ap (λ (cs : List ℕ). string_bytes l.out ++ flat_map escaped_char cs) none) ∙ l.invariant.left
