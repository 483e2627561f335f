-- A character comes off the text, and what is shown of it onto the answer.
use Rattle.std.proofs.Common.{rules, ◌++◌, ◌∙◌, ℕ, List, ap, append_assoc, append-nil, chars, flat_map, string_bytes, sym}
use Rattle.std.specs.Str.Iter.{chars_rest}
use Rattle.std.proofs.lemmas.List.{nil_from_length}
use Rattle.std.proofs.lemmas.Str.{IsUtf8-past_char, chars_past_char, chars-nil}
use Rattle.program_options.specs.declared.basinmug.Escapes.TheVariants.{None as NoEscapes}
use Rattle.basinmug_input.specs.Cleaning.{ordered_char}
use Rattle.basinmug_run.proofs.messages.with_visible_controls.Goals as goal

pub loop-c-preserved : goal.loop-c-preserved
loop-c-preserved c =
    let l = c.loop-c in
    let before = chars_rest l.c-iterator in
    let behind = chars_rest c.next.new.self in
    let more = flat_map (ordered_char NoEscapes) (chars behind) in
    record {
      goes = search rules;
      text = IsUtf8-past_char before behind c.in-Some.c l.invariant.text c.in-Some.ensures.steps.0;
      left = ap (λ (bytes : List ℕ). bytes ++ more) c.in_ok-push_ordered.ensures
          ∙ append_assoc (string_bytes l.out) (ordered_char NoEscapes c.in-Some.c) more
          ∙ ap (λ (cs : List ℕ). string_bytes l.out ++ flat_map (ordered_char NoEscapes) cs) (sym (chars_past_char before behind c.in-Some.c l.invariant.text c.in-Some.ensures.steps.0))
          ∙ l.invariant.left;
    }

pub returns : goal.returns
returns c =
    let l = c.loop-c in
    let none = ap (λ (bytes : List ℕ). chars bytes) (nil_from_length (chars_rest l.c-iterator) c.in-None.ensures.steps.0.0) ∙ chars-nil in
    sym (append-nil (string_bytes l.out)) ∙ sym (ap (λ (cs : List ℕ). string_bytes l.out ++ flat_map (ordered_char NoEscapes) cs) none) ∙ l.invariant.left
