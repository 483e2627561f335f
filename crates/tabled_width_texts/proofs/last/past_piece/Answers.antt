-- A character that fits comes off the text; one that does not ends the walk.
use Rattle.std.proofs.Common.{rules, ◌≡◌, ◌++◌, ◌∙◌, ℕ, List, [], ◌∷◌, ap, arith, length, refl, sym, chars, map}
use Rattle.std.specs.Str.Iter.{chars_rest}
use Rattle.std.proofs.lemmas.Str.{IsUtf8-past_char, chars-nil}
use Rattle.tabled_width_texts.specs.Keeping.{last_kept}
use Rattle.tabled_width_texts.proofs.Keeping.{goes_on, stops}
use Rattle.tabled_width_texts.proofs.last.past_piece.Goals as goal

no_bytes : (bytes : List ℕ) → length bytes ≡ 0 → bytes ≡ []
no_bytes [] none = refl
no_bytes (b ∷ bs) none = absurd (omega (arith, none))

pub returns-in_default-clause-last : goal.returns-in_default-clause-last
returns-in_default-clause-last c = λ rest.
    let l = c.loop-c in
    l.invariant.left rest
    ∙ stops c.args.width l.used c.in-Some.c c.args.style l.last (chars_rest l.c-iterator) (chars_rest c.next.new.self) l.invariant.text c.in-Some.ensures.steps.0 rest (sym c.columns_with.ensures.columns ∙ c.in_default.is)

pub loop-c-preserved : goal.loop-c-preserved
loop-c-preserved c =
    let l = c.loop-c in
    record {
      goes = search rules;
      text = IsUtf8-past_char (chars_rest l.c-iterator) (chars_rest c.next.new.self) c.in-Some.c l.invariant.text c.in-Some.ensures.steps.0;
      fits = c.in-Some-columns_with.ensures.fits;
      left = λ rest. l.invariant.left rest
          ∙ goes_on c.args.width l.used c.in-Some.c c.args.style l.last (chars_rest l.c-iterator) (chars_rest c.next.new.self) l.invariant.text c.in-Some.ensures.steps.0 rest
          c.in-Some-columns_with.columns (sym c.columns_with.ensures.columns ∙ c.in-Some-columns_with.is);
    }

pub returns-clause-last : goal.returns-clause-last
returns-clause-last c = λ rest.
    let l = c.loop-c in
    l.invariant.left rest
    ∙ ap (λ (text : List ℕ). last_kept c.args.width l.used l.last (map (λ k. (k, c.args.style)) (chars text) ++ rest)) (no_bytes (chars_rest l.c-iterator) c.in-None.ensures.steps.0.0)
    ∙ ap (λ (cs : List ℕ). last_kept c.args.width l.used l.last (map (λ k. (k, c.args.style)) cs ++ rest)) chars-nil
