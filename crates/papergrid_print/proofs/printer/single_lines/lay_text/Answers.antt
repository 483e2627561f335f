use Rattle.std.proofs.Common.{◌≡◌, ◌+◌, List, length, string_bytes, ap, subst, sym, ◌∙◌, arith, refl, ℕ}
use Rattle.std.specs.Prelude.{IsUtf8}
use Rattle.std.specs.List.{replace_range}
use Rattle.std.proofs.lemmas.Str.{IsUtf8-string_bytes}
use Rattle.papergrid_cells.proofs.WrittenTexts.{spaces-inside, utf8-over}
use Rattle.papergrid_print.proofs.WrittenBack.{written-back}
use Rattle.papergrid_print.proofs.printer.single_lines.lay_text.Goals as goal

pub lay_over-requires : goal.lay_over-requires
lay_over-requires c =
    let bytes : c.into_bytes-line.result.items ≡ string_bytes c.replace.result = ap (λ v. v.items) c.into_bytes-line.ensures.value in
    let is : c.deref_mut.result.now ≡ string_bytes c.args.out.now = c.deref_mut.ensures.value ∙ (bytes ∙ ap string_bytes c.replace.ensures.value) in
    omega (arith, spaces-inside _ _ _ c.requires, ap (λ (l : List ℕ). length l) c.as_bytes.ensures.value, ap (λ (l : List ℕ). length l) is)

pub text_of-requires : goal.text_of-requires
text_of-requires c =
    let bytes : c.into_bytes-line.result.items ≡ string_bytes c.replace.result = ap (λ v. v.items) c.into_bytes-line.ensures.value in
    let out = string_bytes c.args.out.now in
    let text = c.args.text.now in
    let start = c.args.start in
    let is : c.deref_mut.result.now ≡ out = c.deref_mut.ensures.value ∙ (bytes ∙ ap string_bytes c.replace.ensures.value) in
    let new = c.lay_over.new.out in
    let back = written-back c.into_bytes-line.result.len new c.into_bytes-line.result.items (omega (arith, c.lay_over.auto.out, ap (λ (l : List ℕ). length l) c.deref_mut.ensures.value)) c.into_bytes-line.result.ok.0 in
    let over : new ≡ replace_range out start (start + length text) text =
    c.lay_over.ensures ∙ (ap (λ (l : List ℕ). replace_range l start (start + length c.as_bytes.result.now) c.as_bytes.result.now) is
    ∙ ap (λ (l : List ℕ). replace_range out start (start + length l) l) c.as_bytes.ensures.value) in
    subst IsUtf8 (sym (back ∙ over)) (utf8-over out start (length text) c.requires text refl (IsUtf8-string_bytes c.args.out.now) c.utf8.text)

pub returns : goal.returns
returns c =
    let bytes : c.into_bytes-line.result.items ≡ string_bytes c.replace.result = ap (λ v. v.items) c.into_bytes-line.ensures.value in
    let out = string_bytes c.args.out.now in
    let text = c.args.text.now in
    let start = c.args.start in
    let is : c.deref_mut.result.now ≡ out = c.deref_mut.ensures.value ∙ (bytes ∙ ap string_bytes c.replace.ensures.value) in
    let new = c.lay_over.new.out in
    let back = written-back c.into_bytes-line.result.len new c.into_bytes-line.result.items (omega (arith, c.lay_over.auto.out, ap (λ (l : List ℕ). length l) c.deref_mut.ensures.value)) c.into_bytes-line.result.ok.0 in
    let over : new ≡ replace_range out start (start + length text) text =
    c.lay_over.ensures ∙ (ap (λ (l : List ℕ). replace_range l start (start + length c.as_bytes.result.now) c.as_bytes.result.now) is
    ∙ ap (λ (l : List ℕ). replace_range out start (start + length l) l) c.as_bytes.ensures.value) in
    c.text_of.ensures ∙ (back ∙ over)
