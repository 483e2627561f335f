use Rattle.std.proofs.Common.{◌≡◌, ◌∙◌, ◌++◌, ◌==◌, ◌-◌, ◌<◌, ◌≤◌, Bool, true, false, ℕ, List, OnOk, ap, append_assoc, arith, chars, length, nat_lt, string_bytes, subst, sym, if◌then◌else◌}
use Rattle.std.proofs.lemmas.Bool.Decides.{nat_tests}
use Rattle.std.proofs.lemmas.Result.{on_ok_weaker}
use Rattle.ansi_scan.specs.Pieces.{pieces}
use Rattle.ansi_scan.proofs.Existence.{ArePiecesOf-pieces}
use Rattle.ansi_str.specs.StyledText.{strip}
use Rattle.grid_records_measure.specs.Measures.{measure}
use Rattle.tabled_size_wrap.specs.Bytes.{cut_at}
use Rattle.tabled_width_texts.specs.Cutting.{SuffixedCut, cut_line, suffix_behind, without_room}
use Rattle.tabled_width_texts.specs.Cuts.{suffixed_cut_of}
use Rattle.tabled_width_texts.proofs.cutting.SuffixedCut.push_cut.Goals as goal

some_bytes : (n : ℕ) → ¬ (n ≡ 0) → (n == 0) ≡ false
some_bytes n some = grind (arith, nat_tests)

fits : (taken room : ℕ) → taken < room → nat_lt taken room ≡ true
fits taken room less = grind (arith, nat_tests)

full : (taken room : ℕ) → room ≤ taken → nat_lt taken room ≡ false
full taken room less = grind (arith, nat_tests)

module _ (cutting : SuffixedCut) (room taken : ℕ) (text : List ℕ) (empty : (length cutting.suffix == 0) ≡ false) (is : taken ≡ measure (chars (strip (pieces cutting.suffix)))) where
  pub with_suffix : taken < room → cut_line cutting room text ≡ cut_at (room - taken) text ++ suffix_behind cutting (room - taken) text
  with_suffix less =
      ap (λ (b : Bool). if b then cut_at room text else if nat_lt (measure (chars (strip (pieces cutting.suffix)))) room then cut_at (room - measure (chars (strip (pieces cutting.suffix)))) text ++ suffix_behind cutting (room - measure (chars (strip (pieces cutting.suffix)))) text else without_room cutting cutting.limit room text) empty
      ∙ ap (λ (n : ℕ). if nat_lt n room then cut_at (room - n) text ++ suffix_behind cutting (room - n) text else without_room cutting cutting.limit room text) (sym is)
      ∙ ap (λ (b : Bool). if b then cut_at (room - taken) text ++ suffix_behind cutting (room - taken) text else without_room cutting cutting.limit room text) (fits taken room less)

  pub no_room : room ≤ taken → cut_line cutting room text ≡ without_room cutting cutting.limit room text
  no_room less =
      ap (λ (b : Bool). if b then cut_at room text else if nat_lt (measure (chars (strip (pieces cutting.suffix)))) room then cut_at (room - measure (chars (strip (pieces cutting.suffix)))) text ++ suffix_behind cutting (room - measure (chars (strip (pieces cutting.suffix)))) text else without_room cutting cutting.limit room text) empty
      ∙ ap (λ (n : ℕ). if nat_lt n room then cut_at (room - n) text ++ suffix_behind cutting (room - n) text else without_room cutting cutting.limit room text) (sym is)
      ∙ ap (λ (b : Bool). if b then cut_at (room - taken) text ++ suffix_behind cutting (room - taken) text else without_room cutting cutting.limit room text) (full taken room less)

pub returns-then-self-room : goal.returns-then-self-room
returns-then-self-room c =
    let cutting = suffixed_cut_of c.args.self.now in
    let empty : (length cutting.suffix == 0) ≡ false = sym c.if-is_empty.ensures in
    let taken = c.args.self.now.measured (pieces cutting.suffix) (ArePiecesOf-pieces cutting.suffix) in
    subst (λ (bytes : List ℕ). OnOk c.push_without_room.result (string_bytes c.push_without_room.new.out ≡ string_bytes c.args.out.now ++ bytes)) (sym (no_room cutting c.args.room c.args.self.now.taken c.args.text.now empty taken c.if-self-room.true)) c.push_without_room.ensures

pub returns : goal.returns
returns c =
    let cutting = suffixed_cut_of c.args.self.now in
    let empty : (length cutting.suffix == 0) ≡ false = sym c.if-is_empty.ensures in
    let room = c.args.room in
    let width = c.args.self.now.taken in
    let text = c.args.text.now in
    let before = string_bytes c.args.out.now in
    let taken = c.args.self.now.measured (pieces cutting.suffix) (ArePiecesOf-pieces cutting.suffix) in
    let all = sym (with_suffix cutting room width text empty taken c.if-self-room.false) in
    on_ok_weaker c.push_suffix.result
    (λ is. is ∙ ap (λ (bytes : List ℕ). bytes ++ suffix_behind cutting (room - width) text) c.in_ok-push_cut_at.ensures
    ∙ append_assoc before (cut_at (room - width) text) (suffix_behind cutting (room - width) text) ∙ ap (λ (bytes : List ℕ). before ++ bytes) all) c.push_suffix.ensures
