-- What is found at the start of a text is a sequence.
use Rattle.std.proofs.Common.{◌≡◌, ◌+◌, ◌==◌, ◌⊎◌, ℕ, suc, Bool, true, false, ◌&&◌, ◌||◌, cond, Option, Some, None, List, [], ◌∷◌, ◌++◌, length, drop, slice_index, refl, ap, sym, ◌∙◌, subst, inl, inr, arith, append_assoc, length-append, eqb-true}
use Rattle.std.specs.List.{list_all}
use Rattle.std.specs.Option.{option_map}
use Rattle.std.specs.Cmp.Derive.{both_true}
use Rattle.std.proofs.lemmas.Bool.{and_parts, or_cases, or_from, cond-true, cond-false, cases_Bool, both_ways, not_from_false}
use Rattle.ansi_scan.specs.declared.items.Kind.{Kind}
use Rattle.ansi_scan.specs.declared.items.Kind.TheVariants.{Sgr, Csi, Osc, Esc, Str}
use Rattle.ansi_scan.specs.Sequences.{escape, bell, string_terminator, is_parameter, is_intermediate, is_final, is_escape_final, opens_string, opens_longer, HasForm}
use Rattle.ansi_scan.specs.Styles.Rendition.{is_numeric}
use Rattle.ansi_scan.specs.Pieces.{control_from, is_in_string, string_end, string_from, escape_from, behind_opener, opened, sequence_front}
use Rattle.ansi_scan.proofs.ByteClasses.{is_numeric-intermediate}
use Rattle.ansi_scan.proofs.Complete.{control_from-on, control_from-off, sequence_front-Sgr}

-- the bytes begin with a sequence of this kind and length
pub record FormAtFront (bytes : List ℕ) (found : Kind × ℕ) : Type 0 where
  pub form : List ℕ
  pub after : List ℕ
  pub has : HasForm found.0 form
  pub spelled : bytes ≡ form ++ after
  pub counted : found.1 ≡ length form

-- where something is made of a value, there was a value
pub option_map-Some : {X Y : Type 0} (f : X → Y) (o : Option X) (y : Y) → option_map f o ≡ Some y → (x : X) × (o ≡ Some x) × (f x ≡ y)
option_map-Some f None y is = absurd (let none : None ≡ Some y = is in cc none)
option_map-Some f (Some x) y is = (x, refl, (let some : Some (f x) ≡ Some y = is in cc some))

-- ---- control sequences

-- the parts of an Sgr, where those before were `numeric`
pub record SgrParts (numeric : Bool) (ps is : List ℕ) (final : ℕ) : Type 0 where
  pub before : numeric ≡ true
  pub each_numeric : list_all is_numeric ps ≡ true
  pub none : is ≡ []
  pub ends : final ≡ 0x6d

-- what `control_from` has found
pub record ControlFound (len : ℕ) (numeric parameters : Bool) (bytes : List ℕ) (found : Kind × ℕ) : Type 0 where
  pub ps : List ℕ
  pub is : List ℕ
  pub final : ℕ
  pub after : List ℕ
  pub spelled : bytes ≡ ps ++ (is ++ final ∷ after)
  pub each_parameter : list_all is_parameter ps ≡ true
  pub each_intermediate : list_all is_intermediate is ≡ true
  pub ends : is_final final ≡ true
  pub none : parameters ≡ false → ps ≡ []
  pub counted : found.1 ≡ len + (length ps + (length is + 1))
  pub kind : ((found.0 ≡ Sgr) × SgrParts numeric ps is final) ⊎ (found.0 ≡ Csi)

-- after a parameter byte
pub ControlFound-parameter : (len : ℕ) (numeric parameters : Bool) (b : ℕ) (bs : List ℕ) (found : Kind × ℕ) → (parameters && is_parameter b) ≡ true → ControlFound (len + 1) (numeric && is_numeric b) (parameters && is_parameter b) bs found → ControlFound len numeric parameters (b ∷ bs) found
ControlFound-parameter len numeric parameters b bs found is_one r =
    let parts = and_parts parameters (is_parameter b) is_one in
    record {
      ps = b ∷ r.ps;
      is = r.is;
      final = r.final;
      after = r.after;
      spelled = ap (λ cs. b ∷ cs) r.spelled;
      each_parameter = both_true parts.1 r.each_parameter;
      each_intermediate = r.each_intermediate;
      ends = r.ends;
      none = λ off. absurd (both_ways parameters off parts.0);
      counted = (let is_len : found.1 ≡ len + (suc (length r.ps) + (length r.is + 1)) = omega (arith, r.counted) in is_len);
      kind = elim r.kind [
        | inl sgr ↦
            (let before = and_parts numeric (is_numeric b) sgr.1.before in
            inl (sgr.0, record { before = before.0; each_numeric = both_true before.1 sgr.1.each_numeric; none = sgr.1.none; ends = sgr.1.ends }))
        | inr csi ↦ inr csi
      ];
    }

-- after an intermediate byte
pub ControlFound-intermediate : (len : ℕ) (numeric parameters : Bool) (b : ℕ) (bs : List ℕ) (found : Kind × ℕ) → (parameters && is_parameter b) ≡ false → is_intermediate b ≡ true → ControlFound (len + 1) (numeric && is_numeric b) (parameters && is_parameter b) bs found → ControlFound len numeric parameters (b ∷ bs) found
ControlFound-intermediate len numeric parameters b bs found no_parameter is_one r =
    let no_ps : r.ps ≡ [] = r.none no_parameter in
    let no_len : length r.ps ≡ 0 = ap length no_ps in
    record {
      ps = [];
      is = b ∷ r.is;
      final = r.final;
      after = r.after;
      spelled = ap (λ cs. b ∷ cs) (r.spelled ∙ ap (λ ps. ps ++ (r.is ++ r.final ∷ r.after)) no_ps);
      each_parameter = refl;
      each_intermediate = both_true is_one r.each_intermediate;
      ends = r.ends;
      none = λ off. refl;
      counted = (let is_len : found.1 ≡ len + (0 + (suc (length r.is) + 1)) = omega (arith, r.counted, no_len) in is_len);
      kind = elim r.kind [
        | inl sgr ↦ absurd (both_ways (is_numeric b) (is_numeric-intermediate b is_one) (and_parts numeric (is_numeric b) sgr.1.before).1)
        | inr csi ↦ inr csi
      ];
    }

-- at a final byte
pub ControlFound-final : (len : ℕ) (numeric parameters : Bool) (b : ℕ) (bs : List ℕ) (found : Kind × ℕ) → is_final b ≡ true → (cond (numeric && b == 0x6d) Sgr Csi, len + 1) ≡ found → ControlFound len numeric parameters (b ∷ bs) found
ControlFound-final len numeric parameters b bs found final is_found =
    let is_kind : cond (numeric && b == 0x6d) Sgr Csi ≡ found.0 = ap (λ f. f.0) is_found in
    let is_counted : len + 1 ≡ found.1 = ap (λ f. f.1) is_found in
    record {
      ps = [];
      is = [];
      final = b;
      after = bs;
      spelled = refl;
      each_parameter = refl;
      each_intermediate = refl;
      ends = final;
      none = λ off. refl;
      counted = (let is_len : found.1 ≡ len + (0 + (0 + 1)) = omega (arith, is_counted) in is_len);
      kind = elim (cases_Bool (numeric && b == 0x6d)) [
        | inl sgr ↦
            (let parts = and_parts numeric (b == 0x6d) sgr in
            inl (sym is_kind ∙ ap (λ t. cond t Sgr Csi) sgr, record { before = parts.0; each_numeric = refl; none = refl; ends = eqb-true b 0x6d parts.1 }))
        | inr csi ↦ inr (sym is_kind ∙ ap (λ t. cond t Sgr Csi) csi)
      ];
    }

pub ControlFound-control_from : (len : ℕ) (numeric parameters : Bool) (bytes : List ℕ) (found : Kind × ℕ) → control_from len numeric parameters bytes ≡ Some found → ControlFound len numeric parameters bytes found
unfolding control_from
ControlFound-control_from len numeric parameters [] found is = absurd (let none : None ≡ Some found = is in cc none)
ControlFound-control_from len numeric parameters (b ∷ bs) found is =
    elim (cases_Bool (parameters && is_parameter b || is_intermediate b)) [
      | inl on ↦
          (let rest = ControlFound-control_from (len + 1) (numeric && is_numeric b) (parameters && is_parameter b) bs found (sym (control_from-on len numeric parameters b bs on) ∙ is) in
          elim (cases_Bool (parameters && is_parameter b)) [
            | inl parameter ↦ ControlFound-parameter len numeric parameters b bs found parameter rest
            | inr other ↦
                elim (or_cases (parameters && is_parameter b) (is_intermediate b) on) [
                  | inl parameter ↦ absurd (both_ways (parameters && is_parameter b) other parameter)
                  | inr intermediate ↦ ControlFound-intermediate len numeric parameters b bs found other intermediate rest
                ]
          ])
      | inr off ↦
          (let made : cond (is_final b) (Some (cond (numeric && b == 0x6d) Sgr Csi, len + 1)) None ≡ Some found = sym (control_from-off len numeric parameters b bs off) ∙ is in
          elim (cases_Bool (is_final b)) [
            | inl final ↦
                (let some : Some (cond (numeric && b == 0x6d) Sgr Csi, len + 1) ≡ Some found = sym (cond-true (is_final b) (Some (cond (numeric && b == 0x6d) Sgr Csi, len + 1)) None final) ∙ made in
                ControlFound-final len numeric parameters b bs found final (cc some))
            | inr other ↦
                absurd (let none : None ≡ Some found = sym (cond-false (is_final b) (Some (cond (numeric && b == 0x6d) Sgr Csi, len + 1)) None other) ∙ made in cc none)
          ])
    ]

-- the bytes begin with an Sgr or another control sequence
pub FormAtFront-control : (rest : List ℕ) (found : Kind × ℕ) → sequence_front (escape ∷ 0x5b ∷ rest) ≡ Some found → (inner : Kind × ℕ) → (inner.0, inner.1 + 2) ≡ found → ControlFound 0 true true rest inner → FormAtFront (escape ∷ 0x5b ∷ rest) found
FormAtFront-control rest found is_front inner is_found r =
    let is_kind : inner.0 ≡ found.0 = ap (λ f. f.0) is_found in
    let is_counted : inner.1 + 2 ≡ found.1 = ap (λ f. f.1) is_found in
    let form : List ℕ = escape ∷ 0x5b ∷ (r.ps ++ (r.is ++ r.final ∷ [])) in
    let spelled : escape ∷ 0x5b ∷ rest ≡ (escape ∷ 0x5b ∷ (r.ps ++ (r.is ++ r.final ∷ []))) ++ r.after =
    ap (λ bs. escape ∷ 0x5b ∷ bs) (r.spelled ∙ ap (λ bs. r.ps ++ bs) (sym (append_assoc r.is (r.final ∷ []) r.after)) ∙ sym (append_assoc r.ps (r.is ++ r.final ∷ []) r.after)) in
    let counted : found.1 ≡ length (escape ∷ 0x5b ∷ (r.ps ++ (r.is ++ r.final ∷ []))) =
    omega (arith, is_counted, r.counted, length-append r.ps (r.is ++ r.final ∷ []), length-append r.is (r.final ∷ [])) in
    elim r.kind [
      | inl sgr ↦ record {
        form = form;
        after = r.after;
        has = (let Has : Kind → Type 0 = λ kind. HasForm kind (escape ∷ 0x5b ∷ (r.ps ++ (r.is ++ r.final ∷ []))) in
            subst Has (sym sgr.0 ∙ is_kind) (record {
              parameters = r.ps;
              spelled = ap (λ is. escape ∷ 0x5b ∷ (r.ps ++ (is ++ r.final ∷ []))) sgr.1.none ∙ ap (λ b. escape ∷ 0x5b ∷ (r.ps ++ b ∷ [])) sgr.1.ends;
              each_numeric = sgr.1.each_numeric;
            }));
        spelled = spelled;
        counted = counted;
      }
      | inr csi ↦ record {
        form = form;
        after = r.after;
        has = (let Has : Kind → Type 0 = λ kind. HasForm kind (escape ∷ 0x5b ∷ (r.ps ++ (r.is ++ r.final ∷ []))) in
            subst Has (sym csi ∙ is_kind) (record {
              control = record { parameters = r.ps; intermediates = r.is; final = r.final; spelled = refl; each_parameter = r.each_parameter; each_intermediate = r.each_intermediate; ends = r.ends };
              other = λ sgr.
                  (let both : Some (Sgr, length (escape ∷ 0x5b ∷ (r.ps ++ (r.is ++ r.final ∷ [])))) ≡ Some found =
                  sym (sequence_front-Sgr (escape ∷ 0x5b ∷ (r.ps ++ (r.is ++ r.final ∷ []))) r.after sgr) ∙ ap sequence_front (sym spelled) ∙ is_front in
                  let pairs : (Sgr, length (escape ∷ 0x5b ∷ (r.ps ++ (r.is ++ r.final ∷ [])))) ≡ found = cc both in
                  let kinds : Sgr ≡ Csi = ap (λ f. f.0) pairs ∙ sym is_kind ∙ csi in
                  cc kinds);
            }));
        spelled = spelled;
        counted = counted;
      }
    ]

-- ---- strings

-- what `string_from` has found
pub record StringFound (len : ℕ) (bell_ends : Bool) (bytes : List ℕ) (n : ℕ) : Type 0 where
  pub string : List ℕ
  pub ending : List ℕ
  pub after : List ℕ
  pub spelled : bytes ≡ string ++ (ending ++ after)
  pub each_byte : list_all (is_in_string bell_ends) string ≡ true
  pub ends : ((bell_ends ≡ true) × (ending ≡ bell ∷ [])) ⊎ (ending ≡ string_terminator)
  pub counted : n ≡ len + (length string + length ending)

-- the first byte, where it is known and not 0
pub first_byte : (bs : List ℕ) → slice_index bs 0 ≡ 0x5c → bs ≡ 0x5c ∷ drop 1 bs
first_byte [] is = absurd (let none : 0 ≡ 0x5c = is in omega (arith, none))
first_byte (b ∷ bs) is = ap (λ c. c ∷ bs) is

-- at a byte that ends the string
pub StringFound-end : (len : ℕ) (bell_ends : Bool) (b : ℕ) (bs : List ℕ) (n : ℕ) → string_end len bell_ends b bs ≡ Some n → StringFound len bell_ends (b ∷ bs) n
StringFound-end len bell_ends b bs n is =
    elim (cases_Bool (bell_ends && b == bell)) [
      | inl by_bell ↦
          (let parts = and_parts bell_ends (b == bell) by_bell in
          let some : Some (len + 1) ≡ Some n = sym (cond-true (bell_ends && b == bell) (Some (len + 1)) (cond (b == escape && slice_index bs 0 == 0x5c) (Some (len + 2)) None) by_bell) ∙ is in
          let is_len : len + 1 ≡ n = cc some in
          record {
            string = [];
            ending = bell ∷ [];
            after = bs;
            spelled = ap (λ c. c ∷ bs) (eqb-true b bell parts.1);
            each_byte = refl;
            ends = inl (parts.0, refl);
            counted = (let counted : n ≡ len + (0 + 1) = omega (arith, is_len) in counted);
          })
      | inr other ↦
          (let rest : cond (b == escape && slice_index bs 0 == 0x5c) (Some (len + 2)) None ≡ Some n = sym (cond-false (bell_ends && b == bell) (Some (len + 1)) (cond (b == escape && slice_index bs 0 == 0x5c) (Some (len + 2)) None) other) ∙ is in
          elim (cases_Bool (b == escape && slice_index bs 0 == 0x5c)) [
            | inl terminated ↦
                (let parts = and_parts (b == escape) (slice_index bs 0 == 0x5c) terminated in
                let some : Some (len + 2) ≡ Some n = sym (cond-true (b == escape && slice_index bs 0 == 0x5c) (Some (len + 2)) None terminated) ∙ rest in
                let is_len : len + 2 ≡ n = cc some in
                record {
                  string = [];
                  ending = string_terminator;
                  after = drop 1 bs;
                  spelled = ap (λ c. c ∷ bs) (eqb-true b escape parts.0) ∙ ap (λ cs. escape ∷ cs) (first_byte bs (eqb-true (slice_index bs 0) 0x5c parts.1));
                  each_byte = refl;
                  ends = inr refl;
                  counted = (let counted : n ≡ len + (0 + 2) = omega (arith, is_len) in counted);
                })
            | inr open_ ↦ absurd (let none : None ≡ Some n = sym (cond-false (b == escape && slice_index bs 0 == 0x5c) (Some (len + 2)) None open_) ∙ rest in cc none)
          ])
    ]

pub StringFound-string_from : (len : ℕ) (bell_ends : Bool) (bytes : List ℕ) (n : ℕ) → string_from len bell_ends bytes ≡ Some n → StringFound len bell_ends bytes n
unfolding string_from
StringFound-string_from len bell_ends [] n is = absurd (let none : None ≡ Some n = is in cc none)
StringFound-string_from len bell_ends (b ∷ bs) n is =
    elim (cases_Bool (is_in_string bell_ends b)) [
      | inl inside ↦
          (let rest = StringFound-string_from (len + 1) bell_ends bs n (sym (cond-true (is_in_string bell_ends b) (string_from (len + 1) bell_ends bs) (string_end len bell_ends b bs) inside) ∙ is) in
          record {
            string = b ∷ rest.string;
            ending = rest.ending;
            after = rest.after;
            spelled = ap (λ cs. b ∷ cs) rest.spelled;
            each_byte = both_true inside rest.each_byte;
            ends = rest.ends;
            counted = (let counted : n ≡ len + (suc (length rest.string) + length rest.ending) = omega (arith, rest.counted) in counted);
          })
      | inr end ↦ StringFound-end len bell_ends b bs n (sym (cond-false (is_in_string bell_ends b) (string_from (len + 1) bell_ends bs) (string_end len bell_ends b bs) end) ∙ is)
    ]

-- the bytes begin with an operating system command
pub FormAtFront-command : (rest : List ℕ) (found : Kind × ℕ) (n : ℕ) → (Osc, n + 2) ≡ found → StringFound 0 true rest n → FormAtFront (escape ∷ 0x5d ∷ rest) found
FormAtFront-command rest found n is_found r = record {
  form = escape ∷ 0x5d ∷ (r.string ++ r.ending);
  after = r.after;
  has = (let Has : Kind → Type 0 = λ kind. HasForm kind (escape ∷ 0x5d ∷ (r.string ++ r.ending)) in
      subst Has (ap (λ f. f.0) is_found) (record {
        string = r.string;
        ending = r.ending;
        spelled = refl;
        each_byte = r.each_byte;
        ends = elim r.ends [ inl by_bell ↦ inl by_bell.1 | inr terminated ↦ inr terminated ];
      }));
  spelled = ap (λ bs. escape ∷ 0x5d ∷ bs) (r.spelled ∙ sym (append_assoc r.string r.ending r.after));
  counted = (let is_counted : n + 2 ≡ found.1 = ap (λ f. f.1) is_found in
      let counted : found.1 ≡ length (escape ∷ 0x5d ∷ (r.string ++ r.ending)) = omega (arith, is_counted, r.counted, length-append r.string r.ending) in counted);
}

-- the bytes begin with any other control string
pub FormAtFront-string : (opener : ℕ) (rest : List ℕ) (found : Kind × ℕ) (n : ℕ) → opens_string opener ≡ true → (Str, n + 2) ≡ found → StringFound 0 false rest n → FormAtFront (escape ∷ opener ∷ rest) found
FormAtFront-string opener rest found n opens is_found r =
    let ending : r.ending ≡ string_terminator = elim r.ends [ inl by_bell ↦ absurd (let both : false ≡ true = by_bell.0 in cc both) | inr terminated ↦ terminated ] in
    let is_counted : n + 2 ≡ found.1 = ap (λ f. f.1) is_found in
    let is_two : length r.ending ≡ 2 = ap length ending in
    record {
      form = escape ∷ opener ∷ (r.string ++ string_terminator);
      after = r.after;
      has = (let Has : Kind → Type 0 = λ kind. HasForm kind (escape ∷ opener ∷ (r.string ++ string_terminator)) in
          subst Has (ap (λ f. f.0) is_found) (record { opener = opener; string = r.string; spelled = refl; opens = opens; each_byte = r.each_byte }));
      spelled = ap (λ bs. escape ∷ opener ∷ bs) (r.spelled ∙ ap (λ e. r.string ++ (e ++ r.after)) ending ∙ sym (append_assoc r.string string_terminator r.after));
      counted = (let counted : found.1 ≡ length (escape ∷ opener ∷ (r.string ++ string_terminator)) = omega (arith, is_counted, r.counted, is_two, length-append r.string string_terminator) in counted);
    }

-- ---- escape sequences

-- what `escape_from` has found
pub record EscapeFound (len : ℕ) (bytes : List ℕ) (n : ℕ) : Type 0 where
  pub is : List ℕ
  pub final : ℕ
  pub after : List ℕ
  pub spelled : bytes ≡ is ++ final ∷ after
  pub each_intermediate : list_all is_intermediate is ≡ true
  pub ends : is_escape_final final ≡ true
  pub counted : n ≡ len + (length is + 1)

pub EscapeFound-escape_from : (len : ℕ) (bytes : List ℕ) (n : ℕ) → escape_from len bytes ≡ Some n → EscapeFound len bytes n
unfolding escape_from
EscapeFound-escape_from len [] n is = absurd (let none : None ≡ Some n = is in cc none)
EscapeFound-escape_from len (b ∷ bs) n is =
    elim (cases_Bool (is_intermediate b)) [
      | inl intermediate ↦
          (let rest = EscapeFound-escape_from (len + 1) bs n (sym (cond-true (is_intermediate b) (escape_from (len + 1) bs) (cond (is_escape_final b) (Some (len + 1)) None) intermediate) ∙ is) in
          record {
            is = b ∷ rest.is;
            final = rest.final;
            after = rest.after;
            spelled = ap (λ cs. b ∷ cs) rest.spelled;
            each_intermediate = both_true intermediate rest.each_intermediate;
            ends = rest.ends;
            counted = (let counted : n ≡ len + (suc (length rest.is) + 1) = omega (arith, rest.counted) in counted);
          })
      | inr other ↦
          (let made : cond (is_escape_final b) (Some (len + 1)) None ≡ Some n = sym (cond-false (is_intermediate b) (escape_from (len + 1) bs) (cond (is_escape_final b) (Some (len + 1)) None) other) ∙ is in
          elim (cases_Bool (is_escape_final b)) [
            | inl final ↦
                (let some : Some (len + 1) ≡ Some n = sym (cond-true (is_escape_final b) (Some (len + 1)) None final) ∙ made in
                let is_len : len + 1 ≡ n = cc some in
                record {
                  is = [];
                  final = b;
                  after = bs;
                  spelled = refl;
                  each_intermediate = refl;
                  ends = final;
                  counted = (let counted : n ≡ len + (0 + 1) = omega (arith, is_len) in counted);
                })
            | inr none_ ↦ absurd (let none : None ≡ Some n = sym (cond-false (is_escape_final b) (Some (len + 1)) None none_) ∙ made in cc none)
          ])
    ]

-- the bytes begin with an escape sequence with intermediate bytes
pub FormAtFront-intermediates : (opener : ℕ) (rest : List ℕ) (found : Kind × ℕ) (n : ℕ) → is_intermediate opener ≡ true → (Esc, n + 2) ≡ found → EscapeFound 0 rest n → FormAtFront (escape ∷ opener ∷ rest) found
FormAtFront-intermediates opener rest found n intermediate is_found r =
    let is_counted : n + 2 ≡ found.1 = ap (λ f. f.1) is_found in
    record {
      form = escape ∷ opener ∷ (r.is ++ r.final ∷ []);
      after = r.after;
      has = (let Has : Kind → Type 0 = λ kind. HasForm kind (escape ∷ opener ∷ (r.is ++ r.final ∷ [])) in
          subst Has (ap (λ f. f.0) is_found) (record {
            intermediates = opener ∷ r.is;
            final = r.final;
            spelled = refl;
            each_intermediate = both_true intermediate r.each_intermediate;
            ends = r.ends;
            alone = λ none. absurd (cc none);
          }));
      spelled = ap (λ bs. escape ∷ opener ∷ bs) (r.spelled ∙ sym (append_assoc r.is (r.final ∷ []) r.after));
      counted = (let counted : found.1 ≡ length (escape ∷ opener ∷ (r.is ++ r.final ∷ [])) = omega (arith, is_counted, r.counted, length-append r.is (r.final ∷ [])) in counted);
    }

-- the bytes begin with an escape sequence of two bytes
pub FormAtFront-two : (final : ℕ) (rest : List ℕ) (found : Kind × ℕ) → is_escape_final final ≡ true → opens_longer final ≡ false → (Esc, 2) ≡ found → FormAtFront (escape ∷ final ∷ rest) found
FormAtFront-two final rest found ends short is_found = record {
  form = escape ∷ final ∷ [];
  after = rest;
  has = (let Has : Kind → Type 0 = λ kind. HasForm kind (escape ∷ final ∷ []) in
      subst Has (ap (λ f. f.0) is_found) (record {
        intermediates = [];
        final = final;
        spelled = refl;
        each_intermediate = refl;
        ends = ends;
        alone = λ none. not_from_false (opens_longer final) short;
      }));
  spelled = refl;
  counted = sym (ap (λ f. f.1) is_found);
}

-- ---- all forms

-- the bytes begin with an escape sequence
pub FormAtFront-short : (opener : ℕ) (rest : List ℕ) (found : Kind × ℕ) → opens_longer opener ≡ false → cond (is_intermediate opener) (behind_opener Esc (escape_from 0 rest)) (cond (is_escape_final opener) (Some (Esc, 2)) None) ≡ Some found → FormAtFront (escape ∷ opener ∷ rest) found
FormAtFront-short opener rest found short is =
    elim (cases_Bool (is_intermediate opener)) [
      | inl intermediate ↦
          (let inner = option_map-Some (λ n. (Esc, n + 2)) (escape_from 0 rest) found (sym (cond-true (is_intermediate opener) (behind_opener Esc (escape_from 0 rest)) (cond (is_escape_final opener) (Some (Esc, 2)) None) intermediate) ∙ is) in
          FormAtFront-intermediates opener rest found inner.0 intermediate inner.2 (EscapeFound-escape_from 0 rest inner.0 inner.1))
      | inr other ↦
          (let made : cond (is_escape_final opener) (Some (Esc, 2)) None ≡ Some found = sym (cond-false (is_intermediate opener) (behind_opener Esc (escape_from 0 rest)) (cond (is_escape_final opener) (Some (Esc, 2)) None) other) ∙ is in
          elim (cases_Bool (is_escape_final opener)) [
            | inl final ↦
                (let some : Some (Esc, 2) ≡ Some found = sym (cond-true (is_escape_final opener) (Some (Esc, 2)) None final) ∙ made in
                FormAtFront-two opener rest found final short (cc some))
            | inr none_ ↦ absurd (let none : None ≡ Some found = sym (cond-false (is_escape_final opener) (Some (Esc, 2)) None none_) ∙ made in cc none)
          ])
    ]

-- what an ESC and the byte after it begin
pub FormAtFront-opened : (opener : ℕ) (rest : List ℕ) (found : Kind × ℕ) → opened opener rest ≡ Some found → FormAtFront (escape ∷ opener ∷ rest) found
unfolding opened sequence_front
FormAtFront-opened opener rest found is =
    elim (cases_Bool (opener == 0x5b)) [
      | inl bracket ↦
          (let control : opened 0x5b rest ≡ Some found = ap (λ o. opened o rest) (sym (eqb-true opener 0x5b bracket)) ∙ is in
          let inner = option_map-Some (λ (f : Kind × ℕ). (f.0, f.1 + 2)) (control_from 0 true true rest) found control in
          let At : ℕ → Type 0 = λ o. FormAtFront (escape ∷ o ∷ rest) found in
          subst At (sym (eqb-true opener 0x5b bracket)) (FormAtFront-control rest found control inner.0 inner.2 (ControlFound-control_from 0 true true rest inner.0 inner.1)))
      | inr not_bracket ↦
          (let is_1 = sym (cond-false (opener == 0x5b) _ _ not_bracket) ∙ is in
          elim (cases_Bool (opener == 0x5d)) [
            | inl closing ↦
                (let inner = option_map-Some (λ n. (Osc, n + 2)) (string_from 0 true rest) found (sym (cond-true (opener == 0x5d) _ _ closing) ∙ is_1) in
                let At : ℕ → Type 0 = λ o. FormAtFront (escape ∷ o ∷ rest) found in
                subst At (sym (eqb-true opener 0x5d closing)) (FormAtFront-command rest found inner.0 inner.2 (StringFound-string_from 0 true rest inner.0 inner.1)))
            | inr not_closing ↦
                (let is_2 = sym (cond-false (opener == 0x5d) _ _ not_closing) ∙ is_1 in
                elim (cases_Bool (opens_string opener)) [
                  | inl opens ↦
                      (let inner = option_map-Some (λ n. (Str, n + 2)) (string_from 0 false rest) found (sym (cond-true (opens_string opener) _ _ opens) ∙ is_2) in
                      FormAtFront-string opener rest found inner.0 opens inner.2 (StringFound-string_from 0 false rest inner.0 inner.1))
                  | inr no_string ↦
                      FormAtFront-short opener rest found (or_from (opener == 0x5b) (opener == 0x5d || opens_string opener) not_bracket (or_from (opener == 0x5d) (opens_string opener) not_closing no_string)) (sym (cond-false (opens_string opener) _ _ no_string) ∙ is_2)
                ])
          ])
    ]

-- what is found at an ESC is a sequence
pub FormAtFront-sequence_front : (rest : List ℕ) (found : Kind × ℕ) → sequence_front (escape ∷ rest) ≡ Some found → FormAtFront (escape ∷ rest) found
unfolding sequence_front
FormAtFront-sequence_front [] found is = absurd (let none : None ≡ Some found = is in cc none)
FormAtFront-sequence_front (opener ∷ rest) found is = FormAtFront-opened opener rest found is
