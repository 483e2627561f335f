-- What the command `columns` is, for the clauses of its parser.
use Rattle.std.proofs.Common.{◌≡◌, ◌∙◌, ◌<◌, ◌&&◌, ◌==◌, ℕ, zero, suc, Bool, true, false, not, List, [], ◌∷◌, length, map, refl, sym, ap, ap₂, subst, inl, inr, arith, codes, IfSome}
use Rattle.std.specs.Borrow.{Bor}
use Rattle.std.specs.List.{slice_index_or}
use Rattle.std.specs.Str.{bytes_eq}
use Rattle.std.proofs.lemmas.List.{length-map, nil_from_length}
use Rattle.std.proofs.Math.ListN.{get_or-map}
use Rattle.std.proofs.lemmas.Bool.{eqb-true}
use Rattle.clap.specs.Values.{Accepts}
use Rattle.clap.specs.Built.{IsParsedFrom}
use Rattle.clap.specs.Facts.{args_of}
use Rattle.clap.specs.Faults.{is_simple_and_free}
use Rattle.clap.specs.Matches.{first_value, found_of}
use Rattle.clap.specs.Simple.{App, app_of, is_simple}
use Rattle.clap.specs.Walk.{Rule as OptionRule, Text, rule_of}
use Rattle.clap.specs.declared.builder.arg.Arg.{Arg}
use Rattle.clap.specs.declared.builder.command.Command.{Command}
use Rattle.clap.specs.declared.builder.command.Command.TheViews.{out-Command}
use Rattle.clap.specs.declared.builder.value_parser.ValueParser.TheVariants.{Names, Unsigned}
use Rattle.clap.specs.declared.parser.matches.ArgMatches.{ArgMatches}
use Rattle.clap.proofs.OnLiterals.{clap_on_literals}
use Rattle.command_line.specs.Columns.Asking.{IsWidth}
use Rattle.command_line.specs.Options.Rules.{value_rule}
use Rattle.command_line.specs.Columns.Command.{IsColumns, columns_app}
use Rattle.command_line.proofs.ColumnsLemmas.Passed.{StandsAlone, value_passes}

-- the names that a parser borrows
abbrev Borrowed : Type 0
Borrowed = Bor (List (Bor Text))

-- the command, with the names that its two lists borrow
abbrev listed : Borrowed → Borrowed → App
listed priorities styles = columns_app (value_rule (codes "priority") (Names priorities) (codes "none" ∷ [])) (value_rule (codes "style") (Names styles) (codes "ascii" ∷ []))

is_listed : (app : App) (h : IsColumns app) → app ≡ listed h.priorities.0 h.styles.0
is_listed app h = h.is ∙ ap₂ columns_app h.priorities.2 h.styles.2

listed-simple : (priorities styles : Borrowed) → is_simple (listed priorities styles) ≡ true
unfolding clap_on_literals
listed-simple priorities styles = refl

listed-free : (priorities styles : Borrowed) → is_simple_and_free (listed priorities styles) ≡ true
unfolding clap_on_literals
listed-free priorities styles = refl

-- the matches of `columns` are those of a simple command
pub columns-simple : (app : App) → IsColumns app → is_simple app ≡ true
columns-simple app h = ap is_simple (is_listed app h) ∙ listed-simple h.priorities.0 h.styles.0

-- and so are its errors
pub columns-free : (app : App) → IsColumns app → is_simple_and_free app ≡ true
columns-free app h = ap is_simple_and_free (is_listed app h) ∙ listed-free h.priorities.0 h.styles.0

-- ---- its arguments

and_first : (a b : Bool) → (a && b) ≡ true → a ≡ true
and_first true b e = refl
and_first false b e = e

and_second : (a b : Bool) → (a && b) ≡ true → b ≡ true
and_second true b e = e
and_second false b e = cc

not_true : (a : Bool) → not a ≡ true → a ≡ false
not_true true e = cc
not_true false e = refl

nil_if_empty : {X : Type 0} (xs : List X) → (length xs == 0) ≡ true → xs ≡ []
nil_if_empty xs e = nil_from_length xs (eqb-true (length xs) 0 e)

-- the argument at a place has the rule at that place
rule_at : (xs : List Arg) (rules : List OptionRule) → map rule_of xs ≡ rules → (k : ℕ) (d : Arg) → rule_of (slice_index_or xs k d) ≡ slice_index_or rules k (rule_of d)
rule_at xs rules e k d = sym (get_or-map rule_of xs k d) ∙ ap (λ (rs : List OptionRule). slice_index_or rs k (rule_of d)) e

module _ (priorities styles : Borrowed) where
  abbrev rules : List OptionRule
  rules = (listed priorities styles).top.rules

  alone_at : (j : ℕ) (r : OptionRule) → j < 7 → bytes_eq (slice_index_or rules j r).id (codes "width") ≡ true → j ≡ 0
  alone_at zero r lt e = refl
  alone_at (suc zero) r lt e = cc
  alone_at (suc (suc zero)) r lt e = cc
  alone_at (suc (suc (suc zero))) r lt e = cc
  alone_at (suc (suc (suc (suc zero)))) r lt e = cc
  alone_at (suc (suc (suc (suc (suc zero))))) r lt e = cc
  alone_at (suc (suc (suc (suc (suc (suc zero)))))) r lt e = cc
  alone_at (suc (suc (suc (suc (suc (suc (suc j))))))) r lt e = absurd (omega arith)

  simple_at : (j : ℕ) (r : OptionRule) → j < 7 → (slice_index_or rules j r).is_simple ≡ true
  simple_at zero r lt = refl
  simple_at (suc zero) r lt = refl
  simple_at (suc (suc zero)) r lt = refl
  simple_at (suc (suc (suc zero))) r lt = refl
  simple_at (suc (suc (suc (suc zero)))) r lt = refl
  simple_at (suc (suc (suc (suc (suc zero))))) r lt = refl
  simple_at (suc (suc (suc (suc (suc (suc zero)))))) r lt = refl
  simple_at (suc (suc (suc (suc (suc (suc (suc j))))))) r lt = absurd (omega arith)

-- an argument that is simple names no group
no_group_named : (a : Arg) → (rule_of a).is_simple ≡ true → a.groups.items ≡ []
no_group_named a e = nil_if_empty _ (and_first _ _ (and_second _ _ (and_second _ _ e)))

module _ (command : Command) (priorities styles : Borrowed) (e : app_of command ≡ listed priorities styles) where
  abbrev wanted : List OptionRule
  wanted = (listed priorities styles).top.rules

  are_wanted : map rule_of (args_of command) ≡ wanted
  are_wanted = ap (λ (a : App). a.top.rules) e

  are_seven : length (args_of command) ≡ 7
  are_seven = sym (length-map (args_of command) rule_of) ∙ ap length are_wanted

  plain : (out-Command command).groups.items ≡ []
  plain = nil_if_empty _ (and_first _ _ (ap (λ (a : App). a.top.is_plain) e))

  local : (out-Command command).has_globals ≡ false
  local = not_true _ (and_first _ _ (and_second _ _ (and_second _ _ (ap (λ (a : App). a.top.is_plain) e))))

  id_at : (j : ℕ) (d : Arg) → (slice_index_or (args_of command) j d).id.now ≡ (slice_index_or wanted j (rule_of d)).id
  id_at j d = ap (λ (r : OptionRule). r.id) (rule_at (args_of command) wanted are_wanted j d)

  width_alone : (d : Arg) → StandsAlone command 0 d (Unsigned 0 4294967295)
  width_alone d = record {
    inside = rw are_seven (omega arith);
    alone = λ j x lt same. alone_at priorities styles j (rule_of x) (subst (λ (n : ℕ). j < n) are_seven lt) (rw (id_at j x, id_at 0 d) at same);
    own = λ auto. elim auto [
      | inl help ↦ not_help (sym (id_at 0 d) ∙ help)
      | inr version ↦ not_version (sym (id_at 0 d) ∙ version)
    ];
    named = λ empty. not_empty (sym (id_at 0 d) ∙ empty);
    parser = ap (λ (r : OptionRule). r.parser) (rule_at (args_of command) wanted are_wanted 0 d);
    no_names = λ j x lt. no_group_named (slice_index_or (args_of command) j x) (ap (λ (r : OptionRule). r.is_simple) (rule_at (args_of command) wanted are_wanted j x) ∙ simple_at priorities styles j (rule_of x) (subst (λ (n : ℕ). j < n) are_seven lt));
    no_groups = plain;
    no_globals = local;
  }
    where
      not_help : codes "width" ≡ codes "help" → ⊥
      not_help x = cc

      not_version : codes "width" ≡ codes "version" → ⊥
      not_version x = cc

      not_empty : codes "width" ≡ [] → ⊥
      not_empty x = cc

  width_in_case : (d : Arg) → (slice_index_or (args_of command) 0 d).ignore_case ≡ false
  width_in_case d = ap (λ (r : OptionRule). r.ignore_case) (rule_at (args_of command) wanted are_wanted 0 d)

  first_arg : Arg → (m : ArgMatches) → IsParsedFrom command m → IfSome (first_value (found_of m) (codes "width")) IsWidth
  first_arg d m p =
      let passed = value_passes command m p 0 d (Unsigned 0 4294967295) (width_alone d) in
      let by_name = subst (λ (id : Text). IfSome (first_value (found_of m) id) (Accepts (slice_index_or (args_of command) 0 d).ignore_case (Unsigned 0 4294967295))) (id_at 0 d) passed in
      subst (λ (b : Bool). IfSome (first_value (found_of m) (codes "width")) (Accepts b (Unsigned 0 4294967295))) (width_in_case d) by_name

-- a width that a parse gives passed the parser of widths
pub width_passes : (command : Command) (m : ArgMatches) → IsColumns (app_of command) → IsParsedFrom command m
    → IfSome (first_value (found_of m) (codes "width")) IsWidth
width_passes command m h p = go (args_of command) refl
  where
    go : (xs : List Arg) → args_of command ≡ xs → IfSome (first_value (found_of m) (codes "width")) IsWidth
    go [] none =
        let seven : length (args_of command) ≡ 7 = are_seven command h.priorities.0 h.styles.0 (is_listed (app_of command) h) in
        let some : 0 < length (args_of command) = rw seven (omega arith) in
        let bad : 0 < 0 = subst (λ (xs : List Arg). 0 < length xs) none some in
        absurd (omega arith)
    go (d ∷ xs) some = first_arg command h.priorities.0 h.styles.0 (is_listed (app_of command) h) d m p
