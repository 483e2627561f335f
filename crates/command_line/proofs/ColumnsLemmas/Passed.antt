-- After a parse that succeeds, a value of the caller's argument passed the parser of that argument.
use Rattle.std.proofs.Common.{◌≡◌, ◌∙◌, ◌<◌, ℕ, Bool, true, List, [], ◌∷◌, length, Option, Some, None, refl, sym, ap, subst, inl, inr, arith, IfSome}
use Rattle.std.specs.Borrow.{Bor}
use Rattle.std.specs.List.{All, slice_index_or}
use Rattle.std.specs.Option.{option_map}
use Rattle.std.specs.Prelude.{option_and_then, slice_get}
use Rattle.std.specs.Str.{bytes_eq}
use Rattle.std.proofs.lemmas.Slice.Eq.{bytes_eq-Decides}
use Rattle.clap.specs.Built.{IsAuto, IsParsedFrom, NamesNoGroup}
use Rattle.clap.specs.Facts.{Entry, EntryPasses, PassesArg, args_of, groups_of, parser_of, parser_of_value}
use Rattle.clap.specs.Matches.{first_value, found_of, matched_of}
use Rattle.clap.specs.Values.{Accepts}
use Rattle.clap.specs.Walk.{Text}
use Rattle.clap.specs.declared.builder.arg.Arg.{Arg}
use Rattle.clap.specs.declared.builder.command.Command.{Command}
use Rattle.clap.specs.declared.builder.command.Command.TheViews.{out-Command}
use Rattle.clap.specs.declared.builder.value_parser.ValueParser.{ValueParser}
use Rattle.clap.specs.declared.parser.matches.ArgMatches.{ArgMatches}
use Rattle.clap.specs.declared.parser.matches.MatchedArg.{MatchedArg}
use Rattle.clap.proofs.CallerLemmas.{entry_by_id, same_rules_by_id}

-- the argument at k of the caller's command has an id of its own, and this parser
pub record StandsAlone (command : Command) (k : ℕ) (d : Arg) (q : ValueParser) : Type 0 where
  pub inside : k < length (args_of command)
  pub alone : (j : ℕ) (e : Arg) → j < length (args_of command)
      → bytes_eq (slice_index_or (args_of command) j e).id.now (slice_index_or (args_of command) k d).id.now ≡ true → j ≡ k
  pub own : IsAuto (slice_index_or (args_of command) k d) → ⊥
  pub named : (slice_index_or (args_of command) k d).id.now ≡ [] → ⊥
  pub parser : (slice_index_or (args_of command) k d).value_parser ≡ Some q
  pub no_names : NamesNoGroup command
  pub no_groups : groups_of command ≡ []
  pub no_globals : (out-Command command).has_globals ≡ Rattle.std.proofs.Common.false

module _ (command : Command) (m : ArgMatches) (p : IsParsedFrom command m) (k : ℕ) (d : Arg) (q : ValueParser) (s : StandsAlone command k d q) where
  abbrev own_id : Text
  own_id = (slice_index_or (args_of command) k d).id.now

  abbrev Passes : Text → Type 0
  Passes text = Accepts (slice_index_or (args_of command) k d).ignore_case q text

  passes_own : (text : Text) → PassesArg p.built own_id text → Passes text
  passes_own text some =
      let same = same_rules_by_id command m p k d s.inside s.alone s.own some.0 some.1 some.2 some.3 some.4.0 in
      let is_q : parser_of some.1 ≡ q = ap parser_of_value (same.parser q s.parser) in
      let by_q : Accepts some.1.ignore_case q text = subst (λ (w : ValueParser). Accepts some.1.ignore_case w text) is_q some.4.1 in
      subst (λ (b : Bool). Accepts b q text) same.ignore_case by_q

  first_passes : (values : List (Bor Text)) → All (λ v. PassesArg p.built own_id v.now) values → IfSome (option_map (λ v. v.now) (slice_get values 0)) Passes
  first_passes [] all = tt
  first_passes (v ∷ values) all = passes_own v.now (all 0 v (omega arith))

  entry_passes : (x : MatchedArg) → ((e : Entry) × (e.1 ≡ x) × (bytes_eq e.0.now own_id ≡ true) × EntryPasses p.built e)
      → IfSome (option_map (λ v. v.now) (slice_get x.vals.items 0)) Passes
  entry_passes x got =
      let key : got.0.0.now ≡ own_id = (bytes_eq-Decides got.0.0.now own_id).0 got.2 in
      let groups : groups_of p.built ≡ [] = (p.from.same_groups s.no_names).1 ∙ s.no_groups in
      elim got.3.0 [
        | inl group ↦ elim (got.3.3 group) [
          | inl unnamed ↦ absurd (s.named (sym key ∙ unnamed))
          | inr many ↦
              let none : 0 < 0 = rw groups at many in
              absurd (omega arith)
        ]
        | inr all ↦
            let own : All (λ v. PassesArg p.built own_id v.now) got.0.1.vals.items = subst (λ (w : Text). All (λ v. PassesArg p.built w v.now) got.0.1.vals.items) key all in
            subst (λ (y : MatchedArg). IfSome (option_map (λ v. v.now) (slice_get y.vals.items 0)) Passes) got.1 (first_passes got.0.1.vals.items own)
      ]

  matched_passes : (found : Option MatchedArg) → matched_of (found_of m) own_id ≡ found
      → IfSome (option_and_then (λ x. option_map (λ v. v.now) (slice_get x.vals.items 0)) found) Passes
  matched_passes None e = tt
  matched_passes (Some x) e =
      entry_passes x (entry_by_id (EntryPasses p.built) (found_of m).entries.items own_id x (p.parsed (p.from.globals ∙ s.no_globals)).values e)

  -- the first value of the argument, where it has one, passed its parser
  pub value_passes : IfSome (first_value (found_of m) own_id) Passes
  value_passes = matched_passes (matched_of (found_of m) own_id) refl
