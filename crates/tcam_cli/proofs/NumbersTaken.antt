-- Where clap finds no fault, the numbers of a subcommand are in their ranges, and the tests of them pass.
use Rattle.std.proofs.Common.{◌≡◌, ◌∙◌, ◌&&◌, ℕ, Bool, cond, true, false, not, refl, sym, subst, ap, List, [], ◌∷◌, ◌++◌, codes, Option, Some, None}
use Rattle.std.specs.Prelude.{fold}
use Rattle.std.specs.List.{list_any}
use Rattle.std.proofs.lemmas.List.Sums.{fold-append}
use Rattle.slot_order.specs.Order.{most_slots, script_slots}
use Rattle.clap.specs.ValueTests.{is_unsigned_in}
use Rattle.clap.specs.Takes.{is_given}
use Rattle.clap.specs.Walk.{Row, Rule, Text, nothing_held, rows_after, with_default}
use Rattle.clap.specs.Simple.{Shape, argument_words, built, filled, help_rule, subcommand_of}
use Rattle.clap.specs.Faults.{fault_of, level_fault}
use Rattle.report_lines.specs.declared.Family.{Family}
use Rattle.report_lines.specs.declared.Family.TheVariants.{Route, Acl, Route6, Acl6}
use Rattle.option_words.specs.Options.{is_large, is_traced, large_flag, number_of, number_position, placed_by, placement_option, ranges_option, slots_option, text_of, trace_flag}
use Rattle.tcam_cli.specs.CommandLine.{acl_app, depth_option, gen_app, job_at, job_by, job_of_rows, job_of_subcommand, made_at, mode_wanted, route_app, script_by, tcam_app, tcam_top, json_flag, names_flag, removals_option, verify_app, is_json, is_named, parted_by, slots_by}
use Rattle.tcam_cli.specs.Asked.{tested_job, tested_job_of_rows, tested_made, tested_script}
use Rattle.tcam_cli.specs.Headline.{Job}
use Rattle.option_words.proofs.Defaults.{AreOthers, all-behind, has-still, keep-defaults, others-keep}
use Rattle.option_words.proofs.ArgumentRows.{AllKeep, Good, HasNumber, Keeps, apart-keeps, number-given, numbered-default, numbered-keep, or_no, position, position-keeps, slots-default, slots-keep, slots_id}
use Rattle.option_words.proofs.TakenRows.{IsTaken, built-gives, level-taken}

-- ---- the depth of probes

abbrev depth_id : Text
depth_id = codes "depth"

depth-default : (rows : List Row) → Good depth_id 0 15 rows → HasNumber depth_id 0 15 (with_default rows (filled depth_option)) × Good depth_id 0 15 (with_default rows (filled depth_option))
unfolding depth_option
depth-default = numbered-default depth_id 0 15 (codes "0") refl

depth-keep : Keeps (Good depth_id 0 15) (filled depth_option)
unfolding depth_option
depth-keep = numbered-keep depth_id 0 15 (codes "0") refl

-- ---- the jobs by tests that pass

-- what a script is asked for by the test of its depth
abbrev read_by : Family → List Row → Bool → Job
read_by family rows depth =
    job_by (slots_by rows) (λ s.
    job_by (cond depth (Some (number_of depth_id rows)) None) (λ d.
    job_at family s (mode_wanted family rows) (placed_by rows) (is_traced rows) d (is_json rows) (is_named rows) (parted_by rows) (is_large rows)))

script-tested : (family : Family) (rows : List Row) → HasNumber depth_id 0 15 rows → script_by family rows ≡ tested_script family rows
script-tested family rows depth = sym (ap (read_by family rows) depth)

abbrev seed_id : Text
seed_id = codes "seed"

abbrev rules_id : Text
rules_id = codes "rules"

abbrev batches_id : Text
batches_id = codes "batches"

-- what made commands are asked for by four tests
abbrev made_by : List Row → Bool → Bool → Bool → Bool → Job
made_by rows slots seed rules batches =
    job_by (cond slots (Some (number_of slots_id rows)) None) (λ s.
    job_by (cond seed (Some (number_of seed_id rows)) None) (λ d.
    job_by (cond rules (Some (number_of rules_id rows)) None) (λ r.
    job_by (cond batches (Some (number_of batches_id rows)) None) (λ b. made_at s (mode_wanted Acl rows) (placed_by rows) d r b))))

made-tested : (rows : List Row) → HasNumber slots_id 1 script_slots rows → HasNumber seed_id 0 2147483647 rows → HasNumber rules_id 1 256 rows → HasNumber batches_id 1 64 rows
    → made_at (number_of slots_id rows) (mode_wanted Acl rows) (placed_by rows) (number_of seed_id rows) (number_of rules_id rows) (number_of batches_id rows) ≡ tested_made rows
made-tested rows slots seed rules batches =
    sym (ap (λ b. made_by rows b (is_unsigned_in 0 2147483647 (text_of seed_id rows)) (is_unsigned_in 1 256 (text_of rules_id rows)) (is_unsigned_in 1 64 (text_of batches_id rows))) slots
    ∙ ap (λ b. made_by rows true b (is_unsigned_in 1 256 (text_of rules_id rows)) (is_unsigned_in 1 64 (text_of batches_id rows))) seed
    ∙ ap (λ b. made_by rows true true b (is_unsigned_in 1 64 (text_of batches_id rows))) rules
    ∙ ap (λ b. made_by rows true true true b) batches)

-- ---- a subcommand for scripts

-- what stands behind --slots
abbrev route_rest : List Rule
route_rest = filled placement_option ∷ filled trace_flag ∷ filled depth_option ∷ filled json_flag ∷ filled names_flag ∷ filled removals_option ∷ filled large_flag ∷ filled help_rule ∷ []

abbrev list_rest : List Rule
list_rest = filled ranges_option ∷ filled placement_option ∷ filled trace_flag ∷ filled depth_option ∷ filled json_flag ∷ filled names_flag ∷ filled removals_option ∷ filled large_flag ∷ filled help_rule ∷ []

-- what stands behind --depth
abbrev script_back : List Rule
script_back = filled json_flag ∷ filled names_flag ∷ filled removals_option ∷ filled large_flag ∷ filled help_rule ∷ []

-- what stands before --depth
abbrev route_front : List Rule
route_front = filled (slots_option most_slots) ∷ filled placement_option ∷ filled trace_flag ∷ []

abbrev list_front : List Rule
list_front = filled (slots_option most_slots) ∷ filled ranges_option ∷ filled placement_option ∷ filled trace_flag ∷ []

module _ (s : Shape) (front back : List Rule) (others : AreOthers depth_id front) (others_back : AreOthers depth_id back) (are : s.rules ≡ front ++ filled depth_option ∷ back) (once : s.args_override_self ≡ false) (words : List Text)
    (none : level_fault s [] nothing_held words false [] ≡ []) where
  script-depth : HasNumber depth_id 0 15 (rows_after s.rules [] words)
  unfolding depth_option
  script-depth =
      let ahead : AllKeep (Good depth_id 0 15) front = others-keep depth_id 0 15 front others in
      let keep : AllKeep (Good depth_id 0 15) s.rules =
      subst (AllKeep (Good depth_id 0 15)) (sym are)
      (all-behind (Good depth_id 0 15) front (filled depth_option ∷ back) ahead (depth-keep, others-keep depth_id 0 15 back others_back)) in
      let taken = level-taken (Good depth_id 0 15) s keep once tt words none in
      let before = fold with_default taken.rows front in
      let good = keep-defaults (Good depth_id 0 15) front ahead taken.rows taken.good in
      subst (HasNumber depth_id 0 15)
      (sym (taken.after ∙ ap (fold with_default taken.rows) are ∙ fold-append with_default taken.rows front (filled depth_option ∷ back)))
      (has-still depth_id 0 15 back others_back (with_default before (filled depth_option)) (depth-default before good).0)

-- ---- the subcommand for made commands

abbrev made_rest : List Rule
made_rest = filled ranges_option ∷ filled placement_option ∷ filled help_rule ∷ []

abbrev gen_rules : List Rule
gen_rules =
    position 1 seed_id 0 2147483647 ∷ position 2 rules_id 1 256 ∷ position 3 batches_id 1 64 ∷ filled (slots_option script_slots) ∷ made_rest

not-false : (a : Bool) → not a ≡ false → a ≡ true
not-false true is = refl
not-false false is = cc

pub record AreGiven (rows : List Row) : Type 0 where
  pub seed : is_given seed_id rows ≡ true
  pub rules : is_given rules_id rows ≡ true
  pub batches : is_given batches_id rows ≡ true

all-given : (rows : List Row) → list_any (λ a. a.required && not (is_given a.id rows)) gen_rules ≡ false → AreGiven rows
unfolding number_position
all-given rows none =
    let first = or_no (not (is_given seed_id rows)) _ none in
    let second = or_no (not (is_given rules_id rows)) _ first.1 in
    let third = or_no (not (is_given batches_id rows)) _ second.1 in
    record { seed = not-false _ first.0; rules = not-false _ second.0; batches = not-false _ third.0 }

module _ (s : Shape) (are : s.rules ≡ gen_rules) (once : s.args_override_self ≡ false) (words : List Text) (none : level_fault s [] nothing_held words false [] ≡ []) where
  -- the numbers that stand at the positions
  module _ (id : Text) (low high : ℕ) (keep : AllKeep (Good id low high) gen_rules) where
    gen-taken : IsTaken (Good id low high) s words
    gen-taken = level-taken (Good id low high) s (subst (AllKeep (Good id low high)) (sym are) keep) once tt words none

    gen-good : Good id low high (rows_after s.rules [] words)
    gen-good = subst (Good id low high) (sym (gen-taken.after ∙ ap (fold with_default gen-taken.rows) are)) (keep-defaults (Good id low high) gen_rules keep gen-taken.rows gen-taken.good)

    gen-given : AreGiven (rows_after s.rules [] words)
    gen-given = all-given (rows_after s.rules [] words) (subst (λ (rules : List Rule). list_any (λ a. a.required && not (is_given a.id (rows_after s.rules [] words))) rules ≡ false) are gen-taken.given)

    gen-number : is_given id (rows_after s.rules [] words) ≡ true → HasNumber id low high (rows_after s.rules [] words)
    gen-number given = number-given id low high (rows_after s.rules [] words) given gen-good

  gen-made : made_at (number_of slots_id (rows_after s.rules [] words)) (mode_wanted Acl (rows_after s.rules [] words)) (placed_by (rows_after s.rules [] words)) (number_of seed_id (rows_after s.rules [] words))
      (number_of rules_id (rows_after s.rules [] words)) (number_of batches_id (rows_after s.rules [] words)) ≡ tested_made (rows_after s.rules [] words)
  unfolding slots_option ranges_option placement_option number_position
  gen-made =
      let seed : AllKeep (Good seed_id 0 2147483647) gen_rules =
      (position-keeps 1 seed_id 0 2147483647, others-keep _ _ _ (position 2 rules_id 1 256 ∷ position 3 batches_id 1 64 ∷ filled (slots_option script_slots) ∷ made_rest) refl) in
      let rules : AllKeep (Good rules_id 1 256) gen_rules = (
        apart-keeps _ _ _ (position 1 seed_id 0 2147483647) refl,
        (
          position-keeps 2 rules_id 1 256,
          others-keep _ _ _ (position 3 batches_id 1 64 ∷ filled (slots_option script_slots) ∷ made_rest) refl,
        ),
      ) in
      let batches : AllKeep (Good batches_id 1 64) gen_rules = (
        apart-keeps _ _ _ (position 1 seed_id 0 2147483647) refl,
        (
          apart-keeps _ _ _ (position 2 rules_id 1 256) refl,
          (
            position-keeps 3 batches_id 1 64,
            others-keep _ _ _ (filled (slots_option script_slots) ∷ made_rest) refl,
          ),
        ),
      ) in
      let front : List Rule = position 1 seed_id 0 2147483647 ∷ position 2 rules_id 1 256 ∷ position 3 batches_id 1 64 ∷ [] in
      let ahead : AllKeep (Good slots_id 1 script_slots) front = others-keep _ _ _ front refl in
      let slots : AllKeep (Good slots_id 1 script_slots) gen_rules =
      (ahead.0, (ahead.1.0, (ahead.1.1.0, (slots-keep, others-keep _ _ _ made_rest refl)))) in
      let given = gen-given seed_id 0 2147483647 seed in
      let taken = gen-taken slots_id 1 script_slots slots in
      let before = fold with_default taken.rows front in
      let good = keep-defaults (Good slots_id 1 script_slots) front ahead taken.rows taken.good in
      let has : HasNumber slots_id 1 script_slots (rows_after s.rules [] words) =
      subst (HasNumber slots_id 1 script_slots) (sym (taken.after ∙ ap (fold with_default taken.rows) are))
      (has-still slots_id 1 script_slots made_rest refl (with_default before (filled (slots_option script_slots))) (slots-default before good).0) in
      made-tested (rows_after s.rules [] words) has (gen-number seed_id 0 2147483647 seed given.seed) (gen-number rules_id 1 256 rules given.rules) (gen-number batches_id 1 64 batches given.batches)

-- ---- the program

-- where clap finds no fault, the tests of the numbers pass
pub tested : (words : List Text) → fault_of tcam_app words ≡ [] → (o : Option (Text × List Row)) → subcommand_of tcam_app words ≡ o → job_of_subcommand o ≡ tested_job o
unfolding tcam_app tcam_top route_app acl_app gen_app slots_option ranges_option placement_option trace_flag large_flag json_flag names_flag removals_option depth_option number_position verify_app
tested words none None are = refl
tested words none (Some (name, rows)) are =
    built-gives (λ name rows. job_of_rows name rows ≡ tested_job_of_rows name rows) (built tcam_app) (
      λ words none. script-tested Route (rows_after (filled (slots_option most_slots) ∷ route_rest) [] words) (script-depth _ route_front script_back refl refl refl refl words none),
      (
        λ words none. script-tested Acl (rows_after (filled (slots_option most_slots) ∷ list_rest) [] words) (script-depth _ list_front script_back refl refl refl refl words none),
        (
          λ words none. script-tested Route6 (rows_after (filled (slots_option most_slots) ∷ route_rest) [] words) (script-depth _ route_front script_back refl refl refl refl words none),
          (
            λ words none. script-tested Acl6 (rows_after (filled (slots_option most_slots) ∷ list_rest) [] words) (script-depth _ list_front script_back refl refl refl refl words none),
            (λ words none. gen-made _ refl refl words none, (λ words none. refl, tt)),
          ),
        ),
      ),
    ) (argument_words tcam_app words) name rows none are
