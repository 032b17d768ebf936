-- Words that ask for a report in JSON ask for a script, over slots in use that the program's device has.
use Rattle.std.proofs.Common.{◌≡◌, ℕ, ◌≤◌, ◌^◌, ◌&&◌, Bool, true, false, Option, Some, None, List, [], ◌∷◌, codes, cond, refl, sym, ◌∙◌, subst, leb-true}
use Rattle.std.specs.Prelude.{nat_le, nat_lt}
use Rattle.std.specs.Str.{bytes_eq}
use Rattle.std.specs.Str.Parse.{without_leading_plus}
use Rattle.std.proofs.lemmas.Bool.{and_parts}
use Rattle.slot_order.specs.Order.{script_slots}
use Rattle.clap.specs.Walk.{Row, Text}
use Rattle.clap.specs.Faults.{fault_of}
use Rattle.clap.specs.Kinds.{Kinds}
use Rattle.clap.specs.Simple.{subcommand_of}
use Rattle.clap.specs.ValueTests.{is_numeral, is_unsigned_in}
use Rattle.clap.specs.declared.error.kind.ErrorKind.{ErrorKind}
use Rattle.clap.specs.declared.error.kind.ErrorKind.TheVariants as kind
use Rattle.rule_store.specs.declared.Mode.{Mode}
use Rattle.batch_order.specs.declared.Placement.{Placement}
use Rattle.report_lines.specs.declared.Family.{Family}
use Rattle.report_lines.specs.declared.Family.TheVariants.{Route, Acl, Route6, Acl6}
use Rattle.report_lines.specs.Sizes.{sizes_by}
use Rattle.replay.specs.Effects.{Setting}
use Rattle.tcam_cli.specs.declared.own_texts.Topic.{Topic}
use Rattle.tcam_cli.specs.Headline.{Job, NoJob, Reads, Verifies}
use Rattle.option_words.specs.Options.{is_large, is_traced, number_given, number_in, placed_by, text_of}
use Rattle.tcam_cli.specs.CommandLine.{job_at, job_by, job_by_faults, job_of, job_of_fault, is_json, is_named, parted_by, made_at, mode_wanted, script_setting, tcam_app, topic_in}
use Rattle.tcam_cli.specs.Asked.{tested_job, tested_job_of_rows, tested_made, tested_script}
use Rattle.tcam_cli.proofs.NumbersTaken.{tested}

-- what a script is asked for over: slots in use that there may be of its sizes, which are the usual ones where the report is
-- in JSON
pub record AsksFor (setting : Setting) : Type 0 where
  pub some : 1 ≤ setting.slots
  pub most : setting.slots ≤ (sizes_by setting.large).slots
  pub usual : setting.json ≡ true → setting.large ≡ false

-- a number that was asked for is one of its range
record IsGiven (least greatest : ℕ) (job : ℕ → Job) (setting : Setting) : Type 0 where
  number : ℕ
  low : least ≤ number
  high : number ≤ greatest
  asks : job number ≡ Reads setting

given : (least greatest : ℕ) (text : Text) (job : ℕ → Job) (setting : Setting) (test : Bool) → is_unsigned_in least greatest text ≡ test → job_by (cond test (Some (number_in text)) None) job ≡ Reads setting
    → IsGiven least greatest job setting
given least greatest text job setting true tells asks =
    let n = number_in text in
    let one = and_parts (is_numeral (without_leading_plus text)) (nat_lt n (2 ^ 64) && (nat_le least n && nat_le n greatest)) tells in
    let two = and_parts (nat_lt n (2 ^ 64)) (nat_le least n && nat_le n greatest) one.1 in
    let three = and_parts (nat_le least n) (nat_le n greatest) two.1 in
    record { number = n; low = leb-true least n three.0; high = leb-true n greatest three.1; asks = asks }
given least greatest text job setting false tells asks = absurd (cc)

-- a script over so many slots
asked : (family : Family) (slots : ℕ) (mode : Option Mode) (placement : Option Placement) (trace : Bool) (depth : ℕ) (json names : Bool) (parts : Option Bool) (large : Bool) (setting : Setting) → 1 ≤ slots → slots ≤ (sizes_by large).slots
    → job_at family slots mode placement trace depth json names parts large ≡ Reads setting → AsksFor setting
asked family slots None placement trace depth json names parts large setting some most asks = absurd (cc)
asked family slots (Some mode) None trace depth json names parts large setting some most asks = absurd (cc)
asked family slots (Some mode) (Some placement) trace depth json names None large setting some most asks = absurd (cc)
asked family slots (Some mode) (Some placement) trace depth true names (Some parts) true setting some most asks = absurd (cc)
asked family slots (Some mode) (Some placement) trace depth true names (Some parts) false setting some most asks =
    let same : script_setting family slots mode placement trace depth true names parts false ≡ setting = cc in
    subst AsksFor same (record { some = some; most = most; usual = λ _. refl })
asked family slots (Some mode) (Some placement) trace depth false names (Some parts) large setting some most asks =
    let same : script_setting family slots mode placement trace depth false names parts large ≡ setting = cc in
    subst AsksFor same (record { some = some; most = most; usual = λ e. absurd (cc) })

script_asked : (family : Family) (rows : List Row) (setting : Setting) → tested_script family rows ≡ Reads setting → AsksFor setting
script_asked family rows setting asks =
    let job : ℕ → ℕ → Job = λ slots depth. job_at family slots (mode_wanted family rows) (placed_by rows) (is_traced rows) depth (is_json rows) (is_named rows) (parted_by rows) (is_large rows) in
    let top = (sizes_by (is_large rows)).slots in
    let slots = given 1 top (text_of (codes "slots") rows) (λ slots. job_by (number_given 0 15 (codes "depth") rows) (job slots)) setting (is_unsigned_in 1 top (text_of (codes "slots") rows)) refl asks in
    let depth = given 0 15 (text_of (codes "depth") rows) (job slots.number) setting (is_unsigned_in 0 15 (text_of (codes "depth") rows)) refl slots.asks in
    asked family slots.number (mode_wanted family rows) (placed_by rows) (is_traced rows) depth.number (is_json rows) (is_named rows) (parted_by rows) (is_large rows) setting slots.low slots.high depth.asks

-- no script is asked for by what makes commands
made_asked : (slots : ℕ) (mode : Option Mode) (placement : Option Placement) (seed rules batches : ℕ) (setting : Setting) → made_at slots mode placement seed rules batches ≡ Reads setting → AsksFor setting
made_asked slots None placement seed rules batches setting asks = absurd (cc)
made_asked slots (Some mode) None seed rules batches setting asks = absurd (cc)
made_asked slots (Some mode) (Some placement) seed rules batches setting asks = absurd (cc)

made_tested : (rows : List Row) (setting : Setting) → tested_made rows ≡ Reads setting → AsksFor setting
made_tested rows setting asks =
    let id : Text → Text = λ name. text_of name rows in
    let last : ℕ → ℕ → ℕ → ℕ → Job = λ slots seed rules batches. made_at slots (mode_wanted Acl rows) (placed_by rows) seed rules batches in
    let third : ℕ → ℕ → ℕ → Job = λ slots seed rules. job_by (number_given 1 64 (codes "batches") rows) (last slots seed rules) in
    let second : ℕ → ℕ → Job = λ slots seed. job_by (number_given 1 256 (codes "rules") rows) (third slots seed) in
    let slots = given 1 script_slots (id (codes "slots")) (λ slots. job_by (number_given 0 2147483647 (codes "seed") rows) (second slots)) setting (is_unsigned_in 1 script_slots (id (codes "slots"))) refl asks in
    let seed = given 0 2147483647 (id (codes "seed")) (second slots.number) setting (is_unsigned_in 0 2147483647 (id (codes "seed"))) refl slots.asks in
    let rules = given 1 256 (id (codes "rules")) (third slots.number seed.number) setting (is_unsigned_in 1 256 (id (codes "rules"))) refl seed.asks in
    let batches = given 1 64 (id (codes "batches")) (last slots.number seed.number rules.number) setting (is_unsigned_in 1 64 (id (codes "batches"))) refl rules.asks in
    made_asked slots.number (mode_wanted Acl rows) (placed_by rows) seed.number rules.number batches.number setting batches.asks

-- one of two jobs
chosen : (test : Bool) (one other : Job) (setting : Setting) → (one ≡ Reads setting → AsksFor setting) → (other ≡ Reads setting → AsksFor setting) → cond test one other ≡ Reads setting → AsksFor setting
chosen true one other setting first second asks = first asks
chosen false one other setting first second asks = second asks

rows_asked : (name : Text) (rows : List Row) (setting : Setting) → tested_job_of_rows name rows ≡ Reads setting → AsksFor setting
rows_asked name rows setting asks =
    let acl = bytes_eq name (codes "acl") in
    let route6 = bytes_eq name (codes "route6") in
    let acl6 = bytes_eq name (codes "acl6") in
    let gen = bytes_eq name (codes "gen") in
    let verify = bytes_eq name (codes "verify") in
    let after_gen : Job = cond verify Verifies NoJob in
    let after_acl6 : Job = cond gen (tested_made rows) after_gen in
    let after_route6 : Job = cond acl6 (tested_script Acl6 rows) after_acl6 in
    let after_acl : Job = cond route6 (tested_script Route6 rows) after_route6 in
    let after_route : Job = cond acl (tested_script Acl rows) after_acl in
    chosen (bytes_eq name (codes "route")) (tested_script Route rows) after_route setting (script_asked Route rows setting)
    (chosen acl (tested_script Acl rows) after_acl setting (script_asked Acl rows setting)
    (chosen route6 (tested_script Route6 rows) after_route6 setting (script_asked Route6 rows setting)
    (chosen acl6 (tested_script Acl6 rows) after_acl6 setting (script_asked Acl6 rows setting)
    (chosen gen (tested_made rows) after_gen setting (made_tested rows setting)
    (chosen verify Verifies NoJob setting (λ e. absurd (cc)) (λ e. absurd (cc))))))) asks

subcommand_asked : (found : Option (Text × List Row)) (setting : Setting) → tested_job found ≡ Reads setting → AsksFor setting
subcommand_asked None setting asks = absurd (cc)
subcommand_asked (Some (name, rows)) setting asks = rows_asked name rows setting asks

-- a fault asks for no script
fault_asked : (topic : Option Topic) (k : ErrorKind) (setting : Setting) → job_of_fault topic k ≡ Reads setting → AsksFor setting
fault_asked topic kind.DisplayHelp setting asks = absurd (cc)
fault_asked topic kind.DisplayVersion setting asks = absurd (cc)
fault_asked topic k setting asks = absurd (cc)

by_faults : (words : List Text) (faults : Kinds) (setting : Setting) → fault_of tcam_app words ≡ faults → job_by_faults (topic_in words) faults (subcommand_of tcam_app words) ≡ Reads setting → AsksFor setting
by_faults words [] setting none asks = subcommand_asked (subcommand_of tcam_app words) setting (sym (tested words none (subcommand_of tcam_app words) refl) ∙ asks)
by_faults words (k ∷ []) setting one asks = fault_asked (topic_in words) k setting asks
by_faults words (k ∷ l ∷ ks) setting more asks = absurd (cc)

pub words_ask : (words : List Text) (setting : Setting) → job_of words ≡ Reads setting → AsksFor setting
words_ask words setting asks = by_faults words (fault_of tcam_app words) setting refl asks
