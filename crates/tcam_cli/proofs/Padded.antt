-- A run that pads an insertion doesn't keep the promise: the first route of a set takes one write, and no other.
use Rattle.std.proofs.Common.{◌≡◌, false, Some, None, List, [], ◌∷◌, ◌++◌, length, refl, ap, subst, ◌∙◌, arith}
use Rattle.std.specs.Prelude.{codes}
use Rattle.std.proofs.lemmas.List.{append-nil}
use Rattle.rule_model.specs.AddressBlock.{ipv4_block}
use Rattle.rule_model.specs.Rank.{ipv4_route_rank}
use Rattle.rule_model.specs.Rule.{route_rule}
use Rattle.rule_store.specs.declared.Command.TheVariants.{Add}
use Rattle.rule_model.specs.declared.words.Entry.{Entry}
use Rattle.tcam_device.specs.declared.Write.TheVariants.{Slot}
use Rattle.tcam_device.specs.declared.Action.TheVariants.{Written}
use Rattle.tcam_device.specs.Flight.{writes_in}
use Rattle.commit_writes.specs.Bits.{no_bits}
use Rattle.batch_order.proofs.planning.Padded.{one-write}
use Rattle.rule_store.specs.declared.Mode.TheVariants.{Cover}
use Rattle.batch_order.specs.declared.Placement.TheVariants.{Middle}
use Rattle.report_lines.specs.declared.Family.TheVariants.{Route}
use Rattle.replay.specs.Effects.{Setting, Effect, Prints, journal_of}
use Rattle.replay.specs.Run.{Progress, Commits, Settles, start, used_slots}
use Rattle.replay.proofs.lines.Effects.{written-append}
use Rattle.replay.proofs.lines.Written.{written-segment}
use Rattle.script_runs.specs.declared.Status.TheVariants.{Done}
use Rattle.tcam_cli.specs.CommandLine.{script_setting}
use Rattle.tcam_cli.specs.Headline.{Reads, IsCarriedOut}

abbrev setting : Setting
setting = script_setting Route 8 Cover Middle false 0 false false false false

-- the addition of a route, pending
abbrev pending : Progress
pending = record (start 8) { batch = Add (route_rule (ipv4_route_rank (ipv4_block 0x0a000000 8)) (ipv4_block 0x0a000000 8) 7) ∷ [] }

-- its commit makes one write
one-commit : (effects : List Effect) (new : Progress) → Commits setting pending effects new → length (journal_of effects) ≡ 1
one-commit effects new commits =
    let made : journal_of effects ≡ commits.made =
    ap journal_of commits.effects_are ∙ written-segment setting pending commits.made _ in
    ap length made ∙ one-write setting.placement Cover no_bits pending.batch (used_slots setting pending.state) commits.made refl refl refl commits.writes.placed

judged : (before : Progress) (effects : List Effect) (new : Progress) → before ≡ pending → Settles Commits setting before effects new → length (journal_of effects) ≡ 1
judged before effects new is commits = one-commit effects new (subst (λ (p : Progress). Settles Commits setting p effects new) is commits)

-- the entry goes into one slot, and is moved once more
padded : (entry : Entry) → IsCarriedOut (Reads setting) 8 Done (Some (codes "route add 10.0.0.0/8 7" ++ 10 ∷ codes "commit")) (Some []) (Some []) (Some []) (Written (Slot 2 (Some entry)) ∷ Written (Slot 3 (Some entry)) ∷ Written (Slot 2 None) ∷ []) → ⊥
padded entry claim =
    let outcome = claim.1 in
    let whole = outcome.outcome.0 in
    let add = whole.run in
    let commit = add.4 in
    let one : length (journal_of commit.0) ≡ 1 = judged add.1 commit.0 commit.1 add.3.1 commit.3 in
    let body : whole.body ≡ commit.0 =
    add.5 ∙ (ap (λ (front : List Effect). front ++ add.2) add.3.0 ∙ (commit.5 ∙ (ap (λ (back : List Effect). commit.0 ++ back) commit.4.0 ∙ append-nil commit.0))) in
    let made : journal_of outcome.effects ≡ journal_of commit.0 =
    ap journal_of whole.effects_are ∙ (written-append whole.body (Prints _ ∷ []) ∙ (append-nil (journal_of whole.body) ∙ ap journal_of body)) in
    let count : 3 ≡ 1 = ap (λ actions. length (writes_in actions)) outcome.events_is ∙ (ap length made ∙ one) in
    omega (arith, count)
