use Rattle.std.proofs.Common.{◌≡◌, ◌≢◌, ◌<◌, ℕ, slice_get, ◌+◌, ◌∷◌, Some, List, sym, ap, ◌∙◌, drop, take, arith, get_or-take, length-take}
use Rattle.std.proofs.lemmas.Grind.{common_steps}
use Rattle.std.proofs.lemmas.List.{drop_more, drop_all}
use Rattle.std.specs.List.{list_any}
use Rattle.rule_model.specs.PortRange.{same_range}
use Rattle.rule_store.specs.declared.Command.{Command}
use Rattle.rule_store.proofs.Sums.{slice_get-within, slice_get-read}
use Rattle.commit_writes.specs.Needed.{coded_range}
use Rattle.commit_writes.proofs.Coded.{any-asked, asked-here, asked-later, asked_ranges}
use Rattle.commit_writes.proofs.translation.ranges.is_added_before.Goals as goal

pub loop-earlier-init : goal.loop-earlier-init
loop-earlier-init c = any-asked c.args.field (take c.args.place c.args.batch.now) c.args.range

-- of the commands before a place, one and those behind it
split_at : (batch : List Command) (place earlier : ℕ) (command : Command) → slice_get batch earlier ≡ Some command → earlier < place
    → drop earlier (take place batch) ≡ command ∷ drop (earlier + 1) (take place batch)
split_at batch place earlier command read before =
    let inside = slice_get-within batch earlier command read in
    let size = length-take place batch in
    drop_more (take place batch) earlier command (omega arith)
    ∙ ap (λ (one : Command). one ∷ drop (earlier + 1) (take place batch)) (get_or-take place batch earlier command before ∙ slice_get-read batch earlier command read)

pub returns-then-eq : goal.returns-then-eq
returns-then-eq c =
    let is : coded_range c.args.field c.at.result ≡ Some c.args.range = grind (arith, common_steps) in
    let split = split_at c.args.batch.now c.args.place c.loop-earlier.earlier c.at.result c.at.ensures (omega arith) in
    sym (c.loop-earlier.invariant ∙ ap (λ (l : List Command). list_any (same_range c.args.range) (asked_ranges c.args.field l)) split
    ∙ asked-here c.args.field c.at.result (drop (c.loop-earlier.earlier + 1) (take c.args.place c.args.batch.now)) c.args.range is)

pub loop-earlier-preserved : goal.loop-earlier-preserved
loop-earlier-preserved c =
    let other : coded_range c.args.field c.at.result ≢ Some c.args.range = λ is. grind (arith, common_steps) in
    let split = split_at c.args.batch.now c.args.place c.loop-earlier.earlier c.at.result c.at.ensures (omega arith) in
    c.loop-earlier.invariant ∙ ap (λ (l : List Command). list_any (same_range c.args.range) (asked_ranges c.args.field l)) split
    ∙ asked-later c.args.field c.at.result (drop (c.loop-earlier.earlier + 1) (take c.args.place c.args.batch.now)) c.args.range other

pub returns : goal.returns
returns c =
    let size = length-take c.args.place c.args.batch.now in
    sym (c.loop-earlier.invariant
    ∙ ap (λ (l : List Command). list_any (same_range c.args.range) (asked_ranges c.args.field l)) (drop_all c.loop-earlier.earlier (take c.args.place c.args.batch.now) (omega arith)))
