-- Outcomes that are wrong, and that the promise refuses.
use Rattle.std.proofs.Common.{◌≡◌, false, List, [], ◌∷◌, ◌++◌, Some, None, refl, inl, inr, ◌∙◌, ap}
use Rattle.std.specs.Prelude.{codes}
use Rattle.rule_store.specs.declared.Mode.TheVariants.{Cover}
use Rattle.batch_order.specs.declared.Placement.TheVariants.{Middle}
use Rattle.report_lines.specs.declared.Family.TheVariants.{Route, Acl}
use Rattle.tcam_device.specs.declared.Action.{Action}
use Rattle.replay.specs.declared.Act.{Act}
use Rattle.replay.specs.Effects.{Setting, events_in}
use Rattle.script_runs.specs.declared.Status.TheVariants.{Done, Refused, Script as ScriptFault, ReadFault, WriteFault, DeviceFault, Usage}
use Rattle.tcam_cli.specs.Headline.{NoJob, Reads, Makes, IsCarriedOut, MayEnd}

abbrev setting : Setting
setting = record { slots = 8; mode = Cover; placement = Middle; family = Route; trace = false; depth = 0; json = false; names = false; parts = false; large = false }

-- a line at fault was taken, and then a read failed: nothing is printed, status 3
passed-over : IsCarriedOut (Reads setting) 8 ReadFault (Some (codes "frob" ++ 10 ∷ codes "more")) (Some (codes "more")) (Some []) (Some []) [] → ⊥
passed-over claim = let sound = claim.1.outcome.0.sound in cc

-- the same of a byte that no script has, in a line that hasn't come whole
passed-byte : IsCarriedOut (Reads setting) 8 ReadFault (Some (200 ∷ codes "more")) (Some (codes "more")) (Some []) (Some []) [] → ⊥
passed-byte claim = let sound = claim.1.outcome.0.sound in cc

-- unread input
unread : IsCarriedOut (Reads setting) 8 Done (Some (codes "more")) (Some (codes "e")) (Some []) (Some []) [] → ⊥
unread claim = let all = claim.0.all (inl refl) in cc

-- the last line is left out, or an end line is printed where the script is at fault
dropped : MayEnd Done (Reads setting) (Some (codes "commit" ++ 10 ∷ codes "frob")) → ⊥
dropped claim = let is = claim.1 in cc

-- a script's fault where there is none
invented : MayEnd ScriptFault (Reads setting) (Some (codes "commit")) → ⊥
invented claim = let is = claim.1.1 in cc

-- usage
lazy : MayEnd Usage (Reads setting) None → ⊥
lazy claim = cc

-- two routes for eight slots
accepted : MayEnd Done (Reads setting) (Some (codes "route add 10.0.0.0/8 7" ++ 10 ∷ codes "commit"))
accepted = ([], refl)

overfull : MayEnd Refused (Reads (record setting { slots = 1 })) (Some (codes "route add 10.0.0.0/8 7" ++ 10 ∷ codes "route add 11.0.0.0/8 7" ++ 10 ∷ codes "commit"))
overfull = ([], refl)

-- what no job without a script ends with
untouched : MayEnd DeviceFault NoJob None → ⊥
untouched claim = claim

unasked : MayEnd Done NoJob None → ⊥
unasked claim = let is = claim.1 in cc

-- a device write after the line that could not be written
no-act : (done : List Act) (act : Act) (later : List Act) → [] ≡ done ++ act ∷ later → ⊥
no-act [] act later same = cc
no-act (first ∷ done) act later same = cc

writes-on : (action : Action) → IsCarriedOut (Reads setting) 8 WriteFault (Some []) (Some []) (Some []) (Some []) (action ∷ []) → ⊥
writes-on action claim = elim claim.1.outcome.due [
  | inl at ↦ no-act at.done at.act at.later at.acts
  | inr end ↦ let same : action ∷ [] ≡ [] = claim.1.events_is ∙ ap events_in end.run.0 in cc
]

-- a device's fault where no write is due
not-due : IsCarriedOut (Reads setting) 8 DeviceFault (Some []) (Some []) (Some []) (Some []) [] → ⊥
not-due claim = elim claim.1.outcome.0.due [
  | inl at ↦ no-act at.done at.act at.later at.acts
  | inr end ↦ let same = end.due_is in cc
]

-- the act of a last line without a line feed, and then a failed read
late-read : IsCarriedOut (Reads setting) 8 ReadFault (Some (codes "packet 1.2.3.4 1.2.3.4 6 1 1")) (Some []) (Some []) (Some (codes "packet none" ++ 10 ∷ [])) [] → ⊥
late-read claim =
    let nothing = claim.1.outcome.0.run.0 in
    let part = claim.1.outcome.1 in
    let report = claim.1.report_is in cc

-- ---- made commands

abbrev made : Setting
made = record setting { family = Acl }

-- they take from the source, or end by its failure
made-takes : IsCarriedOut (Makes made 1 1 1) 8 Done (Some (codes "commit")) (Some []) (Some []) (Some []) [] → ⊥
made-takes claim = let same = claim.0 in cc

made-reads : IsCarriedOut (Makes made 1 1 1) 8 ReadFault None None (Some []) (Some []) [] → ⊥
made-reads claim = claim.1.0 refl

-- they are at fault at a line, or are no command line
made-fault : MayEnd ScriptFault (Makes made 1 1 1) None → ⊥
made-fault claim = claim.0

made-usage : MayEnd Usage (Makes made 1 1 1) None → ⊥
made-usage claim = cc

-- the second batch has no room in one slot: a body that leaves it off is done
made-full : MayEnd Refused (Makes (record made { slots = 1 }) 1 1 2) None
made-full = ([], refl)

made-short : MayEnd Done (Makes (record made { slots = 1 }) 1 1 2) None → ⊥
made-short claim = let is = claim.1 in cc
