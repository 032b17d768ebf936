-- A line with a leak isn't hitless.
use Rattle.std.proofs.Common.{◌≡◌, List, inl, inr, sym, ◌∙◌, ap}
use Rattle.rule_model.specs.declared.Rule.{Rule}
use Rattle.tcam_device.specs.State.{State}
use Rattle.driver_trace.specs.declared.Compared.{Compared}
use Rattle.driver_trace.specs.declared.Leak.{Leak}
use Rattle.driver_trace.specs.declared.Asked.{Asked}
use Rattle.driver_trace.specs.declared.Asked.TheVariants.{OldOrNew, New, Old, Nothing}
use Rattle.driver_trace.specs.Compared.{as_compared, AnswersAs}
use Rattle.driver_trace.specs.Judged.{asked_by, ShowsAsked, IsLeak, LeaksAreNotHitless}

module _ (by : Compared) (state : State) (old new : List Rule) (leak : Leak) where
  as_old : (asked : Asked) → IsLeak by state old new asked leak → AnswersAs by state old leak.key → as_compared by leak.gets ≡ as_compared by leak.old
  as_old asked is right = ap (as_compared by) is.gets ∙ right ∙ sym (ap (as_compared by) is.old_answer)

  as_new : (asked : Asked) → IsLeak by state old new asked leak → AnswersAs by state new leak.key → as_compared by leak.gets ≡ as_compared by leak.new
  as_new asked is right = ap (as_compared by) is.gets ∙ right ∙ sym (ap (as_compared by) is.new_answer)

  pub leak_not_shown : (asked : Asked) → IsLeak by state old new asked leak → ShowsAsked by state old new asked → ⊥
  leak_not_shown OldOrNew is shows = elim (shows leak.key is.is_key) [
    | inl right ↦ is.wrong.0 (as_old OldOrNew is right)
    | inr right ↦ is.wrong.1 (as_new OldOrNew is right)
  ]
  leak_not_shown New is shows = is.wrong (as_new New is (shows leak.key is.is_key))
  leak_not_shown Old is shows = is.wrong (as_old Old is (shows leak.key is.is_key))
  leak_not_shown Nothing is shows = is.wrong

pub leaks_not_hitless : LeaksAreNotHitless
leaks_not_hitless by now line leak is hitless = leak_not_shown by _ now.rules _ leak (asked_by line) is hitless
