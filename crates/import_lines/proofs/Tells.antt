-- What a line comes to, by what the format told and what the sink took.
use Rattle.std.proofs.Common.{◌≡◌, ◌≢◌, ◌<◌, ◌≤◌, ◌+◌, ◌++◌, cond, codes, decimal, ne_eqb, append_assoc, ℕ, Bool, true, false, inl, inr, Option, Result, Ok, Err, OnOk, List, [], refl, sym, ap, ◌∙◌, subst, arith}
use Rattle.std.proofs.lemmas.Result.{on_ok_weaker}
use Rattle.call_history.specs.Cause.{IsCounted}
use Rattle.script_runs.specs.declared.Status.{Status}
use Rattle.script_runs.specs.declared.Status.TheVariants as status
use Rattle.import_lines.specs.Import.{Telling, LineTold, SaidBy, UnsaidBy, left_out_line, stop_line, left_out_count}
use Rattle.import_lines.specs.Rounds.{Standing}
use Rattle.import_lines.specs.Writes.{ClosesAs, ClosesBy, LastBy, PassesBy, NamesBy, PassesAs, HasText, EndsAs, TellsLine}

-- a text that is put there in parts
pub puts-then : (before mid after part rest : List ℕ) → mid ≡ before ++ part → after ≡ mid ++ rest → after ≡ before ++ (part ++ rest)
puts-then before mid after part rest first more = more ∙ ap (λ l. l ++ rest) first ∙ append_assoc before part rest

-- how many lines are left out, where some are
pub count-some : (count : ℕ) → count ≢ 0 → codes "# left out: " ++ (decimal count ++ codes " lines\n") ≡ left_out_count count
count-some count some = ap (λ b. cond b [] (codes "# left out: " ++ (decimal count ++ codes " lines\n"))) (sym (ne_eqb count 0 some))

-- room that was empty, and got a text
pub put-behind : (held room before text : List ℕ) → held ≡ room → room ≡ before ++ text → before ≡ [] → held ≡ text
put-behind held room before text same put none = same ∙ put ∙ ap (λ b. b ++ text) none

-- a text by another name
pub closes-same : (text same : List ℕ) (last result : Status) (o n : Option (List ℕ)) → text ≡ same → ClosesBy text last result o n → LastBy same last result o n
closes-same text same last result o n is by = inl (subst (λ t. ClosesBy t last result o n) is by)

pub passes-same : (text same : List ℕ) (result : Result (Unit {0}) Status) (o n : Option (List ℕ)) → text ≡ same → PassesBy result text o n → PassesBy result same o n
passes-same text same result o n is by = subst (λ t. PassesBy result t o n) is by

-- what stands behind all lines, by the fields of an import
pub closes-at : (Known : Type 0) → (closing : Known → LineTold) (view at : Standing Known) (told : LineTold) (result : Status) (o n : Option (List ℕ)) → view ≡ at → closing view.known ≡ told → ClosesAs view.left_out told result o n
    → ClosesAs at.left_out (closing at.known) result o n
closes-at Known closing view at told result o n is same by =
    subst (λ (a : Standing Known). ClosesAs a.left_out (closing a.known) result o n) is (subst (λ t. ClosesAs view.left_out t result o n) (sym same) by)

-- a line that isn't said
pub names-pass : (leave_out : Bool) (number : ℕ) (why : List ℕ) (result : Result (Unit {0}) Status) (o n : Option (List ℕ)) → leave_out ≡ true → PassesBy result (left_out_line number why) o n → NamesBy leave_out number why result o n
names-pass leave_out number why result o n leaves by = subst (λ b. NamesBy b number why result o n) (sym leaves) by

pub names-stop : (leave_out : Bool) (number : ℕ) (why : List ℕ) (answer : Status) (o n : Option (List ℕ)) → leave_out ≡ false → LastBy (stop_line number why) status.Script answer o n → NamesBy leave_out number why (Err answer) o n
names-stop leave_out number why answer o n stops by = subst (λ b. NamesBy b number why (Err answer) o n) (sym stops) by

-- ---- a line

-- it is said
said-as : (Known : Type 0) → (telling : Telling Known) (at at_new : Standing Known) (line : List ℕ) (number : ℕ) (bytes : List ℕ) (result : Result (Unit {0}) Status) (o n : Option (List ℕ))
    → telling.told at.known line ≡ SaidBy bytes → at_new ≡ record at { known = telling.behind at.known line } → PassesBy result bytes o n → TellsLine telling at line number result at_new o n
said-as Known telling at at_new line number bytes (Ok done) o n same is by = subst (λ t. PassesAs telling at line number t at_new o n) (sym same) (is, by)
said-as Known telling at at_new line number bytes (Err status.Memory) o n same is by = by
said-as Known telling at at_new line number bytes (Err status.WriteFault) o n same is by =
    subst (λ t. EndsAs at number t status.WriteFault o n) (sym same) (bytes, refl, by)
said-as Known telling at at_new line number bytes (Err status.Done) o n same is by = absurd by
said-as Known telling at at_new line number bytes (Err status.Refused) o n same is by = absurd by
said-as Known telling at at_new line number bytes (Err status.Script) o n same is by = absurd by
said-as Known telling at at_new line number bytes (Err status.ReadFault) o n same is by = absurd by
said-as Known telling at at_new line number bytes (Err status.DeviceFault) o n same is by = absurd by
said-as Known telling at at_new line number bytes (Err status.Usage) o n same is by = absurd by

-- it is left out
left-as : (Known : Type 0) → (telling : Telling Known) (known : Known) (count : ℕ) (at_new : Standing Known) (line : List ℕ) (number : ℕ) (why : List ℕ) (result : Result (Unit {0}) Status) (o n : Option (List ℕ))
    → telling.told known line ≡ UnsaidBy why → OnOk result (at_new ≡ record { known = known; leave_out = true; left_out = count + 1 }) → PassesBy result (left_out_line number why) o n
    → TellsLine telling (record { known = known; leave_out = true; left_out = count }) line number result at_new o n
left-as Known telling known count at_new line number why (Ok done) o n same is by =
    subst (λ t. PassesAs telling (record { known = known; leave_out = true; left_out = count }) line number t at_new o n) (sym same) (refl, is, by)
left-as Known telling known count at_new line number why (Err status.Memory) o n same is by = by
left-as Known telling known count at_new line number why (Err status.WriteFault) o n same is by =
    subst (λ t. EndsAs {Known = Known} (record { known = known; leave_out = true; left_out = count }) number t status.WriteFault o n) (sym same) (left_out_line number why, refl, by)
left-as Known telling known count at_new line number why (Err status.Done) o n same is by = absurd by
left-as Known telling known count at_new line number why (Err status.Refused) o n same is by = absurd by
left-as Known telling known count at_new line number why (Err status.Script) o n same is by = absurd by
left-as Known telling known count at_new line number why (Err status.ReadFault) o n same is by = absurd by
left-as Known telling known count at_new line number why (Err status.DeviceFault) o n same is by = absurd by
left-as Known telling known count at_new line number why (Err status.Usage) o n same is by = absurd by

-- or the script stops at it
stop-as : (Known : Type 0) → (telling : Telling Known) (known : Known) (count : ℕ) (at_new : Standing Known) (line : List ℕ) (number : ℕ) (why : List ℕ) (answer : Status) (o n : Option (List ℕ))
    → telling.told known line ≡ UnsaidBy why → LastBy (stop_line number why) status.Script answer o n
    → TellsLine telling (record { known = known; leave_out = false; left_out = count }) line number (Err answer) at_new o n
stop-as Known telling known count at_new line number why answer o n same (inl (inl (is, appends))) =
    subst (λ r. TellsLine telling (record { known = known; leave_out = false; left_out = count }) line number (Err r) at_new o n) (sym is) (refl, (why, same, appends))
stop-as Known telling known count at_new line number why answer o n same (inl (inr (is, part))) =
    subst (λ r. TellsLine telling (record { known = known; leave_out = false; left_out = count }) line number (Err r) at_new o n) (sym is)
    (stop_line number why, subst (λ t. HasText false number t (stop_line number why)) (sym same) refl, part)
stop-as Known telling known count at_new line number why answer o n same (inr (is, appends)) =
    subst (λ r. TellsLine telling (record { known = known; leave_out = false; left_out = count }) line number (Err r) at_new o n) (sym is) appends

-- it isn't said
named-as : (Known : Type 0) → (telling : Telling Known) (known : Known) (leave_out : Bool) (count : ℕ) (at_new : Standing Known) (line : List ℕ) (number : ℕ) (why : List ℕ) (result : Result (Unit {0}) Status) (o n : Option (List ℕ))
    → telling.told known line ≡ UnsaidBy why → OnOk result (at_new ≡ record { known = known; leave_out = leave_out; left_out = count + 1 }) → NamesBy leave_out number why result o n
    → TellsLine telling (record { known = known; leave_out = leave_out; left_out = count }) line number result at_new o n
named-as Known telling known true count at_new line number why result o n same is by = left-as Known telling known count at_new line number why result o n same is by
named-as Known telling known false count at_new line number why (Ok done) o n same is by = absurd by
named-as Known telling known false count at_new line number why (Err answer) o n same is by = stop-as Known telling known count at_new line number why answer o n same by

-- ---- by the fields of an import, whose view is where it stands

abbrev pub standing_at : (Known : Type 0) → Known → Bool → ℕ → Standing Known
standing_at Known known leave_out left_out = record { known = known; leave_out = leave_out; left_out = left_out }

module _ (Known : Type 0) (telling : Telling Known) (at : Standing Known) (known known_new : Known) (leave_out : Bool) (left_out : ℕ) (view_is : standing_at Known known leave_out left_out ≡ at) (text line : List ℕ) (text_is : text ≡ line) (number : ℕ) (o n : Option (List ℕ)) where
  pub tells-said : (bytes : List ℕ) (result : Result (Unit {0}) Status) → telling.told known text ≡ SaidBy bytes → known_new ≡ telling.behind known text → PassesBy result bytes o n
      → TellsLine telling at line number result (standing_at Known known_new leave_out left_out) o n
  tells-said bytes result told behind by =
      subst (λ a. TellsLine telling a line number result (standing_at Known known_new leave_out left_out) o n) view_is
      (said-as Known telling (standing_at Known known leave_out left_out) (standing_at Known known_new leave_out left_out) line number bytes result o n
      (subst (λ t. telling.told known t ≡ SaidBy bytes) text_is told)
      (ap (λ k. standing_at Known k leave_out left_out) (subst (λ t. known_new ≡ telling.behind known t) text_is behind)) by)

  pub tells-named : (left_new : ℕ) (why : List ℕ) (result : Result (Unit {0}) Status) → telling.told known text ≡ UnsaidBy why → known_new ≡ known → OnOk result (left_new ≡ left_out + 1) → NamesBy leave_out number why result o n
      → TellsLine telling at line number result (standing_at Known known_new leave_out left_new) o n
  tells-named left_new why result told same counts by =
      subst (λ a. TellsLine telling a line number result (standing_at Known known_new leave_out left_new) o n) view_is
      (named-as Known telling known leave_out left_out (standing_at Known known_new leave_out left_new) line number why result o n
      (subst (λ t. telling.told known t ≡ UnsaidBy why) text_is told)
      (on_ok_weaker result (λ (more : left_new ≡ left_out + 1). ap (λ k. standing_at Known k leave_out left_new) same ∙ ap (λ m. standing_at Known known leave_out m) more) counts) by)

-- ---- how many are left out

pub below-fields : (Known : Type 0) → (view at : Standing Known) (number : ℕ) → view ≡ at → at.left_out < number → view.left_out < number
below-fields Known view at number is below = subst (λ (a : Standing Known). a.left_out < number) (sym is) below

pub below-said : (Known : Type 0) → (view at : Standing Known) (number : ℕ) → view ≡ at → at.left_out < number → view.left_out ≤ number
below-said Known view at number is below = let h = below-fields Known view at number is below in omega (arith, h)

pub below-left : (Known : Type 0) → (view at : Standing Known) (left_new number : ℕ) → view ≡ at → at.left_out < number → left_new ≡ view.left_out + 1 → left_new ≤ number
below-left Known view at left_new number is below more = let h = below-fields Known view at number is below in omega (arith, h, more)

-- ---- the failures

-- a failed write, in a call that answers where the import goes on
pub err-counted : (answer which : Status) (old new : ℕ) → IsCounted (answer ≡ which) old new → IsCounted (◌≡◌ {A = Result (Unit {0}) Status} (Err answer) (Err which)) old new
err-counted answer which old new is =
    record {
      later = is.later;
      once = is.once;
      failed = λ same. is.failed (let e : ◌≡◌ {A = Result (Unit {0}) Status} (Err answer) (Err which) = same in cc);
      stayed = λ other. is.stayed (λ e. other (ap Err e));
    }

-- what holds anyhow
pub always : (result : Result (Unit {0}) Status) (P : Type 0) → P → OnOk result P
always (Ok done) P holds = holds
always (Err answer) P holds = tt
