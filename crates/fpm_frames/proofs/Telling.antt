-- What a round comes to, by what its frame is told as and what the sink took, and an import, round after round.
use Rattle.std.proofs.Common.{◌≡◌, ◌≢◌, ◌⊎◌, ◌+◌, ℕ, Bool, true, false, inl, inr, Option, Result, Ok, Err, OnOk, List, [], ◌∷◌, ◌++◌, codes, cond, decimal, ne_eqb, length, take, drop, refl, sym, ap, ◌∙◌, subst, append-nil, append_assoc, arith}
use Rattle.std.specs.List.{concat}
use Rattle.std.specs.Io.KnownBytes.{Appends}
use Rattle.std.proofs.KnownBytes.{Appends-nil, Appends-trans}
use Rattle.std.proofs.lemmas.List.{take-append-drop}
use Rattle.call_history.specs.Cause.{IsCounted}
use Rattle.script_lines.specs.Given.{HasEnd}
use Rattle.script_lines.proofs.Pieces.{concat-append, end-right}
use Rattle.script_runs.specs.declared.Status.{Status}
use Rattle.script_runs.specs.declared.Status.TheVariants as status
use Rattle.import_lines.specs.Import.{SaidBy, UnsaidBy}
use Rattle.import_lines.specs.Writes.{WritesPart}
use Rattle.fpm_frames.specs.declared.frames.Header.{Header}
use Rattle.fpm_frames.specs.declared.frames.Unread.{Unread}
use Rattle.fpm_frames.specs.declared.frames.Unread.TheVariants as unread
use Rattle.fpm_frames.specs.declared.frames.Came.TheVariants as came
use Rattle.fpm_frames.specs.Frames.{IsFrame, IsPart, Reads, frame_header, header_why}
use Rattle.fpm_frames.specs.Imported.{Telling, FrameFate, IsSaid, IsLeftOut, frame_of, bytes_of, messages_of, Standing, stands_behind, IsFate, standing_after, came_of, written_of, AreFates, Comes, Goes, Stops, StopsCut, StopsUnknown, Ends, EndsBy, ImportsBy, RoundBy, WritesBy, left_out_frame, left_out_frames, stop_frame}
use Rattle.fpm_frames.proofs.Reading.{on-both}

-- ---- texts

-- a text that is put there in parts
pub puts-then : (before mid after part rest : List ℕ) → mid ≡ before ++ part → after ≡ mid ++ rest → after ≡ before ++ (part ++ rest)
puts-then before mid after part rest first more = more ∙ ap (λ l. l ++ rest) first ∙ append_assoc before part rest

-- how many frames are left out, where some are
pub count-some : (count : ℕ) → count ≢ 0 → codes "# left out: " ++ (decimal count ++ codes " frames\n") ≡ left_out_frames count
count-some count some = ap (λ b. cond b [] (codes "# left out: " ++ (decimal count ++ codes " frames\n"))) (sym (ne_eqb count 0 some))

-- room that was empty, and got a text
pub put-behind : (held room before text : List ℕ) → held ≡ room → room ≡ before ++ text → before ≡ [] → held ≡ text
put-behind held room before text same put none = same ∙ put ∙ ap (λ b. b ++ text) none

pub writes-same : (text same : List ℕ) (next result : Result (Unit {0}) Status) (o n : Option (List ℕ)) → text ≡ same → WritesBy text next result o n → WritesBy same next result o n
writes-same text same next result o n is by = subst (λ t. WritesBy t next result o n) is by

-- a script that ends doesn't go on
pub writes-no : (text : List ℕ) (answer : Status) (result : Result (Unit {0}) Status) (P : Type 0) (o n : Option (List ℕ)) → WritesBy text (Err answer) result o n → OnOk result P
writes-no text answer result P o n (inl (is, appends)) = subst (λ r. OnOk r P) (sym is) tt
writes-no text answer result P o n (inr (inl (is, part))) = subst (λ r. OnOk r P) (sym is) tt
writes-no text answer result P o n (inr (inr (is, none))) = subst (λ r. OnOk r P) (sym is) tt

-- ---- a round

module _ (Known : Type 0) (telling : Telling Known) (at at_new : Standing Known) (pieces : List (List ℕ)) (part : List ℕ) (result : Result (Unit {0}) Status) (o n : Option (List ℕ)) where
  -- the front of what comes was written, where the sink failed
  failed : (text : List ℕ) (next : Result (Unit {0}) Status) → Comes telling at pieces part text next
      → ((result ≡ Err status.WriteFault) × WritesPart o n text) ⊎ ((result ≡ Err status.Memory) × Appends o n [])
      → RoundBy Known telling at pieces part result at_new o n
  failed text next comes (inl (is, part_of)) =
      subst (λ r. RoundBy Known telling at pieces part r at_new o n) (sym is)
      (take part_of.0 text, (text, next, comes, (drop part_of.0 text, sym (take-append-drop part_of.0 text))), part_of.2)
  failed text next comes (inr (is, none)) =
      subst (λ r. RoundBy Known telling at pieces part r at_new o n) (sym is) ([], refl, none)

  -- a frame is told, and the next one may come
  pub round-goes : (fate : FrameFate) → IsFate Known telling at fate → part ≡ frame_of fate → at_new ≡ stands_behind Known telling at fate
      → WritesBy (bytes_of at.number fate) (Ok tt) result o n → RoundBy Known telling at pieces part result at_new o n
  round-goes fate is_fate part_is at_is (inl (is, appends)) =
      subst (λ r. RoundBy Known telling at pieces part r at_new o n) (sym is) (fate, is_fate, part_is, appends, at_is)
  round-goes fate is_fate part_is at_is (inr other) = failed (bytes_of at.number fate) (Ok tt) (Goes fate is_fate part_is) other

  -- or it ends the import
  pub round-ends : (text : List ℕ) (answer : Status) → (answer ≡ status.Done) ⊎ (answer ≡ status.Script) → Comes telling at pieces part text (Err answer)
      → WritesBy text (Err answer) result o n → RoundBy Known telling at pieces part result at_new o n
  round-ends text answer (inl last) comes (inl (is, appends)) =
      subst (λ r. RoundBy Known telling at pieces part r at_new o n) (sym (is ∙ ap Err last)) (text, subst (λ a. Comes telling at pieces part text (Err a)) last comes, appends)
  round-ends text answer (inr last) comes (inl (is, appends)) =
      subst (λ r. RoundBy Known telling at pieces part r at_new o n) (sym (is ∙ ap Err last)) (text, subst (λ a. Comes telling at pieces part text (Err a)) last comes, appends)
  round-ends text answer last comes (inr other) = failed text (Err answer) comes other

-- ---- by the fields of an import, whose view is where it stands

abbrev pub at_fields : (Known : Type 0) → Known → Bool → ℕ → ℕ → Standing Known
at_fields Known known leave_out number left_out = record { known = known; leave_out = leave_out; number = number; left_out = left_out }

module _ (Known : Type 0) (telling : Telling Known) (at : Standing Known) (known known_new : Known) (leave_out : Bool) (number left_out : ℕ) (view_is : at_fields Known known leave_out number left_out ≡ at) (pieces : List (List ℕ)) (frame : List ℕ) (whole : IsFrame frame) (text : List ℕ) (text_is : text ≡ messages_of frame) (result : Result (Unit {0}) Status) (o n : Option (List ℕ)) where
  pub tells-said : (bytes : List ℕ) → telling.told known text ≡ SaidBy bytes → known_new ≡ telling.behind known text → WritesBy bytes (Ok tt) result o n
      → RoundBy Known telling at pieces frame result (at_fields Known known_new leave_out (number + 1) left_out) o n
  tells-said bytes told behind by =
      subst (λ a. RoundBy Known telling a pieces frame result (at_fields Known known_new leave_out (number + 1) left_out) o n) view_is
      (round-goes Known telling (at_fields Known known leave_out number left_out) (at_fields Known known_new leave_out (number + 1) left_out) pieces frame result o n (IsSaid frame bytes) (whole, subst (λ m. telling.told known m ≡ SaidBy bytes) text_is told) refl
      (ap (λ k. at_fields Known k leave_out (number + 1) left_out) (subst (λ m. known_new ≡ telling.behind known m) text_is behind)) by)

  pub tells-left-out : (why : List ℕ) → leave_out ≡ true → telling.told known text ≡ UnsaidBy why → known_new ≡ known → WritesBy (left_out_frame number why) (Ok tt) result o n
      → RoundBy Known telling at pieces frame result (at_fields Known known_new leave_out (number + 1) (left_out + 1)) o n
  tells-left-out why leaves told same by =
      subst (λ a. RoundBy Known telling a pieces frame result (at_fields Known known_new leave_out (number + 1) (left_out + 1)) o n) view_is
      (round-goes Known telling (at_fields Known known leave_out number left_out) (at_fields Known known_new leave_out (number + 1) (left_out + 1)) pieces frame result o n (IsLeftOut frame why) (whole, leaves, subst (λ m. telling.told known m ≡ UnsaidBy why) text_is told) refl
      (ap (λ k. at_fields Known k leave_out (number + 1) (left_out + 1)) same) by)

  pub tells-stop : (at_new : Standing Known) (why : List ℕ) → leave_out ≡ false → telling.told known text ≡ UnsaidBy why → WritesBy (stop_frame number why) (Err status.Script) result o n
      → RoundBy Known telling at pieces frame result at_new o n
  tells-stop at_new why stops told by =
      subst (λ a. RoundBy Known telling a pieces frame result at_new o n) view_is
      (round-ends Known telling (at_fields Known known leave_out number left_out) at_new pieces frame result o n (stop_frame number why) status.Script (inr refl) (Stops why whole stops (subst (λ m. telling.told known m ≡ UnsaidBy why) text_is told)) by)

-- ---- what was read, by what it is

module _ (Known : Type 0) (telling : Telling Known) (at at_new : Standing Known) (pieces : List (List ℕ)) (room : List ℕ) (result : Result (Unit {0}) Status) (o n : Option (List ℕ)) where
  pub round-frame : (slice : List ℕ) → slice ≡ room → Reads pieces room (Ok came.Frame) → RoundBy Known telling at pieces slice result at_new o n → RoundBy Known telling at pieces (concat pieces) result at_new o n
  round-frame slice same reads by = subst (λ b. RoundBy Known telling at pieces b result at_new o n) (same ∙ reads.0) by

  pub round-end : (left_out : ℕ) → left_out ≡ at.left_out → Reads pieces room (Ok came.End) → WritesBy (left_out_frames left_out) (Err status.Done) result o n → RoundBy Known telling at pieces (concat pieces) result at_new o n
  round-end left_out same reads by =
      round-ends Known telling at at_new pieces (concat pieces) result o n (left_out_frames at.left_out) status.Done (inl refl) (Ends (sym reads.0 ∙ reads.1.0) reads.1.1)
      (subst (λ c. WritesBy (left_out_frames c) (Err status.Done) result o n) same by)

  pub round-cut : (number : ℕ) → number ≡ at.number → Reads pieces room (Ok came.Cut) → WritesBy (stop_frame number (codes "cut off")) (Err status.Script) result o n → RoundBy Known telling at pieces (concat pieces) result at_new o n
  round-cut number same reads by =
      round-ends Known telling at at_new pieces (concat pieces) result o n (stop_frame at.number (codes "cut off")) status.Script (inr refl)
      (StopsCut (subst IsPart reads.0 reads.1.0) (λ e. reads.1.1 (reads.0 ∙ e)) reads.1.2)
      (subst (λ c. WritesBy (stop_frame c (codes "cut off")) (Err status.Script) result o n) same by)

  pub round-unknown : (number : ℕ) (why : Header) (text : List ℕ) → number ≡ at.number → text ≡ header_why why → Reads pieces room (Ok (came.Unknown why)) → WritesBy (stop_frame number text) (Err status.Script) result o n
      → RoundBy Known telling at pieces (concat pieces) result at_new o n
  round-unknown number why text same is reads by =
      round-ends Known telling at at_new pieces (concat pieces) result o n (stop_frame at.number (header_why why)) status.Script (inr refl)
      (StopsUnknown why (sym (ap length reads.0) ∙ reads.1.0) (sym (ap frame_header reads.0) ∙ reads.1.1) reads.1.2)
      (subst (λ t. WritesBy (stop_frame at.number t) (Err status.Script) result o n) is (subst (λ c. WritesBy (stop_frame c text) (Err status.Script) result o n) same by))

pub round-fault : (Known : Type 0) → (telling : Telling Known) (at at_new : Standing Known) (pieces : List (List ℕ)) (room : List ℕ) (o : Option (List ℕ)) → Reads pieces room (Err unread.Fault)
    → RoundBy Known telling at pieces (concat pieces) (Err status.ReadFault) at_new o o
round-fault Known telling at at_new pieces room o reads = ([], (refl, reads), Appends-nil o)

-- ---- several rounds

-- what a loop knows
pub record Rounds {Known : Type 0} (telling : Telling Known) (first at : Standing Known) (pieces : List (List ℕ)) (fates : List FrameFate) : Type 0 where
  pub are : AreFates Known telling first fates
  pub came : concat pieces ≡ came_of fates
  pub at_is : at ≡ standing_after Known telling first fates
  pub goes_on : HasEnd pieces → ⊥

module _ (Known : Type 0) (telling : Telling Known) (first at at_new : Standing Known) (p q : List (List ℕ)) (fates : List FrameFate) (was : Rounds telling first at p fates) where
  pub rounds-next : (o n : Option (List ℕ)) → (HasEnd q → ⊥) → (by : RoundBy Known telling at q (concat q) (Ok tt) at_new o n) → Rounds telling first at_new (p ++ q) (by.0 ∷ fates)
  rounds-next o n on by = record {
    are = (was.are, subst (λ a. IsFate Known telling a by.0) was.at_is by.1);
    came = concat-append p q ∙ ap (λ b. b ++ concat q) was.came ∙ ap (λ b. came_of fates ++ b) by.2;
    at_is = by.4 ∙ ap (λ a. stands_behind Known telling a by.0) was.at_is;
    goes_on = on-both p q was.goes_on on;
  }

  pub written-next : (b o n : Option (List ℕ)) → (by : RoundBy Known telling at q (concat q) (Ok tt) at_new o n) → Appends b o (written_of Known telling first fates)
      → Appends b n (written_of Known telling first (by.0 ∷ fates))
  written-next b o n by before =
      Appends-trans b o n (written_of Known telling first fates) (bytes_of (standing_after Known telling first fates).number by.0) before
      (subst (λ (a : Standing Known). Appends o n (bytes_of a.number by.0)) was.at_is by.3)

  -- what comes behind them comes by all pieces
  comes-all : (text : List ℕ) (next : Result (Unit {0}) Status) → Comes telling at q (concat q) text next → Comes telling at (p ++ q) (concat q) text next
  comes-all text next (Goes fate is_fate part_is) = Goes fate is_fate part_is
  comes-all text next (Stops why whole stops told) = Stops why whole stops told
  comes-all text next (StopsCut is some end) = StopsCut is some (end-right p q end)
  comes-all text next (StopsUnknown why size says other) = StopsUnknown why size says other
  comes-all text next (Ends none end) = Ends none (end-right p q end)

  ends-all : (answer : Status) (tail : List ℕ) → EndsBy Known telling at q (concat q) answer tail → EndsBy Known telling at (p ++ q) (concat q) answer tail
  ends-all status.Done tail ends = comes-all tail (Err status.Done) ends
  ends-all status.Script tail ends = comes-all tail (Err status.Script) ends
  ends-all status.ReadFault tail ends = ends
  ends-all status.Memory tail ends = ends
  ends-all status.WriteFault tail ends = (ends.0, ends.1, comes-all ends.0 ends.1 ends.2, ends.3)
  ends-all status.Refused tail ends = absurd ends
  ends-all status.DeviceFault tail ends = absurd ends
  ends-all status.Usage tail ends = absurd ends

  pub rounds-last : (answer : Status) (b o n : Option (List ℕ)) → RoundBy Known telling at q (concat q) (Err answer) at_new o n → Appends b o (written_of Known telling first fates)
      → ImportsBy telling first (p ++ q) answer b n
  rounds-last answer b o n by before = record {
    fates = fates;
    part = concat q;
    tail = by.0;
    are = was.are;
    came = concat-append p q ∙ ap (λ b. b ++ concat q) was.came;
    appends = Appends-trans b o n (written_of Known telling first fates) by.0 before by.2;
    ends = subst (λ a. EndsBy Known telling a (p ++ q) (concat q) answer by.0) was.at_is (ends-all answer by.0 by.1);
  }

-- and where no frame more is counted
pub rounds-none : (Known : Type 0) → (telling : Telling Known) (first at : Standing Known) (p : List (List ℕ)) (fates : List FrameFate) (b o : Option (List ℕ)) → Rounds telling first at p fates → Appends b o (written_of Known telling first fates)
    → ImportsBy telling first p status.Memory b o
rounds-none Known telling first at p fates b o was before = record {
  fates = fates;
  part = [];
  tail = [];
  are = was.are;
  came = was.came ∙ sym (append-nil (came_of fates));
  appends = subst (λ w. Appends b o w) (sym (append-nil (written_of Known telling first fates))) before;
  ends = refl;
}

-- ---- the failures

pub counted-last : (old mid new : ℕ) (answer which : Status) → mid ≡ old → IsCounted (◌≡◌ {A = Result (Unit {0}) Status} (Err answer) (Err which)) mid new → IsCounted (answer ≡ which) old new
counted-last old mid new answer which same is =
    let last : IsCounted (◌≡◌ {A = Result (Unit {0}) Status} (Err answer) (Err which)) old new = subst (λ (count : ℕ). IsCounted (◌≡◌ {A = Result (Unit {0}) Status} (Err answer) (Err which)) count new) same is in
    record { later = last.later; once = last.once; failed = λ e. last.failed (ap Err e); stayed = λ other. last.stayed (λ e. other (cc)) }

pub none-counted : (A : Type 0) (old new : ℕ) → (A → ⊥) → new ≡ old → IsCounted A old new
none-counted A old new never same = record { later = omega (arith, same); once = omega (arith, same); failed = λ a. absurd (never a); stayed = λ _. same }

-- a failed read, in a call that answers otherwise
pub counted-other : (A B : Type 0) (old new : ℕ) → (A → ⊥) → (B → ⊥) → IsCounted B old new → IsCounted A old new
counted-other A B old new never other is = none-counted A old new never (is.stayed other)

-- what holds anyhow
pub always : (result : Result (Unit {0}) Status) (P : Type 0) → P → OnOk result P
always (Ok done) P holds = holds
always (Err answer) P holds = tt

-- and in a call of another type
pub counted-err : (A B : Type 0) (why fault : Unread) (old mid new : ℕ) → mid ≡ old → IsCounted (◌≡◌ {A = Result A Unread} (Err why) (Err fault)) mid new → IsCounted (◌≡◌ {A = Result B Unread} (Err why) (Err fault)) old new
counted-err A B why fault old mid new same is =
    let last : IsCounted (◌≡◌ {A = Result A Unread} (Err why) (Err fault)) old new = subst (λ (count : ℕ). IsCounted (◌≡◌ {A = Result A Unread} (Err why) (Err fault)) count new) same is in
    record {
      later = last.later;
      once = last.once;
      failed = λ e. last.failed (let inner : why ≡ fault = cc in ap Err inner);
      stayed = λ other. last.stayed (λ e. other (let inner : why ≡ fault = cc in ap Err inner));
    }

-- a failure that is counted behind calls that had none
pub counted-more : (A : Type 0) (old mid new : ℕ) → mid ≡ old → IsCounted A mid new → IsCounted A old new
counted-more A old mid new same is = subst (λ (count : ℕ). IsCounted A count new) same is
