-- Where each word of the tables has the bits of live ranges right none is to be written, and what the tasks that are done
-- tell of the pieces that stand.
use Rattle.std.proofs.Common.{◌≡◌, ℕ, zero, suc, ◌+◌, ◌-◌, ◌*◌, ◌<◌, ◌^◌, Bool, true, false, List, [], ◌∷◌, ◌++◌, length, map, Some, None, Contains, bit_or, inl, inr, refl, sym, ◌∙◌, ap, ap₂, subst, arith, eq-eqb, eqb-true}
use Rattle.std.specs.Int.{bit_at}
use Rattle.std.specs.Int.Bits.{or_add_and}
use Rattle.std.specs.Prelude.{slice_index}
use Rattle.std.specs.List.{AllByRecursion, enumerate_from, filter_map, fold, list_any}
use Rattle.std.proofs.lemmas.Bool.{cond-false}
use Rattle.std.proofs.lemmas.List.Elements.{Contains-append_left, Contains-append_cases}
use Rattle.std.proofs.lemmas.Nat.Bits.{and_pow}
use Rattle.slot_order.proofs.Lists.{AllByRecursion-member, any_from, any_is, contains_head, contains_none, map_in}
use Rattle.rule_model.specs.declared.Field.{Field}
use Rattle.rule_model.specs.declared.Field.TheVariants.{Src, Dst}
use Rattle.rule_model.specs.PortRange.{PortRange, is_bit_set, range_holds}
use Rattle.range_bits.specs.LiveRanges.{LiveRanges, bit_for, newly_live, range_at, with_bit, word_for}
use Rattle.range_bits.proofs.Words.{with_bit-on}
use Rattle.rule_model.specs.Entry.{RankedPiece}
use Rattle.tcam_device.specs.State.{State, IsState}
use Rattle.tcam_device.specs.Order.{IsTranslated}
use Rattle.commit_writes.specs.Bits.{FieldBits, new_bits}
use Rattle.commit_writes.specs.InFlight.{HasBits}
use Rattle.commit_writes.specs.Shape.{bit_writes, field_writes, word_write}
use Rattle.readback.specs.Stage.{IsStageAt}
use Rattle.commit_writes.specs.Serving.{AreTranslated}
use Rattle.readback.specs.Tasks.{CommitPieces, Task, Insert, Rewrite, Erase, IsDone, IsLeft, stands_in}
use Rattle.readback.proofs.Tests.{stands_from, stands_is}

-- a bit that is as it should be stays
same_bit : (word bit : ℕ) (on : Bool) → is_bit_set word bit ≡ on → with_bit word bit on ≡ word
same_bit word bit true set =
    let one : bit_at word bit * 2 ^ bit ≡ 1 * 2 ^ bit = ap (λ b. b * 2 ^ bit) (eqb-true (bit_at word bit) 1 set) in
    let mask = and_pow word bit in
    let sum = or_add_and word (2 ^ bit) in
    let same : bit_or word (2 ^ bit) ≡ word = omega arith in
    with_bit-on word bit ∙ same
same_bit word bit false clear = let e = cond-false (is_bit_set word bit) (word - 2 ^ bit) word clear in omega arith

-- and so does a word whose live bits are
same_word : (live : LiveRanges) (port first word : ℕ) → ((place : ℕ) (range : PortRange) → range_at live place ≡ Some range → is_bit_set word (first + place) ≡ range_holds range port)
    → fold (bit_for port) word (enumerate_from first live) ≡ word
same_word [] port first word right = refl
same_word (None ∷ live) port first word right = same_word live port (first + 1) word (λ place range held.
    let e : first + suc place ≡ first + 1 + place = omega arith in subst (λ b. is_bit_set word b ≡ range_holds range port) e (right (suc place) range held))
same_word (Some one ∷ live) port first word right =
    let here : first + 0 ≡ first = omega arith in
    let same : with_bit word first (range_holds one port) ≡ word = same_bit word first (range_holds one port) (subst (λ b. is_bit_set word b ≡ range_holds one port) here (right 0 one refl)) in
    ap (λ w. fold (bit_for port) w (enumerate_from (first + 1) live)) same
    ∙ same_word live port (first + 1) word (λ place range held.
    let e : first + suc place ≡ first + 1 + place = omega arith in subst (λ b. is_bit_set word b ≡ range_holds range port) e (right (suc place) range held))

right_word : (live : LiveRanges) (port word : ℕ) → HasBits live port word → word_for live port word ≡ word
right_word live port word right = same_word live port 0 word (λ place range held.
    let e : place ≡ 0 + place = omega arith in subst (λ b. is_bit_set word b ≡ range_holds range port) e (right place range held))

no_write : (field : Field) (live : LiveRanges) (from : ℕ) (table : List ℕ) → ((at : ℕ) → at < length table → HasBits live (from + at) (slice_index table at))
    → filter_map (word_write field live) (enumerate_from from table) ≡ []
no_write field live from [] right = refl
no_write field live from (word ∷ words) right =
    let here : from + 0 ≡ from = omega arith in
    let same : word_for live from word ≡ word = right_word live from word (subst (λ port. HasBits live port word) here (right 0 (omega arith))) in
    rw (eq-eqb (word_for live from word) word same) (no_write field live (from + 1) words (λ at inside.
    let e : from + suc at ≡ from + 1 + at = omega arith in subst (λ port. HasBits live port (slice_index words at)) e (right (suc at) (omega arith))))

-- a new bit's range is live meanwhile
newly_is : (before during : LiveRanges) (bit : ℕ) (range : PortRange) → range_at (newly_live before during) bit ≡ Some range → range_at during bit ≡ Some range
newly_is [] during bit range held = absurd (let clash : None ≡ Some range = held in cc)
newly_is (was ∷ before) [] bit range held = absurd (let clash : None ≡ Some range = held in cc)
newly_is (None ∷ before) (now ∷ during) zero range held = held
newly_is (Some other ∷ before) (now ∷ during) zero range held = absurd (let clash : None ≡ Some range = held in cc)
newly_is (was ∷ before) (now ∷ during) (suc bit) range held = newly_is before during bit range held

no_field : (field : Field) (before during : LiveRanges) (table : List ℕ) → length table ≡ 2 ^ 16
    → ((bit : ℕ) (range : PortRange) → range_at during bit ≡ Some range → IsTranslated table bit range) → field_writes field (newly_live before during) table ≡ []
no_field field before during table size right = no_write field (newly_live before during) 0 table (λ at inside.
    let e : at ≡ 0 + at = omega arith in
    subst (λ port. HasBits (newly_live before during) port (slice_index table at)) e (λ bit range held. right bit range (newly_is before during bit range held) at (omega arith)))

-- where the tables are right for all ranges that are live meanwhile no word is to be written
pub none_due : (before during : FieldBits) (slots : ℕ) (state : State) → IsState slots state → AreTranslated state during → bit_writes state (new_bits before during) ≡ []
none_due before during slots state is right =
    ap₂ (λ a b. a ++ b) (no_field Src before.src during.src state.src is.src_size right.src) (no_field Dst before.dst during.dst state.dst is.dst_size right.dst)

-- with a task done, where there are pieces to put in, one of them stands,
first_stands : (state : State) (inserted : List RankedPiece) (rest done left : List Task) → map Insert inserted ++ rest ≡ done ++ left → AllByRecursion (IsDone state) done
    → 0 < length done → 0 < length inserted → list_any (stands_in state.slots) inserted ≡ true
first_stands state [] rest done left parts all some put = absurd (omega arith)
first_stands state (x ∷ inserted) rest [] left parts all some put = absurd (omega arith)
first_stands state (x ∷ inserted) rest (task ∷ done) left parts all some put =
    let same : Insert x ≡ task = cc in
    any_from (stands_in state.slots) (x ∷ inserted) x (contains_head x inserted) (stands_from state x (subst (IsDone state) (sym same) all.0))

some_in : {X : Type 0} (xs : List X) (x : X) → Contains xs x → 0 < length xs
some_in [] x member = absurd (contains_none x member)
some_in (y ∷ xs) x member = omega arith

module _ (slots : ℕ) (before during : FieldBits) (p : CommitPieces) (state : State) (done left : List Task) (stage : IsStageAt slots before during p state done left) where
  pub stands_when : 0 < length done → 0 < length p.inserted → list_any (stands_in state.slots) p.inserted ≡ true
  stands_when some put = first_stands state p.inserted (map Rewrite p.rewritten ++ map Erase p.erased) done left stage.parts stage.are_done some put

  -- and only then
  pub stands_then : list_any (stands_in state.slots) p.inserted ≡ true → (0 < length done) × (0 < length p.inserted)
  stands_then found =
      let w = any_is (stands_in state.slots) p.inserted found in
      let task : Contains (done ++ left) (Insert w.0) = subst (λ tasks. Contains tasks (Insert w.0)) stage.parts
      (Contains-append_left (map Insert p.inserted) (map Rewrite p.rewritten ++ map Erase p.erased) (Insert w.0) (map_in Insert p.inserted w.0 w.1)) in (
        elim (Contains-append_cases done left (Insert w.0) task) [
          | inl is ↦ some_in done (Insert w.0) is
          | inr is ↦ absurd (AllByRecursion-member (IsLeft state) left (Insert w.0) stage.are_left is (stands_is state w.0 w.2))
        ],
        some_in p.inserted w.0 w.1,
      )

-- so it is the same in states that show one stage
pub stand_alike : (slots : ℕ) (before during : FieldBits) (p : CommitPieces) (a b : State) (done left : List Task) → IsStageAt slots before during p a done left → IsStageAt slots before during p b done left
    → list_any (stands_in a.slots) p.inserted ≡ list_any (stands_in b.slots) p.inserted
stand_alike slots before during p a b done left first second = go (list_any (stands_in a.slots) p.inserted) (list_any (stands_in b.slots) p.inserted) refl refl
  where
    go : (x y : Bool) → list_any (stands_in a.slots) p.inserted ≡ x → list_any (stands_in b.slots) p.inserted ≡ y → x ≡ y
    go true true is_a is_b = refl
    go false false is_a is_b = refl
    go true false is_a is_b =
        let w = stands_then slots before during p a done left first is_a in
        sym (stands_when slots before during p b done left second w.0 w.1) ∙ is_b
    go false true is_a is_b =
        let w = stands_then slots before during p b done left second is_b in
        sym is_a ∙ stands_when slots before during p a done left first w.0 w.1
