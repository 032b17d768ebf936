use Rattle.std.proofs.Common.{◌≡◌, None, Option, Ok, Err, IfOk, Result, map, refl, sym, ap, subst, ◌∙◌}
use Rattle.std.proofs.lemmas.Result.{on_ok_weaker}
use Rattle.commit_writes.specs.Bits.{FieldBits, bits_with, new_bits}
use Rattle.commit_writes.specs.Serving.{HaveFreeBits}
use Rattle.commit_writes.specs.Shape.{bit_writes, fresh_writes}
use Rattle.commit_writes.specs.Changes.{coded_by, during_of}
use Rattle.batch_order.specs.declared.held.Held.{Held}
use Rattle.batch_order.specs.declared.planned_writes.PlannedWrite.TheVariants.{Tabled}
use Rattle.batch_order.specs.Kept.{bits_of, held_of, mode_of, needed_by, tables_of}
use Rattle.batch_order.specs.Managed.{Managed}
use Rattle.batch_order.specs.Noting.{BeginsWithWords}
use Rattle.rule_store.specs.declared.Mode.{Mode}
use Rattle.batch_order.proofs.under_way.Carried.{view_of}
use Rattle.batch_order.proofs.planning.Judged.{fits_both, idle_held, ranges_needed_are}
use Rattle.batch_order.proofs.manager.Manager.plan_words.Goals as goal

-- what follows of a value from two things that hold of it
both_ok : {A B : Type 0} (result : Result A B) (P Q R : A → Type 0) → ((value : A) → P value → Q value → R value) → IfOk result P → IfOk result Q → IfOk result R
both_ok (Ok value) P Q R both p q = both value p q
both_ok (Err fault) P Q R both p q = tt

pub plan_words-requires-clause-src : goal.plan_words-requires-clause-src
plan_words-requires-clause-src c =
    let i = c.self.inside in
    let free : HaveFreeBits (mode_of i.translation) i.rules.rules c.args.batch.now = rw (← c.self.view_is) at c.requires.free in
    (fits_both i.translation i.rules i.live i.arrangement i.held c.args.batch.now c.self.invariant.0 free).0

pub plan_words-requires-clause-dst : goal.plan_words-requires-clause-dst
plan_words-requires-clause-dst c =
    let i = c.self.inside in
    let free : HaveFreeBits (mode_of i.translation) i.rules.rules c.args.batch.now = rw (← c.self.view_is) at c.requires.free in
    (fits_both i.translation i.rules i.live i.arrangement i.held c.args.batch.now c.self.invariant.0 free).1

pub returns-clause-bits : goal.returns-clause-bits
returns-clause-bits c =
    let i = c.self.inside in
    let m : Managed = c.args.self.now in
    let mode : mode_of i.translation ≡ m.mode = rw (← c.self.view_is) refl in
    let during : needed_by i.translation c.args.batch.now ≡ bits_with m.mode m.rules c.args.batch.now m.bits =
    rw (← c.self.view_is) (ranges_needed_are i.translation i.rules i.live i.arrangement i.held c.args.batch.now c.self.invariant.0) in
    both_ok c.plan_words.result (λ bits. coded_by bits ≡ mode_of i.translation) (λ bits. during_of bits ≡ needed_by i.translation c.args.batch.now)
    (λ bits. (coded_by bits ≡ m.mode) × (during_of bits ≡ bits_with m.mode m.rules c.args.batch.now m.bits)) (λ bits coded is. (coded ∙ mode, is ∙ during))
    c.plan_words.ensures.coded c.plan_words.ensures.during

pub returns-clause-writes : goal.returns-clause-writes
returns-clause-writes c =
    let i = c.self.inside in
    let m : Managed = c.args.self.now in
    let batch = c.args.batch.now in
    let none : i.held ≡ None = idle_held (held_of i.translation i.arrangement i.rules.rules i.live.entries) i.held (rw (← c.self.view_is) at c.requires.idle) in
    let during : needed_by i.translation batch ≡ bits_with (mode_of i.translation) i.rules.rules batch (bits_of i.translation) =
    ranges_needed_are i.translation i.rules i.live i.arrangement i.held batch c.self.invariant.0 in
    let same : bit_writes (tables_of i.translation) (new_bits (bits_of i.translation) (needed_by i.translation batch))
    ≡ fresh_writes (mode_of i.translation) (bits_of i.translation) i.rules.rules batch (view_of i.placement i.translation i.rules i.live i.arrangement None).state =
    ap (λ (b : FieldBits). bit_writes (tables_of i.translation) (new_bits (bits_of i.translation) b)) during in
    let held : bit_writes (tables_of i.translation) (new_bits (bits_of i.translation) (needed_by i.translation batch))
    ≡ fresh_writes (mode_of i.translation) (bits_of i.translation) i.rules.rules batch (view_of i.placement i.translation i.rules i.live i.arrangement i.held).state =
    subst (λ (h : Option Held). bit_writes (tables_of i.translation) (new_bits (bits_of i.translation) (needed_by i.translation batch))
    ≡ fresh_writes (mode_of i.translation) (bits_of i.translation) i.rules.rules batch (view_of i.placement i.translation i.rules i.live i.arrangement h).state) (sym none) same in
    let words : bit_writes (tables_of i.translation) (new_bits (bits_of i.translation) (needed_by i.translation batch)) ≡ fresh_writes m.mode m.bits m.rules batch m.state =
    rw (← c.self.view_is) held in
    on_ok_weaker c.plan_words.result (λ writes. writes ∙ ap (map Tabled) words) c.plan_words.ensures.writes

pub returns-clause-begins : goal.returns-clause-begins
returns-clause-begins c =
    let i = c.self.inside in
    let mode : mode_of i.translation ≡ c.args.self.now.mode = rw (← c.self.view_is) refl in
    on_ok_weaker c.plan_words.result (subst (λ (m : Mode). BeginsWithWords m c.plan_words.new.plan) mode) c.plan_words.ensures.begins
