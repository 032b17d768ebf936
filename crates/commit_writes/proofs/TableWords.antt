-- The words of new bits in both tables: table writes alone, after each of which a port has its old word or its new one.
use Rattle.std.proofs.Common.{◌≡◌, ℕ, ◌*◌, ◌<◌, ◌≤◌, ◌^◌, List, [], ◌∷◌, length, length-append, take, ◌⊎◌, inl, inr, refl, ap, sym, ◌∙◌, subst, arith}
use Rattle.std.specs.Prelude.{slice_index}
use Rattle.std.specs.List.{AllByRecursion}
use Rattle.std.proofs.lemmas.List.Sums.{fold-append}
use Rattle.slot_order.proofs.Lists.{all_append, AllByRecursion-member}
use Rattle.rule_model.specs.declared.Field.TheVariants.{Src, Dst}
use Rattle.range_bits.specs.LiveRanges.{LiveRanges}
use Rattle.range_bits.proofs.Words.{word_for-fits}
use Rattle.tcam_device.specs.declared.Write.{Write}
use Rattle.tcam_device.specs.State.{State, IsState, apply, state_after}
use Rattle.tcam_device.proofs.Wider.{all_take}
use Rattle.commit_writes.specs.Bits.{FieldBits}
use Rattle.commit_writes.specs.Shape.{field_writes, bit_writes}
use Rattle.commit_writes.proofs.Filters.{all_members}
use Rattle.commit_writes.proofs.WordWrites.{IsWordWrite, IsMixed, AreWritten, IsAfterWords, mixed-set, field_writes-words, field_writes-few, field_written}

-- a write of one of the words of some new bits over the tables of a state
abbrev pub IsBitWrite : FieldBits → State → Write → Type 0
IsBitWrite fresh state write = IsWordWrite Src fresh.src state.src write ⊎ IsWordWrite Dst fresh.dst state.dst write

pub bit_writes-words : (state : State) (fresh : FieldBits) → AllByRecursion (IsBitWrite fresh state) (bit_writes state fresh)
bit_writes-words state fresh =
    all_append (IsBitWrite fresh state) (field_writes Src fresh.src state.src) (field_writes Dst fresh.dst state.dst)
    (all_members (IsBitWrite fresh state) (field_writes Src fresh.src state.src) (λ write member.
    inl (AllByRecursion-member (IsWordWrite Src fresh.src state.src) (field_writes Src fresh.src state.src) write (field_writes-words Src fresh.src state.src) member)))
    (all_members (IsBitWrite fresh state) (field_writes Dst fresh.dst state.dst) (λ write member.
    inr (AllByRecursion-member (IsWordWrite Dst fresh.dst state.dst) (field_writes Dst fresh.dst state.dst) write (field_writes-words Dst fresh.dst state.dst) member)))

-- on the way the slots are as they were, and each port of the tables has its old word or its new one
pub record AreOnTheWay (fresh : FieldBits) (before now : State) : Type 0 where
  pub slots : now.slots ≡ before.slots
  pub src : IsMixed fresh.src before.src now.src
  pub dst : IsMixed fresh.dst before.dst now.dst

one_word : (fresh : FieldBits) (before now : State) (write : Write) → IsBitWrite fresh before write → AreOnTheWay fresh before now → AreOnTheWay fresh before (apply now write)
one_word fresh before now write (inl w) way =
    subst (λ one. AreOnTheWay fresh before (apply now one)) (sym w.is) record { slots = way.slots; src = mixed-set fresh.src before.src now.src w.port way.src w.inside; dst = way.dst }
one_word fresh before now write (inr w) way =
    subst (λ one. AreOnTheWay fresh before (apply now one)) (sym w.is) record { slots = way.slots; src = way.src; dst = mixed-set fresh.dst before.dst now.dst w.port way.dst w.inside }

words_on : (fresh : FieldBits) (before now : State) (writes : List Write) → AllByRecursion (IsBitWrite fresh before) writes → AreOnTheWay fresh before now → AreOnTheWay fresh before (state_after now writes)
words_on fresh before now [] all way = way
words_on fresh before now (write ∷ writes) all way = words_on fresh before (apply now write) writes all.1 (one_word fresh before now write all.0 way)

-- after the first of the words
pub words_taken : (state : State) (fresh : FieldBits) (n : ℕ) → AreOnTheWay fresh state (state_after state (take n (bit_writes state fresh)))
words_taken state fresh n =
    words_on fresh state state (take n (bit_writes state fresh)) (all_take (IsBitWrite fresh state) n (bit_writes state fresh) (bit_writes-words state fresh))
    record { slots = refl; src = record { size = refl; either = λ port. inl refl }; dst = record { size = refl; either = λ port. inl refl } }

-- the tables keep their sizes, and their words 16 bits
pub IsState-on_the_way : (slots : ℕ) (fresh : FieldBits) (before now : State) → length fresh.src ≡ 16 → length fresh.dst ≡ 16 → IsState slots before → AreOnTheWay fresh before now → IsState slots now
IsState-on_the_way slots fresh before now src_bits dst_bits is way = record {
  size = ap length way.slots ∙ is.size;
  src_size = way.src.size ∙ is.src_size;
  dst_size = way.dst.size ∙ is.dst_size;
  src_words = fits fresh.src before.src now.src src_bits way.src is.src_words;
  dst_words = fits fresh.dst before.dst now.dst dst_bits way.dst is.dst_words;
}
  where
    fits : (live : LiveRanges) (table words : List ℕ) → length live ≡ 16 → IsMixed live table words → ((port : ℕ) → slice_index table port < 2 ^ 16) → (port : ℕ) → slice_index words port < 2 ^ 16
    fits live table words bits mixed low port = elim (mixed.either port) [
      | inl old ↦ subst (λ word. word < 2 ^ 16) (sym old) (low port)
      | inr new ↦ subst (λ word. word < 2 ^ 16) (sym new) (word_for-fits live port (slice_index table port) bits (low port))
    ]

-- after all of them each port has its new word
pub record AreWordsOf (fresh : FieldBits) (before after : State) : Type 0 where
  pub slots : after.slots ≡ before.slots
  pub src : AreWritten fresh.src before.src after.src
  pub dst : AreWritten fresh.dst before.dst after.dst

pub words_written : (state : State) (fresh : FieldBits) → AreWordsOf fresh state (state_after state (bit_writes state fresh))
words_written state fresh = subst (AreWordsOf fresh state) (sym (fold-append apply state (field_writes Src fresh.src state.src) (field_writes Dst fresh.dst state.dst))) record {
  slots = second.others.slots ∙ first.others.slots;
  src = subst (AreWritten fresh.src state.src) (sym second.others.other) first.table;
  dst = second.table;
}
  where
    between : State
    between = state_after state (field_writes Src fresh.src state.src)

    first : IsAfterWords Src (AreWritten fresh.src state.src) state between
    first = field_written Src fresh.src state

    second : IsAfterWords Dst (AreWritten fresh.dst state.dst) between (state_after between (field_writes Dst fresh.dst state.dst))
    second = subst (λ table. IsAfterWords Dst (AreWritten fresh.dst table) between (state_after between (field_writes Dst fresh.dst table))) first.others.other (field_written Dst fresh.dst between)

-- there are at most two for each port
pub bit_writes-few : (state : State) (fresh : FieldBits) → IsState (length state.slots) state → length (bit_writes state fresh) ≤ 2 * 2 ^ 16
bit_writes-few state fresh is =
    let src = field_writes-few Src fresh.src state.src in
    let dst = field_writes-few Dst fresh.dst state.dst in
    let src_size = is.src_size in
    let dst_size = is.dst_size in
    let sum = length-append (field_writes Src fresh.src state.src) (field_writes Dst fresh.dst state.dst) in
    omega arith
