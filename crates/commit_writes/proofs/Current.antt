-- What current words answer, which words are current, and for which ranges they stay so.
use Rattle.std.proofs.Common.{◌≡◌, ℕ, zero, suc, List, [], ◌∷◌, Option, Some, None, drop, refl, ◌∙◌, ap, if◌then◌else◌}
use Rattle.std.specs.Prelude.{slice_index}
use Rattle.std.specs.List.{AllByRecursion}
use Rattle.slot_order.specs.Order.{slot, first_hit}
use Rattle.slot_order.proofs.Lists.{all_append}
use Rattle.rule_model.specs.declared.Key.{Key}
use Rattle.rule_model.specs.Key.{IsKey}
use Rattle.rule_model.specs.declared.words.Word.{Word}
use Rattle.rule_model.specs.declared.words.Entry.{Entry}
use Rattle.rule_model.specs.Entry.{hits}
use Rattle.tcam_device.specs.State.{State, hits_key, lookup, search_word, told}
use Rattle.commit_writes.specs.Bits.{FieldBits}
use Rattle.tcam_device.specs.Flight.{Flight, word_answer, with_word, searched_by}
use Rattle.commit_writes.specs.InFlight.{IsCurrent, AreCurrent, ArePartOf, ServesLive, IsLookUp}

-- where each entry in the slots hits a word exactly as it hits a key's word, the slots answer both alike
same_hit : (state : State) (slots : List (Option Entry)) (word : Word) (key : Key) → ((at : ℕ) (entry : Entry) → slot slots at ≡ Some entry → hits entry word ≡ hits_key state entry key)
    → first_hit hits slots word ≡ first_hit (hits_key state) slots key
same_hit state [] word key alike = refl
same_hit state (None ∷ slots) word key alike = same_hit state slots word key (λ at entry held. alike (suc at) entry held)
same_hit state (Some entry ∷ slots) word key alike =
    ap (λ hit. if hit then Some entry else first_hit hits slots word) (alike zero entry refl)
    ∙ ap (λ below. if hits_key state entry key then Some entry else below) (same_hit state slots word key (λ at e held. alike (suc at) e held))

-- a word that is made now is current for the ranges that the tables have right
pub translated_current : (bits : FieldBits) (state : State) (key : Key) → ServesLive bits state → IsKey key → IsCurrent bits key (search_word state key)
translated_current bits state key serves valid = record {
  valid = valid;
  srcbits = slice_index state.src key.sport;
  dstbits = slice_index state.dst key.dport;
  src_fits = serves.src_words key.sport;
  dst_fits = serves.dst_words key.dport;
  lanes = refl;
  src_live = λ bit range live. serves.src_right bit range live key.sport valid.sport;
  dst_live = λ bit range live. serves.dst_right bit range live key.dport valid.dport;
}

-- a current word answers as its key's word by the tables now would
pub current_answers : (bits : FieldBits) (state : State) (key : Key) (word : Word) → ServesLive bits state → IsCurrent bits key word
    → word_answer state word ≡ lookup state key
current_answers bits state key word serves current =
    ap told (same_hit state state.slots word key
    (λ at entry held. serves.tested at entry held key word (search_word state key) current (translated_current bits state key serves current.valid)))

-- where fewer ranges are live it stays current
pub current_part : (less more : FieldBits) (key : Key) (word : Word) → ArePartOf less more → IsCurrent more key word → IsCurrent less key word
current_part less more key word part current = record {
  valid = current.valid;
  srcbits = current.srcbits;
  dstbits = current.dstbits;
  src_fits = current.src_fits;
  dst_fits = current.dst_fits;
  lanes = current.lanes;
  src_live = λ bit range live. current.src_live bit range (part.src bit range live);
  dst_live = λ bit range live. current.dst_live bit range (part.dst bit range live);
}

pub are_current_part : (less more : FieldBits) (flight : Flight) → ArePartOf less more → AreCurrent more flight → AreCurrent less flight
are_current_part less more [] part all = tt
are_current_part less more (one ∷ flight) part all = (current_part less more one.0 one.1 part all.0, are_current_part less more flight part all.1)

-- a search of the oldest word answers as a look-up, and leaves current words
pub searched_answers : (bits : FieldBits) (state : State) (flight : Flight) → ServesLive bits state → AreCurrent bits flight
    → AllByRecursion IsLookUp (searched_by state flight)
searched_answers bits state [] serves all = tt
searched_answers bits state (oldest ∷ flight) serves all = (current_answers bits state oldest.0 oldest.1 serves all.0, tt)

pub are_current_less : (bits : FieldBits) (flight : Flight) → AreCurrent bits flight → AreCurrent bits (drop 1 flight)
are_current_less bits [] all = tt
are_current_less bits (oldest ∷ flight) all = all.1

-- so do all words in flight when one more is translated
pub are_current_more : (bits : FieldBits) (state : State) (key : Key) (flight : Flight) → ServesLive bits state → IsKey key → AreCurrent bits flight
    → AreCurrent bits (with_word state key flight)
are_current_more bits state key flight serves valid all =
    all_append (λ (flying : Key × Word). IsCurrent bits flying.0 flying.1) flight ((key, search_word state key) ∷ []) all (translated_current bits state key serves valid, tt)
