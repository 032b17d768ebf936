-- The words in flight of a run's probes: which they are after a write, and that searches tell what look-ups would.
use Rattle.std.proofs.Common.{◌≡◌, ℕ, zero, suc, ◌+◌, ◌*◌, ◌<◌, ◌≤◌, ◌==◌, Bool, true, false, min, List, [], ◌∷◌, ◌++◌, length, map, take, drop, get_or, refl, sym, ap, ◌∙◌, subst, append_assoc, length-append, arith}
use Rattle.std.specs.List.{AllByRecursion}
use Rattle.std.proofs.lemmas.Bool.{eqb-true, eqb-false}
use Rattle.std.proofs.Math.Seq.{take-suc}
use Rattle.std.proofs.lemmas.List.{append-nil, map-append}
use Rattle.slot_order.proofs.Lists.{all_append}
use Rattle.rule_model.specs.declared.Key.{Key}
use Rattle.rule_model.specs.Key.{IsKey}
use Rattle.rule_model.specs.declared.words.Word.{Word}
use Rattle.tcam_device.specs.State.{State, lookup, search_word}
use Rattle.tcam_device.specs.Flight.{Flight, with_word, word_answer}
use Rattle.commit_writes.specs.Bits.{FieldBits}
use Rattle.commit_writes.specs.InFlight.{IsCurrent, AreCurrent, ServesLive}
use Rattle.commit_writes.proofs.Current.{current_answers, translated_current}
use Rattle.report_lines.specs.declared.Family.{Family}
use Rattle.replay.specs.Effects.{Effect, Prints, flushed, searches_of, probes_told}
use Rattle.replay.specs.InFlight.{AreOf, repeated, probe_words, found_lines, found_all, found_after, flight_left}
use Rattle.replay.specs.Running.{Watching}
use Rattle.replay.specs.Text.{probe_line}

-- the keys of words in flight
abbrev pub keys_of : Flight → List Key
keys_of flight = map {B = Key} (λ flying. flying.0) flight

keys-append : (a b : Flight) → keys_of (a ++ b) ≡ keys_of a ++ keys_of b
keys-append a b = map-append {A = Key × Word} {B = Key} (λ flying. flying.0) a b

keys-of-words : (state : State) (probes : List Key) → keys_of (probe_words state probes) ≡ probes
keys-of-words state [] = refl
keys-of-words state (key ∷ probes) = ap (λ keys. key ∷ keys) (keys-of-words state probes)

words-current : (bits : FieldBits) (state : State) (probes : List Key) → ServesLive bits state → AllByRecursion IsKey probes → AreCurrent bits (probe_words state probes)
words-current bits state [] serves valid = tt
words-current bits state (key ∷ probes) serves valid = (translated_current bits state key serves valid.0, words-current bits state probes serves valid.1)

-- the probes one time more are behind those of the times before
repeated-more : (probes : List Key) (waiting : ℕ) → repeated probes waiting ++ probes ≡ repeated probes (suc waiting)
repeated-more probes zero = sym (append-nil probes)
repeated-more probes (suc more) = append_assoc probes (repeated probes more) probes ∙ ap (λ keys. probes ++ keys) (repeated-more probes more)

length-keys : (flight : Flight) → length (keys_of flight) ≡ length flight
length-keys [] = refl
length-keys (flying ∷ flight) = let more = length-keys flight in omega arith

most-repeated : (probes : List Key) (waiting : ℕ) → length probes ≤ 16 → length (repeated probes waiting) ≤ waiting * 16
most-repeated probes zero few = omega arith
most-repeated probes (suc more) few =
    let sizes = length-append probes (repeated probes more) in
    let rest = most-repeated probes more few in
    omega arith

-- there is room for one time more
pub room-of : (probes : List Key) (waiting : ℕ) (flight : Flight) → AreOf probes waiting flight → waiting ≤ 15 → length probes ≤ 16 → length flight + length probes ≤ 256
room-of probes waiting flight are deep few =
    let size = length-keys flight in
    let same : length (keys_of flight) ≡ length (repeated probes waiting) = ap length are in
    let most = most-repeated probes waiting few in
    omega arith

-- none of no write
pub none-of : (probes : List Key) (flight : Flight) → AreOf probes 0 flight → flight ≡ []
none-of probes [] are = refl
none-of probes (flying ∷ flight) are = absurd (cc)

-- words whose keys are those of two lists are two parts
keys-front : (flight : Flight) (first second : List Key) → keys_of flight ≡ first ++ second → keys_of (take (length first) flight) ≡ first
keys-front flight [] second same = refl
keys-front [] (key ∷ first) second same = absurd (cc)
keys-front (flying ∷ flight) (key ∷ first) second same =
    let head : flying.0 ≡ key = cc in
    let tail : keys_of flight ≡ first ++ second = cc in
    ap (λ one. one ∷ keys_of (take (length first) flight)) head ∙ ap (λ keys. key ∷ keys) (keys-front flight first second tail)

keys-back : (flight : Flight) (first second : List Key) → keys_of flight ≡ first ++ second → keys_of (drop (length first) flight) ≡ second
keys-back flight [] second same = same
keys-back [] (key ∷ first) second same = absurd (cc)
keys-back (flying ∷ flight) (key ∷ first) second same = let tail : keys_of flight ≡ first ++ second = cc in keys-back flight first second tail

current-front : (bits : FieldBits) (count : ℕ) (flight : Flight) → AreCurrent bits flight → AreCurrent bits (take count flight)
current-front bits zero flight current = tt
current-front bits (suc count) [] current = tt
current-front bits (suc count) (flying ∷ flight) current = (current.0, current-front bits count flight current.1)

current-back : (bits : FieldBits) (count : ℕ) (flight : Flight) → AreCurrent bits flight → AreCurrent bits (drop count flight)
current-back bits zero flight current = current
current-back bits (suc count) [] current = tt
current-back bits (suc count) (flying ∷ flight) current = current-back bits count flight current.1

-- the oldest are searched, and the others are left
pub are-left : (probes : List Key) (more : ℕ) (flight : Flight) → AreOf probes (suc more) flight → AreOf probes more (drop (length probes) flight)
are-left probes more flight are = keys-back flight probes (repeated probes more) are

pub enough-of : (probes : List Key) (more : ℕ) (flight : Flight) → AreOf probes (suc more) flight → length probes ≤ length flight
enough-of probes more flight are =
    let size = length-keys flight in
    let same : length (keys_of flight) ≡ length (probes ++ repeated probes more) = ap length are in
    let sizes = length-append probes (repeated probes more) in
    omega arith

-- current words that are searched tell what look-ups of their keys would
found-is : (bits : FieldBits) (family : Family) (number : ℕ) (state : State) (probe : ℕ) (flight : Flight) (keys : List Key) → ServesLive bits state → AreCurrent bits flight → keys_of flight ≡ keys
    → found_lines family number state probe flight ≡ searches_of family number state probe keys
found-is bits family number state probe [] [] serves current same = refl
found-is bits family number state probe [] (key ∷ keys) serves current same = absurd (cc)
found-is bits family number state probe (flying ∷ flight) [] serves current same = absurd (cc)
found-is bits family number state probe (flying ∷ flight) (key ∷ keys) serves current same =
    let head : flying.0 ≡ key = cc in
    let tail : keys_of flight ≡ keys = cc in
    let answer : word_answer state flying.1 ≡ lookup state key = current_answers bits state flying.0 flying.1 serves current.0 ∙ ap (lookup state) head in
    ap (λ found. Prints (probe_line family number probe found) ∷ found_lines family number state (probe + 1) flight) answer
    ∙ ap (λ effects. Prints (probe_line family number probe (lookup state key)) ∷ effects) (found-is bits family number state (probe + 1) flight keys serves current.1 tail)

-- and so do all of them
pub found-all-is : (bits : FieldBits) (family : Family) (number : ℕ) (state : State) (probes : List Key) (waiting : ℕ) (flight : Flight) → ServesLive bits state → AreCurrent bits flight → AreOf probes waiting flight
    → found_all family number state (length probes) waiting flight ≡ flushed family probes number state waiting
found-all-is bits family number state probes zero flight serves current are = refl
found-all-is bits family number state probes (suc more) flight serves current are =
    ap (λ effects. effects ++ found_all family number state (length probes) more (drop (length probes) flight))
    (found-is bits family number state 1 (take (length probes) flight) probes serves (current-front bits (length probes) flight current) (keys-front flight probes (repeated probes more) are))
    ∙ ap (λ effects. searches_of family number state 1 probes ++ effects)
    (found-all-is bits family number state probes more (drop (length probes) flight) serves (current-back bits (length probes) flight current) (are-left probes more flight are))

-- with no word in flight nothing is told
pub flushed-none : (family : Family) (number : ℕ) (state : State) (probes : List Key) (waiting : ℕ) → AreOf probes waiting [] → flushed family probes number state waiting ≡ []
flushed-none family number state probes zero are = refl
flushed-none family number state [] (suc more) are = flushed-none family number state [] more are
flushed-none family number state (key ∷ probes) (suc more) are = absurd (cc)

-- behind a write the words of all probes are the last in flight
module _ (probes : List Key) (depth waiting : ℕ) (state : State) (flight : Flight) (few : waiting ≤ depth) (are : AreOf probes waiting flight) where
  abbrev pub with_words : Flight
  with_words = flight ++ probe_words state probes

  pub are-more : AreOf probes (suc waiting) with_words
  are-more =
      keys-append flight (probe_words state probes) ∙ ap (λ keys. keys ++ keys_of (probe_words state probes)) are
      ∙ ap (λ keys. repeated probes waiting ++ keys) (keys-of-words state probes) ∙ repeated-more probes waiting

  pub are-after : AreOf probes (min (waiting + 1) depth) (flight_left probes depth waiting state flight)
  are-after = go (waiting == depth) refl
    where
      go : (full : Bool) → (waiting == depth) ≡ full → AreOf probes (min (waiting + 1) depth) (elim full [ true ↦ drop (length probes) with_words | false ↦ with_words ])
      go true same =
          let is = eqb-true waiting depth same in
          let later : waiting ≡ min (waiting + 1) depth = omega arith in
          are-left probes waiting with_words are-more ∙ ap (repeated probes) later
      go false other =
          let no = eqb-false waiting depth other in
          let later : suc waiting ≡ min (waiting + 1) depth = omega arith in
          are-more ∙ ap (repeated probes) later

  pub few-after : min (waiting + 1) depth ≤ depth
  few-after = omega arith

  module _ (bits : FieldBits) (serves : ServesLive bits state) (valid : AllByRecursion IsKey probes) (current : AreCurrent bits flight) where
    current-more : AreCurrent bits with_words
    current-more = all_append (λ (flying : Key × Word). IsCurrent bits flying.0 flying.1) flight (probe_words state probes) current (words-current bits state probes serves valid)

    pub current-after : AreCurrent bits (flight_left probes depth waiting state flight)
    current-after = go (waiting == depth)
      where
        go : (full : Bool) → AreCurrent bits (elim full [ true ↦ drop (length probes) with_words | false ↦ with_words ])
        go true = current-back bits (length probes) with_words current-more
        go false = current-more

    pub found-after-is : (family : Family) (number : ℕ)
        → found_after family probes depth number waiting state flight ≡ elim (waiting == depth) [ true ↦ searches_of family number state 1 probes | false ↦ [] ]
    found-after-is family number = go (waiting == depth)
      where
        go : (full : Bool) → ◌≡◌ {A = List Effect} (elim full [ true ↦ found_lines family number state 1 (take (length probes) with_words) | false ↦ [] ])
            (elim full [ true ↦ searches_of family number state 1 probes | false ↦ [] ])
        go true =
            found-is bits family number state 1 (take (length probes) with_words) probes serves (current-front bits (length probes) with_words current-more)
            (keys-front with_words probes (repeated probes waiting) are-more)
        go false = refl

-- where some probe is told of, all are
told-all : (json : Bool) (probes : List Key) (place : ℕ) → place < length (probes_told json probes) → probes_told json probes ≡ probes
told-all true probes place within = absurd (omega arith)
told-all false probes place within = refl

-- no more are told of than there are
pub told-few : (json : Bool) (probes : List Key) (most : ℕ) → length probes ≤ most → length (probes_told json probes) ≤ most
told-few true probes most few = omega arith
told-few false probes most few = few

-- the words of some probes, and of the next one
module _ (inside watch : Watching) (place : ℕ) (key : Key) (same : inside ≡ watch) (within : place < length (probes_told watch.json watch.probes)) (is : key ≡ get_or inside.probes place key) where
  abbrev keys : List Key
  keys = probes_told watch.json watch.probes

  pub next-probe : take (place + 1) keys ≡ take place keys ++ key ∷ []
  next-probe =
      let next : place + 1 ≡ suc place = omega arith in
      let at : key ≡ get_or keys place key =
      is ∙ ap (λ (one : Watching). get_or one.probes place key) same ∙ ap (λ all. get_or all place key) (sym (told-all watch.json watch.probes place within)) in
      ap (λ n. take n keys) next ∙ take-suc keys place key within ∙ ap (λ one. take place keys ++ one ∷ []) (sym at)

  pub translated : (state : State) (flight mid new : Flight) → mid ≡ flight ++ probe_words state (take place keys) → new ≡ with_word state key mid → new ≡ flight ++ probe_words state (take (place + 1) keys)
  translated state flight mid new was more =
      more ∙ ap (λ words. words ++ (key, search_word state key) ∷ []) was ∙ append_assoc flight (probe_words state (take place keys)) ((key, search_word state key) ∷ [])
      ∙ ap (λ words. flight ++ words) (sym (ap (probe_words state) next-probe ∙ map-append {A = Key} {B = Key × Word} (λ one. (one, search_word state one)) (take place keys) (key ∷ [])))

  pub keys-more : AllByRecursion IsKey (take place keys) → IsKey key → AllByRecursion IsKey (take (place + 1) keys)
  keys-more all valid = subst (AllByRecursion IsKey) (sym next-probe) (all_append IsKey (take place keys) (key ∷ []) all (valid, tt))

-- with the words of a depth of writes in flight the oldest are searched
full-now : (waiting depth : ℕ) → waiting ≡ depth → (waiting == depth) ≡ true
full-now waiting depth is = go (waiting == depth) refl
  where
    go : (full : Bool) → (waiting == depth) ≡ full → (waiting == depth) ≡ true
    go true same = same
    go false other = absurd (eqb-false waiting depth other is)

pub found-full : (family : Family) (probes : List Key) (depth number waiting : ℕ) (state : State) (flight : Flight) → waiting ≡ depth
    → found_after family probes depth number waiting state flight ≡ found_lines family number state 1 (take (length probes) (flight ++ probe_words state probes))
found-full family probes depth number waiting state flight is =
    ap (λ full. elim full [ true ↦ found_lines family number state 1 (take (length probes) (flight ++ probe_words state probes)) | false ↦ [] ]) (full-now waiting depth is)
