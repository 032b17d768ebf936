-- What a search answers, by what the queue of words gives.
use Rattle.std.proofs.Common.{◌≡◌, Some, None, [], ◌∷◌, ap, refl}
use Rattle.std.specs.Prelude.{slice_get}
use Rattle.rule_model.specs.declared.Key.{Key}
use Rattle.rule_model.specs.declared.words.Word.{Word}
use Rattle.tcam_device.specs.State.{State}
use Rattle.tcam_device.specs.Flight.{Flight, search_answer, word_answer}

pub none_waits : (state : State) (flight : Flight) → slice_get flight 0 ≡ None → search_answer state flight ≡ None
none_waits state [] none = refl
none_waits state (oldest ∷ flight) none = absurd (let clash : Some oldest ≡ None = none in cc)

pub oldest_waits : (state : State) (flight : Flight) (oldest : Key × Word) → slice_get flight 0 ≡ Some oldest → search_answer state flight ≡ Some (word_answer state oldest.1)
oldest_waits state [] oldest some = absurd (let clash : None ≡ Some oldest = some in cc)
oldest_waits state (first ∷ flight) oldest some =
    let same : first ≡ oldest = let e : Some first ≡ Some oldest = some in cc in
    ap (λ (o : Key × Word). Some (word_answer state o.1)) same
