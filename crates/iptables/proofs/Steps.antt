-- The words of a rule, one after the other.
use Rattle.std.proofs.Common.{◌≡◌, ℕ, Bool, Ok, Err, List, [], ◌∷◌, sym, ap, ◌∙◌}
use Rattle.rule_model.specs.declared.IpVersion.{IpVersion}
use Rattle.iptables.specs.declared.why.Why.{Why}
use Rattle.iptables.specs.Reading.{Read, ended_by, goes_on, may_end, read_word, read_words}

pub read-end : (version : IpVersion) (face : List ℕ) (names : List (List ℕ)) (read : Read) (last : List ℕ) (words : List (List ℕ)) (ends : Bool) → words ≡ [] → ends ≡ may_end read.seen.expects
    → read_words version face names read last words ≡ ended_by read last ends
read-end version face names read last words ends none is = ap (λ w. read_words version face names read last w) none ∙ ap (λ e. ended_by read last e) (sym is)

pub read-on : (version : IpVersion) (face : List ℕ) (names : List (List ℕ)) (read next : Read) (last word : List ℕ) (words behind : List (List ℕ)) → words ≡ word ∷ behind → read_word version face names read word ≡ Ok next
    → read_words version face names read last words ≡ read_words version face names next word behind
read-on version face names read next last word words behind more is =
    ap (λ w. read_words version face names read last w) more ∙ ap (λ s. goes_on (λ n. read_words version face names n word behind) word s) is

pub read-stop : (version : IpVersion) (face : List ℕ) (names : List (List ℕ)) (read : Read) (last word : List ℕ) (words behind : List (List ℕ)) (reason : Why) → words ≡ word ∷ behind → read_word version face names read word ≡ Err reason
    → read_words version face names read last words ≡ Err (record { why = reason; word = word })
read-stop version face names read last word words behind reason more is =
    ap (λ w. read_words version face names read last w) more ∙ ap (λ s. goes_on (λ n. read_words version face names n word behind) word s) is
