-- What lists answer.
use Rattle.std.proofs.Common.{◌≡◌, ℕ, zero, suc, Bool, true, false, ◌==◌, ◌&&◌, nat_le, cond, Option, Some, None, Result, Ok, Err, List, [], ◌∷◌, ◌++◌, length, refl, sym, ap, ◌∙◌, append_assoc}
use Rattle.rule_model.specs.declared.Key.{Key}
use Rattle.written_chains.specs.declared.meets.Tests.{Tests}
use Rattle.written_chains.specs.declared.writing.ChainRule.{ChainRule}
use Rattle.written_chains.specs.declared.writing.Line.{Line}
use Rattle.written_chains.specs.declared.writing.Refused.{Refused}
use Rattle.written_chains.specs.declared.writing.Target.{Target}
use Rattle.written_chains.specs.declared.writing.Target.TheVariants.{Decides, Returns, Jumps}
use Rattle.written_chains.specs.Meets.{tests_hold, meet}
use Rattle.written_chains.specs.Walks.{at_target, or_else, or_policy, walk, walk_rules}
use Rattle.written_chains.specs.Written.{◌>>=◌, called_by, called_lines, joined, met_line, narrowed, rules_out, target_lines, under, with_rule, within, written_out}
use Rattle.written_chains.specs.Laws.{ListsAnswerAsWalks, list_verdict}
use Rattle.written_chains.proofs.Meeting.{found_hold, meet-holds}

-- what a list answers; none: the packet leaves the chain
abbrev pub answer_of : List Line → Key → Option Bool
answer_of [] key = None
answer_of (line ∷ lines) key = cond (tests_hold line.tests key) line.action (answer_of lines key)

abbrev leaves : Tests → Line
leaves tests = record { tests = tests; action = None }

-- a line narrowed to tests that hold is as it was
inside : (tests : Tests) (line : Line) (key : Key) → tests_hold tests key ≡ true → found_hold (meet tests line.tests) key ≡ tests_hold line.tests key
inside tests line key held = meet-holds tests line.tests key ∙ ap (λ b. b && tests_hold line.tests key) held

outside : (tests : Tests) (line : Line) (key : Key) → tests_hold tests key ≡ false → found_hold (meet tests line.tests) key ≡ false
outside tests line key held = meet-holds tests line.tests key ∙ ap (λ b. b && tests_hold line.tests key) held

met-answers : (met : Option Tests) (action : Option Bool) (rest : List Line) (key : Key) → answer_of (met_line met action ++ rest) key ≡ cond (found_hold met key) action (answer_of rest key)
met-answers None action rest key = refl
met-answers (Some tests) action rest key = refl

-- narrowed lines, before one by which a packet of these tests leaves
narrowed-in : (tests : Tests) (lines rest : List Line) (key : Key) → tests_hold tests key ≡ true → answer_of (narrowed tests lines ++ (leaves tests ∷ rest)) key ≡ answer_of lines key
narrowed-in tests [] rest key held = ap (λ b. cond b None (answer_of rest key)) held
narrowed-in tests (line ∷ lines) rest key held =
    ap (λ l. answer_of l key) (append_assoc (met_line (meet tests line.tests) line.action) (narrowed tests lines) (leaves tests ∷ rest))
    ∙ met-answers (meet tests line.tests) line.action (narrowed tests lines ++ (leaves tests ∷ rest)) key
    ∙ ap (λ b. cond b line.action (answer_of (narrowed tests lines ++ (leaves tests ∷ rest)) key)) (inside tests line key held)
    ∙ ap (λ o. cond (tests_hold line.tests key) line.action o) (narrowed-in tests lines rest key held)

narrowed-out : (tests : Tests) (lines rest : List Line) (key : Key) → tests_hold tests key ≡ false → answer_of (narrowed tests lines ++ rest) key ≡ answer_of rest key
narrowed-out tests [] rest key held = refl
narrowed-out tests (line ∷ lines) rest key held =
    ap (λ l. answer_of l key) (append_assoc (met_line (meet tests line.tests) line.action) (narrowed tests lines) rest)
    ∙ met-answers (meet tests line.tests) line.action (narrowed tests lines ++ rest) key
    ∙ ap (λ b. cond b line.action (answer_of (narrowed tests lines ++ rest) key)) (outside tests line key held)
    ∙ narrowed-out tests lines rest key held

left-answers : (tests : Tests) (behind rest : List Line) (key : Key) (held : Bool) → tests_hold tests key ≡ held
    → answer_of (narrowed tests behind ++ (leaves tests ∷ rest)) key ≡ cond held (answer_of behind key) (answer_of rest key)
left-answers tests behind rest key true is = narrowed-in tests behind rest key is
left-answers tests behind rest key false is = narrowed-out tests behind (leaves tests ∷ rest) key is ∙ ap (λ b. cond b None (answer_of rest key)) is

under-answers : (met : Option Tests) (action : Option Bool) (behind rest : List Line) (key : Key)
    → answer_of (under met action behind ++ rest) key ≡ cond (found_hold met key) (or_else action (answer_of behind key)) (answer_of rest key)
under-answers None action behind rest key = refl
under-answers (Some tests) (Some permits) behind rest key = refl
under-answers (Some tests) None behind rest key =
    ap (λ l. answer_of l key) (append_assoc (narrowed tests behind) (leaves tests ∷ []) rest)
    ∙ left-answers tests behind rest key (tests_hold tests key) refl

or-cond : (b : Bool) (x y z : Option Bool) → cond b (or_else x z) (or_else y z) ≡ or_else (cond b x y) z
or-cond true x y z = refl
or-cond false x y z = refl

called-in : (tests : Tests) (called behind : List Line) (key : Key) → tests_hold tests key ≡ true
    → answer_of (called_lines tests called behind ++ behind) key ≡ or_else (answer_of called key) (answer_of behind key)
called-in tests [] behind key held = refl
called-in tests (line ∷ lines) behind key held =
    ap (λ l. answer_of l key) (append_assoc (under (meet tests line.tests) line.action behind) (called_lines tests lines behind) behind)
    ∙ under-answers (meet tests line.tests) line.action behind (called_lines tests lines behind ++ behind) key
    ∙ ap (λ b. cond b (or_else line.action (answer_of behind key)) (answer_of (called_lines tests lines behind ++ behind) key)) (inside tests line key held)
    ∙ ap (λ o. cond (tests_hold line.tests key) (or_else line.action (answer_of behind key)) o) (called-in tests lines behind key held)
    ∙ or-cond (tests_hold line.tests key) line.action (answer_of lines key) (answer_of behind key)

called-out : (tests : Tests) (called behind : List Line) (key : Key) → tests_hold tests key ≡ false
    → answer_of (called_lines tests called behind ++ behind) key ≡ answer_of behind key
called-out tests [] behind key held = refl
called-out tests (line ∷ lines) behind key held =
    ap (λ l. answer_of l key) (append_assoc (under (meet tests line.tests) line.action behind) (called_lines tests lines behind) behind)
    ∙ under-answers (meet tests line.tests) line.action behind (called_lines tests lines behind ++ behind) key
    ∙ ap (λ b. cond b (or_else line.action (answer_of behind key)) (answer_of (called_lines tests lines behind ++ behind) key)) (outside tests line key held)
    ∙ called-out tests lines behind key held

called-answers : (tests : Tests) (called behind : List Line) (key : Key) (held : Bool) → tests_hold tests key ≡ held
    → answer_of (called_lines tests called behind ++ behind) key ≡ cond held (or_else (answer_of called key) (answer_of behind key)) (answer_of behind key)
called-answers tests called behind key true is = called-in tests called behind key is
called-answers tests called behind key false is = called-out tests called behind key is

-- ---- results

bound : {A B : Type 0} (r : Result A Refused) (f : A → Result B Refused) (y : B) → (r >>= f) ≡ Ok y → (x : A) × (r ≡ Ok x) × (f x ≡ Ok y)
bound (Ok x) f y e = (x, refl, e)
bound (Err r) f y e = absurd (cc)

ok-same : (x y : List Line) → ◌≡◌ {A = Result (List Line) Refused} (Ok x) (Ok y) → x ≡ y
ok-same x y e = cc

within-is : (test : Bool) (lines list : List Line) (fault : Refused) → cond test (Ok lines) (Err fault) ≡ Ok list → lines ≡ list
within-is true lines list fault e = ok-same lines list e
within-is false lines list fault e = absurd (cc)

-- ---- a rule, and all rules

-- where the chain of a jump answers as it is walked
abbrev CallsAgree : (ℕ → Result (List Line) Refused) → (ℕ → Option Bool) → Key → Type 0
CallsAgree call walks key = (callee : ℕ) (lines : List Line) → call callee ≡ Ok lines → answer_of lines key ≡ walks callee

target-answers : (tests : Tests) (target : Target) (call : ℕ → Result (List Line) Refused) (walks : ℕ → Option Bool) (called behind : List Line) (key : Key) → CallsAgree call walks key
    → called_by call target ≡ Ok called
    → answer_of (target_lines tests target called behind ++ behind) key ≡ cond (tests_hold tests key) (at_target walks target (answer_of behind key)) (answer_of behind key)
target-answers tests (Decides permits) call walks called behind key agree is = refl
target-answers tests Returns call walks called behind key agree is = refl
target-answers tests (Jumps callee) call walks called behind key agree is =
    called-answers tests called behind key (tests_hold tests key) refl
    ∙ ap (λ o. cond (tests_hold tests key) (or_else o (answer_of behind key)) (answer_of behind key)) (agree callee called is)

rule-answers : (most : ℕ) (call : ℕ → Result (List Line) Refused) (walks : ℕ → Option Bool) (rule : ChainRule) (behind lines : List Line) (key : Key) (here : Bool) → CallsAgree call walks key
    → cond here (called_by call rule.target >>= λ called. within most (joined rule called behind)) (Ok behind) ≡ Ok lines
    → answer_of lines key ≡ cond here (cond (tests_hold rule.tests key) (at_target walks rule.target (answer_of behind key)) (answer_of behind key)) (answer_of behind key)
rule-answers most call walks rule behind lines key true agree is =
    let found = bound (called_by call rule.target) (λ called. within most (joined rule called behind)) lines is in
    let same = within-is (nat_le (length (joined rule found.0 behind)) most) (joined rule found.0 behind) lines _ found.2 in
    ap (λ l. answer_of l key) (sym same) ∙ target-answers rule.tests rule.target call walks found.0 behind key agree found.1
rule-answers most call walks rule behind lines key false agree is = ap (λ l. answer_of l key) (sym (ok-same behind lines is))

rules-answer : (most : ℕ) (call : ℕ → Result (List Line) Refused) (walks : ℕ → Option Bool) (chain : ℕ) (rules : List ChainRule) (lines : List Line) (key : Key) → CallsAgree call walks key
    → rules_out most call chain rules ≡ Ok lines → answer_of lines key ≡ walk_rules walks chain rules key
rules-answer most call walks chain [] lines key agree is = ap (λ l. answer_of l key) (sym (ok-same [] lines is))
rules-answer most call walks chain (rule ∷ rules) lines key agree is =
    let found = bound (rules_out most call chain rules) (λ behind. with_rule most call chain rule behind) lines is in
    rule-answers most call walks rule found.0 lines key (rule.chain == chain) agree found.2
    ∙ ap (λ o. cond (rule.chain == chain) (cond (tests_hold rule.tests key) (at_target walks rule.target o) o) o) (rules-answer most call walks chain rules found.0 key agree found.1)

-- ---- chains

chain-answers : (most : ℕ) (rules : List ChainRule) (depth chain : ℕ) (lines : List Line) (key : Key) → written_out most rules depth chain ≡ Ok lines → answer_of lines key ≡ walk rules depth chain key
chain-answers most rules zero chain lines key is = absurd (cc)
chain-answers most rules (suc depth) chain lines key is =
    rules-answer most (λ callee. written_out most rules depth callee) (λ callee. walk rules depth callee key) chain rules lines key
    (λ callee list called. chain-answers most rules depth callee list key called) is

policy-cond : (policy b : Bool) (x y : Option Bool) → cond b (or_policy policy x) (or_policy policy y) ≡ or_policy policy (cond b x y)
policy-cond policy true x y = refl
policy-cond policy false x y = refl

list-is : (policy : Bool) (lines : List Line) (key : Key) → list_verdict policy lines key ≡ or_policy policy (answer_of lines key)
list-is policy [] key = refl
list-is policy (line ∷ lines) key =
    ap (λ b. cond (tests_hold line.tests key) (or_policy policy line.action) b) (list-is policy lines key)
    ∙ policy-cond policy (tests_hold line.tests key) line.action (answer_of lines key)

pub lists-answer : ListsAnswerAsWalks
lists-answer most depth chain rules policy lines key is = list-is policy lines key ∙ ap (or_policy policy) (chain-answers most rules depth chain lines key is)
