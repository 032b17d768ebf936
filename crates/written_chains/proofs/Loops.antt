-- The lines that loops put, one after the other.
use Rattle.std.proofs.Common.{◌≡◌, ◌≢◌, ◌<◌, ◌≤◌, ◌+◌, ◌-◌, ℕ, zero, suc, Bool, le-leb, cond, Option, Some, None, Result, Ok, Err, List, [], ◌∷◌, ◌++◌, length, drop, get_or, refl, sym, ap, ◌∙◌, arith, append-nil, append_assoc, subst}
use Rattle.std.specs.Prelude.{MatchOption}
use Rattle.std.proofs.lemmas.Bool.{eq-eqb, lt-leb, ne_eqb}
use Rattle.std.proofs.lemmas.List.{at_drop_more, at_drop_all}
use Rattle.rule_model.specs.AddressBlock.{any_address}
use Rattle.rule_model.specs.PortRange.{any_port}
use Rattle.written_chains.specs.declared.meets.Tests.{Tests}
use Rattle.written_chains.specs.declared.writing.ChainRule.{ChainRule}
use Rattle.written_chains.specs.declared.writing.Line.{Line}
use Rattle.written_chains.specs.declared.writing.Refused.{Refused}
use Rattle.written_chains.specs.declared.writing.Refused.TheVariants.{TooDeep, TooMany}
use Rattle.written_chains.specs.declared.writing.Target.{Target}
use Rattle.written_chains.specs.declared.writing.Target.TheVariants.{Decides, Returns, Jumps}
use Rattle.written_chains.specs.Meets.{meet}
use Rattle.written_chains.specs.Written.{◌>>=◌, called_by, called_lines, joined, met_line, narrowed, rules_out, target_lines, under, with_rule, within, written_out}

-- what a list has where it has nothing
abbrev pub no_line : Line
no_line = record { tests = record { src = any_address; dst = any_address; proto = None; sport = any_port; dport = any_port }; action = None }

abbrev pub no_rule : ChainRule
no_rule = record { chain = 0; tests = no_line.tests; target = Returns }

-- a part is put, and the rest is to come
next : (into new part rest : List Line) → new ≡ into ++ part → new ++ rest ≡ into ++ (part ++ rest)
next into new part rest put = ap (λ l. l ++ rest) put ∙ append_assoc into part rest

pub narrowed-next : (tests : Tests) (lines into new : List Line) (place : ℕ) (line unused : Line) (met : Option Tests) → place < length lines → line ≡ get_or lines place unused
    → met ≡ meet tests line.tests → new ≡ into ++ met_line met line.action → new ++ narrowed tests (drop (place + 1) lines) ≡ into ++ narrowed tests (drop place lines)
narrowed-next tests lines into new place line unused met below is met_is put =
    next into new (met_line met line.action) (narrowed tests (drop (place + 1) lines)) put
    ∙ ap (λ m. into ++ (met_line m line.action ++ narrowed tests (drop (place + 1) lines))) met_is
    ∙ ap (λ (l : Line). into ++ (met_line (meet tests l.tests) l.action ++ narrowed tests (drop (place + 1) lines))) is
    ∙ sym (ap (λ l. into ++ l) (at_drop_more (λ l. narrowed tests l) lines place unused below))

pub narrowed-end : (tests : Tests) (lines into : List Line) (place : ℕ) → length lines ≤ place → into ++ narrowed tests (drop place lines) ≡ into
narrowed-end tests lines into place all = ap (λ l. into ++ l) (at_drop_all (λ l. narrowed tests l) lines place all) ∙ append-nil into

pub called-next : (tests : Tests) (called behind into new : List Line) (place : ℕ) (line unused : Line) (met : Option Tests) → place < length called → line ≡ get_or called place unused
    → met ≡ meet tests line.tests → new ≡ into ++ under met line.action behind → new ++ called_lines tests (drop (place + 1) called) behind ≡ into ++ called_lines tests (drop place called) behind
called-next tests called behind into new place line unused met below is met_is put =
    next into new (under met line.action behind) (called_lines tests (drop (place + 1) called) behind) put
    ∙ ap (λ m. into ++ (under m line.action behind ++ called_lines tests (drop (place + 1) called) behind)) met_is
    ∙ ap (λ (l : Line). into ++ (under (meet tests l.tests) l.action behind ++ called_lines tests (drop (place + 1) called) behind)) is
    ∙ sym (ap (λ l. into ++ l) (at_drop_more (λ l. called_lines tests l behind) called place unused below))

pub called-end : (tests : Tests) (called behind into : List Line) (place : ℕ) → length called ≤ place → into ++ called_lines tests (drop place called) behind ≡ into
called-end tests called behind into place all = ap (λ l. into ++ l) (at_drop_all (λ l. called_lines tests l behind) called place all) ∙ append-nil into

-- ---- all rules, from the last one

abbrev Call : Type 0
Call = ℕ → Result (List Line) Refused

pub out-there : (most : ℕ) (call : Call) (chain : ℕ) (rules : List ChainRule) (place : ℕ) (rule unused : ChainRule) → place < length rules → rule ≡ get_or rules place unused
    → rules_out most call chain (drop place rules) ≡ (rules_out most call chain (drop (place + 1) rules) >>= λ behind. with_rule most call chain rule behind)
out-there most call chain rules place rule unused below is =
    at_drop_more (λ l. rules_out most call chain l) rules place unused below
    ∙ ap (λ r. rules_out most call chain (drop (place + 1) rules) >>= λ behind. with_rule most call chain r behind) (sym is)

-- where those behind it have these lines
behind-is : (most : ℕ) (call : Call) (chain : ℕ) (rules : List ChainRule) (place : ℕ) (rule unused : ChainRule) (behind : List Line) → place < length rules → rule ≡ get_or rules place unused
    → rules_out most call chain (drop (place + 1) rules) ≡ Ok behind → rules_out most call chain (drop place rules) ≡ with_rule most call chain rule behind
behind-is most call chain rules place rule unused behind below is known =
    out-there most call chain rules place rule unused below is ∙ ap (λ r. r >>= λ b. with_rule most call chain rule b) known

pub out-other : (most : ℕ) (call : Call) (chain : ℕ) (rules : List ChainRule) (place : ℕ) (rule unused : ChainRule) (behind : List Line) → place < length rules → rule ≡ get_or rules place unused
    → rules_out most call chain (drop (place + 1) rules) ≡ Ok behind → rule.chain ≢ chain → rules_out most call chain (drop place rules) ≡ Ok behind
out-other most call chain rules place rule unused behind below is known other =
    behind-is most call chain rules place rule unused behind below is known
    ∙ ap (λ b. cond b (called_by call rule.target >>= λ called. within most (joined rule called behind)) (Ok behind)) (ne_eqb rule.chain chain other)

here-is : (most : ℕ) (call : Call) (chain : ℕ) (rules : List ChainRule) (place : ℕ) (rule unused : ChainRule) (behind : List Line) (called : Result (List Line) Refused) → place < length rules → rule ≡ get_or rules place unused
    → rules_out most call chain (drop (place + 1) rules) ≡ Ok behind → rule.chain ≡ chain → called_by call rule.target ≡ called
    → rules_out most call chain (drop place rules) ≡ (called >>= λ lines. within most (joined rule lines behind))
here-is most call chain rules place rule unused behind called below is known same calls =
    behind-is most call chain rules place rule unused behind below is known
    ∙ ap (λ b. cond b (called_by call rule.target >>= λ lines. within most (joined rule lines behind)) (Ok behind)) (eq-eqb rule.chain chain same)
    ∙ ap (λ r. r >>= λ lines. within most (joined rule lines behind)) calls

pub out-joined : (most : ℕ) (call : Call) (chain : ℕ) (rules : List ChainRule) (place : ℕ) (rule unused : ChainRule) (behind called new : List Line) → place < length rules → rule ≡ get_or rules place unused
    → rules_out most call chain (drop (place + 1) rules) ≡ Ok behind → rule.chain ≡ chain → called_by call rule.target ≡ Ok called → new ≡ joined rule called behind → length new ≤ most
    → rules_out most call chain (drop place rules) ≡ Ok new
out-joined most call chain rules place rule unused behind called new below is known same calls new_is few =
    here-is most call chain rules place rule unused behind (Ok called) below is known same calls
    ∙ ap (λ l. within most l) (sym new_is) ∙ ap (λ b. cond b (Ok new) (Err TooMany)) (le-leb (length new) most few)

pub out-many : (most : ℕ) (call : Call) (chain : ℕ) (rules : List ChainRule) (place : ℕ) (rule unused : ChainRule) (behind called new : List Line) → place < length rules → rule ≡ get_or rules place unused
    → rules_out most call chain (drop (place + 1) rules) ≡ Ok behind → rule.chain ≡ chain → called_by call rule.target ≡ Ok called → new ≡ joined rule called behind → most < length new
    → rules_out most call chain (drop place rules) ≡ Err TooMany
out-many most call chain rules place rule unused behind called new below is known same calls new_is many =
    here-is most call chain rules place rule unused behind (Ok called) below is known same calls
    ∙ ap (λ l. within most l) (sym new_is) ∙ ap (λ b. cond b (Ok new) (Err TooMany)) (lt-leb (length new) most many)

pub out-refused : (most : ℕ) (call : Call) (chain : ℕ) (rules : List ChainRule) (place : ℕ) (rule unused : ChainRule) (behind : List Line) (refused : Refused) → place < length rules → rule ≡ get_or rules place unused
    → rules_out most call chain (drop (place + 1) rules) ≡ Ok behind → rule.chain ≡ chain → called_by call rule.target ≡ Err refused
    → rules_out most call chain (drop place rules) ≡ Err refused
out-refused most call chain rules place rule unused behind refused below is known same calls =
    here-is most call chain rules place rule unused behind (Err refused) below is known same calls

-- the lines of a jump's chain, and of a rule that doesn't jump
pub calls-jump : (call : Call) (target : Target) (callee : ℕ) → target ≡ Jumps callee → called_by call target ≡ call callee
calls-jump call target callee is = ap (λ t. called_by call t) is

pub calls-decided : (call : Call) (target : Target) (permits : Bool) (none : List Line) → target ≡ Decides permits → none ≡ [] → called_by call target ≡ Ok none
calls-decided call target permits none is empty = ap (λ t. called_by call t) is ∙ ap Ok (sym empty)

pub calls-returned : (call : Call) (target : Target) (none : List Line) → target ≡ Returns → none ≡ [] → called_by call target ≡ Ok none
calls-returned call target none is empty = ap (λ t. called_by call t) is ∙ ap Ok (sym empty)

-- where the rules from a place on have none, all have none
pub all-refused : (most : ℕ) (call : Call) (chain : ℕ) (rules : List ChainRule) (place : ℕ) (refused : Refused) → rules_out most call chain (drop place rules) ≡ Err refused → rules_out most call chain rules ≡ Err refused
all-refused most call chain rules zero refused is = is
all-refused most call chain [] (suc place) refused is = is
all-refused most call chain (rule ∷ rules) (suc place) refused is =
    ap (λ r. r >>= λ behind. with_rule most call chain rule behind) (all-refused most call chain rules place refused is)

pub out-none : (most : ℕ) (call : Call) (chain : ℕ) (rules : List ChainRule) (place : ℕ) → length rules ≤ place → rules_out most call chain (drop place rules) ≡ Ok []
out-none most call chain rules place all = at_drop_all (λ l. rules_out most call chain l) rules place all

-- ---- how deep

pub no-deeper : (most : ℕ) (rules : List ChainRule) (depth chain : ℕ) → depth ≡ 0 → written_out most rules depth chain ≡ Err TooDeep
no-deeper most rules zero chain is = refl
no-deeper most rules (suc depth) chain is = absurd (omega arith)

pub deeper : (most : ℕ) (rules : List ChainRule) (depth chain : ℕ) → depth ≢ 0 → written_out most rules depth chain ≡ rules_out most (λ callee. written_out most rules (depth - 1) callee) chain rules
deeper most rules zero chain some = absurd (some refl)
deeper most rules (suc depth) chain some =
    let same : depth ≡ suc depth - 1 = omega arith in
    ap (λ n. rules_out most (λ callee. written_out most rules n callee) chain rules) same

-- ---- the lines that are kept

-- of the chain that is known
abbrev pub Keeps : Option ℕ → Call → List Line → Type 0
Keeps known call kept = MatchOption known (Unit {0}) (λ callee. call callee ≡ Ok kept)

pub keeps-new : (call : Call) (known : Option ℕ) (kept : List Line) (callee : ℕ) → known ≡ Some callee → call callee ≡ Ok kept → Keeps known call kept
keeps-new call known kept callee is made = subst (λ (o : Option ℕ). MatchOption o (Unit {0}) (λ other. call other ≡ Ok kept)) (sym is) made

pub keeps-on : (call : Call) (known before : Option ℕ) (kept given : List Line) → known ≡ before → kept ≡ given → Keeps before call given → Keeps known call kept
keeps-on call known before kept given is same keeps =
    subst (λ (o : Option ℕ). MatchOption o (Unit {0}) (λ other. call other ≡ Ok kept)) (sym is) (subst (λ (l : List Line). MatchOption before (Unit {0}) (λ other. call other ≡ Ok l)) (sym same) keeps)

pub same-callee : (target : Target) (callee other : ℕ) → target ≡ Jumps callee → target ≡ Jumps other → callee ≡ other
same-callee target callee other is at = let both : Jumps callee ≡ Jumps other = sym is ∙ at in cc

-- what a rule calls is what is kept, or nothing
pub called-kept : (call : Call) (tests : Tests) (target : Target) (known : Option ℕ) (kept behind : List Line) → Keeps known call kept → ((callee : ℕ) → target ≡ Jumps callee → known ≡ Some callee)
    → (called : List Line) × (called_by call target ≡ Ok called) × (target_lines tests target kept behind ++ behind ≡ target_lines tests target called behind ++ behind)
called-kept call tests (Decides permits) known kept behind keeps leads = ([], refl, refl)
called-kept call tests Returns known kept behind keeps leads = ([], refl, refl)
called-kept call tests (Jumps callee) known kept behind keeps leads =
    (kept, subst (λ (o : Option ℕ). MatchOption o (Unit {0}) (λ other. call other ≡ Ok kept)) (leads callee refl) keeps, refl)
