use Rattle.std.proofs.Common.{◌≡◌, ◌<◌, ◌≤◌, ◌+◌, ◌-◌, ℕ, List, Ok, Err, drop, length, vec_len, sym, ap, ap₂, ◌∙◌, arith}
use Rattle.std.proofs.Common.{rules as std_rules}
use Rattle.std.proofs.lemmas.Grind.{common_steps}
use Rattle.std.specs.Prelude.{Some}
use Rattle.written_chains.specs.declared.writing.Line.{Line}
use Rattle.written_chains.specs.declared.writing.Target.TheVariants.{Jumps}
use Rattle.written_chains.specs.Written.{called_by, joined, rules_out, written_out}
use Rattle.written_chains.proofs.Loops.{all-refused, Keeps, called-kept, calls-jump, deeper, keeps-new, keeps-on, same-callee, out-joined, out-many, out-refused}
use Rattle.written_chains.proofs.writing.+written_out.Goals.{in-Some+in_ok-lines+in-Ok, in_default}
use Rattle.written_chains.proofs.writing.+written_out.Goals as goal

pub returns-in-Err-clause-list : goal.returns-in-Err-clause-list
returns-in-Err-clause-list t c =
    let rules = c.args.rules.now in
    let place = c.rules.place - 1 in
    let rule = c.index-rules-place.result in
    let next : place + 1 ≡ c.rules.place = omega arith in
    let call = λ (callee : ℕ). written_out c.args.most rules (c.args.depth - 1) callee in
    let known : rules_out c.args.most call c.args.chain (drop (place + 1) rules) ≡ Ok c.rules.behind.items =
    ap (λ n. rules_out c.args.most call c.args.chain (drop n rules)) next ∙ c.rules.invariant.lines in
    let called : called_by call rule.target ≡ Err c.in-Err.refused = calls-jump call rule.target c.in-Some.callee (rw c.in-Some.is at c.new_callee.ensures.leads) ∙ (rw c.in-Err.is at c.in_ok-lines.ensures.list) in
    deeper c.args.most rules c.args.depth c.args.chain c.if-depth-eq0.false
    ∙ all-refused c.args.most call c.args.chain rules place c.in-Err.refused
    (out-refused c.args.most call c.args.chain rules place rule rule c.rules.behind.items c.in-Err.refused (omega arith) c.index-rules-place.is known c.if-rule-chain.true called)

pub returns-then-len-most-clause-list : goal.returns-then-len-most-clause-list
returns-then-len-most-clause-list t c =
    let rules = c.args.rules.now in
    let place = c.rules.place - 1 in
    let rule = c.index-rules-place.result in
    let next : place + 1 ≡ c.rules.place = omega arith in
    let call = λ (callee : ℕ). written_out c.args.most rules (c.args.depth - 1) callee in
    let known : rules_out c.args.most call c.args.chain (drop (place + 1) rules) ≡ Ok c.rules.behind.items =
    ap (λ n. rules_out c.args.most call c.args.chain (drop n rules)) next ∙ c.rules.invariant.lines in
    let both : Keeps c.match-new_callee.known call c.match-new_callee.kept.items × ((callee : ℕ) → rule.target ≡ Jumps callee → c.match-new_callee.known ≡ Some callee) =
    elim c.match-new_callee.branch [
      | in-Some+in_ok-lines+in-Ok w ↦ (
        keeps-new call c.match-new_callee.known c.match-new_callee.kept.items w.in-Some.callee w.known-is (rw w.kept-is (rw w.in-Ok.is at w.in_ok-lines.ensures.list)),
        λ callee is. w.known-is ∙ ap Some (same-callee rule.target w.in-Some.callee callee (rw w.in-Some.is at c.new_callee.ensures.leads) is),
      )
      | in_default w ↦ (
        keeps-on call c.match-new_callee.known c.rules.known c.match-new_callee.kept.items c.rules.kept.items w.known-is (ap (λ v. v.items) w.kept-is) c.rules.invariant.kept,
        λ callee is. w.known-is ∙ c.new_callee.ensures.known w.in_default.is callee is,
      )
    ] in
    let got = called-kept call rule.tests rule.target c.match-new_callee.known c.match-new_callee.kept.items c.rules.behind.items both.0 both.1 in
    let called : called_by call rule.target ≡ Ok got.0 = got.1 in
    let lines : c.in_ok-behind.behind.items ≡ joined rule got.0 c.rules.behind.items =
    c.in_ok-behind.ensures ∙ ap₂ (λ (a b : List Line). joined rule a b) c.as_slice.ensures.value c.as_slice-then-rule-chain.ensures.value ∙ got.2 in
    let size : vec_len c.in_ok-behind.behind ≡ length c.in_ok-behind.behind.items = first_of (search std_rules, grind (arith, common_steps)) in
    let len : c.len.result ≡ vec_len c.in_ok-behind.behind = c.len.ensures in
    let many : c.args.most < length c.in_ok-behind.behind.items = omega arith in
    deeper c.args.most rules c.args.depth c.args.chain c.if-depth-eq0.false
    ∙ all-refused c.args.most call c.args.chain rules place _
    (out-many c.args.most call c.args.chain rules place rule rule c.rules.behind.items got.0 c.in_ok-behind.behind.items (omega arith) c.index-rules-place.is known c.if-rule-chain.true called lines many)

pub rules-preserved-else-len-most : goal.rules-preserved-else-len-most
rules-preserved-else-len-most t c =
    let rules = c.args.rules.now in
    let place = c.rules.place - 1 in
    let rule = c.index-rules-place.result in
    let next : place + 1 ≡ c.rules.place = omega arith in
    let call = λ (callee : ℕ). written_out c.args.most rules (c.args.depth - 1) callee in
    let known : rules_out c.args.most call c.args.chain (drop (place + 1) rules) ≡ Ok c.rules.behind.items =
    ap (λ n. rules_out c.args.most call c.args.chain (drop n rules)) next ∙ c.rules.invariant.lines in
    let both : Keeps c.match-new_callee.known call c.match-new_callee.kept.items × ((callee : ℕ) → rule.target ≡ Jumps callee → c.match-new_callee.known ≡ Some callee) =
    elim c.match-new_callee.branch [
      | in-Some+in_ok-lines+in-Ok w ↦ (
        keeps-new call c.match-new_callee.known c.match-new_callee.kept.items w.in-Some.callee w.known-is (rw w.kept-is (rw w.in-Ok.is at w.in_ok-lines.ensures.list)),
        λ callee is. w.known-is ∙ ap Some (same-callee rule.target w.in-Some.callee callee (rw w.in-Some.is at c.new_callee.ensures.leads) is),
      )
      | in_default w ↦ (
        keeps-on call c.match-new_callee.known c.rules.known c.match-new_callee.kept.items c.rules.kept.items w.known-is (ap (λ v. v.items) w.kept-is) c.rules.invariant.kept,
        λ callee is. w.known-is ∙ c.new_callee.ensures.known w.in_default.is callee is,
      )
    ] in
    let got = called-kept call rule.tests rule.target c.match-new_callee.known c.match-new_callee.kept.items c.rules.behind.items both.0 both.1 in
    let called : called_by call rule.target ≡ Ok got.0 = got.1 in
    let lines : c.in_ok-behind.behind.items ≡ joined rule got.0 c.rules.behind.items =
    c.in_ok-behind.ensures ∙ ap₂ (λ (a b : List Line). joined rule a b) c.as_slice.ensures.value c.as_slice-then-rule-chain.ensures.value ∙ got.2 in
    let size : vec_len c.in_ok-behind.behind ≡ length c.in_ok-behind.behind.items = first_of (search std_rules, grind (arith, common_steps)) in
    let len : c.len.result ≡ vec_len c.in_ok-behind.behind = c.len.ensures in
    let few : length c.in_ok-behind.behind.items ≤ c.args.most = omega arith in
    record {
      lines = out-joined c.args.most call c.args.chain rules place rule rule c.rules.behind.items got.0 c.in_ok-behind.behind.items (omega arith) c.index-rules-place.is known c.if-rule-chain.true called lines few;
      few = few;
      kept = both.0;
    }

pub returns-clause-list : goal.returns-clause-list
returns-clause-list t c =
    let rules = c.args.rules.now in
    let call = λ (callee : ℕ). written_out c.args.most rules (c.args.depth - 1) callee in
    let none : c.rules.place ≡ 0 = omega arith in
    deeper c.args.most rules c.args.depth c.args.chain c.if-depth-eq0.false
    ∙ ap (λ (n : ℕ). rules_out c.args.most call c.args.chain (drop n rules)) (sym none)
    ∙ c.rules.invariant.lines
