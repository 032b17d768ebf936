use Rattle.std.proofs.Common.{inl, inr, arith}
use Rattle.std.proofs.lemmas.Bool.{cases_lt}
use Rattle.trace_check.proofs.placed.Placed.next_near.Goals as goal

pub returns-then-is_found-clause-passed : goal.returns-then-is_found-clause-passed
returns-then-is_found-clause-passed c k ranked least below there near = elim (cases_lt k c.loop-next.next) [
  | inl before ↦ c.loop-next.invariant.passed k ranked least before there near
  | inr past ↦ c.next_in_page-found.ensures.passed k ranked past below there near
]

pub loop-next-preserved : goal.loop-next-preserved
loop-next-preserved c = record {
  from = let more = c.page_end-end.ensures.further in let least = c.loop-next.invariant.from in omega arith;
  most = c.page_end-end.ensures.most;
  passed = λ k ranked least below there near. elim (cases_lt k c.loop-next.next) [
    | inl before ↦ c.loop-next.invariant.passed k ranked least before there near
    | inr past ↦ let all = c.if-is_found.false in let most = c.next_in_page-found.ensures.most in c.next_in_page-found.ensures.passed k ranked past (omega arith) there near
  ];
}
