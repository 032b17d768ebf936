use Rattle.std.proofs.Common.{◌≡◌, ◌≢◌, ℕ, ◌<◌, ◌≤◌, ◌^◌, ◌%◌, ◌-◌, ◌↔◌, true, false, Result, Ok, Err, IsNone, sym, ◌∙◌, arith, subst, refl}
use Rattle.std.specs.Result.{result_ok}
use Rattle.rule_model.specs.declared.PrefixFault.{PrefixFault}
use Rattle.rule_model.specs.declared.PrefixFault.TheVariants.{Length, HostBits}
use Rattle.rule_model.proofs.Ranks.{ipv4-parts}
use Rattle.rule_model.proofs.priorities.ipv4_route_of.Goals as goal

-- a prefix is refused only for its length or its host bits
refused : {T : Type 0} (result : Result T PrefixFault) (high low : ℕ) → IsNone (result_ok result) → ((result ≡ Err Length) ↔ (32 < high))
    → ((result ≡ Err HostBits) ↔ ((high ≤ 32) × (low % 2 ^ (32 - high) ≢ 0))) → high ≤ 32 → low % 2 ^ (32 - high) ≡ 0 → ⊥
refused (Ok made) high low none length host_bits fits clear = absurd (let z : true ≡ false = none in cc)
refused (Err Length) high low none length host_bits fits clear = let long = length.0 refl in omega arith
refused (Err HostBits) high low none length host_bits fits clear = (host_bits.0 refl).1 clear

pub returns-clause-none : goal.returns-clause-none
returns-clause-none c = λ none block right ipv4 same.
    let parts = ipv4-parts block c.priority.inside.high c.priority.inside.low right ipv4 c.priority.invariant (same ∙ sym c.priority.view_is) in
    refused c.v4.result c.priority.inside.high c.priority.inside.low (subst IsNone c.ok.ensures.value none) c.v4.ensures.length c.v4.ensures.host_bits parts.0 parts.1
