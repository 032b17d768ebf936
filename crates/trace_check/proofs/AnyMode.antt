-- Orderly traces are hitless, by covers and by bits.
use Rattle.std.proofs.Common.{◌≡◌, [], ◌∷◌, refl, subst}
use Rattle.std.specs.Prelude.{if◌then◌else◌}
use Rattle.rule_store.specs.declared.Mode.{Mode}
use Rattle.rule_store.specs.declared.Mode.TheVariants.{Cover, Bits}
use Rattle.tcam_device.proofs.States.{IsState-blank}
use Rattle.tcam_device.proofs.Wider.{blank_shows}
use Rattle.trace_file.specs.declared.TraceLine.TheVariants.{Head, Commit, Add, Set, Del, Put, Erase, Table, Drain, Done, Refused, End, Fault}
use Rattle.trace_check.specs.declared.places.Place.TheVariants.{Between, AtEnd}
use Rattle.trace_check.specs.Orderly.{first_tracing, Follow}
use Rattle.trace_check.specs.Hitless.{OrderlyTracesAreHitless}
use Rattle.trace_check.specs.Answers.{YesIsHitless}
use Rattle.trace_check.proofs.Hitless.{hitless_in}
use Rattle.trace_check.proofs.Maps.{no_maps}
use Rattle.trace_check.proofs.Yes.{yes_is_orderly}

pub orderly_hitless : OrderlyTracesAreHitless
orderly_hitless (Head version acl bits slots ∷ lines) are follow keeps =
    let mode : Mode = if bits then Bits else Cover in
    hitless_in mode lines (first_tracing version slots mode) (Between 0) AtEnd
    (record {
      set = record { of_mode = refl; is_set = tt; right = tt; kept = no_maps mode; sized = IsState-blank slots };
      shows = blank_shows slots;
    })
    are.1 (subst (λ p. Follow (first_tracing version slots mode) p lines AtEnd) (let same : follow.0 ≡ Between 0 = cc in same) follow.2) keeps.1
orderly_hitless [] are follow keeps = absurd (let same = follow in cc)
orderly_hitless (Commit n ∷ lines) are follow keeps = absurd (let there = follow.1 in cc)
orderly_hitless (Add rule ∷ lines) are follow keeps = absurd (let there = follow.1 in cc)
orderly_hitless (Set priority answer ∷ lines) are follow keeps = absurd (let there = follow.1 in cc)
orderly_hitless (Del priority ∷ lines) are follow keeps = absurd (let there = follow.1 in cc)
orderly_hitless (Put slot entry ∷ lines) are follow keeps = absurd (let there = follow.1 in cc)
orderly_hitless (Erase slot ∷ lines) are follow keeps = absurd (let there = follow.1 in cc)
orderly_hitless (Table field port word ∷ lines) are follow keeps = absurd (let there = follow.1 in cc)
orderly_hitless (Drain ∷ lines) are follow keeps = absurd (let there = follow.1 in cc)
orderly_hitless (Done n ∷ lines) are follow keeps = absurd (let there = follow.1 in cc)
orderly_hitless (Refused n ∷ lines) are follow keeps = absurd (let there = follow.1 in cc)
orderly_hitless (End writes ∷ lines) are follow keeps = absurd (let there = follow.1 in cc)
orderly_hitless (Fault line ∷ lines) are follow keeps = absurd (let there = follow.1 in cc)

-- so a yes says that every write is hitless
pub yes_is_hitless : YesIsHitless
yes_is_hitless bytes commits writes told =
    let text = yes_is_orderly bytes commits writes told in
    (text, orderly_hitless text.lines text.within text.trace text.orderly)
