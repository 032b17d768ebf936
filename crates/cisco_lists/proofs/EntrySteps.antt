-- An entry, part by part: each is read behind the one before it.
use Rattle.std.proofs.Common.{◌≡◌, ℕ, Bool, Option, List, ap, ◌∙◌}
use Rattle.rule_model.specs.AddressBlock.{AddressBlock}
use Rattle.cisco_lists.specs.declared.ports.Span.{Span}
use Rattle.cisco_lists.specs.Walk.{WordsAt, taken}
use Rattle.cisco_lists.specs.Sides.{side_at}
use Rattle.cisco_lists.specs.Ports.{ports_at}
use Rattle.cisco_lists.specs.Entries.{permits_at, protocol_at, logs_at, entry_action, entry_protocol, entry_sides, entry_src, entry_dst, entry_to, entry_of, entry_at}

pub entry-read : (at a b c d e f g : WordsAt) (permits : Bool) (protocol : Option ℕ) (src : AddressBlock) (sports : List Span) (dst : AddressBlock) (dports : List Span) (logs : Bool)
    → taken permits a ≡ permits_at at → taken protocol b ≡ protocol_at a → taken src c ≡ side_at b → taken sports d ≡ ports_at protocol c
    → taken dst e ≡ side_at d → taken dports f ≡ ports_at protocol e → taken logs g ≡ logs_at protocol f
    → entry_of (taken permits a) (taken protocol b) (taken src c) (taken sports d) (taken dst e) (taken dports f) (taken logs g) ≡ entry_at at
entry-read at a b c d e f g permits protocol src sports dst dports logs is_a is_b is_c is_d is_e is_f is_g =
    ap (entry_of (taken permits a) (taken protocol b) (taken src c) (taken sports d) (taken dst e) (taken dports f)) is_g
    ∙ ap (entry_to (taken permits a) (taken protocol b) (taken src c) (taken sports d) (taken dst e)) is_f
    ∙ ap (entry_dst (taken permits a) (taken protocol b) (taken src c) (taken sports d)) is_e
    ∙ ap (entry_src (taken permits a) (taken protocol b) (taken src c)) is_d
    ∙ ap (entry_sides (taken permits a) (taken protocol b)) is_c
    ∙ ap (entry_protocol (taken permits a)) is_b
    ∙ ap entry_action is_a
